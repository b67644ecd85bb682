-- What holds of a whole check, whatever cars are offered and however many: it says what the annex says of their list, and its verdict is final.
use Rattle.std.specs.Prelude.{◌≡◌, false, List, [], ◌∷◌, ◌++◌, ℕ, ◌≤◌, ◌<◌, length}
use Rattle.production.specs.declared.Check.{Check}
use Rattle.production.specs.declared.Offered.{Offered}
use Rattle.production.specs.declared.Status.{Status}
use Rattle.production.specs.declared.Status.TheVariants.{Open, DoesNotConform}
use Rattle.production.specs.Annex.{meets, refused_at, status_of, wanted_of, reply_of}
use Rattle.production.specs.Stages.{status_at, start_of, offer_of}

-- the check after these cars, each offered to the check that the one before it gave back
abbrev pub after_cars : Check → List ℕ → Check
after_cars check [] = check
after_cars check (car ∷ cars) = after_cars (offer_of check car).check cars

-- the check that these cars lead to from the start
abbrev pub check_of : ℕ → List ℕ → Check
check_of limit cars = after_cars (start_of limit) cars

-- ---- what each operation promises of a check that some cars have led to from the start

-- the status is the one that the annex gives for these cars
abbrev pub StatusByAnnex : Check → Status → Type 0
StatusByAnnex check status = (limit : ℕ) (cars : List ℕ) → check ≡ check_of limit cars → status ≡ status_of limit cars

-- so is the number of cars wanted
abbrev pub WantedByAnnex : Check → ℕ → Type 0
WantedByAnnex check wanted = (limit : ℕ) (cars : List ℕ) → check ≡ check_of limit cars → wanted ≡ wanted_of limit cars

-- one more car gets the reply that the annex gives, and leads to the check of these cars with this one
abbrev pub OfferByAnnex : Check → ℕ → Offered → Type 0
OfferByAnnex check car offered = (limit : ℕ) (cars : List ℕ) → check ≡ check_of limit cars → (offered.reply ≡ reply_of limit cars) × (offered.check ≡ check_of limit (cars ++ car ∷ []))

-- ---- what it promises of any check: a refused car leaves it as it was

abbrev pub KeptIfRefused : Check → Offered → Type 0
KeptIfRefused check offered = (counted : ℕ) → offered.reply ≡ refused_at counted → offered.check ≡ check

-- ---- laws

-- The limit is the one of the start.
abbrev pub LimitStays : Type 0
LimitStays = (limit : ℕ) (cars : List ℕ) → (check_of limit cars).limit ≡ limit

-- A verdict stays: whatever is offered after it, the check is the same.
abbrev pub VerdictStays : Type 0
VerdictStays = (check : Check) → (status_at check.stage ≡ Open → ⊥) → (later : List ℕ) → after_cars check later ≡ check

-- A refused car changes nothing for the cars after it either: the check stays, and they are refused at the same place.
abbrev pub RefusedChangesNothing : Type 0
RefusedChangesNothing = (check : Check) (car counted : ℕ) → (offer_of check car).reply ≡ refused_at counted → (later : List ℕ) → (after_cars check (car ∷ later) ≡ check) × ((next : ℕ) → (offer_of (after_cars check (car ∷ later)) next).reply ≡ refused_at counted)

-- After a first car that fails, the check is open until two more were measured.
abbrev pub TwoMoreAlways : Type 0
TwoMoreAlways = (limit first : ℕ) (others : List ℕ) → meets limit first ≡ false → length others < 2 → status_of limit (first ∷ others) ≡ Open

-- "Does not conform" never comes before the third car.
abbrev pub NeverBeforeTheThird : Type 0
NeverBeforeTheThird = (limit : ℕ) (cars : List ℕ) → status_of limit cars ≡ DoesNotConform → 3 ≤ length cars

-- Cars are wanted exactly while there is no verdict.
abbrev pub WantedWhileOpen : Type 0
WantedWhileOpen = (limit : ℕ) (cars : List ℕ) → (status_of limit cars ≡ Open → 1 ≤ wanted_of limit cars) × (1 ≤ wanted_of limit cars → status_of limit cars ≡ Open)
