-- A check as a program outside keeps it, as two numbers: its limit and the number of its stage. No paper gives numbers to stages and statuses.
use Rattle.std.specs.Prelude.{◌≡◌, List, [], ◌∷◌, map, ℕ, get_or, Option, Some, None, Result, Ok, Err}
use Rattle.production.specs.declared.Stage.{Stage}
use Rattle.production.specs.declared.Stage.TheVariants.{NoCar, FirstMet, FirstFailed, SecondMet, SecondFailed, BothMet, NotBothMet}
use Rattle.production.specs.declared.Check.{Check}
use Rattle.production.specs.declared.Status.{Status}
use Rattle.production.specs.declared.Status.TheVariants.{Open, Conforms, DoesNotConform}
use Rattle.production.specs.declared.NoSuchStage.{NoSuchStage}

-- the numbers of the statuses
abbrev pub status_number : Status → ℕ
status_number Open = 0
status_number Conforms = 1
status_number DoesNotConform = 2

-- the numbers of the stages, in the order in which cars lead to them
abbrev pub stage_number : Stage → ℕ
stage_number NoCar = 0
stage_number FirstMet = 1
stage_number FirstFailed = 2
stage_number SecondMet = 3
stage_number SecondFailed = 4
stage_number BothMet = 5
stage_number NotBothMet = 6

-- the same as a list: each stage at the place of its number
abbrev pub stages : List Stage
stages = NoCar ∷ FirstMet ∷ FirstFailed ∷ SecondMet ∷ SecondFailed ∷ BothMet ∷ NotBothMet ∷ []

-- the stage of a number, if there is such a stage
unfoldable pub stage_of : ℕ → Result Stage NoSuchStage
stage_of n = get_or (map (λ stage. Ok stage) stages) n (Err (record {}))

-- the check with a limit and the number of a stage, if there is such a stage
unfoldable pub restored_of : ℕ → ℕ → Option Check
restored_of limit n = get_or (map (λ stage. Some (record { limit = limit; stage = stage })) stages) n None

-- the two numbers of a check, and the check of two numbers
abbrev pub check_numbers : Check → List ℕ
check_numbers check = check.limit ∷ stage_number check.stage ∷ []

abbrev pub restored_from : List ℕ → Option Check
restored_from numbers = restored_of (get_or numbers 0 0) (get_or numbers 1 0)

-- A check comes back from its numbers.
abbrev pub ComesBack : Type 0
ComesBack = (check : Check) → restored_from (check_numbers check) ≡ Some check

-- A check restored from two numbers has these numbers.
abbrev pub KeepsItsNumbers : Type 0
KeepsItsNumbers = (limit n : ℕ) (check : Check) → restored_of limit n ≡ Some check → check_numbers check ≡ limit ∷ n ∷ []
