-- What the functions for C and Rust answer, and leave behind their pointers, for a production check kept as two numbers.
use Rattle.std.specs.Prelude.{◌≡◌, List, [], ◌∷◌, ◌++◌, ℕ, Option, Some, None}
use Rattle.production.specs.declared.Check.{Check}
use Rattle.production.specs.Annex.{status_of, wanted_of, reply_of, reply_number, reply_place}
use Rattle.production.specs.Stages.{status_at, wanted_at, offer_of}
use Rattle.production.specs.Sequences.{check_of}
use Rattle.production.specs.Numbers.{status_number, check_numbers, restored_of}

-- ---- any two numbers. The answer is 255 where no stage has the second of them; then the numbers, the status and the cars wanted stay as they
-- were.

-- a car offered: the answer, its place, and the two numbers from then on
abbrev pub offer_code : Option Check → ℕ → ℕ
offer_code (Some check) car = reply_number (offer_of check car).reply
offer_code None car = 255

abbrev pub offer_place : Option Check → ℕ → ℕ
offer_place (Some check) car = reply_place (offer_of check car).reply
offer_place None car = 0

abbrev pub numbers_after : Option Check → ℕ → List ℕ → List ℕ
numbers_after (Some check) car kept = check_numbers (offer_of check car).check
numbers_after None car kept = kept

-- the check read: the answer, the number of its status, and the cars that it wants
abbrev pub status_code : Option Check → ℕ
status_code (Some check) = 0
status_code None = 255

abbrev pub status_or : Option Check → ℕ → ℕ
status_or (Some check) kept = status_number (status_at check.stage)
status_or None kept = kept

abbrev pub wanted_or : Option Check → ℕ → ℕ
wanted_or (Some check) kept = wanted_at check.stage
wanted_or None kept = kept

-- A refused car leaves both numbers as they were.
abbrev pub RefusedLeavesNumbers : Type 0
RefusedLeavesNumbers = (limit stage car : ℕ) → (offer_code (restored_of limit stage) car ≡ 0 → ⊥) → numbers_after (restored_of limit stage) car (limit ∷ stage ∷ []) ≡ limit ∷ stage ∷ []

-- ---- the numbers of a check that some cars have led to from the start

-- One more car gets the answer that the annex gives, and the numbers after it are those of the check of these cars with this one.
abbrev pub OfferInNumbers : List ℕ → ℕ → ℕ → ℕ → List ℕ → Type 0
OfferInNumbers numbers car answer place after = (limit : ℕ) (cars : List ℕ) → numbers ≡ check_numbers (check_of limit cars) → (answer ≡ reply_number (reply_of limit cars)) × (place ≡ reply_place (reply_of limit cars)) × (after ≡ check_numbers (check_of limit (cars ++ car ∷ [])))

-- The status and the cars wanted are those that the annex gives for these cars.
abbrev pub StatusInNumbers : List ℕ → ℕ → ℕ → ℕ → Type 0
StatusInNumbers numbers answer status wanted = (limit : ℕ) (cars : List ℕ) → numbers ≡ check_numbers (check_of limit cars) → (answer ≡ 0) × (status ≡ status_number (status_of limit cars)) × (wanted ≡ wanted_of limit cars)
