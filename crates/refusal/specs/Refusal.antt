-- The number and the place of a refusal, and of an answer (document 01, "Refusals and what remains"; document 02, wishes 1 and 5).
use Rattle.std.specs.Prelude.{ℕ, Result, Ok, Err}
use Rattle.refusal.specs.declared.Shortage.{Shortage}
use Rattle.refusal.specs.declared.Shortage.TheVariants.{TooFew, TooWide}
use Rattle.refusal.specs.declared.Refusal.{Refusal}
use Rattle.refusal.specs.declared.Refusal.TheVariants.{ShortBuffer, WrongSize, NoVehicle, NoClosing, BrokenRecord, NoLimitForN1, NoLimitEntry, PmrOutOfRange, NoRun, NoWindow, NotFalling, NoRule, NoConstantSpeed}

-- ---- the number

-- one of two numbers, by the shortage
abbrev pub by_shortage : ℕ → ℕ → Shortage → ℕ
by_shortage few wide TooFew = few
by_shortage few wide TooWide = wide

-- the numbers of a gear without an acceleration window, and of one without a constant-speed window, each by its shortage
pub record WindowNumbers : Type 0 where
  pub acceleration : Shortage → ℕ
  pub constant : Shortage → ℕ

-- with fewer than four valid runs they are those of document 01; with four or more, those of wish 5
abbrev pub window_numbers : WindowNumbers
window_numbers = record { acceleration = by_shortage 7 14; constant = by_shortage 10 15 }

-- the table's number of a refusal, with these numbers of a missing window
abbrev pub number_by : WindowNumbers → Refusal → ℕ
number_by ns ShortBuffer = 1
number_by ns WrongSize = 2
number_by ns NoVehicle = 3
number_by ns (NoClosing n) = 4
number_by ns (BrokenRecord n) = 5
number_by ns NoLimitForN1 = 11
number_by ns NoLimitEntry = 12
number_by ns PmrOutOfRange = 6
number_by ns NoRun = 7
number_by ns (NoWindow g x) = ns.acceleration x
number_by ns (NotFalling g) = 8
number_by ns NoRule = 9
number_by ns (NoConstantSpeed g x) = ns.constant x

abbrev pub number_of : Refusal → ℕ
number_of r = number_by window_numbers r

-- ---- the place

-- of a refusal: 0, a record or a gear
abbrev pub place_of : Refusal → ℕ
place_of ShortBuffer = 0
place_of WrongSize = 0
place_of NoVehicle = 0
place_of (NoClosing n) = n
place_of (BrokenRecord n) = n
place_of NoLimitForN1 = 0
place_of NoLimitEntry = 0
place_of PmrOutOfRange = 0
place_of NoRun = 0
place_of (NoWindow g x) = g
place_of (NotFalling g) = g
place_of NoRule = 0
place_of (NoConstantSpeed g x) = g

-- ---- an answer: what is given of its refusal, and 0 where there is none

abbrev pub number_in : {T E : Type 0} → (E → ℕ) → Result T E → ℕ
number_in given (Ok t) = 0
number_in given (Err e) = given e

-- ---- the answer that the caller gets of an evaluation: 0 and 0 for an accepted sheet

abbrev pub Answer : Type 0
Answer = Result (Unit {0}) Refusal

abbrev pub answer_number_by : WindowNumbers → Answer → ℕ
answer_number_by ns (Ok tt) = 0
answer_number_by ns (Err r) = number_by ns r

abbrev pub answer_number : Answer → ℕ
answer_number a = answer_number_by window_numbers a

abbrev pub answer_place : Answer → ℕ
answer_place (Ok tt) = 0
answer_place (Err r) = place_of r
