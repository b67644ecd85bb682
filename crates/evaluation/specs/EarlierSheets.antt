-- Earlier sheets keep their results (document 02, wishes 1 and 8). Without wish 8 there is one background for both sides, and the bytes of the right
-- side's have no name and so are zero; without wish 1 the limit is always written, and bytes 16 and 17 are zero. An evaluation without one of them,
-- or without both, is the same definition with other layouts, backgrounds or another limit. A byte string keeps its answer and its buffer unless
-- that evaluation refuses it with 5; if it does so for one of these bytes, the sheet may be accepted with the wishes, or be refused for something
-- else.
use Rattle.std.specs.Prelude.{◌≡◌, Bool, true, false, List, ◌⊎◌, ℕ, length, Result, Ok, Err}
use Rattle.units.specs.Tests.{all_of}
use Rattle.refusal.specs.declared.Refusal.{Refusal}
use Rattle.refusal.specs.declared.Refusal.TheVariants.{BrokenRecord}
use Rattle.record.specs.declared.Backgrounds.{Backgrounds}
use Rattle.record.specs.Records.{record_at, byte, zeros, right_good, looked_up, vehicle_tests, closing_tests}
use Rattle.sheet.specs.Sheet.{last_of, Layouts}
use Rattle.decision.specs.Decision.{Decision, decision_over, sheet_vehicle, sheet_backgrounds, sheet_limit, decision_of}
use Rattle.evaluation.specs.Answer.{answer_for, answer_of, buffer_for, buffer_of}

-- ---- what earlier evaluations have otherwise

-- the layouts of the vehicle and the closing record, given which records need no written limit and what is asked of the right side's background
abbrev pub earlier_layouts : (List ℕ → Bool) → (List ℕ → ℕ → Bool) → Layouts
earlier_layouts unwritten asked = record { vehicle = λ r. all_of (vehicle_tests unwritten asked r); closing = λ r. all_of (closing_tests asked r) }

-- every record needs a written limit
abbrev pub none_looked_up : List ℕ → Bool
none_looked_up r = false

-- two bytes that have no name are zero
abbrev pub unnamed_good : List ℕ → ℕ → Bool
unnamed_good r at = zeros r at 2

-- the number in the limit field is the limit, whatever it is, and rows 11 and 12 are left out
unfoldable pub written_limit : List ℕ → Result ℕ Refusal
written_limit s = Ok (sheet_vehicle s).limit

-- both sides have the larger of the left's before and after
unfoldable pub one_background : List ℕ → Backgrounds
one_background s = let b = (sheet_backgrounds s).left in record { left = b; right = b }

-- ---- the evaluations without wish 1, without wish 8, and without both

unfoldable pub with_written : List ℕ → Decision
with_written s = decision_over (earlier_layouts none_looked_up right_good) (sheet_backgrounds s) (written_limit s) s

unfoldable pub with_one : List ℕ → Decision
with_one s = decision_over (earlier_layouts looked_up unnamed_good) (one_background s) (sheet_limit s) s

unfoldable pub with_one_and_written : List ℕ → Decision
with_one_and_written s = decision_over (earlier_layouts none_looked_up unnamed_good) (one_background s) (written_limit s) s

-- ---- what holds

-- the answer, and every byte of the buffer, are those that this decision gives
pub record AnsweredBy (d : Decision) (s b : List ℕ) : Type 0 where
  pub answer : answer_of s (length b) ≡ answer_for d (length b)
  pub buffer : buffer_of s b ≡ buffer_for d b

-- the limit is written in the vehicle record, or there is no such record
abbrev pub LimitWritten : List ℕ → Type 0
LimitWritten s = byte (record_at s 0) 0 ≡ 1 → looked_up (record_at s 0) ≡ false

-- a sheet with a written limit is answered as without wish 1
abbrev pub KeptWithWritten : Type 0
KeptWithWritten = (s b : List ℕ) → LimitWritten s → AnsweredBy (with_written s) s b

-- the bytes of the right side's background are zero in the vehicle and in the closing record, or there is no such record
pub record NoRight (s : List ℕ) : Type 0 where
  pub vehicle : byte (record_at s 0) 0 ≡ 1 → zeros (record_at s 0) 18 2 ≡ true
  pub closing : byte (record_at s (last_of s)) 0 ≡ 9 → zeros (record_at s (last_of s)) 6 2 ≡ true

-- a sheet without a background of the right side is answered as without wish 8
abbrev pub KeptWithoutRight : Type 0
KeptWithoutRight = (s b : List ℕ) → NoRight s → AnsweredBy (with_one s) s b

-- Of any byte string, an earlier evaluation decides the same, or it refuses a record for its layout.
abbrev pub KeptUnlessBroken : (List ℕ → Decision) → Type 0
KeptUnlessBroken earlier = (s : List ℕ) → (decision_of s ≡ earlier s) ⊎ ((n : ℕ) × (earlier s ≡ Err (BrokenRecord n)))

-- So a sheet that it accepts keeps its answer and every byte of its buffer.
abbrev pub ResultsKept : (List ℕ → Decision) → Type 0
ResultsKept earlier = (s b : List ℕ) → answer_for (earlier s) (length b) ≡ Ok tt → AnsweredBy (earlier s) s b
