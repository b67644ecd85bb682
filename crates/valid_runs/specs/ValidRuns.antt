-- Valid runs, and the window of a condition (document 01, "From levels to windows", steps 2 to 4; document 02, wish 8). Levels are in tenths of
-- dB(A).
use Rattle.std.specs.Prelude.{Option, Some, None, Result, cond, ◌&&◌, List, [], ◌∷◌, ℕ, zero, suc, ◌+◌, ◌-◌, ◌≤◌, max}
use Rattle.units.specs.declared.Tenths.{Tenths}
use Rattle.refusal.specs.declared.Shortage.{Shortage}
use Rattle.level.specs.Level.{side_of}
use Rattle.record.specs.declared.Backgrounds.{Backgrounds}
use Rattle.record.specs.declared.Run.{Run}
use Rattle.record.specs.Records.{records, record_at, kind_byte, run_in, reading_from}
use Rattle.sheet.specs.Sheet.{has_byte}
use Rattle.window.specs.declared.ValidRun.{ValidRun}
use Rattle.window.specs.declared.Four.{Four}
use Rattle.window.specs.Windows.{first_window}
use Rattle.valid_runs.specs.declared.Condition.{Condition}

-- ---- step 2, with wish 8: the background of each side

-- of one side: the larger of the two, before and after
abbrev pub background_of : ℕ → ℕ → ℕ
background_of before after = max before after

unfoldable pub backgrounds_of : Backgrounds → Backgrounds → Backgrounds
backgrounds_of before after =
    record {
      left = record { 0 = background_of before.left.0 after.left.0 };
      right = record { 0 = background_of before.right.0 after.right.0 };
    }

-- ---- step 3: validity

-- the sides of a run, each over its own background (wish 8)
abbrev pub left_side : Run → Backgrounds → Option Tenths
left_side run b = side_of (reading_from run.left_kind run.left) b.left.0

abbrev pub right_side : Run → Backgrounds → Option Tenths
right_side run b = side_of (reading_from run.right_kind run.right) b.right.0

-- a run whose two sides have these answers: it counts if both do
unfoldable pub both_sides : Run → ℕ → Option Tenths → Option Tenths → Option ValidRun
both_sides run n (Some l) (Some r) =
    Some (record { left = l; right = r; start = run.start_speed; end = run.end_speed; engine = run.engine_speed; number = n })
both_sides run n (Some l) None = None
both_sides run n None (Some r) = None
both_sides run n None None = None

-- Run number n is valid if it is not struck and both sides count, each over its background: both readings are levels, d at least 10.0.
unfoldable pub valid_of : Run → Backgrounds → ℕ → Option ValidRun
valid_of run b n = cond run.struck None (both_sides run n (left_side run b) (right_side run b))

-- ---- step 4: the rest of a condition, which is a gear and a run kind over the backgrounds

-- record n as a run of the condition's kind and gear: valid, or set aside
unfoldable pub candidate_of : List ℕ → Condition → ℕ → Option ValidRun
candidate_of s o n = cond (has_byte s 0 (kind_byte o.kind) n && has_byte s 1 o.gear n) (valid_of (run_in (record_at s n)) o.backgrounds n) None

-- a valid run stands before the others; one that is not is set aside
abbrev pub with_valid : Option ValidRun → List ValidRun → List ValidRun
with_valid (Some v) rest = v ∷ rest
with_valid None rest = rest

-- the valid ones of `count` records from n on, in their order
unfoldable pub rest_from : List ℕ → Condition → ℕ → ℕ → List ValidRun
rest_from s o n zero = []
rest_from s o n (suc count) = with_valid (candidate_of s o n) (rest_from s o (n + 1) count)

-- The rest: the valid runs in the sheet's order. The run records stand between the first record and the last.
unfoldable pub rest_of : List ℕ → Condition → List ValidRun
rest_of s o = rest_from s o 1 (records s - 2)

-- the window of a condition
unfoldable pub window_of : List ℕ → Condition → Result Four Shortage
window_of s o = first_window (rest_of s o)

-- ---- what holds of an acceleration run

-- its speeds: not slower at BB', and at most 150.0 km/h
pub record NotSlower (v : ValidRun) : Type 0 where
  pub order : v.start ≤ v.end
  pub most : v.end ≤ 1500
