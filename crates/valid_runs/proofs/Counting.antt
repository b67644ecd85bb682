-- What a valid run is: a record of the sheet, of its kind and its gear, whose two sides count; and how its levels rise. Assumes nothing.
use mathlib.Core.Path.{◌≡◌, sym, ap}
use mathlib.Core.Bool.{false, ◌&&◌}
use mathlib.Core.List.{List}
use Prim.Native.Nat.{ℕ, ◌≤◌}
use native.Mathlib.Omega.{arith}
use lib.Dec.{eqb}
use lib.Ieee.{binary32, of_bits, lt}
use borrow.Author.Tests.{eqb-true}
use Rattle.std.specs.Prelude.{Option, Some, None}
use Rattle.units.specs.declared.Tenths.{Tenths}
use Rattle.units.specs.Bytes.{number}
use Rattle.units.proofs.Tests.{by_test, both}
use Rattle.level.specs.Level.{side_of}
use Rattle.record.specs.declared.Run.{Run}
use Rattle.record.specs.Records.{record_at, byte, word, kind_byte, run_in, reading_from}
use Rattle.window.specs.declared.ValidRun.{ValidRun}
use Rattle.valid_runs.specs.declared.Condition.{Condition}
use Rattle.valid_runs.specs.ValidRuns.{both_sides, valid_of, candidate_of}
use Rattle.valid_runs.proofs.Validities.{reading_rising}

-- a valid run v, as record n has it
pub record Counts (s : List ℕ) (o : Condition) (n : ℕ) (v : ValidRun) : Type 0 where
  pub is_kind : byte (record_at s n) 0 ≡ kind_byte o.kind
  pub is_gear : byte (record_at s n) 1 ≡ o.gear
  pub left : side_of (reading_from (byte (record_at s n) 3) (of_bits binary32 (number (record_at s n) 8 4))) o.backgrounds.left.0 ≡ Some v.left
  pub right : side_of (reading_from (byte (record_at s n) 4) (of_bits binary32 (number (record_at s n) 12 4))) o.backgrounds.right.0 ≡ Some v.right
  pub start : v.start ≡ word (record_at s n) 16
  pub end : v.end ≡ word (record_at s n) 18
  pub engine : v.engine ≡ word (record_at s n) 20
  pub at : v.number ≡ n

-- the run that two sides make is v
pub made : (run : Run) (n : ℕ) (l m : Option Tenths) (v : ValidRun) → both_sides run n l m ≡ Some v → (l ≡ Some v.left) × (m ≡ Some v.right) × (v.start ≡ run.start_speed) × (v.end ≡ run.end_speed) × (v.engine ≡ run.engine_speed) × (v.number ≡ n)
unfolding both_sides
made run n (Some x) (Some y) v e =
    let same : ◌≡◌ {A = ValidRun} (record { left = x; right = y; start = run.start_speed; end = run.end_speed; engine = run.engine_speed; number = n }) v = cc in
    (ap (λ (w : ValidRun). Some w.left) same, ap (λ (w : ValidRun). Some w.right) same, sym (ap (λ (w : ValidRun). w.start) same), sym (ap (λ (w : ValidRun). w.end) same), sym (ap (λ (w : ValidRun). w.engine) same), sym (ap (λ (w : ValidRun). w.number) same))
made run n (Some x) None v e = absurd (let y : ◌≡◌ {A = ℕ} 0 1 = cc in omega arith)
made run n None (Some y) v e = absurd (let z : ◌≡◌ {A = ℕ} 0 1 = cc in omega arith)
made run n None None v e = absurd (let y : ◌≡◌ {A = ℕ} 0 1 = cc in omega arith)

module _ (s : List ℕ) (o : Condition) where
  pub counts : (n : ℕ) (v : ValidRun) → candidate_of s o n ≡ Some v → Counts s o n v
  unfolding candidate_of valid_of run_in
  counts n v =
      by_test Then (eqb (byte (record_at s n) 0) (kind_byte o.kind) && eqb (byte (record_at s n) 1) o.gear) _ _
      (λ t. by_test Then (eqb (byte (record_at s n) 2) 1) _ _ (λ z e. absurd (let y : ◌≡◌ {A = ℕ} 0 1 = cc in omega arith))
      (λ z e.
      let b = both (eqb (byte (record_at s n) 0) (kind_byte o.kind)) (eqb (byte (record_at s n) 1) o.gear) t in
      let m = made (run_in (record_at s n)) n _ _ v e in
      record {
        is_kind = eqb-true (byte (record_at s n) 0) (kind_byte o.kind) b.0;
        is_gear = eqb-true (byte (record_at s n) 1) o.gear b.1;
        left = m.0;
        right = m.1;
        start = m.2;
        end = m.3;
        engine = m.4;
        at = m.5;
      }))
      (λ t e. absurd (let y : ◌≡◌ {A = ℕ} 0 1 = cc in omega arith))
    where
      Then : Option ValidRun → Type 0
      Then x = x ≡ Some v → Counts s o n v

-- A record that counts in two sheets over the same backgrounds, with readings of the same kinds and no lower float in the second: neither
-- corrected level is lower there, since each side has the same background in both.
pub levels_rising : (s s' : List ℕ) (o o' : Condition) (n : ℕ) (v v' : ValidRun) → o.backgrounds ≡ o'.backgrounds → Counts s o n v → Counts s' o' n v' → byte (record_at s n) 3 ≡ byte (record_at s' n) 3 → byte (record_at s n) 4 ≡ byte (record_at s' n) 4 → lt (of_bits binary32 (number (record_at s' n) 8 4)) (of_bits binary32 (number (record_at s n) 8 4)) ≡ false → lt (of_bits binary32 (number (record_at s' n) 12 4)) (of_bits binary32 (number (record_at s n) 12 4)) ≡ false → (v.left.0 ≤ v'.left.0) × (v.right.0 ≤ v'.right.0)
levels_rising s s' o o' n v v' b c c' p q left right = (
  reading_rising (byte (record_at s n) 3) _ _ o.backgrounds.left.0 _ _ c.left (rw (p, b) c'.left) left,
  reading_rising (byte (record_at s n) 4) _ _ o.backgrounds.right.0 _ _ c.right (rw (q, b) c'.right) right,
)
