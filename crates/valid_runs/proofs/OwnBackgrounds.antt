-- Each side of a run goes by its own background alone (document 02, wish 8). Assumes nothing.
use mathlib.Core.Path.{◌≡◌, ap}
use mathlib.Core.Bool.{Bool, true, false, cond}
use Prim.Native.Nat.{ℕ}
use native.Mathlib.Omega.{arith}
use Rattle.std.specs.Prelude.{Some, None}
use Rattle.units.specs.declared.Tenths.{Tenths}
use Rattle.level.specs.Level.{side_of}
use Rattle.record.specs.declared.Backgrounds.{Backgrounds}
use Rattle.record.specs.declared.Run.{Run}
use Rattle.record.specs.Records.{reading_from}
use Rattle.window.specs.declared.ValidRun.{ValidRun}
use Rattle.valid_runs.specs.ValidRuns.{left_side, right_side, both_sides, valid_of}
use Rattle.valid_runs.proofs.Counting.{made}

module _ (run : Run) (b b' : Backgrounds) where
  -- whether a side counts, and its corrected level, are the same whatever the other side's background
  pub left_own : b.left ≡ b'.left → left_side run b ≡ left_side run b'
  left_own e = ap (λ (x : Tenths). side_of (reading_from run.left_kind run.left) x.0) e

  pub right_own : b.right ≡ b'.right → right_side run b ≡ right_side run b'
  right_own e = ap (λ (x : Tenths). side_of (reading_from run.right_kind run.right) x.0) e

  -- A run that is valid over two pairs of backgrounds is valid over the left one of the first and the right one of the second, with the left
  -- level that it has over the first and the right level that it has over the second.
  pub sides_apart : (n : ℕ) (v v' : ValidRun) → valid_of run b n ≡ Some v → valid_of run b' n ≡ Some v' → valid_of run (record { left = b.left; right = b'.right }) n ≡ Some (record { left = v.left; right = v'.right; start = v.start; end = v.end; engine = v.engine; number = v.number })
  unfolding valid_of both_sides
  sides_apart n v v' = by run.struck
    where
      by : (struck : Bool) → cond struck None (both_sides run n (left_side run b) (right_side run b)) ≡ Some v → cond struck None (both_sides run n (left_side run b') (right_side run b')) ≡ Some v' → cond struck None (both_sides run n (left_side run b) (right_side run b')) ≡ Some (record { left = v.left; right = v'.right; start = v.start; end = v.end; engine = v.engine; number = v.number })
      by true e e' = absurd (let z : ◌≡◌ {A = ℕ} 0 1 = cc in omega arith)
      by false e e' =
          let m = made run n (left_side run b) (right_side run b) v e in
          let m' = made run n (left_side run b') (right_side run b') v' e' in
          simp (m.0, m'.1, m.2, m.3, m.4, m.5)
