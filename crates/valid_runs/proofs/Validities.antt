-- Laws of a run's validity. Assumes nothing.
use mathlib.Core.Path.{◌≡◌, refl}
use mathlib.Core.Bool.{Bool, true, false, cond}
use Prim.Native.Nat.{ℕ, ◌≤◌}
use native.Mathlib.Omega.{arith}
use lib.Dec.{eqb}
use lib.Ieee.{Float, lt}
use Rattle.std.specs.Prelude.{Option, Some, None}
use Rattle.units.specs.declared.Tenths.{Tenths}
use Rattle.level.specs.declared.Reading.TheVariants as level
use Rattle.level.specs.Level.{side_of}
use Rattle.level.proofs.Sides.{side_rising}
use Rattle.record.specs.declared.Backgrounds.{Backgrounds}
use Rattle.record.specs.declared.Run.{Run}
use Rattle.record.specs.Records.{reading_from}
use Rattle.valid_runs.specs.ValidRuns.{left_side, right_side, both_sides, valid_of}

module _ (run : Run) (b : Backgrounds) (n : ℕ) where
  pub struck_out : run.struck ≡ true → valid_of run b n ≡ None
  unfolding valid_of
  struck_out e = simp e

  -- a run that is not struck goes by its sides
  pub by_sides : run.struck ≡ false → (l r : Option Tenths) → l ≡ left_side run b → r ≡ right_side run b → valid_of run b n ≡ both_sides run n l r
  unfolding valid_of
  by_sides e l r p q = simp (e, p, q)

module _ (run : Run) (n : ℕ) where
  pub left_out : (l r : Option Tenths) → l ≡ None → both_sides run n l r ≡ None
  unfolding both_sides
  left_out l r e = rw e (by r)
    where
      by : (x : Option Tenths) → both_sides run n None x ≡ None
      by (Some t) = refl
      by None = refl

  pub right_out : (l r : Option Tenths) → r ≡ None → both_sides run n l r ≡ None
  unfolding both_sides
  right_out l r e = rw e (by l)
    where
      by : (x : Option Tenths) → both_sides run n x None ≡ None
      by (Some t) = refl
      by None = refl

-- one reading's kind with a float that is not lower: the corrected level is not lower
pub reading_rising : (kind : ℕ) (x y : Float) (background : ℕ) (t u : Tenths) → side_of (reading_from kind x) background ≡ Some t → side_of (reading_from kind y) background ≡ Some u → lt y x ≡ false → t.0 ≤ u.0
unfolding reading_from side_of
reading_rising kind x y background t u p q h = by (eqb kind 1) (eqb kind 2) p q
  where
    by : (a b : Bool) → side_of (cond a (level.Level x) (cond b (level.Overload x) level.Absent)) background ≡ Some t → side_of (cond a (level.Level y) (cond b (level.Overload y) level.Absent)) background ≡ Some u → t.0 ≤ u.0
    by true b p q = side_rising x y background t u p q h
    by false true p q = absurd (let z : ◌≡◌ {A = ℕ} 0 1 = cc in omega arith)
    by false false p q = absurd (let z : ◌≡◌ {A = ℕ} 0 1 = cc in omega arith)
