-- Laws of a side's answer, for the layers above: which sides count, how high they can be, and that they rise with the float.
-- Assumes nothing.
use mathlib.Core.Path.{◌≡◌, refl, sym, ap}
use mathlib.Core.Bool.{Bool, true, false, cond}
use Prim.Native.Nat.{ℕ, ◌+◌, ◌-◌, ◌≤◌, ◌<◌}
use native.Mathlib.Omega.{arith}
use lib.Dec.{T, leb}
use lib.Ieee.{Float, lt}
use borrow.Author.Tests.{leb-true, le-leb, lt-leb}
use Rattle.units.specs.declared.Tenths.{Tenths}
use Rattle.std.proofs.Common.{Some, None}
use Rattle.level.specs.declared.Reading.{Reading}
use Rattle.level.specs.declared.Reading.TheVariants.{Level, Overload, Absent}
use Rattle.level.specs.Reading.{in_range}
use Rattle.level.specs.Level.{tenths_of, correction_of, corrected_side, side_of}
use Rattle.level.proofs.Rising.{tenths_rising}
use Rattle.level.proofs.Corrections.{corrected_rising}

-- a level of d 10.0 or more over its background counts, corrected
pub side_counts : (level background : ℕ) → background + 100 ≤ level → corrected_side level background ≡ Some (record { 0 = level - correction_of (level - background) })
unfolding corrected_side
side_counts level background h = simp (le-leb 100 (level - background) (omega arith))

-- one of less does not
pub too_near : (level background : ℕ) → level < background + 100 → corrected_side level background ≡ None
unfolding corrected_side
too_near level background h = simp (lt-leb 100 (level - background) (omega arith))

-- What a side that counts is: a level in range, d at least 10.0, corrected
pub record Counting (x : Float) (background : ℕ) (t : Tenths) : Type 0 where
  pub lies_in_range : T (in_range x)
  pub clear : background + 100 ≤ tenths_of x
  pub is : t.0 ≡ tenths_of x - correction_of (tenths_of x - background)

pub counting : (x : Float) (background : ℕ) (t : Tenths) → side_of (Level x) background ≡ Some t → Counting x background t
unfolding side_of corrected_side
counting x background t e = by (in_range x) refl e
  where
    clash : None ≡ Some t → ⊥
    clash n = let z : ◌≡◌ {A = ℕ} 0 1 = cc in omega arith

    same : {a : ℕ} → Some (record { 0 = a }) ≡ Some t → t.0 ≡ a
    same {a} n = let u : ◌≡◌ {A = Tenths} (record { 0 = a }) t = cc in sym (ap (λ (v : Tenths). v.0) u)

    near : (c : Bool) → leb 100 (tenths_of x - background) ≡ c → T (in_range x) → cond c (Some (record { 0 = tenths_of x - correction_of (tenths_of x - background) })) None ≡ Some t → Counting x background t
    near true k r s = let h = leb-true 100 (tenths_of x - background) k in record { lies_in_range = r; clear = omega arith; is = same s }
    near false k r s = absurd (clash s)

    by : (b : Bool) → in_range x ≡ b → cond b (corrected_side (tenths_of x) background) None ≡ Some t → Counting x background t
    by true r s = near (leb 100 (tenths_of x - background)) refl (rw r tt) s
    by false r s = absurd (clash s)

-- only a level counts
pub level_only : (r : Reading) (background : ℕ) (t : Tenths) → side_of r background ≡ Some t → (x : Float) × (r ≡ Level x)
unfolding side_of
level_only (Level x) background t e = (x, refl)
level_only (Overload x) background t e = absurd (let z : ◌≡◌ {A = ℕ} 0 1 = cc in omega arith)
level_only Absent background t e = absurd (let z : ◌≡◌ {A = ℕ} 0 1 = cc in omega arith)

-- over one background, a float that is not smaller never has a lower corrected level
pub side_rising : (x y : Float) (background : ℕ) (t u : Tenths) → side_of (Level x) background ≡ Some t → side_of (Level y) background ≡ Some u → lt y x ≡ false → t.0 ≤ u.0
side_rising x y background t u p q h =
    let a = counting x background t p in
    let b = counting y background u q in
    omega (arith, corrected_rising background (tenths_of x) (tenths_of y) (tenths_rising x y a.lies_in_range b.lies_in_range h), a.is, b.is)
