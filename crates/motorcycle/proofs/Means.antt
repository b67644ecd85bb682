-- The whole decibels of a level in range, and the mean of four: how large they are, and that neither falls where a level rises. Assumes nothing.
use mathlib.Core.Path.{◌≡◌, sym, ◌∙◌}
use mathlib.Core.Bool.{Bool, true, false, not, true≢false}
use Prim.Native.Nat.{ℕ, ◌*◌, ◌≤◌, ◌<◌}
use native.Mathlib.Nat.{le_trans}
use native.Mathlib.Omega.{arith}
use lib.Dec.{T}
use lib.Ieee.{Float, lt}
use Rattle.std.specs.Prelude.{Ok}
use borrow.Author.Tests.{leb-true, le-leb}
use Rattle.units.specs.Rounding.{rounded}
use Rattle.units.specs.Tests.{NoneOf}
use Rattle.units.proofs.Rounding.{rounded_rising}
use Rattle.level.specs.Reading.{in_range}
use Rattle.level.specs.Level.{tenths_of}
use Rattle.level.proofs.Rising.{tenths_range, tenths_rising}
use Rattle.motorcycle.specs.declared.Levels.{Levels}
use Rattle.motorcycle.specs.Verdict.{level_at, outside, whole_of, reduced_of, quarters_of}
use Rattle.motorcycle.specs.Means.{MeansWithinEnds, Louder, MeansRise}
use Rattle.motorcycle.proofs.Causes.{only_on_its_cause}

-- ---- one level

-- a level in range has from 20 to 140 whole decibels
pub whole_range : (x : Float) → T (in_range x) → (20 ≤ whole_of x) × (whole_of x ≤ 140)
unfolding whole_of rounded
whole_range x r =
    let t = tenths_range x r in
    (rounded_rising 20 1 (tenths_of x) 10 (omega arith) (omega arith) (omega (arith, t.0)), rounded_rising (tenths_of x) 10 140 1 (omega arith) (omega arith) (omega (arith, t.1)))

-- less one dB, it has from 19 to 139
reduced_range : (x : Float) → T (in_range x) → (19 ≤ reduced_of x) × (reduced_of x ≤ 139)
unfolding reduced_of
reduced_range x r = let w = whole_range x r in (omega (arith, w.0), omega (arith, w.1))

-- one that is not lower has no fewer
reduced_rising : (x y : Float) → T (in_range x) → T (in_range y) → lt y x ≡ false → reduced_of x ≤ reduced_of y
unfolding reduced_of whole_of
reduced_rising x y p q h =
    omega (arith, rounded_rising (tenths_of x) 10 (tenths_of y) 10 (omega arith) (omega arith) (omega (arith, tenths_rising x y p q h)))

-- ---- four levels

not_outside : (b : Bool) → not b ≡ false → T b
not_outside true e = tt
not_outside false e = absurd (true≢false e)

-- where none is out of range, each is in range
pub in_range_at : (x : Levels) → NoneOf (outside x) 4 1 → (n : ℕ) → 1 ≤ n → n < 5 → T (in_range (level_at x n))
in_range_at x none n l u = not_outside (in_range (level_at x n)) (none n l u)

module _ (x : Levels) (none : NoneOf (outside x) 4 1) where
  range_at : (n : ℕ) → 1 ≤ n → n < 5 → (19 ≤ reduced_of (level_at x n)) × (reduced_of (level_at x n) ≤ 139)
  range_at n l u = reduced_range (level_at x n) (in_range_at x none n l u)

  quarters_range : (76 ≤ quarters_of x) × (quarters_of x ≤ 556)
  unfolding quarters_of
  quarters_range =
      let a = range_at 1 (omega arith) (omega arith) in
      let b = range_at 2 (omega arith) (omega arith) in
      let c = range_at 3 (omega arith) (omega arith) in
      let d = range_at 4 (omega arith) (omega arith) in
      (omega (arith, a.0, b.0, c.0, d.0), omega (arith, a.1, b.1, c.1, d.1))

module _ (x y : Levels) (p : NoneOf (outside x) 4 1) (q : NoneOf (outside y) 4 1) (louder : Louder x y) where
  rising_at : (n : ℕ) → 1 ≤ n → n < 5 → reduced_of (level_at x n) ≤ reduced_of (level_at y n)
  rising_at n l u = reduced_rising (level_at x n) (level_at y n) (in_range_at x p n l u) (in_range_at y q n l u) (louder n l u)

  quarters_rising : quarters_of x ≤ quarters_of y
  unfolding quarters_of
  quarters_rising =
      let a = rising_at 1 (omega arith) (omega arith) in
      let b = rising_at 2 (omega arith) (omega arith) in
      let c = rising_at 3 (omega arith) (omega arith) in
      let d = rising_at 4 (omega arith) (omega arith) in
      omega (arith, a, b, c, d)

-- ---- what is judged

pub judged_range : MeansWithinEnds
judged_range x limit m e =
    let c = only_on_its_cause x limit (Ok m) e in
    let r = quarters_range x c.0 in
    (omega (arith, r.0, c.2), omega (arith, r.1, c.2))

pub judged_rising : MeansRise
judged_rising x y limit m n e f louder =
    let c = only_on_its_cause x limit (Ok m) e in
    let d = only_on_its_cause y limit (Ok n) f in
    let rise = quarters_rising x y c.0 d.0 louder in
    (rw (c.2, d.2) rise, λ pass. c.3 ∙ le-leb (quarters_of x) (4 * limit) (le_trans rise (leb-true (quarters_of y) (4 * limit) (sym d.3 ∙ pass))))
