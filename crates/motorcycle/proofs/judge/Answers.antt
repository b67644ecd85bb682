-- `motorcycle::judge` meets its contract: each answer is given on its cause. Assumes nothing.
use mathlib.Core.Path.{◌≡◌, refl, sym, ap₂, ◌∙◌}
use mathlib.Core.Bool.{Bool, true, false}
use Prim.Native.Nat.{ℕ, ◌+◌, ◌-◌, ◌*◌, ◌≤◌}
use native.Mathlib.Omega.{arith}
use lib.Dec.{leb}
use Rattle.std.specs.Prelude.{Some, Ok, Err}
use Rattle.units.specs.Tests.{lowest, below, NoneOf}
use Rattle.units.proofs.Lowest.{lowest_here, lowest_next}
use Rattle.motorcycle.specs.declared.Levels.{Levels}
use Rattle.motorcycle.specs.declared.LevelRefusal.TheVariants.{LevelOutOfRange, SideFarApart}
use Rattle.motorcycle.specs.Verdict.{level_at, outside, first_outside, side_far_apart, first_far_apart, far_apart, whole_of, reduced_of, quarters_of, verdict_of}
use Rattle.motorcycle.proofs.Causes.{one_outside, no_outside, is_first_far_apart, none_far_apart, on_its_cause}
use Rattle.motorcycle.proofs.Means.{in_range_at}
use Rattle.motorcycle.proofs.judge.Goals as goal

-- what a side's two whole levels tell of the side
side : (x : Levels) (n : ℕ) {a b : ℕ} {d t : Bool} → a ≡ whole_of (level_at x (2 * n - 1)) → b ≡ whole_of (level_at x (2 * n)) → d ≡ far_apart a b → d ≡ t → side_far_apart x n ≡ t
side x n p q e h = sym (e ∙ ap₂ far_apart p q) ∙ h

-- the sides are asked one by one
module _ (x : Levels) where
  left : side_far_apart x 1 ≡ true → 1 ≡ first_far_apart x
  unfolding first_far_apart
  left l = sym (lowest_here (side_far_apart x) 1 1 l)

  right : side_far_apart x 1 ≡ false → side_far_apart x 2 ≡ true → 2 ≡ first_far_apart x
  unfolding first_far_apart
  right l r = sym (lowest_next (side_far_apart x) 1 1 l ∙ lowest_here (side_far_apart x) 0 2 r)

  neither : side_far_apart x 1 ≡ false → side_far_apart x 2 ≡ false → 3 ≡ first_far_apart x
  unfolding first_far_apart lowest
  neither l r = sym (lowest_next (side_far_apart x) 1 1 l ∙ lowest_next (side_far_apart x) 0 2 r)

module _ (x : Levels) (limit : ℕ) where
  out_of_range : {n : ℕ} → Some n ≡ below 5 (first_outside x) → Err (LevelOutOfRange n) ≡ verdict_of x limit
  out_of_range e = sym (on_its_cause x limit (Err (LevelOutOfRange _)) (one_outside x e))

  side_apart : {r : ℕ} → NoneOf (outside x) 4 1 → r ≡ first_far_apart x → r ≤ 2 → Err (SideFarApart r) ≡ verdict_of x limit
  side_apart none e h = sym (on_its_cause x limit (Err (SideFarApart _)) (none, is_first_far_apart x e h))

  -- the sum of the four, each less one dB, is judged
  judged : {a b c d : ℕ} → NoneOf (outside x) 4 1 → 3 ≡ first_far_apart x → a ≡ whole_of x.first → b ≡ whole_of x.second → c ≡ whole_of x.third → d ≡ whole_of x.fourth → let m = (a - 1) + (b - 1) + (c - 1) + (d - 1) in Ok (record { mean = record { 0 = m }; pass = leb m (4 * limit) }) ≡ verdict_of x limit
  unfolding quarters_of reduced_of
  judged none e p q s t = sym (on_its_cause x limit (Ok _) (none, none_far_apart x e (omega arith), rw (p, q, s, t) refl, rw (p, q, s, t) refl))

pub returns-in-Some : goal.returns-in-Some
returns-in-Some c = out_of_range _ _ c.in-Some.ensures

-- ---- where the levels are rounded, none is out of range

pub whole-a-requires : goal.whole-a-requires
whole-a-requires c = in_range_at _ (no_outside _ c.in_default.ensures) 1 (omega arith) (omega arith)

pub whole-b-requires : goal.whole-b-requires
whole-b-requires c = in_range_at _ (no_outside _ c.in_default.ensures) 2 (omega arith) (omega arith)

pub returns-then-far_apart : goal.returns-then-far_apart
returns-then-far_apart c =
    let x = c.args.levels in
    let none = no_outside x c.in_default.ensures in
    let far = side x 1 c.whole-a.ensures.value c.whole-b.ensures.value c.far_apart.ensures c.if-far_apart.true in
    side_apart x _ none (left x far) (omega arith)

pub whole-c-requires : goal.whole-c-requires
whole-c-requires c = in_range_at _ (no_outside _ c.in_default.ensures) 3 (omega arith) (omega arith)

pub whole-d-requires : goal.whole-d-requires
whole-d-requires c = in_range_at _ (no_outside _ c.in_default.ensures) 4 (omega arith) (omega arith)

-- ---- where the right side is rounded, the left is not far apart

pub returns-then-far_apart-2 : goal.returns-then-far_apart-2
returns-then-far_apart-2 c =
    let x = c.args.levels in
    let none = no_outside x c.in_default.ensures in
    let near = side x 1 c.whole-a.ensures.value c.whole-b.ensures.value c.far_apart.ensures c.if-far_apart.false in
    let far = side x 2 c.whole-c.ensures.value c.whole-d.ensures.value c.far_apart-2.ensures c.if-far_apart-2.true in
    side_apart x _ none (right x near far) (omega arith)

-- where the mean is made, neither side is far apart
pub returns : goal.returns
returns c =
    let x = c.args.levels in
    let none = no_outside x c.in_default.ensures in
    let left_near = side x 1 c.whole-a.ensures.value c.whole-b.ensures.value c.far_apart.ensures c.if-far_apart.false in
    let right_near = side x 2 c.whole-c.ensures.value c.whole-d.ensures.value c.far_apart-2.ensures c.if-far_apart-2.false in
    judged _ _ none (neither _ left_near right_near) c.whole-a.ensures.value c.whole-b.ensures.value c.whole-c.ensures.value c.whole-d.ensures.value
