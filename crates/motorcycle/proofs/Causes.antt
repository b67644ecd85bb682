-- A verdict is given exactly on its cause. Assumes nothing.
use mathlib.Core.Path.{◌≡◌, refl, sym, ap}
use mathlib.Core.Bool.{Bool, true, false}
use Prim.Native.Nat.{ℕ, ◌≤◌, ◌<◌}
use native.Mathlib.Omega.{arith}
use lib.Dec.{leb}
use Rattle.std.specs.Prelude.{Some, None, Ok, Err}
use borrow.Author.Tests.{leb-true, leb-false, le-leb, lt-leb}
use Rattle.units.specs.Tests.{lowest, below, FirstOf, NoneOf}
use Rattle.units.proofs.Lowest.{first_is_lowest, lowest_is_first, none_by_lowest, lowest_by_none}
use Rattle.units.proofs.Below.{below_some, below_none}
use Rattle.motorcycle.specs.declared.Levels.{Levels}
use Rattle.motorcycle.specs.declared.JudgedMean.{JudgedMean}
use Rattle.motorcycle.specs.declared.LevelRefusal.TheVariants.{LevelOutOfRange, SideFarApart}
use Rattle.motorcycle.specs.Verdict.{Verdict, outside, side_far_apart, first_outside, first_far_apart, verdict_of, verdict_number, verdict_place}
use Rattle.motorcycle.specs.Causes.{Cause}

-- ---- what the numbers of the definition say of the four levels and the two sides

module _ (x : Levels) {r : ℕ} where
  pub is_first_outside : r ≡ first_outside x → r ≤ 4 → FirstOf (outside x) 4 1 r
  unfolding first_outside
  is_first_outside e h = rw e (lowest_is_first (outside x) 4 1 (omega arith))

  pub none_outside : r ≡ first_outside x → 4 < r → NoneOf (outside x) 4 1
  unfolding first_outside
  none_outside e h = lowest_by_none (outside x) 4 1 (omega arith)

  pub is_first_far_apart : r ≡ first_far_apart x → r ≤ 2 → FirstOf (side_far_apart x) 2 1 r
  unfolding first_far_apart
  is_first_far_apart e h = rw e (lowest_is_first (side_far_apart x) 2 1 (omega arith))

  pub none_far_apart : r ≡ first_far_apart x → 2 < r → NoneOf (side_far_apart x) 2 1
  unfolding first_far_apart
  none_far_apart e h = lowest_by_none (side_far_apart x) 2 1 (omega arith)

-- what a search of the four levels says that finds one, and that finds none
module _ (x : Levels) where
  pub one_outside : {n : ℕ} → Some n ≡ below 5 (first_outside x) → FirstOf (outside x) 4 1 n
  one_outside e = let found = below_some 5 (first_outside x) _ (sym e) in is_first_outside x (sym found.0) (omega (arith, found.1))

  pub no_outside : None ≡ below 5 (first_outside x) → NoneOf (outside x) 4 1
  no_outside e = none_outside x refl (below_none 5 (first_outside x) (sym e))

module _ (x : Levels) (limit : ℕ) where
  -- ---- on its cause

  none_outside_range : NoneOf (outside x) 4 1 → leb (first_outside x) 4 ≡ false
  unfolding first_outside
  none_outside_range none = lt-leb (lowest (outside x) 4 1) 4 (omega (arith, none_by_lowest (outside x) 4 1 none))

  -- what is judged, by its mean and whether it passes
  made : (judged : JudgedMean) {q : ℕ} {b : Bool} → judged.mean.0 ≡ q → judged.pass ≡ b → record { mean = record { 0 = q }; pass = b } ≡ judged
  made judged m p = rw (sym m, sym p) refl

  pub on_its_cause : (v : Verdict) → Cause x limit v → verdict_of x limit ≡ v
  unfolding verdict_of first_outside first_far_apart
  on_its_cause (Err (LevelOutOfRange n)) f = simp (first_is_lowest (outside x) 4 1 n f, le-leb n 4 (omega (arith, f.most)))
  on_its_cause (Err (SideFarApart side)) (none, f) =
      simp (none_outside_range none, first_is_lowest (side_far_apart x) 2 1 side f, le-leb side 2 (omega (arith, f.most)))
  on_its_cause (Ok judged) (none, near, m, p) =
      simp (none_outside_range none, lt-leb (lowest (side_far_apart x) 2 1) 2 (omega (arith, none_by_lowest (side_far_apart x) 2 1 near))) (ap Ok (made judged m p))

  -- ---- and on no other

  -- the verdict with this cause is the one that is given
  given_on : (v : Verdict) → Cause x limit v → Cause x limit (verdict_of x limit)
  given_on v c = rw (on_its_cause v c) c

  cause : Cause x limit (verdict_of x limit)
  cause = by (leb (first_outside x) 4) refl
    where
      sides : NoneOf (outside x) 4 1 → (b : Bool) → leb (first_far_apart x) 2 ≡ b → Cause x limit (verdict_of x limit)
      sides none true e = given_on (Err (SideFarApart _)) (none, is_first_far_apart x refl (leb-true _ 2 e))
      sides none false e = given_on (Ok _) (none, none_far_apart x refl (leb-false _ 2 e), refl, refl)

      by : (b : Bool) → leb (first_outside x) 4 ≡ b → Cause x limit (verdict_of x limit)
      by true e = given_on (Err (LevelOutOfRange _)) (is_first_outside x refl (leb-true _ 4 e))
      by false e = sides (none_outside x refl (leb-false _ 4 e)) (leb (first_far_apart x) 2) refl

  pub only_on_its_cause : (v : Verdict) → verdict_of x limit ≡ v → Cause x limit v
  only_on_its_cause v e = rw e at cause

-- ---- the number 0 is that of levels that are judged, and of no refusal

pub judged_by_0 : (v : Verdict) → verdict_number v ≡ 0 → (judged : JudgedMean) × (v ≡ Ok judged)
judged_by_0 (Ok judged) e = (judged, refl)
judged_by_0 (Err (LevelOutOfRange n)) e = absurd (omega arith)
judged_by_0 (Err (SideFarApart side)) e = absurd (omega arith)

pub judged_at_0 : (judged : JudgedMean) → (verdict_number (Ok judged) ≡ 0) × (verdict_place (Ok judged) ≡ 0)
judged_at_0 judged = (refl, refl)
