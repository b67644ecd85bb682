-- Laws of tests: where every test passes, each does; a choice by a test; the marks of numbers. Assumes nothing.
use mathlib.Core.Path.{◌≡◌, refl, sym, ap, ◌∙◌}
use mathlib.Core.Bool.{Bool, true, false, cond, ◌&&◌, ◌||◌, true≢false}
use mathlib.Core.List.{List, [], ◌∷◌}
use Prim.Native.Nat.{ℕ, zero, suc, ◌+◌, ◌<◌}
use native.Mathlib.Nat.{not-suc-le-zero}
use native.Mathlib.Omega.{arith}
use lib.Dec.{T}
use lib.Ieee.Fits.{and_l, and_r}
use lib.ListN.{length, get_or}
use Rattle.units.specs.Tests.{marks, all_of}

pub each : (tests : List Bool) → T (all_of tests) → (k : ℕ) → T (get_or tests k true)
each [] t k = tt
each (b ∷ tests) t zero = and_l b (all_of tests) t
each (b ∷ tests) t (suc k) = each tests (and_r b (all_of tests) t) k

-- what a choice by a test gives has a property if each of its two cases has
pub by_test : {A : Type 0} (P : A → Type 0) (b : Bool) (yes' no' : A) → (b ≡ true → P yes') → (b ≡ false → P no') → P (cond b yes' no')
by_test P true yes' no' p q = p refl
by_test P false yes' no' p q = q refl

-- ---- two tests

pub both : (p q : Bool) → (p && q) ≡ true → (p ≡ true) × (q ≡ true)
both true q e = (refl, e)
both false q e = absurd (true≢false (sym e))

pub neither : (p q : Bool) → (p || q) ≡ false → (p ≡ false) × (q ≡ false)
neither true q e = absurd (true≢false e)
neither false q e = (refl, e)

-- ---- the marks of numbers

pub marks_long : (test : ℕ → Bool) (count n : ℕ) → length (marks test count n) ≡ count
unfolding marks
marks_long test zero n = refl
marks_long test (suc count) n = ap suc (marks_long test count (n + 1))

pub marks_at : (test : ℕ → Bool) (count n k : ℕ) → k < count → get_or (marks test count n) k false ≡ test (n + k)
unfolding marks
marks_at test zero n k h = absurd (not-suc-le-zero h)
marks_at test (suc count) n zero h = ap test (omega arith)
marks_at test (suc count) n (suc k) h = marks_at test count (n + 1) k (omega arith) ∙ ap test (omega arith)
