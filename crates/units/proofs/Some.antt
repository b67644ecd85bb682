-- Laws of `some`, over the numbers from i to before `end`. Assumes nothing.
use mathlib.Core.Path.{◌≡◌, refl, ap, ◌∙◌}
use mathlib.Core.Bool.{Bool, true, false, ◌||◌}
use Prim.Native.Nat.{ℕ, zero, suc, ◌+◌, ◌-◌, ◌≤◌, ◌<◌}
use native.Mathlib.Numerals.{add-one}
use native.Mathlib.Omega.{arith}
use lib.Dec.{ltb}
use borrow.Author.Tests.{lt-ltb, le-ltb}
use Rattle.units.specs.Tests.{lowest, some}
use Rattle.units.proofs.Lowest.{lowest_here, lowest_next}

module _ (test : ℕ → Bool) (end i : ℕ) where
  pub some_step : i < end → some test (end - i) i ≡ (test i || some test (end - (i + 1)) (i + 1))
  unfolding some
  some_step h = let more : end - i ≡ suc (end - (i + 1)) = omega arith in rw more

  pub some_here : i < end → test i ≡ true → some test (end - i) i ≡ true
  some_here h e = some_step h ∙ ap (λ (t : Bool). t || some test (end - (i + 1)) (i + 1)) e

  pub some_next : i < end → test i ≡ false → some test (end - i) i ≡ some test (end - (i + 1)) (i + 1)
  some_next h e = some_step h ∙ ap (λ (t : Bool). t || some test (end - (i + 1)) (i + 1)) e

  pub some_end : end ≤ i → some test (end - i) i ≡ false
  unfolding some
  some_end h = let none : end - i ≡ 0 = omega arith in rw none

-- one passes if the lowest is not past the last
pub some-lowest : (test : ℕ → Bool) (count n : ℕ) → ltb (lowest test count n) (n + count) ≡ some test count n
unfolding lowest some
some-lowest test zero n = le-ltb n (n + 0) (omega arith)
some-lowest test (suc count) n = by (test n) refl (some-lowest test count (suc n))
  where
    by : (b : Bool) → test n ≡ b → ltb (lowest test count (suc n)) (suc n + count) ≡ some test count (suc n) → ltb (lowest test (suc count) n) (n + suc count) ≡ (test n || some test count (n + 1))
    by true e others = rw (lowest_here test count n e, e) (lt-ltb n (n + suc count) (omega arith))
    by false e others =
        let same : n + suc count ≡ suc n + count = omega arith in
        rw (lowest_next test count n e, e, same, add-one n) others
