-- Laws of `lowest`: one step, what it says when it finds a number and when it finds none, and the one number that passes.
-- Assumes nothing.
use mathlib.Core.Path.{◌≡◌, refl, sym, ap, ◌∙◌}
use mathlib.Core.Bool.{Bool, true, false, true≢false}
use Prim.Native.Nat.{ℕ, zero, suc, ◌+◌, ◌-◌, ◌≤◌, ◌<◌}
use native.Mathlib.Nat.{le_antisymm, lt_of_le_of_lt, lt_of_lt_of_le}
use native.Mathlib.Numerals.{add-one}
use native.Mathlib.Omega.{arith}
use lib.Dec.{T, leb}
use borrow.Author.Tests.{leb-true, leb-false}
use Rattle.units.specs.Tests.{lowest, FirstOf, NoneOf}

module _ (test : ℕ → Bool) where
  -- ---- one step

  pub lowest_here : (count n : ℕ) → test n ≡ true → lowest test (suc count) n ≡ n
  unfolding lowest
  lowest_here count n e = rw (e, lowest)

  pub lowest_next : (count n : ℕ) → test n ≡ false → lowest test (suc count) n ≡ lowest test count (suc n)
  unfolding lowest
  lowest_next count n e = rw (e, lowest)

  -- ---- the numbers from n to before `end`

  pub lowest_found : (end n : ℕ) → n < end → test n ≡ true → lowest test (end - n) n ≡ n
  lowest_found end n h e = let more : end - n ≡ suc (end - (n + 1)) = omega arith in rw more (lowest_here (end - (n + 1)) n e)

  pub lowest_passed : (end n : ℕ) → n < end → test n ≡ false → lowest test (end - n) n ≡ lowest test (end - (n + 1)) (n + 1)
  lowest_passed end n h e = let more : end - n ≡ suc (end - (n + 1)) = omega arith in rw (more, add-one n) (lowest_next (end - suc n) n e)

  pub lowest_past : (end n : ℕ) → end ≤ n → lowest test (end - n) n ≡ n
  unfolding lowest
  lowest_past end n h = let none : end - n ≡ 0 = omega arith in ap (λ (k : ℕ). lowest test k n) none

  -- ---- a loop from 0 to before `end`: none of the numbers before i passes, so what is left decides

  pub Passed : ℕ → ℕ → Type 0
  Passed end i = lowest test end 0 ≡ lowest test (end - i) i

  pub passed_start : (end : ℕ) → Passed end 0
  unfolding Passed
  passed_start end = let all : end ≡ end - 0 = omega arith in ap (λ (n : ℕ). lowest test n 0) all

  pub passed_next : (end i : ℕ) → i < end → test i ≡ false → Passed end i → Passed end (i + 1)
  unfolding Passed
  passed_next end i h e p = p ∙ lowest_passed end i h e

  pub passed_stop : (end i : ℕ) → i < end → test i ≡ true → Passed end i → lowest test end 0 ≡ i
  unfolding Passed
  passed_stop end i h e p = p ∙ lowest_found end i h e

  pub passed_end : (end i : ℕ) → end ≤ i → Passed end i → lowest test end 0 ≡ i
  unfolding Passed
  passed_end end i h p = p ∙ lowest_past end i h

  -- ---- what it finds: no number before it passes, and it passes itself unless it is past the last

  pub record Lowest (count n r : ℕ) : Type 0 where
    pub least : n ≤ r
    pub most : r ≤ n + count
    pub before : (k : ℕ) → n ≤ k → k < r → test k ≡ false
    pub passes : r < n + count → test r ≡ true

  pub found : (count n : ℕ) → Lowest count n (lowest test count n)
  unfolding lowest
  found zero n = record { least = omega arith; most = omega arith; before = λ k l m. absurd (omega arith); passes = λ h. absurd (omega arith) }
  found (suc count) n = by (test n) refl (found count (suc n))
    where
      by : (b : Bool) → test n ≡ b → Lowest count (suc n) (lowest test count (suc n)) → Lowest (suc count) n (lowest test (suc count) n)
      by true e others =
          rw (lowest_here count n e) (record { least = omega arith; most = omega arith; before = λ k l m. absurd (omega arith); passes = λ h. e })
      by false e others =
          rw (lowest_next count n e)
          (record {
            least = omega (arith, others.least);
            most = omega (arith, others.most);
            before = λ k l m. split k (leb k n) refl l m;
            passes = λ h. others.passes (omega arith);
          })
        where
          split : (k : ℕ) (b : Bool) → leb k n ≡ b → n ≤ k → k < lowest test count (suc n) → test k ≡ false
          split k true f l m = let same : k ≡ n = le_antisymm (leb-true k n f) l in rw same e
          split k false f l m = others.before k (leb-false k n f) m

  -- it is not past a number that passes
  pub lowest_most : (count n k : ℕ) → n ≤ k → test k ≡ true → lowest test count n ≤ k
  lowest_most count n k l p = by (leb (lowest test count n) k) refl
    where
      by : (b : Bool) → leb (lowest test count n) k ≡ b → lowest test count n ≤ k
      by true e = leb-true (lowest test count n) k e
      by false e = absurd (true≢false (sym p ∙ (found count n).before k l (leb-false (lowest test count n) k e)))

  -- a number with these properties is the lowest
  pub lowest_is : (count n r : ℕ) → Lowest count n r → lowest test count n ≡ r
  lowest_is count n r l = le_antisymm (not_past r (lowest test count n) l (found count n)) (not_past (lowest test count n) r (found count n) l)
    where
      clash : (x : ℕ) → test x ≡ true → test x ≡ false → ⊥
      clash x p q = true≢false (sym p ∙ q)

      not_past : (x y : ℕ) → Lowest count n x → Lowest count n y → y ≤ x
      not_past x y p q = by (leb y x) refl
        where
          by : (b : Bool) → leb y x ≡ b → y ≤ x
          by true e = leb-true y x e
          by false e =
              let h = leb-false y x e in
              absurd (clash x (p.passes (lt_of_lt_of_le h q.most)) (q.before x p.least h))

  -- ---- the first number that passes, and that none does, are told by it

  pub first_is_lowest : (count n r : ℕ) → FirstOf test count n r → lowest test count n ≡ r
  first_is_lowest count n r f = lowest_is count n r (record { least = f.least; most = omega (arith, f.most); before = f.before; passes = λ h. f.holds })

  pub lowest_is_first : (count n : ℕ) → lowest test count n < n + count → FirstOf test count n (lowest test count n)
  lowest_is_first count n h = let l = found count n in record { least = l.least; most = h; holds = l.passes h; before = l.before }

  pub none_by_lowest : (count n : ℕ) → NoneOf test count n → lowest test count n ≡ n + count
  none_by_lowest count n none = lowest_is count n (n + count) (record { least = omega arith; most = omega arith; before = none; passes = λ h. absurd (omega arith) })

  pub lowest_by_none : (count n : ℕ) → n + count ≤ lowest test count n → NoneOf test count n
  lowest_by_none count n h m l u = (found count n).before m l (omega arith)

  -- the number that alone passes is the lowest that does
  pub lowest_alone : (N : ℕ) → T (test N) → ((M : ℕ) → T (test M) → M ≡ N) → (count n : ℕ) → n ≤ N → N < n + count → lowest test count n ≡ N
  lowest_alone N t alone count n lo hi =
      alone (lowest test count n) (rw (f.passes (lt_of_le_of_lt (under (leb (lowest test count n) N) refl) hi)) tt)
    where
      f : Lowest count n (lowest test count n)
      f = found count n

      failed : test N ≡ false → ⊥
      failed e = rw e at t

      under : (b : Bool) → leb (lowest test count n) N ≡ b → lowest test count n ≤ N
      under true e = leb-true (lowest test count n) N e
      under false e = absurd (failed (f.before N lo (leb-false (lowest test count n) N e)))

-- two tests that agree everywhere find the same number
pub lowest_same : (test other : ℕ → Bool) → ((n : ℕ) → test n ≡ other n) → (count n : ℕ) → lowest test count n ≡ lowest other count n
unfolding lowest
lowest_same test other same zero n = refl
lowest_same test other same (suc count) n = by (test n) refl (lowest_same test other same count (suc n))
  where
    by : (b : Bool) → test n ≡ b → lowest test count (suc n) ≡ lowest other count (suc n) → lowest test (suc count) n ≡ lowest other (suc count) n
    by true e rest = lowest_here test count n e ∙ sym (lowest_here other count n (sym (same n) ∙ e))
    by false e rest = lowest_next test count n e ∙ rest ∙ sym (lowest_next other count n (sym (same n) ∙ e))
