-- The last number that passes a test. Assumes nothing.
use mathlib.Core.Path.{◌≡◌, refl}
use mathlib.Core.Bool.{Bool, true, false}
use Prim.Native.Nat.{ℕ, zero, suc, ◌-◌, ◌≤◌, ◌<◌}
use native.Mathlib.Nat.{le_antisymm}
use native.Mathlib.Omega.{arith}
use lib.Dec.{leb}
use borrow.Author.Tests.{leb-true, leb-false}
use Rattle.units.specs.Tests.{past_last}

module _ (test : ℕ → Bool) where
  pub last_here : (j : ℕ) → 0 < j → test (j - 1) ≡ true → past_last test j ≡ j
  unfolding past_last
  last_here zero h e = absurd (omega arith)
  last_here (suc m) h e = let same : suc m - 1 ≡ m = omega arith in let f : test m ≡ true = rw same at e in rw (f, past_last)

  pub last_before : (j : ℕ) → 0 < j → test (j - 1) ≡ false → past_last test j ≡ past_last test (j - 1)
  unfolding past_last
  last_before zero h e = absurd (omega arith)
  last_before (suc m) h e = let same : suc m - 1 ≡ m = omega arith in let f : test m ≡ false = rw same at e in rw (f, past_last, same)

  pub last_none : past_last test 0 ≡ 0
  unfolding past_last
  last_none = refl

  pub record Last (n r : ℕ) : Type 0 where
    pub most : r ≤ n
    pub passes : 0 < r → test (r - 1) ≡ true
    pub after : (k : ℕ) → r ≤ k → k < n → test k ≡ false

  pub last : (n : ℕ) → Last n (past_last test n)
  last zero = rw last_none (record { most = omega arith; passes = λ h. absurd (omega arith); after = λ k l m. absurd (omega arith) })
  last (suc m) = by (test m) refl (last m)
    where
      same : suc m - 1 ≡ m
      same = omega arith

      by : (b : Bool) → test m ≡ b → Last m (past_last test m) → Last (suc m) (past_last test (suc m))
      by true e others =
          rw (last_here (suc m) (omega arith) (rw same e))
          (record { most = omega arith; passes = λ h. rw same e; after = λ k l n. absurd (omega arith) })
      by false e others =
          rw (last_before (suc m) (omega arith) (rw same e), same)
          (record { most = omega (arith, others.most); passes = others.passes; after = λ k l n. split k (leb m k) refl l n })
        where
          split : (k : ℕ) (b : Bool) → leb m k ≡ b → past_last test m ≤ k → k < suc m → test k ≡ false
          split k true f l n = let eq : k ≡ m = le_antisymm (omega arith) (leb-true m k f) in rw eq e
          split k false f l n = others.after k l (leb-false m k f)
