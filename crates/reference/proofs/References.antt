-- a_urban and a_ref are each THE number with its inequality, for every PMR from 5.0 to 600.0; and where they lie.
-- Assumes nothing.
use mathlib.Core.Path.{◌≡◌, refl}
use mathlib.Core.Bool.{Bool, true, false}
use Prim.Native.Nat.{ℕ, zero, suc, ◌+◌, ◌*◌, ◌^◌, ◌≤◌, ◌<◌}
use native.Mathlib.Nat.{add-zero, le_refl, lt_irrefl, le_trans, lt_of_le_of_lt, lt_of_lt_of_le, pow-le-pow_left}
use native.Mathlib.Omega.{arith}
use lib.Dec.{T, leb, ltb, leb→le, ltb→lt}
use borrow.Author.Tests.{ltb-true, ltb-false, lt-ltb, le-ltb}
use Rattle.units.specs.Tests.{lowest}
use Rattle.reference.specs.Reference.{between, a_urban, a_ref}
use Rattle.reference.proofs.Powers.{tests, between_unique, lowest_between}

-- q has an N from `low` to below `top`
record Has (e from q low top : ℕ) : Type 0 where
  N : ℕ
  least : low ≤ N
  most : N < top
  holds : T (between e from (from + 2) q N)

-- a power of q between two powers of ten has an N: the exponents are two apart from one N to the next
bracketed : (e from q low : ℕ) → 10 ^ (2 * low + from) ≤ q ^ e → (n : ℕ) → q ^ e < 10 ^ (2 * (low + n) + from) → Has e from q low (low + n)
unfolding between
bracketed e from q low l zero m = absurd (lt_irrefl _ (lt_of_lt_of_le (rw add-zero at m) l))
bracketed e from q low l (suc n) m = by (ltb (q ^ e) (10 ^ (2 * (low + n) + from))) refl (bracketed e from q low l n)
  where
    by : (b : Bool) → ltb (q ^ e) (10 ^ (2 * (low + n) + from)) ≡ b → (q ^ e < 10 ^ (2 * (low + n) + from) → Has e from q low (low + n)) → Has e from q low (low + suc n)
    by true t lower =
        let r = lower (ltb-true (q ^ e) (10 ^ (2 * (low + n) + from)) t) in
        record { N = r.N; least = r.least; most = omega (arith, r.most); holds = r.holds }
    by false t lower =
        let next : 2 * (low + suc n) + from ≡ 2 * (low + n) + (from + 2) = omega arith in
        record {
          N = low + n;
          least = omega arith;
          most = omega arith;
          holds = tests (10 ^ (2 * (low + n) + from)) (q ^ e) (q ^ e) (10 ^ (2 * (low + n) + (from + 2))) (ltb-false (q ^ e) (10 ^ (2 * (low + n) + from)) t) (rw next at m);
        }

-- ---- what the definitions find

-- r is the N of q: it has its inequality, no other has, and it lies from `low` to `high`
pub record The (e from to q low high r : ℕ) : Type 0 where
  pub holds : T (between e from to q r)
  pub alone : (N : ℕ) → T (between e from to q N) → N ≡ r
  pub least : low ≤ r
  pub most : r ≤ high

the : (e from q low high : ℕ) → high < 400 → Has e from q low (suc high) → The e from (from + 2) q low high (lowest (between e from (from + 2) q) 400 0)
the e from q low high small h =
    let is = lowest_between e from (from + 2) q (le_refl (from + 2)) h.N h.holds (omega (arith, h.most)) in
    rw is (record { holds = h.holds; alone = λ N t. between_unique e from (from + 2) q (le_refl (from + 2)) N h.N t h.holds; least = h.least; most = omega (arith, h.most) })

module _ (q : ℕ) where
  reach : (e from low n first last : ℕ) → T (leb (10 ^ (2 * low + from)) (first ^ e)) → T (ltb (last ^ e) (10 ^ (2 * (low + n) + from))) → first ≤ q → q ≤ last → Has e from q low (low + n)
  reach e from low n first last l m lo hi =
      bracketed e from q low (le_trans (leb→le (10 ^ (2 * low + from)) (first ^ e) l) (pow-le-pow_left lo e)) n
      (lt_of_le_of_lt (pow-le-pow_left hi e) (ltb→lt (last ^ e) (10 ^ (2 * (low + n) + from)) m))

  pub a_urban_the : 50 ≤ q → q ≤ 6000 → The 126 143 145 q 35 166 (a_urban q)
  unfolding a_urban
  a_urban_the lo hi = the 126 143 q 35 166 (omega arith) (reach 126 143 35 132 50 6000 tt tt lo hi)

  pub a_ref_the : 250 ≤ q → q ≤ 6000 → The 318 599 601 q 81 301 (a_ref q)
  unfolding a_ref
  a_ref_the lo hi = rw (le-ltb q 250 lo) (the 318 599 q 81 301 (omega arith) (reach 318 599 81 221 250 6000 tt tt lo hi))

  pub a_ref_low : q < 250 → a_ref q ≡ a_urban q
  unfolding a_ref
  a_ref_low h = rw (lt-ltb q 250 h)

  -- a_ref is never above 3.01
  pub a_ref_most : 50 ≤ q → q ≤ 6000 → a_ref q ≤ 301
  a_ref_most lo hi = by (ltb q 250) refl
    where
      by : (b : Bool) → ltb q 250 ≡ b → a_ref q ≤ 301
      by true e = omega (arith, a_ref_low (ltb-true q 250 e), (a_urban_the lo hi).most)
      by false e = (a_ref_the (ltb-false q 250 e) hi).most
