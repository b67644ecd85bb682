-- Laws of the tests of a record's fields. Assumes nothing.
use mathlib.Core.Path.{◌≡◌, refl, sym, ◌∙◌}
use mathlib.Core.Bool.{Bool, true, false, ◌&&◌}
use mathlib.Core.List.{List, [], ◌∷◌, ◌++◌}
use Prim.Native.Nat.{ℕ, zero, suc, ◌+◌, ◌≤◌, ◌<◌}
use native.Mathlib.Omega.{arith}
use lib.Dec.{T, leb, eqb, leb→le}
use lib.Ieee.Fits.{and_l, and_r}
use lib.ListN.{length, get_or, take, drop, length-take, length-drop, length-append, get_or-append}
use lib.Seq.{get_or-take, get_or-drop, get_or-append_seam}
use mathlib.Core.Logic.{◌↔◌}
use borrow.Author.Tests.{eqb-true, eq-eqb}
use Rattle.std.specs.List.{All}
use Rattle.std.proofs.lemmas.List.{get_or_default}
use Rattle.std.proofs.lemmas.List.Elements.{All-push}
use Rattle.units.proofs.Tests.{both}
use Rattle.record.specs.Records.{byte, within, zeros}

-- ---- the zero bytes

zeros_are : (r : List ℕ) (at n : ℕ) → zeros r at n ≡ true → (k : ℕ) → k < n → byte r (at + k) ≡ 0
unfolding zeros
zeros_are r at zero z k h = absurd (omega arith)
zeros_are r at (suc n) z zero h = let first : at + 0 ≡ at = omega arith in rw first (eqb-true (byte r at) 0 (both (eqb (byte r at) 0) (zeros r (at + 1) n) z).0)
zeros_are r at (suc n) z (suc k) h =
    let next : at + 1 + k ≡ at + suc k = omega arith in
    rw next at (zeros_are r (at + 1) n (both (eqb (byte r at) 0) (zeros r (at + 1) n) z).1 k (omega arith))

are_zeros : (r : List ℕ) (at n : ℕ) → ((k : ℕ) → k < n → byte r (at + k) ≡ 0) → zeros r at n ≡ true
unfolding zeros
are_zeros r at zero h = refl
are_zeros r at (suc n) h =
    rw (eq-eqb (byte r at) 0 (let first : at + 0 ≡ at = omega arith in rw first at (h 0 (omega arith)))) (are_zeros r (at + 1) n (λ k l. let next : at + suc k ≡ at + 1 + k = omega arith in rw next at (h (suc k) (omega arith))))

-- a test that is passed if each of the `count` bytes from `at` on is zero, and only then, decides as `zeros` does
pub zeros_decided : (b : Bool) (r : List ℕ) (at count : ℕ) → at + count ≤ length r → (b ≡ true) ↔ All (λ (x : ℕ). x ≡ 0) (take count (drop at r)) → b ≡ zeros r at count
zeros_decided b r at count long h = by b (zeros r at count) to from
  where
    whole : length (take count (drop at r)) ≡ count
    whole = simp (length-take, length-drop) (omega arith)

    part : (k : ℕ) → k < count → get_or (take count (drop at r)) k 0 ≡ byte r (at + k)
    part k l = get_or-take count (drop at r) k 0 l ∙ get_or-drop at r k 0

    to : b ≡ true → zeros r at count ≡ true
    to t = are_zeros r at count (λ k l. sym (part k l) ∙ h.0 t k 0 (omega (arith, whole)))

    from : zeros r at count ≡ true → b ≡ true
    from z = h.1 (λ k d l. let n : k < count = omega (arith, whole) in get_or_default (take count (drop at r)) k d 0 l ∙ part k n ∙ zeros_are r at count z k n)

    by : (p q : Bool) → (p ≡ true → q ≡ true) → (q ≡ true → p ≡ true) → p ≡ q
    by true q f g = sym (f refl)
    by false false f g = refl
    by false true f g = g refl

-- one byte more that is zero, or is not
pub zero_more : (ok next : Bool) (xs : List ℕ) (x : ℕ) → next ≡ (ok && eqb x 0) → (ok ≡ true) ↔ All (λ (y : ℕ). y ≡ 0) xs → (next ≡ true) ↔ All (λ (y : ℕ). y ≡ 0) (xs ++ (x ∷ []))
zero_more ok next xs x e h = (
  λ t. let b = both ok (eqb x 0) (sym e ∙ t) in All-push (λ (y : ℕ). y ≡ 0) xs x (h.0 b.0) (eqb-true x 0 b.1),
  λ all. let long : length (xs ++ (x ∷ [])) ≡ length xs + 1 = length-append xs (x ∷ []) in
      let before : ok ≡ true = h.1 (λ k d l. sym (get_or-append xs (x ∷ []) d k l) ∙ all k d (omega (arith, long))) in
      let last : x ≡ 0 = sym (get_or-append_seam xs x [] 0) ∙ all (length xs) 0 (omega (arith, long)) in
      rw (before, eq-eqb x 0 last) at e,
)

-- ---- what a test says of a number

pub inside : (low high x : ℕ) → T (within low high x) → (low ≤ x) × (x ≤ high)
inside low high x t = (leb→le low x (and_l (leb low x) (leb x high) t), leb→le x high (and_r (leb low x) (leb x high) t))
