-- The digits of a number, as the library writes them, and numbers in a row. Assumes nothing.
use mathlib.Core.Path.{◌≡◌, refl, sym, ap, ◌∙◌}
use mathlib.Core.List.{List, [], ◌∷◌, ◌++◌, append_assoc, append-nil}
use Prim.Native.Nat.{ℕ, zero, suc, ◌+◌, ◌-◌, ◌/◌, ◌%◌, ◌^◌, ◌≤◌, ◌<◌}
use native.Mathlib.Nat.{not-suc-le-zero}
use native.Mathlib.Numerals.{add-one}
use native.Mathlib.Omega.{arith}
use lib.ListN.{length, take, get_or}
use lib.Seq.{take_all}
use borrow.Author.Tests.{lt-ltb, le-ltb}
use Rattle.std.specs.Fmt.{decimal}
use Rattle.std.proofs.lemmas.Fmt.{AppendsLastDigit, decimal_from_appends, length-decimal-le}
use Rattle.text.specs.Text.{digits_of, decimal_of, spaced, line_with}

-- ---- a number

pub one_digit : (most n : ℕ) → 1 ≤ most → n < 10 → digits_of most n ≡ (48 + n) ∷ []
unfolding digits_of
one_digit zero n h small = absurd (not-suc-le-zero h)
one_digit (suc most) n h small = simp (lt-ltb n 10 small)

pub more_digits : (most n : ℕ) → 1 ≤ most → 10 ≤ n → digits_of most n ≡ digits_of (most - 1) (n / 10) ++ ((48 + n % 10) ∷ [])
unfolding digits_of
more_digits zero n h large = absurd (not-suc-le-zero h)
more_digits (suc most) n h large =
    let pred : suc most - 1 ≡ most = omega arith in
    simp (le-ltb n 10 large, pred)

appends : AppendsLastDigit digits_of
appends =
    record {
      one = λ k n h. one_digit (suc k) n (omega arith) h;
      more = λ k n h. let pred : suc k - 1 ≡ k = omega arith in rw pred at (more_digits (suc k) n (omega arith) h);
    }

pub at_most_20 : (n : ℕ) → n < 2 ^ 64 → length (decimal n) ≤ 20
at_most_20 n h = length-decimal-le 20 n (omega arith) (omega arith) h

-- what the library writes of a number of 64 bits
pub written : (n : ℕ) → n < 2 ^ 64 → decimal n ≡ decimal_of n
unfolding decimal_of
written n h = sym (decimal_from_appends digits_of appends 20 n h (at_most_20 n h))

-- ---- numbers, as `put_line` takes them

pub one_more : (s ns : List ℕ) (n : ℕ) → n < length ns → spaced s (take (n + 1) ns) ≡ (spaced s (take n ns) ++ (32 ∷ [])) ++ decimal_of (get_or ns n 0)
unfolding spaced
one_more s [] n h = absurd (not-suc-le-zero h)
one_more s (x ∷ ns) zero h = refl
one_more s (x ∷ ns) (suc n) h = rw (add-one (suc n)) (rw (add-one n) at (one_more ((s ++ (32 ∷ [])) ++ decimal_of x) ns n (omega arith)))

pub all_of : (s ns : List ℕ) (n : ℕ) → length ns ≤ n → spaced s (take n ns) ≡ spaced s ns
all_of s ns n h = rw (take_all n ns h)

-- what stands in front stays in front
pub in_front : (s t ns : List ℕ) → s ++ spaced t ns ≡ spaced (s ++ t) ns
unfolding spaced
in_front s t [] = refl
in_front s t (n ∷ ns) =
    in_front s ((t ++ (32 ∷ [])) ++ decimal_of n) ns
    ∙ ap (λ (l : List ℕ). spaced l ns) (sym (ap (λ (l : List ℕ). l ++ decimal_of n) (append_assoc s t (32 ∷ [])) ∙ append_assoc s (t ++ (32 ∷ [])) (decimal_of n)))

-- a line's word, and what stands behind it
pub parted : (word ns : List ℕ) → line_with word ns ≡ word ++ (spaced [] ns ++ (10 ∷ []))
unfolding line_with
parted word ns =
    ap (λ (l : List ℕ). l ++ (10 ∷ [])) (sym (in_front word [] ns ∙ ap (λ (l : List ℕ). spaced l ns) (append-nil word)))
    ∙ append_assoc word (spaced [] ns) (10 ∷ [])
