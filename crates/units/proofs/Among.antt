-- Which numbers a list has: those at its places, and those with one number more at its end. Assumes nothing.
use mathlib.Core.Path.{◌≡◌, refl, sym, ap, ◌∙◌}
use mathlib.Core.Bool.{Bool, true, false, ◌||◌, or-true, or-false, or_assoc}
use mathlib.Core.List.{List, [], ◌∷◌, ◌++◌}
use mathlib.Core.Logic.{◌⊎◌, inl, inr}
use Prim.Native.Nat.{ℕ, zero, suc, ◌<◌}
use native.Mathlib.Nat.{le_of_suc-le-suc, not-suc-le-zero}
use lib.Dec.{eqb}
use lib.ListN.{length, get_or}
use borrow.Author.Tests.{eqb-true, eq-eqb}
use Rattle.units.specs.Tests.{among}

-- what stands at a place of a list is one of it
pub listed : (xs : List ℕ) (p : ℕ) → p < length xs → among (get_or xs p 0) xs ≡ true
unfolding among
listed [] p h = absurd (not-suc-le-zero h)
listed (x ∷ xs) zero h = ap (λ (b : Bool). b || among x xs) (eq-eqb x x refl)
listed (x ∷ xs) (suc p) h = by (eqb (get_or xs p 0) x) (listed xs p (le_of_suc-le-suc h))
  where
    by : (b : Bool) → among (get_or xs p 0) xs ≡ true → (b || among (get_or xs p 0) xs) ≡ true
    by true e = refl
    by false e = e

-- with one number more at its end, a list has that number and those that it had
among_end : (n : ℕ) (xs : List ℕ) (y : ℕ) → among n (xs ++ y ∷ []) ≡ (among n xs || eqb n y)
unfolding among
among_end n [] y = or-false (eqb n y)
among_end n (x ∷ xs) y = ap (λ (b : Bool). eqb n x || b) (among_end n xs y) ∙ sym (or_assoc (eqb n x) (among n xs) (eqb n y))

pub still_among : (n : ℕ) (xs : List ℕ) (y : ℕ) → among n xs ≡ true → among n (xs ++ y ∷ []) ≡ true
still_among n xs y e = among_end n xs y ∙ ap (λ (b : Bool). b || eqb n y) e

pub end_among : (xs : List ℕ) (y : ℕ) → among y (xs ++ y ∷ []) ≡ true
end_among xs y = among_end y xs y ∙ ap (λ (b : Bool). among y xs || b) (eq-eqb y y refl) ∙ or-true (among y xs)

pub before_or_end : (n : ℕ) (xs : List ℕ) (y : ℕ) → among n (xs ++ y ∷ []) ≡ true → (among n xs ≡ true) ⊎ (n ≡ y)
before_or_end n xs y e = by (among n xs) refl (sym (among_end n xs y) ∙ e)
  where
    by : (b : Bool) → among n xs ≡ b → (b || eqb n y) ≡ true → (among n xs ≡ true) ⊎ (n ≡ y)
    by true q h = inl q
    by false q h = inr (eqb-true n y h)
