-- A list of numbers whose keys rise is told by which numbers are in it. Assumes nothing.
use mathlib.Core.Path.{◌≡◌, refl, sym, ap, ap₂, ◌∙◌}
use mathlib.Core.Bool.{Bool, true, false, ◌||◌, true≢false}
use mathlib.Core.List.{List, [], ◌∷◌}
use Prim.Native.Nat.{ℕ, ◌+◌, ◌≤◌, ◌<◌}
use native.Mathlib.Omega.{arith}
use lib.Dec.{eqb}
use borrow.Author.Tests.{eqb-true, eqb-false, eq-eqb, ne_eqb}
use Rattle.units.specs.Tests.{among}
use Rattle.units.proofs.Among.{listed}

module _ (key : ℕ → ℕ) where
  -- keys rise, the first at least `low`
  unfoldable pub Rises : ℕ → List ℕ → Type 0
  Rises low [] = Unit {0}
  Rises low (x ∷ xs) = (low ≤ key x) × Rises (key x + 1) xs

  pub rises_later : (high low : ℕ) (xs : List ℕ) → low ≤ high → Rises high xs → Rises low xs
  unfolding Rises
  rises_later high low [] h r = tt
  rises_later high low (x ∷ xs) h r = (omega (arith, r.0), r.1)

  at_least : (low : ℕ) (xs : List ℕ) (n : ℕ) → Rises low xs → among n xs ≡ true → low ≤ key n
  unfolding Rises among
  at_least low [] n r e = absurd (true≢false (sym e))
  at_least low (x ∷ xs) n r e = by (eqb n x) refl e (at_least (key x + 1) xs n r.1)
    where
      by : (b : Bool) → eqb n x ≡ b → (b || among n xs) ≡ true → (among n xs ≡ true → key x + 1 ≤ key n) → low ≤ key n
      by true q f above = rw (eqb-true n x q) r.0
      by false q f above = omega (arith, r.0, above f)

  -- a number of a list that begins with x is x, or its key is higher
  or_higher : (low x : ℕ) (xs : List ℕ) (n : ℕ) → Rises low (x ∷ xs) → among n (x ∷ xs) ≡ true → eqb n x ≡ false → key x < key n
  unfolding Rises among
  or_higher low x xs n r e q = omega (arith, at_least (key x + 1) xs n r.1 (rw q at e))

  -- the first number is not among the others
  not_again : (low x : ℕ) (xs : List ℕ) → Rises low (x ∷ xs) → among x xs ≡ false
  unfolding Rises
  not_again low x xs r = by (among x xs) refl
    where
      by : (b : Bool) → among x xs ≡ b → b ≡ false
      by true e = absurd (let none : ⊥ = omega (arith, at_least (key x + 1) xs x r.1 e) in none)
      by false e = refl

  pub one_list : (low : ℕ) (xs ys : List ℕ) → Rises low xs → Rises low ys → ((n : ℕ) → among n xs ≡ among n ys) → xs ≡ ys
  unfolding Rises among
  one_list low [] [] r r' same = refl
  one_list low [] (y ∷ ys) r r' same = absurd (true≢false (sym (same y ∙ ap (λ (b : Bool). b || among y ys) (eq-eqb y y refl))))
  one_list low (x ∷ xs) [] r r' same = absurd (true≢false (sym (ap (λ (b : Bool). b || among x xs) (eq-eqb x x refl)) ∙ same x))
  one_list low (x ∷ xs) (y ∷ ys) r r' same = let e = heads (eqb x y) refl in ap₂ ◌∷◌ e (one_list (key x + 1) xs ys r.1 (rw e r'.1) (λ n. tails e n (eqb n x) refl))
    where
      heads : (b : Bool) → eqb x y ≡ b → x ≡ y
      heads true q = eqb-true x y q
      heads false q =
          let in_both : among x (y ∷ ys) ≡ true = sym (same x) ∙ listed (x ∷ xs) 0 (omega arith) in
          let in_first : among y (x ∷ xs) ≡ true = same y ∙ listed (y ∷ ys) 0 (omega arith) in
          let other : eqb y x ≡ false = ne_eqb y x (λ e. eqb-false x y q (sym e)) in
          absurd (let none : ⊥ = omega (arith, or_higher low y ys x r' in_both q, or_higher low x xs y r in_first other) in none)

      tails : x ≡ y → (n : ℕ) (b : Bool) → eqb n x ≡ b → among n xs ≡ among n ys
      tails e n true q =
          let here = eqb-true n x q in
          ap (λ (m : ℕ). among m xs) here ∙ not_again low x xs r ∙ sym (ap (λ (m : ℕ). among m ys) (here ∙ e) ∙ not_again low y ys r')
      tails e n false q =
          ap (λ (b : Bool). b || among n xs) (sym q) ∙ same n ∙ ap (λ (b : Bool). b || among n ys) (ap (eqb n) (sym e) ∙ q)
