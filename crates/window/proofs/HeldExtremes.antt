-- Extremes of levels: those of one level, those of one level more, and the span of four. A list has one pair of extremes. Assumes nothing.
use mathlib.Core.Path.{◌≡◌, refl, ap₂, ◌∙◌}
use mathlib.Core.Bool.{true, false≢true}
use mathlib.Core.List.{List, [], ◌∷◌, ◌++◌}
use mathlib.Core.Logic.{◌⊎◌, inl, inr}
use Prim.Native.Nat.{ℕ, ◌+◌, ◌≤◌, max, min}
use native.Mathlib.Nat.{le_refl, le_trans, le_antisymm}
use native.Mathlib.Omega.{arith, max_cases, min_cases}
use lib.Dec.{leb}
use Rattle.units.specs.Tests.{among}
use Rattle.units.specs.declared.Tenths.{Tenths}
use Rattle.units.proofs.Among.{still_among, end_among, before_or_end}
use Rattle.window.specs.declared.Extremes.{Extremes}
use Rattle.window.specs.Extremes.{AreExtremes}
use Rattle.window.specs.Windows.{spanned}

-- ---- one extreme, the greatest or the least: a level of the list to which each of them has the relation R

record Extreme (R : ℕ → ℕ → Type 0) (levels : List ℕ) (x : ℕ) : Type 0 where
  is_read : among x levels ≡ true
  bounds : (y : ℕ) → among y levels ≡ true → R y x

-- of the extreme so far and a level more, the one to which both have the relation
further : (R : ℕ → ℕ → Type 0) → ((x y z : ℕ) → R x y → R y z → R x z) → (levels : List ℕ) (held level x : ℕ) → (x ≡ held) ⊎ (x ≡ level) → R held x → R level x → Extreme R levels held → Extreme R (levels ++ level ∷ []) x
further R through levels held level x which h l e = record { is_read = is which; bounds = λ y a. by y (before_or_end y levels level a) }
  where
    is : (x ≡ held) ⊎ (x ≡ level) → among x (levels ++ level ∷ []) ≡ true
    is (inl q) = rw q (still_among held levels level e.is_read)
    is (inr q) = rw q (end_among levels level)

    by : (y : ℕ) → (among y levels ≡ true) ⊎ (y ≡ level) → R y x
    by y (inl a) = through y held x (e.bounds y a) h
    by y (inr q) = rw q l

-- ---- both

module _ (levels : List ℕ) (e : Extremes) where
  greatest_is : AreExtremes levels e → Extreme (λ y x. y ≤ x) levels e.greatest.0
  greatest_is h = record { is_read = h.greatest_read; bounds = h.none_above }

  least_is : AreExtremes levels e → Extreme (λ y x. x ≤ y) levels e.least.0
  least_is h = record { is_read = h.least_read; bounds = h.none_below }

  both_are : Extreme (λ y x. y ≤ x) levels e.greatest.0 → Extreme (λ y x. x ≤ y) levels e.least.0 → AreExtremes levels e
  both_are g l = record { greatest_read = g.is_read; none_above = g.bounds; least_read = l.is_read; none_below = l.bounds }

-- an empty list has no extremes
pub no_extremes : (e : Extremes) → AreExtremes [] e → ⊥
unfolding among
no_extremes e h = false≢true h.greatest_read

-- the first level is both
pub first_extremes : (level : Tenths) → AreExtremes (level.0 ∷ []) (record { greatest = level; least = level })
unfolding among
first_extremes level = both_are (level.0 ∷ []) (record { greatest = level; least = level }) (alone (λ y x. y ≤ x) (le_refl level.0)) (alone (λ y x. x ≤ y) (le_refl level.0))
  where
    alone : (R : ℕ → ℕ → Type 0) → R level.0 level.0 → Extreme R (level.0 ∷ []) level.0
    alone R r = record { is_read = end_among [] level.0; bounds = λ y a. by y (before_or_end y [] level.0 a) }
      where
        by : (y : ℕ) → (among y [] ≡ true) ⊎ (y ≡ level.0) → R y level.0
        by y (inl a) = absurd (false≢true a)
        by y (inr q) = rw q r

-- one level more: the greater of it and the greatest, the lesser of it and the least
pub next_extremes : (others : List ℕ) (level : ℕ) (held e : Extremes) → e.greatest.0 ≡ max held.greatest.0 level → e.least.0 ≡ min held.least.0 level → AreExtremes others held → AreExtremes (others ++ level ∷ []) e
next_extremes others level held e g l h =
    both_are (others ++ level ∷ []) e
    (rw g (further (λ y x. y ≤ x) (λ x y z p q. le_trans p q) others held.greatest.0 level _ (max_cases _ _ _ (λ h q. inr q) (λ h q. inl q)) (omega arith) (omega arith) (greatest_is others held h)))
    (rw l (further (λ y x. x ≤ y) (λ x y z p q. le_trans q p) others held.least.0 level _ (min_cases _ _ _ (λ h q. inl q) (λ h q. inr q)) (omega arith) (omega arith) (least_is others held h)))

-- a list has one pair of extremes
pub one_pair : (levels : List ℕ) (e e' : Extremes) → AreExtremes levels e → AreExtremes levels e' → (e.greatest.0 ≡ e'.greatest.0) × (e.least.0 ≡ e'.least.0)
one_pair levels e e' h h' =
    (le_antisymm (h'.none_above _ h.greatest_read) (h.none_above _ h'.greatest_read), le_antisymm (h.none_below _ h'.least_read) (h'.none_below _ h.least_read))

-- ---- four levels

max_assoc : (m c d : ℕ) → max (max m c) d ≡ max m (max c d)
max_assoc m c d = omega arith

min_assoc : (m c d : ℕ) → min (min m c) d ≡ min m (min c d)
min_assoc m c d = omega arith

abbrev pub extremes : ℕ → ℕ → Extremes
extremes high low = record { greatest = record { 0 = high }; least = record { 0 = low } }

four_extremes : (a b c d : ℕ) → AreExtremes (a ∷ b ∷ c ∷ d ∷ []) (extremes (max (max (max a b) c) d) (min (min (min a b) c) d))
four_extremes a b c d =
    next_extremes (a ∷ b ∷ c ∷ []) d _ _ refl refl
    (next_extremes (a ∷ b ∷ []) c _ _ refl refl
    (next_extremes (a ∷ []) b _ _ refl refl
    (first_extremes (record { 0 = a }))))

-- the extremes of four levels decide whether they span at most 2.0 dB
pub four_span : (a b c d : ℕ) (e : Extremes) → AreExtremes (a ∷ b ∷ c ∷ d ∷ []) e → leb e.greatest.0 (e.least.0 + 20) ≡ spanned a b c d
unfolding spanned
four_span a b c d e h =
    let same = one_pair (a ∷ b ∷ c ∷ d ∷ []) e _ h (four_extremes a b c d) in
    ap₂ (λ (g l : ℕ). leb g (l + 20)) (same.0 ∙ max_assoc (max a b) c d) (same.1 ∙ min_assoc (min a b) c d)
