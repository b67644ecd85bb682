-- Fractions of whole numbers, none below 0: a difference that would be is 0.
use Rattle.std.specs.Prelude.{Bool, cond, ℕ, ◌+◌, ◌-◌, ◌*◌, ◌≤◌, ◌<◌, ltb}

infixl 65 ◌⊕◌
infixl 65 ◌⊖◌
infixl 70 ◌⊗◌
infix 75 ◌over◌
infix 50 ◌≼◌
pub record Frac : Type 0 where
  pub num : ℕ
  pub den : ℕ

abbrev pub ◌over◌ : ℕ → ℕ → Frac
n over d = record { num = n; den = d }

unfoldable pub ◌⊕◌ : Frac → Frac → Frac
f ⊕ g = (f.num * g.den + g.num * f.den) over (f.den * g.den)

unfoldable pub ◌⊖◌ : Frac → Frac → Frac
f ⊖ g = (f.num * g.den - g.num * f.den) over (f.den * g.den)

unfoldable pub ◌⊗◌ : Frac → Frac → Frac
f ⊗ g = (f.num * g.num) over (f.den * g.den)

-- f < g, as a test
unfoldable pub below : Frac → Frac → Bool
below f g = ltb (f.num * g.den) (g.num * f.den)

-- f ≤ g, and both are fractions: neither divides by 0
unfoldable pub ◌≼◌ : Frac → Frac → Type 0
f ≼ g = (0 < f.den) × (0 < g.den) × (f.num * g.den ≤ g.num * f.den)

-- the larger of two
unfoldable pub larger : Frac → Frac → Frac
larger f g = cond (below f g) g f

-- |f − g|: one of the two differences is 0
unfoldable pub apart : Frac → Frac → Frac
apart f g = (f ⊖ g) ⊕ (g ⊖ f)
