-- The figure: the value that demand 3 compares L_urban with, reckoned with no rounding (document 01, second half of "L_urban"), Dk and Dp, and
-- demand 3, "Close, and rising", on the chosen gears. The figure starts from corrected tenths, PMR in tenths and accelerations in hundredths. It
-- and every level here are in dB.
use Rattle.std.specs.Prelude.{◌≡◌, cond, ℕ, ◌-◌, ◌≤◌, ◌<◌, ltb}
use Rattle.window.specs.declared.Four.{Four}
use Rattle.window.specs.Windows.{larger_sum}
use Rattle.reference.specs.declared.Reference.{Reference}
use Rattle.urban.specs.declared.ChosenGear.{ChosenGear}
use Rattle.urban.specs.declared.Chosen.{Chosen}
use Rattle.urban.specs.declared.Chosen.TheVariants.{One, Pair}
use Rattle.urban.specs.Urban.{a_of, Straddled, basis_of, outcome_of}
use Rattle.figure.specs.Fractions.{Frac, ◌over◌, ◌⊕◌, ◌⊖◌, ◌⊗◌, ◌≼◌, below, larger, apart}

-- ---- the figure

-- M: the larger of the two sides' means, from the larger sum of four tenths
unfoldable pub exact_mean : Four → Frac
exact_mean f = larger_sum f over 40

-- the two windows of a chosen gear
abbrev pub accelerating : ChosenGear → Four
accelerating g = g.acceleration_window

abbrev pub constant : ChosenGear → Four
constant g = g.constant_window

-- k of a pair: the part of the way from a(j) to a(i) at which a_ref stands
unfoldable pub exact_k : Reference → ChosenGear → ChosenGear → Frac
exact_k r i j = (r.a_ref.0 - a_of j) over (a_of i - a_of j)

-- M(j) + k × (M(i) − M(j)). One of the two differences is 0, and the other is what k adds, or takes off.
unfoldable pub exact_weighed : Frac → Frac → Frac → Frac
exact_weighed k i j = j ⊕ k ⊗ (i ⊖ j) ⊖ k ⊗ (j ⊖ i)

-- w and c, each from one of the windows: for one gear its M, for a pair weighed
unfoldable pub exact_level : (ChosenGear → Four) → Reference → Chosen → Frac
exact_level window r (One rule g) = exact_mean (window g)
exact_level window r (Pair rule i j) = exact_weighed (exact_k r i j) (exact_mean (window i)) (exact_mean (window j))

unfoldable pub exact_w : Reference → Chosen → Frac
exact_w r g = exact_level accelerating r g

unfoldable pub exact_c : Reference → Chosen → Frac
exact_c r g = exact_level constant r g

-- a': the gear's own acceleration, and a_ref for a pair
unfoldable pub a_prime : Reference → Chosen → ℕ
a_prime r (One rule g) = a_of g
a_prime r (Pair rule i j) = r.a_ref.0

-- kp: 1 − a_urban / a', and 0 for an a' below a_urban
unfoldable pub exact_kp : ℕ → ℕ → Frac
exact_kp a_urban a = cond (ltb a a_urban) (0 over 1) (1 over 1 ⊖ a_urban over a)

-- below PMR 25.0 the figure is w; from there on it is c where w is less, and w − kp × (w − c) otherwise
unfoldable pub figure : Reference → Chosen → Frac
figure r g =
    let w = exact_w r g in
    let c = exact_c r g in
    cond (ltb r.pmr 250) w (cond (below w c) c (w ⊖ exact_kp r.a_urban.0 (a_prime r g) ⊗ (w ⊖ c)))

-- Dk: how far the levels M of a pair's gears are apart, in the condition where that is more; 0 for one gear
unfoldable pub dk : Chosen → Frac
dk (One rule g) = 0 over 1
dk (Pair rule i j) = larger (apart (exact_mean (accelerating i)) (exact_mean (accelerating j))) (apart (exact_mean (constant i)) (exact_mean (constant j)))

-- Dp: by how much w is above c, and 0 where it is not
unfoldable pub dp : Reference → Chosen → Frac
dp r g = exact_w r g ⊖ exact_c r g

-- 0.6 + 0.005 × (Dk + Dp)
unfoldable pub bound : Reference → Chosen → Frac
bound r g = 6 over 10 ⊕ 5 over 1000 ⊗ (dk g ⊕ dp r g)

-- ---- close, and rising

-- the reported L_urban, whatever the limit
unfoldable pub reported : Reference → Chosen → ℕ → ℕ
reported r g limit = (outcome_of r limit (basis_of r g)).l_urban

-- Close: L_urban and the figure differ, either way, by at most the bound. (a_urban is above 0: were it and a' both 0, a_urban / a' would
-- have no value.)
abbrev pub Close : Type 0
Close = (r : Reference) (g : Chosen) (limit : ℕ) → 0 < r.a_urban.0 → Straddled r g → apart (reported r g limit over 1) (figure r g) ≼ bound r g

-- the same acceleration, and neither window's larger sum lower in the second
pub record GearNotLower (g h : ChosenGear) : Type 0 where
  pub a : a_of g ≡ a_of h
  pub w : larger_sum (accelerating g) ≤ larger_sum (accelerating h)
  pub c : larger_sum (constant g) ≤ larger_sum (constant h)

-- the same of one gear, or of gears i and j; the rules and the gears' numbers may differ
abbrev pub ChosenNotLower : Chosen → Chosen → Type 0
ChosenNotLower (One rule g) (One rule' h) = GearNotLower g h
ChosenNotLower (Pair rule i j) (Pair rule' i' j') = GearNotLower i i' × GearNotLower j j'
ChosenNotLower (One rule g) (Pair rule' i j) = ⊥
ChosenNotLower (Pair rule i j) (One rule' g) = ⊥

-- Rising: where no M is lower in the second, L_urban is not lower either.
abbrev pub Rising : Type 0
Rising = (r : Reference) (g h : Chosen) (limit limit' : ℕ) → Straddled r g → ChosenNotLower g h → reported r g limit ≤ reported r h limit'
