-- The reported L_urban as one number, and without the test W < C. Assumes nothing.
use mathlib.Core.Path.{◌≡◌, refl, ap}
use mathlib.Core.Bool.{Bool, true, false, cond}
use Prim.Native.Nat.{ℕ, ◌+◌, ◌-◌, ◌*◌, ◌≤◌, max}
use native.Mathlib.Nat.{max-eq_left, max-eq_right, le_of_lt}
use native.Mathlib.Omega.{arith}
use lib.Dec.{ltb}
use borrow.Author.Tests.{ltb-true, ltb-false}
use Rattle.units.specs.Rounding.{rounded}
use Rattle.units.proofs.Rounding.{rounded_same}
use Rattle.units.proofs.Tests.{by_test}
use Rattle.window.specs.declared.Four.{Four}
use Rattle.window.specs.Windows.{condition_level}
use Rattle.reference.specs.declared.Reference.{Reference}
use Rattle.gears.specs.Rules.{k_of}
use Rattle.urban.specs.declared.ChosenGear.{ChosenGear}
use Rattle.urban.specs.declared.Chosen.{Chosen}
use Rattle.urban.specs.declared.Chosen.TheVariants.{One, Pair}
use Rattle.urban.specs.declared.LUrban.{LUrban}
use Rattle.urban.specs.Urban.{a_of, weighed_level, basis_of, part_power, l_urban_of, outcome_of}
use Rattle.urban.proofs.Weights.{on_line}
use Rattle.figure.specs.Figure.{accelerating, constant, a_prime, reported}

-- the reported W or C
unfoldable pub reported_level : (ChosenGear → Four) → Reference → Chosen → ℕ
reported_level window r (One rule g) = condition_level (window g)
reported_level window r (Pair rule i j) = weighed_level (k_of r.a_ref.0 (a_of i) (a_of j)) (condition_level (window i)) (condition_level (window j))

-- L_urban from W and C, below PMR 25.0 (true) and from it on
unfoldable pub joined : Bool → ℕ → ℕ → ℕ → ℕ
joined low kp w c = cond low (rounded w 10) (cond (ltb w c) (rounded c 10) (rounded (100 * w - kp * (w - c)) 1000))

level_is : (r : Reference) (a w c : ℕ) → (l_urban_of r a w c).level ≡ joined (ltb r.pmr 250) (part_power r.a_urban.0 a) w c
unfolding l_urban_of joined
level_is r a w c =
    by (ltb r.pmr 250) _ _ _ _ refl (by (ltb w c) _ _ _ _ refl refl)
  where
    by : (b : Bool) (yes' no' : LUrban) (x y : ℕ) → yes'.level ≡ x → no'.level ≡ y → (cond b yes' no').level ≡ cond b x y
    by true yes' no' x y p q = p
    by false yes' no' x y p q = q

pub reported_is : (r : Reference) (g : Chosen) (limit : ℕ) → reported r g limit ≡ joined (ltb r.pmr 250) (part_power r.a_urban.0 (a_prime r g)) (reported_level accelerating r g) (reported_level constant r g)
unfolding reported outcome_of basis_of a_prime reported_level
reported_is r (One rule g) limit = level_is r (a_of g) _ _
reported_is r (Pair rule i j) limit = level_is r r.a_ref.0 _ _

-- ---- the test W < C taken away: the larger of W and C is joined with C

-- d × v − n × (v − w), as the mean that it is
pub as_mean : (n d v w : ℕ) → n ≤ d → w ≤ v → d * v - n * (v - w) ≡ (d - n) * v + n * w
as_mean n d v w h l = let none : w - v ≡ 0 = omega arith in omega (arith, on_line n d v w h, ap (λ t. n * t) none)

pub joined-max : (kp w c : ℕ) → kp ≤ 100 → joined false kp w c ≡ rounded ((100 - kp) * max w c + kp * c) 1000
unfolding joined
joined-max kp w c h = by_test (λ x. x ≡ rounded ((100 - kp) * max w c + kp * c) 1000) (ltb w c) _ _ less more
  where
    less : ltb w c ≡ true → rounded c 10 ≡ rounded ((100 - kp) * max w c + kp * c) 1000
    less e =
        let whole : (100 - kp) + kp ≡ 100 = omega arith in
        rw (max-eq_right (le_of_lt (ltb-true w c e)))
        (rounded_same c 10 ((100 - kp) * c + kp * c) 1000 (omega arith) (omega arith) (omega (arith, ap (λ t. t * c) whole)))

    more : ltb w c ≡ false → rounded (100 * w - kp * (w - c)) 1000 ≡ rounded ((100 - kp) * max w c + kp * c) 1000
    more e = rw (max-eq_left (ltb-false w c e), as_mean kp 100 w c h (ltb-false w c e))
