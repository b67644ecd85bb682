-- Where no sum is lower, L_urban is not lower. Assumes nothing.
use mathlib.Core.Bool.{Bool, true, false}
use Prim.Native.Nat.{ℕ, ◌-◌, ◌≤◌, ◌<◌, max}
use native.Mathlib.Nat.{mul-le-mul_left, mul-le-mul_right}
use native.Mathlib.Omega.{arith}
use Rattle.units.specs.Rounding.{rounded}
use Rattle.units.proofs.Rounding.{rounded_rising}
use Rattle.window.specs.Windows.{condition_level}
use Rattle.gears.proofs.Accelerations.{k_most}
use Rattle.urban.specs.declared.Chosen.TheVariants.{One, Pair}
use Rattle.urban.specs.Urban.{weighed_level}
use Rattle.urban.proofs.Weights.{weighed_sum}
use Rattle.urban.proofs.PartPower.{kp_most}
use Rattle.figure.specs.Figure.{a_prime, Rising}
use Rattle.figure.proofs.Reported.{reported_level, joined, reported_is, joined-max}

-- one divisor
over_rising : (n m d : ℕ) → 0 < d → n ≤ m → rounded n d ≤ rounded m d
over_rising n m d h l = rounded_rising n d m d h h (mul-le-mul_right d l)

weighed_rising : (k i j i' j' : ℕ) → k ≤ 100 → i ≤ i' → j ≤ j' → weighed_level k i j ≤ weighed_level k i' j'
weighed_rising k i j i' j' h l m =
    rw (weighed_sum k i j h, weighed_sum k i' j' h)
    (over_rising _ _ 100 (omega arith) (omega (arith, mul-le-mul_left (100 - k) m, mul-le-mul_left k l)))

joined_rising : (low : Bool) (kp w c w' c' : ℕ) → kp ≤ 100 → w ≤ w' → c ≤ c' → joined low kp w c ≤ joined low kp w' c'
unfolding joined
joined_rising true kp w c w' c' h l m = over_rising w w' 10 (omega arith) l
joined_rising false kp w c w' c' h l m =
    let top : max w c ≤ max w' c' = omega arith in
    rw (joined-max kp w c h, joined-max kp w' c' h)
    (over_rising _ _ 1000 (omega arith) (omega (arith, mul-le-mul_left (100 - kp) top, mul-le-mul_left kp m)))

pub rising : Rising
unfolding a_prime reported_level condition_level
rising r (One rule g) (One rule' h) limit limit' s n =
    rw (reported_is r (One rule g) limit, reported_is r (One rule' h) limit', n.a)
    (joined_rising _ _ _ _ _ _ (kp_most _ _) (over_rising _ _ 4 (omega arith) n.w) (over_rising _ _ 4 (omega arith) n.c))
rising r (Pair rule i j) (Pair rule' i' j') limit limit' s n =
    let k = k_most _ _ _ s.0 s.1 in
    rw (reported_is r (Pair rule i j) limit, reported_is r (Pair rule' i' j') limit', ← n.0.a, ← n.1.a)
    (joined_rising _ _ _ _ _ _ (kp_most _ _)
    (weighed_rising _ _ _ _ _ k (over_rising _ _ 4 (omega arith) n.0.w) (over_rising _ _ 4 (omega arith) n.1.w))
    (weighed_rising _ _ _ _ _ k (over_rising _ _ 4 (omega arith) n.0.c) (over_rising _ _ 4 (omega arith) n.1.c)))
rising r (One rule g) (Pair rule' i j) limit limit' s n = absurd n
rising r (Pair rule i j) (One rule' g) limit limit' s n = absurd n
