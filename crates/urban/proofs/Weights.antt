-- Laws of the weighed level: the form without differences, which the code reckons, and its range. Assumes nothing.
use mathlib.Core.Path.{◌≡◌, ap}
use Prim.Native.Nat.{ℕ, ◌+◌, ◌-◌, ◌*◌, ◌≤◌}
use native.Mathlib.Nat.{mul-le-mul_left, mul-sub, le_of_lt, lt_of_not-le}
use native.Mathlib.Decide.{dec_le}
use native.Mathlib.Omega.{arith}
use Rattle.units.specs.Rounding.{rounded}
use Rattle.units.proofs.Rounding.{rounded_most}
use Rattle.urban.specs.Urban.{weighed_level}

-- either order of two numbers, as a case to go by
pub by_order : {G : Type 0} (a b : ℕ) → (a ≤ b → G) → (b ≤ a → G) → G
by_order a b f g = elim (dec_le a b) [ yes h ↦ f h | no h ↦ g (le_of_lt (lt_of_not-le h)) ]

-- ---- the weighed level

-- v + (n / d) × (w − v), times d: what is left of d counts v, and n counts w
pub on_line : (n d v w : ℕ) → n ≤ d → d * v + n * (w - v) - n * (v - w) ≡ (d - n) * v + n * w
on_line n d v w h =
    by_order v w
    (λ p. omega (arith, mul-sub n w v, mul-sub n v w, mul-le-mul_left n p, ap (λ t. t * v) whole))
    (λ p. omega (arith, mul-sub n w v, mul-sub n v w, mul-le-mul_left n p, ap (λ t. t * v) whole))
  where
    whole : (d - n) + n ≡ d
    whole = omega arith

pub weighed_sum : (k i j : ℕ) → k ≤ 100 → weighed_level k i j ≡ rounded ((100 - k) * j + k * i) 100
unfolding weighed_level
weighed_sum k i j h = ap (λ n. rounded n 100) (on_line k 100 j i h)

-- its two parts are within 100 times the larger level
pub record Parts (k i j n : ℕ) : Type 0 where
  pub left : (100 - k) * j ≤ (100 - k) * n
  pub right : k * i ≤ k * n
  pub most : (100 - k) * j + k * i ≤ 100 * n

pub parts : (k i j n : ℕ) → k ≤ 100 → i ≤ n → j ≤ n → Parts k i j n
parts k i j n h l m =
    record { left = mul-le-mul_left (100 - k) m; right = mul-le-mul_left k l; most = omega (arith, mul-le-mul_left (100 - k) m, mul-le-mul_left k l, ap (λ t. t * n) whole) }
  where
    whole : (100 - k) + k ≡ 100
    whole = omega arith

pub weighed_most : (k i j n : ℕ) → k ≤ 100 → i ≤ n → j ≤ n → weighed_level k i j ≤ n
weighed_most k i j n h l m = rw (weighed_sum k i j h) (rounded_most ((100 - k) * j + k * i) 100 n (omega arith) (parts k i j n h l m).most)
