-- Distances between whole numbers, and what rounding and weighing do to them. Assumes nothing.
use mathlib.Core.Path.{◌≡◌, ap, ap₂}
use Prim.Native.Nat.{ℕ, ◌+◌, ◌*◌, ◌≤◌, ◌<◌}
use native.Mathlib.Nat.{mul-le-mul_left, mul-le-mul, le_dest}
use native.Mathlib.Omega.{arith}
use Rattle.units.specs.Rounding.{rounded}
use Rattle.units.proofs.Rounding.{rounded_bounds}
use Rattle.urban.proofs.Weights.{by_order}

-- x and y differ by at most e
pub record Near (x y e : ℕ) : Type 0 where
  pub upper : x ≤ y + e
  pub lower : y ≤ x + e

pub rounded_near : (n d : ℕ) → 0 < d → Near (2 * d * rounded n d) (2 * n) d
rounded_near n d h = let b = rounded_bounds n d h in omega (arith, b.0, b.1)

pub scale : {x y e : ℕ} (s : ℕ) → Near x y e → Near (s * x) (s * y) (s * e)
scale s h = omega (arith, mul-le-mul_left s h.upper, mul-le-mul_left s h.lower)

flip : {x y e : ℕ} → Near x y e → Near y x e
flip h = omega arith

-- ---- (x − y) × (a − b) is at most e × f: both differences one way, one each way, and then in any order

one_way : (x a : ℕ) {y b e f d g : ℕ} → x + d ≡ y → a + g ≡ b → d ≤ e → g ≤ f → x * a + y * b ≤ x * b + y * a + e * f
one_way x a p q h k = omega (arith, mul-le-mul h k, ap (λ t. t * a) p, ap (λ t. x * t) q, ap₂ (λ s t. s * t) p q)

each_way : (x d : ℕ) {y a b : ℕ} → x + d ≡ y → b ≤ a → x * a + y * b ≤ x * b + y * a
each_way x d {y} {a} {b} p q = omega (arith, mul-le-mul_left d q, ap (λ t. t * a) p, ap (λ t. t * b) p)

cross : {x y a b e f : ℕ} → Near x y e → Near a b f → x * a + y * b ≤ x * b + y * a + e * f
cross {x} {y} {a} {b} {e} {f} h k =
    by_order x y
    (λ p. by_order a b
    (λ q. one_way x a (le_dest p).1 (le_dest q).1 (omega (arith, (le_dest p).1)) (omega (arith, (le_dest q).1)))
    (λ q. omega (arith, each_way x (le_dest p).0 (le_dest p).1 q)))
    (λ p. by_order a b
    (λ q. omega (arith, each_way y (le_dest p).0 (le_dest p).1 q))
    (λ q. omega (arith, one_way y b {e = e} {f = f} (le_dest p).1 (le_dest q).1 (omega (arith, (le_dest p).1)) (omega (arith, (le_dest q).1)))))

-- ---- two weighings

-- k of 100 is n of D, rounded; k' and m are what is left
pub record Shares (k k' n m D : ℕ) : Type 0 where
  pub hundred : k + k' ≡ 100
  pub whole : n + m ≡ D
  pub near : Near (2 * D * k) (200 * n) D

-- the mean of X and Y at the weights k' and k lies near that of x and y at m and n
exact_mean_near : {k k' n m D X x Y y e g : ℕ} → Shares k k' n m D → Near X x e → Near Y y e → Near y x g → Near (2 * D * (k' * X + k * Y)) (200 * (m * x + n * y)) (200 * (D * e) + D * g)
exact_mean_near {k} {k'} {n} {m} {D} {X} {x} {Y} {y} {e} {g} w h_x h_y hg =
    omega (
      arith,
      scale (D * k') h_x,
      scale (D * k) h_y,
      cross w.near hg,
      cross w.near (flip hg),
      ap (λ t. D * x * t) w.hundred,
      ap (λ t. D * e * t) w.hundred,
      ap (λ t. t * x) w.whole,
    )

-- and so does that mean rounded, for values P and Q that stand s times in the exact ones; t is how many of their unit make one rounded
pub weighed_near : {k k' n m D x y e g : ℕ} (s t P Q : ℕ) → 0 < t → Shares k k' n m D → Near (s * P) x e → Near (s * Q) y e → Near y x g → Near (200 * (t * s * D * rounded (k' * P + k * Q) (100 * t))) (200 * (m * x + n * y)) (100 * (t * s * D) + 200 * (D * e) + D * g)
weighed_near {k} {k'} {D = D} s t P Q ht w hP hQ hg =
    omega (arith, scale (s * D) (rounded_near (k' * P + k * Q) (100 * t) (omega arith)), exact_mean_near w hP hQ hg)
