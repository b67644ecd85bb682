-- Laws of `rounded`: which number it is, that it rises with the fraction, and that it goes by the fraction alone.
-- Assumes nothing.
use mathlib.Core.Path.{◌≡◌, sym}
use Prim.Native.Nat.{ℕ, ◌+◌, ◌-◌, ◌*◌, ◌/◌, ◌%◌, ◌≤◌, ◌<◌}
use native.Mathlib.Nat.{mod-lt, div-add-mod, le_of_eq, le_antisymm, lt_of_le_of_lt, lt_of_mul-lt-mul_left}
use native.Mathlib.Omega.{arith}
use lib.Ieee.Nearest.{div_mono}
use Rattle.units.specs.Rounding.{rounded}

-- r = rounded n d has 2·d·r ≤ 2·n + d < 2·d·(r + 1), that is r - 1/2 ≤ n / d < r + 1/2
pub rounded_bounds : (n d : ℕ) → 0 < d → (2 * d * rounded n d ≤ 2 * n + d) × (2 * n + d < 2 * d * (rounded n d + 1))
unfolding rounded
rounded_bounds n d h =
    (omega (arith, div-add-mod (2 * n + d) (2 * d)), omega (arith, div-add-mod (2 * n + d) (2 * d), mod-lt (2 * n + d) {m = 2 * d} (omega arith)))

-- and no other r has
pub rounded_unique : (n d r : ℕ) → 0 < d → 2 * d * r ≤ 2 * n + d → 2 * n + d < 2 * d * (r + 1) → rounded n d ≡ r
rounded_unique n d r h lo hi =
    let b = rounded_bounds n d h in
    let p : rounded n d < r + 1 = lt_of_mul-lt-mul_left (2 * d) (lt_of_le_of_lt b.0 hi) in
    let q : r < rounded n d + 1 = lt_of_mul-lt-mul_left (2 * d) (lt_of_le_of_lt lo b.1) in
    omega arith

-- a larger fraction never rounds lower: from a / b ≤ c / d
pub rounded_rising : (a b c d : ℕ) → 0 < b → 0 < d → a * d ≤ c * b → rounded a b ≤ rounded c d
unfolding rounded
rounded_rising a b c d B D h = div_mono (2 * a + b) (2 * b) (2 * c + d) (2 * d) (omega arith) (omega arith) (omega arith)

-- equal fractions round alike
pub rounded_same : (a b c d : ℕ) → 0 < b → 0 < d → a * d ≡ c * b → rounded a b ≡ rounded c d
rounded_same a b c d B D e = le_antisymm (rounded_rising a b c d B D (le_of_eq e)) (rounded_rising c d a b D B (le_of_eq (sym e)))

-- a fraction that is at most a whole number does not round above it
pub rounded_most : (n d m : ℕ) → 0 < d → n ≤ d * m → rounded n d ≤ m
rounded_most n d m h l =
    let below : rounded n d < m + 1 = lt_of_mul-lt-mul_left (2 * d) (lt_of_le_of_lt (rounded_bounds n d h).0 (omega arith)) in
    omega arith

-- nor does a number that equals the rounded one, as that of a call
pub rounded_within : {r n d : ℕ} (m : ℕ) → r ≡ rounded n d → 0 < d → n ≤ d * m → r ≤ m
rounded_within {r} {n} {d} m e h l = rw e (rounded_most n d m h l)

-- ---- by the remainder, as `round` reckons it

-- a remainder below a half goes down
pub rounded_down : (n d : ℕ) → 0 < d → n % d < d - n % d → rounded n d ≡ n / d
rounded_down n d h less = rounded_unique n d (n / d) h (omega (arith, div-add-mod n d)) (omega (arith, div-add-mod n d))

-- a half or more goes up
pub rounded_up : (n d : ℕ) → 0 < d → d - n % d ≤ n % d → rounded n d ≡ n / d + 1
rounded_up n d h more =
    rounded_unique n d (n / d + 1) h (omega (arith, div-add-mod n d)) (omega (arith, div-add-mod n d, mod-lt n {m = d} h))
