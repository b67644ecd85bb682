-- How large accelerations and k can be. Assumes nothing.
use Prim.Native.Nat.{ℕ, ◌+◌, ◌-◌, ◌*◌, ◌≤◌, ◌<◌}
use native.Mathlib.Nat.{mul-le-mul}
use native.Mathlib.Omega.{arith}
use lib.Dec.{lit<}
use Rattle.units.specs.Rounding.{rounded}
use Rattle.units.proofs.Rounding.{rounded_rising}
use Rattle.gears.specs.Acceleration.{acceleration_of, mean_of}
use Rattle.gears.specs.Rules.{k_of}

-- a speed of at most 150.0 km/h, squared
pub square_most : (x : ℕ) → x ≤ 1500 → x * x ≤ 2250000
square_most x h = mul-le-mul h h

-- a run's acceleration fits 16 bits
pub acceleration_most : (A B path : ℕ) → B ≤ 1500 → 1000 ≤ path → acceleration_of A B path ≤ 8681
unfolding acceleration_of rounded
acceleration_most A B path h l =
    rounded_rising (625 * (B * B - A * A)) (162 * path) 1406250000 162000 (omega arith) (lit< tt) (mul-le-mul gain (omega arith))
  where
    gain : 625 * (B * B - A * A) ≤ 1406250000
    gain = omega (arith, square_most B h)

-- and so does the mean of four
pub mean_most : (a b c d : ℕ) → a < 65536 → b < 65536 → c < 65536 → d < 65536 → mean_of a b c d < 65536
unfolding mean_of rounded
mean_most a b c d p q r s = omega (arith, rounded_rising (a + b + c + d) 4 65535 1 (lit< tt) (lit< tt) (omega arith))

-- k lies from 0 to 1
pub k_most : (R ai aj : ℕ) → aj < R → R ≤ ai → k_of R ai aj ≤ 100
unfolding k_of rounded
k_most R ai aj h l = rounded_rising (100 * (R - aj)) (ai - aj) 100 1 (omega arith) (lit< tt) (omega arith)
