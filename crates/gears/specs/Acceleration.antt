-- Accelerations in hundredths of m/s² (document 01, "From levels to windows", step 6).
use Rattle.std.specs.Prelude.{ℕ, ◌+◌, ◌-◌, ◌*◌}
use Rattle.units.specs.Rounding.{rounded}

-- 625 × (B² − A²) / (162 × (c + length)), rounded: A and B are the speeds at the start line and at BB' in tenths of km/h, and `path` is
-- c + length in cm
unfoldable pub acceleration_of : ℕ → ℕ → ℕ → ℕ
acceleration_of A B path = rounded (625 * (B * B - A * A)) (162 * path)

-- a gear's acceleration: the mean of its window's four, rounded
unfoldable pub mean_of : ℕ → ℕ → ℕ → ℕ → ℕ
mean_of a b c d = rounded (a + b + c + d) 4
