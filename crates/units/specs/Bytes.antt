-- Document 01, "The sheet": numbers are unsigned, low byte first.
use Rattle.std.specs.Prelude.{List, ℕ, zero, suc, ◌+◌, ◌*◌, get_or}

-- the number in the `width` bytes of s from `at` on, low byte first
unfoldable pub number : List ℕ → ℕ → ℕ → ℕ
number s at zero = 0
number s at (suc width) = get_or s at 0 + 256 * number s (at + 1) width
