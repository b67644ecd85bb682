-- What `level` says of a bit pattern, and how the walk goes from one float to the next.
use Rattle.std.specs.Prelude.{ℕ, ◌+◌, ◌*◌, Bool, Option, Some, None, cond, nat_le, nat_lt}
use Rattle.level.specs.declared.Reading.{Reading}
use Rattle.level.specs.declared.Reading.TheVariants.{Level, Overload, Absent}
use Rattle.level.specs.Reading.{in_range}
use Rattle.level.specs.Level.{tenths_of}

-- the tenths of what was read; 0 where it is no level in range
unfoldable pub tenths_read : Reading → ℕ
tenths_read (Level x) = cond (in_range x) (tenths_of x) 0
tenths_read (Overload x) = 0
tenths_read Absent = 0

unfoldable pub tenths_found : Option Reading → ℕ
tenths_found (Some r) = tenths_read r
tenths_found None = 0

-- for a value of n × 2^-19, from 16 on, how far the next float is: it doubles at 32, at 64 and at 128
abbrev pub spacing : ℕ → ℕ
spacing n = cond (nat_lt n 16777216) 1 (cond (nat_lt n 33554432) 2 (cond (nat_lt n 67108864) 4 8))

-- whether 20 times the value has reached 2t + 1: it is half a tenth or more above t
abbrev pub reached : ℕ → ℕ → Bool
reached n t = nat_le (524288 * (2 * t + 1)) (20 * n)
