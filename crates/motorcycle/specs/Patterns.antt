-- Four levels given by the bit patterns of their floats, as a caller in C or a file has them.
use Rattle.std.specs.Prelude.{List, ℕ, Float, get_or}
use Rattle.std.specs.Float.{binary32}
use Rattle.std.specs.Float.Ieee.{of_bits}
use Rattle.motorcycle.specs.declared.Levels.{Levels}

-- the level of the pattern at a place from 0 on; there are four
abbrev pub level_in : List ℕ → ℕ → Float
level_in patterns at = of_bits binary32 (get_or patterns at 0)

-- the levels of four patterns, in their order
unfoldable pub levels_of : List ℕ → Levels
levels_of patterns = record { first = level_in patterns 0; second = level_in patterns 1; third = level_in patterns 2; fourth = level_in patterns 3 }
