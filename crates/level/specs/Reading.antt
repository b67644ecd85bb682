-- Readings as a record holds them: a kind and the bit pattern of a 32-bit float (document 01, "The sheet"). A finite float `fin s m e` has the
-- exact value m × 2^e, the fraction m * up e / down e, and is negative where s is true.
use Rattle.std.specs.Prelude.{Bool, false, Option, Some, None, cond, not, ◌&&◌, ℕ, ◌*◌, leb, eqb, Float}
use Rattle.std.specs.Float.{nan, inf, fin, binary32}
use Rattle.std.specs.Float.Ieee.{up, down, of_bits}
use Rattle.level.specs.declared.Reading.{Reading}
use Rattle.level.specs.declared.Reading.TheVariants.{Level, Overload, Absent}

-- a level is finite and from 20.0 to 140.0, both ends in, by its exact value
unfoldable pub in_range : Float → Bool
in_range nan = false
in_range (inf s) = false
in_range (fin s m e) = not s && leb (20 * down e) (m * up e) && leb (m * up e) (140 * down e)

-- Kind 0 is absent, and its four bytes are zero. Kinds 1 and 2 are a level and an overload with the last level shown, each a level in
-- range. There is no other kind.
unfoldable pub reading_of : ℕ → ℕ → Option Reading
reading_of kind pattern =
    let x = of_bits binary32 pattern in
    cond (eqb kind 0) (cond (eqb pattern 0) (Some Absent) None)
    (cond (eqb kind 1) (cond (in_range x) (Some (Level x)) None)
    (cond (eqb kind 2) (cond (in_range x) (Some (Overload x)) None) None))

-- a float, if it is a level in range
unfoldable pub level_of : Float → Option Float
level_of x = cond (in_range x) (Some x) None
