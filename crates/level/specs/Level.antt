-- From a reading to the corrected level of one side (document 01, "From levels to windows", steps 1 to 3; document 02, wish 2). All levels
-- are in tenths of dB(A).
use Rattle.std.specs.Prelude.{Option, Some, None, cond, List, [], ◌∷◌, ℕ, ◌*◌, ◌-◌, leb, Float, get_or}
use Rattle.std.specs.Float.{nan, inf, fin}
use Rattle.std.specs.Float.Ieee.{up, down}
use Rattle.units.specs.Rounding.{rounded}
use Rattle.level.specs.declared.Reading.{Reading}
use Rattle.level.specs.declared.Reading.TheVariants.{Level, Overload, Absent}
use Rattle.units.specs.declared.Tenths.{Tenths}
use Rattle.level.specs.Reading.{in_range}

-- Step 1: the exact value of a level rounded to a tenth, as a number of tenths. Only a level in range is rounded, so what stands here for any
-- other float does not matter: 0 for a NaN and an infinity, and a negative float as if it had no sign.
unfoldable pub tenths_of : Float → ℕ
tenths_of nan = 0
tenths_of (inf s) = 0
tenths_of (fin s m e) = rounded (10 * (m * up e)) (down e)

-- document 000's corrections for a difference of 10, 11, 12, 13, 14 and 15 dB
unfoldable pub corrections : List ℕ
corrections = 5 ∷ 4 ∷ 3 ∷ 2 ∷ 1 ∷ 0 ∷ []

-- Step 2, with wish 2: the correction for a difference of d tenths, d at least 100. It is the table's entry at the whole decibel nearest to d, a
-- half going up; past the end of the table, nothing is taken off.
unfoldable pub correction_of : ℕ → ℕ
correction_of d = get_or corrections (rounded d 10 - 10) 0

-- Steps 2 and 3 on one side: d is the level less its background (0 for a level below it). A side counts from d 10.0 on.
-- This is asked of d itself: 9.5, which rounds to 10, does not count.
unfoldable pub corrected_side : ℕ → ℕ → Option Tenths
corrected_side level background =
    let d = level - background in
    cond (leb 100 d) (Some (record { 0 = level - correction_of d })) None

-- Step 3 on one side: only a level counts, not an overload and not an absent reading. A level out of range, which no sheet has, does not.
unfoldable pub side_of : Reading → ℕ → Option Tenths
side_of (Level x) background = cond (in_range x) (corrected_side (tenths_of x) background) None
side_of (Overload x) background = None
side_of Absent background = None
