-- The verdict on the four levels of a motorcycle (document 02, wish 14; document 003, annex 3, 1.5), in the order in which it is reached. The range
-- and the tenths of a level are those of a sheet, and the rounding is the one of every rule.
use Rattle.std.specs.Prelude.{Bool, cond, not, ◌||◌, [], ◌∷◌, ℕ, ◌+◌, ◌*◌, ◌-◌, leb, ltb, Float, get_or, Result, Ok, Err}
use Rattle.std.specs.Float.{nan}
use Rattle.refusal.specs.Refusal.{number_in}
use Rattle.units.specs.Rounding.{rounded}
use Rattle.units.specs.Tests.{lowest}
use Rattle.level.specs.Reading.{in_range}
use Rattle.level.specs.Level.{tenths_of}
use Rattle.motorcycle.specs.declared.Levels.{Levels}
use Rattle.motorcycle.specs.declared.JudgedMean.{JudgedMean}
use Rattle.motorcycle.specs.declared.LevelRefusal.{LevelRefusal}
use Rattle.motorcycle.specs.declared.LevelRefusal.TheVariants.{LevelOutOfRange, SideFarApart}

-- level n, for n from 1 to 4 (no rule asks for another; a NaN stands there)
abbrev pub level_at : Levels → ℕ → Float
level_at x n = get_or (x.first ∷ x.second ∷ x.third ∷ x.fourth ∷ []) (n - 1) nan

-- ---- 22: a level that is not finite or not from 20.0 to 140.0, by its exact value

-- level n is out of range
abbrev pub outside : Levels → ℕ → Bool
outside x n = not (in_range (level_at x n))

-- the first of the four, and 5 where all are in range
unfoldable pub first_outside : Levels → ℕ
first_outside x = lowest (outside x) 4 1

-- ---- 23: a side whose two levels differ by more than 2 dB

-- A level in whole decibels. It is rounded twice, to tenths and then from these tenths, a half going up each time: 72.46 is 72.5, and so 73.
unfoldable pub whole_of : Float → ℕ
whole_of x = rounded (tenths_of x) 10

-- two whole levels differ by more than 2
unfoldable pub far_apart : ℕ → ℕ → Bool
far_apart m n = ltb (m + 2) n || ltb (n + 2) m

-- The left side, 1, has levels 1 and 2; the right side, 2, has levels 3 and 4.
abbrev pub side_far_apart : Levels → ℕ → Bool
side_far_apart x side = far_apart (whole_of (level_at x (2 * side - 1))) (whole_of (level_at x (2 * side)))

-- the first such side, the left before the right, and 3 where neither is one
unfoldable pub first_far_apart : Levels → ℕ
first_far_apart x = lowest (side_far_apart x) 2 1

-- ---- the mean and the verdict

-- one dB is taken from each level
unfoldable pub reduced_of : Float → ℕ
reduced_of x = whole_of x - 1

-- in quarters of a dB, the exact mean of the four is their sum
unfoldable pub quarters_of : Levels → ℕ
quarters_of x = reduced_of x.first + reduced_of x.second + reduced_of x.third + reduced_of x.fourth

-- what four levels and a limit give
abbrev pub Verdict : Type 0
Verdict = Result JudgedMean LevelRefusal

-- 22 comes before 23: all four levels are asked for their range before any side is compared. Otherwise the levels are judged, and the mean
-- passes if it is not above the limit, which is in whole dB.
unfoldable pub verdict_of : Levels → ℕ → Verdict
verdict_of x limit =
    cond (leb (first_outside x) 4) (Err (LevelOutOfRange (first_outside x)))
    (cond (leb (first_far_apart x) 2) (Err (SideFarApart (first_far_apart x)))
    (Ok (record { mean = record { 0 = quarters_of x }; pass = leb (quarters_of x) (4 * limit) })))

-- ---- the number and the place of a refusal: 0 and 0 for levels that are judged

abbrev pub number_of : LevelRefusal → ℕ
number_of (LevelOutOfRange n) = 22
number_of (SideFarApart side) = 23

abbrev pub place_of : LevelRefusal → ℕ
place_of (LevelOutOfRange n) = n
place_of (SideFarApart side) = side

abbrev pub verdict_number : Verdict → ℕ
verdict_number v = number_in number_of v

abbrev pub verdict_place : Verdict → ℕ
verdict_place v = number_in place_of v
