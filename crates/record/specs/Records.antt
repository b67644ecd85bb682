-- Records of 32 bytes: their fields, and the layout of each kind (document 01, "The sheet"; document 02, wishes 1 and 8). A layout is a list of
-- tests: every field with its range, and every zero byte.
use Rattle.std.specs.Prelude.{Bool, true, false, Option, Some, None, cond, not, ◌&&◌, ◌||◌, List, [], ◌∷◌, ℕ, zero, suc, ◌+◌, ◌*◌, ◌/◌, leb, ltb, eqb, Float, length, take, drop, get_or}
use Rattle.std.specs.Float.{binary32}
use Rattle.std.specs.Float.Ieee.{of_bits}
use Rattle.units.specs.Bytes.{number}
use Rattle.units.specs.Tests.{all_of}
use Rattle.level.specs.declared.Reading.{Reading}
use Rattle.level.specs.declared.Reading.TheVariants.{Level, Overload, Absent}
use Rattle.level.specs.Reading.{reading_of}
use Rattle.record.specs.declared.Backgrounds.{Backgrounds}
use Rattle.record.specs.declared.Category.{Category}
use Rattle.record.specs.declared.Category.TheVariants.{M1, N1}
use Rattle.record.specs.declared.Category.TheVariants as category
use Rattle.record.specs.declared.StartLine.{StartLine}
use Rattle.record.specs.declared.StartLine.TheVariants.{Aa, Pp}
use Rattle.record.specs.declared.StartLine.TheVariants as line
use Rattle.record.specs.declared.Vehicle.{Vehicle}
use Rattle.record.specs.declared.RunKind.{RunKind}
use Rattle.record.specs.declared.RunKind.TheVariants.{Acceleration, ConstantSpeed}
use Rattle.record.specs.declared.RunKind.TheVariants as kind
use Rattle.record.specs.declared.Run.{Run}
use Rattle.record.specs.declared.Closing.{Closing}

-- how many whole records a byte string has
unfoldable pub records : List ℕ → ℕ
records s = length s / 32

-- record n, from 0: its 32 bytes as they stand in s, and nothing if there is no whole record of that number
unfoldable pub record_at : List ℕ → ℕ → List ℕ
record_at s n = cond (ltb n (records s)) (take 32 (drop (32 * n) s)) []

-- ---- fields

abbrev pub byte : List ℕ → ℕ → ℕ
byte r at = get_or r at 0

-- the 16-bit number at a byte
abbrev pub word : List ℕ → ℕ → ℕ
word r at = number r at 2

-- from low to high, both ends in
abbrev pub within : ℕ → ℕ → ℕ → Bool
within low high x = leb low x && leb x high

-- the `count` bytes from `at` on are zero
unfoldable pub zeros : List ℕ → ℕ → ℕ → Bool
zeros r at zero = true
zeros r at (suc count) = eqb (byte r at) 0 && zeros r (at + 1) count

-- ---- the right side's background (wish 8)

-- what is asked of its two bytes, from `at` on: tenths of dB(A), in the range of the left's
abbrev pub right_good : List ℕ → ℕ → Bool
right_good r at = within 0 1000 (word r at)

-- the backgrounds of a record, from its left and its right field: where the right field holds 0, both sides have the left's of that record
unfoldable pub backgrounds_in : List ℕ → ℕ → ℕ → Backgrounds
backgrounds_in r left right =
    record { left = record { 0 = word r left }; right = record { 0 = cond (eqb (word r right) 0) (word r left) (word r right) } }

-- ---- the vehicle record

-- a limit field of 0 means that the limit is not written but looked up (wish 1)
abbrev pub is_looked_up : ℕ → Bool
is_looked_up limit = eqb limit 0

abbrev pub looked_up : List ℕ → Bool
looked_up r = is_looked_up (word r 14)

-- Its tests. Which records need no written limit, and what is asked of the right side's background, are parameters, so that the layouts
-- without wish 1 or wish 8 have the same text (`evaluation/specs/EarlierSheets`).
unfoldable pub vehicle_tests : (List ℕ → Bool) → (List ℕ → ℕ → Bool) → List ℕ → List Bool
vehicle_tests unwritten asked r =
    eqb (length r) 32
    ∷ eqb (byte r 0) 1
    -- category: M1 or N1
    ∷ within 1 2 (byte r 1)
    -- start line: AA' or PP'
    ∷ within 0 1 (byte r 2)
    ∷ zeros r 3 1
    -- power, tenths of kW
    ∷ within 10 20000 (word r 4)
    -- mass in running order, kg
    ∷ within 300 5000 (word r 6)
    -- length, cm
    ∷ within 100 2000 (word r 8)
    -- rated engine speed S, per minute
    ∷ within 500 20000 (word r 10)
    -- the left side's background before, tenths of dB(A)
    ∷ within 0 1000 (word r 12)
    -- limit, whole dB(A), unless it is looked up
    ∷ (unwritten r || within 50 100 (word r 14))
    -- beside a written limit, zero; else the phase and whether it is a low car, of which the layout asks nothing
    ∷ (unwritten r || zeros r 16 2)
    -- the right side's background before
    ∷ asked r 18
    ∷ zeros r 20 12
    ∷ []

unfoldable pub vehicle_good : List ℕ → Bool
vehicle_good r = all_of (vehicle_tests looked_up right_good r)

-- byte 1: 1 is M1 and 2 is N1; a good record has no other
abbrev pub category_of : ℕ → Category
category_of b = cond (eqb b 1) M1 (cond (eqb b 2) N1 (category.Other b))

-- byte 2: 0 is AA' and 1 is PP'; a good record has no other
abbrev pub start_line_of : ℕ → StartLine
start_line_of b = cond (eqb b 0) Aa (cond (eqb b 1) Pp (line.Other b))

unfoldable pub vehicle_in : List ℕ → Vehicle
vehicle_in r =
    record {
      category = category_of (byte r 1);
      start_line = start_line_of (byte r 2);
      power = word r 4;
      mass = word r 6;
      length = word r 8;
      rated_speed = word r 10;
      backgrounds = backgrounds_in r 12 18;
      limit = word r 14;
      phase = byte r 16;
      low_car = byte r 17;
    }

-- "From levels to windows", step 6: the path in cm, c + length, c 2,000 from AA' and 1,000 from PP'
abbrev pub c_of : StartLine → ℕ
c_of Aa = 2000
c_of Pp = 1000
c_of (line.Other b) = 1000

abbrev pub path_of : Vehicle → ℕ
path_of v = c_of v.start_line + v.length

-- ---- a run record

-- a reading is good if its kind and its bytes give one
abbrev pub readable : Option Reading → Bool
readable (Some r) = true
readable None = false

unfoldable pub run_tests : List ℕ → List Bool
run_tests r =
    eqb (length r) 32
    -- an acceleration run or a constant-speed run
    ∷ within 2 3 (byte r 0)
    -- gear
    ∷ within 1 16 (byte r 1)
    -- struck by the crew
    ∷ within 0 1 (byte r 2)
    -- the left and the right reading
    ∷ readable (reading_of (byte r 3) (number r 8 4))
    ∷ readable (reading_of (byte r 4) (number r 12 4))
    ∷ zeros r 5 3
    -- speeds at the start line and at BB', tenths of km/h
    ∷ within 10 1500 (word r 16)
    ∷ within 10 1500 (word r 18)
    -- the highest engine speed before BB', per minute
    ∷ within 0 20000 (word r 20)
    -- an acceleration run is not slower at BB' than at the start line
    ∷ (not (eqb (byte r 0) 2) || leb (word r 16) (word r 18))
    ∷ zeros r 22 10
    ∷ []

unfoldable pub run_good : List ℕ → Bool
run_good r = all_of (run_tests r)

-- the kinds of a run by byte 0: 2 is an acceleration and 3 a constant speed; a good record has no other
abbrev pub kind_byte : RunKind → ℕ
kind_byte Acceleration = 2
kind_byte ConstantSpeed = 3
kind_byte (kind.Other b) = b

abbrev pub kind_of : ℕ → RunKind
kind_of b = cond (eqb b 2) Acceleration (cond (eqb b 3) ConstantSpeed (kind.Other b))

unfoldable pub run_in : List ℕ → Run
run_in r =
    record {
      kind = kind_of (byte r 0);
      gear = byte r 1;
      struck = eqb (byte r 2) 1;
      left_kind = byte r 3;
      right_kind = byte r 4;
      left = of_bits binary32 (number r 8 4);
      right = of_bits binary32 (number r 12 4);
      start_speed = word r 16;
      end_speed = word r 18;
      engine_speed = word r 20;
    }

-- the reading of a kind and a float: 1 a level, 2 an overload, else absent
unfoldable pub reading_from : ℕ → Float → Reading
reading_from kind x = cond (eqb kind 1) (Level x) (cond (eqb kind 2) (Overload x) Absent)

-- ---- the closing record. Row 4 of the refusals asks for the number of runs, at 2.

unfoldable pub closing_tests : (List ℕ → ℕ → Bool) → List ℕ → List Bool
closing_tests asked r =
    eqb (length r) 32
    ∷ eqb (byte r 0) 9
    ∷ zeros r 1 1
    -- the left side's background after, tenths of dB(A)
    ∷ within 0 1000 (word r 4)
    -- the right side's background after
    ∷ asked r 6
    ∷ zeros r 8 24
    ∷ []

unfoldable pub closing_good : List ℕ → Bool
closing_good r = all_of (closing_tests right_good r)

-- the number of run records, and the backgrounds after
unfoldable pub closing_in : List ℕ → Closing
closing_in r = record { runs = word r 2; backgrounds = backgrounds_in r 4 6 }
