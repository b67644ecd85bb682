-- Sheets that are good and sheets that are not: each end of each field's range and the number beyond it, each blank byte, readings,
-- sizes and misplaced records. The outcomes are those of document 01 with wishes 1 and 8 of document 02; one test computes that the definition gives
-- each. Assumes nothing.
use mathlib.Core.Bool.{Bool}
use mathlib.Core.List.{List, [], ◌∷◌, ◌++◌, map}
use Prim.Native.Nat.{ℕ, zero, suc, ◌+◌, ◌*◌, ◌/◌}
use lib.Dec.{T, eqb}
use lib.Ieee.{of_bits}
use lib.ListN.{take, replicate}
use lib.Seq.{sets}
use Rattle.units.specs.Bytes.{number}
use Rattle.units.specs.Tests.{lowest, all_of}
use Rattle.refusal.specs.Refusal.{number_of, place_of}
use Rattle.level.specs.Reading.{in_range, reading_of}
use Rattle.record.specs.Records.{records, record_at, zeros, vehicle_tests, vehicle_good, run_tests, run_good, closing_tests, closing_good}
use Rattle.refusal.specs.declared.Refusal.{Refusal}
use Rattle.std.specs.Prelude.{Result, Ok, Err}
use Rattle.sheet.specs.declared.Whole.{Whole}
use Rattle.sheet.specs.Sheet.{wrong_size, no_vehicle, no_closing, good_by, lowest_broken_by, examined_by, examined}

-- an outcome as one number: the refusal's number and its place
refusal : ℕ → ℕ → ℕ
refusal n place = 2048 * n + place

good : ℕ
good = 0

outcome : Result Whole Refusal → ℕ
outcome (Ok whole) = good
outcome (Err r) = refusal (number_of r) (place_of r)

-- P 100.0 kW, m 1,500 kg, length 450 cm, S 6,000, background 40.0, limit 72
vehicle : List ℕ
vehicle = (1 ∷ 1 ∷ 0 ∷ 0 ∷ 232 ∷ 3 ∷ 220 ∷ 5 ∷ 194 ∷ 1 ∷ 112 ∷ 23 ∷ 144 ∷ 1 ∷ 72 ∷ 0 ∷ []) ++ replicate 16 0

-- an acceleration run in gear 3, levels 72.5 and 71.5, from 44.2 to 54.5 km/h at 4,000 per minute
run : List ℕ
run =
    (2 ∷ 3 ∷ 0 ∷ 1 ∷ 1 ∷ 0 ∷ 0 ∷ 0 ∷ 0 ∷ 0 ∷ 145 ∷ 66 ∷ 0 ∷ 0 ∷ 143 ∷ 66 ∷ 186 ∷ 1 ∷ 33 ∷ 2 ∷ 160 ∷ 15 ∷ [])
    ++ replicate 10 0

-- one run, background 40.0
closing : List ℕ
closing = (9 ∷ 0 ∷ 1 ∷ 0 ∷ 144 ∷ 1 ∷ []) ++ replicate 26 0

sheet : List ℕ
sheet = vehicle ++ run ++ closing

-- a byte string and what it should give
data Example : Type 0 where
  -- the sheet with some bytes changed from a place on
  edit : ℕ → List ℕ → ℕ → Example
  -- another byte string
  other : List ℕ → ℕ → Example

holds : Example → Bool
holds (edit at bytes o) = eqb (outcome (examined (sets sheet at bytes))) o
holds (other s o) = eqb (outcome (examined s)) o

-- each of the `count` bytes from `at` on, all of which must be zero, set to 1 (16 and 17 because this sheet's limit is written)
blank : ℕ → ℕ → List Example
blank at zero = []
blank at (suc count) = edit at (1 ∷ []) (refusal 5 (at / 32)) ∷ blank (at + 1) count

-- the left reading: its kind and its pattern
reading : ℕ → List ℕ → ℕ → Example
reading kind bytes o = edit 35 (kind ∷ 1 ∷ 0 ∷ 0 ∷ 0 ∷ bytes) o

fields : List Example
fields =
    edit 0 [] good
    -- category
    ∷ edit 1 (0 ∷ []) (refusal 5 0)
    ∷ edit 1 (1 ∷ []) (good)
    ∷ edit 1 (2 ∷ []) (good)
    ∷ edit 1 (3 ∷ []) (refusal 5 0)
    -- start line
    ∷ edit 2 (0 ∷ []) (good)
    ∷ edit 2 (1 ∷ []) (good)
    ∷ edit 2 (2 ∷ []) (refusal 5 0)
    -- power
    ∷ edit 4 (9 ∷ 0 ∷ []) (refusal 5 0)
    ∷ edit 4 (10 ∷ 0 ∷ []) (good)
    ∷ edit 4 (32 ∷ 78 ∷ []) (good)
    ∷ edit 4 (33 ∷ 78 ∷ []) (refusal 5 0)
    -- mass
    ∷ edit 6 (43 ∷ 1 ∷ []) (refusal 5 0)
    ∷ edit 6 (44 ∷ 1 ∷ []) (good)
    ∷ edit 6 (136 ∷ 19 ∷ []) (good)
    ∷ edit 6 (137 ∷ 19 ∷ []) (refusal 5 0)
    -- length
    ∷ edit 8 (99 ∷ 0 ∷ []) (refusal 5 0)
    ∷ edit 8 (100 ∷ 0 ∷ []) (good)
    ∷ edit 8 (208 ∷ 7 ∷ []) (good)
    ∷ edit 8 (209 ∷ 7 ∷ []) (refusal 5 0)
    -- rated engine speed
    ∷ edit 10 (243 ∷ 1 ∷ []) (refusal 5 0)
    ∷ edit 10 (244 ∷ 1 ∷ []) (good)
    ∷ edit 10 (32 ∷ 78 ∷ []) (good)
    ∷ edit 10 (33 ∷ 78 ∷ []) (refusal 5 0)
    -- the left side's background before, then the right's, low byte first
    ∷ edit 12 (0 ∷ 0 ∷ []) (good)
    ∷ edit 12 (232 ∷ 3 ∷ []) (good)
    ∷ edit 12 (233 ∷ 3 ∷ []) (refusal 5 0)
    ∷ edit 18 (1 ∷ 0 ∷ []) (good)
    ∷ edit 18 (232 ∷ 3 ∷ []) (good)
    ∷ edit 18 (233 ∷ 3 ∷ []) (refusal 5 0)
    ∷ edit 18 (3 ∷ 232 ∷ []) (refusal 5 0)
    -- limit
    ∷ edit 14 (49 ∷ 0 ∷ []) (refusal 5 0)
    ∷ edit 14 (50 ∷ 0 ∷ []) (good)
    ∷ edit 14 (100 ∷ 0 ∷ []) (good)
    ∷ edit 14 (101 ∷ 0 ∷ []) (refusal 5 0)
    -- a limit of 0, with any bytes 16 and 17; 1 and 256 are not 0, and 0 and 72, low byte first, are 18,432 and not 72
    ∷ edit 14 (0 ∷ 0 ∷ 0 ∷ 0 ∷ []) good
    ∷ edit 14 (0 ∷ 0 ∷ 1 ∷ 0 ∷ []) good
    ∷ edit 14 (0 ∷ 0 ∷ 255 ∷ 255 ∷ []) good
    ∷ edit 14 (1 ∷ 0 ∷ 0 ∷ 0 ∷ []) (refusal 5 0)
    ∷ edit 14 (0 ∷ 1 ∷ 1 ∷ 0 ∷ []) (refusal 5 0)
    ∷ edit 14 (0 ∷ 72 ∷ 0 ∷ 0 ∷ []) (refusal 5 0)
    -- with it, a byte without a name and a run that is not good still break the layout
    ∷ edit 14 (0 ∷ 0 ∷ 1 ∷ 0 ∷ 0 ∷ 0 ∷ 1 ∷ []) (refusal 5 0)
    ∷ other (sets (sets sheet 14 (0 ∷ 0 ∷ 1 ∷ 0 ∷ [])) 33 (0 ∷ [])) (refusal 5 1)
    -- gear
    ∷ edit 33 (0 ∷ []) (refusal 5 1)
    ∷ edit 33 (1 ∷ []) (good)
    ∷ edit 33 (16 ∷ []) (good)
    ∷ edit 33 (17 ∷ []) (refusal 5 1)
    -- struck
    ∷ edit 34 (0 ∷ []) (good)
    ∷ edit 34 (1 ∷ []) (good)
    ∷ edit 34 (2 ∷ []) (refusal 5 1)
    -- engine speed
    ∷ edit 52 (0 ∷ 0 ∷ []) (good)
    ∷ edit 52 (32 ∷ 78 ∷ []) (good)
    ∷ edit 52 (33 ∷ 78 ∷ []) (refusal 5 1)
    -- the left side's background after, then the right's
    ∷ edit 68 (0 ∷ 0 ∷ []) (good)
    ∷ edit 68 (232 ∷ 3 ∷ []) (good)
    ∷ edit 68 (233 ∷ 3 ∷ []) (refusal 5 2)
    ∷ edit 70 (1 ∷ 0 ∷ []) (good)
    ∷ edit 70 (232 ∷ 3 ∷ []) (good)
    ∷ edit 70 (233 ∷ 3 ∷ []) (refusal 5 2)
    ∷ edit 70 (3 ∷ 232 ∷ []) (refusal 5 2)
    -- speeds, as a constant-speed run: at the start line, then at BB'
    ∷ edit 32 (3 ∷ []) good
    ∷ other (sets (sets sheet 32 (3 ∷ [])) 48 (9 ∷ 0 ∷ [])) (refusal 5 1)
    ∷ other (sets (sets sheet 32 (3 ∷ [])) 48 (10 ∷ 0 ∷ [])) good
    ∷ other (sets (sets sheet 32 (3 ∷ [])) 48 (220 ∷ 5 ∷ [])) good
    ∷ other (sets (sets sheet 32 (3 ∷ [])) 48 (221 ∷ 5 ∷ [])) (refusal 5 1)
    ∷ other (sets (sets sheet 32 (3 ∷ [])) 50 (9 ∷ 0 ∷ [])) (refusal 5 1)
    ∷ other (sets (sets sheet 32 (3 ∷ [])) 50 (10 ∷ 0 ∷ [])) good
    ∷ other (sets (sets sheet 32 (3 ∷ [])) 50 (220 ∷ 5 ∷ [])) good
    ∷ other (sets (sets sheet 32 (3 ∷ [])) 50 (221 ∷ 5 ∷ [])) (refusal 5 1)
    -- slower at BB' than at the start line: broken as an acceleration run, good as a constant-speed run; equal speeds are good
    ∷ edit 48 (34 ∷ 2 ∷ []) (refusal 5 1)
    ∷ other (sets (sets sheet 32 (3 ∷ [])) 48 (34 ∷ 2 ∷ [])) good
    ∷ edit 48 (33 ∷ 2 ∷ []) good
    ∷ []

-- 20.0, 140.0; the floats beyond them; -72.5, a NaN, both infinities; overloads; absent, and -0.0 and 72.5 under kind 0; kind 3
readings : List Example
readings =
    reading 1 (0 ∷ 0 ∷ 160 ∷ 65 ∷ []) good
    ∷ reading 1 (0 ∷ 0 ∷ 12 ∷ 67 ∷ []) good
    ∷ reading 1 (255 ∷ 255 ∷ 159 ∷ 65 ∷ []) (refusal 5 1)
    ∷ reading 1 (1 ∷ 0 ∷ 12 ∷ 67 ∷ []) (refusal 5 1)
    ∷ reading 1 (0 ∷ 0 ∷ 145 ∷ 194 ∷ []) (refusal 5 1)
    ∷ reading 1 (0 ∷ 0 ∷ 192 ∷ 127 ∷ []) (refusal 5 1)
    ∷ reading 1 (0 ∷ 0 ∷ 128 ∷ 127 ∷ []) (refusal 5 1)
    ∷ reading 1 (0 ∷ 0 ∷ 128 ∷ 255 ∷ []) (refusal 5 1)
    ∷ reading 2 (0 ∷ 0 ∷ 12 ∷ 67 ∷ []) good
    ∷ reading 2 (0 ∷ 0 ∷ 128 ∷ 127 ∷ []) (refusal 5 1)
    ∷ reading 0 (0 ∷ 0 ∷ 0 ∷ 0 ∷ []) good
    ∷ reading 0 (0 ∷ 0 ∷ 0 ∷ 128 ∷ []) (refusal 5 1)
    ∷ reading 0 (0 ∷ 0 ∷ 145 ∷ 66 ∷ []) (refusal 5 1)
    ∷ reading 3 (0 ∷ 0 ∷ 145 ∷ 66 ∷ []) (refusal 5 1)
    ∷ []

-- sizes, lone and misplaced records, and a wrong number of runs beside a broken record
strings : List Example
strings =
    other [] (refusal 2 0)
    ∷ other (take 1 sheet) (refusal 2 0)
    ∷ other (take 31 sheet) (refusal 2 0)
    ∷ other (take 33 sheet) (refusal 2 0)
    ∷ other (sheet ++ replicate 32673 0) (refusal 2 0)
    ∷ other (sheet ++ replicate 32704 0) (refusal 2 0)
    ∷ other (sheet ++ replicate 32672 0) (refusal 4 1023)
    ∷ other closing (refusal 3 0)
    ∷ other vehicle (refusal 4 0)
    ∷ other (vehicle ++ closing) (refusal 4 1)
    ∷ other (vehicle ++ sets closing 2 (0 ∷ [])) good
    ∷ other (vehicle ++ vehicle ++ closing) (refusal 5 1)
    ∷ other (vehicle ++ closing ++ closing) (refusal 5 1)
    ∷ edit 66 (2 ∷ []) (refusal 4 2)
    ∷ edit 3 (1 ∷ []) (refusal 5 0)
    ∷ other (sets (sets sheet 3 (1 ∷ [])) 66 (2 ∷ [])) (refusal 4 2)
    ∷ other (sets (sets sheet 37 (1 ∷ [])) 65 (1 ∷ [])) (refusal 5 1)
    ∷ []

examples : List Example
examples =
    fields ++ readings ++ strings ++ blank 3 1 ++ blank 16 2 ++ blank 20 12 ++ blank 37 3 ++ blank 54 10 ++ blank 65 1 ++ blank 72 24

every_holds : T (all_of (map holds examples))
unfolding refusal good outcome vehicle run closing sheet holds blank reading fields readings strings examples examined_by wrong_size no_vehicle no_closing lowest_broken_by good_by records record_at zeros vehicle_tests vehicle_good run_tests run_good closing_tests closing_good number lowest reading_of in_range of_bits
every_holds = tt
