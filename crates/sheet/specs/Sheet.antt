-- A byte string as a sheet (document 01, "Refusals and what remains"): rows 2 to 5 of the refusals, in their order, and what row 7 asks of the run
-- records.
use Rattle.std.specs.Prelude.{◌≡◌, Bool, true, cond, not, Result, Ok, Err, ◌&&◌, ◌||◌, List, ℕ, ◌+◌, ◌-◌, ◌%◌, ◌≤◌, ◌<◌, ltb, eqb, length}
use Rattle.units.specs.Tests.{lowest, some, marks}
use Rattle.refusal.specs.declared.Refusal.{Refusal}
use Rattle.refusal.specs.declared.Refusal.TheVariants.{WrongSize, NoVehicle, NoClosing, BrokenRecord}
use Rattle.record.specs.Records.{records, record_at, byte, word, vehicle_good, vehicle_in, run_good, closing_good, closing_in}
use Rattle.sheet.specs.declared.Whole.{Whole}

-- the number of the last record
abbrev pub last_of : List ℕ → ℕ
last_of s = records s - 1

-- row 2: empty, over 32,768 bytes, or not whole records
unfoldable pub wrong_size : List ℕ → Bool
wrong_size s = eqb (length s) 0 || ltb 32768 (length s) || not (eqb (length s % 32) 0)

-- row 3: byte 0 of the first record is not 1
unfoldable pub no_vehicle : List ℕ → Bool
no_vehicle s = not (eqb (byte (record_at s 0) 0) 1)

-- row 4: byte 0 of the last record is not 9, or its run number is not all records less two
unfoldable pub no_closing : List ℕ → Bool
no_closing s = not (eqb (byte (record_at s (last_of s)) 0) 9) || not (eqb (word (record_at s (last_of s)) 2 + 2) (records s))

-- What the vehicle and the closing record are asked for. It is a parameter, so that an examination by earlier layouts has the same text
-- (`evaluation/specs/EarlierSheets`).
pub record Layouts : Type 0 where
  pub vehicle : List ℕ → Bool
  pub closing : List ℕ → Bool

-- the layout of record i: the first is the vehicle record, the last the closing record, every other a run record
unfoldable pub good_by : Layouts → List ℕ → ℕ → Bool
good_by y s i = cond (eqb i 0) (y.vehicle (record_at s i)) (cond (eqb i (last_of s)) (y.closing (record_at s i)) (run_good (record_at s i)))

-- row 5: the lowest record that breaks the layout (the number of records where none does)
unfoldable pub lowest_broken_by : Layouts → List ℕ → ℕ
lowest_broken_by y s = lowest (λ i. not (good_by y s i)) (records s) 0

-- The first cause that holds, with its place: refusal 2, 3, 4 at the last record, 5 at the lowest broken one. Else the sheet is whole.
unfoldable pub examined_by : Layouts → List ℕ → Result Whole Refusal
examined_by y s =
    cond (wrong_size s) (Err WrongSize)
    (cond (no_vehicle s) (Err NoVehicle)
    (cond (no_closing s) (Err (NoClosing (last_of s)))
    (cond (ltb (lowest_broken_by y s) (records s)) (Err (BrokenRecord (lowest_broken_by y s)))
    (Ok (record { vehicle = vehicle_in (record_at s 0); closing = closing_in (record_at s (last_of s)) })))))

-- by the layouts of `record/specs/Records`
abbrev pub layouts : Layouts
layouts = record { vehicle = vehicle_good; closing = closing_good }

abbrev pub good_at : List ℕ → ℕ → Bool
good_at s i = good_by layouts s i

abbrev pub lowest_broken : List ℕ → ℕ
lowest_broken s = lowest_broken_by layouts s

abbrev pub examined : List ℕ → Result Whole Refusal
examined s = examined_by layouts s

-- ---- the run records of a whole sheet

-- a sheet that has its first and its last record, at most 1,024 in all, and good run records between them
pub record RunsGood (s : List ℕ) : Type 0 where
  pub two : 2 ≤ records s
  pub few : records s ≤ 1024
  pub good : (n : ℕ) → 0 < n → n + 1 < records s → run_good (record_at s n) ≡ true

-- byte `at` of record n has this value
abbrev pub has_byte : List ℕ → ℕ → ℕ → ℕ → Bool
has_byte s at value n = eqb (byte (record_at s n) at) value

-- record n is an acceleration run, whatever its validity
abbrev pub accelerates : List ℕ → ℕ → Bool
accelerates s n = has_byte s 0 2 n

-- there is an acceleration run; row 7 holds where there is none
unfoldable pub any_acceleration : List ℕ → Bool
any_acceleration s = some (accelerates s) (records s - 2) 1

-- a gear has an acceleration run
unfoldable pub has_acceleration : List ℕ → ℕ → Bool
has_acceleration s gear = some (λ n. accelerates s n && has_byte s 1 gear n) (records s - 2) 1

-- which gears have one: gear 0, which no run has, to gear 16
unfoldable pub present_of : List ℕ → List Bool
present_of s = marks (has_acceleration s) 17 0
