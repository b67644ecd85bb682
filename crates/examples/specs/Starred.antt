-- The starred examples of document 01 ("Driven examples"), that of d 10.9 as wish 2 of document 02 has it, sessions with a background on each side
-- (wish 8), sessions whose limit is looked up (wish 1) and sessions in which a gear has no window (wish 5): for each, what the rules give and what
-- they should give, as numbers.
-- Levels are in tenths of dB(A), accelerations in hundredths of m/s², speeds in tenths of km/h; floats are written by their bit patterns.
use Rattle.std.specs.Prelude.{◌≡◌, List, [], ◌∷◌, ◌++◌, map, ℕ, zero, suc, ◌+◌, ◌%◌, ◌/◌, replicate, Option, Some, None, Result, Ok, Err}
use Rattle.std.specs.Float.{binary32}
use Rattle.std.specs.Float.Ieee.{of_bits}
use Rattle.std.proofs.lemmas.List.Edits.{sets}
use Rattle.units.specs.declared.Tenths.{Tenths}
use Rattle.units.specs.Bytes.{number}
use Rattle.refusal.specs.declared.Shortage.{Shortage}
use Rattle.refusal.specs.declared.Refusal.{Refusal}
use Rattle.refusal.specs.Refusal.{Answer, number_of, place_of}
use Rattle.level.specs.Level.{tenths_of, corrected_side}
use Rattle.record.specs.Records.{byte}
use Rattle.window.specs.declared.ValidRun.{ValidRun}
use Rattle.window.specs.declared.Four.{Four}
use Rattle.window.specs.Windows.{first_window}
use Rattle.reference.specs.declared.Reference.{Reference}
use Rattle.reference.specs.Reference.{a_urban, a_ref}
use Rattle.gears.specs.declared.Gear.{Gear}
use Rattle.gears.specs.declared.Choice.{Choice}
use Rattle.gears.specs.declared.Choice.TheVariants as choice
use Rattle.gears.specs.Acceleration.{acceleration_of}
use Rattle.gears.specs.Rules.{choice_of}
use Rattle.urban.specs.Urban.{l_urban_of}
use Rattle.decision.specs.Decision.{sheet_backgrounds, sheet_limit}
use Rattle.evaluation.specs.Answer.{answer_of, buffer_of}
use Rattle.evaluation.specs.Demand.{numbers_of}
use Rattle.line.specs.Line.{line_of_sheet}

pub data Example : Type 0 where
  -- the pattern of a float; its tenths
  tenths : ℕ → ℕ → Example
  -- a level and its background; the corrected level
  corrected : ℕ → ℕ → ℕ → Example
  -- the levels of runs 1, 2, .., the same on both sides; the numbers of the window's four runs
  windowed : List ℕ → List ℕ → Example
  -- PMR in tenths; a_urban and a_ref
  references : ℕ → ℕ → ℕ → Example
  -- the path c + length in cm, the speeds at the start line and at BB'; the run's acceleration
  accelerated : ℕ → ℕ → ℕ → ℕ → Example
  -- R, a_urban and the accelerations of gears 1, 2, ..; the rule and the places, from 1 on, of the gears it decides on
  chosen : ℕ → ℕ → List ℕ → List ℕ → Example
  -- PMR in tenths, a_urban, a', W and C; kp in hundredths
  powered : ℕ → ℕ → ℕ → ℕ → ℕ → ℕ → Example
  -- the bytes of a sheet; the bytes of the line that the program prints
  printed : List ℕ → List ℕ → Example
  -- the bytes of a sheet; the left and the right background and C, or the number and the place of its refusal
  evaluated : List ℕ → List ℕ → Example
  -- the bytes of a sheet; the limit found and 1 for pass or 0 for fail, or the number and the place of its refusal
  limit_and_pass : List ℕ → List ℕ → Example

-- ---- what the rules give, as numbers

abbrev pub side_gives : Option Tenths → List ℕ
side_gives (Some l) = l.0 ∷ []
side_gives None = []

-- runs n, n + 1, .. with these levels on both sides
abbrev pub runs_from : ℕ → List ℕ → List ValidRun
runs_from n [] = []
runs_from n (l ∷ levels) =
    record { left = record { 0 = l }; right = record { 0 = l }; start = 0; end = 0; engine = 0; number = n } ∷ runs_from (n + 1) levels

abbrev pub window_gives : Result Four Shortage → List ℕ
window_gives (Ok f) = numbers_of f
window_gives (Err shortage) = []

abbrev pub gears_with : List ℕ → List Gear
gears_with = map (λ x. record { number = 0; acceleration = record { 0 = x } })

-- PMR in tenths, a_urban, a_ref
abbrev pub referred : ℕ → ℕ → ℕ → Reference
referred q u r = record { pmr = q; a_urban = record { 0 = u }; a_ref = record { 0 = r } }

abbrev pub choice_gives : Option Choice → List ℕ
choice_gives (Some (choice.One rule p)) = rule ∷ (p + 1) ∷ []
choice_gives (Some (choice.Pair rule p)) = rule ∷ (p + 1) ∷ (p + 2) ∷ []
choice_gives None = []

-- of a sheet, by the answer and the bytes of the result buffer
abbrev pub evaluation_gives : List ℕ → Answer → List ℕ → List ℕ
evaluation_gives s (Ok tt) b = (sheet_backgrounds s).left.0 ∷ (sheet_backgrounds s).right.0 ∷ number b 8 2 ∷ []
evaluation_gives s (Err r) b = number_of r ∷ place_of r ∷ []

abbrev pub limit_gives : Result ℕ Refusal → List ℕ
limit_gives (Ok n) = n ∷ []
limit_gives (Err r) = []

abbrev pub limit_and_pass_gives : List ℕ → Answer → List ℕ → List ℕ
limit_and_pass_gives s (Ok tt) b = limit_gives (sheet_limit s) ++ (byte b 5 ∷ [])
limit_and_pass_gives s (Err r) b = number_of r ∷ place_of r ∷ []

abbrev pub gives : Example → List ℕ
gives (tenths pattern n) = tenths_of (of_bits binary32 pattern) ∷ []
gives (corrected level background n) = side_gives (corrected_side level background)
gives (windowed levels numbers) = window_gives (first_window (runs_from 1 levels))
gives (references q u r) = a_urban q ∷ a_ref q ∷ []
gives (accelerated path start end n) = acceleration_of start end path ∷ []
gives (chosen R u accelerations numbers) = choice_gives (choice_of (referred 0 u R) (gears_with accelerations))
gives (powered q u a w c kp) = (l_urban_of (referred q u 0) a w c).kp ∷ []
gives (printed s line) = line_of_sheet s
gives (evaluated s numbers) = evaluation_gives s (answer_of s 32) (buffer_of s (replicate 32 0))
gives (limit_and_pass s numbers) = limit_and_pass_gives s (answer_of s 32) (buffer_of s (replicate 32 0))

abbrev pub should_give : Example → List ℕ
should_give (tenths pattern n) = n ∷ []
should_give (corrected level background n) = n ∷ []
should_give (windowed levels numbers) = numbers
should_give (references q u r) = u ∷ r ∷ []
should_give (accelerated path start end n) = n ∷ []
should_give (chosen R u accelerations numbers) = numbers
should_give (powered q u a w c kp) = kp ∷ []
should_give (printed s line) = line
should_give (evaluated s numbers) = numbers
should_give (limit_and_pass s numbers) = numbers

-- an example holds if the rules give what they should
abbrev pub Holds : Example → Type 0
Holds e = gives e ≡ should_give e

-- ---- the worked sheet

-- the low `width` bytes of n, low byte first
abbrev pub bytes_of : ℕ → ℕ → List ℕ
bytes_of zero n = []
bytes_of (suc width) n = (n % 256) ∷ bytes_of width (n / 256)

-- a run that is not struck, both readings levels, at 4,000 per minute: its kind and gear, its speeds, the patterns of its left and right
abbrev pub run : ℕ → ℕ → ℕ → ℕ → ℕ → ℕ → List ℕ
run kind gear start end left right =
    (kind ∷ gear ∷ 0 ∷ 1 ∷ 1 ∷ 0 ∷ 0 ∷ 0 ∷ [])
    ++ bytes_of 4 left ++ bytes_of 4 right ++ bytes_of 2 start ++ bytes_of 2 end ++ bytes_of 2 4000 ++ replicate 10 0

-- the same run four times
abbrev pub four : List ℕ → List ℕ
four r = r ++ r ++ r ++ r

-- M1, from AA', P 100.0 kW, m 1,500 kg, length 450 cm, S 6,000, left background 40.0, limit 72; given: the right background before
abbrev pub vehicle : ℕ → List ℕ
vehicle right =
    (1 ∷ 1 ∷ 0 ∷ 0 ∷ [])
    ++ bytes_of 2 1000 ++ bytes_of 2 1500 ++ bytes_of 2 450 ++ bytes_of 2 6000 ++ bytes_of 2 400 ++ bytes_of 2 72 ++ bytes_of 2 0 ++ bytes_of 2 right
    ++ replicate 12 0

-- given: the number of runs, the left and the right background after
abbrev pub closing : ℕ → ℕ → ℕ → List ℕ
closing runs left right = (9 ∷ 0 ∷ []) ++ bytes_of 2 runs ++ bytes_of 2 left ++ bytes_of 2 right ++ replicate 24 0

-- acceleration, gear 2: 74.0 on both sides
abbrev pub worked2 : List ℕ
worked2 = four (run 2 2 430 570 0x4294_0000 0x4294_0000)

-- gear 3: 72.5 twice and 72.25 twice on the left, 71.5 on the right
abbrev pub worked3 : List ℕ
worked3 =
    run 2 3 442 545 0x4291_0000 0x428f_0000 ++ run 2 3 442 545 0x4291_0000 0x428f_0000
    ++ run 2 3 442 545 0x4290_8000 0x428f_0000 ++ run 2 3 442 545 0x4290_8000 0x428f_0000

-- gear 4: 70.125 and 70.0
abbrev pub worked4 : List ℕ
worked4 = four (run 2 4 470 539 0x428c_4000 0x428c_0000)

-- constant speed, gear 3: 66.0 and 65.5; gear 4: 65.0 and 65.1875
abbrev pub constant3 : List ℕ
constant3 = run 3 3 500 500 0x4284_0000 0x4283_0000

abbrev pub constant4 : List ℕ
constant4 = run 3 4 500 500 0x4282_0000 0x4282_6000

-- given: the right background before; left background 40.0
abbrev pub worked_with : ℕ → List ℕ
worked_with right = vehicle right ++ worked2 ++ worked3 ++ worked4 ++ four constant3 ++ four constant4 ++ closing 20 400 0

abbrev pub worked_sheet : List ℕ
worked_sheet = worked_with 0

-- "OK 3 3 4 78 29 719 658 70 106 149 667 149 1" and a line feed, in ASCII codes
abbrev pub worked_line : List ℕ
worked_line =
    79 ∷ 75 ∷ 32 ∷ 51 ∷ 32 ∷ 51 ∷ 32 ∷ 52 ∷ 32 ∷ 55 ∷ 56 ∷ 32 ∷ 50 ∷ 57 ∷ 32 ∷ 55 ∷ 49 ∷ 57 ∷ 32 ∷ 54 ∷ 53 ∷ 56
    ∷ 32 ∷ 55 ∷ 48 ∷ 32 ∷ 49 ∷ 48 ∷ 54 ∷ 32 ∷ 49 ∷ 52 ∷ 57 ∷ 32 ∷ 54 ∷ 54 ∷ 55 ∷ 32 ∷ 49 ∷ 52 ∷ 57 ∷ 32 ∷ 49 ∷ 10 ∷ []

unfoldable pub starred : List Example
starred =
    -- 72.25 gives 72.3, 72.125 gives 72.1
    tenths 0x4290_8000 723
    ∷ tenths 0x4290_4000 721
    -- over 40.0: d 10.9 takes 0.4 off, d 15.0 nothing
    ∷ corrected 509 400 505
    ∷ corrected 550 400 550
    -- 70.0, 72.1, 71.0, 71.0, 71.0: runs 2 to 5
    ∷ windowed (700 ∷ 721 ∷ 710 ∷ 710 ∷ 710 ∷ []) (2 ∷ 3 ∷ 4 ∷ 5 ∷ [])
    -- PMR 25.0, 100.0 and 600.0
    ∷ references 250 79 81
    ∷ references 1000 117 177
    ∷ references 6000 166 301
    -- length 450, AA' 44.0, BB' 56.0: 1.89
    ∷ accelerated 2450 440 560 189
    -- R 1.49, gears 1.56 and 1.42: the first, alone, by rule 2
    ∷ chosen 149 106 (156 ∷ 142 ∷ []) (2 ∷ 1 ∷ [])
    -- one gear, a 1.00, a_urban 1.06, W not below C: kp 0
    ∷ powered 667 106 100 700 650 0
    -- the worked sheet
    ∷ printed worked_sheet worked_line
    ∷ []

-- ---- a background on each side

-- gear 3 alone: 70.0 on the left and 72.0 on the right, at constant speed 65.0 and 66.0; the right background before, the left and the right after
abbrev pub sided_sheet : ℕ → ℕ → ℕ → List ℕ
sided_sheet right_before left_after right_after =
    vehicle right_before
    ++ four (run 2 3 442 545 0x428c_0000 0x4290_0000)
    ++ four (run 3 3 500 500 0x4282_0000 0x4284_0000)
    ++ closing 8 left_after right_after

unfoldable pub sided : List Example
sided =
    -- zero on the right, before and after: the left's
    evaluated (sided_sheet 0 400 0) (400 ∷ 400 ∷ 660 ∷ [])
    -- 56.0 on the right, before or after: at constant speed d is 10.0 there, and 0.5 is taken off
    ∷ evaluated (sided_sheet 560 400 0) (400 ∷ 560 ∷ 655 ∷ [])
    ∷ evaluated (sided_sheet 0 400 560) (400 ∷ 560 ∷ 655 ∷ [])
    -- zero stands for the left of its own record: beside 0.1 before it is the left's after, 40.0 or 54.0; beside 0.1 after, the left's before
    ∷ evaluated (sided_sheet 1 400 0) (400 ∷ 400 ∷ 660 ∷ [])
    ∷ evaluated (sided_sheet 1 540 0) (540 ∷ 540 ∷ 657 ∷ [])
    ∷ evaluated (sided_sheet 0 540 1) (540 ∷ 400 ∷ 660 ∷ [])
    -- 0.1 before and after: the right has 0.1, whatever the left
    ∷ evaluated (sided_sheet 1 540 1) (540 ∷ 1 ∷ 660 ∷ [])
    -- 56.1 on the right: d is 9.9 at constant speed, and no run counts
    ∷ evaluated (sided_sheet 561 400 0) (10 ∷ 3 ∷ [])
    -- 100.0 is the most that either right field may hold
    ∷ evaluated (sided_sheet 1000 400 0) (7 ∷ 3 ∷ [])
    ∷ evaluated (sided_sheet 1001 400 0) (5 ∷ 0 ∷ [])
    ∷ evaluated (sided_sheet 0 400 1000) (7 ∷ 3 ∷ [])
    ∷ evaluated (sided_sheet 0 400 1001) (5 ∷ 9 ∷ [])
    -- the worked sheet with 0.1 on the right before, whose byte 18 alone a layout without that field refuses
    ∷ printed (worked_with 1) worked_line
    ∷ []

-- ---- a limit that is looked up

-- a sheet with limit 0, given bytes 16 and 17
abbrev pub limit_zero : List ℕ → ℕ → ℕ → List ℕ
limit_zero s phase low_car = sets s 14 (0 ∷ 0 ∷ phase ∷ low_car ∷ [])

-- a sheet of category N1
abbrev pub as_n1 : List ℕ → List ℕ
as_n1 s = sets s 1 (2 ∷ [])

-- a sheet with P in tenths of kW and m in kg
abbrev pub with_power : List ℕ → ℕ → ℕ → List ℕ
with_power s power mass = sets s 4 (bytes_of 2 power ++ bytes_of 2 mass)

-- the sheet with gear 3 alone
abbrev pub one_gear : List ℕ
one_gear = sided_sheet 0 400 0

-- A sheet without runs. It is refused with 7 at 0, unless a row before row 7 refuses it.
abbrev pub no_runs : List ℕ
no_runs = vehicle 0 ++ closing 0 400 0

-- the worked line with 0 for pass
abbrev pub failed_line : List ℕ
failed_line = sets worked_line 42 (48 ∷ [])

unfoldable pub limited : List Example
limited =
    -- the worked sheet, PMR 66.7 and L_urban 70: 72 in phase 1, 70 in phase 2, 68 in phase 3, where it fails, and the other fields are the same
    printed (limit_zero worked_sheet 1 0) worked_line
    ∷ limit_and_pass (limit_zero worked_sheet 1 0) (72 ∷ 1 ∷ [])
    ∷ limit_and_pass (limit_zero worked_sheet 2 0) (70 ∷ 1 ∷ [])
    ∷ limit_and_pass (limit_zero worked_sheet 3 0) (68 ∷ 0 ∷ [])
    ∷ printed (limit_zero worked_sheet 3 0) failed_line
    -- 96.5 kW and 804 kg: 120.02.., rounded 120.0; 96.6 kW: 120.1
    ∷ limit_and_pass (with_power (limit_zero one_gear 1 0) 965 804) (72 ∷ 1 ∷ [])
    ∷ limit_and_pass (with_power (limit_zero one_gear 1 0) 966 804) (73 ∷ 1 ∷ [])
    -- PMR 200.0 and 200.1 with byte 17 set
    ∷ limit_and_pass (with_power (limit_zero one_gear 2 1) 1600 800) (73 ∷ 1 ∷ [])
    ∷ limit_and_pass (with_power (limit_zero one_gear 2 1) 1601 800) (74 ∷ 1 ∷ [])
    -- N1, whatever bytes 16 and 17 hold, also below PMR 5.0; with a written limit it has one
    ∷ limit_and_pass (as_n1 (limit_zero worked_sheet 9 7)) (11 ∷ 0 ∷ [])
    ∷ limit_and_pass (as_n1 (limit_zero no_runs 1 0)) (11 ∷ 0 ∷ [])
    ∷ limit_and_pass (with_power (as_n1 (limit_zero no_runs 1 0)) 74 1500) (11 ∷ 0 ∷ [])
    ∷ limit_and_pass (as_n1 one_gear) (72 ∷ 1 ∷ [])
    -- phase 0, phase 4, 2 in byte 17, and phase 0 also below PMR 5.0; then PMR 4.9 itself
    ∷ limit_and_pass (limit_zero no_runs 0 0) (12 ∷ 0 ∷ [])
    ∷ limit_and_pass (limit_zero no_runs 4 0) (12 ∷ 0 ∷ [])
    ∷ limit_and_pass (limit_zero no_runs 1 2) (12 ∷ 0 ∷ [])
    ∷ limit_and_pass (with_power (limit_zero no_runs 0 0) 74 1500) (12 ∷ 0 ∷ [])
    ∷ limit_and_pass (with_power (limit_zero no_runs 1 0) 74 1500) (6 ∷ 0 ∷ [])
    -- a run of gear 0, record 3: the layout is asked first
    ∷ limit_and_pass (sets (as_n1 (limit_zero one_gear 9 7)) 97 (0 ∷ [])) (5 ∷ 3 ∷ [])
    -- a written limit with byte 16 or 17 set; limits 49, 101 and 256
    ∷ limit_and_pass (sets no_runs 16 (1 ∷ [])) (5 ∷ 0 ∷ [])
    ∷ limit_and_pass (sets no_runs 17 (1 ∷ [])) (5 ∷ 0 ∷ [])
    ∷ limit_and_pass (sets no_runs 14 (49 ∷ 0 ∷ [])) (5 ∷ 0 ∷ [])
    ∷ limit_and_pass (sets no_runs 14 (101 ∷ 0 ∷ [])) (5 ∷ 0 ∷ [])
    ∷ limit_and_pass (sets no_runs 14 (0 ∷ 1 ∷ 1 ∷ 0 ∷ [])) (5 ∷ 0 ∷ [])
    ∷ []

-- ---- a gear without a window

-- a sheet of these runs, `count` of them, with backgrounds of 40.0
abbrev pub sheet_with : ℕ → List ℕ → List ℕ
sheet_with count runs = vehicle 0 ++ runs ++ closing count 400 0

-- the worked sheet's acceleration runs with these at constant speed
abbrev pub at_constant_speed : ℕ → List ℕ → List ℕ
at_constant_speed count runs = sheet_with (12 + count) (worked2 ++ worked3 ++ worked4 ++ runs)

abbrev pub three : List ℕ → List ℕ
three r = r ++ r ++ r

-- a run with 66.0 and one with this float, on the left, in turn, twice, both with 65.5 on the right; given: kind, gear and speeds
abbrev pub in_turn : ℕ → ℕ → ℕ → ℕ → ℕ → List ℕ
in_turn kind gear start end left =
    let quiet = run kind gear start end 0x4284_0000 0x4283_0000 in
    let loud = run kind gear start end left 0x4283_0000 in
    quiet ++ loud ++ quiet ++ loud

-- runs of which the first is struck
abbrev pub struck : List ℕ → List ℕ
struck runs = sets runs 2 (1 ∷ [])

unfoldable pub shortages : List Example
shortages =
    -- 66.0, 68.1, 66.0, 68.1 at constant speed in gear 3: four, and too wide, whether gear 4 has a window or too few runs
    evaluated (at_constant_speed 8 (in_turn 3 3 500 500 0x4288_3333 ++ four constant4)) (15 ∷ 3 ∷ [])
    ∷ evaluated (at_constant_speed 7 (in_turn 3 3 500 500 0x4288_3333 ++ three constant4)) (15 ∷ 3 ∷ [])
    -- three in gear 3, which decides though gear 4 is too wide; a window in gear 3 leaves gear 4 to decide
    ∷ evaluated (at_constant_speed 7 (three constant3 ++ in_turn 3 4 500 500 0x4288_3333)) (10 ∷ 3 ∷ [])
    ∷ evaluated (at_constant_speed 8 (four constant3 ++ in_turn 3 4 500 500 0x4288_3333)) (15 ∷ 4 ∷ [])
    ∷ evaluated (at_constant_speed 7 (four constant3 ++ three constant4)) (10 ∷ 4 ∷ [])
    -- 68.0 is within, and leaves gear 4 to decide, too
    ∷ evaluated (at_constant_speed 7 (in_turn 3 3 500 500 0x4288_0000 ++ three constant4)) (10 ∷ 4 ∷ [])
    -- acceleration runs: gear 2 too wide and gear 3 too few; gear 2 too few and gear 3 too wide
    ∷ evaluated (sheet_with 7 (in_turn 2 2 430 570 0x4288_3333 ++ three (run 2 3 442 545 0x4284_0000 0x4283_0000))) (14 ∷ 2 ∷ [])
    ∷ evaluated (sheet_with 7 (three (run 2 2 430 570 0x4284_0000 0x4283_0000) ++ in_turn 2 3 442 545 0x4288_3333)) (7 ∷ 2 ∷ [])
    -- one of four is struck, and three are valid; one of five is struck, and four are valid
    ∷ evaluated (sheet_with 4 (struck (in_turn 2 2 430 570 0x4288_3333))) (7 ∷ 2 ∷ [])
    ∷ evaluated (sheet_with 5 (struck (run 2 2 430 570 0x4284_0000 0x4283_0000) ++ in_turn 2 2 430 570 0x4288_3333)) (14 ∷ 2 ∷ [])
    -- the worked sheet with six runs of gear 5, all struck: none is valid
    ∷ evaluated (at_constant_speed 14 (four constant3 ++ four constant4 ++ three (struck (run 2 5 490 520 0x4284_0000 0x4283_0000)) ++ three (struck (run 2 5 490 520 0x4284_0000 0x4283_0000)))) (7 ∷ 5 ∷ [])
    -- no acceleration run
    ∷ evaluated (sheet_with 8 (four constant3 ++ four constant4)) (7 ∷ 0 ∷ [])
    ∷ []
