-- What the definitions give for the examples, for the runs that the worked sheet chooses, for a louder sheet, and for the worked sheet without
-- wishes 1 and 8: one test, computed once, with every decision in the form of `Quick`. Assumes nothing.
use mathlib.Core.Path.{◌≡◌, refl, ap, ap₂, ◌∙◌}
use mathlib.Core.Bool.{Bool, true, false, ◌&&◌}
use mathlib.Core.List.{List, [], ◌∷◌, map}
use Prim.Native.Nat.{ℕ}
use lib.Dec.{T, eqb, eqb→eq}
use lib.Ieee.Fits.{and_l, and_r}
use lib.Ieee.{of_bits}
use lib.ListN.{get_or, replicate}
use lib.Seq.{sets}
use Rattle.std.specs.Prelude.{Ok, Err}
use Rattle.units.specs.Bytes.{number}
use Rattle.units.specs.Tests.{lowest, some, past_last, all_of}
use Rattle.units.specs.Rounding.{rounded}
use Rattle.units.proofs.Tests.{each}
use Rattle.refusal.specs.Refusal.{Answer, answer_number}
use Rattle.level.specs.Reading.{in_range, reading_of}
use Rattle.level.specs.Level.{tenths_of, corrections, correction_of, corrected_side, side_of}
use Rattle.record.specs.Records.{records, record_at, zeros, backgrounds_in, vehicle_tests, vehicle_good, vehicle_in, run_tests, run_good, run_in, reading_from, closing_tests, closing_good, closing_in, right_good}
use Rattle.sheet.specs.Sheet.{wrong_size, no_vehicle, no_closing, any_acceleration, good_by, lowest_broken_by, examined_by}
use Rattle.window.specs.Windows.{spanned, fitting, empty_run, four_at, first_place, shortage_of, first_window, larger_sum, condition_level, empty_four}
use Rattle.valid_runs.specs.ValidRuns.{backgrounds_of, both_sides, valid_of, candidate_of, rest_from, rest_of, window_of}
use Rattle.reference.specs.Reference.{pmr_of, between, a_urban, a_ref, reference_at}
use Rattle.limit.specs.Limits.{limit_table, class_of, table_limit, limit_of}
use Rattle.gears.specs.Acceleration.{acceleration_of, mean_of}
use Rattle.gears.specs.Rules.{empty_gear, gear_at, a, first_not_falling, gap, near, nearer, nearest, j_of, first_below, one_at, across_of, choice_of, k_of}
use Rattle.session.specs.Session.{slow_enough, gear_acceleration, by_window}
use Rattle.urban.specs.Urban.{weighed_level, basis_of, part_power, l_urban_of, outcome_of}
use Rattle.result.specs.Result.{result_bytes, outcome_in, fields_of}
use Rattle.decision.specs.Decision.{Decision, window_at, measured_by, one_of, pair_of, finish_by, unless_without, track_of, sheet_vehicle, sheet_closing, sheet_backgrounds, pmr_in, sheet_limit, sheet_session, reference_in, measured_at, selected_in, decide_gears}
use Rattle.evaluation.specs.Answer.{answer_by, answer_for, answer_of, buffer_by, buffer_for, buffer_of}
use Rattle.evaluation.specs.EarlierSheets.{earlier_layouts, none_looked_up, unnamed_good, written_limit, one_background, with_written, with_one_and_written}
use Rattle.evaluation.specs.Demand.{chosen_runs_by, chosen_runs}
use Rattle.text.specs.Text.{digits_of, decimal_of, spaced, line_with}
use Rattle.line.specs.Line.{accepted_word, line_of, line_of_sheet}
use Rattle.examples.specs.Starred.{Example, tenths, corrected, windowed, references, accelerated, chosen, powered, printed, evaluated, limit_and_pass, evaluation_gives, limit_and_pass_gives, gives, should_give, starred, sided, limited, shortages, worked_with, worked_sheet, limit_zero}
use Rattle.examples.proofs.Quick.{cut, runs_in, some_of, accelerates_in, rest_in, state_in, states_from, lowest_in, remaining_in, entries_decided, without_in, states_decided, states_of, quick_whole, quick_limited, quick_by, quick_over, quick_decision, entries_selected, quick_selection, quick_is, decision_quick, selection_quick}

unfoldable pub same : List ℕ → List ℕ → Bool
same [] [] = true
same (x ∷ xs) (y ∷ ys) = eqb x y && same xs ys
same [] (y ∷ ys) = false
same (x ∷ xs) [] = false

same→≡ : (xs ys : List ℕ) → T (same xs ys) → xs ≡ ys
unfolding same
same→≡ [] [] t = refl
same→≡ (x ∷ xs) (y ∷ ys) t = ap₂ ◌∷◌ (eqb→eq x y (and_l (eqb x y) (same xs ys) t)) (same→≡ xs ys (and_r (eqb x y) (same xs ys) t))
same→≡ [] (y ∷ ys) t = absurd t
same→≡ (x ∷ xs) [] t = absurd t

-- ---- an example

-- what is made of the answer and of the bytes of a result buffer of 32 zeros
unfoldable pub evaluated_by : (Answer → List ℕ → List ℕ) → Decision → List ℕ
evaluated_by f d = f (answer_for d 32) (buffer_for d (replicate 32 0))

-- what an example gives: a sheet is decided once, quickly, for both its answer and its buffer
unfoldable pub quickly : Example → List ℕ
quickly (tenths pattern n) = gives (tenths pattern n)
quickly (corrected level background n) = gives (corrected level background n)
quickly (windowed levels numbers) = gives (windowed levels numbers)
quickly (references q u r) = gives (references q u r)
quickly (accelerated path start end n) = gives (accelerated path start end n)
quickly (chosen R u accelerations numbers) = gives (chosen R u accelerations numbers)
quickly (powered q u a w c kp) = gives (powered q u a w c kp)
quickly (printed s line) = evaluated_by line_of (quick_decision s)
quickly (evaluated s numbers) = evaluated_by (evaluation_gives s) (quick_decision s)
quickly (limit_and_pass s numbers) = evaluated_by (limit_and_pass_gives s) (quick_decision s)

quickly_is : (e : Example) → gives e ≡ quickly e
unfolding evaluated_by quickly answer_of buffer_of line_of_sheet
quickly_is (tenths pattern n) = refl
quickly_is (corrected level background n) = refl
quickly_is (windowed levels numbers) = refl
quickly_is (references q u r) = refl
quickly_is (accelerated path start end n) = refl
quickly_is (chosen R u accelerations numbers) = refl
quickly_is (powered q u a w c kp) = refl
quickly_is (printed s line) = ap (evaluated_by line_of) (decision_quick s)
quickly_is (evaluated s numbers) = ap (evaluated_by (evaluation_gives s)) (decision_quick s)
quickly_is (limit_and_pass s numbers) = ap (evaluated_by (limit_and_pass_gives s)) (decision_quick s)

-- an example holds, as a test
unfoldable pub test : Example → Bool
test e = same (quickly e) (should_give e)

pub holds : (e : Example) → T (test e) → gives e ≡ should_give e
unfolding test
holds e t = quickly_is e ∙ same→≡ (quickly e) (should_give e) t

-- ---- the chosen runs, and a louder sheet

-- records 5 to 8 and 13 to 16 of gear 3, 9 to 12 and 17 to 20 of gear 4
abbrev pub worked_runs : List ℕ
worked_runs = 5 ∷ 6 ∷ 7 ∷ 8 ∷ 13 ∷ 14 ∷ 15 ∷ 16 ∷ 9 ∷ 10 ∷ 11 ∷ 12 ∷ 17 ∷ 18 ∷ 19 ∷ 20 ∷ []

-- 73.5 for 72.5 in records 5 and 6, 73.25 for 72.25 in records 7 and 8
abbrev pub louder_sheet : List ℕ
louder_sheet = sets (sets (sets (sets worked_sheet 170 (0x93 ∷ [])) 202 (0x93 ∷ [])) 234 (0x92 ∷ [])) 266 (0x92 ∷ [])

-- its line has W 72.7 for 71.9 and L_urban 71 for 70
abbrev pub louder_line : List ℕ
louder_line =
    79 ∷ 75 ∷ 32 ∷ 51 ∷ 32 ∷ 51 ∷ 32 ∷ 52 ∷ 32 ∷ 55 ∷ 56 ∷ 32 ∷ 50 ∷ 57 ∷ 32 ∷ 55 ∷ 50 ∷ 55 ∷ 32 ∷ 54 ∷ 53 ∷ 56
    ∷ 32 ∷ 55 ∷ 49 ∷ 32 ∷ 49 ∷ 48 ∷ 54 ∷ 32 ∷ 49 ∷ 52 ∷ 57 ∷ 32 ∷ 54 ∷ 54 ∷ 55 ∷ 32 ∷ 49 ∷ 52 ∷ 57 ∷ 32 ∷ 49 ∷ 10 ∷ []

-- ---- a sheet without wish 1, and without wishes 1 and 8

abbrev accepted : Answer → Bool
accepted (Ok tt) = true
accepted (Err r) = false

accepted→≡ : (a : Answer) → T (accepted a) → a ≡ Ok tt
accepted→≡ (Ok tt) t = refl
accepted→≡ (Err r) t = absurd t

quick_written : List ℕ → Decision
quick_written s = quick_over (earlier_layouts none_looked_up right_good) (sheet_backgrounds s) (written_limit s) s

written_quick : (s : List ℕ) → with_written s ≡ quick_written s
unfolding with_written quick_written
written_quick s = quick_is (earlier_layouts none_looked_up right_good) (sheet_backgrounds s) (written_limit s) s

quick_one_and_written : List ℕ → Decision
quick_one_and_written s = quick_over (earlier_layouts none_looked_up unnamed_good) (one_background s) (written_limit s) s

one_and_written_quick : (s : List ℕ) → with_one_and_written s ≡ quick_one_and_written s
unfolding with_one_and_written quick_one_and_written
one_and_written_quick s = quick_is (earlier_layouts none_looked_up unnamed_good) (one_background s) (written_limit s) s

-- ---- the test

tests : List Bool
tests =
    all_of (map test starred)
    ∷ all_of (map test sided)
    ∷ same (chosen_runs_by (quick_selection worked_sheet)) worked_runs
    ∷ same (chosen_runs_by (quick_selection louder_sheet)) worked_runs
    ∷ test (printed louder_sheet louder_line)
    ∷ accepted (answer_for (quick_one_and_written worked_sheet) 32)
    ∷ accepted (answer_for (quick_written (worked_with 1)) 32)
    ∷ eqb (answer_number (answer_for (quick_one_and_written (worked_with 1)) 32)) 5
    ∷ eqb (answer_number (answer_for (quick_written (limit_zero worked_sheet 1 0)) 32)) 5
    ∷ all_of (map test limited)
    ∷ all_of (map test shortages)
    ∷ []

computed : T (all_of tests)
unfolding tests starred sided limited shortages test evaluated_by quickly same quick_written quick_one_and_written cut runs_in some_of accelerates_in rest_in state_in states_from lowest_in remaining_in entries_decided without_in states_decided quick_by quick_over quick_decision entries_selected quick_selection number lowest some past_last rounded corrections correction_of corrected_side side_of in_range tenths_of reading_of of_bits pmr_of between a_urban a_ref reference_at records record_at zeros backgrounds_in vehicle_tests vehicle_good vehicle_in run_tests run_good run_in reading_from closing_tests closing_good closing_in wrong_size no_vehicle no_closing any_acceleration backgrounds_of both_sides valid_of candidate_of rest_from rest_of spanned fitting empty_run four_at first_place shortage_of first_window larger_sum condition_level empty_four acceleration_of mean_of empty_gear gear_at a first_not_falling gap near nearer nearest j_of first_below one_at across_of choice_of k_of slow_enough gear_acceleration by_window weighed_level basis_of part_power l_urban_of outcome_of window_at measured_by one_of pair_of finish_by unless_without track_of sheet_vehicle sheet_closing sheet_backgrounds pmr_in sheet_limit sheet_session reference_in result_bytes outcome_in fields_of answer_by buffer_by one_background written_limit limit_table class_of table_limit limit_of digits_of decimal_of spaced line_with accepted_word line_of states_of quick_whole quick_limited examined_by good_by lowest_broken_by selected_in measured_at decide_gears window_of
computed = tt

passed : (k : ℕ) → T (get_or tests k true)
passed = each tests computed

pub every_starred_test : T (all_of (map test starred))
unfolding tests
every_starred_test = passed 0

pub every_sided_test : T (all_of (map test sided))
unfolding tests
every_sided_test = passed 1

runs_by : (s : List ℕ) → T (same (chosen_runs_by (quick_selection s)) worked_runs) → chosen_runs s ≡ worked_runs
unfolding chosen_runs
runs_by s t = ap chosen_runs_by (selection_quick s) ∙ same→≡ (chosen_runs_by (quick_selection s)) worked_runs t

pub worked_runs_are : chosen_runs worked_sheet ≡ worked_runs
unfolding tests
worked_runs_are = runs_by worked_sheet (passed 2)

pub louder_runs_are : chosen_runs louder_sheet ≡ worked_runs
unfolding tests
louder_runs_are = runs_by louder_sheet (passed 3)

pub louder_line_is : line_of_sheet louder_sheet ≡ louder_line
unfolding tests
louder_line_is = holds (printed louder_sheet louder_line) (passed 4)

pub every_limited_test : T (all_of (map test limited))
unfolding tests
every_limited_test = passed 9

pub every_shortage_test : T (all_of (map test shortages))
unfolding tests
every_shortage_test = passed 10

-- the worked sheet had a result before either wish, and with 0.1 on the right before it had one without wish 1
pub worked_had_result : answer_for (with_one_and_written worked_sheet) 32 ≡ Ok tt
unfolding tests
worked_had_result = rw (one_and_written_quick worked_sheet) (accepted→≡ (answer_for (quick_one_and_written worked_sheet) 32) (passed 5))

pub sided_had_result : answer_for (with_written (worked_with 1)) 32 ≡ Ok tt
unfolding tests
sided_had_result = rw (written_quick (worked_with 1)) (accepted→≡ (answer_for (quick_written (worked_with 1)) 32) (passed 6))

-- the latter was refused without wish 8, and the worked sheet with limit 0 without wish 1; both are accepted with it
pub refused_for_byte_18 : answer_number (answer_for (with_one_and_written (worked_with 1)) 32) ≡ 5
unfolding tests
refused_for_byte_18 = rw (one_and_written_quick (worked_with 1)) (eqb→eq _ 5 (passed 7))

pub refused_for_limit_0 : answer_number (answer_for (with_written (limit_zero worked_sheet 1 0)) 32) ≡ 5
unfolding tests
refused_for_limit_0 = rw (written_quick (limit_zero worked_sheet 1 0)) (eqb→eq _ 5 (passed 8))
