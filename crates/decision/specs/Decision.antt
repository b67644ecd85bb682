-- What is decided for a byte string (document 01, "Refusals and what remains"; document 02, wishes 1 and 5): the first refusal of the table whose
-- cause holds, or the fields of the result and the limit found. Rows 2 to 5 are the sheet's, rows 11 and 12, which follow them, the limit's; rows 6 to
-- 10 are here; row 1 is the evaluation's. A gear without a window is refused by row 7 or 10 whichever its shortage, and has 14 or 15 for its number if
-- its runs are too wide.
use Rattle.std.specs.Prelude.{Bool, cond, not, ◌||◌, List, ℕ, ◌+◌, ◌-◌, ltb, length, get_or, Option, Some, None, Result, Ok, Err}
use Rattle.refusal.specs.declared.Shortage.{Shortage}
use Rattle.refusal.specs.declared.Refusal.{Refusal}
use Rattle.refusal.specs.declared.Refusal.TheVariants as refusal
use Rattle.record.specs.declared.RunKind.TheVariants.{ConstantSpeed}
use Rattle.record.specs.declared.Backgrounds.{Backgrounds}
use Rattle.record.specs.declared.Vehicle.{Vehicle}
use Rattle.record.specs.declared.Closing.{Closing}
use Rattle.record.specs.Records.{record_at, vehicle_in, path_of, closing_in}
use Rattle.sheet.specs.declared.Whole.{Whole}
use Rattle.sheet.specs.Sheet.{last_of, Layouts, examined_by, layouts, any_acceleration}
use Rattle.window.specs.declared.Four.{Four}
use Rattle.window.specs.Windows.{empty_four}
use Rattle.valid_runs.specs.ValidRuns.{backgrounds_of}
use Rattle.reference.specs.declared.Reference.{Reference}
use Rattle.reference.specs.Reference.{pmr_of, reference_at}
use Rattle.limit.specs.Limits.{limit_of}
use Rattle.gears.specs.declared.Gear.{Gear}
use Rattle.gears.specs.declared.Choice.{Choice}
use Rattle.gears.specs.declared.Choice.TheVariants as choice
use Rattle.gears.specs.Rules.{gear_at, first_not_falling, choice_of}
use Rattle.session.specs.declared.Track.{Track}
use Rattle.session.specs.declared.WithoutWindow.{WithoutWindow}
use Rattle.session.specs.Session.{Session, session_of, window_in, without_window, gears_of, windows_of}
use Rattle.urban.specs.declared.ChosenGear.{ChosenGear}
use Rattle.urban.specs.declared.Chosen.{Chosen}
use Rattle.urban.specs.declared.Chosen.TheVariants.{One, Pair}
use Rattle.urban.specs.Urban.{Straddled, basis_of, outcome_of}
use Rattle.decision.specs.declared.Judged.{Judged}

-- ---- row 6

-- PMR, in tenths, is under 5.0 or over 600.0
abbrev pub out_of_range : ℕ → Bool
out_of_range q = ltb q 50 || ltb 6000 q

-- ---- rows 9 and 10: the chosen gears with their windows, or the refusal

-- the acceleration window of the gear at a place
unfoldable pub window_at : List Four → ℕ → Four
window_at ws p = get_or ws p empty_four

-- a gear with both its windows, or the refusal if it has no constant-speed window
abbrev pub Measured : Type 0
Measured = Result ChosenGear Refusal

-- row 10 for a gear with its acceleration window, by its constant-speed window
unfoldable pub measured_by : Gear → Four → Result Four Shortage → Measured
measured_by g f (Err shortage) = Err (refusal.NoConstantSpeed g.number shortage)
measured_by g f (Ok h) = Ok (record { gear = g; acceleration_window = f; constant_window = h })

-- the gear at a place of the remaining ones
unfoldable pub measured_at : Session → List Gear → List Four → ℕ → Measured
measured_at t gs ws p = let g = gear_at gs p in measured_by g (window_at ws p) (window_in t ConstantSpeed g.number)

-- the chosen gears with their windows, or the refusal
abbrev pub Selection : Type 0
Selection = Result Chosen Refusal

unfoldable pub one_of : ℕ → Measured → Selection
one_of rule (Err x) = Err x
one_of rule (Ok g) = Ok (One rule g)

-- gear i has the lower number, so its window is asked first
unfoldable pub pair_of : ℕ → Measured → Measured → Selection
pair_of rule (Err x) m = Err x
pair_of rule (Ok i) (Err x) = Err x
pair_of rule (Ok i) (Ok j) = Ok (Pair rule i j)

-- row 9: no gear remains, or no rule applies
unfoldable pub selected_in : Session → List Gear → List Four → Option Choice → Selection
selected_in t gs ws None = Err refusal.NoRule
selected_in t gs ws (Some (choice.One rule p)) = one_of rule (measured_at t gs ws p)
selected_in t gs ws (Some (choice.Pair rule p)) = pair_of rule (measured_at t gs ws p) (measured_at t gs ws (p + 1))

-- what the rules give of a selection: of a pair, a_ref lies between the two accelerations
abbrev pub Straddling : Reference → Selection → Type 0
Straddling r (Err x) = Unit {0}
Straddling r (Ok c) = Straddled r c

-- ---- the rows in order

-- what is decided for a sheet: the fields of the result with the limit that L_urban was judged against, or the refusal
abbrev pub Decision : Type 0
Decision = Result Judged Refusal

-- the result of what was selected, against a limit, which is handed on with it
unfoldable pub finish_by : Reference → ℕ → Selection → Decision
finish_by r limit (Err x) = Err x
finish_by r limit (Ok c) = Ok (record { outcome = outcome_of r limit (basis_of r c); limit = limit })

-- Rows 8 to 10, over the remaining gears and their acceleration windows: neighbours that do not fall, no rule, no constant-speed window.
unfoldable pub decide_gears : Reference → ℕ → Session → List Gear → List Four → Decision
decide_gears r limit t gs ws =
    cond (ltb (first_not_falling gs) (length gs - 1)) (Err (refusal.NotFalling (gear_at gs (first_not_falling gs)).number))
    (finish_by r limit (selected_in t gs ws (choice_of r gs)))

-- row 7 for a gear that has acceleration runs and no window, by its shortage; where there is no such gear, what the rows after it give
unfoldable pub unless_without : Option WithoutWindow → Decision → Decision
unless_without (Some w) d = Err (refusal.NoWindow w.gear w.shortage)
unless_without None d = d

-- rows 6 to 10, for a whole sheet of PMR q (in tenths) and a limit
unfoldable pub decide_whole : Session → ℕ → ℕ → Decision
decide_whole t q limit =
    cond (out_of_range q) (Err refusal.PmrOutOfRange)
    (cond (not (any_acceleration t.sheet)) (Err refusal.NoRun)
    (unless_without (without_window t) (decide_gears (reference_at q) limit t (gears_of t) (windows_of t))))

-- rows 11 and 12 are the limit's
unfoldable pub decide_limited : Session → ℕ → Result ℕ Refusal → Decision
decide_limited t q (Err x) = Err x
decide_limited t q (Ok n) = decide_whole t q n

-- what a whole sheet is evaluated by over these backgrounds
unfoldable pub track_of : Backgrounds → Vehicle → Track
track_of b v = record { backgrounds = b; rated = v.rated_speed; path = path_of v }

-- rows 2 to 5 are the examination's; backgrounds and limit are given, so nothing more is read of the closing record
unfoldable pub decide_by : Backgrounds → Result ℕ Refusal → List ℕ → Result Whole Refusal → Decision
decide_by b l s (Err x) = Err x
decide_by b l s (Ok w) = decide_limited (session_of s (track_of b w.vehicle)) (pmr_of w.vehicle.power w.vehicle.mass) l

-- what is decided for a byte string by these layouts, over these backgrounds and with this limit
unfoldable pub decision_over : Layouts → Backgrounds → Result ℕ Refusal → List ℕ → Decision
decision_over y b l s = decide_by b l s (examined_by y s)

-- ---- what the rules decide on, of the bytes themselves

-- The first and the last record, read as a vehicle and a closing record. In a whole sheet that is what they are.
unfoldable pub sheet_vehicle : List ℕ → Vehicle
sheet_vehicle s = vehicle_in (record_at s 0)

unfoldable pub sheet_closing : List ℕ → Closing
sheet_closing s = closing_in (record_at s (last_of s))

-- each side's background
unfoldable pub sheet_backgrounds : List ℕ → Backgrounds
sheet_backgrounds s = backgrounds_of (sheet_vehicle s).backgrounds (sheet_closing s).backgrounds

unfoldable pub pmr_in : List ℕ → ℕ
pmr_in s = pmr_of (sheet_vehicle s).power (sheet_vehicle s).mass

-- the limit found, or row 11 or 12
unfoldable pub sheet_limit : List ℕ → Result ℕ Refusal
sheet_limit s = limit_of (sheet_vehicle s) (pmr_in s)

-- what is decided for a byte string: over the backgrounds and with the limit that its own records give
unfoldable pub decision_of : List ℕ → Decision
decision_of s = decision_over layouts (sheet_backgrounds s) (sheet_limit s) s

unfoldable pub sheet_session : List ℕ → Session
sheet_session s = session_of s (track_of (sheet_backgrounds s) (sheet_vehicle s))

-- PMR, a_urban and a_ref
unfoldable pub reference_in : List ℕ → Reference
reference_in s = reference_at (pmr_in s)

unfoldable pub choice_in : List ℕ → Option Choice
choice_in s = choice_of (reference_in s) (gears_of (sheet_session s))

-- the gear or the pair that the rules decide on, with its windows
unfoldable pub selection_in : List ℕ → Selection
selection_in s = let t = sheet_session s in selected_in t (gears_of t) (windows_of t) (choice_in s)
