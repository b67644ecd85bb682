-- The gears of a session (document 01, row 7 of the refusals, and "Gears"; document 02, wish 5): which have no window and why, which are dropped, and
-- which remain, each with its acceleration and its acceleration window.
use Rattle.std.specs.Prelude.{Bool, true, false, cond, ◌&&◌, Option, Some, None, Result, Ok, Err, List, [], ◌∷◌, ◌++◌, map, ℕ, zero, suc, ◌+◌, ◌-◌, leb, ltb, length, take, replicate}
use Rattle.units.specs.Tests.{lowest}
use Rattle.refusal.specs.declared.Shortage.{Shortage}
use Rattle.record.specs.declared.RunKind.{RunKind}
use Rattle.record.specs.declared.RunKind.TheVariants.{Acceleration}
use Rattle.sheet.specs.Sheet.{has_acceleration}
use Rattle.window.specs.declared.Four.{Four}
use Rattle.window.specs.Windows.{empty_four, shortage_of}
use Rattle.valid_runs.specs.declared.Condition.{Condition}
use Rattle.valid_runs.specs.ValidRuns.{rest_of, window_of}
use Rattle.gears.specs.declared.Gear.{Gear}
use Rattle.gears.specs.Acceleration.{acceleration_of, mean_of}
use Rattle.gears.specs.Rules.{empty_gear}
use Rattle.session.specs.declared.Track.{Track}
use Rattle.session.specs.declared.Entry.{Entry}
use Rattle.session.specs.declared.State.{State}
use Rattle.session.specs.declared.State.TheVariants.{Remains, Dropped, NoWindow, NoRun}
use Rattle.session.specs.declared.WithoutWindow.{WithoutWindow}
use Rattle.session.specs.declared.Table.{Table}

-- what the evaluation goes by: the bytes of the sheet, and the track, with backgrounds, S and path
pub record Session : Type 0 where
  pub sheet : List ℕ
  pub track : Track

abbrev pub session_of : List ℕ → Track → Session
session_of s track = record { sheet = s; track = track }

-- a gear and a run kind over the track's backgrounds
abbrev pub condition_of : Track → RunKind → ℕ → Condition
condition_of track kind gear = record { backgrounds = track.backgrounds; kind = kind; gear = gear }

-- the window of a run kind and a gear
abbrev pub window_in : Session → RunKind → ℕ → Result Four Shortage
window_in t kind gear = window_of t.sheet (condition_of t.track kind gear)

-- why they have no window, if they have none: by the number of their valid runs
abbrev pub shortage_in : Session → RunKind → ℕ → Shortage
shortage_in t kind gear = shortage_of (length (rest_of t.sheet (condition_of t.track kind gear)))

-- ---- what becomes of a gear

-- no run of the window has an engine speed above S
unfoldable pub slow_enough : ℕ → Four → Bool
slow_enough S f = leb f.a.engine S && leb f.b.engine S && leb f.c.engine S && leb f.d.engine S

-- "From levels to windows", step 6: a gear's acceleration, in hundredths of m/s², the mean of its acceleration window's four
unfoldable pub gear_acceleration : ℕ → Four → ℕ
gear_acceleration path f =
    mean_of (acceleration_of f.a.start f.a.end path) (acceleration_of f.b.start f.b.end path)
    (acceleration_of f.c.start f.c.end path) (acceleration_of f.d.start f.d.end path)

-- a gear with an acceleration run, by its acceleration window: dropped if a run of it has an engine speed above S
unfoldable pub by_window : Track → ℕ → Result Four Shortage → State
by_window track gear (Err shortage) = NoWindow shortage
by_window track gear (Ok f) =
    cond (slow_enough track.rated f) (Remains (record { gear = record { number = gear; acceleration = record { 0 = gear_acceleration track.path f } }; window = f })) Dropped

-- what becomes of a gear: by its acceleration window, if it has an acceleration run
unfoldable pub state_of : Session → ℕ → State
state_of t gear = cond (has_acceleration t.sheet gear) (by_window t.track gear (window_in t Acceleration gear)) NoRun

-- ---- row 7

-- it has an acceleration run and no window
abbrev pub has_no_window : State → Bool
has_no_window (Remains e) = false
has_no_window Dropped = false
has_no_window (NoWindow shortage) = true
has_no_window NoRun = false

-- the lowest gear with an acceleration run and no window, less one: p for gear p + 1. (16, if there is none.)
unfoldable pub lowest_no_window : Session → ℕ
lowest_no_window t = lowest (λ p. has_no_window (state_of t (p + 1))) 16 0

-- that gear with its own shortage, by which row 7 is numbered 7 or 14
unfoldable pub without_window : Session → Option WithoutWindow
without_window t =
    let gear = lowest_no_window t + 1 in
    cond (ltb (lowest_no_window t) 16) (Some (record { gear = gear; shortage = shortage_in t Acceleration gear })) None

-- ---- the gears that remain

abbrev pub with_remaining : State → List Entry → List Entry
with_remaining (Remains e) entries = e ∷ entries
with_remaining Dropped entries = entries
with_remaining (NoWindow shortage) entries = entries
with_remaining NoRun entries = entries

-- those among `count` places from p on, in rising number
unfoldable pub remaining_from : Session → ℕ → ℕ → List Entry
remaining_from t p zero = []
remaining_from t p (suc count) = with_remaining (state_of t (p + 1)) (remaining_from t (p + 1) count)

unfoldable pub remaining : Session → List Entry
remaining t = remaining_from t 0 16

unfoldable pub gears_of : Session → List Gear
gears_of t = map (λ (e : Entry). e.gear) (remaining t)

unfoldable pub windows_of : Session → List Four
windows_of t = map (λ (e : Entry). e.window) (remaining t)

-- ---- the table of a session

-- those that remain below the lowest gear with an acceleration run and no window: all that remain, if there is none such
unfoldable pub entries_of : Session → List Entry
entries_of t = remaining_from t 0 (lowest_no_window t)

-- what stands behind the entries
unfoldable pub empty_entry : Entry
empty_entry = record { gear = empty_gear; window = empty_four }

-- a list at the front of an array of 16, and fillers behind it
abbrev pub stored : {A : Type 0} → A → List A → List A
stored filler xs = xs ++ replicate (16 - length xs) filler

unfoldable pub table_of : Session → Table
table_of t =
    record {
      entries = stored empty_entry (entries_of t);
      count = length (entries_of t);
      without_window = without_window t;
    }

-- the entries of a table, and their gears and windows
abbrev pub entries_in : Table → List Entry
entries_in r = take r.count r.entries

abbrev pub gears_in : Table → List Gear
gears_in r = map (λ (e : Entry). e.gear) (entries_in r)

abbrev pub windows_in : Table → List Four
windows_in r = map (λ (e : Entry). e.window) (entries_in r)
