-- The table of refusals (document 01, "Refusals and what remains"; document 02, wishes 1 and 5), row by row in the order of checking, each a number, a
-- cause and a place; and what it is to be the first row whose cause holds. The numbers are not in order: rows 11 and 12 stand between 5 and 6, and a
-- gear without a window has one row for both numbers that it may have. The rows after 5 read the first and the last record as a vehicle and a closing
-- record, which they are where no row before holds.
use Rattle.std.specs.Prelude.{◌≡◌, Bool, true, false, cond, not, ◌||◌, List, [], ◌∷◌, ℕ, ◌-◌, ◌+◌, ◌<◌, ltb, length, get_or, Option, Some, None as Nothing, Result, Ok, Err}
use Rattle.refusal.specs.declared.Shortage.{Shortage}
use Rattle.refusal.specs.Refusal.{WindowNumbers, window_numbers}
use Rattle.record.specs.declared.RunKind.{RunKind}
use Rattle.record.specs.declared.RunKind.TheVariants.{Acceleration, ConstantSpeed}
use Rattle.record.specs.Records.{records}
use Rattle.sheet.specs.Sheet.{last_of, wrong_size, no_vehicle, no_closing, lowest_broken, any_acceleration}
use Rattle.window.specs.declared.Four.{Four}
use Rattle.limit.specs.Limits.{no_limit_for_n1, no_limit_entry}
use Rattle.gears.specs.declared.Choice.{Choice}
use Rattle.gears.specs.declared.Choice.TheVariants as choice
use Rattle.gears.specs.Rules.{gear_at, first_not_falling}
use Rattle.session.specs.Session.{Session, window_in, shortage_in, lowest_no_window, gears_of}
use Rattle.decision.specs.Decision.{out_of_range, sheet_vehicle, sheet_session, pmr_in, choice_in}

pub record Row : Type 0 where
  pub number : ℕ
  pub holds : Bool
  pub place : ℕ

abbrev pub row : ℕ → Bool → ℕ → Row
row n holds p = record { number = n; holds = holds; place = p }

-- ---- the causes of rows 9 and 10. `Nothing` is the None of an Option, since `None` below says that no row's cause holds.

-- no gear remains, or no rule applies
abbrev pub undecided : Option Choice → Bool
undecided (Some (choice.One rule p)) = false
undecided (Some (choice.Pair rule p)) = false
undecided Nothing = true

-- there is no window
abbrev pub missing : Result Four Shortage → Bool
missing (Ok f) = false
missing (Err shortage) = true

-- the number of the gear at a place, and whether that gear has no constant-speed window
abbrev pub gear_number : Session → ℕ → ℕ
gear_number t p = (gear_at (gears_of t) p).number

abbrev pub no_constant_at : Session → ℕ → Bool
no_constant_at t p = missing (window_in t ConstantSpeed (gear_number t p))

-- a chosen gear has none
abbrev pub no_constant : Session → Option Choice → Bool
no_constant t (Some (choice.One rule p)) = no_constant_at t p
no_constant t (Some (choice.Pair rule p)) = no_constant_at t p || no_constant_at t (p + 1)
no_constant t Nothing = false

-- the lowest such gear: gear i of a pair has the lower number
abbrev pub lowest_no_constant : Session → Option Choice → ℕ
lowest_no_constant t (Some (choice.One rule p)) = gear_number t p
lowest_no_constant t (Some (choice.Pair rule p)) = cond (no_constant_at t p) (gear_number t p) (gear_number t (p + 1))
lowest_no_constant t Nothing = 0

-- ---- the table, for a sheet and a result buffer of this size

-- the row of a gear without a window of this run kind: its number goes by the gear's own shortage
abbrev pub window_row : (Shortage → ℕ) → Session → RunKind → Bool → ℕ → Row
window_row numbers t kind holds gear = row (numbers (shortage_in t kind gear)) holds gear

-- with these numbers of a missing window
unfoldable pub rows_by : WindowNumbers → List ℕ → ℕ → List Row
rows_by numbers s size =
    let t = sheet_session s in
    let gears = gears_of t in
    row 1 (ltb size 32) 0
    ∷ row 2 (wrong_size s) 0
    ∷ row 3 (no_vehicle s) 0
    ∷ row 4 (no_closing s) (last_of s)
    ∷ row 5 (ltb (lowest_broken s) (records s)) (lowest_broken s)
    -- limit 0 with N1; limit 0 with a phase outside 1 to 3 or a byte 17 above 1
    ∷ row 11 (no_limit_for_n1 (sheet_vehicle s)) 0
    ∷ row 12 (no_limit_entry (sheet_vehicle s)) 0
    ∷ row 6 (out_of_range (pmr_in s)) 0
    -- no acceleration run, or a gear with one and no acceleration window
    ∷ row 7 (not (any_acceleration s)) 0
    ∷ window_row numbers.acceleration t Acceleration (ltb (lowest_no_window t) 16) (lowest_no_window t + 1)
    -- neighbours that do not fall: the lower of the first
    ∷ row 8 (ltb (first_not_falling gears) (length gears - 1)) (gear_number t (first_not_falling gears))
    ∷ row 9 (undecided (choice_in s)) 0
    -- a chosen gear without a constant-speed window
    ∷ window_row numbers.constant t ConstantSpeed (no_constant t (choice_in s)) (lowest_no_constant t (choice_in s))
    ∷ []

-- with 7 or 14, and 10 or 15
abbrev pub rows : List ℕ → ℕ → List Row
rows s size = rows_by window_numbers s size

-- ---- the first row whose cause holds

-- what stands past the end of the table
abbrev pub empty_row : Row
empty_row = row 0 false 0

-- a row's cause holds, none before it does, and the row has this number and this place
pub record First (table : List Row) (n p : ℕ) : Type 0 where
  pub at : ℕ
  pub holds : (get_or table at empty_row).holds ≡ true
  pub before : (m : ℕ) → m < at → (get_or table m empty_row).holds ≡ false
  pub number : (get_or table at empty_row).number ≡ n
  pub place : (get_or table at empty_row).place ≡ p

-- no row's cause holds
abbrev pub None : List Row → Type 0
None table = (m : ℕ) → (get_or table m empty_row).holds ≡ false
