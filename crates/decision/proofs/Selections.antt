-- What holds of what is selected: of a pair, and of the windows of the chosen gears. Assumes nothing.
use mathlib.Core.Path.{◌≡◌, refl, subst}
use mathlib.Core.List.{List}
use Prim.Native.Nat.{ℕ, ◌+◌, ◌<◌}
use native.Mathlib.Omega.{arith}
use lib.ListN.{length}
use Rattle.std.specs.Prelude.{Option, Some, None, Result, Ok, Err}
use Rattle.refusal.specs.declared.Shortage.{Shortage}
use Rattle.record.specs.declared.RunKind.TheVariants.{Acceleration, ConstantSpeed}
use Rattle.window.specs.declared.Four.{Four}
use Rattle.window.specs.Windows.{empty_four}
use Rattle.reference.specs.declared.Reference.{Reference}
use Rattle.gears.specs.declared.Gear.{Gear}
use Rattle.gears.specs.declared.Choice.{Choice}
use Rattle.gears.specs.declared.Choice.TheVariants as choice
use Rattle.gears.specs.Rules.{empty_gear, gear_at, a, choice_of, Inside}
use Rattle.gears.proofs.Choices.{Selectable, sound, inside}
use Rattle.session.specs.Session.{Session, window_in, gear_acceleration, gears_of, windows_of}
use Rattle.session.proofs.Entries.{remaining_at, numbers_rise}
use Rattle.urban.specs.declared.ChosenGear.{ChosenGear}
use Rattle.urban.specs.declared.Chosen.{Chosen}
use Rattle.urban.specs.declared.Chosen.TheVariants.{One, Pair}
use Rattle.urban.specs.Urban.{a_of, Straddled}
use Rattle.decision.specs.Decision.{window_at, measured_by, measured_at, Selection, one_of, pair_of, selected_in, Straddling}

-- of a pair, a_ref lies between the two accelerations
pub straddling : (r : Reference) (t : Session) (gs : List Gear) (ws : List Four) (c : Option Choice) → Selectable r.a_ref.0 gs c → Straddling r (selected_in t gs ws c)
unfolding selected_in a measured_at measured_by one_of pair_of
straddling r t gs ws None h = tt
straddling r t gs ws (Some (choice.One rule p)) h = by (window_in t ConstantSpeed (gear_at gs p).number)
  where
    by : (w : Result Four Shortage) → Straddling r (one_of rule (measured_by (gear_at gs p) (window_at ws p) w))
    by (Err x) = tt
    by (Ok x) = tt
straddling r t gs ws (Some (choice.Pair rule p)) h = by (window_in t ConstantSpeed (gear_at gs p).number) (window_in t ConstantSpeed (gear_at gs (p + 1)).number)
  where
    by : (v w : Result Four Shortage) → Straddling r (pair_of rule (measured_by (gear_at gs p) (window_at ws p) v) (measured_by (gear_at gs (p + 1)) (window_at ws (p + 1)) w))
    by (Err x) w = tt
    by (Ok x) (Err y) = tt
    by (Ok x) (Ok y) = (h.below, h.above)

-- ---- what the rules choose

pub chosen_inside : (r : Reference) (gs : List Gear) (c : Choice) → choice_of r gs ≡ Some c → Inside (length gs) (Some c)
chosen_inside r gs c e = subst (Inside (length gs)) e (inside r.a_ref.0 gs (choice_of r gs) (sound r gs))

pub chosen_straddled : (r : Reference) (t : Session) (gs : List Gear) (ws : List Four) (c : Chosen) → selected_in t gs ws (choice_of r gs) ≡ Ok c → Straddled r c
chosen_straddled r t gs ws c e = subst (Straddling r) e (straddling r t gs ws (choice_of r gs) (sound r gs))

-- ---- the windows of the chosen gears

-- a chosen gear's windows are the session's, and so is its acceleration
pub record IsMeasured (t : Session) (g : ChosenGear) : Type 0 where
  pub accelerating : window_in t Acceleration g.gear.number ≡ Ok g.acceleration_window
  pub constant : window_in t ConstantSpeed g.gear.number ≡ Ok g.constant_window
  pub acceleration : a_of g ≡ gear_acceleration t.track.path g.acceleration_window

abbrev pub Measuring : Session → Selection → Type 0
Measuring t (Err x) = Unit {0}
Measuring t (Ok (One rule g)) = IsMeasured t g
Measuring t (Ok (Pair rule i j)) = IsMeasured t i × IsMeasured t j × (i.gear.number < j.gear.number)

module _ (t : Session) where
  -- the gear at a place
  gear : ℕ → Gear
  gear p = gear_at (gears_of t) p

  four : ℕ → Four
  four p = window_at (windows_of t) p

  at_place : (p : ℕ) (h : Four) → p < length (gears_of t) → window_in t ConstantSpeed (gear p).number ≡ Ok h → IsMeasured t (record { gear = gear p; acceleration_window = four p; constant_window = h })
  unfolding gear four gear_at window_at
  at_place p h l e = let r = remaining_at t empty_gear empty_four p l in record { accelerating = r.window_is; constant = e; acceleration = r.acceleration_is }

  one : (rule p : ℕ) (w : Result Four Shortage) → p < length (gears_of t) → window_in t ConstantSpeed (gear p).number ≡ w → Measuring t (one_of rule (measured_by (gear p) (four p) w))
  unfolding one_of measured_by
  one rule p (Err x) l e = tt
  one rule p (Ok h) l e = at_place p h l e

  two : (rule p : ℕ) (v w : Result Four Shortage) → p + 1 < length (gears_of t) → window_in t ConstantSpeed (gear p).number ≡ v → window_in t ConstantSpeed (gear (p + 1)).number ≡ w → Measuring t (pair_of rule (measured_by (gear p) (four p) v) (measured_by (gear (p + 1)) (four (p + 1)) w))
  unfolding pair_of measured_by gear gear_at
  two rule p (Err x) w l d e = tt
  two rule p (Ok h) (Err x) l d e = tt
  two rule p (Ok h) (Ok k) l d e = (at_place p h (omega arith) d, at_place (p + 1) k l e, numbers_rise t empty_gear p l)

  -- every chosen gear has its two windows, and gear i of a pair has the lower number
  pub measuring : (R : ℕ) (c : Option Choice) → Selectable R (gears_of t) c → Measuring t (selected_in t (gears_of t) (windows_of t) c)
  unfolding selected_in measured_at gear four
  measuring R None h = tt
  measuring R (Some (choice.One rule p)) h = one rule p (window_in t ConstantSpeed (gear p).number) h refl
  measuring R (Some (choice.Pair rule p)) h = two rule p (window_in t ConstantSpeed (gear p).number) (window_in t ConstantSpeed (gear (p + 1)).number) h.inside refl refl
