-- The rows of a decision, one by one, and what a whole sheet gives for them. Assumes nothing.
use mathlib.Core.Path.{◌≡◌, refl, sym, ap, ap₂, ◌∙◌}
use mathlib.Core.Bool.{Bool, true, false, cond}
use mathlib.Core.List.{List}
use Prim.Native.Nat.{ℕ, ◌-◌, ◌≤◌, ◌<◌}
use lib.ListN.{length}
use borrow.Author.Tests.{lt-ltb, le-ltb}
use Rattle.std.specs.Prelude.{Some, None, Result, Ok, Err}
use Rattle.refusal.specs.declared.Refusal.{Refusal}
use Rattle.refusal.specs.declared.Refusal.TheVariants as refusal
use Rattle.record.specs.declared.Backgrounds.{Backgrounds}
use Rattle.record.specs.declared.Vehicle.{Vehicle}
use Rattle.record.specs.declared.Closing.{Closing}
use Rattle.sheet.specs.declared.Whole.{Whole}
use Rattle.sheet.specs.Sheet.{examined, any_acceleration}
use Rattle.sheet.proofs.Examinations.{whole}
use Rattle.window.specs.declared.Four.{Four}
use Rattle.valid_runs.specs.ValidRuns.{backgrounds_of}
use Rattle.reference.specs.declared.Reference.{Reference}
use Rattle.reference.specs.Reference.{pmr_of, pmr_in_range, reference_at}
use Rattle.limit.specs.Limits.{limit_of}
use Rattle.gears.specs.declared.Gear.{Gear}
use Rattle.gears.specs.Rules.{gear_at, first_not_falling, choice_of}
use Rattle.session.specs.declared.WithoutWindow.{WithoutWindow}
use Rattle.session.specs.Session.{Session, session_of, without_window, gears_of, windows_of}
use Rattle.decision.specs.Decision.{out_of_range, selected_in, finish_by, decide_gears, unless_without, decide_whole, track_of, decide_limited, decide_by, decision_over, sheet_vehicle, sheet_closing, sheet_backgrounds, pmr_in, sheet_limit, decision_of}

-- ---- rows 2 to 5

pub of_examination : (s : List ℕ) (r : Refusal) → examined s ≡ Err r → decision_of s ≡ Err r
unfolding decision_of decision_over decide_by
of_examination s r e = ap (decide_by (sheet_backgrounds s) (sheet_limit s) s) e

-- ---- a whole sheet

pub decision_is :
    (s : List ℕ) (w : Whole) → examined s ≡ Ok w → decision_of s ≡ decide_limited (session_of s (track_of (backgrounds_of w.vehicle.backgrounds w.closing.backgrounds) w.vehicle)) (pmr_of w.vehicle.power w.vehicle.mass) (limit_of w.vehicle (pmr_of w.vehicle.power w.vehicle.mass))
unfolding decision_of decision_over decide_by sheet_vehicle sheet_closing sheet_backgrounds pmr_in sheet_limit
decision_is s w e =
    let v : Vehicle = w.vehicle in
    let here = whole s w e in
    let backgrounds : sheet_backgrounds s ≡ backgrounds_of v.backgrounds w.closing.backgrounds = sym (ap₂ (λ (x : Vehicle) (y : Closing). backgrounds_of x.backgrounds y.backgrounds) here.vehicle_is here.closing_is) in
    let limit : sheet_limit s ≡ limit_of v (pmr_of v.power v.mass) = sym (ap (λ (x : Vehicle). limit_of x (pmr_of x.power x.mass)) here.vehicle_is) in
    ap (decide_by (sheet_backgrounds s) (sheet_limit s) s) e ∙ ap₂ (λ (b : Backgrounds) (l : Result ℕ Refusal). decide_limited (session_of s (track_of b v)) (pmr_of v.power v.mass) l) backgrounds limit

-- ---- rows 6 and 7

-- the PMR that has reference accelerations
module _ (q : ℕ) where
  pub no_pmr : pmr_in_range q ≡ None → out_of_range q ≡ true
  unfolding pmr_in_range
  no_pmr e = by (out_of_range q) e
    where
      by : (b : Bool) → cond b None (Some q) ≡ None → b ≡ true
      by true e = refl
      by false e = cc

  pub its_pmr : (p : ℕ) → pmr_in_range q ≡ Some p → (out_of_range q ≡ false) × (p ≡ q)
  unfolding pmr_in_range
  its_pmr p e = by (out_of_range q) e
    where
      by : (b : Bool) → cond b None (Some q) ≡ Some p → (b ≡ false) × (p ≡ q)
      by true e = cc
      by false e = (refl, cc)

module _ (t : Session) (q limit : ℕ) where
  pub row_6 : out_of_range q ≡ true → decide_whole t q limit ≡ Err refusal.PmrOutOfRange
  unfolding decide_whole
  row_6 h = simp h

  module _ (range : out_of_range q ≡ false) where
    pub row_7_none : any_acceleration t.sheet ≡ false → decide_whole t q limit ≡ Err refusal.NoRun
    unfolding decide_whole
    row_7_none e = simp (range, e)

    pub row_7_gear : any_acceleration t.sheet ≡ true → (w : WithoutWindow) → without_window t ≡ Some w → decide_whole t q limit ≡ Err (refusal.NoWindow w.gear w.shortage)
    unfolding decide_whole unless_without
    row_7_gear e w found = simp (range, e, found)

    pub rows_8_to_10 : any_acceleration t.sheet ≡ true → without_window t ≡ None → decide_whole t q limit ≡ decide_gears (reference_at q) limit t (gears_of t) (windows_of t)
    unfolding decide_whole unless_without
    rows_8_to_10 e w = simp (range, e, w)

-- ---- rows 8 to 10

module _ (r : Reference) (limit : ℕ) (t : Session) (gs : List Gear) (ws : List Four) where
  pub row_8 : first_not_falling gs < length gs - 1 → decide_gears r limit t gs ws ≡ Err (refusal.NotFalling (gear_at gs (first_not_falling gs)).number)
  unfolding decide_gears
  row_8 h = simp (lt-ltb (first_not_falling gs) (length gs - 1) h)

  pub rows_9_and_10 : length gs - 1 ≤ first_not_falling gs → decide_gears r limit t gs ws ≡ finish_by r limit (selected_in t gs ws (choice_of r gs))
  unfolding decide_gears
  rows_9_and_10 h = simp (le-ltb (first_not_falling gs) (length gs - 1) h)
