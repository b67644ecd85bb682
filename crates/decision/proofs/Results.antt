-- What a sheet that decides on a result is: whole, with a limit, PMR in range and chosen gears of which the result tells. Assumes nothing.
use mathlib.Core.Path.{◌≡◌, refl, sym, ap, ap₂, subst, ◌∙◌}
use mathlib.Core.Bool.{not}
use mathlib.Core.List.{List}
use Prim.Native.Nat.{ℕ, ◌-◌, ◌≤◌}
use lib.Dec.{ltb}
use lib.ListN.{length}
use borrow.Author.Tests.{ltb-false}
use Rattle.std.specs.Prelude.{Option, Some, None, Result, Ok, Err}
use Rattle.units.proofs.Tests.{by_test, neither}
use Rattle.refusal.specs.declared.Refusal.{Refusal}
use Rattle.record.specs.declared.Vehicle.{Vehicle}
use Rattle.record.specs.declared.Closing.{Closing}
use Rattle.sheet.specs.declared.Whole.{Whole}
use Rattle.sheet.specs.Sheet.{examined, any_acceleration}
use Rattle.sheet.proofs.Examinations.{WholeSheet, whole}
use Rattle.reference.specs.declared.Reference.{Reference}
use Rattle.gears.specs.Rules.{first_not_falling}
use Rattle.gears.proofs.Choices.{Selectable, sound}
use Rattle.session.specs.declared.WithoutWindow.{WithoutWindow}
use Rattle.session.specs.Session.{without_window, gears_of, windows_of}
use Rattle.urban.specs.declared.Chosen.{Chosen}
use Rattle.urban.specs.Urban.{Straddled, basis_of, outcome_of}
use Rattle.decision.specs.declared.Judged.{Judged}
use Rattle.decision.specs.Decision.{out_of_range, Selection, Straddling, Decision, finish_by, decide_gears, unless_without, decide_whole, decide_limited, decide_by, decision_over, sheet_vehicle, sheet_closing, sheet_backgrounds, pmr_in, sheet_limit, decision_of, sheet_session, reference_in, choice_in, selection_in}
use Rattle.decision.proofs.Selections.{straddling, Measuring, measuring}

-- the first and the last record of a sheet
abbrev pub sheet_whole : List ℕ → Whole
sheet_whole s = record { vehicle = sheet_vehicle s; closing = sheet_closing s }

pub record Decided (s : List ℕ) (d : Judged) : Type 0 where
  pub sheet : WholeSheet s (sheet_whole s)
  pub limit_is : sheet_limit s ≡ Ok d.limit
  pub low : 50 ≤ pmr_in s
  pub high : pmr_in s ≤ 6000
  pub chosen_gears : Chosen
  pub chosen_is : selection_in s ≡ Ok chosen_gears
  pub straddled : Straddled (reference_in s) chosen_gears
  pub measured : Measuring (sheet_session s) (Ok chosen_gears)
  pub is : d.outcome ≡ outcome_of (reference_in s) d.limit (basis_of (reference_in s) chosen_gears)

-- what was selected, where it gives a result
selected : (r : Reference) (n : ℕ) (x : Selection) (d : Judged) → Straddling r x → finish_by r n x ≡ Ok d → (g : Chosen) × (x ≡ Ok g) × Straddled r g × (n ≡ d.limit) × (d.outcome ≡ outcome_of r d.limit (basis_of r g))
unfolding finish_by
selected r n (Err x) d h e = cc
selected r n (Ok g) d h e =
    let same : ◌≡◌ {A = Judged} (record { outcome = outcome_of r n (basis_of r g); limit = n }) d = cc in
    let against : n ≡ d.limit = ap (λ (j : Judged). j.limit) same in
    (g, refl, h, against, sym (ap (λ (j : Judged). j.outcome) same) ∙ ap (λ (m : ℕ). outcome_of r m (basis_of r g)) against)

module _ (s : List ℕ) (d : Judged) (w : WholeSheet s (sheet_whole s)) where
  rules : Selectable (reference_in s).a_ref.0 (gears_of (sheet_session s)) (choice_in s)
  unfolding choice_in
  rules = sound (reference_in s) (gears_of (sheet_session s))

  straddles : Straddling (reference_in s) (selection_in s)
  unfolding selection_in
  straddles = straddling (reference_in s) (sheet_session s) (gears_of (sheet_session s)) (windows_of (sheet_session s)) (choice_in s) rules

  windows : Measuring (sheet_session s) (selection_in s)
  unfolding selection_in
  windows = measuring (sheet_session s) (reference_in s).a_ref.0 (choice_in s) rules

  from_gears : (n : ℕ) → sheet_limit s ≡ Ok n → 50 ≤ pmr_in s → pmr_in s ≤ 6000 → finish_by (reference_in s) n (selection_in s) ≡ Ok d → Decided s d
  from_gears n l lo hi e =
      let r = selected (reference_in s) n (selection_in s) d straddles e in
      record {
        sheet = w;
        limit_is = l ∙ ap (λ (m : ℕ). Ok m) r.3;
        low = lo;
        high = hi;
        chosen_gears = r.0;
        chosen_is = r.1;
        straddled = r.2;
        measured = subst (Measuring (sheet_session s)) r.1 windows;
        is = r.4;
      }

  Then : Decision → Type 0
  Then x = x ≡ Ok d → Decided s d

  by_without : (x : Option WithoutWindow) (y : Decision) → Then y → Then (unless_without x y)
  unfolding Then unless_without
  by_without (Some x) y then e = cc
  by_without None y then e = then e

  from_whole : (n : ℕ) → sheet_limit s ≡ Ok n → Then (decide_whole (sheet_session s) (pmr_in s) n)
  unfolding Then decide_whole decide_gears reference_in choice_in selection_in sheet_session
  from_whole n found =
      by_test Then (out_of_range (pmr_in s)) _ _ (λ p e. cc)
      (λ p.
      let range = neither (ltb (pmr_in s) 50) (ltb 6000 (pmr_in s)) p in
      by_test Then (not (any_acceleration s)) _ _ (λ k e. cc)
      (λ k. by_without (without_window (sheet_session s)) _
      (by_test Then (ltb (first_not_falling (gears_of (sheet_session s))) (length (gears_of (sheet_session s)) - 1)) _ _ (λ f e. cc)
      (λ f e. from_gears n found (ltb-false (pmr_in s) 50 range.0) (ltb-false 6000 (pmr_in s) range.1) e))))

  from_limit : (l : Result ℕ Refusal) → sheet_limit s ≡ l → Then (decide_limited (sheet_session s) (pmr_in s) l)
  unfolding Then decide_limited
  from_limit (Err x) found e = cc
  from_limit (Ok n) found e = from_whole n found e

pub decided : (s : List ℕ) (d : Judged) → decision_of s ≡ Ok d → Decided s d
unfolding decision_of decision_over decide_by sheet_vehicle sheet_closing sheet_session pmr_in Then
decided s d e = by (examined s) refl e
  where
    by : (x : Result Whole Refusal) → examined s ≡ x → decide_by (sheet_backgrounds s) (sheet_limit s) s x ≡ Ok d → Decided s d
    by (Err r) w k = cc
    by (Ok x) w k =
        let sheet = whole s x w in
        let same : x ≡ sheet_whole s = ap₂ (λ (v : Vehicle) (z : Closing). record { vehicle = v; closing = z }) sheet.vehicle_is sheet.closing_is in
        from_limit s d (whole s (sheet_whole s) (w ∙ ap (λ (y : Whole). Ok y) same)) (sheet_limit s) refl (ap (λ (y : Whole). decide_by (sheet_backgrounds s) (sheet_limit s) s (Ok y)) (sym same) ∙ k)
