-- Earlier sheets keep their results. Assumes nothing.
use mathlib.Core.Path.{◌≡◌, refl, sym, ap, ap₂, ◌∙◌}
use mathlib.Core.Bool.{Bool, true, false, cond}
use mathlib.Core.List.{List}
use mathlib.Core.Logic.{◌⊎◌, inl, inr}
use Prim.Native.Nat.{ℕ}
use lib.Dec.{ltb}
use lib.ListN.{length}
use Rattle.std.specs.Prelude.{Result, Ok, Err}
use Rattle.units.specs.Tests.{all_of}
use Rattle.refusal.specs.declared.Refusal.{Refusal}
use Rattle.refusal.specs.declared.Refusal.TheVariants as refusal
use Rattle.refusal.specs.Refusal.{Answer}
use Rattle.record.specs.declared.Backgrounds.{Backgrounds}
use Rattle.record.specs.declared.Vehicle.{Vehicle}
use Rattle.record.specs.declared.Closing.{Closing}
use Rattle.record.specs.Records.{record_at, zeros, right_good, looked_up, vehicle_tests, vehicle_good, vehicle_in, closing_tests, closing_good, closing_in}
use Rattle.record.proofs.VehicleRanges.{vehicle_ranges}
use Rattle.record.proofs.ClosingRanges.{closing_ranges}
use Rattle.record.proofs.RightBackground.{zero_good, no_right, vehicle_test, closing_test, same_vehicle_tests, same_closing_tests}
use Rattle.record.proofs.WrittenLimit.{written, same_tests}
use Rattle.sheet.specs.declared.Whole.{Whole}
use Rattle.sheet.specs.Sheet.{last_of, Layouts, examined_by, layouts, examined}
use Rattle.sheet.proofs.Examinations.{WholeSheet, whole}
use Rattle.sheet.proofs.Layouts.{same_examination, ByNarrower, broken, refused, passed, by_narrower}
use Rattle.valid_runs.specs.ValidRuns.{backgrounds_of}
use Rattle.limit.proofs.Limits.{as_written}
use Rattle.decision.specs.Decision.{Decision, decide_by, decision_over, sheet_vehicle, sheet_closing, sheet_backgrounds, pmr_in, sheet_limit, decision_of}
use Rattle.decision.proofs.Results.{sheet_whole}
use Rattle.evaluation.specs.Answer.{answer_by, answer_for, answer_of, buffer_for, buffer_of}
use Rattle.evaluation.specs.EarlierSheets.{earlier_layouts, none_looked_up, unnamed_good, written_limit, one_background, with_written, with_one, with_one_and_written, AnsweredBy, KeptWithWritten, KeptWithoutRight, KeptUnlessBroken, ResultsKept}

-- ---- decisions

-- the answer and the buffer are those of an equal decision
answered_by : (d : Decision) (s b : List ℕ) → decision_of s ≡ d → AnsweredBy d s b
unfolding answer_of buffer_of
answered_by d s b same = record { answer = ap (λ x. answer_for x (length b)) same; buffer = ap (λ x. buffer_for x b) same }

-- a refusal of the examination reads neither a background nor a limit; so where an examination finds the same, two decisions are one if a whole
-- sheet gives both the same backgrounds and the same limit
module _ (s : List ℕ) (y : Layouts) (b : Backgrounds) (l : Result ℕ Refusal) where
  abbrev Same : Type 0
  Same = WholeSheet s (sheet_whole s) → (sheet_backgrounds s ≡ b) × (sheet_limit s ≡ l)

  where_whole : examined s ≡ examined_by y s → Same → decision_of s ≡ decision_over y b l s
  unfolding decision_of decision_over decide_by sheet_vehicle sheet_closing
  where_whole found h = by (examined s) refl
    where
      by : (x : Result Whole Refusal) → examined s ≡ x → decide_by (sheet_backgrounds s) (sheet_limit s) s (examined s) ≡ decide_by b l s (examined_by y s)
      by (Err r) e = rw (← found, e) refl
      by (Ok w) e =
          let f = whole s w e in
          let ends : Ok w ≡ Ok (sheet_whole s) = ap₂ (λ (v : Vehicle) (z : Closing). Ok (record { vehicle = v; closing = z })) f.vehicle_is f.closing_is in
          let same = h (whole s (sheet_whole s) (e ∙ ends)) in
          rw (← found, ← same.0, ← same.1) refl

  -- by narrower layouts a record is broken, or the decision is the same
  kept : ByNarrower y s → (y.vehicle (record_at s 0) ≡ true → y.closing (record_at s (last_of s)) ≡ true → Same) → (decision_of s ≡ decision_over y b l s) ⊎ ((n : ℕ) × (decision_over y b l s ≡ Err (refusal.BrokenRecord n)))
  unfolding decision_of decision_over decide_by
  kept (broken n e) h = inr (n, ap (decide_by b l s) e)
  kept (refused r e f) h = inl (ap (decide_by (sheet_backgrounds s) (sheet_limit s) s) f ∙ sym (ap (decide_by b l s) e))
  kept (passed p q e) h = inl (where_whole (sym e) (h p q))

-- ---- a written limit

-- a layout in which the limit is always written and the one in which it may be looked up say the same of a record with a written limit
written_layout : (asked : List ℕ → ℕ → Bool) (r : List ℕ) → looked_up r ≡ false → all_of (vehicle_tests none_looked_up asked r) ≡ all_of (vehicle_tests looked_up asked r)
written_layout asked r e = ap all_of (same_tests none_looked_up asked r looked_up (sym e))

same_limit : (s : List ℕ) → looked_up (record_at s 0) ≡ false → sheet_limit s ≡ written_limit s
unfolding sheet_limit written_limit sheet_vehicle vehicle_in
same_limit s e = as_written (sheet_vehicle s) (pmr_in s) e

pub kept_with_written : KeptWithWritten
unfolding with_written vehicle_good closing_good
kept_with_written s b l =
    let y = earlier_layouts none_looked_up right_good in
    let found = same_examination layouts y s (λ k. sym (written_layout right_good (record_at s 0) (l k))) (λ k. refl) in
    answered_by (with_written s) s b (where_whole s y (sheet_backgrounds s) (written_limit s) found (λ w. (refl, same_limit s (l (vehicle_ranges (record_at s 0) w.vehicle).kind))))

-- ---- no background of the right side

-- the layouts without that field and those with it say the same of records in which its bytes are zero
right_vehicle_layout : (unwritten : List ℕ → Bool) (r : List ℕ) → zeros r 18 2 ≡ true → all_of (vehicle_tests unwritten unnamed_good r) ≡ all_of (vehicle_tests unwritten right_good r)
right_vehicle_layout unwritten r e = ap all_of (same_vehicle_tests unnamed_good right_good r unwritten e (zero_good r 18 e))

right_closing_layout : (r : List ℕ) → zeros r 6 2 ≡ true → all_of (closing_tests unnamed_good r) ≡ closing_good r
unfolding closing_good
right_closing_layout r e = ap all_of (same_closing_tests unnamed_good right_good r e (zero_good r 6 e))

-- the backgrounds of both records are the left's on both sides, and so are the larger ones
same_backgrounds : (s : List ℕ) → zeros (record_at s 0) 18 2 ≡ true → zeros (record_at s (last_of s)) 6 2 ≡ true → sheet_backgrounds s ≡ one_background s
unfolding sheet_backgrounds one_background sheet_vehicle sheet_closing vehicle_in closing_in backgrounds_of
same_backgrounds s p q = rw (no_right (record_at s 0) 12 18 p, no_right (record_at s (last_of s)) 4 6 q) refl

pub kept_without_right : KeptWithoutRight
unfolding with_one vehicle_good
kept_without_right s b n =
    let y = earlier_layouts looked_up unnamed_good in
    let found = same_examination layouts y s (λ k. sym (right_vehicle_layout looked_up (record_at s 0) (n.vehicle k))) (λ k. sym (right_closing_layout (record_at s (last_of s)) (n.closing k))) in
    answered_by (with_one s) s b
    (where_whole s y (one_background s) (sheet_limit s) found
    (λ w. (same_backgrounds s (n.vehicle (vehicle_ranges (record_at s 0) w.vehicle).kind) (n.closing (closing_ranges (record_at s (last_of s)) w.closing).kind), refl)))

-- ---- each earlier layout is narrower

-- one that asks for a written limit
narrower_written : (asked : List ℕ → ℕ → Bool) (r : List ℕ) → all_of (vehicle_tests none_looked_up asked r) ≡ true → all_of (vehicle_tests looked_up asked r) ≡ true
narrower_written asked r e = sym (written_layout asked r (written none_looked_up asked r refl e)) ∙ e

-- one in which the right side's background has no name
narrower_vehicle : (unwritten : List ℕ → Bool) (r : List ℕ) → all_of (vehicle_tests unwritten unnamed_good r) ≡ true → all_of (vehicle_tests unwritten right_good r) ≡ true
narrower_vehicle unwritten r e = sym (right_vehicle_layout unwritten r (vehicle_test unwritten unnamed_good r e)) ∙ e

narrower_closing : (r : List ℕ) → all_of (closing_tests unnamed_good r) ≡ true → closing_good r ≡ true
narrower_closing r e = sym (right_closing_layout r (closing_test unnamed_good r e)) ∙ e

-- ---- any byte string

pub unless_broken_with_written : KeptUnlessBroken with_written
unfolding with_written vehicle_good closing_good
unless_broken_with_written s =
    let y = earlier_layouts none_looked_up right_good in
    kept s y (sheet_backgrounds s) (written_limit s) (by_narrower y s (narrower_written right_good) (λ r e. e))
    (λ p q w. (refl, same_limit s (written none_looked_up right_good (record_at s 0) refl p)))

pub unless_broken_with_one : KeptUnlessBroken with_one
unfolding with_one vehicle_good
unless_broken_with_one s =
    let y = earlier_layouts looked_up unnamed_good in
    kept s y (one_background s) (sheet_limit s) (by_narrower y s (narrower_vehicle looked_up) narrower_closing)
    (λ p q w. (same_backgrounds s (vehicle_test looked_up unnamed_good (record_at s 0) p) (closing_test unnamed_good (record_at s (last_of s)) q), refl))

pub unless_broken_with_both : KeptUnlessBroken with_one_and_written
unfolding with_one_and_written vehicle_good
unless_broken_with_both s =
    let y = earlier_layouts none_looked_up unnamed_good in
    kept s y (one_background s) (written_limit s) (by_narrower y s (λ r e. narrower_written right_good r (narrower_vehicle none_looked_up r e)) narrower_closing)
    (λ p q w. (same_backgrounds s (vehicle_test none_looked_up unnamed_good (record_at s 0) p) (closing_test unnamed_good (record_at s (last_of s)) q), same_limit s (written none_looked_up unnamed_good (record_at s 0) refl p)))

-- ---- a sheet that had a result

-- a sheet that was refused had none
refused_not_accepted : (d : Decision) (r : Refusal) (size : ℕ) → d ≡ Err r → answer_for d size ≡ Ok tt → ⊥
unfolding answer_by
refused_not_accepted d r size e a = by (ltb size 32) (sym (ap (λ x. answer_for x size) e) ∙ a)
  where
    by : (b : Bool) → ◌≡◌ {A = Answer} (cond b (Err refusal.ShortBuffer) (Err r)) (Ok tt) → ⊥
    by true k = cc
    by false k = cc

pub results_kept : (earlier : List ℕ → Decision) → KeptUnlessBroken earlier → ResultsKept earlier
results_kept earlier kept-or s b a = by (kept-or s)
  where
    by : (decision_of s ≡ earlier s) ⊎ ((n : ℕ) × (earlier s ≡ Err (refusal.BrokenRecord n))) → AnsweredBy (earlier s) s b
    by (inl same) = answered_by (earlier s) s b same
    by (inr e) = absurd (refused_not_accepted (earlier s) (refusal.BrokenRecord e.0) (length b) e.1 a)

pub results_with_written_kept : ResultsKept with_written
results_with_written_kept = results_kept with_written unless_broken_with_written

pub results_with_one_kept : ResultsKept with_one
results_with_one_kept = results_kept with_one unless_broken_with_one

pub results_with_both_kept : ResultsKept with_one_and_written
results_with_both_kept = results_kept with_one_and_written unless_broken_with_both
