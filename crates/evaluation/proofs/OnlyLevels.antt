-- Two sheets of which only runs' levels differ. Assumes nothing.
use mathlib.Core.Path.{◌≡◌, refl, sym, ap, ap₂, ◌∙◌}
use mathlib.Core.Bool.{Bool, true, false, ◌&&◌, ◌||◌}
use mathlib.Core.List.{List}
use Prim.Native.Nat.{ℕ, ◌+◌, ◌-◌, ◌*◌, ◌/◌, ◌%◌, ◌≤◌, ◌<◌}
use native.Mathlib.Omega.{arith}
use lib.Dec.{eqb, leb, ltb}
use lib.Ieee.{lt}
use borrow.Author.Tests.{lt-leb, le-ltb}
use Rattle.std.specs.Prelude.{Some}
use Rattle.units.proofs.Tests.{neither}
use Rattle.record.specs.declared.Vehicle.{Vehicle}
use Rattle.record.specs.declared.Closing.{Closing}
use Rattle.record.specs.Records.{records, record_at, byte, word, closing_in}
use Rattle.record.proofs.Shown.{byte_of}
use Rattle.record.proofs.VehicleRanges.{vehicle_ranges}
use Rattle.record.proofs.ClosingRanges.{closing_ranges}
use Rattle.record.proofs.SameBytes.{SameBytes, same_word, vehicle_of, closing_of}
use Rattle.sheet.specs.declared.Whole.{Whole}
use Rattle.sheet.specs.Sheet.{last_of}
use Rattle.sheet.proofs.Examinations.{WholeSheet}
use Rattle.window.specs.declared.ValidRun.{ValidRun}
use Rattle.window.proofs.Rising.{Risen}
use Rattle.valid_runs.specs.declared.Condition.{Condition}
use Rattle.valid_runs.specs.ValidRuns.{backgrounds_of, candidate_of}
use Rattle.valid_runs.proofs.Counting.{counts, levels_rising}
use Rattle.reference.specs.Reference.{pmr_of, reference_at}
use Rattle.decision.specs.Decision.{track_of, sheet_vehicle, sheet_closing, sheet_backgrounds, sheet_session, pmr_in, reference_in}
use Rattle.evaluation.specs.Demand.{of_level, OnlyLevels, float_at, lower}

-- ---- bytes that are none of a float's

floats : Bool → ℕ → Bool
floats run k = run && leb 8 k && ltb k 16

before : (run : Bool) (k : ℕ) → k < 8 → floats run k ≡ false
unfolding floats
before true k h = rw (lt-leb 8 k h)
before false k h = refl

after : (run : Bool) (k : ℕ) → 16 ≤ k → floats run k ≡ false
unfolding floats
after true k h = by (leb 8 k)
  where
    by : (b : Bool) → (b && ltb k 16) ≡ false
    by true = le-ltb k 16 h
    by false = refl
after false k h = refl

is_run : ℕ → Bool
is_run kind = eqb kind 2 || eqb kind 3

module _ (s s' : List ℕ) (only : OnlyLevels s s') where
  pub same_records : records s ≡ records s'
  unfolding records
  same_records = ap (λ (n : ℕ). n / 32) only.size

  is_level_at : (n k : ℕ) → k < 32 → of_level s (32 * n + k) ≡ floats (is_run (byte (record_at s n) 0)) k
  unfolding of_level floats is_run
  is_level_at n k h =
      let place : (32 * n + k) / 32 ≡ n = omega arith in
      let offset : (32 * n + k) % 32 ≡ k = omega arith in
      ap₂ (λ (i : ℕ) (j : ℕ). (eqb (byte (record_at s i) 0) 2 || eqb (byte (record_at s i) 0) 3) && leb 8 j && ltb j 16) place offset

  same_at : (n k : ℕ) → n < records s → k < 32 → floats (is_run (byte (record_at s n) 0)) k ≡ false → byte (record_at s n) k ≡ byte (record_at s' n) k
  same_at n k h l e = byte_of s n k h l ∙ only.alike (32 * n + k) (is_level_at n k l ∙ e) ∙ sym (byte_of s' n k (omega (arith, same_records)) l)

  -- a byte of a record before its floats, and one after them
  pub same_before : (n k : ℕ) → n < records s → k < 8 → byte (record_at s n) k ≡ byte (record_at s' n) k
  same_before n k h l = same_at n k h (omega arith) (before (is_run (byte (record_at s n) 0)) k l)

  pub same_after : (n k : ℕ) → n < records s → 16 ≤ k → k < 32 → byte (record_at s n) k ≡ byte (record_at s' n) k
  same_after n k h l m = same_at n k h m (after (is_run (byte (record_at s n) 0)) k l)

  -- any byte of a record that is no run
  same_other : (n kind k : ℕ) → n < records s → byte (record_at s n) 0 ≡ kind → is_run kind ≡ false → k < 32 → byte (record_at s n) k ≡ byte (record_at s' n) k
  unfolding floats
  same_other n kind k h e r l = same_at n k h l (ap (λ (x : ℕ). floats (is_run x) k) e ∙ ap (λ (b : Bool). floats b k) r)

-- ---- what a session goes by

module _ (s s' : List ℕ) (only : OnlyLevels s s') (x : Whole) (w : WholeSheet s x) where
  pub same_vehicle : sheet_vehicle s ≡ sheet_vehicle s'
  unfolding sheet_vehicle is_run
  same_vehicle = vehicle_of (record_at s 0) (record_at s' 0) (λ k l. same_other s s' only 0 1 k (omega (arith, w.two)) (vehicle_ranges (record_at s 0) w.vehicle).kind refl l)

  same_last : SameBytes (record_at s (last_of s)) (record_at s' (last_of s))
  unfolding is_run
  same_last k l = same_other s s' only (last_of s) 9 k (omega (arith, w.two)) (closing_ranges (record_at s (last_of s)) w.closing).kind refl l

  same_closing : sheet_closing s ≡ sheet_closing s'
  unfolding sheet_closing
  same_closing = closing_of (record_at s (last_of s)) (record_at s' (last_of s)) same_last ∙ ap (λ (n : ℕ). closing_in (record_at s' (n - 1))) (same_records s s' only)

  pub same_track : (sheet_session s).track ≡ (sheet_session s').track
  unfolding sheet_session sheet_backgrounds
  same_track = ap₂ (λ (x : Vehicle) (y : Closing). track_of (backgrounds_of x.backgrounds y.backgrounds) x) same_vehicle same_closing

  pub same_reference : reference_in s ≡ reference_in s'
  unfolding reference_in pmr_in
  same_reference = ap (λ (x : Vehicle). reference_at (pmr_of x.power x.mass)) same_vehicle

-- ---- one run in both

module _ (s s' : List ℕ) (only : OnlyLevels s s') where
  -- a 16-bit number after the floats
  same_number : (n k : ℕ) → n < records s → 16 ≤ k → k < 31 → word (record_at s n) k ≡ word (record_at s' n) k
  same_number n k h l m = same_word (record_at s n) (record_at s' n) k (same_after s s' only n k h l (omega arith)) (same_after s s' only n (k + 1) h (omega arith) (omega arith))

  -- a run that counts in both, over the same backgrounds
  pub run_rising :
      (o o' : Condition) (n : ℕ) (v v' : ValidRun) → n < records s → o.backgrounds ≡ o'.backgrounds → candidate_of s o n ≡ Some v → candidate_of s' o' n ≡ Some v' → lower s s' n ≡ false → Risen v v'
  unfolding lower float_at
  run_rising o o' n v v' h b e e' low =
      let c = counts s o n v e in
      let c' = counts s' o' n v' e' in
      let neither_lower = neither (lt (float_at s' n 8) (float_at s n 8)) (lt (float_at s' n 12) (float_at s n 12)) low in
      let levels = levels_rising s s' o o' n v v' b c c' (same_before s s' only n 3 h (omega arith)) (same_before s s' only n 4 h (omega arith)) neither_lower.0 neither_lower.1 in
      record {
        left = levels.0;
        right = levels.1;
        start = c.start ∙ same_number n 16 h (omega arith) (omega arith) ∙ sym c'.start;
        end = c.end ∙ same_number n 18 h (omega arith) (omega arith) ∙ sym c'.end;
      }
