-- What a run of a rest is: a record of the sheet that counts. Assumes nothing.
use mathlib.Core.Path.{◌≡◌, refl, ap, ◌∙◌}
use mathlib.Core.List.{List}
use Prim.Native.Nat.{ℕ, zero, suc, ◌+◌, ◌-◌, ◌≤◌, ◌<◌}
use native.Mathlib.Nat.{le_of_suc-le-suc, not-suc-le-zero}
use native.Mathlib.Numerals.{add-one}
use native.Mathlib.Omega.{arith}
use lib.ListN.{length, get_or}
use Rattle.std.specs.Prelude.{Option, Some, None, Ok}
use Rattle.record.specs.Records.{records, record_at, kind_byte}
use Rattle.record.proofs.Layouts.{run_ranges}
use Rattle.sheet.specs.Sheet.{RunsGood}
use Rattle.window.specs.declared.ValidRun.{ValidRun}
use Rattle.window.specs.declared.Four.{Four}
use Rattle.window.specs.Windows.{Each, empty_run, four_at, first_window}
use Rattle.window.proofs.Searches.{first_is}
use Rattle.valid_runs.specs.declared.Condition.{Condition}
use Rattle.valid_runs.specs.ValidRuns.{NotSlower, candidate_of, with_valid, rest_from, rest_of, window_of}
use Rattle.valid_runs.proofs.Counting.{counts}

module _ (s : List ℕ) (o : Condition) where
  -- a run of a rest is a record of it
  pub record Member (from count : ℕ) (v : ValidRun) : Type 0 where
    pub first : from ≤ v.number
    pub last : v.number < from + count
    pub is : candidate_of s o v.number ≡ Some v

  pub member : (count from k : ℕ) → k < length (rest_from s o from count) → Member from count (get_or (rest_from s o from count) k empty_run)
  unfolding rest_from
  member zero from k h = absurd (not-suc-le-zero h)
  member (suc count) from k h = by (candidate_of s o from) refl k h (member count (from + 1))
    where
      later : {v : ValidRun} → Member (from + 1) count v → Member from (suc count) v
      later m = record { first = omega (arith, m.first); last = omega (arith, m.last); is = m.is }

      by : (x : Option ValidRun) → candidate_of s o from ≡ x → (k : ℕ) → k < length (with_valid x (rest_from s o (from + 1) count)) → ((j : ℕ) → j < length (rest_from s o (from + 1) count) → Member (from + 1) count (get_or (rest_from s o (from + 1) count) j empty_run)) → Member from (suc count) (get_or (with_valid x (rest_from s o (from + 1) count)) k empty_run)
      by (Some v) e zero l rest = let at = (counts s o from v e).at in record { first = omega arith; last = omega arith; is = ap (candidate_of s o) at ∙ e }
      by (Some v) e (suc j) l rest = later (rest j (le_of_suc-le-suc l))
      by None e j l rest = later (rest j l)

  -- the runs of a rest stand in the sheet's order
  pub rest_rises : (count from k : ℕ) → k + 1 < length (rest_from s o from count) → (get_or (rest_from s o from count) k empty_run).number < (get_or (rest_from s o from count) (k + 1) empty_run).number
  unfolding rest_from
  rest_rises zero from k h = absurd (not-suc-le-zero h)
  rest_rises (suc count) from k h = by (candidate_of s o from) refl k h (rest_rises count (from + 1))
    where
      by : (x : Option ValidRun) → candidate_of s o from ≡ x → (k : ℕ) → k + 1 < length (with_valid x (rest_from s o (from + 1) count)) → ((j : ℕ) → j + 1 < length (rest_from s o (from + 1) count) → (get_or (rest_from s o (from + 1) count) j empty_run).number < (get_or (rest_from s o (from + 1) count) (j + 1) empty_run).number) → (get_or (with_valid x (rest_from s o (from + 1) count)) k empty_run).number < (get_or (with_valid x (rest_from s o (from + 1) count)) (k + 1) empty_run).number
      by (Some v) e zero l rest = omega (arith, (counts s o from v e).at, (member count (from + 1) 0 (le_of_suc-le-suc l)).first)
      by (Some v) e (suc j) l rest = rw (add-one (suc j)) (rw (add-one j) at (rest j (omega (arith, l))))
      by None e j l rest = rest j l

-- ---- the four runs of a window

-- what holds of every run of the rest holds of the window's four
pub each_of : (P : ValidRun → Type 0) (rest : List ValidRun) (f : Four) → ((k : ℕ) → k < length rest → P (get_or rest k empty_run)) → first_window rest ≡ Ok f → Each P f
unfolding four_at
each_of P rest f all e =
    let w = first_is rest f e in
    rw w.is (record { a = all w.place (omega (arith, w.inside)); b = all (w.place + 1) (omega (arith, w.inside)); c = all (w.place + 2) (omega (arith, w.inside)); d = all (w.place + 3) w.inside })

-- they are run records of the sheet, of the condition's kind and gear
pub window_members : (s : List ℕ) (o : Condition) (f : Four) → window_of s o ≡ Ok f → Each (Member s o 1 (records s - 2)) f
unfolding window_of rest_of
window_members s o f e = each_of (Member s o 1 (records s - 2)) (rest_of s o) f (member s o (records s - 2) 1) e

-- and stand in the sheet's order
pub record InOrder (f : Four) : Type 0 where
  pub ab : f.a.number < f.b.number
  pub bc : f.b.number < f.c.number
  pub cd : f.c.number < f.d.number

pub window_in_order : (s : List ℕ) (o : Condition) (f : Four) → window_of s o ≡ Ok f → InOrder f
unfolding window_of rest_of four_at
window_in_order s o f e =
    let w = first_is (rest_of s o) f e in
    let next = rest_rises s o (records s - 2) 1 in
    let second : w.place + 1 + 1 ≡ w.place + 2 = omega arith in
    let third : w.place + 2 + 1 ≡ w.place + 3 = omega arith in
    rw w.is
    (record {
      ab = next w.place (omega (arith, w.inside));
      bc = rw second at (next (w.place + 1) (omega (arith, w.inside)));
      cd = rw third at (next (w.place + 2) (omega (arith, w.inside)));
    })

-- ---- the speeds of an acceleration run

pub window_not_slower : (s : List ℕ) (o : Condition) (f : Four) → RunsGood s → kind_byte o.kind ≡ 2 → window_of s o ≡ Ok f → Each NotSlower f
window_not_slower s o f good k e =
    let m = window_members s o f e in
    record { a = of f.a m.a; b = of f.b m.b; c = of f.c m.c; d = of f.d m.d }
  where
    of : (v : ValidRun) → Member s o 1 (records s - 2) v → NotSlower v
    of v m =
        let c = counts s o v.number v m.is in
        let r = run_ranges (record_at s v.number) (good.good v.number m.first (omega (arith, m.last, good.two))) in
        record { order = omega (arith, c.start, c.end, r.rising (c.is_kind ∙ k)); most = omega (arith, c.end, r.end.1) }
