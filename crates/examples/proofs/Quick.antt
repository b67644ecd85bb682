-- What is decided for a sheet, in a form that is computed quickly: the runs are cut out of the bytes once, and each gear is looked at once. The
-- definitions are not abbreviations, because the prover computes an argument once where it unfolds a definition, and at each use where it puts in an
-- abbreviation. Assumes nothing.
use mathlib.Core.Path.{◌≡◌, refl, sym, ap, ap₂, ◌∙◌}
use mathlib.Core.Bool.{Bool, true, false, cond, not, ◌&&◌, ◌||◌}
use mathlib.Core.List.{List, [], ◌∷◌, map}
use Prim.Native.Nat.{ℕ, zero, suc, ◌+◌, ◌*◌, ◌-◌, ◌≤◌}
use native.Mathlib.Numerals.{add-one}
use native.Mathlib.Omega.{arith}
use lib.Dec.{eqb, ltb}
use lib.ListN.{take, drop}
use lib.Seq.{drop-drop}
use Rattle.std.specs.Prelude.{Option, Some, None, Result, Ok, Err}
use Rattle.units.specs.Tests.{lowest, some}
use Rattle.units.proofs.Lowest.{lowest_here, lowest_next}
use Rattle.refusal.specs.declared.Refusal.{Refusal}
use Rattle.refusal.specs.declared.Refusal.TheVariants as refusal
use Rattle.record.specs.declared.Backgrounds.{Backgrounds}
use Rattle.record.specs.declared.RunKind.TheVariants.{Acceleration}
use Rattle.record.specs.Records.{records, record_at, byte, kind_byte, run_in}
use Rattle.record.proofs.Shown.{shown}
use Rattle.sheet.specs.declared.Whole.{Whole}
use Rattle.sheet.specs.Sheet.{Layouts, examined_by, layouts, any_acceleration, has_acceleration}
use Rattle.window.specs.declared.ValidRun.{ValidRun}
use Rattle.window.specs.Windows.{first_window}
use Rattle.valid_runs.specs.declared.Condition.{Condition}
use Rattle.valid_runs.specs.ValidRuns.{valid_of, candidate_of, with_valid, rest_from, rest_of, window_of}
use Rattle.reference.specs.declared.Reference.{Reference}
use Rattle.reference.specs.Reference.{pmr_of, reference_at}
use Rattle.gears.specs.Rules.{choice_of}
use Rattle.session.specs.declared.Entry.{Entry}
use Rattle.session.specs.declared.Track.{Track}
use Rattle.session.specs.declared.State.{State}
use Rattle.session.specs.declared.State.TheVariants.{NoRun}
use Rattle.session.specs.declared.WithoutWindow.{WithoutWindow}
use Rattle.session.specs.Session.{Session, session_of, condition_of, shortage_in, by_window, state_of, has_no_window, lowest_no_window, without_window, with_remaining, remaining_from, remaining, gears_of, windows_of}
use Rattle.decision.specs.Decision.{Selection, Decision, out_of_range, selected_in, decide_gears, unless_without, decide_whole, decide_limited, track_of, decide_by, decision_over, sheet_backgrounds, sheet_limit, decision_of, sheet_session, reference_in, choice_in, selection_in}

-- ---- the records

-- `count` records from record n on
records_from : List ℕ → ℕ → ℕ → List (List ℕ)
records_from s n zero = []
records_from s n (suc count) = record_at s n ∷ records_from s (suc n) count

-- `count` times the next 32 bytes
unfoldable pub cut : ℕ → List ℕ → List (List ℕ)
cut zero s = []
cut (suc count) s = take 32 s ∷ cut count (drop 32 s)

cut_is : (s : List ℕ) (n count : ℕ) → count ≤ records s - n → records_from s n count ≡ cut count (drop (32 * n) s)
unfolding records_from cut
cut_is s n zero h = refl
cut_is s n (suc count) h =
    let next : 32 * n + 32 ≡ 32 * suc n = omega arith in
    let dropped : drop (32 * suc n) s ≡ drop 32 (drop (32 * n) s) = sym (drop-drop 32 (32 * n) s ∙ ap (λ k. drop k s) next) in
    ap₂ ◌∷◌ (shown s n (omega (arith, h))) (cut_is s (suc n) count (omega (arith, h)) ∙ ap (cut count) dropped)

-- the run records
unfoldable pub runs_in : List ℕ → List (List ℕ)
runs_in s = cut (records s - 2) (drop 32 s)

runs_are : (s : List ℕ) → records_from s 1 (records s - 2) ≡ runs_in s
unfolding runs_in
runs_are s = cut_is s 1 (records s - 2) (omega arith)

-- ---- the valid runs

unfoldable pub some_of : (List ℕ → Bool) → List (List ℕ) → Bool
some_of test [] = false
some_of test (r ∷ rs) = test r || some_of test rs

some_is : (s : List ℕ) (test : List ℕ → Bool) (count n : ℕ) → some (λ m. test (record_at s m)) count n ≡ some_of test (records_from s n count)
unfolding some some_of records_from
some_is s test zero n = refl
some_is s test (suc count) n = rw (add-one n) (ap (λ b. test (record_at s n) || b) (some_is s test count (suc n)))

-- an acceleration run of a gear
unfoldable pub accelerates_in : ℕ → List ℕ → Bool
accelerates_in gear r = eqb (byte r 0) 2 && eqb (byte r 1) gear

-- the valid runs of a condition among these, of which the first is record n
unfoldable pub rest_in : Condition → ℕ → List (List ℕ) → List ValidRun
rest_in o n [] = []
rest_in o n (r ∷ rs) =
    with_valid (cond (eqb (byte r 0) (kind_byte o.kind) && eqb (byte r 1) o.gear) (valid_of (run_in r) o.backgrounds n) None) (rest_in o (suc n) rs)

rest_from_is : (s : List ℕ) (o : Condition) (n count : ℕ) → rest_from s o n count ≡ rest_in o n (records_from s n count)
unfolding rest_from candidate_of rest_in records_from
rest_from_is s o n zero = refl
rest_from_is s o n (suc count) = rw (add-one n) (ap (with_valid (candidate_of s o n)) (rest_from_is s o (suc n) count))

rest_is : (s : List ℕ) (o : Condition) → rest_of s o ≡ rest_in o 1 (runs_in s)
unfolding rest_of
rest_is s o = rest_from_is s o 1 (records s - 2) ∙ ap (rest_in o 1) (runs_are s)

-- ---- the gears

-- what becomes of a gear, given the run records
unfoldable pub state_in : Track → List (List ℕ) → ℕ → State
state_in track rs gear = cond (some_of (accelerates_in gear) rs) (by_window track gear (first_window (rest_in (condition_of track Acceleration gear) 1 rs))) NoRun

state_is : (t : Session) (gear : ℕ) → state_of t gear ≡ state_in t.track (runs_in t.sheet) gear
unfolding state_of state_in has_acceleration accelerates_in window_of
state_is t gear =
    let s = t.sheet in
    let o = condition_of t.track Acceleration gear in
    let has : has_acceleration s gear ≡ some_of (accelerates_in gear) (runs_in s) =
    some_is s (accelerates_in gear) (records s - 2) 1 ∙ ap (some_of (accelerates_in gear)) (runs_are s) in
    ap₂ (λ b rest. cond b (by_window t.track gear (first_window rest)) NoRun) has (rest_is s o)

-- the states of `count` gears from gear p + 1 on
unfoldable pub states_from : Track → List (List ℕ) → ℕ → ℕ → List State
states_from track rs p zero = []
states_from track rs p (suc count) = state_in track rs (p + 1) ∷ states_from track rs (suc p) count

-- the lowest gear without a window, less one, where the first of these states is that of gear p + 1
unfoldable pub lowest_in : List State → ℕ → ℕ
lowest_in [] p = p
lowest_in (x ∷ xs) p = cond (has_no_window x) p (lowest_in xs (suc p))

lowest_is : (t : Session) (count p : ℕ) → lowest (λ m. has_no_window (state_of t (m + 1))) count p ≡ lowest_in (states_from t.track (runs_in t.sheet) p count) p
unfolding lowest lowest_in states_from
lowest_is t zero p = refl
lowest_is t (suc count) p = rw (← state_is t (p + 1)) (by (has_no_window (state_of t (p + 1))) refl (lowest_is t count (suc p)))
  where
    test : ℕ → Bool
    test m = has_no_window (state_of t (m + 1))

    by : (b : Bool) → test p ≡ b → {n : ℕ} → lowest test count (suc p) ≡ n → lowest test (suc count) p ≡ cond b p n
    by true e q = lowest_here test count p e
    by false e q = lowest_next test count p e ∙ q

-- those that remain, of these states
unfoldable pub remaining_in : List State → List Entry
remaining_in [] = []
remaining_in (x ∷ xs) = with_remaining x (remaining_in xs)

remaining_is : (t : Session) (p count : ℕ) → remaining_from t p count ≡ remaining_in (states_from t.track (runs_in t.sheet) p count)
unfolding remaining_from remaining_in states_from
remaining_is t p zero = refl
remaining_is t p (suc count) = rw (add-one p) (ap₂ with_remaining (state_is t (suc p)) (remaining_is t (suc p) count))

-- ---- the decision

unfoldable pub entries_decided : Session → Reference → ℕ → List Entry → Decision
entries_decided t r limit entries = decide_gears r limit t (map (λ (e : Entry). e.gear) entries) (map (λ (e : Entry). e.window) entries)

-- the gear of row 7, given its number less one, 16 if there is none
unfoldable pub without_in : Session → ℕ → Option WithoutWindow
without_in t p = cond (ltb p 16) (Some (record { gear = p + 1; shortage = shortage_in t Acceleration (p + 1) })) None

-- row 7 by gear and those after it, given what becomes of each gear
unfoldable pub states_decided : Session → Reference → ℕ → List State → Decision
states_decided t r limit states = unless_without (without_in t (lowest_in states 0)) (entries_decided t r limit (remaining_in states))

-- the states of a session's gears
unfoldable pub states_of : Session → List State
states_of t = states_from t.track (runs_in t.sheet) 0 16

-- what `decide_whole` gives
unfoldable pub quick_whole : Session → ℕ → ℕ → Decision
quick_whole t q limit =
    cond (out_of_range q) (Err refusal.PmrOutOfRange)
    (cond (not (any_acceleration t.sheet)) (Err refusal.NoRun)
    (states_decided t (reference_at q) limit (states_of t)))

whole_is : (t : Session) (q limit : ℕ) → decide_whole t q limit ≡ quick_whole t q limit
unfolding decide_whole without_window lowest_no_window gears_of windows_of remaining quick_whole states_decided states_of without_in entries_decided
whole_is t q limit = rw (lowest_is t 16 0, remaining_is t 0 16)

unfoldable pub quick_limited : Session → ℕ → Result ℕ Refusal → Decision
quick_limited t q (Err x) = Err x
quick_limited t q (Ok n) = quick_whole t q n

unfoldable pub quick_by : Backgrounds → Result ℕ Refusal → List ℕ → Result Whole Refusal → Decision
quick_by b l s (Err x) = Err x
quick_by b l s (Ok w) = quick_limited (session_of s (track_of b w.vehicle)) (pmr_of w.vehicle.power w.vehicle.mass) l

-- what `decision_over` gives
unfoldable pub quick_over : Layouts → Backgrounds → Result ℕ Refusal → List ℕ → Decision
quick_over y b l s = quick_by b l s (examined_by y s)

pub quick_is : (y : Layouts) (b : Backgrounds) (l : Result ℕ Refusal) (s : List ℕ) → decision_over y b l s ≡ quick_over y b l s
unfolding decision_over decide_by decide_limited quick_over quick_by quick_limited
quick_is y b l s = by l (examined_by y s)
  where
    by : (l : Result ℕ Refusal) (e : Result Whole Refusal) → decide_by b l s e ≡ quick_by b l s e
    by l (Err x) = refl
    by (Err x) (Ok w) = refl
    by (Ok n) (Ok w) = whole_is (session_of s (track_of b w.vehicle)) (pmr_of w.vehicle.power w.vehicle.mass) n

-- ---- of a sheet

unfoldable pub quick_decision : List ℕ → Decision
quick_decision s = quick_over layouts (sheet_backgrounds s) (sheet_limit s) s

pub decision_quick : (s : List ℕ) → decision_of s ≡ quick_decision s
unfolding decision_of quick_decision
decision_quick s = quick_is layouts (sheet_backgrounds s) (sheet_limit s) s

unfoldable pub entries_selected : Session → Reference → List Entry → Selection
entries_selected t r entries =
    let gs = map (λ (e : Entry). e.gear) entries in
    selected_in t gs (map (λ (e : Entry). e.window) entries) (choice_of r gs)

unfoldable pub quick_selection : List ℕ → Selection
quick_selection s = entries_selected (sheet_session s) (reference_in s) (remaining_in (states_of (sheet_session s)))

pub selection_quick : (s : List ℕ) → selection_in s ≡ quick_selection s
unfolding selection_in choice_in gears_of windows_of remaining states_of quick_selection entries_selected
selection_quick s = ap (entries_selected (sheet_session s) (reference_in s)) (remaining_is (sheet_session s) 0 16)
