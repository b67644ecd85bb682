-- A refusal comes exactly on its cause: a number and a place are given if and only if a row with them is the first whose cause holds, and a sheet is
-- accepted if and only if no cause holds. Assumes nothing.
use mathlib.Core.Path.{◌≡◌, refl, sym, ap, ◌∙◌}
use mathlib.Core.Bool.{Bool, true, false, cond, not, ◌&&◌, ◌||◌, true≢false}
use mathlib.Core.List.{List, [], ◌∷◌, map}
use Prim.Native.Nat.{ℕ, zero, suc, ◌+◌, ◌-◌, ◌≤◌, ◌<◌}
use native.Mathlib.Nat.{le_of_suc-le-suc, not-suc-le-zero, le_antisymm}
use native.Mathlib.Omega.{arith}
use lib.ListN.{length, get_or, drop}
use lib.Dec.{T, leb, ltb, leb→le}
use lib.Ieee.Fits.{and_l, and_r}
use borrow.Author.Tests.{ltb-true, ltb-false}
use Rattle.std.specs.Prelude.{Option, Some, None as Nothing, Result, Ok, Err}
use Rattle.units.specs.Tests.{all_of}
use Rattle.refusal.specs.declared.Shortage.{Shortage}
use Rattle.refusal.specs.declared.Shortage.TheVariants.{TooFew, TooWide}
use Rattle.refusal.specs.declared.Refusal.{Refusal}
use Rattle.refusal.specs.declared.Refusal.TheVariants as refusal
use Rattle.refusal.specs.Refusal.{by_shortage, WindowNumbers, window_numbers, number_by, place_of, Answer, answer_number_by, answer_number, answer_place}
use Rattle.refusal.proofs.Numbers.{accepted_by_0}
use Rattle.record.specs.declared.RunKind.TheVariants.{Acceleration, ConstantSpeed}
use Rattle.record.specs.Records.{records}
use Rattle.sheet.specs.declared.Whole.{Whole}
use Rattle.sheet.specs.Sheet.{wrong_size, no_vehicle, no_closing, lowest_broken, examined_by, examined, any_acceleration}
use Rattle.window.specs.declared.Four.{Four}
use Rattle.reference.specs.declared.Reference.{Reference}
use Rattle.limit.specs.Limits.{no_limit_for_n1, no_limit_entry, limit_of}
use Rattle.gears.specs.declared.Gear.{Gear}
use Rattle.gears.specs.declared.Choice.{Choice}
use Rattle.gears.specs.declared.Choice.TheVariants as choice
use Rattle.gears.specs.Rules.{first_not_falling}
use Rattle.session.specs.declared.WithoutWindow.{WithoutWindow}
use Rattle.session.specs.Session.{Session, shortage_in, lowest_no_window, without_window, gears_of, windows_of}
use Rattle.session.proofs.Tables.{missing_is}
use Rattle.decision.specs.Decision.{Decision, out_of_range, measured_by, measured_at, one_of, pair_of, selected_in, finish_by, decide_gears, unless_without, decide_whole, decide_limited, decide_by, decision_over, sheet_vehicle, sheet_closing, sheet_backgrounds, pmr_in, sheet_limit, decision_of, sheet_session, reference_in, choice_in}
use Rattle.decision.proofs.Results.{sheet_whole}
use Rattle.evaluation.specs.Answer.{answer_by, answer_of}
use Rattle.evaluation.specs.Rows.{Row, undecided, missing, gear_number, no_constant, lowest_no_constant, rows_by, rows, empty_row, First, None}

-- ---- a number and a place

record Told : Type 0 where
  number : ℕ
  place : ℕ

told : ℕ → ℕ → Told
told n p = record { number = n; place = p }

-- those of the first row that holds, and 0 and 0 where none does
first : List Row → Told
first [] = told 0 0
first (r ∷ table) = cond r.holds (told r.number r.place) (first table)

data Found (table : List Row) (t : Told) : Type 0 where
  at : First table t.number t.place → Found table t
  never : None table → t ≡ told 0 0 → Found table t

none_of : None []
none_of zero = refl
none_of (suc k) = refl

found : (table : List Row) → Found table (first table)
unfolding first told
found [] = never none_of refl
found (r ∷ table) = by r.holds refl (found table)
  where
    by : (b : Bool) → r.holds ≡ b → Found table (first table) → Found (r ∷ table) (cond b (told r.number r.place) (first table))
    by true e f = at (record { at = 0; holds = e; before = λ m h. absurd (not-suc-le-zero h); number = refl; place = refl })
    by false e (at f) = at (record { at = suc f.at; holds = f.holds; before = before f; number = f.number; place = f.place })
      where
        before : (f : First table (first table).number (first table).place) (m : ℕ) → m < suc f.at → (get_or (r ∷ table) m empty_row).holds ≡ false
        before f zero h = e
        before f (suc m) h = f.before m (le_of_suc-le-suc h)
    by false e (never f z) = never all z
      where
        all : None (r ∷ table)
        all zero = e
        all (suc k) = f k

-- a first row does not stand before another
not_before : (table : List Row) {n p n' p' : ℕ} (f : First table n p) (g : First table n' p') → g.at ≤ f.at
not_before table f g = by (ltb f.at g.at) refl
  where
    by : (b : Bool) → ltb f.at g.at ≡ b → g.at ≤ f.at
    by true e = absurd (true≢false (sym f.holds ∙ g.before f.at (ltb-true f.at g.at e)))
    by false e = ltb-false f.at g.at e

once : (table : List Row) {n p n' p' : ℕ} → First table n p → First table n' p' → (n ≡ n') × (p ≡ p')
once table f g =
    let same : f.at ≡ g.at = le_antisymm (not_before table g f) (not_before table f g) in
    (sym f.number ∙ ap (λ (k : ℕ). (get_or table k empty_row).number) same ∙ g.number, sym f.place ∙ ap (λ (k : ℕ). (get_or table k empty_row).place) same ∙ g.place)

-- a row that holds has a number, where one test over the table says so
positive : (table : List Row) → T (all_of (map (λ (r : Row). leb 1 r.number) table)) → (k : ℕ) → (get_or table k empty_row).holds ≡ true → 1 ≤ (get_or table k empty_row).number
positive [] t zero e = absurd (true≢false (sym e))
positive [] t (suc k) e = absurd (true≢false (sym e))
positive (r ∷ table) t zero e = leb→le 1 r.number (and_l (leb 1 r.number) (all_of (map (λ (x : Row). leb 1 x.number) table)) t)
positive (r ∷ table) t (suc k) e = positive table (and_r (leb 1 r.number) (all_of (map (λ (x : Row). leb 1 x.number) table)) t) k e

-- ---- what the answer tells

-- a choice by a test
step : {A : Type 0} (f : A → Told) (b : Bool) (x y : A) (t u : Told) → f x ≡ t → f y ≡ u → f (cond b x y) ≡ cond b t u
step f true x y t u p q = p
step f false x y t u p q = q

module _ (numbers : WindowNumbers) where
  tells : Answer → Told
  tells a = told (answer_number_by numbers a) (answer_place a)

  decided : Decision → Told
  decided d = tells (answer_by d)

  of_refusal : (r : Refusal) → decided (Err r) ≡ told (number_by numbers r) (place_of r)
  unfolding decided answer_by tells
  of_refusal r = refl

  -- the windows u and w of gears i and j, with the shortage of each gear where there is none
  module _ (r : Reference) (limit : ℕ) (short : ℕ → Shortage) where
    abbrev Shown : Gear → Result Four Shortage → Type 0
    Shown g w = (x : Shortage) → w ≡ Err x → x ≡ short g.number

    after_one : (rule : ℕ) (g : Gear) (f : Four) (w : Result Four Shortage) → Shown g w → decided (finish_by r limit (one_of rule (measured_by g f w))) ≡ cond (missing w) (told (numbers.constant (short g.number)) g.number) (told 0 0)
    unfolding decided answer_by tells finish_by one_of measured_by
    after_one rule g f (Ok h) shown = refl
    after_one rule g f (Err x) shown = ap (λ (y : Shortage). told (numbers.constant y) g.number) (shown x refl)

    after_pair :
        (rule : ℕ) (i : Gear) (f : Four) (u : Result Four Shortage) (j : Gear) (g : Four) (w : Result Four Shortage) → Shown i u → Shown j w → decided (finish_by r limit (pair_of rule (measured_by i f u) (measured_by j g w)))
        ≡ cond (missing u || missing w) (let gear = cond (missing u) i.number j.number in told (numbers.constant (short gear)) gear) (told 0 0)
    unfolding decided answer_by tells finish_by pair_of measured_by
    after_pair rule i f (Ok h) j g (Ok k) shown also = refl
    after_pair rule i f (Ok h) j g (Err x) shown also = ap (λ (y : Shortage). told (numbers.constant y) j.number) (also x refl)
    after_pair rule i f (Err x) j g w shown also = ap (λ (y : Shortage). told (numbers.constant y) i.number) (shown x refl)

  after_choice :
      (r : Reference) (limit : ℕ) (t : Session) (c : Option Choice) → decided (finish_by r limit (selected_in t (gears_of t) (windows_of t) c))
      ≡ cond (undecided c) (told 9 0) (cond (no_constant t c) (told (numbers.constant (shortage_in t ConstantSpeed (lowest_no_constant t c))) (lowest_no_constant t c)) (told 0 0))
  unfolding decided answer_by tells finish_by selected_in measured_at
  after_choice r limit t (Some (choice.One rule p)) = after_one r limit (shortage_in t ConstantSpeed) rule _ _ _ (missing_is t ConstantSpeed (gear_number t p))
  after_choice r limit t (Some (choice.Pair rule p)) = after_pair r limit (shortage_in t ConstantSpeed) rule _ _ _ _ _ _ (missing_is t ConstantSpeed (gear_number t p)) (missing_is t ConstantSpeed (gear_number t (p + 1)))
  after_choice r limit t Nothing = refl

module _ (numbers : WindowNumbers) (s : List ℕ) (size : ℕ) where
  whole : (limit : ℕ) → decided numbers (decide_whole (sheet_session s) (pmr_in s) limit) ≡ first (drop 7 (rows_by numbers s size))
  unfolding decide_whole unless_without without_window decide_gears sheet_session rows_by choice_in reference_in first
  whole limit =
      let t = sheet_session s in
      let gears : Decision = decide_gears (reference_in s) limit t (gears_of t) (windows_of t) in
      step (decided numbers) (out_of_range (pmr_in s)) _ _ _ _ (of_refusal numbers refusal.PmrOutOfRange)
      (step (decided numbers) (not (any_acceleration s)) _ _ _ _ (of_refusal numbers refusal.NoRun)
      (step (λ (w : Option WithoutWindow). decided numbers (unless_without w gears)) (ltb (lowest_no_window t) 16) _ _ _ _ (of_refusal numbers (refusal.NoWindow _ _))
      (step (decided numbers) (ltb (first_not_falling (gears_of t)) (length (gears_of t) - 1)) _ _ _ _ (of_refusal numbers (refusal.NotFalling _)) (after_choice numbers (reference_in s) limit t (choice_in s)))))

  with_limit : Result ℕ Refusal → Told
  with_limit l = decided numbers (decide_limited (sheet_session s) (pmr_in s) l)

  without_limit : (r : Refusal) → with_limit (Err r) ≡ told (number_by numbers r) (place_of r)
  unfolding with_limit decide_limited
  without_limit r = of_refusal numbers r

  limited : with_limit (sheet_limit s) ≡ first (drop 5 (rows_by numbers s size))
  unfolding with_limit decide_limited sheet_limit limit_of rows_by first
  limited =
      step with_limit (no_limit_for_n1 (sheet_vehicle s)) _ _ _ _ (without_limit refusal.NoLimitForN1)
      (step with_limit (no_limit_entry (sheet_vehicle s)) _ _ _ _ (without_limit refusal.NoLimitEntry) (whole _))

  of : Result Whole Refusal → Told
  of e = decided numbers (decide_by (sheet_backgrounds s) (sheet_limit s) s e)

  of_refused : (r : Refusal) → of (Err r) ≡ told (number_by numbers r) (place_of r)
  unfolding of decide_by
  of_refused r = of_refusal numbers r

  of_whole : of (Ok (sheet_whole s)) ≡ first (drop 5 (rows_by numbers s size))
  unfolding of decide_by sheet_session pmr_in with_limit
  of_whole = limited

  of_examined : of (examined s) ≡ first (drop 1 (rows_by numbers s size))
  unfolding examined_by sheet_vehicle sheet_closing rows_by first
  of_examined =
      step of (wrong_size s) _ _ _ _ (of_refused refusal.WrongSize)
      (step of (no_vehicle s) _ _ _ _ (of_refused refusal.NoVehicle)
      (step of (no_closing s) _ _ _ _ (of_refused (refusal.NoClosing _))
      (step of (ltb (lowest_broken s) (records s)) _ _ _ _ (of_refused (refusal.BrokenRecord _)) of_whole)))

  -- the answer tells the first row that holds
  tells_first : tells numbers (answer_of s size) ≡ first (rows_by numbers s size)
  unfolding answer_of decision_of decision_over of decided tells rows_by first
  tells_first = step (tells numbers) (ltb size 32) (Err refusal.ShortBuffer) (answer_by (decide_by (sheet_backgrounds s) (sheet_limit s) s (examined s))) _ _ refl of_examined

  answered : Found (rows_by numbers s size) (tells numbers (answer_of s size))
  answered = rw tells_first (found (rows_by numbers s size))

  -- a number and a place are given only on their cause ..
  pub only_on_its_cause : (n p : ℕ) → 0 < n → answer_number_by numbers (answer_of s size) ≡ n → answer_place (answer_of s size) ≡ p → First (rows_by numbers s size) n p
  unfolding tells told
  only_on_its_cause n p h e f = by answered
    where
      by : Found (rows_by numbers s size) (tells numbers (answer_of s size)) → First (rows_by numbers s size) n p
      by (at g) = rw (sym e, sym f) g
      by (never g z) = absurd (let none : answer_number_by numbers (answer_of s size) ≡ 0 = ap (λ (t : Told). t.number) z in omega (arith, none, e))

  -- .. and always on it
  pub always_on_its_cause : (n p : ℕ) → First (rows_by numbers s size) n p → (answer_number_by numbers (answer_of s size) ≡ n) × (answer_place (answer_of s size) ≡ p)
  unfolding tells told
  always_on_its_cause n p f = by answered
    where
      by : Found (rows_by numbers s size) (tells numbers (answer_of s size)) → (answer_number_by numbers (answer_of s size) ≡ n) × (answer_place (answer_of s size) ≡ p)
      by (at g) = once (rows_by numbers s size) g f
      by (never g z) = absurd (true≢false (sym f.holds ∙ g f.at))

module _ (s : List ℕ) (size : ℕ) where
  -- a sheet is accepted where no cause holds, and only there
  pub accepted_without_cause : None (rows s size) → answer_of s size ≡ Ok tt
  unfolding tells told
  accepted_without_cause none = by (answered window_numbers s size)
    where
      by : Found (rows s size) (tells window_numbers (answer_of s size)) → answer_of s size ≡ Ok tt
      by (at g) = absurd (true≢false (sym g.holds ∙ none g.at))
      by (never g z) = accepted_by_0 (answer_of s size) (ap (λ (t : Told). t.number) z)

  -- every row has a number, whatever the shortages
  all_numbered : T (all_of (map (λ (r : Row). leb 1 r.number) (rows s size)))
  unfolding rows_by
  all_numbered = by (shortage_in (sheet_session s) Acceleration (lowest_no_window (sheet_session s) + 1)) (shortage_in (sheet_session s) ConstantSpeed (lowest_no_constant (sheet_session s) (choice_in s)))
    where
      by : (x y : Shortage) → T (leb 1 (by_shortage 7 14 x) && (leb 1 (by_shortage 10 15 y) && true))
      by TooFew TooFew = tt
      by TooFew TooWide = tt
      by TooWide TooFew = tt
      by TooWide TooWide = tt

  pub without_cause_if_accepted : answer_of s size ≡ Ok tt → None (rows s size)
  unfolding tells told
  without_cause_if_accepted e = by (answered window_numbers s size)
    where
      by : Found (rows s size) (tells window_numbers (answer_of s size)) → None (rows s size)
      by (at g) = absurd (omega (arith, positive (rows s size) all_numbered g.at g.holds, g.number, ap answer_number e))
      by (never g z) = g
