-- The first window of a condition, record by record. Assumes nothing.
use mathlib.Core.Path.{◌≡◌, refl, sym, ap, subst, ◌∙◌}
use mathlib.Core.Bool.{Bool, true, false, cond, ◌&&◌}
use mathlib.Core.List.{List, [], ◌∷◌, ◌++◌, append_assoc, append-nil}
use Prim.Native.Nat.{ℕ, zero, suc, ◌+◌, ◌-◌, ◌≤◌, ◌<◌}
use native.Mathlib.Omega.{arith}
use lib.ListN.{length, drop}
use Rattle.std.specs.Prelude.{Option, Some, None, Result, Ok, Err}
use Rattle.std.specs.Result.{result_or}
use Rattle.units.specs.Tests.{lowest, below}
use Rattle.units.proofs.Lowest.{found}
use Rattle.record.specs.Records.{records, record_at, kind_byte, run_in}
use Rattle.sheet.specs.Sheet.{has_byte}
use Rattle.units.proofs.Below.{below_some, below_none}
use Rattle.refusal.specs.declared.Shortage.{Shortage}
use Rattle.refusal.specs.declared.Shortage.TheVariants.{TooWide}
use Rattle.window.specs.declared.ValidRun.{ValidRun}
use Rattle.window.specs.declared.Four.{Four}
use Rattle.window.specs.Windows.{first_window}
use Rattle.window.proofs.Parts.{StandFor, found_in, carried, none_in}
use Rattle.valid_runs.specs.declared.Condition.{Condition}
use Rattle.valid_runs.specs.ValidRuns.{valid_of, candidate_of, with_valid, rest_from, rest_of, window_of}

module _ (s : List ℕ) (o : Condition) where
  -- record i, then the others before `end`
  step : (end i : ℕ) → i < end → rest_from s o i (end - i) ≡ with_valid (candidate_of s o i) (rest_from s o (i + 1) (end - (i + 1)))
  unfolding rest_from
  step end i h = let more : end - i ≡ suc (end - (i + 1)) = omega arith in rw more

  -- all valid runs before record `end`
  abbrev pub all : ℕ → List ValidRun
  all end = rest_from s o 1 (end - 1)

  -- Of the runs before record i these are kept: they and the runs from record i on stand for all.
  pub Sought : ℕ → List ValidRun → Bool → ℕ → Type 0
  Sought end runs carried i = StandFor carried (runs ++ rest_from s o i (end - i)) (all end)

  pub sought_start : (end : ℕ) → Sought end [] false 1
  unfolding Sought StandFor
  sought_start end = refl

  -- record i is valid, or it is set aside
  placed_is : (end i : ℕ) (carried : Bool) (runs : List ValidRun) (x : Option ValidRun) → i < end → candidate_of s o i ≡ x → Sought end runs carried i → StandFor carried (runs ++ with_valid x (rest_from s o (i + 1) (end - (i + 1)))) (all end)
  unfolding Sought
  placed_is end i carried runs x h e g =
      subst (λ (l : List ValidRun). StandFor carried (runs ++ l) (all end)) (step end i h ∙ ap (λ (v : Option ValidRun). with_valid v (rest_from s o (i + 1) (end - (i + 1)))) e) g

  pub sought_valid : (end i : ℕ) (carried : Bool) (runs : List ValidRun) (v : ValidRun) → i < end → candidate_of s o i ≡ Some v → Sought end runs carried i → Sought end (runs ++ v ∷ []) carried (i + 1)
  unfolding Sought
  sought_valid end i carried runs v h e g = rw append_assoc (placed_is end i carried runs (Some v) h e g)

  pub sought_other : (end i : ℕ) (carried : Bool) (runs : List ValidRun) → i < end → candidate_of s o i ≡ None → Sought end runs carried i → Sought end runs carried (i + 1)
  unfolding Sought
  sought_other end i carried runs h e g = placed_is end i carried runs None h e g

  -- records that do not name the gear are passed over
  not_named : (n : ℕ) → has_byte s 1 o.gear n ≡ false → candidate_of s o n ≡ None
  unfolding candidate_of
  not_named n e = by (has_byte s 0 (kind_byte o.kind) n) (has_byte s 1 o.gear n) e
    where
      by : (a b : Bool) → b ≡ false → cond (a && b) (valid_of (run_in (record_at s n)) o.backgrounds n) None ≡ None
      by true b f = rw f
      by false b f = refl

  passed_over : (end : ℕ) (carried : Bool) (runs : List ValidRun) (k i : ℕ) → i + k ≤ end → ((n : ℕ) → i ≤ n → n < i + k → has_byte s 1 o.gear n ≡ false) → Sought end runs carried i → Sought end runs carried (i + k)
  passed_over end carried runs zero i h none g = let here : i ≡ i + 0 = omega arith in subst (Sought end runs carried) here g
  passed_over end carried runs (suc k) i h none g =
      let next : i + 1 + k ≡ i + suc k = omega arith in
      subst (Sought end runs carried) next (passed_over end carried runs k (i + 1) (omega arith) (λ n l m. none n (omega arith) (omega arith)) (sought_other end i carried runs (omega arith) (not_named i (none i (omega arith) (omega arith))) g))

  passed_to : (end : ℕ) (carried : Bool) (runs : List ValidRun) (i j : ℕ) → i ≤ j → j ≤ end → ((n : ℕ) → i ≤ n → n < j → has_byte s 1 o.gear n ≡ false) → Sought end runs carried i → Sought end runs carried j
  passed_to end carried runs i j h l none g =
      let place : i + (j - i) ≡ j = omega arith in
      subst (Sought end runs carried) place (passed_over end carried runs (j - i) i (omega arith) (λ n m k. none n m (omega arith)) g)

  -- the next record that names the gear, of those from record i on
  abbrev pub next : ℕ → ℕ → Option ℕ
  next end i = below end (lowest (has_byte s 1 o.gear) (end - i) i)

  pub next_range : (end i j : ℕ) → Some j ≡ next end i → (i ≤ j) × (j < end)
  next_range end i j e =
      let b = below_some end _ j (sym e) in
      let f = found (has_byte s 1 o.gear) (end - i) i in
      (omega (arith, b.0, f.least), omega (arith, b.0, b.1))

  pub sought_next : (end i j : ℕ) (carried : Bool) (runs : List ValidRun) → Some j ≡ next end i → Sought end runs carried i → Sought end runs carried j
  sought_next end i j carried runs e g =
      let r = next_range end i j e in
      let b = below_some end _ j (sym e) in
      let f = found (has_byte s 1 o.gear) (end - i) i in
      passed_to end carried runs i j r.0 (omega (arith, r.1)) (λ n l m. f.before n l (omega (arith, b.0))) g

  -- it is valid and stands after those that were kept
  pub sought_stored : (end i j : ℕ) (carried : Bool) (runs stored : List ValidRun) (v : ValidRun) → Some j ≡ next end i → Some v ≡ candidate_of s o j → stored ≡ runs ++ v ∷ [] → Sought end runs carried i → Sought end stored carried (j + 1)
  sought_stored end i j carried runs stored v e c k g =
      rw k (sought_valid end j carried runs v (next_range end i j e).1 (sym c) (sought_next end i j carried runs e g))

  -- where there is none, every record has been passed
  pub sought_last : (end i : ℕ) (carried : Bool) (runs : List ValidRun) → i ≤ end → None ≡ next end i → Sought end runs carried i → Sought end runs carried end
  sought_last end i carried runs h e g =
      let b = below_none end _ (sym e) in
      let f = found (has_byte s 1 o.gear) (end - i) i in
      passed_to end carried runs i end h (omega arith) (λ n l m. f.before n l (omega (arith, b))) g

  -- a window among the runs that are kept is the first of all
  pub sought_found : (end i : ℕ) (carried : Bool) (runs : List ValidRun) (f : Four) → Ok f ≡ first_window runs → Sought end runs carried i → Ok f ≡ first_window (all end)
  unfolding Sought
  sought_found end i carried runs f e g = sym (found_in (all end) carried runs _ f g (sym e))

  -- if they have none, the last three are carried
  pub sought_carried : (end i : ℕ) (before : Bool) (runs kept : List ValidRun) (x : Shortage) → length runs ≡ 16 → Err x ≡ first_window runs → kept ≡ drop 13 runs → Sought end runs before i → Sought end kept true i
  unfolding Sought
  sought_carried end i before runs kept x long e k g =
      let last : length runs - 3 ≡ 13 = omega arith in
      let part : drop (length runs - 3) runs ≡ kept = ap (λ (n : ℕ). drop n runs) last ∙ sym k in
      rw (← part) (carried (all end) before runs (rest_from s o i (end - i)) x (omega arith) g (sym e))

  -- when every record has been passed and they have none, neither have all
  pub sought_none : (end : ℕ) (before : Bool) (runs : List ValidRun) (x : Shortage) → Err x ≡ first_window runs → Sought end runs before end → Err (cond before TooWide x) ≡ first_window (all end)
  unfolding Sought rest_from
  sought_none end before runs x e g =
      let none : end - end ≡ 0 = omega arith in
      sym (none_in (all end) before runs x (subst (λ (r : List ValidRun). StandFor before r (all end)) (append-nil runs) (rw none at g)) (sym e))

-- all runs before the last record are the rest
the_rest : (s : List ℕ) (o : Condition) → 2 ≤ records s → first_window (all s o (records s - 1)) ≡ window_of s o
unfolding window_of rest_of
the_rest s o two = let runs : records s - 1 - 1 ≡ records s - 2 = omega arith in ap (λ (n : ℕ). first_window (rest_from s o 1 n)) runs

module _ (s : List ℕ) (o : Condition) (two : 2 ≤ records s) where
  -- a window among the runs that are kept is that of the condition
  pub window_found : (i : ℕ) (carried : Bool) (runs : List ValidRun) (f : Four) → Ok f ≡ first_window runs → Sought s o (records s - 1) runs carried i → Ok f ≡ window_of s o
  window_found i carried runs f e g = sought_found s o (records s - 1) i carried runs f e g ∙ the_rest s o two

  -- when every record has been passed, what the runs that are kept have is what all have, but that carried runs are not too few
  pub all_searched : (i : ℕ) (carried : Bool) (runs : List ValidRun) → i ≤ records s - 1 → None ≡ next s o (records s - 1) i → Sought s o (records s - 1) runs carried i → cond carried (result_or (first_window runs) (Err TooWide)) (first_window runs) ≡ window_of s o
  all_searched i carried runs h e g = by carried (first_window runs) refl (sought_last s o (records s - 1) i carried runs h e g) ∙ the_rest s o two
    where
      by : (b : Bool) (r : Result Four Shortage) → first_window runs ≡ r → Sought s o (records s - 1) runs b (records s - 1) → cond b (result_or r (Err TooWide)) r ≡ first_window (all s o (records s - 1))
      by true (Ok f) q g = sought_found s o (records s - 1) (records s - 1) true runs f (sym q) g
      by true (Err x) q g = sought_none s o (records s - 1) true runs x (sym q) g
      by false (Ok f) q g = sought_found s o (records s - 1) (records s - 1) false runs f (sym q) g
      by false (Err x) q g = sought_none s o (records s - 1) false runs x (sym q) g
