-- The gears that remain, place by place, and the table of them. Assumes nothing.
use Rattle.std.specs.Prelude.{Option, Some, None, Result, Ok, Err}
use mathlib.Core.Path.{◌≡◌, refl, sym, ap, ◌∙◌}
use mathlib.Core.List.{List, [], ◌∷◌, ◌++◌, map, append-nil}
use Prim.Native.Nat.{ℕ, zero, suc, ◌+◌, ◌-◌, ◌≤◌, ◌<◌}
use native.Mathlib.Nat.{zero-add, le_antisymm}
use native.Mathlib.Numerals.{add-one}
use native.Mathlib.Omega.{arith}
use lib.ListN.{length, take, set, replicate, length-append, length-map}
use lib.Seq.{set_at, take_at, append_snoc}
use lib.Dec.{ltb}
use borrow.Author.Tests.{lt-ltb, le-ltb, ltb-false}
use mathlib.Core.Bool.{Bool, true, false}
use Rattle.units.proofs.Lowest.{Passed, passed_start, passed_next, passed_stop, passed_end, found}
use Rattle.units.proofs.Tests.{by_test}
use Rattle.refusal.specs.declared.Shortage.{Shortage}
use Rattle.record.specs.declared.RunKind.{RunKind}
use Rattle.record.specs.declared.RunKind.TheVariants.{Acceleration}
use Rattle.sheet.specs.Sheet.{has_acceleration}
use Rattle.window.specs.declared.Four.{Four}
use Rattle.window.proofs.Searches.{none_is}
use Rattle.valid_runs.specs.ValidRuns.{window_of}
use Rattle.session.specs.declared.Entry.{Entry}
use Rattle.session.specs.declared.State.{State}
use Rattle.session.specs.declared.State.TheVariants.{Remains, Dropped, NoWindow, NoRun}
use Rattle.session.specs.declared.WithoutWindow.{WithoutWindow}
use Rattle.session.specs.declared.Table.{Table}
use Rattle.session.specs.Session.{Session, window_in, shortage_in, slow_enough, by_window, state_of, has_no_window, lowest_no_window, without_window, with_remaining, remaining_from, remaining, gears_of, windows_of, entries_of, empty_entry, stored, table_of, entries_in, gears_in, windows_in}

-- ---- one place more

module _ (t : Session) where
  kept_in_front : (x : State) (a b : List Entry) → with_remaining x (a ++ b) ≡ with_remaining x a ++ b
  kept_in_front (Remains e) a b = refl
  kept_in_front Dropped a b = refl
  kept_in_front (NoWindow x) a b = refl
  kept_in_front NoRun a b = refl

  -- the last of the places adds what becomes of its gear
  at_last_place : (p count : ℕ) → remaining_from t p (suc count) ≡ remaining_from t p count ++ with_remaining (state_of t (p + count + 1)) []
  unfolding remaining_from
  at_last_place p zero = ap (λ (n : ℕ). with_remaining (state_of t (n + 1)) []) (omega arith)
  at_last_place p (suc count) =
      let here : p + 1 + count + 1 ≡ p + suc count + 1 = omega arith in
      ap (with_remaining (state_of t (p + 1))) (at_last_place (p + 1) count)
      ∙ kept_in_front (state_of t (p + 1)) (remaining_from t (p + 1) count) _
      ∙ ap (λ (n : ℕ). with_remaining (state_of t (p + 1)) (remaining_from t (p + 1) count) ++ with_remaining (state_of t n) []) here

  few_remain : (p count : ℕ) → length (remaining_from t p count) ≤ count
  unfolding remaining_from
  few_remain p zero = omega arith
  few_remain p (suc count) = by (state_of t (p + 1)) (remaining_from t (p + 1) count) (few_remain (p + 1) count)
    where
      by : (x : State) (entries : List Entry) → length entries ≤ count → length (with_remaining x entries) ≤ suc count
      by (Remains e) entries h = omega arith
      by Dropped entries h = omega arith
      by (NoWindow x) entries h = omega arith
      by NoRun entries h = omega arith

  -- the entries of the places before p, and what becomes of the gear at it
  pub place_more : (p : ℕ) (x : State) → state_of t (p + 1) ≡ x → remaining_from t 0 (p + 1) ≡ remaining_from t 0 p ++ with_remaining x []
  place_more p x e =
      ap (remaining_from t 0) (add-one p)
      ∙ at_last_place 0 p
      ∙ ap (λ (n : ℕ). remaining_from t 0 p ++ with_remaining (state_of t (n + 1)) []) (zero-add p)
      ∙ ap (λ (y : State). remaining_from t 0 p ++ with_remaining y []) e

-- ---- row 7

no_window_most : (t : Session) → lowest_no_window t ≤ 16
unfolding lowest_no_window
no_window_most t = (found (λ p. has_no_window (state_of t (p + 1))) 16 0).most

-- a window that is missing, of either run kind, has the shortage of its valid runs
pub missing_is : (t : Session) (kind : RunKind) (gear : ℕ) (x : Shortage) → window_in t kind gear ≡ Err x → x ≡ shortage_in t kind gear
unfolding window_of
missing_is t kind gear x e = (none_is _ x e).0

-- so has a gear without an acceleration window
shortage_is : (t : Session) (gear : ℕ) (x : Shortage) → state_of t gear ≡ NoWindow x → x ≡ shortage_in t Acceleration gear
unfolding state_of by_window
shortage_is t gear x =
    by_test (λ (y : State). y ≡ NoWindow x → x ≡ shortage_in t Acceleration gear) (has_acceleration t.sheet gear) _ _
    (λ h e. through_window (window_in t Acceleration gear) refl e)
    (λ h e. absurd (cc))
  where
    through_window : (w : Result Four Shortage) → window_in t Acceleration gear ≡ w → by_window t.track gear w ≡ NoWindow x → x ≡ shortage_in t Acceleration gear
    through_window (Ok f) p e =
        by_test (λ (y : State). y ≡ NoWindow x → x ≡ shortage_in t Acceleration gear) (slow_enough t.track.rated f) _ _
        (λ b d. absurd (cc))
        (λ b d. absurd (cc))
        e
    through_window (Err y) p e =
        let same : y ≡ x = cc in
        sym same ∙ missing_is t Acceleration gear y p

-- the lowest gear without a window is this one, or there is none
pub without_at : (t : Session) (gear : ℕ) (x : Shortage) → 1 ≤ gear → gear ≤ 16 → lowest_no_window t ≡ gear - 1 → state_of t gear ≡ NoWindow x → Some (record { gear = gear; shortage = x }) ≡ without_window t
unfolding without_window
without_at t gear x first last e s =
    let here : gear - 1 + 1 ≡ gear = omega arith in
    rw (e, here, lt-ltb (gear - 1) 16 (omega arith)) (ap (λ (y : Shortage). Some (record { gear = gear; shortage = y })) (shortage_is t gear x s))

pub without_none : (t : Session) → 16 ≤ lowest_no_window t → None ≡ without_window t
unfolding without_window
without_none t h = rw (le-ltb (lowest_no_window t) 16 h)

-- ---- the table

-- a gear has no window
abbrev pub missing : Session → ℕ → Bool
missing t p = has_no_window (state_of t (p + 1))

-- the gears before this one: the entries of those that remain, and none of them lacks a window
pub record Ready (t : Session) (entries : List Entry) (gear : ℕ) : Type 0 where
  pub none : Passed (missing t) 16 (gear - 1)
  pub so_far : entries ≡ remaining_from t 0 (gear - 1)

module _ (t : Session) where
  pub ready_start : Ready t [] 1
  unfolding remaining_from
  ready_start = record { none = passed_start (missing t) 16; so_far = refl }

  pub few_so_far : (entries : List Entry) (gear : ℕ) → Ready t entries gear → length entries ≤ gear - 1
  few_so_far entries gear r = omega (arith, ap length r.so_far, few_remain t 0 (gear - 1))

  module _ (entries : List Entry) (gear : ℕ) (first : 1 ≤ gear) (last : gear ≤ 16) (x : State) (is : state_of t gear ≡ x) where
    next : gear ≡ gear - 1 + 1
    next = omega arith

    at : state_of t (gear - 1 + 1) ≡ x
    at = ap (state_of t) (sym next) ∙ is

    -- a gear with a window, or without an acceleration run
    pub ready_next : has_no_window x ≡ false → Ready t entries gear → Ready t (entries ++ with_remaining x []) (gear + 1)
    ready_next fine r =
        let here : gear + 1 - 1 ≡ gear - 1 + 1 = omega arith in
        record {
          none = rw here (passed_next (missing t) 16 (gear - 1) (omega arith) (ap has_no_window at ∙ fine) r.none);
          so_far = rw here (ap (λ (l : List Entry). l ++ with_remaining x []) r.so_far ∙ sym (place_more t (gear - 1) x at));
        }

    -- of which one that is no entry leaves them as they are
    pub ready_skip : has_no_window x ≡ false → with_remaining x [] ≡ [] → Ready t entries gear → Ready t entries (gear + 1)
    ready_skip fine no_entry r = rw (no_entry, append-nil entries) at (ready_next fine r)

    -- the lowest gear without a window
    pub ready_stop : has_no_window x ≡ true → Ready t entries gear → lowest_no_window t ≡ gear - 1
    unfolding lowest_no_window
    ready_stop none r = passed_stop (missing t) 16 (gear - 1) (omega arith) (ap has_no_window at ∙ none) r.none

  -- each gear has a window
  pub ready_end : (entries : List Entry) (gear : ℕ) → 16 < gear → Ready t entries gear → lowest_no_window t ≡ gear - 1
  unfolding lowest_no_window
  ready_end entries gear h r = passed_end (missing t) 16 (gear - 1) (omega arith) r.none

  -- up to the lowest gear without a window, or to the last, the entries are the table's
  pub entries_are : (entries : List Entry) (gear : ℕ) → lowest_no_window t ≡ gear - 1 → Ready t entries gear → entries ≡ entries_of t
  unfolding entries_of
  entries_are entries gear e r = r.so_far ∙ ap (remaining_from t 0) (sym e)

-- ---- the entries, stored in an array

module _ {A : Type 0} (filler : A) where
  store : (xs : List A) (x : A) (count : ℕ) → length xs ≡ count → count < 16 → set (stored filler xs) count x ≡ stored filler (xs ++ (x ∷ []))
  store xs x count e h =
      let room : 16 - length xs ≡ suc (16 - (length xs + 1)) = omega arith in
      ap (λ (n : ℕ). set (xs ++ replicate n filler) count x) room
      ∙ set_at xs filler (replicate (16 - (length xs + 1)) filler) x count e
      ∙ sym (append_snoc xs x (replicate (16 - (length xs + 1)) filler))
      ∙ ap (λ (n : ℕ). xs ++ (x ∷ []) ++ replicate (16 - n) filler) (sym (length-append xs (x ∷ [])))

  taken : (xs : List A) → take (length xs) (stored filler xs) ≡ xs
  taken xs = take_at xs _ (length xs) refl

-- the array and the count before this gear
pub record Tabling (t : Session) (entries : List Entry) (count gear : ℕ) : Type 0 where
  pub none : Passed (missing t) 16 (gear - 1)
  pub stored_are : entries ≡ stored empty_entry (remaining_from t 0 (gear - 1))
  pub count_is : count ≡ length (remaining_from t 0 (gear - 1))

module _ (t : Session) where
  ready : (entries : List Entry) (count gear : ℕ) → Tabling t entries count gear → Ready t (remaining_from t 0 (gear - 1)) gear
  ready entries count gear r = record { none = r.none; so_far = refl }

  pub tabling_start : Tabling t (replicate 16 empty_entry) 0 1
  unfolding remaining_from
  tabling_start = record { none = passed_start (missing t) 16; stored_are = refl; count_is = refl }

  pub count_most : (entries : List Entry) (count gear : ℕ) → Tabling t entries count gear → count ≤ gear - 1
  count_most entries count gear r = omega (arith, r.count_is, few_remain t 0 (gear - 1))

  module _ (entries : List Entry) (count gear : ℕ) (first : 1 ≤ gear) (last : gear ≤ 16) where
    -- a gear that remains is stored behind those before it
    pub tabling_remains : (e : Entry) → state_of t gear ≡ Remains e → Tabling t entries count gear → Tabling t (set entries count e) (count + 1) (gear + 1)
    tabling_remains e is r =
        let before = remaining_from t 0 (gear - 1) in
        let next = ready_next t before gear first last (Remains e) is refl (ready entries count gear r) in
        record {
          none = next.none;
          stored_are =
              ap (λ (l : List Entry). set l count e) r.stored_are
              ∙ store empty_entry before e count (sym r.count_is) (omega (arith, count_most entries count gear r))
              ∙ ap (stored empty_entry) next.so_far;
          count_is = ap (λ (n : ℕ). n + 1) r.count_is ∙ sym (length-append before (e ∷ [])) ∙ ap length next.so_far;
        }

    -- a gear of any other state adds nothing
    pub tabling_other : (x : State) → has_no_window x ≡ false → with_remaining x [] ≡ [] → state_of t gear ≡ x → Tabling t entries count gear → Tabling t entries count (gear + 1)
    tabling_other x fine no_entry is r =
        let next = ready_skip t (remaining_from t 0 (gear - 1)) gear first last x is fine no_entry (ready entries count gear r) in
        record {
          none = next.none;
          stored_are = r.stored_are ∙ ap (stored empty_entry) next.so_far;
          count_is = r.count_is ∙ ap length next.so_far;
        }

  -- the lowest gear without a window is this one, or there is none up to the last
  pub tabled_stop : (entries : List Entry) (count gear : ℕ) → 1 ≤ gear → gear ≤ 16 → (x : State) → state_of t gear ≡ x → has_no_window x ≡ true → Tabling t entries count gear → lowest_no_window t ≡ gear - 1
  tabled_stop entries count gear first last x is none r = ready_stop t (remaining_from t 0 (gear - 1)) gear first last x is none (ready entries count gear r)

  pub tabled_end : (entries : List Entry) (count gear : ℕ) → 16 < gear → Tabling t entries count gear → lowest_no_window t ≡ gear - 1
  tabled_end entries count gear h r = ready_end t (remaining_from t 0 (gear - 1)) gear h (ready entries count gear r)

  -- up to the lowest gear without a window, or to the last, it is the table
  pub table_is : (entries : List Entry) (count gear : ℕ) (w : Option WithoutWindow) → lowest_no_window t ≡ gear - 1 → w ≡ without_window t → Tabling t entries count gear → record { entries = entries; count = count; without_window = w } ≡ table_of t
  unfolding table_of
  table_is entries count gear w e is r =
      let all = entries_are t (remaining_from t 0 (gear - 1)) gear e (ready entries count gear r) in
      let these : entries ≡ stored empty_entry (entries_of t) = r.stored_are ∙ ap (stored empty_entry) all in
      let those : count ≡ length (entries_of t) = r.count_is ∙ ap length all in
      cc

-- ---- what a table says of its session

pub entries_in_table : (t : Session) → entries_in (table_of t) ≡ entries_of t
unfolding table_of
entries_in_table t = taken empty_entry (entries_of t)

-- of any table with the entries of a session, whatever stands behind them
pub record WithEntries (t : Session) (r : Table) : Type 0 where
  pub few : length (entries_in r) ≤ 16
  pub gears : without_window t ≡ None → gears_in r ≡ gears_of t
  pub windows : without_window t ≡ None → windows_in r ≡ windows_of t

-- of the table of a session
pub record Tabled (t : Session) (r : Table) : Type 0 where
  pub without_window_is : r.without_window ≡ without_window t
  pub few : r.count ≤ 16
  pub counted : length (gears_in r) ≡ r.count
  pub gears : without_window t ≡ None → gears_in r ≡ gears_of t
  pub windows : without_window t ≡ None → windows_in r ≡ windows_of t

-- where no gear is named, the search for the lowest went through all 16 places
all_places : (t : Session) → without_window t ≡ None → lowest_no_window t ≡ 16
unfolding without_window
all_places t =
    by_test (λ (w : Option WithoutWindow). w ≡ None → lowest_no_window t ≡ 16) (ltb (lowest_no_window t) 16) _ _
    (λ l e. absurd (cc))
    (λ l e. le_antisymm (no_window_most t) (ltb-false (lowest_no_window t) 16 l))

pub with_entries : (t : Session) (r : Table) → entries_in r ≡ entries_of t → WithEntries t r
unfolding entries_of gears_of windows_of remaining
with_entries t r e =
    record {
      few = omega (arith, ap length e, few_remain t 0 (lowest_no_window t), no_window_most t);
      gears = λ h. ap (map (λ (x : Entry). x.gear)) e ∙ rw (all_places t h);
      windows = λ h. ap (map (λ (x : Entry). x.window)) e ∙ rw (all_places t h);
    }

pub tabled : (t : Session) → Tabled t (table_of t)
unfolding table_of
tabled t =
    let e = entries_in_table t in
    let here = with_entries t (table_of t) e in
    record {
      without_window_is = refl;
      few = omega (arith, ap length e, here.few);
      counted = length-map (entries_in (table_of t)) (λ (x : Entry). x.gear) ∙ ap length e;
      gears = here.gears;
      windows = here.windows;
    }
