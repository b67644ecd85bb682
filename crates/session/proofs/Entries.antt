-- What a gear that remains is: its window, and its acceleration from that window. Assumes nothing.
use mathlib.Core.Path.{◌≡◌, refl, sym, ap, subst}
use Prim.Native.Nat.{ℕ, zero, suc, ◌+◌, ◌<◌}
use native.Mathlib.Nat.{le_of_suc-le-suc, not-suc-le-zero}
use native.Mathlib.Numerals.{add-one}
use native.Mathlib.Omega.{arith}
use lib.ListN.{length, get_or, length-map, get_or-map}
use Rattle.std.specs.Prelude.{Result, Ok, Err}
use Rattle.refusal.specs.declared.Shortage.{Shortage}
use Rattle.record.specs.declared.RunKind.TheVariants.{Acceleration}
use Rattle.units.proofs.Tests.{by_test}
use Rattle.sheet.specs.Sheet.{has_acceleration}
use Rattle.window.specs.declared.Four.{Four}
use Rattle.window.specs.Windows.{empty_run}
use Rattle.window.proofs.Rising.{FourRisen}
use Rattle.gears.specs.declared.Gear.{Gear}
use Rattle.session.specs.declared.Entry.{Entry}
use Rattle.session.specs.declared.State.{State}
use Rattle.session.specs.declared.State.TheVariants.{Remains, Dropped, NoWindow, NoRun}
use Rattle.session.specs.Session.{Session, window_in, slow_enough, gear_acceleration, by_window, state_of, with_remaining, remaining_from, remaining, gears_of, windows_of}

-- gear g remains in t with the acceleration window f
pub record Remaining (t : Session) (g : Gear) (f : Four) : Type 0 where
  pub window_is : window_in t Acceleration g.number ≡ Ok f
  pub acceleration_is : g.acceleration.0 ≡ gear_acceleration t.track.path f

module _ (t : Session) where
  from_window : (n : ℕ) (w : Result Four Shortage) (e : Entry) → window_in t Acceleration n ≡ w → by_window t.track n w ≡ Remains e → Remaining t e.gear e.window
  unfolding by_window
  from_window n (Err x) e p q = absurd (cc)
  from_window n (Ok x) e p q =
      by_test (λ (y : State). y ≡ Remains e → Remaining t e.gear e.window) (slow_enough t.track.rated x) _ _
      (λ b q.
      let same : ◌≡◌ {A = Entry} (record { gear = record { number = n; acceleration = record { 0 = gear_acceleration t.track.path x } }; window = x }) e = cc in
      let P : Entry → Type 0 = λ (y : Entry). Remaining t y.gear y.window in
      subst P same (record { window_is = p; acceleration_is = refl }))
      (λ b q. absurd (cc))
      q

  from_state : (n : ℕ) (e : Entry) → state_of t n ≡ Remains e → Remaining t e.gear e.window
  unfolding state_of
  from_state n e =
      by_test (λ (y : State). y ≡ Remains e → Remaining t e.gear e.window) (has_acceleration t.sheet n) _ _
      (λ h q. from_window n (window_in t Acceleration n) e refl q)
      (λ h q. absurd (cc))

  entry : (none : Entry) (count p k : ℕ) → k < length (remaining_from t p count) → Remaining t (get_or (remaining_from t p count) k none).gear (get_or (remaining_from t p count) k none).window
  unfolding remaining_from
  entry none zero p k h = absurd (not-suc-le-zero h)
  entry none (suc count) p k h = by (state_of t (p + 1)) refl k h (entry none count (p + 1))
    where
      by : (x : State) → state_of t (p + 1) ≡ x → (k : ℕ) → k < length (with_remaining x (remaining_from t (p + 1) count)) → ((j : ℕ) → j < length (remaining_from t (p + 1) count) → Remaining t (get_or (remaining_from t (p + 1) count) j none).gear (get_or (remaining_from t (p + 1) count) j none).window) → Remaining t (get_or (with_remaining x (remaining_from t (p + 1) count)) k none).gear (get_or (with_remaining x (remaining_from t (p + 1) count)) k none).window
      by (Remains x) e zero l entries = from_state (p + 1) x e
      by (Remains x) e (suc j) l entries = entries j (le_of_suc-le-suc l)
      by Dropped e j l entries = entries j l
      by (NoWindow x) e j l entries = entries j l
      by NoRun e j l entries = entries j l

  -- the gear and the window at a place belong together
  pub remaining_at : (g : Gear) (f : Four) (p : ℕ) → p < length (gears_of t) → Remaining t (get_or (gears_of t) p g) (get_or (windows_of t) p f)
  unfolding gears_of windows_of remaining
  remaining_at g f p h =
      let none : Entry = record { gear = g; window = f } in
      rw (get_or-map (λ (e : Entry). e.gear) (remaining t) p none, get_or-map (λ (e : Entry). e.window) (remaining t) p none)
      (entry none 16 0 p (rw (length-map (remaining t) (λ (e : Entry). e.gear)) at h))

-- ---- the gears that remain stand in rising number

module _ (t : Session) where
  number_by_window : (n : ℕ) (w : Result Four Shortage) (e : Entry) → by_window t.track n w ≡ Remains e → e.gear.number ≡ n
  unfolding by_window
  number_by_window n (Err x) e q = absurd (cc)
  number_by_window n (Ok x) e q =
      by_test (λ (y : State). y ≡ Remains e → e.gear.number ≡ n) (slow_enough t.track.rated x) _ _
      (λ b q.
      let same : ◌≡◌ {A = Entry} (record { gear = record { number = n; acceleration = record { 0 = gear_acceleration t.track.path x } }; window = x }) e = cc in
      ap (λ (y : Entry). y.gear.number) (sym same))
      (λ b q. absurd (cc))
      q

  -- a gear that remains has the number by which it was asked for
  number_is : (n : ℕ) (e : Entry) → state_of t n ≡ Remains e → e.gear.number ≡ n
  unfolding state_of
  number_is n e =
      by_test (λ (y : State). y ≡ Remains e → e.gear.number ≡ n) (has_acceleration t.sheet n) _ _
      (λ h q. number_by_window n (window_in t Acceleration n) e q)
      (λ h q. absurd (cc))

  number_at : Entry → ℕ → ℕ → ℕ → ℕ
  number_at none p count k = (get_or (remaining_from t p count) k none).gear.number

  -- from place p on, numbers are above p
  above : (none : Entry) (count p k : ℕ) → k < length (remaining_from t p count) → p < number_at none p count k
  unfolding remaining_from number_at
  above none zero p k h = absurd (not-suc-le-zero h)
  above none (suc count) p k h = by (state_of t (p + 1)) refl k h (λ j l. omega (arith, above none count (p + 1) j l))
    where
      by : (x : State) → state_of t (p + 1) ≡ x → (k : ℕ) → k < length (with_remaining x (remaining_from t (p + 1) count)) → ((j : ℕ) → j < length (remaining_from t (p + 1) count) → p < (get_or (remaining_from t (p + 1) count) j none).gear.number) → p < (get_or (with_remaining x (remaining_from t (p + 1) count)) k none).gear.number
      by (Remains x) e zero l entries = omega (arith, number_is (p + 1) x e)
      by (Remains x) e (suc j) l entries = entries j (le_of_suc-le-suc l)
      by Dropped e j l entries = entries j l
      by (NoWindow x) e j l entries = entries j l
      by NoRun e j l entries = entries j l

  entries_rise : (none : Entry) (count p k : ℕ) → k + 1 < length (remaining_from t p count) → number_at none p count k < number_at none p count (k + 1)
  unfolding remaining_from number_at
  entries_rise none zero p k h = absurd (not-suc-le-zero h)
  entries_rise none (suc count) p k h = by (state_of t (p + 1)) refl k h (entries_rise none count (p + 1))
    where
      by : (x : State) → state_of t (p + 1) ≡ x → (k : ℕ) → k + 1 < length (with_remaining x (remaining_from t (p + 1) count)) → ((j : ℕ) → j + 1 < length (remaining_from t (p + 1) count) → (get_or (remaining_from t (p + 1) count) j none).gear.number < (get_or (remaining_from t (p + 1) count) (j + 1) none).gear.number) → (get_or (with_remaining x (remaining_from t (p + 1) count)) k none).gear.number < (get_or (with_remaining x (remaining_from t (p + 1) count)) (k + 1) none).gear.number
      by (Remains x) e zero l entries = omega (arith, number_is (p + 1) x e, above none count (p + 1) 0 (le_of_suc-le-suc l))
      by (Remains x) e (suc j) l entries = rw (add-one (suc j)) (rw (add-one j) at (entries j (omega (arith, l))))
      by Dropped e j l entries = entries j l
      by (NoWindow x) e j l entries = entries j l
      by NoRun e j l entries = entries j l

  -- the gear at the next place has a higher number
  pub numbers_rise : (none : Gear) (p : ℕ) → p + 1 < length (gears_of t) → (get_or (gears_of t) p none).number < (get_or (gears_of t) (p + 1) none).number
  unfolding gears_of remaining number_at
  numbers_rise none p h =
      let filler : Entry = record { gear = none; window = record { a = empty_run; b = empty_run; c = empty_run; d = empty_run } } in
      rw (get_or-map (λ (e : Entry). e.gear) (remaining t) p filler, get_or-map (λ (e : Entry). e.gear) (remaining t) (p + 1) filler)
      (entries_rise filler 16 0 p (rw (length-map (remaining t) (λ (e : Entry). e.gear)) at h))

-- ---- two windows with the same speeds

pub same_acceleration : (path : ℕ) (f f' : Four) → FourRisen f f' → gear_acceleration path f ≡ gear_acceleration path f'
unfolding gear_acceleration
same_acceleration path f f' r = by r.a.start r.a.end r.b.start r.b.end r.c.start r.c.end r.d.start r.d.end
  where
    by : f.a.start ≡ f'.a.start → f.a.end ≡ f'.a.end → f.b.start ≡ f'.b.start → f.b.end ≡ f'.b.end → f.c.start ≡ f'.c.start → f.c.end ≡ f'.c.end → f.d.start ≡ f'.d.start → f.d.end ≡ f'.d.end → gear_acceleration path f ≡ gear_acceleration path f'
    by e1 e2 e3 e4 e5 e6 e7 e8 = cc
