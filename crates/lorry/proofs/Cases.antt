-- The test mass in each case of its rules, and as the largest of these masses. Assumes nothing.
use mathlib.Core.Path.{◌≡◌, refl, sym, ◌∙◌}
use mathlib.Core.Bool.{Bool, true, false}
use Prim.Native.Nat.{ℕ, ◌+◌, ◌≤◌, ◌<◌, max, min}
use native.Mathlib.Omega.{arith}
use lib.Dec.{leb}
use borrow.Author.Tests.{ltb-true, ltb-false, leb-true, leb-false, lt-ltb, le-ltb, le-leb, lt-leb}
use Rattle.lorry.specs.declared.TwoAxles.{TwoAxles}
use Rattle.lorry.specs.TestMass.{kg, driver, target_of, unladen_of, permitted_of, extra, is_negative, two_axles_mass, more_axles_mass}

-- ---- what an answer of `is_negative` says

module _ (aim unladen : ℕ) {answer : Bool} (e : answer ≡ is_negative aim unladen) where
  pub negative : answer ≡ true → aim < driver + unladen
  negative h = ltb-true aim (driver + unladen) (sym e ∙ h)

  pub not_negative : answer ≡ false → driver + unladen ≤ aim
  not_negative h = ltb-false aim (driver + unladen) (sym e ∙ h)

-- ---- two axles

-- the extra load and the unladen rear load
abbrev on_rear : TwoAxles → ℕ
on_rear x = extra (target_of x) (unladen_of x) + kg x.rear

abbrev Largest : TwoAxles → ℕ → Type 0
Largest x mass = mass ≡ max (unladen_of x + driver) (min (target_of x) (permitted_of x + driver + kg x.front))

module _ (x : TwoAxles) where
  pub none_loaded : target_of x < driver + unladen_of x → two_axles_mass x ≡ unladen_of x + driver
  unfolding two_axles_mass
  none_loaded below = simp (lt-ltb (target_of x) (driver + unladen_of x) below)

  pub at_target : driver + unladen_of x ≤ target_of x → on_rear x ≤ permitted_of x → two_axles_mass x ≡ target_of x
  unfolding two_axles_mass
  at_target reached within = simp (le-ltb (target_of x) (driver + unladen_of x) reached, le-leb (on_rear x) (permitted_of x) within)

  pub at_75 : driver + unladen_of x ≤ target_of x → permitted_of x < on_rear x → two_axles_mass x ≡ permitted_of x + driver + kg x.front
  unfolding two_axles_mass
  at_75 reached over = simp (le-ltb (target_of x) (driver + unladen_of x) reached, lt-leb (on_rear x) (permitted_of x) over)

  -- where the rear axle is not overloaded
  pub two_axles_largest : kg x.rear ≤ permitted_of x → Largest x (two_axles_mass x)
  two_axles_largest fits = by (is_negative (target_of x) (unladen_of x)) refl
    where
      loaded : driver + unladen_of x ≤ target_of x → (b : Bool) → leb (on_rear x) (permitted_of x) ≡ b → Largest x (two_axles_mass x)
      loaded h true e = let within = leb-true (on_rear x) (permitted_of x) e in omega (arith, at_target h within)
      loaded h false e = let over = leb-false (on_rear x) (permitted_of x) e in omega (arith, at_75 h over)

      by : (b : Bool) → is_negative (target_of x) (unladen_of x) ≡ b → Largest x (two_axles_mass x)
      by true e = let below = negative (target_of x) (unladen_of x) refl e in omega (arith, none_loaded below)
      by false e = loaded (not_negative (target_of x) (unladen_of x) refl e) (leb (on_rear x) (permitted_of x)) refl

-- ---- more axles

module _ (x : TwoAxles) (own : ℕ) where
  pub own_mass : two_axles_mass x < driver + kg own → more_axles_mass x own ≡ kg own + driver
  unfolding more_axles_mass
  own_mass below = simp (lt-ltb (two_axles_mass x) (driver + kg own) below)

  pub of_the_stand_in : driver + kg own ≤ two_axles_mass x → more_axles_mass x own ≡ two_axles_mass x
  unfolding more_axles_mass
  of_the_stand_in reached = simp (le-ltb (two_axles_mass x) (driver + kg own) reached)

  pub more_axles_larger : more_axles_mass x own ≡ max (two_axles_mass x) (kg own + driver)
  more_axles_larger = by (is_negative (two_axles_mass x) (kg own)) refl
    where
      by : (b : Bool) → is_negative (two_axles_mass x) (kg own) ≡ b → more_axles_mass x own ≡ max (two_axles_mass x) (kg own + driver)
      by true e = let below = negative (two_axles_mass x) (kg own) refl e in omega (arith, own_mass below)
      by false e = let reached = not_negative (two_axles_mass x) (kg own) refl e in omega (arith, of_the_stand_in reached)
