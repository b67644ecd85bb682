-- 21 comes exactly on its cause. Assumes nothing.
use mathlib.Core.Path.{◌≡◌, refl, sym, ◌∙◌}
use mathlib.Core.Logic.{◌↔◌}
use mathlib.Core.Bool.{Bool, true, false}
use Prim.Native.Nat.{ℕ, ◌≤◌}
use native.Mathlib.Omega.{arith}
use Rattle.std.specs.Prelude.{Ok}
use borrow.Author.Tests.{ltb-true, ltb-false, lt-ltb}
use Rattle.lorry.specs.declared.TwoAxles.{TwoAxles}
use Rattle.lorry.specs.declared.Masses.{Masses}
use Rattle.lorry.specs.TestMass.{Loading, kg, permitted_of, overloaded, extra, rear_overloaded, masses_of, loading_of, two_axles_of, more_axles_of}
use Rattle.lorry.specs.Causes.{RearOver75, TwoAxlesRefused, MoreAxlesRefused, ToldByNumber}

-- masses are no refusal
never : (m : Masses) → (◌≡◌ {A = Loading} (Ok m) rear_overloaded) → ⊥
never m e = let no : ◌≡◌ {A = ℕ} 0 1 = cc in omega arith

-- an axle that is not overloaded carries at most 75% of its maximum
pub fits : (x : TwoAxles) → overloaded x ≡ false → kg x.rear ≤ permitted_of x
fits x e = ltb-false (permitted_of x) (kg x.rear) e

module _ (x : TwoAxles) (mass unladen : ℕ) where
  refused : overloaded x ≡ true → loading_of x mass unladen ≡ rear_overloaded
  unfolding loading_of
  refused e = rw e

  reckoned : overloaded x ≡ false → loading_of x mass unladen ≡ Ok (masses_of mass (extra mass unladen))
  unfolding loading_of
  reckoned e = rw e

  -- whichever mass it is, the refusal is by the rear axle
  by_the_rear_axle : loading_of x mass unladen ≡ rear_overloaded ↔ RearOver75 x
  by_the_rear_axle = (λ e. only (overloaded x) refl e, λ over. refused (lt-ltb (permitted_of x) (kg x.rear) over))
    where
      only : (b : Bool) → overloaded x ≡ b → loading_of x mass unladen ≡ rear_overloaded → RearOver75 x
      only true e r = ltb-true (permitted_of x) (kg x.rear) e
      only false e r = absurd (never (masses_of mass (extra mass unladen)) (sym (reckoned e) ∙ r))

  -- where masses are given, they are those of the rules, and the rear axle is not overloaded
  pub given : (m : Masses) → loading_of x mass unladen ≡ Ok m → (kg x.rear ≤ permitted_of x) × (m ≡ masses_of mass (extra mass unladen))
  given m r = by (overloaded x) refl
    where
      by : (b : Bool) → overloaded x ≡ b → (kg x.rear ≤ permitted_of x) × (m ≡ masses_of mass (extra mass unladen))
      by true e = absurd (never m (sym r ∙ refused e))
      by false e = let same : Ok m ≡ Ok (masses_of mass (extra mass unladen)) = sym r ∙ reckoned e in (fits x e, cc)

pub two_axles_refused : TwoAxlesRefused
unfolding two_axles_of
two_axles_refused x = by_the_rear_axle x _ _

pub more_axles_refused : MoreAxlesRefused
unfolding more_axles_of
more_axles_refused x own = by_the_rear_axle x _ _

pub told_by_number : ToldByNumber
told_by_number m = (refl, refl, refl, refl)
