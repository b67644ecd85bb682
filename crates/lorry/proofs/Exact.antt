-- Every mass that is given is the exact value. Assumes nothing.
use mathlib.Core.Path.{◌≡◌}
use Prim.Native.Nat.{ℕ, ◌+◌, ◌≤◌}
use native.Mathlib.Omega.{arith}
use Rattle.lorry.specs.declared.TwoAxles.{TwoAxles}
use Rattle.lorry.specs.TestMass.{kg, driver, unladen_of, permitted_of, extra, two_axles_mass, more_axles_mass, masses_of, two_axles_of, more_axles_of}
use Rattle.lorry.specs.Exact.{LoadAndBand, TwoAxlesExact, TwoAxlesAreExact, MoreAxlesExact, MoreAxlesAreExact}
use Rattle.lorry.proofs.Cases.{none_loaded, at_target, at_75, two_axles_largest, own_mass, of_the_stand_in, more_axles_larger}
use Rattle.lorry.proofs.Refused.{given}

-- of any test mass that is not below the driver and the unladen mass
load_and_band : (mass unladen n : ℕ) → unladen ≡ kg n → driver + unladen ≤ mass → LoadAndBand (masses_of mass (extra mass unladen)) n
load_and_band mass unladen n e h =
    record { load = omega arith; lowest = omega arith; highest = omega arith; from_lowest = omega arith; to_highest = omega arith }

module _ (x : TwoAxles) (fits : kg x.rear ≤ permitted_of x) where
  two_axles_exact : TwoAxlesExact x (masses_of (two_axles_mass x) (extra (two_axles_mass x) (unladen_of x)))
  two_axles_exact =
      record {
        none_loaded = λ negative. omega (arith, none_loaded x (omega arith));
        at_target = λ loaded within. omega (arith, at_target x (omega arith) (omega arith));
        at_75 = λ loaded over. omega (arith, at_75 x (omega arith) (omega arith));
        below_target = λ loaded over. omega (arith, at_75 x (omega arith) (omega arith));
        largest = omega (arith, two_axles_largest x fits);
      }

module _ (x : TwoAxles) (own : ℕ) where
  -- whatever the loads are
  more_axles_exact : (s l : ℕ) → MoreAxlesExact (masses_of (two_axles_mass x) s) own (masses_of (more_axles_mass x own) l)
  more_axles_exact s l =
      record {
        own_mass = λ below. omega (arith, own_mass x own (omega arith));
        of_the_stand_in = λ reached. omega (arith, of_the_stand_in x own (omega arith));
        larger = omega (arith, more_axles_larger x own);
      }

pub two_axles_are_exact : TwoAxlesAreExact
unfolding two_axles_of
two_axles_are_exact x m e =
    let (fits, is) = given x (two_axles_mass x) (unladen_of x) m e in
    rw is (two_axles_exact x fits, load_and_band (two_axles_mass x) (unladen_of x) (x.front + x.rear) (omega arith) (omega (arith, two_axles_largest x fits)))

pub more_axles_are_exact : MoreAxlesAreExact
unfolding two_axles_of more_axles_of
more_axles_are_exact x own s m f e =
    let (_, is) = given x (more_axles_mass x own) (kg own) m e in
    let (_, was) = given x (two_axles_mass x) (unladen_of x) s f in
    rw (is, was) (more_axles_exact x own _ _, load_and_band (more_axles_mass x own) (kg own) own (omega arith) (omega (arith, more_axles_larger x own)))
