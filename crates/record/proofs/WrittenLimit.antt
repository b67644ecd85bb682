-- Laws of a written limit in the vehicle record. Assumes nothing.
use mathlib.Core.Path.{◌≡◌, refl}
use mathlib.Core.Bool.{Bool, false, true}
use mathlib.Core.List.{List}
use Prim.Native.Nat.{ℕ}
use native.Mathlib.Omega.{arith}
use borrow.Author.Tests.{ne_eqb}
use Rattle.units.specs.Tests.{all_of}
use Rattle.units.proofs.Tests.{each}
use Rattle.record.specs.Records.{word, looked_up, vehicle_tests}
use Rattle.record.proofs.Fields.{inside}

module _ (unwritten : List ℕ → Bool) (asked : List ℕ → ℕ → Bool) (r : List ℕ) where
  -- a good record that needs a written limit has one
  pub written : unwritten r ≡ false → all_of (vehicle_tests unwritten asked r) ≡ true → looked_up r ≡ false
  unfolding vehicle_tests
  written w e = ne_eqb (word r 14) 0 (λ z. let low = inside 50 100 (word r 14) (rw w at (each (vehicle_tests unwritten asked r) (rw e tt) 10)) in omega (arith, low.0, z))

  -- two layouts that differ in which records need one are the same for a record of which they say the same
  pub same_tests : (other : List ℕ → Bool) → unwritten r ≡ other r → vehicle_tests unwritten asked r ≡ vehicle_tests other asked r
  unfolding vehicle_tests
  same_tests other e = rw e refl
