-- What the tests of a good vehicle record say, number by number. Assumes nothing.
use mathlib.Core.Path.{◌≡◌}
use mathlib.Core.Bool.{true, false}
use mathlib.Core.List.{List}
use Prim.Native.Nat.{ℕ, ◌≤◌}
use lib.Dec.{T, eqb→eq}
use lib.ListN.{length, get_or}
use Rattle.units.proofs.Tests.{each}
use Rattle.record.specs.Records.{byte, word, right_good, looked_up, vehicle_tests, vehicle_good}
use Rattle.record.proofs.Fields.{inside}

pub record VehicleRanges (r : List ℕ) : Type 0 where
  pub long : length r ≡ 32
  pub kind : byte r 0 ≡ 1
  pub category : (1 ≤ byte r 1) × (byte r 1 ≤ 2)
  pub line : byte r 2 ≤ 1
  pub power : (10 ≤ word r 4) × (word r 4 ≤ 20000)
  pub mass : (300 ≤ word r 6) × (word r 6 ≤ 5000)
  pub «length» : (100 ≤ word r 8) × (word r 8 ≤ 2000)
  pub left_background : word r 12 ≤ 1000
  pub limit : looked_up r ≡ false → (50 ≤ word r 14) × (word r 14 ≤ 100)
  pub right_background : word r 18 ≤ 1000

pub vehicle_ranges : (r : List ℕ) → vehicle_good r ≡ true → VehicleRanges r
unfolding vehicle_good vehicle_tests
vehicle_ranges r e =
    record {
      long = eqb→eq (length r) 32 (test 0);
      kind = eqb→eq (byte r 0) 1 (test 1);
      category = inside 1 2 (byte r 1) (test 2);
      line = (inside 0 1 (byte r 2) (test 3)).1;
      power = inside 10 20000 (word r 4) (test 5);
      mass = inside 300 5000 (word r 6) (test 6);
      «length» = inside 100 2000 (word r 8) (test 7);
      left_background = (inside 0 1000 (word r 12) (test 9)).1;
      limit = λ w. inside 50 100 (word r 14) (rw w at (test 10));
      right_background = (inside 0 1000 (word r 18) (test 12)).1;
    }
  where
    test : (k : ℕ) → T (get_or (vehicle_tests looked_up right_good r) k true)
    test = each (vehicle_tests looked_up right_good r) (rw e tt)
