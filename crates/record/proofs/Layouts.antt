-- Laws of a run record's layout. Assumes nothing.
use mathlib.Core.Path.{◌≡◌, refl}
use mathlib.Core.Bool.{true, false}
use mathlib.Core.List.{List}
use Prim.Native.Nat.{ℕ, ◌≤◌}
use lib.Dec.{T, leb→le, eqb→eq}
use lib.ListN.{length, get_or}
use lib.Ieee.{binary32, of_bits, nan_bits}
use borrow.Author.Tests.{eq-eqb}
use Rattle.std.proofs.Common.{Option, Some, None}
use Rattle.units.specs.Bytes.{number}
use Rattle.units.proofs.Tests.{each}
use Rattle.level.specs.declared.Reading.{Reading}
use Rattle.level.specs.Reading.{reading_of, in_range}
use Rattle.level.proofs.Readings.{no_nan, good_in_range}
use Rattle.record.specs.Records.{byte, word, readable, run_tests, run_good}
use Rattle.record.proofs.Fields.{inside}

-- ---- what the tests of a good record say, number by number

pub record RunRanges (r : List ℕ) : Type 0 where
  pub long : length r ≡ 32
  pub kind : (2 ≤ byte r 0) × (byte r 0 ≤ 3)
  pub gear : (1 ≤ byte r 1) × (byte r 1 ≤ 16)
  pub start : (10 ≤ word r 16) × (word r 16 ≤ 1500)
  pub end : (10 ≤ word r 18) × (word r 18 ≤ 1500)
  pub engine : word r 20 ≤ 20000
  pub rising : byte r 0 ≡ 2 → word r 16 ≤ word r 18

pub run_ranges : (r : List ℕ) → run_good r ≡ true → RunRanges r
unfolding run_good run_tests
run_ranges r e =
    record {
      long = eqb→eq (length r) 32 (test 0);
      kind = inside 2 3 (byte r 0) (test 1);
      gear = inside 1 16 (byte r 1) (test 2);
      start = inside 10 1500 (word r 16) (test 7);
      end = inside 10 1500 (word r 18) (test 8);
      engine = (inside 0 20000 (word r 20) (test 9)).1;
      rising = λ k. leb→le (word r 16) (word r 18) (rw (eq-eqb (byte r 0) 2 k) at (test 10));
    }
  where
    test : (k : ℕ) → T (get_or (run_tests r) k true)
    test = each (run_tests r) (rw e tt)

-- ---- the readings of a good run record

pub readable_good : (f : Option Reading) → T (readable f) → (r : Reading) × (f ≡ Some r)
readable_good (Some r) t = (r, refl)
readable_good None t = absurd t

-- each side's bytes give a reading
pub left_is_good : (r : List ℕ) → run_good r ≡ true → (x : Reading) × (reading_of (byte r 3) (number r 8 4) ≡ Some x)
unfolding run_good run_tests
left_is_good r e = readable_good (reading_of (byte r 3) (number r 8 4)) (each (run_tests r) (rw e tt) 4)

pub right_is_good : (r : List ℕ) → run_good r ≡ true → (x : Reading) × (reading_of (byte r 4) (number r 12 4) ≡ Some x)
unfolding run_good run_tests
right_is_good r e = readable_good (reading_of (byte r 4) (number r 12 4)) (each (run_tests r) (rw e tt) 5)

pub left_no_nan : (r : List ℕ) → run_good r ≡ true → nan_bits binary32 (number r 8 4) ≡ false
left_no_nan r e = let g = left_is_good r e in no_nan (byte r 3) (number r 8 4) g.0 g.1

pub right_no_nan : (r : List ℕ) → run_good r ≡ true → nan_bits binary32 (number r 12 4) ≡ false
right_no_nan r e = let g = right_is_good r e in no_nan (byte r 4) (number r 12 4) g.0 g.1

-- a level of kind 1 or 2 is in range
pub left_in_range : (r : List ℕ) → run_good r ≡ true → (byte r 3 ≡ 0 → ⊥) → in_range (of_bits binary32 (number r 8 4)) ≡ true
left_in_range r e n = let g = left_is_good r e in good_in_range (byte r 3) (number r 8 4) g.0 g.1 n

pub right_in_range : (r : List ℕ) → run_good r ≡ true → (byte r 4 ≡ 0 → ⊥) → in_range (of_bits binary32 (number r 12 4)) ≡ true
right_in_range r e n = let g = right_is_good r e in good_in_range (byte r 4) (number r 12 4) g.0 g.1 n
