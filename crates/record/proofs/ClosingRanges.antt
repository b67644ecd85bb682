-- What the tests of a good closing record say, number by number. Assumes nothing.
use mathlib.Core.Path.{◌≡◌}
use mathlib.Core.Bool.{true}
use mathlib.Core.List.{List}
use Prim.Native.Nat.{ℕ, ◌≤◌}
use lib.Dec.{T, eqb→eq}
use lib.ListN.{length, get_or}
use Rattle.units.proofs.Tests.{each}
use Rattle.record.specs.Records.{byte, word, right_good, closing_tests, closing_good}
use Rattle.record.proofs.Fields.{inside}

pub record ClosingRanges (r : List ℕ) : Type 0 where
  pub long : length r ≡ 32
  pub kind : byte r 0 ≡ 9
  pub left_background : word r 4 ≤ 1000
  pub right_background : word r 6 ≤ 1000

pub closing_ranges : (r : List ℕ) → closing_good r ≡ true → ClosingRanges r
unfolding closing_good closing_tests
closing_ranges r e =
    record {
      long = eqb→eq (length r) 32 (test 0);
      kind = eqb→eq (byte r 0) 9 (test 1);
      left_background = (inside 0 1000 (word r 4) (test 3)).1;
      right_background = (inside 0 1000 (word r 6) (test 4)).1;
    }
  where
    test : (k : ℕ) → T (get_or (closing_tests right_good r) k true)
    test = each (closing_tests right_good r) (rw e tt)
