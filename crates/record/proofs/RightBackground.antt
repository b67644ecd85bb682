-- Laws of the right side's background in a record, and of the two bytes that hold it. Assumes nothing.
use mathlib.Core.Path.{◌≡◌, refl}
use mathlib.Core.Bool.{Bool, true, ◌&&◌}
use mathlib.Core.List.{List}
use Prim.Native.Nat.{ℕ, ◌+◌}
use lib.Dec.{eqb}
use lib.Ieee.Bits.{is_true}
use borrow.Author.Tests.{eqb-true}
use Rattle.units.specs.Bytes.{number}
use Rattle.units.specs.Tests.{all_of}
use Rattle.units.proofs.Tests.{each, both}
use Rattle.record.specs.Records.{byte, word, zeros, right_good, backgrounds_in, vehicle_tests, closing_tests}

-- two zero bytes are the number 0
zero_word : (r : List ℕ) (at : ℕ) → zeros r at 2 ≡ true → word r at ≡ 0
unfolding zeros number
zero_word r at e =
    let zero = both (eqb (byte r at) 0) (eqb (byte r (at + 1)) 0 && true) e in
    let next = both (eqb (byte r (at + 1)) 0) true zero.1 in
    simp (eqb-true (byte r at) 0 zero.0, eqb-true (byte r (at + 1)) 0 next.0)

-- as a background of the right side they are good, and both sides have the left's
pub zero_good : (r : List ℕ) (at : ℕ) → zeros r at 2 ≡ true → right_good r at ≡ true
zero_good r at e = rw (zero_word r at e) refl

pub no_right : (r : List ℕ) (left right : ℕ) → zeros r right 2 ≡ true → (backgrounds_in r left right).right ≡ (backgrounds_in r left right).left
unfolding backgrounds_in
no_right r left right e = rw (zero_word r right e) refl

-- what is asked of these bytes holds in a record that passes every test, whichever records need no written limit
pub vehicle_test : (unwritten : List ℕ → Bool) (asked : List ℕ → ℕ → Bool) (r : List ℕ) → all_of (vehicle_tests unwritten asked r) ≡ true → asked r 18 ≡ true
unfolding vehicle_tests
vehicle_test unwritten asked r e = is_true (asked r 18) (each (vehicle_tests unwritten asked r) (rw e tt) 12)

pub closing_test : (asked : List ℕ → ℕ → Bool) (r : List ℕ) → all_of (closing_tests asked r) ≡ true → asked r 6 ≡ true
unfolding closing_tests
closing_test asked r e = is_true (asked r 6) (each (closing_tests asked r) (rw e tt) 4)

-- two layouts that ask something else of them are one where the bytes meet both
module _ (asked other : List ℕ → ℕ → Bool) (r : List ℕ) where
  pub same_vehicle_tests : (unwritten : List ℕ → Bool) → asked r 18 ≡ true → other r 18 ≡ true → vehicle_tests unwritten asked r ≡ vehicle_tests unwritten other r
  unfolding vehicle_tests
  same_vehicle_tests unwritten p q = rw (p, q) refl

  pub same_closing_tests : asked r 6 ≡ true → other r 6 ≡ true → closing_tests asked r ≡ closing_tests other r
  unfolding closing_tests
  same_closing_tests p q = rw (p, q) refl
