-- The table of corrections falls, so a higher level never has a lower corrected level. Assumes nothing.
use mathlib.Core.Path.{◌≡◌, refl}
use mathlib.Core.Bool.{Bool, true, false}
use Prim.Native.Nat.{ℕ, suc, ◌+◌, ◌-◌, ◌*◌, ◌≤◌, ◌<◌}
use native.Mathlib.Nat.{le_refl, le_trans, le_of_lt}
use native.Mathlib.Decide.{le_ind}
use native.Mathlib.Omega.{arith}
use lib.Dec.{ltb, ltb→lt}
use lib.ListN.{get_or, take, get_or-eq_default}
use lib.Seq.{get_or-take}
use borrow.Author.Tests.{ltb-true, ltb-false}
use Rattle.units.specs.Rounding.{rounded}
use Rattle.units.proofs.Rounding.{rounded_unique, rounded_rising}
use Rattle.units.proofs.Table.{at}
use Rattle.level.specs.Level.{corrections, correction_of}

-- an entry stands above the next one
above : ℕ → ℕ → Bool
above k x = ltb (get_or corrections (suc k) 0) x

-- The falling order: each entry but the last stands above the next. One test over the table.
pub falling : (k : ℕ) → k < 5 → get_or corrections (suc k) 0 < get_or corrections k 0
unfolding corrections above
falling k h = rw (get_or-take 5 corrections k 0 h) at (ltb→lt (get_or corrections (suc k) 0) (get_or (take 5 corrections) k 0) (at above (take 5 corrections) tt k h))

-- past the last entry there is 0
past : (k : ℕ) → 5 ≤ k → get_or corrections (suc k) 0 ≡ 0
unfolding corrections
past k h = get_or-eq_default corrections 0 {n = suc k} (omega arith)

next : (k : ℕ) → get_or corrections (suc k) 0 ≤ get_or corrections k 0
next k = by (ltb k 5) refl
  where
    by : (b : Bool) → ltb k 5 ≡ b → get_or corrections (suc k) 0 ≤ get_or corrections k 0
    by true e = le_of_lt (falling k (ltb-true k 5 e))
    by false e = omega (arith, past k (ltb-false k 5 e))

pub never_rising : (i j : ℕ) → i ≤ j → get_or corrections j 0 ≤ get_or corrections i 0
never_rising i j h = le_ind (λ (m : ℕ). get_or corrections m 0 ≤ get_or corrections i 0) (le_refl _) (λ m l ih. le_trans (next m) ih) j h

-- the entry for n dB, n from 10 on, stands for each difference of at least n - 0.5 and below n + 0.5
pub nearest_entry : (n d : ℕ) → 10 * n ≤ d + 5 → d < 10 * n + 5 → correction_of d ≡ get_or corrections (n - 10) 0
unfolding correction_of
nearest_entry n d lo hi = rw (rounded_unique d 10 n (omega arith) (omega arith) (omega arith))

-- a larger difference never has a larger correction, and none is above 0.5
pub correction_falls : (d e : ℕ) → d ≤ e → correction_of e ≤ correction_of d
unfolding correction_of
correction_falls d e h = never_rising (rounded d 10 - 10) (rounded e 10 - 10) (omega (arith, rounded_rising d 10 e 10 (omega arith) (omega arith) (omega arith)))

pub correction_small : (d : ℕ) → correction_of d ≤ 5
unfolding correction_of corrections
correction_small d = never_rising 0 (rounded d 10 - 10) (omega arith)

at_14_5 : correction_of 145 ≡ 0
unfolding correction_of corrections rounded
at_14_5 = refl

-- from 14.5 on nothing is taken off
pub nothing_off : (d : ℕ) → 145 ≤ d → correction_of d ≡ 0
nothing_off d h = omega (arith, correction_falls 145 d h, at_14_5)

-- over one background, a higher level never has a lower corrected level
pub corrected_rising : (background a b : ℕ) → a ≤ b → a - correction_of (a - background) ≤ b - correction_of (b - background)
corrected_rising background a b h = omega (arith, correction_falls (a - background) (b - background) (omega arith))
