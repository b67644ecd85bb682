-- Laws of kp: where it is 0, where it is rounded, and its range. Assumes nothing.
use mathlib.Core.Path.{◌≡◌, refl}
use Prim.Native.Nat.{ℕ, zero, suc, ◌-◌, ◌*◌, ◌≤◌}
use native.Mathlib.Nat.{zero-div, mul-le-mul}
use native.Mathlib.Omega.{arith}
use lib.Dec.{ltb}
use borrow.Author.Tests.{le-ltb}
use Rattle.units.specs.Rounding.{rounded}
use Rattle.units.proofs.Rounding.{rounded_most}
use Rattle.units.proofs.Tests.{by_test}
use Rattle.urban.specs.Urban.{part_power}

-- nothing rounds to nothing, whatever it is divided by
nothing : (n a : ℕ) → n ≡ 0 → rounded (100 * n) a ≡ 0
unfolding rounded
nothing n zero e = rw (e, zero-div)
nothing n (suc a) e = let none = rounded_most (100 * n) (suc a) 0 (omega arith) (omega arith) in omega arith

pub kp_none : (u a : ℕ) → a ≤ u → part_power u a ≡ 0
unfolding part_power
kp_none u a h = by_test (λ x. x ≡ 0) (ltb a u) _ _ (λ e. refl) (λ e. nothing (a - u) a (omega arith))

pub kp_some : (u a : ℕ) → u ≤ a → part_power u a ≡ rounded (100 * (a - u)) a
unfolding part_power
kp_some u a h = rw (le-ltb a u h)

pub kp_most : (u a : ℕ) → part_power u a ≤ 100
unfolding part_power
kp_most u a = by_test (λ x. x ≤ 100) (ltb a u) _ _ (λ e. omega arith) (λ e. most a)
  where
    most : (a : ℕ) → rounded (100 * (a - u)) a ≤ 100
    most zero = omega (arith, nothing (0 - u) 0 (omega arith))
    most (suc a) = rounded_most (100 * (suc a - u)) (suc a) 100 (omega arith) (omega arith)

-- what kp takes off is at most the whole
pub off_most : (u a w c : ℕ) → part_power u a * (w - c) ≤ 100 * w
off_most u a w c = mul-le-mul (kp_most u a) (omega arith)
