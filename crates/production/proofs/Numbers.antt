-- A check and its two numbers. Assumes nothing.
use mathlib.Core.Path.{◌≡◌, refl, sym, ap}
use mathlib.Core.List.{List, []}
use Prim.Native.Nat.{ℕ, zero, suc}
use native.Mathlib.Omega.{arith}
use lib.ListN.{length}
use Rattle.std.specs.Prelude.{Option, Some, None}
use Rattle.production.specs.declared.Stage.{Stage}
use Rattle.production.specs.declared.Stage.TheVariants.{NoCar, FirstMet, FirstFailed, SecondMet, SecondFailed, BothMet, NotBothMet}
use Rattle.production.specs.declared.Check.{Check}
use Rattle.production.specs.Numbers.{stage_number, restored_of, check_numbers, ComesBack, KeepsItsNumbers}

with_stage : (limit : ℕ) (stage : Stage) → restored_of limit (stage_number stage) ≡ Some (record { limit = limit; stage = stage })
unfolding restored_of
with_stage limit NoCar = refl
with_stage limit FirstMet = refl
with_stage limit FirstFailed = refl
with_stage limit SecondMet = refl
with_stage limit SecondFailed = refl
with_stage limit BothMet = refl
with_stage limit NotBothMet = refl

pub comes_back : ComesBack
comes_back check = with_stage check.limit check.stage

-- the numbers of what was restored
numbers_in : Option Check → List ℕ
numbers_in (Some check) = check_numbers check
numbers_in None = []

pub keeps_its_numbers : KeepsItsNumbers
unfolding restored_of numbers_in
keeps_its_numbers limit zero check e = sym (ap numbers_in e)
keeps_its_numbers limit (suc zero) check e = sym (ap numbers_in e)
keeps_its_numbers limit (suc (suc zero)) check e = sym (ap numbers_in e)
keeps_its_numbers limit (suc (suc (suc zero))) check e = sym (ap numbers_in e)
keeps_its_numbers limit (suc (suc (suc (suc zero)))) check e = sym (ap numbers_in e)
keeps_its_numbers limit (suc (suc (suc (suc (suc zero))))) check e = sym (ap numbers_in e)
keeps_its_numbers limit (suc (suc (suc (suc (suc (suc zero)))))) check e = sym (ap numbers_in e)
keeps_its_numbers limit (suc (suc (suc (suc (suc (suc (suc n))))))) check e = absurd (omega (arith, ap (λ (numbers : List ℕ). length numbers) (ap numbers_in e)))
