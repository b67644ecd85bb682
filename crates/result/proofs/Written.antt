-- The fields that are written into a result record are read back from it, whatever stands after it. Assumes nothing.
use mathlib.Core.Path.{◌≡◌, refl}
use mathlib.Core.Bool.{Bool, true, false}
use mathlib.Core.List.{List, ◌++◌}
use Prim.Native.Nat.{ℕ}
use lib.Dec.{eqb}
use Rattle.units.specs.Bytes.{number}
use Rattle.urban.specs.declared.Outcome.{Outcome}
use Rattle.urban.specs.Urban.{flag}
use Rattle.result.specs.Result.{outcome_in, result_bytes}
use Rattle.result.proofs.Results.{two_bytes}

flag_back : (b : Bool) → eqb (flag b) 1 ≡ b
flag_back true = refl
flag_back false = refl

pub read_back : (o : Outcome) (after : List ℕ) → outcome_in (result_bytes o ++ after) ≡ o
unfolding outcome_in result_bytes number
read_back o after = simp (flag_back, two_bytes)
