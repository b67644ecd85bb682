-- Laws of the result record. Assumes nothing.
use mathlib.Core.Path.{◌≡◌, refl}
use mathlib.Core.List.{List, ◌++◌}
use Prim.Native.Nat.{ℕ, ◌+◌, ◌*◌}
use native.Mathlib.Nat.{div-add-mod}
use native.Mathlib.Omega.{arith}
use lib.ListN.{length}
use Rattle.units.specs.Bytes.{number}
use Rattle.urban.specs.declared.Outcome.{Outcome}
use Rattle.result.specs.Result.{low_byte, high_byte, result_bytes}

-- the two bytes of a number, low byte first, are the number
pub two_bytes : (n : ℕ) → low_byte n + 256 * (high_byte n + 256 * 0) ≡ n
two_bytes n = omega (arith, div-add-mod n 256)

-- the number at byte 10 is L_urban
pub at_ten : (o : Outcome) (after : List ℕ) → number (result_bytes o ++ after) 10 2 ≡ o.l_urban
unfolding result_bytes number
at_ten o after = two_bytes o.l_urban

pub result_long : (o : Outcome) → length (result_bytes o) ≡ 32
unfolding result_bytes
result_long o = refl
