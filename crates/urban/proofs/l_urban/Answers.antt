-- L_urban is at most W, rounded, and so fits in 16 bits. Assumes nothing.
use native.Mathlib.Omega.{arith}
use Rattle.units.proofs.Rounding.{rounded_within}
use Rattle.urban.proofs.l_urban.Goals as goal

pub overflow_cast-result : goal.overflow_cast-result
overflow_cast-result c = omega (arith, rounded_within 65535 c.round.ensures (omega arith) (omega arith))
