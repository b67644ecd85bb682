-- `units::whole_decibels` meets its contract: rounding makes no number of 16 bits too large. Assumes nothing.
use native.Mathlib.Omega.{arith}
use Rattle.units.proofs.Rounding.{rounded_within}
use Rattle.units.proofs.whole_decibels.Goals as goal

pub overflow_cast-result : goal.overflow_cast-result
overflow_cast-result c = omega (arith, rounded_within 65535 c.round.ensures (omega arith) (omega arith))
