-- The weighed level fits in 16 bits, as each of the two does. Assumes nothing.
use native.Mathlib.Omega.{arith}
use Rattle.urban.proofs.Weights.{weighed_sum, weighed_most}
use Rattle.urban.proofs.weighed.Goals as goal

pub overflow_cast-result : goal.overflow_cast-result
overflow_cast-result c =
    let s = c.args in
    omega (arith, c.round.ensures, weighed_sum s.k s.i.0 s.j.0 c.requires, weighed_most s.k s.i.0 s.j.0 65535 c.requires (omega arith) (omega arith))
