-- What was rounded is kp, which is at most 1.00. Assumes nothing.
use Rattle.std.proofs.Common.{rules, ◌≤◌}
use native.Mathlib.Omega.{arith}
use Rattle.urban.proofs.PartPower.{kp_some, kp_most}
use Rattle.urban.proofs.part_power.Goals as goal

pub overflow_cast-result : goal.overflow_cast-result
overflow_cast-result c =
    let s = c.args in
    let above : s.a_urban.0 ≤ s.a.0 = search rules in
    omega (arith, c.round.ensures, kp_some s.a_urban.0 s.a.0 above, kp_most s.a_urban.0 s.a.0)
