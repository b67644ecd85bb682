-- `units::round` meets its contract, by the laws of the remainder. Where it goes up the remainder is not 0, so the quotient is below n and one more fits. Assumes nothing.
use mathlib.Core.Path.{sym}
use Rattle.units.proofs.Rounding.{rounded_down, rounded_up}
use Rattle.units.proofs.round.Goals as goal

pub returns-then-remainder-d : goal.returns-then-remainder-d
returns-then-remainder-d c = sym (rounded_down c.args.n c.args.d c.requires c.if-remainder-d.true)

pub returns-else-remainder-d : goal.returns-else-remainder-d
returns-else-remainder-d c = sym (rounded_up c.args.n c.args.d c.requires c.if-remainder-d.false)
