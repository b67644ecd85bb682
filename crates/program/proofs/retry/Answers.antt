-- An interrupted call is followed by another. Assumes nothing.
use Rattle.std.proofs.Common.{rules, of_calls, sym, ◌∙◌}
use Rattle.program.specs.Program.{once, again}
use Rattle.program.proofs.retry.Goals as goal

pub loop-init : goal.loop-init
loop-init g c = (search (rules, of_calls), once c.call-got.ensures)

pub loop-preserved : goal.loop-preserved
loop-preserved g c = (search (rules, of_calls), again c.loop.invariant.1 (sym (sym c.if-not-interrupted.false ∙ c.interrupted.ensures)) c.call-got-in-loop.ensures)
