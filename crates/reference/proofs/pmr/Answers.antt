-- `reference::pmr` meets its contract: it is what `round` returns. Assumes nothing.
use Rattle.reference.specs.Reference.{pmr_of}
use Rattle.reference.proofs.pmr.Goals as goal

pub returns : goal.returns
unfolding pmr_of
returns c = c.round.ensures
