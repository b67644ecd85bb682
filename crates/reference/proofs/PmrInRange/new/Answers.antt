-- A number of tenths below 50 or above 6,000 has none, and every other has.
use Rattle.std.proofs.Common.{rules}
use Rattle.reference.specs.Reference.{pmr_in_range}
use Rattle.reference.proofs.PmrInRange.new.Goals as goal

pub returns-then-tenths : goal.returns-then-tenths
unfolding pmr_in_range
returns-then-tenths c = search rules

pub returns : goal.returns
unfolding pmr_in_range
returns c = search rules
