-- The value rises. The measure is what is left to the end.
use Rattle.std.proofs.Common.{◌-◌}
use Rattle.every_level.proofs.walk_to.Given as goal

abbrev pub decreases-loop-walk : goal.decreases-loop-walk
decreases-loop-walk l = l.end - l.walk.value
