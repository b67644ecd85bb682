-- The nearest of the gears passed is kept.
use Rattle.gears.proofs.Nearest.{Seen}
use Rattle.gears.proofs.nearest_place.Given as goal

abbrev pub invariant-loop-place : goal.invariant-loop-place
invariant-loop-place l = Seen l.fn.reference.a_ref.0 l.gears l.place l.best
