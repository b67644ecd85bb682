-- The gears passed have a window or no run, and those of them that remain stand at the front of the array.
use Rattle.session.proofs.Tables.{Tabling}
use Rattle.session.proofs.Session.table.Given as goal

abbrev pub invariant-loop-gear : goal.invariant-loop-gear
invariant-loop-gear l = Tabling l.self l.entries l.count l.gear
