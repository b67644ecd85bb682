-- The gears of the entries passed.
use Rattle.std.proofs.Common.{◌≡◌, take, map}
use Rattle.session.specs.declared.Entry.{Entry}
use Rattle.session.proofs.Table.gears.Given as goal

abbrev pub invariant-loop-entry : goal.invariant-loop-entry
invariant-loop-entry l = l.gears.items ≡ map (λ (e : Entry). e.gear) (take l.entry-index l.entry-items)
