-- `sheet::next_with` meets its contract: it is the first number that `find` tests true. Assumes nothing.
use Rattle.std.proofs.Common.{arith, rules, tests, ◌-◌}
use Rattle.std.proofs.lemmas.Iterator.{serves_from_Range}
use Rattle.record.specs.Records.{records}
use Rattle.record.proofs.Shown.{byte_of}
use Rattle.sheet.specs.Sheet.{has_byte}
use Rattle.units.proofs.Below.{below_from_find}
use Rattle.sheet.proofs.next_with.Goals as goal

pub find-requires-clause-callable : goal.find-requires-clause-callable
unfolding records
find-requires-clause-callable c = serves_from_Range (λ x q k. search (rules, tests)) (λ x low high. search rules)

pub returns : goal.returns
unfolding records
returns c =
    let a = c.args in
    below_from_find (has_byte a.sheet.now a.at a.value) (a.last - a.from) _ _ _ _ (omega arith) c.find.ensures.ran
    (λ x b q k. search rules)
    (λ x b q l k. grind (arith, tests, byte_of))
