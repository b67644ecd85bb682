-- `production::Check::offer` follows the annex: the stage and the reply are those that its callees give. Assumes nothing.
use borrow.Author.Rules.{rules}
use Rattle.production.specs.Stages.{offer_of}
use Rattle.production.proofs.Sequences.{offer_by_annex}
use Rattle.production.proofs.Check.offer.Goals as goal

pub returns-clause-annex : goal.returns-clause-annex
unfolding offer_of
returns-clause-annex c = offer_by_annex c.args.self c.args.l_urban (search rules)
