-- `embed::ruthimpo_production_offer` follows the annex: everything is that of the check that `restore` gives. Assumes nothing.
use borrow.Author.Rules.{rules}
use Rattle.embed.proofs.CheckInNumbers.{offer_in_numbers}
use Rattle.embed.proofs.ruthimpo_production_offer.Goals as goal

pub returns-in_default-clause-annex : goal.returns-in_default-clause-annex
returns-in_default-clause-annex c =
    offer_in_numbers c.args.check.now c.args.l_urban (search rules) (search rules) (search rules)

pub returns-clause-annex : goal.returns-clause-annex
returns-clause-annex c = offer_in_numbers c.args.check.now c.args.l_urban (search rules) (search rules) (search rules)
