-- `embed::ruthimpo_production_status` follows the annex: everything is that of the check that `restore` gives. Assumes nothing.
use borrow.Author.Rules.{rules}
use Rattle.embed.proofs.CheckInNumbers.{status_in_numbers}
use Rattle.embed.proofs.ruthimpo_production_status.Goals as goal

pub returns-in_default-clause-annex : goal.returns-in_default-clause-annex
returns-in_default-clause-annex c =
    status_in_numbers c.args.check.now c.args.status.now c.args.wanted.now (search rules) (search rules) (search rules)

pub returns-clause-annex : goal.returns-clause-annex
returns-clause-annex c = status_in_numbers c.args.check.now c.args.status.now c.args.wanted.now (search rules) (search rules) (search rules)
