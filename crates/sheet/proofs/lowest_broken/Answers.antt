-- `sheet::lowest_broken` meets its contract: it is the first number that `find` tests true. Assumes nothing.
use Rattle.std.proofs.Common.{ℕ, arith, rules, tests, not, ap, ◌∙◌}
use Rattle.units.specs.Tests.{lowest, below}
use Rattle.sheet.specs.Sheet.{good_at, lowest_broken_by}
use Rattle.units.proofs.Below.{below_from_find}
use Rattle.sheet.proofs.lowest_broken.Goals as goal

pub returns : goal.returns
unfolding lowest_broken_by
returns c =
    let broken = λ (i : ℕ). not (good_at c.args.sheet.now i) in
    below_from_find broken c.args.count _ _ _ _ (omega arith) c.find.ensures.ran
    (λ x b q k. search rules)
    (λ x b q l k. search (rules, tests))
    ∙ ap (λ (n : ℕ). below n (lowest broken n 0)) c.requires.1
