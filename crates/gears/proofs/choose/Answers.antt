-- Rule by rule. Assumes nothing.
use Rattle.std.proofs.Common.{sym, ap, ◌∙◌, Some, arith}
use Rattle.gears.specs.declared.Choice.TheVariants.{One}
use Rattle.units.proofs.Below.{below_some, below_none}
use Rattle.gears.proofs.Choices.{no_gear, rule_1, rule_2, rules_3_to_5}
use Rattle.gears.proofs.choose.Goals as goal

pub returns-in-0 : goal.returns-in-0
returns-in-0 c = sym (no_gear _ _ c.in-0.is)

pub returns-in-1 : goal.returns-in-1
returns-in-1 c = sym (rule_1 _ _ c.in-1.is)

pub returns-in-Some : goal.returns-in-Some
returns-in-Some c =
    let is = below_some _ _ _ (sym c.nearest_place.ensures ∙ c.in-Some.is) in
    ap (λ p. Some (One 2 p)) (sym is.0) ∙ sym (rule_2 _ _ (omega arith) (omega arith))

pub returns-in-None : goal.returns-in-None
returns-in-None c =
    let past = below_none _ _ (sym c.nearest_place.ensures ∙ c.in-None.is) in
    c.across.ensures ∙ sym (rules_3_to_5 _ _ (omega arith) past)
