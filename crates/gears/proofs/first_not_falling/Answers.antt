-- The neighbours passed fall, and those answered do not. Assumes nothing.
use Rattle.std.proofs.Common.{arith}
use Rattle.std.proofs.lemmas.Grind.{common_steps}
use Rattle.gears.specs.Rules.{a, gear_at, empty_gear, first_not_falling}
use Rattle.units.proofs.Below.{first_below_end}
use Rattle.gears.proofs.first_not_falling.Goals as goal

pub returns : goal.returns
unfolding first_not_falling a gear_at empty_gear
returns c = first_below_end _ _ c.position.result (λ e k h. grind (arith, common_steps)) (λ i e. (grind (arith, common_steps), grind (arith, common_steps), λ k h. grind (arith, common_steps)))
