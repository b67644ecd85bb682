-- The places passed are not below the ceiling, and the one answered is. Assumes nothing.
use Rattle.std.proofs.Common.{rules}
use Rattle.gears.specs.Rules.{a, gear_at, empty_gear, first_below}
use Rattle.units.proofs.Below.{first_below_end}
use Rattle.gears.proofs.below_ceiling.Goals as goal

pub returns : goal.returns
unfolding first_below a gear_at empty_gear
returns c = first_below_end _ _ c.position.result (λ e k h. search rules) (λ i e. (search rules, search rules, λ k h. search rules))
