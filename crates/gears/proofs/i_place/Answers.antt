-- The places passed do not reach R, and the one answered does. Assumes nothing.
use Rattle.std.proofs.Common.{arith}
use Rattle.std.proofs.lemmas.Grind.{common_steps}
use Rattle.gears.specs.Rules.{a, gear_at, empty_gear}
use Rattle.gears.proofs.Places.{last_reaching}
use Rattle.gears.proofs.i_place.Goals as goal

pub returns : goal.returns
unfolding a gear_at empty_gear
returns c = last_reaching _ _ c.rposition.result (λ e k h. grind (arith, common_steps)) (λ i e. (grind (arith, common_steps), grind (arith, common_steps), λ k h l. grind (arith, common_steps)))
