-- `window::condition_level` meets its contract: a rounded quarter of a sum of four levels fits 16 bits. Assumes nothing.
use mathlib.Core.Path.{ap, ap₂, ◌∙◌}
use Prim.Native.Nat.{ℕ, max}
use native.Mathlib.Omega.{arith}
use lib.Dec.{lit<}
use Rattle.units.specs.Rounding.{rounded}
use Rattle.units.proofs.Rounding.{rounded_rising}
use Rattle.window.specs.Windows.{larger_sum, condition_level}
use Rattle.window.proofs.condition_level.Goals as goal

pub overflow_cast-result : goal.overflow_cast-result
unfolding rounded
overflow_cast-result c = omega (arith, c.round.ensures, rounded_rising c.max.result 4 262140 4 (lit< tt) (lit< tt) (omega (arith, c.max.ensures, c.sum-left.ensures.1, c.sum-right.ensures.1)))

pub returns : goal.returns
unfolding condition_level larger_sum
returns c = c.round.ensures ∙ ap (λ (n : ℕ). rounded n 4) (c.max.ensures ∙ ap₂ max c.sum-left.ensures.0 c.sum-right.ensures.0)
