-- The verdicts of the examples, computed from the definitions. Assumes nothing.
use mathlib.Core.Path.{◌≡◌, refl}
use mathlib.Core.List.{map}
use lib.Ieee.{of_bits}
use Rattle.units.specs.Rounding.{rounded}
use Rattle.units.specs.Tests.{lowest}
use Rattle.level.specs.Reading.{in_range}
use Rattle.level.specs.Level.{tenths_of}
use Rattle.motorcycle.specs.Verdict.{first_outside, whole_of, far_apart, first_far_apart, reduced_of, quarters_of, verdict_of}
use Rattle.motorcycle.specs.Patterns.{levels_of}
use Rattle.motorcycle.specs.Examples.{given, samples}

-- what the rules give is, sample by sample, what they should
pub every_sample : map given samples ≡ map (λ s. s.verdict) samples
unfolding verdict_of levels_of first_outside first_far_apart quarters_of reduced_of far_apart whole_of tenths_of in_range rounded lowest of_bits
every_sample = refl
