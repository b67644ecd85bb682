-- The examples, computed from the definitions. Assumes nothing.
use mathlib.Core.Path.{◌≡◌, refl}
use mathlib.Core.List.{map}
use Rattle.lorry.specs.TestMass.{two_axles_mass, more_axles_mass, loading_of, two_axles_of, more_axles_of}
use Rattle.lorry.specs.Examples.{samples}

-- what the rules give is, sample by sample, what they should
pub every_sample : map (λ s. s.given) samples ≡ map (λ s. s.expected) samples
unfolding two_axles_of more_axles_of loading_of two_axles_mass more_axles_mass
every_sample = refl
