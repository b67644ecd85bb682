-- The driven examples of document 01 on PMR and the reference accelerations, computed from the definitions. Assumes nothing.
use mathlib.Core.Bool.{Bool, ◌&&◌}
use Prim.Native.Nat.{ℕ}
use lib.Dec.{T, eqb}
use Rattle.units.specs.Rounding.{rounded}
use Rattle.units.specs.Tests.{lowest}
use Rattle.reference.specs.Reference.{pmr_of, between, a_urban, a_ref}

are : ℕ → ℕ → ℕ → Bool
are q u r = eqb (a_urban q) u && eqb (a_ref q) r

-- PMR 25.0: 0.79 and 0.81. 24.9: 0.79 and 0.79. 100.0: 1.17 and 1.77. 600.0: 1.66 and 3.01. 66.7: 1.06 and 1.49. 5.0: 0.35.
every_holds : T (are 250 79 81 && are 249 79 79 && are 1000 117 177 && are 6000 166 301 && are 667 106 149 && are 50 35 35)
unfolding are a_urban a_ref between lowest
every_holds = tt

-- 100.0 kW and 1,500 kg: PMR 66.7. 0.1 kW and 2,000 kg: 0.05, which goes up to 0.1.
powers : T (eqb (pmr_of 1000 1500) 667 && eqb (pmr_of 1 2000) 1)
unfolding pmr_of rounded
powers = tt
