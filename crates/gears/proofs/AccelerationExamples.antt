-- The driven examples of document 01 on accelerations and k, and their ties, computed from the definitions. Assumes nothing.
use mathlib.Core.Bool.{Bool}
use mathlib.Core.List.{List, [], ◌∷◌, map}
use Prim.Native.Nat.{ℕ}
use lib.Dec.{T, eqb}
use Rattle.units.specs.Rounding.{rounded}
use Rattle.units.specs.Tests.{all_of}
use Rattle.gears.specs.Acceleration.{acceleration_of}
use Rattle.gears.specs.Rules.{k_of}

data Example : Type 0 where
  -- start, BB', path and the acceleration
  run : ℕ → ℕ → ℕ → ℕ → Example
  -- R, a(i), a(j) and k
  weight : ℕ → ℕ → ℕ → ℕ → Example

holds : Example → Bool
holds (run A B path x) = eqb (acceleration_of A B path) x
holds (weight R i j k) = eqb (k_of R i j) k

examples : List Example
examples =
    -- length 450, AA' 44.0, BB' 56.0: 1.89; from PP' the path is shorter; no gain is no acceleration
    run 440 560 2450 189
    ∷ run 440 560 1450 319
    ∷ run 500 500 2450 0
    -- k: the worked sheet's, both ends, and a half that goes up
    ∷ weight 149 160 110 78
    ∷ weight 110 110 100 100
    ∷ weight 101 300 100 1
    ∷ []

every_holds : T (all_of (map holds examples))
unfolding holds examples acceleration_of k_of rounded
every_holds = tt
