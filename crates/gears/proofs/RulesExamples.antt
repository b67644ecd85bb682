-- The driven examples of document 01 on gears, and their ties, computed from the definitions. Assumes nothing.
use mathlib.Core.Bool.{Bool, true, false, ◌&&◌}
use mathlib.Core.List.{List, [], ◌∷◌, map}
use Prim.Native.Nat.{ℕ}
use Rattle.std.specs.Prelude.{Option, Some, None}
use lib.Dec.{T, eqb}
use Rattle.units.specs.Tests.{lowest, all_of, past_last}
use Rattle.gears.specs.declared.Gear.{Gear}
use Rattle.gears.specs.declared.Choice.{Choice}
use Rattle.gears.specs.declared.Choice.TheVariants.{One, Pair}
use Rattle.gears.specs.Rules.{empty_gear, gear_at, a, first_not_falling, j_of, first_below, one_at, across_of, choice_of, gap, near, nearer, nearest}

same : Option Choice → Option Choice → Bool
same (Some (One r p)) (Some (One s q)) = eqb r s && eqb p q
same (Some (Pair r p)) (Some (Pair s q)) = eqb r s && eqb p q
same None None = true
same _ _ = false

gears : List ℕ → List Gear
gears = map (λ x. record { number = 0; acceleration = record { 0 = x } })

data Example : Type 0 where
  -- R, a_urban, the accelerations of the remaining gears, what the rules decide on
  chosen : ℕ → ℕ → List ℕ → Option Choice → Example
  -- the first place that does not fall
  falling : List ℕ → ℕ → Example

holds : Example → Bool
holds (chosen R u xs c) = same (choice_of (record { pmr = 0; a_urban = record { 0 = u }; a_ref = record { 0 = R } }) (gears xs)) c
holds (falling xs p) = eqb (first_not_falling (gears xs)) p

examples : List Example
examples =
    -- R 1.49, gears 1.56 and 1.42: the first, alone
    chosen 149 106 (156 ∷ 142 ∷ []) (Some (One 2 0))
    -- equal distances on both sides of R: the lower number
    ∷ chosen 150 100 (155 ∷ 145 ∷ []) (Some (One 2 0))
    -- the second is nearer
    ∷ chosen 150 100 (156 ∷ 145 ∷ []) (Some (One 2 1))
    -- 20 × |a − R| = R is near, one more is not
    ∷ chosen 100 80 (105 ∷ 50 ∷ []) (Some (One 2 0))
    ∷ chosen 100 80 (106 ∷ 50 ∷ []) (Some (Pair 3 0))
    -- 3.00 can be chosen by rule 2, 3.01 cannot
    ∷ chosen 301 166 (310 ∷ 300 ∷ 200 ∷ []) (Some (One 2 1))
    ∷ chosen 301 166 (301 ∷ 200 ∷ []) (Some (One 4 1))
    -- no gear, one gear whatever its acceleration
    ∷ chosen 149 106 [] None
    ∷ chosen 149 106 (400 ∷ []) (Some (One 1 0))
    -- all at or above R, all below R: no rule
    ∷ chosen 149 106 (260 ∷ 200 ∷ []) None
    ∷ chosen 149 106 (130 ∷ 100 ∷ []) None
    -- a(i) exactly 3.00 is rule 3; above it, rule 4 from a(j) = a_urban on, and rule 5 below
    ∷ chosen 149 106 (300 ∷ 120 ∷ []) (Some (Pair 3 0))
    ∷ chosen 149 106 (301 ∷ 120 ∷ []) (Some (One 4 1))
    ∷ chosen 149 106 (301 ∷ 106 ∷ 90 ∷ []) (Some (One 4 1))
    ∷ chosen 149 106 (301 ∷ 105 ∷ 90 ∷ []) (Some (Pair 5 0))
    -- i is the last at or above R
    ∷ chosen 149 106 (250 ∷ 200 ∷ 120 ∷ 90 ∷ []) (Some (Pair 3 1))
    -- equal neighbours do not fall
    ∷ falling (200 ∷ 150 ∷ 150 ∷ 100 ∷ []) 1
    ∷ falling (200 ∷ 150 ∷ 100 ∷ []) 2
    ∷ []

every_holds : T (all_of (map holds examples))
unfolding same gears holds examples lowest empty_gear gear_at a first_not_falling gap near nearer nearest past_last j_of first_below one_at across_of choice_of
every_holds = tt
