-- The gear rules (document 01, "Gears"), over any list of the gears that remain, in rising number. A gear is named by its place in the list, and
-- the next place is the next one remaining. Accelerations are in hundredths of m/s²; R is a_ref and u is a_urban.
use Rattle.std.specs.Prelude.{Bool, cond, ◌&&◌, ◌||◌, Option, Some, None, List, ℕ, ◌+◌, ◌-◌, ◌*◌, ◌<◌, leb, ltb, eqb, length, get_or}
use Rattle.units.specs.Rounding.{rounded}
use Rattle.units.specs.Tests.{lowest, past_last}
use Rattle.reference.specs.declared.Reference.{Reference}
use Rattle.gears.specs.declared.Gear.{Gear}
use Rattle.gears.specs.declared.Choice.{Choice}
use Rattle.gears.specs.declared.Choice.TheVariants.{One, Pair}

-- what stands past the end of a list of gears
unfoldable pub empty_gear : Gear
empty_gear = record { number = 0; acceleration = record { 0 = 0 } }

-- the gear at a place, and its acceleration
unfoldable pub gear_at : List Gear → ℕ → Gear
gear_at gears p = get_or gears p empty_gear

unfoldable pub a : List Gear → ℕ → ℕ
a gears p = (gear_at gears p).acceleration.0

-- Refusal 8: the first place whose acceleration is not above the next one's. (The number of neighbours, if all fall.)
unfoldable pub first_not_falling : List Gear → ℕ
first_not_falling gears = lowest (λ p. leb (a gears p) (a gears (p + 1))) (length gears - 1) 0

-- 3.00 m/s²
abbrev pub ceiling : ℕ
ceiling = 300

-- ---- rule 2

-- |x − y|
unfoldable pub gap : ℕ → ℕ → ℕ
gap x y = (x - y) + (y - x)

-- the rule is for a gear with 20 × |a − R| ≤ R and a ≤ 3.00
unfoldable pub near : ℕ → ℕ → Bool
near R x = leb (20 * gap x R) R && leb x ceiling

-- such a gear, at place q, lies nearer to R than the gear at place p
unfoldable pub nearer : ℕ → List Gear → ℕ → ℕ → Bool
nearer R gears p q = near R (a gears q) && ltb (gap (a gears q) R) (gap (a gears p) R)

-- the lowest place with such a gear that no other is nearer than: the nearest, the lower number on a tie
unfoldable pub nearest : ℕ → List Gear → ℕ
nearest R gears = lowest (λ p. near R (a gears p) && eqb (lowest (nearer R gears p) (length gears) 0) (length gears)) (length gears) 0

-- ---- rules 3 to 5

-- i is the last gear with a ≥ R, and this is the place of j, next to it
unfoldable pub j_of : ℕ → List Gear → ℕ
j_of R gears = past_last (λ p. leb R (a gears p)) (length gears)

-- i itself, if a gear has a ≥ R
unfoldable pub i_of : ℕ → List Gear → Option ℕ
i_of R gears = cond (eqb (j_of R gears) 0) None (Some (j_of R gears - 1))

-- rule 4: the first gear with a below 3.00
unfoldable pub first_below : List Gear → ℕ
first_below gears = lowest (λ p. ltb (a gears p) ceiling) (length gears) 0

-- one gear under a rule, if there is one at the place
unfoldable pub one_at : ℕ → List Gear → ℕ → Option Choice
one_at rule gears p = cond (ltb p (length gears)) (Some (One rule p)) None

-- With j as above. Rule 3: the pair, if a(i) ≤ 3.00. Rule 4: else, if a(j) ≥ u, the first gear with a below 3.00, alone. Rule 5: else the
-- pair. None of them applies where i or j does not exist.
unfoldable pub across_of : ℕ → List Gear → ℕ → Option Choice
across_of u gears j =
    cond (eqb j 0 || leb (length gears) j) None
    (cond (leb (a gears (j - 1)) ceiling) (Some (Pair 3 (j - 1)))
    (cond (leb u (a gears j)) (one_at 4 gears (first_below gears)) (Some (Pair 5 (j - 1)))))

-- ---- the rules in order

-- No gear remains: none applies. Rule 1: one gear remains, it alone. Rule 2: else the nearest, alone. Else rules 3 to 5.
unfoldable pub choice_of : Reference → List Gear → Option Choice
choice_of r gears =
    let R = r.a_ref.0 in
    let u = r.a_urban.0 in
    cond (eqb (length gears) 0) None
    (cond (eqb (length gears) 1) (Some (One 1 0))
    (cond (ltb (nearest R gears) (length gears)) (Some (One 2 (nearest R gears))) (across_of u gears (j_of R gears))))

-- the weight of gear i in a pair: k = (R − a(j)) / (a(i) − a(j)), rounded to hundredths
unfoldable pub k_of : ℕ → ℕ → ℕ → ℕ
k_of R ai aj = rounded (100 * (R - aj)) (ai - aj)

-- the places of a choice are among the first `count`
abbrev pub Inside : ℕ → Option Choice → Type 0
Inside count (Some (One r p)) = p < count
Inside count (Some (Pair r i)) = i + 1 < count
Inside count None = Unit {0}
