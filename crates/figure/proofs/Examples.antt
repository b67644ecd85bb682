-- Results and figures of chosen gears: document 01's examples and worked sheet, each case of the rules, and its ties. Their numbers are
-- written out; one test computes that the definitions give each. Assumes nothing.
use mathlib.Core.Bool.{Bool, true, false, ◌&&◌}
use mathlib.Core.List.{List, [], ◌∷◌, map}
use Prim.Native.Nat.{ℕ, ◌-◌, ◌*◌, ◌/◌}
use lib.Dec.{T, eqb}
use Rattle.units.specs.Rounding.{rounded}
use Rattle.units.specs.Tests.{all_of}
use Rattle.window.specs.declared.ValidRun.{ValidRun}
use Rattle.window.specs.declared.Four.{Four}
use Rattle.window.specs.Windows.{larger_sum, condition_level}
use Rattle.reference.specs.declared.Reference.{Reference}
use Rattle.gears.specs.Rules.{k_of}
use Rattle.urban.specs.declared.ChosenGear.{ChosenGear}
use Rattle.urban.specs.declared.Chosen.{Chosen}
use Rattle.urban.specs.declared.Chosen.TheVariants.{One, Pair}
use Rattle.urban.specs.declared.Outcome.{Outcome}
use Rattle.urban.specs.Urban.{weighed_level, basis_of, part_power, l_urban_of, outcome_of, flag}
use Rattle.figure.specs.Fractions.{Frac, ◌over◌, ◌⊕◌, ◌⊖◌, ◌⊗◌, below, larger, apart}
use Rattle.figure.specs.Figure.{exact_mean, exact_k, exact_weighed, exact_level, exact_w, exact_c, a_prime, exact_kp, figure, dk, dp, reported, bound}

reference : ℕ → ℕ → ℕ → Reference
reference q a_urban a_ref = record { pmr = q; a_urban = record { 0 = a_urban }; a_ref = record { 0 = a_ref } }

-- four runs whose left levels have this sum, and whose right levels are 0
window_with : ℕ → Four
window_with sum = record { a = run (sum - 3 * (sum / 4)); b = run (sum / 4); c = run (sum / 4); d = run (sum / 4) }
  where
    run : ℕ → ValidRun
    run level = record { left = record { 0 = level }; right = record { 0 = 0 }; start = 0; end = 0; engine = 0; number = 0 }

-- number, acceleration, and the sums of four levels at acceleration and at constant speed
gear : ℕ → ℕ → ℕ → ℕ → ChosenGear
gear number a w c =
    record {
      gear = record { number = number; acceleration = record { 0 = a } };
      acceleration_window = window_with w;
      constant_window = window_with c;
    }

fields : Outcome → List ℕ
fields o =
    o.rule
    ∷ o.i
    ∷ o.j
    ∷ o.k
    ∷ o.kp
    ∷ flag o.pass
    ∷ o.w.0
    ∷ o.c.0
    ∷ o.l_urban
    ∷ o.a_urban.0
    ∷ o.a_ref.0
    ∷ o.pmr
    ∷ o.a.0
    ∷ []

same : List ℕ → List ℕ → Bool
same [] [] = true
same (x ∷ xs) (y ∷ ys) = eqb x y && same xs ys
same [] (y ∷ ys) = false
same (x ∷ xs) [] = false

equal : Frac → Frac → Bool
equal f g = eqb (f.num * g.den) (g.num * f.den)

-- the chosen gears and a limit; the fields of the result, in its order; the figure
data Example : Type 0 where
  example : Reference → Chosen → ℕ → List ℕ → Frac → Example

holds : Example → Bool
holds (example r g limit result exact) = same (fields (outcome_of r limit (basis_of r g))) result && equal (figure r g) exact

-- PMR 66.7, and PMR 24.9
car : Reference
car = reference 667 106 149

slow : Reference
slow = reference 249 79 79

-- the pair at which L_urban and the figure are as far apart as demand 3 allows: every rounding goes up by all it can
furthest : Chosen
furthest = Pair 3 (gear 3 230 2822 2900) (gear 4 30 2814 2900)

examples : List Example
examples =
    -- the worked sheet
    example car (Pair 3 (gear 3 160 2896 2640) (gear 4 110 2804 2608)) 72 (3 ∷ 3 ∷ 4 ∷ 78 ∷ 29 ∷ 1 ∷ 719 ∷ 658 ∷ 70 ∷ 106 ∷ 149 ∷ 667 ∷ 149 ∷ []) (2612799 over 37250)
    -- one gear, a 1.00 below a_urban 1.06: kp 0; with W 65.0 and C 66.0: kp 1.00, L_urban 66
    ∷ example car (One 1 (gear 3 100 2800 2600)) 72 (1 ∷ 3 ∷ 0 ∷ 100 ∷ 0 ∷ 1 ∷ 700 ∷ 650 ∷ 70 ∷ 106 ∷ 149 ∷ 667 ∷ 100 ∷ []) (70 over 1)
    ∷ example car (One 1 (gear 3 100 2600 2640)) 72 (1 ∷ 3 ∷ 0 ∷ 100 ∷ 100 ∷ 1 ∷ 650 ∷ 660 ∷ 66 ∷ 106 ∷ 149 ∷ 667 ∷ 100 ∷ []) (66 over 1)
    -- a' 4.00: kp 0.735 goes up to 0.74; 1 less the rounded quotient would be 0.73
    ∷ example car (One 4 (gear 2 400 2880 2600)) 66 (4 ∷ 2 ∷ 0 ∷ 100 ∷ 74 ∷ 0 ∷ 720 ∷ 650 ∷ 67 ∷ 106 ∷ 149 ∷ 667 ∷ 400 ∷ []) (13371 over 200)
    -- a' 0, and a' equal to a_urban: kp 0
    ∷ example car (One 2 (gear 3 0 2800 2600)) 72 (2 ∷ 3 ∷ 0 ∷ 100 ∷ 0 ∷ 1 ∷ 700 ∷ 650 ∷ 70 ∷ 106 ∷ 149 ∷ 667 ∷ 0 ∷ []) (70 over 1)
    ∷ example car (One 2 (gear 3 106 2820 2600)) 72 (2 ∷ 3 ∷ 0 ∷ 100 ∷ 0 ∷ 1 ∷ 705 ∷ 650 ∷ 71 ∷ 106 ∷ 149 ∷ 667 ∷ 106 ∷ []) (141 over 2)
    -- 69.46 is 69; rounded to 69.5 first, it would be 70
    ∷ example car (One 2 (gear 3 149 2848 2608)) 72 (2 ∷ 3 ∷ 0 ∷ 100 ∷ 29 ∷ 1 ∷ 712 ∷ 652 ∷ 69 ∷ 106 ∷ 149 ∷ 667 ∷ 149 ∷ []) (51754 over 745)
    -- below PMR 25.0: W, also where W is below C; 74.5 goes up to 75, above the limit 74 and not above 75
    ∷ example slow (One 1 (gear 3 85 2880 2900)) 72 (1 ∷ 3 ∷ 0 ∷ 100 ∷ 0 ∷ 1 ∷ 720 ∷ 725 ∷ 72 ∷ 79 ∷ 79 ∷ 249 ∷ 85 ∷ []) (72 over 1)
    ∷ example slow (One 1 (gear 3 85 2980 2900)) 74 (1 ∷ 3 ∷ 0 ∷ 100 ∷ 0 ∷ 0 ∷ 745 ∷ 725 ∷ 75 ∷ 79 ∷ 79 ∷ 249 ∷ 85 ∷ []) (149 over 2)
    ∷ example slow (One 1 (gear 3 85 2980 2900)) 75 (1 ∷ 3 ∷ 0 ∷ 100 ∷ 0 ∷ 1 ∷ 745 ∷ 725 ∷ 75 ∷ 79 ∷ 79 ∷ 249 ∷ 85 ∷ []) (149 over 2)
    -- L(i) below L(j), 70.0 and 70.1 at k 0.50: 70.05 goes up to 70.1
    ∷ example car (Pair 3 (gear 3 150 2800 2600) (gear 4 148 2804 2604)) 72 (3 ∷ 3 ∷ 4 ∷ 50 ∷ 29 ∷ 1 ∷ 701 ∷ 651 ∷ 69 ∷ 106 ∷ 149 ∷ 667 ∷ 149 ∷ []) (204449 over 2980)
    -- k 0.00 and k 1.00: still a pair
    ∷ example car (Pair 5 (gear 3 600 2800 2600) (gear 4 148 2840 2640)) 72 (5 ∷ 3 ∷ 4 ∷ 0 ∷ 29 ∷ 1 ∷ 710 ∷ 660 ∷ 70 ∷ 106 ∷ 149 ∷ 667 ∷ 149 ∷ []) (4684379 over 67348)
    ∷ example car (Pair 3 (gear 3 149 2800 2600) (gear 4 100 2840 2640)) 72 (3 ∷ 3 ∷ 4 ∷ 100 ∷ 29 ∷ 1 ∷ 700 ∷ 650 ∷ 69 ∷ 106 ∷ 149 ∷ 667 ∷ 149 ∷ []) (10215 over 149)
    ∷ example slow furthest 72 (3 ∷ 3 ∷ 4 ∷ 25 ∷ 0 ∷ 1 ∷ 705 ∷ 725 ∷ 71 ∷ 79 ∷ 79 ∷ 249 ∷ 79 ∷ []) (70399 over 1000)
    ∷ []

every_holds : T (all_of (map holds examples))
unfolding reference gear fields same equal holds car slow furthest examples rounded weighed_level basis_of part_power l_urban_of outcome_of k_of window_with larger_sum condition_level exact_mean exact_k exact_weighed exact_level exact_w exact_c a_prime exact_kp figure below ◌⊕◌ ◌⊖◌ ◌⊗◌
every_holds = tt

-- "at most" is reached: |71 − 70.399| = 0.6 + 0.005 × (0.2 + 0)
reached : T (equal (apart (reported slow furthest 72 over 1) (figure slow furthest)) (bound slow furthest))
unfolding reference gear equal slow furthest rounded weighed_level basis_of l_urban_of outcome_of k_of window_with larger_sum condition_level reported exact_mean exact_k exact_weighed exact_level exact_w exact_c figure below ◌⊕◌ ◌⊖◌ ◌⊗◌ larger apart dk dp bound
reached = tt
