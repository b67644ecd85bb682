-- The limit of a session in whole dB(A) (document 02, wish 1): the written one, or, for M1, that of paragraph 6.2.2 of the 03 series by PMR, phase
-- and byte 17; and rows 11 and 12 of the refusals.
use Rattle.std.specs.Prelude.{◌≡◌, Bool, true, false, cond, not, ◌&&◌, List, [], ◌∷◌, ℕ, ◌+◌, ◌-◌, ◌*◌, ◌≤◌, leb, ltb, eqb, get_or, Result, Ok, Err}
use Rattle.refusal.specs.declared.Refusal.{Refusal}
use Rattle.refusal.specs.declared.Refusal.TheVariants.{NoLimitForN1, NoLimitEntry}
use Rattle.record.specs.declared.Category.{Category}
use Rattle.record.specs.declared.Category.TheVariants.{M1, N1}
use Rattle.record.specs.declared.Category.TheVariants as category
use Rattle.record.specs.declared.Vehicle.{Vehicle}
use Rattle.record.specs.Records.{within, is_looked_up}

-- ---- the table

-- the limits of each class in the phases 1, 2 and 3
unfoldable pub limit_table : List ℕ
limit_table =
    -- PMR up to 120.0
    72 ∷ 70 ∷ 68
    -- up to 160.0
    ∷ 73 ∷ 71 ∷ 69
    -- above
    ∷ 75 ∷ 73 ∷ 71
    -- low cars with at most four seats above 200.0
    ∷ 75 ∷ 74 ∷ 72
    ∷ []

-- The class of a car, 0 to 3, by the rounded PMR, in tenths, and byte 17. A low car has a class of its own only above 200.0.
unfoldable pub class_of : ℕ → ℕ → ℕ
class_of q low_car = cond (leb q 1200) 0 (cond (leb q 1600) 1 (cond (ltb 2000 q && eqb low_car 1) 3 2))

-- the table has the phases 1 to 3, and byte 17 is 0 or 1
abbrev pub has_entry : ℕ → ℕ → Bool
has_entry phase low_car = within 1 3 phase && leb low_car 1

-- the limit of such a phase for the class that PMR and byte 17 give
unfoldable pub table_limit : ℕ → ℕ → ℕ → ℕ
table_limit q phase low_car = get_or limit_table (3 * class_of q low_car + (phase - 1)) 0

-- ---- the limit of a vehicle record

-- the category is N1
abbrev pub is_n1 : Category → Bool
is_n1 M1 = false
is_n1 N1 = true
is_n1 (category.Other b) = false

-- row 11: the limit is 0 and the category N1, for which none is looked up
abbrev pub no_limit_for_n1 : Vehicle → Bool
no_limit_for_n1 v = is_looked_up v.limit && is_n1 v.category

-- row 12: the limit is 0, and the phase is outside 1 to 3 or byte 17 above 1
abbrev pub no_limit_entry : Vehicle → Bool
no_limit_entry v = is_looked_up v.limit && not (has_entry v.phase v.low_car)

-- row 11, row 12, and else the limit found: a limit of 0 is looked up with PMR in tenths, a written one is taken as it is
unfoldable pub limit_of : Vehicle → ℕ → Result ℕ Refusal
limit_of v q =
    cond (no_limit_for_n1 v) (Err NoLimitForN1)
    (cond (no_limit_entry v) (Err NoLimitEntry)
    (Ok (cond (is_looked_up v.limit) (table_limit q v.phase v.low_car) v.limit)))

-- ---- what holds of limits

-- of one vehicle record, a higher PMR never has a lower limit
abbrev pub LimitsRise : Type 0
LimitsRise = (v : Vehicle) (q q' n n' : ℕ) → q ≤ q' → limit_of v q ≡ Ok n → limit_of v q' ≡ Ok n' → n ≤ n'
