-- The test mass of a lorry of category N2 or N3 (document 02, wish 13; document 004, annex 3, 2.2.1 and 2.2.7.4), in the order in which it is
-- reckoned. Nothing is rounded and nothing is divided: a mass is in hundredths of a kg, in which 75% of whole kilograms is whole, and what is given is
-- in ten-thousandths, in which 95% and 105% of hundredths are.
use Rattle.std.specs.Prelude.{Bool, cond, ℕ, ◌+◌, ◌-◌, ◌*◌, leb, ltb, Result, Ok, Err}
use Rattle.refusal.specs.Refusal.{number_in}
use Rattle.lorry.specs.declared.TwoAxles.{TwoAxles}
use Rattle.lorry.specs.declared.KgTenThousandths.{KgTenThousandths}
use Rattle.lorry.specs.declared.Masses.{Masses}
use Rattle.lorry.specs.declared.RearOverloaded.{RearOverloaded}

-- n kilograms, in hundredths
abbrev pub kg : ℕ → ℕ
kg n = 100 * n

-- the driver: 75 kg
abbrev pub driver : ℕ
driver = kg 75

-- ---- a lorry of two axles, or the stand-in of one of more

-- the target: 50 kg for each kW, and so 5 for each tenth
abbrev pub target_of : TwoAxles → ℕ
target_of x = kg (5 * x.power)

-- its unladen mass, front and rear
abbrev pub unladen_of : TwoAxles → ℕ
unladen_of x = kg x.front + kg x.rear

-- 75% of the rear axle's maximum: 75 hundredths of a kg for each of its kilograms
abbrev pub permitted_of : TwoAxles → ℕ
permitted_of x = 75 * x.rear_max

-- 21: the rear axle, unladen, carries more than that
abbrev pub overloaded : TwoAxles → Bool
overloaded x = ltb (permitted_of x) (kg x.rear)

-- ---- the extra load that would bring a lorry to a mass: that mass, less the driver, less the unladen mass

abbrev pub extra : ℕ → ℕ → ℕ
extra aim unladen = aim - driver - unladen

-- It is negative where that mass is below what is taken off. No rule reads `extra` there; it is 0, as every difference of natural numbers is that
-- would be negative.
abbrev pub is_negative : ℕ → ℕ → Bool
is_negative aim unladen = ltb aim (driver + unladen)

-- ---- the test mass

-- Two axles. Where the extra load is negative, none is loaded, and the mass is the unladen one and the driver. Else, where the extra and the unladen
-- rear load are at most 75% of the rear axle's maximum, the mass is the target. Else it is that 75%, the driver and the unladen front load.
unfoldable pub two_axles_mass : TwoAxles → ℕ
two_axles_mass x =
    cond (is_negative (target_of x) (unladen_of x)) (unladen_of x + driver)
    (cond (leb (extra (target_of x) (unladen_of x) + kg x.rear) (permitted_of x)) (target_of x)
    (permitted_of x + driver + kg x.front))

-- More axles: the test mass of the stand-in. Where the extra load that would bring the lorry to it is negative, none is loaded, and the mass is the
-- lorry's own unladen one and the driver.
unfoldable pub more_axles_mass : TwoAxles → ℕ → ℕ
more_axles_mass x own = cond (is_negative (two_axles_mass x) (kg own)) (kg own + driver) (two_axles_mass x)

-- ---- what is given of it

-- p% of n hundredths of a kg: p × n ten-thousandths
abbrev pub percent : ℕ → ℕ → KgTenThousandths
percent p n = record { 0 = p * n }

-- the test mass, the load, and 95% and 105% of the test mass
abbrev pub masses_of : ℕ → ℕ → Masses
masses_of mass load =
    record { mass = percent 100 mass; load = percent 100 load; lowest = percent 95 mass; highest = percent 105 mass }

-- How a lorry is loaded for the test: the masses, or the refusal 21.
abbrev pub Loading : Type 0
Loading = Result Masses RearOverloaded

abbrev pub rear_overloaded : Loading
rear_overloaded = Err (record {})

-- 21 comes before all else; for a lorry of more axles it is asked of the stand-in. The load is the test mass less the driver and the unladen mass,
-- which for a lorry of more axles is its own.
unfoldable pub loading_of : TwoAxles → ℕ → ℕ → Loading
loading_of x mass unladen = cond (overloaded x) rear_overloaded (Ok (masses_of mass (extra mass unladen)))

unfoldable pub two_axles_of : TwoAxles → Loading
two_axles_of x = loading_of x (two_axles_mass x) (unladen_of x)

unfoldable pub more_axles_of : TwoAxles → ℕ → Loading
more_axles_of x own = loading_of x (more_axles_mass x own) (kg own)

-- the number and the place of the refusal: 0 and 0 where masses are given
abbrev pub number_of : RearOverloaded → ℕ
number_of refusal = 21

abbrev pub place_of : RearOverloaded → ℕ
place_of refusal = 0

abbrev pub loading_number : Loading → ℕ
loading_number loading = number_in number_of loading

abbrev pub loading_place : Loading → ℕ
loading_place loading = number_in place_of loading
