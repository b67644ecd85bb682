-- Every mass that is given is the exact value of the rules, as a fraction of whole kilograms. Fractions are compared crosswise, so that no division
-- drops a remainder, and the load is compared as a sum, so that no difference below 0 is cut off.
use Rattle.std.specs.Prelude.{◌≡◌, ℕ, ◌+◌, ◌*◌, ◌≤◌, ◌<◌, max, min, Ok}
use Rattle.lorry.specs.declared.TwoAxles.{TwoAxles}
use Rattle.lorry.specs.declared.KgTenThousandths.{KgTenThousandths}
use Rattle.lorry.specs.declared.Masses.{Masses}
use Rattle.lorry.specs.TestMass.{two_axles_of, more_axles_of}

-- a given mass is num / den kg
abbrev pub Exactly : KgTenThousandths → ℕ → ℕ → Type 0
Exactly m num den = m.0 * den ≡ 10000 * num

-- it is below num / den kg
abbrev pub Below : KgTenThousandths → ℕ → ℕ → Type 0
Below m num den = m.0 * den < 10000 * num

-- ---- the load and the band, for an unladen mass of so many kg

pub record LoadAndBand (m : Masses) (unladen : ℕ) : Type 0 where
  -- the load, 75 kg and the unladen mass are the test mass: the load is never below 0
  pub load : m.load.0 + 10000 * (75 + unladen) ≡ m.mass.0
  -- 95 / 100 and 105 / 100 of the test mass, which lies between them
  pub lowest : m.lowest.0 * 100 ≡ 95 * m.mass.0
  pub highest : m.highest.0 * 100 ≡ 105 * m.mass.0
  pub from_lowest : m.lowest.0 ≤ m.mass.0
  pub to_highest : m.mass.0 ≤ m.highest.0

-- ---- two axles. The power is in tenths of kW, so the target is 50 × power / 10 kg.

-- the extra load, 50 × power / 10 − 75 − front − rear, is negative
abbrev pub ExtraNegative : TwoAxles → Type 0
ExtraNegative x = 50 * x.power < 10 * (75 + x.front + x.rear)

-- the extra load and the unladen rear load, 50 × power / 10 − 75 − front, are at most 75 / 100 of the rear axle's maximum
abbrev pub Within75 : TwoAxles → Type 0
Within75 x = 10 * (50 * x.power) ≤ 75 * x.rear_max + 100 * (75 + x.front)

pub record TwoAxlesExact (x : TwoAxles) (m : Masses) : Type 0 where
  pub none_loaded : ExtraNegative x → Exactly m.mass (x.front + x.rear + 75) 1
  pub at_target : (ExtraNegative x → ⊥) → Within75 x → Exactly m.mass (50 * x.power) 10
  pub at_75 : (ExtraNegative x → ⊥) → (Within75 x → ⊥) → Exactly m.mass (75 * x.rear_max + 100 * (75 + x.front)) 100
  -- where 75% of the maximum decides, the test mass is below the target
  pub below_target : (ExtraNegative x → ⊥) → (Within75 x → ⊥) → Below m.mass (50 * x.power) 10
  -- in one equation: the larger of the unladen mass with the driver and the smaller of the target and 75% with the driver and the front load
  pub largest : m.mass.0 ≡ max (10000 * (x.front + x.rear + 75)) (min (50000 * x.power) (7500 * x.rear_max + 10000 * (75 + x.front)))

abbrev pub TwoAxlesAreExact : Type 0
TwoAxlesAreExact = (x : TwoAxles) (m : Masses) → two_axles_of x ≡ Ok m → TwoAxlesExact x m × LoadAndBand m (x.front + x.rear)

-- ---- more axles: the masses of the stand-in, the lorry's own unladen mass in kg, and its masses

pub record MoreAxlesExact (stand-in : Masses) (own : ℕ) (m : Masses) : Type 0 where
  -- the extra load, the stand-in's test mass less 75 kg less the lorry's own unladen mass, is negative
  pub own_mass : Below stand-in.mass (own + 75) 1 → Exactly m.mass (own + 75) 1
  pub of_the_stand_in : (Below stand-in.mass (own + 75) 1 → ⊥) → m.mass.0 ≡ stand-in.mass.0
  -- in one equation
  pub larger : m.mass.0 ≡ max stand-in.mass.0 (10000 * (own + 75))

abbrev pub MoreAxlesAreExact : Type 0
MoreAxlesAreExact = (x : TwoAxles) (own : ℕ) (s m : Masses) → two_axles_of x ≡ Ok s → more_axles_of x own ≡ Ok m → MoreAxlesExact s own m × LoadAndBand m own
