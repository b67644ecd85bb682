-- When a lorry is refused.
use Rattle.std.specs.Prelude.{◌≡◌, ◌↔◌, ℕ, ◌*◌, ◌<◌, Ok}
use Rattle.lorry.specs.declared.TwoAxles.{TwoAxles}
use Rattle.lorry.specs.declared.Masses.{Masses}
use Rattle.lorry.specs.TestMass.{rear_overloaded, two_axles_of, more_axles_of, loading_number, loading_place}

-- the unladen rear load is over 75 / 100 of the rear axle's maximum
abbrev pub RearOver75 : TwoAxles → Type 0
RearOver75 x = 75 * x.rear_max < 100 * x.rear

-- 21 comes exactly there, whatever the power, the front axle and, for more axles, the lorry's own mass are.
abbrev pub TwoAxlesRefused : Type 0
TwoAxlesRefused = (x : TwoAxles) → two_axles_of x ≡ rear_overloaded ↔ RearOver75 x

abbrev pub MoreAxlesRefused : Type 0
MoreAxlesRefused = (x : TwoAxles) (own : ℕ) → more_axles_of x own ≡ rear_overloaded ↔ RearOver75 x

-- Masses have the number 0, and the refusal has 21; neither has a place.
abbrev pub ToldByNumber : Type 0
ToldByNumber = (m : Masses) → (loading_number (Ok m) ≡ 0) × (loading_place (Ok m) ≡ 0) × (loading_number rear_overloaded ≡ 21) × (loading_place rear_overloaded ≡ 0)
