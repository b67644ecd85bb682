-- What a C or Rust program finds behind its pointer after a lorry's test mass has been reckoned.
use Rattle.std.specs.Prelude.{List, [], ◌∷◌, ℕ, Ok, Err}
use Rattle.lorry.specs.declared.Masses.{Masses}
use Rattle.lorry.specs.TestMass.{Loading}

-- the test mass, the load, 95% and 105% of the test mass, in ten-thousandths of a kg
abbrev pub mass_numbers : Masses → List ℕ
mass_numbers m = m.mass.0 ∷ m.load.0 ∷ m.lowest.0 ∷ m.highest.0 ∷ []

-- these four, and what was there before if the lorry is refused
abbrev pub masses_or : Loading → List ℕ → List ℕ
masses_or (Ok masses) kept = mass_numbers masses
masses_or (Err refusal) kept = kept
