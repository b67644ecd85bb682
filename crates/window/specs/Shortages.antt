-- The two ways to have no window (document 02, wish 5), each with its cause.
use Rattle.std.specs.Prelude.{◌≡◌, false, Ok, Err, List, ◌↔◌, ℕ, ◌+◌, ◌≤◌, ◌<◌, length}
use Rattle.refusal.specs.declared.Shortage.TheVariants.{TooFew, TooWide}
use Rattle.window.specs.declared.ValidRun.{ValidRun}
use Rattle.window.specs.declared.Four.{Four}
use Rattle.window.specs.Windows.{fitting, four_at, first_window}

-- no four neighbours of the rest span at most 2.0 dB on each side
abbrev pub NoneFits : List ValidRun → Type 0
NoneFits rest = (i : ℕ) → i + 3 < length rest → fitting (four_at rest i) ≡ false

-- too few: fewer than four valid runs; too wide: four or more, and no four neighbours fit; and fewer than four never have a window
pub record OnTheirCauses (rest : List ValidRun) : Type 0 where
  pub too_few : first_window rest ≡ Err TooFew ↔ length rest < 4
  pub too_wide : first_window rest ≡ Err TooWide ↔ ((4 ≤ length rest) × NoneFits rest)
  pub few_have_none : length rest < 4 → (f : Four) → first_window rest ≡ Ok f → ⊥
