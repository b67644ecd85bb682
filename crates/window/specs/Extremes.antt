-- The extremes of levels (document 02, wish 3): what a pass over levels carries of those that it has read. Levels are in tenths of dB(A).
use Rattle.std.specs.Prelude.{◌≡◌, true, List, ℕ, ◌≤◌}
use Rattle.units.specs.Tests.{among}
use Rattle.window.specs.declared.Extremes.{Extremes}

-- Extremes of a list of levels, however long: the greatest is one of them and none is above it; the least is one of them and none is below
-- it. An empty list has none.
pub record AreExtremes (levels : List ℕ) (e : Extremes) : Type 0 where
  pub greatest_read : among e.greatest.0 levels ≡ true
  pub none_above : (level : ℕ) → among level levels ≡ true → level ≤ e.greatest.0
  pub least_read : among e.least.0 levels ≡ true
  pub none_below : (level : ℕ) → among level levels ≡ true → e.least.0 ≤ level
