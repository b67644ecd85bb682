-- Windows and the level of a condition (document 01, "From levels to windows", steps 4 and 5; document 02, wish 5). Levels are in tenths of dB(A).
use Rattle.std.specs.Prelude.{Bool, Result, Ok, Err, cond, ◌&&◌, List, ℕ, ◌+◌, ◌-◌, max, min, leb, ltb, length, get_or}
use Rattle.units.specs.Rounding.{rounded}
use Rattle.units.specs.Tests.{lowest}
use Rattle.refusal.specs.declared.Shortage.{Shortage}
use Rattle.refusal.specs.declared.Shortage.TheVariants.{TooFew, TooWide}
use Rattle.window.specs.declared.ValidRun.{ValidRun}
use Rattle.window.specs.declared.Four.{Four}

-- ---- step 4: a window is four neighbours that lie close together

-- four levels span at most 2.0 dB
unfoldable pub spanned : ℕ → ℕ → ℕ → ℕ → Bool
spanned a b c d = leb (max (max a b) (max c d)) (min (min a b) (min c d) + 20)

-- four runs span at most 2.0 dB on each side
unfoldable pub fitting : Four → Bool
fitting f =
    spanned f.a.left.0 f.b.left.0 f.c.left.0 f.d.left.0
    && spanned f.a.right.0 f.b.right.0 f.c.right.0 f.d.right.0

-- what stands past the end of a list of runs (no rule reads it)
unfoldable pub empty_run : ValidRun
empty_run = record { left = record { 0 = 0 }; right = record { 0 = 0 }; start = 0; end = 0; engine = 0; number = 0 }

-- four neighbours among the rest, from place i on
unfoldable pub four_at : List ValidRun → ℕ → Four
four_at rest i = record { a = get_or rest i empty_run; b = get_or rest (i + 1) empty_run; c = get_or rest (i + 2) empty_run; d = get_or rest (i + 3) empty_run }

-- The first window: the lowest place at which four neighbours fit. (The number of places, if they fit at none.)
unfoldable pub first_place : List ValidRun → ℕ
first_place rest = lowest (λ i. fitting (four_at rest i)) (length rest - 3) 0

-- why a rest of `count` valid runs has no window, if it has none: fewer than four, or four or more that lie too far apart (wish 5)
unfoldable pub shortage_of : ℕ → Shortage
shortage_of count = cond (ltb count 4) TooFew TooWide

unfoldable pub first_window : List ValidRun → Result Four Shortage
first_window rest = cond (ltb (first_place rest) (length rest - 3)) (Ok (four_at rest (first_place rest))) (Err (shortage_of (length rest)))

-- ---- step 5: the level of a condition

-- the larger of the two sides' sums of four levels: four times the larger mean
unfoldable pub larger_sum : Four → ℕ
larger_sum f =
    max (f.a.left.0 + f.b.left.0 + f.c.left.0 + f.d.left.0)
    (f.a.right.0 + f.b.right.0 + f.c.right.0 + f.d.right.0)

-- the larger of the two sides' means, rounded to a tenth
unfoldable pub condition_level : Four → ℕ
condition_level f = rounded (larger_sum f) 4

-- ---- four runs

-- something holds of each of four runs
pub record Each (P : ValidRun → Type 0) (f : Four) : Type 0 where
  pub a : P f.a
  pub b : P f.b
  pub c : P f.c
  pub d : P f.d

-- what stands past the end of a list of windows
unfoldable pub empty_four : Four
empty_four = record { a = empty_run; b = empty_run; c = empty_run; d = empty_run }
