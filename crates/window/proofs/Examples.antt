-- The driven examples of document 01 on windows, the traps of the spreadsheet, and levels of one side, by the definitions. Assumes nothing.
use mathlib.Core.Path.{refl}
use mathlib.Core.Bool.{Bool, true, false, cond, not, ◌&&◌}
use mathlib.Core.List.{List, [], ◌∷◌, map}
use Prim.Native.Nat.{ℕ}
use lib.Dec.{T, eqb}
use Rattle.std.specs.Prelude.{Result, Ok, Err}
use Rattle.units.specs.Rounding.{rounded}
use Rattle.units.specs.Tests.{lowest, all_of}
use Rattle.refusal.specs.declared.Shortage.{Shortage}
use Rattle.refusal.specs.declared.Shortage.TheVariants.{TooFew, TooWide}
use Rattle.refusal.specs.Refusal.{by_shortage}
use Rattle.window.specs.declared.ValidRun.{ValidRun}
use Rattle.window.specs.declared.Four.{Four}
use Rattle.window.specs.Extremes.{AreExtremes}
use Rattle.window.specs.Windows.{spanned, fitting, larger_sum, condition_level, empty_run, four_at, first_place, shortage_of, first_window}
use Rattle.window.proofs.HeldExtremes.{extremes, first_extremes, next_extremes}

run : ℕ → ℕ → ℕ → ValidRun
run n l r = record { left = record { 0 = l }; right = record { 0 = r }; start = 0; end = 0; engine = 0; number = n }

-- runs 1, 2, .. with the same level on both sides
data Example : Type 0 where
  -- the first window starts at this run, and the condition's level is this
  starts : List ValidRun → ℕ → ℕ → Example
  -- there is none, for this reason
  none : List ValidRun → Shortage → Example

is_at : ℕ → ℕ → Result Four Shortage → Bool
is_at n level (Ok f) = eqb f.a.number n && eqb (condition_level f) level
is_at n level (Err x) = false

is_none : Shortage → Result Four Shortage → Bool
is_none x (Ok f) = false
is_none x (Err y) = eqb (by_shortage 0 1 x) (by_shortage 0 1 y)

holds : Example → Bool
holds (starts rest n level) = is_at n level (first_window rest)
holds (none rest x) = is_none x (first_window rest)

examples : List Example
examples =
    -- 70.0, 72.1, 71.0, 71.0, 71.0: runs 2 to 5, whose mean is 71.275
    starts (run 1 700 700 ∷ run 2 721 721 ∷ run 3 710 710 ∷ run 4 710 710 ∷ run 5 710 710 ∷ []) 2 713
    -- 70.0 with 72.0 is within
    ∷ starts (run 1 700 700 ∷ run 2 720 720 ∷ run 3 710 710 ∷ run 4 710 710 ∷ []) 1 710
    -- each side by itself: the sums of the sides are alike, the sides are not
    ∷ none (run 1 700 721 ∷ run 2 721 700 ∷ run 3 710 711 ∷ run 4 711 710 ∷ []) TooWide
    -- a valid run outside the span parts its neighbours
    ∷ none (run 1 700 700 ∷ run 2 700 700 ∷ run 3 740 740 ∷ run 4 700 700 ∷ run 5 700 700 ∷ []) TooWide
    -- three runs are too few, whether they lie close together or not
    ∷ none (run 1 700 700 ∷ run 2 700 700 ∷ run 3 700 700 ∷ []) TooFew
    ∷ none (run 1 660 660 ∷ run 2 681 681 ∷ run 3 660 660 ∷ []) TooFew
    ∷ none [] TooFew
    -- four are enough, and too wide by a tenth on one side
    ∷ none (run 1 660 655 ∷ run 2 681 655 ∷ run 3 660 655 ∷ run 4 681 655 ∷ []) TooWide
    -- the first of two windows; a side's mean of 70.05 goes up
    ∷ starts (run 1 700 690 ∷ run 2 700 690 ∷ run 3 701 690 ∷ run 4 701 690 ∷ run 5 700 690 ∷ []) 1 701
    ∷ []

every_holds : T (all_of (map holds examples))
unfolding run is_at is_none holds examples spanned fitting empty_run four_at first_place first_window larger_sum condition_level lowest rounded shortage_of
every_holds = tt

-- ---- one side of four runs (document 02, wish 3)

-- four levels, and whether they span at most 2.0 dB
data Levels : Type 0 where
  levels : (a b c d : ℕ) → Bool → Levels

span_holds : Levels → Bool
span_holds (levels a b c d within) = cond within (spanned a b c d) (not (spanned a b c d))

fours : List Levels
fours =
    -- 70.0, 72.1, 71.0, 71.0
    levels 700 721 710 710 false
    -- 70.0 with 72.0, twice
    ∷ levels 700 720 700 720 true
    ∷ levels 716 716 716 716 true
    -- levels that no meter gives, at the ends of 16 bits; at the upper one the least with 2.0 dB added is more than 16 bits hold
    ∷ levels 0 0 0 65535 false
    ∷ levels 65535 65535 65535 65535 true
    ∷ []

every_span_holds : T (all_of (map span_holds fours))
unfolding span_holds fours spanned
every_span_holds = tt

-- what a pass over 70.0, 72.1, 69.9, 71.0 holds after each level
held_after_1 : AreExtremes (700 ∷ []) (extremes 700 700)
held_after_1 = first_extremes (record { 0 = 700 })

held_after_2 : AreExtremes (700 ∷ 721 ∷ []) (extremes 721 700)
held_after_2 = next_extremes _ 721 _ _ refl refl held_after_1

held_after_3 : AreExtremes (700 ∷ 721 ∷ 699 ∷ []) (extremes 721 699)
held_after_3 = next_extremes _ 699 _ _ refl refl held_after_2

held_after_4 : AreExtremes (700 ∷ 721 ∷ 699 ∷ 710 ∷ []) (extremes 721 699)
held_after_4 = next_extremes _ 710 _ _ refl refl held_after_3
