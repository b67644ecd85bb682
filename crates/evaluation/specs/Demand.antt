-- Demand 3 on sheets (document 01, second half of "L_urban"): the chosen runs of an accepted sheet, its figure, how close the reported L_urban is
-- to it, and how it compares with that of a sheet in which no chosen run is lower. All are definitions of the sheets' bytes.
use Rattle.std.specs.Prelude.{◌≡◌, Bool, true, false, ◌&&◌, ◌||◌, List, [], ◌∷◌, ◌++◌, ℕ, ◌/◌, ◌%◌, ◌≤◌, eqb, leb, ltb, Float, length, get_or, Ok, Err}
use Rattle.std.specs.Float.{binary32}
use Rattle.std.specs.Float.Ieee.{of_bits, lt}
use Rattle.units.specs.Bytes.{number}
use Rattle.units.specs.Tests.{among}
use Rattle.record.specs.Records.{record_at, byte}
use Rattle.window.specs.declared.Four.{Four}
use Rattle.reference.specs.declared.Reference.{Reference}
use Rattle.urban.specs.declared.ChosenGear.{ChosenGear}
use Rattle.urban.specs.declared.Chosen.TheVariants.{One, Pair}
use Rattle.decision.specs.Decision.{Selection, reference_in, selection_in}
use Rattle.figure.specs.Fractions.{Frac, ◌over◌, apart, ◌≼◌}
use Rattle.figure.specs.Figure.{accelerating, constant, figure, bound}
use Rattle.evaluation.specs.Answer.{IsAccepted, buffer_of}

-- ---- close

-- the figure of an accepted sheet, and the bound 0.6 + 0.005 × (Dk + Dp), in dB (a sheet without chosen gears has neither: 0)
unfoldable pub figure_by : Reference → Selection → Frac
figure_by r (Err x) = 0 over 1
figure_by r (Ok c) = figure r c

unfoldable pub bound_by : Reference → Selection → Frac
bound_by r (Err x) = 0 over 1
bound_by r (Ok c) = bound r c

unfoldable pub figure_of : List ℕ → Frac
figure_of s = figure_by (reference_in s) (selection_in s)

unfoldable pub bound_of : List ℕ → Frac
bound_of s = bound_by (reference_in s) (selection_in s)

-- Close: a level in whole dB and the figure differ, either way, by at most the bound.
unfoldable pub CloseTo : List ℕ → ℕ → Type 0
CloseTo s level = apart (level over 1) (figure_of s) ≼ bound_of s

-- ---- the chosen runs, by their record numbers

abbrev pub numbers_of : Four → List ℕ
numbers_of f = f.a.number ∷ f.b.number ∷ f.c.number ∷ f.d.number ∷ []

-- the four of a gear's acceleration window and the four of its constant-speed window
abbrev pub runs_of : ChosenGear → List ℕ
runs_of g = numbers_of (accelerating g) ++ numbers_of (constant g)

-- those of the one gear, or of gear i and then of gear j
abbrev pub chosen_runs_by : Selection → List ℕ
chosen_runs_by (Err x) = []
chosen_runs_by (Ok (One rule g)) = runs_of g
chosen_runs_by (Ok (Pair rule i j)) = runs_of i ++ runs_of j

unfoldable pub chosen_runs : List ℕ → List ℕ
chosen_runs s = chosen_runs_by (selection_in s)

-- record n is a chosen run
abbrev pub is_chosen : List ℕ → ℕ → Bool
is_chosen s n = among n (chosen_runs s)

-- ---- rising

-- byte m belongs to one of the floats, at 8 and 12, of a run record
unfoldable pub of_level : List ℕ → ℕ → Bool
of_level s m = let kind = byte (record_at s (m / 32)) 0 in (eqb kind 2 || eqb kind 3) && leb 8 (m % 32) && ltb (m % 32) 16

-- two sheets of one length, in which no byte differs but those of runs' floats
pub record OnlyLevels (s s' : List ℕ) : Type 0 where
  pub size : length s ≡ length s'
  pub alike : (m : ℕ) → of_level s m ≡ false → get_or s m 0 ≡ get_or s' m 0

-- the float at a byte of record n
unfoldable pub float_at : List ℕ → ℕ → ℕ → Float
float_at s n at = of_bits binary32 (number (record_at s n) at 4)

-- run n is quieter in the second sheet, on its left or on its right, by the values of the floats
unfoldable pub lower : List ℕ → List ℕ → ℕ → Bool
lower s s' n = lt (float_at s' n 8) (float_at s n 8) || lt (float_at s' n 12) (float_at s n 12)

-- only runs' levels are changed, the same record numbers are chosen, and the level of no chosen run is lower in the second sheet
pub record NoneLower (s s' : List ℕ) : Type 0 where
  pub only_levels : OnlyLevels s s'
  pub same_runs : (n : ℕ) → is_chosen s n ≡ is_chosen s' n
  pub none_lower : (n : ℕ) → is_chosen s n ≡ true → lower s s' n ≡ false

-- Rising: the level is not above the reported L_urban, at byte 10 of the result, of any sheet s' that is accepted too and in which the
-- level of no chosen run is lower.
unfoldable pub RisesFrom : List ℕ → ℕ → Type 0
RisesFrom s level = (s' b : List ℕ) → IsAccepted s' (length b) → NoneLower s s' → level ≤ number (buffer_of s' b) 10 2
