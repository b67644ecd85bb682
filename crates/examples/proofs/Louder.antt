-- A louder sheet: the worked sheet with the left levels of gear 3's acceleration runs 1.0 dB higher. The same runs are chosen, none is lower,
-- and L_urban is 71 for 70: what the promise `rising` asks of two sheets can be met. Assumes nothing.
use mathlib.Core.Path.{◌≡◌, refl, sym, ap, ◌∙◌}
use mathlib.Core.Bool.{Bool, true, false, not, ◌&&◌, ◌||◌, or-false, true≢false}
use mathlib.Core.List.{List, [], ◌∷◌, map}
use Prim.Native.Nat.{ℕ, zero, suc}
use lib.Dec.{T, eqb, eqb→eq}
use lib.Ieee.{of_bits, lt}
use lib.Ieee.Fits.{and_l, and_r}
use lib.ListN.{get_or}
use borrow.Author.Tests.{eqb-true}
use Rattle.units.specs.Bytes.{number}
use Rattle.units.specs.Tests.{among, all_of}
use Rattle.record.specs.Records.{records, record_at}
use Rattle.evaluation.specs.Demand.{of_level, OnlyLevels, float_at, lower, NoneLower}
use Rattle.examples.specs.Starred.{worked_sheet}
use Rattle.examples.proofs.Computed.{worked_runs, louder_sheet, worked_runs_are, louder_runs_are}

-- ---- only levels are changed

-- two lists are as long, and alike but for numbers at places that pass the test
alike : (ℕ → Bool) → List ℕ → List ℕ → Bool
alike test [] [] = true
alike test (x ∷ xs) (y ∷ ys) = (eqb x y || test 0) && alike (λ m. test (suc m)) xs ys
alike test [] (y ∷ ys) = false
alike test (x ∷ xs) [] = false

alike_at : (test : ℕ → Bool) (xs ys : List ℕ) → T (alike test xs ys) → (m : ℕ) → test m ≡ false → get_or xs m 0 ≡ get_or ys m 0
unfolding alike
alike_at test [] [] t m e = refl
alike_at test (x ∷ xs) (y ∷ ys) t zero e = eqb→eq x y (rw (e, or-false) at (and_l (eqb x y || test 0) (alike (λ m. test (suc m)) xs ys) t))
alike_at test (x ∷ xs) (y ∷ ys) t (suc m) e = alike_at (λ m. test (suc m)) xs ys (and_r (eqb x y || test 0) (alike (λ m. test (suc m)) xs ys) t) m e
alike_at test [] (y ∷ ys) t m e = absurd t
alike_at test (x ∷ xs) [] t m e = absurd t

every_byte : T (alike (of_level worked_sheet) worked_sheet louder_sheet)
unfolding alike of_level records record_at number
every_byte = tt

only : OnlyLevels worked_sheet louder_sheet
only = record { size = refl; alike = alike_at (of_level worked_sheet) worked_sheet louder_sheet every_byte }

-- ---- the chosen runs

-- none is lower
kept : ℕ → Bool
kept n = not (lower worked_sheet louder_sheet n)

every_kept : T (all_of (map kept worked_runs))
unfolding kept lower float_at lt of_bits records record_at number
every_kept = tt

kept_among : (n : ℕ) (runs : List ℕ) → T (all_of (map kept runs)) → among n runs ≡ true → T (kept n)
unfolding among
kept_among n [] t e = absurd (true≢false (sym e))
kept_among n (m ∷ runs) t e = by (eqb n m) refl e (kept_among n runs (and_r (kept m) (all_of (map kept runs)) t))
  where
    by : (b : Bool) → eqb n m ≡ b → (b || among n runs) ≡ true → (among n runs ≡ true → T (kept n)) → T (kept n)
    by true q f others = rw (eqb-true n m q) (and_l (kept m) (all_of (map kept runs)) t)
    by false q f others = others f

is_false : (b : Bool) → T (not b) → b ≡ false
is_false true t = absurd t
is_false false t = refl

-- what `rising` asks of two sheets
pub louder : NoneLower worked_sheet louder_sheet
unfolding kept
louder =
    record {
      only_levels = only;
      same_runs = λ n. ap (among n) (worked_runs_are ∙ sym louder_runs_are);
      none_lower = λ n e. is_false (lower worked_sheet louder_sheet n) (kept_among n worked_runs every_kept (rw worked_runs_are at e));
    }
