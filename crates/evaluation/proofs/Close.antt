-- The L_urban of an accepted sheet is close to its figure. Assumes nothing.
use mathlib.Core.Path.{◌≡◌, ap}
use mathlib.Core.List.{List, ◌++◌}
use Prim.Native.Nat.{ℕ, ◌≤◌, ◌<◌}
use native.Mathlib.Omega.{arith}
use Rattle.std.specs.Prelude.{Ok}
use Rattle.units.specs.Bytes.{number}
use Rattle.reference.specs.Reference.{reference_at}
use Rattle.reference.proofs.References.{a_urban_the}
use Rattle.urban.specs.declared.Outcome.{Outcome}
use Rattle.result.specs.Result.{result_bytes}
use Rattle.result.proofs.Results.{at_ten}
use Rattle.decision.specs.declared.Judged.{Judged}
use Rattle.decision.specs.Decision.{decision_of, pmr_in, reference_in}
use Rattle.decision.proofs.Results.{decided}
use Rattle.figure.specs.Figure.{reported}
use Rattle.figure.proofs.Close.{close}
use Rattle.evaluation.specs.Demand.{figure_by, bound_by, figure_of, bound_of, CloseTo}

-- a_urban is at least 0.35
positive : (s : List ℕ) → 50 ≤ pmr_in s → pmr_in s ≤ 6000 → 0 < (reference_in s).a_urban.0
unfolding reference_in reference_at
positive s lo hi = omega (arith, (a_urban_the (pmr_in s) lo hi).least)

pub close_to : (s : List ℕ) (j : Judged) → decision_of s ≡ Ok j → CloseTo s j.outcome.l_urban
unfolding CloseTo figure_of bound_of figure_by bound_by reported
close_to s j e =
    let d = decided s j e in
    simp (d.chosen_is, ap (λ (x : Outcome). x.l_urban) d.is) (close (reference_in s) d.chosen_gears j.limit (positive s d.low d.high) d.straddled)

-- so is the number at byte 10 of its result
pub close_written : (s b rest : List ℕ) (j : Judged) → decision_of s ≡ Ok j → b ≡ result_bytes j.outcome ++ rest → CloseTo s (number b 10 2)
close_written s b rest j e written = rw (written, at_ten j.outcome rest) (close_to s j e)
