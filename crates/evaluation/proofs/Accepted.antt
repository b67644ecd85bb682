-- An accepted sheet decides on a result, which stands at the front of the buffer. Assumes nothing.
use mathlib.Core.Path.{◌≡◌, refl}
use mathlib.Core.Bool.{Bool, true, false, cond}
use mathlib.Core.List.{List, ◌++◌}
use Prim.Native.Nat.{ℕ}
use lib.Dec.{ltb}
use lib.ListN.{length, drop}
use Rattle.std.specs.Prelude.{Ok, Err}
use Rattle.refusal.specs.declared.Refusal.TheVariants as refusal
use Rattle.result.specs.Result.{result_bytes}
use Rattle.decision.specs.declared.Judged.{Judged}
use Rattle.decision.specs.Decision.{Decision, decision_of}
use Rattle.evaluation.specs.Answer.{answer_by, answer_of, buffer_by, buffer_of}

pub record ReportedIn (s b : List ℕ) : Type 0 where
  pub judged : Judged
  pub decides : decision_of s ≡ Ok judged
  pub bytes : buffer_of s b ≡ result_bytes judged.outcome ++ drop 32 b

pub reported_in : (s b : List ℕ) → answer_of s (length b) ≡ Ok tt → ReportedIn s b
unfolding answer_of buffer_of answer_by buffer_by
reported_in s b a = by (ltb (length b) 32) (decision_of s) refl refl a
  where
    by : (t : Bool) (d : Decision) → ltb (length b) 32 ≡ t → decision_of s ≡ d → cond t (Err refusal.ShortBuffer) (answer_by d) ≡ Ok tt → ReportedIn s b
    by true d e f k = cc
    by false (Err r) e f k = cc
    by false (Ok j) e f k = record { judged = j; decides = f; bytes = rw (e, f) refl }
