-- What the caller gets: the answer, and every byte of the buffer (document 01, "Refusals and what remains").
use Rattle.std.specs.Prelude.{◌≡◌, cond, List, ◌++◌, ℕ, ltb, length, drop, Ok, Err}
use Rattle.refusal.specs.declared.Refusal.{Refusal}
use Rattle.refusal.specs.declared.Refusal.TheVariants.{ShortBuffer}
use Rattle.refusal.specs.Refusal.{Answer}
use Rattle.result.specs.Result.{result_bytes}
use Rattle.decision.specs.declared.Judged.{Judged}
use Rattle.decision.specs.Decision.{Decision, decision_of}

unfoldable pub answer_by : Decision → Answer
answer_by (Err r) = Err r
answer_by (Ok j) = Ok tt

-- row 1: a buffer under 32 bytes; then the decision
abbrev pub answer_for : Decision → ℕ → Answer
answer_for d size = cond (ltb size 32) (Err ShortBuffer) (answer_by d)

unfoldable pub answer_of : List ℕ → ℕ → Answer
answer_of s size = answer_for (decision_of s) size

-- on a refusal the buffer stays as it was; on success the result stands in its first 32 bytes, and the others stay
unfoldable pub buffer_by : Decision → List ℕ → List ℕ
buffer_by (Err r) b = b
buffer_by (Ok j) b = result_bytes j.outcome ++ drop 32 b

abbrev pub buffer_for : Decision → List ℕ → List ℕ
buffer_for d b = cond (ltb (length b) 32) b (buffer_by d b)

unfoldable pub buffer_of : List ℕ → List ℕ → List ℕ
buffer_of s b = buffer_for (decision_of s) b

-- ---- accepted, refused, and L_urban

-- with a result buffer of this size
abbrev pub IsAccepted : List ℕ → ℕ → Type 0
IsAccepted s size = answer_of s size ≡ Ok tt

pub record IsRefused (s : List ℕ) (size : ℕ) : Type 0 where
  pub refusal : Refusal
  pub is : answer_of s size ≡ Err refusal

-- the decision for a sheet's bytes has this L_urban
pub record HasLUrban (s : List ℕ) (level : ℕ) : Type 0 where
  pub judged : Judged
  pub decided : decision_of s ≡ Ok judged
  pub is : judged.outcome.l_urban ≡ level
