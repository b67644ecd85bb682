-- A sheet is either accepted or refused and never both; one that its bytes refuse has no L_urban, and a refusal keeps the buffer. Assumes
-- nothing.
use mathlib.Core.Path.{◌≡◌, refl, sym, ◌∙◌}
use mathlib.Core.Bool.{Bool, true, false, cond}
use mathlib.Core.List.{List}
use mathlib.Core.Logic.{◌⊎◌, inl, inr}
use Prim.Native.Nat.{ℕ}
use lib.Dec.{ltb}
use lib.ListN.{length}
use Rattle.std.specs.Prelude.{Ok, Err}
use Rattle.refusal.specs.declared.Refusal.{Refusal}
use Rattle.refusal.specs.declared.Refusal.TheVariants as refusal
use Rattle.refusal.specs.Refusal.{Answer}
use Rattle.decision.specs.Decision.{Decision, decision_of}
use Rattle.evaluation.specs.Answer.{answer_by, answer_of, buffer_by, buffer_of, IsAccepted, IsRefused, HasLUrban}

pub one_holds : (s : List ℕ) (size : ℕ) → IsAccepted s size ⊎ IsRefused s size
one_holds s size = by (answer_of s size) refl
  where
    by : (a : Answer) → answer_of s size ≡ a → IsAccepted s size ⊎ IsRefused s size
    by (Ok tt) e = inl e
    by (Err r) e = inr (record { refusal = r; is = e })

pub not_both : (s : List ℕ) (size : ℕ) → IsAccepted s size → IsRefused s size → ⊥
not_both s size a r = let e : ◌≡◌ {A = Answer} (Ok tt) (Err r.refusal) = sym a ∙ r.is in cc

pub no_l_urban : (s : List ℕ) (r : Refusal) (level : ℕ) → decision_of s ≡ Err r → HasLUrban s level → ⊥
no_l_urban s r level e h =
    let same : Err r ≡ Ok h.judged = sym e ∙ h.decided in
    cc

pub buffer_kept : (s b : List ℕ) → IsRefused s (length b) → buffer_of s b ≡ b
unfolding answer_of buffer_of answer_by buffer_by
buffer_kept s b r = by (ltb (length b) 32) (decision_of s) r.is
  where
    by : (t : Bool) (d : Decision) → cond t (Err refusal.ShortBuffer) (answer_by d) ≡ Err r.refusal → cond t b (buffer_by d b) ≡ b
    by true d e = refl
    by false (Err x) e = refl
    by false (Ok j) e = cc
