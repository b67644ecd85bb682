-- Answers with one number for each missing window, and with two. Assumes nothing.
use mathlib.Core.Path.{◌≡◌, refl, ap}
use Prim.Native.Nat.{ℕ}
use lib.ListN.{length}
use Rattle.std.specs.Prelude.{Ok, Err}
use Rattle.refusal.specs.declared.Shortage.TheVariants.{TooFew, TooWide}
use Rattle.refusal.specs.declared.Refusal.{Refusal}
use Rattle.refusal.specs.declared.Refusal.TheVariants as refusal
use Rattle.refusal.specs.Refusal.{number_by, window_numbers, Answer, answer_number_by, answer_place}
use Rattle.evaluation.specs.Answer.{answer_of, buffer_of}
use Rattle.evaluation.specs.OneNumber.{one_number, together, KeptButForShortages, ByOneNumber}
use Rattle.evaluation.proofs.Rows.{only_on_its_cause, always_on_its_cause}

of_refusal : (r : Refusal) → number_by one_number r ≡ together (number_by window_numbers r)
unfolding together
of_refusal refusal.ShortBuffer = refl
of_refusal refusal.WrongSize = refl
of_refusal refusal.NoVehicle = refl
of_refusal (refusal.NoClosing n) = refl
of_refusal (refusal.BrokenRecord n) = refl
of_refusal refusal.NoLimitForN1 = refl
of_refusal refusal.NoLimitEntry = refl
of_refusal refusal.PmrOutOfRange = refl
of_refusal refusal.NoRun = refl
of_refusal (refusal.NoWindow g TooFew) = refl
of_refusal (refusal.NoWindow g TooWide) = refl
of_refusal (refusal.NotFalling g) = refl
of_refusal refusal.NoRule = refl
of_refusal (refusal.NoConstantSpeed g TooFew) = refl
of_refusal (refusal.NoConstantSpeed g TooWide) = refl

of_answer : (a : Answer) → answer_number_by one_number a ≡ together (answer_number_by window_numbers a)
unfolding together
of_answer (Ok tt) = refl
of_answer (Err r) = of_refusal r

pub kept_but_for_shortages : KeptButForShortages
kept_but_for_shortages s b =
    let a = answer_of s (length b) in
    ap (λ (n : ℕ). record { number = n; place = answer_place a; buffer = buffer_of s b }) (of_answer a)

pub by_one_number : ByOneNumber
by_one_number s b n p h = (λ e. only_on_its_cause one_number s (length b) n p h e.0 e.1, always_on_its_cause one_number s (length b) n p)
