-- A byte string over 32,768 bytes is refused for its size, so no part of a longer input is evaluated. Assumes nothing.
use Rattle.std.proofs.Common.{Err, ◌≡◌, sym, ap, ◌∙◌, true, List, [], ◌++◌, ℕ, ◌+◌, ◌≤◌, ◌<◌, length, take, replicate, arith, append-nil, length-append, lt-ltb, inl, inr}
use Rattle.std.proofs.Math.Nat.{eq-or-lt_of_le}
use Rattle.std.proofs.Math.Seq.{length-take-le}
use borrow.Author.Tests.{ne_eqb}
use Rattle.refusal.specs.declared.Refusal.TheVariants.{WrongSize}
use Rattle.sheet.specs.Sheet.{wrong_size, layouts}
use Rattle.sheet.proofs.Examinations.{row_2}
use Rattle.decision.specs.Decision.{Decision, decision_of}
use Rattle.decision.proofs.Decisions.{of_examination}
use Rattle.evaluation.specs.Answer.{answer_by, answer_for, answer_of, buffer_for, buffer_of}
use Rattle.text.specs.Text.{onto}
use Rattle.line.specs.Line.{line_of, line_of_sheet}
use Rattle.program.specs.Program.{Evaluated}

too_long : (s : List ℕ) → 32768 < length s → wrong_size s ≡ true
unfolding wrong_size
too_long s h = simp (ne_eqb (length s) 0 (λ e. omega arith), lt-ltb 32768 (length s) h)

refused : (s : List ℕ) → 32768 < length s → decision_of s ≡ Err WrongSize
refused s h = of_examination s WrongSize (row_2 layouts s (too_long s h))

pub long_refused : (s : List ℕ) → 32768 < length s → answer_of s 32 ≡ Err WrongSize
unfolding answer_of answer_by
long_refused s h = ap answer_by (refused s h)

-- they all have the line of that refusal
same_line : (s t : List ℕ) → 32768 < length s → 32768 < length t → line_of_sheet s ≡ line_of_sheet t
unfolding line_of_sheet answer_of buffer_of
same_line s t h k =
    ap (λ (d : Decision). line_of (answer_for d 32) (buffer_for d (replicate 32 0))) (refused s h ∙ sym (refused t k))

-- what the program owes of n bytes that it has read into its room and whose line it has laid out
pub evaluated : (n : ℕ) (sheet before after : List ℕ) → n ≤ length sheet → length sheet ≡ 32769 → after ≡ onto (line_of_sheet (take n sheet)) before → Evaluated sheet n before after
evaluated n sheet before after h room l =
    record { within = h; laid = l; full = λ e. long_refused (take n sheet) (rw (length-take-le n sheet h) (omega arith)) }

-- the line of the bytes that were read is that of the whole input, of which the rest is left
pub line_of_all : (sheet input rest : List ℕ) (n : ℕ) → length sheet ≡ 32769 → n ≤ length sheet → input ≡ take n sheet ++ rest → (n < length sheet → rest ≡ []) → line_of_sheet (take n sheet) ≡ line_of_sheet input
line_of_all sheet input rest n room h split end =
    let size : length (take n sheet) ≡ n = length-take-le n sheet h in
    let whole : length input ≡ n + length rest = ap length split ∙ length-append (take n sheet) rest ∙ ap (λ k. k + length rest) size in
    elim (eq-or-lt_of_le h) as (λ _. line_of_sheet (take n sheet) ≡ line_of_sheet input) [
      | inl full ↦ same_line (take n sheet) input (omega arith) (omega arith)
      | inr less ↦ ap line_of_sheet (sym (split ∙ ap (λ l. take n sheet ++ l) (end less) ∙ append-nil (take n sheet)))
    ]
