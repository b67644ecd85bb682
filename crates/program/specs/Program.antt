-- What the program's contracts cite: the answers of read and write, and the line of the bytes that were read.
use Rattle.std.specs.Prelude.{◌≡◌, Bool, true, false, List, ℕ, ◌≤◌, length, take, Result, Ok, Err}
use Rattle.std.specs.IoError.{error_kind}
use Rattle.std.specs.declared.io.Error.{Error}
use Rattle.std.specs.declared.io.ErrorKind.{ErrorKind}
use Rattle.std.specs.declared.io.ErrorKind.TheVariants.{Interrupted}
use Rattle.refusal.specs.declared.Refusal.TheVariants.{WrongSize}
use Rattle.evaluation.specs.Answer.{answer_of}
use Rattle.text.specs.Text.{onto}
use Rattle.line.specs.Line.{line_of_sheet}
use Rattle.program.specs.declared.Printed.{Printed}
use Rattle.program.specs.declared.Failure.{Failure}
use Rattle.program.specs.declared.Failure.TheVariants.{NotRead, NotWritten}

-- what a call of read or write came to: the number of bytes that it moved, or why it failed
abbrev pub Transfer : Type 0
Transfer = Result ℕ Error

-- what became of the job
abbrev pub Ending : Type 0
Ending = Result Printed Failure

-- the kind of error of an interrupted call, EINTR
unfoldable pub is_eintr : ErrorKind → Bool
is_eintr Interrupted = true
is_eintr _ = false

-- an error of that kind
unfoldable pub interrupted_by : Transfer → Bool
interrupted_by (Ok n) = false
interrupted_by (Err e) = is_eintr (error_kind e)

-- Calls in a row took one state to another, and the last of them gave this answer: each before it was interrupted.
pub data Retried {F : Type 0} (call : F → Transfer → F → Type 0) : F → Transfer → F → Type 0 where
  once : {old new : F} {r : Transfer} → call old r new → Retried call old r new
  again : {old mid new : F} {r s : Transfer} → Retried call old r mid → interrupted_by r ≡ true → call mid s new → Retried call old s new

-- no more bytes than there is room for
abbrev pub Within : ℕ → Transfer → Type 0
Within room (Ok n) = n ≤ room
Within room (Err e) = Unit {0}

-- so many bytes and no fewer, or a failure
abbrev pub Exactly : ℕ → Transfer → Type 0
Exactly size (Ok n) = n ≡ size
Exactly size (Err e) = Unit {0}

-- The first n of the lent bytes were counted as read, and their line is laid out on the bytes lent for it. An input that fills the room may go on;
-- it is refused for its size.
pub record Evaluated (sheet : List ℕ) (n : ℕ) (before after : List ℕ) : Type 0 where
  pub within : n ≤ length sheet
  pub laid : after ≡ onto (line_of_sheet (take n sheet)) before
  pub full : n ≡ length sheet → answer_of (take n sheet) 32 ≡ Err WrongSize

-- A line is printed if as many bytes were written as the line of the bytes read has. If they were not read, no line is laid out.
abbrev pub Ran : List ℕ → List ℕ → List ℕ → Ending → Type 0
Ran sheet before after (Ok p) = Evaluated sheet p.read before after × (p.written ≡ length (line_of_sheet (take p.read sheet)))
Ran sheet before after (Err (NotWritten n e)) = Evaluated sheet n before after
Ran sheet before after (Err (NotRead e)) = after ≡ before
