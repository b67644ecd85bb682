-- What is evaluated are the bytes that were read. Assumes nothing.
use Rattle.std.proofs.Common.{rules, arith, ◌≡◌, ◌∙◌, Result, Ok, Err}
use Rattle.std.specs.Result.{MatchResult, IsErrAnd}
use Rattle.program.specs.Program.{Evaluated}
use Rattle.program.proofs.Room.{evaluated}
use Rattle.program.proofs.run.Goals as goal

-- a success was the same success before its error was mapped
ok_before : {T E D : Type 0} (P : E → D → Type 0) (r : Result T E) (s : Result T D) (x : T) → MatchResult r (λ y. s ≡ Ok y) (λ e. IsErrAnd s (P e)) → s ≡ Ok x → r ≡ Ok x
ok_before P (Ok y) s x m e = cc
ok_before P (Err e) s x m h = absurd (rw h at m)

pub returns-clause-ran : goal.returns-clause-ran
returns-clause-ran g c =
    let r = c.read_sheet in
    let within = rw (ok_before _ r.result c.map_err.result c.in_ok-read.read c.map_err.ensures.cases c.in_ok-read.was) at r.ensures.within in
    let room = r.auto.sheet ∙ c.told-sheet in
    (evaluated c.in_ok-read.read r.new.sheet _ _ (omega arith) room c.print_line-put.ensures.laid, search rules)

pub returns-in_err-written-clause-ran : goal.returns-in_err-written-clause-ran
returns-in_err-written-clause-ran g c =
    let r = c.read_sheet in
    let within = rw (ok_before _ r.result c.map_err.result c.in_ok-read.read c.map_err.ensures.cases c.in_ok-read.was) at r.ensures.within in
    let room = r.auto.sheet ∙ c.told-sheet in
    let e : Evaluated r.new.sheet c.in_ok-read.read c.args.line.now c.print_line-put.new.line = evaluated c.in_ok-read.read r.new.sheet _ _ (omega arith) room c.print_line-put.ensures.laid in
    search rules
