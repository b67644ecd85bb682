-- The part that is written is the line.
use Rattle.std.proofs.Common.{◌∙◌, ap, List, ℕ, subst, take}
use Rattle.line.specs.Line.{line_of_sheet}
use Rattle.program.specs.Streams.{GaveWhole}
use Rattle.program.proofs.Bytes.{take-onto}
use Rattle.program.proofs.print_line.Goals as goal

pub returns-clause-gave : goal.returns-clause-gave
returns-clause-gave g c =
    let n = c.sheet_line-n in
    subst (λ (l : List ℕ). GaveWhole (g.W.Write.contents c.args.output.now) (g.W.Write.contents c.write_whole.new.output) l c.write_whole.result)
    (ap (take n.result) n.ensures.bytes ∙ take-onto n.result (line_of_sheet c.args.sheet.now) c.args.line.now n.ensures.size.0)
    c.write_whole.ensures.gave
