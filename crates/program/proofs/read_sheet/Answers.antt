-- A piece goes behind those before it.
use Rattle.std.proofs.Common.{arith}
use Rattle.program.proofs.Bytes.{Consumes-on}
use Rattle.program.proofs.read_sheet.Goals as goal

pub loop-at-preserved : goal.loop-at-preserved
loop-at-preserved g c =
    let r = c.in_ok-n.ensures in
    (omega (arith, r.within), Consumes-on _ _ _ c.loop-at.at c.in_ok-n.n c.loop-at.sheet _ c.loop-at.invariant.1 r.kept r.took.0)
