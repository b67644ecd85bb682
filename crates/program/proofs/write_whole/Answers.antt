-- A piece goes behind those before it.
use Rattle.std.proofs.Common.{arith, length-take, length-drop}
use Rattle.std.proofs.lemmas.List.{take_rest}
use Rattle.program.proofs.Bytes.{Appends-on}
use Rattle.program.proofs.write_whole.Goals as goal

pub loop-at-preserved : goal.loop-at-preserved
loop-at-preserved g c =
    let r = c.in_ok-n.ensures in
    (omega (arith, simp (length-take, length-drop) at r.within), Appends-on _ _ _ c.loop-at.at c.in_ok-n.n c.args.bytes.now c.loop-at.invariant.1 (rw (take_rest c.args.bytes.now c.loop-at.at) at r.gave))
