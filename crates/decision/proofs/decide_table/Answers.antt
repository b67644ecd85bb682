-- `decision::decide_table` meets its contract: the accelerations of a pair that the rules choose lie on both sides of a_ref. Assumes nothing.
use native.Mathlib.Omega.{arith}
use Rattle.session.specs.Session.{Session, gears_in, windows_in}
use Rattle.decision.proofs.Selections.{chosen_straddled}
use Rattle.decision.proofs.decide_table.Goals as goal

pub basis_of-basis-requires : goal.basis_of-basis-requires
basis_of-basis-requires c =
    let t : Session = c.args.session.now in
    let gs = gears_in c.args.table.now in
    let ws = windows_in c.args.table.now in
    chosen_straddled c.args.reference t gs ws c.in_ok-chosen.chosen (grind arith)
