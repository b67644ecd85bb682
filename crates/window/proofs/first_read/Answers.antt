-- `window::first_read` meets its contract. Assumes nothing.
use Rattle.window.proofs.HeldExtremes.{first_extremes}
use Rattle.window.proofs.first_read.Goals as goal

pub returns : goal.returns
returns c = first_extremes c.args.level
