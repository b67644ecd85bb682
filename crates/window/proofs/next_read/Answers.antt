-- `window::next_read` meets its contract. Assumes nothing.
use Rattle.std.proofs.Common.{rules}
use Rattle.window.proofs.HeldExtremes.{next_extremes}
use Rattle.window.proofs.next_read.Goals as goal

pub returns : goal.returns
returns c others h = next_extremes others _ _ _ (search rules) (search rules) h
