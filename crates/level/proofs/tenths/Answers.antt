-- `level::tenths` meets its contract: an `f64` holds the level, which is no NaN. Assumes nothing.
use borrow.Author.Rules.{rules}
use Rattle.level.proofs.Scaled.{scaled}
use Rattle.level.proofs.tenths.Goals as goal

pub float_to_float-n : goal.float_to_float-n
float_to_float-n c = let n = (scaled c.args.x c.type_inv.x c.requires).number in search rules
