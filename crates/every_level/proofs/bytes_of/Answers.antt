-- The bytes of a pattern make the pattern.
use Rattle.std.proofs.Common.{arith}
use Rattle.units.specs.Bytes.{number}
use Rattle.every_level.proofs.bytes_of.Goals as goal

pub returns : goal.returns
unfolding number
returns c = rw c.to_le_bytes.ensures (omega arith)
