-- `units::number16` meets its contract: `from_le_bytes` adds up the bytes as `number` does. Assumes nothing.
use native.Mathlib.Omega.{arith}
use Rattle.units.specs.Bytes.{number}
use Rattle.units.proofs.number16.Goals as goal

pub returns : goal.returns
unfolding number
returns c = omega (arith, c.from_le_bytes.ensures)
