-- `units::number32` meets its contract: `from_le_bytes` adds up the bytes as `number` does. Assumes nothing.
use native.Mathlib.Omega.{arith}
use native.Mathlib.Nat.{add_assoc}
use Rattle.units.specs.Bytes.{number}
use Rattle.units.proofs.number32.Goals as goal

pub returns : goal.returns
unfolding number
returns c = simp add_assoc (omega (arith, c.from_le_bytes.ensures))
