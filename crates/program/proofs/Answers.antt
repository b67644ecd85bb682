-- What the answers of read and write mean. Assumes nothing.
use Rattle.std.proofs.Common.{ℕ, ◌≤◌, List, length, Ok, Err, IfOk}
use Rattle.std.specs.Io.{ReadsAtMost}
use Rattle.program.specs.Program.{Transfer, Within}

-- an answer that the system may give for so many bytes is within them
pub moved_within : (room : ℕ) (r : Transfer) → IfOk r (λ n. n ≤ room) → Within room r
moved_within room (Ok n) m = m
moved_within room (Err e) m = tt

pub read_within : (piece : List ℕ) (r : Transfer) → ReadsAtMost r piece → Within (length piece) r
read_within piece (Ok n) m = m.0
read_within piece (Err e) m = tt
