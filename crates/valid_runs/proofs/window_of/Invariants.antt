-- `valid_runs::window_of` meets its contract: the runs that are kept, and those to come, stand for all. Assumes nothing.
use Rattle.std.proofs.Common.{◌-◌, ◌≤◌, ◌<◌}
use Rattle.arrayvec.specs.ArrayVec.{array_vec_len}
use Rattle.valid_runs.proofs.Seeking.{Sought}
use Rattle.valid_runs.proofs.window_of.Given as goal

abbrev pub invariant-loop-i : goal.invariant-loop-i
invariant-loop-i l =
    record {
      room : array_vec_len l.runs < 16;
      first : 1 ≤ l.from;
      past : l.from ≤ l.last;
      kept : Sought l.bytes l.condition l.last l.runs.items l.carried l.from;
    }

abbrev pub decreases-loop-i : goal.decreases-loop-i
decreases-loop-i l = l.last - l.from
