-- `sheet::Sheet::present` meets its contract: each gear of a run passed is marked, and no other. Assumes nothing.
use Rattle.std.proofs.Common.{◌≡◌, length}
use Rattle.sheet.proofs.Presence.{Marked}
use Rattle.sheet.proofs.Sheet.present.Given as goal

abbrev pub invariant-loop-i : goal.invariant-loop-i
invariant-loop-i l = (length l.seen ≡ 17) × Marked l.bytes l.last l.seen l.i
