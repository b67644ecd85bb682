-- The record is as long as the part of `res` that it is copied to. Assumes nothing.
use mathlib.Core.Path.{sym, ap, ◌∙◌}
use lib.ListN.{length}
use Rattle.std.proofs.lemmas.List.{length-take-le}
use Rattle.result.proofs.Results.{result_long}
use Rattle.result.proofs.write.Goals as goal

pub copy_from_slice-requires : goal.copy_from_slice-requires
copy_from_slice-requires c = length-take-le 32 c.args.res.now c.requires ∙ sym (ap length c.result_bytes.ensures ∙ result_long c.args.outcome)
