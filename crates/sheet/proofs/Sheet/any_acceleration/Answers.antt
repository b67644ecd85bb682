-- `sheet::Sheet::any_acceleration` meets its contract: there is one if one is found. Assumes nothing.
use Rattle.std.proofs.Common.{is_some, ap, ◌∙◌}
use Rattle.record.specs.Records.{records}
use Rattle.sheet.specs.Sheet.{any_acceleration}
use Rattle.sheet.proofs.Presence.{any_found}
use Rattle.sheet.proofs.Sheet.any_acceleration.Goals as goal

pub returns : goal.returns
unfolding records
returns c = c.is_some.ensures ∙ ap is_some c.next_with.ensures ∙ any_found c.bytes-bytes.result.now _ c.bytes-bytes.ensures.runs_good.two c.byte.ensures ∙ ap any_acceleration c.bytes-bytes.ensures.value
