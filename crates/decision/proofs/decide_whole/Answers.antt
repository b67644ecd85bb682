-- `decision::decide_whole` meets its contract: rows 8 to 10 are decided from the table. Assumes nothing.
use mathlib.Core.Path.{◌≡◌, sym, ap, ◌∙◌}
use Rattle.std.specs.Prelude.{None, true}
use Rattle.reference.specs.Reference.{reference_at}
use Rattle.sheet.specs.Sheet.{any_acceleration}
use Rattle.session.specs.Session.{Session, without_window}
use Rattle.session.proofs.Tables.{Tabled, tabled}
use Rattle.decision.proofs.Decisions.{its_pmr, rows_8_to_10}
use Rattle.decision.proofs.decide_whole.Goals as goal

pub returns : goal.returns
returns c =
    let t : Session = c.args.session.now in
    let found = its_pmr c.args.pmr c.in-Some.in_range (sym c.new.ensures ∙ c.in-Some.is) in
    let reference : c.reference.result ≡ reference_at c.args.pmr = c.reference.ensures ∙ ap reference_at found.1 in
    let any : any_acceleration t.sheet ≡ true = cc in
    let here : Tabled t c.table-table.result = rw c.table-table.ensures (tabled t) in
    let without = here.without_window_is in
    let none : without_window t ≡ None = cc in
    let gears = here.gears none in
    let windows = here.windows none in
    let rows = rows_8_to_10 t c.args.pmr c.args.limit found.0 any none in
    cc
