-- `decision::decide` meets its contract: rows 11 and 12 are the limit's, the others follow with the limit found. Assumes nothing.
use mathlib.Core.Path.{◌≡◌, sym, ◌∙◌}
use native.Mathlib.Omega.{arith}
use Rattle.std.specs.Prelude.{Ok}
use Rattle.sheet.specs.Sheet.{examined}
use Rattle.decision.specs.Decision.{decide_limited}
use Rattle.decision.proofs.Decisions.{decision_is}
use Rattle.decision.proofs.decide.Goals as goal

pub returns-in_err-limit : goal.returns-in_err-limit
unfolding decide_limited
returns-in_err-limit c =
    let e : examined c.args.sheet.now ≡ Ok c.in_ok-vehicle.field-0 = sym c.examine.ensures ∙ c.in_ok-vehicle.was in
    let d = decision_is c.args.sheet.now c.in_ok-vehicle.field-0 e in
    grind arith

pub returns : goal.returns
unfolding decide_limited
returns c =
    let e : examined c.args.sheet.now ≡ Ok c.in_ok-vehicle.field-0 = sym c.examine.ensures ∙ c.in_ok-vehicle.was in
    let d = decision_is c.args.sheet.now c.in_ok-vehicle.field-0 e in
    grind arith
