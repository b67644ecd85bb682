-- The runs of an acceleration window are not slower at BB': the run records of the sheet are good.
use Rattle.std.proofs.Common.{rules, ◌≡◌, Ok, refl}
use Rattle.record.specs.declared.RunKind.TheVariants.{Acceleration}
use Rattle.valid_runs.proofs.Members.{window_not_slower}
use Rattle.session.specs.Session.{session_of, window_in}
use Rattle.session.proofs.Session.by_window.Goals as goal

pub acceleration-requires-clause-not_slower : goal.acceleration-requires-clause-not_slower
acceleration-requires-clause-not_slower c =
    let t = c.self.inside in
    let found : window_in (session_of t.sheet t.track) Acceleration c.args.gear ≡ Ok c.in-Ok.window = search rules in
    window_not_slower t.sheet _ c.in-Ok.window c.self.invariant.0 refl found
