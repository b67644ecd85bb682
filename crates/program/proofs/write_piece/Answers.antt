-- An interrupted call wrote nothing, and each call leaves the closure the references that it holds. Assumes nothing.
use Rattle.std.proofs.Common.{rules, of_calls, ◌≡◌, sym, subst, ◌∙◌}
use Rattle.std.specs.Io.{WritesAtMost}
use Rattle.std.specs.Io.KnownBytes.{WriteAppends}
use Rattle.program.proofs.Retries.{retried_does}
use Rattle.program.proofs.Bytes.{interrupted_write}
use Rattle.program.proofs.write_piece.Goals as goal

pub returns : goal.returns
returns g c =
    let h =
    retried_does _
    (λ old r new. (new.0.ghost_name ≡ old.0.ghost_name) × (new.1.now ≡ old.1.now) × WritesAtMost r old.1.now × WriteAppends (g.W.Write.contents old.0.now) (g.W.Write.contents new.0.now) r old.1.now)
    (λ old new r h. search (rules, of_calls))
    (λ old mid new r s i p q. (q.0 ∙ p.0, q.1 ∙ p.1, subst (WritesAtMost s) p.1 q.2, interrupted_write _ _ _ _ r s (sym i) p.3 (subst (WriteAppends (g.W.Write.contents mid.0.now) (g.W.Write.contents new.0.now) s) p.1 q.3)))
    _ _ _ c.retry.ensures in
    let output = h.0 in
    let piece = h.1 in
    let bound = h.2 in
    let bytes = h.3 in
    record { within = search rules; gave = search rules }
