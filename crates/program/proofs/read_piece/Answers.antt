-- An interrupted call read nothing, and each call leaves the closure the references that it holds. Assumes nothing.
use Rattle.std.proofs.Common.{rules, of_calls, ◌≡◌, sym, ◌∙◌}
use Rattle.std.specs.Io.{ReadsAtMost}
use Rattle.std.specs.Io.KnownBytes.{ReadConsumes}
use Rattle.program.proofs.Retries.{retried_does}
use Rattle.program.proofs.Bytes.{interrupted_read}
use Rattle.program.proofs.read_piece.Goals as goal

pub returns : goal.returns
returns g c =
    let h =
    retried_does _
    (λ old r new. (new.0.ghost_name ≡ old.0.ghost_name) × (new.1.ghost_name ≡ old.1.ghost_name) × ReadsAtMost r new.1.now × ReadConsumes (g.R.Read.remaining old.0.now) (g.R.Read.remaining new.0.now) r new.1.now)
    (λ old new r h. search (rules, of_calls))
    (λ old mid new r s i p q. (q.0 ∙ p.0, q.1 ∙ p.1, q.2, interrupted_read _ _ _ _ _ r s (sym i) p.3 q.3))
    _ _ _ c.retry.ensures in
    let input = h.0 in
    let piece = h.1 in
    let bound = h.2 in
    let bytes = h.3 in
    record { within = search rules; took = search rules }
