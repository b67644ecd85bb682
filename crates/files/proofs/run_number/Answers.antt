-- A name in ASCII is text.
use Rattle.std.proofs.Common.{Result, Ok, Err, rules}
use Rattle.std.proofs.lemmas.Str.{IsUtf8-from_ascii}
use Rattle.std.specs.Result.{MatchResult, IsOk}
use Rattle.files.proofs.run_number.Goals as goal

not_err : {T E : Type 0} (P : T → Type 0) (Q : E → Type 0) (r : Result T E) → MatchResult r P Q → ((e : E) → Q e → ⊥) → IsOk r
not_err P Q (Ok x) m refuses = search rules
not_err P Q (Err e) m refuses = absurd (refuses e m)

pub unwrap-requires : goal.unwrap-requires
unwrap-requires g c = not_err _ _ c.from_utf8.result c.from_utf8.ensures.cases (λ e q. q.0 (IsUtf8-from_ascii c.name_of-name.result c.name_of-name.ensures))
