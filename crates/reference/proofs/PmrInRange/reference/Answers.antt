-- The number and the two accelerations are what the three functions return, and the record of the three is the one that the definition makes.
use Rattle.std.proofs.Common.{ℕ, ap, ap₂, ◌∙◌}
use Rattle.reference.specs.declared.Reference.{Reference}
use Rattle.reference.specs.Reference.{reference_at}
use Rattle.reference.proofs.PmrInRange.reference.Goals as goal

-- the three as one
made : ℕ → ℕ → ℕ → Reference
made q u r = record { pmr = q; a_urban = record { 0 = u }; a_ref = record { 0 = r } }

pub returns : goal.returns
unfolding reference_at made
returns c = ap (λ (q : ℕ). made q c.a_urban.result.0 c.a_ref.result.0) c.tenths.ensures.value ∙ ap₂ (made c.args.self) c.a_urban.ensures c.a_ref.ensures
