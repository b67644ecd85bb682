-- Calls in a row gave the last answer; the function may be called again.
use Rattle.program.specs.Program.{Retried}
use Rattle.program.proofs.retry.Given as goal

abbrev pub invariant-loop : goal.invariant-loop
invariant-loop g l =
    goal.F-IsAlwaysCallable g l.call × Retried (goal.F-step g) l.fn.call l.got l.call
