-- The loop of `window::first_window`: no four neighbours before place i fit.
use mathlib.Core.Path.{◌≡◌}
use mathlib.Core.Bool.{false}
use Prim.Native.Nat.{ℕ, ◌<◌}
use Rattle.window.specs.Windows.{fitting, four_at}
use Rattle.window.proofs.first_window.Given as goal

abbrev pub invariant-loop-i : goal.invariant-loop-i
invariant-loop-i l = (k : ℕ) → k < l.i → fitting (four_at l.runs k) ≡ false
