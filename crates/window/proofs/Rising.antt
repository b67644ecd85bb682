-- Runs and windows of which no level is lower. Assumes nothing.
use mathlib.Core.Path.{◌≡◌}
use Prim.Native.Nat.{◌≤◌}
use native.Mathlib.Omega.{arith}
use Rattle.window.specs.declared.ValidRun.{ValidRun}
use Rattle.window.specs.declared.Four.{Four}
use Rattle.window.specs.Windows.{larger_sum}

-- the same speeds, and neither level lower
pub record Risen (v v' : ValidRun) : Type 0 where
  pub left : v.left.0 ≤ v'.left.0
  pub right : v.right.0 ≤ v'.right.0
  pub start : v.start ≡ v'.start
  pub end : v.end ≡ v'.end

pub record FourRisen (f f' : Four) : Type 0 where
  pub a : Risen f.a f'.a
  pub b : Risen f.b f'.b
  pub c : Risen f.c f'.c
  pub d : Risen f.d f'.d

-- neither side's sum is lower
pub sum_rising : (f f' : Four) → FourRisen f f' → larger_sum f ≤ larger_sum f'
unfolding larger_sum
sum_rising f f' r = omega (arith, r.a.left, r.b.left, r.c.left, r.d.left, r.a.right, r.b.right, r.c.right, r.d.right)
