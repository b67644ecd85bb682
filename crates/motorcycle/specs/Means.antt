-- What holds of the means: how large they are, and that they rise with the levels.
use Rattle.std.specs.Prelude.{◌≡◌, true, false, ℕ, ◌≤◌, ◌<◌, Ok}
use Rattle.std.specs.Float.Ieee.{lt}
use Rattle.motorcycle.specs.declared.Levels.{Levels}
use Rattle.motorcycle.specs.declared.JudgedMean.{JudgedMean}
use Rattle.motorcycle.specs.Verdict.{level_at, verdict_of}

-- every mean is from 19 to 139 dB
abbrev pub MeansWithinEnds : Type 0
MeansWithinEnds = (x : Levels) (limit : ℕ) (m : JudgedMean) → verdict_of x limit ≡ Ok m → (76 ≤ m.mean.0) × (m.mean.0 ≤ 556)

-- y is louder than x, or the same: no level of y is below the one of x with its number
abbrev pub Louder : Levels → Levels → Type 0
Louder x y = (n : ℕ) → 1 ≤ n → n < 5 → lt (level_at y n) (level_at x n) ≡ false

-- where both are judged against one limit, louder levels have no lower mean, and they pass only if the softer ones do
abbrev pub MeansRise : Type 0
MeansRise = (x y : Levels) (limit : ℕ) (m n : JudgedMean) → verdict_of x limit ≡ Ok m → verdict_of y limit ≡ Ok n → Louder x y → (m.mean.0 ≤ n.mean.0) × (n.pass ≡ true → m.pass ≡ true)
