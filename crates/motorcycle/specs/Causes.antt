-- What each verdict on four levels stands for: the cause of a refusal, or that there is none.
use Rattle.std.specs.Prelude.{◌≡◌, ℕ, ◌*◌, leb, Ok, Err}
use Rattle.units.specs.Tests.{FirstOf, NoneOf}
use Rattle.motorcycle.specs.declared.Levels.{Levels}
use Rattle.motorcycle.specs.declared.LevelRefusal.TheVariants.{LevelOutOfRange, SideFarApart}
use Rattle.motorcycle.specs.Verdict.{Verdict, outside, side_far_apart, quarters_of}

abbrev pub Cause : Levels → ℕ → Verdict → Type 0
-- level n is out of range, and those before it are in range
Cause x limit (Err (LevelOutOfRange n)) = FirstOf (outside x) 4 1 n
-- all four are in range, the two of this side differ by more than 2 dB, and those of no side before it do
Cause x limit (Err (SideFarApart side)) = NoneOf (outside x) 4 1 × FirstOf (side_far_apart x) 2 1 side
-- all four are in range, the two of neither side differ by more than 2 dB, the mean is theirs, and it passes if it is not above the limit
Cause x limit (Ok judged) = NoneOf (outside x) 4 1 × NoneOf (side_far_apart x) 2 1 × (judged.mean.0 ≡ quarters_of x) × (judged.pass ≡ leb (quarters_of x) (4 * limit))
