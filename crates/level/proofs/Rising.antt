-- A level that is not smaller has no fewer tenths; the tenths of a level in range are from 200 to 1400. Assumes nothing.
use mathlib.Core.Path.{◌≡◌}
use mathlib.Core.Bool.{true, false}
use Prim.Native.Nat.{ℕ, ◌*◌, ◌≤◌}
use native.Mathlib.Omega.{arith}
use lib.Dec.{T, lit<}
use lib.Ieee.{Float, nan, inf, fin, up, down, lt}
use lib.Ieee.Fits.{down_pos}
use borrow.Author.Tests.{ltb-false}
use Rattle.units.specs.Rounding.{rounded}
use Rattle.units.proofs.Rounding.{rounded_rising}
use Rattle.level.specs.Reading.{in_range}
use Rattle.level.specs.Level.{tenths_of}
use Rattle.level.proofs.Scaled.{ends}

-- a / d ≤ b / e, ten times
tenfold : (a b d e : ℕ) → a * e ≤ b * d → 10 * a * e ≤ 10 * b * d
tenfold a b d e h = omega arith

-- of two levels, if the second is not smaller, its tenths are not fewer
pub tenths_rising : (x y : Float) → T (in_range x) → T (in_range y) → lt y x ≡ false → tenths_of x ≤ tenths_of y
unfolding in_range tenths_of lt
tenths_rising nan y p q h = absurd p
tenths_rising (inf s) y p q h = absurd p
tenths_rising (fin true m e) y p q h = absurd p
tenths_rising (fin false m e) nan p q h = absurd q
tenths_rising (fin false m e) (inf t) p q h = absurd q
tenths_rising (fin false m e) (fin true n d) p q h = absurd q
tenths_rising (fin false m e) (fin false n d) p q h =
    rounded_rising (10 * (m * up e)) (down e) (10 * (n * up d)) (down d) (down_pos e) (down_pos d)
    (tenfold (m * up e) (n * up d) (down e) (down d) (ltb-false (n * up d * down e) (m * up e * down d) h))

pub tenths_range : (x : Float) → T (in_range x) → (200 ≤ tenths_of x) × (tenths_of x ≤ 1400)
unfolding in_range tenths_of rounded
tenths_range nan r = absurd r
tenths_range (inf s) r = absurd r
tenths_range (fin true m e) r = absurd r
tenths_range (fin false m e) r =
    let d = down e in
    let a = m * up e in
    let range = ends m e r in
    (rounded_rising 200 1 (10 * a) d (lit< tt) (down_pos e) (omega arith), rounded_rising (10 * a) d 1400 1 (down_pos e) (lit< tt) (omega arith))
