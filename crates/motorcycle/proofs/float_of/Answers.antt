-- `motorcycle::float_of` meets its contract: 0 / 0 is a NaN, and so is the float of every pattern of one. Assumes nothing.
use mathlib.Core.Path.{◌≡◌, refl, ◌∙◌}
use mathlib.Core.Bool.{true, false≢true}
use lib.Ieee.{Float, nan, inf, fin, binary32, div, of_bits, is_nan}
use Rattle.level.proofs.Range.{nan_pattern, no_nan}
use Rattle.motorcycle.proofs.float_of.Goals as goal

-- there is one NaN
one_nan : (x : Float) → is_nan x ≡ true → nan ≡ x
unfolding is_nan
one_nan nan e = refl
one_nan (inf s) e = absurd (false≢true e)
one_nan (fin s m d) e = absurd (false≢true e)

made : div binary32 (of_bits binary32 0) (of_bits binary32 0) ≡ nan
unfolding div of_bits
made = refl

pub returns-then-pattern-gt2139095040 : goal.returns-then-pattern-gt2139095040
returns-then-pattern-gt2139095040 c = made ∙ one_nan _ (nan_pattern _ c.if-pattern-gt2139095040.true)

pub float_from_bits-result : goal.float_from_bits-result
float_from_bits-result c = rw (no_nan _ c.if-pattern-gt2139095040.false) tt
