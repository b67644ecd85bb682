-- The driven examples of document 01 and of document 02's wish 2 on levels, computed from the definitions. Floats are written by their
-- bit patterns. Assumes nothing.
use mathlib.Core.Path.{◌≡◌, refl}
use mathlib.Core.Bool.{Bool, true, false, ◌&&◌, not}
use Prim.Native.Nat.{ℕ}
use lib.Dec.{T, eqb}
use lib.Ieee.{binary32, of_bits}
use Rattle.units.specs.Rounding.{rounded}
use Rattle.std.proofs.Common.{Option, Some, None}
use Rattle.level.specs.declared.Reading.{Reading}
use Rattle.level.specs.Reading.{in_range, reading_of}
use Rattle.level.specs.Level.{tenths_of, corrections, correction_of, corrected_side}

tenths_of_pattern : ℕ → ℕ
unfolding tenths_of of_bits rounded
tenths_of_pattern p = tenths_of (of_bits binary32 p)

-- 72.25 gives 72.3, 72.125 gives 72.1; the ends of the range are themselves
rounding : T (eqb (tenths_of_pattern 0x4290_8000) 723 && eqb (tenths_of_pattern 0x4290_4000) 721 && eqb (tenths_of_pattern 0x41a0_0000) 200 && eqb (tenths_of_pattern 0x430c_0000) 1400)
unfolding tenths_of_pattern
rounding = tt

-- the first and the last difference that each entry of the table stands for, and the first past its end
ends_of_entries :
    T
    (eqb (correction_of 100) 5
    && eqb (correction_of 104) 5
    && eqb (correction_of 105) 4
    && eqb (correction_of 114) 4
    && eqb (correction_of 115) 3
    && eqb (correction_of 124) 3
    && eqb (correction_of 125) 2
    && eqb (correction_of 134) 2
    && eqb (correction_of 135) 1
    && eqb (correction_of 144) 1
    && eqb (correction_of 145) 0
    && eqb (correction_of 154) 0
    && eqb (correction_of 155) 0)
unfolding correction_of corrections rounded
ends_of_entries = tt

-- over 40.0: d 10.9 takes 0.4 off, d 15.0 nothing, d 10.0 counts, d 9.9 and d 9.5 do not, nor does a level below its background
d_10_9 : corrected_side 509 400 ≡ Some (record { 0 = 505 })
unfolding corrected_side correction_of corrections rounded
d_10_9 = refl

d_15_0 : corrected_side 550 400 ≡ Some (record { 0 = 550 })
unfolding corrected_side correction_of corrections rounded
d_15_0 = refl

d_10_0 : corrected_side 500 400 ≡ Some (record { 0 = 495 })
unfolding corrected_side correction_of corrections rounded
d_10_0 = refl

d_9_9 : corrected_side 499 400 ≡ None
unfolding corrected_side
d_9_9 = refl

d_9_5 : corrected_side 495 400 ≡ None
unfolding corrected_side
d_9_5 = refl

below_background : corrected_side 300 400 ≡ None
unfolding corrected_side
below_background = refl

-- ---- readings

broken : Option Reading → Bool
broken (Some r) = false
broken None = true

-- broken: -0.0 under kind 0, kind 3, a NaN, both infinities, -72.25, the float just below 20.0, the one just above 140.0
refused :
    T
    (broken (reading_of 0 0x8000_0000)
    && broken (reading_of 3 0x4290_8000)
    && broken (reading_of 1 0x7fc0_0000)
    && broken (reading_of 2 0x7f80_0000)
    && broken (reading_of 1 0xff80_0000)
    && broken (reading_of 1 0xc290_8000)
    && broken (reading_of 1 0x419f_ffff)
    && broken (reading_of 2 0x430c_0001))
unfolding broken reading_of of_bits in_range
refused = tt

-- good: both ends of the range, and four zero bytes under kind 0
taken : T (not (broken (reading_of 1 0x41a0_0000)) && not (broken (reading_of 2 0x430c_0000)) && not (broken (reading_of 0 0)))
unfolding broken reading_of of_bits in_range
taken = tt
