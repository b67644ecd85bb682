-- What the tests of a float against 20.0 and 140.0 say of `in_range`. The literals are written by their bit patterns: `of_bits` computes
-- them to `fin false 5 (pos 2)` and `fin false 35 (pos 2)`. Assumes nothing.
use mathlib.Core.Path.{◌≡◌, refl, sym, ◌∙◌}
use mathlib.Core.Bool.{Bool, true, false, ◌&&◌, ◌||◌, false≢true}
use Prim.Native.Nat.{ℕ, ◌*◌, ◌%◌, ◌≤◌, ◌<◌}
use native.Mathlib.Nat.{mul-one, le_antisymm}
use native.Mathlib.Omega.{arith}
use lib.Dec.{leb, ltb, eqb}
use lib.IntN.{ℤ}
use lib.Ieee.{Float, nan, inf, fin, binary32, up, down, lt, eq, le, is_nan, of_bits, nan_bits}
use lib.Ieee.Fits.{down_pos}
use lib.Ieee.Bits.{nan_bits_is, nan_bits_above}
use borrow.Author.Tests.{ltb-false, leb-true, leb-false, lt-ltb, le-ltb, eq-eqb, ne_eqb}
use Rattle.level.specs.Reading.{in_range}

abbrev twenty : Float
twenty = of_bits binary32 0x41a0_0000

abbrev hundred_forty : Float
hundred_forty = of_bits binary32 0x430c_0000

-- below or equal is at most
joined : (a b : ℕ) → (ltb a b || eqb a b && true) ≡ leb a b
joined a b = by (leb a b) refl
  where
    within : (c : Bool) → ltb a b ≡ c → a ≤ b → (ltb a b || eqb a b && true) ≡ true
    within true e h = simp e
    within false e h = simp (e, eq-eqb a b (le_antisymm h (ltb-false a b e)))

    by : (c : Bool) → leb a b ≡ c → (ltb a b || eqb a b && true) ≡ c
    by true e = within (ltb a b) refl (leb-true a b e)
    by false e = let h = leb-false a b e in simp (le-ltb a b (omega arith), ne_eqb a b (omega arith))

at_least : (m : ℕ) (e : ℤ) → le twenty (fin false m e) ≡ leb (20 * down e) (m * up e)
unfolding le lt eq of_bits
at_least m e = rw mul-one (joined (20 * down e) (m * up e))

at_most : (m : ℕ) (e : ℤ) → le (fin false m e) hundred_forty ≡ leb (m * up e) (140 * down e)
unfolding le lt eq of_bits
at_most m e = rw mul-one (joined (m * up e) (140 * down e))

-- a negative float is below 20.0
negative : (m : ℕ) (e : ℤ) → le twenty (fin true m e) ≡ false
unfolding le lt eq of_bits
negative m e = rw (ne_eqb (20 * down e) 0 (omega (arith, down_pos e))) (never (eqb (20 * down e) (m * up e * 1)))
  where
    never : (b : Bool) → (b && false) ≡ false
    never true = refl
    never false = refl

-- a float below 20.0 is not in range
pub low_out : (x : Float) → le twenty x ≡ false → in_range x ≡ false
unfolding in_range
low_out nan h = refl
low_out (inf s) h = refl
low_out (fin true m e) h = refl
low_out (fin false m e) h = rw (sym (at_least m e) ∙ h)

-- one of at least 20.0 is in range if it is at most 140.0
pub high_decides : (x : Float) → le twenty x ≡ true → le x hundred_forty ≡ in_range x
unfolding in_range le lt eq of_bits
high_decides nan h = refl
high_decides (inf true) h = absurd (false≢true h)
high_decides (inf false) h = refl
high_decides (fin true m e) h = absurd (false≢true (sym (negative m e) ∙ h))
high_decides (fin false m e) h = rw (sym (at_least m e) ∙ h) (at_most m e)

-- ---- patterns

-- which patterns are a NaN's
pub nan_pattern : (b : ℕ) → 0x7f80_0000 < b % 0x8000_0000 → is_nan (of_bits binary32 b) ≡ true
nan_pattern b h = sym (nan_bits_is binary32 b) ∙ nan_bits_above binary32 b ∙ lt-ltb 0x7f80_0000 (b % 0x8000_0000) h

-- the pattern of a NaN is of no level
pub nan_out : (b : ℕ) → 0x7f80_0000 < b % 0x8000_0000 → in_range (of_bits binary32 b) ≡ false
unfolding is_nan in_range
nan_out b h = by (of_bits binary32 b) (nan_pattern b h)
  where
    by : (x : Float) → is_nan x ≡ true → in_range x ≡ false
    by nan e = refl
    by (inf s) e = refl
    by (fin s m d) e = absurd (false≢true e)

pub no_nan : (b : ℕ) → b % 0x8000_0000 ≤ 0x7f80_0000 → nan_bits binary32 b ≡ false
no_nan b h = nan_bits_above binary32 b ∙ le-ltb 0x7f80_0000 (b % 0x8000_0000) h
