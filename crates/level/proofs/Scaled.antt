-- 2^19 times a level is a whole number n: an `f32` has 24 binary digits, and from 20 on none of them is below 2^-19. n is at most
-- 140 * 2^19, which an `f64` holds, so the product is exact and the cast to a `u32` gives n. Assumes nothing.
use mathlib.Core.Path.{◌≡◌, sym, ap, ◌∙◌}
use mathlib.Core.Bool.{true, false, not, ◌&&◌}
use Prim.Native.Nat.{ℕ, zero, suc, ◌-◌, ◌*◌, ◌%◌, ◌^◌, ◌≤◌, ◌<◌}
use native.Mathlib.Nat.{le_of_suc-le-suc, lt_of_not-le, mul_assoc, le_of_mul-le-mul_right}
use native.Mathlib.Omega.{arith}
use lib.IntN.{ℤ, pos, negsuc}
use lib.Dec.{T, leb, ltb, eqb, lit<, ltb→lt, leb→le, le→leb}
use lib.Pow.{pow-add, pow_mono}
use lib.Ieee.{Float, nan, inf, fin, binary32, binary64, up, down, fits, mul, of_int, of_bits, to_unsigned, in_unsigned, in_float, is_nan}
use lib.Ieee.Fits.{and_l, and_r, down_pos}
use lib.Ieee.Digits.{back}
use lib.Ieee.Scale as Scale
use lib.Ieee.Back.{unsigned_back}
use Rattle.units.specs.Rounding.{rounded}
use Rattle.units.proofs.Rounding.{rounded_same}
use Rattle.level.specs.Reading.{in_range}
use Rattle.level.specs.Level.{tenths_of}

-- ---- the ends of the range, of a positive float

pub record Ends (a d : ℕ) : Type 0 where
  pub low : 20 * d ≤ a
  pub high : a ≤ 140 * d

pub ends : (m : ℕ) (e : ℤ) → T (in_range (fin false m e)) → Ends (m * up e) (down e)
unfolding in_range
ends m e r =
    let d = down e in
    let a = m * up e in
    record { low = leb→le (20 * d) a (and_l (leb (20 * d) a) (leb a (140 * d)) r); high = leb→le a (140 * d) (and_r (leb (20 * d) a) (leb a (140 * d)) r) }

-- ---- the digits

-- an `f32` has 24 of them
digits : (m : ℕ) (e : ℤ) → T (fits binary32 (fin false m e)) → m < 2 ^ 24
unfolding fits
digits zero e t = lit< tt
digits (suc m) e t =
    let odd = eqb (suc m % 2) 1 in
    let few = ltb (suc m) (2 ^ 24) in
    let near = leb (down e) (2 ^ 149) in
    ltb→lt (suc m) (2 ^ 24) (and_r odd few (and_l (odd && few) near (and_l (odd && few && near) (ltb (suc m * up e) (2 ^ 128 * down e)) t)))

clash : (p m : ℕ) → 2 ^ 20 ≤ p → 20 * p ≤ m → m < 2 ^ 24 → ⊥
clash p m a b c = omega arith

shallow : (k m : ℕ) → 20 * 2 ^ k ≤ m → m < 2 ^ 24 → k ≤ 19
shallow k m h l = le_of_suc-le-suc (lt_of_not-le (λ (g : 20 ≤ k). clash (2 ^ k) m (pow_mono g) h l))

-- 2^19 times the level is whole
whole : (m : ℕ) (e : ℤ) → m < 2 ^ 24 → 20 * down e ≤ m * up e → (n : ℕ) × (n * down e ≡ m * up e * 524288)
whole m (pos k) l h = (m * 2 ^ k * 524288, omega arith)
whole m (negsuc k) l h =
    let le : suc k ≤ 19 = shallow (suc k) m (omega arith) l in (
      m * 2 ^ (19 - suc k),
      mul_assoc m (2 ^ (19 - suc k)) (2 ^ suc k) ∙ ap (λ (x : ℕ). m * x) (sym (pow-add 2 (19 - suc k) (suc k)) ∙ ap (λ (x : ℕ). 2 ^ x) (back 19 (suc k) le)) ∙ omega arith,
    )

-- ---- what the code computes

-- x * 524288.0, at `f64`
abbrev pub product : Float → Float
product x = mul binary64 x (of_bits binary64 0x4120_0000_0000_0000)

pub record Scaled (x : Float) : Type 0 where
  pub number : T (not (is_nan x))
  pub fits : T (in_unsigned binary64 32 (product x))
  pub small : to_unsigned 32 (product x) ≤ 73400320
  pub tenths : rounded (10 * to_unsigned 32 (product x)) 524288 ≡ tenths_of x

exact : (m : ℕ) (e : ℤ) (n : ℕ) → n * down e ≡ m * up e * 524288 → product (fin false m e) ≡ of_int binary64 (pos n)
unfolding mul of_bits of_int
exact m e n w = Scale.round_same binary64 false (m * up e * 524288) (down e * 1) n 1 (omega (arith, down_pos e)) (lit< tt) (omega arith)

holds : (n : ℕ) → n ≤ 73400320 → T (in_float binary64 (pos n))
unfolding in_float
holds n h = le→leb n (2 ^ 53) (omega arith)

pub scaled : (x : Float) → T (fits binary32 x) → T (in_range x) → Scaled x
unfolding in_range tenths_of is_nan
scaled nan t r = absurd r
scaled (inf s) t r = absurd r
scaled (fin true m e) t r = absurd r
scaled (fin false m e) t r =
    let d = down e in
    let a = m * up e in
    let range = ends m e r in
    let k = whole m e (digits m e t) range.low in
    let n = k.0 in
    let w = k.1 in
    let top : n ≤ 73400320 = le_of_mul-le-mul_right {k = d} (omega arith) (down_pos e) in
    let x = exact m e n w in
    let b = unsigned_back binary64 32 n (holds n top) (omega arith) in
    let is : to_unsigned 32 (product (fin false m e)) ≡ n = ap (to_unsigned 32) x ∙ b.1 in
    record {
      number = tt;
      fits = rw x b.0;
      small = rw is top;
      tenths = rw is (rounded_same (10 * n) 524288 (10 * a) d (lit< tt) (down_pos e) (omega arith));
    }
