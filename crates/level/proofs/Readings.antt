-- What `reading_of` is, kind by kind. Assumes nothing.
use mathlib.Core.Path.{◌≡◌, refl, ◌∙◌}
use mathlib.Core.Bool.{Bool, true, false, cond, false≢true}
use Prim.Native.Nat.{ℕ, ◌<◌}
use native.Mathlib.Omega.{arith}
use lib.Ieee.{Float, nan, inf, fin, binary32, of_bits, nan_bits, is_nan}
use lib.Ieee.Bits.{nan_bits_is}
use lib.Dec.{eqb}
use borrow.Author.Tests.{eq-eqb, ne_eqb, eqb-true}
use Rattle.units.proofs.Tests.{by_test}
use Rattle.std.proofs.Common.{Option, Some, None}
use Rattle.std.specs.Option.{option_map}
use Rattle.level.specs.declared.Reading.{Reading}
use Rattle.level.specs.declared.Reading.TheVariants.{Level, Overload, Absent}
use Rattle.level.specs.Reading.{in_range, reading_of, level_of}

-- ---- kind by kind

module _ (kind pattern : ℕ) where
  pub absent : kind ≡ 0 → reading_of kind pattern ≡ cond (eqb pattern 0) (Some Absent) None
  unfolding reading_of
  absent k = simp (eq-eqb kind 0 k)

  pub level : kind ≡ 1 → reading_of kind pattern ≡ option_map Level (level_of (of_bits binary32 pattern))
  unfolding reading_of level_of
  level k = simp (ne_eqb kind 0 (omega arith), eq-eqb kind 1 k) (within (in_range (of_bits binary32 pattern)))
    where
      within : (b : Bool) → cond b (Some (Level (of_bits binary32 pattern))) None ≡ option_map Level (cond b (Some (of_bits binary32 pattern)) None)
      within true = refl
      within false = refl

  pub overload : kind ≡ 2 → reading_of kind pattern ≡ option_map Overload (level_of (of_bits binary32 pattern))
  unfolding reading_of level_of
  overload k = simp (ne_eqb kind 0 (omega arith), ne_eqb kind 1 (omega arith), eq-eqb kind 2 k) (within (in_range (of_bits binary32 pattern)))
    where
      within : (b : Bool) → cond b (Some (Overload (of_bits binary32 pattern))) None ≡ option_map Overload (cond b (Some (of_bits binary32 pattern)) None)
      within true = refl
      within false = refl

  pub unknown : 2 < kind → reading_of kind pattern ≡ None
  unfolding reading_of
  unknown k = simp (ne_eqb kind 0 (omega arith), ne_eqb kind 1 (omega arith), ne_eqb kind 2 (omega arith))

-- ---- what a reading can be, with what holds of its kind and its pattern

pub data View (kind pattern : ℕ) : Option Reading → Type 0 where
  is_absent : kind ≡ 0 → pattern ≡ 0 → View kind pattern (Some Absent)
  is_level : kind ≡ 1 → in_range (of_bits binary32 pattern) ≡ true → View kind pattern (Some (Level (of_bits binary32 pattern)))
  is_overload : kind ≡ 2 → in_range (of_bits binary32 pattern) ≡ true → View kind pattern (Some (Overload (of_bits binary32 pattern)))
  is_broken : View kind pattern None

pub view : (kind pattern : ℕ) → View kind pattern (reading_of kind pattern)
unfolding reading_of
view kind pattern =
    by_test (View kind pattern) (eqb kind 0) _ _
    (λ k. by_test (View kind pattern) (eqb pattern 0) _ _ (λ z. is_absent (eqb-true kind 0 k) (eqb-true pattern 0 z)) (λ z. is_broken))
    (λ n. by_test (View kind pattern) (eqb kind 1) _ _
    (λ k. by_test (View kind pattern) (in_range (of_bits binary32 pattern)) _ _ (λ i. is_level (eqb-true kind 1 k) i) (λ i. is_broken))
    (λ m. by_test (View kind pattern) (eqb kind 2) _ _
    (λ k. by_test (View kind pattern) (in_range (of_bits binary32 pattern)) _ _ (λ i. is_overload (eqb-true kind 2 k) i) (λ i. is_broken))
    (λ l. is_broken)))

-- the pattern of a good reading is not a NaN's
pub no_nan : (kind pattern : ℕ) (r : Reading) → reading_of kind pattern ≡ Some r → nan_bits binary32 pattern ≡ false
unfolding in_range is_nan nan_bits
no_nan kind pattern r e = by (reading_of kind pattern) (view kind pattern) e
  where
    number : (x : Float) → in_range x ≡ true → is_nan x ≡ false
    number nan i = absurd (false≢true i)
    number (inf s) i = refl
    number (fin s m d) i = refl

    by : (f : Option Reading) → View kind pattern f → f ≡ Some r → nan_bits binary32 pattern ≡ false
    by (Some Absent) (is_absent k z) s = rw z
    by (Some (Level _)) (is_level k i) s = nan_bits_is binary32 pattern ∙ number (of_bits binary32 pattern) i
    by (Some (Overload _)) (is_overload k i) s = nan_bits_is binary32 pattern ∙ number (of_bits binary32 pattern) i
    by None is_broken s = absurd (let z : ◌≡◌ {A = ℕ} 0 1 = cc in omega arith)

-- and a reading that is not absent has a level in range
pub good_in_range : (kind pattern : ℕ) (r : Reading) → reading_of kind pattern ≡ Some r → (kind ≡ 0 → ⊥) → in_range (of_bits binary32 pattern) ≡ true
good_in_range kind pattern r e n = by (reading_of kind pattern) (view kind pattern) e
  where
    by : (f : Option Reading) → View kind pattern f → f ≡ Some r → in_range (of_bits binary32 pattern) ≡ true
    by (Some Absent) (is_absent k z) s = absurd (n k)
    by (Some (Level _)) (is_level k i) s = i
    by (Some (Overload _)) (is_overload k i) s = i
    by None is_broken s = absurd (let z : ◌≡◌ {A = ℕ} 0 1 = cc in omega arith)
