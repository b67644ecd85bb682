-- The readings of a run are those of its record. Assumes nothing.
use mathlib.Core.Path.{◌≡◌}
use Prim.Native.Nat.{ℕ}
use native.Mathlib.Omega.{arith}
use lib.Ieee.{binary32, of_bits}
use Rattle.std.proofs.Common.{Option, Some, None}
use Rattle.level.specs.declared.Reading.{Reading}
use Rattle.level.specs.declared.Reading.TheVariants.{Level, Overload, Absent}
use Rattle.level.specs.Reading.{reading_of}
use Rattle.level.proofs.Readings.{View, is_absent, is_level, is_overload, is_broken, view}
use Rattle.record.specs.Records.{reading_from}

-- the reading that a kind and a pattern give is that of the kind and the float that the run keeps
pub same_reading : (kind pattern : ℕ) (x : Reading) → reading_of kind pattern ≡ Some x → reading_from kind (of_bits binary32 pattern) ≡ x
unfolding reading_from
same_reading kind pattern x e = by (reading_of kind pattern) (view kind pattern) e
  where
    by : (f : Option Reading) → View kind pattern f → f ≡ Some x → reading_from kind (of_bits binary32 pattern) ≡ x
    by (Some Absent) (is_absent k z) s = let y : Absent ≡ x = cc in rw k y
    by (Some (Level _)) (is_level k i) s = let y : Level (of_bits binary32 pattern) ≡ x = cc in rw k y
    by (Some (Overload _)) (is_overload k i) s = let y : Overload (of_bits binary32 pattern) ≡ x = cc in rw k y
    by None is_broken s = absurd (let z : ◌≡◌ {A = ℕ} 0 1 = cc in omega arith)
