-- Examples: what the rules give for a vehicle record and a PMR, and what they should.
use Rattle.std.specs.Prelude.{List, [], ◌∷◌, ◌++◌, ℕ, Result, Ok, Err}
use Rattle.refusal.specs.declared.Refusal.{Refusal}
use Rattle.refusal.specs.declared.Refusal.TheVariants.{NoLimitForN1, NoLimitEntry}
use Rattle.record.specs.declared.Category.{Category}
use Rattle.record.specs.declared.Category.TheVariants.{M1, N1}
use Rattle.record.specs.declared.StartLine.TheVariants.{Aa}
use Rattle.record.specs.declared.Vehicle.{Vehicle}
use Rattle.limit.specs.Limits.{limit_of}

pub record Sample : Type 0 where
  pub given : Result ℕ Refusal
  pub expected : Result ℕ Refusal

-- a vehicle record with this category, limit, phase and byte 17; no other field takes part
abbrev pub vehicle : Category → ℕ → ℕ → ℕ → Vehicle
vehicle category limit phase low_car =
    record {
      category = category;
      start_line = Aa;
      power = 0;
      mass = 0;
      length = 0;
      rated_speed = 0;
      backgrounds = record { left = record { 0 = 0 }; right = record { 0 = 0 } };
      limit = limit;
      phase = phase;
      low_car = low_car;
    }

abbrev pub sample : Vehicle → ℕ → Result ℕ Refusal → Sample
sample v q expected = record { given = limit_of v q; expected = expected }

-- an M1 whose limit is looked up, in the phases 1, 2 and 3
abbrev pub phases : ℕ → ℕ → ℕ → ℕ → ℕ → List Sample
phases q low_car one two three =
    sample (vehicle M1 0 1 low_car) q (Ok one) ∷ sample (vehicle M1 0 2 low_car) q (Ok two) ∷ sample (vehicle M1 0 3 low_car) q (Ok three) ∷ []

abbrev pub samples : List Sample
samples =
    -- both sides of 120.0, of 160.0 and of 200.0, byte 17 first 0, then 1
    phases 1200 0 72 70 68 ++ phases 1201 0 73 71 69
    ++ phases 1600 0 73 71 69 ++ phases 1601 0 75 73 71
    ++ phases 2000 0 75 73 71 ++ phases 2001 0 75 73 71
    ++ phases 1200 1 72 70 68 ++ phases 1201 1 73 71 69
    ++ phases 1600 1 73 71 69 ++ phases 1601 1 75 73 71
    ++ phases 2000 1 75 73 71 ++ phases 2001 1 75 74 72
    -- the ends of PMR
    ++ phases 50 1 72 70 68 ++ phases 6000 1 75 74 72
    -- none for N1, whatever bytes 16 and 17 hold, and whatever PMR is
    ++ sample (vehicle N1 0 1 0) 1200 (Err NoLimitForN1)
    ∷ sample (vehicle N1 0 9 7) 1200 (Err NoLimitForN1)
    ∷ sample (vehicle N1 0 1 0) 49 (Err NoLimitForN1)
    -- phase 0 and phase 4, and 2 in byte 17
    ∷ sample (vehicle M1 0 0 0) 1200 (Err NoLimitEntry)
    ∷ sample (vehicle M1 0 4 0) 1200 (Err NoLimitEntry)
    ∷ sample (vehicle M1 0 1 2) 1200 (Err NoLimitEntry)
    -- a written limit, for M1 and for N1
    ∷ sample (vehicle M1 72 0 0) 2001 (Ok 72)
    ∷ sample (vehicle N1 100 0 0) 50 (Ok 100)
    ∷ []
