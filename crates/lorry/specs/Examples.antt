-- Examples: what the rules give for a lorry, and what they should.
use Rattle.std.specs.Prelude.{List, [], ◌∷◌, ℕ, Ok}
use Rattle.lorry.specs.declared.TwoAxles.{TwoAxles}
use Rattle.lorry.specs.TestMass.{Loading, rear_overloaded, two_axles_of, more_axles_of}
use Rattle.lorry.specs.Numbers.{lorry_of}

-- a test mass, the load, and the ends of the band, in ten-thousandths of a kg
abbrev pub masses : ℕ → ℕ → ℕ → ℕ → Loading
masses mass load lowest highest =
    Ok (record { mass = record { 0 = mass }; load = record { 0 = load }; lowest = record { 0 = lowest }; highest = record { 0 = highest } })

pub record Sample : Type 0 where
  pub given : Loading
  pub expected : Loading

-- a lorry of two axles
abbrev pub two : TwoAxles → Loading → Sample
two x expected = record { given = two_axles_of x; expected = expected }

-- a lorry of more, by its stand-in and its own unladen mass in kg
abbrev pub more : TwoAxles → ℕ → Loading → Sample
more x own expected = record { given = more_axles_of x own; expected = expected }

abbrev pub samples : List Sample
samples =
    -- the target, 10,000 kg: an extra of 2,925 kg and 3,000 are within 8,625
    two (lorry_of 2000 4000 3000 11500) (masses 100000000 29250000 95000000 105000000)
    -- an extra of 7,925 kg and 3,000 are over 8,625: 12,700 kg. 75% of 11,501 kg is 8,625.75
    ∷ two (lorry_of 3000 4000 3000 11500) (masses 127000000 56250000 120650000 133350000)
    ∷ two (lorry_of 3000 4000 3000 11501) (masses 127007500 56257500 120657125 133357875)
    -- an extra of −2,075 kg: 7,075 kg, and no load
    ∷ two (lorry_of 1000 4000 3000 11500) (masses 70750000 0 67212500 74287500)
    -- extras of −1, 0 and 1 kg
    ∷ two (lorry_of 2000 4000 5926 11500) (masses 100010000 0 95009500 105010500)
    ∷ two (lorry_of 2000 4000 5925 11500) (masses 100000000 0 95000000 105000000)
    ∷ two (lorry_of 2000 4000 5924 11500) (masses 100000000 10000 95000000 105000000)
    -- the extra and the rear load are 8,625 kg; 75% of the maximum is that, 8,624.25 and 8,625.75
    ∷ two (lorry_of 2540 4000 3000 11500) (masses 127000000 56250000 120650000 133350000)
    ∷ two (lorry_of 2540 4000 3000 11499) (masses 126992500 56242500 120642875 133342125)
    ∷ two (lorry_of 2540 4000 3000 11501) (masses 127000000 56250000 120650000 133350000)
    -- 21: 8,626 kg over 8,625 and over 8,625.75, also without power; 8,625 over 8,624.25; 8,625 kg is not over 8,625
    ∷ two (lorry_of 3000 4000 8626 11500) rear_overloaded
    ∷ two (lorry_of 0 4000 8626 11500) rear_overloaded
    ∷ two (lorry_of 3000 4000 8626 11501) rear_overloaded
    ∷ two (lorry_of 3000 4000 8625 11499) rear_overloaded
    ∷ two (lorry_of 3000 4000 8625 11500) (masses 127000000 0 120650000 133350000)
    -- more axles: 12,700 kg of the stand-in, less the driver, is 12,625 kg
    ∷ more (lorry_of 3000 4000 3000 11500) 9000 (masses 127000000 36250000 120650000 133350000)
    ∷ more (lorry_of 3000 4000 3000 11500) 12625 (masses 127000000 0 120650000 133350000)
    ∷ more (lorry_of 3000 4000 3000 11500) 12626 (masses 127010000 0 120659500 133360500)
    -- a stand-in that is not loaded itself: 7,075 kg; and one that is refused
    ∷ more (lorry_of 1000 4000 3000 11500) 6999 (masses 70750000 10000 67212500 74287500)
    ∷ more (lorry_of 0 4000 8626 11500) 9000 rear_overloaded
    -- the ends of 16 bits
    ∷ two (lorry_of 0 0 0 0) (masses 750000 0 712500 787500)
    ∷ two (lorry_of 65535 65535 65535 65535) rear_overloaded
    ∷ two (lorry_of 65535 65535 49151 65535) (masses 1147612500 2500 1090231875 1204993125)
    ∷ more (lorry_of 0 0 0 0) 65535 (masses 656100000 0 623295000 688905000)
    ∷ []
