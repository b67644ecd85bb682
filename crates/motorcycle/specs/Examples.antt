-- The verdicts of examples: the four levels by their bit patterns, a limit, and what the rules should give.
use Rattle.std.specs.Prelude.{Bool, true, false, List, [], ◌∷◌, ℕ, Ok, Err}
use Rattle.motorcycle.specs.declared.LevelRefusal.TheVariants.{LevelOutOfRange, SideFarApart}
use Rattle.motorcycle.specs.Verdict.{Verdict, verdict_of}
use Rattle.motorcycle.specs.Patterns.{levels_of}

pub record Sample : Type 0 where
  pub patterns : List ℕ
  pub limit : ℕ
  pub verdict : Verdict

abbrev pub sample : ℕ → ℕ → ℕ → ℕ → ℕ → Verdict → Sample
sample first second third fourth limit verdict = record { patterns = first ∷ second ∷ third ∷ fourth ∷ []; limit = limit; verdict = verdict }

-- a mean in quarters, and whether it passes
abbrev pub judged : ℕ → Bool → Verdict
judged quarters passes = Ok (record { mean = record { 0 = quarters }; pass = passes })

-- what the rules give
abbrev pub given : Sample → Verdict
given s = verdict_of (levels_of s.patterns) s.limit

abbrev pub samples : List Sample
samples =
    -- 80.0, 81.0, 80.0 and 80.0: a mean of 79.25
    sample 0x42a0_0000 0x42a2_0000 0x42a0_0000 0x42a0_0000 80 (judged 317 true)
    -- 72.46 is 72.5 and so 73; 284 is the most that passes
    ∷ sample 0x4290_eb85 0x4290_0000 0x4290_0000 0x4290_0000 71 (judged 285 false)
    -- the float nearest to 72.45 is below it: 72.4, and so 72
    ∷ sample 0x4290_e666 0x4290_0000 0x4290_0000 0x4290_0000 71 (judged 284 true)
    -- 73.5, 73.4, 72.4 and 72.5: 74, 73, 72 and 73
    ∷ sample 0x4293_0000 0x4292_cccd 0x4290_cccd 0x4291_0000 72 (judged 288 true)
    -- the ends of the range
    ∷ sample 0x41a0_0000 0x41a0_0000 0x41a0_0000 0x41a0_0000 19 (judged 76 true)
    ∷ sample 0x430c_0000 0x430c_0000 0x430c_0000 0x430c_0000 138 (judged 556 false)
    -- the float just below 20.0, and the one just above 140.0
    ∷ sample 0x42a0_0000 0x42a0_0000 0x419f_ffff 0x42a0_0000 80 (Err (LevelOutOfRange 3))
    ∷ sample 0x42a0_0000 0x42a0_0000 0x42a0_0000 0x430c_0001 80 (Err (LevelOutOfRange 4))
    -- an infinity as the second, a NaN as the fourth
    ∷ sample 0x42a0_0000 0x7f80_0000 0x42a0_0000 0x7fc0_0000 80 (Err (LevelOutOfRange 2))
    -- a NaN alone; −80.0 as the first, and an infinity below 0 as the fourth
    ∷ sample 0x42a0_0000 0x42a0_0000 0x42a0_0000 0x7fc0_0000 80 (Err (LevelOutOfRange 4))
    ∷ sample 0xc2a0_0000 0x42a0_0000 0x42a0_0000 0xff80_0000 80 (Err (LevelOutOfRange 1))
    -- 20.0 and 140.0 are the left side, and the third is just below 20.0
    ∷ sample 0x41a0_0000 0x430c_0000 0x419f_ffff 0x42a0_0000 80 (Err (LevelOutOfRange 3))
    -- 80.0 and 83.0 on both sides; 83.0 before 80.0
    ∷ sample 0x42a0_0000 0x42a6_0000 0x42a0_0000 0x42a6_0000 80 (Err (SideFarApart 1))
    ∷ sample 0x42a6_0000 0x42a0_0000 0x42a0_0000 0x42a0_0000 80 (Err (SideFarApart 1))
    -- 80.4 and 82.5 are 80 and 83, 82.4 is 82
    ∷ sample 0x42a0_cccd 0x42a5_0000 0x42a0_0000 0x42a0_0000 80 (Err (SideFarApart 1))
    ∷ sample 0x42a0_cccd 0x42a4_cccd 0x42a0_0000 0x42a0_0000 80 (judged 318 true)
    ∷ sample 0x42a0_0000 0x42a4_cccd 0x42a0_0000 0x42a5_0000 80 (Err (SideFarApart 2))
    -- 80.5 and 83.4 are 81 and 83
    ∷ sample 0x42a1_0000 0x42a6_cccd 0x42a0_0000 0x42a0_0000 80 (judged 320 true)
    -- limits of 0, of 16,384, four times which is 2^16, and of 65,535
    ∷ sample 0x42a0_0000 0x42a0_0000 0x42a0_0000 0x42a0_0000 0 (judged 316 false)
    ∷ sample 0x42a0_0000 0x42a0_0000 0x42a0_0000 0x42a0_0000 16384 (judged 316 true)
    ∷ sample 0x42a0_0000 0x42a0_0000 0x42a0_0000 0x42a0_0000 65535 (judged 316 true)
    ∷ []
