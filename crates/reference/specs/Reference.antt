-- PMR and the two reference accelerations (document 01, "Gears"). q is PMR in tenths; accelerations are in hundredths of m/s².
use Rattle.std.specs.Prelude.{Bool, Option, Some, None, cond, ◌&&◌, ◌||◌, ℕ, ◌+◌, ◌*◌, ◌^◌, leb, ltb}
use Rattle.units.specs.Rounding.{rounded}
use Rattle.units.specs.Tests.{lowest}
use Rattle.reference.specs.declared.Reference.{Reference}

-- PMR = 1000 × P / m, P in kW and m in kg, rounded to a tenth: in tenths, from P in tenths of kW
unfoldable pub pmr_of : ℕ → ℕ → ℕ
pmr_of power mass = rounded (1000 * power) mass

-- a PMR that has reference accelerations: from 5.0 to 600.0
unfoldable pub pmr_in_range : ℕ → Option ℕ
pmr_in_range q = cond (ltb q 50 || ltb 6000 q) None (Some q)

-- 10^(2N + from) ≤ q^e < 10^(2N + to): in whole numbers, that N is a multiple of a logarithm, rounded. For a_urban,
-- N - 1/2 ≤ 63 log10(q / 10) - 9 < N + 1/2 is 2N + 143 ≤ 126 log10(q) < 2N + 145.
unfoldable pub between : ℕ → ℕ → ℕ → ℕ → ℕ → Bool
between e from to q N = leb (10 ^ (2 * N + from)) (q ^ e) && ltb (q ^ e) (10 ^ (2 * N + to))

-- a_urban = 63 log10(PMR) - 9, rounded: the N with 10^(2N+143) ≤ q^126 < 10^(2N+145), looked for below 4.00
unfoldable pub a_urban : ℕ → ℕ
a_urban q = lowest (between 126 143 145 q) 400 0

-- a_ref = 159 log10(PMR) - 141, rounded: the N with 10^(2N+599) ≤ q^318 < 10^(2N+601); below PMR 25.0 it is a_urban
unfoldable pub a_ref : ℕ → ℕ
a_ref q = cond (ltb q 250) (a_urban q) (lowest (between 318 599 601 q) 400 0)

-- PMR in tenths with the two accelerations that follow from it
unfoldable pub reference_at : ℕ → Reference
reference_at q = record { pmr = q; a_urban = record { 0 = a_urban q }; a_ref = record { 0 = a_ref q } }
