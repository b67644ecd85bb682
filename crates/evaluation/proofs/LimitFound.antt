-- The verdict of an accepted sheet is given against the limit found. Assumes nothing.
use mathlib.Core.Path.{◌≡◌, refl, sym, ap, ◌∙◌}
use mathlib.Core.Bool.{Bool, true, false}
use mathlib.Core.List.{List, ◌++◌}
use mathlib.Core.Logic.{◌⊎◌, inl, inr}
use Prim.Native.Nat.{ℕ, ◌≤◌}
use native.Mathlib.Omega.{arith}
use lib.Dec.{leb, ltb}
use lib.ListN.{drop}
use borrow.Author.Tests.{ltb-true, ltb-false}
use Rattle.record.specs.declared.Category.TheVariants.{N1}
use Rattle.record.specs.Records.{record_at, byte, category_of, vehicle_in}
use Rattle.record.proofs.VehicleRanges.{vehicle_ranges}
use Rattle.limit.proofs.Limits.{LookedUp, Written, source}
use Rattle.urban.specs.declared.Outcome.{Outcome}
use Rattle.urban.specs.Urban.{outcome_of, flag}
use Rattle.result.specs.Result.{result_bytes}
use Rattle.result.proofs.Results.{at_ten}
use Rattle.decision.specs.declared.Judged.{Judged}
use Rattle.decision.specs.Decision.{sheet_vehicle, pmr_in, sheet_limit}
use Rattle.decision.proofs.Results.{Decided, decided}
use Rattle.evaluation.specs.LimitFound.{FromTable, FromField, AllByLimit}
use Rattle.evaluation.proofs.Accepted.{reported_in}

-- byte 5 of a result
at_five : (o : Outcome) (rest : List ℕ) → byte (result_bytes o ++ rest) 5 ≡ flag o.pass
unfolding result_bytes
at_five o rest = refl

-- a result passes if its L_urban is not above the limit that it was judged against
passes : (s : List ℕ) (j : Judged) → Decided s j → j.outcome.pass ≡ leb j.outcome.l_urban j.limit
unfolding outcome_of
passes s j d = rw d.is refl

-- a category that is not N1 is M1
m1 : (c : ℕ) → 1 ≤ c → c ≤ 2 → (category_of c ≡ N1 → ⊥) → c ≡ 1
m1 c l h n = by (ltb c 2) refl
  where
    by : (b : Bool) → ltb c 2 ≡ b → c ≡ 1
    by true e = omega (arith, ltb-true c 2 e)
    by false e =
        let two : c ≡ 2 = omega (arith, ltb-false c 2 e) in
        absurd (n (ap category_of two))

-- the limit found is one of the table's or that of the field
limit_source : (s : List ℕ) (j : Judged) → Decided s j → FromTable s j.limit ⊎ FromField s j.limit
unfolding sheet_limit sheet_vehicle vehicle_in
limit_source s j d = by (source (sheet_vehicle s) (pmr_in s) j.limit d.limit_is)
  where
    by : LookedUp (sheet_vehicle s) (pmr_in s) j.limit ⊎ Written (sheet_vehicle s) j.limit → FromTable s j.limit ⊎ FromField s j.limit
    by (inl t) =
        let r = (vehicle_ranges (record_at s 0) d.sheet.vehicle).category in
        inl (record { by_table = t.zero; m1 = m1 (byte (record_at s 0) 1) r.0 r.1 t.no_n1; is = t.is; range = t.range })
    by (inr t) =
        let r = (vehicle_ranges (record_at s 0) d.sheet.vehicle).limit t.not_zero in
        inr (record { is = t.is; range = (omega (arith, r.0, t.is), omega (arith, r.1, t.is)) })

pub all_by_limit : AllByLimit
all_by_limit s b a =
    let r = reported_in s b a in
    let j = r.judged in
    let d = decided s j r.decides in
    let rest = drop 32 b in
    record {
      limit = j.limit;
      found = d.limit_is;
      source = limit_source s j d;
      outcome = j.outcome;
      handed_on = r.decides;
      pass = rw r.bytes (at_five j.outcome rest ∙ ap flag (passes s j d ∙ ap (λ (n : ℕ). leb n j.limit) (sym (at_ten j.outcome rest))));
    }
