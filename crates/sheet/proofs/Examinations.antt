-- Laws of the examination. Assumes nothing.
use mathlib.Core.Path.{◌≡◌, refl, sym, ap, ◌∙◌}
use mathlib.Core.Bool.{true, false, not, ◌||◌}
use mathlib.Core.List.{List}
use Prim.Native.Nat.{ℕ, ◌+◌, ◌%◌, ◌≤◌, ◌<◌}
use native.Mathlib.Omega.{arith}
use lib.Dec.{eqb, ltb}
use lib.ListN.{length}
use borrow.Author.Tests.{eqb-true, eqb-false, ltb-false, not-false, eq-eqb, ne_eqb, lt-ltb, le-ltb}
use Rattle.units.proofs.Lowest.{found}
use Rattle.units.proofs.Tests.{by_test, neither}
use Rattle.refusal.specs.declared.Refusal.TheVariants.{WrongSize, NoVehicle, NoClosing, BrokenRecord}
use Rattle.record.specs.declared.Vehicle.{Vehicle}
use Rattle.record.specs.Records.{records, record_at, byte, word, vehicle_good, vehicle_in, run_good, closing_good, closing_in}
use Rattle.record.proofs.VehicleRanges.{vehicle_ranges}
use Rattle.refusal.specs.declared.Refusal.{Refusal}
use Rattle.std.specs.Prelude.{Result, Ok, Err}
use Rattle.sheet.specs.declared.Whole.{Whole}
use Rattle.sheet.specs.Sheet.{last_of, wrong_size, no_vehicle, no_closing, Layouts, good_by, lowest_broken_by, examined_by, layouts, lowest_broken, examined, RunsGood}

-- ---- the size

-- a sheet of the right size has whole records, at least one and at most 1,024
pub record Sized (s : List ℕ) : Type 0 where
  pub not_empty : 0 < records s
  pub few : records s ≤ 1024
  pub whole : length s % 32 ≡ 0

pub sized : (s : List ℕ) → wrong_size s ≡ false → Sized s
unfolding wrong_size records
sized s e =
    let n = length s in
    let p = neither (eqb n 0 || ltb 32768 n) (not (eqb (n % 32) 0)) e in
    let q = neither (eqb n 0) (ltb 32768 n) p.0 in
    let nonempty = eqb-false n 0 q.0 in
    let small = ltb-false 32768 n q.1 in
    let whole = eqb-true (n % 32) 0 (not-false (eqb (n % 32) 0) p.1) in
    record { not_empty = omega arith; few = omega arith; whole = whole }

-- ---- the layout of a record by its place

module _ (y : Layouts) (s : List ℕ) (i : ℕ) where
  pub at_first_place : i ≡ 0 → good_by y s i ≡ y.vehicle (record_at s i)
  unfolding good_by
  at_first_place e = simp (eq-eqb i 0 e)

  pub at_last_place : (i ≡ 0 → ⊥) → i ≡ last_of s → good_by y s i ≡ y.closing (record_at s i)
  unfolding good_by
  at_last_place n e = simp (ne_eqb i 0 n, eq-eqb i (last_of s) e)

  pub at_middle_place : (i ≡ 0 → ⊥) → (i ≡ last_of s → ⊥) → good_by y s i ≡ run_good (record_at s i)
  unfolding good_by
  at_middle_place n m = simp (ne_eqb i 0 n, ne_eqb i (last_of s) m)

-- ---- the rows, each with no earlier cause

module _ (y : Layouts) (s : List ℕ) where
  pub row_2 : wrong_size s ≡ true → examined_by y s ≡ Err WrongSize
  unfolding examined_by
  row_2 a = simp a

  pub row_3 : wrong_size s ≡ false → no_vehicle s ≡ true → examined_by y s ≡ Err NoVehicle
  unfolding examined_by
  row_3 a b = simp (a, b)

  pub row_4 : wrong_size s ≡ false → no_vehicle s ≡ false → no_closing s ≡ true → examined_by y s ≡ Err (NoClosing (last_of s))
  unfolding examined_by
  row_4 a b d = simp (a, b, d)

  pub row_5 : wrong_size s ≡ false → no_vehicle s ≡ false → no_closing s ≡ false → lowest_broken_by y s < records s → examined_by y s ≡ Err (BrokenRecord (lowest_broken_by y s))
  unfolding examined_by
  row_5 a b d e = simp (a, b, d, lt-ltb (lowest_broken_by y s) (records s) e)

  pub no_row : wrong_size s ≡ false → no_vehicle s ≡ false → no_closing s ≡ false → records s ≤ lowest_broken_by y s → examined_by y s ≡ Ok (record { vehicle = vehicle_in (record_at s 0); closing = closing_in (record_at s (last_of s)) })
  unfolding examined_by
  no_row a b d e = simp (a, b, d, le-ltb (lowest_broken_by y s) (records s) e)

  -- where no record breaks the layout, each is good
  pub all_good : records s ≤ lowest_broken_by y s → (i : ℕ) → i < records s → good_by y s i ≡ true
  unfolding lowest_broken_by
  all_good h i l = not-false (good_by y s i) ((found (λ k. not (good_by y s k)) (records s) 0).before i (omega arith) (omega arith))

-- ---- a whole sheet

-- a sheet that row 4 does not refuse counts all its runs
pub closed : (s : List ℕ) → no_closing s ≡ false → word (record_at s (last_of s)) 2 + 2 ≡ records s
unfolding no_closing
closed s e =
    let r = record_at s (last_of s) in
    let second = (neither (not (eqb (byte r 0) 9)) (not (eqb (word r 2 + 2) (records s))) e).1 in
    eqb-true (word r 2 + 2) (records s) (not-false (eqb (word r 2 + 2) (records s)) second)

pub record WholeSheet (s : List ℕ) (w : Whole) : Type 0 where
  pub size : Sized s
  pub two : 2 ≤ records s
  pub vehicle : vehicle_good (record_at s 0) ≡ true
  pub vehicle_is : w.vehicle ≡ vehicle_in (record_at s 0)
  pub closing : closing_good (record_at s (last_of s)) ≡ true
  pub closing_is : w.closing ≡ closing_in (record_at s (last_of s))
  pub counted : w.closing.runs + 2 ≡ records s
  pub runs : (i : ℕ) → 0 < i → i < last_of s → run_good (record_at s i) ≡ true

module _ (s : List ℕ) (w : Whole) where
  built : wrong_size s ≡ false → no_closing s ≡ false → records s ≤ lowest_broken s → ◌≡◌ {A = Result Whole Refusal} (Ok (record { vehicle = vehicle_in (record_at s 0); closing = closing_in (record_at s (last_of s)) })) (Ok w) → WholeSheet s w
  unfolding closing_in
  built a d e k =
      let size = sized s a in
      let counted = closed s d in
      let good = all_good layouts s e in
      let same : w ≡ record { vehicle = vehicle_in (record_at s 0); closing = closing_in (record_at s (last_of s)) } = cc in
      record {
        size = size;
        two = omega arith;
        vehicle = sym (at_first_place layouts s 0 refl) ∙ good 0 size.not_empty;
        vehicle_is = ap (λ (x : Whole). x.vehicle) same;
        closing = sym (at_last_place layouts s (last_of s) (omega arith) refl) ∙ good (last_of s) (omega arith);
        closing_is = ap (λ (x : Whole). x.closing) same;
        counted = ap (λ (x : Whole). x.closing.runs + 2) same ∙ counted;
        runs = λ i l m. sym (at_middle_place layouts s i (omega arith) (omega arith)) ∙ good i (omega arith);
      }

  pub whole : examined s ≡ Ok w → WholeSheet s w
  unfolding examined_by
  whole =
      by_test Then (wrong_size s) _ _ (λ a k. cc)
      (λ a. by_test Then (no_vehicle s) _ _ (λ b k. cc)
      (λ b. by_test Then (no_closing s) _ _ (λ d k. cc)
      (λ d. by_test Then (ltb (lowest_broken s) (records s)) _ _ (λ e k. cc)
      (λ e. built a d (ltb-false (lowest_broken s) (records s) e)))))
    where
      Then : Result Whole Refusal → Type 0
      Then e = e ≡ Ok w → WholeSheet s w

-- ---- what a whole sheet gives

module _ (s : List ℕ) (w : Whole) (e : examined s ≡ Ok w) where
  found_whole : WholeSheet s w
  found_whole = whole s w e

  pub runs_good : RunsGood s
  runs_good =
      let f = found_whole in
      record { two = f.two; few = f.size.few; good = λ n l m. f.runs n l (omega arith) }

  pub mass_positive : 0 < w.vehicle.mass
  unfolding vehicle_in
  mass_positive = let f = found_whole in omega (arith, ap (λ (x : Vehicle). x.mass) f.vehicle_is, (vehicle_ranges (record_at s 0) f.vehicle).mass.0)

  pub length_range : (100 ≤ w.vehicle.length) × (w.vehicle.length ≤ 2000)
  unfolding vehicle_in
  length_range =
      let same = ap (λ (x : Vehicle). x.length) found_whole.vehicle_is in
      let r = (vehicle_ranges (record_at s 0) found_whole.vehicle).«length» in
      (omega arith, omega arith)
