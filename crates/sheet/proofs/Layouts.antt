-- Examinations by different layouts of the vehicle and the closing record. Assumes nothing.
use mathlib.Core.Path.{◌≡◌, refl, sym, ap, ◌∙◌}
use mathlib.Core.Bool.{Bool, true, false, not}
use mathlib.Core.List.{List}
use Prim.Native.Nat.{ℕ, ◌+◌, ◌≤◌}
use native.Mathlib.Omega.{arith}
use lib.Dec.{eqb, ltb}
use borrow.Author.Tests.{eqb-true, eqb-false, ltb-true, ltb-false, not-false}
use Rattle.units.proofs.Tests.{neither}
use Rattle.units.proofs.Lowest.{lowest_same}
use Rattle.refusal.specs.declared.Refusal.{Refusal}
use Rattle.refusal.specs.declared.Refusal.TheVariants.{WrongSize, NoVehicle, NoClosing, BrokenRecord}
use Rattle.record.specs.Records.{records, record_at, byte, word, vehicle_good, closing_good}
use Rattle.std.specs.Prelude.{Err}
use Rattle.sheet.specs.Sheet.{last_of, wrong_size, no_vehicle, no_closing, Layouts, good_by, lowest_broken_by, examined_by, layouts, examined}
use Rattle.sheet.proofs.Examinations.{sized, at_first_place, at_last_place, at_middle_place, row_2, row_3, row_4, row_5, all_good, closed}

-- where neither row 3 nor row 4 holds, the first record begins with 1 and the last with 9
is_vehicle : (s : List ℕ) → no_vehicle s ≡ false → byte (record_at s 0) 0 ≡ 1
unfolding no_vehicle
is_vehicle s e = eqb-true (byte (record_at s 0) 0) 1 (not-false (eqb (byte (record_at s 0) 0) 1) e)

is_closing : (s : List ℕ) → no_closing s ≡ false → byte (record_at s (last_of s)) 0 ≡ 9
unfolding no_closing
is_closing s e = let r = record_at s (last_of s) in eqb-true (byte r 0) 9 (not-false (eqb (byte r 0) 9) (neither (not (eqb (byte r 0) 9)) (not (eqb (word r 2 + 2) (records s))) e).0)

-- ---- two layouts that say the same of these two records

module _ (y y' : Layouts) (s : List ℕ) where
  same_good : y.vehicle (record_at s 0) ≡ y'.vehicle (record_at s 0) → y.closing (record_at s (last_of s)) ≡ y'.closing (record_at s (last_of s)) → (i : ℕ) → good_by y s i ≡ good_by y' s i
  same_good p q i = by (eqb i 0) refl (eqb i (last_of s)) refl
    where
      by : (b : Bool) → eqb i 0 ≡ b → (c : Bool) → eqb i (last_of s) ≡ c → good_by y s i ≡ good_by y' s i
      by true e c f =
          let first = eqb-true i 0 e in
          at_first_place y s i first ∙ ap (λ (n : ℕ). y.vehicle (record_at s n)) first ∙ p ∙ sym (at_first_place y' s i first ∙ ap (λ (n : ℕ). y'.vehicle (record_at s n)) first)
      by false e true f =
          let later = eqb-false i 0 e in
          let last = eqb-true i (last_of s) f in
          at_last_place y s i later last ∙ ap (λ (n : ℕ). y.closing (record_at s n)) last ∙ q ∙ sym (at_last_place y' s i later last ∙ ap (λ (n : ℕ). y'.closing (record_at s n)) last)
      by false e false f =
          let later = eqb-false i 0 e in
          let before = eqb-false i (last_of s) f in
          at_middle_place y s i later before ∙ sym (at_middle_place y' s i later before)

  same_rest : y.vehicle (record_at s 0) ≡ y'.vehicle (record_at s 0) → y.closing (record_at s (last_of s)) ≡ y'.closing (record_at s (last_of s)) → examined_by y s ≡ examined_by y' s
  unfolding examined_by lowest_broken_by
  same_rest p q = rw (lowest_same (λ i. not (good_by y s i)) (λ i. not (good_by y' s i)) (λ i. ap not (same_good p q i)) (records s) 0) refl

  -- only a first record that begins with 1 and a last one that begins with 9 are asked for a layout
  pub same_examination :
      (byte (record_at s 0) 0 ≡ 1 → y.vehicle (record_at s 0) ≡ y'.vehicle (record_at s 0)) → (byte (record_at s (last_of s)) 0 ≡ 9 → y.closing (record_at s (last_of s)) ≡ y'.closing (record_at s (last_of s))) → examined_by y s ≡ examined_by y' s
  same_examination p q = by (wrong_size s) refl (no_vehicle s) refl (no_closing s) refl
    where
      by : (a : Bool) → wrong_size s ≡ a → (b : Bool) → no_vehicle s ≡ b → (c : Bool) → no_closing s ≡ c → examined_by y s ≡ examined_by y' s
      by true e b f c g = row_2 y s e ∙ sym (row_2 y' s e)
      by false e true f c g = row_3 y s e f ∙ sym (row_3 y' s e f)
      by false e false f true g = row_4 y s e f g ∙ sym (row_4 y' s e f g)
      by false e false f false g = same_rest (p (is_vehicle s f)) (q (is_closing s g))

-- ---- a layout that is narrower than today's

-- By it, a record breaks the layout; or the same refusal is given, or the two records pass and the same is found.
pub data ByNarrower (y : Layouts) (s : List ℕ) : Type 0 where
  broken : (n : ℕ) → examined_by y s ≡ Err (BrokenRecord n) → ByNarrower y s
  refused : (r : Refusal) → examined_by y s ≡ Err r → examined s ≡ Err r → ByNarrower y s
  passed : y.vehicle (record_at s 0) ≡ true → y.closing (record_at s (last_of s)) ≡ true → examined_by y s ≡ examined s → ByNarrower y s

pub by_narrower : (y : Layouts) (s : List ℕ) → ((r : List ℕ) → y.vehicle r ≡ true → vehicle_good r ≡ true) → ((r : List ℕ) → y.closing r ≡ true → closing_good r ≡ true) → ByNarrower y s
by_narrower y s h k = by (wrong_size s) refl (no_vehicle s) refl (no_closing s) refl (ltb (lowest_broken_by y s) (records s)) refl
  where
    both_pass : wrong_size s ≡ false → no_closing s ≡ false → records s ≤ lowest_broken_by y s → ByNarrower y s
    both_pass e g l =
        let size = sized s e in
        let good = all_good y s l in
        let counted = closed s g in
        let p = sym (at_first_place y s 0 refl) ∙ good 0 size.not_empty in
        let q = sym (at_last_place y s (last_of s) (λ z. omega arith) refl) ∙ good (last_of s) (omega arith) in
        passed p q (same_examination y layouts s (λ v. p ∙ sym (h (record_at s 0) p)) (λ z. q ∙ sym (k (record_at s (last_of s)) q)))

    by : (a : Bool) → wrong_size s ≡ a → (b : Bool) → no_vehicle s ≡ b → (c : Bool) → no_closing s ≡ c → (d : Bool) → ltb (lowest_broken_by y s) (records s) ≡ d → ByNarrower y s
    by true e b f c g d l = refused WrongSize (row_2 y s e) (row_2 layouts s e)
    by false e true f c g d l = refused NoVehicle (row_3 y s e f) (row_3 layouts s e f)
    by false e false f true g d l = refused (NoClosing (last_of s)) (row_4 y s e f g) (row_4 layouts s e f g)
    by false e false f false g true l = broken (lowest_broken_by y s) (row_5 y s e f g (ltb-true (lowest_broken_by y s) (records s) l))
    by false e false f false g false l = both_pass e g (ltb-false (lowest_broken_by y s) (records s) l)
