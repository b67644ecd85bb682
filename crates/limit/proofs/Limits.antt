-- What is found for a vehicle record, case by case, and the bounds and the order of limits. Assumes nothing.
use mathlib.Core.Path.{◌≡◌, refl, sym, ap, ◌∙◌}
use mathlib.Core.Bool.{true, false, true≢false}
use mathlib.Core.Logic.{◌⊎◌, inl, inr}
use Prim.Native.Nat.{ℕ, ◌+◌, ◌-◌, ◌*◌, ◌≤◌}
use native.Mathlib.Omega.{arith}
use lib.Dec.{leb}
use borrow.Author.Tests.{leb-true, not-false}
use Rattle.std.specs.Prelude.{Result, Ok, Err}
use Rattle.units.proofs.Tests.{by_test, both}
use Rattle.refusal.specs.declared.Refusal.{Refusal}
use Rattle.refusal.specs.declared.Refusal.TheVariants.{NoLimitForN1, NoLimitEntry}
use Rattle.record.specs.declared.Category.TheVariants.{N1}
use Rattle.record.specs.declared.Vehicle.{Vehicle}
use Rattle.record.specs.Records.{within, is_looked_up}
use Rattle.limit.specs.Limits.{class_of, has_entry, table_limit, is_n1, no_limit_for_n1, no_limit_entry, limit_of, LimitsRise}
use Rattle.limit.proofs.Classes.{class_most, entry_range, table_rises}

-- the table's limit is from 68 to 75, as each entry is
pub table_range : (q phase low_car : ℕ) → 1 ≤ phase → phase ≤ 3 → (68 ≤ table_limit q phase low_car) × (table_limit q phase low_car ≤ 75)
unfolding table_limit
table_range q phase low_car l h = entry_range (3 * class_of q low_car + (phase - 1)) (omega (arith, class_most q low_car))

-- a phase that has an entry is from 1 to 3
pub phase_good : (phase low_car : ℕ) → has_entry phase low_car ≡ true → (1 ≤ phase) × (phase ≤ 3)
phase_good phase low_car e =
    let good = (both (within 1 3 phase) (leb low_car 1) e).0 in
    let ends = both (leb 1 phase) (leb phase 3) good in
    (leb-true 1 phase ends.0, leb-true phase 3 ends.1)

-- ---- the cases

module _ (v : Vehicle) (q : ℕ) where
  -- a written limit is the limit found, whatever else the record holds
  pub as_written : is_looked_up v.limit ≡ false → limit_of v q ≡ Ok v.limit
  unfolding limit_of
  as_written e = rw e refl

  module _ (zero : is_looked_up v.limit ≡ true) where
    pub for_n1 : is_n1 v.category ≡ true → limit_of v q ≡ Err NoLimitForN1
    unfolding limit_of
    for_n1 e = rw (zero, e) refl

    pub without_entry : is_n1 v.category ≡ false → has_entry v.phase v.low_car ≡ false → limit_of v q ≡ Err NoLimitEntry
    unfolding limit_of
    without_entry e f = rw (zero, e, f) refl

    pub from_table : is_n1 v.category ≡ false → has_entry v.phase v.low_car ≡ true → limit_of v q ≡ Ok (table_limit q v.phase v.low_car)
    unfolding limit_of
    from_table e f = rw (zero, e, f) refl

-- ---- a limit that is found

-- it was looked up, for a vehicle that is no N1
pub record LookedUp (v : Vehicle) (q n : ℕ) : Type 0 where
  pub zero : is_looked_up v.limit ≡ true
  pub no_n1 : v.category ≡ N1 → ⊥
  pub entry : has_entry v.phase v.low_car ≡ true
  pub is : n ≡ table_limit q v.phase v.low_car
  pub range : (68 ≤ n) × (n ≤ 75)

-- or it is the written one
pub record Written (v : Vehicle) (n : ℕ) : Type 0 where
  pub not_zero : is_looked_up v.limit ≡ false
  pub is : n ≡ v.limit

module _ (v : Vehicle) (q n : ℕ) where
  by_table : is_looked_up v.limit ≡ true → no_limit_for_n1 v ≡ false → no_limit_entry v ≡ false → table_limit q v.phase v.low_car ≡ n → LookedUp v q n
  by_table z e f same =
      let entry : has_entry v.phase v.low_car ≡ true = not-false _ (rw z at f) in
      let p = phase_good v.phase v.low_car entry in
      let r = table_range q v.phase v.low_car p.0 p.1 in
      record {
        zero = z;
        no_n1 = λ n. true≢false (sym (ap is_n1 n) ∙ rw z at e);
        entry = entry;
        is = omega (arith, same);
        range = (omega (arith, r.0, same), omega (arith, r.1, same));
      }

  abbrev pub Source : Result ℕ Refusal → Type 0
  Source l = l ≡ Ok n → LookedUp v q n ⊎ Written v n

  pub source : Source (limit_of v q)
  unfolding limit_of
  source =
      by_test Source (no_limit_for_n1 v) _ _ (λ e k. absurd (let y : ◌≡◌ {A = ℕ} 0 1 = cc in omega arith))
      (λ e. by_test Source (no_limit_entry v) _ _ (λ f k. absurd (let y : ◌≡◌ {A = ℕ} 0 1 = cc in omega arith))
      (λ f. by_test (λ m. Source (Ok m)) (is_looked_up v.limit) _ _ (λ z k. inl (by_table z e f cc)) (λ z k. inr (record { not_zero = z; is = cc }))))

-- a record is the same at both, so both are looked up or both are written
pub limits_rise : LimitsRise
limits_rise v q q' n n' h e e' = by (source v q n e) (source v q' n' e')
  where
    by : LookedUp v q n ⊎ Written v n → LookedUp v q' n' ⊎ Written v n' → n ≤ n'
    by (inl a) (inl b) =
        let p = phase_good v.phase v.low_car a.entry in
        omega (arith, a.is, b.is, table_rises q q' v.phase v.low_car p.0 p.1 h)
    by (inl a) (inr b) = absurd (true≢false (sym a.zero ∙ b.not_zero))
    by (inr a) (inl b) = absurd (true≢false (sym b.zero ∙ a.not_zero))
    by (inr a) (inr b) = omega (arith, a.is, b.is)
