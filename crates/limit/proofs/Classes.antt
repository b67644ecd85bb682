-- The classes of cars and the entries of the table. Assumes nothing.
use mathlib.Core.Path.{◌≡◌, refl}
use mathlib.Core.Bool.{Bool, true, false, cond, ◌&&◌}
use Prim.Native.Nat.{ℕ, suc, ◌+◌, ◌-◌, ◌*◌, ◌≤◌, ◌<◌}
use native.Mathlib.Nat.{le_refl, le_trans}
use native.Mathlib.Decide.{le_ind}
use native.Mathlib.Omega.{arith}
use lib.Dec.{leb, ltb, eqb, leb→le}
use lib.ListN.{get_or, take}
use lib.Seq.{get_or-take}
use borrow.Author.Tests.{le-leb, lt-leb, lt-ltb, le-ltb, leb-true, leb-false}
use Rattle.units.proofs.Table.{at}
use Rattle.units.proofs.Tests.{by_test}
use Rattle.record.specs.Records.{within}
use Rattle.record.proofs.Fields.{inside}
use Rattle.limit.specs.Limits.{limit_table, class_of, table_limit}

-- ---- classes

-- there are four
pub class_most : (q low_car : ℕ) → class_of q low_car ≤ 3
unfolding class_of
class_most q low_car =
    by_test (λ (n : ℕ). n ≤ 3) (leb q 1200) _ _ (λ e. omega arith)
    (λ e. by_test (λ (n : ℕ). n ≤ 3) (leb q 1600) _ _ (λ f. omega arith)
    (λ f. by_test (λ (n : ℕ). n ≤ 3) (ltb 2000 q && eqb low_car 1) _ _ (λ g. omega arith) (λ g. omega arith)))

-- at each PMR: up to 120.0, up to 160.0, up to 200.0, and above
pub up_to_120 : (q low_car : ℕ) → q ≤ 1200 → class_of q low_car ≡ 0
unfolding class_of
up_to_120 q low_car h = simp (le-leb q 1200 h)

pub up_to_160 : (q low_car : ℕ) → 1200 < q → q ≤ 1600 → class_of q low_car ≡ 1
unfolding class_of
up_to_160 q low_car l h = simp (lt-leb q 1200 l, le-leb q 1600 h)

-- a low car has no class of its own here
pub up_to_200 : (q low_car : ℕ) → 1600 < q → q ≤ 2000 → class_of q low_car ≡ 2
unfolding class_of
up_to_200 q low_car l h = simp (lt-leb q 1200 (omega arith), lt-leb q 1600 l, le-ltb 2000 q h)

pub above_200 : (q low_car : ℕ) → 2000 < q → class_of q low_car ≡ cond (eqb low_car 1) 3 2
unfolding class_of
above_200 q low_car l = simp (lt-leb q 1200 (omega arith), lt-leb q 1600 (omega arith), lt-ltb 2000 q l)

above_160 : (q low_car : ℕ) → 1600 < q → 2 ≤ class_of q low_car
above_160 q low_car l = by (leb q 2000) refl (eqb low_car 1) refl
  where
    by : (b : Bool) → leb q 2000 ≡ b → (c : Bool) → eqb low_car 1 ≡ c → 2 ≤ class_of q low_car
    by true e c f = omega (arith, up_to_200 q low_car l (leb-true q 2000 e))
    by false e true f = rw (above_200 q low_car (leb-false q 2000 e), f) (omega arith)
    by false e false f = rw (above_200 q low_car (leb-false q 2000 e), f) (omega arith)

-- a higher PMR never has a lower class
pub class_rises : (q q' low_car : ℕ) → q ≤ q' → class_of q low_car ≤ class_of q' low_car
class_rises q q' low_car h = by (leb q 1200) refl (leb q 1600) refl (leb q 2000) refl (leb q' 1600) refl
  where
    by : (a : Bool) → leb q 1200 ≡ a → (b : Bool) → leb q 1600 ≡ b → (c : Bool) → leb q 2000 ≡ c → (d : Bool) → leb q' 1600 ≡ d → class_of q low_car ≤ class_of q' low_car
    by true e b f c g d k = omega (arith, up_to_120 q low_car (leb-true q 1200 e))
    by false e true f c g true k =
        let l = leb-false q 1200 e in
        omega (arith, up_to_160 q low_car l (leb-true q 1600 f), up_to_160 q' low_car (omega (arith, l, h)) (leb-true q' 1600 k))
    by false e true f c g false k = omega (arith, up_to_160 q low_car (leb-false q 1200 e) (leb-true q 1600 f), above_160 q' low_car (leb-false q' 1600 k))
    by false e false f true g d k =
        let l = leb-false q 1600 f in
        omega (arith, up_to_200 q low_car l (leb-true q 2000 g), above_160 q' low_car (omega (arith, l, h)))
    by false e false f false g d k =
        let l = leb-false q 2000 g in
        omega (arith, above_200 q low_car l, above_200 q' low_car (omega (arith, l, h)))

-- ---- entries

-- every entry is from 68 to 75: one test over the table
pub entry_range : (k : ℕ) → k < 12 → (68 ≤ get_or limit_table k 0) × (get_or limit_table k 0 ≤ 75)
unfolding limit_table
entry_range k h = inside 68 75 (get_or limit_table k 0) (at (λ i x. within 68 75 x) limit_table tt k h)

-- no entry is above that of the next class in the same phase: one test over the table
next : (k : ℕ) → k < 9 → get_or limit_table k 0 ≤ get_or limit_table (k + 3) 0
unfolding limit_table
next k h = rw (get_or-take 9 limit_table k 0 h) at (leb→le (get_or (take 9 limit_table) k 0) (get_or limit_table (k + 3) 0) (at (λ i x. leb x (get_or limit_table (i + 3) 0)) (take 9 limit_table) tt k h))

entry_rises : (p c c' : ℕ) → p < 3 → c ≤ c' → c' ≤ 3 → get_or limit_table (3 * c + p) 0 ≤ get_or limit_table (3 * c' + p) 0
entry_rises p c c' h l =
    le_ind (λ (m : ℕ). m ≤ 3 → get_or limit_table (3 * c + p) 0 ≤ get_or limit_table (3 * m + p) 0) (λ f. le_refl _)
    (λ m k rises f.
    let place : 3 * m + p + 3 ≡ 3 * suc m + p = omega arith in
    le_trans (rises (omega arith)) (rw place at (next (3 * m + p) (omega arith))))
    c' l

-- a higher PMR never has a lower limit in the same phase and with the same byte 17
pub table_rises : (q q' phase low_car : ℕ) → 1 ≤ phase → phase ≤ 3 → q ≤ q' → table_limit q phase low_car ≤ table_limit q' phase low_car
unfolding table_limit
table_rises q q' phase low_car l h r = entry_rises (phase - 1) (class_of q low_car) (class_of q' low_car) (omega arith) (class_rises q q' low_car r) (class_most q' low_car)
