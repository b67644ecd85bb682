-- What the searches over the places of gears answer. Assumes nothing.
use Rattle.std.specs.Prelude.{Option, Some, None}
use mathlib.Core.Path.{◌≡◌, refl, sym, ◌∙◌}
use mathlib.Core.Bool.{Bool, true, false, cond, true≢false}
use mathlib.Core.List.{List}
use Prim.Native.Nat.{ℕ, ◌+◌, ◌-◌, ◌≤◌, ◌<◌}
use native.Mathlib.Omega.{arith}
use lib.Dec.{leb, ltb, eqb}
use lib.ListN.{length}
use borrow.Author.Tests.{eqb-true, eqb-false, ne_eqb, ltb-true, ltb-false}
use Rattle.units.proofs.Lowest.{found}
use Rattle.units.proofs.Tests.{by_test}
use Rattle.units.proofs.Last.{Last, last}
use Rattle.gears.specs.declared.Gear.{Gear}
use Rattle.gears.specs.Rules.{a, first_not_falling, i_of, j_of}

-- the first place that does not fall is a place
pub first_most : (gs : List Gear) → first_not_falling gs ≤ length gs - 1
unfolding first_not_falling
first_most gs = omega (arith, (found (λ p. leb (a gs p) (a gs (p + 1))) (length gs - 1) 0).most)

-- ---- a search from the last place on, which answers the last that passes the test

module _ (R : ℕ) (gears : List Gear) where
  pub j : Last (λ p. leb R (a gears p)) (length gears) (j_of R gears)
  unfolding j_of
  j = last (λ p. leb R (a gears p)) (length gears)

  pub last_reaching : (r : Option ℕ) → (r ≡ None → (k : ℕ) → k < length gears → leb R (a gears k) ≡ false) → ((i : ℕ) → r ≡ Some i → (i < length gears) × (leb R (a gears i) ≡ true) × ((k : ℕ) → i < k → k < length gears → leb R (a gears k) ≡ false)) → r ≡ i_of R gears
  unfolding i_of
  last_reaching None none some = by_test (λ (o : Option ℕ). None ≡ o) (eqb (j_of R gears) 0) _ _ (λ e. refl) (λ e. let l : 0 < j_of R gears = omega (arith, eqb-false (j_of R gears) 0 e) in absurd (true≢false (sym (j.passes l) ∙ none refl (j_of R gears - 1) (omega (arith, j.most)))))
  last_reaching (Some i) none some = by (ltb i (j_of R gears)) refl (ltb (i + 1) (j_of R gears)) refl
    where
      s : (i < length gears) × (leb R (a gears i) ≡ true) × ((k : ℕ) → i < k → k < length gears → leb R (a gears k) ≡ false)
      s = some i refl

      by : (t : Bool) → ltb i (j_of R gears) ≡ t → (u : Bool) → ltb (i + 1) (j_of R gears) ≡ u → Some i ≡ cond (eqb (j_of R gears) 0) None (Some (j_of R gears - 1))
      by false e u f = absurd (true≢false (sym s.1 ∙ j.after i (ltb-false i (j_of R gears) e) s.0))
      by true e true f =
          let l = ltb-true (i + 1) (j_of R gears) f in
          absurd (true≢false (sym (j.passes (omega arith)) ∙ s.2 (j_of R gears - 1) (omega arith) (omega (arith, j.most))))
      by true e false f =
          let next : j_of R gears ≡ i + 1 = omega (arith, ltb-true i (j_of R gears) e, ltb-false (i + 1) (j_of R gears) f) in
          let here : j_of R gears - 1 ≡ i = omega arith in
          simp (ne_eqb (j_of R gears) 0 (omega arith), here)

  -- no gear is i, or it is next to j
  pub i_none : i_of R gears ≡ None → j_of R gears ≡ 0
  unfolding i_of
  i_none = by_test (λ o. o ≡ None → j_of R gears ≡ 0) (eqb (j_of R gears) 0) _ _ (λ t e. eqb-true (j_of R gears) 0 t) (λ t e. absurd (cc))

  pub i_some : (i : ℕ) → i_of R gears ≡ Some i → (j_of R gears ≡ i + 1) × (i < length gears)
  unfolding i_of
  i_some i = by_test (λ o. o ≡ Some i → (j_of R gears ≡ i + 1) × (i < length gears)) (eqb (j_of R gears) 0) _ _ (λ t e. absurd (cc)) (λ t e. let same : j_of R gears - 1 ≡ i = cc in (omega (arith, eqb-false (j_of R gears) 0 t), omega (arith, eqb-false (j_of R gears) 0 t, j.most)))
