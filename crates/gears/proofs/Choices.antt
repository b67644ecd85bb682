-- The rules one by one, and what holds of a choice. Assumes nothing.
use mathlib.Core.Path.{◌≡◌, refl, sym, ◌∙◌}
use mathlib.Core.Bool.{Bool, true, false, ◌||◌, true≢false}
use mathlib.Core.List.{List}
use Prim.Native.Nat.{ℕ, ◌+◌, ◌-◌, ◌≤◌, ◌<◌}
use native.Mathlib.Nat.{lt_of_le_of_lt}
use native.Mathlib.Omega.{arith}
use Rattle.std.specs.Prelude.{Option, Some, None}
use lib.Dec.{leb, ltb, eqb}
use lib.ListN.{length}
use borrow.Author.Tests.{eqb-true, eqb-false, leb-true, leb-false, ltb-true, ltb-false, eq-eqb, ne_eqb, le-leb, lt-leb, lt-ltb, le-ltb}
use Rattle.units.proofs.Lowest.{lowest_most}
use Rattle.units.proofs.Tests.{by_test, neither}
use Rattle.reference.specs.declared.Reference.{Reference}
use Rattle.gears.specs.declared.Gear.{Gear}
use Rattle.gears.specs.declared.Choice.TheVariants.{One, Pair}
use Rattle.gears.specs.declared.Choice.{Choice}
use Rattle.gears.specs.Rules.{a, ceiling, Inside, j_of, first_below, one_at, across_of, choice_of, gap, near, nearest}
use Rattle.gears.proofs.Places.{j}
use Rattle.gears.proofs.Nearest.{none_near}

-- ---- rules 3 to 5

module _ (u : ℕ) (gears : List Gear) (j : ℕ) where
  pub no_i : j ≡ 0 → across_of u gears j ≡ None
  unfolding across_of
  no_i e = simp (eq-eqb j 0 e)

  pub no_j : 0 < j → length gears ≤ j → across_of u gears j ≡ None
  unfolding across_of
  no_j h l = simp (ne_eqb j 0 (omega arith), le-leb (length gears) j l)

  module _ (h : 0 < j) (l : j < length gears) where
    pub rule_3 : a gears (j - 1) ≤ ceiling → across_of u gears j ≡ Some (Pair 3 (j - 1))
    unfolding across_of
    rule_3 m = simp (ne_eqb j 0 (omega arith), lt-leb (length gears) j l, le-leb (a gears (j - 1)) ceiling m)

    pub rule_4 : ceiling < a gears (j - 1) → u ≤ a gears j → across_of u gears j ≡ one_at 4 gears (first_below gears)
    unfolding across_of
    rule_4 m n = simp (ne_eqb j 0 (omega arith), lt-leb (length gears) j l, lt-leb (a gears (j - 1)) ceiling m, le-leb u (a gears j) n)

    pub rule_5 : ceiling < a gears (j - 1) → a gears j < u → across_of u gears j ≡ Some (Pair 5 (j - 1))
    unfolding across_of
    rule_5 m n = simp (ne_eqb j 0 (omega arith), lt-leb (length gears) j l, lt-leb (a gears (j - 1)) ceiling m, lt-leb u (a gears j) n)

-- ---- the rules in order

module _ (r : Reference) (gears : List Gear) where
  abbrev R : ℕ
  R = r.a_ref.0

  abbrev u : ℕ
  u = r.a_urban.0

  pub no_gear : length gears ≡ 0 → choice_of r gears ≡ None
  unfolding choice_of
  no_gear e = simp (eq-eqb (length gears) 0 e)

  pub rule_1 : length gears ≡ 1 → choice_of r gears ≡ Some (One 1 0)
  unfolding choice_of
  rule_1 e = simp (ne_eqb (length gears) 0 (omega arith), eq-eqb (length gears) 1 e)

  pub rule_2 : 1 < length gears → nearest R gears < length gears → choice_of r gears ≡ Some (One 2 (nearest R gears))
  unfolding choice_of
  rule_2 h l = simp (ne_eqb (length gears) 0 (omega arith), ne_eqb (length gears) 1 (omega arith), lt-ltb (nearest R gears) (length gears) l)

  pub rules_3_to_5 : 1 < length gears → length gears ≤ nearest R gears → choice_of r gears ≡ across_of u gears (j_of R gears)
  unfolding choice_of
  rules_3_to_5 h l = simp (ne_eqb (length gears) 0 (omega arith), ne_eqb (length gears) 1 (omega arith), le-ltb (nearest R gears) (length gears) l)

-- ---- what holds of a choice

-- of a pair, a(j) < R ≤ a(i)
pub record Paired (R : ℕ) (gears : List Gear) (i : ℕ) : Type 0 where
  pub inside : i + 1 < length gears
  pub above : R ≤ a gears i
  pub below : a gears (i + 1) < R

-- A choice is of gears that remain, and of a pair the accelerations lie on both sides of R
abbrev pub Selectable : ℕ → List Gear → Option Choice → Type 0
Selectable R gears (Some (One r p)) = p < length gears
Selectable R gears (Some (Pair r i)) = Paired R gears i
Selectable R gears None = Unit {0}

near-301 : near 301 ceiling ≡ true
unfolding near gap
near-301 = refl

module _ (R u : ℕ) (gears : List Gear) where
  paired : 0 < j_of R gears → j_of R gears < length gears → Paired R gears (j_of R gears - 1)
  paired h l =
      let next : j_of R gears - 1 + 1 ≡ j_of R gears = omega arith in
      record {
        inside = omega arith;
        above = leb-true R (a gears (j_of R gears - 1)) ((j R gears).passes h);
        below = rw next (leb-false R (a gears (j_of R gears)) ((j R gears).after (j_of R gears) (omega arith) l));
      }

  one_sound : (rule p : ℕ) → Selectable R gears (one_at rule gears p)
  unfolding one_at
  one_sound rule p = by_test (Selectable R gears) (ltb p (length gears)) _ _ (λ e. ltb-true p (length gears) e) (λ e. tt)

  across_sound : Selectable R gears (across_of u gears (j_of R gears))
  unfolding across_of
  across_sound =
      by_test (Selectable R gears) (eqb (j_of R gears) 0 || leb (length gears) (j_of R gears)) _ _ (λ e. tt)
      (λ both.
      let p = neither (eqb (j_of R gears) 0) (leb (length gears) (j_of R gears)) both in
      let h : 0 < j_of R gears = omega (arith, eqb-false (j_of R gears) 0 p.0) in
      let l = leb-false (length gears) (j_of R gears) p.1 in
      by_test (Selectable R gears) (leb (a gears (j_of R gears - 1)) ceiling) _ _ (λ e. paired h l)
      (λ high. by_test (Selectable R gears) (leb u (a gears (j_of R gears))) _ _ (λ e. one_sound 4 (first_below gears)) (λ e. paired h l)))

  -- Rule 4 always finds a gear: a(j) is below R, which is at most 3.01, and at 3.00 rule 2 would have taken it.
  pub rule_4_finds : R ≤ 301 → length gears ≤ nearest R gears → 0 < j_of R gears → j_of R gears < length gears → first_below gears < length gears
  unfolding first_below
  rule_4_finds most none h l =
      lt_of_le_of_lt (lowest_most (λ p. ltb (a gears p) ceiling) (length gears) 0 (j_of R gears) (omega arith) (lt-ltb (a gears (j_of R gears)) ceiling (under (ltb (a gears (j_of R gears)) ceiling) refl))) l
    where
      less : a gears (j_of R gears) < R
      less = leb-false R (a gears (j_of R gears)) ((j R gears).after (j_of R gears) (omega arith) l)

      far : near R (a gears (j_of R gears)) ≡ false
      far = none_near R gears none (j_of R gears) l

      at_ceiling : (x r : ℕ) → x ≡ ceiling → r ≡ 301 → near r x ≡ true
      at_ceiling x r e f = rw (e, f) near-301

      under : (t : Bool) → ltb (a gears (j_of R gears)) ceiling ≡ t → a gears (j_of R gears) < ceiling
      under true e = ltb-true (a gears (j_of R gears)) ceiling e
      under false e =
          let b = ltb-false (a gears (j_of R gears)) ceiling e in
          absurd (true≢false (sym (at_ceiling (a gears (j_of R gears)) R (omega (arith, less)) (omega (arith, less))) ∙ far))

-- so is every choice of the rules
pub sound : (r : Reference) (gears : List Gear) → Selectable r.a_ref.0 gears (choice_of r gears)
unfolding choice_of
sound r gears =
    by_test (Selectable R gears) (eqb (length gears) 0) _ _ (λ e. tt)
    (λ some. by_test (Selectable R gears) (eqb (length gears) 1) _ _ (λ e. omega (arith, eqb-true (length gears) 1 e))
    (λ many. by_test (Selectable R gears) (ltb (nearest R gears) (length gears)) _ _ (λ e. ltb-true (nearest R gears) (length gears) e) (λ none. across_sound R r.a_urban.0 gears)))
  where
    R : ℕ
    R = r.a_ref.0

-- so its places are inside
pub inside : (R : ℕ) (gears : List Gear) (c : Option Choice) → Selectable R gears c → Inside (length gears) c
inside R gears (Some (One r p)) h = h
inside R gears (Some (Pair r i)) h = h.inside
inside R gears None h = tt
