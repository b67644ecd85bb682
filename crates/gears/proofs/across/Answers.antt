-- Rule by rule, where gear i is next to place j. Assumes nothing.
use Rattle.std.proofs.Common.{rules, ◌≡◌, ℕ, ◌+◌, ◌-◌, ◌≤◌, ◌<◌, List, Some, None, length, refl, sym, ap, ◌∙◌, arith}
use Rattle.std.specs.Option.{option_map}
use lib.Dec.{ltb}
use mathlib.Core.Bool.{Bool, true, false, cond}
use Rattle.units.specs.Tests.{below}
use Rattle.gears.specs.declared.Gear.{Gear}
use Rattle.gears.specs.declared.Choice.TheVariants.{One, Pair}
use Rattle.gears.specs.Rules.{a, gear_at, empty_gear, ceiling, one_at, first_below, across_of}
use Rattle.gears.proofs.Places.{i_none, i_some}
use Rattle.gears.proofs.Choices.{no_i, no_j, rule_3, rule_4, rule_5}
use Rattle.gears.proofs.across.Goals as goal

module _ (u : ℕ) (gears : List Gear) (j i : ℕ) (next : j ≡ i + 1) (inside : i + 1 < length gears) where
  here : j - 1 ≡ i
  here = omega arith

  by_3 : a gears i ≤ ceiling → Some (Pair 3 i) ≡ across_of u gears j
  by_3 m = sym (rule_3 u gears j (omega arith) (omega arith) (rw here m) ∙ ap (λ p. Some (Pair 3 p)) here)

  by_4 : ceiling < a gears i → u ≤ a gears (i + 1) → one_at 4 gears (first_below gears) ≡ across_of u gears j
  by_4 m n = sym (rule_4 u gears j (omega arith) (omega arith) (rw here m) (rw next n))

  by_5 : ceiling < a gears i → a gears (i + 1) < u → Some (Pair 5 i) ≡ across_of u gears j
  by_5 m n = sym (rule_5 u gears j (omega arith) (omega arith) (rw here m) (rw next n) ∙ ap (λ p. Some (Pair 5 p)) here)

one_below : (rule : ℕ) (gears : List Gear) (p : ℕ) → option_map (One rule) (below (length gears) p) ≡ one_at rule gears p
unfolding below one_at
one_below rule gears p = by (ltb p (length gears))
  where
    by : (t : Bool) → option_map (One rule) (cond t (Some p) None) ≡ cond t (Some (One rule p)) None
    by true = refl
    by false = refl

pub returns-in_err-i : goal.returns-in_err-i
returns-in_err-i c = c.from_residual.ensures ∙ sym (no_i _ _ _ (i_none _ _ (sym c.i_place.ensures ∙ c.in_err-i.was)))

pub overflow_add-j : goal.overflow_add-j
overflow_add-j c = let is = i_some _ _ _ (sym c.i_place.ensures ∙ c.in_ok-i.was) in search rules

pub returns-then-gears-j : goal.returns-then-gears-j
returns-then-gears-j c = let is = i_some _ _ _ (sym c.i_place.ensures ∙ c.in_ok-i.was) in sym (no_j _ _ _ (omega arith) (omega arith))

pub returns-then-le : goal.returns-then-le
unfolding a gear_at empty_gear
returns-then-le c =
    let is = i_some _ _ _ (sym c.i_place.ensures ∙ c.in_ok-i.was) in
    by_3 _ _ _ _ is.0 c.if-gears-j.false (search rules)

pub returns-then-le-2 : goal.returns-then-le-2
unfolding a gear_at empty_gear
returns-then-le-2 c =
    let is = i_some _ _ _ (sym c.i_place.ensures ∙ c.in_ok-i.was) in
    let under : c.map.result ≡ option_map (One 4) c.below_ceiling.result = search rules in
    under ∙ ap (option_map (One 4)) c.below_ceiling.ensures ∙ one_below 4 _ _ ∙ by_4 _ _ _ _ is.0 c.if-gears-j.false (search rules) (search rules)

pub returns : goal.returns
unfolding a gear_at empty_gear
returns c =
    let is = i_some _ _ _ (sym c.i_place.ensures ∙ c.in_ok-i.was) in
    by_5 _ _ _ _ is.0 c.if-gears-j.false (search rules) (search rules)
