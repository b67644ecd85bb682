-- `motorcycle::first_outside` meets its contract: the place of the first level that is out of range, counted from 1. Assumes nothing.
use mathlib.Core.Path.{◌≡◌, refl, sym, ap, ◌∙◌}
use mathlib.Core.Bool.{Bool, true, false, cond, not}
use mathlib.Core.List.{List, [], ◌∷◌}
use Prim.Native.Nat.{ℕ, ◌+◌}
use native.Mathlib.Omega.{arith}
use lib.Dec.{ltb}
use borrow.Author.Rules.{rules}
use borrow.Author.Tests.{ltb-true, ltb-false, lt-ltb, le-ltb}
use lib.Ieee.{Float}
use Rattle.std.specs.Prelude.{Option, Some, None}
use Rattle.std.specs.Option.{option_map}
use Rattle.std.specs.List.{position, position_or_len}
use Rattle.units.specs.Tests.{lowest, below}
use Rattle.level.specs.Reading.{in_range}
use Rattle.motorcycle.specs.declared.Levels.{Levels}
use Rattle.motorcycle.specs.Verdict.{outside, first_outside}
use Rattle.motorcycle.proofs.first_outside.Goals as goal

-- the levels in their order
abbrev four : Levels → List Float
four x = x.first ∷ x.second ∷ x.third ∷ x.fourth ∷ []

-- the first level out of range stands at its number less one
numbered : (x : Levels) → position_or_len (λ l. not (in_range l)) (four x) + 1 ≡ first_outside x
unfolding first_outside lowest
numbered x = by (outside x 1) (outside x 2) (outside x 3) (outside x 4)
  where
    by : (a b c d : Bool) → cond (not a) (1 + cond (not b) (1 + cond (not c) (1 + cond (not d) (1 + 0) 0) 0) 0) 0 + 1 ≡ elim a [ true ↦ 1 | false ↦ elim b [ true ↦ 2 | false ↦ elim c [ true ↦ 3 | false ↦ elim d [ true ↦ 4 | false ↦ 5 ] ] ] ]
    by true b c d = refl
    by false true c d = refl
    by false false true d = refl
    by false false false true = refl
    by false false false false = refl

-- so one more than its place is its number, and no place is no number
next : (k : ℕ) → option_map (λ at. at + 1) (cond (ltb k 4) (Some k) None) ≡ below 5 (k + 1)
unfolding below
next k = by (ltb k 4) refl
  where
    by : (b : Bool) → ltb k 4 ≡ b → option_map (λ at. at + 1) (cond (ltb k 4) (Some k) None) ≡ below 5 (k + 1)
    by true e = simp (e, lt-ltb (k + 1) 5 (omega (arith, ltb-true k 4 e)))
    by false e = simp (e, le-ltb (k + 1) 5 (omega (arith, ltb-false k 4 e)))

told : (x : Levels) {found : Option ℕ} → found ≡ position (λ l. not (in_range l)) (four x) → option_map (λ at. at + 1) found ≡ below 5 (first_outside x)
told x e = ap (option_map (λ at. at + 1)) e ∙ next (position_or_len (λ l. not (in_range l)) (four x)) ∙ ap (below 5) (numbered x)

pub returns-in_err-at : goal.returns-in_err-at
returns-in_err-at c =
    c.from_residual.ensures ∙ ap (option_map (λ at. at + 1)) (sym c.in_err-at.was) ∙ told c.args.levels (search rules)

pub returns : goal.returns
returns c = ap (option_map (λ at. at + 1)) (sym c.in_ok-at.was) ∙ told c.args.levels (search rules)
