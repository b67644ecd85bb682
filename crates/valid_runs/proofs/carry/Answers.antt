-- The last three of sixteen runs, one after another. Assumes nothing.
use mathlib.Core.Path.{◌≡◌, sym, ap, ◌∙◌}
use mathlib.Core.List.{List, [], ◌∷◌, ◌++◌}
use native.Mathlib.Omega.{arith}
use lib.ListN.{length, get_or, drop}
use Rattle.std.proofs.Math.Seq.{drop-cons}
use Rattle.std.proofs.lemmas.List.{drop_all}
use Rattle.valid_runs.proofs.carry.Goals as goal

last_three : {X : Type 0} (xs : List X) (d : X) → length xs ≡ 16 → get_or xs 13 d ∷ get_or xs 14 d ∷ get_or xs 15 d ∷ [] ≡ drop 13 xs
last_three xs d e =
    sym
    (drop-cons xs 13 d (omega (arith, e))
    ∙ ap (λ l. get_or xs 13 d ∷ l) (drop-cons xs 14 d (omega (arith, e)))
    ∙ ap (λ l. get_or xs 13 d ∷ get_or xs 14 d ∷ l) (drop-cons xs 15 d (omega (arith, e)))
    ∙ ap (λ l. get_or xs 13 d ∷ get_or xs 14 d ∷ get_or xs 15 d ∷ l) (drop_all 16 xs (omega (arith, e))))

pub returns : goal.returns
returns c =
    rw (c.push-3.ensures.items, c.push-2.ensures.items, c.push.ensures.items, c.clear.ensures, c.deref.ensures.0, c.deref-2.ensures.0, c.deref-3.ensures.0)
    (last_three c.args.runs.now.items _ c.requires)
