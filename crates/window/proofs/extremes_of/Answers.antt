-- The pass over the levels: each goes behind those that were read before it. Assumes nothing.
use Rattle.std.proofs.Common.{rules, of_calls, ◌∷◌, map}
use Rattle.std.proofs.lemmas.Fn.{fronts, fold_over}
use Rattle.std.proofs.lemmas.List.{map-append}
use Rattle.std.proofs.iter.Yields.{slice_gives}
use Rattle.window.specs.Extremes.{AreExtremes}
use Rattle.window.proofs.extremes_of.Goals as goal

pub returns : goal.returns
returns c =
    rw c.iter.ensures.rest at
    (fold_over fronts (λ x. x.now) _
    (λ ys a. AreExtremes (map (λ level. level.0) (c.args.first ∷ ys)) a)
    _
    (λ ys a x b f j k. simp map-append (search (rules, of_calls)))
    c.iter.result _ _ _ (slice_gives c.iter.result) c.first_read.ensures c.fold.ensures.ran)
