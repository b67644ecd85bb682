-- `record::blank` meets its contract: a pass over the part goes on as long as each byte so far is zero. Assumes nothing.
use mathlib.Core.Logic.{◌↔◌}
use Prim.Native.Nat.{ℕ, ◌-◌}
use native.Mathlib.Omega.{arith}
use Rattle.std.specs.Bool.{IsTrue}
use Rattle.std.specs.List.{All}
use Rattle.std.proofs.Common.{rules, of_calls, ◌≡◌, ◌&&◌, eqb, refl, take, drop}
use Rattle.std.proofs.lemmas.Fn.{fronts, fold_over}
use Rattle.std.proofs.iter.Yields.{slice_gives}
use Rattle.record.proofs.Fields.{zero_more, zeros_decided}
use Rattle.record.proofs.blank.Goals as goal

pub returns : goal.returns
returns c =
    let a = c.args in
    let all_zero : IsTrue c.fold.result ↔ All (λ (b : ℕ). b ≡ 0) (take (a.end - a.at) (drop a.at a.r.now)) =
    rw c.iter.ensures.rest at
    (fold_over fronts (λ x. x.now) _
    (λ ys ok. IsTrue ok ↔ All (λ (b : ℕ). b ≡ 0) ys)
    _
    (λ ys ok x b f j k. let step : b ≡ (ok && eqb x.now 0) = search (rules, of_calls) in (zero_more ok b ys x.now step j, search (rules, of_calls)))
    c.iter.result _ _ _ (slice_gives c.iter.result) (λ t k d h. absurd (omega (arith, h)), λ all. refl) c.fold.ensures.ran) in
    zeros_decided c.fold.result a.r.now a.at (a.end - a.at) (omega arith) all_zero
