-- Each gear is taken into account in its turn, and after the last the nearest is that of rule 2. Assumes nothing.
use Rattle.std.proofs.Common.{rules, ◌≡◌, Bool, length, ℕ, Option, Some, None, sym, ◌∙◌, arith}
use Rattle.std.specs.Bool.{IsTrue}
use Rattle.std.specs.Option.{MatchOption, option_map}
use lib.Dec.{ltb}
use Rattle.gears.specs.declared.Best.{Best}
use Rattle.gears.specs.Rules.{a, gear_at, empty_gear}
use Rattle.gears.proofs.Nearest.{nearer_than, taken, passed, found}
use Rattle.gears.proofs.nearest_place.Goals as goal
use Rattle.gears.proofs.nearest_place.Goals.{then-is_near+then-is_none_or, else-is_near, else-is_near-via-then-is_near+else-is_none_or, else-is_near-via-else-is_near}

-- what `is_none_or` answers of the nearest so far
by_best : (Q : Best → Type 0) (o : Option Best) (d : ℕ) (r : Bool) → MatchOption o (IsTrue r) Q → ((b : Best) → Q b → r ≡ ltb d b.distance.0) → nearer_than o d ≡ r
by_best Q None d r h f = sym h
by_best Q (Some b) d r h f = sym (f b h)

pub loop-place-preserved : goal.loop-place-preserved
unfolding a gear_at empty_gear
loop-place-preserved c =
    let l = c.loop-place in
    let R = c.args.reference.a_ref.0 in
    let d = c.distance-d.result in
    elim c.if-is_near.branch [
      | then-is_near+then-is_none_or w ↦ rw w.best-is (taken R c.args.gears.now l.place l.best d (search rules) c.distance-d.ensures (by_best _ l.best d.0 _ w.is_none_or.ensures (λ b p. search rules) ∙ w.if-is_none_or.true) l.invariant)
      | else-is_near w ↦ rw w.best-is (passed R c.args.gears.now l.place l.best d c.distance-d.ensures
          (elim w.else-is_near.branch [
            | else-is_near-via-then-is_near+else-is_none_or v ↦ simp (sym v.if-is_near.ensures, by_best _ l.best d.0 _ v.is_none_or.ensures (λ b p. search rules), v.if-is_none_or.false)
            | else-is_near-via-else-is_near v ↦ simp (sym c.is_near.ensures, v.if-is_near.false)
          ]) l.invariant)
    ]

pub returns : goal.returns
returns c = let place : c.map.result ≡ option_map (λ (b : Best). b.place) c.loop-place.best = search rules in let end : c.loop-place.place ≡ length c.args.gears.now = omega arith in place ∙ found _ _ _ (rw end at c.loop-place.invariant)
