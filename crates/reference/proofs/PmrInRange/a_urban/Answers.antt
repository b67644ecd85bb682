-- The starts rise, by a test over the table that is computed, as the one is of which N each start opens; and the place of q says which N is its own.
use Rattle.std.proofs.Common.{refl, ap, ◌∙◌, arith}
use Rattle.reference.specs.Reference.{a_urban}
use Rattle.reference.proofs.Powers.{rising, start, placed_lowest}
use Rattle.reference.proofs.PmrInRange.a_urban.Goals as goal

pub place-requires : goal.place-requires
place-requires c = rising _ tt

pub returns : goal.returns
unfolding a_urban start
returns c =
    let q = c.tenths-q in
    placed_lowest 126 143 145 35 50 6000 _ (record { step = refl; tested = tt; opens = tt; closes = tt }) q.result c.place.result c.place.ensures q.ensures.range.0 q.ensures.range.1 (omega arith)
    ∙ ap a_urban q.ensures.value
