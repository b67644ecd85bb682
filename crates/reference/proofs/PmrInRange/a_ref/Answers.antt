-- Below 25.0 it is a_urban, and from there the second table is read as the first is.
use Rattle.std.proofs.Common.{refl, sym, ap, ◌∙◌, arith}
use borrow.Author.Tests.{lt-ltb, le-ltb}
use Rattle.reference.specs.Reference.{a_urban, a_ref}
use Rattle.reference.proofs.Powers.{rising, start, placed_lowest}
use Rattle.reference.proofs.PmrInRange.a_ref.Goals as goal

pub returns-then-q-lt250 : goal.returns-then-q-lt250
unfolding a_ref
returns-then-q-lt250 c =
    let q = c.tenths-q in
    c.a_urban.ensures ∙ ap a_urban (sym q.ensures.value) ∙ sym (simp (lt-ltb _ _ c.if-q-lt250.true)) ∙ ap a_ref q.ensures.value

pub place-requires : goal.place-requires
place-requires c = rising _ tt

pub returns : goal.returns
unfolding a_ref start
returns c =
    let q = c.tenths-q in
    placed_lowest 318 599 601 81 250 6000 _ (record { step = refl; tested = tt; opens = tt; closes = tt }) q.result c.place.result c.place.ensures c.if-q-lt250.false q.ensures.range.1 (omega arith)
    ∙ sym (simp (le-ltb _ _ c.if-q-lt250.false))
    ∙ ap a_ref q.ensures.value
