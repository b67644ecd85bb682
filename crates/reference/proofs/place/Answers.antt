-- `reference::place` meets its contract: the starts rise, so those that are not above q stand before the others. Assumes nothing.
use Rattle.std.proofs.Common.{leb, leb-true, leb-false, arith, rules}
use Rattle.std.proofs.lemmas.List.Sorted.{IsPartitionPoint-from_clause, IsPartitionedBy-leb}
use Rattle.reference.specs.Place.{StartsRise}
use Rattle.reference.proofs.place.Goals as goal

pub returns : goal.returns
unfolding StartsRise
returns c =
    let parted = IsPartitionedBy-leb (λ start. start) _ c.args.q c.requires in
    let point = IsPartitionPoint-from_clause (λ start. leb start c.args.q) _ _ c.partition_point.ensures.partitioned parted (λ a r p k. search rules) in
    record {
      bounded = c.partition_point.ensures.bound;
      reached = λ h. leb-true _ _ (point.0 _ 0 (omega arith) (omega arith));
      short = λ h. leb-false _ _ (point.1 _ 0 (omega arith) h);
    }
