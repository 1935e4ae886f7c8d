use Rattle.std.proofs.Common.{leb, rules}
use Rattle.std.proofs.lemmas.List.Sorted.{IsPartitionPoint-from_clause, IsPartitionedBy-leb}
use Rattle.fat_layouts.proofs.StopLaws.{some_passed, is_last_passed}
use Rattle.fat_layouts.proofs.stops.last_passed.Goals as goal

pub overflow_sub-result : goal.overflow_sub-result
overflow_sub-result c =
    let parted = IsPartitionedBy-leb (λ s. s.end) _ c.args.offset c.requires.ordered in
    some_passed c.args.stops.now c.args.offset c.partition_point-passed.result c.requires.first
    (IsPartitionPoint-from_clause (λ s. leb s.end c.args.offset) _ _ c.partition_point-passed.ensures.partitioned parted (λ a r q k. search rules))

pub returns : goal.returns
returns c =
    let parted = IsPartitionedBy-leb (λ s. s.end) _ c.args.offset c.requires.ordered in
    is_last_passed c.args.stops.now c.args.offset c.partition_point-passed.result _ c.requires.first c.partition_point-passed.ensures.bound
    (IsPartitionPoint-from_clause (λ s. leb s.end c.args.offset) _ _ c.partition_point-passed.ensures.partitioned parted (λ a r q k. search rules))
