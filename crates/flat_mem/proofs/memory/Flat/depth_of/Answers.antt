use Rattle.std.proofs.Common.{rules}
use Rattle.std.proofs.lemmas.List.Sorted.{IsPartitionPoint-from_clause}
use Rattle.flat_mem.proofs.DepthCode.{begins_before, starts-partitioned, depth-below, depth-past, depth-partition}
use Rattle.flat_mem.proofs.memory.Flat.depth_of.Goals as goal

pub returns-then-at-self : goal.returns-then-at-self
returns-then-at-self c = depth-below _ _ _ _ _ _ _ _ _ _ _ _ c.self.view_is c.if-at-self.true c.self.invariant.kept

pub returns-then-at-self-2 : goal.returns-then-at-self-2
returns-then-at-self-2 c = depth-past _ _ _ _ _ _ _ _ _ _ _ _ c.self.view_is c.if-at-self-2.true c.self.invariant.kept

pub returns : goal.returns
returns c =
    let sorted = starts-partitioned _ _ _ _ _ _ _ _ _ _ _ c.args.at c.deref.ensures.value c.self.invariant.kept in
    let part = IsPartitionPoint-from_clause (begins_before c.args.at) _ _ c.partition_point.ensures.partitioned sorted (λ x b f' k. search rules) in
    depth-partition _ _ _ _ _ _ _ _ _ _ _ _ _ _ c.deref.ensures.value c.self.view_is c.if-at-self-2.false c.partition_point.ensures.bound part c.self.invariant.kept
