use Rattle.std.proofs.Common.{get_or}
use Rattle.rtti_nodes.specs.Classes.{sized}
use Rattle.rtti_nodes.proofs.Sizes.{pushed_next}
use Rattle.rtti_nodes.proofs.ordering.with_sizes.Goals as goal

pub types-preserved : goal.types-preserved
types-preserved c =
    let t = get_or c.args.types.now c.types.ty-index (record { 0 = 0 }) in
    pushed_next (sized c.args.known.now) c.args.types.now c.types.all.items c.push.new.self.items c.types.ty-index (record { 0 = 0 }) _ c.types-test.true c.types.invariant
    c.in_ok-push.ensures.items (λ i. record { size = c.cell_count-size.ensures i; ty = t })
