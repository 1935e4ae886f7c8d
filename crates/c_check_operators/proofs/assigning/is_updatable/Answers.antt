use Rattle.c_typing.specs.OperandViews.{part_ref_view}
use Rattle.c_check_operators.proofs.AssigningLaws.{updatable}
use Rattle.c_check_operators.proofs.assigning.is_updatable.Goals as goal

pub returns : goal.returns
returns c =
    updatable c.args.types.now c.args.operator c.assigning-binary.result (part_ref_view c.args.x) (part_ref_view c.args.y)
    c.are_updatable.result c.requires c.assigning-binary.ensures c.are_updatable.ensures
