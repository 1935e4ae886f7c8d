use Rattle.std.proofs.Common.{arith}
use Rattle.phys_types.specs.Standing.{shown}
use Rattle.phys_types.proofs.Crossed.{column_start, column_more, column_done}
use Rattle.phys_types.proofs.crossing.column.Goals as goal

pub steps-init : goal.steps-init
steps-init c = column_start c.args.step c.args.first c.args.spots.now c.new-pointers.result.keys c.new-pointers.ensures.empty c.requires.some

pub steps-preserved : goal.steps-preserved
steps-preserved c =
    column_more c.args.step c.args.first c.args.spots.now c.steps.i _ (shown c.pointer_at.result) c.steps.pointers.keys c.add_pointer.new.pointers.keys
    (let l = c.requires.some in omega arith) (omega arith) c.pointer_at.ensures c.in_ok-add_pointer.ensures c.steps.invariant

pub returns : goal.returns
returns c = column_done c.args.step c.args.first c.args.spots.now c.steps.i c.steps.pointers.keys (omega arith) c.steps.invariant
