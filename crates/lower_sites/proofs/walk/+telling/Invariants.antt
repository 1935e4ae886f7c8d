use Rattle.std.proofs.Common.{take}
use Rattle.src_machine.specs.Names.{declarators_in_items}
use Rattle.c_tree.specs.TypedStatementViews.{typed_block_view}
use Rattle.lower_sites.specs.Telling.{Tells, named_by_all}
use Rattle.lower_sites.proofs.walk.+telling.Given as goal

abbrev pub invariant-block-loop-one : goal.invariant-block-loop-one
invariant-block-loop-one l = record {
  told : Tells (named_by_all l.k.types.now (declarators_in_items (typed_block_view (take l.one-index l.all)))) l.fn.out l.out;
}
