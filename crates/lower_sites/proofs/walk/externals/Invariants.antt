use Rattle.std.proofs.Common.{map, take}
use Rattle.c_tree.specs.Views.{added}
use Rattle.c_tree.specs.TypedTree as typed
use Rattle.src_machine.specs.Names.{declarators_in}
use Rattle.c_tree.specs.TypedStatementViews.{typed_external_view}
use Rattle.lower_sites.specs.Telling.{Tells, named_by_all}
use Rattle.lower_sites.proofs.walk.externals.Given as goal

abbrev pub invariant-loop-one : goal.invariant-loop-one
invariant-loop-one l = record {
  told : Tells (named_by_all l.k.types.now (declarators_in (added typed.NoExternal (map typed_external_view (take l.one-index l.all))))) l.fn.out l.out;
}
