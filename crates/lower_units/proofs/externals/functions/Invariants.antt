use Rattle.std.proofs.Common.{map, take}
use Rattle.c_tree.specs.Views.{added}
use Rattle.c_tree.specs.TypedTree as typed
use Rattle.c_tree.specs.TypedStatementViews.{typed_external_view}
use Rattle.lower_units.specs.Mains.{IsMade}
use Rattle.lower_units.proofs.externals.functions.Given as goal

abbrev pub invariant-loop-one : goal.invariant-loop-one
invariant-loop-one l = record {
  made : IsMade l.k.types.now l.k.statics.now.keys (added typed.NoExternal (map typed_external_view (take l.one-index l.all))) l.made;
}
