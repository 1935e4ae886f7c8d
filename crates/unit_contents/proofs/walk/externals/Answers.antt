use Rattle.std.proofs.Common.{map, take}
use Rattle.c_tree.specs.Views.{added}
use Rattle.c_tree.specs.TypedTree as typed
use Rattle.c_tree.specs.TypedStatementViews.{typed_external_view}
use Rattle.unit_parts.proofs.Laws.{collects_nothing}
use Rattle.c_tree.proofs.ListLaws.{one_more}
use Rattle.unit_contents.proofs.walk.externals.Goals as goal

pub loop-one-init : goal.loop-one-init
loop-one-init c = record { found = collects_nothing _ _ }

pub loop-one-preserved : goal.loop-one-preserved
loop-one-preserved c = record {
  found = rw (one_more typed_external_view c.args.all.now c.loop-one.one-index c.one-item.result c.loop-one-test.true c.one-item.is typed.NoExternal)
      (c.external.ensures (added typed.NoExternal (map typed_external_view (take c.loop-one.one-index c.args.all.now))) c.args.out.now c.loop-one.invariant.found);
}
