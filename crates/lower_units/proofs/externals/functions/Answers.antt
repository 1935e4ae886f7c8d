use Rattle.std.proofs.Common.{map, take}
use Rattle.c_tree.specs.Views.{added}
use Rattle.c_tree.specs.TypedTree as typed
use Rattle.c_tree.specs.TypedStatementViews.{typed_external_view}
use Rattle.c_tree.proofs.ListLaws.{one_more}
use Rattle.lower_units.specs.Ready.{HasCodeOfFunction}
use Rattle.lower_units.proofs.MainLaws.{one_alone}
use Rattle.lower_units.proofs.externals.functions.Goals as goal

pub external-requires : goal.external-requires
external-requires c = one_alone (HasCodeOfFunction c.args.k.now.types.now c.args.k.now.statics.now.keys) typed.NoExternal c.args.all.now
    c.loop-one.one-index c.one-item.result c.one-item.result c.loop-one-test.true c.one-item.is c.requires

pub loop-one-preserved : goal.loop-one-preserved
loop-one-preserved c = record {
  made = rw (one_more typed_external_view c.args.all.now c.loop-one.one-index c.one-item.result c.loop-one-test.true c.one-item.is typed.NoExternal)
      (c.in_ok-external.ensures (added typed.NoExternal (map typed_external_view (take c.loop-one.one-index c.args.all.now))) c.loop-one.invariant.made);
}
