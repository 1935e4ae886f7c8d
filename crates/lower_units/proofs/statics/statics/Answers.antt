use Rattle.std.proofs.Common.{map, take}
use Rattle.c_tree.specs.Views.{added}
use Rattle.c_tree.specs.TypedTree as typed
use Rattle.c_tree.specs.TypedStatementViews.{typed_external_view}
use Rattle.c_tree.proofs.ListLaws.{one_more}
use Rattle.lower_exprs.specs.Drafts.{context_of}
use Rattle.lower_units.proofs.StaticLaws.{statics_none}
use Rattle.lower_units.proofs.statics.statics.Goals as goal

pub loop-one-init : goal.loop-one-init
loop-one-init c = record { made = statics_none (context_of c.args.k.now) _ }

pub loop-one-preserved : goal.loop-one-preserved
loop-one-preserved c = record {
  made = rw (one_more typed_external_view c.args.all.now c.loop-one.one-index c.one-item.result c.loop-one-test.true c.one-item.is typed.NoExternal)
      (c.external.ensures (added typed.NoExternal (map typed_external_view (take c.loop-one.one-index c.args.all.now))) c.args.out.now c.loop-one.invariant.made);
}
