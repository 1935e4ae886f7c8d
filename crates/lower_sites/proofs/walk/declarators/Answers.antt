use Rattle.std.proofs.Common.{map, take}
use Rattle.c_tree.specs.Views.{added}
use Rattle.c_tree.specs.TypedTree as typed
use Rattle.c_tree.specs.TypedStatementViews.{typed_init_declarator_view}
use Rattle.c_tree.proofs.ListLaws.{one_more}
use Rattle.lower_sites.proofs.NameLaws.{tells_begin}
use Rattle.lower_sites.proofs.walk.declarators.Goals as goal

pub loop-one-init : goal.loop-one-init
loop-one-init c = record { told = tells_begin c.args.k.now.types.now _ }

pub loop-one-preserved : goal.loop-one-preserved
loop-one-preserved c = record {
  told = rw (one_more typed_init_declarator_view c.args.all.now c.loop-one.one-index c.one-item.result c.loop-one-test.true c.one-item.is typed.NoInitDeclarator)
      (c.declarator.ensures (added typed.NoInitDeclarator (map typed_init_declarator_view (take c.loop-one.one-index c.args.all.now))) c.args.out.now c.loop-one.invariant.told);
}
