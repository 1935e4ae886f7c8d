use Rattle.std.proofs.Common.{map, take}
use Rattle.c_tree.specs.TypedTree as typed
use Rattle.c_tree.specs.TypedViews.{typed_specifiers_of, typed_specifier_view}
use Rattle.c_tree.proofs.ListLaws.{one_longer}
use Rattle.lower_sites.proofs.NameLaws.{typedef_more}
use Rattle.lower_sites.proofs.walk.is_typedef_list.Goals as goal

pub loop-one-preserved : goal.loop-one-preserved
loop-one-preserved c =
    rw (one_longer typed.AndSpecifier typed_specifier_view c.args.all.now c.loop-one.one-index c.one-item.result c.loop-one-test.true c.one-item.is typed.NoSpecifier)
    (typedef_more _ _ _ _ c.loop-one.invariant (c.is_typedef_word-found.ensures (typed_specifiers_of (map typed_specifier_view (take c.loop-one.one-index c.args.all.now)))))
