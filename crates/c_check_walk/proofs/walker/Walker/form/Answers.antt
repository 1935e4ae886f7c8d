use Rattle.std.proofs.Common.{◌<◌, suc, arith}
use Rattle.c_tree.specs.Depth.{declarator_height}
use Rattle.c_tree.specs.Views.{declarator_view}
use Rattle.c_check_walk.proofs.walker.Walker.form.Goals as goal

pub returns-clause-grows : goal.returns-clause-grows
returns-clause-grows g c =
    let below : declarator_height (declarator_view c.args.d.now) < suc (declarator_height (declarator_view c.args.d.now)) = omega arith in
    c.requires.nests.form_grows _ _ _ _ _ _ _ _ below c.judge_form.ensures
