use Rattle.std.proofs.Common.{◌<◌, suc, arith, rules}
use Rattle.c_tree.specs.Depth.{specifier_list_height}
use Rattle.c_tree.specs.Views.{specifiers_view}
use Rattle.c_check_walk.proofs.SpecifiedLaws.{listed_from}
use Rattle.c_check_walk.proofs.walker.Walker.specifiers.Goals as goal

pub returns-clause-listed : goal.returns-clause-listed
returns-clause-listed g c = listed_from _ _ _ _ (search rules)

pub returns-clause-grows : goal.returns-clause-grows
returns-clause-grows g c =
    let below : specifier_list_height (specifiers_view c.args.specifiers.now) < suc (specifier_list_height (specifiers_view c.args.specifiers.now)) = omega arith in
    c.requires.nests.specifiers_grows _ _ _ _ _ _ below c.judge_specifiers.ensures
