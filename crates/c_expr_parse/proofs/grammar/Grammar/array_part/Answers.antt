use Rattle.std.proofs.Common.{rules, arith}
use Rattle.std.proofs.lemmas.Grind.{common_steps}
use Rattle.c_expr_parse.specs.DeclaratorRules.{array_part}
use Rattle.c_expr_parse.proofs.PartLaws.{sized_array-push}
use Rattle.c_expr_parse.proofs.grammar.Grammar.array_part.Goals as goal

pub returns-clause-reads : goal.returns-clause-reads
unfolding array_part
returns-clause-reads g c =
    let pushed = sized_array-push c.args.before.tree c.push.new.self c.args.at c.in_ok-words.words.list c.in_ok-tree.field-0.tree c.in_ok-push.ensures.ok in
    rw pushed (first_of (search rules, grind (arith, common_steps)))

pub returns-clause-height : goal.returns-clause-height
returns-clause-height g c =
    let pushed = sized_array-push c.args.before.tree c.push.new.self c.args.at c.in_ok-words.words.list c.in_ok-tree.field-0.tree c.in_ok-push.ensures.ok in
    rw pushed (first_of (search rules, grind (arith, common_steps)))
