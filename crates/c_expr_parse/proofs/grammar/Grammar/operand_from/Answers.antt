use Rattle.c_expr_parse.specs.ExprRules.{operand_from}
use Rattle.c_expr_parse.proofs.grammar.Grammar.operand_from.Goals as goal

pub returns-in-Quoted-clause-reads : goal.returns-in-Quoted-clause-reads
unfolding operand_from
returns-in-Quoted-clause-reads g c = rw c.in-Quoted.is c.string.ensures.reads
