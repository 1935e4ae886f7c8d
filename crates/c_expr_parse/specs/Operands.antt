-- Parts of the rules for operands.
use Rattle.std.specs.Prelude.{is_some}
use Rattle.cc_base.specs.declared.place.Place.{Place}
use Rattle.parse_rules.specs.Parsers.{Parser, pure, unsupported, ◌>>=◌}
use Rattle.c_tree.specs.declared.operator.Unary.{Unary}
use Rattle.c_tree.specs.Operators.{operand_level}
use Rattle.c_tree.specs.Symbols.{Symbol}
use Rattle.c_tree.specs.Tree as tree
use Rattle.c_parse_words.specs.Tests.{open_brace}
use Rattle.c_expr_parse.specs.ExprRules.{Inner}

-- after an operator
abbrev pub prefixed : Inner → Unary → Place → Parser Symbol tree.Expr
prefixed inner op at = do
  e ← inner.expr (operand_level op)
  pure (tree.Prefix op at e)

-- after the `)` of a cast
abbrev pub cast_to : Inner → Place → tree.TypeName → Parser Symbol tree.Expr
cast_to inner at type = unsupported (λ next. is_some (open_brace next)) do
  e ← inner.expr 13
  pure (tree.Cast at type e)
