-- The rules tied together by recursion on the number of nodes that are allowed, and initialisers.
use Rattle.std.specs.Prelude.{ℕ, zero, suc, true, false, ◌||◌, Option, Some, None}
use Rattle.cc_base.specs.declared.place.Place.{Place}
use Rattle.parse_rules.specs.Parsers.{Parser, pure, skip, expect, branch, by_first, too_deep, unsupported, loop, ◌>>=◌, ◌>>◌}
use Rattle.c_tree.specs.Symbols.{Symbol}
use Rattle.c_tree.specs.Tree as tree
use Rattle.c_tree.specs.Words.{TypeNames}
use Rattle.c_parse_words.specs.Tests.{is_close_brace, open_brace, begins_expr, begins_specifier, begins_declarator, begins_initialiser, is_designator}
use Rattle.c_expr_parse.specs.ExprRules.{Inner, expr_layer, after_paren}
use Rattle.c_expr_parse.specs.TypeRules.{specifiers_layer, Series, Upto, goes_on_series}
use Rattle.c_expr_parse.specs.DeclaratorRules.{declarator_layer}

-- the rules where this many nodes are allowed
unfoldable pub rules : TypeNames → ℕ → Inner
rules names zero = record {
  expr = λ least. too_deep (begins_expr names);
  paren = λ at. too_deep (begins_expr names);
  specifiers = λ scope. too_deep (begins_specifier names scope);
  declarator = λ naming. too_deep (begins_declarator names naming);
}
rules names (suc d) = record {
  expr = λ least. expr_layer names d (rules names d) least;
  paren = λ at. after_paren names d (rules names d) at;
  specifiers = λ scope. specifiers_layer names (rules names d) scope;
  declarator = λ naming. declarator_layer names (rules names d) naming;
}

-- Initialisers (C99 6.7.8). The rule for those inside is a parameter.

unfoldable pub next_item : Parser Symbol tree.Initialiser → tree.Items → Parser Symbol (Series tree.Items)
next_item inner before = unsupported is_designator do
  value ← inner
  pure (Upto (tree.AndItem before value) false)

unfoldable pub item_step : TypeNames → Parser Symbol tree.Initialiser → Series tree.Items → Parser Symbol (Series tree.Items)
item_step names inner (Upto before comma) = do
  skip
  branch (λ next. is_designator next || begins_initialiser names next) (next_item inner before) (pure (Upto before true))

unfoldable pub listed : Place → Series tree.Items → Parser Symbol tree.Initialiser
listed brace (Upto items comma) = pure (tree.Listed brace items comma)

-- after the `{`
unfoldable pub initialiser_list : TypeNames → Parser Symbol tree.Initialiser → Place → Parser Symbol tree.Initialiser
initialiser_list names inner brace = do
  first ← next_item inner tree.NoItem
  series ← loop goes_on_series (item_step names inner) first
  expect is_close_brace
  listed brace series

unfoldable pub value : Inner → Parser Symbol tree.Initialiser
value inner = do
  e ← inner.expr 1
  pure (tree.Value e)

unfoldable pub initialiser_from : TypeNames → Inner → Parser Symbol tree.Initialiser → Option Place → Parser Symbol tree.Initialiser
initialiser_from names here inner (Some brace) = do
  skip
  initialiser_list names inner brace
initialiser_from names here inner None = value here

unfoldable pub initialiser : TypeNames → ℕ → Parser Symbol tree.Initialiser
initialiser names zero = too_deep (begins_initialiser names)
initialiser names (suc d) = by_first open_brace (initialiser_from names (rules names (suc d)) (initialiser names d))
