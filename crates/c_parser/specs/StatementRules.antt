-- Statements and blocks, read from the tokens that are left (C99 6.8). d nodes are allowed below.
use Rattle.std.specs.Prelude.{ℕ, zero, suc, Bool, true, false, Option, Some, None, if◌then◌else◌}
use Rattle.cc_base.specs.declared.place.Place.{Place}
use Rattle.parse_rules.specs.Parsers.{Parser, pure, refuse, skip, expect, branch, by_first, too_deep, loop, ◌>>=◌, ◌>>◌}
use Rattle.c_tree.specs.Grammar.{ends_in_label}
use Rattle.c_tree.specs.Symbols.{Symbol}
use Rattle.c_tree.specs.Tree as tree
use Rattle.c_tree.specs.Words.{TypeNames, InBlock}
use Rattle.c_parse_words.specs.WordRules.{take}
use Rattle.c_parse_words.specs.Tests.{is_close_paren, is_close_brace, is_semicolon, is_colon, open_paren, open_brace, begins_expr, begins_specifier}
use Rattle.c_expr_parse.specs.Rules.{rules}
use Rattle.c_parser.specs.DeclarationRules.{declaration}
use Rattle.c_parser.specs.Tests.{is_else, while_word, StatementStart, StartBlock, StartEmpty, StartIf, StartSwitch, StartWhile, StartDo, StartFor, StartBreak, StartContinue, StartReturn, NoStatementStart, statement_start, begins_statement, LabelStart, StartCase, StartDefault, NoLabelStart, label_start, is_label_start, begins_declaration, begins_item}

-- an expression that may be left out
unfoldable pub optional : TypeNames → ℕ → Parser Symbol (Option tree.Expr)
optional names d = branch (begins_expr names) (do
  e ← (rules names d).expr 0
  pure (Some e))
    (pure None)

-- the same, and the token that ends it
unfoldable pub optional_then : TypeNames → ℕ → (ends : Option Symbol → Bool) → Parser Symbol (Option tree.Expr)
optional_then names d ends = do
  e ← optional names d
  expect ends
  pure e

-- Blocks. The rule for the statements inside is a parameter.

unfoldable pub with_label : TypeNames → ℕ → tree.BlockItems → LabelStart → Parser Symbol tree.BlockItems
with_label names d items (StartCase at) = do
  skip
  e ← (rules names d).expr 2
  expect is_colon
  pure (tree.AndCase items at e)
with_label names d items (StartDefault at) = do
  skip
  expect is_colon
  pure (tree.AndDefault items at)
with_label names d items NoLabelStart = refuse

unfoldable pub next_declaration : TypeNames → ℕ → tree.BlockItems → Parser Symbol tree.BlockItems
next_declaration names d items = do
  x ← declaration names InBlock d
  pure (tree.AndDeclaration items x)

unfoldable pub next_statement : Parser Symbol tree.Statement → tree.BlockItems → Parser Symbol tree.BlockItems
next_statement inner items = do
  s ← inner
  pure (tree.AndStatement items s)

unfoldable pub unlabelled : TypeNames → ℕ → Parser Symbol tree.Statement → tree.BlockItems → Parser Symbol tree.BlockItems
unlabelled names d inner items = branch (begins_declaration names items) (next_declaration names d items) (next_statement inner items)

unfoldable pub item_step : TypeNames → ℕ → Parser Symbol tree.Statement → (has_labels : Bool) → tree.BlockItems → Parser Symbol tree.BlockItems
item_step names d inner true items = branch (λ next. is_label_start (label_start next)) (by_first label_start (with_label names d items)) (unlabelled names d inner items)
item_step names d inner false items = unlabelled names d inner items

-- a label is followed by a statement
unfoldable pub end_of_items : tree.BlockItems → Parser Symbol tree.BlockItems
end_of_items items = if ends_in_label items then refuse else pure items

unfoldable pub block_items : TypeNames → ℕ → Parser Symbol tree.Statement → (has_labels : Bool) → Parser Symbol tree.BlockItems
block_items names d inner has_labels = do
  items ← loop (begins_item names has_labels) (item_step names d inner has_labels) tree.NoBlockItem
  end_of_items items

-- Statements.

-- `(` e `)`, of which the `(` was read
unfoldable pub condition : TypeNames → ℕ → Parser Symbol tree.Expr
condition names d = do
  e ← (rules names d).expr 0
  expect is_close_paren
  pure e

unfoldable pub with_else : Parser Symbol tree.Statement → (at paren : Place) → tree.Expr → tree.Statement → Parser Symbol tree.Statement
with_else inner at paren test s = branch is_else (do
  skip
  other ← inner
  pure (tree.IfElse at paren test s other))
    (pure (tree.If at paren test s))

-- after the first part of a `for`, with which the others make the statement
unfoldable pub for_rest : TypeNames → ℕ → Parser Symbol tree.Statement → (Option tree.Expr → Option tree.Expr → tree.Statement → tree.Statement) → Parser Symbol tree.Statement
for_rest names d inner made = do
  test ← optional names d
  expect is_semicolon
  step ← optional names d
  expect is_close_paren
  s ← inner
  pure (made test step s)

unfoldable pub for_expr : TypeNames → ℕ → Parser Symbol tree.Statement → (at paren : Place) → Parser Symbol tree.Statement
for_expr names d inner at paren = do
  first ← optional names d
  expect is_semicolon
  for_rest names d inner (tree.For at paren first)

unfoldable pub for_declaration : TypeNames → ℕ → Parser Symbol tree.Statement → (at paren : Place) → Parser Symbol tree.Statement
for_declaration names d inner at paren = do
  first ← declaration names InBlock d
  for_rest names d inner (tree.ForDeclaration at paren first)

unfoldable pub statement_from : TypeNames → ℕ → Parser Symbol tree.Statement → StatementStart → Parser Symbol tree.Statement
statement_from names d inner (StartBlock brace) = do
  skip
  items ← block_items names d inner false
  expect is_close_brace
  pure (tree.Block brace items)
statement_from names d inner StartEmpty = do
  skip
  pure tree.Empty
statement_from names d inner (StartIf at) = do
  skip
  paren ← take open_paren
  test ← condition names d
  s ← inner
  with_else inner at paren test s
statement_from names d inner (StartSwitch at) = do
  skip
  paren ← take open_paren
  e ← condition names d
  brace ← take open_brace
  items ← block_items names d inner true
  expect is_close_brace
  pure (tree.Switch at paren e brace items)
statement_from names d inner (StartWhile at) = do
  skip
  paren ← take open_paren
  test ← condition names d
  s ← inner
  pure (tree.While at paren test s)
statement_from names d inner StartDo = do
  skip
  s ← inner
  at ← take while_word
  paren ← take open_paren
  test ← condition names d
  expect is_semicolon
  pure (tree.DoWhile s at paren test)
statement_from names d inner (StartFor at) = do
  skip
  paren ← take open_paren
  branch (begins_specifier names InBlock) (for_declaration names d inner at paren) (for_expr names d inner at paren)
statement_from names d inner (StartBreak at) = do
  skip
  expect is_semicolon
  pure (tree.Break at)
statement_from names d inner (StartContinue at) = do
  skip
  expect is_semicolon
  pure (tree.Continue at)
statement_from names d inner (StartReturn at) = do
  skip
  e ← optional names d
  expect is_semicolon
  pure (tree.Return at e)
statement_from names d inner NoStatementStart = do
  e ← (rules names d).expr 0
  expect is_semicolon
  pure (tree.Express e)

-- each statement is a node
unfoldable pub statement : TypeNames → ℕ → Parser Symbol tree.Statement
statement names zero = too_deep (begins_statement names)
statement names (suc d) = by_first statement_start (statement_from names d (statement names d))
