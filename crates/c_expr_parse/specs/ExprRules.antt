-- Expressions, read from the tokens that are left (C99 6.5).
use Rattle.std.specs.Prelude.{ℕ, suc, ◌&&◌, ◌==◌, [], ◌∷◌, Option, Some, None, is_some, if◌then◌else◌}
use Rattle.cc_base.specs.declared.place.Place.{Place}
use Rattle.parse_rules.specs.Parsers.{Parser, pure, refuse, skip, expect, branch, by_first, take_above, unsupported, loop, ◌>>=◌, ◌>>◌}
use Rattle.c_tree.specs.declared.operator.Assignment.{Assignment}
use Rattle.c_tree.specs.declared.operator.Binary.{Binary}
use Rattle.c_tree.specs.declared.operator.Unary.TheVariants.{SizeOf}
use Rattle.c_tree.specs.Depth.{expr_height}
use Rattle.c_tree.specs.Grammar.{Naming, WithoutName, level}
use Rattle.c_tree.specs.Operators.{precedence, operand_level}
use Rattle.c_tree.specs.Symbols.{Symbol}
use Rattle.c_tree.specs.Tree as tree
use Rattle.c_tree.specs.Words.{TypeNames, Scope, InType}
use Rattle.c_parse_words.specs.Levels.{begins_cast, question_after, assignment_after}
use Rattle.c_parse_words.specs.WordRules.{take, next_piece}
use Rattle.c_parse_words.specs.Tests.{is_close_paren, is_close_bracket, is_comma, is_colon, open_paren, open_brace, word_name, string_piece, Operator, At, binary_operator, binds, Suffix, IndexAt, CallAt, MemberAt, StepAt, NoSuffix, suffix, has_suffix, Start, StartName, StartInteger, StartCharacter, StartString, StartParen, StartPrefix, StartSizeOf, NoStart, start, begins_expr, begins_type, begins_declarator}

-- What is read where one node less is allowed: an expression of at least a level; an expression whose `(` was read, as far
-- as it is a unary one; specifiers; a declarator.
pub record Inner : Type 0 where
  pub expr : (least : ℕ) → Parser Symbol tree.Expr
  pub paren : Place → Parser Symbol tree.Expr
  pub specifiers : Scope → Parser Symbol tree.Specifiers
  pub declarator : Naming → Parser Symbol tree.Declarator

-- a declarator where one comes
unfoldable pub declared : TypeNames → Inner → Naming → Parser Symbol tree.Declared
declared names inner naming = branch (begins_declarator names naming) (do
  d ← inner.declarator naming
  pure (tree.DeclaredBy d))
    (pure tree.NotDeclared)

unfoldable pub type_name : TypeNames → Inner → Parser Symbol tree.TypeName
type_name names inner = do
  specifiers ← inner.specifiers InType
  d ← declared names inner WithoutName
  pure (tree.Named specifiers d)

-- Postfix expressions. d nodes are allowed below.

unfoldable pub next_argument : Inner → tree.Arguments → Parser Symbol tree.Arguments
next_argument inner arguments = do
  e ← inner.expr 1
  pure (tree.AndArgument arguments e)

unfoldable pub arguments : TypeNames → Inner → Parser Symbol tree.Arguments
arguments names inner = branch (begins_expr names) (do
  first ← next_argument inner tree.NoArgument
  loop (λ _. is_comma) (λ before. skip >> next_argument inner before) first)
    (pure tree.NoArgument)

unfoldable pub with_suffix : TypeNames → ℕ → Inner → tree.Expr → Suffix → Parser Symbol tree.Expr
with_suffix names d inner e (IndexAt at) = do
  take_above d (expr_height e)
  index ← inner.expr 0
  expect is_close_bracket
  pure (tree.Index e at index)
with_suffix names d inner e (CallAt at) = do
  take_above d (expr_height e)
  values ← arguments names inner
  expect is_close_paren
  pure (tree.Call e at values)
with_suffix names d inner e (MemberAt op at) = do
  take_above d (expr_height e)
  name ← take word_name
  pure (tree.Member e op at name)
with_suffix names d inner e (StepAt step at) = do
  take_above d (expr_height e)
  pure (tree.Postfix e step at)
with_suffix names d inner e NoSuffix = refuse

unfoldable pub postfix_step : TypeNames → ℕ → Inner → tree.Expr → Parser Symbol tree.Expr
postfix_step names d inner e = by_first suffix (with_suffix names d inner e)

-- what goes on from a primary expression
unfoldable pub postfix : TypeNames → ℕ → Inner → tree.Expr → Parser Symbol tree.Expr
postfix names d inner e = loop (λ _. has_suffix) (postfix_step names d inner) e

-- after the `(` of an expression in parentheses
unfoldable pub after_paren : TypeNames → ℕ → Inner → Place → Parser Symbol tree.Expr
after_paren names d inner at = do
  e ← inner.expr 0
  expect is_close_paren
  postfix names d inner (tree.Paren at e)

-- after the `(` of a cast
unfoldable pub after_cast_paren : TypeNames → Inner → Place → Parser Symbol tree.Expr
after_cast_paren names inner at = do
  type ← type_name names inner
  expect is_close_paren
  unsupported (λ next. is_some (open_brace next)) do
    e ← inner.expr 13
    pure (tree.Cast at type e)

-- after `sizeof` and a `(`
unfoldable pub after_sizeof_paren : TypeNames → Inner → Place → Place → Parser Symbol tree.Expr
after_sizeof_paren names inner at paren = branch (begins_type names) (do
  type ← type_name names inner
  expect is_close_paren
  unsupported (λ next. is_some (open_brace next)) (pure (tree.SizeOfType at paren type)))
    (do
      e ← inner.paren paren
      pure (tree.Prefix SizeOf at e))

-- after `sizeof`
unfoldable pub after_sizeof : TypeNames → Inner → Place → Option Place → Parser Symbol tree.Expr
after_sizeof names inner at (Some paren) = do
  skip
  after_sizeof_paren names inner at paren
after_sizeof names inner at None = do
  e ← inner.expr 14
  pure (tree.Prefix SizeOf at e)

-- an expression of at least the level of a unary expression or a cast, by its first token
unfoldable pub operand_from : TypeNames → ℕ → Inner → (least : ℕ) → Start → Parser Symbol tree.Expr
operand_from names d inner least (StartName name) = do
  skip
  postfix names d inner (tree.Name name)
operand_from names d inner least (StartInteger type value place) = do
  skip
  postfix names d inner (tree.Integer type value place)
operand_from names d inner least (StartCharacter value place) = do
  skip
  postfix names d inner (tree.Character value place)
operand_from names d inner least (StartString piece) = do
  skip
  pieces ← loop (λ _ next. is_some (string_piece next)) next_piece (piece ∷ [])
  postfix names d inner (tree.String pieces)
operand_from names d inner least (StartParen at) = do
  skip
  branch (begins_cast names least) (after_cast_paren names inner at) (after_paren names d inner at)
operand_from names d inner least (StartPrefix op at) = do
  skip
  e ← inner.expr (operand_level op)
  pure (tree.Prefix op at e)
operand_from names d inner least (StartSizeOf at) = do
  skip
  by_first open_paren (after_sizeof names inner at)
operand_from names d inner least NoStart = refuse

unfoldable pub operand : TypeNames → ℕ → Inner → (least : ℕ) → Parser Symbol tree.Expr
operand names d inner least = by_first (start names) (operand_from names d inner least)

-- Operators between expressions.

unfoldable pub with_operator : ℕ → Inner → tree.Expr → Option (Operator Binary) → Parser Symbol tree.Expr
with_operator d inner left (Some (At op at)) = do
  take_above d (expr_height left)
  right ← inner.expr (suc (precedence op))
  pure (tree.Infix op left at right)
with_operator d inner left None = refuse

unfoldable pub infix_step : ℕ → Inner → tree.Expr → Parser Symbol tree.Expr
infix_step d inner left = by_first binary_operator (with_operator d inner left)

unfoldable pub with_question : ℕ → Inner → tree.Expr → Option Place → Parser Symbol tree.Expr
with_question d inner test (Some at) = do
  take_above d (expr_height test)
  then_ ← inner.expr 0
  expect is_colon
  else_ ← inner.expr 2
  pure (tree.Conditional test at then_ else_)
with_question d inner test None = pure test

unfoldable pub with_assignment : ℕ → Inner → tree.Expr → Option (Operator Assignment) → Parser Symbol tree.Expr
with_assignment d inner left (Some (At op at)) = do
  take_above d (expr_height left)
  right ← inner.expr 1
  pure (tree.Assign op left at right)
with_assignment d inner left None = pure left

unfoldable pub comma_step : ℕ → Inner → tree.Expr → Parser Symbol tree.Expr
comma_step d inner left = do
  take_above d (expr_height left)
  right ← inner.expr 1
  pure (tree.Comma left right)

-- an expression of at least this level
unfoldable pub expr_layer : TypeNames → ℕ → Inner → (least : ℕ) → Parser Symbol tree.Expr
expr_layer names d inner least = do
  first ← operand names d inner least
  test ← loop (λ _. binds least) (infix_step d inner) first
  left ← by_first (question_after least) (with_question d inner test)
  e ← by_first (assignment_after least left) (with_assignment d inner left)
  loop (λ _ next. least == 0 && is_comma next) (comma_step d inner) e
