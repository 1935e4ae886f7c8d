-- Declarators and parameters, read from the tokens that are left (C99 6.7.5, 6.7.6).
use Rattle.std.specs.Prelude.{List, [], ◌∷◌, is_some, if◌then◌else◌}
use Rattle.cc_base.specs.declared.place.Place.{Place}
use Rattle.parse_rules.specs.Parsers.{Parser, pure, refuse, skip, expect, branch, by_first, loop, ◌>>=◌, ◌>>◌}
use Rattle.c_tree.specs.declared.leaf.Star.{Star}
use Rattle.c_tree.specs.declared.leaf.Word.{Word}
use Rattle.c_tree.specs.Grammar.{Naming, WithName, WithOrWithout}
use Rattle.c_tree.specs.Symbols.{Symbol}
use Rattle.c_tree.specs.Tree as tree
use Rattle.c_tree.specs.Words.{TypeNames, InBlock, has_static}
use Rattle.c_parse_words.specs.WordRules.{next_array_word, star_step}
use Rattle.c_parse_words.specs.Tests.{is_close_paren, is_close_bracket, is_comma, open_bracket, star_sign, array_word, begins_expr, begins_specifier, CoreStart, CoreName, CoreParen, NoCore, may_omit_name, core_start, begins_parameters, PartStart, ArrayAt, FunctionAt, NoPartStart, part_start, begins_part}
use Rattle.c_expr_parse.specs.ExprRules.{Inner, declared}

-- Parameters.

unfoldable pub next_parameter : TypeNames → Inner → tree.Parameters → Parser Symbol tree.Parameters
next_parameter names inner before = do
  specifiers ← inner.specifiers InBlock
  d ← declared names inner WithOrWithout
  pure (tree.AndParameter before specifiers d)

unfoldable pub parameters : TypeNames → Inner → Parser Symbol tree.Parameters
parameters names inner = branch (begins_specifier names InBlock) (do
  first ← next_parameter names inner tree.NoParameter
  loop (λ _. is_comma) (λ before. skip >> next_parameter names inner before) first)
    (pure tree.NoParameter)

-- Array and function parts.

-- `static` asks for a size
unfoldable pub without_size : tree.Parts → Place → List Word → Parser Symbol tree.Parts
without_size before at words = if has_static words then refuse else (expect is_close_bracket >> pure (tree.AndArray before at words))

-- after the `[`
unfoldable pub array_part : TypeNames → Inner → tree.Parts → Place → Parser Symbol tree.Parts
array_part names inner before at = do
  words ← loop (λ words next. is_some (array_word words next)) next_array_word []
  branch (begins_expr names) (do
    e ← inner.expr 1
    expect is_close_bracket
    pure (tree.AndSizedArray before at words e))
      (without_size before at words)

-- after the `(`
unfoldable pub function_part : TypeNames → Inner → tree.Parts → Place → Parser Symbol tree.Parts
function_part names inner before at = do
  list ← parameters names inner
  expect is_close_paren
  pure (tree.AndFunction before at list)

unfoldable pub with_part : TypeNames → Inner → tree.Parts → PartStart → Parser Symbol tree.Parts
with_part names inner before (ArrayAt at) = do
  skip
  array_part names inner before at
with_part names inner before (FunctionAt at) = do
  skip
  function_part names inner before at
with_part names inner before NoPartStart = refuse

unfoldable pub part_step : TypeNames → Inner → tree.Parts → Parser Symbol tree.Parts
part_step names inner before = by_first part_start (with_part names inner before)

-- the parts that go on from these, after stars and a core
unfoldable pub parts_from : TypeNames → Inner → List Star → tree.Core → tree.Parts → Parser Symbol tree.Declarator
parts_from names inner stars core before = do
  parts ← loop (λ _. begins_part) (part_step names inner) before
  pure (tree.Declares stars core parts)

-- The middle of a declarator.

unfoldable pub nested : TypeNames → Inner → Naming → List Star → Place → Parser Symbol tree.Declarator
nested names inner naming stars at = do
  d ← inner.declarator naming
  expect is_close_paren
  parts_from names inner stars (tree.Nested at d) tree.NoPart

-- after a `(` where a function part may begin the parts
unfoldable pub unnamed_function : TypeNames → Inner → List Star → Place → Parser Symbol tree.Declarator
unnamed_function names inner stars at = do
  parts ← function_part names inner tree.NoPart at
  parts_from names inner stars tree.Unnamed parts

unfoldable pub after_core_paren : TypeNames → Inner → Naming → List Star → Place → Parser Symbol tree.Declarator
after_core_paren names inner WithName stars at = nested names inner WithName stars at
after_core_paren names inner naming stars at = branch (begins_parameters names) (unnamed_function names inner stars at) (nested names inner naming stars at)

-- a declarator without a name has a star or a part
unfoldable pub unnamed : TypeNames → Inner → List Star → Parser Symbol tree.Declarator
unnamed names inner [] = branch (λ next. is_some (open_bracket next)) (parts_from names inner [] tree.Unnamed tree.NoPart) refuse
unnamed names inner (star ∷ stars) = parts_from names inner (star ∷ stars) tree.Unnamed tree.NoPart

unfoldable pub with_core : TypeNames → Inner → Naming → List Star → CoreStart → Parser Symbol tree.Declarator
with_core names inner naming stars (CoreName name) = do
  skip
  parts_from names inner stars (tree.Names name) tree.NoPart
with_core names inner naming stars (CoreParen at) = do
  skip
  after_core_paren names inner naming stars at
with_core names inner naming stars NoCore = if may_omit_name naming then unnamed names inner stars else refuse

unfoldable pub declarator_layer : TypeNames → Inner → Naming → Parser Symbol tree.Declarator
declarator_layer names inner naming = do
  stars ← loop (λ _ next. is_some (star_sign next)) star_step []
  by_first (core_start names naming) (with_core names inner naming stars)
