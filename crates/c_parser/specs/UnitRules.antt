-- Units, read from the tokens that are left (C99 6.9). d nodes are allowed.
use Rattle.std.specs.Prelude.{ℕ, zero, suc, Bool, false, Option, Some, None, is_some}
use Rattle.cc_base.specs.declared.place.Place.{Place}
use Rattle.parse_rules.specs.Parsers.{Parser, pure, refuse, expect, branch, by_first, too_deep, loop, ◌>>=◌, ◌>>◌}
use Rattle.c_tree.specs.Grammar.{WithName, names_after, type_names}
use Rattle.c_tree.specs.Symbols.{Symbol}
use Rattle.c_tree.specs.Tree as tree
use Rattle.c_tree.specs.Words.{TypeNames, AtFile, has_typedef}
use Rattle.c_parse_words.specs.WordRules.{take}
use Rattle.c_parse_words.specs.Tests.{is_close_brace, is_semicolon, open_brace, equals_sign, begins_specifier, begins_declarator}
use Rattle.c_expr_parse.specs.Rules.{rules}
use Rattle.c_parser.specs.DeclarationRules.{with_initialiser, declarators_from}
use Rattle.c_parser.specs.StatementRules.{block_items, statement}

-- the body of a function, which is a node
unfoldable pub function_body : tree.TranslationUnit → tree.Specifiers → tree.Declarator → ℕ → Parser Symbol tree.TranslationUnit
function_body unit specifiers x zero = too_deep (λ next. is_some (open_brace next))
function_body unit specifiers x (suc d) = do
  brace ← take open_brace
  items ← block_items (names_after (has_typedef specifiers) (type_names unit) x) d (statement (names_after (has_typedef specifiers) (type_names unit) x) d) false
  expect is_close_brace
  pure (tree.AndFunctionBody unit specifiers x brace items)

-- the declarators of a declaration of which the first was read, but not its initialiser
unfoldable pub declarators_after : TypeNames → (is_typedef : Bool) → (d : ℕ) → tree.Declarator → Parser Symbol tree.InitDeclarators
declarators_after names is_typedef d x = do
  first ← by_first equals_sign (with_initialiser (names_after is_typedef names x) d tree.NoInitDeclarator x)
  declarators_from names is_typedef d first

-- after the first declarator
unfoldable pub after_declarator : (d : ℕ) → tree.TranslationUnit → tree.Specifiers → tree.Declarator → Option Place → Parser Symbol tree.TranslationUnit
after_declarator d unit specifiers x (Some brace) = function_body unit specifiers x d
after_declarator d unit specifiers x None = do
  first ← by_first equals_sign (with_initialiser (names_after (has_typedef specifiers) (type_names unit) x) d tree.NoInitDeclarator x)
  declarators ← declarators_from (type_names unit) (has_typedef specifiers) d first
  expect is_semicolon
  pure (tree.AndExternal unit (tree.Declare specifiers declarators))

unfoldable pub external : (d : ℕ) → tree.TranslationUnit → Parser Symbol tree.TranslationUnit
external d unit = do
  specifiers ← (rules (type_names unit) d).specifiers AtFile
  branch (begins_declarator (type_names unit) WithName) (do
    x ← (rules (type_names unit) d).declarator WithName
    by_first open_brace (after_declarator d unit specifiers x))
      (do
        expect is_semicolon
        pure (tree.AndExternal unit (tree.Declare specifiers tree.NoInitDeclarator)))

-- nothing is left
unfoldable pub at_end : tree.TranslationUnit → Parser Symbol tree.TranslationUnit
at_end unit = branch is_some refuse (pure unit)

unfoldable pub unit_rule : (d : ℕ) → Parser Symbol tree.TranslationUnit
unit_rule d = do
  unit ← loop (λ unit. begins_specifier (type_names unit) AtFile) (external d) tree.NoExternal
  at_end unit
