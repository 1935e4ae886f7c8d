-- Declarations, read from the tokens that are left (C99 6.7). d nodes are allowed.
use Rattle.std.specs.Prelude.{ℕ, Bool, Option, Some, None}
use Rattle.cc_base.specs.declared.place.Place.{Place}
use Rattle.parse_rules.specs.Parsers.{Parser, pure, skip, expect, branch, by_first, loop, ◌>>=◌, ◌>>◌}
use Rattle.c_tree.specs.Grammar.{WithName, names_after, names_after_all}
use Rattle.c_tree.specs.Symbols.{Symbol}
use Rattle.c_tree.specs.Tree as tree
use Rattle.c_tree.specs.Words.{TypeNames, Scope, has_typedef}
use Rattle.c_parse_words.specs.Tests.{is_comma, is_semicolon, equals_sign, begins_declarator}
use Rattle.c_expr_parse.specs.Rules.{rules, initialiser}

-- after a declarator: `=` and an initialiser, or nothing. The names are those in force there.
unfoldable pub with_initialiser : TypeNames → (d : ℕ) → tree.InitDeclarators → tree.Declarator → Option Place → Parser Symbol tree.InitDeclarators
with_initialiser names d before x (Some at) = do
  skip
  value ← initialiser names d
  pure (tree.AndInitialised before x at value)
with_initialiser names d before x None = pure (tree.AndPlain before x)

-- one declarator after others, where these names are in force; its name is in force after it
unfoldable pub next_declarator : TypeNames → (is_typedef : Bool) → (d : ℕ) → tree.InitDeclarators → Parser Symbol tree.InitDeclarators
next_declarator names is_typedef d before = do
  x ← (rules names d).declarator WithName
  by_first equals_sign (with_initialiser (names_after is_typedef names x) d before x)

-- after the first declarators, whose names are in force
unfoldable pub declarators_from : TypeNames → (is_typedef : Bool) → (d : ℕ) → tree.InitDeclarators → Parser Symbol tree.InitDeclarators
declarators_from names is_typedef d first = loop (λ _. is_comma) (λ before. skip >> next_declarator (names_after_all is_typedef names before) is_typedef d before) first

unfoldable pub init_declarators : TypeNames → (is_typedef : Bool) → (d : ℕ) → Parser Symbol tree.InitDeclarators
init_declarators names is_typedef d = branch (begins_declarator names WithName) (do
  first ← next_declarator names is_typedef d tree.NoInitDeclarator
  declarators_from names is_typedef d first)
    (pure tree.NoInitDeclarator)

unfoldable pub declaration : TypeNames → Scope → (d : ℕ) → Parser Symbol tree.Declaration
declaration names scope d = do
  specifiers ← (rules names d).specifiers scope
  declarators ← init_declarators names (has_typedef specifiers) d
  expect is_semicolon
  pure (tree.Declare specifiers declarators)
