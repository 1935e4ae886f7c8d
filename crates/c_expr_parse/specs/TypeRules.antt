-- Specifiers, members and enumerators, read from the tokens that are left (C99 6.7.2).
use Rattle.std.specs.Prelude.{Bool, true, false, ◌&&◌, Option, Some, None, is_some, if◌then◌else◌}
use Rattle.cc_base.specs.declared.place.Place.{Place}
use Rattle.parse_rules.specs.Parsers.{Parser, pure, refuse, skip, expect, branch, by_first, unsupported, loop, ◌>>=◌, ◌>>◌}
use Rattle.c_tree.specs.declared.leaf.Identifier.{Identifier}
use Rattle.c_tree.specs.declared.operator.AggregateKind.{AggregateKind}
use Rattle.c_tree.specs.Grammar.{WithName}
use Rattle.c_tree.specs.Symbols.{Symbol}
use Rattle.c_tree.specs.Tree as tree
use Rattle.c_tree.specs.Words.{TypeNames, Scope, InType, has_type, has_long}
use Rattle.c_parse_words.specs.Tests.{is_close_brace, is_comma, is_colon, is_semicolon, open_brace, equals_sign, word_name, plain_name, SpecifierStart, StartWord, StartTypedef, StartAggregate, StartEnum, NoSpecifierStart, specifier_start, begins_specifier, is_long_next}
use Rattle.c_expr_parse.specs.ExprRules.{Inner}

-- Members.

-- a declarator and what follows it, or a bit-field in its place
unfoldable pub next_member : Inner → tree.MemberDeclarators → Parser Symbol tree.MemberDeclarators
next_member inner before = unsupported is_colon do
  d ← inner.declarator WithName
  unsupported is_colon (pure (tree.AndDeclarator before d))

unfoldable pub member_declarators : Inner → Parser Symbol tree.MemberDeclarators
member_declarators inner = do
  first ← next_member inner tree.NoDeclarator
  loop (λ _. is_comma) (λ before. skip >> next_member inner before) first

-- one row: specifiers, declarators and a semicolon
unfoldable pub next_members : Inner → tree.Members → Parser Symbol tree.Members
next_members inner before = do
  specifiers ← inner.specifiers InType
  declarators ← member_declarators inner
  expect is_semicolon
  pure (tree.AndMember before specifiers declarators)

unfoldable pub members : TypeNames → Inner → Parser Symbol tree.Members
members names inner = loop (λ _. begins_specifier names InType) (next_members inner) tree.NoMember

-- Enumerators.

-- a list with commas between its elements, and whether a comma stands after the last
pub data Series (A : Type 0) : Type 0 where
  Upto : A → Bool → Series A

abbrev pub goes_on_series : {A : Type 0} → Series A → Option Symbol → Bool
goes_on_series (Upto elements true) next = false
goes_on_series (Upto elements false) next = is_comma next

unfoldable pub with_value : Inner → tree.Enumerators → Identifier → Option Place → Parser Symbol tree.Enumerators
with_value inner before name (Some at) = do
  skip
  e ← inner.expr 2
  pure (tree.AndValued before name at e)
with_value inner before name None = pure (tree.AndEnumerator before name)

unfoldable pub with_name : Inner → tree.Enumerators → Option Identifier → Parser Symbol tree.Enumerators
with_name inner before (Some name) = do
  skip
  by_first equals_sign (with_value inner before name)
with_name inner before None = refuse

unfoldable pub next_enumerator : TypeNames → Inner → tree.Enumerators → Parser Symbol (Series tree.Enumerators)
next_enumerator names inner before = do
  enumerators ← by_first (plain_name names) (with_name inner before)
  pure (Upto enumerators false)

-- after an enumerator a comma, and maybe another one
unfoldable pub enumerator_step : TypeNames → Inner → Series tree.Enumerators → Parser Symbol (Series tree.Enumerators)
enumerator_step names inner (Upto before comma) = do
  skip
  branch (λ next. is_some (plain_name names next)) (next_enumerator names inner before) (pure (Upto before true))

unfoldable pub enumerators : TypeNames → Inner → Parser Symbol (Series tree.Enumerators)
enumerators names inner = do
  first ← next_enumerator names inner tree.NoEnumerator
  loop goes_on_series (enumerator_step names inner) first

-- Specifiers with a tag or a body.

-- after the `{`
unfoldable pub aggregate_body : TypeNames → Inner → tree.Specifiers → AggregateKind → Place → Option Identifier → Place → Parser Symbol tree.Specifiers
aggregate_body names inner before kind at tag brace = do
  rows ← members names inner
  expect is_close_brace
  pure (tree.AndSpecifier before (tree.Aggregate kind at tag brace rows))

unfoldable pub after_aggregate_tag : TypeNames → Inner → tree.Specifiers → AggregateKind → Place → Identifier → Option Place → Parser Symbol tree.Specifiers
after_aggregate_tag names inner before kind at tag (Some brace) = do
  skip
  aggregate_body names inner before kind at (Some tag) brace
after_aggregate_tag names inner before kind at tag None = pure (tree.AndSpecifier before (tree.Tagged kind at tag))

unfoldable pub aggregate_without_tag : TypeNames → Inner → tree.Specifiers → AggregateKind → Place → Option Place → Parser Symbol tree.Specifiers
aggregate_without_tag names inner before kind at (Some brace) = do
  skip
  aggregate_body names inner before kind at None brace
aggregate_without_tag names inner before kind at None = refuse

-- after `struct` or `union`
unfoldable pub after_aggregate : TypeNames → Inner → tree.Specifiers → AggregateKind → Place → Option Identifier → Parser Symbol tree.Specifiers
after_aggregate names inner before kind at (Some tag) = do
  skip
  by_first open_brace (after_aggregate_tag names inner before kind at tag)
after_aggregate names inner before kind at None = by_first open_brace (aggregate_without_tag names inner before kind at)

unfoldable pub enumeration : tree.Specifiers → Place → Option Identifier → Place → Series tree.Enumerators → Parser Symbol tree.Specifiers
enumeration before at tag brace (Upto elements comma) = pure (tree.AndSpecifier before (tree.Enumeration at tag brace elements comma))

unfoldable pub enumeration_body : TypeNames → Inner → tree.Specifiers → Place → Option Identifier → Place → Parser Symbol tree.Specifiers
enumeration_body names inner before at tag brace = do
  series ← enumerators names inner
  expect is_close_brace
  enumeration before at tag brace series

unfoldable pub after_enum_tag : TypeNames → Inner → tree.Specifiers → Place → Identifier → Option Place → Parser Symbol tree.Specifiers
after_enum_tag names inner before at tag (Some brace) = do
  skip
  enumeration_body names inner before at (Some tag) brace
after_enum_tag names inner before at tag None = pure (tree.AndSpecifier before (tree.Enum at tag))

unfoldable pub enum_without_tag : TypeNames → Inner → tree.Specifiers → Place → Option Place → Parser Symbol tree.Specifiers
enum_without_tag names inner before at (Some brace) = do
  skip
  enumeration_body names inner before at None brace
enum_without_tag names inner before at None = refuse

-- after `enum`
unfoldable pub after_enum : TypeNames → Inner → tree.Specifiers → Place → Option Identifier → Parser Symbol tree.Specifiers
after_enum names inner before at (Some tag) = do
  skip
  by_first open_brace (after_enum_tag names inner before at tag)
after_enum names inner before at None = by_first open_brace (enum_without_tag names inner before at)

-- Specifier lists.

unfoldable pub with_specifier : TypeNames → Inner → tree.Specifiers → SpecifierStart → Parser Symbol tree.Specifiers
with_specifier names inner before (StartWord word) = do
  skip
  pure (tree.AndSpecifier before (tree.Keyword word))
with_specifier names inner before (StartTypedef name) = do
  skip
  pure (tree.AndSpecifier before (tree.Typedef name))
with_specifier names inner before (StartAggregate kind at) = do
  skip
  by_first word_name (after_aggregate names inner before kind at)
with_specifier names inner before (StartEnum at) = do
  skip
  by_first word_name (after_enum names inner before at)
with_specifier names inner before NoSpecifierStart = refuse

-- a further `long` is not supported
unfoldable pub specifier_step : TypeNames → Inner → Scope → tree.Specifiers → Parser Symbol tree.Specifiers
specifier_step names inner scope before =
    unsupported (λ next. has_long before && is_long_next next) (by_first (specifier_start names scope) (with_specifier names inner before))

-- specifiers that say no type are refused where they end
unfoldable pub with_type : tree.Specifiers → Parser Symbol tree.Specifiers
with_type specifiers = if has_type specifiers then pure specifiers else refuse

unfoldable pub specifiers_layer : TypeNames → Inner → Scope → Parser Symbol tree.Specifiers
specifiers_layer names inner scope = do
  specifiers ← loop (λ _. begins_specifier names scope) (specifier_step names inner scope) tree.NoSpecifier
  with_type specifiers
