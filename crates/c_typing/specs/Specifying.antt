-- What specifiers, struct and union bodies and enumerators make, where no rule is broken, and where they stop else (C99 6.7.2).
use Rattle.std.specs.Prelude.{ℕ, ℤ, ◌==◌, Bool, true, false, not, ◌&&◌, nat_lt, nat_le, List, ◌++◌, length, slice_set, Option, Some, None, if◌then◌else◌}
use Rattle.std.specs.List.{list_all}
use Rattle.cc_base.specs.declared.place.Place.{Place}
use Rattle.cc_base.specs.declared.number.TypeId.{TypeId}
use Rattle.cc_base.specs.declared.fault.Fault.TheVariants.{TooLarge}
use Rattle.cc_base.specs.declared.fault.Limit.TheVariants.{Types, Object}
use Rattle.c_types.specs.Table.{Table, is_complete, entry_at, members_at, shape_at, is_aggregate_shape, is_empty}
use Rattle.c_types.specs.Calls.{with_members, defined_layout}
use Rattle.c_tree.specs.declared.leaf.Identifier.{Identifier}
use Rattle.c_tree.specs.declared.leaf.Word.{Word}
use Rattle.c_tree.specs.declared.operator.AggregateKind.{AggregateKind}
use Rattle.c_tree.specs.TypedTree as typed
use Rattle.c_tree.specs.TypedTree.{TypedExpr, TypedSpecifiers, TypedSpecifierList, TypedSpecifier, TypedMembers, TypedEnumerators}
use Rattle.integers.specs.Arithmetic.{int, converted}
use Rattle.c_typing.specs.declared.declared.Declared.{Declared}
use Rattle.c_typing.specs.declared.declared.Declared.TheVariants as declared
use Rattle.c_typing.specs.declared.declared.Tag.{Tag}
use Rattle.c_typing.specs.declared.declared.Tag.TheVariants as tag
use Rattle.c_typing.specs.Scopes.{Name, Scopes, with_scopes, name_in, tag_in, tag_here, declaring, is_complete_at}
use Rattle.c_typing.specs.Constants.{constant_value}
use Rattle.c_typing.specs.Rules.{number_of_shape}
use Rattle.c_typing.specs.Declarators.{Counted, Named, NoType, IsType, IsEnumeration, counting_word, words_bytes, counted, named_by_list, member_names, member_types}
use Rattle.c_typing.specs.Typing.{shape_of_kind, counting_aggregate, tagging, tag_named_here, enumerating, enumerated, is_taken_enumeration, next_value, last_value}
use Rattle.c_typing.specs.Tests as tests
use Rattle.c_typing.specs.Tests.{Test, AsValue, first_broken}
use Rattle.c_typing.specs.Refusals.{one_named, tag_place, is_empty_row}
use Rattle.c_typing.specs.Judging.{State, Judging, Gives, Stops, pure, stop, unless, by_known, ◌>>=◌, type_with, void_type, integer_type}
use Rattle.c_typing.specs.Operands.{Value}
use Rattle.c_typing.specs.Operations.{numbered}

-- the rules are tried first
abbrev pub obeying : {A : Type 0} → (State → List Test) → Judging A → Judging A
obeying rules go = by_known (λ s. unless (first_broken (rules s)) go)

-- what is given, with other scopes
abbrev pub in_scopes : {A : Type 0} → (Scopes → Scopes) → A → Judging A
in_scopes change a = λ s. Gives a (record s { seen = with_scopes s.seen (change s.seen.scopes) })

-- The type that specifiers name together

abbrev pub words_type : Counted → TypeId
words_type c = if c.void == 1 then void_type else integer_type (record { bytes = words_bytes c; signed = c.unsigned == 0 })

abbrev pub listed_type : Named → Counted → TypeId
listed_type NoType c = words_type c
listed_type (IsType t) c = t
listed_type IsEnumeration c = integer_type int

abbrev pub specified : TypedSpecifierList → TypedSpecifiers
specified list = typed.Specified list (listed_type (named_by_list list) (counted list))

-- Words and names; `before` counts the specifiers before it

unfoldable pub word : (before : Counted) → Word → Judging TypedSpecifier
word before w = obeying (λ s. tests.word_tests w.place (counting_word w.keyword before)) (pure (typed.Keyword w))

unfoldable pub typedef_named : Identifier → Option Declared → Judging TypedSpecifier
typedef_named name (Some (declared.Typedef t)) = pure (typed.Typedef name t)
typedef_named name other = stop (TooLarge name.place Types)

unfoldable pub typedef_name : (before : Counted) → Identifier → Judging TypedSpecifier
typedef_name before name = obeying (λ s. tests.word_tests name.place (one_named before))
    (by_known (λ s. typedef_named name (name_in s.seen.scopes.levels name.bytes)))

-- Structs and unions

-- a new one, which is named at the place: it gets the next number, a type, and its tag where it has one
unfoldable pub new_aggregate : AggregateKind → Place → Option Identifier → Judging TypeId
new_aggregate which at name = do
  number ← by_known (λ s. numbered at (Some (length s.seen.scopes.members)))
  t ← type_with at (shape_of_kind which number)
  in_scopes (λ s. tagging name (tag.Aggregate which t) (counting_aggregate s)) t

-- `struct S`: by what its tag stands for
unfoldable pub tagged_as : AggregateKind → Identifier → Option Tag → Judging TypeId
tagged_as which name None = new_aggregate which name.place (Some name)
tagged_as which name (Some (tag.Aggregate k t)) = pure t
tagged_as which name (Some what) = stop (TooLarge name.place Types)

unfoldable pub tagged_by : AggregateKind → Place → Identifier → (State → Option Tag) → Judging TypedSpecifier
tagged_by which at name found = do
  t ← by_known (λ s. tagged_as which name (found s))
  pure (typed.Tagged which at name t)

unfoldable pub tagged : (before : Counted) → AggregateKind → Place → Identifier → Judging TypedSpecifier
tagged before which at name = obeying
    (λ s. tests.tag_tests s.seen.scopes (tests.is_tag_of which) name.bytes name.place ++ tests.word_tests at (one_named before))
    (tagged_by which at name (λ s. tag_in s.seen.scopes.levels name.bytes))

-- `struct S` by itself declares its tag in the innermost scope
unfoldable pub tagged_alone : AggregateKind → Place → Identifier → Judging TypedSpecifier
tagged_alone which at name = obeying (λ s. tests.alone_tests s.seen.scopes (tests.is_tag_of which) name.bytes name.place)
    (tagged_by which at name (λ s. tag_here s.seen.scopes.levels name.bytes))

-- `struct S { .. }` begins: with its type, or with none where the innermost scope has its tag as something else, or complete
unfoldable pub begun_as : AggregateKind → Place → Option Identifier → Option Tag → (taken : Bool) → Judging (Option TypeId)
begun_as which at name found true = pure None
begun_as which at name (Some (tag.Aggregate k t)) false = pure (Some t)
begun_as which at name (Some what) false = pure None
begun_as which at name None false = do
  t ← new_aggregate which at name
  pure (Some t)

unfoldable pub begun : AggregateKind → Place → Option Identifier → Judging (Option TypeId)
begun which at name = by_known (λ s. begun_as which (tag_place at name) name (tag_named_here s.seen.scopes name)
    (tests.is_taken_tag s.table s.seen.scopes which (tag_named_here s.seen.scopes name)))

-- whether it cannot end: it did not begin, or its own members complete it
abbrev pub is_taken_at_end : State → Option TypeId → Bool
is_taken_at_end s None = true
is_taken_at_end s (Some t) = is_complete_at s.table s.seen.scopes t

-- whether the table can give t these members
abbrev pub is_definable : Table → TypeId → List TypeId → Bool
is_definable T t members =
    nat_lt t.0 (length T)
    && (is_aggregate_shape (shape_at T t)
    && (is_empty (members_at T t)
    && (not (is_empty members)
    && list_all (λ m. nat_lt m.0 (length T) && is_complete (entry_at T m)) members)))

unfoldable pub defined : Place → TypeId → List TypeId → Judging TypeId
defined at t members = λ s.
    if is_definable s.table t members
    then (if nat_le (defined_layout s.table t members).size 1048576
    then Gives t (record s { table = with_members s.table t members })
    else Stops (TooLarge at Object) s)
    else Stops (TooLarge at Types) s

-- from here on it is complete
abbrev pub completing : Option ℕ → List Name → Scopes → Scopes
completing None names s = s
completing (Some number) names s = record s { members = slice_set s.members number names }

unfoldable pub completed : Place → TypedMembers → Option TypeId → Judging TypeId
completed at members None = stop (TooLarge at Types)
completed at members (Some t) = do
  u ← defined at t (member_types members)
  by_known (λ s. in_scopes (completing (number_of_shape (shape_at s.table u)) (member_names members)) u)

unfoldable pub ended : (before : Counted) → AggregateKind → Place → Option Identifier → Place → Option TypeId → TypedMembers → Judging TypedSpecifier
ended before which at name brace begun members = obeying
    (λ s. tests.aggregate_tests (is_taken_at_end s begun) (tag_place at name) (is_empty_row members) ++ tests.word_tests at (one_named before))
    (do
      t ← completed (tag_place at name) members begun
      pure (typed.Aggregate which at name brace members t))

-- Enumerations

-- `enum E`
unfoldable pub enum_tag : (before : Counted) → Place → Identifier → Judging TypedSpecifier
enum_tag before at name = obeying (λ s. tests.enum_tests s.seen.scopes name.bytes name.place ++ tests.word_tests at (one_named before))
    (pure (typed.Enum at name))

-- an enumerator is declared
unfoldable pub enumerator : TypedEnumerators → Identifier → Judging TypedEnumerators
enumerator all name = obeying (λ s. tests.enumerator_tests s.seen.scopes name.bytes name.place)
    (in_scopes (declaring name.bytes (declared.Enumerator (next_value (last_value all)))) (typed.AndEnumerator all name (next_value (last_value all))))

unfoldable pub enumerator_with : TypedEnumerators → Identifier → Place → TypedExpr → Option ℤ → Judging TypedEnumerators
enumerator_with all name at e None = stop (TooLarge name.place Types)
enumerator_with all name at e (Some z) =
    in_scopes (declaring name.bytes (declared.Enumerator (converted int z))) (typed.AndValued all name at e (converted int z))

-- one with a value
unfoldable pub valued_enumerator : TypedEnumerators → Identifier → Place → Value → Judging TypedEnumerators
valued_enumerator all name at v = obeying
    (λ s. tests.enumerator_tests s.seen.scopes name.bytes name.place ++ tests.constant_tests s.table v.place (AsValue v.expr))
    (by_known (λ s. enumerator_with all name at v.expr (constant_value s.table v.expr)))

-- `enum E { .. }` begins: its tag is declared, unless the innermost scope has it
unfoldable pub enumeration_begun : Option Identifier → Judging Bool
enumeration_begun name = in_scopes (enumerating name) true

-- it ends: from here on its tag is complete
unfoldable pub enumeration : (before : Counted) → Place → Option Identifier → Place → TypedEnumerators → (comma : Bool) → Judging TypedSpecifier
enumeration before at name brace all comma = obeying
    (λ s. tests.enumeration_tests (is_taken_enumeration (tag_named_here s.seen.scopes name)) (tag_place at name) ++ tests.word_tests at (one_named before))
    (in_scopes (enumerated name) (typed.Enumeration at name brace all comma))
