-- What function definitions and units give, or where they stop (C99 6.9).
use Rattle.std.specs.Prelude.{ℕ, Bool, true, false, not, ◌&&◌, nat_lt, List, [], ◌∷◌, Option, Some, None, codes, if◌then◌else◌}
use Rattle.cc_base.specs.declared.place.Place.{Place}
use Rattle.cc_base.specs.declared.number.TypeId.{TypeId}
use Rattle.cc_base.specs.declared.fault.Fault.TheVariants.{TooLarge}
use Rattle.cc_base.specs.declared.fault.Rule.TheVariants as rule
use Rattle.cc_base.specs.declared.fault.Limit.TheVariants.{Types, Functions}
use Rattle.c_types.specs.declared.shape.TypeShape.{TypeShape}
use Rattle.c_types.specs.declared.shape.TypeShape.TheVariants as shape
use Rattle.c_types.specs.Table.{Table, shape_at}
use Rattle.c_types.specs.Calls.{basic_table}
use Rattle.c_tree.specs.declared.leaf.Identifier.{Identifier}
use Rattle.c_tree.specs.Tree as tree
use Rattle.c_tree.specs.TypedTree as typed
use Rattle.c_tree.specs.TypedTree.{TypedSpecifiers, TypedDeclarator, TypedBlockItems, TypedTranslationUnit}
use Rattle.c_tree.specs.TypedParts.{declared_type, specified_type, form_of}
use Rattle.c_typing.specs.declared.declared.Declared.{Declared}
use Rattle.c_typing.specs.declared.declared.Declared.TheVariants as declared
use Rattle.c_typing.specs.Scopes.{Name, Level, file_scope, place_among, entry_of}
use Rattle.c_typing.specs.Tests.{Test, broken_at, has_some}
use Rattle.c_typing.specs.Judging as judging
use Rattle.c_typing.specs.Specifying.{in_scopes}
use Rattle.c_typing.specs.Declaring.{declarator_name, left}
use Rattle.c_typing.specs.Walks.{judge_declarator, judge_specifiers_of}
use Rattle.c_unit_typing.specs.Units.{storage_of, parameters_of_form, going_on}
use Rattle.c_unit_typing.specs.ParameterScopes.{level_of}
use Rattle.c_unit_typing.specs.UnitRefusals.{definition_tests, start_of_text, is_integer_of}
use Rattle.c_unit_typing.specs.Linkage.{no_linkage, with_name}
use Rattle.c_unit_typing.specs.UnitJudging.{UnitState, UnitJudging, Gives, known_of, known, pure, stop, obeying, by_known, lifted, ◌>>=◌, ◌>>◌}
use Rattle.c_unit_typing.specs.DeclarationJudging.{naming_for, linked_first, linked_name, judge_declaration}
use Rattle.c_unit_typing.specs.StatementJudging.{judge_block_items}

-- Function definitions

-- a unit defines no more than 65,535 functions; `number` is how many come before
unfoldable pub counted : Place → (number : Option ℕ) → UnitJudging ℕ
counted at None = stop (TooLarge at Types)
counted at (Some number) = if nat_lt number 65535 then pure number else stop (TooLarge at Functions)

-- the name is declared, and defined
unfoldable pub defined : Identifier → TypeId → UnitJudging Declared
defined name t = do
  what ← linked_name name (declared.Function t)
  λ s. Gives what (record s { linkage = record s.linkage { defined = with_name name.bytes s.linkage.defined } })

abbrev pub result_of : TypeShape → Option TypeId
result_of (shape.Function parameters result) = Some result
result_of shape = None

-- the body, in the scope that the list of parameters leaves
unfoldable pub body : Place → Option TypeId → Level → tree.BlockItems → UnitJudging TypedBlockItems
body brace None level items = stop (TooLarge brace Types)
body brace (Some result) level items = do
  inside ← lifted (in_scopes (going_on level) true)
  list ← judge_block_items (record { result = result; in_loop = false; breakable = false }) None items
  lifted (left brace list)

unfoldable pub defined_as : Option Identifier → TypedSpecifiers → TypedDeclarator → UnitJudging TypedDeclarator
defined_as None base one = stop (TooLarge start_of_text Types)
defined_as (Some name) base one = obeying
    (λ s. definition_tests s.table (known_of s) (storage_of base) (has_some (parameters_of_form (form_of one) None)) name.bytes (declared_type one) name.place)
    (do
      number ← by_known (λ s. counted name.place (place_among s.seen.scopes.defined name.bytes))
      what ← defined name (declared_type one)
      pure one)

unfoldable pub judge_definition : TypedTranslationUnit → tree.Specifiers → tree.Declarator → Place → tree.BlockItems → UnitJudging TypedTranslationUnit
judge_definition before specifiers d brace items = do
  base ← lifted (judge_specifiers_of false specifiers)
  which ← by_known (λ s. pure (naming_for true (storage_of base) (linked_first s.linkage.linked (declarator_name d))))
  level ← by_known (λ s. pure (level_of which (specified_type base) d (judging.known s.table s.seen)))
  one ← lifted (judge_declarator which base None d)
  again ← defined_as (declarator_name d) base one
  list ← by_known (λ s. body brace (result_of (shape_at s.table (declared_type one))) level items)
  pure (typed.AndFunctionBody before base one brace list)

-- Units

unfoldable pub judge_unit : tree.TranslationUnit → UnitJudging TypedTranslationUnit
judge_unit tree.NoExternal = pure typed.NoExternal
judge_unit (tree.AndExternal u d) = do
  list ← judge_unit u
  one ← judge_declaration true d
  pure (typed.AndExternal list one)
judge_unit (tree.AndFunctionBody u specifiers d brace items) = do
  list ← judge_unit u
  judge_definition list specifiers d brace items

-- `int main(void)` is defined (C99 5.1.2.2.1)
abbrev pub is_main_shape : Table → TypeShape → Bool
is_main_shape T (shape.Function [] result) = is_integer_of (shape_at T result) 4 true
is_main_shape T shape = false

abbrev pub is_main : Table → Option Declared → Bool
is_main T (Some (declared.Function t)) = is_main_shape T (shape_at T t)
is_main T what = false

abbrev pub main_tests : UnitState → List Test
main_tests s = broken_at rule.NoMain start_of_text
    (not (is_main s.table (entry_of s.linkage.linked (codes "main")) && has_some (place_among s.seen.scopes.defined (codes "main")))) ∷ []

unfoldable pub judge_whole : tree.TranslationUnit → UnitJudging TypedTranslationUnit
judge_whole u = do
  whole ← judge_unit u
  obeying main_tests (pure whole)

-- the names of the functions that a unit defines, each once
abbrev pub with_named : Option Identifier → List Name → List Name
with_named None names = names
with_named (Some name) names = with_name name.bytes names

abbrev pub functions_written : tree.TranslationUnit → List Name
functions_written tree.NoExternal = []
functions_written (tree.AndExternal u d) = functions_written u
functions_written (tree.AndFunctionBody u specifiers d brace items) = with_named (declarator_name d) (functions_written u)

-- what is known before the text of a unit
abbrev pub before_unit : tree.TranslationUnit → UnitState
before_unit u = known basic_table (file_scope (functions_written u)) no_linkage

-- what a unit gives, or where it stops
abbrev pub judged_unit : tree.TranslationUnit → Rattle.c_unit_typing.specs.UnitJudging.UnitOutcome TypedTranslationUnit
judged_unit u = judge_whole u (before_unit u)
