-- Well typed units.
use Rattle.std.specs.Prelude.{◌≡◌, List, [], ◌∷◌, map, length, codes}
use Rattle.std.specs.List.{Contains, range_with_len}
use Rattle.cc_base.specs.declared.number.TypeId.{TypeId}
use Rattle.c_types.specs.declared.shape.TypeShape.TheVariants.{Function}
use Rattle.c_types.specs.Table.{Table, HasShape}
use Rattle.c_types.specs.Calls.{basic_table}
use Rattle.c_tree.specs.Tree as tree
use Rattle.c_tree.specs.TypedTree.{TypedTranslationUnit}
use Rattle.c_tree.specs.TypedParts.{made_by_unit, nodes_made, DefinedFunction, functions_of, name_of, declared_type}
use Rattle.c_tree.specs.Erasure.{erased_unit}
use Rattle.integers.specs.Arithmetic.{int}
use Rattle.c_typing.specs.Declarators.{name_bytes}
use Rattle.c_typing.specs.Shapes.{IsIntegerType}
use Rattle.c_typing.specs.Scopes.{Name, empty_level}
use Rattle.c_typing.specs.Settled
use Rattle.c_typing.specs.Settled.{IsBasic}
use Rattle.c_type_order.specs.TypesUsed.{AreUses}
use Rattle.c_unit_typing.specs.TypesUsed.{used_by_unit}
use Rattle.c_unit_typing.specs.Units.{Known, IsUnitTyped}

-- the names of the functions that the unit defines, in order
abbrev pub defined_names : TypedTranslationUnit → List Name
defined_names unit = map (λ f. name_bytes (name_of f.declarator)) (functions_of unit)

-- what is known before the text
abbrev pub known_before : TypedTranslationUnit → Known
known_before unit = record {
  scopes = record { levels = empty_level ∷ []; defined = defined_names unit; members = [] };
  linked = [];
  defined = [];
  statics = [];
}

-- the nodes are numbered from 0 as they are made, in the order of the text
abbrev pub AreNumbered : TypedTranslationUnit → Type 0
AreNumbered unit = map (λ n. n.0) (nodes_made (made_by_unit unit)) ≡ range_with_len 0 (length (nodes_made (made_by_unit unit)))

-- `int main(void)` is defined (C99 5.1.2.2.1)
pub record HasMain (table : Table) (unit : TypedTranslationUnit) : Type 0 where
  pub main : DefinedFunction
  pub there : Contains (functions_of unit) main
  pub named : name_bytes (name_of main.declarator) ≡ codes "main"
  pub result : TypeId
  pub gives : IsIntegerType table int result
  pub shape : HasShape table (declared_type main.declarator) (Function [] result)

-- A typed unit is well typed, over a table of types: each of its parts is (C99 6.5 to 6.9), its nodes are numbered, its types are numbered by
-- their first use behind `void` and the integer types, the table says of them what the text says, and it has a `main`.
pub record IsWellTyped (table : Table) (unit : TypedTranslationUnit) : Type 0 where
  pub after : Known
  pub typed : IsUnitTyped table unit (known_before unit) after
  pub numbered : AreNumbered unit
  -- types are numbered by first use; the size that stands in an array part is one of 64 bits, and a member has a name
  pub types : AreUses (used_by_unit table unit) (length basic_table) (length table)
  -- the table is well formed, and `void` and the integer types come first in it
  pub basic : IsBasic table
  -- its structs and unions are those of the text, each with as many members as the text gives it at last
  pub structs : Settled.AreNumbered table after.scopes
  pub main : HasMain table unit

-- A unit is well typed where a well typed tree erases to it.
pub record IsTypable (table : Table) (unit : tree.TranslationUnit) : Type 0 where
  pub tree : TypedTranslationUnit
  pub typed : IsWellTyped table tree
  pub erases : erased_unit tree ≡ unit
