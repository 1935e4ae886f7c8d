-- What laws of the constructs ask of the table and of operands.
use Rattle.std.specs.Prelude.{◌≡◌, ◌⊎◌, ◌<◌, Option, None, ℕ, Bool, true, false, List, [], ◌∷◌, ◌++◌, length, Some}
use Rattle.std.specs.List.{All, Contains}
use Rattle.cc_base.specs.declared.number.TypeId.{TypeId}
use Rattle.c_types.specs.declared.shape.TypeShape.{TypeShape}
use Rattle.c_types.specs.declared.shape.TypeShape.TheVariants.{Void, Integer, Pointer}
use Rattle.c_types.specs.Table.{Table, HasShape, IsType, IsComplete, shape_at, members_at, named_by}
use Rattle.c_types.specs.Sound.{IsWellFormed, IsIntegerSize}
use Rattle.c_tree.specs.declared.leaf.Identifier.{Identifier}
use Rattle.c_tree.specs.declared.operator.AggregateKind.{AggregateKind}
use Rattle.c_tree.specs.TypedTree as typed
use Rattle.c_tree.specs.TypedTree.{TypedExpr, TypedSpecifier, TypedSpecifierList, TypedEnumerators}
use Rattle.c_tree.specs.TypedParts.{type_of}
use Rattle.c_tree.specs.Erasure.{erased, erased_specifier, erased_specifier_list, erased_enumerators}
use Rattle.c_tree.specs.Places.{expr_place}
use Rattle.c_tree.specs.Tree as tree
use Rattle.integers.specs.Arithmetic.{IntegerType}
use Rattle.c_typing.specs.Conversions.{bare, is_droppable, IsPlain}
use Rattle.c_typing.specs.Declarators
use Rattle.c_typing.specs.Declarators.{Counted, Named, NoType, IsEnumeration, counting, counted, named_by_specifier, named_by_list, are_allowed}
use Rattle.c_typing.specs.Extensions.{IsExtended}
use Rattle.c_typing.specs.Judging.{State, void_type, integer_type}
use Rattle.c_typing.specs.Operands.{Operand, Value}
use Rattle.c_typing.specs.Refusals.{IsElaborated}
use Rattle.c_typing.specs.declared.declared.Declared.{Declared}
use Rattle.c_typing.specs.declared.declared.Declared.TheVariants as declared
use Rattle.c_typing.specs.declared.declared.Tag.{Tag}
use Rattle.c_typing.specs.declared.declared.Tag.TheVariants as tag
use Rattle.c_typing.specs.Rules.{number_of_shape}
use Rattle.c_typing.specs.Scopes.{Name, Level, Scopes, members_named, is_complete_at}
use Rattle.c_typing.specs.Shapes.{is_scalar_shape}
use Rattle.c_typing.specs.Constants.{constant_value, is_null_constant}
use Rattle.c_typing.specs.Tests.{Elaborated, AsPlace, AsValue, AsAllocation, shape_of, is_null_part, are_one_struct}
use Rattle.c_typing.specs.Typing.{IsTyped, IsPlace, IsSpecifier, AreListed, AreEnumerators, BeginsAggregate, shape_of_kind, tag_named_here}

-- the table is well formed, a type names only types that were there before it, and `void` and the integer types are where every table
-- has them
pub record IsBasic (table : Table) : Type 0 where
  pub formed : IsWellFormed table
  pub built : (t u : TypeId) → Contains (named_by (shape_at table t)) u → u.0 < t.0
  pub void : HasShape table void_type Void
  pub integers : (k : IntegerType) → IsIntegerSize k.bytes → HasShape table (integer_type k) (Integer k.bytes k.signed)

-- what is complete at the point of the text has its members in the table
abbrev pub IsFollowed : Table → Scopes → Type 0
IsFollowed table s = (t : TypeId) → is_complete_at table s t ≡ true → IsComplete table t

abbrev pub is_converted : TypedExpr → Bool
is_converted (typed.Convert which at t e) = true
is_converted e = false

-- a value that nothing has converted so far, which is plain where it is a scalar
pub record IsSettled (table : Table) (e : TypedExpr) : Type 0 where
  pub bare : bare e ≡ e
  pub unconverted : is_converted e ≡ false
  pub plain : is_scalar_shape (shape_at table (type_of e)) ≡ true → IsPlain e

-- the part is well typed
abbrev pub IsPartTyped : Table → Elaborated → Scopes → Scopes → Type 0
IsPartTyped table (AsPlace p) s s' = IsPlace table p s s'
IsPartTyped table (AsValue e) s s' = IsTyped table e s s'
IsPartTyped table (AsAllocation e) s s' = IsTyped table e s s'

-- v is the value of the expression
pub record IsValueOf (table : Table) (e : tree.Expr) (v : TypedExpr) (s s' : Scopes) : Type 0 where
  pub typed : IsTyped table v s s'
  pub erases : erased v ≡ e
  pub settled : IsSettled table v

-- the values are those of the arguments, one after another
abbrev pub AreValuesOf : Table → tree.Arguments → List Value → Scopes → Scopes → Type 0
AreValuesOf table tree.NoArgument values s s' = (values ≡ []) × (s' ≡ s)
AreValuesOf table (tree.AndArgument all e) values s s' =
    (before : List Value) × (m : Scopes) × (v : Value) × AreValuesOf table all before s m × IsValueOf table e v.expr m s' × (v.place ≡ expr_place e)
    × (is_droppable v.expr ≡ true) × (values ≡ before ++ v ∷ [])

-- the type of what a name stands for is in the table
abbrev pub IsThere : Table → Declared → Type 0
IsThere table (declared.Typedef t) = IsType table t
IsThere table (declared.Object t home) = IsType table t
IsThere table (declared.Function t) = IsType table t
IsThere table (declared.Enumerator value) = Unit {0}

-- so is that of a tag, and it is a struct or a union as the tag says
abbrev pub IsTagThere : Table → Tag → Type 0
IsTagThere table (tag.Aggregate which t) = (number : ℕ) × HasShape table t (shape_of_kind which number)
IsTagThere table what = Unit {0}

-- so it is with all that a scope declares
pub record IsLevelThere (table : Table) (level : Level) : Type 0 where
  pub names : All (λ (e : Name × Declared). IsThere table e.1) level.names
  pub tags : All (λ (e : Name × Tag). IsTagThere table e.1) level.tags

-- each struct and union of the table has a number of its own, which was given out, and the members that the text has given it so far: none
-- while it is not complete
pub record AreNumbered (table : Table) (s : Scopes) : Type 0 where
  pub closed : (t : TypeId) (n : ℕ) → number_of_shape (shape_at table t) ≡ Some n → length (members_named s n) ≡ length (members_at table t)
  pub given : (t : TypeId) (n : ℕ) → number_of_shape (shape_at table t) ≡ Some n → n < length s.members
  pub own : (t u : TypeId) (n : ℕ) → number_of_shape (shape_at table t) ≡ Some n → number_of_shape (shape_at table u) ≡ Some n → t ≡ u

-- what is known between any two parts of a text: the types of all that is declared, in any scope, are in the table
pub record IsKnown (state : State) : Type 0 where
  pub basic : IsBasic state.table
  pub followed : IsFollowed state.table state.seen.scopes
  pub levels : All (IsLevelThere state.table) state.seen.scopes.levels
  pub numbered : AreNumbered state.table state.seen.scopes

-- the types go on, and all is known again
pub record GoesOn (before after : State) : Type 0 where
  pub extends : IsExtended before.table after.table
  pub known : IsKnown after

-- so they do, and no name was declared
pub record GoesOnThere (before after : State) : Type 0 where
  pub goes : GoesOn before after
  pub scopes : after.seen.scopes ≡ before.seen.scopes

-- the expression, which begins among the scopes s, was judged
pub record IsJudged (e : tree.Expr) (x : Operand) (s : Scopes) (before after : State) : Type 0 where
  pub part : IsElaborated after.table e x.part s after.seen.scopes
  pub place : x.place ≡ expr_place e
  pub goes : GoesOn before after

-- the type that specifiers name is in the table
abbrev pub IsNamedThere : Table → Named → Type 0
IsNamedThere table NoType = Unit {0}
IsNamedThere table (Declarators.IsType t) = IsType table t
IsNamedThere table IsEnumeration = Unit {0}

-- a specifier that stands behind those that are counted, and begins among the scopes s, was judged
pub record IsSpecifierJudged (counts : Counted) (specifier : tree.Specifier) (one : TypedSpecifier) (s : Scopes) (before after : State) : Type 0 where
  pub typed : IsSpecifier after.table one s after.seen.scopes
  pub erases : erased_specifier one ≡ specifier
  pub allowed : are_allowed (counting one counts) ≡ true
  pub there : (n : Named) → IsNamedThere after.table n → IsNamedThere after.table (named_by_specifier one n)
  pub goes : GoesOn before after

-- a struct or union began, where it does
abbrev pub IsBegun : AggregateKind → Option Identifier → State → Option TypeId → State → Type 0
IsBegun which name before None after = GoesOn before after
IsBegun which name before (Some t) after =
    BeginsAggregate after.table (tag_named_here before.seen.scopes name) which name t before.seen.scopes after.seen.scopes × IsType after.table t × GoesOn before after

-- enumerators were judged, which begin among the scopes s
pub record AreEnumeratorsJudged (all : tree.Enumerators) (list : TypedEnumerators) (s : Scopes) (before after : State) : Type 0 where
  pub typed : AreEnumerators after.table list s after.seen.scopes
  pub erases : erased_enumerators list ≡ all
  pub goes : GoesOn before after

-- a list of specifiers was judged
pub record IsListJudged (specifiers : tree.Specifiers) (list : TypedSpecifierList) (before after : State) : Type 0 where
  pub typed : AreListed after.table list before.seen.scopes after.seen.scopes
  pub erases : erased_specifier_list list ≡ specifiers
  pub allowed : are_allowed (counted list) ≡ true
  pub there : IsNamedThere after.table (named_by_list list)
  pub goes : GoesOn before after

-- a shape whose node plays no part
abbrev pub flat : TypeShape → TypeShape
flat (Pointer n t) = Pointer (record { 0 = 0 }) t
flat x = x

abbrev pub is_value_part : Elaborated → Bool
is_value_part (AsValue v) = true
is_value_part x = false

-- the rules of an operator read one thing of a part and of its value: their shapes, nodes apart, and whether they are constants
pub record IsAlike (table : Table) (x : Elaborated) (v : TypedExpr) : Type 0 where
  pub shape : flat (shape_of table x) ≡ flat (shape_at table (type_of v))
  pub null : is_null_part table x ≡ is_null_constant table v
  pub value : (x ≡ AsValue v) ⊎ ((is_value_part x ≡ false) × (constant_value table v ≡ None))

-- so it is with an operand and what is given of it: a struct that is not read, a value, or an allocation
pub record IsSideOf (table : Table) (x y : Elaborated) : Type 0 where
  pub shape : flat (shape_of table x) ≡ flat (shape_of table y)
  pub null : is_null_part table x ≡ is_null_part table y
  pub structs : (z : Elaborated) → (are_one_struct table x z ≡ are_one_struct table y z) × (are_one_struct table z x ≡ are_one_struct table z y)
