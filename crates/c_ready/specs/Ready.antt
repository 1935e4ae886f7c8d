-- What layers above the checker need of a well typed unit: of its tree and its final table alone, without scopes.
use Rattle.std.specs.Prelude.{◌≡◌, ◌≢◌, ◌⊎◌, ℕ, ℤ, ◌<◌, ◌≤◌, Bool, true, false, List, [], ◌∷◌, ◌++◌, ◌&&◌, map, flat_map, length, slice_get, Option, Some, None, IsTrue, codes, nat_eq}
use Rattle.std.specs.List.{All, Contains, IsDistinct}
use Rattle.cc_base.specs.declared.place.Place.{Place}
use Rattle.cc_base.specs.declared.number.NodeId.{NodeId}
use Rattle.cc_base.specs.declared.number.TypeId.{TypeId}
use Rattle.integers.specs.Arithmetic.{IntegerType, int, long, unsigned_long, converted}
use Rattle.c_types.specs.declared.shape.TypeShape.TheVariants.{Integer, Pointer, Array, Function, Struct, Union}
use Rattle.c_types.specs.declared.shape.TypeShape.{TypeShape}
use Rattle.c_types.specs.Table.{Table, HasShape, IsType, IsAggregate, IsComplete, is_function, shape_at, members_at}
use Rattle.c_types.specs.Layouts.{size_of, member_at}
use Rattle.c_types.specs.Sameness.{IsSameType}
use Rattle.c_tree.specs.declared.leaf.Identifier.{Identifier}
use Rattle.c_tree.specs.declared.leaf.StringPiece.{StringPiece}
use Rattle.c_tree.specs.declared.operator.AggregateKind.{AggregateKind}
use Rattle.c_tree.specs.declared.operator.AggregateKind.TheVariants as aggregate
use Rattle.c_tree.specs.declared.operator.Assignment.{Assignment}
use Rattle.c_tree.specs.declared.typed_word.Conversion.{Conversion}
use Rattle.c_tree.specs.declared.typed_word.Conversion.TheVariants as conversion
use Rattle.c_tree.specs.declared.typed_word.Home.{Home}
use Rattle.c_tree.specs.declared.typed_word.Home.TheVariants as home
use Rattle.c_tree.specs.declared.typed_word.Side.TheVariants as side
use Rattle.c_tree.specs.TypedTree as typed
use Rattle.c_tree.specs.TypedTree.{TypedExpr, TypedPlace, TypedArguments, TypedTypeName, TypedSpecifiers, TypedSpecifierList, TypedSpecifier, TypedMembers, TypedMemberDeclarators, TypedEnumerators, TypedDeclarator, TypedForm, TypedCore, TypedParts, TypedParameters, TypedDeclared, TypedInitialiser, TypedItems, TypedInitDeclarators, TypedDeclaration, TypedStatement, TypedBlockItems, TypedTranslationUnit}
use Rattle.c_tree.specs.TypedParts.{home_of_form, type_of, place_type, named_type, declared_type, pointer_side, home_of, name_of, statics_of, locals_of, functions_of, DefinedFunction, parameters_of, static_initialisers, StaticInitialiser, made_by_unit, nodes_made, MadeObject, ParameterObject, Made, static_home, parameters_in_form}
use Rattle.c_tree.specs.TypedParts as made
use Rattle.c_typing.specs.Shapes.{IsIntegerType, IsScalar, IsVoid, IsPointerTo}
use Rattle.c_typing.specs.Integers.{constant_type, assigning}
use Rattle.c_typing.specs.Scopes.{Name}
use Rattle.c_typing.specs.Declarators.{taken_types, name_bytes}
use Rattle.c_typing.specs.Conversions.{IsPlain}
use Rattle.c_typing.specs.Rules.{IsStringType, IsDecay, IsLvalue, IsAddress, IsElementAddress, IsFunctionAt, IsPrefix, IsArithmetic, is_move, other_side, IsInteger, IsPointer, IsCompared, IsLogical, IsChoice, IsPointerChoice, IsIntegerUpdate, is_compound, IsCall, IsRuntimeCall, IsAllocation, IsAllocationFor, IsDroppable, IsCondition, is_designator}
use Rattle.c_typing.specs.Settled.{IsBasic}
use Rattle.c_unit_typing.specs.Initialisers.{IsSlot, items_count, is_only_text, is_char_array}
use Rattle.c_unit_typing.specs.Units.{Around, in_a_loop, in_a_switch, IsSwitched}
use Rattle.src_machine.specs.Names.{declarators_in}
use Rattle.src_machine.specs.Pieces.{Piece, APlace, ASpecifier, pieces_of_unit}

-- An object: its home and its type as it is named.
abbrev pub Named : Type 0
Named = NodeId × TypeId

-- What the parts of a tree stand in.
pub record Stage : Type 0 where
  pub table : Table
  -- how many nodes the unit makes
  pub nodes : ℕ
  -- the parameters and local variables of the function
  pub variables : List Named
  -- the objects that live as long as the program, each by its first declaration
  pub statics : List Named
  -- the literals, which are static objects
  pub literals : List Named
  -- the functions that are defined, by their numbers
  pub functions : List DefinedFunction
  -- the declarators that declare objects and functions
  pub declarators : List TypedDeclarator
  -- whether it runs: no operand of `sizeof`, nothing in a type name, in the size of an array or in a label
  pub runs : Bool
  -- whether it may call functions: not in static initialisers
  pub calls : Bool

-- what does not run
abbrev pub unread : Stage → Stage
unread k = record k { variables = []; runs = false; calls = false }

-- what runs before `main`
abbrev pub before_main : Stage → Stage
before_main k = record k { variables = []; calls = false }

abbrev pub IsNode : Stage → NodeId → Type 0
IsNode k n = n.0 < k.nodes

-- complete in the final table
abbrev pub IsWhole : Stage → TypeId → Type 0
IsWhole k t = IsType k.table t × IsComplete k.table t

-- the type of the first declaration, or the same type
abbrev pub IsAlike : Table → TypeId → TypeId → Type 0
IsAlike T first t = (first ≡ t) ⊎ IsSameType T first t

-- two types that are each alike to one: those of two declarations of one thing (C99 6.2.7)
abbrev pub AreAlike : Table → TypeId → TypeId → Type 0
AreAlike T t v = (first : TypeId) × IsAlike T first t × IsAlike T first v

-- a declarator declares the object with the home h, which lives as long as the program, with the type t
abbrev pub IsObjectDeclared : Stage → NodeId → TypeId → Type 0
IsObjectDeclared k h t = (d : TypedDeclarator) × Contains k.declarators d × (static_home (home_of d) ≡ h ∷ []) × (declared_type d ≡ t)

-- a declarator declares the function of this name with the type t
abbrev pub IsFunctionDeclared : Stage → Name → TypeId → Type 0
IsFunctionDeclared k name t = (d : TypedDeclarator) × Contains k.declarators d
    × ((id : Identifier) × (name_of d ≡ Some id) × (id.bytes ≡ name)) × (declared_type d ≡ t)

-- an object that lives as long as the program, by one of its declarations
pub record IsStaticNamed (k : Stage) (h : NodeId) (t : TypeId) : Type 0 where
  pub first : TypeId
  pub made : Contains k.statics (h, first)
  pub alike : IsAlike k.table first t
  -- a declarator declares it with this type, and one with the first
  pub declared : IsObjectDeclared k h t
  pub begun : IsObjectDeclared k h first

-- what runs names a variable of the function or a static object; what does not may name a parameter of a prototype, which is no object
abbrev pub IsObjectOf : Bool → Stage → NodeId → TypeId → Type 0
IsObjectOf true k h t = IsNode k h × IsWhole k t × (Contains k.variables (h, t) ⊎ IsStaticNamed k h t)
IsObjectOf false k h t = IsNode k h × IsWhole k t

-- a function of the unit, as it is declared where it is named
pub record IsFunctionNamed (k : Stage) (name : Identifier) (number : ℕ) (n : NodeId) (t : TypeId) : Type 0 where
  pub function : TypeId
  pub type : HasShape k.table t (Pointer n function)
  pub defined : DefinedFunction
  pub there : slice_get k.functions number ≡ Some defined
  pub named : name_bytes (name_of defined.declarator) ≡ name.bytes
  pub first : TypeId
  pub alike : IsAlike k.table first function × IsAlike k.table first (declared_type defined.declarator)
  pub declared : IsFunctionDeclared k name.bytes function

abbrev pub IsPointerToWhole : Stage → TypeId → Type 0
IsPointerToWhole k t = (n : NodeId) × (u : TypeId) × HasShape k.table t (Pointer n u) × IsWhole k u

-- the conversion fits what it converts
abbrev pub Fits : Stage → Conversion → TypeId → TypeId → Type 0
Fits k conversion.IntegerToInteger from to = ((i : IntegerType) × IsIntegerType k.table i from) × ((j : IntegerType) × IsIntegerType k.table j to)
Fits k conversion.IntegerToPointer from to = ((i : IntegerType) × IsIntegerType k.table i from)
    × ((n : NodeId) × (u : TypeId) × HasShape k.table to (Pointer n u))
Fits k conversion.PointerToPointer from to = ((m : NodeId) × (t : TypeId) × HasShape k.table from (Pointer m t))
    × ((n : NodeId) × (u : TypeId) × HasShape k.table to (Pointer n u))
Fits k conversion.NullToPointer from to = (n : NodeId) × (u : TypeId) × HasShape k.table to (Pointer n u)
Fits k conversion.AllocationToPointer from to = (from ≡ to) × IsPointerToWhole k to
Fits k conversion.ToVoid from to = IsVoid k.table to
Fits k conversion.PointerToInteger from to = ⊥

-- member number i of a complete struct or union
pub record IsMember (k : Stage) (whole : TypeId) (i : ℕ) (n : NodeId) (t : TypeId) : Type 0 where
  pub complete : IsWhole k whole
  pub aggregate : IsAggregate k.table whole
  pub there : i < length (members_at k.table whole)
  pub type : t ≡ member_at k.table whole i
  pub part : IsWhole k t
  pub node : IsNode k n

-- what `++`, `--` may step
abbrev pub IsStepped : Stage → TypeId → Type 0
IsStepped k t = ((i : IntegerType) × IsIntegerType k.table i t) ⊎ IsPointerToWhole k t

-- what is stored in an object of the type t, given as a parameter of it or returned: a value of that very type
abbrev pub IsStored : Stage → TypeId → TypedExpr → Type 0
IsStored k t e = (type_of e ≡ t) × IsType k.table t × IsScalar k.table t

abbrev pub IsPointerUpdated : Stage → Assignment → TypedPlace → TypedExpr → TypeId → Type 0
IsPointerUpdated k operator p e t =
    IsTrue (is_move (assigning operator) side.Left) × IsPointerToWhole k (place_type p) × ((i : IntegerType) × IsInteger k.table i e)
    × (t ≡ place_type p)

abbrev pub IsUpdated : Stage → Assignment → TypedPlace → Place → TypedExpr → TypeId → Type 0
IsUpdated k operator p at e t =
    IsTrue (is_compound operator) × IsLvalue p × (IsIntegerUpdate k.table (assigning operator) p at e t ⊎ IsPointerUpdated k operator p e t)

-- a struct or a union, as its keyword says
abbrev pub is_of_kind : AggregateKind → TypeShape → Bool
is_of_kind aggregate.Struct (Struct number) = true
is_of_kind aggregate.Union (Union number) = true
is_of_kind which shape = false

-- calls stand in functions, and where nothing runs
abbrev pub MayCall : Stage → Type 0
MayCall k = (k.calls ≡ true) ⊎ (k.runs ≡ false)

abbrev pub IsLiteral : Stage → NodeId → TypeId → Type 0
IsLiteral k h t = IsNode k h × Contains k.literals (h, t)

-- Values, places, and the type names and declarators in them. What the rules of an operator say of types and conversions holds as it stands.
abbrev mutual
  pub IsReady : Stage → TypedExpr → Type 0
  IsReady k (typed.Integer of value at t) = IsIntegerType k.table (constant_type of) t
  IsReady k (typed.Character value at t) = IsIntegerType k.table int t
  IsReady k (typed.Enumerator name value t) = IsIntegerType k.table int t
  IsReady k (typed.FunctionName name number n t) = IsNode k n × IsFunctionNamed k name number n t
  -- it stands as the callee of a runtime call alone, which nothing evaluates
  IsReady k (typed.RuntimeName name function t) = ⊥
  IsReady k (typed.Paren at e) = IsReady k e
  IsReady k (typed.Read p) = IsReadyPlace k p × IsScalar k.table (place_type p)
  IsReady k (typed.Unread p) = IsReadyPlace k p × IsAggregate k.table (place_type p)
  IsReady k (typed.Decay p n t) = IsReadyPlace k p × IsNode k n × IsDecay k.table p n t
  IsReady k (typed.Convert which at t e) = IsReady k e × Fits k which (type_of e) t
  IsReady k (typed.Cast which at to e) = IsReadyTypeName (unread k) to × IsReady k e × Fits k which (type_of e) (named_type to)
  IsReady k (typed.AddressOf at p n t) = IsReadyPlace k p × IsNode k n × IsAddress k.table p n t
  IsReady k (typed.AddressOfElement at p t) = IsReadyPlace k p × IsElementAddress p t
  IsReady k (typed.AddressOfFunction at e) = IsReady k e × IsTrue (is_designator e)
  IsReady k (typed.FunctionAt at e) = IsReady k e × IsFunctionAt k.table e
  IsReady k (typed.Prefix operator at e t) = IsReady k e × IsPrefix operator k.table at e t
  IsReady k (typed.SizeOfPlace at p size t) = IsReadyPlace (unread k) p × IsWhole k (place_type p) × (size ≡ size_of k.table (place_type p))
      × IsIntegerType k.table unsigned_long t
  IsReady k (typed.SizeOfValue at e size t) = IsReady (unread k) e × IsWhole k (type_of e) × (size ≡ size_of k.table (type_of e))
      × IsIntegerType k.table unsigned_long t
  IsReady k (typed.SizeOfType at paren name size t) =
      IsReadyTypeName (unread k) name × IsWhole k (named_type name) × (size ≡ size_of k.table (named_type name))
      × IsIntegerType k.table unsigned_long t
  IsReady k (typed.StepBefore operator at p) = IsReadyPlace k p × IsLvalue p × IsStepped k (place_type p)
  IsReady k (typed.StepAfter p operator at) = IsReadyPlace k p × IsLvalue p × IsStepped k (place_type p)
  IsReady k (typed.Arithmetic operator a at b t) = IsReady k a × IsReady k b × IsArithmetic k.table operator a at b t
  IsReady k (typed.Moved operator which a at b t) = IsReady k a × IsReady k b
      × IsTrue (is_move operator which) × IsPointerToWhole k (type_of (pointer_side which a b))
      × ((i : IntegerType) × IsInteger k.table i (other_side which a b))
      × (t ≡ type_of (pointer_side which a b))
  IsReady k (typed.Difference a at b t) = IsReady k a × IsReady k b
      × IsPointerToWhole k (type_of a) × IsPointerToWhole k (type_of b)
      × ((u v : TypeId) × IsPointerTo k.table u (type_of a) × IsPointerTo k.table v (type_of b) × IsSameType k.table u v)
      × IsIntegerType k.table long t
  IsReady k (typed.Compared operator a at b t) = IsReady k a × IsReady k b × IsCompared k.table operator a at b t
  IsReady k (typed.Logical operator a at b t) = IsReady k a × IsReady k b × IsLogical k.table operator a b t
  IsReady k (typed.Conditional c at a b t) = IsReady k c × IsReady k a × IsReady k b × IsChoice k.table c at a b t
  IsReady k (typed.PointerConditional c at a b node t) = IsReady k c × IsReady k a × IsReady k b × IsNode k node
      × IsPointerChoice k.table c at a b node t
  IsReady k (typed.Comma a b) = IsReady k a × IsReady k b × IsDroppable a × IsPlain b
  IsReady k (typed.Assign p at e) = IsReadyPlace k p × IsReady k e × IsLvalue p × IsStored k (place_type p) e
  IsReady k (typed.AssignWith operator p at e t) = IsReadyPlace k p × IsReady k e × IsUpdated k operator p at e t
  IsReady k (typed.Call f at arguments t) = IsReady k f × AreReady k arguments × IsCall k.table f arguments t × MayCall k
  IsReady k (typed.CallRuntime function f at arguments t) = AreReady k arguments × IsRuntimeCall k.table function f arguments t × MayCall k
  IsReady k (typed.Allocate function f at arguments node t) = AreReady k arguments × IsNode k node × IsAllocation k.table function f arguments node t
      × MayCall k
  -- it is made for what t points to, which the conversion around it says
  IsReady k (typed.AllocateFor function f at arguments t) = AreReady k arguments × IsAllocationFor k.table function f arguments
      × IsPointerToWhole k t × MayCall k

  -- a place, which is of a complete type
  pub IsReadyPlace : Stage → TypedPlace → Type 0
  IsReadyPlace k (typed.Variable name home t) = IsObjectOf k.runs k home t
  IsReadyPlace k (typed.String pieces home t) = IsLiteral k home t × IsStringType k.table pieces t
  IsReadyPlace k (typed.ParenPlace at p) = IsReadyPlace k p
  IsReadyPlace k (typed.Target at e t) = IsReady k e × IsPointer k.table t e × IsWhole k t
  IsReadyPlace k (typed.Element which a at b t) = IsReady k a × IsReady k b
      × IsPointer k.table t (pointer_side which a b) × ((i : IntegerType) × IsInteger k.table i (other_side which a b)) × IsWhole k t
  IsReadyPlace k (typed.Member p at name i n t) = IsReadyPlace k p × IsMember k (place_type p) i n t
  IsReadyPlace k (typed.MemberAt e at name i n t) = IsReady k e × ((whole : TypeId) × IsPointer k.table whole e × IsMember k whole i n t)
  IsReadyPlace k (typed.StructAssign p at q) = IsReadyPlace k p × IsReadyPlace k q × IsLvalue p × (place_type p ≡ place_type q)
      × IsAggregate k.table (place_type p)
  IsReadyPlace k (typed.StructConditional c at p q) = IsReady k c × IsReadyPlace k p × IsReadyPlace k q × IsCondition k.table c
      × (place_type p ≡ place_type q) × IsAggregate k.table (place_type p)
  IsReadyPlace k (typed.StructComma e p) = IsReady k e × IsReadyPlace k p × IsDroppable e × IsAggregate k.table (place_type p)

  pub AreReady : Stage → TypedArguments → Type 0
  AreReady k typed.NoArgument = Unit {0}
  AreReady k (typed.AndArgument all e) = AreReady k all × IsReady k e

  -- Declarations, in a stage in which nothing runs; the kinds see all of their parts

  pub IsReadyTypeName : Stage → TypedTypeName → Type 0
  IsReadyTypeName k (typed.Named specifiers declared t) = AreReadySpecifiers k specifiers × IsReadyDeclared k declared × IsType k.table t

  pub AreReadySpecifiers : Stage → TypedSpecifiers → Type 0
  AreReadySpecifiers k (typed.Specified list t) = AreReadyListed k list

  pub AreReadyListed : Stage → TypedSpecifierList → Type 0
  AreReadyListed k typed.NoSpecifier = Unit {0}
  AreReadyListed k (typed.AndSpecifier all specifier) = AreReadyListed k all × IsReadySpecifier k specifier

  pub IsReadySpecifier : Stage → TypedSpecifier → Type 0
  IsReadySpecifier k (typed.Aggregate which at name brace members t) = AreReadyMembers k members × IsWhole k t × IsAggregate k.table t
      × IsTrue (is_of_kind which (shape_at k.table t))
  IsReadySpecifier k (typed.Enumeration at name brace all comma) = AreReadyEnumerators k all
  IsReadySpecifier k (typed.Keyword word) = Unit {0}
  IsReadySpecifier k (typed.Typedef name t) = Unit {0}
  IsReadySpecifier k (typed.Tagged which at name t) = IsAggregate k.table t
  IsReadySpecifier k (typed.Enum at name) = Unit {0}

  pub AreReadyMembers : Stage → TypedMembers → Type 0
  AreReadyMembers k typed.NoMember = Unit {0}
  AreReadyMembers k (typed.AndMember all specifiers declarators) = AreReadyMembers k all × AreReadySpecifiers k specifiers
      × AreReadyMemberDeclarators k declarators

  pub AreReadyMemberDeclarators : Stage → TypedMemberDeclarators → Type 0
  AreReadyMemberDeclarators k typed.NoDeclarator = Unit {0}
  AreReadyMemberDeclarators k (typed.AndDeclarator all (typed.Declares form t)) = AreReadyMemberDeclarators k all × IsReadyForm k form × IsWhole k t

  pub AreReadyEnumerators : Stage → TypedEnumerators → Type 0
  AreReadyEnumerators k typed.NoEnumerator = Unit {0}
  AreReadyEnumerators k (typed.AndEnumerator all name value) = AreReadyEnumerators k all
  AreReadyEnumerators k (typed.AndValued all name at e value) = AreReadyEnumerators k all × IsReady k e

  pub IsReadyForm : Stage → TypedForm → Type 0
  IsReadyForm k (typed.Form stars core parts) = IsReadyCore k core × AreReadyParts k parts

  pub IsReadyCore : Stage → TypedCore → Type 0
  IsReadyCore k (typed.Names name home) = Unit {0}
  IsReadyCore k typed.Unnamed = Unit {0}
  IsReadyCore k (typed.Nested at form) = IsReadyForm k form

  pub AreReadyParts : Stage → TypedParts → Type 0
  AreReadyParts k typed.NoPart = Unit {0}
  AreReadyParts k (typed.AndArray all at words) = AreReadyParts k all
  AreReadyParts k (typed.AndSizedArray all at words e size) = AreReadyParts k all × IsReady k e
  AreReadyParts k (typed.AndFunction all at parameters) = AreReadyParts k all × AreReadyParameters k parameters

  pub AreReadyParameters : Stage → TypedParameters → Type 0
  AreReadyParameters k typed.NoParameter = Unit {0}
  AreReadyParameters k (typed.AndParameter all specifiers declared adjusted t) =
      AreReadyParameters k all × AreReadySpecifiers k specifiers × IsReadyDeclared k declared × IsType k.table t

  pub IsReadyDeclared : Stage → TypedDeclared → Type 0
  IsReadyDeclared k typed.NotDeclared = Unit {0}
  IsReadyDeclared k (typed.DeclaredBy form) = IsReadyForm k form

-- Initialisers

abbrev mutual
  -- of an object of the type t, or of a part of one
  pub IsReadyInitialiser : Stage → TypeId → TypedInitialiser → Type 0
  IsReadyInitialiser k t (typed.Value e) = IsReady k e × IsStored k t e
  IsReadyInitialiser k t (typed.Copied p seat) = IsReadyPlace k p × IsAggregate k.table t × (place_type p ≡ t)
  IsReadyInitialiser k t (typed.Text pieces bytes) =
      (element : TypeId) × (count : ℕ) × (signed : Bool) × HasShape k.table t (Array element count) × HasShape k.table element (Integer 1 signed)
      × (length bytes ≤ count)
  IsReadyInitialiser k t (typed.Listed brace items comma u) = (u ≡ t) × AreReadyItems k (is_only_text items && is_char_array k.table t) t items

  -- each of a part of t, which stands at the offset
  pub AreReadyItems : Stage → Bool → TypeId → TypedItems → Type 0
  AreReadyItems k text t typed.NoItem = Unit {0}
  AreReadyItems k text t (typed.AndItem all offset u i) = AreReadyItems k text t all × IsReadyInitialiser k u i
      × IsSlot text k.table t (items_count all) offset u × IsWhole k u

abbrev pub HasObject : Home → Type 0
HasObject (home.Static n) = Unit {0}
HasObject (home.Known n) = Unit {0}
HasObject (home.Local n) = Unit {0}
HasObject home.None = ⊥
HasObject (home.Parameter n) = ⊥

-- what a declarator declares, by the home that it gives
abbrev pub IsReadyHome : Stage → Home → TypeId → Type 0
IsReadyHome k home.None t = Unit {0}
IsReadyHome k (home.Static n) t = IsNode k n × IsWhole k t × IsStaticNamed k n t
IsReadyHome k (home.Known n) t = IsNode k n × IsWhole k t × IsStaticNamed k n t
IsReadyHome k (home.Local n) t = IsNode k n × IsWhole k t × Contains k.variables (n, t)
IsReadyHome k (home.Parameter n) t = ⊥

-- an initialiser of what lives as long as the program runs before `main`, in a stage of its own
abbrev pub initialised_in : Home → Stage → Stage → Stage
initialised_in (home.Local n) k static = k
initialised_in other k static = static

abbrev pub AreReadyDeclarators : Stage → Stage → TypedInitDeclarators → Type 0
AreReadyDeclarators k static typed.NoInitDeclarator = Unit {0}
AreReadyDeclarators k static (typed.AndPlain all (typed.Declares form t)) =
    AreReadyDeclarators k static all × IsReadyForm (unread k) form × IsType k.table t × IsReadyHome k (home_of (typed.Declares form t)) t
AreReadyDeclarators k static (typed.AndInitialised all (typed.Declares form t) at i) =
    AreReadyDeclarators k static all × IsReadyForm (unread k) form × IsWhole k t × IsReadyHome k (home_of (typed.Declares form t)) t
    × HasObject (home_of (typed.Declares form t))
    × IsReadyInitialiser (initialised_in (home_of (typed.Declares form t)) k static) t i

abbrev pub IsReadyDeclaration : Stage → Stage → TypedDeclaration → Type 0
IsReadyDeclaration k static (typed.Declare specifiers all) = AreReadySpecifiers (unread k) specifiers × AreReadyDeclarators k static all

-- Statements

abbrev pub IsReadyOptional : Stage → Option TypedExpr → Type 0
IsReadyOptional k None = Unit {0}
IsReadyOptional k (Some e) = IsReady k e × IsDroppable e

abbrev pub IsReadyTest : Stage → TypedExpr → Type 0
IsReadyTest k e = IsReady k e × IsCondition k.table e

abbrev pub IsReadyTestOrNone : Stage → Option TypedExpr → Type 0
IsReadyTestOrNone k None = Unit {0}
IsReadyTestOrNone k (Some e) = IsReadyTest k e

abbrev pub IsReadyReturn : Stage → TypeId → Option TypedExpr → Type 0
IsReadyReturn k t None = IsVoid k.table t
IsReadyReturn k t (Some e) = IsReady k e × IsStored k t e

-- a label is a value of the type of the `switch`
abbrev pub IsReadyLabel : Table → Option TypeId → ℤ → Type 0
IsReadyLabel T None value = ⊥
IsReadyLabel T (Some t) value = (i : IntegerType) × IsIntegerType T i t × (converted i value ≡ value)

abbrev mutual
  pub IsReadyStatement : Stage → Stage → Around → TypedStatement → Type 0
  IsReadyStatement k static a (typed.Block brace items) = AreReadyBlockItems k static a None items
  IsReadyStatement k static a (typed.Express e) = IsReady k e × IsDroppable e
  IsReadyStatement k static a typed.Empty = Unit {0}
  IsReadyStatement k static a (typed.If at paren c s) = IsReadyTest k c × IsReadyStatement k static a s
  IsReadyStatement k static a (typed.IfElse at paren c s r) = IsReadyTest k c × IsReadyStatement k static a s × IsReadyStatement k static a r
  IsReadyStatement k static a (typed.Switch at paren e brace items) =
      IsReady k e × IsSwitched k.table at e items × AreReadyBlockItems k static (in_a_switch a) (Some (type_of e)) items
  IsReadyStatement k static a (typed.While at paren c s) = IsReadyTest k c × IsReadyStatement k static (in_a_loop a) s
  IsReadyStatement k static a (typed.DoWhile s at paren c) = IsReadyStatement k static (in_a_loop a) s × IsReadyTest k c
  IsReadyStatement k static a (typed.For at paren first test step s) =
      IsReadyOptional k first × IsReadyTestOrNone k test × IsReadyOptional k step × IsReadyStatement k static (in_a_loop a) s
  IsReadyStatement k static a (typed.ForDeclaration at paren d test step s) =
      IsReadyDeclaration k static d × IsReadyTestOrNone k test × IsReadyOptional k step × IsReadyStatement k static (in_a_loop a) s
  IsReadyStatement k static a (typed.Break at) = IsTrue a.breakable
  IsReadyStatement k static a (typed.Continue at) = IsTrue a.in_loop
  IsReadyStatement k static a (typed.Return at e) = IsReadyReturn k a.result e

  pub AreReadyBlockItems : Stage → Stage → Around → Option TypeId → TypedBlockItems → Type 0
  AreReadyBlockItems k static a on typed.NoBlockItem = Unit {0}
  AreReadyBlockItems k static a on (typed.AndStatement all s) = AreReadyBlockItems k static a on all × IsReadyStatement k static a s
  AreReadyBlockItems k static a on (typed.AndDeclaration all d) = AreReadyBlockItems k static a on all × IsReadyDeclaration k static d
  AreReadyBlockItems k static a on (typed.AndCase all at e value) = AreReadyBlockItems k static a on all × IsReady (unread k) e
      × IsReadyLabel k.table on value
  AreReadyBlockItems k static a on (typed.AndDefault all at) = AreReadyBlockItems k static a on all

-- Functions and units

-- the objects of a function's frame: named parameters, then local variables
abbrev pub home_named : Option NodeId → TypeId → List Named
home_named None t = []
home_named (Some n) t = (n, t) ∷ []

abbrev pub parameter_named : ParameterObject → List Named
parameter_named p = home_named p.home p.type

abbrev pub made_named : MadeObject → Named
made_named o = (o.home, o.type)

abbrev pub variables_named : DefinedFunction → List Named
variables_named f = flat_map parameter_named (parameters_of f.declarator) ++ map made_named (locals_of f.body)

abbrev pub static_named : Made → List Named
static_named (made.Name name (home.Static n) t) = (n, t) ∷ []
static_named m = []

abbrev pub literal_named : Made → List Named
literal_named (made.Literal pieces h t) = (h, t) ∷ []
literal_named m = []

-- where static initialisers stand
abbrev pub static_stage : Table → TypedTranslationUnit → Stage
static_stage T u = record {
  table = T;
  nodes = length (nodes_made (made_by_unit u));
  variables = [];
  statics = flat_map static_named (made_by_unit u);
  literals = flat_map literal_named (made_by_unit u);
  functions = functions_of u;
  declarators = declarators_in u;
  runs = true;
  calls = false;
}

-- where declarations outside functions stand, and where a function's body does
abbrev pub file_stage : Stage → Stage
file_stage static = record static { calls = true }

abbrev pub body_stage : Stage → DefinedFunction → Stage
body_stage static f = record static { variables = variables_named f; calls = true }

-- the list of parameters that a definition begins with
abbrev pub parameters_listed : TypedDeclarator → TypedParameters
parameters_listed (typed.Declares form t) = parameters_in_form form typed.NoParameter

-- a function: its type is that of its parameters, which are scalars, and of its result
pub record IsReadyFunction (static : Stage) (f : DefinedFunction) : Type 0 where
  pub name : Identifier
  pub named : name_of f.declarator ≡ Some name
  pub result : TypeId
  pub parameters : map (λ (p : ParameterObject). p.type) (parameters_of f.declarator) ≡ taken_types (parameters_listed f.declarator)
  pub types : HasShape static.table (declared_type f.declarator) (Function (taken_types (parameters_listed f.declarator)) result)
  pub scalars : All (λ t. IsType static.table t × IsScalar static.table t) (taken_types (parameters_listed f.declarator))
  pub gives : (IsType static.table result × IsScalar static.table result) ⊎ IsVoid static.table result
  -- each object of its frame is of a complete type
  pub plans : All (λ (o : Named). IsNode static o.0 × IsWhole static o.1) (variables_named f)
  pub body : AreReadyBlockItems (body_stage static f) static (record { result = result; in_loop = false; breakable = false }) None f.body

-- the parts of a unit
abbrev pub AreReadyExternals : Stage → TypedTranslationUnit → Type 0
AreReadyExternals static typed.NoExternal = Unit {0}
AreReadyExternals static (typed.AndExternal u d) = AreReadyExternals static u × IsReadyDeclaration (file_stage static) static d
AreReadyExternals static (typed.AndFunctionBody u specifiers (typed.Declares form t) brace body) =
    AreReadyExternals static u × AreReadySpecifiers (unread static) specifiers × IsReadyForm (unread static) form
    × IsReadyHome (file_stage static) (home_of_form form) t × IsReadyFunction static (record { declarator = typed.Declares form t; body = body })

-- what initialises an object that lives as long as the program
abbrev pub IsReadyStatic : Stage → StaticInitialiser → Type 0
IsReadyStatic static i = IsReadyInitialiser static i.type i.initialiser × IsObjectOf true static i.home i.type

-- the homes of the objects of a unit: of static ones, then of each function's
abbrev pub homes_of : TypedTranslationUnit → List ℕ
homes_of u = map (λ (o : MadeObject). o.home.0) (statics_of u) ++ flat_map (λ f. map (λ (o : Named). o.0.0) (variables_named f)) (functions_of u)

-- the nodes of the member expressions of a unit, wherever they stand
abbrev pub member_node : Piece → List ℕ
member_node (APlace (typed.Member p at name i n t)) = n.0 ∷ []
member_node (APlace (typed.MemberAt e at name i n t)) = n.0 ∷ []
member_node piece = []

abbrev pub member_nodes : TypedTranslationUnit → List ℕ
member_nodes u = flat_map member_node (pieces_of_unit u)

-- a specifier of the text gives the struct or union its members
pub record IsWritten (u : TypedTranslationUnit) (t : TypeId) : Type 0 where
  pub kind : AggregateKind
  pub place : Place
  pub name : Option Identifier
  pub brace : Place
  pub members : TypedMembers
  pub there : Contains (pieces_of_unit u) (ASpecifier (typed.Aggregate kind place name brace members t))

-- a literal is an array of chars, as many as it has bytes with its zero
abbrev pub IsTextOf : Table → TypeId → Option (List StringPiece) → Type 0
IsTextOf T t None = Unit {0}
IsTextOf T t (Some pieces) = IsStringType T pieces t

-- the objects of a unit
pub record AreReadyObjects (static : Stage) (u : TypedTranslationUnit) : Type 0 where
  pub plans : All (λ (o : MadeObject). IsNode static o.home × IsWhole static o.type) (statics_of u)
  pub texts : All (λ (o : MadeObject). IsTextOf static.table o.type o.literal) (statics_of u)
  -- no two objects have one home
  pub distinct : IsDistinct nat_eq (homes_of u)

-- `int main(void)` is one of the functions
pub record HasReadyMain (static : Stage) : Type 0 where
  pub number : ℕ
  pub main : DefinedFunction
  pub there : slice_get static.functions number ≡ Some main
  pub named : name_bytes (name_of main.declarator) ≡ codes "main"
  pub result : TypeId
  pub gives : IsIntegerType static.table int result
  pub shape : HasShape static.table (declared_type main.declarator) (Function [] result)

-- A typed unit is ready for what stands above the checker, over its table of types: that each object, function, member and literal is
-- there where the tree names it, types are complete where they have to be, and conversions fit what they convert.
pub record IsReadyUnit (T : Table) (u : TypedTranslationUnit) : Type 0 where
  pub basic : IsBasic T
  pub externals : AreReadyExternals (static_stage T u) u
  pub functions : All (IsReadyFunction (static_stage T u)) (functions_of u)
  pub initialisers : All (IsReadyStatic (static_stage T u)) (static_initialisers u)
  pub objects : AreReadyObjects (static_stage T u) u
  -- the declarators of one function are of types that are alike
  pub alike : (name : Name) (t v : TypeId) → IsFunctionDeclared (static_stage T u) name t → IsFunctionDeclared (static_stage T u) name v
      → is_function T t ≡ true → is_function T v ≡ true → AreAlike T t v
  -- each struct or union that is complete was written with its members
  pub written : (t : TypeId) → IsAggregate T t → IsComplete T t → IsWritten u t
  -- no two member expressions have one node, and none has that of an object
  pub members : IsDistinct nat_eq (homes_of u ++ member_nodes u)
  -- each pointer type has a node of the unit, which is that of no other, of no object and of no member expression
  pub nodes : (t to : TypeId) (n : NodeId) → HasShape T t (Pointer n to) → n.0 < length (nodes_made (made_by_unit u))
  pub pointees : (t to v w : TypeId) (n : NodeId) → HasShape T t (Pointer n to) → HasShape T v (Pointer n w) → t ≡ v
  pub homes : (t to : TypeId) (n : NodeId) → HasShape T t (Pointer n to) → All (λ h. h ≢ n.0) (homes_of u ++ member_nodes u)
  pub main : HasReadyMain (static_stage T u)
