-- What laws say of what judging gives: it is well typed from the scopes before to those after, it erases to the tree that was judged, and
-- all is known again.
use Rattle.std.specs.Prelude.{◌≡◌, ◌⊎◌, Bool, true, false, Option, None, Some}
use Rattle.cc_base.specs.declared.number.NodeId.{NodeId}
use Rattle.cc_base.specs.declared.number.TypeId.{TypeId}
use Rattle.cc_base.specs.declared.fault.Fault.{Fault}
use Rattle.cc_base.specs.declared.place.Place.{Place}
use Rattle.c_types.specs.Table.{Table, IsType, IsAggregate, shape_at}
use Rattle.c_types.specs.Sameness.{is_same_type}
use Rattle.c_tree.specs.declared.leaf.Identifier.{Identifier}
use Rattle.c_tree.specs.declared.typed_word.Home.{Home}
use Rattle.c_tree.specs.declared.typed_word.Home.TheVariants as home
use Rattle.c_tree.specs.Erasure.{erased, erased_type_name, erased_specifiers, erased_declarator, erased_form, erased_parameters}
use Rattle.c_tree.specs.Places.{nowhere, expr_place}
use Rattle.c_tree.specs.Tree as tree
use Rattle.c_tree.specs.TypedTree as typed
use Rattle.c_tree.specs.TypedTree.{TypedExpr, TypedPlace, TypedTypeName, TypedSpecifiers, TypedDeclarator, TypedForm, TypedParameters}
use Rattle.c_tree.specs.TypedParts.{named_type, specified_type, declared_type, place_type, name_of, home_of, is_void_list, form_of}
use Rattle.c_typing.specs.declared.naming.Naming.{Naming}
use Rattle.c_typing.specs.declared.naming.Naming.TheVariants as naming
use Rattle.c_typing.specs.Checking.{Constant, value_tests}
use Rattle.c_typing.specs.Constants.{constant_value}
use Rattle.c_typing.specs.Conversions.{IsConverted, IsAssigned}
use Rattle.c_typing.specs.Declarators.{Outermost, FormMakes}
use Rattle.c_typing.specs.Declaring.{declarator_name, unless_function}
use Rattle.c_typing.specs.Extensions.{IsExtended}
use Rattle.c_typing.specs.Judging.{State}
use Rattle.c_typing.specs.Refusals.{Fails, After, Refuses, RefusesAlone, RefusesSpecifiers, RefusesDeclarator, FormFails, name_place}
use Rattle.c_typing.specs.Tests.{constant_tests}
use Rattle.c_typing.specs.Rules.{IsDroppable}
use Rattle.c_typing.specs.Scopes.{Scopes, entering, leaving}
use Rattle.c_typing.specs.Settled.{GoesOn}
use Rattle.c_typing.specs.Shapes.{IsScalar, is_function_shape}
use Rattle.c_typing.specs.Typing.{IsTyped, IsTypeName, AreSpecifiers, AreAlone, IsForm, AreParameters}

pub record IsTypeNameJudged (name : tree.TypeName) (t : TypedTypeName) (s r : State) : Type 0 where
  pub typed : IsTypeName r.table t s.seen.scopes r.seen.scopes
  pub erases : erased_type_name t ≡ name
  pub there : IsType r.table (named_type t)
  pub goes : GoesOn s r

-- `alone` says that no declarator follows
abbrev pub AreSpecifiersBy : (alone : Bool) → Table → TypedSpecifiers → Scopes → Scopes → Type 0
AreSpecifiersBy true table t s s' = AreAlone table t s s'
AreSpecifiersBy false table t s s' = AreSpecifiers table t s s'

pub record AreSpecifiersJudged (alone : Bool) (all : tree.Specifiers) (t : TypedSpecifiers) (s r : State) : Type 0 where
  pub typed : AreSpecifiersBy alone r.table t s.seen.scopes r.seen.scopes
  pub erases : erased_specifiers t ≡ all
  pub there : IsType r.table (specified_type t)
  pub goes : GoesOn s r

-- the home of a name that is to be this
abbrev pub IsHomeAs : Naming → Home → Type 0
IsHomeAs naming.None h = h ≡ home.None
IsHomeAs naming.Static h = (n : NodeId) × (h ≡ home.Static n)
IsHomeAs naming.Local h = (n : NodeId) × (h ≡ home.Local n)
IsHomeAs naming.Parameter h = (n : NodeId) × (h ≡ home.Parameter n)
IsHomeAs (naming.Known n) h = h ≡ home.Known n

-- what has no name has no home
abbrev pub IsHomeOf : Naming → Option Identifier → Home → Type 0
IsHomeOf which None h = h ≡ home.None
IsHomeOf which (Some name) h = IsHomeAs which h

-- a declarator behind specifiers of the type `base`, whose name is to be `which`: the name of a function has no home
pub record IsDeclaratorJudged (which : Naming) (outermost : Outermost) (base : TypeId) (d : tree.Declarator) (one : TypedDeclarator) (s r : State) : Type 0 where
  pub typed : IsForm r.table (form_of one) s.seen.scopes r.seen.scopes
  pub makes : FormMakes r.table r.seen.scopes (form_of one) outermost base (declared_type one)
  pub home : IsHomeOf (unless_function (is_function_shape (shape_at r.table (declared_type one))) which) (name_of one) (home_of one)
  pub erases : erased_declarator one ≡ d
  pub there : IsType r.table (declared_type one)
  pub goes : GoesOn s r

-- parameters in a scope of their own, of which `inside` are the last scopes
pub record IsPrototypeJudged (all : tree.Parameters) (list : TypedParameters) (s r : State) : Type 0 where
  pub inside : Scopes
  pub typed : AreParameters r.table (is_void_list list) list (entering s.seen.scopes) inside
  pub left : r.seen.scopes ≡ leaving inside
  pub erases : erased_parameters list ≡ all
  pub goes : GoesOn s r

-- the value of an expression
pub record IsChecked (e : tree.Expr) (v : TypedExpr) (s r : State) : Type 0 where
  pub typed : IsTyped r.table v s.seen.scopes r.seen.scopes
  pub erases : erased v ≡ e
  pub droppable : IsDroppable v
  pub goes : GoesOn s r

-- a struct of the type t that is not read
pub record IsUnreadOf (table : Table) (t : TypeId) (v : TypedExpr) : Type 0 where
  pub place : TypedPlace
  pub unread : v ≡ typed.Unread place
  pub aggregate : IsAggregate table t
  pub same : is_same_type table t (place_type place) ≡ true

-- an initialiser is assigned, a returned value is converted
abbrev pub BecomesBy : (init : Bool) → Table → Scopes → Place → TypeId → TypedExpr → Type 0
BecomesBy true table s at t v = IsAssigned table s at t v
BecomesBy false table s at t v = IsConverted table at t v

-- an expression whose value becomes one of the type t at the place
pub record IsCheckedFor (t : TypeId) (at : Place) (init : Bool) (e : tree.Expr) (v : TypedExpr) (s r : State) : Type 0 where
  pub typed : IsTyped r.table v s.seen.scopes r.seen.scopes
  pub erases : erased v ≡ e
  pub becomes : IsUnreadOf r.table t v ⊎ (IsScalar r.table t × BecomesBy init r.table r.seen.scopes at t v)
  pub goes : GoesOn s r

-- an integer constant expression with its value
pub record IsConstantJudged (e : tree.Expr) (c : Constant) (s r : State) : Type 0 where
  pub checked : IsChecked e c.expr s r
  pub value : constant_value r.table c.expr ≡ Some c.value

-- what is refused in the state r, where judging began in the state s: so much is said over the table up to there
pub record IsRefused (P : Table → Type 0) (s r : State) : Type 0 where
  pub fails : P r.table
  pub extends : IsExtended s.table r.table

-- a declarator behind specifiers of the type `base` is refused: what stands in it, or the type that it makes, which is named at its name
abbrev pub DeclaratorFails : Table → Outermost → TypeId → tree.Declarator → Scopes → Fault → Type 0
DeclaratorFails T outermost base d s f =
    RefusesDeclarator T d s f
    ⊎ ((form : TypedForm) × (m : Scopes) × IsForm T form s m × (erased_form form ≡ d)
    × FormFails T m form outermost base (name_place (declarator_name d) nowhere) f)

-- specifiers are refused: `alone` says that no declarator follows them
abbrev pub SpecifiersFail : (alone : Bool) → Table → tree.Specifiers → Scopes → Fault → Type 0
SpecifiersFail true table all s f = RefusesAlone table all s f
SpecifiersFail false table all s f = RefusesSpecifiers table all s f

-- an expression is refused, or that its value becomes one of the type t at the place
abbrev pub ValueFails : Table → TypeId → Place → tree.Expr → Scopes → Fault → Type 0
ValueFails table t at e s f = Refuses table false e s f ⊎ After table e s (λ x m. Fails (value_tests table t at x) f)

-- an expression is refused, or it is no integer constant
abbrev pub ConstantFails : Table → tree.Expr → Scopes → Fault → Type 0
ConstantFails table e s f = Refuses table false e s f ⊎ After table e s (λ x m. Fails (constant_tests table (expr_place e) x) f)
