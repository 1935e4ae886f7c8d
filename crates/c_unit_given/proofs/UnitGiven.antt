-- What it is that judging gives what is well typed of a unit: from a state at a point of a text whose table is T, the tree that stands there.
use Rattle.std.proofs.Common.{◌≡◌, ◌≤◌, ◌<◌, ◌+◌, ℕ, ℤ, true, false, List, length, Option, Some, None}
use Rattle.std.specs.List.{All}
use Rattle.cc_base.specs.declared.place.Place.{Place}
use Rattle.cc_base.specs.declared.number.TypeId.{TypeId}
use Rattle.c_types.specs.Table.{Table, IsType, shape_at, IsAggregate}
use Rattle.c_types.specs.Layouts.{size_of}
use Rattle.c_types.specs.Sameness.{IsSameType}
use Rattle.c_tree.specs.declared.typed_word.Home.TheVariants as home
use Rattle.c_tree.specs.Erasure.{erased, erased_place, erased_specifiers, erased_form, erased_initialiser}
use Rattle.c_tree.specs.TypedTree as typed
use Rattle.c_tree.specs.TypedTree.{TypedExpr, TypedPlace, TypedSpecifiers, TypedForm, TypedInitialiser}
use Rattle.c_tree.specs.TypedParts.{Made, Name, made_by, made_by_place, made_by_specifiers, made_by_form, place_type, specified_type, name_of_form, home_of_form}
use Rattle.c_typing.specs.Assignments.{literal_cost}
use Rattle.c_typing.specs.declared.declared.Declared.{Declared}
use Rattle.c_typing.specs.declared.declared.Declared.TheVariants as declared
use Rattle.c_typing.specs.declared.naming.Naming.{Naming}
use Rattle.c_typing.specs.Checking.{checked, checked_value, checked_constant}
use Rattle.c_typing.specs.Constants.{constant_value}
use Rattle.c_typing.specs.Conversions.{bare, is_taken_over, IsPlain, IsAssigned, IsConverted}
use Rattle.c_typing.specs.Declaring.{unless_function}
use Rattle.c_typing.specs.Declarators.{FormMakes, Written}
use Rattle.c_typing.specs.Extensions.{IsExtended}
use Rattle.c_typing.specs.Judging.{State}
use Rattle.c_typing.specs.Rules.{runtime_named}
use Rattle.c_typing.specs.Scopes.{Level, Scopes, here as named_here, without_innermost}
use Rattle.c_typing.specs.Settled.{IsBasic}
use Rattle.c_typing.specs.Shapes.{IsScalar, is_function_shape}
use Rattle.c_typing.specs.Typing.{IsTyped, IsPlace, AreSpecifiers, AreAlone, IsForm}
use Rattle.c_typing.specs.Walks.{judge_specifiers_of, judge_declarator, outermost_of}
use Rattle.c_typing_laws.specs.Judged.{IsHomeOf}
use Rattle.c_typing_unique.specs.Points.{Point, Numbers}
use Rattle.c_typing_given.specs.Given.{IsHere, IsGivenAs}
use Rattle.c_unit_typing.specs.Holding.{expr_holds, specifiers_holds, declarator_holds}
use Rattle.c_typing_given.specs.Spending.{HasRoom, node_cost, total}
use Rattle.c_type_order.specs.TypesUsed.{Use, AreUses, used_by, used_by_place, used_by_specifiers, used_by_declarator}
use Rattle.c_unit_typing.specs.Initialisers.{IsInitialiser, is_char_array, size_given, makes_chars}
use Rattle.c_unit_typing.specs.UnitRefusals.{size_written}
use Rattle.c_unit_typing.specs.Units.{Known}
use Rattle.c_unit_typing.specs.UnitJudged.{state_of, IsUnitKnown}
use Rattle.c_unit_typing.specs.UnitJudging.{UnitState, UnitOutcome, UnitJudging, Gives, known_of}
use Rattle.c_unit_typing.proofs.WrittenSizes.{IsTextAsWritten}
use Rattle.c_cells_kept.specs.Counted.{copied_by}

-- What is counted

-- the bytes of an object or a literal that lives as long as the program are counted, and 16 more
abbrev pub object_cost : Table → Made → ℕ
object_cost T (Name name (home.Static n) t) = size_of T t + 16
object_cost T made = literal_cost made

pub record HasUnitRoom (T : Table) (made : List Made) (s : UnitState) : Type 0 where
  pub things : length made ≤ 4294967296
  pub nodes : s.seen.node + total node_cost made ≤ 4294967295
  pub globals : s.seen.globals + total (object_cost T) made ≤ 4194304
  pub cells : s.seen.cells + total (copied_by T) made ≤ 65536

pub record HasUnitSpent (T : Table) (made : List Made) (s r : UnitState) : Type 0 where
  pub nodes : r.seen.node ≡ s.seen.node + total node_cost made
  pub globals : r.seen.globals ≤ s.seen.globals + total (object_cost T) made
  pub cells : r.seen.cells ≤ s.seen.cells + total (copied_by T) made

-- Scopes

-- the home of an object was given out before the node n
abbrev pub IsHomeBelow : ℕ → Declared → Type 0
IsHomeBelow n (declared.Object t m) = m.0 < n
IsHomeBelow n what = Unit {0}

abbrev pub AreHomesBelow : ℕ → List Level → Type 0
AreHomesBelow n levels = All (λ (l : Level). All (λ (e : List ℕ × Declared). IsHomeBelow n e.1) l.names) levels

-- a part that declares no object leaves the outer scopes as they are
pub record IsScopeKept (s s' : Scopes) : Type 0 where
  pub outer : without_innermost s'.levels ≡ without_innermost s.levels
  pub deep : length s'.levels ≡ length s.levels
  pub homes : (n : ℕ) → AreHomesBelow n s.levels → AreHomesBelow n s'.levels
  -- what is no name of the innermost scope after it was none before
  pub names : (name : List ℕ) → named_here s'.levels name ≡ None → named_here s.levels name ≡ None

pub record AreScopesKept (T : Table) : Type 0 where
  pub value : (e : TypedExpr) (s s' : Scopes) → IsTyped T e s s' → IsScopeKept s s'
  pub place : (p : TypedPlace) (s s' : Scopes) → IsPlace T p s s' → IsScopeKept s s'
  pub specifiers : (x : TypedSpecifiers) (s s' : Scopes) → AreSpecifiers T x s s' → IsScopeKept s s'
  pub alone : (x : TypedSpecifiers) (s s' : Scopes) → AreAlone T x s s' → IsScopeKept s s'
  pub form : (form : TypedForm) (s s' : Scopes) → IsForm T form s s' → IsScopeKept s s'

-- Points of a unit

-- the state is what is known at a point of a unit whose table is T
pub record IsUnitHere (T : Table) (s : UnitState) : Type 0 where
  pub here : IsHere T (state_of s)
  pub unit : IsUnitKnown s
  -- a scope is open, and the homes of the objects that are declared were given out
  pub open_ : 1 ≤ length s.seen.scopes.levels
  pub homes : AreHomesBelow s.seen.node s.seen.scopes.levels

-- from one such state another one was reached, where so much is known, n is the next node and there are so many types
pub record IsUnitReached (T : Table) (made : List Made) (s r : UnitState) (k : Known) (n count : ℕ) : Type 0 where
  pub here : IsUnitHere T r
  pub grown : IsExtended s.table r.table
  pub known : known_of r ≡ k
  pub node : r.seen.node ≡ n
  pub types : length r.table ≡ count
  pub outer : without_innermost r.seen.scopes.levels ≡ without_innermost s.seen.scopes.levels
  pub spent : HasUnitSpent T made s r

-- judging gives what stands there, and so much is true of the types after it
pub record IsUnitGivenAs {A : Type 0} (T : Table) (Gains : Table → Type 0) (made : List Made) (run : UnitOutcome A) (a : A) (s : UnitState) (k : Known) (n count : ℕ) : Type 0 where
  pub after : UnitState
  pub gives : run ≡ Gives a after
  pub reached : IsUnitReached T made s after k n count
  pub gains : Gains after.table

-- Where `typed` holds of what is known before and after, and `Needs` of the types before, judging gives what stands there, and `Gains` of the
-- types after it.
abbrev pub IsRun : {A : Type 0} → Table → (Needs Gains : Table → Type 0) → (Known → Known → Type 0) → List Made → List Use → UnitJudging A → A → Type 0
IsRun T Needs Gains typed made uses run a =
    (s : UnitState) (k : Known) (n count : ℕ) → IsUnitHere T s → Needs s.table → typed (known_of s) k → Numbers made s.seen.node n
    → AreUses uses (length s.table) count → HasUnitRoom T made s → IsUnitGivenAs T Gains made (run s) a s k n count

-- what is true of types stays so as types are added
abbrev pub IsKept : (Table → Type 0) → Type 0
IsKept P = (J U : Table) → IsExtended J U → IsBasic J → P J → P U

abbrev pub Nothing : Table → Type 0
Nothing J = Unit {0}

abbrev pub And : (Table → Type 0) → (Table → Type 0) → Table → Type 0
And P Q J = P J × Q J

abbrev pub HasType : TypeId → Table → Type 0
HasType t J = IsType J t

-- What is given of expressions and declarators

-- a part of an expression or a declarator, from what is known of types and names
abbrev pub IsPartRun : {A : Type 0} → Table → (Scopes → Scopes → Type 0) → List Made → List Use → (State → Type 0) → (State → Rattle.c_typing.specs.Judging.Outcome A) → A → Type 0
IsPartRun T typed made uses Needs run a =
    (s : State) (b : Point) (count : ℕ) → IsHere T s → Needs s → typed s.seen.scopes b.scopes → Numbers made s.seen.node b.node → AreUses uses (length s.table) count
    → HasRoom T made s → IsGivenAs T made (run s) a s b count

abbrev pub Always : State → Type 0
Always s = Unit {0}

abbrev pub Has : TypeId → State → Type 0
Has t s = IsType s.table t

pub record AreExpressionsGiven (T : Table) : Type 0 where
  -- a value that is dropped, tested or promoted
  pub dropped : (e : TypedExpr) → is_taken_over (bare e) ≡ false → runtime_named (bare e) ≡ None → expr_holds (erased e) ≤ 256
      → IsPartRun T (IsTyped T e) (made_by e) (used_by T e) Always (checked (erased e)) (bare e)
  -- an initialiser
  pub initial : (t : TypeId) (at : Place) (e : TypedExpr) → IsScalar T t → expr_holds (erased e) ≤ 256
      → IsPartRun T (λ s s'. IsTyped T e s s' × IsAssigned T s' at t e) (made_by e) (used_by T e) (Has t) (checked_value t at true (erased e)) e
  pub copied : (t : TypeId) (at : Place) (p : TypedPlace) → IsAggregate T (place_type p) → IsSameType T t (place_type p) → expr_holds (erased_place p) ≤ 256
      → IsPartRun T (IsPlace T p) (made_by_place p) (used_by_place T p) (Has t) (checked_value t at true (erased_place p)) (typed.Unread p)
  -- what is returned
  pub returned : (t : TypeId) (at : Place) (e : TypedExpr) → IsConverted T at t e → expr_holds (erased e) ≤ 256
      → IsPartRun T (IsTyped T e) (made_by e) (used_by T e) (Has t) (checked_value t at false (erased e)) e
  pub constant : (e : TypedExpr) (z : ℤ) → IsPlain e → constant_value T e ≡ Some z → expr_holds (erased e) ≤ 256
      → IsPartRun T (IsTyped T e) (made_by e) (used_by T e) Always (checked_constant (erased e)) (record { expr = e; value = z })

pub record AreDeclaratorsGiven (T : Table) : Type 0 where
  pub specifiers : (x : TypedSpecifiers) → specifiers_holds (erased_specifiers x) ≤ 256
      → IsPartRun T (AreSpecifiers T x) (made_by_specifiers x) (used_by_specifiers T x) Always (judge_specifiers_of false (erased_specifiers x)) x
  pub alone : (x : TypedSpecifiers) → specifiers_holds (erased_specifiers x) ≤ 256
      → IsPartRun T (AreAlone T x) (made_by_specifiers x) (used_by_specifiers T x) Always (judge_specifiers_of true (erased_specifiers x)) x
  -- a declarator whose name is to be `which`, unless it is that of a function
  pub declarator : (which : Naming) (base : TypedSpecifiers) (size : Option ℕ) (form : TypedForm) (t : TypeId)
      → IsHomeOf (unless_function (is_function_shape (shape_at T t)) which) (name_of_form form) (home_of_form form) → declarator_holds (erased_form form) ≤ 256
      → IsPartRun T (λ s s'. IsForm T form s s' × FormMakes T s' form (outermost_of size) (specified_type base) t) (made_by_form form t) (used_by_declarator T Written (typed.Declares form t))
      (Has (specified_type base)) (judge_declarator which base size (erased_form form)) (typed.Declares form t)

-- what a declarator makes with the size that an initialiser gives, it makes with the size that is written
abbrev pub AreSizesWritten : Table → Type 0
AreSizesWritten T =
    (c : Scopes) (form : TypedForm) (base t : TypeId) (i : TypedInitialiser) (at : Place) (s s' : Scopes) → IsInitialiser T i at t s s' → (is_char_array T t ≡ true → IsTextAsWritten i)
    → FormMakes T c form (outermost_of (size_given (is_char_array T t) i)) base t
    → FormMakes T c form (outermost_of (size_written (makes_chars T base (erased_form form)) (erased_initialiser i))) base t
