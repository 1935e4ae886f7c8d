-- What the laws of the crate say.
use Rattle.std.specs.Prelude.{false, length, Option, true, ◌≡◌, ◌≤◌, ℕ, None, Some, ℤ}
use Rattle.cc_base.specs.declared.number.TypeId.{TypeId}
use Rattle.cc_base.specs.declared.place.Place.{Place}
use Rattle.c_types.specs.Table.{IsType, Table, shape_at, IsAggregate, is_aggregate_shape}
use Rattle.c_tree.specs.Erasure.{erased_form, erased_parameters, erased_specifiers}
use Rattle.c_tree.specs.Tree as tree
use Rattle.c_tree.specs.TypedParts.{home_of_form, made_by_form, made_by_parameters, made_by_specifiers, name_of_form, specified_type, is_void_list, made_by, made_by_place, place_type}
use Rattle.c_tree.specs.TypedTree as typed
use Rattle.c_tree.specs.TypedTree.{TypedForm, TypedParameters, TypedSpecifiers, TypedExpr, TypedPlace}
use Rattle.c_typing.specs.Declarators.{FormMakes, Written}
use Rattle.c_typing.specs.Declaring.{unless_function}
use Rattle.c_typing.specs.Judging.{State}
use Rattle.c_typing.specs.Scopes.{Scopes, entering, leaving}
use Rattle.c_typing.specs.Settled.{IsBasic}
use Rattle.c_typing.specs.Shapes.{is_function_shape}
use Rattle.c_typing.specs.Typing.{AreAlone, AreParameters, AreSpecifiers, IsForm}
use Rattle.c_typing.specs.Walks.{judge_declarator, judge_prototype, judge_specifiers_of, outermost_of}
use Rattle.c_typing.specs.declared.naming.Naming.{Naming}
use Rattle.c_typing_laws.specs.Judged.{IsHomeOf}
use Rattle.c_typing_unique.specs.Points.{IsReadAs, Numbers, Point, IsRead, IsReadPlace}
use Rattle.c_unit_typing.specs.Holding.{declarator_holds, parameters_holds, specifiers_holds, expr_holds}
use Rattle.c_typing_given.specs.Given.{IsGivenAs, IsHere, point_at}
use Rattle.c_typing_given.specs.Limits.{IsLimited}
use Rattle.c_typing_given.specs.Spending.{HasRoom}
use Rattle.c_type_order.specs.TypesUsed.{AreUses, used_by_declarator, used_by_parameters, used_by_specifiers, used_by, used_by_place}
use Rattle.c_types.specs.Sameness.{is_same_type}
use Rattle.c_typing.specs.Checking.{checked, checked_constant, checked_value}
use Rattle.c_typing.specs.Constants.{constant_value}
use Rattle.c_typing.specs.Conversions.{IsAssigned, IsConverted, IsPlain, bare, is_taken_over}
use Rattle.c_typing.specs.Rules.{runtime_named}

abbrev pub SpecifiersAreGiven : Type 0
SpecifiersAreGiven =
    (T : Table) (xs : tree.Specifiers) (x : TypedSpecifiers) (s : State) (b : Point) (count : ℕ) → IsBasic T → IsLimited T → IsHere T s
    → IsReadAs erased_specifiers made_by_specifiers (AreSpecifiers T) xs x (point_at s) b → AreUses (used_by_specifiers T x) (length s.table) count
    → HasRoom T (made_by_specifiers x) s → specifiers_holds xs ≤ 256 → IsGivenAs T (made_by_specifiers x) (judge_specifiers_of false xs s) x s b count

abbrev pub LoneSpecifiersAreGiven : Type 0
LoneSpecifiersAreGiven =
    (T : Table) (xs : tree.Specifiers) (x : TypedSpecifiers) (s : State) (b : Point) (count : ℕ) → IsBasic T → IsLimited T → IsHere T s
    → IsReadAs erased_specifiers made_by_specifiers (AreAlone T) xs x (point_at s) b → AreUses (used_by_specifiers T x) (length s.table) count
    → HasRoom T (made_by_specifiers x) s → specifiers_holds xs ≤ 256 → IsGivenAs T (made_by_specifiers x) (judge_specifiers_of true xs s) x s b count

abbrev pub DeclaratorsAreGiven : Type 0
DeclaratorsAreGiven =
    (T : Table) (which : Naming) (base : TypedSpecifiers) (size : Option ℕ) (d : tree.Declarator) (form : TypedForm) (t : TypeId) (s : State) (b : Point) (count : ℕ)
    → IsBasic T → IsLimited T → IsHere T s → IsType s.table (specified_type base) → erased_form form ≡ d → IsForm T form s.seen.scopes b.scopes
    → Numbers (made_by_form form t) s.seen.node b.node → FormMakes T b.scopes form (outermost_of size) (specified_type base) t
    → IsHomeOf (unless_function (is_function_shape (shape_at T t)) which) (name_of_form form) (home_of_form form)
    → AreUses (used_by_declarator T Written (typed.Declares form t)) (length s.table) count → HasRoom T (made_by_form form t) s → declarator_holds d ≤ 256
    → IsGivenAs T (made_by_form form t) (judge_declarator which base size d s) (typed.Declares form t) s b count

abbrev pub PrototypesAreGiven : Type 0
PrototypesAreGiven =
    (T : Table) (at : Place) (xs : tree.Parameters) (list : TypedParameters) (s : State) (inside : Scopes) (node count : ℕ) → IsBasic T → IsLimited T
    → IsHere T s → erased_parameters list ≡ xs → AreParameters T (is_void_list list) list (entering s.seen.scopes) inside
    → Numbers (made_by_parameters list) s.seen.node node → AreUses (used_by_parameters T list) (length s.table) count
    → HasRoom T (made_by_parameters list) s → parameters_holds xs ≤ 256
    → IsGivenAs T (made_by_parameters list) (judge_prototype at xs s) list s (record { scopes = leaving inside; node = node }) count

abbrev pub DroppedValuesAreGiven : Type 0
DroppedValuesAreGiven =
    (T : Table) (e : tree.Expr) (v : TypedExpr) (s : State) (b : Point) (count : ℕ) → IsBasic T → IsLimited T → IsHere T s → IsRead T e v (point_at s) b
    → AreUses (used_by T v) (length s.table) count → HasRoom T (made_by v) s → expr_holds e ≤ 256 → is_taken_over (bare v) ≡ false
    → runtime_named (bare v) ≡ None → IsGivenAs T (made_by v) (checked e s) (bare v) s b count

abbrev pub ConstantsAreGiven : Type 0
ConstantsAreGiven =
    (T : Table) (e : tree.Expr) (v : TypedExpr) (z : ℤ) (s : State) (b : Point) (count : ℕ) → IsBasic T → IsLimited T → IsHere T s
    → IsRead T e v (point_at s) b → AreUses (used_by T v) (length s.table) count → HasRoom T (made_by v) s → expr_holds e ≤ 256 → IsPlain v
    → constant_value T v ≡ Some z → IsGivenAs T (made_by v) (checked_constant e s) (record { expr = v; value = z }) s b count

abbrev pub ReturnedValuesAreGiven : Type 0
ReturnedValuesAreGiven =
    (T : Table) (t : TypeId) (at : Place) (e : tree.Expr) (v : TypedExpr) (s : State) (b : Point) (count : ℕ) → IsBasic T → IsLimited T → IsHere T s
    → IsType s.table t → IsRead T e v (point_at s) b → AreUses (used_by T v) (length s.table) count → HasRoom T (made_by v) s → expr_holds e ≤ 256
    → IsConverted T at t v → IsGivenAs T (made_by v) (checked_value t at false e s) v s b count

abbrev pub InitialValuesAreGiven : Type 0
InitialValuesAreGiven =
    (T : Table) (t : TypeId) (at : Place) (e : tree.Expr) (v : TypedExpr) (s : State) (b : Point) (count : ℕ) → IsBasic T → IsLimited T → IsHere T s
    → IsType s.table t → IsRead T e v (point_at s) b → AreUses (used_by T v) (length s.table) count → HasRoom T (made_by v) s → expr_holds e ≤ 256
    → IsAssigned T b.scopes at t v → IsGivenAs T (made_by v) (checked_value t at true e s) v s b count

abbrev pub CopiedValuesAreGiven : Type 0
CopiedValuesAreGiven =
    (T : Table) (t : TypeId) (at : Place) (e : tree.Expr) (p : TypedPlace) (s : State) (b : Point) (count : ℕ) → IsBasic T → IsLimited T → IsHere T s
    → IsType s.table t → IsReadPlace T e p (point_at s) b → AreUses (used_by_place T p) (length s.table) count → HasRoom T (made_by_place p) s
    → expr_holds e ≤ 256 → IsAggregate T (place_type p) → is_aggregate_shape (shape_at T t) ≡ true → is_same_type T t (place_type p) ≡ true
    → IsGivenAs T (made_by_place p) (checked_value t at true e s) (typed.Unread p) s b count
