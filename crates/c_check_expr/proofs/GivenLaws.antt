-- What can be given is given, for each call. The laws are those of `c_typing_given`.
use Rattle.std.proofs.Common.{◌≡◌, ℕ, ℤ, Bool, true, false, Option, Some, None}
use Rattle.cc_base.specs.declared.number.TypeId.{TypeId}
use Rattle.cc_base.specs.declared.place.Place.{Place}
use Rattle.c_types.specs.Table.{IsAggregate, IsType, Table, is_aggregate_shape, shape_at}
use Rattle.c_types.specs.Sameness.{is_same_type}
use Rattle.c_tree.specs.Erasure.{erased_specifiers}
use Rattle.c_tree.specs.Places.{nowhere}
use Rattle.c_tree.specs.Spelling.{declarator_spelling, expr_spelling, specifiers_spelling}
use Rattle.c_tree.specs.Tree as tree
use Rattle.c_tree.specs.TypedParts.{made_by, made_by_declarator, made_by_place, made_by_specifiers, place_type, specified_type}
use Rattle.c_tree.specs.TypedTree as typed
use Rattle.c_tree.specs.TypedTree.{TypedDeclarator, TypedExpr, TypedPlace, TypedSpecifiers}
use Rattle.c_type_order.specs.TypesUsed.{used_by, used_by_declarator, used_by_place, used_by_specifiers}
use Rattle.c_typing.specs.declared.naming.Naming.{Naming}
use Rattle.c_typing.specs.Checking.{checked, checked_constant, checked_value}
use Rattle.c_typing.specs.Constants.{constant_value}
use Rattle.c_typing.specs.Conversions.{IsPlain, bare, is_taken_over}
use Rattle.c_typing.specs.Declarators.{Written}
use Rattle.c_typing.specs.Declaring.{declarator_name}
use Rattle.c_typing.specs.Judging.{State}
use Rattle.c_typing.specs.Refusals.{name_place}
use Rattle.c_typing.specs.Rules.{runtime_named}
use Rattle.c_typing.specs.Walks.{judge_declarator, judge_specifiers_of, outermost_of}
use Rattle.c_typing_given.specs.Given.{IsGivenAs, point_at}
use Rattle.c_typing_given.specs.Spending.{HasRoom}
use Rattle.c_typing_given.proofs.CheckedGiven.{constant-given, copied-given, dropped-given, returned-given}
use Rattle.c_typing_given.proofs.OvertakenGiven.{assigned-given}
use Rattle.c_typing_given.proofs.TreesGiven.{all-specifiers-given, any-form-given, expr-given}
use Rattle.c_typing_given.proofs.WholeGiven.{alone-given, declarator-given, listed-given}
use Rattle.c_typing_laws.specs.Judged.{AreSpecifiersBy, BecomesBy}
use Rattle.c_typing_unique.specs.Points.{IsRead, IsReadAs, IsReadPlace, Point}
use Rattle.c_typing_unique.proofs.DeclaratorSteps.{form-numbers}
use Rattle.c_unit_typing.specs.Holding.{declarator_holds, expr_holds, specifiers_holds}
use Rattle.c_check_expr.specs.Accepted.{CanBeGiven, IsDeclaratorRead}
use Rattle.c_check_expr.proofs.RoomLaws.{declarator-room, expression-room, place-room, specifiers-room}

module _ (T : Table) (e : tree.Expr) (v : TypedExpr) (s : State) (b : Point) (count : ℕ)
    (can : CanBeGiven T (expr_spelling e) (made_by v) (used_by T v) (expr_holds e) s count) (read : IsRead T e v (point_at s) b) where
  room : HasRoom T (made_by v) s
  room = expression-room e v can read.0

  pub value-given : is_taken_over (bare v) ≡ false → runtime_named (bare v) ≡ None → IsGivenAs T (made_by v) (checked e s) (bare v) s b count
  value-given over runtime =
      dropped-given T can.basic e (expr-given T can.basic can.limited.few e) v s b count can.here read can.used room can.few (over, runtime)

  pub number-given : (z : ℤ) → IsPlain v → constant_value T v ≡ Some z → IsGivenAs T (made_by v) (checked_constant e s) (record { expr = v; value = z }) s b count
  number-given z plain known =
      constant-given T can.basic e (expr-given T can.basic can.limited.few e) v s b count can.here read can.used room can.few plain z known

  pub becoming-given : (init : Bool) (t : TypeId) (at : Place) → IsType s.table t → BecomesBy init T b.scopes at t v → IsGivenAs T (made_by v) (checked_value t at init e s) v s b count
  becoming-given false t at there converted =
      returned-given T can.basic t at e (expr-given T can.basic can.limited.few e) v s b count can.here there read can.used room can.few converted
  becoming-given true t at there assigned =
      assigned-given T can.basic t at e (expr-given T can.basic can.limited.few e) v s b count can.here there read can.used room can.few assigned

pub unread-given : (T : Table) (init : Bool) (t : TypeId) (at : Place) (e : tree.Expr) (p : TypedPlace) (s : State) (b : Point) (count : ℕ)
    → CanBeGiven T (expr_spelling e) (made_by_place p) (used_by_place T p) (expr_holds e) s count → IsReadPlace T e p (point_at s) b → init ≡ true → IsType s.table t → IsAggregate T (place_type p)
    → is_aggregate_shape (shape_at T t) ≡ true → is_same_type T t (place_type p) ≡ true → IsGivenAs T (made_by_place p) (checked_value t at init e s) (typed.Unread p) s b count
unread-given T true t at e p s b count can read initial there aggregate shaped same =
    copied-given T can.basic t at e (expr-given T can.basic can.limited.few e) p s b count can.here there read can.used (place-room e p can read.0) can.few aggregate shaped same
unread-given T false t at e p s b count can read initial there aggregate shaped same = absurd (let e : false ≡ true = initial in cc)

pub specifiers-by-given : (T : Table) (alone : Bool) (xs : tree.Specifiers) (x : TypedSpecifiers) (s : State) (b : Point) (count : ℕ)
    → CanBeGiven T (specifiers_spelling xs) (made_by_specifiers x) (used_by_specifiers T x) (specifiers_holds xs) s count
    → IsReadAs erased_specifiers made_by_specifiers (AreSpecifiersBy alone T) xs x (point_at s) b → IsGivenAs T (made_by_specifiers x) (judge_specifiers_of alone xs s) x s b count
specifiers-by-given T false xs x s b count can read =
    listed-given T can.basic xs (all-specifiers-given T can.basic can.limited.few xs) x s b count can.here read can.used (specifiers-room xs x can read.0) can.few
specifiers-by-given T true xs x s b count can read =
    alone-given T can.basic xs (all-specifiers-given T can.basic can.limited.few xs) x s b count can.here read can.used (specifiers-room xs x can read.0) can.few

pub declares-given : (T : Table) (which : Naming) (base : TypedSpecifiers) (size : Option ℕ) (d : tree.Declarator) (one : TypedDeclarator) (s : State) (b : Point) (count : ℕ)
    → CanBeGiven T (declarator_spelling d) (made_by_declarator one) (used_by_declarator T Written one) (declarator_holds d) s count → IsType s.table (specified_type base)
    → IsDeclaratorRead T which (outermost_of size) (specified_type base) d one (point_at s) b
    → IsGivenAs T (made_by_declarator one) (judge_declarator which base size d s) one s b count
declares-given T which base size d (typed.Declares form t) s b count can there read =
    declarator-given T can.basic can.limited.few (name_place (declarator_name d) nowhere) which (specified_type base) size d (any-form-given T can.basic can.limited.few d) form t s b count
    can.here there (read.erases, read.form, form-numbers form t s.seen.node b.node read.numbers) read.makes read.home can.used (declarator-room d (typed.Declares form t) can read.erases) can.few
