-- What the calls refuse and what they accept: `s` is what is known before a call, `r` what is known after it.
use Rattle.std.specs.Prelude.{◌≡◌, ℕ, ℤ, Bool, true, false, IfOk, Some, None, Result, Err}
use Rattle.cc_base.specs.declared.fault.Fault.{Fault}
use Rattle.cc_base.specs.declared.fault.Fault.TheVariants.{Refused}
use Rattle.cc_base.specs.declared.fault.Rule.{Rule}
use Rattle.cc_base.specs.declared.number.TypeId.{TypeId}
use Rattle.cc_base.specs.declared.place.Place.{Place}
use Rattle.c_types.specs.Sameness.{is_same_type}
use Rattle.c_types.specs.Table.{Table, IsAggregate, IsType, is_aggregate_shape, shape_at}
use Rattle.c_tree.specs.declared.typed_expr.TypedDeclarator.{TypedDeclarator}
use Rattle.c_tree.specs.declared.typed_expr.TypedExpr.{TypedExpr}
use Rattle.c_tree.specs.declared.typed_expr.TypedSpecifiers.{TypedSpecifiers}
use Rattle.c_tree.specs.Erasure.{erased_specifiers}
use Rattle.c_tree.specs.Spelling.{declarator_spelling, expr_spelling, specifiers_spelling}
use Rattle.c_tree.specs.Tree as tree
use Rattle.c_tree.specs.TypedParts.{made_by, made_by_declarator, made_by_place, made_by_specifiers, place_type}
use Rattle.c_tree.specs.TypedTree as typed
use Rattle.c_tree.specs.TypedViews.{typed_declarator_view, typed_expr_view, typed_specifiers_view}
use Rattle.c_type_order.specs.TypesUsed.{used_by, used_by_declarator, used_by_place, used_by_specifiers}
use Rattle.c_typing.specs.declared.naming.Naming.{Naming}
use Rattle.c_typing.specs.Constants.{constant_value}
use Rattle.c_typing.specs.Conversions.{IsPlain, bare, is_taken_over}
use Rattle.c_typing.specs.Declarators.{Outermost, Written}
use Rattle.c_typing.specs.Judging.{State}
use Rattle.c_typing.specs.Rules.{runtime_named}
use Rattle.c_typing_given.specs.Given.{point_at}
use Rattle.c_typing_laws.specs.Judged.{AreSpecifiersBy, BecomesBy, DeclaratorFails, IsDeclaratorJudged, IsRefused}
use Rattle.c_typing_unique.specs.Points.{IsRead, IsReadAs, IsReadPlace, Point}
use Rattle.c_unit_typing.specs.Holding.{declarator_holds, expr_holds, specifiers_holds}
use Rattle.c_check_expr.specs.Accepted.{CanBeGiven, IsDeclaratorRead, IsTaken}
use Rattle.c_check_walk.specs.CheckingViews.{constant_view}

-- What breaks a rule is refused for it: `Fails` says which faults a table justifies.
abbrev pub RefusesForCause : {B : Type 0} → (Table → Fault → Type 0) → State → Result B Fault → State → Type 0
RefusesForCause Fails s result r = (p : Place) (t : Rule) → result ≡ Err (Refused p t) → IsRefused (λ T. Fails T (Refused p t)) s r

-- A declarator behind specifiers of the type `base`: what is given is well typed, and what is refused is so for a cause.
abbrev pub GivesDeclarator : Naming → Outermost → TypeId → tree.Declarator → State → Result TypedDeclarator Fault → State → Type 0
GivesDeclarator which outermost base d s result r =
    IsType s.table base → IfOk result (λ one. IsDeclaratorJudged which outermost base d (typed_declarator_view one) s r)

abbrev pub RefusesDeclaratorForCause : Outermost → TypeId → tree.Declarator → State → Result TypedDeclarator Fault → State → Type 0
RefusesDeclaratorForCause outermost base d s result r = IsType s.table base → RefusesForCause (λ T f. DeclaratorFails T outermost base d s.seen.scopes f) s result r

-- The value of an expression is accepted, which is no allocation and no runtime function's name.
abbrev pub AcceptsValue : tree.Expr → State → Result TypedExpr Fault → State → Type 0
AcceptsValue e s result r =
    (T : Table) (v : typed.TypedExpr) (b : Point) (count : ℕ)
    → CanBeGiven T (expr_spelling e) (made_by v) (used_by T v) (expr_holds e) s count → IsRead T e v (point_at s) b
    → is_taken_over (bare v) ≡ false → runtime_named (bare v) ≡ None
    → IsTaken typed_expr_view (bare v) T (made_by v) s b count result r

-- A value that an expression becomes at a place is accepted, of the type `to`.
abbrev pub AcceptsConverted : Bool → TypeId → Place → tree.Expr → State → Result TypedExpr Fault → State → Type 0
AcceptsConverted init to at e s result r =
    (T : Table) (v : typed.TypedExpr) (b : Point) (count : ℕ)
    → CanBeGiven T (expr_spelling e) (made_by v) (used_by T v) (expr_holds e) s count → IsRead T e v (point_at s) b
    → IsType s.table to → BecomesBy init T b.scopes at to v
    → IsTaken typed_expr_view v T (made_by v) s b count result r

-- A struct that initialises one of its type is accepted.
abbrev pub AcceptsCopied : Bool → TypeId → tree.Expr → State → Result TypedExpr Fault → State → Type 0
AcceptsCopied init to e s result r =
    (T : Table) (p : typed.TypedPlace) (b : Point) (count : ℕ)
    → CanBeGiven T (expr_spelling e) (made_by_place p) (used_by_place T p) (expr_holds e) s count → IsReadPlace T e p (point_at s) b
    → init ≡ true → IsType s.table to → IsAggregate T (place_type p) → is_aggregate_shape (shape_at T to) ≡ true → is_same_type T to (place_type p) ≡ true
    → IsTaken typed_expr_view (typed.Unread p) T (made_by_place p) s b count result r

-- A constant is accepted, with its value.
abbrev pub AcceptsConstant : tree.Expr → State → Result (TypedExpr × ℤ) Fault → State → Type 0
AcceptsConstant e s result r =
    (T : Table) (v : typed.TypedExpr) (z : ℤ) (b : Point) (count : ℕ)
    → CanBeGiven T (expr_spelling e) (made_by v) (used_by T v) (expr_holds e) s count → IsRead T e v (point_at s) b
    → IsPlain v → constant_value T v ≡ Some z
    → IsTaken constant_view (record { expr = v; value = z }) T (made_by v) s b count result r

-- Specifiers are accepted; `alone` says that no declarator follows.
abbrev pub AcceptsSpecifiers : Bool → tree.Specifiers → State → Result TypedSpecifiers Fault → State → Type 0
AcceptsSpecifiers alone all s result r =
    (T : Table) (t : typed.TypedSpecifiers) (b : Point) (count : ℕ)
    → CanBeGiven T (specifiers_spelling all) (made_by_specifiers t) (used_by_specifiers T t) (specifiers_holds all) s count
    → IsReadAs erased_specifiers made_by_specifiers (AreSpecifiersBy alone T) all t (point_at s) b
    → IsTaken typed_specifiers_view t T (made_by_specifiers t) s b count result r

-- A declarator behind specifiers of the type `base` is accepted.
abbrev pub AcceptsDeclarator : Naming → Outermost → TypeId → tree.Declarator → State → Result TypedDeclarator Fault → State → Type 0
AcceptsDeclarator which outermost base d s result r =
    (T : Table) (one : typed.TypedDeclarator) (b : Point) (count : ℕ)
    → CanBeGiven T (declarator_spelling d) (made_by_declarator one) (used_by_declarator T Written one) (declarator_holds d) s count
    → IsType s.table base → IsDeclaratorRead T which outermost base d one (point_at s) b
    → IsTaken typed_declarator_view one T (made_by_declarator one) s b count result r
