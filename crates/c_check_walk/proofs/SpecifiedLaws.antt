-- Lists of specifiers, and the specifiers that they give.
use Rattle.std.proofs.Common.{◌≡◌, ◌≢◌, refl, sym, ap, subst, ◌∙◌, Bool, Result, Ok, Err}
use Rattle.cc_base.specs.declared.place.Place.{Place}
use Rattle.cc_base.specs.declared.fault.Fault.{Fault}
use Rattle.cc_base.specs.declared.fault.Fault.TheVariants.{NoMemory}
use Rattle.c_types.specs.declared.shape.TypeShape.{TypeShape}
use Rattle.c_tree.specs.Tree as tree
use Rattle.c_tree.specs.TypedTree as typed
use Rattle.c_tree.specs.TypedTree.{TypedSpecifier, TypedSpecifierList, TypedParameters, TypedDeclared}
use Rattle.c_tree.specs.TypedViews.{typed_specifiers_view}
use Rattle.c_tree.specs.declared.typed_expr.TypedSpecifiers.{TypedSpecifiers}
use Rattle.c_typing.specs.declared.naming.Naming.TheVariants as naming
use Rattle.c_typing.specs.Declarators.{Counted, counted}
use Rattle.c_typing.specs.Declaring as declaring
use Rattle.c_typing.specs.Specifying.{specified}
use Rattle.c_typing.specs.Judging.{State, Outcome, Gives, Stops, Answers, next, pure}
use Rattle.c_typing.specs.Walks.{judge, judge_arguments, judge_list, judge_specifier, judge_specifiers, judge_parameters, judge_declared, declared_place}
use Rattle.c_check_walk.specs.Listed.{IsListed}
use Rattle.c_check_walk.proofs.OutcomeLaws.{next-gives, gives-value, gives-state, made-stops}

pub listed_from : (specifiers : tree.Specifiers) (s t : State) (r : Result TypedSpecifiers Fault)
    → Answers typed_specifiers_view (judge_specifiers specifiers s) r t → IsListed (judge_list specifiers s) r t
unfolding judge_specifiers
listed_from specifiers s t (Ok made) given =
    let one = next-gives (judge_list specifiers s) (λ list. pure (specified list)) (typed_specifiers_view made) t given in
    (one.0, one.2 ∙ ap (λ m. Gives one.0 m) (gives-state (specified one.0) (typed_specifiers_view made) one.1 t one.3), gives-value (specified one.0) (typed_specifiers_view made) one.1 t one.3)
listed_from specifiers s t (Err fault) stopped = λ real. made-stops (judge_list specifiers s) specified fault t (stopped real)

-- a list that gives specifiers, or stops

pub specifiers_end : (specifiers : tree.Specifiers) (list : TypedSpecifierList) (s t : State)
    → judge_list specifiers s ≡ Gives list t → judge_specifiers specifiers s ≡ Gives (specified list) t
unfolding judge_specifiers
specifiers_end specifiers list s t given = rw given refl

pub specifiers_stop : (specifiers : tree.Specifiers) (fault : Fault) (s t : State)
    → (fault ≢ NoMemory → judge_list specifiers s ≡ Stops fault t) → fault ≢ NoMemory → judge_specifiers specifiers s ≡ Stops fault t
unfolding judge_specifiers
specifiers_stop specifiers fault s t stopped real = rw (stopped real) refl

-- one specifier more, before which these are counted
pub specifier_goes : (all : tree.Specifiers) (one : tree.Specifier) (list : TypedSpecifierList) (before : Counted) (s m : State)
    → judge_list all s ≡ Gives list m → counted list ≡ before → (o : Outcome TypedSpecifier) → judge_specifier before one m ≡ o
    → judge_list (tree.AndSpecifier all one) s ≡ next o (λ made. pure (typed.AndSpecifier list made))
unfolding judge judge_arguments
specifier_goes all one list before s m given count o judged =
    ap (λ (r : Outcome TypedSpecifierList). next r (λ l. λ n. next (judge_specifier (counted l) one n) (λ made. pure (typed.AndSpecifier l made)))) given
    ∙ ap (λ k. next (judge_specifier k one m) (λ made. pure (typed.AndSpecifier list made))) count
    ∙ ap (λ (r : Outcome TypedSpecifier). next r (λ made. pure (typed.AndSpecifier list made))) judged

-- a parameter, as its parts are judged
pub parameter_goes : (void : Bool) (before : tree.Parameters) (specifiers : tree.Specifiers) (d : tree.Declared) (start s m r : State)
    → (done : TypedParameters) → judge_parameters void before start ≡ Gives done s
    → (list : TypedSpecifierList) (made : typed.TypedSpecifiers) → judge_list specifiers s ≡ Gives list m → specified list ≡ made
    → (at : Place) → at ≡ declared_place specifiers d → (one : TypedDeclared) → judge_declared naming.Parameter at d m ≡ Gives one r
    → (derived : declaring.Derived) → derived ≡ declaring.derived_by_declared d → (named : Place) → named ≡ declaring.typedef_place specifiers
    → judge_parameters void (tree.AndParameter before specifiers d) start ≡ declaring.parameter void at (λ base. declaring.adjusted_at derived base named) done made one r
unfolding judge judge_arguments
parameter_goes void before specifiers d start s m r done first list made listed same at place one declared derived by named names =
    let here = declared_place specifiers d in
    let adjusting = λ (base : TypeShape). declaring.adjusted_at (declaring.derived_by_declared d) base (declaring.typedef_place specifiers) in
    ap (λ (o : Outcome TypedParameters). next o (λ all. λ n. next (judge_list specifiers n) (λ own. λ k. next (judge_declared naming.Parameter here d k) (λ two. declaring.parameter void here adjusting all (specified own) two)))) first
    ∙ ap (λ (o : Outcome TypedSpecifierList). next o (λ own. λ k. next (judge_declared naming.Parameter here d k) (λ two. declaring.parameter void here adjusting done (specified own) two))) listed
    ∙ ap (λ (o : Outcome TypedDeclared). next o (λ two. declaring.parameter void here adjusting done (specified list) two)) (subst (λ p. judge_declared naming.Parameter p d m ≡ Gives one r) place declared)
    ∙ (λ i. declaring.parameter void (sym place i) (λ base. declaring.adjusted_at (sym by i) base (sym names i)) done (same i) one r)
