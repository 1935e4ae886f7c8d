-- What is given is within the limits.
use Rattle.std.proofs.Common.{◌≡◌, ℕ, Bool, Option, subst}
use Rattle.cc_base.specs.declared.number.TypeId.{TypeId}
use Rattle.cc_base.specs.declared.place.Place.{Place}
use Rattle.c_tree.specs.Places.{nowhere}
use Rattle.c_tree.specs.Tree as tree
use Rattle.c_tree.specs.TypedParts.{specified_type}
use Rattle.c_tree.specs.TypedTree.{TypedExpr, TypedSpecifiers, TypedDeclarator}
use Rattle.c_typing.specs.Checking.{Constant, checked, checked_value, checked_constant}
use Rattle.c_typing.specs.Declaring.{declarator_name}
use Rattle.c_typing.specs.Judging.{State, Outcome, Gives}
use Rattle.c_typing.specs.Refusals.{name_place}
use Rattle.c_typing.specs.Walks.{judge_specifiers_of, judge_declarator}
use Rattle.c_typing.specs.declared.naming.Naming.{Naming}
use Rattle.c_unit_typing.specs.Holding.{expr_holds, specifiers_holds, declarator_holds}
use Rattle.c_unit_limits.proofs.HeldSteps.{Holds}
use Rattle.c_unit_limits.proofs.HeldWhole.{checked-held, checked_value-held, checked_constant-held, specifiers_of-held, declarator_at-held}
use Rattle.c_check_expr.specs.Limited.{IsWithin}

within : {A : Type 0} (o : Outcome A) (n w : ℕ) (s : State) (a : A) (r : State) → Holds o n w s → o ≡ Gives a r → IsWithin n s r
within o n w s a r h e = let k = subst (λ (m : Outcome _). Holds m n w s) e h in record { held = k.1; bounded = k.0 }

pub expr-within : (e : tree.Expr) (v : TypedExpr) (s r : State) → checked e s ≡ Gives v r → IsWithin (expr_holds e) s r
expr-within e v s r h = within (checked e s) (_) (_) s v r ((checked-held e).holds s) h

pub value-within : (t : TypeId) (at : Place) (init : Bool) (e : tree.Expr) (v : TypedExpr) (s r : State) → checked_value t at init e s ≡ Gives v r → IsWithin (expr_holds e) s r
value-within t at init e v s r h = within (checked_value t at init e s) (_) (_) s v r ((checked_value-held t at init e).holds s) h

pub constant-within : (e : tree.Expr) (c : Constant) (s r : State) → checked_constant e s ≡ Gives c r → IsWithin (expr_holds e) s r
constant-within e c s r h = within (checked_constant e s) (_) (_) s c r ((checked_constant-held e).holds s) h

pub specifiers-within : (alone : Bool) (all : tree.Specifiers) (t : TypedSpecifiers) (s r : State) → judge_specifiers_of alone all s ≡ Gives t r
    → IsWithin (specifiers_holds all) s r
specifiers-within alone all t s r h = within (judge_specifiers_of alone all s) (_) (_) s t r ((specifiers_of-held alone all).holds s) h

pub declarator-within : (which : Naming) (base : TypedSpecifiers) (size : Option ℕ) (d : tree.Declarator) (one : TypedDeclarator) (s r : State)
    → judge_declarator which base size d s ≡ Gives one r → IsWithin (declarator_holds d) s r
declarator-within which base size d one s r h =
    within (judge_declarator which base size d s) (_) (_) s one r
    ((declarator_at-held (name_place (declarator_name d) nowhere) which (specified_type base) size d).holds s) h
