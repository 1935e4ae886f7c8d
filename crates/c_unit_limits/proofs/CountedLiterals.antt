-- What judging counts for expressions, specifiers and declarators is the bytes of the literals that it gives.
use Rattle.std.proofs.Common.{◌≡◌, ℕ, ◌+◌, Bool, Option, ap, sym, subst, ◌∙◌}
use Rattle.cc_base.specs.declared.number.TypeId.{TypeId}
use Rattle.cc_base.specs.declared.place.Place.{Place}
use Rattle.c_types.specs.Table.{Table, IsType}
use Rattle.c_tree.specs.Places.{nowhere}
use Rattle.c_tree.specs.Tree as tree
use Rattle.c_tree.specs.TypedParts.{made_by, made_by_declarator, made_by_specifiers, specified_type}
use Rattle.c_tree.specs.TypedTree.{TypedDeclarator, TypedExpr, TypedSpecifiers}
use Rattle.c_typing.specs.Checking.{Constant, checked, checked_constant, checked_value}
use Rattle.c_typing.specs.Declaring.{declarator_name}
use Rattle.c_typing.specs.Judging.{State, Outcome, Gives}
use Rattle.c_typing.specs.Operands.{Operand}
use Rattle.c_typing.specs.Refusals.{IsElaborated, name_place}
use Rattle.c_typing.specs.Scopes.{Scopes}
use Rattle.c_typing.specs.Settled.{IsKnown}
use Rattle.c_typing.specs.Tests.{Elaborated, AsPlace, AsValue, AsAllocation}
use Rattle.c_typing.specs.Walks.{judge, judge_declarator, judge_specifiers_of}
use Rattle.c_typing.specs.declared.naming.Naming.{Naming}
use Rattle.c_typing_laws.specs.Numbers.{made_by_part}
use Rattle.c_typing_laws.proofs.JudgedTrees.{expr-law}
use Rattle.c_typing_laws.proofs.JudgedWhole.{checked-judged, checked_value-judged, constant-judged, specifiers_of-judged, declarator-at}
use Rattle.c_unit_typing.specs.Holding.{expr_holds, specifiers_holds, declarator_holds}
use Rattle.c_unit_limits.specs.Literals.{expr_literals, specifiers_literals, declarator_literals, literals_made}
use Rattle.c_unit_limits.proofs.HeldSteps.{Holds}
use Rattle.c_unit_limits.proofs.HeldTrees.{expr-held}
use Rattle.c_unit_limits.proofs.HeldWhole.{checked-held, checked_value-held, checked_constant-held, specifiers_of-held, declarator_at-held}
use Rattle.c_unit_limits.proofs.LiteralsMade.{expr-literals, place-literals, specifiers-literals, declarator-literals}

counted : {A : Type 0} (o : Outcome A) (n w : ℕ) (s : State) (a : A) (r : State) → Holds o n w s → o ≡ Gives a r → r.seen.globals ≡ s.seen.globals + w
counted o n w s a r h e = (subst (λ (m : Outcome _). Holds m n w s) e h).2

-- what is counted, where the tree that was judged has so much
as_made : (a b w v : ℕ) → a ≡ b + w → v ≡ w → a ≡ b + v
as_made a b w v p q = p ∙ ap (λ (n : ℕ). b + n) (sym q)

part-literals : (T : Table) (e : tree.Expr) (x : Elaborated) (s s' : Scopes) → IsElaborated T e x s s' → literals_made (made_by_part x) ≡ expr_literals e
part-literals T e (AsPlace p) s s' h = place-literals p ∙ ap expr_literals h.1
part-literals T e (AsValue v) s s' h = expr-literals v ∙ ap expr_literals h.1
part-literals T e (AsAllocation v) s s' h = expr-literals v ∙ ap expr_literals h.1

pub expr-counted : (called : Bool) (e : tree.Expr) (o : Operand) (s r : State) → IsKnown s → judge called e s ≡ Gives o r → r.seen.globals ≡ s.seen.globals + literals_made (made_by_part o.part)
expr-counted called e o s r k h =
    as_made r.seen.globals s.seen.globals (expr_literals e) (literals_made (made_by_part o.part))
    (counted (judge called e s) (expr_holds e) (expr_literals e) s o r ((expr-held e called).holds s) h)
    (part-literals r.table e o.part s.seen.scopes r.seen.scopes (expr-law called e o s r k h).part)

pub value-counted : (e : tree.Expr) (v : TypedExpr) (s r : State) → IsKnown s → checked e s ≡ Gives v r → r.seen.globals ≡ s.seen.globals + literals_made (made_by v)
value-counted e v s r k h =
    as_made r.seen.globals s.seen.globals (expr_literals e) (literals_made (made_by v))
    (counted (checked e s) (expr_holds e) (expr_literals e) s v r ((checked-held e).holds s) h)
    (expr-literals v ∙ ap expr_literals (checked-judged e v s r k h).erases)

pub becomes-counted : (t : TypeId) (at : Place) (init : Bool) (e : tree.Expr) (v : TypedExpr) (s r : State) → IsKnown s → IsType s.table t → checked_value t at init e s ≡ Gives v r
    → r.seen.globals ≡ s.seen.globals + literals_made (made_by v)
becomes-counted t at init e v s r k b h =
    as_made r.seen.globals s.seen.globals (expr_literals e) (literals_made (made_by v))
    (counted (checked_value t at init e s) (expr_holds e) (expr_literals e) s v r ((checked_value-held t at init e).holds s) h)
    (expr-literals v ∙ ap expr_literals (checked_value-judged t at init e v s r k b h).erases)

pub constant-counted : (e : tree.Expr) (c : Constant) (s r : State) → IsKnown s → checked_constant e s ≡ Gives c r → r.seen.globals ≡ s.seen.globals + literals_made (made_by c.expr)
constant-counted e c s r k h =
    as_made r.seen.globals s.seen.globals (expr_literals e) (literals_made (made_by c.expr))
    (counted (checked_constant e s) (expr_holds e) (expr_literals e) s c r ((checked_constant-held e).holds s) h)
    (expr-literals c.expr ∙ ap expr_literals (constant-judged e c s r k h).checked.erases)

pub specifiers-counted : (alone : Bool) (all : tree.Specifiers) (t : TypedSpecifiers) (s r : State) → IsKnown s → judge_specifiers_of alone all s ≡ Gives t r
    → r.seen.globals ≡ s.seen.globals + literals_made (made_by_specifiers t)
specifiers-counted alone all t s r k h =
    as_made r.seen.globals s.seen.globals (specifiers_literals all) (literals_made (made_by_specifiers t))
    (counted (judge_specifiers_of alone all s) (specifiers_holds all) (specifiers_literals all) s t r ((specifiers_of-held alone all).holds s) h)
    (specifiers-literals t ∙ ap specifiers_literals (specifiers_of-judged alone all t s r k h).erases)

pub declarator-counted : (which : Naming) (base : TypedSpecifiers) (size : Option ℕ) (d : tree.Declarator) (one : TypedDeclarator) (s r : State) → IsKnown s
    → IsType s.table (specified_type base) → judge_declarator which base size d s ≡ Gives one r → r.seen.globals ≡ s.seen.globals + literals_made (made_by_declarator one)
declarator-counted which base size d one s r k b h =
    let at = name_place (declarator_name d) nowhere in
    as_made r.seen.globals s.seen.globals (declarator_literals d) (literals_made (made_by_declarator one))
    (counted (judge_declarator which base size d s) (declarator_holds d) (declarator_literals d) s one r ((declarator_at-held at which (specified_type base) size d).holds s) h)
    (declarator-literals one ∙ ap declarator_literals (declarator-at at which (specified_type base) size d one s r k b h).erases)
