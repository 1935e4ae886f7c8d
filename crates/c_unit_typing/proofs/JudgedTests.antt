-- What judging gives for the expressions of statements: conditions, what is dropped, and what is returned.
use Rattle.std.proofs.Common.{◌≡◌, true, false, not, [], ◌∷◌, Option, Some, None, refl, ap, sym, ◌∙◌, inl, inr, true≢false}
use Rattle.cc_base.specs.declared.place.Place.{Place}
use Rattle.cc_base.specs.declared.number.TypeId.{TypeId}
use Rattle.cc_base.specs.declared.fault.Fault.TheVariants.{Refused}
use Rattle.cc_base.specs.declared.fault.Rule.TheVariants as rule
use Rattle.c_types.specs.declared.shape.TypeShape.{TypeShape}
use Rattle.c_types.specs.declared.shape.TypeShape.TheVariants.{Void, Integer, Pointer, Array, Function, Struct, Union}
use Rattle.c_types.specs.Table.{Table, shape_at, is_aggregate_shape}
use Rattle.c_tree.specs.Tree as tree
use Rattle.c_tree.specs.TypedTree as typed
use Rattle.c_tree.specs.TypedTree.{TypedExpr, TypedStatement}
use Rattle.c_tree.specs.TypedParts.{type_of}
use Rattle.c_typing.specs.Checking.{checked, checked_value}
use Rattle.c_typing.specs.Conversions.{is_plain, is_droppable, IsConverted}
use Rattle.c_typing.specs.Extensions.{IsExtended}
use Rattle.c_typing.specs.Scopes.{Scopes}
use Rattle.c_typing.specs.Settled.{IsKnown}
use Rattle.c_typing.specs.Shapes.{is_scalar_shape, is_void_shape}
use Rattle.c_typing.specs.Tests.{AsValue, first_broken, broken_at}
use Rattle.c_typing.specs.Typing.{IsTyped}
use Rattle.c_typing_laws.proofs.ConstructLaws.{one_unbroken, not_false}
use Rattle.c_typing_laws.proofs.ExtensionLaws.{no_true}
use Rattle.c_typing_laws.proofs.JudgedWhole.{checked-judged, checked_value-judged}
use Rattle.c_typing_laws.proofs.KeptConversions.{converted-kept}
use Rattle.c_typing_laws.proofs.KeptRules
use Rattle.c_typing_laws.proofs.KeptTrees.{value-kept}
use Rattle.c_typing_laws.proofs.KnownStates.{stays}
use Rattle.c_unit_typing.specs.Linkage.{Linkage}
use Rattle.c_unit_typing.specs.Units.{Known, with_scopes, IsDropped, IsReturned}
use Rattle.c_unit_typing.specs.UnitRefusals.{condition_tests}
use Rattle.c_unit_typing.specs.StatementJudging.{dropped, returned, tested, tested_or_none}
use Rattle.c_unit_typing.specs.UnitJudged.{state_of, IsOptionJudged, IsResult, IsTestPassed}
use Rattle.c_unit_typing.specs.UnitJudging.{UnitState, Gives, known, known_of, pure, lifted}
use Rattle.c_unit_typing.proofs.UnitOutcomes.{bind-gives, unless-gives, given-same, lifted-gives}

-- where what is linked stays, names alone were declared
pub scopes-alone : (s r : UnitState) → r.linkage ≡ s.linkage → known_of r ≡ with_scopes (known_of s) r.seen.scopes
scopes-alone s r l = ap (λ (k : Linkage). known_of (known r.table r.seen k)) l

aggregate_no_scalar : (y : TypeShape) → is_aggregate_shape y ≡ true → is_scalar_shape y ≡ false
aggregate_no_scalar (Struct n) h = refl
aggregate_no_scalar (Union n) h = refl
aggregate_no_scalar Void h = no_true h
aggregate_no_scalar (Integer bytes signed) h = no_true h
aggregate_no_scalar (Pointer n t) h = no_true h
aggregate_no_scalar (Array t n) h = no_true h
aggregate_no_scalar (Function ps r) h = no_true h

-- a scalar that may be dropped is plain
pub scalar-plain : (T : Table) (e : TypedExpr) (s s' : Scopes) → IsTyped T e s s' → is_droppable e ≡ true → is_scalar_shape (shape_at T (type_of e)) ≡ true
    → is_plain e ≡ true
scalar-plain T (typed.Unread p) s s' h d n = absurd (true≢false (sym n ∙ aggregate_no_scalar (shape_at T (type_of (typed.Unread p))) h.1))
scalar-plain T e s s' h d n = d

-- a condition that passes its test
pub tested-judged : (at : Place) (c : TypedExpr) (one whole : TypedStatement) (k k' : Known) (s r : UnitState) → IsKnown (state_of s) → IsDropped s.table (Some c) k k'
    → tested at c one s ≡ Gives whole r → IsTestPassed (Some c) k k' one whole s r
unfolding tested
tested-judged at c one whole k k' s r b d h =
    let go = unless-gives (first_broken (condition_tests s.table at (AsValue c))) (pure one) s whole r h in
    let scalar = not_false (is_scalar_shape (shape_at s.table (type_of c)))
    (one_unbroken (not (is_scalar_shape (shape_at s.table (type_of c)))) (Refused at rule.Mismatch) go.0) in
    record {
      typed = λ T x. (
        d.0,
        value-kept s.table T x b.basic c k.scopes d.0 d.1,
        KeptRules.condition-kept s.table T x b.basic c (record { plain = scalar-plain s.table c k.scopes d.0 d.1 d.2 scalar; scalar = scalar }),
        d.3,
      );
      same = go.1;
    }

pub tested_or_none-judged : (at : Place) (c : Option TypedExpr) (one whole : TypedStatement) (k k' : Known) (s r : UnitState) → IsKnown (state_of s) → IsDropped s.table c k k'
    → tested_or_none at c one s ≡ Gives whole r → IsTestPassed c k k' one whole s r
unfolding tested_or_none
tested_or_none-judged at None one whole k k' s r b d h = record { typed = λ T x. d; same = h }
tested_or_none-judged at (Some c) one whole k k' s r b d h = tested-judged at c one whole k k' s r b d h

none_judged : (P : Table → Option TypedExpr → Known → Known → Type 0) (s : UnitState) → IsKnown (state_of s)
    → ((T : Table) → IsExtended s.table T → P T None (known_of s) (known_of s)) → IsOptionJudged P None None s s
none_judged P s k h = record { typed = h; erases = refl; linkage = refl; goes = (stays (state_of s) k).goes }

pub dropped_here : (e : tree.Expr) (v : TypedExpr) (s m : UnitState) → IsKnown (state_of s) → lifted (checked e) s ≡ Gives v m
    → IsOptionJudged IsDropped (Some e) (Some v) s m
dropped_here e v s m k h =
    let l = lifted-gives (checked e) v s m h in
    let j = checked-judged e v (state_of s) (state_of m) k l.0 in
    record {
      typed = λ T x. (
        m.seen.scopes,
        value-kept m.table T x j.goes.known.basic v s.seen.scopes m.seen.scopes j.typed,
        j.droppable,
        scopes-alone s m l.1,
      );
      erases = ap Some j.erases;
      linkage = l.1;
      goes = j.goes;
    }

pub dropped-judged : (e : Option tree.Expr) (v : Option TypedExpr) (s r : UnitState) → IsKnown (state_of s) → dropped e s ≡ Gives v r
    → IsOptionJudged IsDropped e v s r
unfolding dropped
dropped-judged None v s r k h =
    given-same (λ (w : Option TypedExpr) (q : UnitState). IsOptionJudged IsDropped None w s q) None v s r h (none_judged IsDropped s k (λ T x. refl))
dropped-judged (Some e) v s r k h =
    let one = bind-gives (lifted (checked e) s) (λ w. pure (Some w)) v r h in
    given-same (λ (w : Option TypedExpr) (q : UnitState). IsOptionJudged IsDropped (Some e) w s q) (Some one.0) v one.1 r one.3
    (dropped_here e one.0 s one.1 k one.2)

pub returned-judged : (at : Place) (t : TypeId) (e : Option tree.Expr) (v : Option TypedExpr) (s r : UnitState) → IsKnown (state_of s) → IsResult s.table t
    → returned at t e s ≡ Gives v r → IsOptionJudged (λ T. IsReturned T at t) e v s r
unfolding returned
returned-judged at t None v s r k b h =
    let void = is_void_shape (shape_at s.table t) in
    let go = unless-gives (first_broken (broken_at rule.Mismatch at (not void) ∷ [])) (pure None) s v r h in
    let yes = not_false void (one_unbroken (not void) (Refused at rule.Mismatch) go.0) in
    given-same (λ (w : Option TypedExpr) (q : UnitState). IsOptionJudged (λ T. IsReturned T at t) None w s q) None v s r go.1
    (none_judged (λ T. IsReturned T at t) s k (λ T x. (refl, ap is_void_shape (x.shapes t b.there) ∙ yes)))
returned-judged at t (Some e) v s r k b h =
    let one = bind-gives (lifted (checked_value t at false e) s) (λ w. pure (Some w)) v r h in
    let m = one.1 in
    let w = one.0 in
    let l = lifted-gives (checked_value t at false e) w s m one.2 in
    let j = checked_value-judged t at false e w (state_of s) (state_of m) k b.there l.0 in
    let becomes : IsConverted m.table at t w = elim j.becomes [
      | inl u ↦ absurd (true≢false (sym u.aggregate ∙ (ap is_aggregate_shape (j.goes.extends.shapes t b.there) ∙ b.no_struct)))
      | inr c ↦ c.1
    ] in
    given-same (λ (x : Option TypedExpr) (q : UnitState). IsOptionJudged (λ T. IsReturned T at t) (Some e) x s q) (Some w) v m r one.3 (record {
      typed = λ T x. (
        m.seen.scopes,
        value-kept m.table T x j.goes.known.basic w s.seen.scopes m.seen.scopes j.typed,
        converted-kept m.table T x j.goes.known.basic at t w s.seen.scopes m.seen.scopes j.typed becomes,
        scopes-alone s m l.1,
      );
      erases = ap Some j.erases;
      linkage = l.1;
      goes = j.goes;
    })
