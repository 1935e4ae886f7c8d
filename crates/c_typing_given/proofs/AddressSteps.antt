-- What judging a member through a pointer, a size or an address is made of.
use Rattle.std.proofs.Common.{◌≡◌, Bool, true, false, ◌||◌, None, refl, ap, sym}
use Rattle.cc_base.specs.declared.place.Place.{Place}
use Rattle.cc_base.specs.declared.fault.Fault.TheVariants.{TooLarge}
use Rattle.cc_base.specs.declared.fault.Limit.TheVariants.{Types}
use Rattle.c_types.specs.Table.{shape_at}
use Rattle.c_tree.specs.declared.leaf.Identifier.{Identifier}
use Rattle.c_tree.specs.declared.operator.MemberOperator.TheVariants as member_operator
use Rattle.c_tree.specs.Tree as tree
use Rattle.c_tree.specs.TypedTree as typed
use Rattle.c_tree.specs.TypedTree.{TypedExpr, TypedPlace}
use Rattle.c_tree.specs.TypedParts.{place_type}
use Rattle.c_typing.specs.declared.typing.Reading.{Reading}
use Rattle.c_typing.specs.declared.typing.Reading.TheVariants as reading
use Rattle.c_typing.specs.Conversions.{is_plain, is_allocation}
use Rattle.c_typing.specs.Judging.{State, Outcome, Gives, next, ◌>>=◌, pure, new_pointer, Pointing}
use Rattle.c_typing.specs.Operands.{Operand, Value, value, value_of, place_value, reading_of}
use Rattle.c_typing.specs.Operations.{pointed_member}
use Rattle.c_typing.specs.Refusals.{is_natural}
use Rattle.c_typing.specs.Rules.{is_designator, is_made_of_place, runtime_named}
use Rattle.c_typing.specs.Tests.{AsPlace, AsValue, has_some}
use Rattle.c_typing.specs.Walks.{judge}
use Rattle.c_typing_laws.proofs.Outcomes.{bind-gives, gives-value, gives-state, never-gives}
use Rattle.c_typing_unique.proofs.Shapes.{no_true}
use Rattle.c_typing_given.proofs.Steps.{then-is}
use Rattle.c_typing_given.proofs.ValuesGiven.{natural-by}

pub judges-arrow : (called : Bool) (x : tree.Expr) (at : Place) (name : Identifier) (v : Value) (s k : State) (o : Outcome Operand) → next (judge false x s) value ≡ Gives v k
    → pointed_member v at name k ≡ o → judge called (tree.Member x member_operator.Arrow at name) s ≡ o
unfolding judge
judges-arrow called x at name v s k o h l = then-is (judge false x >>= value) (λ q. pointed_member q at name) v s k o h l

designator_plain : (e : TypedExpr) → is_designator e ≡ true → (is_made_of_place e ≡ false) × (is_allocation e ≡ false) × (is_plain e ≡ true)
designator_plain (typed.FunctionName name number n t) h = (refl, refl, refl)
designator_plain (typed.FunctionAt at e) h = (refl, refl, refl)
designator_plain (typed.Paren at e) h = let r = designator_plain e h in (refl, r.1, r.2)
designator_plain e h = no_true h

or_true : (a b : Bool) → a ≡ true → (a || b) ≡ true
or_true a b h = rw h refl

pub designator-natural : (e : TypedExpr) → is_designator e ≡ true → is_natural e ≡ true
designator-natural e h =
    let r = designator_plain e h in
    natural-by e false false true r.0 r.1 (or_true (is_plain e) (has_some (runtime_named e)) r.2)

pub designator-unnamed : (e : TypedExpr) → is_designator e ≡ true → runtime_named e ≡ None
designator-unnamed (typed.FunctionName name number n t) h = refl
designator-unnamed (typed.FunctionAt at e) h = refl
designator-unnamed (typed.Paren at e) h = designator-unnamed e h
designator-unnamed e h = no_true h

-- what is taken of a place is made of it
place_value_made : (at : Place) (p : TypedPlace) (how : Reading) (w : TypedExpr) (k r : State) → place_value at p how k ≡ Gives w r → is_made_of_place w ≡ true
unfolding place_value
place_value_made at p (reading.Decays element) w k r h =
    let one = bind-gives (new_pointer at element k) (λ (made : Pointing). pure (typed.Decay p made.node made.type)) w r h in
    ap is_made_of_place (sym (gives-value (typed.Decay p one.0.node one.0.type) w one.1 r one.3))
place_value_made at p reading.Reads w k r h = ap is_made_of_place (sym (gives-value (typed.Read p) w k r h))
place_value_made at p reading.Stays w k r h = ap is_made_of_place (sym (gives-value (typed.Unread p) w k r h))
place_value_made at p reading.Nothing w k r h = never-gives w (TooLarge at Types) k r h

pub place-made : (at : Place) (p : TypedPlace) (w : TypedExpr) (k r : State) → value_of at (AsPlace p) k ≡ Gives w r → is_made_of_place w ≡ true
unfolding value_of
place-made at p w k r h = place_value_made at p (reading_of (shape_at k.table (place_type p))) w k r h

pub value-own : (at : Place) (u w : TypedExpr) (k r : State) → value_of at (AsValue u) k ≡ Gives w r → (u ≡ w) × (k ≡ r)
unfolding value_of
value-own at u w k r h = (gives-value u w k r h, gives-state u w k r h)
