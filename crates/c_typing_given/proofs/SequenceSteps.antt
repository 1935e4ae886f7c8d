-- What judging commas and conditional expressions is made of.
use Rattle.std.proofs.Common.{◌≡◌, ◌≤◌, Bool, true, false, ◌&&◌, [], ◌∷◌, length, Option, Some, None, refl, ap, sym, ◌∙◌, inl, inr, ◌⊎◌}
use Rattle.std.proofs.lemmas.Option.{none-some}
use Rattle.cc_base.specs.declared.place.Place.{Place}
use Rattle.cc_base.specs.declared.number.NodeId.{NodeId}
use Rattle.cc_base.specs.declared.number.TypeId.{TypeId}
use Rattle.c_types.specs.declared.shape.TypeShape.{TypeShape}
use Rattle.c_types.specs.declared.shape.TypeShape.TheVariants.{Void, Integer, Pointer, Array, Function, Struct, Union}
use Rattle.c_types.specs.Table.{Table, IsAggregate, shape_at, is_aggregate_shape, descend}
use Rattle.c_types.specs.Sameness.{same_shape, same_step, is_same_type}
use Rattle.c_tree.specs.Tree as tree
use Rattle.c_tree.specs.TypedTree as typed
use Rattle.c_tree.specs.TypedTree.{TypedExpr, TypedPlace}
use Rattle.c_tree.specs.TypedParts.{type_of, place_type}
use Rattle.integers.specs.Arithmetic.{IntegerType}
use Rattle.c_typing.specs.Assignments.{comma, comma_part, choice, choice_of_parts, choice_of_values, choice_of_pointers, pointer_choice}
use Rattle.c_typing.specs.Conversions.{is_plain, to_integer}
use Rattle.c_typing.specs.Held.{held_with}
use Rattle.c_typing.specs.Integers.{common}
use Rattle.c_typing.specs.Judging.{State, Outcome, Gives, next, ◌>>=◌, pure, by_known, new_pointer, Pointing, void_type, integer_type}
use Rattle.c_typing.specs.Operands.{Operand, Value, value, side_of}
use Rattle.c_typing.specs.Rules.{AreOneStruct, meeting, meeting_of, meeting_type, into_choice}
use Rattle.c_typing.specs.Shapes.{integer_at, integer_of_shape, is_void_shape}
use Rattle.c_typing.specs.Tests.{Elaborated, AsPlace, AsValue, first_broken, choice_tests}
use Rattle.c_typing.specs.Walks.{judge}
use Rattle.c_typing_unique.specs.Points.{Point, IsRead, IsReadPlace}
use Rattle.c_typing_unique.proofs.Shapes.{no_true}
use Rattle.c_typing_given.proofs.Steps.{then-is, construct-is, operand_with, pointing}

pub judges-comma : (called : Bool) (x y : tree.Expr) (v w : Value) (s k r : State) (o : Outcome Operand) → next (judge false x s) value ≡ Gives v k
    → next (judge false y k) value ≡ Gives w r → comma v w r ≡ o → judge called (tree.Comma x y) s ≡ o
unfolding judge
judges-comma called x y v w s k r o h j l =
    then-is (judge false x >>= value) (λ p. (judge false y >>= value) >>= (λ q. comma p q)) v s k o h (then-is (judge false y >>= value) (λ q. comma v q) w k r o j l)

pub judges-choice : (called : Bool) (x : tree.Expr) (at : Place) (y y' : tree.Expr) (c v w : Value) (s j k r : State) (o : Outcome Operand) → next (judge false x s) value ≡ Gives c j
    → next (judge false y j) value ≡ Gives v k → next (judge false y' k) value ≡ Gives w r → choice c at v w r ≡ o → judge called (tree.Conditional x at y y') s ≡ o
unfolding judge
judges-choice called x at y y' c v w s j k r o h g f l =
    then-is (judge false x >>= value) (λ z. (judge false y >>= value) >>= (λ p. (judge false y' >>= value) >>= (λ q. choice z at p q))) c s j o h
    (then-is (judge false y >>= value) (λ p. (judge false y' >>= value) >>= (λ q. choice c at p q)) v j k o g
    (then-is (judge false y' >>= value) (λ q. choice c at v q) w k r o f l))

-- a struct that is not read is read as a place is
pub unread-read : (T : Table) (x : tree.Expr) (p : TypedPlace) (a b : Point) → IsReadPlace T x p a b → IsAggregate T (place_type p) → IsRead T x (typed.Unread p) a b
unread-read T x p a b h g = (h.0, (h.1, g), h.2)

pub side-plain : (v : TypedExpr) → is_plain v ≡ true → side_of v ≡ AsValue v
side-plain (typed.Unread p) h = no_true h
side-plain v h = refl

pub comma-is : (v w : Value) (r : State) → held_with 0 (v.held ∷ w.held ∷ []) ≤ 256
    → comma v w r ≡ Gives (operand_with v.place (comma_part v.expr (side_of w.expr)) (held_with 0 (v.held ∷ w.held ∷ []))) r
unfolding comma
comma-is v w r few = construct-is (λ s. []) v.place (v.held ∷ w.held ∷ []) (pure (comma_part v.expr (side_of w.expr))) r r (comma_part v.expr (side_of w.expr)) refl few refl

pub choice-is : (c : Value) (at : Place) (v w : Value) (x y z : Elaborated) (k r : State) → side_of v.expr ≡ x → side_of w.expr ≡ y
    → first_broken (choice_tests k.table at (AsValue c.expr) x y) ≡ None → held_with 0 (c.held ∷ v.held ∷ w.held ∷ []) ≤ 256
    → choice_of_parts c.expr c.place at x y k ≡ Gives z r → choice c at v w k ≡ Gives (operand_with c.place z (held_with 0 (c.held ∷ v.held ∷ w.held ∷ []))) r
unfolding choice
choice-is c at v w x y z k r p q pass few made =
    construct-is (λ s. choice_tests s.table at (AsValue c.expr) (side_of v.expr) (side_of w.expr)) c.place (c.held ∷ v.held ∷ w.held ∷ [])
    (choice_of_parts c.expr c.place at (side_of v.expr) (side_of w.expr)) k r z ((λ i. first_broken (choice_tests k.table at (AsValue c.expr) (p i) (q i))) ∙ pass) few
    ((λ i. choice_of_parts c.expr c.place at (p i) (q i) k) ∙ made)

-- What a choice makes

pub structs-chosen : (c : TypedExpr) (begin at : Place) (p q : TypedPlace) (k : State) → choice_of_parts c begin at (AsPlace p) (AsPlace q) k ≡ Gives (AsPlace (typed.StructConditional c at p q)) k
unfolding choice_of_parts
structs-chosen c begin at p q k = refl

pub integers-chosen : (c : TypedExpr) (begin at : Place) (a b : TypedExpr) (j l : IntegerType) (k : State) → integer_at k.table (type_of a) ≡ Some j → integer_at k.table (type_of b) ≡ Some l
    → choice_of_parts c begin at (AsValue a) (AsValue b) k
    ≡ Gives (AsValue (typed.Conditional c at (to_integer at (integer_type (common j l)) a) (to_integer at (integer_type (common j l)) b) (integer_type (common j l)))) k
unfolding choice_of_parts choice_of_values
integers-chosen c begin at a b j l k p q = (λ i. choice_of_values c begin at a b (p i) (q i) k)

pub others-chosen : (c : TypedExpr) (begin at : Place) (a b : TypedExpr) (void : Bool) (k : State) (o : Outcome Elaborated)
    → ((integer_at k.table (type_of a) ≡ None) ⊎ (integer_at k.table (type_of b) ≡ None))
    → (is_void_shape (shape_at k.table (type_of a)) && is_void_shape (shape_at k.table (type_of b))) ≡ void → choice_of_pointers c begin at a b void k ≡ o
    → choice_of_parts c begin at (AsValue a) (AsValue b) k ≡ o
unfolding choice_of_parts choice_of_values
others-chosen c begin at a b void k o none h g = by (integer_at k.table (type_of a)) (integer_at k.table (type_of b)) none
  where
    by : (x y : Option IntegerType) → (x ≡ None) ⊎ (y ≡ None) → choice_of_values c begin at a b x y k ≡ o
    by None y n = ap (λ (v : Bool). choice_of_pointers c begin at a b v k) h ∙ g
    by (Some x) None n = ap (λ (v : Bool). choice_of_pointers c begin at a b v k) h ∙ g
    by (Some x) (Some y) (inl n) = absurd (none-some x (sym n))
    by (Some x) (Some y) (inr n) = absurd (none-some y (sym n))

pub voids-chosen : (c : TypedExpr) (begin at : Place) (a b : TypedExpr) (k : State) → choice_of_pointers c begin at a b true k ≡ Gives (AsValue (typed.Conditional c at a b void_type)) k
unfolding choice_of_pointers
voids-chosen c begin at a b k = refl

pub pointers-chosen : (c : TypedExpr) (begin at : Place) (a b : TypedExpr) (to : TypeId) (n : NodeId) (t : TypeId) (k r : State) → meeting_type (meeting k.table a b) ≡ Some to
    → new_pointer begin to k ≡ Gives (pointing n t) r
    → choice_of_pointers c begin at a b false k ≡ Gives (AsValue (typed.PointerConditional c at (into_choice r.table at t a) (into_choice r.table at t b) n t)) r
unfolding choice_of_pointers pointer_choice
pointers-chosen c begin at a b to n t k r h g =
    ap (λ (o : Option TypeId). pointer_choice c begin at a b o k) h
    ∙ then-is (new_pointer begin to)
    (λ (made : Pointing). by_known (λ (s : State). pure (AsValue (typed.PointerConditional c at (into_choice s.table at made.type a) (into_choice s.table at made.type b) made.node made.type)))) (pointing n t) k r
    (Gives (AsValue (typed.PointerConditional c at (into_choice r.table at t a) (into_choice r.table at t b) n t)) r) g refl

-- pointers that meet are no two integers, and no two that have no value
pub met-by : (T : Table) (n m : Bool) (x y : TypeShape) (to : TypeId) → meeting_type (meeting_of T n m x y) ≡ Some to
    → ((integer_of_shape x ≡ None) ⊎ (integer_of_shape y ≡ None)) × ((is_void_shape x && is_void_shape y) ≡ false)
met-by T n m (Pointer a t) y to h = (inl refl, refl)
met-by T n m x (Pointer a t) to h = (inr refl, and_off (is_void_shape x))
  where
    and_off : (b : Bool) → (b && false) ≡ false
    and_off true = refl
    and_off false = refl
met-by T true true x y to h = absurd (none-some to h)
met-by T true false x y to h = absurd (none-some to h)
met-by T false true x y to h = absurd (none-some to h)
met-by T false false x y to h = absurd (none-some to h)

-- of two places of one struct type the other is a struct too
aggregate_by : (f : TypeId → TypeId → Bool) (x y : TypeShape) → same_shape f x y ≡ true → is_aggregate_shape x ≡ true → is_aggregate_shape y ≡ true
aggregate_by f (Struct a) (Struct b) h g = refl
aggregate_by f (Union a) (Union b) h g = refl
aggregate_by f (Struct a) y h g = no_true h
aggregate_by f (Union a) y h g = no_true h
aggregate_by f Void y h g = no_true g
aggregate_by f (Integer a s) y h g = no_true g
aggregate_by f (Pointer n t) y h g = no_true g
aggregate_by f (Array t n) y h g = no_true g
aggregate_by f (Function ps r) y h g = no_true g

pub one-aggregate : (T : Table) (p q : TypedPlace) → AreOneStruct T p q → IsAggregate T (place_type q)
unfolding is_same_type
one-aggregate T p q h = aggregate_by (descend (same_step T) (λ v. false) (length T)) (shape_at T (place_type p)) (shape_at T (place_type q)) h.same h.aggregate
