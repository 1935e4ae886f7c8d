-- Forms of expressions that may be values or places, and what type names stand in: each has one typed tree where its parts have one.
use Rattle.std.proofs.Common.{◌≡◌, ℕ, true, false, List, refl, ap, sym, subst, ◌∙◌}
use Rattle.std.proofs.lemmas.Option.{none-some}
use Rattle.cc_base.specs.declared.place.Place.{Place}
use Rattle.cc_base.specs.declared.number.TypeId.{TypeId}
use Rattle.c_types.specs.declared.shape.TypeShape.TheVariants.{Pointer, Function}
use Rattle.c_types.specs.Layouts.{size_of}
use Rattle.c_types.specs.Table.{Table, IsAggregate, entry_at, is_aggregate_shape, shape_at}
use Rattle.integers.specs.Arithmetic.{unsigned_long}
use Rattle.c_tree.specs.declared.operator.Assignment.{Assignment}
use Rattle.c_tree.specs.declared.operator.Assignment.TheVariants as assignment
use Rattle.c_tree.specs.declared.operator.Step.{Step}
use Rattle.c_tree.specs.declared.operator.Step.TheVariants as step
use Rattle.c_tree.specs.declared.operator.Unary.{Unary}
use Rattle.c_tree.specs.declared.operator.Unary.TheVariants as unary
use Rattle.c_tree.specs.Tree as tree
use Rattle.c_tree.specs.TypedTree as typed
use Rattle.c_tree.specs.TypedTree.{TypedExpr, TypedPlace, TypedTypeName}
use Rattle.c_tree.specs.TypedParts.{type_of, place_type, named_type}
use Rattle.c_typing.specs.Conversions.{bare, is_plain, IsPlain, is_taken_over}
use Rattle.c_typing.specs.Rules.{IsPrefix, IsSize, IsDroppable, IsFunctionAt, IsTarget, is_compound, is_designator, is_made_of_place, pointer_behind}
use Rattle.c_typing.specs.Scopes.{Scopes, is_complete_at, is_complete_shape_at}
use Rattle.c_typing.specs.Shapes.{is_scalar_shape}
use Rattle.c_types.specs.Table.{is_complete_entry}
use Rattle.c_typing_unique.specs.Sameness.{HasOwnFunctions}
use Rattle.c_typing_unique.proofs.ExprSteps.{AreOne, IsStep, IsNameUnique, values-by}
use Rattle.c_typing_unique.proofs.Numbering.{Point, HasOwn, node-same, scopes-of, node-of}
use Rattle.c_typing_unique.proofs.OperatorLaws.{bare-plain, plain-same, prefix-one, prefix-plain}
use Rattle.c_typing_unique.proofs.Reading.{IsRead, IsReadPlace, IsUnique, Part, OfValue, OfPlace, alike-same, place-one, plain-one, plain-over, value-one}
use Rattle.c_typing_unique.proofs.Readings.{IsAddressed, of-place, of-element, of-function, IsPointed, to-function, to-object, IsSized, of-object, of-value, IsChosen, between-values, between-structs, IsAssigning, of-scalar, of-struct, updating, IsSequence, with-value, with-struct}
use Rattle.c_typing_unique.proofs.Shapes.{IsDistinct, no_true, two-sorts, scalar-no-aggregate, shape-one, some-same, pointee-same, integer-type-one}
use Rattle.c_typing_unique.proofs.ValueLaws.{alike-plain, assigned-one, cast-one, choice-one, choice-plain, droppable-bare, droppable-over, update-one, update-plain}

-- a function that is named is a value of its own
designator_value : (e : TypedExpr) → is_designator e ≡ true → (bare e ≡ e) × (is_taken_over e ≡ false) × (is_made_of_place e ≡ false)
designator_value (typed.FunctionName name number n t) h = (refl, refl, refl)
designator_value (typed.FunctionAt at e) h = (refl, refl, refl)
designator_value (typed.Paren at e) h = let inner = designator_value e h in (refl, inner.1, refl)
designator_value e h = no_true h

function_incomplete : (T : Table) (s : Scopes) (t : TypeId) (ps : List TypeId) (r : TypeId) → shape_at T t ≡ Function ps r → is_complete_at T s t ≡ false
function_incomplete T s t ps r h = (λ i. is_complete_shape_at s (is_complete_entry (h i) (entry_at T t).members) (h i))

module _ (T : Table) (D : IsDistinct T) where
  -- `&`

  address_step : (x : tree.Expr) (at : Place) → IsUnique T x → (y z : Part) (a b d : Point) → IsAddressed T x at a b y → IsAddressed T x at a d z → HasOwn a → AreOne y z b d
  address_step x at u _ _ a b d (of-place p n t h g) (of-place q m v k j) own =
      let one = place-one T x u p q a h.0 a k.0 h.1 k.1 refl own in
      let place = one.0 in
      let node = node-same n m h.0.node k.0.node (node-of h.0 k.0 one.1) h.3 k.3 in
      let type = shape-one T D t v (Pointer n (place_type p)) (Pointer m (place_type q)) (λ i. Pointer (node i) (place_type (place i))) g.type j.type in (
        alike-same (typed.AddressOf at p n t) (typed.AddressOf at q m v) (λ i. typed.AddressOf at (place i) (node i) (type i)),
        sym h.2 ∙ scopes-of h.0 k.0 one.1 ∙ k.2,
        subst HasOwnFunctions h.2 one.2,
      )
  address_step x at u _ _ a b d (of-element p t h g) (of-element q v k j) own =
      let one = place-one T x u p q a b a d h k refl own in
      let place = one.0 in
      let behind = some-same g.pointer j.pointer (sym g.behind ∙ ap pointer_behind place ∙ j.behind) in
      let type = sym g.type ∙ ap type_of behind ∙ j.type in
      (alike-same (typed.AddressOfElement at p t) (typed.AddressOfElement at q v) (λ i. typed.AddressOfElement at (place i) (type i)), scopes-of b d one.1, one.2)
  address_step x at u _ _ a b d (of-function e h g) (of-function f k j) own =
      let left = designator_value e g in
      let right = designator_value f j in
      let one = plain-one T D x u e f a b a d h k refl own (ap is_taken_over left.0 ∙ left.1) (ap is_taken_over right.0 ∙ right.1) in
      (alike-same (typed.AddressOfFunction at e) (typed.AddressOfFunction at f) (ap (typed.AddressOfFunction at) (sym left.0 ∙ one.0 ∙ right.0)), scopes-of b d one.1, one.2)
  address_step x at u _ _ a b d (of-place p n t h g) (of-element q v k j) own =
      let one = place-one T x u p q a h.0 a d h.1 k refl own in
      absurd (none-some j.pointer (sym g.own ∙ ap pointer_behind one.0 ∙ j.behind))
  address_step x at u _ _ a b d (of-element q v k j) (of-place p n t h g) own =
      let one = place-one T x u p q a h.0 a b h.1 k refl own in
      absurd (none-some j.pointer (sym g.own ∙ ap pointer_behind one.0 ∙ j.behind))
  address_step x at u _ _ a b d (of-place p n t h g) (of-function f k j) own = absurd (u (OfPlace p) (OfValue f) a h.0 a d h.1 ((designator_value f j).2, k) refl own).0
  address_step x at u _ _ a b d (of-function f k j) (of-place p n t h g) own = absurd (u (OfPlace p) (OfValue f) a h.0 a b h.1 ((designator_value f j).2, k) refl own).0
  address_step x at u _ _ a b d (of-element p t h g) (of-function f k j) own = absurd (u (OfPlace p) (OfValue f) a b a d h ((designator_value f j).2, k) refl own).0
  address_step x at u _ _ a b d (of-function f k j) (of-element p t h g) own = absurd (u (OfPlace p) (OfValue f) a d a b h ((designator_value f j).2, k) refl own).0

  -- `*`

  function_target : {P : Type 0} (s : Scopes) (e f : TypedExpr) (t : TypeId) → bare e ≡ bare f → IsFunctionAt T e → IsTarget T s f t → P
  function_target s e f t h g j =
      let value = plain-same e f g.pointer.plain j.pointer.plain h in
      let to = pointee-same T (type_of e) (type_of f) g.function t (ap type_of value) g.pointer.type j.pointer.type in
      no_true (sym (function_incomplete T s t g.parameters g.result (ap (shape_at T) (sym to) ∙ g.shape.1)) ∙ j.complete)

  pointed_step : (x : tree.Expr) (at : Place) → IsUnique T x → (y z : Part) (a b d : Point) → IsPointed T x at a b y → IsPointed T x at a d z → HasOwn a → AreOne y z b d
  pointed_step x at u _ _ a b d (to-function e h g) (to-function f k j) own =
      let one = plain-one T D x u e f a b a d h k refl own (plain-over (bare e) (bare-plain e g.pointer.plain)) (plain-over (bare f) (bare-plain f j.pointer.plain)) in
      let value = plain-same e f g.pointer.plain j.pointer.plain one.0 in
      (alike-same (typed.FunctionAt at e) (typed.FunctionAt at f) (ap (typed.FunctionAt at) value), scopes-of b d one.1, one.2)
  pointed_step x at u _ _ a b d (to-object e t h g) (to-object f v k j) own =
      let one = plain-one T D x u e f a b a d h k refl own (plain-over (bare e) (bare-plain e g.pointer.plain)) (plain-over (bare f) (bare-plain f j.pointer.plain)) in
      let value = plain-same e f g.pointer.plain j.pointer.plain one.0 in
      let type = pointee-same T (type_of e) (type_of f) t v (ap type_of value) g.pointer.type j.pointer.type in
      ((λ i. typed.Target at (value i) (type i)), scopes-of b d one.1, one.2)
  pointed_step x at u _ _ a b d (to-function e h g) (to-object f v k j) own =
      let one = plain-one T D x u e f a b a d h k refl own (plain-over (bare e) (bare-plain e g.pointer.plain)) (plain-over (bare f) (bare-plain f j.pointer.plain)) in
      function_target d.scopes e f v one.0 g j
  pointed_step x at u _ _ a b d (to-object f v k j) (to-function e h g) own =
      let one = plain-one T D x u e f a d a b h k refl own (plain-over (bare e) (bare-plain e g.pointer.plain)) (plain-over (bare f) (bare-plain f j.pointer.plain)) in
      function_target b.scopes e f v one.0 g j

  -- `sizeof`

  size_same : (s r : Scopes) (t u : TypeId) (n m : ℕ) (v w : TypeId) → t ≡ u → IsSize T s t n v → IsSize T r u m w → (n ≡ m) × (v ≡ w)
  size_same s r t u n m v w q h k = (h.given ∙ ap (size_of T) q ∙ sym k.given, integer-type-one T D unsigned_long unsigned_long v w refl h.type k.type)

  size_step : (x : tree.Expr) (at : Place) → IsUnique T x → (y z : Part) (a b d : Point) → IsSized T x at a b y → IsSized T x at a d z → HasOwn a → AreOne y z b d
  size_step x at u _ _ a b d (of-object p n t h g) (of-object q m v k j) own =
      let one = place-one T x u p q a b a d h k refl own in
      let place = one.0 in
      let same = size_same b.scopes d.scopes (place_type p) (place_type q) n m t v (ap place_type place) g j in
      let size = same.0 in
      let type = same.1 in
      (alike-same (typed.SizeOfPlace at p n t) (typed.SizeOfPlace at q m v) (λ i. typed.SizeOfPlace at (place i) (size i) (type i)), scopes-of b d one.1, one.2)
  size_step x at u _ _ a b d (of-value e n t h w g) (of-value f m v k r j) own =
      let one = plain-one T D x u e f a b a d h k refl own (plain-over (bare e) (bare-plain e w.plain)) (plain-over (bare f) (bare-plain f r.plain)) in
      let value = plain-same e f w.plain r.plain one.0 in
      let same = size_same b.scopes d.scopes (type_of e) (type_of f) n m t v (ap type_of value) g j in
      let size = same.0 in
      let type = same.1 in
      (alike-same (typed.SizeOfValue at e n t) (typed.SizeOfValue at f m v) (λ i. typed.SizeOfValue at (value i) (size i) (type i)), scopes-of b d one.1, one.2)
  size_step x at u _ _ a b d (of-object p n t h g) (of-value f m v k r j) own = absurd (u (OfPlace p) (OfValue f) a b a d h (r.value, k) refl own).0
  size_step x at u _ _ a b d (of-value f m v k r j) (of-object p n t h g) own = absurd (u (OfPlace p) (OfValue f) a d a b h (r.value, k) refl own).0

  -- Steps before and after, and the other operators of one operand

  stepped_one : (x : tree.Expr) → IsUnique T x → (made : TypedPlace → TypedExpr) (p q : TypedPlace) (y z : Part) (a b d : Point) → IsReadPlace T x p a b → IsReadPlace T x q a d
      → y ≡ OfValue (made p) → z ≡ OfValue (made q) → HasOwn a → AreOne y z b d
  stepped_one x u made p q y z a b d h k v w own =
      let one = place-one T x u p q a b a d h k refl own in
      (values-by (made p) (made q) y z v w (ap made one.0), scopes-of b d one.1, one.2)

  pub postfix-step : (x : tree.Expr) (operator : Step) (at : Place) → IsUnique T x → IsStep T (tree.Postfix x operator at)
  postfix-step x operator at u y z a b d h k own = stepped_one x u (λ p. typed.StepAfter p operator at) h.0 k.0 y z a b d h.1 k.1 h.2 k.2 own

  operator_one : (operator : Unary) (x : tree.Expr) (at : Place) → IsUnique T x → (e f : TypedExpr) (t v : TypeId) (y z : Part) (a b d : Point) → IsRead T x e a b → IsRead T x f a d
      → IsPrefix operator T at e t → IsPrefix operator T at f v → y ≡ OfValue (typed.Prefix operator at e t) → z ≡ OfValue (typed.Prefix operator at f v) → HasOwn a → AreOne y z b d
  operator_one operator x at u e f t v y z a b d h k g j w r own =
      let one = plain-one T D x u e f a b a d h k refl own (plain-over (bare e) (prefix-plain operator T at e t g)) (plain-over (bare f) (prefix-plain operator T at f v j)) in
      let same = prefix-one operator T D at e f t v one.0 g j in
      let value = same.0 in
      let type = same.1 in
      (values-by (typed.Prefix operator at e t) (typed.Prefix operator at f v) y z w r (λ i. typed.Prefix operator at (value i) (type i)), scopes-of b d one.1, one.2)

  pub prefix-step : (operator : Unary) (at : Place) (x : tree.Expr) → IsUnique T x → IsStep T (tree.Prefix operator at x)
  prefix-step unary.AddressOf at x u y z a b d h k own = address_step x at u y z a b d h k own
  prefix-step unary.Dereference at x u y z a b d h k own = pointed_step x at u y z a b d h k own
  prefix-step unary.SizeOf at x u y z a b d h k own = size_step x at u y z a b d h k own
  prefix-step unary.Increment at x u y z a b d h k own = stepped_one x u (typed.StepBefore step.Increment at) h.0 k.0 y z a b d h.1 k.1 h.2 k.2 own
  prefix-step unary.Decrement at x u y z a b d h k own = stepped_one x u (typed.StepBefore step.Decrement at) h.0 k.0 y z a b d h.1 k.1 h.2 k.2 own
  prefix-step unary.Plus at x u y z a b d h k own = operator_one unary.Plus x at u h.0 k.0 h.1 k.1 y z a b d h.2 k.2 h.3 k.3 h.4 k.4 own
  prefix-step unary.Minus at x u y z a b d h k own = operator_one unary.Minus x at u h.0 k.0 h.1 k.1 y z a b d h.2 k.2 h.3 k.3 h.4 k.4 own
  prefix-step unary.Complement at x u y z a b d h k own = operator_one unary.Complement x at u h.0 k.0 h.1 k.1 y z a b d h.2 k.2 h.3 k.3 h.4 k.4 own
  prefix-step unary.Not at x u y z a b d h k own = operator_one unary.Not x at u h.0 k.0 h.1 k.1 y z a b d h.2 k.2 h.3 k.3 h.4 k.4 own

  -- Type names

  pub size-of-type-step : (at paren : Place) (name : tree.TypeName) → IsNameUnique T name → IsStep T (tree.SizeOfType at paren name)
  size-of-type-step at paren name u y z a b d h k own =
      let one = u h.0 k.0 a b a d h.3 k.3 refl own in
      let type_name = one.0 in
      let same = size_same b.scopes d.scopes (named_type h.0) (named_type k.0) h.1 k.1 h.2 k.2 (ap named_type type_name) h.4 k.4 in
      let size = same.0 in
      let type = same.1 in (
        values-by (typed.SizeOfType at paren h.0 h.1 h.2) (typed.SizeOfType at paren k.0 k.1 k.2) y z h.5 k.5 (λ i. typed.SizeOfType at paren (type_name i) (size i) (type i)),
        scopes-of b d one.1,
        one.2,
      )

  pub cast-step : (at : Place) (name : tree.TypeName) (x : tree.Expr) → IsNameUnique T name → IsUnique T x → IsStep T (tree.Cast at name x)
  cast-step at name x u v y z a b d h k own =
      let first = u h.1 k.1 a h.3.0 a k.3.0 h.3.1 k.3.1 refl own in
      let second = value-one T D x v h.2 k.2 h.3.0 b k.3.0 d h.3.2 k.3.2 first.1 first.2 in
      let to = first.0 in
      let same = cast-one T b.scopes d.scopes h.0 k.0 (named_type h.1) (named_type k.1) h.2 k.2 second.1 (ap named_type to) second.0 h.4 k.4 in
      let which = same.0 in
      let value = same.1 in
      (values-by (typed.Cast h.0 at h.1 h.2) (typed.Cast k.0 at k.1 k.2) y z h.5 k.5 (λ i. typed.Cast (which i) at (to i) (value i)), second.1, second.2)

  -- A struct or union is no plain value

  struct_value : {P : Type 0} (x : tree.Expr) → IsUnique T x → (e : TypedExpr) (p : TypedPlace) (a b c d : Point) → IsRead T x e a b → IsReadPlace T x p c d → a ≡ c → HasOwn a
      → IsPlain (bare e) → IsAggregate T (place_type p) → P
  struct_value x u e p a b c d h k q own plain aggregate =
      let one = value-one T D x u e (typed.Unread p) a b c d h (k.0, (k.1, aggregate), k.2) q own in
      let same = alike-plain (bare e) (typed.Unread p) one.0 (plain-over (bare e) plain) refl in
      no_true (sym (ap is_plain same) ∙ plain)

  -- `?:`

  choice_values : (x : tree.Expr) (at : Place) (x' x'' : tree.Expr) → IsUnique T x → IsUnique T x' → IsUnique T x'' → (y z : Part) (a b d : Point)
      → IsChosen T x at x' x'' a b y → IsChosen T x at x' x'' a d z → HasOwn a → AreOne y z b d
  choice_values x at x' x'' u v w _ _ a b d (between-values c e f y m h q r) (between-values g k l z n j s t) own =
      let p = choice-plain T c at e f m.node b.node y r in
      let p' = choice-plain T g at k l n.node d.node z t in
      let one = plain-one T D x u c g a h.0 a j.0 h.1 j.1 refl own (plain-over (bare c) (bare-plain c p.0)) (plain-over (bare g) (bare-plain g p'.0)) in
      let two = plain-one T D x' v e k h.0 h.2.0 j.0 j.2.0 h.2.1 j.2.1 one.1 one.2 (plain-over (bare e) p.1) (plain-over (bare k) p'.1) in
      let three = plain-one T D x'' w f l h.2.0 m j.2.0 n h.2.2 j.2.2 two.1 two.2 (plain-over (bare f) p.2) (plain-over (bare l) p'.2) in
      let condition = plain-same c g p.0 p'.0 one.0 in (
        alike-same y z (choice-one T D at c g e f k l m.node b.node n.node d.node y z condition two.0 three.0 (node-of m n three.1) r t),
        sym q ∙ scopes-of m n three.1 ∙ s,
        subst HasOwnFunctions q three.2,
      )
  choice_values x at x' x'' u v w _ _ a b d (between-structs c p q h r s) (between-structs g k l j t e) own =
      let one = plain-one T D x u c g a h.0 a j.0 h.1 j.1 refl own (plain-over (bare c) (bare-plain c r.plain)) (plain-over (bare g) (bare-plain g t.plain)) in
      let two = place-one T x' v p k h.0 h.2.0 j.0 j.2.0 h.2.1 j.2.1 one.1 one.2 in
      let three = place-one T x'' w q l h.2.0 b j.2.0 d h.2.2 j.2.2 two.1 two.2 in
      let condition = plain-same c g r.plain t.plain one.0 in
      let first = two.0 in
      let second = three.0 in
      ((λ i. typed.StructConditional (condition i) at (first i) (second i)), scopes-of b d three.1, three.2)
  choice_values x at x' x'' u v w _ _ a b d (between-values c e f y m h q r) (between-structs g k l j t s) own =
      let p = choice-plain T c at e f m.node b.node y r in
      let one = plain-one T D x u c g a h.0 a j.0 h.1 j.1 refl own (plain-over (bare c) (bare-plain c p.0)) (plain-over (bare g) (bare-plain g t.plain)) in
      struct_value x' v e k h.0 h.2.0 j.0 j.2.0 h.2.1 j.2.1 one.1 one.2 p.1 s.aggregate
  choice_values x at x' x'' u v w _ _ a b d (between-structs g k l j t s) (between-values c e f y m h q r) own =
      let p = choice-plain T c at e f m.node d.node y r in
      let one = plain-one T D x u c g a h.0 a j.0 h.1 j.1 refl own (plain-over (bare c) (bare-plain c p.0)) (plain-over (bare g) (bare-plain g t.plain)) in
      struct_value x' v e k h.0 h.2.0 j.0 j.2.0 h.2.1 j.2.1 one.1 one.2 p.1 s.aggregate

  pub conditional-step : (x : tree.Expr) (at : Place) (x' x'' : tree.Expr) → IsUnique T x → IsUnique T x' → IsUnique T x'' → IsStep T (tree.Conditional x at x' x'')
  conditional-step x at x' x'' u v w y z a b d h k own = choice_values x at x' x'' u v w y z a b d h k own

  -- Assignments

  scalar_struct : {P : Type 0} (p q : TypedPlace) → p ≡ q → is_scalar_shape (shape_at T (place_type p)) ≡ true → is_aggregate_shape (shape_at T (place_type q)) ≡ true → P
  scalar_struct p q e h k = two-sorts is_scalar_shape is_aggregate_shape scalar-no-aggregate (shape_at T (place_type p)) (shape_at T (place_type q)) (ap (λ (o : TypedPlace). shape_at T (place_type o)) e) h k

  no_compound : {P : Type 0} (operator : Assignment) → operator ≡ assignment.Assign → is_compound operator ≡ true → P
  no_compound operator h k = no_true (sym (ap is_compound h) ∙ k)

  assigning_one : (operator : Assignment) (x : tree.Expr) (at : Place) (x' : tree.Expr) → IsUnique T x → IsUnique T x' → (y z : Part) (a b d : Point)
      → IsAssigning T operator x at x' a b y → IsAssigning T operator x at x' a d z → HasOwn a → AreOne y z b d
  assigning_one operator x at x' u v _ _ a b d (of-scalar p e o h g) (of-scalar q f r k j) own =
      let one = place-one T x u p q a h.0 a k.0 h.1 k.1 refl own in
      let two = value-one T D x' v e f h.0 b k.0 d h.2 k.2 one.1 one.2 in
      let place = one.0 in
      let value = assigned-one T b.scopes d.scopes at (place_type p) (place_type q) e f two.1 (ap place_type place) two.0 g.assigned j.assigned in
      (alike-same (typed.Assign p at e) (typed.Assign q at f) (λ i. typed.Assign (place i) at (value i)), two.1, two.2)
  assigning_one operator x at x' u v _ _ a b d (of-struct p e o h g) (of-struct q f r k j) own =
      let one = place-one T x u p q a h.0 a k.0 h.1 k.1 refl own in
      let two = place-one T x' v e f h.0 b k.0 d h.2 k.2 one.1 one.2 in
      let place = one.0 in
      let value = two.0 in
      ((λ i. typed.StructAssign (place i) at (value i)), scopes-of b d two.1, two.2)
  assigning_one operator x at x' u v _ _ a b d (updating p e t h g) (updating q f w k j) own =
      let one = place-one T x u p q a h.0 a k.0 h.1 k.1 refl own in
      let two = plain-one T D x' v e f h.0 b k.0 d h.2 k.2 one.1 one.2 (plain-over (bare e) (update-plain T b.scopes operator at p e t g)) (plain-over (bare f) (update-plain T d.scopes operator at q f w j)) in
      let place = one.0 in
      let same = update-one T D b.scopes d.scopes operator at p q e f t w place two.0 g j in
      let value = same.0 in
      let type = same.1 in
      (alike-same (typed.AssignWith operator p at e t) (typed.AssignWith operator q at f w) (λ i. typed.AssignWith operator (place i) at (value i) (type i)), scopes-of b d two.1, two.2)
  assigning_one operator x at x' u v _ _ a b d (of-scalar p e o h g) (of-struct q f r k j) own =
      scalar_struct p q (place-one T x u p q a h.0 a k.0 h.1 k.1 refl own).0 g.scalar j.types.aggregate
  assigning_one operator x at x' u v _ _ a b d (of-struct q f r k j) (of-scalar p e o h g) own =
      scalar_struct p q (place-one T x u p q a h.0 a k.0 h.1 k.1 refl own).0 g.scalar j.types.aggregate
  assigning_one operator x at x' u v _ _ a b d (of-scalar p e o h g) (updating q f w k j) own = no_compound operator o j.compound
  assigning_one operator x at x' u v _ _ a b d (updating q f w k j) (of-scalar p e o h g) own = no_compound operator o j.compound
  assigning_one operator x at x' u v _ _ a b d (of-struct p e o h g) (updating q f w k j) own = no_compound operator o j.compound
  assigning_one operator x at x' u v _ _ a b d (updating q f w k j) (of-struct p e o h g) own = no_compound operator o j.compound

  pub assign-step : (operator : Assignment) (x : tree.Expr) (at : Place) (x' : tree.Expr) → IsUnique T x → IsUnique T x' → IsStep T (tree.Assign operator x at x')
  assign-step operator x at x' u v y z a b d h k own = assigning_one operator x at x' u v y z a b d h k own

  -- `,`

  first_dropped : (x : tree.Expr) → IsUnique T x → (e f : TypedExpr) (a b d : Point) → IsRead T x e a b → IsRead T x f a d → HasOwn a → IsDroppable e → IsDroppable f
      → (e ≡ f) × (b ≡ d) × HasOwn b
  first_dropped x u e f a b d h k own g j =
      let one = plain-one T D x u e f a b a d h k refl own (ap is_taken_over (droppable-bare e g) ∙ droppable-over e g) (ap is_taken_over (droppable-bare f j) ∙ droppable-over f j) in
      (sym (droppable-bare e g) ∙ one.0 ∙ droppable-bare f j, one.1, one.2)

  sequence_one : (x x' : tree.Expr) → IsUnique T x → IsUnique T x' → (y z : Part) (a b d : Point) → IsSequence T x x' a b y → IsSequence T x x' a d z → HasOwn a → AreOne y z b d
  sequence_one x x' u v _ _ a b d (with-value e f h p q) (with-value g k j r s) own =
      let one = first_dropped x u e g a h.0 j.0 h.1 j.1 own p r in
      let two = plain-one T D x' v f k h.0 b j.0 d h.2 j.2 one.1 one.2 (plain-over (bare f) (bare-plain f q)) (plain-over (bare k) (bare-plain k s)) in
      let first = one.0 in
      let second = plain-same f k q s two.0 in
      (alike-same (typed.Comma e f) (typed.Comma g k) (λ i. typed.Comma (first i) (second i)), scopes-of b d two.1, two.2)
  sequence_one x x' u v _ _ a b d (with-struct e f h p q) (with-struct g k j r s) own =
      let one = first_dropped x u e g a h.0 j.0 h.1 j.1 own p r in
      let two = place-one T x' v f k h.0 b j.0 d h.2 j.2 one.1 one.2 in
      let first = one.0 in
      let second = two.0 in
      ((λ i. typed.StructComma (first i) (second i)), scopes-of b d two.1, two.2)
  sequence_one x x' u v _ _ a b d (with-value e f h p q) (with-struct g k j r s) own =
      let one = first_dropped x u e g a h.0 j.0 h.1 j.1 own p r in
      struct_value x' v f k h.0 b j.0 d h.2 j.2 one.1 one.2 (bare-plain f q) s
  sequence_one x x' u v _ _ a b d (with-struct g k j r s) (with-value e f h p q) own =
      let one = first_dropped x u e g a h.0 j.0 h.1 j.1 own p r in
      struct_value x' v f k h.0 d j.0 b h.2 j.2 one.1 one.2 (bare-plain f q) s

  pub comma-step : (x x' : tree.Expr) → IsUnique T x → IsUnique T x' → IsStep T (tree.Comma x x')
  comma-step x x' u v y z a b d h k own = sequence_one x x' u v y z a b d h k own
