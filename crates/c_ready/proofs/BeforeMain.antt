-- What runs before `main` calls nothing and names no variable of a call.
use Rattle.std.specs.List.{Contains}
use Rattle.std.proofs.Common.{◌≡◌, ◌⊎◌, ℕ, ℤ, Bool, true, false, List, Option, Some, None, refl, inl, inr, ◌&&◌, if◌then◌else◌}
use Rattle.cc_base.specs.declared.number.NodeId.{NodeId}
use Rattle.cc_base.specs.declared.number.TypeId.{TypeId}
use Rattle.integers.specs.Arithmetic.{IntegerType, converted, computed}
use Rattle.c_tree.specs.Arithmetic.{operator_of}
use Rattle.c_tree.specs.declared.leaf.Identifier.{Identifier}
use Rattle.c_tree.specs.declared.typed_word.Side.TheVariants as side
use Rattle.c_tree.specs.TypedTree as typed
use Rattle.c_tree.specs.TypedTree.{TypedExpr, TypedPlace, TypedInitialiser, TypedItems}
use Rattle.c_tree.specs.TypedParts.{type_of, named_type}
use Rattle.c_tree.specs.declared.typed_word.Conversion.{Conversion}
use Rattle.c_typing.specs.Shapes.{integer_at}
use Rattle.c_typing.specs.Constants.{constant_value, with_type, with_value, converted_value, is_to_integer, cannot_divide, logical, is_true, alone}
use Rattle.c_unit_typing.specs.Initialisers.{is_constant, is_constant_place, is_constant_array, is_constant_initialiser, are_constant_items, is_among, is_integer_constant, is_integer_value, is_division, has_value, is_char_array, is_only_text}
use Rattle.c_ready.proofs.Contexts.{before_main, IsReadyInitialiser, AreReadyItems, Context, IsObjectOf, IsFunctionNamed, IsReady, IsReadyPlace}
use Rattle.c_ready.proofs.Basics.{no_true}

-- What is constant calls nothing and names no variable of a call

module _ (k : Context) (runs : k.runs ≡ true) (homes : List NodeId)
    (apart : (h : NodeId) → is_among homes h ≡ true → (t : TypeId) → Contains k.variables (h, t) → ⊥) where
  and-left : (a b : Bool) → (a && b) ≡ true → a ≡ true
  and-left true b h = refl
  and-left false b h = h

  and-right : (a b : Bool) → (a && b) ≡ true → b ≡ true
  and-right true b h = h
  and-right false b h = no_true h

  either-holds : (d a b : Bool) → (if d then a else b) ≡ true → (a ≡ true) ⊎ (b ≡ true)
  either-holds true a b h = inl h
  either-holds false a b h = inr h

  object-before : (h : NodeId) (t : TypeId) → is_among homes h ≡ true → IsObjectOf k.runs k h t → IsObjectOf k.runs (before_main k) h t
  object-before h t g o = by k.runs o
    where
      by : (b : Bool) → IsObjectOf b k h t → IsObjectOf b (before_main k) h t
      by false q = q
      by true q = (
        q.0,
        q.1,
        elim q.2 [
          | inl v ↦ absurd (apart h g t v)
          | inr r ↦ inr (record { first = r.first; made = r.made; alike = r.alike; declared = r.declared; begun = r.begun })
        ],
      )

  none-value : {A : Type 0} → has_value None ≡ true → A
  none-value h = no_true h

  with-type : (o : Option IntegerType) (f : IntegerType → Option ℤ) → has_value (with_type o f) ≡ true → (i : IntegerType) × (has_value (f i) ≡ true)
  with-type None f h = no_true h
  with-type (Some i) f h = (i, h)

  with-value : (o : Option ℤ) (f : ℤ → Option ℤ) → has_value (with_value o f) ≡ true → (has_value o ≡ true) × (z : ℤ) × (has_value (f z) ≡ true)
  with-value None f h = no_true h
  with-value (Some z) f h = (refl, z, h)

  converted-has : (which : Conversion) (t : TypeId) (o : Option ℤ) → has_value (converted_value k.table which t o) ≡ true → has_value o ≡ true
  converted-has which t o h = by (is_to_integer which) h
    where
      by : (b : Bool) → has_value (if b then with_type (integer_at k.table t) (λ i. with_value o (λ z. Some (converted i z))) else None) ≡ true
          → has_value o ≡ true
      by true g =
          let x = with-type (integer_at k.table t) (λ i. with_value o (λ z. Some (converted i z))) g in
          (with-value o (λ z. Some (converted x.0 z)) x.1).0
      by false g = no_true g

  constant-before : (e : TypedExpr) → is_integer_constant k.table e ≡ true → IsReady k e → IsReady (before_main k) e
  constant-before (typed.Integer of value at t) h r = r
  constant-before (typed.Character value at t) h r = r
  constant-before (typed.Enumerator name value t) h r = r
  constant-before (typed.Paren at e) h r = constant-before e h r
  constant-before (typed.Convert which at t e) h r = (constant-before e (converted-has which t (constant_value k.table e) h) r.0, r.1)
  constant-before (typed.Cast which at to e) h r =
      (r.0, constant-before e (converted-has which (named_type to) (constant_value k.table e) h) r.1, r.2)
  constant-before (typed.Prefix operator at e t) h r =
      let x = with-type (integer_at k.table (type_of e)) (λ i. with_value (constant_value k.table e) (λ z. Some (alone operator i z))) h in
      (constant-before e (with-value (constant_value k.table e) (λ z. Some (alone operator x.0 z)) x.1).0 r.0, r.1)
  constant-before (typed.SizeOfPlace at p size t) h r = r
  constant-before (typed.SizeOfValue at e size t) h r = r
  constant-before (typed.SizeOfType at paren name size t) h r = r
  constant-before (typed.Arithmetic operator a at b t) h r =
      let f = λ (i : IntegerType) (x y : ℤ). if cannot_divide (operator_of operator) i x y then None else Some
      (computed (operator_of operator) i x y) in
      let x = with-type (integer_at k.table (type_of a))
      (λ i. with_value (constant_value k.table a) (λ x. with_value (constant_value k.table b) (λ y. f i x y))) h in
      let y = with-value (constant_value k.table a) (λ z. with_value (constant_value k.table b) (λ y. f x.0 z y)) x.1 in
      let z = with-value (constant_value k.table b) (λ v. f x.0 y.1 v) y.2 in
      (constant-before a y.0 r.0, constant-before b z.0 r.1, r.2)
  constant-before (typed.Logical operator a at b t) h r =
      let y = with-value (constant_value k.table a) (λ x. with_value (constant_value k.table b) (λ y. Some (logical operator x y))) h in
      let z = with-value (constant_value k.table b) (λ v. Some (logical operator y.1 v)) y.2 in
      (constant-before a y.0 r.0, constant-before b z.0 r.1, r.2)
  constant-before (typed.Conditional c at a b t) h r =
      let x = with-value (constant_value k.table c)
      (λ z. with_value (constant_value k.table a) (λ x. with_value (constant_value k.table b) (λ y. Some (if is_true z then x else y)))) h in
      let y = with-value (constant_value k.table a) (λ v. with_value (constant_value k.table b) (λ y. Some (if is_true x.1 then v else y))) x.2 in
      let z = with-value (constant_value k.table b) (λ v. Some (if is_true x.1 then y.1 else v)) y.2 in
      (constant-before c x.0 r.0, constant-before a y.0 r.1, constant-before b z.0 r.2, r.3)
  constant-before e h r = no_true h

  mutual
    place-before : (p : TypedPlace) → is_constant_place k.table homes p ≡ true → IsReadyPlace k p → IsReadyPlace (before_main k) p
    place-before (typed.Variable name h t) g r = object-before h t g r
    place-before (typed.String pieces h t) g r = r
    place-before (typed.ParenPlace at p) g r = place-before p g r
    place-before (typed.Member p at name i n t) g r = (
      place-before p g r.0,
      record { complete = r.1.complete; aggregate = r.1.aggregate; there = r.1.there; type = r.1.type; part = r.1.part; node = r.1.node },
    )
    place-before (typed.Element side.Left a at b t) g r = (
      array-before a (and-left (is_constant_array k.table homes a) (is_integer_constant k.table b) g) r.0,
      constant-before b (and-right (is_constant_array k.table homes a) (is_integer_constant k.table b) g) r.1,
      r.2,
      r.3,
      r.4,
    )
    place-before (typed.Element side.Right a at b t) g r = (
      constant-before a (and-left (is_integer_constant k.table a) (is_constant_array k.table homes b) g) r.0,
      array-before b (and-right (is_integer_constant k.table a) (is_constant_array k.table homes b) g) r.1,
      r.2,
      r.3,
      r.4,
    )
    place-before p g r = no_true g

    array-before : (e : TypedExpr) → is_constant_array k.table homes e ≡ true → IsReady k e → IsReady (before_main k) e
    array-before (typed.Paren at e) g r = array-before e g r
    array-before (typed.Decay p n t) g r = (place-before p g r.0, r.1, r.2)
    array-before e g r = no_true g

  function-before : (name : Identifier) (number : ℕ) (n : NodeId) (t : TypeId) → IsFunctionNamed k name number n t
      → IsFunctionNamed (before_main k) name number n t
  function-before name number n t h = record {
    function =
        h.function;
    type = h.type;
    defined = h.defined;
    there = h.there;
    named = h.named;
    first = h.first;
    alike = h.alike;
    declared = h.declared;
  }

  pub value-before : (e : TypedExpr) → is_constant k.table homes e ≡ true → IsReady k e → IsReady (before_main k) e
  value-before (typed.FunctionName name number n t) g r = (r.0, function-before name number n t r.1)
  value-before (typed.FunctionAt at e) g r = (value-before e g r.0, r.1)
  value-before (typed.AddressOfFunction at e) g r = (value-before e g r.0, r.1)
  value-before (typed.Paren at e) g r = value-before e g r
  value-before (typed.Decay p n t) g r = (place-before p g r.0, r.1, r.2)
  value-before (typed.AddressOf at p n t) g r = (place-before p g r.0, r.1, r.2)
  value-before (typed.AddressOfElement at p t) g r = (place-before p g r.0, r.1)
  value-before (typed.Convert which at t e) g r = (value-before e g r.0, r.1)
  value-before (typed.Cast which at to e) g r = (r.0, value-before e g r.1, r.2)
  value-before (typed.Moved operator side.Left a at b t) g r = (
    value-before a (and-left (is_constant k.table homes a) (is_integer_constant k.table b) g) r.0,
    constant-before b (and-right (is_constant k.table homes a) (is_integer_constant k.table b) g) r.1,
    r.2,
    r.3,
    r.4,
    r.5,
  )
  value-before (typed.Moved operator side.Right a at b t) g r = (
    constant-before a (and-left (is_integer_constant k.table a) (is_constant k.table homes b) g) r.0,
    value-before b (and-right (is_integer_constant k.table a) (is_constant k.table homes b) g) r.1,
    r.2,
    r.3,
    r.4,
    r.5,
  )
  value-before (typed.Prefix operator at e t) g r = (value-before e (and-right (is_integer_value k.table e) (is_constant k.table homes e) g) r.0, r.1)
  value-before (typed.Arithmetic operator a at b t) g r =
      elim (either-holds (is_division operator) (is_integer_constant k.table (typed.Arithmetic operator a at b t))
      (is_constant k.table homes a && is_constant k.table homes b) g) [
        | inl w ↦ constant-before (typed.Arithmetic operator a at b t) w r
        | inr h ↦ (
          value-before a (and-left (is_constant k.table homes a) (is_constant k.table homes b) h) r.0,
          value-before b (and-right (is_constant k.table homes a) (is_constant k.table homes b) h) r.1,
          r.2,
        )
      ]
  value-before (typed.Logical operator a at b t) g r =
      let left = and-left (is_integer_value k.table a && is_constant k.table homes a) (is_integer_value k.table b && is_constant k.table homes b) g in
      let right = and-right (is_integer_value k.table a && is_constant k.table homes a) (is_integer_value k.table b && is_constant k.table homes b) g in (
        value-before a (and-right (is_integer_value k.table a) (is_constant k.table homes a) left) r.0,
        value-before b (and-right (is_integer_value k.table b) (is_constant k.table homes b) right) r.1,
        r.2,
      )
  value-before (typed.Conditional c at a b t) g r =
      let test = and-left (is_integer_value k.table c && is_constant k.table homes c) (is_constant k.table homes a && is_constant k.table homes b) g in
      let sides = and-right (is_integer_value k.table c && is_constant k.table homes c) (is_constant k.table homes a && is_constant k.table homes b) g in (
        value-before c (and-right (is_integer_value k.table c) (is_constant k.table homes c) test) r.0,
        value-before a (and-left (is_constant k.table homes a) (is_constant k.table homes b) sides) r.1,
        value-before b (and-right (is_constant k.table homes a) (is_constant k.table homes b) sides) r.2,
        r.3,
      )
  value-before e g r = constant-before e g r

  mutual
    pub initialiser-before : (t : TypeId) (i : TypedInitialiser) → is_constant_initialiser k.table homes i ≡ true → IsReadyInitialiser k t i
        → IsReadyInitialiser (before_main k) t i
    initialiser-before t (typed.Value e) g r = (value-before e g r.0, r.1)
    initialiser-before t (typed.Copied p at) g r = no_true g
    initialiser-before t (typed.Text pieces bytes) g r = r
    initialiser-before t (typed.Listed brace items comma u) g r = (r.0, items-before (is_only_text items && is_char_array k.table t) t items g r.1)

    pub items-before : (text : Bool) (t : TypeId) (all : TypedItems) → are_constant_items k.table homes all ≡ true → AreReadyItems k text t all
        → AreReadyItems (before_main k) text t all
    items-before text t typed.NoItem g r = tt
    items-before text t (typed.AndItem all offset u i) g r = (
      items-before text t all (and-left (are_constant_items k.table homes all) (is_constant_initialiser k.table homes i) g) r.0,
      initialiser-before u i (and-right (are_constant_items k.table homes all) (is_constant_initialiser k.table homes i) g) r.1,
      r.2,
      r.3,
    )
