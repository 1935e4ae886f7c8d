-- What is passed to a function of one class, or comes back from it: at each place the function's own type and that of the call take the same words.
use Rattle.std.proofs.Common.{◌≡◌, ⊎_elim, ℕ, suc, Bool, true, false, ◌&&◌, List, [], ◌∷◌, slice_get, Option, Some, None, refl, ap, sym, subst, ◌∙◌, arith}
use Rattle.std.specs.Prelude.{⊤, ◌==◌}
use Rattle.std.proofs.lemmas.Bool.Decides.{nat_tests}
use Rattle.cc_base.specs.declared.kind.Kind.{Kind}
use Rattle.cc_base.specs.declared.number.NodeId.{NodeId}
use Rattle.cc_base.specs.declared.number.TypeId.{TypeId}
use Rattle.c_types.specs.declared.shape.TypeShape.{TypeShape}
use Rattle.c_types.specs.declared.shape.TypeShape.TheVariants as shape
use Rattle.c_types.specs.Table.{shape_at}
use Rattle.c_types.specs.Equality.{physically_equal, slot_of, same_slot, same_bool}
use Rattle.c_types.specs.Flows.{HeldPointer, IsOfOneClass}
use Rattle.c_types.specs.Sound.{IsWellFormed}
use Rattle.type_laws.proofs.Pointers.{class_turned}
use Rattle.integers.specs.Arithmetic.{IntegerType}
use Rattle.src_mem.specs.Pointers.{Value, Integer, Address}
use Rattle.src_mem.specs.State as source
use Rattle.src_mem.specs.Outlines.{outlines_of}
use Rattle.facts_kept.proofs.Calls.{counterpart, passed}
use Rattle.cil_form.specs.Told.{IsAsked}
use Rattle.cil_form.specs.Typing.{HeldType, IntegerOf, PointerTo}
use Rattle.cil_facts.proofs.Slots.{AreSlotsOf, function-slots, pointer-in_function}
use Rattle.cured_code.specs.FlatState as flat
use Rattle.sim_relation.specs.Ground.{pointer_words}
use Rattle.sim_relation.specs.Points.{Form, Low}
use Rattle.cure_rules.specs.Known.{held_shape}
use Rattle.sim_laws.specs.Scenes.{Programs, setting_of}
use Rattle.sim_laws.specs.Points.{ground_of}
use Rattle.sim_laws.specs.Statements.{IsPassed, held_at}
use Rattle.sim_laws.specs.Calls.{AreArgumentsOf}

-- What two values are held as that are passed alike: the same integer, or two pointers.
abbrev AreAlike : Option HeldType → Option HeldType → Type 0
AreAlike None None = ⊤
AreAlike (Some (IntegerOf i)) (Some (IntegerOf j)) = i ≡ j
AreAlike (Some (PointerTo n u)) (Some (PointerTo m v)) = ⊤
AreAlike x y = ⊥

alike-turned : (x y : Option HeldType) → AreAlike x y → AreAlike y x
alike-turned None None h = tt
alike-turned (Some (IntegerOf i)) (Some (IntegerOf j)) h = sym h
alike-turned (Some (PointerTo n u)) (Some (PointerTo m v)) h = tt
alike-turned x y h = absurd h

alike-own : (s : TypeShape) → AreAlike (held_shape s) (held_shape s)
alike-own (shape.Integer bytes signed) = refl
alike-own (shape.Pointer n u) = tt
alike-own s = tt

both-are : (a b : Bool) → (a && b) ≡ true → (a ≡ true) × (b ≡ true)
both-are true true h = (refl, refl)
both-are true false h = absurd (cc (h))
both-are false b h = absurd (cc (h))

numbers-are : (m n : ℕ) → (m == n) ≡ true → m ≡ n
numbers-are m n h = grind (arith, nat_tests, h)

signs-are : (a b : Bool) → same_bool a b ≡ true → a ≡ b
signs-are true true h = refl
signs-are true false h = absurd (cc (h))
signs-are false true h = absurd (cc (h))
signs-are false false h = refl

slots-alike : (E : TypeId → TypeId → Bool) (x y : TypeId) (s r : TypeShape) → same_slot E (slot_of x s) (slot_of y r) ≡ true → AreAlike (held_shape s) (held_shape r)
slots-alike E x y (shape.Integer b g) (shape.Integer c h) e =
    let z = both-are (b == c) (same_bool g h) e in
    ap (λ (n : ℕ). record { bytes = n; signed = g }) (numbers-are b c z.0) ∙ ap (λ (q : Bool). record { bytes = c; signed = q }) (signs-are g h z.1)
slots-alike E x y (shape.Integer b g) r e = absurd (cc (e))
slots-alike E x y (shape.Pointer n a) (shape.Pointer m b) e = tt
slots-alike E x y (shape.Pointer n a) r e = absurd (cc (e))
slots-alike E x y s (shape.Integer c h) e = absurd (cc (e))
slots-alike E x y s (shape.Pointer m b) e = absurd (cc (e))
slots-alike E x y s r e = tt

module _ (p : Programs) (formed : IsWellFormed p.whole.table)
    (asked : (t : TypeId) (n : NodeId) (u : TypeId) → shape_at p.whole.table t ≡ shape.Pointer n u → IsAsked p.sites (PointerTo n u)) where
  -- Types t and u are those of functions of one class, and x and y stand at one place in them.
  module _ (t u : TypeId) (class : IsOfOneClass p.whole.table p.whole.kind t u) (own_parameters parameters : List TypeId) (own_result result : TypeId)
      (own : shape_at p.whole.table t ≡ shape.Function own_parameters own_result) (called : shape_at p.whole.table u ≡ shape.Function parameters result)
      (i : ℕ) (x y : TypeId) (there : slice_get (own_result ∷ own_parameters) i ≡ Some x) (other : slice_get (result ∷ parameters) i ≡ Some y)
      (depth : ℕ) (s : source.State) (c : flat.State) (form : Form) where
    kinds-same : (n m : NodeId) (a b : TypeId) → shape_at p.whole.table x ≡ shape.Pointer n a → shape_at p.whole.table y ≡ shape.Pointer m b
        → p.whole.kind n ≡ p.whole.kind m
    kinds-same n m a b e f =
        let q = counterpart (setting_of p) formed [] t u class i (record { node = m; to = b }) (pointer-in_function p.whole.table formed u parameters result i y m b called other f) in
        let r = pointer-in_function p.whole.table formed t own_parameters own_result i x n a own there e in
        let same : q.0 ≡ record { node = n; to = a } = (let k = q.1 in cc (k, r)) in
        ap (λ (z : HeldPointer). p.whole.kind z.node) (sym same) ∙ q.2

    handed-by : (h k : TypeShape) → shape_at p.whole.table x ≡ h → shape_at p.whole.table y ≡ k → AreAlike (held_shape h) (held_shape k) → (v : Value) (words : List ℕ)
        → IsPassed p depth s c form (held_shape k) v words → IsPassed p depth s c form (held_shape h) v words
    handed-by (shape.Integer b g) (shape.Integer e f) at to like v words is = subst (λ (j : IntegerType). IsPassed p depth s c form (Some (IntegerOf j)) v words) (sym like) is
    handed-by (shape.Integer b g) k at to like v words is = absurd like
    handed-by (shape.Pointer n a) (shape.Pointer m b) at to like (Integer z) words (held, stand) = absurd stand
    handed-by (shape.Pointer n a) (shape.Pointer m b) at to like (Address q) words (held, stand) = (
      record {
        held = record {
          value = passed (setting_of p) formed (outlines_of s.memory) t u class i (record { node = n; to = a }) (record { node = m; to = b })
              (pointer-in_function p.whole.table formed t own_parameters own_result i x n a own there at)
              (pointer-in_function p.whole.table formed u parameters result i y m b called other to) q held.held.value;
          reaches = held.held.reaches;
        };
        made = λ told. held.made (asked y m b to);
      },
      (stand.0 ∙ ap (λ (z : Kind). pointer_words (ground_of p s c) z q) (sym (kinds-same n m a b at to)), stand.1),
    )
    handed-by (shape.Pointer n a) k at to like v words is = absurd like
    handed-by h (shape.Integer e f) at to like v words is = absurd like
    handed-by h (shape.Pointer m b) at to like v words is = absurd like
    handed-by h k at to like v words is = is

    pub handed : AreAlike (held_at p.whole x) (held_at p.whole y) → (v : Value) (words : List ℕ)
        → IsPassed p depth s c form (held_at p.whole y) v words → IsPassed p depth s c form (held_at p.whole x) v words
    handed like v words is = handed-by (shape_at p.whole.table x) (shape_at p.whole.table y) refl refl like v words is

  -- Each type of the one list stands at a place of the other, where a value of the latter is passed as one of the former.
  handed-all : (depth : ℕ) (s : source.State) (c : flat.State) (xs ys : List TypeId)
      → ((i : ℕ) (x : TypeId) → slice_get xs i ≡ Some x → (y : TypeId) × (slice_get ys i ≡ Some y)
      × ((v : Value) (words : List ℕ) → IsPassed p depth s c Low (held_at p.whole y) v words → IsPassed p depth s c Low (held_at p.whole x) v words))
      → ((i : ℕ) (y : TypeId) → slice_get ys i ≡ Some y → (x : TypeId) × (slice_get xs i ≡ Some x))
      → (vs : List Value) (words : List ℕ) → AreArgumentsOf p depth s c ys vs words → AreArgumentsOf p depth s c xs vs words
  handed-all depth s c [] [] into back vs words are = are
  handed-all depth s c [] (y ∷ ys) into back vs words are = absurd (let x = back 0 y refl in let e = x.1 in cc (e))
  handed-all depth s c (x ∷ xs) [] into back vs words are = absurd (let y = into 0 x refl in let e = y.1 in cc (e))
  handed-all depth s c (x ∷ xs) (y ∷ ys) into back [] words are = absurd are
  handed-all depth s c (x ∷ xs) (y ∷ ys) into back (v ∷ vs) words (first, rest, is, passed_as, more) = (
    first,
    rest,
    is,
    (let z = into 0 x refl in let e : y ≡ z.0 = (let f = z.1 in cc (f)) in
        z.2 v first (subst (λ (a : TypeId). IsPassed p depth s c Low (held_at p.whole a) v first) e passed_as)),
    handed-all depth s c xs ys (λ i a e. into (suc i) a e) (λ i a e. back (suc i) a e) vs rest more,
  )

  -- Functions of one class: arguments of the call's type are arguments of the function, and what it gives is a result of the call's type.
  module _ (t u : TypeId) (class : IsOfOneClass p.whole.table p.whole.kind t u) (own_parameters parameters : List TypeId) (own_result result : TypeId)
      (own : shape_at p.whole.table t ≡ shape.Function own_parameters own_result) (called : shape_at p.whole.table u ≡ shape.Function parameters result) where
    -- what stands at a place of the function stands at that of the call
    place-of : (i : ℕ) (x : TypeId) → slice_get (own_result ∷ own_parameters) i ≡ Some x
        → (y : TypeId) × (slice_get (result ∷ parameters) i ≡ Some y) × AreAlike (held_at p.whole x) (held_at p.whole y)
    place-of i x e = of (function-slots p.whole.table formed t u parameters result called class.equal)
      where
        of : AreSlotsOf p.whole.table formed parameters result t
            → (y : TypeId) × (slice_get (result ∷ parameters) i ≡ Some y) × AreAlike (held_at p.whole x) (held_at p.whole y)
        of slots =
            let same : shape.Function slots.own_parameters slots.own_result ≡ shape.Function own_parameters own_result = sym slots.shape ∙ own in
            let ps : slots.own_parameters ≡ own_parameters = cc (same) in let r : slots.own_result ≡ own_result = cc (same) in
            let y = slots.each i x (ap (λ (xs : List TypeId). slice_get (slots.own_result ∷ xs) i) ps ∙ ap (λ (z : TypeId). slice_get (z ∷ own_parameters) i) r ∙ e) in (
              y.0,
              y.1,
              ⊎_elim (λ f. subst (λ (z : TypeId). AreAlike (held_at p.whole x) (held_at p.whole z)) f (alike-own (shape_at p.whole.table x)))
                  (λ f. slots-alike (physically_equal p.whole.table) x y.0 (shape_at p.whole.table x) (shape_at p.whole.table y.0) f) y.2,
            )

  module _ (t u : TypeId) (class : IsOfOneClass p.whole.table p.whole.kind t u) (own_parameters parameters : List TypeId) (own_result result : TypeId)
      (own : shape_at p.whole.table t ≡ shape.Function own_parameters own_result) (called : shape_at p.whole.table u ≡ shape.Function parameters result)
      (depth : ℕ) (s : source.State) (c : flat.State) where
    turned : IsOfOneClass p.whole.table p.whole.kind u t
    turned = class_turned p.whole.table p.whole.kind t u class

    pub arguments-handed : (vs : List Value) (words : List ℕ) → AreArgumentsOf p depth s c parameters vs words → AreArgumentsOf p depth s c own_parameters vs words
    arguments-handed vs words are = handed-all depth s c own_parameters parameters
        (λ i x e. let y = place-of t u class own_parameters parameters own_result result own called (suc i) x e in
        (y.0, y.1, handed t u class own_parameters parameters own_result result own called (suc i) x y.0 e y.1 depth s c Low y.2))
        (λ i y e. let x = place-of u t turned parameters own_parameters result own_result called own (suc i) y e in (x.0, x.1)) vs words are

    pub result-handed : (form : Form) (v : Value) (words : List ℕ) → IsPassed p depth s c form (held_at p.whole own_result) v words
        → IsPassed p depth s c form (held_at p.whole result) v words
    result-handed form v words is =
        let y = place-of u t turned parameters own_parameters result own_result called own 0 result refl in
        let e : own_result ≡ y.0 = (let f = y.1 in cc (f)) in
        handed u t turned parameters own_parameters result own_result called own 0 result own_result refl refl depth s c form
        (subst (λ (z : TypeId). AreAlike (held_at p.whole result) (held_at p.whole z)) (sym e) y.2) v words is
