-- Calls keep the facts, where the functions that are called do.
use Rattle.std.proofs.Common.{◌≡◌, ◌⊎◌, ◌∙◌, inl, inr, ℕ, zero, suc, ◌+◌, ◌<◌, Bool, true, false, ◌&&◌, List, [], ◌∷◌, length, Option, None, Some, slice_get, refl, ap, sym, subst, ⊎_elim, arith}
use Rattle.std.specs.Prelude.{◌==◌, IsSome}
use Rattle.std.specs.List.{Contains, range_with_len}
use Rattle.std.proofs.lemmas.Bool.Decides.{nat_tests}
use Rattle.std.proofs.lemmas.List.FromFn.{get_or-range_with_len, length-range_with_len}
use Rattle.std.proofs.lemmas.Option.{slice_get-get_or}
use Rattle.cc_base.specs.declared.place.Place.{Place}
use Rattle.cc_base.specs.declared.kind.Kind.{Kind}
use Rattle.cc_base.specs.declared.kind.Kind.TheVariants.{Safe, Seq, Rtti, Wild}
use Rattle.cc_base.specs.declared.number.NodeId.{NodeId}
use Rattle.cc_base.specs.declared.number.TypeId.{TypeId}
use Rattle.c_types.specs.declared.shape.TypeShape.{TypeShape}
use Rattle.c_types.specs.declared.shape.TypeShape.TheVariants as shape
use Rattle.kind_sites.specs.declared.site.Site.{Site}
use Rattle.kind_sites.specs.declared.site.Site.TheVariants as site
use Rattle.c_types.specs.Table.{shape_at, is_function, is_function_shape}
use Rattle.c_types.specs.Coverage.{of_one_class}
use Rattle.c_types.specs.Equality.{physically_equal, slot_of, same_slot, same_bool}
use Rattle.c_types.specs.Flows.{IsOfOneClass}
use Rattle.c_types.specs.Sound.{IsWellFormed}
use Rattle.type_laws.proofs.Pointers.{class_turned}
use Rattle.type_laws.proofs.Coverage.{one_class_is}
use Rattle.integers.specs.Arithmetic.{converted}
use Rattle.runs.specs.Input.{Input}
use Rattle.runs.specs.Outcome.{from}
use Rattle.src_mem.specs.Pointers.{Pointer, Null, Number, At, Function, Value, Integer, Address}
use Rattle.src_mem.specs.Memory.{Memory}
use Rattle.src_mem.specs.State.{Setting, Defined}
use Rattle.src_mem.specs.Checks.{Call, conditions_of, function_passes, all_checked}
use Rattle.src_mem.specs.Primitives.{called}
use Rattle.src_mem.specs.Operations.{node_of_shape, pointee_of_shape}
use Rattle.src_mem.specs.Values.{called_value}
use Rattle.src_mem.specs.Outlines.{outlines_of}
use Rattle.src_mem.specs.Facts.{IsHeldIn, IsValueOf, IsSafeAt}
use Rattle.src_mem.specs.Laws.{Gives, ReadsWhatIsThere}
use Rattle.src_mem.proofs.Outlines.{get-mapped}
use Rattle.facts_kept.specs.Kept.{AllHold, IsArgumentOf}
use Rattle.facts_kept.proofs.Calls.{passed}
use Rattle.facts_kept.proofs.Giving.{gives-checked, gives-more}
use Rattle.cil_form.specs.declared.number.Temp.{Temp}
use Rattle.cil_form.specs.declared.number.Temp.TheVariants as temp
use Rattle.cil_form.specs.declared.number.Object.TheVariants as object
use Rattle.cil_form.specs.declared.instr.Call.{Call as CallInstr}
use Rattle.cil_form.specs.declared.instr.Instr.TheVariants as instr
use Rattle.cil_form.specs.State.{Temporaries, Local, Around}
use Rattle.cil_form.specs.Typing.{HeldType, IntegerOf, PointerTo, Typing, Context, HoldsOf, held_shape, held_by, IsShaped}
use Rattle.cil_form.specs.Told.{IsAsked}
use Rattle.cil_form.specs.Meaning.{row_of, act}
use Rattle.cil_form.proofs.AskedLaws.{instr-asked}
use Rattle.cil_facts.specs.Held.{IsHeldAs, IsSolvedFor, AreFacts, AreFactsBehind, GoesOn}
use Rattle.cil_facts.specs.Calling.{AreArgumentsOf, AreArgumentsIn, IsResultOf, IsResultIn, HasReturned, CallsKeepTheFacts}
use Rattle.cil_facts.proofs.Conversions.{shape-in}
use Rattle.cil_facts.proofs.Later.{GivesLater, goes-later}
use Rattle.cil_facts.proofs.Slots.{AreSlotsOf, function-slots, pointer-in_function}

-- Lists of arguments

-- the values of a row
row-there : (temps : Temporaries) (first count i : ℕ) → i < count → slice_get (row_of temps first count) i ≡ Some (temps (temp.Value (first + i)))
row-there temps first count i h =
    get-mapped (λ n. temps (temp.Value n)) (range_with_len first count) i (first + i)
    (slice_get-get_or (range_with_len first count) i 0 (let l = length-range_with_len first count in omega (arith, l, h))
    ∙ ap Some (get_or-range_with_len first count i 0 h))

within : {A : Type 0} (xs : List A) (i : ℕ) (x : A) → slice_get xs i ≡ Some x → i < length xs
within [] i x e = absurd (cc (e))
within (y ∷ xs) zero x e = omega arith
within (y ∷ xs) (suc i) x e = let h = within xs i x e in omega (arith, h)

numbers-same : (m n : ℕ) → (m == n) ≡ true → m ≡ n
numbers-same m n h = grind (arith, nat_tests)

signs-same : (a b : Bool) → same_bool a b ≡ true → a ≡ b
signs-same true true h = refl
signs-same true false h = absurd (cc (h))
signs-same false true h = absurd (cc (h))
signs-same false false h = refl

left : (a b : Bool) → (a && b) ≡ true → a ≡ true
left true b h = refl
left false b h = absurd (cc (h))

right : (a b : Bool) → (a && b) ≡ true → b ≡ true
right true b h = h
right false b h = absurd (cc (h))

-- Values that pass between functions of one class: t is the function's own type, u the call's

module _ (w : Setting) (sound : IsWellFormed w.table) (sites : List Site) (memory : Memory) (depth : ℕ) (t u : TypeId)
    (class : IsOfOneClass w.table w.kind t u) (own_parameters parameters : List TypeId) (own_result result : TypeId)
    (own : shape_at w.table t ≡ shape.Function own_parameters own_result) (called : shape_at w.table u ≡ shape.Function parameters result)
    (i : ℕ) (x y : TypeId) (there : slice_get (own_result ∷ own_parameters) i ≡ Some x) (other : slice_get (result ∷ parameters) i ≡ Some y) where
  held-inside : (n m : NodeId) (a b : TypeId) (p : Pointer) → shape_at w.table x ≡ shape.Pointer n a → shape_at w.table y ≡ shape.Pointer m b
      → IsHeldIn w memory depth (w.kind m) b p → IsHeldIn w memory depth (w.kind n) a p
  held-inside n m a b p e f h = record {
    value = passed w sound (outlines_of memory) t u class i (record { node = n; to = a }) (record { node = m; to = b })
        (pointer-in_function w.table sound t own_parameters own_result i x n a own there e)
        (pointer-in_function w.table sound u parameters result i y m b called other f) p h.value;
    reaches = h.reaches;
  }

  held-outside : (n m : NodeId) (a b : TypeId) (p : Pointer) → shape_at w.table x ≡ shape.Pointer n a → shape_at w.table y ≡ shape.Pointer m b
      → IsHeldIn w memory depth (w.kind n) a p → IsHeldIn w memory depth (w.kind m) b p
  held-outside n m a b p e f h = record {
    value = passed w sound (outlines_of memory) u t (class_turned w.table w.kind t u class) i (record { node = m; to = b })
        (record { node = n; to = a })
        (pointer-in_function w.table sound u parameters result i y m b called other f)
        (pointer-in_function w.table sound t own_parameters own_result i x n a own there e) p h.value;
    reaches = h.reaches;
  }

  argument-by : (s r : TypeShape) → shape_at w.table x ≡ s → shape_at w.table y ≡ r
      → same_slot (physically_equal w.table) (slot_of x s) (slot_of y r) ≡ true
      → (v : Value) → IsArgumentOf w sites memory depth r v → IsArgumentOf w sites memory depth s v
  argument-by (shape.Integer b g) (shape.Integer c h) e f same (Integer z) is = tt
  argument-by (shape.Integer b g) (shape.Integer c h) e f same (Address p) is = absurd is
  argument-by (shape.Pointer n a) (shape.Pointer m b) e f same (Integer z) is = absurd is
  argument-by (shape.Pointer n a) (shape.Pointer m b) e f same (Address p) is = (held-inside n m a b p e f is.0, is.1)
  argument-by shape.Void (shape.Integer c h) e f same v is = absurd (cc (same))
  argument-by (shape.Pointer n a) (shape.Integer c h) e f same v is = absurd (cc (same))
  argument-by (shape.Array a n) (shape.Integer c h) e f same v is = absurd (cc (same))
  argument-by (shape.Function ps q) (shape.Integer c h) e f same v is = absurd (cc (same))
  argument-by (shape.Struct g) (shape.Integer c h) e f same v is = absurd (cc (same))
  argument-by (shape.Union g) (shape.Integer c h) e f same v is = absurd (cc (same))
  argument-by shape.Void (shape.Pointer m b) e f same v is = absurd (cc (same))
  argument-by (shape.Integer c h) (shape.Pointer m b) e f same v is = absurd (cc (same))
  argument-by (shape.Array a n) (shape.Pointer m b) e f same v is = absurd (cc (same))
  argument-by (shape.Function ps q) (shape.Pointer m b) e f same v is = absurd (cc (same))
  argument-by (shape.Struct g) (shape.Pointer m b) e f same v is = absurd (cc (same))
  argument-by (shape.Union g) (shape.Pointer m b) e f same v is = absurd (cc (same))
  argument-by s shape.Void e f same v is = absurd is
  argument-by s (shape.Array a n) e f same v is = absurd is
  argument-by s (shape.Function ps q) e f same v is = absurd is
  argument-by s (shape.Struct g) e f same v is = absurd is
  argument-by s (shape.Union g) e f same v is = absurd is

  result-by : (s r : TypeShape) → shape_at w.table x ≡ s → shape_at w.table y ≡ r
      → same_slot (physically_equal w.table) (slot_of x s) (slot_of y r) ≡ true
      → (v : Value) → IsResultOf w sites memory depth s v → IsResultOf w sites memory depth r v
  result-by shape.Void shape.Void e f same v is = tt
  result-by (shape.Integer b g) (shape.Integer c h) e f same (Integer z) is =
      let bytes = numbers-same b c (left (b == c) (same_bool g h) same) in
      let sign = signs-same g h (right (b == c) (same_bool g h) same) in
      subst (λ n. converted (record { bytes = n; signed = h }) z ≡ z) bytes (subst (λ q. converted (record { bytes = b; signed = q }) z ≡ z) sign is)
  result-by (shape.Integer b g) (shape.Integer c h) e f same (Address p) is = absurd is
  result-by (shape.Pointer n a) (shape.Pointer m b) e f same (Integer z) is = absurd is
  result-by (shape.Pointer n a) (shape.Pointer m b) e f same (Address p) is = (held-outside n m a b p e f is.0, is.1)
  result-by shape.Void (shape.Integer c h) e f same v is = absurd (cc (same))
  result-by shape.Void (shape.Pointer m b) e f same v is = absurd (cc (same))
  result-by shape.Void (shape.Array a n) e f same v is = absurd (cc (same))
  result-by shape.Void (shape.Function ps q) e f same v is = absurd (cc (same))
  result-by shape.Void (shape.Struct g) e f same v is = absurd (cc (same))
  result-by shape.Void (shape.Union g) e f same v is = absurd (cc (same))
  result-by (shape.Integer c h) shape.Void e f same v is = absurd (cc (same))
  result-by (shape.Integer c h) (shape.Pointer m b) e f same v is = absurd (cc (same))
  result-by (shape.Integer c h) (shape.Array a n) e f same v is = absurd (cc (same))
  result-by (shape.Integer c h) (shape.Function ps q) e f same v is = absurd (cc (same))
  result-by (shape.Integer c h) (shape.Struct g) e f same v is = absurd (cc (same))
  result-by (shape.Integer c h) (shape.Union g) e f same v is = absurd (cc (same))
  result-by (shape.Pointer n a) shape.Void e f same v is = absurd (cc (same))
  result-by (shape.Pointer n a) (shape.Integer c h) e f same v is = absurd (cc (same))
  result-by (shape.Pointer n a) (shape.Array b m) e f same v is = absurd (cc (same))
  result-by (shape.Pointer n a) (shape.Function ps q) e f same v is = absurd (cc (same))
  result-by (shape.Pointer n a) (shape.Struct g) e f same v is = absurd (cc (same))
  result-by (shape.Pointer n a) (shape.Union g) e f same v is = absurd (cc (same))
  result-by (shape.Array a n) r e f same v is = absurd is
  result-by (shape.Function ps q) r e f same v is = absurd is
  result-by (shape.Struct g) r e f same v is = absurd is
  result-by (shape.Union g) r e f same v is = absurd is

-- The function that is called

record Callee (w : Setting) (u : TypeId) (p : Pointer) : Type 0 where
  number : ℕ
  is : p ≡ Function number
  function : Defined
  found : slice_get w.functions number ≡ Some function
  class : IsOfOneClass w.table w.kind function.type u

callee : (w : Setting) (memory : Memory) (u : TypeId) (deeper : ℕ) (kind : Kind) (p : Pointer) → (kind ≡ Safe) ⊎ (kind ≡ Wild) → is_function w.table u ≡ true
    → IsValueOf w (outlines_of memory) kind u p → AllHold w memory (conditions_of (Call u deeper) kind p) → Callee w u p
callee w memory u deeper Safe Null which type value h = absurd (cc (h.0))
callee w memory u deeper Safe (Number n) which type value h = absurd value
callee w memory u deeper Safe (At l) which type value h = absurd (no-object value)
  where
    no-object : IsSafeAt w (outlines_of memory) u l → ⊥
    no-object v = absurd (cc (type, v.data_type))
callee w memory u deeper Safe (Function f) which type value h =
    record { number = f; is = refl; function = value.function; found = value.found; class = value.class }
callee w memory u deeper Wild Null which type value h = absurd (cc (h.0))
callee w memory u deeper Wild (Number n) which type value h = absurd (cc (h.0))
callee w memory u deeper Wild (At l) which type value h = absurd (cc (h.0))
callee w memory u deeper Wild (Function f) which type value h = by (slice_get w.functions f) refl h.0
  where
    by : (o : Option Defined) → slice_get w.functions f ≡ o → function_passes o (λ d. of_one_class w.table w.kind d.type u) ≡ true → Callee w u (Function f)
    by None e g = absurd (cc (g))
    by (Some d) e g =
        record { number = f; is = refl; function = d; found = e; class = (one_class_is w.table w.kind d.type u).0 g }
callee w memory u deeper Seq p (inl e) type value h = absurd (cc (e))
callee w memory u deeper Seq p (inr e) type value h = absurd (cc (e))
callee w memory u deeper Rtti p (inl e) type value h = absurd (cc (e))
callee w memory u deeper Rtti p (inr e) type value h = absurd (cc (e))

-- The instruction

module _ (k : Context) (a : Around) (solved : IsSolvedFor k a.setting) (types after : Typing) (c : Local) (facts : AreFacts k a types c) where
  -- an argument of a parameter of the call's type
  argument-held : (t : TypeId) (v : Temp) → HoldsOf k types v t
      → IsArgumentOf a.setting k.sites c.state.memory a.depth (shape_at a.setting.table t) (c.temps v)
  argument-held t v h = by (shape_at k.table t) refl (c.temps v) (λ x e. facts.held v x (h.2 ∙ e)) (λ x e. facts.asked v x (h.2 ∙ e)) h.0.1
    where
      by : (s : TypeShape) → shape_at k.table t ≡ s → (y : Value)
          → ((x : HeldType) → held_shape s ≡ Some x → IsHeldAs a.setting k.sites c.state.memory a.depth x y)
          → ((x : HeldType) → held_shape s ≡ Some x → IsAsked k.sites x)
          → IsSome (held_shape s)
          → IsArgumentOf a.setting k.sites c.state.memory a.depth (shape_at a.setting.table t) y
      by (shape.Integer b g) e (Integer z) held asked some =
          subst (λ s. IsArgumentOf a.setting k.sites c.state.memory a.depth s (Integer z)) (sym (shape-in k a solved t (shape.Integer b g) e)) tt
      by (shape.Integer b g) e (Address p) held asked some = absurd (held (IntegerOf (record { bytes = b; signed = g })) refl)
      by (shape.Pointer n u) e (Integer z) held asked some = absurd (held (PointerTo n u) refl)
      by (shape.Pointer n u) e (Address p) held asked some =
          let h = held (PointerTo n u) refl in
          subst (λ s. IsArgumentOf a.setting k.sites c.state.memory a.depth s (Address p)) (sym (shape-in k a solved t (shape.Pointer n u) e))
          (h.held, h.made (asked (PointerTo n u) refl))
      by shape.Void e y held asked some = absurd (cc (some))
      by (shape.Array element count) e y held asked some = absurd (cc (some))
      by (shape.Function ps r) e y held asked some = absurd (cc (some))
      by (shape.Struct tag) e y held asked some = absurd (cc (some))
      by (shape.Union tag) e y held asked some = absurd (cc (some))

  -- what a call gives is held
  result-held : (new : Memory) (t : TypeId) (s : TypeShape) → shape_at k.table t ≡ s → (v : Value)
      → IsResultOf a.setting k.sites new a.depth (shape_at a.setting.table t) v
      → (x : HeldType) → held_shape s ≡ Some x → IsHeldAs a.setting k.sites new a.depth x v
  result-held new t (shape.Integer b g) e v h x f =
      let it : IntegerOf (record { bytes = b; signed = g }) ≡ x = cc (f) in
      subst (λ y. IsHeldAs a.setting k.sites new a.depth y v) it
      (taken v (subst (λ s. IsResultOf a.setting k.sites new a.depth s v) (shape-in k a solved t (shape.Integer b g) e) h))
    where
      taken : (y : Value) → IsResultOf a.setting k.sites new a.depth (shape.Integer b g) y
          → IsHeldAs a.setting k.sites new a.depth (IntegerOf (record { bytes = b; signed = g })) y
      taken (Integer z) h = h
      taken (Address p) h = absurd h
  result-held new t (shape.Pointer n u) e v h x f =
      let it : PointerTo n u ≡ x = cc (f) in
      subst (λ y. IsHeldAs a.setting k.sites new a.depth y v) it
      (taken v (subst (λ s. IsResultOf a.setting k.sites new a.depth s v) (shape-in k a solved t (shape.Pointer n u) e) h))
    where
      taken : (y : Value) → IsResultOf a.setting k.sites new a.depth (shape.Pointer n u) y → IsHeldAs a.setting k.sites new a.depth (PointerTo n u) y
      taken (Integer z) h = absurd h
      taken (Address p) h = record { held = h.0; made = λ told. h.1 }
  result-held new t shape.Void e v h x f = absurd (cc (f))
  result-held new t (shape.Array element count) e v h x f = absurd (cc (f))
  result-held new t (shape.Function ps r) e v h x f = absurd (cc (f))
  result-held new t (shape.Struct tag) e v h x f = absurd (cc (f))
  result-held new t (shape.Union tag) e v h x f = absurd (cc (f))

  module _ (input : Input) (calls : CallsKeepTheFacts k a.setting input a.depth a.call) (reads : ReadsWhatIsThere input c.state) (at : Place) (node : NodeId) (u : TypeId)
      (parameters : List TypeId) (result : TypeId) (shaped : shape_at a.setting.table u ≡ shape.Function parameters result) (arguments : List Value)
      (given : AreArgumentsOf a.setting k.sites c.state.memory a.depth parameters arguments) where
    along : (x y : TypeId) → (P : TypeShape → Type 0) → x ≡ y → P (shape_at a.setting.table x) → P (shape_at a.setting.table y)
    along x y P e h = subst (λ z. P (shape_at a.setting.table z)) e h

    result-passed : (d : Defined) → IsOfOneClass a.setting.table a.setting.kind d.type u → (v : Value) (new : Memory)
        → IsResultIn a.setting k.sites new a.depth (shape_at a.setting.table d.type) v
        → IsResultOf a.setting k.sites new a.depth (shape_at a.setting.table result) v
    result-passed d class v new h =
        let slots = function-slots a.setting.table solved.well_formed d.type u parameters result shaped class.equal in
        let own = subst (λ s. IsResultIn a.setting k.sites new a.depth s v) slots.shape h in
        let y = slots.each 0 slots.own_result refl in
        let is : y.0 ≡ result = (let f = y.1 in cc (f)) in
        along y.0 result (λ s. IsResultOf a.setting k.sites new a.depth s v) is
        (⊎_elim (λ same. along slots.own_result y.0 (λ s. IsResultOf a.setting k.sites new a.depth s v) same own)
        (λ alike. result-by a.setting solved.well_formed k.sites new a.depth d.type u class slots.own_parameters parameters slots.own_result result
        slots.shape shaped 0 slots.own_result y.0 refl y.1 (shape_at a.setting.table slots.own_result) (shape_at a.setting.table y.0) refl refl alike v
        own) y.2)

    arguments-passed : (d : Defined) → IsOfOneClass a.setting.table a.setting.kind d.type u
        → AreArgumentsIn a.setting k.sites c.state.memory a.depth (shape_at a.setting.table d.type) arguments
    arguments-passed d class =
        let slots = function-slots a.setting.table solved.well_formed d.type u parameters result shaped class.equal in
        subst (λ s. AreArgumentsIn a.setting k.sites c.state.memory a.depth s arguments) (sym slots.shape)
        (record { each = λ i x e. one slots i x e })
      where
        one : (slots : AreSlotsOf a.setting.table solved.well_formed parameters result d.type) (i : ℕ) (x : TypeId)
            → slice_get slots.own_parameters i ≡ Some x
            → (v : Value) × (slice_get arguments i ≡ Some v)
            × IsArgumentOf a.setting k.sites c.state.memory a.depth (shape_at a.setting.table x) v
        one slots i x e =
            let y = slots.each (suc i) x e in
            let v = given.each i y.0 y.1 in (
              v.0,
              v.1,
              ⊎_elim
                  (λ same. along y.0 x (λ s. IsArgumentOf a.setting k.sites c.state.memory a.depth s v.0) (sym same) v.2)
                  (λ alike. argument-by a.setting solved.well_formed k.sites c.state.memory a.depth d.type u class slots.own_parameters parameters
                  slots.own_result result slots.shape shaped (suc i) x y.0 e y.1 (shape_at a.setting.table x) (shape_at a.setting.table y.0) refl refl
                  alike v.0 v.2) y.2,
            )

    call-given : (p : Pointer) → (a.setting.kind node ≡ Safe) ⊎ (a.setting.kind node ≡ Wild) → IsHeldIn a.setting c.state.memory a.depth (a.setting.kind node) u p
        → Gives
        (from (all_checked a.setting at (conditions_of (Call u (suc a.depth)) (a.setting.kind node) p) c.state)
        (λ x. called p (λ f. a.call f (suc a.depth) arguments))) (GivesLater k a c (held_by k result))
    call-given p which held =
        gives-checked a.setting (λ x. at) (conditions_of (Call u (suc a.depth)) (a.setting.kind node) p)
        (called p (λ f. a.call f (suc a.depth) arguments)) c.state (GivesLater k a c (held_by k result))
        (λ h. enters (callee a.setting c.state.memory u (suc a.depth) (a.setting.kind node) p which (ap is_function_shape shaped) held.value h))
      where
        enters : Callee a.setting u p → Gives (called p (λ f. a.call f (suc a.depth) arguments) c.state) (GivesLater k a c (held_by k result))
        enters d =
            subst (λ q. Gives (called q (λ f. a.call f (suc a.depth) arguments) c.state) (GivesLater k a c (held_by k result))) (sym d.is)
            (gives-more (HasReturned a.setting k.sites a.depth d.function.type c.state.memory) (GivesLater k a c (held_by k result))
            (a.call d.number (suc a.depth) arguments c.state)
            (calls.each d.number d.function arguments c.state d.found reads facts.memory
            (λ n home t o. facts.objects (object.Static n) home t o) (arguments-passed d.function d.class))
            (λ v r g. record {
              sound = g.sound;
              later = g.later;
              held = result-held r.memory result (shape_at k.table result) refl v (result-passed d.function d.class v r.memory g.value);
            }))

  call-held : (input : Input) (calls : CallsKeepTheFacts k a.setting input a.depth a.call) (reads : ReadsWhatIsThere input c.state) (at : Place) (t : TypeId)
      (node : NodeId) (u : TypeId) (parameters : List TypeId) (result : TypeId) → shape_at a.setting.table t ≡ shape.Pointer node u
      → shape_at a.setting.table u ≡ shape.Function parameters result → Contains k.sites (site.Pointee node u)
      → (arguments : List Value) → AreArgumentsOf a.setting k.sites c.state.memory a.depth parameters arguments
      → (v : Value) → IsHeldAs a.setting k.sites c.state.memory a.depth (PointerTo node u) v
      → Gives (called_value a.setting a.call a.depth at t v arguments c.state) (GivesLater k a c (held_by k result))
  call-held input calls reads at t node u parameters result e f told arguments given (Integer z) h = absurd h
  call-held input calls reads at t node u parameters result e f told arguments given (Address p) h =
      let own = solved.solution.each (site.Pointee node u) told in
      subst
      (λ s. Gives
      (from (all_checked a.setting at (conditions_of (Call (pointee_of_shape s) (suc a.depth)) (a.setting.kind (node_of_shape s)) p) c.state)
      (λ x. called p (λ f. a.call f (suc a.depth) arguments))) (GivesLater k a c (held_by k result))) (sym e)
      (call-given input calls reads at node u parameters result f arguments given p (own.function (ap is_function_shape f)) h.held)

  pub call-keeps : (i : CallInstr) (input : Input) → (IsSome k.result → CallsKeepTheFacts k a.setting input a.depth a.call)
      → ReadsWhatIsThere input c.state → IsShaped (instr.Call i) k types after → GoesOn (act (instr.Call i) a c) (AreFactsBehind k a after c)
  call-keeps i input calls reads s =
      goes-later k a types after c facts (instr-asked (instr.Call i) k types after solved.tells facts.asked s) i.into (held_by k s.3)
      (called_value a.setting a.call a.depth i.place i.ty (c.temps i.callee) (row_of c.temps i.first i.count) c.state) s.10
      (call-held input (calls s.7) reads i.place i.ty s.0 s.1 s.2 s.3 (shape-in k a solved i.ty (shape.Pointer s.0 s.1) s.4.1)
      (shape-in k a solved s.1 (shape.Function s.2 s.3) s.5) (facts.asked i.callee (PointerTo s.0 s.1) s.8.1) (row_of c.temps i.first i.count)
      (record {
        each = λ j t e. (
          c.temps (temp.Value (i.first + j)),
          row-there c.temps i.first i.count j (let m = within s.2 j t e in let n = s.6 in omega (arith, m, n)),
          argument-held t (temp.Value (i.first + j)) (s.9 j t e),
        );
      }) (c.temps i.callee) (facts.held i.callee (PointerTo s.0 s.1) s.8.1))
