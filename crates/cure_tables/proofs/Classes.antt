-- Function types of one class take and give as many words.
use Rattle.std.specs.Prelude.{sum_by, nat_le, if◌then◌else◌}
use Rattle.std.proofs.Common.{◌≡◌, ℕ, suc, ◌+◌, ◌<◌, ◌≤◌, true, ◌&&◌, List, [], ◌∷◌, length, map, slice_get, nat_lt, Some, refl, ap, sym, ◌∙◌, inl, inr, ◌⊎◌, true≢false, arith}
use Rattle.std.proofs.lemmas.Bool.Decides.{nat_tests}
use Rattle.std.proofs.lemmas.List.{get_or_past}
use Rattle.std.proofs.lemmas.List.Sums.{sum_by-cons}
use lib.Pointwise.{pointwise}
use Rattle.cc_base.specs.declared.number.TypeId.{TypeId}
use Rattle.cc_base.specs.declared.number.NodeId.{NodeId}
use Rattle.cc_base.specs.declared.kind.Kind.{Kind}
use Rattle.c_types.specs.declared.shape.TypeShape.{TypeShape}
use Rattle.c_types.specs.declared.shape.TypeShape.TheVariants.{Integer, Pointer, Function}
use Rattle.c_types.specs.Table.{Table, Entry, IsType, shape_at, void_entry, is_function, is_function_shape}
use Rattle.c_types.specs.Cells.{Relation, same_type}
use Rattle.c_types.specs.Equality.{Slot, slot_of, same_slot, makeup_of, same_makeup, made_alike, physically_equal}
use Rattle.c_types.specs.Flows.{pointer_of_shape, top, IsOfOneClass}
use Rattle.c_types.specs.Sound.{IsWellFormed}
use Rattle.c_types.proofs.Shapes.{first_true, second_true}
use Rattle.type_laws.proofs.Levels.{still}
use Rattle.phys_types.proofs.Classes.{function_tag}
use Rattle.phys_types.proofs.Reached.{slot_at}
use Rattle.sim_relation.specs.Ground.{word_number}
use Rattle.cil_form.specs.Shape.{parameters_limit}
use Rattle.cure_rules.specs.Known.{words_by}
use Rattle.cure_rules.specs.Functions.{words_at, bare, signature_by, signature_of}

by_cases : (a b : ℕ) → (a < b) ⊎ (b ≤ a)
by_cases a b = grind arith

-- a function type is in the table
pub function_typed : (table : Table) (t : TypeId) → is_function table t ≡ true → IsType table t
function_typed table t h = of (by_cases t.0 (length table))
  where
    of : (t.0 < length table) ⊎ (length table ≤ t.0) → IsType table t
    of (inl l) = l
    of (inr l) = absurd (true≢false (sym h ∙ ap (λ (e : Entry). is_function_shape e.shape) (get_or_past table t.0 void_entry l)))

module _ (kind : NodeId → Kind) (E : Relation) where
  -- types of one slot take as many words, where pointers have one kind
  words_alike : (p q : TypeId) (a b : TypeShape) → same_slot E (slot_of p a) (slot_of q b) ≡ true
      → ((n m : NodeId) (u v : TypeId) → a ≡ Pointer n u → b ≡ Pointer m v → kind n ≡ kind m) → words_by kind a ≡ words_by kind b
  words_alike p q (Integer b s) (Integer c r) h k = refl
  words_alike p q (Pointer n u) (Pointer m v) h k = ap word_number (k n m u v refl refl)
  words_alike p q (Integer b s) other h k = absurd (true≢false (sym h))
  words_alike p q (Pointer n u) other h k = absurd (true≢false (sym h))
  words_alike p q other (Integer b s) h k = absurd (true≢false (sym h))
  words_alike p q other (Pointer n u) h k = absurd (true≢false (sym h))
  words_alike p q a b h k = refl

  module _ (table : Table) where
    abbrev slots : List TypeId → List Slot
    slots ts = map (λ p. slot_of p (shape_at table p)) ts

    abbrev Kinds : List TypeId → List TypeId → Type 0
    Kinds ts us = (i : ℕ) (p q : TypeId) (n m : NodeId) (u v : TypeId) → slice_get ts i ≡ Some p → slice_get us i ≡ Some q
        → shape_at table p ≡ Pointer n u → shape_at table q ≡ Pointer m v → kind n ≡ kind m

    sums_alike : (ts us : List TypeId) → pointwise (same_slot E) (slots ts) (slots us) ≡ true → Kinds ts us
        → (length ts ≡ length us) × (sum_by (words_at table kind) ts ≡ sum_by (words_at table kind) us)
    sums_alike [] [] h k = (refl, refl)
    sums_alike [] (u ∷ us) h k = absurd (true≢false (sym h))
    sums_alike (t ∷ ts) [] h k = absurd (true≢false (sym h))
    sums_alike (t ∷ ts) (u ∷ us) h k =
        let r = sums_alike ts us (second_true (same_slot E (slot_of t (shape_at table t)) (slot_of u (shape_at table u))) _ h) (λ i p q n m v w a b c d. k (suc i) p q n m v w a b c d) in
        let w = words_alike t u (shape_at table t) (shape_at table u) (first_true (same_slot E (slot_of t (shape_at table t)) (slot_of u (shape_at table u))) _ h)
        (λ n m v w a b. k 0 t u n m v w refl refl a b) in (
          ap suc r.0,
          sum_by-cons (words_at table kind) t ts ∙ (λ i. w i + r.1 i) ∙ sym (sum_by-cons (words_at table kind) u us),
        )

module _ (table : Table) (w : IsWellFormed table) (kind : NodeId → Kind) where
  module _ (t u : TypeId) (ps qs : List TypeId) (r s : TypeId) (a : shape_at table t ≡ Function ps r) (b : shape_at table u ≡ Function qs s) (one : IsOfOneClass table kind t u) where
    is_function_at : (x : TypeId) (ts : List TypeId) (v : TypeId) → shape_at table x ≡ Function ts v → is_function table x ≡ true
    is_function_at x ts v e = ap is_function_shape e

    alike_slots : pointwise (same_slot (physically_equal table)) (map (λ p. slot_of p (shape_at table p)) (r ∷ ps)) (map (λ p. slot_of p (shape_at table p)) (s ∷ qs)) ≡ true
    alike_slots =
        let l = function_typed table t (is_function_at t ps r a) in
        let m = function_typed table u (is_function_at u qs s b) in
        let x : nat_lt t.0 (length table) ≡ true = grind (arith, nat_tests) in
        let y : nat_lt u.0 (length table) ≡ true = grind (arith, nat_tests) in
        sym (ap (λ E. E t u) (still table w) ∙ (λ i. if x i && y i then made_alike table (physically_equal table) t u else same_type t u)
        ∙ (λ i. same_makeup (physically_equal table) (makeup_of table (physically_equal table) t (a i)) (makeup_of table (physically_equal table) u (b i))))
        ∙ one.equal

    kinds_at : (i : ℕ) (p q : TypeId) (n m : NodeId) (x y : TypeId) → slice_get (r ∷ ps) i ≡ Some p → slice_get (s ∷ qs) i ≡ Some q
        → shape_at table p ≡ Pointer n x → shape_at table q ≡ Pointer m y → kind n ≡ kind m
    kinds_at i p q n m x y e f g h =
        let c = slot_at table t ps r i (record { node = n; to = x }) a (p, e, ap pointer_of_shape g) in
        let d = slot_at table u qs s i (record { node = m; to = y }) b (q, f, ap pointer_of_shape h) in
        one.kinds (record { node = n; to = x }) (record { node = m; to = y }) (top (record { node = n; to = x }) (record { node = m; to = y }) (i, c, d))

    parameters_alike : (length ps ≡ length qs) × (sum_by (words_at table kind) ps ≡ sum_by (words_at table kind) qs)
    parameters_alike =
        sums_alike kind (physically_equal table) table ps qs
        (second_true (same_slot (physically_equal table) (slot_of r (shape_at table r)) (slot_of s (shape_at table s))) _ alike_slots)
        (λ i p q n m x y e f g h. kinds_at (suc i) p q n m x y e f g h)

    results_alike : words_at table kind r ≡ words_at table kind s
    results_alike =
        words_alike kind (physically_equal table) r s (shape_at table r) (shape_at table s)
        (first_true (same_slot (physically_equal table) (slot_of r (shape_at table r)) (slot_of s (shape_at table s))) _ alike_slots)
        (λ n m x y e f. kinds_at 0 r s n m x y refl refl e f)

    signed : signature_of table kind t ≡ signature_of table kind u
    signed =
        ap (signature_by (words_at table kind)) a
        ∙ (λ i. if nat_le (parameters_alike.0 i) parameters_limit then record { params = parameters_alike.1 i; results = results_alike i } else bare)
        ∙ sym (ap (signature_by (words_at table kind)) b)

  pub class_signature : (t u : TypeId) → is_function table t ≡ true → is_function table u ≡ true → IsOfOneClass table kind t u → signature_of table kind t ≡ signature_of table kind u
  class_signature t u f g one =
      let a = function_tag table (shape_at table t) f in
      let b = function_tag table (shape_at table u) g in
      signed t u a.0 b.0 a.1 b.1 a.2 b.2 one
