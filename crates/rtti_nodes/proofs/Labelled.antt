-- Types of one class look the same, where types of one class have one number.
use Rattle.std.specs.Prelude.{IsTrue}
use Rattle.std.proofs.Common.{◌≡◌, ℕ, zero, suc, Bool, true, false, List, [], ◌∷◌, map, slice_get, Option, None, Some, ◌==◌, refl, ap, sym, subst, ◌∙◌, inl, inr, true≢false}
use Rattle.std.proofs.lemmas.Bool.Decides.{Decides-eqb, eqb_tells}
use lib.Pointwise.{pointwise}
use Rattle.cc_base.specs.declared.number.TypeId.{TypeId}
use Rattle.cc_base.specs.declared.number.NodeId.{NodeId}
use Rattle.cc_base.specs.declared.kind.Kind.{Kind}
use Rattle.c_types.specs.declared.shape.TypeShape.{TypeShape}
use Rattle.c_types.specs.declared.shape.TypeShape.TheVariants as shape
use Rattle.c_types.specs.Table.{Table, IsType, shape_at, is_function_shape, is_function}
use Rattle.c_types.specs.Equality.{physically_equal, same_slot, makeup_of, makeup_at, same_makeup}
use Rattle.c_types.specs.Flows.{HeldPointer, pointer_of_shape, and_then, pointer_in, pointer_at, IsOfOneClass}
use Rattle.c_types.specs.Sound.{IsWellFormed}
use Rattle.c_types.proofs.Shapes.{first_true, second_true}
use Rattle.type_laws.proofs.Relations.{equal_equiv}
use Rattle.type_laws.proofs.Pointers.{class_turned}
use Rattle.phys_types.specs.declared.spot.Item.{Item}
use Rattle.phys_types.specs.declared.spot.Item.TheVariants.{Pointer, Mixed, Incomplete}
use Rattle.phys_types.specs.declared.spot.Layout.{Layout}
use Rattle.phys_types.specs.Numbers.{number_in, same_number, same_item, same_spot, same_spots}
use Rattle.phys_types.specs.Refining.{IsWide}
use Rattle.phys_types.specs.Shown.{IsLayoutOf}
use Rattle.phys_types.specs.Signatures.{mixed, mixed_all, slot_in}
use Rattle.phys_types.specs.Standing.{pointer_of_item}
use Rattle.phys_types.proofs.Classes.{function_tag}
use Rattle.phys_types.proofs.LawLemmas.{number, numbered, facts_of_class}
use Rattle.phys_types.proofs.Makeups.{pointwise_map, same_size_alike, other_size_apart}
use Rattle.phys_types.proofs.Reached.{pointee_typed}
use Rattle.phys_types.proofs.Refined.{equal_types, equal_look}
use Rattle.phys_types.proofs.RoundLemmas.{number_equiv}
use Rattle.phys_types.proofs.Turns.{equal_begins, equal_function, alike_from_turns}
use Rattle.rtti_nodes.specs.Numbering.{kind_label, pointer_label, spot_label, slot_label, label_of_shape, label_at, AreCoarse}

never : {A : Type 0} → false ≡ true → A
never h = absurd (true≢false (sym h))

some_same : (p q : HeldPointer) → Some p ≡ Some q → p ≡ q
some_same p q h = cc

none_some : (p : HeldPointer) → None ≡ Some p → ⊥
none_some p h = cc

-- lists whose elements look the same, one by one
module _ {A : Type 0} (E : A → A → Bool) (f : A → ℕ) where
  lists_alike : (a : ℕ) (xs ys : List A) → pointwise E xs ys ≡ true
      → ((i : ℕ) (x y : A) → slice_get xs i ≡ Some x → slice_get ys i ≡ Some y → E x y ≡ true → f x ≡ f y) → mixed_all a f xs ≡ mixed_all a f ys
  lists_alike a [] [] h k = refl
  lists_alike a [] (y ∷ ys) h k = never h
  lists_alike a (x ∷ xs) [] h k = never h
  lists_alike a (x ∷ xs) (y ∷ ys) h k =
      ap (λ (m : ℕ). mixed_all (mixed a m) f xs) (k zero x y refl refl (first_true (E x y) _ h))
      ∙ lists_alike (mixed a (f y)) xs ys (second_true (E x y) _ h) (λ i. k (suc i))

data_shape : (s : TypeShape) → is_function_shape s ≡ false → (ps : List TypeId) (r : TypeId) → s ≡ shape.Function ps r → ⊥
data_shape s h ps r e = true≢false (sym (ap is_function_shape e) ∙ h)

pub data_label : (table : Table) (kind : NodeId → Kind) (n : TypeId → ℕ) (x : Layout) (s : TypeShape) → is_function_shape s ≡ false
    → label_of_shape table kind n s x ≡ mixed_all 0 (spot_label kind n) x.spots.items
data_label table kind n x shape.Void h = refl
data_label table kind n x (shape.Integer b s) h = refl
data_label table kind n x (shape.Pointer m v) h = refl
data_label table kind n x (shape.Array e c) h = refl
data_label table kind n x (shape.Function ps r) h = absurd (true≢false h)
data_label table kind n x (shape.Struct g) h = refl
data_label table kind n x (shape.Union g) h = refl

module _ (kind : NodeId → Kind) (n m : TypeId → ℕ) where
  items_alike : (x y : Item) → same_item m x y ≡ true
      → ((p q : HeldPointer) → pointer_of_item x ≡ Some p → pointer_of_item y ≡ Some q
      → mixed (kind_label (kind p.node)) (n p.to) ≡ mixed (kind_label (kind q.node)) (n q.to))
      → pointer_label kind n (pointer_of_item x) ≡ pointer_label kind n (pointer_of_item y)
  items_alike (Pointer a t) (Pointer b u) h k = k (record { node = a; to = t }) (record { node = b; to = u }) refl refl
  items_alike (Pointer a t) (Mixed u j) h k = never h
  items_alike (Pointer a t) (Incomplete u) h k = never h
  items_alike (Mixed t i) (Pointer b u) h k = never h
  items_alike (Mixed t i) (Mixed u j) h k = refl
  items_alike (Mixed t i) (Incomplete u) h k = never h
  items_alike (Incomplete t) (Pointer b u) h k = never h
  items_alike (Incomplete t) (Mixed u j) h k = never h
  items_alike (Incomplete t) (Incomplete u) h k = refl

module _ (table : Table) (w : IsWellFormed table) where
  wide_equal : IsWide table (physically_equal table)
  wide_equal = record { equal = λ t u h. h; equivalence = equal_equiv table }

  wide_number : IsWide table (same_number (number table w))
  wide_number = record { equal = told; equivalence = number_equiv (number table w) }
    where
      told : (t u : TypeId) → IsTrue (physically_equal table t u) → IsTrue (same_number (number table w) t u)
      told t u h = elim (equal_types table w t u h) [
        | inl a ↦ numbered table w t u a.0 a.1 ∙ h
        | inr e ↦ (Decides-eqb (number table w t) (number table w u)).1 (ap (number table w) e)
      ]

  -- physically equal types are made alike by numbers
  looks : (t u : TypeId) → physically_equal table t u ≡ true
      → same_makeup (same_number (number table w)) (makeup_at table (physically_equal table) t) (makeup_at table (physically_equal table) u) ≡ true
  looks t u h = equal_look table w (physically_equal table) (same_number (number table w)) wide_equal wide_number t u h

  equal_spots : (t u : TypeId) (x y : Layout) → is_function table t ≡ false → is_function table u ≡ false → IsLayoutOf table (physically_equal table) t x
      → IsLayoutOf table (physically_equal table) u y → physically_equal table t u ≡ true → same_spots (number table w) x.spots.items y.spots.items ≡ true
  equal_spots t u x y f g hx hy e =
      let d = data_shape (shape_at table t) f in
      let c = data_shape (shape_at table u) g in
      elim (eqb_tells x.size y.size) [
        | inl s ↦
            same_size_alike table (physically_equal table) (number table w) t u x y d c hx hy (same_spots (number table w) x.spots.items y.spots.items) s.1 refl ∙ looks t u e
        | inr s ↦ never (other_size_apart table (physically_equal table) (number table w) t u x y d c hx hy s.1 ∙ looks t u e)
      ]

  module _ (kind : NodeId → Kind) (numbers : List ℕ) (coarse : AreCoarse table kind numbers) (t u : TypeId) (a : IsType table t) (b : IsType table u)
      (c : IsOfOneClass table kind t u) where
    -- pointers at the same place look the same
    place_alike : (i : ℕ) (p q : HeldPointer) → pointer_at table t i ≡ Some p → pointer_at table u i ≡ Some q
        → mixed (kind_label (kind p.node)) (number_in numbers p.to) ≡ mixed (kind_label (kind q.node)) (number_in numbers q.to)
    place_alike i p q x y =
        let k = facts_of_class table kind t u i q w c y in
        let s : p ≡ k.0 = some_same p k.0 (sym x ∙ k.1) in
        let kinds : kind p.node ≡ kind q.node = ap (λ (z : HeldPointer). kind z.node) s ∙ k.2 in
        let one : IsOfOneClass table kind p.to q.to = subst (λ (z : HeldPointer). IsOfOneClass table kind z.to q.to) (sym s) k.3 in
        let same = coarse p.to q.to (pointee_typed table w t i p a x) (pointee_typed table w u i q b y) one in
        λ j. mixed (kind_label (kinds j)) (same j)

    places_alike : (i : ℕ) → pointer_label kind (number_in numbers) (pointer_at table t i) ≡ pointer_label kind (number_in numbers) (pointer_at table u i)
    places_alike i = by (pointer_at table t i) (pointer_at table u i) refl refl
      where
        by : (o r : Option HeldPointer) → pointer_at table t i ≡ o → pointer_at table u i ≡ r → pointer_label kind (number_in numbers) o ≡ pointer_label kind (number_in numbers) r
        by None None x y = refl
        by (Some p) (Some q) x y = place_alike i p q x y
        by None (Some q) x y = let k = facts_of_class table kind t u i q w c y in absurd (none_some k.0 (sym x ∙ k.1))
        by (Some p) None x y = let k = facts_of_class table kind u t i p w (class_turned table kind t u c) x in absurd (none_some k.0 (sym y ∙ k.1))

    data_alike : (x y : Layout) → is_function table t ≡ false → is_function table u ≡ false → IsLayoutOf table (physically_equal table) t x
        → IsLayoutOf table (physically_equal table) u y → label_at table kind (number_in numbers) t x ≡ label_at table kind (number_in numbers) u y
    data_alike x y f g hx hy =
        data_label table kind (number_in numbers) x (shape_at table t) f
        ∙ lists_alike (same_spot (number table w)) (spot_label kind (number_in numbers)) 0 x.spots.items y.spots.items (equal_spots t u x y f g hx hy c.equal)
        (λ i s r d e h. items_alike kind (number_in numbers) (number table w) s.item r.item (second_true (s.start == r.start) _ h)
        (λ p q k l.
        let z = alike_from_turns table w t u x y a b hx hy (equal_begins table w t u f c.equal) p q (i, (s, d, k), (r, e, l)) in
        place_alike z.0 p q z.1 z.2))
        ∙ sym (data_label table kind (number_in numbers) y (shape_at table u) g)

    abbrev same : TypeId → TypeId → Bool
    same p q = same_slot (same_number (number table w)) (slot_in table p) (slot_in table q)

    slot_told : (v : TypeId) (ps : List TypeId) (r : TypeId) (i : ℕ) (x : TypeId) → shape_at table v ≡ shape.Function ps r → slice_get (r ∷ ps) i ≡ Some x
        → pointer_at table v i ≡ pointer_of_shape (shape_at table x)
    slot_told v ps r i x e d = ap (λ s. pointer_in table v s i) e ∙ ap (λ o. and_then o (λ z. pointer_of_shape (shape_at table z))) d

    code_alike : (x y : Layout) (ps qs : List TypeId) (r s : TypeId) → shape_at table t ≡ shape.Function ps r → shape_at table u ≡ shape.Function qs s
        → label_at table kind (number_in numbers) t x ≡ label_at table kind (number_in numbers) u y
    code_alike x y ps qs r s d e =
        let z = physically_equal table in
        let m = number table w in
        let l : pointwise (same_slot (same_number m)) (map (slot_in table) (r ∷ ps)) (map (slot_in table) (s ∷ qs)) ≡ true =
        sym (λ i. same_makeup (same_number m) (makeup_of table z t (d i)) (makeup_of table z u (e i))) ∙ looks t u c.equal in
        let g : pointwise same (r ∷ ps) (s ∷ qs) ≡ true = sym (pointwise_map (same_slot (same_number m)) (slot_in table) (r ∷ ps) (s ∷ qs)) ∙ l in
        (λ i. label_of_shape table kind (number_in numbers) (d i) x)
        ∙ lists_alike same (slot_label table kind (number_in numbers)) 0 (r ∷ ps) (s ∷ qs) g
        (λ i v o f h k. ap (pointer_label kind (number_in numbers)) (sym (slot_told t ps r i v d f)) ∙ places_alike i
        ∙ ap (pointer_label kind (number_in numbers)) (slot_told u qs s i o e h))
        ∙ sym (λ i. label_of_shape table kind (number_in numbers) (e i) y)

    pub labels_alike : (x y : Layout) → IsLayoutOf table (physically_equal table) t x → IsLayoutOf table (physically_equal table) u y
        → label_at table kind (number_in numbers) t x ≡ label_at table kind (number_in numbers) u y
    labels_alike x y hx hy = by (is_function table t) (is_function table u) refl refl
      where
        by : (f g : Bool) → is_function table t ≡ f → is_function table u ≡ g → label_at table kind (number_in numbers) t x ≡ label_at table kind (number_in numbers) u y
        by false false f g = data_alike x y f g hx hy
        by true true f g =
            let d = function_tag table (shape_at table t) f in
            let e = function_tag table (shape_at table u) g in
            code_alike x y d.0 e.0 d.1 e.1 d.2 e.2
        by true false f g = absurd (true≢false (sym (equal_function table w t u c.equal f) ∙ g))
        by false true f g = absurd (true≢false (sym (equal_function table w u t ((equal_equiv table).symm u t ∙ c.equal) g) ∙ f))
