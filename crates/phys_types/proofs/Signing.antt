-- Types that look alike have one form, and what they point to has one number each.
use Rattle.std.proofs.Common.{◌≡◌, ℕ, zero, suc, Bool, true, false, ◌&&◌, take, ◌⊎◌, inl, inr, List, [], ◌∷◌, ◌++◌, map, flat_map, ◌==◌, refl, ap, sym, ◌∙◌, true≢false}
use Rattle.std.proofs.lemmas.Bool.Decides.{Decides-eqb, eqb_tells}
use Rattle.std.proofs.lemmas.List.{map-append}
use Rattle.std.proofs.lemmas.List.Concat.{flat_map-cons}
use lib.Pointwise.{pointwise}
use Rattle.cc_base.specs.declared.number.TypeId.{TypeId}
use Rattle.c_types.specs.declared.shape.TypeShape.{TypeShape}
use Rattle.c_types.specs.declared.shape.TypeShape.TheVariants.{Void, Integer, Function, Array, Struct, Union}
use Rattle.c_types.specs.declared.shape.TypeShape.TheVariants as shape
use Rattle.c_types.specs.Table.{Table, shape_at, is_function_shape}
use Rattle.c_types.specs.Cells.{Relation, cells_at}
use Rattle.c_types.specs.Layouts.{size_of}
use Rattle.c_types.specs.Equality.{Slot, nothing, integer, pointer_to, other, same_slot, same_bool, makeup_of, makeup_at, same_makeup}
use Rattle.c_types.proofs.Shapes.{first_true, second_true}
use Rattle.type_laws.proofs.Relations.{same_id}
use Rattle.phys_types.specs.declared.spot.Item.{Item}
use Rattle.phys_types.specs.declared.spot.Item.TheVariants.{Pointer, Mixed, Incomplete}
use Rattle.phys_types.specs.declared.spot.Spot.{Spot}
use Rattle.phys_types.specs.Numbers.{same_number, same_item, same_spot, same_spots}
use Rattle.phys_types.specs.Spots.{cells_from, AreSpots}
use Rattle.phys_types.specs.Signatures.{mixed, mixed_all, item_form, spot_form, slot_form, bit, slot_in, form_of_shape, form_at, item_targets, slot_targets, targets_of_shape, targets_at}
use Rattle.phys_types.proofs.Makeups.{pointwise_map, bytes_of, spots_alike, lengths_apart}

never : {A : Type 0} → false ≡ true → A
never h = absurd (true≢false (sym h))

module _ {A : Type 0} (E : A → A → Bool) where
  pointwise_mixed : (f : A → ℕ) → ((x y : A) → E x y ≡ true → f x ≡ f y) → (a : ℕ) (xs ys : List A) → pointwise E xs ys ≡ true
      → mixed_all a f xs ≡ mixed_all a f ys
  pointwise_mixed f e a [] [] h = refl
  pointwise_mixed f e a [] (y ∷ ys) h = never h
  pointwise_mixed f e a (x ∷ xs) [] h = never h
  pointwise_mixed f e a (x ∷ xs) (y ∷ ys) h =
      ap (λ (k : ℕ). mixed_all (mixed a k) f xs) (e x y (first_true (E x y) _ h)) ∙ pointwise_mixed f e (mixed a (f y)) xs ys (second_true (E x y) _ h)

  pointwise_targets : (n : TypeId → ℕ) (f : A → List TypeId) → ((x y : A) → E x y ≡ true → map n (f x) ≡ map n (f y)) → (xs ys : List A) → pointwise E xs ys ≡ true
      → map n (flat_map f xs) ≡ map n (flat_map f ys)
  pointwise_targets n f e [] [] h = refl
  pointwise_targets n f e [] (y ∷ ys) h = never h
  pointwise_targets n f e (x ∷ xs) [] h = never h
  pointwise_targets n f e (x ∷ xs) (y ∷ ys) h =
      ap (map n) (flat_map-cons f x xs) ∙ map-append n (f x) (flat_map f xs)
      ∙ (λ i. e x y (first_true (E x y) _ h) i ++ pointwise_targets n f e xs ys (second_true (E x y) _ h) i)
      ∙ sym (map-append n (f y) (flat_map f ys)) ∙ ap (map n) (sym (flat_map-cons f y ys))

-- the first elements are the same where all are
pointwise_take : {A : Type 0} (E : A → A → Bool) (k : ℕ) (xs ys : List A) → pointwise E xs ys ≡ true → pointwise E (take k xs) (take k ys) ≡ true
pointwise_take E zero xs ys h = refl
pointwise_take E (suc k) [] [] h = refl
pointwise_take E (suc k) [] (y ∷ ys) h = never h
pointwise_take E (suc k) (x ∷ xs) [] h = never h
pointwise_take E (suc k) (x ∷ xs) (y ∷ ys) h = λ i. first_true (E x y) _ h i && pointwise_take E k xs ys (second_true (E x y) _ h) i

module _ (n : TypeId → ℕ) where
  one_number : (t u : TypeId) → same_number n t u ≡ true → map n (t ∷ []) ≡ map n (u ∷ [])
  one_number t u h = λ i. (Decides-eqb (n t) (n u)).0 h i ∷ []

  bools : (s r : Bool) → same_bool s r ≡ true → s ≡ r
  bools true true h = refl
  bools true false h = never h
  bools false true h = never h
  bools false false h = refl

  slot_forms : (x y : Slot) → same_slot (same_number n) x y ≡ true → slot_form x ≡ slot_form y
  slot_forms nothing nothing h = refl
  slot_forms nothing (integer b r) h = never h
  slot_forms nothing (pointer_to u) h = never h
  slot_forms nothing (other u) h = never h
  slot_forms (integer a s) nothing h = never h
  slot_forms (integer a s) (integer b r) h =
      λ i. mixed 2 (mixed ((Decides-eqb a b).0 (first_true (a == b) _ h) i) (bit (bools s r (second_true (a == b) _ h) i)))
  slot_forms (integer a s) (pointer_to u) h = never h
  slot_forms (integer a s) (other u) h = never h
  slot_forms (pointer_to t) nothing h = never h
  slot_forms (pointer_to t) (integer b r) h = never h
  slot_forms (pointer_to t) (pointer_to u) h = refl
  slot_forms (pointer_to t) (other u) h = never h
  slot_forms (other t) nothing h = never h
  slot_forms (other t) (integer b r) h = never h
  slot_forms (other t) (pointer_to u) h = never h
  slot_forms (other t) (other u) h = refl

  slots_targets : (x y : Slot) → same_slot (same_number n) x y ≡ true → map n (slot_targets x) ≡ map n (slot_targets y)
  slots_targets nothing nothing h = refl
  slots_targets nothing (integer b r) h = never h
  slots_targets nothing (pointer_to u) h = never h
  slots_targets nothing (other u) h = never h
  slots_targets (integer a s) nothing h = never h
  slots_targets (integer a s) (integer b r) h = refl
  slots_targets (integer a s) (pointer_to u) h = never h
  slots_targets (integer a s) (other u) h = never h
  slots_targets (pointer_to t) nothing h = never h
  slots_targets (pointer_to t) (integer b r) h = never h
  slots_targets (pointer_to t) (pointer_to u) h = one_number t u h
  slots_targets (pointer_to t) (other u) h = never h
  slots_targets (other t) nothing h = never h
  slots_targets (other t) (integer b r) h = never h
  slots_targets (other t) (pointer_to u) h = never h
  slots_targets (other t) (other u) h = one_number t u h

  item_forms : (x y : Item) → same_item n x y ≡ true → item_form x ≡ item_form y
  item_forms (Pointer a t) (Pointer b u) h = refl
  item_forms (Pointer a t) (Mixed u m) h = never h
  item_forms (Pointer a t) (Incomplete u) h = never h
  item_forms (Mixed t k) (Pointer b u) h = never h
  item_forms (Mixed t k) (Mixed u m) h = ap (λ (j : ℕ). mixed 2 j) (same_id t u h)
  item_forms (Mixed t k) (Incomplete u) h = never h
  item_forms (Incomplete t) (Pointer b u) h = never h
  item_forms (Incomplete t) (Mixed u m) h = never h
  item_forms (Incomplete t) (Incomplete u) h = ap (λ (j : ℕ). mixed 3 j) (same_id t u h)

  items_targets : (x y : Item) → same_item n x y ≡ true → map n (item_targets x) ≡ map n (item_targets y)
  items_targets (Pointer a t) (Pointer b u) h = one_number t u h
  items_targets (Pointer a t) (Mixed u m) h = never h
  items_targets (Pointer a t) (Incomplete u) h = never h
  items_targets (Mixed t k) (Pointer b u) h = never h
  items_targets (Mixed t k) (Mixed u m) h = refl
  items_targets (Mixed t k) (Incomplete u) h = never h
  items_targets (Incomplete t) (Pointer b u) h = never h
  items_targets (Incomplete t) (Mixed u m) h = never h
  items_targets (Incomplete t) (Incomplete u) h = refl

  spot_forms : (x y : Spot) → same_spot n x y ≡ true → spot_form x ≡ spot_form y
  spot_forms x y h =
      λ i. mixed ((Decides-eqb x.start y.start).0 (first_true (x.start == y.start) _ h) i) (item_forms x.item y.item (second_true (x.start == y.start) _ h) i)

  spots_targets : (x y : Spot) → same_spot n x y ≡ true → map n (item_targets x.item) ≡ map n (item_targets y.item)
  spots_targets x y h = items_targets x.item y.item (second_true (x.start == y.start) _ h)

-- ---- functions, and all other types

IsCode : TypeShape → Type 0
IsCode s = (ps : List TypeId) × (r : TypeId) × (s ≡ Function ps r)

IsData : TypeShape → Type 0
IsData s = (ps : List TypeId) (r : TypeId) → s ≡ Function ps r → ⊥

not_code : (s : TypeShape) → is_function_shape s ≡ false → IsData s
unfolding IsData
not_code s e ps r h = true≢false (sym (ap is_function_shape h) ∙ e)

which : (s : TypeShape) → IsCode s ⊎ IsData s
unfolding IsCode
which Void = inr (not_code Void refl)
which (Integer b s) = inr (not_code (Integer b s) refl)
which (shape.Pointer m v) = inr (not_code (shape.Pointer m v) refl)
which (Array e c) = inr (not_code (Array e c) refl)
which (Function ps r) = inl (ps, r, refl)
which (Struct g) = inr (not_code (Struct g) refl)
which (Union g) = inr (not_code (Union g) refl)

data_form : (table : Table) (n : ℕ) (ss : List Spot) (s : TypeShape) → IsData s → form_of_shape table s n ss ≡ mixed (mixed_all 2 spot_form ss) n
unfolding IsData
data_form table n ss Void d = refl
data_form table n ss (Integer b s) d = refl
data_form table n ss (shape.Pointer m v) d = refl
data_form table n ss (Array e c) d = refl
data_form table n ss (Function ps r) d = absurd (d ps r refl)
data_form table n ss (Struct g) d = refl
data_form table n ss (Union g) d = refl

data_targets : (table : Table) (ss : List Spot) (s : TypeShape) → IsData s → targets_of_shape table s ss ≡ flat_map (λ p. item_targets p.item) ss
unfolding IsData
data_targets table ss Void d = refl
data_targets table ss (Integer b s) d = refl
data_targets table ss (shape.Pointer m v) d = refl
data_targets table ss (Array e c) d = refl
data_targets table ss (Function ps r) d = absurd (d ps r refl)
data_targets table ss (Struct g) d = refl
data_targets table ss (Union g) d = refl

module _ (table : Table) (Z : Relation) (n : TypeId → ℕ) (t u : TypeId) (i j limit : ℕ) (xs ys : List Spot)
    (hs : AreSpots (size_of table) 0 xs i) (h : cells_from 0 xs i ≡ cells_at table Z t) (ks : AreSpots (size_of table) 0 ys j) (k : cells_from 0 ys j ≡ cells_at table Z u)
    (look : same_makeup (same_number n) (makeup_at table Z t) (makeup_at table Z u) ≡ true) where
  AreSigned : Type 0
  AreSigned = (form_at table t i (take limit xs) ≡ form_at table u j (take limit ys)) × (map n (targets_at table t (take limit xs)) ≡ map n (targets_at table u (take limit ys)))

  both_data : IsData (shape_at table t) → IsData (shape_at table u) → AreSigned
  unfolding AreSigned IsData
  both_data d e = elim (eqb_tells i j) [
    | inr m ↦ absurd (true≢false (sym (lengths_apart table Z n t u i j xs ys d e hs h ks k m.1 ∙ look)))
    | inl m ↦
        let s = pointwise_take (same_spot n) limit xs ys (spots_alike table Z n t u i j xs ys d e hs h ks k (same_spots n xs ys) m.1 refl ∙ look) in (
          data_form table i (take limit xs) (shape_at table t) d
              ∙ (λ l. mixed (pointwise_mixed (same_spot n) spot_form (spot_forms n) 2 (take limit xs) (take limit ys) s l) (m.1 l))
              ∙ sym (data_form table j (take limit ys) (shape_at table u) e),
          ap (map n) (data_targets table (take limit xs) (shape_at table t) d)
              ∙ pointwise_targets (same_spot n) n (λ p. item_targets p.item) (spots_targets n) (take limit xs) (take limit ys) s
              ∙ ap (map n) (sym (data_targets table (take limit ys) (shape_at table u) e)),
        )
  ]

  abbrev same : TypeId → TypeId → Bool
  same p q = same_slot (same_number n) (slot_in table p) (slot_in table q)

  both_code : (ps qs : List TypeId) (r s : TypeId) → shape_at table t ≡ Function ps r → shape_at table u ≡ Function qs s → AreSigned
  unfolding AreSigned
  both_code ps qs r s d e =
      let l : pointwise (same_slot (same_number n)) (map (slot_in table) (r ∷ ps)) (map (slot_in table) (s ∷ qs)) ≡ true =
      sym (λ i. same_makeup (same_number n) (makeup_of table Z t (d i)) (makeup_of table Z u (e i))) ∙ look in
      let m : pointwise same (r ∷ ps) (s ∷ qs) ≡ true = sym (pointwise_map (same_slot (same_number n)) (slot_in table) (r ∷ ps) (s ∷ qs)) ∙ l in (
        (λ l. form_of_shape table (d l) i (take limit xs))
            ∙ pointwise_mixed same (λ p. slot_form (slot_in table p)) (λ p q. slot_forms n (slot_in table p) (slot_in table q)) 1 (r ∷ ps) (s ∷ qs) m
            ∙ sym (λ l. form_of_shape table (e l) j (take limit ys)),
        (λ l. map n (targets_of_shape table (d l) (take limit xs)))
            ∙ pointwise_targets same n (λ p. slot_targets (slot_in table p)) (λ p q. slots_targets n (slot_in table p) (slot_in table q)) (r ∷ ps) (s ∷ qs) m
            ∙ sym (λ l. map n (targets_of_shape table (e l) (take limit ys))),
      )

  pub signed : (form_at table t i (take limit xs) ≡ form_at table u j (take limit ys)) × (map n (targets_at table t (take limit xs)) ≡ map n (targets_at table u (take limit ys)))
  unfolding AreSigned IsCode IsData
  signed = by (which (shape_at table t)) (which (shape_at table u))
    where
      by : IsCode (shape_at table t) ⊎ IsData (shape_at table t) → IsCode (shape_at table u) ⊎ IsData (shape_at table u) → AreSigned
      by (inl a) (inl b) = both_code a.0 b.0 a.1 b.1 a.2 b.2
      by (inl a) (inr b) =
          absurd (true≢false (sym look ∙ (λ i. same_makeup (same_number n) (makeup_of table Z t (a.2 i)) (bytes_of table Z (same_number n) t u u (shape_at table u) b i))))
      by (inr a) (inl b) =
          absurd (true≢false (sym look ∙ (λ i. same_makeup (same_number n) (bytes_of table Z (same_number n) t u t (shape_at table t) a i) (makeup_of table Z u (b.2 i)))))
      by (inr a) (inr b) = both_data a b
