use Rattle.std.proofs.Common.{◌≡◌, ℕ, ◌+◌, ◌<◌, ◌≤◌, List, [], ◌∷◌, ◌++◌, length, get_or, take, map, max, refl, ap, sym, subst, ◌∙◌, inl, inr, arith}
use Rattle.std.proofs.lemmas.List.{take_all, take_more, get_or_default, map-append, length-map, length-append, length-take-le, get_or_append_left}
use Rattle.std.proofs.lemmas.Bool.{cases_lt}
use Rattle.std.proofs.Math.Seq.{get_or-append_seam}
use Rattle.cc_base.specs.declared.number.TypeId.{TypeId}
use Rattle.c_types.specs.declared.layout.Layout.{Layout}
use Rattle.c_types.specs.declared.kept.FieldPlace.{FieldPlace}
use Rattle.c_types.specs.declared.shape.TypeShape.{TypeShape}
use Rattle.std.proofs.Common.{Option, SomeIff}
use mathlib.Core.Path.{Path}
use Rattle.c_types.specs.declared.shape.TypeShape.TheVariants.{Void, Integer, Pointer, Array, Function, Struct, Union}
use Rattle.c_types.specs.Layouts.{rounded, members_end, greatest_align, greatest_size, struct_layout, layout_of, offset_of_shape}
use Rattle.c_types.specs.Table.{Table}
use Rattle.c_types.specs.Sound.{IsSized}
use Rattle.c_types.specs.Kept.{ArePlaces}
use Rattle.c_types.proofs.Lists.{fold_map_more}

-- The loops over the members of a struct or union.

pub rounded_near : (n a : ℕ) → 0 < a → rounded n a < n + a
rounded_near n a h = omega arith

-- what a layout's numbers are
pub fits_of : (table : Table) (t : TypeId) (l : Layout) → l ≡ layout_of table t → IsSized table t → (0 < l.size) × (l.size ≤ 1048576) × (0 < l.align) × (l.align ≤ 8)
fits_of table t l e s =
    let P : Layout → Type 0 = λ k. (0 < k.size) × (k.size ≤ 1048576) × (0 < k.align) × (k.align ≤ 8) in
    subst P (sym e) (s.some, s.most, s.aligned, s.narrow)

-- the first i members of a struct are laid out
pub record IsLaid (f : TypeId → Layout) (members : List TypeId) (i end align : ℕ) : Type 0 where
  pub end_is : end ≡ members_end (map f (take i members))
  pub align_is : align ≡ greatest_align (map f (take i members))
  pub small : end ≤ 1048576
  pub low : 0 < align
  pub high : align ≤ 8

-- the first i members of a union
pub record IsUnited (f : TypeId → Layout) (members : List TypeId) (i size align : ℕ) : Type 0 where
  pub size_is : size ≡ greatest_size (map f (take i members))
  pub align_is : align ≡ greatest_align (map f (take i members))
  pub small : size ≤ 1048576
  pub low : 0 < align
  pub high : align ≤ 8

-- the places of the first i members
pub record ArePlacesSoFar (f : TypeId → Layout) (shape : TypeShape) (members : List TypeId) (i : ℕ) (fields : List FieldPlace) : Type 0 where
  pub types : map (λ (p : FieldPlace). p.ty) fields ≡ take i members
  pub offsets : (k : ℕ) (d : FieldPlace) (e : TypeId) → k < length fields
      → (get_or fields k d).offset ≡ offset_of_shape shape (map f (take k members)) (f (get_or members k e))

module _ (f : TypeId → Layout) (members : List TypeId) where
  pub laid_start : IsLaid f members 0 0 1
  laid_start = record { end_is = refl; align_is = refl; small = omega arith; low = omega arith; high = omega arith }

  pub united_start : IsUnited f members 0 0 1
  united_start = record { size_is = refl; align_is = refl; small = omega arith; low = omega arith; high = omega arith }

  pub all_taken : (i : ℕ) → length members ≤ i → map f (take i members) ≡ map f members
  all_taken i h = ap (map f) (take_all i members h)

  pub end_more : (i end : ℕ) (d : TypeId) (l : Layout) → end ≡ members_end (map f (take i members)) → i < length members → l ≡ f (get_or members i d)
      → rounded end l.align + l.size ≡ members_end (map f (take (i + 1) members))
  end_more i end d l e h s =
      (λ j. rounded (e j) (s j).align + (s j).size) ∙ sym (fold_map_more (λ end m. rounded end m.align + m.size) 0 f members i d h)

  pub align_more : (i align : ℕ) (d : TypeId) (l : Layout) → align ≡ greatest_align (map f (take i members)) → i < length members → l ≡ f (get_or members i d)
      → max align l.align ≡ greatest_align (map f (take (i + 1) members))
  align_more i align d l e h s = (λ j. max (e j) (s j).align) ∙ sym (fold_map_more (λ a m. max a m.align) 1 f members i d h)

  size_more : (i size : ℕ) (d : TypeId) (l : Layout) → size ≡ greatest_size (map f (take i members)) → i < length members → l ≡ f (get_or members i d)
      → max size l.size ≡ greatest_size (map f (take (i + 1) members))
  size_more i size d l e h s = (λ j. max (e j) (s j).size) ∙ sym (fold_map_more (λ n m. max n m.size) 0 f members i d h)

  pub laid_more : (i end align : ℕ) (d : TypeId) (l : Layout) → IsLaid f members i end align → i < length members → l ≡ f (get_or members i d) → l.align ≤ 8
      → rounded end l.align + l.size ≤ 1048576 → IsLaid f members (i + 1) (rounded end l.align + l.size) (max align l.align)
  laid_more i end align d l r h s n b = record {
    end_is = end_more i end d l r.end_is h s;
    align_is = align_more i align d l r.align_is h s;
    small = b;
    low = let p = r.low in omega arith;
    high = let p = r.high in omega arith;
  }

  pub united_more : (i size align : ℕ) (d : TypeId) (l : Layout) → IsUnited f members i size align → i < length members → l ≡ f (get_or members i d)
      → l.align ≤ 8 → l.size ≤ 1048576 → IsUnited f members (i + 1) (max size l.size) (max align l.align)
  united_more i size align d l r h s n b = record {
    size_is = size_more i size d l r.size_is h s;
    align_is = align_more i align d l r.align_is h s;
    small = let p = r.small in omega arith;
    low = let p = r.low in omega arith;
    high = let p = r.high in omega arith;
  }

  pub laid_all : (i end align size : ℕ) (r : Option Layout) → IsLaid f members i end align → length members ≤ i → size ≡ rounded end align
      → SomeIff r (size ≤ 1048576) (record { size = size; align = align })
      → SomeIff r ((struct_layout (map f members)).size ≤ 1048576) (struct_layout (map f members))
  laid_all i end align size r h b e k =
      let x : end ≡ members_end (map f members) = h.end_is ∙ ap members_end (all_taken i b) in
      let y : align ≡ greatest_align (map f members) = h.align_is ∙ ap greatest_align (all_taken i b) in
      let z : size ≡ rounded (members_end (map f members)) (greatest_align (map f members)) = e ∙ (λ j. rounded (x j) (y j)) in
      let P : Layout → Type 0 = λ l. SomeIff r (l.size ≤ 1048576) l in
      let w : Path Layout (record { size = size; align = align }) (struct_layout (map f members)) = λ j. record { size = z j; align = y j } in
      subst P w k

  pub struct_offset : (i end offset tag : ℕ) (d : TypeId) (l : Layout) → end ≡ members_end (map f (take i members)) → i < length members → l ≡ f (get_or members i d)
      → offset ≡ rounded end l.align → (e : TypeId) → offset ≡ offset_of_shape (Struct tag) (map f (take i members)) (f (get_or members i e))
  struct_offset i end offset tag d l x h s o e =
      o ∙ (λ j. rounded (x j) ((s ∙ ap f (get_or_default members i d e h)) j).align)

  module _ (shape : TypeShape) where
    pub places_start : (fields : List FieldPlace) → fields ≡ [] → ArePlacesSoFar f shape members 0 fields
    places_start fields e = record {
      types = ap (map (λ (p : FieldPlace). p.ty)) e;
      offsets = λ k d t b. absurd (omega (arith, ap length e));
    }

    pub places_more : (i offset : ℕ) (fields : List FieldPlace) (d : TypeId) → ArePlacesSoFar f shape members i fields → i < length members
        → ((e : TypeId) → offset ≡ offset_of_shape shape (map f (take i members)) (f (get_or members i e)))
        → ArePlacesSoFar f shape members (i + 1) (fields ++ (record { offset = offset; ty = get_or members i d }) ∷ [])
    places_more i offset fields d r h o = record {
      types =
          map-append (λ (p : FieldPlace). p.ty) fields ((record { offset = offset; ty = get_or members i d }) ∷ [])
          ∙ ap (λ ts. ts ++ get_or members i d ∷ []) r.types
          ∙ sym (more_taken i d h);
      offsets = λ k g e b. elim (cases_lt k (length fields)) [
        | inl l ↦ ap (λ (p : FieldPlace). p.offset) (get_or_append_left fields ((record { offset = offset; ty = get_or members i d }) ∷ []) g k l) ∙ r.offsets k g e l
        | inr m ↦
            let count : length fields ≡ i =
            sym (length-map fields (λ (p : FieldPlace). p.ty)) ∙ ap length r.types ∙ length-take-le i members (omega arith) in
            let here : length fields ≡ k = omega (arith, length-append fields ((record { offset = offset; ty = get_or members i d }) ∷ [])) in
            ap (λ n. (get_or (fields ++ (record { offset = offset; ty = get_or members i d }) ∷ []) n g).offset) (sym here)
            ∙ ap (λ (p : FieldPlace). p.offset) (get_or-append_seam fields (record { offset = offset; ty = get_or members i d }) [] g)
            ∙ o e
            ∙ ap (λ n. offset_of_shape shape (map f (take n members)) (f (get_or members n e))) (sym count ∙ here)
      ];
    }
      where
        more_taken : (j : ℕ) (t : TypeId) → j < length members → take (j + 1) members ≡ take j members ++ get_or members j t ∷ []
        more_taken j t b = take_more members j t b

    -- the places under the name of a shape with the same offsets
    pub places_all : (i : ℕ) (fields : List FieldPlace) → ArePlacesSoFar f shape members i fields → length members ≤ i → ArePlaces f shape members fields
    places_all i fields r h = record { types = r.types ∙ take_all i members h; offsets = r.offsets }

-- the members of what is no struct stand at its start
pub union_shape : (f : TypeId → Layout) (s : TypeShape) (members : List TypeId) (fields : List FieldPlace) → ((tag : ℕ) → s ≡ Struct tag → ⊥)
    → ArePlaces f (Union 0) members fields → ArePlaces f s members fields
union_shape f (Struct tag) members fields n p = absurd (n tag refl)
union_shape f Void members fields n p = record { types = p.types; offsets = p.offsets }
union_shape f (Integer bytes signed) members fields n p = record { types = p.types; offsets = p.offsets }
union_shape f (Pointer node to) members fields n p = record { types = p.types; offsets = p.offsets }
union_shape f (Array element count) members fields n p = record { types = p.types; offsets = p.offsets }
union_shape f (Function ps r) members fields n p = record { types = p.types; offsets = p.offsets }
union_shape f (Union tag) members fields n p = record { types = p.types; offsets = p.offsets }
