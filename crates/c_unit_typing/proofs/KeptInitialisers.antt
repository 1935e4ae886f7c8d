-- A table that goes on keeps initialisers of complete types well typed.
use Rattle.std.proofs.Common.{◌≡◌, ℕ, ◌*◌, ◌==◌, nat_lt, Bool, true, false, ◌&&◌, List, [], ◌∷◌, length, take, map, slice_index_or, Option, Some, None, refl, ap, sym, subst, ◌∙◌, inl, inr, if◌then◌else◌}
use Rattle.std.specs.List.{All}
use Rattle.std.proofs.lemmas.Option.{none-some}
use Rattle.std.proofs.lemmas.Bool.Decides.{leb_tells}
use Rattle.std.proofs.lemmas.List.{get_or_past}
use Rattle.std.proofs.lemmas.List.Elements.{All-contains}
use Rattle.cc_base.specs.declared.place.Place.{Place}
use Rattle.cc_base.specs.declared.number.TypeId.{TypeId}
use Rattle.c_types.specs.declared.layout.Layout.{Layout}
use Rattle.c_types.specs.declared.shape.TypeShape.{TypeShape}
use Rattle.c_types.specs.declared.shape.TypeShape.TheVariants.{Void, Integer, Pointer, Array, Function, Struct, Union}
use Rattle.c_types.specs.Table.{Table, Entry, IsType, IsComplete, shape_at, members_at, is_complete, is_complete_entry, parts_of_shape}
use Rattle.c_types.specs.Layouts.{layout_of, size_of, offset_of, offset_of_shape, member_at}
use Rattle.c_types.proofs.Lists.{map_same, contains_head, contains_take}
use Rattle.c_tree.specs.Literals.{pieces_bytes}
use Rattle.c_tree.specs.TypedTree as typed
use Rattle.c_tree.specs.TypedTree.{TypedInitialiser, TypedItems}
use Rattle.c_tree.specs.TypedParts.{place_type, item_place}
use Rattle.c_typing.specs.Extensions.{IsExtended}
use Rattle.c_typing.specs.Scopes.{Scopes}
use Rattle.c_typing.specs.Settled.{IsBasic}
use Rattle.c_typing.specs.Shapes.{is_scalar_shape, is_void_shape}
use Rattle.c_typing_laws.proofs.ExtensionLaws.{is_in, not_void}
use Rattle.c_typing_laws.proofs.KeptConversions.{assigned-kept}
use Rattle.c_typing_laws.proofs.KeptRules
use Rattle.c_typing_laws.proofs.KeptTrees.{value-kept, place-kept}
use Rattle.c_typing_laws.proofs.KeptTypes.{same_exact}
use Rattle.c_types.specs.Table.{is_aggregate_shape}
use Rattle.c_unit_typing.specs.Initialisers.{Slot, slot_of_shape, char_count_of_shape, char_count_of_element, has_count, is_char_array, is_only_text, items_count, IsText, IsItemFor, IsSlot, IsInitialiser, AreItems}

slot_or : Slot → Option Slot → Slot
slot_or d None = d
slot_or d (Some s) = s

-- a slot that was chosen is the one that may be
pub when-some : (P : Slot → Type 0) (f : Bool) (a b : Slot) → (if f then Some a else None) ≡ Some b → P a → P b
unfolding slot_or
when-some P true a b h p = subst P (ap (slot_or a) h) p
when-some P false a b h p = absurd (none-some b h)

complete_not_void : (y : TypeShape) (ms : List TypeId) → is_complete_entry y ms ≡ true → is_void_shape y ≡ false
complete_not_void Void ms h = absurd (let e : false ≡ true = h in cc)
complete_not_void (Integer bytes signed) ms h = refl
complete_not_void (Pointer node t) ms h = refl
complete_not_void (Array t count) ms h = refl
complete_not_void (Function ps r) ms h = refl
complete_not_void (Struct k) ms h = refl
complete_not_void (Union k) ms h = refl

pub complete-in : (T : Table) (t : TypeId) → IsComplete T t → IsType T t
complete-in T t c = is_in T t (complete_not_void (shape_at T t) (members_at T t) c)

module _ (T : Table) (b : IsBasic T) where
  member_complete : (t : TypeId) (i : ℕ) → IsComplete T t → All (IsComplete T) (members_at T t) → IsComplete T (member_at T t i)
  member_complete t i c h = elim (leb_tells (length (members_at T t)) i) [
    | inl past ↦ subst (IsComplete T) (sym (get_or_past (members_at T t) i t past.1)) c
    | inr below ↦ h i t below.1
  ]

  slot_complete : (t : TypeId) (y : TypeShape) (i : ℕ) (s : Slot) → IsComplete T t → All (IsComplete T) (parts_of_shape y (members_at T t))
      → slot_of_shape T t y i ≡ Some s → IsComplete T s.type
  slot_complete t (Array element count) i s c p h =
      when-some (λ (z : Slot). IsComplete T z.type) (nat_lt i count) (record { offset = i * size_of T element; type = element }) s h
      (All-contains (IsComplete T) (element ∷ []) element p (contains_head element []))
  slot_complete t (Struct n) i s c p h =
      when-some (λ (z : Slot). IsComplete T z.type) (nat_lt i (length (members_at T t))) (record { offset = offset_of T t i; type = member_at T t i }) s h
      (member_complete t i c p)
  slot_complete t (Union n) i s c p h =
      when-some (λ (z : Slot). IsComplete T z.type) (i == 0) (record { offset = offset_of T t i; type = member_at T t i }) s h
      (member_complete t i c p)
  slot_complete t (Integer bytes signed) i s c p h =
      when-some (λ (z : Slot). IsComplete T z.type) (i == 0) (record { offset = 0; type = t }) s h c
  slot_complete t (Pointer n u) i s c p h =
      when-some (λ (z : Slot). IsComplete T z.type) (i == 0) (record { offset = 0; type = t }) s h c
  slot_complete t Void i s c p h = absurd (none-some s h)
  slot_complete t (Function ps r) i s c p h = absurd (none-some s h)

  -- the part of a complete type that an item initialises is complete
  pub slot-complete : (text : Bool) (t : TypeId) (i offset : ℕ) (u : TypeId) → IsComplete T t → IsSlot text T t i offset u → IsComplete T u
  slot-complete true t i offset u c h = subst (IsComplete T) (sym h.1) c
  slot-complete false t i offset u c h = slot_complete t (shape_at T t) i (record { offset = offset; type = u }) c (b.formed.each t).parts h

module _ (T U : Table) (x : IsExtended T U) (b : IsBasic T) where
  shape_same : (t : TypeId) → IsComplete T t → shape_at U t ≡ shape_at T t
  shape_same t c = ap (λ (e : Entry). e.shape) (x.complete t c)

  pub scalar-same : (t : TypeId) → IsComplete T t → is_scalar_shape (shape_at U t) ≡ is_scalar_shape (shape_at T t)
  scalar-same t c = ap is_scalar_shape (shape_same t c)

  pub complete-kept : (t : TypeId) → IsComplete T t → IsComplete U t
  complete-kept t c = ap is_complete (x.complete t c) ∙ c

  offset_same : (t : TypeId) (i : ℕ) → IsComplete T t → All (IsComplete T) (members_at T t) → offset_of U t i ≡ offset_of T t i
  offset_same t i c h =
      let ms : List TypeId = members_at T t in
      let before : map (layout_of U) (take i ms) ≡ map (layout_of T) (take i ms) =
      map_same (layout_of U) (layout_of T) (take i ms) (λ m k. x.layouts m (All-contains (IsComplete T) ms m h (contains_take i ms m k))) in
      let one : layout_of U (member_at T t i) ≡ layout_of T (member_at T t i) = x.layouts (member_at T t i) (member_complete T b t i c h) in
      ap (λ (d : Entry). offset_of_shape d.shape (map (layout_of U) (take i d.members)) (layout_of U (slice_index_or d.members i t))) (x.complete t c)
      ∙ (λ j. offset_of_shape (shape_at T t) (before j) (one j))

  slot_by : (t : TypeId) (y : TypeShape) (i : ℕ) → IsComplete T t → All (IsComplete T) (parts_of_shape y (members_at T t))
      → slot_of_shape U t y i ≡ slot_of_shape T t y i
  slot_by t (Array element count) i c p =
      let size : size_of U element ≡ size_of T element =
      ap (λ (l : Layout). l.size) (x.layouts element (All-contains (IsComplete T) (element ∷ []) element p (contains_head element []))) in
      λ j. if nat_lt i count then Some (record { offset = i * size j; type = element }) else None
  slot_by t (Struct n) i c p =
      let offset = offset_same t i c p in
      let ms : members_at U t ≡ members_at T t = ap (λ (e : Entry). e.members) (x.complete t c) in
      λ j. if nat_lt i (length (ms j)) then Some (record { offset = offset j; type = slice_index_or (ms j) i t }) else None
  slot_by t (Union n) i c p =
      let offset = offset_same t i c p in
      let ms : members_at U t ≡ members_at T t = ap (λ (e : Entry). e.members) (x.complete t c) in
      λ j. if i == 0 then Some (record { offset = offset j; type = slice_index_or (ms j) i t }) else None
  slot_by t (Integer bytes signed) i c p = refl
  slot_by t (Pointer n u) i c p = refl
  slot_by t Void i c p = refl
  slot_by t (Function ps r) i c p = refl

  -- the item with this number initialises the same part
  pub slot-same : (t : TypeId) (i : ℕ) → IsComplete T t → slot_of_shape U t (shape_at U t) i ≡ slot_of_shape T t (shape_at T t) i
  slot-same t i c = ap (λ (y : TypeShape). slot_of_shape U t y i) (shape_same t c) ∙ slot_by t (shape_at T t) i c (b.formed.each t).parts

  pub slot-kept : (text : Bool) (t : TypeId) (i offset : ℕ) (u : TypeId) → IsComplete T t → IsSlot text T t i offset u → IsSlot text U t i offset u
  slot-kept true t i offset u c h = h
  slot-kept false t i offset u c h =
      ap (λ (y : TypeShape). slot_of_shape U t y i) (shape_same t c) ∙ slot_by t (shape_at T t) i c (b.formed.each t).parts ∙ h

  char_by : (t : TypeId) (y : TypeShape) → All (IsComplete T) (parts_of_shape y (members_at T t)) → char_count_of_shape U y ≡ char_count_of_shape T y
  char_by t (Array element count) p =
      ap (λ (z : TypeShape). char_count_of_element z count) (shape_same element (All-contains (IsComplete T) (element ∷ []) element p (contains_head element [])))
  char_by t (Struct n) p = refl
  char_by t (Union n) p = refl
  char_by t (Integer bytes signed) p = refl
  char_by t (Pointer n u) p = refl
  char_by t Void p = refl
  char_by t (Function ps r) p = refl

  pub chars-same : (t : TypeId) → IsComplete T t → char_count_of_shape U (shape_at U t) ≡ char_count_of_shape T (shape_at T t)
  chars-same t c = ap (char_count_of_shape U) (shape_same t c) ∙ char_by t (shape_at T t) (b.formed.each t).parts

  pub is_chars-same : (t : TypeId) → IsComplete T t → is_char_array U t ≡ is_char_array T t
  is_chars-same t c = ap has_count (chars-same t c)

  mutual
    pub initialiser-kept : (i : TypedInitialiser) (at : Place) (t : TypeId) (s s' : Scopes) → IsComplete T t → IsInitialiser T i at t s s' → IsInitialiser U i at t s s'
    initialiser-kept (typed.Value e) at t s s' c h = (
      value-kept T U x b e s s' h.0,
      KeptRules.scalar-kept T U x b t h.1,
      assigned-kept T U x b s' at t e s s' h.0 (complete-in T t c) h.2,
    )
    initialiser-kept (typed.Copied p seat) at t s s' c h = (
      place-kept T U x b p s s' h.0,
      h.1,
      KeptRules.aggregate-kept T U x b (place_type p) h.2,
      same_exact T U x b t (place_type p) (complete-in T t c) (is_in T (place_type p) (not_void is_aggregate_shape (shape_at T (place_type p)) refl h.2)) ∙ h.3,
    )
    initialiser-kept (typed.Text pieces bytes) at t s s' c h =
        (h.0, subst (λ (n : Option ℕ). IsText n (pieces_bytes pieces) bytes) (sym (chars-same t c)) h.1)
    initialiser-kept (typed.Listed brace items comma u) at t s s' c h = (
      h.0,
      subst (λ (f : Bool). AreItems U items (is_only_text items && f) t s s') (sym (is_chars-same t c))
          (items-kept items (is_only_text items && is_char_array T t) t s s' c h.1),
    )

    pub items-kept : (all : TypedItems) (text : Bool) (t : TypeId) (s s' : Scopes) → IsComplete T t → AreItems T all text t s s' → AreItems U all text t s s'
    items-kept typed.NoItem text t s s' c h = h
    items-kept (typed.AndItem all offset u i) text t s s' c h = (
      h.0,
      items-kept all text t s h.0 c h.1,
      initialiser-kept i (item_place i) u h.0 s' (slot-complete T b text t (items_count all) offset u c h.3) h.2,
      slot-kept text t (items_count all) offset u c h.3,
      subst (λ (f : Bool). IsItemFor f i) (sym (scalar-same t c)) h.4,
    )
