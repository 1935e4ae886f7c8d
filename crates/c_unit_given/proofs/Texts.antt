-- A string literal that stands in braces by itself for an array of char is its text, and no value of its first character.
use Rattle.std.proofs.Common.{◌≡◌, ℕ, Bool, true, false, ◌&&◌, ◌*◌, ◌⊎◌, inl, inr, nat_lt, if◌then◌else◌, List, length, Option, Some, None, refl, ap, sym, subst, ◌∙◌}
use Rattle.cc_base.specs.declared.place.Place.{Place}
use Rattle.cc_base.specs.declared.number.TypeId.{TypeId}
use Rattle.c_types.specs.declared.shape.TypeShape.{TypeShape}
use Rattle.c_types.specs.declared.shape.TypeShape.TheVariants.{Void, Integer, Pointer, Array, Function, Struct, Union}
use Rattle.c_types.specs.Layouts.{size_of}
use Rattle.c_types.specs.Table.{Table, descend, is_aggregate_shape, shape_at}
use Rattle.c_types.specs.Sameness.{IsSameType, is_same_type, same_shape, same_step}
use Rattle.c_tree.specs.declared.leaf.StringPiece.{StringPiece}
use Rattle.c_tree.specs.declared.typed_word.Conversion.{Conversion}
use Rattle.c_tree.specs.Erasure.{erased, erased_items}
use Rattle.c_tree.specs.Tree as tree
use Rattle.c_tree.specs.TypedTree as typed
use Rattle.c_tree.specs.TypedTree.{TypedExpr, TypedInitialiser, TypedItems}
use Rattle.c_tree.specs.TypedParts.{place_type, made_by_items, item_place}
use Rattle.c_typing.specs.Conversions.{bare, IsAssigned, IsAssignedBy, takes_over, is_pointer_to_complete, is_allocation, implicit, implicit_between, converting_by}
use Rattle.c_typing.specs.Scopes.{Scopes}
use Rattle.c_typing.specs.Shapes.{is_integer_shape, is_pointer_shape}
use Rattle.c_typing_unique.proofs.Numbering.{Point, Numbers}
use Rattle.c_typing_unique.proofs.Reading.{IsRead}
use Rattle.c_typing_unique.proofs.Shapes.{IsDistinct, no_true, two-sorts, some-same}
use Rattle.c_typing_unique.proofs.ExprSteps.{string-decays}
use Rattle.c_unit_typing.specs.Initialisers.{AreItems, Slot, char_count_of_shape, char_count_of_element, has_count, is_char_array, is_only_text, slot_of_shape}
use Rattle.c_unit_typing.specs.InitialiserJudging.{is_only_literal}

same_aggregate : (f : TypeId → TypeId → Bool) (x y : TypeShape) → same_shape f x y ≡ true → is_aggregate_shape y ≡ true → is_aggregate_shape x ≡ true
same_aggregate f (Struct n) y h k = refl
same_aggregate f (Union n) y h k = refl
same_aggregate f Void (Struct m) h k = h
same_aggregate f Void (Union m) h k = h
same_aggregate f (Integer b s) (Struct m) h k = h
same_aggregate f (Integer b s) (Union m) h k = h
same_aggregate f (Pointer n t) (Struct m) h k = h
same_aggregate f (Pointer n t) (Union m) h k = h
same_aggregate f (Array t n) (Struct m) h k = h
same_aggregate f (Array t n) (Union m) h k = h
same_aggregate f (Function ps r) (Struct m) h k = h
same_aggregate f (Function ps r) (Union m) h k = h
same_aggregate f x Void h k = no_true k
same_aggregate f x (Integer b s) h k = no_true k
same_aggregate f x (Pointer n t) h k = no_true k
same_aggregate f x (Array t n) h k = no_true k
same_aggregate f x (Function ps r) h k = no_true k

-- one of two types that are the same is a struct or a union where the other one is
pub same_struct : (T : Table) (t u : TypeId) → IsSameType T t u → is_aggregate_shape (shape_at T u) ≡ true → is_aggregate_shape (shape_at T t) ≡ true
unfolding is_same_type
same_struct T t u h k = same_aggregate (descend (same_step T) (λ v. false) (length T)) (shape_at T t) (shape_at T u) h k

module _ (T : Table) (D : IsDistinct T) where
  pointer_no_integer : (x y : TypeShape) → is_pointer_shape x ≡ true → is_integer_shape y ≡ true → implicit_between T false x y ≡ None
  pointer_no_integer (Pointer n t) (Integer b s) h k = refl
  pointer_no_integer (Pointer n t) Void h k = no_true k
  pointer_no_integer (Pointer n t) (Pointer m u) h k = no_true k
  pointer_no_integer (Pointer n t) (Array u m) h k = no_true k
  pointer_no_integer (Pointer n t) (Function ps r) h k = no_true k
  pointer_no_integer (Pointer n t) (Struct m) h k = no_true k
  pointer_no_integer (Pointer n t) (Union m) h k = no_true k
  pointer_no_integer Void y h k = no_true h
  pointer_no_integer (Integer b s) y h k = no_true h
  pointer_no_integer (Array u m) y h k = no_true h
  pointer_no_integer (Function ps r) y h k = no_true h
  pointer_no_integer (Struct m) y h k = no_true h
  pointer_no_integer (Union m) y h k = no_true h

  none_converted : {P : Type 0} (e : TypedExpr) → None ≡ Some e → P
  none_converted e h = absurd (let g : ◌≡◌ {A = Option TypedExpr} None (Some e) = h in cc)

  literal_no_integer : {P : Type 0} (pieces : List StringPiece) (e : TypedExpr) (a b : Point) (s : Scopes) (at : Place) (u : TypeId) → IsRead T (tree.String pieces) e a b
      → is_integer_shape (shape_at T u) ≡ true → IsAssigned T s at u e → P
  literal_no_integer {P} pieces e a b s at u h k g =
      let one = string-decays T D pieces e a b h in
      let over : takes_over T s u e ≡ false = ap (λ (f : TypedExpr). is_allocation f && is_pointer_to_complete T s u) one.3 in
      let converted = subst (λ (c : Bool). IsAssignedBy c T at u e) over g in
      let none : implicit T (bare e) u ≡ None = ap (λ (f : TypedExpr). implicit T f u) one.3 ∙ pointer_no_integer (shape_at T one.2) (shape_at T u) one.4 k in
      none_converted e (sym (ap (λ (o : Option Conversion). converting_by o at u (bare e)) none) ∙ converted.made)

  char_element : (w : TypeShape) (n : ℕ) → has_count (char_count_of_element w n) ≡ true → is_integer_shape w ≡ true
  char_element (Integer b s) n h = refl
  char_element Void n h = h
  char_element (Pointer m t) n h = h
  char_element (Array u m) n h = h
  char_element (Function ps r) n h = h
  char_element (Struct m) n h = h
  char_element (Union m) n h = h

  none_slot : {P : Type 0} (s : Slot) → None ≡ Some s → P
  none_slot s h = absurd (let g : ◌≡◌ {A = Option Slot} None (Some s) = h in cc)

  first_char : (t : TypeId) (z : TypeShape) (s : Slot) → has_count (char_count_of_shape T z) ≡ true → slot_of_shape T t z 0 ≡ Some s → is_integer_shape (shape_at T s.type) ≡ true
  first_char t (Array e n) s h k = by (nat_lt 0 n) k
    where
      by : (c : Bool) → (if c then Some (record { offset = 0 * size_of T e; type = e }) else None) ≡ Some s → is_integer_shape (shape_at T s.type) ≡ true
      by true g = subst (λ (x : Slot). is_integer_shape (shape_at T x.type) ≡ true) (some-same (record { offset = 0 * size_of T e; type = e }) s g) (char_element (shape_at T e) n h)
      by false g = none_slot s g
  first_char t Void s h k = no_true h
  first_char t (Integer b r) s h k = no_true h
  first_char t (Pointer m u) s h k = no_true h
  first_char t (Function ps r) s h k = no_true h
  first_char t (Struct m) s h k = no_true h
  first_char t (Union m) s h k = no_true h

  integer_no_aggregate : (z : TypeShape) → is_integer_shape z ≡ true → is_aggregate_shape z ≡ false
  integer_no_aggregate (Integer b s) h = refl
  integer_no_aggregate (Struct n) h = sym h
  integer_no_aggregate (Union n) h = sym h
  integer_no_aggregate Void h = refl
  integer_no_aggregate (Pointer n t) h = refl
  integer_no_aggregate (Array t n) h = refl
  integer_no_aggregate (Function ps r) h = refl

  is_literal : tree.Expr → Bool
  is_literal e = is_only_literal (tree.AndItem tree.NoItem (tree.Value e))

  literal_or : (e : tree.Expr) → (is_only_literal (tree.AndItem tree.NoItem (tree.Value e)) ≡ false) ⊎ ((pieces : List StringPiece) × (e ≡ tree.String pieces))
  literal_or (tree.String pieces) = inr (pieces, refl)
  literal_or e = inl refl

  abbrev IsFlagSame : TypedItems → Type 0
  IsFlagSame list = is_only_literal (erased_items list) ≡ is_only_text list

  module _ (t : TypeId) (c : is_char_array T t ≡ true) (offset : ℕ) (u : TypeId) (a b : Point) where
    value_flag : (e : TypedExpr) → AreItems T (typed.AndItem typed.NoItem offset u (typed.Value e)) false t a.scopes b.scopes
        → Numbers (made_by_items (typed.AndItem typed.NoItem offset u (typed.Value e))) a.node b.node → IsFlagSame (typed.AndItem typed.NoItem offset u (typed.Value e))
    value_flag e g k = by (literal_or (erased e))
      where
        by : (is_only_literal (tree.AndItem tree.NoItem (tree.Value (erased e))) ≡ false) ⊎ ((pieces : List StringPiece) × (erased e ≡ tree.String pieces))
            → IsFlagSame (typed.AndItem typed.NoItem offset u (typed.Value e))
        by (inl h) = h
        by (inr h) =
            let middle : Point = record { scopes = g.0; node = a.node } in
            literal_no_integer h.0 e middle b b.scopes (item_place (typed.Value e)) u (h.1, g.2.0, k)
            (first_char t (shape_at T t) (record { offset = offset; type = u }) c g.3) g.2.2

    copied_flag : (p : typed.TypedPlace) (at : Place) → AreItems T (typed.AndItem typed.NoItem offset u (typed.Copied p at)) false t a.scopes b.scopes
        → IsFlagSame (typed.AndItem typed.NoItem offset u (typed.Copied p at))
    copied_flag p at g =
        two-sorts is_integer_shape is_aggregate_shape integer_no_aggregate (shape_at T u) (shape_at T u) refl (first_char t (shape_at T t) (record { offset = offset; type = u }) c g.3)
        (same_struct T u (place_type p) g.2.3 g.2.2)

  pub text-flag : (t : TypeId) (list : TypedItems) (a b : Point) → is_char_array T t ≡ true → AreItems T list (is_only_text list && is_char_array T t) t a.scopes b.scopes
      → Numbers (made_by_items list) a.node b.node → IsFlagSame list
  text-flag t typed.NoItem a b c h k = refl
  text-flag t (typed.AndItem typed.NoItem offset u (typed.Text pieces bytes)) a b c h k = refl
  text-flag t (typed.AndItem typed.NoItem offset u (typed.Value e)) a b c h k = value_flag t c offset u a b e h k
  text-flag t (typed.AndItem typed.NoItem offset u (typed.Copied p at)) a b c h k = copied_flag t c offset u a b p at h
  text-flag t (typed.AndItem typed.NoItem offset u (typed.Listed brace items comma v)) a b c h k = refl
  text-flag t (typed.AndItem (typed.AndItem all o v j) offset u i) a b c h k = refl

  -- a literal by itself is written where a text stands in the tree
  pub only-text : (t : TypeId) (list : TypedItems) (a b : Point) → AreItems T list (is_only_text list && is_char_array T t) t a.scopes b.scopes → Numbers (made_by_items list) a.node b.node
      → (is_only_literal (erased_items list) && is_char_array T t) ≡ (is_only_text list && is_char_array T t)
  only-text t list a b h k = by (is_char_array T t) refl
    where
      no_flag : (v : Bool) → (v && false) ≡ false
      no_flag true = refl
      no_flag false = refl

      by : (v : Bool) → is_char_array T t ≡ v → (is_only_literal (erased_items list) && is_char_array T t) ≡ (is_only_text list && is_char_array T t)
      by true e = ap (λ (f : Bool). f && is_char_array T t) (text-flag t list a b e h k)
      by false e =
          ap (λ (v : Bool). is_only_literal (erased_items list) && v) e ∙ no_flag (is_only_literal (erased_items list)) ∙ sym (no_flag (is_only_text list))
          ∙ ap (λ (v : Bool). is_only_text list && v) (sym e)
