use Rattle.std.proofs.Common.{◌≡◌, ℕ, ◌+◌, ◌-◌, Bool, true, false, List, [], ◌∷◌, ◌++◌, length, replicate, refl, ap, sym, subst, ◌∙◌, arith}
use Rattle.std.proofs.lemmas.List.{append-nil, nil_from_length}
use Rattle.cc_base.specs.declared.number.TypeId.{TypeId}
use Rattle.cc_base.specs.declared.number.NodeId.{NodeId}
use Rattle.c_types.specs.declared.shape.TypeShape.{TypeShape}
use Rattle.c_types.specs.declared.shape.TypeShape.TheVariants.{Void, Integer, Pointer, Function, Struct, Union}
use Rattle.c_types.specs.Table.{Table, shape_at, members_at}
use Rattle.c_types.specs.Layouts.{size_of}
use Rattle.c_types.specs.Cells.{raw, Relation, cells_of_shape, cells_at, holds_pointer, holds_in_shape}
use Rattle.c_types.specs.Sound.{IsWellFormed}
use Rattle.c_types.proofs.Cells.{cells_are}
use Rattle.phys_types.specs.declared.spot.Item.{Item}
use Rattle.phys_types.specs.declared.spot.Item.TheVariants.{Pointer as pointer_item, Incomplete}
use Rattle.phys_types.specs.declared.spot.Layout.{Layout}
use Rattle.phys_types.specs.declared.spot.Spot.{Spot}
use Rattle.phys_types.specs.Spots.{cells_from, item_cells, item_size, AreSpots}
use Rattle.phys_types.specs.Shown.{IsLayoutOf, IsMadeOf}
use Rattle.phys_types.proofs.Structs.{holds_is}

-- The layouts of types by their shapes.

no_cells_left : (n : ℕ) → replicate (n - 0) raw ≡ replicate n raw
no_cells_left n = ap (λ k. replicate k raw) (less n)
  where
    less : (n : ℕ) → n - 0 ≡ n
    less n = omega arith

one_item : (x : Item) → cells_from 0 (record { start = 0; item = x } ∷ []) (item_size x) ≡ item_cells x
one_item x = ap (λ k. item_cells x ++ replicate k raw) (none (item_size x)) ∙ append-nil (item_cells x)
  where
    none : (n : ℕ) → n - (0 + n) ≡ 0
    none n = omega arith

module _ (table : Table) (w : IsWellFormed table) (E : Relation) (t : TypeId) (layout : Layout) where
  -- what a shape gives
  made : (s : TypeShape) (ms : List TypeId) (size : ℕ) (spots : List Spot) (holds : Bool) → shape_at table t ≡ s → members_at table t ≡ ms
      → AreSpots (size_of table) 0 spots size → cells_from 0 spots size ≡ cells_of_shape table E (cells_at table E) t s ms
      → holds ≡ holds_in_shape (holds_pointer table) s ms → IsMadeOf size spots holds layout → IsLayoutOf table E t layout
  made s ms size spots holds e f a c h m = record {
    spots = subst (λ n. AreSpots (size_of table) 0 layout.spots.items n) (sym m.size_is) (subst (λ xs. AreSpots (size_of table) 0 xs size) (sym m.spots_are) a);
    cells = (λ i. cells_from 0 (m.spots_are i) (m.size_is i)) ∙ c ∙ (λ i. cells_of_shape table E (cells_at table E) t (sym e i) (sym f i)) ∙ sym (cells_are table w.order.0 w.order.1 E t);
    holds = m.holds_are ∙ h ∙ (λ i. holds_in_shape (holds_pointer table) (sym e i) (sym f i)) ∙ sym (holds_is table w t);
  }

  pub void_shown : shape_at table t ≡ Void → IsMadeOf 0 [] false layout → IsLayoutOf table E t layout
  void_shown e m = made Void (members_at table t) 0 [] false e refl (omega arith) refl refl m

  pub function_shown : (ps : List TypeId) (r : TypeId) → shape_at table t ≡ Function ps r → IsMadeOf 0 [] false layout → IsLayoutOf table E t layout
  function_shown ps r e m = made (Function ps r) (members_at table t) 0 [] false e refl (omega arith) refl refl m

  pub integer_shown : (n : ℕ) (s : Bool) → shape_at table t ≡ Integer n s → IsMadeOf n [] false layout → IsLayoutOf table E t layout
  integer_shown n s e m = made (Integer n s) (members_at table t) n [] false e refl (omega arith) (no_cells_left n) refl m

  pub pointer_shown : (node : NodeId) (to : TypeId) → shape_at table t ≡ Pointer node to
      → IsMadeOf 8 (record { start = 0; item = pointer_item node to } ∷ []) true layout → IsLayoutOf table E t layout
  pointer_shown node to e m =
      made (Pointer node to) (members_at table t) 8 (record { start = 0; item = pointer_item node to } ∷ []) true e refl (omega arith, tt, omega arith)
      (one_item (pointer_item node to)) refl m

  pub tag_shown : (tag : ℕ) → shape_at table t ≡ Struct tag → length (members_at table t) ≡ 0
      → IsMadeOf 1 (record { start = 0; item = Incomplete t } ∷ []) false layout → IsLayoutOf table E t layout
  tag_shown tag e f m = made (Struct tag) [] 1 (record { start = 0; item = Incomplete t } ∷ []) false e (nil_from_length (members_at table t) f) (omega arith, tt, omega arith) refl refl m

  pub union_tag_shown : (tag : ℕ) → shape_at table t ≡ Union tag → length (members_at table t) ≡ 0
      → IsMadeOf 1 (record { start = 0; item = Incomplete t } ∷ []) false layout → IsLayoutOf table E t layout
  union_tag_shown tag e f m = made (Union tag) [] 1 (record { start = 0; item = Incomplete t } ∷ []) false e (nil_from_length (members_at table t) f) (omega arith, tt, omega arith) refl refl m
