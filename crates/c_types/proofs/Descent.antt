use Rattle.std.proofs.Common.{◌≡◌, ℕ, zero, suc, ◌*◌, ◌<◌, List, [], length, refl, ap, arith}
use Rattle.std.specs.List.{Contains}
use Rattle.std.proofs.lemmas.List.Sums.{count_by-le-length}
use Rattle.cc_base.specs.declared.number.TypeId.{TypeId}
use Rattle.c_types.specs.declared.layout.Layout.{Layout}
use Rattle.c_types.specs.declared.shape.TypeShape.{TypeShape}
use Rattle.c_types.specs.declared.shape.TypeShape.TheVariants.{Void, Integer, Pointer, Array, Function, Struct, Union}
use Rattle.c_types.specs.Table.{Table, shape_at, members_at, parts_of_shape, parts_at, IsRanked, is_complete, descend}
use Rattle.c_types.specs.Layouts.{no_layout, layout_of_shape, layout_step, layout_of, struct_layout, union_layout}
use Rattle.c_types.proofs.Lists.{map_same, contains_head}

-- Recursion down the types that types hold by value.

module _ {A : Type 0} (step : (TypeId → A) → TypeId → A) (none : A) (parts : TypeId → List TypeId) (rank : TypeId → ℕ)
    (local : (f g : TypeId → A) (t : TypeId) → ((m : TypeId) → Contains (parts t) m → f m ≡ g m) → step f t ≡ step g t)
    (falls : (t m : TypeId) → Contains (parts t) m → rank m < rank t) where
  -- more steps than the rank change nothing
  pub enough : (j k : ℕ) (t : TypeId) → rank t < j → rank t < k → descend step none j t ≡ descend step none k t
  enough zero k t p q = absurd (omega arith)
  enough (suc j) zero t p q = absurd (omega arith)
  enough (suc j) (suc k) t p q =
      local (descend step none j) (descend step none k) t
      (λ m c. let f : rank m < rank t = falls t m c in enough j k m (omega arith) (omega arith))

  -- what is found is what `step` makes of what is found for the parts
  pub descend_is : (n : ℕ) (t : TypeId) → rank t < n → descend step none n t ≡ step (descend step none n) t
  descend_is n t p = enough n (suc n) t p (omega arith)

-- a layout depends on the layouts of the parts alone
pub layout_local : (f g : TypeId → Layout) (shape : TypeShape) (members : List TypeId)
    → ((m : TypeId) → Contains (parts_of_shape shape members) m → f m ≡ g m) → layout_of_shape f shape members ≡ layout_of_shape g shape members
layout_local f g Void members h = refl
layout_local f g (Integer bytes signed) members h = refl
layout_local f g (Pointer node to) members h = refl
layout_local f g (Array element count) members h = ap (λ (l : Layout). record { size = count * l.size; align = l.align }) (h element (contains_head element []))
layout_local f g (Function parameters result) members h = refl
layout_local f g (Struct tag) members h = ap struct_layout (map_same f g members h)
layout_local f g (Union tag) members h = ap union_layout (map_same f g members h)

module _ (table : Table) (rank : TypeId → ℕ) (r : IsRanked table rank) where
  pub rank_bound : (t : TypeId) → rank t < suc (length table)
  rank_bound t = let b = r.below t in omega (arith, count_by-le-length is_complete table)

  pub layout_is : (t : TypeId) → layout_of table t ≡ layout_step table (layout_of table) t
  unfolding layout_of
  layout_is t =
      descend_is (layout_step table) no_layout (parts_at table) rank
      (λ f g u h. layout_local f g (shape_at table u) (members_at table u) h) r.falls (suc (length table)) t (rank_bound t)
