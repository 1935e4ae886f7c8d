-- How large the areas of objects are.
use Rattle.std.proofs.Common.{◌≡◌, ℕ, zero, suc, ◌*◌, ◌≤◌, Bool, List, [], ◌∷◌, length, replicate, refl, ap, sym, ◌∙◌, arith}
use Rattle.std.specs.List.{repeat}
use Rattle.cc_base.specs.declared.number.TypeId.{TypeId}
use Rattle.cc_base.specs.declared.number.NodeId.{NodeId}
use Rattle.cc_base.specs.declared.kind.Kind.{Kind}
use Rattle.cc_base.specs.declared.kind.Kind.TheVariants.{Safe, Seq, Rtti, Wild}
use Rattle.c_types.specs.declared.shape.TypeShape.TheVariants as shape
use Rattle.c_types.specs.Table.{Table, IsComplete, shape_at, members_at}
use Rattle.c_types.specs.Layouts.{size_of}
use Rattle.c_types.specs.Cells.{Cell, raw, cells_at, cells_of_shape}
use Rattle.c_types.specs.Equality.{cells_of, physically_equal}
use Rattle.c_types.specs.Widths.{before, width_of}
use Rattle.c_types.specs.Sound.{IsWellFormed}
use Rattle.c_types.proofs.Cells.{cells_are, length_cells}
use Rattle.c_types.proofs.OrderedPointers.{cells_ordered}
use Rattle.src_mem.specs.Memory.{Planned}
use Rattle.sim_relation.specs.Objects.{area_by}
use Rattle.cure_rules.specs.Functions.{area_for}
use Rattle.cure_ranges.proofs.Widths.{width_few}

by_kind : (f : NodeId → Kind) (k : Kind) (size : ℕ) (cells : List Cell) (n : ℕ) → size ≤ n → width_of f cells ≤ n → (area_by f k size cells).bytes ≤ n
by_kind f Wild size cells n a b = a
by_kind f Safe size cells n a b = b
by_kind f Seq size cells n a b = b
by_kind f Rtti size cells n a b = b

at_least : (f : NodeId → Kind) (k : Kind) (size : ℕ) (cells : List Cell) (n : ℕ) → n ≤ size → n ≤ width_of f cells → n ≤ (area_by f k size cells).bytes
at_least f Wild size cells n a b = a
at_least f Safe size cells n a b = b
at_least f Seq size cells n a b = b
at_least f Rtti size cells n a b = b

raws : (f : NodeId → Kind) (n : ℕ) → before f (replicate n raw) n ≡ n
raws f zero = refl
raws f (suc n) = let r = raws f n in omega (arith, r)

length_raws : (n : ℕ) → length (replicate {A = Cell} n raw) ≡ n
length_raws zero = refl
length_raws (suc n) = ap suc (length_raws n)

width_raws : (f : NodeId → Kind) (n : ℕ) → width_of f (replicate n raw) ≡ n
width_raws f n = ap (before f (replicate n raw)) (length_raws n) ∙ raws f n

repeat_raw : (n : ℕ) → repeat n (raw ∷ []) ≡ replicate n raw
repeat_raw zero = refl
repeat_raw (suc n) = ap (λ xs. raw ∷ xs) (repeat_raw n)

module _ (table : Table) (w : IsWellFormed table) (kind : NodeId → Kind) where
  -- three bytes for each at most
  pub area_few : (o : Planned) → IsComplete table o.type → (area_for table kind o).bytes ≤ 3 * size_of table o.type
  area_few o c =
      let l = length_cells table w (physically_equal table) o.type c in
      let m = width_few kind (cells_of table o.type) (cells_ordered table w o.type) in
      by_kind kind (kind o.node) (size_of table o.type) (cells_of table o.type) (3 * size_of table o.type) (omega arith) (omega (arith, l, m))

  pub area_small : (o : Planned) → IsComplete table o.type → (area_for table kind o).bytes ≤ 3145728
  area_small o c = let a = area_few o c in let m = (w.sized o.type c).most in omega (arith, a, m)

  -- an array of characters keeps its bytes
  pub text_fits : (o : Planned) (element : TypeId) (count : ℕ) (signed : Bool) → IsComplete table o.type → shape_at table o.type ≡ shape.Array element count → shape_at table element ≡ shape.Integer 1 signed
      → count ≤ (area_for table kind o).bytes
  text_fits o element count signed c a b =
      let inner : cells_of table element ≡ raw ∷ [] =
      cells_are table w.order.0 w.order.1 (physically_equal table) element
      ∙ ap (λ s. cells_of_shape table (physically_equal table) (cells_at table (physically_equal table)) element s (members_at table element)) b in
      let all : cells_of table o.type ≡ replicate count raw =
      cells_are table w.order.0 w.order.1 (physically_equal table) o.type
      ∙ ap (λ s. cells_of_shape table (physically_equal table) (cells_at table (physically_equal table)) o.type s (members_at table o.type)) a
      ∙ ap (repeat count) inner ∙ repeat_raw count in
      let l : size_of table o.type ≡ count = sym (length_cells table w (physically_equal table) o.type c) ∙ ap length all ∙ length_raws count in
      let m : width_of kind (cells_of table o.type) ≡ count = ap (width_of kind) all ∙ width_raws kind count in
      at_least kind (kind o.node) (size_of table o.type) (cells_of table o.type) count (omega (arith, l)) (omega (arith, m))
