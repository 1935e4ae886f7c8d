-- What is listed in braces for a type.
use Rattle.std.proofs.Common.{◌≡◌, ℕ, ◌*◌, ◌<◌, ◌≤◌, List, [], ◌∷◌, length, refl, ap, sym, ◌∙◌, subst, arith}
use Rattle.std.specs.Prelude.{IsTrue, slice_index_or}
use Rattle.std.specs.List.{All}
use Rattle.cc_base.specs.declared.number.TypeId.{TypeId}
use Rattle.c_types.specs.declared.layout.Layout.{Layout}
use Rattle.c_types.specs.declared.shape.TypeShape.TheVariants.{Array, Union}
use Rattle.c_types.specs.Table.{Table, IsComplete, shape_at, members_at, is_complete_entry, parts_of_shape}
use Rattle.c_types.specs.Layouts.{layout_of, layout_of_shape, size_of, offset_of, member_at}
use Rattle.c_types.specs.Sound.{IsWellFormed}
use Rattle.c_types.proofs.Descent.{layout_is}

pub element_complete : (T : Table) (t e : TypeId) (n : ℕ) → IsWellFormed T → shape_at T t ≡ Array e n → IsComplete T e
element_complete T t e n w shape = (subst (λ s. All (IsComplete T) (parts_of_shape s (members_at T t))) shape (w.each t).parts) 0 e (omega arith)

array_complete : (T : Table) (t e : TypeId) (n : ℕ) → shape_at T t ≡ Array e n → IsComplete T t
array_complete T t e n shape = subst (λ s. IsTrue (is_complete_entry s (members_at T t))) (sym shape) refl

array_size : (T : Table) (t e : TypeId) (n : ℕ) → IsWellFormed T → shape_at T t ≡ Array e n → size_of T t ≡ n * size_of T e
array_size T t e n w shape =
    ap (λ (l : Layout). l.size) (layout_is T w.order.0 w.order.1 t ∙ ap (λ s. layout_of_shape (layout_of T) s (members_at T t)) shape)

within_product : (i n s most : ℕ) → i < n → n * s ≤ most → i * s ≤ most
within_product i n s most h k = grind arith

pub element_fits : (T : Table) (t e : TypeId) (n i : ℕ) → IsWellFormed T → shape_at T t ≡ Array e n → i < n → i * size_of T e ≤ 1048576
element_fits T t e n i w shape within =
    within_product i n (size_of T e) 1048576 within (subst (λ k. k ≤ 1048576) (array_size T t e n w shape) (w.sized t (array_complete T t e n shape)).most)

pub no_member : (T : Table) (t : TypeId) → length (members_at T t) ≡ 0 → member_at T t 0 ≡ t
no_member T t none = at_none (members_at T t) none
  where
    at_none : (ms : List TypeId) → length ms ≡ 0 → slice_index_or ms 0 t ≡ t
    at_none [] h = refl
    at_none (m ∷ ms) h = absurd (omega arith)

pub union_offset : (T : Table) (t : TypeId) (d : ℕ) → shape_at T t ≡ Union d → offset_of T t 0 ≡ 0
union_offset T t d shape = rw shape refl
