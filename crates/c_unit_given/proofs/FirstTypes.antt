-- The types that each table begins with are the first of every table that has `void` and the integer types in their places.
use Rattle.std.proofs.Common.{◌≡◌, ◌<◌, ℕ, zero, suc, Bool, true, false, refl, ap, sym, ◌∙◌, inl, inr, lit<, arith}
use Rattle.cc_base.specs.declared.number.TypeId.{TypeId}
use Rattle.c_types.specs.declared.layout.Layout.{Layout}
use Rattle.c_types.specs.declared.shape.TypeShape.{TypeShape}
use Rattle.c_types.specs.declared.shape.TypeShape.TheVariants.{Void, Integer}
use Rattle.c_types.specs.Calls.{basic_entry, basic_table}
use Rattle.c_types.specs.Layouts.{layout_of, layout_of_shape}
use Rattle.c_types.specs.Sound.{IsIntegerSize}
use Rattle.c_types.specs.Table.{Table, Entry, IsComplete, entry_at, shape_at, members_at, is_aggregate_shape}
use Rattle.c_types.proofs.Descent.{layout_is}
use Rattle.c_typing.specs.Extensions.{IsExtended}
use Rattle.c_typing.specs.Judging.{integer_number}
use Rattle.c_typing.specs.Settled.{IsBasic}
use Rattle.c_typing_unique.proofs.Shapes.{no_true}
use Rattle.c_unit_typing.proofs.BasicTable.{basic-formed}

abbrev number : ℕ → TypeId
number n = record { 0 = n }

-- of the types that each table begins with, the complete ones are there, and their layouts are their own
complete_there : (n : ℕ) → IsComplete basic_table (number n) → n < 9
complete_there zero h = lit< tt
complete_there (suc zero) h = lit< tt
complete_there (suc (suc zero)) h = lit< tt
complete_there (suc (suc (suc zero))) h = lit< tt
complete_there (suc (suc (suc (suc zero)))) h = lit< tt
complete_there (suc (suc (suc (suc (suc zero))))) h = lit< tt
complete_there (suc (suc (suc (suc (suc (suc zero)))))) h = lit< tt
complete_there (suc (suc (suc (suc (suc (suc (suc zero))))))) h = lit< tt
complete_there (suc (suc (suc (suc (suc (suc (suc (suc zero)))))))) h = lit< tt
complete_there (suc (suc (suc (suc (suc (suc (suc (suc (suc n))))))))) h = no_true h

own_layout : (f g : TypeId → Layout) (n : ℕ)
    → layout_of_shape f (shape_at basic_table (number n)) (members_at basic_table (number n)) ≡ layout_of_shape g (shape_at basic_table (number n)) (members_at basic_table (number n))
own_layout f g zero = refl
own_layout f g (suc zero) = refl
own_layout f g (suc (suc zero)) = refl
own_layout f g (suc (suc (suc zero))) = refl
own_layout f g (suc (suc (suc (suc zero)))) = refl
own_layout f g (suc (suc (suc (suc (suc zero))))) = refl
own_layout f g (suc (suc (suc (suc (suc (suc zero)))))) = refl
own_layout f g (suc (suc (suc (suc (suc (suc (suc zero))))))) = refl
own_layout f g (suc (suc (suc (suc (suc (suc (suc (suc zero)))))))) = refl
own_layout f g (suc (suc (suc (suc (suc (suc (suc (suc (suc n))))))))) = refl

module _ (T : Table) (basic : IsBasic T) where
  -- a type that is no struct and no union has no members
  plain_entry : (t : TypeId) (x : TypeShape) → is_aggregate_shape x ≡ false → shape_at T t ≡ x → entry_at T t ≡ basic_entry x
  plain_entry t x none h = elim (basic.formed.each t).plain [
    | inl a ↦ no_true (sym none ∙ (ap is_aggregate_shape (sym h) ∙ a))
    | inr e ↦ (λ i. record { shape = h i; members = e i })
  ]

  integer_entry : (b : ℕ) (s : Bool) → IsIntegerSize b → entry_at T (number (integer_number b s)) ≡ basic_entry (Integer b s)
  integer_entry b s size = plain_entry (number (integer_number b s)) (Integer b s) refl (basic.integers (record { bytes = b; signed = s }) size).1

  first_entry : (n : ℕ) → n < 9 → entry_at T (number n) ≡ entry_at basic_table (number n)
  first_entry zero h = plain_entry (number 0) Void refl basic.void.1
  first_entry (suc zero) h = integer_entry 1 true (inl refl)
  first_entry (suc (suc zero)) h = integer_entry 1 false (inl refl)
  first_entry (suc (suc (suc zero))) h = integer_entry 2 true (inr (inl refl))
  first_entry (suc (suc (suc (suc zero)))) h = integer_entry 2 false (inr (inl refl))
  first_entry (suc (suc (suc (suc (suc zero))))) h = integer_entry 4 true (inr (inr (inl refl)))
  first_entry (suc (suc (suc (suc (suc (suc zero)))))) h = integer_entry 4 false (inr (inr (inl refl)))
  first_entry (suc (suc (suc (suc (suc (suc (suc zero))))))) h = integer_entry 8 true (inr (inr (inr refl)))
  first_entry (suc (suc (suc (suc (suc (suc (suc (suc zero)))))))) h = integer_entry 8 false (inr (inr (inr refl)))
  first_entry (suc (suc (suc (suc (suc (suc (suc (suc (suc n))))))))) h = absurd (omega (arith, h))

  pub first-types : IsExtended basic_table T
  first-types = record {
    longer = let last = (basic.integers (record { bytes = 8; signed = false }) (inr (inr (inr refl)))).0 in omega (arith, last);
    shapes = λ t h. ap (λ (e : Entry). e.shape) (first_entry t.0 h);
    complete = λ t h. first_entry t.0 (complete_there t.0 h);
    layouts = λ t h.
        layout_is T basic.formed.order.0 basic.formed.order.1 t
        ∙ (ap (λ (e : Entry). layout_of_shape (layout_of T) e.shape e.members) (first_entry t.0 (complete_there t.0 h))
        ∙ (own_layout (layout_of T) (layout_of basic_table) t.0 ∙ sym (layout_is basic_table basic-formed.order.0 basic-formed.order.1 t)));
  }
