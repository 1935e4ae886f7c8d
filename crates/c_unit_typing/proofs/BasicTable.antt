-- The table that each unit begins with is well formed, and all is known there.
use Rattle.std.proofs.Common.{◌≡◌, ℕ, zero, suc, ◌<◌, Bool, true, false, [], ◌∷◌, ◌++◌, length, map, refl, ap, sym, ◌∙◌, inl, inr, lit<, lit≤, arith}
use Rattle.std.proofs.lemmas.List.{get_or_append_left}
use Rattle.std.proofs.lemmas.List.Elements.{All-nil}
use Rattle.cc_base.specs.declared.number.TypeId.{TypeId}
use Rattle.c_types.specs.declared.shape.TypeShape.{TypeShape}
use Rattle.c_types.specs.declared.shape.TypeShape.TheVariants.{Void, Integer}
use Rattle.c_types.specs.Calls.{IsNew, IsAddable, basic_entry, basic_table}
use Rattle.c_types.specs.Sound.{IsWellFormed, IsIntegerSize}
use Rattle.c_types.specs.Table.{Table, Entry, IsType, shape_at}
use Rattle.c_types.proofs.Adding.{formed_empty, formed_added}
use Rattle.c_typing.specs.Judging.{integer_number}

abbrev number : ℕ → TypeId
number n = record { 0 = n }

-- where a shape stands in the table
abbrev place_of : TypeShape → ℕ
place_of (Integer bytes signed) = integer_number bytes signed
place_of shape = 0

each_place : (n : ℕ) → n < 9 → place_of (shape_at basic_table (number n)) ≡ n
each_place zero h = refl
each_place (suc zero) h = refl
each_place (suc (suc zero)) h = refl
each_place (suc (suc (suc zero))) h = refl
each_place (suc (suc (suc (suc zero)))) h = refl
each_place (suc (suc (suc (suc (suc zero))))) h = refl
each_place (suc (suc (suc (suc (suc (suc zero)))))) h = refl
each_place (suc (suc (suc (suc (suc (suc (suc zero))))))) h = refl
each_place (suc (suc (suc (suc (suc (suc (suc (suc zero)))))))) h = refl
each_place (suc (suc (suc (suc (suc (suc (suc (suc (suc n))))))))) h = absurd (omega (arith, h))

module _ (old rest : Table) (shape : TypeShape) (whole : basic_table ≡ old ++ rest) (room : length old < 9) (placed : place_of shape ≡ length old) where
  fresh : IsNew old shape
  fresh t h =
      let below = h.0 in
      let same : shape_at basic_table t ≡ shape =
      ap (λ (T : Table). shape_at T t) whole ∙ (ap (λ (e : Entry). e.shape) (get_or_append_left old rest (basic_entry Void) t.0 h.0) ∙ h.1) in
      let small : t.0 < 9 = omega (arith, below, room) in
      let number_is : t.0 ≡ length old = sym (each_place t.0 small) ∙ (ap place_of same ∙ placed) in
      omega (arith, number_is, below)

integer_addable : (old : Table) (n : ℕ) (s : Bool) → IsIntegerSize n → IsAddable old (Integer n s)
integer_addable old n s h = record { proper = h; named = All-nil (IsType old); parts = tt }

formed_0 : IsWellFormed []
formed_0 = formed_empty

formed_1 : IsWellFormed (map basic_entry (Void ∷ []))
formed_1 = formed_added ([]) (Void) formed_0 (fresh ([]) (map basic_entry (Void ∷ Integer 1 true ∷ Integer 1 false ∷ Integer 2 true ∷ Integer 2 false ∷ Integer 4 true ∷ Integer 4 false ∷ Integer 8 true ∷ Integer 8 false ∷ [])) (Void) refl (lit< tt) refl) (record { proper = tt; named = All-nil (IsType []); parts = tt }) (lit< tt) (lit≤ tt)

formed_2 : IsWellFormed (map basic_entry (Void ∷ Integer 1 true ∷ []))
formed_2 = formed_added (map basic_entry (Void ∷ [])) (Integer 1 true) formed_1 (fresh (map basic_entry (Void ∷ [])) (map basic_entry (Integer 1 true ∷ Integer 1 false ∷ Integer 2 true ∷ Integer 2 false ∷ Integer 4 true ∷ Integer 4 false ∷ Integer 8 true ∷ Integer 8 false ∷ [])) (Integer 1 true) refl (lit< tt) refl) (integer_addable (map basic_entry (Void ∷ [])) 1 true (inl refl)) (lit< tt) (lit≤ tt)

formed_3 : IsWellFormed (map basic_entry (Void ∷ Integer 1 true ∷ Integer 1 false ∷ []))
formed_3 = formed_added (map basic_entry (Void ∷ Integer 1 true ∷ [])) (Integer 1 false) formed_2 (fresh (map basic_entry (Void ∷ Integer 1 true ∷ [])) (map basic_entry (Integer 1 false ∷ Integer 2 true ∷ Integer 2 false ∷ Integer 4 true ∷ Integer 4 false ∷ Integer 8 true ∷ Integer 8 false ∷ [])) (Integer 1 false) refl (lit< tt) refl) (integer_addable (map basic_entry (Void ∷ Integer 1 true ∷ [])) 1 false (inl refl)) (lit< tt) (lit≤ tt)

formed_4 : IsWellFormed (map basic_entry (Void ∷ Integer 1 true ∷ Integer 1 false ∷ Integer 2 true ∷ []))
formed_4 = formed_added (map basic_entry (Void ∷ Integer 1 true ∷ Integer 1 false ∷ [])) (Integer 2 true) formed_3 (fresh (map basic_entry (Void ∷ Integer 1 true ∷ Integer 1 false ∷ [])) (map basic_entry (Integer 2 true ∷ Integer 2 false ∷ Integer 4 true ∷ Integer 4 false ∷ Integer 8 true ∷ Integer 8 false ∷ [])) (Integer 2 true) refl (lit< tt) refl) (integer_addable (map basic_entry (Void ∷ Integer 1 true ∷ Integer 1 false ∷ [])) 2 true (inr (inl refl))) (lit< tt) (lit≤ tt)

formed_5 : IsWellFormed (map basic_entry (Void ∷ Integer 1 true ∷ Integer 1 false ∷ Integer 2 true ∷ Integer 2 false ∷ []))
formed_5 = formed_added (map basic_entry (Void ∷ Integer 1 true ∷ Integer 1 false ∷ Integer 2 true ∷ [])) (Integer 2 false) formed_4 (fresh (map basic_entry (Void ∷ Integer 1 true ∷ Integer 1 false ∷ Integer 2 true ∷ [])) (map basic_entry (Integer 2 false ∷ Integer 4 true ∷ Integer 4 false ∷ Integer 8 true ∷ Integer 8 false ∷ [])) (Integer 2 false) refl (lit< tt) refl) (integer_addable (map basic_entry (Void ∷ Integer 1 true ∷ Integer 1 false ∷ Integer 2 true ∷ [])) 2 false (inr (inl refl))) (lit< tt) (lit≤ tt)

formed_6 : IsWellFormed (map basic_entry (Void ∷ Integer 1 true ∷ Integer 1 false ∷ Integer 2 true ∷ Integer 2 false ∷ Integer 4 true ∷ []))
formed_6 = formed_added (map basic_entry (Void ∷ Integer 1 true ∷ Integer 1 false ∷ Integer 2 true ∷ Integer 2 false ∷ [])) (Integer 4 true) formed_5 (fresh (map basic_entry (Void ∷ Integer 1 true ∷ Integer 1 false ∷ Integer 2 true ∷ Integer 2 false ∷ [])) (map basic_entry (Integer 4 true ∷ Integer 4 false ∷ Integer 8 true ∷ Integer 8 false ∷ [])) (Integer 4 true) refl (lit< tt) refl) (integer_addable (map basic_entry (Void ∷ Integer 1 true ∷ Integer 1 false ∷ Integer 2 true ∷ Integer 2 false ∷ [])) 4 true (inr (inr (inl refl)))) (lit< tt) (lit≤ tt)

formed_7 : IsWellFormed (map basic_entry (Void ∷ Integer 1 true ∷ Integer 1 false ∷ Integer 2 true ∷ Integer 2 false ∷ Integer 4 true ∷ Integer 4 false ∷ []))
formed_7 = formed_added (map basic_entry (Void ∷ Integer 1 true ∷ Integer 1 false ∷ Integer 2 true ∷ Integer 2 false ∷ Integer 4 true ∷ [])) (Integer 4 false) formed_6 (fresh (map basic_entry (Void ∷ Integer 1 true ∷ Integer 1 false ∷ Integer 2 true ∷ Integer 2 false ∷ Integer 4 true ∷ [])) (map basic_entry (Integer 4 false ∷ Integer 8 true ∷ Integer 8 false ∷ [])) (Integer 4 false) refl (lit< tt) refl) (integer_addable (map basic_entry (Void ∷ Integer 1 true ∷ Integer 1 false ∷ Integer 2 true ∷ Integer 2 false ∷ Integer 4 true ∷ [])) 4 false (inr (inr (inl refl)))) (lit< tt) (lit≤ tt)

formed_8 : IsWellFormed (map basic_entry (Void ∷ Integer 1 true ∷ Integer 1 false ∷ Integer 2 true ∷ Integer 2 false ∷ Integer 4 true ∷ Integer 4 false ∷ Integer 8 true ∷ []))
formed_8 = formed_added (map basic_entry (Void ∷ Integer 1 true ∷ Integer 1 false ∷ Integer 2 true ∷ Integer 2 false ∷ Integer 4 true ∷ Integer 4 false ∷ [])) (Integer 8 true) formed_7 (fresh (map basic_entry (Void ∷ Integer 1 true ∷ Integer 1 false ∷ Integer 2 true ∷ Integer 2 false ∷ Integer 4 true ∷ Integer 4 false ∷ [])) (map basic_entry (Integer 8 true ∷ Integer 8 false ∷ [])) (Integer 8 true) refl (lit< tt) refl) (integer_addable (map basic_entry (Void ∷ Integer 1 true ∷ Integer 1 false ∷ Integer 2 true ∷ Integer 2 false ∷ Integer 4 true ∷ Integer 4 false ∷ [])) 8 true (inr (inr (inr refl)))) (lit< tt) (lit≤ tt)

formed_9 : IsWellFormed (map basic_entry (Void ∷ Integer 1 true ∷ Integer 1 false ∷ Integer 2 true ∷ Integer 2 false ∷ Integer 4 true ∷ Integer 4 false ∷ Integer 8 true ∷ Integer 8 false ∷ []))
formed_9 = formed_added (map basic_entry (Void ∷ Integer 1 true ∷ Integer 1 false ∷ Integer 2 true ∷ Integer 2 false ∷ Integer 4 true ∷ Integer 4 false ∷ Integer 8 true ∷ [])) (Integer 8 false) formed_8 (fresh (map basic_entry (Void ∷ Integer 1 true ∷ Integer 1 false ∷ Integer 2 true ∷ Integer 2 false ∷ Integer 4 true ∷ Integer 4 false ∷ Integer 8 true ∷ [])) (map basic_entry (Integer 8 false ∷ [])) (Integer 8 false) refl (lit< tt) refl) (integer_addable (map basic_entry (Void ∷ Integer 1 true ∷ Integer 1 false ∷ Integer 2 true ∷ Integer 2 false ∷ Integer 4 true ∷ Integer 4 false ∷ Integer 8 true ∷ [])) 8 false (inr (inr (inr refl)))) (lit< tt) (lit≤ tt)

pub basic-formed : IsWellFormed basic_table
basic-formed = formed_9
