-- A later table keeps how many pointers an object of a complete type holds, and there are no fewer in any.
use Rattle.std.proofs.Common.{◌≡◌, ℕ, zero, suc, ◌<◌, ◌≤◌, Bool, true, false, length, refl, ap, ◌∙◌, arith}
use Rattle.std.specs.List.{Contains}
use Rattle.std.proofs.lemmas.List.Elements.{All-contains}
use Rattle.cc_base.specs.declared.number.TypeId.{TypeId}
use Rattle.c_types.specs.Layouts.{size_of}
use Rattle.c_types.specs.PointerCounts.{pointers_of_shape, pointers_step, pointers_in}
use Rattle.c_types.specs.Sound.{IsWellFormed}
use Rattle.c_types.specs.Table.{Table, Entry, IsComplete, IsRanked, entry_at, shape_at, members_at, parts_at, is_complete, descend}
use Rattle.c_types.specs.declared.layout.Layout.{Layout}
use Rattle.c_types.proofs.Descent.{rank_bound}
use Rattle.c_types.proofs.PointerCounts.{pointers_same, pointers_none}
use Rattle.c_typing.specs.Extensions.{IsExtended}

module _ (T U : Table) (x : IsExtended T U) (w : IsWellFormed T) where
  by_rank : (rank : TypeId → ℕ) → IsRanked T rank → (n k : ℕ) (t : TypeId) → IsComplete T t → rank t < n → rank t < k
      → descend (pointers_step U) 0 k t ≡ descend (pointers_step T) 0 n t
  by_rank rank r zero k t c p q = absurd (omega arith)
  by_rank rank r (suc n) zero t c p q = absurd (omega arith)
  by_rank rank r (suc n) (suc k) t c p q =
      let f : TypeId → ℕ = descend (pointers_step U) 0 k in
      let g : TypeId → ℕ = descend (pointers_step T) 0 n in
      let part : (m : TypeId) → Contains (parts_at T t) m → IsComplete T m = λ m d. All-contains (IsComplete T) (parts_at T t) m (w.each t).parts d in
      ap (λ (e : Entry). pointers_of_shape (size_of U) f e.shape e.members) (x.complete t c)
      ∙ pointers_same (size_of U) (size_of T) f g (shape_at T t) (members_at T t)
      (λ m d. (
        ap (λ (l : Layout). l.size) (x.layouts m (part m d)),
        let falls : rank m < rank t = r.falls t m d in by_rank rank r n k m (part m d) (omega arith) (omega arith),
      ))

  pub pointers-kept : (t : TypeId) → IsComplete T t → pointers_in U t ≡ pointers_in T t
  unfolding pointers_in
  pointers-kept t c =
      let rank = w.order.0 in
      let low : rank t < suc (length T) = rank_bound T w.order.0 w.order.1 t in
      let longer = x.longer in
      by_rank w.order.0 w.order.1 (suc (length T)) (suc (length U)) t c low (omega (arith, low, longer))

  pub pointers-most : (t : TypeId) → pointers_in T t ≤ pointers_in U t
  pointers-most t = by (is_complete (entry_at T t)) refl
    where
      by : (b : Bool) → is_complete (entry_at T t) ≡ b → pointers_in T t ≤ pointers_in U t
      by true c = let e = pointers-kept t c in omega (arith, e)
      by false c = let e = pointers_none T t c in omega (arith, e)
