-- NULL of SAFE and RTTI pointers, and BASE of SEQ ones.
use Rattle.std.proofs.Common.{◌≡◌, ◌⊎◌, inl, inr, ℕ, ◌<◌, not, nat_eq, true, ap, ◌∙◌, arith}
use Rattle.cc_base.specs.declared.kind.Kind.{Kind}
use Rattle.cc_base.specs.declared.kind.Kind.TheVariants.{Safe, Seq, Rtti, Wild}
use Rattle.cc_base.specs.declared.number.TypeId.{TypeId}
use Rattle.src_mem.specs.Pointers.{Pointer, Null, Number, At, Function}
use Rattle.src_mem.specs.State as source
use Rattle.src_mem.specs.State.{Setting}
use Rattle.src_mem.specs.Checks.{NotNull, HasBase, holds}
use Rattle.src_mem.specs.Facts.{IsSafeAt, IsTypedAt, IsSequenceAt}
use Rattle.src_mem.specs.Outlines.{outlines_of}
use Rattle.cured_code.specs.FlatState as flat
use Rattle.cured_code.specs.declared.parts.Parts.{Parts}
use Rattle.check_forms.specs.declared.slots.PointerSlots.{PointerSlots}
use Rattle.check_forms.specs.Conditions.{IsNotZero, flat_holds}
use Rattle.sim_relation.specs.Ground.{place, natural, function_word}
use Rattle.sim_relation.specs.Related.{ground_of}
use Rattle.sim_checks.specs.Rows.{IsChecked}
use Rattle.sim_checks.proofs.Addresses.{not-zero, there}

module _ (w : Setting) (number_of : TypeId → ℕ) (s : source.State) (c : flat.State) (parts : Parts) (depth : ℕ) where
  -- the value of a word's test
  tested : (e : ℕ → ℕ) (a n : ℕ) → e a ≡ n → 0 < n → flat_holds parts c.memory (IsNotZero a) e ≡ true
  tested e a n is h = ap (λ m. not (nat_eq m 0)) is ∙ not-zero n h

  safe-null : (t : TypeId) (q : Pointer) (e : ℕ → ℕ) (p : PointerSlots) → IsChecked w number_of s c depth Safe t q e p
      → flat_holds parts c.memory (IsNotZero p.first) e ≡ holds w s.memory (NotNull q)
  safe-null t Null e p x = ap (λ m. not (nat_eq m 0)) x.words
  safe-null t (Number n) e p x = absurd x.held.value
  safe-null t (At l) e p x =
      let v : IsSafeAt w (outlines_of s.memory) t l = x.held.value in
      let h = there w number_of s c x.related depth l.object (natural l.offset) v.object v.located.found x.held.reaches v.typed.untagged in
      tested e p.first (place (ground_of w number_of s c) l.object (natural l.offset)) x.words (let a = h.above in omega (arith, a))
  safe-null t (Function f) e p x = tested e p.first (function_word f) x.words (omega arith)

  typed-null : (t : TypeId) (q : Pointer) (e : ℕ → ℕ) (p : PointerSlots) → IsChecked w number_of s c depth Rtti t q e p
      → flat_holds parts c.memory (IsNotZero p.first) e ≡ holds w s.memory (NotNull q)
  typed-null t Null e p x = ap (λ m. not (nat_eq m 0)) x.words.0
  typed-null t (Number n) e p x = absurd x.held.value
  typed-null t (At l) e p x =
      let v : IsTypedAt w (outlines_of s.memory) t l = x.held.value in
      let h = there w number_of s c x.related depth l.object (natural l.offset) v.object v.located.found x.held.reaches v.typed.untagged in
      tested e p.first (place (ground_of w number_of s c) l.object (natural l.offset)) x.words.0 (let a = h.above in omega (arith, a))
  typed-null t (Function f) e p x = absurd x.held.value

  pub null-compared : (kind : Kind) (t : TypeId) (q : Pointer) (e : ℕ → ℕ) (p : PointerSlots) → (kind ≡ Safe) ⊎ (kind ≡ Rtti)
      → IsChecked w number_of s c depth kind t q e p → flat_holds parts c.memory (IsNotZero p.first) e ≡ holds w s.memory (NotNull q)
  null-compared Safe t q e p which x = safe-null t q e p x
  null-compared Rtti t q e p which x = typed-null t q e p x
  null-compared Seq t q e p (inl f) x = absurd (cc (f))
  null-compared Seq t q e p (inr f) x = absurd (cc (f))
  null-compared Wild t q e p (inl f) x = absurd (cc (f))
  null-compared Wild t q e p (inr f) x = absurd (cc (f))

  pub base-compared : (t : TypeId) (q : Pointer) (e : ℕ → ℕ) (p : PointerSlots) → IsChecked w number_of s c depth Seq t q e p
      → flat_holds parts c.memory (IsNotZero p.second) e ≡ holds w s.memory (HasBase q)
  base-compared t Null e p x = ap (λ m. not (nat_eq m 0)) x.words.1
  base-compared t (Number n) e p x = ap (λ m. not (nat_eq m 0)) x.words.1
  base-compared t (At l) e p x =
      let v : IsSequenceAt w (outlines_of s.memory) t l = x.held.value in
      let h = there w number_of s c x.related depth l.object l.part.low v.object v.located.found x.held.reaches v.typed.untagged in
      tested e p.second (place (ground_of w number_of s c) l.object l.part.low) x.words.1 (let a = h.above in omega (arith, a))
  base-compared t (Function f) e p x = absurd x.held.value
