-- Calls: what is handed to, and what comes from, a function of one class is a value of the other's parameter or result.
use Rattle.std.proofs.Common.{◌≡◌, ℕ, List, Some, sym, subst}
use Rattle.cc_base.specs.declared.number.TypeId.{TypeId}
use Rattle.c_types.specs.Flows.{HeldPointer, pointer_at, StandAlike, top, inside, CorrespondByPlace, IsOfOneClass}
use Rattle.c_types.specs.Sound.{IsWellFormed}
use Rattle.type_laws.proofs.Pointers.{Mirrors, equal_mirrors, class_turned}
use Rattle.src_mem.specs.Pointers.{Pointer}
use Rattle.src_mem.specs.State.{Setting}
use Rattle.src_mem.specs.Outlines.{Outline}
use Rattle.src_mem.specs.Facts.{IsValueOf}
use Rattle.facts_kept.proofs.Places.{value-class}

module _ (w : Setting) (sound : IsWellFormed w.table) (outlines : List Outline) where
  deeper : (t u : TypeId) (p q r s : HeldPointer) → StandAlike w.table t u p q → CorrespondByPlace w.table p.to q.to r s
      → CorrespondByPlace w.table t u r s
  deeper t u p q r s here (top c d a) = inside p q c d (top p q here) a
  deeper t u p q r s here (inside a b c d before e) = inside a b r s (deeper t u p q a b here before) e

  -- the pointer at the same place of a type of one class
  pub counterpart : (t u : TypeId) → IsOfOneClass w.table w.kind t u → (i : ℕ) (q : HeldPointer) → pointer_at w.table u i ≡ Some q
      → (p : HeldPointer) × (pointer_at w.table t i ≡ Some p) × (w.kind p.node ≡ w.kind q.node) × IsOfOneClass w.table w.kind p.to q.to
  unfolding Mirrors
  counterpart t u one i q e =
      let x = equal_mirrors w.table sound t u one.equal i q e in
      let here : StandAlike w.table t u x.0 q = (i, x.1, e) in
      (x.0, x.1, one.kinds x.0 q (top x.0 q here), record { equal = x.2; kinds = λ r s h. one.kinds r s (deeper t u x.0 q r s here h) })

  -- an argument, by the call's type u, is a value of the parameter of the function's type t; a result the other way round
  pub passed : (t u : TypeId) → IsOfOneClass w.table w.kind t u → (i : ℕ) (p q : HeldPointer) → pointer_at w.table t i ≡ Some p
      → pointer_at w.table u i ≡ Some q
      → (v : Pointer) → IsValueOf w outlines (w.kind q.node) q.to v → IsValueOf w outlines (w.kind p.node) p.to v
  passed t u one i p q e f v h =
      let x = counterpart t u one i q f in
      let same : x.0 ≡ p = (let a = x.1 in cc (a, e)) in
      let y = subst (λ c. IsValueOf w outlines c x.0.to v) (sym x.2)
      (value-class w sound outlines (w.kind q.node) q.to x.0.to v (class_turned w.table w.kind x.0.to q.to x.3) h) in
      subst (λ (z : HeldPointer). IsValueOf w outlines (w.kind z.node) z.to v) same y
