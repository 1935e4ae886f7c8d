-- SAME of a WILD pointer and one that isn't. Of `==`: both are settled, or one of them isn't. An order and a difference never hold.
use Rattle.std.proofs.Common.{◌≡◌, ◌≢◌, ◌∙◌, ℕ, Bool, true, false, ◌&&◌, pos, Option, refl, ap, sym}
use Rattle.std.specs.Prelude.{◌∷◌, ◌==◌}
use Rattle.std.specs.Int.{int_rem_euclid}
use Rattle.std.specs.Ordering.{int_eq}
use Rattle.cc_base.specs.declared.fault.Check.TheVariants as check
use Rattle.cc_base.specs.declared.kind.Kind.{Kind}
use Rattle.cc_base.specs.declared.kind.Kind.TheVariants.{Safe, Seq, Rtti, Wild}
use Rattle.cc_base.specs.declared.number.TypeId.{TypeId}
use Rattle.cc_base.specs.declared.place.Place.{Place}
use Rattle.c_types.specs.Sound.{IsWellFormed}
use Rattle.flat_mem.specs.Memory.{Memory}
use Rattle.src_mem.specs.Pointers.{Pointer, is_at, same_part}
use Rattle.src_mem.specs.State as source
use Rattle.src_mem.specs.State.{Setting}
use Rattle.src_mem.specs.Checks.{AreOfOnePart, AreElementsApart, AreComparable, stands_within, used_alike, apart, holds}
use Rattle.src_mem.specs.Outlines.{outlines_of, AreOutlines}
use Rattle.cured_code.specs.FlatState as flat
use Rattle.cured_code.specs.declared.parts.Parts.{Parts}
use Rattle.check_forms.specs.declared.slots.PointerSlots.{PointerSlots}
use Rattle.check_forms.specs.declared.slots.Fixed.{Fixed}
use Rattle.check_forms.specs.Conditions.{Condition, Never, Unless, IsWithinArea, IsWithinPart, flat_holds}
use Rattle.check_forms.specs.Rows.{all_asked, of_one, elements_apart, equated}
use Rattle.sim_checks.specs.Rows.{IsChecked, AreFunctionsLaid}
use Rattle.sim_checks.specs.Moving.{all_hold}
use Rattle.sim_checks.specs.Comparing.{used}
use Rattle.sim_checks.proofs.Sameness.{settled-alike, safe-within, typed-within}
use Rattle.sim_checks.proofs.Tagged.{settled-at}

alone : (b : Bool) → (b && true) ≡ b
alone true = refl
alone false = refl

module _ (w : Setting) (number_of : TypeId → ℕ) (s : source.State) (c : flat.State) (parts : Parts) (depth : ℕ) (e : ℕ → ℕ) (sound : IsWellFormed w.table)
    (outlines : AreOutlines w (outlines_of s.memory)) (laid : AreFunctionsLaid w number_of s c) where
  pub mixed-equalities-compared : (other : Kind) (t u : TypeId) (q r : Pointer) (p o : PointerSlots) (at : Place) → other ≢ Wild
      → IsChecked w number_of s c depth Wild t q e p → IsChecked w number_of s c depth other u r e o
      → (all_hold parts c.memory (all_asked check.Same at (equated Wild other p o)) e ≡ holds w s.memory (AreComparable (used Wild q) (used other r)))
      × (all_hold parts c.memory (all_asked check.Same at (equated other Wild o p)) e ≡ holds w s.memory (AreComparable (used other r) (used Wild q)))
  mixed-equalities-compared Wild t u q r p o at plain x y = absurd (plain refl)
  mixed-equalities-compared Safe t u q r p o at plain x y = (
    ap (λ b. b && true) (settled-at w number_of s c parts depth e x.related laid t q p x) ∙ ap (λ b. stands_within Wild q && b) (sym (safe-within w number_of s c x.related outlines parts depth e r)),
    alone (flat_holds parts c.memory (Unless p.second (IsWithinArea p)) e) ∙ settled-at w number_of s c parts depth e x.related laid t q p x
        ∙ ap (λ b. b && stands_within Wild q) (sym (safe-within w number_of s c x.related outlines parts depth e r)),
  )
  mixed-equalities-compared Rtti t u q r p o at plain x y = (
    ap (λ b. b && true) (settled-at w number_of s c parts depth e x.related laid t q p x) ∙ ap (λ b. stands_within Wild q && b) (sym (typed-within w number_of s c x.related outlines parts depth e r)),
    alone (flat_holds parts c.memory (Unless p.second (IsWithinArea p)) e) ∙ settled-at w number_of s c parts depth e x.related laid t q p x
        ∙ ap (λ b. b && stands_within Wild q) (sym (typed-within w number_of s c x.related outlines parts depth e r)),
  )
  mixed-equalities-compared Seq t u q r p o at plain x y = (
    ap (λ b. b && (flat_holds parts c.memory (Unless o.second (IsWithinPart o)) e && true)) (settled-at w number_of s c parts depth e x.related laid t q p x)
        ∙ ap (λ b. stands_within Wild q && b) (alone (flat_holds parts c.memory (Unless o.second (IsWithinPart o)) e)
        ∙ settled-alike w number_of s c y.related outlines parts depth e sound u r o y),
    ap (λ b. b && (flat_holds parts c.memory (Unless p.second (IsWithinArea p)) e && true)) (settled-alike w number_of s c y.related outlines parts depth e sound u r o y)
        ∙ ap (λ b. stands_within Seq r && b) (alone (flat_holds parts c.memory (Unless p.second (IsWithinArea p)) e)
        ∙ settled-at w number_of s c parts depth e x.related laid t q p x),
  )

-- an order, or a difference

never : (kind other : Kind) (p o : PointerSlots) → used_alike kind other ≡ false → of_one kind other p o ≡ Never
never Safe other p o h = refl
never Rtti other p o h = refl
never Seq Safe p o h = refl
never Seq Rtti p o h = refl
never Seq Seq p o h = absurd (cc (h))
never Seq Wild p o h = refl
never Wild Safe p o h = refl
never Wild Rtti p o h = refl
never Wild Seq p o h = refl
never Wild Wild p o h = absurd (cc (h))

module _ (w : Setting) (s : source.State) (m : Memory) (parts : Parts) (kind other : Kind) (q r : Pointer) (e : ℕ → ℕ) (p o : PointerSlots) (between : Option Fixed)
    (at : Place) (size : ℕ) (unlike : used_alike kind other ≡ false) where
  abbrev asked_is : Bool
  asked_is = all_hold parts m (all_asked check.Same at (of_one kind other p o ∷ elements_apart p o between)) e

  never-holds : asked_is ≡ false
  never-holds = ap (λ (x : Condition). all_hold parts m (all_asked check.Same at (x ∷ elements_apart p o between)) e) (never kind other p o unlike)

  no-part : holds w s.memory (AreOfOnePart (used kind q) (used other r)) ≡ false
  no-part = ap (λ b. b && is_at q (λ k. is_at r (λ l. (k.object == l.object) && same_part k.part l.part))) unlike

  no-elements : holds w s.memory (AreElementsApart size (used kind q) (used other r)) ≡ false
  no-elements = ap (λ b. b && int_eq (int_rem_euclid (apart q r) (pos size)) (pos 0)) no-part

  pub mixed-orders-compared : (asked_is ≡ holds w s.memory (AreOfOnePart (used kind q) (used other r)))
      × (asked_is ≡ holds w s.memory (AreElementsApart size (used kind q) (used other r)))
  mixed-orders-compared = (never-holds ∙ sym no-part, never-holds ∙ sym no-elements)
