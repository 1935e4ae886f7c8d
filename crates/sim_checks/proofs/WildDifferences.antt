-- SAME of a difference of two WILD pointers: a whole number of elements lies between them exactly where their words say so.
use Rattle.std.proofs.Common.{◌≡◌, ◌∙◌, ℕ, ◌<◌, ◌^◌, ℤ, pos, ◌+ℤ◌, ◌-ℤ◌, Bool, true, false, ◌&&◌, [], ◌∷◌, nat_eq, Some, refl, ap, sym, arith, if◌then◌else◌}
use Rattle.std.specs.Prelude.{◌==◌, int_rem}
use Rattle.std.specs.Int.{int_rem_euclid}
use Rattle.std.specs.Ordering.{int_eq}
use Rattle.std.proofs.lemmas.Int.{ints}
use Rattle.cc_base.specs.declared.fault.Check.TheVariants as check
use Rattle.cc_base.specs.declared.kind.Kind.TheVariants.{Wild}
use Rattle.cc_base.specs.declared.number.TypeId.{TypeId}
use Rattle.cc_base.specs.declared.place.Place.{Place}
use Rattle.c_types.specs.Table.{IsComplete}
use Rattle.c_types.specs.Layouts.{size_of}
use Rattle.c_types.specs.Sound.{IsWellFormed}
use Rattle.type_laws.proofs.Stairs.{IsWithin}
use Rattle.integers.specs.Words.{word, residue}
use Rattle.integers.specs.Operators.{signed, difference_words, remainder_signed}
use Rattle.integers.proofs.SignedLaws.{signed-word, difference-word}
use Rattle.integers.proofs.WordLaws.{residue-below, word-small}
use Rattle.src_mem.specs.Pointers.{Location, Pointer, Null, Number, At, Function, same_part}
use Rattle.src_mem.specs.State as source
use Rattle.src_mem.specs.State.{Setting}
use Rattle.src_mem.specs.Checks.{HasBase, AreElementsApart, holds}
use Rattle.src_mem.specs.Facts.{IsWildAt}
use Rattle.src_mem.specs.Outlines.{outlines_of}
use Rattle.cured_code.specs.FlatState as flat
use Rattle.cured_code.specs.declared.parts.Parts.{Parts}
use Rattle.check_forms.specs.declared.slots.PointerSlots.{PointerSlots}
use Rattle.check_forms.specs.declared.slots.Fixed.{Fixed}
use Rattle.check_forms.specs.Conditions as condition
use Rattle.check_forms.specs.Conditions.{AreOfArea, flat_holds}
use Rattle.check_forms.specs.Rows.{all_asked, elements_apart}
use Rattle.sim_relation.specs.Ground.{address}
use Rattle.sim_relation.specs.Related.{ground_of}
use Rattle.sim_checks.specs.Rows.{IsChecked}
use Rattle.sim_checks.specs.Moving.{all_hold}
use Rattle.sim_checks.specs.Comparing.{used}
use Rattle.sim_checks.proofs.Differences.{rem-zero, rem-euclid}
use Rattle.sim_checks.proofs.Sameness.{eq-true, true-eq}
use Rattle.sim_checks.proofs.Standing.{near-small}
use Rattle.sim_checks.proofs.Tagged.{wild-orders-compared}

alone : (b : Bool) → (b && true) ≡ b
alone true = refl
alone false = refl

first : (a b : Bool) → (a && b) ≡ true → a ≡ true
first true b h = refl
first false b h = h

module _ (w : Setting) (number_of : TypeId → ℕ) (s : source.State) (c : flat.State) (parts : Parts) (depth : ℕ) (e : ℕ → ℕ) (t u : TypeId) (sound : IsWellFormed w.table)
    (complete : IsComplete w.table t) (size : Fixed) (is : size.value ≡ size_of w.table t) where
  abbrev n : ℕ
  n = size_of w.table t

  abbrev base : Location → ℕ
  base l = address (ground_of w number_of s c) l.object

  some : 0 < size_of w.table t
  some = (sound.sized t complete).some

  few : size_of w.table t < 2 ^ 40
  few = let a = (sound.sized t complete).most in omega (arith, a)

  near-at : (v : TypeId) (l : Location) (p : PointerSlots) → IsChecked w number_of s c depth Wild v (At l) e p → IsWithin l.offset (2 ^ 40)
  near-at v l p x = let a : IsWildAt w (outlines_of s.memory) l = x.held.value in let h = a.least in let k = a.most in
      record { low = omega (arith, ints, h); high = omega (arith, ints, k) }

  module _ (k l : Location) (p o : PointerSlots) (x : IsChecked w number_of s c depth Wild t (At k) e p) (y : IsChecked w number_of s c depth Wild u (At l) e o)
      (at : Place) where
    -- in one area
    apart-alike : k.object ≡ l.object → flat_holds parts c.memory (condition.AreElementsApart p o size) e ≡ nat_eq (residue (k.offset -ℤ l.offset) n) 0
    apart-alike same =
        ap (λ a. nat_eq (remainder_signed (difference_words a (e o.first)) size.value) 0) x.words.0
        ∙ ap (λ a. nat_eq (remainder_signed (difference_words (word (pos (base k) +ℤ k.offset)) a) size.value) 0)
        (y.words.0 ∙ ap (λ i. word (pos (address (ground_of w number_of s c) i) +ℤ l.offset)) (sym same))
        ∙ ap (λ a. nat_eq (remainder_signed a size.value) 0)
        (difference-word (pos (base k) +ℤ k.offset) (pos (base k) +ℤ l.offset) ∙ ap word (less (pos (base k)) k.offset l.offset))
        ∙ ap (λ a. nat_eq (word (int_rem a (signed size.value))) 0) (signed-word (k.offset -ℤ l.offset) (near-small (k.offset -ℤ l.offset)
        (let a = near-at t k p x in let b = near-at u l o y in let a0 = a.low in let a1 = a.high in let b0 = b.low in let b1 = b.high in
        record { low = omega (arith, ints, a0, b1); high = omega (arith, ints, a1, b0) })))
        ∙ ap (λ a. nat_eq (word (int_rem (k.offset -ℤ l.offset) (signed a))) 0) (is ∙ sym (word-small n (let f = few in omega (arith, f))))
        ∙ ap (λ a. nat_eq (word (int_rem (k.offset -ℤ l.offset) a)) 0)
        (signed-word (pos n) (near-small (pos n) (let f = few in record { low = omega (arith, ints); high = omega (arith, ints, f) })))
        ∙ rem-zero (k.offset -ℤ l.offset) n some (let f = few in omega (arith, f))
      where
        less : (a y z : ℤ) → (a +ℤ y) -ℤ (a +ℤ z) ≡ y -ℤ z
        less a y z = omega (arith, ints)

    elements-alike : k.object ≡ l.object
        → all_hold parts c.memory (all_asked check.Same at (elements_apart p o (Some size))) e ≡ nat_eq (residue (k.offset -ℤ l.offset) n) 0
    elements-alike same = by (nat_eq size.value 1) refl
      where
        by : (b : Bool) → nat_eq size.value 1 ≡ b
            → all_hold parts c.memory (all_asked check.Same at (if b then [] else condition.AreElementsApart p o size ∷ [])) e
            ≡ nat_eq (residue (k.offset -ℤ l.offset) n) 0
        by true f = sym (eq-true (residue (k.offset -ℤ l.offset) n) 0
            (let h = residue-below (k.offset -ℤ l.offset) n some in let a = true-eq size.value 1 f in omega (arith, h, a, is)))
        by false f = alone _ ∙ apart-alike same

    differences-at : all_hold parts c.memory (all_asked check.Same at (AreOfArea p o ∷ elements_apart p o (Some size))) e
        ≡ holds w s.memory (AreElementsApart (size_of w.table t) (used Wild (At k)) (used Wild (At l)))
    differences-at =
        ap (λ b. b && all_hold parts c.memory (all_asked check.Same at (elements_apart p o (Some size))) e)
        (wild-orders-compared w number_of s c parts depth e x.related t u (At k) (At l) p o x y refl refl)
        ∙ by ((k.object == l.object) && same_part k.part l.part) refl
      where
        by : (b : Bool) → ((k.object == l.object) && same_part k.part l.part) ≡ b
            → (b && all_hold parts c.memory (all_asked check.Same at (elements_apart p o (Some size))) e)
            ≡ (b && int_eq (int_rem_euclid (k.offset -ℤ l.offset) (pos (size_of w.table t))) (pos 0))
        by false f = refl
        by true f = elements-alike (true-eq k.object l.object (first _ _ f)) ∙ sym (rem-euclid (k.offset -ℤ l.offset) n)

  pub wild-differences-compared : (q r : Pointer) (p o : PointerSlots) (at : Place) → IsChecked w number_of s c depth Wild t q e p
      → IsChecked w number_of s c depth Wild u r e o → holds w s.memory (HasBase q) ≡ true → holds w s.memory (HasBase r) ≡ true
      → all_hold parts c.memory (all_asked check.Same at (AreOfArea p o ∷ elements_apart p o (Some size))) e
      ≡ holds w s.memory (AreElementsApart (size_of w.table t) (used Wild q) (used Wild r))
  wild-differences-compared Null r p o at x y h i = absurd (cc (h))
  wild-differences-compared (Number m) r p o at x y h i = absurd (cc (h))
  wild-differences-compared (Function f) r p o at x y h i = absurd (cc (h))
  wild-differences-compared (At k) Null p o at x y h i = absurd (cc (i))
  wild-differences-compared (At k) (Number m) p o at x y h i = absurd (cc (i))
  wild-differences-compared (At k) (Function f) p o at x y h i = absurd (cc (i))
  wild-differences-compared (At k) (At l) p o at x y h i = differences-at k l p o x y at
