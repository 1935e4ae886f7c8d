-- BOUNDS of a SEQ pointer that becomes one of one word, where what the new one points to, or the old one, has no size: of no bytes, the address
-- lies in the part or at its end.
use Rattle.std.proofs.Common.{◌≡◌, ◌≢◌, ◌⊎◌, inl, inr, ◌∙◌, ℕ, zero, suc, ◌<◌, ◌^◌, ℤ, pos, ◌+ℤ◌, Bool, true, false, ◌&&◌, ◌||◌, nat_eq, refl, ap, arith, if◌then◌else◌}
use Rattle.std.specs.Prelude.{bit_or, int_le}
use Rattle.std.specs.List.{list_all}
use Rattle.std.proofs.lemmas.Bool.Decides.{nat_tests}
use Rattle.std.proofs.lemmas.Int.{ints}
use Rattle.std.proofs.lemmas.Nat.{le_or_r, le_or_l}
use Rattle.cc_base.specs.declared.kind.Kind.TheVariants.{Seq}
use Rattle.cc_base.specs.declared.number.TypeId.{TypeId}
use Rattle.c_types.specs.Sound.{IsWellFormed}
use Rattle.integers.proofs.WordLaws.{word-below}
use Rattle.src_mem.specs.Pointers.{Location, Pointer, Null, Number, At, Function}
use Rattle.src_mem.specs.State as source
use Rattle.src_mem.specs.State.{Setting}
use Rattle.src_mem.specs.Checks.{null_or_in_bounds, fits_between, between, holds}
use Rattle.src_mem.specs.Facts.{IsSequenceAt}
use Rattle.src_mem.specs.Outlines.{outlines_of}
use Rattle.cured_code.specs.FlatState as flat
use Rattle.cured_code.specs.declared.parts.Parts.{Parts}
use Rattle.check_forms.specs.declared.slots.PointerSlots.{PointerSlots}
use Rattle.check_forms.specs.declared.slots.Fixed.{Fixed}
use Rattle.check_forms.specs.Conditions.{IsInPart, IsByteInPart, UnlessNull, is_in_part, is_within_part, flat_holds}
use Rattle.check_forms.specs.Rows.{in_part}
use Rattle.sim_relation.specs.Ground.{Ground, place, first_word}
use Rattle.sim_relation.specs.Related.{ground_of}
use Rattle.sim_checks.specs.Rows.{IsChecked}
use Rattle.sim_checks.proofs.Addresses.{there}
use Rattle.sim_checks.proofs.Standing.{stands-alike}

within-alike : (a low high : ℕ) → a < 2 ^ 64 → low < 2 ^ 33 → high < 2 ^ 33 → is_in_part 0 a low high ≡ is_within_part a low high
within-alike a low high h i j = grind (arith, nat_tests, ints, h, i, j)

no-part-at-all : (n : ℕ) → n ≢ 0 → n < 2 ^ 64 → is_in_part 0 n 0 0 ≡ false
no-part-at-all zero some h = absurd (some refl)
no-part-at-all (suc n) some h = grind (arith, nat_tests, h)

or-some : (m n : ℕ) → (0 < m) ⊎ (0 < n) → nat_eq (bit_or m n) 0 ≡ false
or-some m n (inl h) = let a = le_or_l m n in grind (arith, nat_tests, h, a)
or-some m n (inr h) = let a = le_or_r m n in grind (arith, nat_tests, h, a)

and-true : (b : Bool) → b ≡ (b && true)
and-true true = refl
and-true false = refl

fits-none : (low high : ℕ) (z : ℤ) → between (pos low) z (pos high) ≡ fits_between low high z 0
fits-none low high z = ap (λ (x : ℤ). int_le (pos low) z && int_le x (pos high)) (let e : z ≡ z +ℤ pos 0 = omega (arith, ints) in e)

module _ (w : Setting) (number_of : TypeId → ℕ) (s : source.State) (c : flat.State) (parts : Parts) (depth : ℕ) (t : TypeId) (sound : IsWellFormed w.table)
    (e : ℕ → ℕ) (p : PointerSlots) (size : Fixed) (none : size.value ≡ 0) where
  abbrev g : Ground
  g = ground_of w number_of s c

  part-is : flat_holds parts c.memory (in_part p size) e ≡ is_in_part 0 (e p.first) (e p.second) (e p.third)
  part-is =
      ap (λ (n : ℕ). flat_holds parts c.memory (if nat_eq n 1 then IsByteInPart p else IsInPart p size) e) none
      ∙ ap (λ (n : ℕ). is_in_part n (e p.first) (e p.second) (e p.third)) none

  place-compared : (l : Location) → IsChecked w number_of s c depth Seq t (At l) e p
      → is_in_part 0 (e p.first) (e p.second) (e p.third) ≡ fits_between l.part.low l.part.high l.offset 0
  place-compared l x =
      ap (λ (n : ℕ). is_in_part 0 n (e p.second) (e p.third)) x.words.0
      ∙ ap (λ (n : ℕ). is_in_part 0 (first_word g Seq (At l)) n (e p.third)) x.words.1
      ∙ ap (λ (n : ℕ). is_in_part 0 (first_word g Seq (At l)) (place g l.object l.part.low) n) x.words.2
      ∙ within-alike (first_word g Seq (At l)) (place g l.object l.part.low) (place g l.object l.part.high) (word-below _) low high
      ∙ stands-alike w number_of s c depth t sound l e p x ∙ fits-none l.part.low l.part.high l.offset
    where
      v : IsSequenceAt w (outlines_of s.memory) t l
      v = x.held.value

      low : place g l.object l.part.low < 2 ^ 33
      low = let h = (there w number_of s c x.related depth l.object l.part.low v.object v.located.found x.held.reaches v.typed.untagged).below in omega (arith, h)

      high : place g l.object l.part.high < 2 ^ 33
      high = let h = (there w number_of s c x.related depth l.object l.part.high v.object v.located.found x.held.reaches v.typed.untagged).below in omega (arith, h)

  pub unsized-compared : (q : Pointer) → IsChecked w number_of s c depth Seq t q e p
      → flat_holds parts c.memory (UnlessNull p (in_part p size)) e ≡ list_all (holds w s.memory) (null_or_in_bounds 0 q)
  unsized-compared Null x =
      ap (λ (n : ℕ). nat_eq (bit_or n (e p.second)) 0 || flat_holds parts c.memory (in_part p size) e) x.words.0
      ∙ ap (λ (n : ℕ). nat_eq (bit_or 0 n) 0 || flat_holds parts c.memory (in_part p size) e) x.words.1
  unsized-compared (Number n) x =
      ap (λ (b : Bool). b || flat_holds parts c.memory (in_part p size) e)
      (or-some (e p.first) (e p.second) (inl (let h = x.held.value.0 in let f = x.words.0 in positive n (e p.first) h f)))
      ∙ part-is ∙ ap (λ (k : ℕ). is_in_part 0 k (e p.second) (e p.third)) x.words.0 ∙ ap (λ (k : ℕ). is_in_part 0 n k (e p.third)) x.words.1
      ∙ ap (is_in_part 0 n 0) x.words.2 ∙ no-part-at-all n x.held.value.0 x.held.value.1
    where
      positive : (n m : ℕ) → n ≢ 0 → m ≡ n → 0 < m
      positive zero m h f = absurd (h refl)
      positive (suc n) m h f = omega (arith, f)
  unsized-compared (At l) x =
      ap (λ (b : Bool). b || flat_holds parts c.memory (in_part p size) e)
      (or-some (e p.first) (e p.second) (inr (let v : IsSequenceAt w (outlines_of s.memory) t l = x.held.value in
      let h = (there w number_of s c x.related depth l.object l.part.low v.object v.located.found x.held.reaches v.typed.untagged).above in
      let f = x.words.1 in omega (arith, h, f))))
      ∙ part-is ∙ place-compared l x ∙ and-true (fits_between l.part.low l.part.high l.offset 0)
  unsized-compared (Function f) x = absurd x.held.value
