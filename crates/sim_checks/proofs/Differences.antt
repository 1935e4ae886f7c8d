-- SAME of a difference: a whole number of elements lies between two pointers of one part exactly where their words say so.
use Rattle.std.proofs.Common.{◌≡◌, ◌∙◌, ◌⊎◌, ⊎_elim, ℕ, suc, ◌+◌, ◌-◌, ◌*◌, ◌/◌, ◌<◌, ◌≤◌, ◌%◌, ◌^◌, ℤ, pos, negsuc, neg_ℤ, ◌+ℤ◌, ◌-ℤ◌, Bool, true, false, ◌&&◌, [], ◌∷◌, length, nat_eq, Some, refl, ap, sym, subst, arith, if◌then◌else◌}
use Rattle.std.specs.Prelude.{◌==◌, ◌*ℤ◌, int_rem, slice_index_or}
use Rattle.std.specs.Int.{int_div_euclid, int_rem_euclid}
use Rattle.std.specs.Ordering.{int_eq}
use Rattle.std.proofs.lemmas.Bool.Decides.{nat_tests}
use Rattle.std.proofs.lemmas.Int.{ints}
use Rattle.std.proofs.lemmas.Nat.{div-add-mod', mod-mul-add}
use Rattle.std.proofs.lemmas.Option.{slice_get-get_or}
use Rattle.std.proofs.Math.Nat.{mod-lt, mod-eq_of_lt}
use Rattle.cc_base.specs.declared.fault.Check.TheVariants as check
use Rattle.cc_base.specs.declared.kind.Kind.TheVariants.{Seq}
use Rattle.cc_base.specs.declared.number.TypeId.{TypeId}
use Rattle.cc_base.specs.declared.place.Place.{Place}
use Rattle.c_types.specs.Table.{IsComplete}
use Rattle.c_types.specs.Layouts.{size_of}
use Rattle.c_types.specs.Cells.{Cell, raw, IsBetweenPointers}
use Rattle.c_types.specs.Equality.{cells_of, repeated_cell}
use Rattle.c_types.specs.Flows.{CellsAgree}
use Rattle.c_types.specs.Sound.{IsWellFormed}
use Rattle.c_types.specs.Widths.{before, cured_size}
use Rattle.c_types.proofs.OrderedPointers.{cells_ordered}
use Rattle.type_laws.proofs.OneClass.{move-alike}
use Rattle.type_laws.proofs.Pointers.{class_turned}
use Rattle.type_laws.proofs.Stairs.{IsWithin, steps-stair, stair-within, residue-is}
use Rattle.type_laws.proofs.Widths.{before-same-place}
use Rattle.integers.specs.Words.{word, residue}
use Rattle.integers.specs.Operators.{signed, difference_words, remainder_signed}
use Rattle.integers.proofs.SignedLaws.{signed-word, difference-word}
use Rattle.integers.proofs.WordLaws.{residue-below, word-small}
use Rattle.src_mem.specs.Pointers.{Location, Pointer, Null, Number, At, Function, distance, same_part}
use Rattle.src_mem.specs.State as source
use Rattle.src_mem.specs.State.{Setting}
use Rattle.src_mem.specs.Checks.{HasBase, AreElementsApart, holds}
use Rattle.src_mem.specs.Facts.{IsSequenceAt, IsSameShifted}
use Rattle.src_mem.specs.Outlines.{outlines_of, AreOutlines}
use Rattle.facts_kept.proofs.Holds.{first-between}
use Rattle.cil_facts.proofs.Homes.{complete-along}
use Rattle.cured_code.specs.FlatState as flat
use Rattle.cured_code.specs.declared.parts.Parts.{Parts}
use Rattle.check_forms.specs.declared.slots.PointerSlots.{PointerSlots}
use Rattle.check_forms.specs.declared.slots.Fixed.{Fixed}
use Rattle.check_forms.specs.Conditions as condition
use Rattle.check_forms.specs.Conditions.{AreOfPart, flat_holds}
use Rattle.check_forms.specs.Rows.{all_asked, elements_apart}
use Rattle.sim_relation.specs.Ground.{Ground, place}
use Rattle.sim_relation.specs.Related.{ground_of}
use Rattle.sim_relation.proofs.Bounds.{step_of, cell-steps, width-most, distance-is, widths}
use Rattle.sim_checks.specs.Rows.{IsChecked}
use Rattle.sim_checks.specs.Moving.{all_hold}
use Rattle.sim_checks.specs.Comparing.{used}
use Rattle.sim_checks.proofs.Distances.{times-sum}
use Rattle.sim_checks.proofs.Sameness.{bool-same, parts-alike, eq-true, true-eq}
use Rattle.sim_checks.proofs.Sequences.{long, ends, small}
use Rattle.sim_checks.proofs.Standing.{near-small}

-- Remainders

low-zero : (k : ℕ) → k < 2 ^ 60 → nat_eq (k % 2 ^ 64) 0 ≡ nat_eq k 0
low-zero k h = grind (arith, nat_tests)

-- a signed remainder is 0 where the residue is
pub rem-zero : (z : ℤ) (m : ℕ) → 0 < m → m < 2 ^ 60 → nat_eq (word (int_rem z (pos m))) 0 ≡ nat_eq (residue z m) 0
rem-zero (pos a) m some few = low-zero (a % m) (let h = mod-lt a some in omega (arith, h, few))
rem-zero (negsuc a) m some few = ⊎_elim inside last (case (suc (a % m)) m (mod-lt a some))
  where
    case : (x m : ℕ) → x ≤ m → (x < m) ⊎ (x ≡ m)
    case x m h = grind (arith, h)

    splits : suc a ≡ a / m * m + suc (a % m)
    splits = let e : a / m * m + a % m ≡ a = div-add-mod' a m in omega (arith, e)

    other : (k : ℕ) → k < 2 ^ 60 → nat_eq (word (neg_ℤ (pos (suc k)))) 0 ≡ false
    other k h = grind (arith, nat_tests)

    differ : (x m : ℕ) → suc x < m → false ≡ nat_eq (m - 1 - x) 0
    differ x m h = grind (arith, nat_tests)

    same : (x m : ℕ) → suc x ≡ m → true ≡ nat_eq (m - 1 - x) 0
    same x m h = grind (arith, nat_tests)

    inside : suc (a % m) < m → nat_eq (word (int_rem (negsuc a) (pos m))) 0 ≡ nat_eq (residue (negsuc a) m) 0
    inside h =
        let e : suc a % m ≡ suc (a % m) = ap (λ x. x % m) splits ∙ mod-mul-add (a / m) m (suc (a % m)) h in
        ap (λ x. nat_eq (word (neg_ℤ (pos x))) 0) e ∙ other (a % m) (omega (arith, h, few)) ∙ differ (a % m) m h

    last : suc (a % m) ≡ m → nat_eq (word (int_rem (negsuc a) (pos m))) 0 ≡ nat_eq (residue (negsuc a) m) 0
    last h =
        let f : suc a ≡ suc (a / m) * m + 0 = (let s = splits in omega (arith, s, h)) in
        let e : suc a % m ≡ 0 = ap (λ x. x % m) f ∙ mod-mul-add (suc (a / m)) m 0 some in
        ap (λ x. nat_eq (word (neg_ℤ (pos x))) 0) e ∙ same (a % m) m h

-- an integer by its quotient and its residue
euclid-splits : (z : ℤ) (n : ℕ) → 0 < n → z ≡ int_div_euclid z (pos n) *ℤ pos n +ℤ pos (residue z n)
euclid-splits (pos d) n h = let e : d / n * n + d % n ≡ d = div-add-mod' d n in omega (arith, ints, e)
euclid-splits (negsuc d) n h = let e : d / n * n + d % n ≡ d = div-add-mod' d n in let g : d % n < n = mod-lt d h in omega (arith, ints, e, g)

-- the residue of a difference is 0 where the residues are equal
zero-apart : (n : ℕ) (a b : ℤ) (x y : ℕ) → x < n → y < n → nat_eq (residue ((a *ℤ pos n +ℤ pos x) -ℤ (b *ℤ pos n +ℤ pos y)) n) 0 ≡ nat_eq x y
zero-apart n a b x y hx hy = ⊎_elim up down (case y x)
  where
    case : (y x : ℕ) → (y ≤ x) ⊎ (x < y)
    case y x = grind arith

    back : ((a -ℤ b) +ℤ b) ≡ a
    back = omega (arith, ints)

    whole : a *ℤ pos n ≡ (a -ℤ b) *ℤ pos n +ℤ b *ℤ pos n
    whole = ap (λ z. z *ℤ pos n) (sym back) ∙ times-sum (a -ℤ b) b n

    one-less : (a -ℤ b) *ℤ pos n ≡ ((a -ℤ b) -ℤ pos 1) *ℤ pos n +ℤ pos n
    one-less =
        let e : ((a -ℤ b) -ℤ pos 1) +ℤ pos 1 ≡ a -ℤ b = omega (arith, ints) in
        ap (λ z. z *ℤ pos n) (sym e) ∙ times-sum ((a -ℤ b) -ℤ pos 1) (pos 1) n
        ∙ (let f : pos 1 *ℤ pos n ≡ pos n = omega (arith, ints) in ap (λ z. ((a -ℤ b) -ℤ pos 1) *ℤ pos n +ℤ z) f)

    up : y ≤ x → nat_eq (residue ((a *ℤ pos n +ℤ pos x) -ℤ (b *ℤ pos n +ℤ pos y)) n) 0 ≡ nat_eq x y
    up h =
        let e : (a *ℤ pos n +ℤ pos x) -ℤ (b *ℤ pos n +ℤ pos y) ≡ (a -ℤ b) *ℤ pos n +ℤ pos (x - y) = (let f = whole in omega (arith, ints, f, h)) in
        ap (λ z. nat_eq (residue z n) 0) e ∙ ap (λ k. nat_eq k 0) (residue-is n (a -ℤ b) (x - y) (omega (arith, hx))) ∙ same x y h
      where
        same : (x y : ℕ) → y ≤ x → nat_eq (x - y) 0 ≡ nat_eq x y
        same x y h = grind (arith, nat_tests)

    down : x < y → nat_eq (residue ((a *ℤ pos n +ℤ pos x) -ℤ (b *ℤ pos n +ℤ pos y)) n) 0 ≡ nat_eq x y
    down h =
        let e : (a *ℤ pos n +ℤ pos x) -ℤ (b *ℤ pos n +ℤ pos y) ≡ ((a -ℤ b) -ℤ pos 1) *ℤ pos n +ℤ pos (n + x - y) =
        (let f = whole in let k = one-less in omega (arith, ints, f, k, h, hy)) in
        ap (λ z. nat_eq (residue z n) 0) e ∙ ap (λ k. nat_eq k 0) (residue-is n ((a -ℤ b) -ℤ pos 1) (n + x - y) (omega (arith, h, hy))) ∙ differ n x y h hy
      where
        differ : (n x y : ℕ) → x < y → y < n → nat_eq (n + x - y) 0 ≡ nat_eq x y
        differ n x y h k = grind (arith, nat_tests)

pub rem-euclid : (z : ℤ) (n : ℕ) → int_eq (int_rem_euclid z (pos n)) (pos 0) ≡ nat_eq (residue z n) 0
rem-euclid (pos a) n = zero-eq (a % n)
  where
    zero-eq : (k : ℕ) → int_eq (pos k) (pos 0) ≡ nat_eq k 0
    zero-eq k = grind (arith, nat_tests)
rem-euclid (negsuc a) n = zero-eq (n - 1 - a % n)
  where
    zero-eq : (k : ℕ) → int_eq (pos k) (pos 0) ≡ nat_eq k 0
    zero-eq k = grind (arith, nat_tests)

-- SEQ

module _ (w : Setting) (number_of : TypeId → ℕ) (s : source.State) (c : flat.State) (parts : Parts) (depth : ℕ) (t : TypeId) (sound : IsWellFormed w.table)
    (complete : IsComplete w.table t) (outlines : AreOutlines w (outlines_of s.memory)) where
  abbrev g : Ground
  g = ground_of w number_of s c

  abbrev n : ℕ
  n = length (cells_of w.table t)

  abbrev M : ℕ
  M = cured_size w.table w.kind t

  some : 0 < length (cells_of w.table t)
  some = (ends w sound t complete).some

  -- it moves in steps of the type, so it stands before no part of a pointer
  whole-residue : (z : ℤ) → IsSameShifted w t z → IsBetweenPointers (cells_of w.table t) (residue z (length (cells_of w.table t)))
  whole-residue z shifted =
      let less = residue-below z (length (cells_of w.table t)) some in
      first-between w sound t (cells_of w.table t) (residue z (length (cells_of w.table t))) some (slice_index_or (cells_of w.table t) (residue z (length (cells_of w.table t))) raw)
      (slice_get-get_or (cells_of w.table t) (residue z (length (cells_of w.table t))) raw less)
      (subst (λ (x : Cell). CellsAgree w.table w.kind x (repeated_cell (cells_of w.table t) 0)) (here less) (shifted.agree 0))
    where
      still : z +ℤ pos 0 ≡ z
      still = omega (arith, ints)

      here : residue z (length (cells_of w.table t)) < length (cells_of w.table t)
          → repeated_cell (cells_of w.table t) (residue (z +ℤ pos 0) (size_of w.table t)) ≡ slice_index_or (cells_of w.table t) (residue z (length (cells_of w.table t))) raw
      here less =
          ap (λ y. repeated_cell (cells_of w.table t) (residue y (size_of w.table t))) still
          ∙ ap (λ k. repeated_cell (cells_of w.table t) (residue z k)) (sym (long w sound t complete))
          ∙ ap (λ k. slice_index_or (cells_of w.table t) k raw) (mod-eq_of_lt less)

  -- residues are told apart by their places
  residues-alike : (y z : ℤ) → IsSameShifted w t y → IsSameShifted w t z
      → nat_eq (before w.kind (cells_of w.table t) (residue y n)) (before w.kind (cells_of w.table t) (residue z n)) ≡ nat_eq (residue y n) (residue z n)
  residues-alike y z hy hz = bool-same _ _
      (λ h. eq-true _ _ (before-same-place w.kind (cells_of w.table t) (residue y n) (residue z n) (cells_ordered w.table sound t) (whole-residue y hy) (whole-residue z hz)
      (let a = residue-below y n some in omega (arith, a)) (let a = residue-below z n some in omega (arith, a)) (true-eq _ _ h)))
      (λ h. eq-true _ _ (ap (before w.kind (cells_of w.table t)) (true-eq _ _ h)))

  -- in C
  source-apart : (y z : ℤ) → int_eq (int_rem_euclid (y -ℤ z) (pos (size_of w.table t))) (pos 0) ≡ nat_eq (residue y n) (residue z n)
  source-apart y z =
      ap (λ k. int_eq (int_rem_euclid (y -ℤ z) (pos k)) (pos 0)) (sym (long w sound t complete)) ∙ rem-euclid (y -ℤ z) n
      ∙ ap (λ x. nat_eq (residue (x -ℤ z) n) 0) (euclid-splits y n some)
      ∙ ap (λ x. nat_eq (residue ((int_div_euclid y (pos n) *ℤ pos n +ℤ pos (residue y n)) -ℤ x) n) 0) (euclid-splits z n some)
      ∙ zero-apart n (int_div_euclid y (pos n)) (int_div_euclid z (pos n)) (residue y n) (residue z n) (residue-below y n some) (residue-below z n some)

  rest-below : (z : ℤ) → before w.kind (cells_of w.table t) (residue z (length (cells_of w.table t))) < cured_size w.table w.kind t
  rest-below z =
      (steps-stair (before w.kind (cells_of w.table t)) (step_of w.kind (cells_of w.table t)) (length (cells_of w.table t))
      (cell-steps w.kind (cells_of w.table t) some) (ends w sound t complete).last).below (residue z (length (cells_of w.table t)))
      (residue-below z (length (cells_of w.table t)) some)

  -- on words
  words-apart : (y z : ℤ) → nat_eq (word (int_rem (widths w.kind (cells_of w.table t) y -ℤ widths w.kind (cells_of w.table t) z) (pos M))) 0
      ≡ nat_eq (before w.kind (cells_of w.table t) (residue y n)) (before w.kind (cells_of w.table t) (residue z n))
  words-apart y z =
      rem-zero (widths w.kind (cells_of w.table t) y -ℤ widths w.kind (cells_of w.table t) z) M (let a = rest-below y in omega (arith, a))
      (let a = small w sound t complete in omega (arith, a))
      ∙ zero-apart M (int_div_euclid y (pos n)) (int_div_euclid z (pos n)) (before w.kind (cells_of w.table t) (residue y n))
      (before w.kind (cells_of w.table t) (residue z n)) (rest-below y) (rest-below z)

  module _ (e : ℕ → ℕ) where
    abbrev Checks : Pointer → PointerSlots → Type 0
    Checks q p = IsChecked w number_of s c depth Seq t q e p

    first-is : (l : Location) (p : PointerSlots) (x : Checks (At l) p)
        → e p.first ≡ word (pos (place g l.object l.part.low) +ℤ widths w.kind (cells_of w.table t) (distance l))
    first-is l p x =
        let v : IsSequenceAt w (outlines_of s.memory) t l = x.held.value in
        let made = complete-along w sound t l.made (class_turned w.table w.kind l.made t v.made) complete in
        x.words.0 ∙ ap (λ z. word (pos (place g l.object l.part.low) +ℤ z))
        (move-alike w.table sound w.kind l.made t made complete v.made (distance l) ∙ distance-is w.table w.kind t complete (long w sound t complete) (distance l))

    gone-within : (l : Location) (p : PointerSlots) (x : Checks (At l) p) → IsWithin (widths w.kind (cells_of w.table t) (distance l)) (2 ^ 60)
    gone-within l p x =
        let v : IsSequenceAt w (outlines_of s.memory) t l = x.held.value in
        let h = stair-within (before w.kind (cells_of w.table t)) (step_of w.kind (cells_of w.table t)) (length (cells_of w.table t)) 24 (2 ^ 52)
        (cell-steps w.kind (cells_of w.table t) some)
        (λ r. width-most w.kind (slice_index_or (cells_of w.table t) r raw)) (distance l)
        (let a = v.least in let b = v.most in record { low = omega (arith, ints, a); high = omega (arith, ints, b) }) in
        let a = h.low in let b = h.high in record { low = omega (arith, ints, a); high = omega (arith, ints, b) }

    module _ (k l : Location) (p o : PointerSlots) (x : Checks (At k) p) (y : Checks (At l) o) (size : Fixed) (is : size.value ≡ cured_size w.table w.kind t) (at : Place) where
      shifted-k : IsSameShifted w t (distance k)
      shifted-k = let v : IsSequenceAt w (outlines_of s.memory) t k = x.held.value in v.shifted complete

      shifted-l : IsSameShifted w t (distance l)
      shifted-l = let v : IsSequenceAt w (outlines_of s.memory) t l = y.held.value in v.shifted complete

      -- where both are of one part
      apart-alike : place g k.object k.part.low ≡ place g l.object l.part.low
          → flat_holds parts c.memory (condition.AreElementsApart p o size) e ≡ nat_eq (residue (distance k) n) (residue (distance l) n)
      apart-alike same =
          ap (λ a. nat_eq (remainder_signed (difference_words a (e o.first)) size.value) 0) (first-is k p x)
          ∙ ap (λ a. nat_eq (remainder_signed (difference_words (word (pos (place g k.object k.part.low) +ℤ X)) a) size.value) 0)
          (first-is l o y ∙ ap (λ z. word (pos z +ℤ Y)) (sym same))
          ∙ ap (λ a. nat_eq (remainder_signed a size.value) 0)
          (difference-word (pos (place g k.object k.part.low) +ℤ X) (pos (place g k.object k.part.low) +ℤ Y) ∙ ap word less)
          ∙ ap (λ a. nat_eq (word (int_rem a (signed size.value))) 0) (signed-word (X -ℤ Y) (near-small (X -ℤ Y)
          (let a = gone-within k p x in let b = gone-within l o y in let a0 = a.low in let a1 = a.high in let b0 = b.low in let b1 = b.high in
          record { low = omega (arith, ints, a0, b1); high = omega (arith, ints, a1, b0) })))
          ∙ ap (λ a. nat_eq (word (int_rem (X -ℤ Y) (signed a))) 0) (is ∙ sym (word-small M few))
          ∙ ap (λ a. nat_eq (word (int_rem (X -ℤ Y) a)) 0)
          (signed-word (pos M) (near-small (pos M) (let a = small w sound t complete in record { low = omega (arith, ints); high = omega (arith, ints, a) })))
          ∙ words-apart (distance k) (distance l) ∙ residues-alike (distance k) (distance l) shifted-k shifted-l
        where
          X : ℤ
          X = widths w.kind (cells_of w.table t) (distance k)

          Y : ℤ
          Y = widths w.kind (cells_of w.table t) (distance l)

          few : cured_size w.table w.kind t < 2 ^ 64
          few = let a = small w sound t complete in omega (arith, a)

          less : (pos (place g k.object k.part.low) +ℤ widths w.kind (cells_of w.table t) (distance k)) -ℤ (pos (place g k.object k.part.low) +ℤ widths w.kind (cells_of w.table t) (distance l))
              ≡ widths w.kind (cells_of w.table t) (distance k) -ℤ widths w.kind (cells_of w.table t) (distance l)
          less = omega (arith, ints)

      -- elements of one byte always lie a whole number apart
      byte-alike : cured_size w.table w.kind t ≡ 1 → nat_eq (residue (distance k) n) (residue (distance l) n) ≡ true
      byte-alike one =
          sym (residues-alike (distance k) (distance l) shifted-k shifted-l)
          ∙ eq-true _ _ (let a = rest-below (distance k) in let b = rest-below (distance l) in omega (arith, a, b, one))

      elements-alike : place g k.object k.part.low ≡ place g l.object l.part.low
          → all_hold parts c.memory (all_asked check.Same at (elements_apart p o (Some size))) e ≡ nat_eq (residue (distance k) n) (residue (distance l) n)
      elements-alike same = by (nat_eq size.value 1) refl
        where
          by : (b : Bool) → nat_eq size.value 1 ≡ b
              → all_hold parts c.memory (all_asked check.Same at (if b then [] else condition.AreElementsApart p o size ∷ [])) e
              ≡ nat_eq (residue (distance k) n) (residue (distance l) n)
          by true f = sym (byte-alike (sym is ∙ true-eq size.value 1 f))
          by false f = alone _ ∙ apart-alike same
            where
              alone : (b : Bool) → (b && true) ≡ b
              alone true = refl
              alone false = refl

      differences-at : all_hold parts c.memory (all_asked check.Same at (AreOfPart p o ∷ elements_apart p o (Some size))) e
          ≡ holds w s.memory (AreElementsApart (size_of w.table t) (used Seq (At k)) (used Seq (At l)))
      differences-at =
          ap (λ b. b && all_hold parts c.memory (all_asked check.Same at (elements_apart p o (Some size))) e)
          (parts-alike w number_of s c x.related outlines parts depth e t t k l p o x y)
          ∙ by ((k.object == l.object) && same_part k.part l.part) refl
        where
          by : (b : Bool) → ((k.object == l.object) && same_part k.part l.part) ≡ b
              → (b && all_hold parts c.memory (all_asked check.Same at (elements_apart p o (Some size))) e)
              ≡ (b && int_eq (int_rem_euclid (k.offset -ℤ l.offset) (pos (size_of w.table t))) (pos 0))
          by false f = refl
          by true f =
              elements-alike (ap (λ i. place g i k.part.low) object ∙ ap (place g l.object) low)
              ∙ sym (source-apart (distance k) (distance l))
              ∙ ap (λ z. int_eq (int_rem_euclid z (pos (size_of w.table t))) (pos 0))
              (apart k.offset l.offset (pos k.part.low) (pos l.part.low) (ap pos low))
            where
              first : (a b : Bool) → (a && b) ≡ true → a ≡ true
              first true b h = refl
              first false b h = h

              second : (a b : Bool) → (a && b) ≡ true → b ≡ true
              second true b h = h
              second false b h = absurd (cc (h))

              object : k.object ≡ l.object
              object = true-eq k.object l.object (first _ _ f)

              low : k.part.low ≡ l.part.low
              low = true-eq k.part.low l.part.low (first _ _ (second (k.object == l.object) (same_part k.part l.part) f))

              apart : (a b x y : ℤ) → x ≡ y → (a -ℤ x) -ℤ (b -ℤ y) ≡ a -ℤ b
              apart a b x y h = omega (arith, ints, h)

    pub differences-compared : (q r : Pointer) (p o : PointerSlots) (size : Fixed) (at : Place) → size.value ≡ cured_size w.table w.kind t → Checks q p → Checks r o
        → holds w s.memory (HasBase q) ≡ true → holds w s.memory (HasBase r) ≡ true
        → all_hold parts c.memory (all_asked check.Same at (AreOfPart p o ∷ elements_apart p o (Some size))) e
        ≡ holds w s.memory (AreElementsApart (size_of w.table t) (used Seq q) (used Seq r))
    differences-compared Null r p o size at is x y h i = absurd (cc (h))
    differences-compared (Number m) r p o size at is x y h i = absurd (cc (h))
    differences-compared (Function f) r p o size at is x y h i = absurd (cc (h))
    differences-compared (At k) Null p o size at is x y h i = absurd (cc (i))
    differences-compared (At k) (Number m) p o size at is x y h i = absurd (cc (i))
    differences-compared (At k) (Function f) p o size at is x y h i = absurd (cc (i))
    differences-compared (At k) (At l) p o size at is x y h i = differences-at k l p o x y size is at
