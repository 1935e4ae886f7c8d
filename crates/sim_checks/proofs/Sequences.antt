-- BOUNDS of a SEQ pointer, before a use and before it becomes a pointer of one word.
use Rattle.std.proofs.Common.{◌≡◌, ◌≢◌, ◌⊎◌, inl, inr, ◌∙◌, ℕ, zero, suc, ◌+◌, ◌-◌, ◌*◌, ◌<◌, ◌≤◌, ◌^◌, Bool, true, false, ◌&&◌, ◌||◌, nat_eq, nat_lt, List, [], ◌∷◌, length, slice_get, Some, refl, ap, sym, subst, arith, if◌then◌else◌}
use Rattle.std.specs.Prelude.{bit_or, slice_index_or, ◌==◌}
use Rattle.std.proofs.lemmas.Bool.Decides.{nat_tests}
use Rattle.std.proofs.lemmas.Int.{ints}
use Rattle.std.proofs.lemmas.Nat.{le_or_r, le_or_l}
use Rattle.std.proofs.lemmas.Option.{slice_get-get_or, slice_get_within}
use Rattle.std.specs.List.{list_all}
use Rattle.cc_base.specs.declared.kind.Kind.{Kind}
use Rattle.cc_base.specs.declared.kind.Kind.TheVariants.{Seq}
use Rattle.cc_base.specs.declared.number.NodeId.{NodeId}
use Rattle.cc_base.specs.declared.number.TypeId.{TypeId}
use Rattle.c_types.specs.Table.{IsComplete}
use Rattle.c_types.specs.Layouts.{size_of}
use Rattle.c_types.specs.Cells.{Cell, raw, pointer, mixed, incomplete, AreOrdered}
use Rattle.c_types.specs.Equality.{cells_of, physically_equal}
use Rattle.c_types.specs.Sound.{IsWellFormed}
use Rattle.c_types.specs.Widths.{kind_width, cell_width, before, cured_size}
use Rattle.c_types.proofs.Cells.{length_cells}
use Rattle.c_types.proofs.OrderedPointers.{cells_ordered}
use Rattle.type_laws.proofs.OneClass.{move-alike}
use Rattle.type_laws.proofs.Pointers.{class_turned}
use Rattle.type_laws.proofs.Stairs.{steps-stair}
use Rattle.type_laws.proofs.Widths.{before-mono, wide}
use Rattle.integers.specs.Operators.{difference_words}
use Rattle.integers.proofs.SignedLaws.{no-part}
use Rattle.integers.proofs.WordLaws.{word-below}
use Rattle.src_mem.specs.Pointers.{Location, Pointer, Null, Number, At, Function}
use Rattle.src_mem.specs.State as source
use Rattle.src_mem.specs.State.{Setting}
use Rattle.src_mem.specs.Checks.{InBounds, null_or_in_bounds, holds}
use Rattle.src_mem.specs.Facts.{IsSequenceAt, RepeatType}
use Rattle.src_mem.specs.Outlines.{Outline, outlines_of}
use Rattle.cil_facts.proofs.Homes.{complete-along}
use Rattle.cured_code.specs.FlatState as flat
use Rattle.cured_code.specs.declared.parts.Parts.{Parts}
use Rattle.check_forms.specs.declared.slots.PointerSlots.{PointerSlots}
use Rattle.check_forms.specs.declared.slots.Fixed.{Fixed}
use Rattle.check_forms.specs.Conditions.{IsInPart, IsByteInPart, UnlessNull, is_in_part, flat_holds}
use Rattle.check_forms.specs.Rows.{in_part}
use Rattle.sim_relation.specs.Ground.{Ground, address, first_word, second_word, third_word}
use Rattle.sim_relation.specs.Related.{ground_of}
use Rattle.sim_relation.proofs.Bounds.{step_of, cell-steps, width-most, EndsWhole, AreAsWide, own-wide, agree-wide, sequence-bounds}
use Rattle.sim_checks.specs.Rows.{IsChecked}
use Rattle.sim_checks.proofs.Addresses.{there}

-- The cured size of a complete type

-- each cell takes at most 24 bytes
before-most : (kind : NodeId → Kind) (cells : List Cell) (i : ℕ) → before kind cells i ≤ 24 * i
before-most kind cells zero = omega arith
before-most kind [] (suc i) = omega arith
before-most kind (c ∷ cells) (suc i) = let h = before-most kind cells i in let w = width-most kind c in omega (arith, h, w)

-- the last cell ends a pointer, or is none's
last-wide : (kind : NodeId → Kind) (cells : List Cell) → AreOrdered cells → 0 < length cells → 0 < step_of kind cells (length cells - 1)
last-wide kind cells ordered some = by (slice_index_or cells (length cells - 1) raw) (slice_get-get_or cells (length cells - 1) raw (omega (arith, some)))
  where
    at-end : (j : ℕ) (n : NodeId) (t : TypeId) → slice_get cells (length cells - 1) ≡ Some (pointer n t j) → (b : Bool) → (j == 7) ≡ b
        → 0 < (if b then kind_width (kind n) else 0)
    at-end j n t e true f = wide (kind n)
    at-end j n t e false f = absurd (
        let l = (ordered.least (length cells - 1) j n t e).0 in
        let m : j < 7 = grind (arith, nat_tests, l, f) in
        let next = slice_get_within cells (suc (length cells - 1)) (pointer n t (suc j)) (ordered.on (length cells - 1) j n t e m) in
        omega (arith, next, some))

    by : (c : Cell) → slice_get cells (length cells - 1) ≡ Some c → 0 < cell_width kind c
    by raw e = omega arith
    by (mixed t j) e = omega arith
    by (incomplete t) e = omega arith
    by (pointer n t j) e = at-end j n t e (j == 7) refl

module _ (w : Setting) (sound : IsWellFormed w.table) (t : TypeId) (complete : IsComplete w.table t) where
  pub long : length (cells_of w.table t) ≡ size_of w.table t
  long = length_cells w.table sound (physically_equal w.table) t complete

  pub ends : EndsWhole w.table w.kind t
  ends =
      let s = sound.sized t complete in
      let some : 0 < length (cells_of w.table t) = (let e = long in let a = s.some in omega (arith, e, a)) in
      record {
        sized = long;
        some = some;
        last = last-wide w.kind (cells_of w.table t) (cells_ordered w.table sound t) some;
        small = (let e = long in let a = s.most in omega (arith, e, a));
      }

  pub small : cured_size w.table w.kind t < 2 ^ 40
  small =
      let h = before-most w.kind (cells_of w.table t) (length (cells_of w.table t)) in
      let e = long in let a = (sound.sized t complete).most in omega (arith, h, e, a)

  pub some-size : 0 < cured_size w.table w.kind t
  some-size =
      let s = steps-stair (before w.kind (cells_of w.table t)) (step_of w.kind (cells_of w.table t)) (length (cells_of w.table t))
      (cell-steps w.kind (cells_of w.table t) (ends).some) (ends).last in
      let b = s.below 0 (ends).some in let f = s.first in omega (arith, b, f)

-- One byte

numbers-same : (m n : ℕ) → nat_eq m n ≡ true → m ≡ n
numbers-same m n h = grind (arith, nat_tests)

-- the shorter test of one byte, on the words of a part
byte-alike : (a low high : ℕ) → a < 2 ^ 64 → low ≤ high → high < 2 ^ 33 → is_in_part 1 a low high ≡ nat_lt (difference_words a low) (difference_words high low)
byte-alike a low high below ordered small = grind (arith, nat_tests, ints)

module _ (w : Setting) (number_of : TypeId → ℕ) (s : source.State) (c : flat.State) (parts : Parts) (depth : ℕ) (t u : TypeId) (sound : IsWellFormed w.table)
    (complete : IsComplete w.table t) (target : IsComplete w.table u) (as_wide : AreAsWide w.kind (cells_of w.table u) (cells_of w.table t)) (e : ℕ → ℕ) (p : PointerSlots) (size : Fixed)
    (is : size.value ≡ cured_size w.table w.kind u) where
  abbrev g : Ground
  g = ground_of w number_of s c

  -- three words of no part
  none : (n : ℕ) → n < 2 ^ 64 → e p.first ≡ n → e p.second ≡ 0 → e p.third ≡ 0 → flat_holds parts c.memory (in_part p size) e ≡ false
  none n below first second third = by (nat_eq size.value 1)
    where
      by : (b : Bool) → flat_holds parts c.memory (if b then IsByteInPart p else IsInPart p size) e ≡ false
      by true =
          ap (λ x. nat_lt (difference_words (e p.first) x) (difference_words (e p.third) x)) second
          ∙ ap (λ x. nat_lt (difference_words (e p.first) 0) (difference_words x 0)) third
          ∙ nothing (difference_words (e p.first) 0)
        where
          nothing : (x : ℕ) → nat_lt x (difference_words 0 0) ≡ false
          nothing x = grind (arith, nat_tests)
      by false =
          ap (λ x. is_in_part x (e p.first) (e p.second) (e p.third)) is
          ∙ ap (λ x. is_in_part (cured_size w.table w.kind u) x (e p.second) (e p.third)) first
          ∙ ap (λ x. is_in_part (cured_size w.table w.kind u) n x (e p.third)) second
          ∙ ap (λ x. is_in_part (cured_size w.table w.kind u) n 0 x) third
          ∙ no-part (cured_size w.table w.kind u) n (some-size w sound u target) (small w sound u target) below

  module _ (l : Location) (x : IsChecked w number_of s c depth Seq t (At l) e p) where
    value : IsSequenceAt w (outlines_of s.memory) t l
    value = x.held.value

    inside : (o : Outline) (i : ℕ) → slice_get (outlines_of s.memory) l.object ≡ Some o → address g l.object + before w.kind o.cells i < 2 ^ 33
    inside o i f =
        let v = value in
        let same : v.object ≡ o = (let h = v.located.found in cc (f, h)) in
        let h = there w number_of s c x.related depth l.object i v.object v.located.found x.held.reaches v.typed.untagged in
        let k : address g l.object + before w.kind v.object.cells i < 2 ^ 33 = (let a = h.is in let b = h.below in omega (arith, a, b)) in
        subst (λ (y : Outline). address g l.object + before w.kind y.cells i < 2 ^ 33) same k

    whole-words : is_in_part (cured_size w.table w.kind u) (first_word g Seq (At l)) (second_word g Seq (At l)) (third_word g (At l))
        ≡ holds w s.memory (InBounds (size_of w.table u) (At l))
    whole-words =
        let class = value.made in
        let made = complete-along w sound t l.made (class_turned w.table w.kind l.made t class) complete in
        sequence-bounds w number_of s.memory c.areas depth t u l
        (λ z. move-alike w.table sound w.kind l.made t made complete class z) x.held complete (ends w sound t complete) (ends w sound u target) as_wide
        (small w sound u target) inside

    ends-below : third_word g (At l) < 2 ^ 33
    ends-below =
        let v = value in
        let h = there w number_of s c x.related depth l.object l.part.high v.object v.located.found x.held.reaches v.typed.untagged in
        let a = h.below in omega (arith, a)

    ordered-words : second_word g Seq (At l) ≤ third_word g (At l)
    ordered-words =
        let v = value in
        let a = there w number_of s c x.related depth l.object l.part.low v.object v.located.found x.held.reaches v.typed.untagged in
        let b = there w number_of s c x.related depth l.object l.part.high v.object v.located.found x.held.reaches v.typed.untagged in
        let m = before-mono w.kind v.object.cells l.part.low l.part.high v.located.ordered in
        let f = a.is in let h = b.is in omega (arith, f, h, m)

    at-compared : flat_holds parts c.memory (in_part p size) e ≡ holds w s.memory (InBounds (size_of w.table u) (At l))
    at-compared = by (nat_eq size.value 1) refl
      where
        by : (b : Bool) → nat_eq size.value 1 ≡ b
            → flat_holds parts c.memory (if b then IsByteInPart p else IsInPart p size) e ≡ holds w s.memory (InBounds (size_of w.table u) (At l))
        by false f =
            ap (λ y. is_in_part y (e p.first) (e p.second) (e p.third)) is
            ∙ ap (λ y. is_in_part (cured_size w.table w.kind u) y (e p.second) (e p.third)) x.words.0
            ∙ ap (λ y. is_in_part (cured_size w.table w.kind u) (first_word g Seq (At l)) y (e p.third)) x.words.1
            ∙ ap (λ y. is_in_part (cured_size w.table w.kind u) (first_word g Seq (At l)) (second_word g Seq (At l)) y) x.words.2
            ∙ whole-words
        by true f =
            let one : size.value ≡ 1 = numbers-same size.value 1 f in
            ap (λ y. nat_lt (difference_words y (e p.second)) (difference_words (e p.third) (e p.second))) x.words.0
            ∙ ap (λ y. nat_lt (difference_words (first_word g Seq (At l)) y) (difference_words (e p.third) y)) x.words.1
            ∙ ap (λ y. nat_lt (difference_words (first_word g Seq (At l)) (second_word g Seq (At l))) (difference_words y (second_word g Seq (At l)))) x.words.2
            ∙ sym (byte-alike (first_word g Seq (At l)) (second_word g Seq (At l)) (third_word g (At l)) (word-below _) ordered-words ends-below)
            ∙ ap (λ y. is_in_part y (first_word g Seq (At l)) (second_word g Seq (At l)) (third_word g (At l))) (sym one ∙ is)
            ∙ whole-words

  part-compared : (q : Pointer) → IsChecked w number_of s c depth Seq t q e p
      → flat_holds parts c.memory (in_part p size) e ≡ holds w s.memory (InBounds (size_of w.table u) q)
  part-compared Null x = none 0 (omega arith) x.words.0 x.words.1 x.words.2
  part-compared (Number n) x = none n x.held.value.1 x.words.0 x.words.1 x.words.2
  part-compared (At l) x = at-compared l x
  part-compared (Function f) x = absurd x.held.value

  -- where it isn't null

  alone : (b : Bool) → b ≡ (b && true)
  alone true = refl
  alone false = refl

  some-word : (m n : ℕ) → (0 < m) ⊎ (0 < n) → nat_eq (bit_or m n) 0 ≡ false
  some-word m n (inl h) = let a = le_or_l m n in grind (arith, nat_tests, h, a)
  some-word m n (inr h) = let a = le_or_r m n in grind (arith, nat_tests, h, a)

  part-shrinking : (q : Pointer) → IsChecked w number_of s c depth Seq t q e p
      → flat_holds parts c.memory (UnlessNull p (in_part p size)) e ≡ list_all (holds w s.memory) (null_or_in_bounds (size_of w.table u) q)
  part-shrinking Null x =
      ap (λ y. nat_eq (bit_or y (e p.second)) 0 || flat_holds parts c.memory (in_part p size) e) x.words.0
      ∙ ap (λ y. nat_eq (bit_or 0 y) 0 || flat_holds parts c.memory (in_part p size) e) x.words.1
  part-shrinking (Number n) x =
      ap (λ b. b || flat_holds parts c.memory (in_part p size) e)
      (some-word (e p.first) (e p.second) (inl (let h = x.held.value.0 in let f = x.words.0 in positive n (e p.first) h f)))
      ∙ part-compared (Number n) x ∙ alone (holds w s.memory (InBounds (size_of w.table u) (Number n)))
    where
      positive : (n m : ℕ) → n ≢ 0 → m ≡ n → 0 < m
      positive zero m h f = absurd (h refl)
      positive (suc n) m h f = omega (arith, f)
  part-shrinking (At l) x =
      ap (λ b. b || flat_holds parts c.memory (in_part p size) e)
      (some-word (e p.first) (e p.second) (inr (let v = value l x in
      let h = there w number_of s c x.related depth l.object l.part.low v.object v.located.found x.held.reaches v.typed.untagged in
      let a = h.above in let f = x.words.1 in omega (arith, a, f))))
      ∙ part-compared (At l) x ∙ alone (holds w s.memory (InBounds (size_of w.table u) (At l)))
  part-shrinking (Function f) x = absurd x.held.value

-- before a use, for what the pointer points to
pub bounds-compared : (w : Setting) (number_of : TypeId → ℕ) (s : source.State) (c : flat.State) (parts : Parts) (depth : ℕ) (t : TypeId) → IsWellFormed w.table
    → IsComplete w.table t → (e : ℕ → ℕ) (p : PointerSlots) (size : Fixed) → size.value ≡ cured_size w.table w.kind t → (q : Pointer)
    → IsChecked w number_of s c depth Seq t q e p → flat_holds parts c.memory (in_part p size) e ≡ holds w s.memory (InBounds (size_of w.table t) q)
bounds-compared w number_of s c parts depth t sound complete e p size is =
    part-compared w number_of s c parts depth t t sound complete complete (own-wide w.kind (cells_of w.table t)) e p size is

-- before it becomes one of one word, for what that one points to
pub shrinking-compared : (w : Setting) (number_of : TypeId → ℕ) (s : source.State) (c : flat.State) (parts : Parts) (depth : ℕ) (t u : TypeId) → IsWellFormed w.table
    → IsComplete w.table t → IsComplete w.table u → RepeatType w (cells_of w.table u) 0 (length (cells_of w.table u)) t
    → (e : ℕ → ℕ) (p : PointerSlots) (size : Fixed) → size.value ≡ cured_size w.table w.kind u → (q : Pointer)
    → IsChecked w number_of s c depth Seq t q e p
    → flat_holds parts c.memory (UnlessNull p (in_part p size)) e ≡ list_all (holds w s.memory) (null_or_in_bounds (size_of w.table u) q)
shrinking-compared w number_of s c parts depth t u sound complete target begins e p size is =
    part-shrinking w number_of s c parts depth t u sound complete target (agree-wide w (cells_of w.table u) t begins) e p size is
