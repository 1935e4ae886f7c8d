-- SAME: two pointers are of one part, or stand in their parts, exactly where their words say so.
use Rattle.std.proofs.Common.{◌≡◌, ◌≢◌, ◌∙◌, ⊎_elim, ℕ, ◌+◌, ◌≤◌, Bool, true, false, ◌&&◌, ◌||◌, length, nat_eq, slice_get, Some, refl, ap, sym, subst, arith}
use Rattle.std.specs.Prelude.{◌==◌}
use Rattle.std.proofs.lemmas.Bool.Decides.{nat_tests}
use Rattle.cc_base.specs.declared.fault.Check.TheVariants as check
use Rattle.cc_base.specs.declared.kind.Kind.{Kind}
use Rattle.cc_base.specs.declared.kind.Kind.TheVariants.{Safe, Seq, Rtti, Wild}
use Rattle.cc_base.specs.declared.number.TypeId.{TypeId}
use Rattle.cc_base.specs.declared.place.Place.{Place}
use Rattle.c_types.specs.Cells.{AreOrdered, IsBetweenPointers}
use Rattle.c_types.specs.Sound.{IsWellFormed}
use Rattle.c_types.specs.Widths.{before}
use Rattle.type_laws.proofs.Widths.{before-same-place}
use Rattle.src_mem.specs.Pointers.{Location, Pointer, Null, Number, At, Function, same_part}
use Rattle.src_mem.specs.State as source
use Rattle.src_mem.specs.State.{Setting}
use Rattle.src_mem.specs.Checks.{HasBase, AreOfOnePart, AreComparable, of_one_part, stands_within, holds}
use Rattle.src_mem.specs.Facts.{IsSequenceAt}
use Rattle.src_mem.specs.Outlines.{Outline, outline, outlines_of, lives_of, LivesAt, AreOutlines}
use Rattle.src_mem.proofs.Outlines.{has-outline}
use Rattle.cured_code.specs.FlatState as flat
use Rattle.cured_code.specs.declared.parts.Parts.{Parts}
use Rattle.check_forms.specs.declared.slots.PointerSlots.{PointerSlots}
use Rattle.check_forms.specs.Conditions.{AreOfPart, Unless, IsWithinPart, is_within_part, flat_holds}
use Rattle.check_forms.specs.Rows.{all_asked, equated}
use Rattle.sim_relation.specs.Ground.{Ground, address, place, first_word}
use Rattle.sim_relation.specs.Objects.{Apart}
use Rattle.sim_relation.specs.Related.{Related, ground_of}
use Rattle.sim_relation.proofs.Kept.{typed-contents}
use Rattle.sim_checks.specs.Rows.{IsChecked}
use Rattle.sim_checks.specs.Moving.{all_hold}
use Rattle.sim_checks.specs.Comparing.{used}
use Rattle.sim_checks.proofs.Addresses.{there}
use Rattle.sim_checks.proofs.Standing.{stands-alike}

-- Truth values

pub bool-same : (a b : Bool) → (a ≡ true → b ≡ true) → (b ≡ true → a ≡ true) → a ≡ b
bool-same true true f g = refl
bool-same true false f g = sym (f refl)
bool-same false true f g = g refl
bool-same false false f g = refl

first : (a b : Bool) → (a && b) ≡ true → a ≡ true
first true b h = refl
first false b h = h

second : (a b : Bool) → (a && b) ≡ true → b ≡ true
second true b h = h
second false b h = absurd (cc (h))

both : (a b : Bool) → a ≡ true → b ≡ true → (a && b) ≡ true
both a b e f = ap (λ x. x && b) e ∙ f

pub eq-true : (m n : ℕ) → m ≡ n → nat_eq m n ≡ true
eq-true m n h = grind (arith, nat_tests, h)

pub true-eq : (m n : ℕ) → nat_eq m n ≡ true → m ≡ n
true-eq m n h = grind (arith, nat_tests, h)

pub eq-false : (m n : ℕ) → (m ≡ n → ⊥) → nat_eq m n ≡ false
eq-false m n h = by (nat_eq m n) refl
  where
    by : (b : Bool) → nat_eq m n ≡ b → b ≡ false
    by true e = absurd (h (true-eq m n e))
    by false e = refl

both-eq : (a b m n : ℕ) → (nat_eq a b && nat_eq m n) ≡ true → (a ≡ b) × (m ≡ n)
both-eq a b m n h = (true-eq a b (first (nat_eq a b) (nat_eq m n) h), true-eq m n (second (nat_eq a b) (nat_eq m n) h))

eq-both : (a b m n : ℕ) → a ≡ b → m ≡ n → (nat_eq a b && nat_eq m n) ≡ true
eq-both a b m n e f = both (nat_eq a b) (nat_eq m n) (eq-true a b e) (eq-true m n f)

three-eq : (a b m n x y : ℕ) → ((a == b) && ((m == n) && (x == y))) ≡ true → (a ≡ b) × (m ≡ n) × (x ≡ y)
three-eq a b m n x y h = let z = both-eq m n x y (second (nat_eq a b) (nat_eq m n && nat_eq x y) h) in (true-eq a b (first (nat_eq a b) (nat_eq m n && nat_eq x y) h), z.0, z.1)

eq-three : (a b m n x y : ℕ) → a ≡ b → m ≡ n → x ≡ y → ((a == b) && ((m == n) && (x == y))) ≡ true
eq-three a b m n x y e f h = both (nat_eq a b) (nat_eq m n && nat_eq x y) (eq-true a b e) (eq-both m n x y f h)

-- Places

module _ (w : Setting) (number_of : TypeId → ℕ) (s : source.State) (c : flat.State) (r : Related w number_of s c) (outlines : AreOutlines w (outlines_of s.memory)) where
  abbrev g : Ground
  g = ground_of w number_of s c

  -- a byte of a living object without tags, or its end, at which no pointer is cut
  pub record IsSpot (i at : ℕ) (o : Outline) : Type 0 where
    pub found : slice_get (outlines_of s.memory) i ≡ Some o
    pub depth : ℕ
    pub lives : LivesAt (lives_of s.memory) depth i
    pub untagged : w.kind o.node ≢ Wild
    pub whole : IsBetweenPointers o.cells at
    pub within : at ≤ o.size

  -- areas lie apart
  far : (i j a b : ℕ) (o p : Outline) → IsSpot i a o → IsSpot j b p → i ≢ j → place g i a ≢ place g j b
  far i j a b o p x y n e =
      let f = has-outline s.memory x.depth i o x.found x.lives in
      let h = has-outline s.memory y.depth j p y.found y.lives in
      let d : Apart w.kind (address g i) o (address g j) p =
      subst (λ q. Apart w.kind (address g i) q (address g j) p) f.is
      (subst (λ q. Apart w.kind (address g i) (outline f.object) (address g j) q) h.is (r.areas.apart i j f.object h.object f.found f.live h.found h.live n)) in
      let u = (there w number_of s c r x.depth i a o x.found x.lives x.untagged).is in
      let v = (there w number_of s c r y.depth j b p y.found y.lives y.untagged).is in
      let k = typed-contents w.kind (w.kind o.node) x.untagged o a in
      let m = typed-contents w.kind (w.kind p.node) y.untagged p b in
      ⊎_elim (λ q. absurd (omega (arith, q, u, v, k, e))) (λ q. absurd (omega (arith, q, u, v, m, e))) d

  ordered : (i a : ℕ) (o : Outline) → IsSpot i a o → AreOrdered o.cells
  ordered i a o x = outlines.ordered i o x.found x.untagged

  one-place : (i j a b : ℕ) (o p : Outline) → IsSpot i a o → IsSpot j b p → place g i a ≡ place g j b → i ≡ j → a ≡ b
  one-place i j a b o p x y e h =
      let found : slice_get (outlines_of s.memory) i ≡ Some p = ap (slice_get (outlines_of s.memory)) h ∙ y.found in
      let same : o ≡ p = (let f = x.found in cc (f, found)) in
      let u = (there w number_of s c r x.depth i a o x.found x.lives x.untagged).is in
      let v = (there w number_of s c r y.depth j b p y.found y.lives y.untagged).is in
      let z : address g i + before w.kind p.cells b ≡ address g j + before w.kind p.cells b = ap (λ k. address g k + before w.kind p.cells b) h in
      let q : before w.kind o.cells a ≡ before w.kind o.cells b =
      (let k : before w.kind o.cells b ≡ before w.kind p.cells b = ap (λ (y : Outline). before w.kind y.cells b) same in omega (arith, u, v, e, z, k)) in
      let n : length o.cells ≡ o.size = outlines.celled i o x.found in
      let m : b ≤ o.size = subst (λ (y : Outline). b ≤ y.size) (sym same) y.within in
      before-same-place w.kind o.cells a b (ordered i a o x) x.whole (subst (λ (y : Outline). IsBetweenPointers y.cells b) (sym same) y.whole)
      (let l = x.within in omega (arith, l, n)) (omega (arith, m, n)) q

  pub same-place : (i j a b : ℕ) (o p : Outline) → IsSpot i a o → IsSpot j b p → place g i a ≡ place g j b → (i ≡ j) × (a ≡ b)
  same-place i j a b o p x y e = by (nat_eq i j) refl
    where
      by : (q : Bool) → nat_eq i j ≡ q → (i ≡ j) × (a ≡ b)
      by true f = let h = true-eq i j f in (h, one-place i j a b o p x y e h)
      by false f = absurd (far i j a b o p x y (λ h. let z = eq-true i j h in cc (z, f)) e)

  -- SEQ

  module _ (parts : Parts) (depth : ℕ) (e : ℕ → ℕ) where
    abbrev Checks : TypeId → Pointer → PointerSlots → Type 0
    Checks t q p = IsChecked w number_of s c depth Seq t q e p

    pub low-spot : (t : TypeId) (l : Location) (p : PointerSlots) (x : Checks t (At l) p) (v : IsSequenceAt w (outlines_of s.memory) t l) → IsSpot l.object l.part.low v.object
    low-spot t l p x v = record {
      found = v.located.found;
      depth = depth;
      lives = x.held.reaches;
      untagged = v.typed.untagged;
      whole = v.typed.low;
      within = let a = v.located.ordered in let b = v.located.inside in omega (arith, a, b);
    }

    pub high-spot : (t : TypeId) (l : Location) (p : PointerSlots) (x : Checks t (At l) p) (v : IsSequenceAt w (outlines_of s.memory) t l) → IsSpot l.object l.part.high v.object
    high-spot t l p x v = record {
      found = v.located.found;
      depth = depth;
      lives = x.held.reaches;
      untagged = v.typed.untagged;
      whole = v.typed.high;
      within = v.located.inside;
    }

    -- two that were made for objects
    pub parts-alike : (t u : TypeId) (k l : Location) (p o : PointerSlots) → Checks t (At k) p → Checks u (At l) o
        → flat_holds parts c.memory (AreOfPart p o) e ≡ ((k.object == l.object) && same_part k.part l.part)
    parts-alike t u k l p o x y =
        ap (λ a. nat_eq a (e o.second) && nat_eq (e p.third) (e o.third)) x.words.1
        ∙ ap (λ a. nat_eq (place g k.object k.part.low) a && nat_eq (e p.third) (e o.third)) y.words.1
        ∙ ap (λ a. nat_eq (place g k.object k.part.low) (place g l.object l.part.low) && nat_eq a (e o.third)) x.words.2
        ∙ ap (λ a. nat_eq (place g k.object k.part.low) (place g l.object l.part.low) && nat_eq (place g k.object k.part.high) a) y.words.2
        ∙ bool-same (nat_eq (place g k.object k.part.low) (place g l.object l.part.low) && nat_eq (place g k.object k.part.high) (place g l.object l.part.high))
        ((k.object == l.object) && same_part k.part l.part) words-parts parts-words
      where
        vk : IsSequenceAt w (outlines_of s.memory) t k
        vk = x.held.value

        vl : IsSequenceAt w (outlines_of s.memory) u l
        vl = y.held.value

        words-parts : (nat_eq (place g k.object k.part.low) (place g l.object l.part.low) && nat_eq (place g k.object k.part.high) (place g l.object l.part.high)) ≡ true
            → ((k.object == l.object) && same_part k.part l.part) ≡ true
        words-parts h =
            let z = both-eq (place g k.object k.part.low) (place g l.object l.part.low) (place g k.object k.part.high) (place g l.object l.part.high) h in
            let m = same-place k.object l.object k.part.low l.part.low (x.held.value).object (y.held.value).object (low-spot t k p x x.held.value) (low-spot u l o y y.held.value) z.0 in
            let n = same-place k.object l.object k.part.high l.part.high (x.held.value).object (y.held.value).object (high-spot t k p x x.held.value) (high-spot u l o y y.held.value) z.1 in
            eq-three k.object l.object k.part.low l.part.low k.part.high l.part.high m.0 m.1 n.1

        parts-words : ((k.object == l.object) && same_part k.part l.part) ≡ true
            → (nat_eq (place g k.object k.part.low) (place g l.object l.part.low) && nat_eq (place g k.object k.part.high) (place g l.object l.part.high)) ≡ true
        parts-words h =
            let z = three-eq k.object l.object k.part.low l.part.low k.part.high l.part.high h in
            eq-both (place g k.object k.part.low) (place g l.object l.part.low) (place g k.object k.part.high) (place g l.object l.part.high)
            (ap (λ i. place g i k.part.low) z.0 ∙ ap (place g l.object) z.1) (ap (λ i. place g i k.part.high) z.0 ∙ ap (place g l.object) z.2)

    pub orders-compared : (t u : TypeId) (q r : Pointer) (p o : PointerSlots) → Checks t q p → Checks u r o → holds w s.memory (HasBase q) ≡ true
        → holds w s.memory (HasBase r) ≡ true → flat_holds parts c.memory (AreOfPart p o) e ≡ holds w s.memory (AreOfOnePart (used Seq q) (used Seq r))
    orders-compared t u Null r p o x y h i = absurd (cc (h))
    orders-compared t u (Number n) r p o x y h i = absurd (cc (h))
    orders-compared t u (Function f) r p o x y h i = absurd (cc (h))
    orders-compared t u (At k) Null p o x y h i = absurd (cc (i))
    orders-compared t u (At k) (Number n) p o x y h i = absurd (cc (i))
    orders-compared t u (At k) (Function f) p o x y h i = absurd (cc (i))
    orders-compared t u (At k) (At l) p o x y h i = parts-alike t u k l p o x y

    -- Equality

    -- a pointer that stays what it is
    pub settled-alike : (sound : IsWellFormed w.table) (t : TypeId) (q : Pointer) (p : PointerSlots) → Checks t q p
        → flat_holds parts c.memory (Unless p.second (IsWithinPart p)) e ≡ stands_within Seq q
    settled-alike sound t Null p x = ap (λ n. nat_eq n 0 || is_within_part (e p.first) (e p.second) (e p.third)) x.words.1
    settled-alike sound t (Number n) p x = ap (λ n. nat_eq n 0 || is_within_part (e p.first) (e p.second) (e p.third)) x.words.1
    settled-alike sound t (Function f) p x = absurd x.held.value
    settled-alike sound t (At l) p x =
        let h = (there w number_of s c r depth l.object l.part.low (x.held.value).object (x.held.value).located.found x.held.reaches (x.held.value).typed.untagged).above in
        ap (λ n. nat_eq n 0 || is_within_part (e p.first) (e p.second) (e p.third)) x.words.1
        ∙ ap (λ b. b || is_within_part (e p.first) (e p.second) (e p.third)) (eq-false (place g l.object l.part.low) 0 (λ z. omega (arith, z, h)))
        ∙ ap (λ n. is_within_part n (e p.second) (e p.third)) x.words.0
        ∙ ap (λ n. is_within_part (first_word g Seq (At l)) n (e p.third)) x.words.1
        ∙ ap (λ n. is_within_part (first_word g Seq (At l)) (place g l.object l.part.low) n) x.words.2
        ∙ stands-alike w number_of s c depth t sound l e p x

    -- whether the words are of one part; of those that were made for no object nothing is lost
    one-part : (t u : TypeId) (q r : Pointer) (p o : PointerSlots) → Checks t q p → Checks u r o
        → (flat_holds parts c.memory (AreOfPart p o) e || (stands_within Seq q && stands_within Seq r))
        ≡ (of_one_part (used Seq q) (used Seq r) || (stands_within Seq q && stands_within Seq r))
    one-part t u Null Null p o x y = any _
      where
        any : (b : Bool) → (b || true) ≡ true
        any true = refl
        any false = refl
    one-part t u Null (Number n) p o x y = any _
      where
        any : (b : Bool) → (b || true) ≡ true
        any true = refl
        any false = refl
    one-part t u (Number m) Null p o x y = any _
      where
        any : (b : Bool) → (b || true) ≡ true
        any true = refl
        any false = refl
    one-part t u (Number m) (Number n) p o x y = any _
      where
        any : (b : Bool) → (b || true) ≡ true
        any true = refl
        any false = refl
    one-part t u (Function f) r p o x y = absurd x.held.value
    one-part t u Null (Function f) p o x y = absurd y.held.value
    one-part t u (Number n) (Function f) p o x y = absurd y.held.value
    one-part t u (At k) (Function f) p o x y = absurd y.held.value
    one-part t u Null (At l) p o x y = ap (λ b. b || stands_within Seq (At l)) (alone x.words.1 y.words.1 (above u l o y))
      where
        alone : e p.second ≡ 0 → e o.second ≡ place g l.object l.part.low → 8 ≤ place g l.object l.part.low
            → (nat_eq (e p.second) (e o.second) && nat_eq (e p.third) (e o.third)) ≡ false
        alone a b h = ap (λ z. z && nat_eq (e p.third) (e o.third)) (eq-false (e p.second) (e o.second) (λ z. omega (arith, a, b, h, z)))

        above : (u : TypeId) (l : Location) (o : PointerSlots) (y : Checks u (At l) o) → 8 ≤ place g l.object l.part.low
        above u l o y = (there w number_of s c r depth l.object l.part.low (y.held.value).object (y.held.value).located.found y.held.reaches (y.held.value).typed.untagged).above
    one-part t u (Number n) (At l) p o x y = ap (λ b. b || stands_within Seq (At l)) (alone x.words.1 y.words.1 (above u l o y))
      where
        alone : e p.second ≡ 0 → e o.second ≡ place g l.object l.part.low → 8 ≤ place g l.object l.part.low
            → (nat_eq (e p.second) (e o.second) && nat_eq (e p.third) (e o.third)) ≡ false
        alone a b h = ap (λ z. z && nat_eq (e p.third) (e o.third)) (eq-false (e p.second) (e o.second) (λ z. omega (arith, a, b, h, z)))

        above : (u : TypeId) (l : Location) (o : PointerSlots) (y : Checks u (At l) o) → 8 ≤ place g l.object l.part.low
        above u l o y = (there w number_of s c r depth l.object l.part.low (y.held.value).object (y.held.value).located.found y.held.reaches (y.held.value).typed.untagged).above
    one-part t u (At k) Null p o x y = ap (λ b. b || (stands_within Seq (At k) && true)) (alone x.words.1 y.words.1 (above t k p x))
      where
        alone : e p.second ≡ place g k.object k.part.low → e o.second ≡ 0 → 8 ≤ place g k.object k.part.low
            → (nat_eq (e p.second) (e o.second) && nat_eq (e p.third) (e o.third)) ≡ false
        alone a b h = ap (λ z. z && nat_eq (e p.third) (e o.third)) (eq-false (e p.second) (e o.second) (λ z. omega (arith, a, b, h, z)))

        above : (t : TypeId) (k : Location) (p : PointerSlots) (x : Checks t (At k) p) → 8 ≤ place g k.object k.part.low
        above t k p x = (there w number_of s c r depth k.object k.part.low (x.held.value).object (x.held.value).located.found x.held.reaches (x.held.value).typed.untagged).above
    one-part t u (At k) (Number n) p o x y = ap (λ b. b || (stands_within Seq (At k) && true)) (alone x.words.1 y.words.1 (above t k p x))
      where
        alone : e p.second ≡ place g k.object k.part.low → e o.second ≡ 0 → 8 ≤ place g k.object k.part.low
            → (nat_eq (e p.second) (e o.second) && nat_eq (e p.third) (e o.third)) ≡ false
        alone a b h = ap (λ z. z && nat_eq (e p.third) (e o.third)) (eq-false (e p.second) (e o.second) (λ z. omega (arith, a, b, h, z)))

        above : (t : TypeId) (k : Location) (p : PointerSlots) (x : Checks t (At k) p) → 8 ≤ place g k.object k.part.low
        above t k p x = (there w number_of s c r depth k.object k.part.low (x.held.value).object (x.held.value).located.found x.held.reaches (x.held.value).typed.untagged).above
    one-part t u (At k) (At l) p o x y = ap (λ b. b || (stands_within Seq (At k) && stands_within Seq (At l))) (parts-alike t u k l p o x y)

    -- pointers that don't move stand in their parts
    pub safe-within : (q : Pointer) → stands_within Safe q ≡ true
    safe-within Null = refl
    safe-within (Number n) = refl
    safe-within (At l) = refl
    safe-within (Function f) = refl

    pub typed-within : (q : Pointer) → stands_within Rtti q ≡ true
    typed-within Null = refl
    typed-within (Number n) = refl
    typed-within (At l) = refl
    typed-within (Function f) = refl

    and-true : (b : Bool) → (b && true) ≡ b
    and-true true = refl
    and-true false = refl

    pub equalities-compared : (sound : IsWellFormed w.table) (kind other : Kind) (t u : TypeId) (q r : Pointer) (p o : PointerSlots) (at : Place) → kind ≢ Wild → other ≢ Wild
        → IsChecked w number_of s c depth kind t q e p → IsChecked w number_of s c depth other u r e o
        → all_hold parts c.memory (all_asked check.Same at (equated kind other p o)) e ≡ holds w s.memory (AreComparable (used kind q) (used other r))
    equalities-compared sound Wild other t u q r p o at n m x y = absurd (n refl)
    equalities-compared sound Safe Wild t u q r p o at n m x y = absurd (m refl)
    equalities-compared sound Rtti Wild t u q r p o at n m x y = absurd (m refl)
    equalities-compared sound Seq Wild t u q r p o at n m x y = absurd (m refl)
    equalities-compared sound Seq Seq t u q r p o at n m x y =
        and-true _
        ∙ ap (λ b. flat_holds parts c.memory (AreOfPart p o) e || (b && flat_holds parts c.memory (Unless o.second (IsWithinPart o)) e)) (settled-alike sound t q p x)
        ∙ ap (λ b. flat_holds parts c.memory (AreOfPart p o) e || (stands_within Seq q && b)) (settled-alike sound u r o y)
        ∙ one-part t u q r p o x y
    equalities-compared sound Seq Safe t u q r p o at n m x y =
        ap (λ b. b && true) (settled-alike sound t q p x) ∙ ap (λ b. stands_within Seq q && b) (sym (safe-within r))
    equalities-compared sound Seq Rtti t u q r p o at n m x y =
        ap (λ b. b && true) (settled-alike sound t q p x) ∙ ap (λ b. stands_within Seq q && b) (sym (typed-within r))
    equalities-compared sound Safe Seq t u q r p o at n m x y =
        and-true _ ∙ settled-alike sound u r o y ∙ ap (λ b. b && stands_within Seq r) (sym (safe-within q))
    equalities-compared sound Rtti Seq t u q r p o at n m x y =
        and-true _ ∙ settled-alike sound u r o y ∙ ap (λ b. b && stands_within Seq r) (sym (typed-within q))
    equalities-compared sound Safe Safe t u q r p o at n m x y = sym (both _ _ (safe-within q) (safe-within r))
    equalities-compared sound Safe Rtti t u q r p o at n m x y = sym (both _ _ (safe-within q) (typed-within r))
    equalities-compared sound Rtti Safe t u q r p o at n m x y = sym (both _ _ (typed-within q) (safe-within r))
    equalities-compared sound Rtti Rtti t u q r p o at n m x y = sym (both _ _ (typed-within q) (typed-within r))
