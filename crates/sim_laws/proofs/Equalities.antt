-- Two SAFE or SEQ pointers are equal exactly where their words say so: pointers that stand in their parts, or in one part.
use Rattle.std.proofs.Common.{◌≡◌, ◌≢◌, ℕ, ◌<◌, ◌≤◌, ℤ, pos, negsuc, Bool, true, false, ◌&&◌, ◌||◌, List, length, nat_eq, slice_get, Some, refl, ap, sym, subst, ◌∙◌, arith, ◌^◌, ◌+ℤ◌}
use Rattle.std.specs.Prelude.{◌==◌}
use Rattle.std.specs.Ordering.{int_eq}
use Rattle.std.proofs.lemmas.Int.{ints}
use Rattle.std.proofs.lemmas.Bool.Decides.{nat_tests}
use Rattle.std.proofs.lemmas.Option.{slice_get_within}
use Rattle.cc_base.specs.declared.kind.Kind.{Kind}
use Rattle.cc_base.specs.declared.kind.Kind.TheVariants.{Safe, Seq, Rtti, Wild}
use Rattle.cc_base.specs.declared.number.TypeId.{TypeId}
use Rattle.c_types.specs.Sound.{IsWellFormed}
use Rattle.kind_sites.specs.declared.site.Site.{Site}
use Rattle.integers.specs.Words.{word, truth_word}
use Rattle.src_mem.specs.Pointers.{Location, Pointer, Null, Number, At, Function, same_pointer, same_part}
use Rattle.src_mem.specs.State as source
use Rattle.src_mem.specs.State.{Setting}
use Rattle.src_mem.specs.Checks.{AreComparable, between, of_one_part, stands_within, holds}
use Rattle.src_mem.specs.Memory.{Planned}
use Rattle.src_mem.specs.Outlines.{Outline, outlines_of, AreOutlines}
use Rattle.src_mem.specs.Facts.{IsHeldIn, IsSafeAt, IsSequenceAt, IsFunctionOf}
use Rattle.src_mem.proofs.Outlines.{has-outline}
use Rattle.facts_kept.proofs.Agree.{first, second}
use Rattle.facts_kept.proofs.Holds.{seq-stands}
use Rattle.cil_form.specs.Told.{AreSitesTold}
use Rattle.cured_code.specs.FlatState as flat
use Rattle.sim_relation.specs.Ground.{Ground, place, natural, function_word, first_word, second_word}
use Rattle.sim_relation.specs.Related.{Related, ground_of}
use Rattle.sim_checks.specs.Rows.{AreFunctionsLaid}
use Rattle.sim_checks.specs.Comparing.{used}
use Rattle.sim_checks.proofs.Addresses.{there}
use Rattle.sim_checks.proofs.Sameness.{IsSpot, same-place, bool-same, eq-true, true-eq, eq-false}
use Rattle.sim_memory.proofs.Finding.{sequence-here}
use Rattle.cure_rules.specs.Setting.{is_wide_kind}
use Rattle.sim_laws.specs.Plain.{IsPlainKind}
use Rattle.sim_laws.proofs.Comparisons.{int-same}
use Rattle.sim_laws.proofs.Ordering.{int-is, AreAlike, alike, words-same}

-- What the lines compute

-- the word that is 0 for null, and for what was made for no object
abbrev pub home_word : Ground → Kind → Pointer → ℕ
home_word g Safe q = first_word g Safe q
home_word g Rtti q = first_word g Rtti q
home_word g Seq q = second_word g Seq q
home_word g Wild q = second_word g Wild q

-- whether two words are equal, and for pointers that are null only where two words are 0, whether both home words are 0 or neither
abbrev pub says_equal : Bool → ℕ → ℕ → ℕ → ℕ → Bool
says_equal false h i a b = nat_eq a b
says_equal true h i a b = nat_eq (truth_word (nat_eq h 0)) (truth_word (nat_eq i 0)) && nat_eq a b

differ : (wide : Bool) (h i a b : ℕ) → a ≢ b → says_equal wide h i a b ≡ false
differ false h i a b n = eq-false a b n
differ true h i a b n = ap (λ (q : Bool). nat_eq (truth_word (nat_eq h 0)) (truth_word (nat_eq i 0)) && q) (eq-false a b n) ∙ none (nat_eq (truth_word (nat_eq h 0)) (truth_word (nat_eq i 0)))
  where
    none : (q : Bool) → (q && false) ≡ false
    none true = refl
    none false = refl

first-null : (h i a b : ℕ) → h ≡ 0 → i ≢ 0 → says_equal true h i a b ≡ false
first-null h i a b e n =
    ap (λ (q : Bool). nat_eq (truth_word q) (truth_word (nat_eq i 0)) && nat_eq a b) (eq-true h 0 e) ∙ ap (λ (q : Bool). nat_eq 1 (truth_word q) && nat_eq a b) (eq-false i 0 n)

second-null : (h i a b : ℕ) → h ≢ 0 → i ≡ 0 → says_equal true h i a b ≡ false
second-null h i a b n e =
    ap (λ (q : Bool). nat_eq (truth_word q) (truth_word (nat_eq i 0)) && nat_eq a b) (eq-false h 0 n) ∙ ap (λ (q : Bool). nat_eq 0 (truth_word q) && nat_eq a b) (eq-true i 0 e)

level : (wide : Bool) (h i a b : ℕ) (q : Bool) → nat_eq h 0 ≡ nat_eq i 0 → nat_eq a b ≡ q → says_equal wide h i a b ≡ q
level false h i a b q e f = f
level true h i a b q e f =
    ap (λ (x : Bool). nat_eq (truth_word x) (truth_word (nat_eq i 0)) && nat_eq a b) e ∙ ap (λ (x : Bool). x && nat_eq a b) (own (nat_eq i 0)) ∙ f
  where
    own : (x : Bool) → nat_eq (truth_word x) (truth_word x) ≡ true
    own true = refl
    own false = refl

or-true : (q : Bool) → (q || true) ≡ true
or-true true = refl
or-true false = refl

-- where a pointer stands that doesn't stand outside its part
between-at : (low high : ℕ) (z : ℤ) → between (pos low) z (pos high) ≡ true → (at : ℕ) × (z ≡ pos at) × (low ≤ at) × (at ≤ high)
between-at low high (pos at) h = (at, refl, left low high at h, right low high at h)
  where
    left : (low high at : ℕ) → between (pos low) (pos at) (pos high) ≡ true → low ≤ at
    left low high at h = grind (arith, ints)

    right : (low high at : ℕ) → between (pos low) (pos at) (pos high) ≡ true → at ≤ high
    right low high at h = grind (arith, ints)
between-at low high (negsuc n) h = absurd (none low high n h)
  where
    none : (low high n : ℕ) → between (pos low) (negsuc n) (pos high) ≡ true → Prim.⊥
    none low high n h = grind (arith, ints)

module _ (w : Setting) (number_of : TypeId → ℕ) (s : source.State) (c : flat.State) (r : Related w number_of s c) (outlines : AreOutlines w (outlines_of s.memory))
    (sound : IsWellFormed w.table) (laid : AreFunctionsLaid w number_of s c) (depth : ℕ) (sites : List Site) (planned : List Planned) (told : AreSitesTold w.table planned sites) where
  abbrev g : Ground
  g = ground_of w number_of s c

  -- null
  home-null : (k : Kind) → home_word g k Null ≡ 0
  home-null Safe = refl
  home-null Rtti = refl
  home-null Seq = refl
  home-null Wild = refl

  -- what was made for an object
  home-at : (k : Kind) → IsPlainKind k → (t : TypeId) (l : Location) → IsHeldIn w s.memory depth k t (At l) → 8 ≤ home_word g k (At l)
  home-at Safe plain t l x = of x.value
    where
      of : IsSafeAt w (outlines_of s.memory) t l → 8 ≤ place g l.object (natural l.offset)
      of v = (there w number_of s c r depth l.object (natural l.offset) v.object v.located.found x.reaches v.typed.untagged).above
  home-at Seq plain t l x = of x.value
    where
      of : IsSequenceAt w (outlines_of s.memory) t l → 8 ≤ place g l.object l.part.low
      of v = (there w number_of s c r depth l.object l.part.low v.object v.located.found x.reaches v.typed.untagged).above
  home-at Rtti plain t l x = absurd plain
  home-at Wild plain t l x = absurd plain

  record Standing (k : Kind) (l : Location) : Type 0 where
    at : ℕ
    object : Outline
    offset : l.offset ≡ pos at
    spot : IsSpot w number_of s c r outlines l.object at object
    word : first_word g k (At l) ≡ place g l.object at
    -- functions lie before it
    far : (f : ℕ) → f < length w.functions → function_word f < place g l.object at

  standing : (k : Kind) → IsPlainKind k → (t : TypeId) (l : Location) → IsHeldIn w s.memory depth k t (At l) → stands_within k (At l) ≡ true → Standing k l
  standing k plain t l x within = by k plain x within
    where
      beyond : (object : Outline) (at : ℕ) → slice_get (outlines_of s.memory) l.object ≡ Some object → w.kind object.node ≢ Wild → (f : ℕ) → f < length w.functions
          → function_word f < place g l.object at
      beyond object at found untagged f less =
          let h = has-outline s.memory depth l.object object found x.reaches in
          let b = laid.beyond l.object h.object h.found h.live in
          let e = (there w number_of s c r depth l.object at object found x.reaches untagged).is in omega (arith, b, e, less)

      by : (k : Kind) → IsPlainKind k → IsHeldIn w s.memory depth k t (At l) → stands_within k (At l) ≡ true → Standing k l
      by Safe plain x within = of x.value
        where
          of : IsSafeAt w (outlines_of s.memory) t l → Standing Safe l
          of v = record {
            at = v.at;
            object = v.object;
            offset = v.stands.offset;
            spot = record {
              found = v.located.found;
              depth = depth;
              lives = x.reaches;
              untagged = v.typed.untagged;
              whole = v.stands.whole;
              within = (let a = v.stands.high in let b = v.located.inside in omega (arith, a, b));
            };
            word = ap (λ (z : ℤ). place g l.object (natural z)) v.stands.offset;
            far = beyond v.object v.at v.located.found v.typed.untagged;
          }
      by Seq plain x within = of x.value (between-at l.part.low l.part.high l.offset within)
        where
          of : IsSequenceAt w (outlines_of s.memory) t l → (at : ℕ) × (l.offset ≡ pos at) × (l.part.low ≤ at) × (at ≤ l.part.high) → Standing Seq l
          of v (at, offset, low, high) = record {
            at = at;
            object = v.object;
            offset = offset;
            spot = record {
              found = v.located.found;
              depth = depth;
              lives = x.reaches;
              untagged = v.typed.untagged;
              whole = (seq-stands w sound (outlines_of s.memory) t l v at offset low high).whole;
              within = (let b = v.located.inside in omega (arith, high, b));
            };
            word = sequence-here w number_of s c sound t l v r depth x.reaches at offset low high
                ∙ sym (there w number_of s c r depth l.object at v.object v.located.found x.reaches v.typed.untagged).is;
            far = beyond v.object at v.located.found v.typed.untagged;
          }
      by Rtti plain x within = absurd plain
      by Wild plain x within = absurd plain

  -- two that stand in their parts
  spots-alike : (k o : Kind) (a b : Location) → Standing k a → Standing o b → nat_eq (first_word g k (At a)) (first_word g o (At b)) ≡ same_pointer (At a) (At b)
  spots-alike k o a b x y =
      ap (λ (n : ℕ). nat_eq n (first_word g o (At b))) x.word ∙ ap (nat_eq (place g a.object x.at)) y.word
      ∙ bool-same (nat_eq (place g a.object x.at) (place g b.object y.at)) ((a.object == b.object) && int_eq a.offset b.offset)
      (λ e. let h = same-place w number_of s c r outlines a.object b.object x.at y.at x.object y.object x.spot y.spot (true-eq _ _ e) in
      both (a.object == b.object) (int_eq a.offset b.offset) (eq-true a.object b.object h.0) (int-same a.offset b.offset (x.offset ∙ ap pos h.1 ∙ sym y.offset)))
      (λ e. eq-true _ _ (ap (λ (n : ℕ). place g n x.at) (true-eq a.object b.object (first _ _ e))
      ∙ ap (place g b.object) (number x.at y.at (sym x.offset ∙ int-is a.offset b.offset (second (a.object == b.object) _ e) ∙ y.offset))))
    where
      both : (p q : Bool) → p ≡ true → q ≡ true → (p && q) ≡ true
      both p q e f = ap (λ (x : Bool). x && q) e ∙ f

      number : (m n : ℕ) → pos m ≡ pos n → m ≡ n
      number m n e = cc (e)

  -- two of one part
  parts-alike : (t u : TypeId) (a b : Location) → IsHeldIn w s.memory depth Seq t (At a) → IsHeldIn w s.memory depth Seq u (At b)
      → ((a.object == b.object) && same_part a.part b.part) ≡ true → nat_eq (first_word g Seq (At a)) (first_word g Seq (At b)) ≡ same_pointer (At a) (At b)
  parts-alike t u a b x y one = of x.value y.value
    where
      object : a.object ≡ b.object
      object = true-eq a.object b.object (first _ _ one)

      low : a.part.low ≡ b.part.low
      low = true-eq a.part.low b.part.low (first _ _ (second (a.object == b.object) (same_part a.part b.part) one))

      high : a.part.high ≡ b.part.high
      high = true-eq a.part.high b.part.high (second (a.part.low == b.part.low) (a.part.high == b.part.high) (second (a.object == b.object) (same_part a.part b.part) one))

      start : place g b.object b.part.low ≡ place g a.object a.part.low
      start = ap (λ (n : ℕ). place g n b.part.low) (sym object) ∙ ap (place g a.object) (sym low)

      of : IsSequenceAt w (outlines_of s.memory) t a → IsSequenceAt w (outlines_of s.memory) u b → nat_eq (first_word g Seq (At a)) (first_word g Seq (At b)) ≡ same_pointer (At a) (At b)
      of v z = with_distances (alike w sound (outlines_of s.memory) sites planned told t u a b v z object low high)
        where
          small : place g a.object a.part.low < 2 ^ 33
          small = let h = (there w number_of s c r depth a.object a.part.low v.object v.located.found x.reaches v.typed.untagged).below in omega (arith, h)

          with_distances : AreAlike w a b → nat_eq (first_word g Seq (At a)) (first_word g Seq (At b)) ≡ same_pointer (At a) (At b)
          with_distances d =
              ap (λ (z : ℤ). nat_eq (word (pos (place g a.object a.part.low) +ℤ z)) (first_word g Seq (At b))) d.is_k.is
              ∙ ap (λ (z : ℤ). nat_eq (word (pos (place g a.object a.part.low) +ℤ d.far_k)) (word (pos (place g b.object b.part.low) +ℤ z))) d.is_l.is
              ∙ ap (λ (n : ℕ). nat_eq (word (pos (place g a.object a.part.low) +ℤ d.far_k)) (word (pos n +ℤ d.far_l))) start
              ∙ words-same (place g a.object a.part.low) d.far_k d.far_l small d.is_k.near d.is_l.near ∙ d.same
              ∙ sym (ap (λ (q : Bool). q && int_eq a.offset b.offset) (eq-true a.object b.object object))

  -- Of one part, or both within theirs

  objects-alike : (k o : Kind) → IsPlainKind k → IsPlainKind o → (t u : TypeId) (a b : Location) → IsHeldIn w s.memory depth k t (At a) → IsHeldIn w s.memory depth o u (At b) → holds w s.memory (AreComparable (used k (At a)) (used o (At b))) ≡ true
      → nat_eq (first_word g k (At a)) (first_word g o (At b)) ≡ same_pointer (At a) (At b)
  objects-alike k o pk po t u a b x y may = by (of_one_part (used k (At a)) (used o (At b))) refl may
    where
      together : (k o : Kind) → IsPlainKind k → IsPlainKind o → IsHeldIn w s.memory depth k t (At a)
          → IsHeldIn w s.memory depth o u (At b) → of_one_part (used k (At a)) (used o (At b)) ≡ true
          → nat_eq (first_word g k (At a)) (first_word g o (At b)) ≡ same_pointer (At a) (At b)
      together Seq Seq pk po x y e = parts-alike t u a b x y e
      together Safe o pk po x y e = absurd (cc (e))
      together Seq Safe pk po x y e = absurd (cc (e))
      together Rtti o pk po x y e = absurd pk
      together Wild o pk po x y e = absurd pk
      together Seq Rtti pk po x y e = absurd po
      together Seq Wild pk po x y e = absurd po

      by : (q : Bool) → of_one_part (used k (At a)) (used o (At b)) ≡ q → (q || (stands_within k (At a) && stands_within o (At b))) ≡ true
          → nat_eq (first_word g k (At a)) (first_word g o (At b)) ≡ same_pointer (At a) (At b)
      by true e h = together k o pk po x y e
      by false e h = spots-alike k o a b (standing k pk t a x (first _ _ h)) (standing o po u b y (second (stands_within k (At a)) _ h))

  -- a function has an address of its own
  function-there : (t : TypeId) (f : ℕ) → IsHeldIn w s.memory depth Safe t (Function f) → f < length w.functions
  function-there t f x = of x.value
    where
      of : IsFunctionOf w t f → f < length w.functions
      of v = slice_get_within w.functions f v.function v.found

  positive : (n : ℕ) → 8 ≤ n → n ≢ 0
  positive n h e = omega (arith, h, e)

  -- THE WORDS OF EQUAL POINTERS
  pub equal-alike : (k o : Kind) → IsPlainKind k → IsPlainKind o → (t u : TypeId) (q z : Pointer) → IsHeldIn w s.memory depth k t q → IsHeldIn w s.memory depth o u z → holds w s.memory (AreComparable (used k q) (used o z)) ≡ true
      → says_equal (is_wide_kind k || is_wide_kind o) (home_word g k q) (home_word g o z) (first_word g k q) (first_word g o z) ≡ same_pointer q z
  equal-alike k o pk po t u Null Null x y may =
      level (is_wide_kind k || is_wide_kind o) (home_word g k Null) (home_word g o Null) 0 0 true (ap (λ (n : ℕ). nat_eq n 0) (home-null k ∙ sym (home-null o))) refl
  equal-alike k Seq pk po t u Null (Number n) x y may =
      differ (is_wide_kind k || true) (home_word g k Null) 0 0 n (λ e. y.value.0 (sym e))
  equal-alike k Safe pk po t u Null (Number n) x y may = absurd y.value
  equal-alike k Safe pk po t u Null (At l) x y may =
      differ (is_wide_kind k || false) (home_word g k Null) (home_word g Safe (At l)) 0 (first_word g Safe (At l)) (λ e. positive _ (home-at Safe tt u l y) (sym e))
  equal-alike k Seq pk po t u Null (At l) x y may =
      subst (λ (b : Bool). says_equal b (home_word g k Null) (home_word g Seq (At l)) 0 (first_word g Seq (At l)) ≡ false) (sym (or-true (is_wide_kind k)))
      (first-null (home_word g k Null) (home_word g Seq (At l)) 0 (first_word g Seq (At l)) (home-null k) (positive _ (home-at Seq tt u l y)))
  equal-alike k Safe pk po t u Null (Function f) x y may =
      differ (is_wide_kind k || false) (home_word g k Null) (function_word f) 0 (function_word f) (λ e. omega (arith, e))
  equal-alike k Seq pk po t u Null (Function f) x y may = absurd y.value
  equal-alike Safe o pk po t u (Number m) z x y may = absurd x.value
  equal-alike Seq o pk po t u (Number m) Null x y may = differ true 0 (home_word g o Null) m 0 (λ e. x.value.0 e)
  equal-alike Seq Seq pk po t u (Number m) (Number n) x y may = level true 0 0 m n (m == n) refl refl
  equal-alike Seq Safe pk po t u (Number m) (Number n) x y may = absurd y.value
  equal-alike Seq o pk po t u (Number m) (At l) x y may = first-null 0 (home_word g o (At l)) m (first_word g o (At l)) refl (positive _ (home-at o po u l y))
  equal-alike Seq Safe pk po t u (Number m) (Function f) x y may = first-null 0 (function_word f) m (function_word f) refl (λ e. omega (arith, e))
  equal-alike Seq Seq pk po t u (Number m) (Function f) x y may = absurd y.value
  equal-alike Safe o pk po t u (At a) Null x y may =
      differ (is_wide_kind o) (home_word g Safe (At a)) (home_word g o Null) (first_word g Safe (At a)) 0 (positive _ (home-at Safe tt t a x))
  equal-alike Seq o pk po t u (At a) Null x y may =
      second-null (home_word g Seq (At a)) (home_word g o Null) (first_word g Seq (At a)) 0 (positive _ (home-at Seq tt t a x)) (home-null o)
  equal-alike k Seq pk po t u (At a) (Number n) x y may =
      subst (λ (b : Bool). says_equal b (home_word g k (At a)) 0 (first_word g k (At a)) n ≡ false) (sym (or-true (is_wide_kind k)))
      (second-null (home_word g k (At a)) 0 (first_word g k (At a)) n (positive _ (home-at k pk t a x)) refl)
  equal-alike k Safe pk po t u (At a) (Number n) x y may = absurd y.value
  equal-alike Safe Safe pk po t u (At a) (Function f) x y may =
      differ false (home_word g Safe (At a)) (function_word f) (first_word g Safe (At a)) (function_word f)
      (λ e. let d = standing Safe tt t a x refl in let h = d.far f (function-there u f y) in let i = d.word in omega (arith, h, i, e))
  equal-alike Seq Safe pk po t u (At a) (Function f) x y may =
      differ true (home_word g Seq (At a)) (function_word f) (first_word g Seq (At a)) (function_word f)
      (λ e. let d = standing Seq tt t a x (first _ _ may) in let h = d.far f (function-there u f y) in let i = d.word in omega (arith, h, i, e))
  equal-alike k Seq pk po t u (At a) (Function f) x y may = absurd y.value
  equal-alike k o pk po t u (At a) (At b) x y may =
      level (is_wide_kind k || is_wide_kind o) (home_word g k (At a)) (home_word g o (At b)) (first_word g k (At a)) (first_word g o (At b)) (same_pointer (At a) (At b))
      (eq-false _ 0 (positive _ (home-at k pk t a x)) ∙ sym (eq-false _ 0 (positive _ (home-at o po u b y)))) (objects-alike k o pk po t u a b x y may)
  equal-alike Seq o pk po t u (Function f) z x y may = absurd x.value
  equal-alike Safe o pk po t u (Function f) Null x y may = differ (is_wide_kind o) (function_word f) (home_word g o Null) (function_word f) 0 (λ e. omega (arith, e))
  equal-alike Safe Seq pk po t u (Function f) (Number n) x y may = second-null (function_word f) 0 (function_word f) n (λ e. omega (arith, e)) refl
  equal-alike Safe Safe pk po t u (Function f) (Number n) x y may = absurd y.value
  equal-alike Safe Safe pk po t u (Function f) (At b) x y may =
      differ false (function_word f) (home_word g Safe (At b)) (function_word f) (first_word g Safe (At b))
      (λ e. let d = standing Safe tt u b y refl in let h = d.far f (function-there t f x) in let i = d.word in omega (arith, h, i, e))
  equal-alike Safe Seq pk po t u (Function f) (At b) x y may =
      differ true (function_word f) (home_word g Seq (At b)) (function_word f) (first_word g Seq (At b))
      (λ e. let d = standing Seq tt u b y may in let h = d.far f (function-there t f x) in let i = d.word in omega (arith, h, i, e))
  equal-alike Safe Safe pk po t u (Function f) (Function h) x y may =
      level false (function_word f) (function_word h) (function_word f) (function_word h) (f == h) (some f ∙ sym (some h)) (addresses f h)
    where
      some : (f : ℕ) → nat_eq (function_word f) 0 ≡ false
      some f = eq-false (function_word f) 0 (λ e. omega (arith, e))

      addresses : (f h : ℕ) → nat_eq (function_word f) (function_word h) ≡ nat_eq f h
      addresses f h = grind (arith, nat_tests)
  equal-alike Safe Seq pk po t u (Function f) (Function h) x y may = absurd y.value
  equal-alike Rtti o pk po t u q z x y may = absurd pk
  equal-alike Wild o pk po t u q z x y may = absurd pk
  equal-alike k Rtti pk po t u q z x y may = absurd po
  equal-alike k Wild pk po t u q z x y may = absurd po
