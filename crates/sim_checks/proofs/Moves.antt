-- RANGE: a pointer that is moved lies near enough to the start of its part exactly where C says so.
use Rattle.std.proofs.Common.{◌≡◌, ◌∙◌, ◌⊎◌, ⊎_elim, inl, inr, ℕ, suc, ◌+◌, ◌*◌, ◌/◌, ◌%◌, ◌<◌, ◌≤◌, ◌^◌, ℤ, pos, negsuc, neg_ℤ, ◌+ℤ◌, ◌-ℤ◌, ◌≤ℤ◌, Bool, true, false, ◌&&◌, nat_lt, length, refl, ap, sym, subst, arith}
use Rattle.std.specs.Prelude.{int_lt, int_le, ◌*ℤ◌, [], ◌∷◌, ◌++◌, slice_index_or}
use Rattle.std.specs.Int.{int_div_euclid}
use Rattle.std.proofs.lemmas.Bool.Decides.{nat_tests}
use Rattle.std.proofs.lemmas.Int.{ints}
use Rattle.std.proofs.lemmas.Nat.{div-add-mod'}
use Rattle.std.proofs.Math.Nat.{mod-lt, mul-le-mul_left, mul-le-mul_right}
use Rattle.cc_base.specs.declared.kind.Kind.TheVariants.{Seq, Wild}
use Rattle.cc_base.specs.declared.number.TypeId.{TypeId}
use Rattle.cc_base.specs.declared.place.Place.{Place}
use Rattle.c_types.specs.Table.{IsComplete}
use Rattle.c_types.specs.Layouts.{size_of}
use Rattle.c_types.specs.Cells.{raw}
use Rattle.c_types.specs.Equality.{cells_of}
use Rattle.c_types.specs.Sound.{IsWellFormed}
use Rattle.c_types.specs.Widths.{before, stair, cured_size, cured_distance}
use Rattle.c_types.proofs.OrderedPointers.{cells_ordered}
use Rattle.type_laws.proofs.OneClass.{move-alike}
use Rattle.type_laws.proofs.Pointers.{class_turned}
use Rattle.type_laws.proofs.Stairs.{IsWithin, steps-stair, stair-within, same_le}
use Rattle.integers.specs.Words.{word, residue, as_unsigned}
use Rattle.integers.specs.Arithmetic.{IntegerType, bits_of}
use Rattle.integers.specs.Operators.{sum_words, difference_words, product_words}
use Rattle.integers.proofs.WordLaws.{residue-below, word-small}
use Rattle.flat_mem.specs.Bytes.{IsAccessSize}
use Rattle.src_mem.specs.Pointers.{Location, Pointer, Null, Number, At, Function, distance}
use Rattle.src_mem.specs.State as source
use Rattle.src_mem.specs.State.{Setting}
use Rattle.src_mem.specs.Checks.{HasBase, InSequence, InReach, between, elements_before, holds}
use Rattle.src_mem.specs.Facts.{IsSequenceAt, IsWildAt}
use Rattle.src_mem.specs.Outlines.{outlines_of}
use Rattle.src_mem.proofs.Outlines.{has-outline}
use Rattle.cil_facts.proofs.Homes.{complete-along}
use Rattle.cured_code.specs.FlatState as flat
use Rattle.cured_code.specs.declared.parts.Parts.{Parts}
use Rattle.check_forms.specs.declared.slots.PointerSlots.{PointerSlots}
use Rattle.check_forms.specs.declared.slots.Distance.{Distance}
use Rattle.check_forms.specs.declared.slots.Distance.TheVariants.{Bytes, Elements}
use Rattle.check_forms.specs.declared.slots.Direction.{Direction}
use Rattle.check_forms.specs.declared.slots.Direction.TheVariants.{Forward, Backward}
use Rattle.check_forms.specs.declared.op.Factor.{Factor}
use Rattle.check_forms.specs.declared.op.Factor.TheVariants.{Any, Signed, Unsigned}
use Rattle.check_forms.specs.declared.op.Reach.{Reach}
use Rattle.check_forms.specs.Conditions.{distance_of, is_near, moved}
use Rattle.check_forms.specs.Rows.{factor_asked, near}
use Rattle.sim_relation.specs.Ground.{Ground, address, place, first_word}
use Rattle.sim_relation.specs.Related.{ground_of}
use Rattle.sim_relation.proofs.Bounds.{step_of, cell-steps, width-most, distance-is}
use Rattle.sim_relation.proofs.Room.{three-bytes}
use Rattle.sim_checks.specs.Rows.{IsChecked}
use Rattle.sim_checks.specs.Moving.{all_hold, steps, IsDistance, IsMoved}
use Rattle.sim_checks.proofs.Addresses.{there}
use Rattle.sim_checks.proofs.Distances.{times-neg, product-word, close, near-word, near-moved, elements-between, integer-within, within-times, within-steps}
use Rattle.sim_checks.proofs.Division.{IsShort, powers, signed-short, as-signed, as-unsigned}
use Rattle.sim_checks.proofs.Sequences.{long, ends, small, some-size}

-- The product of the integer and the size

distance-word : (size n : ℕ) (d : Distance) (e : ℕ → ℕ) (z : ℤ) → IsDistance n size d → e n ≡ word z → distance_of d e ≡ word (z *ℤ pos size)
distance-word size n (Bytes m) e z h is = ap e h.0 ∙ is ∙ ap word (one z ∙ ap (λ k. z *ℤ pos k) (sym h.1))
  where
    one : (z : ℤ) → z ≡ z *ℤ pos 1
    one (pos k) = omega (arith, ints)
    one (negsuc k) = omega (arith, ints)
distance-word size n (Elements m f) e z h is =
    ap (λ k. product_words (e k) f.value) h.0 ∙ ap (λ k. product_words k f.value) is ∙ ap (product_words (word z)) h.1 ∙ product-word z size

-- Integers that are too large

-- a quotient of 2^62
abbrev most : ℕ → ℕ
most size = 2 ^ 62 / size

most-times : (size : ℕ) → 0 < size → (2 ^ 62 / size * size ≤ 2 ^ 62) × (2 ^ 62 < 2 ^ 62 / size * size + size)
most-times size h = let e : 2 ^ 62 / size * size + 2 ^ 62 % size ≡ 2 ^ 62 = div-add-mod' (2 ^ 62) size in let l : 2 ^ 62 % size < size = mod-lt (2 ^ 62) h in
    (omega (arith, e), omega (arith, e, l))

-- an integer isn't so near to 0
abbrev IsWide : ℤ → ℕ → Type 0
IsWide z b = (k : ℕ) → k ≤ b → IsWithin z k → ⊥

less-is : (a b : ℕ) → nat_lt a b ≡ true → a < b
less-is a b h = grind (arith, nat_tests, h)

not-less-is : (a b : ℕ) → nat_lt a b ≡ false → b ≤ a
not-less-is a b h = grind (arith, nat_tests, h)

-- a word of 64 bits, signed
signed-true : (z : ℤ) (b : ℕ) → IsShort z → b ≤ 2 ^ 62 → sum_words (word z) b < 2 * b + 1 → IsWithin z b
signed-true (pos n) b h k f = record { low = omega (arith, ints); high = (let a : n ≤ b = omega (arith, f, h, k) in omega (arith, ints, a)) }
signed-true (negsuc n) b h k f = record { low = (let a : suc n ≤ b = omega (arith, f, h, k) in omega (arith, ints, a)); high = omega (arith, ints) }

signed-false : (z : ℤ) (b : ℕ) → IsShort z → b ≤ 2 ^ 62 → 2 * b + 1 ≤ sum_words (word z) b → IsWide z b
signed-false (pos n) b h k f i l x = let a = x.high in let m : b < n = omega (arith, f, h, k) in omega (arith, ints, a, l, m)
signed-false (negsuc n) b h k f i l x = let a = x.low in let m : b < suc n = omega (arith, f, h, k) in omega (arith, ints, a, l, m)

-- and unsigned
unsigned-true : (z : ℤ) (b : ℕ) → as_unsigned 64 z ≡ z → word z < b + 1 → IsWithin z b
unsigned-true (pos n) b e f = of n b (let x : n % 2 ^ 64 ≡ n = cc (e) in omega (arith, f, x))
  where
    of : (n b : ℕ) → n ≤ b → IsWithin (pos n) b
    of n b h = record { low = omega (arith, ints); high = omega (arith, ints, h) }
unsigned-true (negsuc n) b e f = absurd (cc (e))

unsigned-false : (z : ℤ) (b : ℕ) → as_unsigned 64 z ≡ z → b + 1 ≤ word z → IsWide z b
unsigned-false (pos n) b e f k l x =
    let y : n % 2 ^ 64 ≡ n = cc (e) in let a = x.high in let m : b < n = omega (arith, f, y) in omega (arith, ints, a, l, m)
unsigned-false (negsuc n) b e f k l x = absurd (cc (e))

-- The test of the factor: where it holds the product is exact, and where it doesn't the integer is large.
data Factored (z : ℤ) (size : ℕ) (q : Bool) : Type 0 where
  small_one : q ≡ true → IsWithin (z *ℤ pos size) (2 ^ 62) → Factored z size q
  large_one : q ≡ false → IsWide z (2 ^ 62 / size) → Factored z size q

eight-bytes : (n : ℕ) → IsAccessSize n → (n ≤ 4) ⊎ (n ≡ 8)
eight-bytes n (inl e) = inl (omega (arith, e))
eight-bytes n (inr (inl e)) = inl (omega (arith, e))
eight-bytes n (inr (inr (inl e))) = inl (omega (arith, e))
eight-bytes n (inr (inr (inr e))) = inr e

few-bits : (n : ℕ) → IsAccessSize n → n ≤ 4 → 2 ^ (8 * n) ≤ 2 ^ 32
few-bits n (inl e) h = subst (λ k. 2 ^ (8 * k) ≤ 2 ^ 32) (sym e) (omega arith)
few-bits n (inr (inl e)) h = subst (λ k. 2 ^ (8 * k) ≤ 2 ^ 32) (sym e) (omega arith)
few-bits n (inr (inr (inl e))) h = subst (λ k. 2 ^ (8 * k) ≤ 2 ^ 32) (sym e) (omega arith)
few-bits n (inr (inr (inr e))) h = absurd (omega (arith, e, h))

-- an unsigned word
abbrev IsLong : ℤ → Type 0
IsLong (pos n) = n < 2 ^ 64
IsLong (negsuc n) = ⊥

long-word : (z : ℤ) → IsLong z → as_unsigned 64 z ≡ z
long-word (pos n) h = ap pos (let e : n % 2 ^ 64 ≡ n = omega (arith, h) in e)
long-word (negsuc n) h = absurd h

within-more : (z : ℤ) (a b : ℕ) → IsWithin z a → a ≤ b → IsWithin z b
within-more z a b h k = let l = h.low in let m = h.high in record { low = omega (arith, ints, l, k); high = omega (arith, ints, m, k) }

most-most : (size : ℕ) → 0 < size → 2 ^ 62 / size ≤ 2 ^ 62
most-most size h = let p = (most-times size h).0 in let l : 2 ^ 62 / size * 1 ≤ 2 ^ 62 / size * size = mul-le-mul_left (2 ^ 62 / size) h in omega (arith, p, l)

and-true : (q : Bool) → (q && true) ≡ q
and-true true = refl
and-true false = refl

module _ (w : Setting) (s : source.State) (parts : Parts) (m : flat.State) (at : Place) where
  factored : (i : IntegerType) (z : ℤ) (size n : ℕ) (factor : Factor) (d : Distance) (e : ℕ → ℕ) → IsMoved i z size n factor d e → 0 < size → size < 2 ^ 25
      → Factored z size (all_hold parts m.memory (factor_asked factor n at) e)
  factored i z size n Any d e x some small =
      small_one refl (within-times z (2 ^ 32) size (2 ^ 62)
      (within-more z (2 ^ bits_of i) (2 ^ 32) (integer-within i z x.fits) (few-bits i.bytes x.bytes x.factored)) (omega (arith, small)))
  factored i z size n (Signed least span) d e x some small = by (nat_lt (sum_words (word z) (2 ^ 62 / size)) (2 * (2 ^ 62 / size) + 1)) refl
    where
      value : (nat_lt (sum_words (e n) least.value) span.value && true) ≡ nat_lt (sum_words (word z) (2 ^ 62 / size)) (2 * (2 ^ 62 / size) + 1)
      value =
          and-true (nat_lt (sum_words (e n) least.value) span.value)
          ∙ ap (λ k. nat_lt (sum_words k least.value) span.value) x.stands
          ∙ ap (λ k. nat_lt (sum_words (word z) k) span.value) x.factored.1
          ∙ ap (λ k. nat_lt (sum_words (word z) (2 ^ 62 / size)) k) x.factored.2

      short : IsShort z
      short = signed-short (8 * i.bytes) z (powers i.bytes x.bytes) (as-signed w s m.memory parts i z x.factored.0 x.fits)

      by : (q : Bool) → nat_lt (sum_words (word z) (2 ^ 62 / size)) (2 * (2 ^ 62 / size) + 1) ≡ q
          → Factored z size (nat_lt (sum_words (e n) least.value) span.value && true)
      by true f = small_one (value ∙ f) (within-times z (2 ^ 62 / size) size (2 ^ 62)
          (signed-true z (2 ^ 62 / size) short (most-most size some) (less-is _ _ f)) (most-times size some).0)
      by false f = large_one (value ∙ f) (signed-false z (2 ^ 62 / size) short (most-most size some) (not-less-is _ _ f))
  factored i z size n (Unsigned bound) d e x some small = by (nat_lt (word z) (2 ^ 62 / size + 1)) refl
    where
      value : (nat_lt (e n) bound.value && true) ≡ nat_lt (word z) (2 ^ 62 / size + 1)
      value =
          and-true (nat_lt (e n) bound.value) ∙ ap (λ k. nat_lt k bound.value) x.stands ∙ ap (λ k. nat_lt (word z) k) x.factored.1

      unsigned : as_unsigned 64 z ≡ z
      unsigned =
          let p = powers i.bytes x.bytes in
          let below : 2 ^ (8 * i.bytes) ≤ 2 ^ 64 = (let a = p.twice in let b = p.most in omega (arith, a, b)) in
          let own = as-unsigned w s m.memory parts i z x.factored.0 x.fits in
          long-word z (subst IsLong own (let r = residue-below z (2 ^ (8 * i.bytes)) (let a = p.twice in let b = p.least_some in omega (arith, a, b)) in
          omega (arith, r, below)))

      by : (q : Bool) → nat_lt (word z) (2 ^ 62 / size + 1) ≡ q → Factored z size (nat_lt (e n) bound.value && true)
      by true f = small_one (value ∙ f) (within-times z (2 ^ 62 / size) size (2 ^ 62)
          (unsigned-true z (2 ^ 62 / size) unsigned (less-is _ _ f)) (most-times size some).0)
      by false f = large_one (value ∙ f) (unsigned-false z (2 ^ 62 / size) unsigned (not-less-is _ _ f))

-- the factor's test, and then that of the distance
split-all : (parts : Parts) (m : flat.State) (at : Place) (factor : Factor) (n : ℕ) (p : PointerSlots) (way : Direction) (d : Distance) (reach : Reach) (e : ℕ → ℕ)
    → all_hold parts m.memory (factor_asked factor n at ++ near p way d reach at ∷ []) e
    ≡ (all_hold parts m.memory (factor_asked factor n at) e
    && is_near (difference_words (moved way (e p.first) (distance_of d e)) (e p.second)) reach.least.value reach.span.value)
split-all parts m at Any n p way d reach e = and-true _
split-all parts m at (Signed least span) n p way d reach e = one _ _
  where
    one : (a b : Bool) → (a && (b && true)) ≡ ((a && true) && b)
    one true true = refl
    one true false = refl
    one false b = refl
split-all parts m at (Unsigned bound) n p way d reach e = one _ _
  where
    one : (a b : Bool) → (a && (b && true)) ≡ ((a && true) && b)
    one true true = refl
    one true false = refl
    one false b = refl

-- Too far in C

within-back : (way : Direction) (z : ℤ) (b : ℕ) → IsWithin (steps way z) b → IsWithin z b
within-back Forward z b h = h
within-back Backward z b h = let l = h.low in let k = h.high in record { low = omega (arith, ints, l, k); high = omega (arith, ints, l, k) }

both-false : (z : ℤ) (b : ℕ) → (IsWithin z b → ⊥) → (int_le (neg_ℤ (pos b)) z && int_le z (pos b)) ≡ false
both-false z b h = by (int_le (neg_ℤ (pos b)) z) (int_le z (pos b)) refl refl
  where
    true-le : (x y : ℤ) → int_le x y ≡ true → x ≤ℤ y
    true-le x y e = grind (arith, ints, e)

    by : (p q : Bool) → int_le (neg_ℤ (pos b)) z ≡ p → int_le z (pos b) ≡ q → (p && q) ≡ false
    by true true e f = absurd (h (record {
      low = (let a = true-le (neg_ℤ (pos b)) z e in omega (arith, ints, a));
      high = true-le z (pos b) f;
    }))
    by true false e f = refl
    by false q e f = refl

quotient-within : (d : ℤ) (n : ℕ) → 0 < n → n ≤ 2 ^ 20 → IsWithin d (2 ^ 51 + 2 ^ 20)
    → (mag : ℕ) × IsWithin (int_div_euclid d (pos n)) mag × (mag * n ≤ 2 ^ 52)
quotient-within (pos a) n some small h =
    let e : a / n * n + a % n ≡ a = div-add-mod' a n in
    (a / n, record { low = omega (arith, ints); high = omega (arith, ints) }, let k = h.high in omega (arith, ints, e, k))
quotient-within (negsuc a) n some small h =
    let e : a / n * n + a % n ≡ a = div-add-mod' a n in
    (suc (a / n), record { low = omega (arith, ints); high = omega (arith, ints) }, let k = h.low in omega (arith, ints, e, k, small))

far : (n m b mag : ℕ) → m ≤ 3 * n → 2 ^ 62 < b * m + m → mag * n ≤ 2 ^ 52 → n ≤ 2 ^ 20 → mag + 2 ^ 31 ≤ b
far n m b mag wide large few small = ⊎_elim (λ h. h) (λ h. absurd (
    let p : suc b * m ≤ (mag + 2 ^ 31) * m = mul-le-mul_right m h in
    let q : (mag + 2 ^ 31) * m ≤ (mag + 2 ^ 31) * (3 * n) = mul-le-mul_left (mag + 2 ^ 31) wide in
    omega (arith, p, q, large, few, small))) (case (mag + 2 ^ 31) b)
  where
    case : (a b : ℕ) → (a ≤ b) ⊎ (b < a)
    case a b = grind arith

-- two integers whose sum is near
within-less : (x y : ℤ) (a b : ℕ) → IsWithin (x +ℤ y) b → IsWithin x a → IsWithin y (a + b)
within-less x y a b h k =
    let p = h.low in let q = h.high in let l = k.low in let m = k.high in record { low = omega (arith, ints, p, q, l, m); high = omega (arith, ints, p, q, l, m) }

within-sum : (x y z : ℤ) (a b k n : ℕ) → IsWithin x a → IsWithin y b → z ≡ pos k → a + b + k ≤ n → IsWithin ((x +ℤ y) +ℤ z) n
within-sum x y z a b k n h i e l =
    let p = h.low in let q = h.high in let r = i.low in let t = i.high in
    record { low = omega (arith, ints, p, q, r, t, e, l); high = omega (arith, ints, p, q, r, t, e, l) }

-- SEQ

module _ (w : Setting) (number_of : TypeId → ℕ) (s : source.State) (c : flat.State) (parts : Parts) (depth : ℕ) (t : TypeId) (sound : IsWellFormed w.table)
    (complete : IsComplete w.table t) where
  abbrev g : Ground
  g = ground_of w number_of s c

  abbrev M : ℕ
  M = cured_size w.table w.kind t

  few : length (cells_of w.table t) ≤ 2 ^ 20
  few = let e = long w sound t complete in let a = (sound.sized t complete).most in omega (arith, e, a)

  wide : cured_size w.table w.kind t ≤ 3 * length (cells_of w.table t)
  wide = three-bytes w.kind (cells_of w.table t) (cells_ordered w.table sound t)

  module _ (l : Location) (e : ℕ → ℕ) (p : PointerSlots) (x : IsChecked w number_of s c depth Seq t (At l) e p) where
    abbrev value : IsSequenceAt w (outlines_of s.memory) t l
    value = x.held.value

    quotient : ℤ
    quotient = int_div_euclid (distance l) (pos (length (cells_of w.table t)))

    rest : ℕ
    rest = before w.kind (cells_of w.table t) (residue (distance l) (length (cells_of w.table t)))

    abbrev gone : ℤ
    gone = stair (before w.kind (cells_of w.table t)) (length (cells_of w.table t)) (before w.kind (cells_of w.table t) (length (cells_of w.table t))) (distance l)

    gone-is : cured_distance w.table w.kind l.made (distance l) ≡ gone
    gone-is =
        let v = value in
        let made = complete-along w sound t l.made (class_turned w.table w.kind l.made t v.made) complete in
        move-alike w.table sound w.kind l.made t made complete v.made (distance l) ∙ distance-is w.table w.kind t complete (long w sound t complete) (distance l)

    low-below : place g l.object l.part.low < 2 ^ 33
    low-below =
        let v = value in
        let h = there w number_of s c x.related depth l.object l.part.low v.object v.located.found x.held.reaches v.typed.untagged in
        let a = h.below in omega (arith, a)

    near-by : IsWithin (distance l) (2 ^ 51 + 2 ^ 20)
    near-by = let v = value in let a = v.least in let b = v.most in record { low = omega (arith, ints, a); high = omega (arith, ints, b) }

    gone-within : IsWithin gone (24 * 2 ^ 52)
    gone-within = stair-within (before w.kind (cells_of w.table t)) (step_of w.kind (cells_of w.table t)) (length (cells_of w.table t)) 24 (2 ^ 52)
        (cell-steps w.kind (cells_of w.table t) (ends w sound t complete).some) (λ r. width-most w.kind (slice_index_or (cells_of w.table t) r raw)) (distance l)
        (within-more (distance l) (2 ^ 51 + 2 ^ 20) (2 ^ 52) near-by (omega arith))

    rest-below : before w.kind (cells_of w.table t) (residue (distance l) (length (cells_of w.table t))) < cured_size w.table w.kind t
    rest-below =
        let n = ends w sound t complete in
        (steps-stair (before w.kind (cells_of w.table t)) (step_of w.kind (cells_of w.table t)) (length (cells_of w.table t))
        (cell-steps w.kind (cells_of w.table t) n.some) n.last).below (residue (distance l) (length (cells_of w.table t)))
        (residue-below (distance l) (length (cells_of w.table t)) n.some)

    -- the source's condition
    condition : (a : ℤ) → holds w s.memory (InSequence (size_of w.table t) a (At l))
        ≡ (int_le (neg_ℤ (pos (2 ^ 31))) (int_div_euclid (distance l) (pos (length (cells_of w.table t))) +ℤ a)
        && int_le (int_div_euclid (distance l) (pos (length (cells_of w.table t))) +ℤ a) (pos (2 ^ 31)))
    condition a = ap (λ k. between (neg_ℤ (pos (2 ^ 31))) (elements_before (distance l) k +ℤ a) (pos (2 ^ 31))) (sym (long w sound t complete))

    module _ (i : IntegerType) (z : ℤ) (way : Direction) (n : ℕ) (factor : Factor) (d : Distance) (reach : Reach) (at : Place)
        (moves : IsMoved i z (cured_size w.table w.kind t) n factor d e) (least : reach.least.value ≡ 2 ^ 31 * cured_size w.table w.kind t)
        (span : reach.span.value ≡ 2 ^ 32 * cured_size w.table w.kind t + cured_size w.table w.kind t) where
      small-size : cured_size w.table w.kind t < 2 ^ 25
      small-size = let a = few in let b = wide in omega (arith, a, b)

      near-is : is_near (difference_words (moved way (e p.first) (distance_of d e)) (e p.second)) reach.least.value reach.span.value
          ≡ nat_lt (word ((gone +ℤ steps way z *ℤ pos M) +ℤ pos (2 ^ 31 * M))) (2 * 2 ^ 31 * M + M)
      near-is =
          ap (λ k. is_near (difference_words (moved way k (distance_of d e)) (e p.second)) reach.least.value reach.span.value) x.words.0
          ∙ ap (λ k. is_near (difference_words (moved way (first_word g Seq (At l)) k) (e p.second)) reach.least.value reach.span.value)
          (distance-word M n d e z moves.apart moves.stands)
          ∙ ap (λ k. is_near (difference_words (moved way (first_word g Seq (At l)) (word (z *ℤ pos M))) k) reach.least.value reach.span.value) x.words.1
          ∙ ap (λ k. is_near (difference_words (moved way (word (pos (place g l.object l.part.low) +ℤ k)) (word (z *ℤ pos M))) (place g l.object l.part.low))
          reach.least.value reach.span.value) gone-is
          ∙ ap (λ k. is_near (difference_words (moved way (word (pos (place g l.object l.part.low) +ℤ gone)) (word (z *ℤ pos M))) (place g l.object l.part.low))
          k reach.span.value) least
          ∙ ap (λ k. is_near (difference_words (moved way (word (pos (place g l.object l.part.low) +ℤ gone)) (word (z *ℤ pos M))) (place g l.object l.part.low))
          (2 ^ 31 * M) k) (span ∙ (let q : 2 ^ 32 * cured_size w.table w.kind t + cured_size w.table w.kind t ≡ 2 * 2 ^ 31 * cured_size w.table w.kind t + cured_size w.table w.kind t = omega arith in q))
          ∙ near-moved way (place g l.object l.part.low) M gone z (2 ^ 31 * M) (2 * 2 ^ 31 * M + M) (let a = low-below in omega (arith, a))
          (let a = small-size in omega (arith, a))

      moved-alike : all_hold parts c.memory (factor_asked factor n at ++ near p way d reach at ∷ []) e
          ≡ holds w s.memory (InSequence (size_of w.table t) (steps way z) (At l))
      moved-alike =
          split-all parts c at factor n p way d reach e
          ∙ by (factored w s parts c at i z M n factor d e moves (some-size w sound t complete) small-size)
        where
          by : Factored z M (all_hold parts c.memory (factor_asked factor n at) e)
              → (all_hold parts c.memory (factor_asked factor n at) e
              && is_near (difference_words (moved way (e p.first) (distance_of d e)) (e p.second)) reach.least.value reach.span.value)
              ≡ holds w s.memory (InSequence (size_of w.table t) (steps way z) (At l))
          by (small_one f h) =
              ap (λ q. q && is_near (difference_words (moved way (e p.first) (distance_of d e)) (e p.second)) reach.least.value reach.span.value) f
              ∙ near-is
              ∙ near-word ((gone +ℤ steps way z *ℤ pos M) +ℤ pos (2 ^ 31 * M)) (2 * 2 ^ 31 * M + M) (let a = small-size in omega (arith, a))
              (close ((gone +ℤ steps way z *ℤ pos M) +ℤ pos (2 ^ 31 * M))
              (within-sum gone (steps way z *ℤ pos M) (pos (2 ^ 31 * M)) (24 * 2 ^ 52) (2 ^ 62) (2 ^ 31 * M) (2 ^ 62 + 2 ^ 59) gone-within
              (subst (λ y. IsWithin y (2 ^ 62)) (turned way) (within-steps way (z *ℤ pos M) (2 ^ 62) h)) refl (let a = small-size in omega (arith, a))))
              ∙ elements-between (int_div_euclid (distance l) (pos (length (cells_of w.table t)))) (steps way z) M
              (before w.kind (cells_of w.table t) (residue (distance l) (length (cells_of w.table t)))) (2 ^ 31) rest-below
              ∙ sym (condition (steps way z))
            where
              turned : (way : Direction) → steps way (z *ℤ pos M) ≡ steps way z *ℤ pos M
              turned Forward = refl
              turned Backward = sym (times-neg z M)
          by (large_one f h) =
              ap (λ q. q && is_near (difference_words (moved way (e p.first) (distance_of d e)) (e p.second)) reach.least.value reach.span.value) f
              ∙ sym (condition (steps way z) ∙ both-false (int_div_euclid (distance l) (pos (length (cells_of w.table t))) +ℤ steps way z) (2 ^ 31) none)
            where
              none : IsWithin (int_div_euclid (distance l) (pos (length (cells_of w.table t))) +ℤ steps way z) (2 ^ 31) → ⊥
              none k =
                  let q = quotient-within (distance l) (length (cells_of w.table t)) (ends w sound t complete).some few near-by in
                  h (q.0 + 2 ^ 31) (far (length (cells_of w.table t)) M (2 ^ 62 / M) q.0 wide (most-times M (some-size w sound t complete)).1 q.2 few)
                  (within-back way z (q.0 + 2 ^ 31)
                  (within-less (int_div_euclid (distance l) (pos (length (cells_of w.table t)))) (steps way z) q.0 (2 ^ 31) k q.1))

  pub moves-compared : (q : Pointer) (e : ℕ → ℕ) (p : PointerSlots) (i : IntegerType) (z : ℤ) (way : Direction) (n : ℕ) (factor : Factor) (d : Distance)
      (reach : Reach) (at : Place)
      → IsChecked w number_of s c depth Seq t q e p → holds w s.memory (HasBase q) ≡ true → IsMoved i z (cured_size w.table w.kind t) n factor d e
      → reach.least.value ≡ 2 ^ 31 * cured_size w.table w.kind t
      → reach.span.value ≡ 2 ^ 32 * cured_size w.table w.kind t + cured_size w.table w.kind t
      → all_hold parts c.memory (factor_asked factor n at ++ near p way d reach at ∷ []) e
      ≡ holds w s.memory (InSequence (size_of w.table t) (steps way z) q)
  moves-compared Null e p i z way n factor d reach at x base moves least span = absurd (cc (base))
  moves-compared (Number k) e p i z way n factor d reach at x base moves least span = absurd (cc (base))
  moves-compared (At l) e p i z way n factor d reach at x base moves least span = moved-alike l e p x i z way n factor d reach at moves least span
  moves-compared (Function f) e p i z way n factor d reach at x base moves least span = absurd (cc (base))

-- WILD

reach-between : (y : ℤ) → (int_le (pos 0) (y +ℤ pos (2 ^ 40)) && int_lt (y +ℤ pos (2 ^ 40)) (pos (2 ^ 41 + 1))) ≡ between (neg_ℤ (pos (2 ^ 40))) y (pos (2 ^ 40))
reach-between y =
    ap (λ c. c && int_lt (y +ℤ pos (2 ^ 40)) (pos (2 ^ 41 + 1)))
    (same_le (pos 0) (y +ℤ pos (2 ^ 40)) (neg_ℤ (pos (2 ^ 40))) y (λ k. omega (arith, ints, k)) (λ k. omega (arith, ints, k)))
    ∙ ap (λ c. int_le (neg_ℤ (pos (2 ^ 40))) y && c)
    (less-one (y +ℤ pos (2 ^ 40)) (pos (2 ^ 41 + 1))
    ∙ same_le (y +ℤ pos (2 ^ 40)) (pos (2 ^ 41 + 1) -ℤ pos 1) y (pos (2 ^ 40)) (λ k. omega (arith, ints, k)) (λ k. omega (arith, ints, k)))
  where
    less-one : (x y : ℤ) → int_lt x y ≡ int_le x (y -ℤ pos 1)
    less-one x y = grind (arith, ints)

-- an integer whose product is small enough
quotient-small : (z : ℤ) (n b m : ℕ) → IsWithin (z *ℤ pos n) m → m < b * n + n → (k : ℕ) × (k ≤ b) × IsWithin z k
quotient-small (pos a) n b m h l = (
  a,
  ⊎_elim (λ x. x) (λ x. absurd (
      let p : suc b * n ≤ a * n = mul-le-mul_right n x in let q = h.high in omega (arith, ints, p, q, l))) (case a b),
  record { low = omega (arith, ints); high = omega (arith, ints) },
)
  where
    case : (a b : ℕ) → (a ≤ b) ⊎ (b < a)
    case a b = grind arith
quotient-small (negsuc a) n b m h l = (
  suc a,
  ⊎_elim (λ x. x) (λ x. absurd (
      let p : suc b * n ≤ suc a * n = mul-le-mul_right n x in let q = h.low in omega (arith, ints, p, q, l))) (case (suc a) b),
  record { low = omega (arith, ints); high = omega (arith, ints) },
)
  where
    case : (a b : ℕ) → (a ≤ b) ⊎ (b < a)
    case a b = grind arith

module _ (w : Setting) (number_of : TypeId → ℕ) (s : source.State) (c : flat.State) (parts : Parts) (depth : ℕ) (t : TypeId) (sound : IsWellFormed w.table)
    (complete : IsComplete w.table t) where
  abbrev made_from : Ground
  made_from = ground_of w number_of s c

  abbrev n : ℕ
  n = size_of w.table t

  some-bytes : 0 < size_of w.table t
  some-bytes = (sound.sized t complete).some

  few-bytes : size_of w.table t < 2 ^ 25
  few-bytes = let a = (sound.sized t complete).most in omega (arith, a)

  module _ (l : Location) (e : ℕ → ℕ) (p : PointerSlots) (x : IsChecked w number_of s c depth Wild t (At l) e p) (i : IntegerType) (z : ℤ) (way : Direction) (a : ℕ)
      (factor : Factor) (d : Distance) (reach : Reach) (at : Place) (moves : IsMoved i z (size_of w.table t) a factor d e) (least : reach.least.value ≡ 2 ^ 40)
      (span : reach.span.value ≡ 2 ^ 41 + 1) where
    small-address : address made_from l.object < 2 ^ 64
    small-address =
        let v : IsWildAt w (outlines_of s.memory) l = x.held.value in
        let o = has-outline s.memory depth l.object v.object v.found x.held.reaches in
        let h = (x.related.areas.lie l.object o.object o.found o.live).inside in let k = x.related.small in omega (arith, h, k)

    offset-near : IsWithin l.offset (2 ^ 40)
    offset-near = let v : IsWildAt w (outlines_of s.memory) l = x.held.value in let h = v.least in let k = v.most in
        record { low = omega (arith, ints, h); high = omega (arith, ints, k) }

    wild-near : is_near (difference_words (moved way (e p.first) (distance_of d e)) (e p.second)) reach.least.value reach.span.value
        ≡ nat_lt (word ((l.offset +ℤ steps way z *ℤ pos n) +ℤ pos (2 ^ 40))) (2 ^ 41 + 1)
    wild-near =
        ap (λ k. is_near (difference_words (moved way k (distance_of d e)) (e p.second)) reach.least.value reach.span.value) x.words.0
        ∙ ap (λ k. is_near (difference_words (moved way (word (pos (address made_from l.object) +ℤ l.offset)) k) (e p.second)) reach.least.value reach.span.value)
        (distance-word n a d e z moves.apart moves.stands)
        ∙ ap (λ k. is_near (difference_words (moved way (word (pos (address made_from l.object) +ℤ l.offset)) (word (z *ℤ pos n))) k) reach.least.value reach.span.value) x.words.1
        ∙ ap (λ k. is_near (difference_words (moved way (word (pos (address made_from l.object) +ℤ l.offset)) (word (z *ℤ pos n))) (address made_from l.object)) k reach.span.value) least
        ∙ ap (λ k. is_near (difference_words (moved way (word (pos (address made_from l.object) +ℤ l.offset)) (word (z *ℤ pos n))) (address made_from l.object)) (2 ^ 40) k) span
        ∙ near-moved way (address made_from l.object) n l.offset z (2 ^ 40) (2 ^ 41 + 1) small-address (omega arith)

    wild-alike : all_hold parts c.memory (factor_asked factor a at ++ near p way d reach at ∷ []) e
        ≡ holds w s.memory (InReach (steps way z *ℤ pos (size_of w.table t)) (At l))
    wild-alike =
        split-all parts c at factor a p way d reach e ∙ by (factored w s parts c at i z n a factor d e moves some-bytes few-bytes)
      where
        by : Factored z n (all_hold parts c.memory (factor_asked factor a at) e)
            → (all_hold parts c.memory (factor_asked factor a at) e
            && is_near (difference_words (moved way (e p.first) (distance_of d e)) (e p.second)) reach.least.value reach.span.value)
            ≡ holds w s.memory (InReach (steps way z *ℤ pos (size_of w.table t)) (At l))
        by (small_one f h) =
            ap (λ q. q && is_near (difference_words (moved way (e p.first) (distance_of d e)) (e p.second)) reach.least.value reach.span.value) f
            ∙ wild-near
            ∙ near-word ((l.offset +ℤ steps way z *ℤ pos n) +ℤ pos (2 ^ 40)) (2 ^ 41 + 1) (omega arith)
            (close ((l.offset +ℤ steps way z *ℤ pos n) +ℤ pos (2 ^ 40))
            (within-sum l.offset (steps way z *ℤ pos n) (pos (2 ^ 40)) (2 ^ 40) (2 ^ 62) (2 ^ 40) (2 ^ 62 + 2 ^ 59) offset-near
            (subst (λ y. IsWithin y (2 ^ 62)) (turned way) (within-steps way (z *ℤ pos n) (2 ^ 62) h)) refl (omega arith)))
            ∙ reach-between (l.offset +ℤ steps way z *ℤ pos n)
          where
            turned : (way : Direction) → steps way (z *ℤ pos n) ≡ steps way z *ℤ pos n
            turned Forward = refl
            turned Backward = sym (times-neg z n)
        by (large_one f h) =
            ap (λ q. q && is_near (difference_words (moved way (e p.first) (distance_of d e)) (e p.second)) reach.least.value reach.span.value) f
            ∙ sym (both-false (l.offset +ℤ steps way z *ℤ pos n) (2 ^ 40) none)
          where
            none : IsWithin (l.offset +ℤ steps way z *ℤ pos n) (2 ^ 40) → ⊥
            none k =
                let y = within-less l.offset (steps way z *ℤ pos n) (2 ^ 40) (2 ^ 40) k offset-near in
                let q = quotient-small (steps way z) n (2 ^ 62 / n) (2 ^ 40 + 2 ^ 40) y (let m = (most-times n some-bytes).1 in omega (arith, m)) in
                h q.0 q.1 (within-back way z q.0 q.2)

  pub wild-moves-compared : (q : Pointer) (e : ℕ → ℕ) (p : PointerSlots) (i : IntegerType) (z : ℤ) (way : Direction) (a : ℕ) (factor : Factor) (d : Distance)
      (reach : Reach) (at : Place)
      → IsChecked w number_of s c depth Wild t q e p → holds w s.memory (HasBase q) ≡ true → IsMoved i z (size_of w.table t) a factor d e
      → reach.least.value ≡ 2 ^ 40 → reach.span.value ≡ 2 ^ 41 + 1
      → all_hold parts c.memory (factor_asked factor a at ++ near p way d reach at ∷ []) e
      ≡ holds w s.memory (InReach (steps way z *ℤ pos (size_of w.table t)) q)
  wild-moves-compared Null e p i z way a factor d reach at x base moves least span = absurd (cc (base))
  wild-moves-compared (Number k) e p i z way a factor d reach at x base moves least span = absurd (cc (base))
  wild-moves-compared (At l) e p i z way a factor d reach at x base moves least span = wild-alike l e p x i z way a factor d reach at moves least span
  wild-moves-compared (Function f) e p i z way a factor d reach at x base moves least span = absurd (cc (base))

-- the address of a part

module _ (w : Setting) (number_of : TypeId → ℕ) (s : source.State) (c : flat.State) (parts : Parts) (depth : ℕ) (t : TypeId) where
  part-alike : (l : Location) (e : ℕ → ℕ) (p : PointerSlots) (offset n : ℕ) (reach : Reach) (at : Place) → IsChecked w number_of s c depth Wild t (At l) e p
      → offset ≤ 2 ^ 62 → e n ≡ offset → reach.least.value ≡ 2 ^ 40 → reach.span.value ≡ 2 ^ 41 + 1
      → all_hold parts c.memory (near p Forward (Bytes n) reach at ∷ []) e ≡ holds w s.memory (InReach (pos offset) (At l))
  part-alike l e p offset n reach at x few is least span =
      and-true (is_near (difference_words (moved Forward (e p.first) (e n)) (e p.second)) reach.least.value reach.span.value)
      ∙ ap (λ k. is_near (difference_words (moved Forward k (e n)) (e p.second)) reach.least.value reach.span.value) x.words.0
      ∙ ap (λ k. is_near (difference_words (moved Forward (word (pos base +ℤ l.offset)) k) (e p.second)) reach.least.value reach.span.value)
      (distance-word 1 n (Bytes n) e (pos offset) (refl, refl) (is ∙ sym (word-small offset (omega (arith, few)))))
      ∙ ap (λ k. is_near (difference_words (moved Forward (word (pos base +ℤ l.offset)) (word (pos offset *ℤ pos 1))) k) reach.least.value reach.span.value) x.words.1
      ∙ ap (λ k. is_near (difference_words (moved Forward (word (pos base +ℤ l.offset)) (word (pos offset *ℤ pos 1))) base) k reach.span.value) least
      ∙ ap (λ k. is_near (difference_words (moved Forward (word (pos base +ℤ l.offset)) (word (pos offset *ℤ pos 1))) base) (2 ^ 40) k) span
      ∙ near-moved Forward base 1 l.offset (pos offset) (2 ^ 40) (2 ^ 41 + 1) small-base (omega arith)
      ∙ near-word ((l.offset +ℤ pos offset *ℤ pos 1) +ℤ pos (2 ^ 40)) (2 ^ 41 + 1) (omega arith)
      (close ((l.offset +ℤ pos offset *ℤ pos 1) +ℤ pos (2 ^ 40))
      (within-sum l.offset (pos offset *ℤ pos 1) (pos (2 ^ 40)) (2 ^ 40) (2 ^ 62) (2 ^ 40) (2 ^ 62 + 2 ^ 59) offset-near
      (record { low = omega (arith, ints); high = omega (arith, ints, few) }) refl (omega arith)))
      ∙ reach-between (l.offset +ℤ pos offset *ℤ pos 1)
      ∙ ap (λ z. between (neg_ℤ (pos (2 ^ 40))) (l.offset +ℤ z) (pos (2 ^ 40))) (let f : pos offset *ℤ pos 1 ≡ pos offset = omega (arith, ints) in f)
    where
      v : IsWildAt w (outlines_of s.memory) l
      v = x.held.value

      base : ℕ
      base = address (ground_of w number_of s c) l.object

      small-base : address (ground_of w number_of s c) l.object < 2 ^ 64
      small-base =
          let o = has-outline s.memory depth l.object v.object v.found x.held.reaches in
          let h = (x.related.areas.lie l.object o.object o.found o.live).inside in let k = x.related.small in omega (arith, h, k)

      offset-near : IsWithin l.offset (2 ^ 40)
      offset-near = let h = v.least in let k = v.most in record { low = omega (arith, ints, h); high = omega (arith, ints, k) }

  pub wild-parts-compared : (q : Pointer) (e : ℕ → ℕ) (p : PointerSlots) (offset n : ℕ) (reach : Reach) (at : Place) → IsChecked w number_of s c depth Wild t q e p
      → holds w s.memory (HasBase q) ≡ true → offset ≤ 2 ^ 62 → e n ≡ offset → reach.least.value ≡ 2 ^ 40 → reach.span.value ≡ 2 ^ 41 + 1
      → all_hold parts c.memory (near p Forward (Bytes n) reach at ∷ []) e ≡ holds w s.memory (InReach (pos offset) q)
  wild-parts-compared Null e p offset n reach at x base few is least span = absurd (cc (base))
  wild-parts-compared (Number k) e p offset n reach at x base few is least span = absurd (cc (base))
  wild-parts-compared (At l) e p offset n reach at x base few is least span = part-alike l e p offset n reach at x few is least span
  wild-parts-compared (Function f) e p offset n reach at x base few is least span = absurd (cc (base))
