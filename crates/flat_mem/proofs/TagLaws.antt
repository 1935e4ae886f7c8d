-- Laws on tags: what setting or clearing a bit gives, and that it keeps the others.
use Rattle.std.specs.Prelude.{◌≡◌, ◌≢◌, ℕ, zero, suc, ◌+◌, ◌-◌, ◌*◌, ◌/◌, ◌%◌, ◌^◌, ◌<◌, ◌≤◌, Bool, true, false, List, [], ◌∷◌, ◌++◌, length, slice_index, bit_and, bit_or, if◌then◌else◌, refl}
use Rattle.std.specs.Int.{bit_at, bit_not, w8}
use Rattle.std.specs.Int.Bits.{or_add_and}
use Rattle.std.proofs.Common.{sym, ◌∙◌, ap, arith}
use Rattle.std.proofs.lemmas.Nat.{and_comm, and_le_l, and-not, one_shl, pow_below}
use Rattle.std.proofs.lemmas.Nat.Bits.{and_pow, bit_at_set_same, bit_at_set_other, bit_at_clear_same, bit_at_clear_other}
use Rattle.flat_mem.specs.Bytes.{AreBytes}
use Rattle.flat_mem.specs.Tags.{with_bit, tag_in, tag_written, tags_in, tags_written}
use Rattle.flat_mem.proofs.ByteLaws.{length-stored, stored-bytes}

-- One bit of a byte

one : (k : ℕ) → k < 8 → 1 * 2 ^ k % 2 ^ 8 ≡ 2 ^ k
one k h = one_shl k 8 h

pub set_bit : (v k : ℕ) → k < 8 → bit_or v (1 * 2 ^ k % 2 ^ 8) ≡ with_bit true k v
set_bit v k h =
    let sum : bit_or v (2 ^ k) + bit_and v (2 ^ k) ≡ v + 2 ^ k = or_add_and v (2 ^ k) in
    let bit : bit_and v (2 ^ k) ≡ bit_at v k * 2 ^ k = and_pow v k in
    let most : bit_and v (2 ^ k) ≤ v = and_le_l v (2 ^ k) in
    ap (bit_or v) (one k h) ∙ omega (arith, sum, bit, most)

pub clear_bit : (v k : ℕ) → k < 8 → v < 256 → bit_and v (bit_not w8 (1 * 2 ^ k % 2 ^ 8)) ≡ with_bit false k v
clear_bit v k h small =
    let both : bit_and (2 ^ 8 - 1 - 2 ^ k) v + bit_and (2 ^ k) v ≡ v = and-not 8 (2 ^ k) v (pow_below k 8 h) small in
    let turned : bit_and (2 ^ k) v ≡ bit_and v (2 ^ k) = and_comm (2 ^ k) v in
    let bit : bit_and v (2 ^ k) ≡ bit_at v k * 2 ^ k = and_pow v k in
    ap (λ m. bit_and v (bit_not w8 m)) (one k h) ∙ (and_comm v (2 ^ 8 - 1 - 2 ^ k) ∙ omega (arith, both, turned, bit))

pub with_bit-clear_most : (k v : ℕ) → with_bit false k v ≤ v
with_bit-clear_most k v = omega arith

pub bit-with_bit_other : (t : Bool) (k j v : ℕ) → k < 8 → j < 8 → j ≢ k → v < 256 → bit_at (with_bit t k v) j ≡ bit_at v j
bit-with_bit_other true k j v low other apart small = ap (λ x. bit_at x j) (sym (set_bit v k low)) ∙ bit_at_set_other w8 v k low j apart
bit-with_bit_other false k j v low other apart small = ap (λ x. bit_at x j) (sym (clear_bit v k low small)) ∙ bit_at_clear_other w8 v k low j other apart

pub bit-with_bit_same : (t : Bool) (k v : ℕ) → k < 8 → v < 256 → bit_at (with_bit t k v) k ≡ (if t then 1 else 0)
bit-with_bit_same true k v low small = ap (λ x. bit_at x k) (sym (set_bit v k low)) ∙ bit_at_set_same w8 v k low
bit-with_bit_same false k v low small = ap (λ x. bit_at x k) (sym (clear_bit v k low small)) ∙ bit_at_clear_same w8 v k low

-- a bit that is 0 is cleared already
pub with_bit-clear_none : (k v : ℕ) → bit_at v k ≡ 0 → with_bit false k v ≡ v
with_bit-clear_none k v none = let e : 2 ^ k * bit_at v k ≡ 2 ^ k * 0 = ap (λ x. 2 ^ k * x) none in omega (arith, e)

-- Lengths stay, and bytes stay bytes

pub length-tag_written : (tag : Bool) (bytes : List ℕ) (t : ℕ) → length (tag_written tag bytes t) ≡ length bytes
unfolding tag_written
length-tag_written tag bytes t = length-stored 1 bytes (t / 8) (with_bit tag (t % 8) (slice_index bytes (t / 8)))

pub length-tags_written : (tags : List Bool) (bytes : List ℕ) (t : ℕ) → length (tags_written tags bytes t) ≡ length bytes
unfolding tags_written
length-tags_written [] bytes t = refl
length-tags_written (tag ∷ tags) bytes t = length-tags_written tags (tag_written tag bytes t) (t + 1) ∙ length-tag_written tag bytes t

pub tag_written-bytes : (tag : Bool) (bytes : List ℕ) (t : ℕ) → AreBytes bytes → AreBytes (tag_written tag bytes t)
unfolding tag_written
tag_written-bytes tag bytes t are = stored-bytes 1 bytes (t / 8) (with_bit tag (t % 8) (slice_index bytes (t / 8))) are

pub tags_written-bytes : (tags : List Bool) (bytes : List ℕ) (t : ℕ) → AreBytes bytes → AreBytes (tags_written tags bytes t)
unfolding tags_written
tags_written-bytes [] bytes t are = are
tags_written-bytes (tag ∷ tags) bytes t are = tags_written-bytes tags (tag_written tag bytes t) (t + 1) (tag_written-bytes tag bytes t are)

pub length-tags_in : (n : ℕ) (bytes : List ℕ) (t : ℕ) → length (tags_in n bytes t) ≡ n
unfolding tags_in
length-tags_in zero bytes t = refl
length-tags_in (suc n) bytes t = ap suc (length-tags_in n bytes (t + 1))

pub tags_in-none : (bytes : List ℕ) (t : ℕ) → tags_in 0 bytes t ≡ []
unfolding tags_in
tags_in-none bytes t = refl

pub tags_in-more : (n : ℕ) (bytes : List ℕ) (t : ℕ) → tags_in (suc n) bytes t ≡ tags_in n bytes t ++ tag_in bytes (t + n) ∷ []
unfolding tags_in
tags_in-more zero bytes t = ap (λ k. tag_in bytes k ∷ []) (omega arith)
tags_in-more (suc n) bytes t = ap (λ l. tag_in bytes t ∷ l) (tags_in-more n bytes (t + 1) ∙ ap (λ k. tags_in n bytes (t + 1) ++ tag_in bytes k ∷ []) (omega arith))
