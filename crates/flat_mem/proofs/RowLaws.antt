-- Two ranges of bytes, copied one after another, are as if both had been read before the first was written. L is the list
-- before it: m bytes go from u to p, and n bytes from v to q.
use Rattle.std.specs.Prelude.{◌≡◌, ℕ, ◌+◌, ◌-◌, ◌<◌, ◌≤◌, ◌⊎◌, List, length, slice_index, min}
use Rattle.std.proofs.Common.{sym, ◌∙◌, ap, ⊎_elim, inl, inr, arith}
use Rattle.std.proofs.lemmas.List.{ext_get_or}
use Rattle.flat_mem.specs.Bytes.{bytes_at, moved}
use Rattle.flat_mem.specs.Rows.{two_moved}
use Rattle.flat_mem.proofs.ByteLaws.{length-bytes_at, length-written, length-moved, get-written_other, get-written_inside, get-bytes_at, get-moved_other, get-moved_inside}

-- i lies outside of the n places from a on
abbrev Out : (a n i : ℕ) → Type 0
Out a n i = (i < a) ⊎ (a + n ≤ i)

out-or-in : (a n i : ℕ) → Out a n i ⊎ ((a ≤ i) × (i < a + n))
out-or-in a n i = grind arith

-- what is read of a range that was copied, where the place is known as a sum
inside : (n : ℕ) (bytes : List ℕ) (to from i k : ℕ) → i ≡ to + k → k < n → to + n ≤ length bytes → slice_index (moved n bytes to from) i ≡ slice_index bytes (from + k)
inside n bytes to from i k is less room = ap (slice_index (moved n bytes to from)) is ∙ get-moved_inside n bytes to from k less room

-- a list is that with both ranges copied, place by place
record IsTwoMoved (m n : ℕ) (bytes : List ℕ) (p u q v : ℕ) (new : List ℕ) : Type 0 where
  size : length new ≡ length bytes
  first : (k : ℕ) → k < m → slice_index new (p + k) ≡ slice_index bytes (u + k)
  second : (k : ℕ) → k < n → slice_index new (q + k) ≡ slice_index bytes (v + k)
  other : (i : ℕ) → Out p m i → Out q n i → slice_index new i ≡ slice_index bytes i

pub length-two : (m n : ℕ) (bytes : List ℕ) (p u q v : ℕ) → length (two_moved m n bytes p u q v) ≡ length bytes
length-two m n bytes p u q v = length-written (bytes_at n bytes v) (moved m bytes p u) q ∙ length-moved m bytes p u

two-second : (m n : ℕ) (bytes : List ℕ) (p u q v k : ℕ) → q + n ≤ length bytes → k < n → slice_index (two_moved m n bytes p u q v) (q + k) ≡ slice_index bytes (v + k)
two-second m n bytes p u q v k room less =
    let e = length-bytes_at n bytes v in
    let f = length-moved m bytes p u in
    get-written_inside (bytes_at n bytes v) (moved m bytes p u) q k (omega (arith, e, less)) (omega (arith, e, f, room)) ∙ get-bytes_at n bytes v k less

two-out : (m n : ℕ) (bytes : List ℕ) (p u q v i : ℕ) → Out q n i → slice_index (two_moved m n bytes p u q v) i ≡ slice_index (moved m bytes p u) i
two-out m n bytes p u q v i out = get-written_other (bytes_at n bytes v) (moved m bytes p u) q i (let e = length-bytes_at n bytes v in grind (arith, e))

is-two : (m n : ℕ) (bytes : List ℕ) (p u q v : ℕ) (new : List ℕ) → p + m ≤ q → q + n ≤ length bytes → IsTwoMoved m n bytes p u q v new → new ≡ two_moved m n bytes p u q v
is-two m n bytes p u q v new apart room h =
    ext_get_or 0 new (two_moved m n bytes p u q v) (h.size ∙ sym (length-two m n bytes p u q v)) (λ i less. ⊎_elim
    (λ out. ⊎_elim
    (λ away. h.other i away out ∙ sym (two-out m n bytes p u q v i out ∙ get-moved_other m bytes p u i away))
    (λ at. let is : i ≡ p + (i - p) = omega (arith, at.0) in
    ap (slice_index new) is ∙ (h.first (i - p) (omega (arith, at.0, at.1)) ∙ sym (two-out m n bytes p u q v i out ∙ inside m bytes p u i (i - p) is (omega (arith, at.0, at.1)) (omega (arith, apart, room)))))
    (out-or-in p m i))
    (λ at. let is : i ≡ q + (i - q) = omega (arith, at.0) in
    ap (slice_index new) is ∙ (h.second (i - q) (omega (arith, at.0, at.1)) ∙ sym (ap (slice_index (two_moved m n bytes p u q v)) is ∙ two-second m n bytes p u q v (i - q) room (omega (arith, at.0, at.1)))))
    (out-or-in q n i))

-- What the second overwrites need not be written first

pub two-seen : (m n : ℕ) (bytes : List ℕ) (p u q v : ℕ) → p ≤ q → q + n ≤ length bytes → m ≡ min n (q - p) → two_moved n n bytes p u q v ≡ two_moved m n bytes p u q v
two-seen m n bytes p u q v order room is = is-two m n bytes p u q v (two_moved n n bytes p u q v) (omega (arith, is, order)) room (record {
  size = length-two n n bytes p u q v;
  first = λ k less. two-out n n bytes p u q v (p + k) (inl (omega (arith, is, less, order))) ∙ get-moved_inside n bytes p u k (omega (arith, is, less)) (omega (arith, order, room));
  second = λ k less. two-second n n bytes p u q v k room less;
  other = λ i away out. two-out n n bytes p u q v i out ∙ get-moved_other n bytes p u i (further m n p q i order is away out);
})
  where
    further : (m n p q i : ℕ) → p ≤ q → m ≡ min n (q - p) → Out p m i → Out q n i → Out p n i
    further m n p q i order is (inl low) out = inl low
    further m n p q i order is (inr high) (inl low) = inr (omega (arith, is, high, low, order))
    further m n p q i order is (inr high) (inr past) = inr (omega (arith, order, past))

-- The second goes down: the first is written below what the second is read from

down : (m n : ℕ) (bytes : List ℕ) (p u q v : ℕ) → p + m ≤ q → q + n ≤ length bytes → q < v → moved n (moved m bytes p u) q v ≡ two_moved m n bytes p u q v
down m n bytes p u q v apart room falls =
    let now = moved m bytes p u in
    let size = length-moved m bytes p u in
    is-two m n bytes p u q v (moved n now q v) apart room (record {
      size = length-moved n now q v ∙ size;
      first = λ k less. get-moved_other n now q v (p + k) (inl (omega (arith, less, apart))) ∙ get-moved_inside m bytes p u k less (omega (arith, apart, room));
      second = λ k less. get-moved_inside n now q v k less (omega (arith, size, room)) ∙ get-moved_other m bytes p u (v + k) (inr (omega (arith, apart, falls)));
      other = λ i away out. get-moved_other n now q v i out ∙ get-moved_other m bytes p u i away;
    })

pub moved-down : (c m n : ℕ) (bytes now new : List ℕ) (p u q v : ℕ) → c ≡ n → p ≤ q → q + n ≤ length bytes → m ≡ min c (q - p) → q < v → now ≡ moved m bytes p u → new ≡ moved n now q v → new ≡ two_moved c n bytes p u q v
moved-down c m n bytes now new p u q v same order room is falls begun last =
    last
    ∙ (ap (λ l. moved n l q v) begun
    ∙ (down m n bytes p u q v (omega (arith, is, order)) room falls
    ∙ sym (ap (λ k. two_moved k n bytes p u q v) same ∙ two-seen m n bytes p u q v order room (is ∙ ap (λ k. min k (q - p)) same))))

-- The second goes up: its end first, which is in its own source alone, then the first, then what both have, as the first has it

early-or-late : (k n : ℕ) → (k < n) ⊎ (n ≤ k)
early-or-late k n = grind arith

-- out of a range is out of a part of it
part-out : (a n skip count i : ℕ) → skip + count ≤ n → Out a n i → Out (a + skip) count i
part-out a n skip count i fits (inl low) = inl (omega (arith, low))
part-out a n skip count i fits (inr high) = inr (omega (arith, high, fits))

front-out : (a n count i : ℕ) → count ≤ n → Out a n i → Out a count i
front-out a n count i fits (inl low) = inl low
front-out a n count i fits (inr high) = inr (omega (arith, high, fits))

up : (m n shared : ℕ) (bytes : List ℕ) (p u q v : ℕ) → m ≤ n → u ≤ v → v ≤ q → p + m ≤ q → q + n ≤ length bytes → shared ≡ u + m - v
    → moved shared (moved m (moved (n - shared) bytes (q + shared) (v + shared)) p u) q (p + (m - shared)) ≡ two_moved m n bytes p u q v
up m n shared bytes p u q v fewer order rises apart room is =
    let one = moved (n - shared) bytes (q + shared) (v + shared) in
    let now = moved m one p u in
    let size : length one ≡ length bytes = length-moved (n - shared) bytes (q + shared) (v + shared) in
    let size_now : length now ≡ length bytes = length-moved m one p u ∙ size in
    let fits : shared ≤ m = omega (arith, is, order) in
    let kept : (k : ℕ) → k < m → slice_index now (p + k) ≡ slice_index bytes (u + k) = λ k less.
    get-moved_inside m one p u k less (omega (arith, size, apart, room)) ∙ get-moved_other (n - shared) bytes (q + shared) (v + shared) (u + k) (inl (omega (arith, is, less, rises, order))) in
    is-two m n bytes p u q v (moved shared now q (p + (m - shared))) apart room (record {
      size = length-moved shared now q (p + (m - shared)) ∙ size_now;
      first = λ k less. get-moved_other shared now q (p + (m - shared)) (p + k) (inl (omega (arith, less, apart))) ∙ kept k less;
      second = λ k less. ⊎_elim
          (λ early. get-moved_inside shared now q (p + (m - shared)) k early (omega (arith, size_now, fits, fewer, room))
          ∙ (ap (slice_index now) (omega arith) ∙ (kept (m - shared + k) (omega (arith, early, fits)) ∙ ap (slice_index bytes) (omega (arith, is, early, fits, order)))))
          (λ late. get-moved_other shared now q (p + (m - shared)) (q + k) (inr (omega (arith, late)))
          ∙ (get-moved_other m one p u (q + k) (inr (omega (arith, apart)))
          ∙ (inside (n - shared) bytes (q + shared) (v + shared) (q + k) (k - shared) (omega (arith, late)) (omega (arith, late, less)) (omega (arith, fits, fewer, room)) ∙ ap (slice_index bytes) (omega (arith, late)))))
          (early-or-late k shared);
      other = λ i away out.
          get-moved_other shared now q (p + (m - shared)) i (front-out q n shared i (omega (arith, fits, fewer)) out)
          ∙ (get-moved_other m one p u i away ∙ get-moved_other (n - shared) bytes (q + shared) (v + shared) i (part-out q n shared (n - shared) i (omega (arith, fits, fewer)) out));
    })

pub moved-up : (c m n shared : ℕ) (bytes one now new : List ℕ) (p u q v : ℕ) → c ≡ n → u ≤ v → p ≤ q → q + n ≤ length bytes → m ≡ min c (q - p) → v ≤ q → shared ≡ u + m - v
    → one ≡ moved (n - shared) bytes (q + shared) (v + shared) → now ≡ moved m one p u → new ≡ moved shared now q (p + (m - shared)) → new ≡ two_moved c n bytes p u q v
moved-up c m n shared bytes one now new p u q v same sources order room is rises is_shared begun next last =
    last
    ∙ (ap (λ l. moved shared l q (p + (m - shared))) (next ∙ ap (λ l. moved m l p u) begun)
    ∙ (up m n shared bytes p u q v (omega (arith, is, same)) sources rises (omega (arith, is, order)) room is_shared
    ∙ sym (ap (λ k. two_moved k n bytes p u q v) same ∙ two-seen m n bytes p u q v order room (is ∙ ap (λ k. min k (q - p)) same))))
