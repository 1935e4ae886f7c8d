-- What the code of tags and of moving words computes is what the definitions say.
use Rattle.std.specs.Prelude.{◌≡◌, ℕ, zero, suc, ◌+◌, ◌*◌, ◌/◌, ◌%◌, ◌<◌, ◌≤◌, Bool, List, [], ◌∷◌, ◌++◌, length, slice_index, slice_set, take, drop, refl}
use Rattle.std.proofs.Common.{sym, ◌∙◌, ap, arith, get_or, drop-cons}
use Rattle.std.proofs.lemmas.List.{drop_all, take_all}
use Rattle.flat_mem.specs.declared.WordRow.{WordRow}
use Rattle.flat_mem.specs.Bytes.{written}
use Rattle.flat_mem.specs.Tags.{with_bit, tag_in, tag_written, tags_in, tags_written, IsRowInside}
use Rattle.flat_mem.proofs.MemoryCode.{stored-1, written-more}
use Rattle.flat_mem.proofs.TagLaws.{length-tags_in, tags_in-none, tags_in-more}

-- One tag

pub tag_written-code : (bytes : List ℕ) (t v : ℕ) (tag : Bool) → v ≡ with_bit tag (t % 8) (slice_index bytes (t / 8)) → v < 256 → slice_set bytes (t / 8) v ≡ tag_written tag bytes t
unfolding tag_written
tag_written-code bytes t v tag is small =
    let low : v ≡ with_bit tag (t % 8) (slice_index bytes (t / 8)) % 256 = omega (arith, is, small) in
    ap (slice_set bytes (t / 8)) low ∙ sym (stored-1 bytes (t / 8) (with_bit tag (t % 8) (slice_index bytes (t / 8))))

-- Keeping tags

pub keep-none : (items : List Bool) (bytes : List ℕ) (t : ℕ) → items ≡ [] → items ≡ tags_in 0 bytes t
keep-none items bytes t is = is ∙ sym (tags_in-none bytes t)

pub keep-next : (now after : List Bool) (bytes : List ℕ) (t i : ℕ) (tag : Bool) → now ≡ tags_in i bytes t → tag ≡ tag_in bytes (t + i) → after ≡ now ++ tag ∷ [] → after ≡ tags_in (i + 1) bytes t
keep-next now after bytes t i tag is read pushed =
    let more : suc i ≡ i + 1 = omega arith in
    pushed
    ∙ (ap (λ l. l ++ tag ∷ []) is
    ∙ (ap (λ x. tags_in i bytes t ++ x ∷ []) read
    ∙ (sym (tags_in-more i bytes t) ∙ ap (λ k. tags_in k bytes t) more)))

-- Writing tags

pub write-next : (tags : List Bool) (k : ℕ) (d : Bool) (bytes now after : List ℕ) (t at next : ℕ) → tags_written (drop k tags) now at ≡ tags_written tags bytes t → k < length tags → after ≡ tag_written (get_or tags k d) now at → next ≡ at + 1 → tags_written (drop (k + 1) tags) after next ≡ tags_written tags bytes t
unfolding tags_written
write-next tags k d bytes now after t at next is h made step =
    let more : k + 1 ≡ suc k = omega arith in
    ap (λ j. tags_written (drop j tags) after next) more
    ∙ (ap (λ l. tags_written (drop (suc k) tags) l next) made
    ∙ (ap (tags_written (drop (suc k) tags) (tag_written (get_or tags k d) now at)) step
    ∙ (sym (ap (λ l. tags_written l now at) (drop-cons tags k d h)) ∙ is)))

pub write-done : (tags : List Bool) (k : ℕ) (bytes now : List ℕ) (t at : ℕ) → tags_written (drop k tags) now at ≡ tags_written tags bytes t → length tags ≤ k → now ≡ tags_written tags bytes t
unfolding tags_written
write-done tags k bytes now t at is h = sym (ap (λ l. tags_written l now at) (drop_all k tags h)) ∙ is

-- Writing bytes

take-more : (new : List ℕ) (i : ℕ) → i < length new → take (i + 1) new ≡ take i new ++ slice_index new i ∷ []
take-more [] i h = absurd (omega arith)
take-more (x ∷ new) zero h = refl
take-more (x ∷ new) (suc i) h = let more : suc i + 1 ≡ suc (i + 1) = omega arith in ap (λ k. take k (x ∷ new)) more ∙ ap (λ l. x ∷ l) (take-more new i (omega arith))

length-front : (new : List ℕ) (i : ℕ) → i ≤ length new → length (take i new) ≡ i
length-front new zero h = refl
length-front [] (suc i) h = absurd (omega arith)
length-front (x ∷ new) (suc i) h = ap suc (length-front new i (omega arith))

pub write_bytes-none : (bytes new : List ℕ) (at : ℕ) → bytes ≡ written (take 0 new) bytes at
unfolding written
write_bytes-none bytes new at = refl

pub write_bytes-next : (bytes now new : List ℕ) (at i : ℕ) → now ≡ written (take i new) bytes at → i < length new → slice_set now (at + i) (slice_index new i) ≡ written (take (i + 1) new) bytes at
write_bytes-next bytes now new at i is h =
    let size : length (take i new) ≡ i = length-front new i (omega arith) in
    ap (λ l. slice_set l (at + i) (slice_index new i)) is
    ∙ (ap (λ k. slice_set (written (take i new) bytes at) (at + k) (slice_index new i)) (sym size)
    ∙ sym (ap (λ l. written l bytes at) (take-more new i h) ∙ written-more (take i new) bytes at (slice_index new i)))

pub write_bytes-done : (bytes now new : List ℕ) (at i : ℕ) → now ≡ written (take i new) bytes at → length new ≤ i → now ≡ written new bytes at
write_bytes-done bytes now new at i is h = is ∙ ap (λ l. written l bytes at) (take_all i new h)

-- Moving words

pub tag-room : (bytes after : List ℕ) (tags kept : List Bool) (row : WordRow) (count t : ℕ) → IsRowInside bytes row count → tags ≡ kept → kept ≡ tags_in count bytes t → length after ≡ length bytes → row.tags + length tags ≤ 8 * length after
tag-room bytes after tags kept row count t inside lent is same =
    let a : length tags ≡ count = ap length (lent ∙ is) ∙ length-tags_in count bytes t in
    let e : row.tags + count ≤ 8 * length bytes = inside.tags in
    omega (arith, a, e, same)
