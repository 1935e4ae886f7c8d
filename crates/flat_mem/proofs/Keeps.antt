-- What holds of a flat memory's fields still holds after a store, a zeroing and a move. In these lemmas b are the
-- bounds, t the top, c the charge, h and k the heap's top and charge, r and s the room for marks and addresses.
use Rattle.std.specs.Prelude.{◌≡◌, ℕ, ◌*◌, ◌≤◌, Bool, List, ◌++◌, length, take, drop}
use Rattle.std.proofs.Common.{sym, ◌∙◌, ap, subst, arith}
use Rattle.std.proofs.lemmas.List.{take_all, drop_all, append-nil}
use Rattle.flat_mem.specs.declared.memory.Mark.{Mark}
use Rattle.flat_mem.specs.declared.WordRow.{WordRow}
use Rattle.flat_mem.specs.Bytes.{AreBytes, stored, zeroed, bytes_at, written, moved}
use Rattle.flat_mem.specs.Memory.{Bounds, Memory, with_bytes}
use Rattle.flat_mem.specs.Marks.{memory_seen, IsKept}
use Rattle.flat_mem.specs.Tags.{tag_written, tags_in, row_moved}
use Rattle.flat_mem.proofs.TagLaws.{length-tag_written, length-tags_written, tag_written-bytes, tags_written-bytes}
use Rattle.flat_mem.proofs.SoundLaws.{sound-with_bytes}
use Rattle.flat_mem.proofs.ByteLaws.{length-stored, length-zeroed, length-moved, length-written, stored-bytes, zeroed-bytes, moved-bytes, written-bytes, bytes_at-bytes}

-- A vector's items once a slice of all of them was written

pub written-back : (old lent new : List ℕ) (len : ℕ) → lent ≡ old → length lent ≡ len → length new ≡ length lent → take len (new ++ drop (length new) old) ≡ new
written-back old lent new len is size same =
    let olds : length old ≡ len = ap length (sym is) ∙ size in
    ap (λ rest. take len (new ++ rest)) (drop_all (length new) old (omega (arith, olds, same, size)))
    ∙ (ap (take len) (append-nil new) ∙ take_all len new (omega (arith, same, size)))

kept-bytes : (old new : List ℕ) (b : Bounds) (marks : List Mark) (addresses : List ℕ) (t c h k r s : ℕ) → IsKept old b marks addresses t c h k r s → AreBytes new → length new ≡ length old → IsKept new b marks addresses t c h k r s
kept-bytes old new b marks addresses t c h k r s kept are same = record {
  sound = sound-with_bytes (memory_seen old b marks addresses h k) new are same kept.sound;
  lie = kept.lie;
  at_top = kept.at_top;
  charged = kept.charged;
  marks_fit = kept.marks_fit;
  addresses_fit = kept.addresses_fit;
  small = let old_small = kept.small in omega (arith, old_small, same);
}

kept-back : (old lent new : List ℕ) (len : ℕ) (b : Bounds) (marks : List Mark) (addresses : List ℕ) (t c h k r s : ℕ) → lent ≡ old → length lent ≡ len → (AreBytes old → AreBytes new) → length new ≡ length lent → IsKept old b marks addresses t c h k r s → IsKept (take len (new ++ drop (length new) old)) b marks addresses t c h k r s
kept-back old lent new len b marks addresses t c h k r s is size are same kept =
    let olds : length old ≡ len = ap length (sym is) ∙ size in
    let P : List ℕ → Type 0 = λ l. IsKept l b marks addresses t c h k r s in
    subst P (sym (written-back old lent new len is size same)) (kept-bytes old new b marks addresses t c h k r s kept (are kept.sound.bytes) (same ∙ (size ∙ sym olds)))

pub kept-stored : (n at v : ℕ) (old lent new : List ℕ) (len : ℕ) (b : Bounds) (marks : List Mark) (addresses : List ℕ) (t c h k r s : ℕ) → lent ≡ old → length lent ≡ len → new ≡ stored n lent at v → IsKept old b marks addresses t c h k r s → IsKept (take len (new ++ drop (length new) old)) b marks addresses t c h k r s
kept-stored n at v old lent new len b marks addresses t c h k r s is size e kept =
    kept-back old lent new len b marks addresses t c h k r s is size
    (λ are. subst AreBytes (sym e) (stored-bytes n lent at v (subst AreBytes (sym is) are)))
    (ap length e ∙ length-stored n lent at v) kept

pub kept-zeroed : (n at : ℕ) (old lent new : List ℕ) (len : ℕ) (b : Bounds) (marks : List Mark) (addresses : List ℕ) (t c h k r s : ℕ) → lent ≡ old → length lent ≡ len → new ≡ zeroed n lent at → IsKept old b marks addresses t c h k r s → IsKept (take len (new ++ drop (length new) old)) b marks addresses t c h k r s
kept-zeroed n at old lent new len b marks addresses t c h k r s is size e kept =
    kept-back old lent new len b marks addresses t c h k r s is size
    (λ are. subst AreBytes (sym e) (zeroed-bytes n lent at (subst AreBytes (sym is) are)))
    (ap length e ∙ length-zeroed n lent at) kept

pub kept-moved : (n to from : ℕ) (old lent new : List ℕ) (len : ℕ) (b : Bounds) (marks : List Mark) (addresses : List ℕ) (t c h k r s : ℕ) → lent ≡ old → length lent ≡ len → new ≡ moved n lent to from → IsKept old b marks addresses t c h k r s → IsKept (take len (new ++ drop (length new) old)) b marks addresses t c h k r s
kept-moved n to from old lent new len b marks addresses t c h k r s is size e kept =
    kept-back old lent new len b marks addresses t c h k r s is size
    (λ are. subst AreBytes (sym e) (moved-bytes n lent to from (subst AreBytes (sym is) are)))
    (ap length e ∙ length-moved n lent to from) kept

pub kept-tag : (tag : Bool) (t : ℕ) (old lent new : List ℕ) (len : ℕ) (b : Bounds) (marks : List Mark) (addresses : List ℕ) (top c h k r s : ℕ) → lent ≡ old → length lent ≡ len → new ≡ tag_written tag lent t → IsKept old b marks addresses top c h k r s → IsKept (take len (new ++ drop (length new) old)) b marks addresses top c h k r s
kept-tag tag t old lent new len b marks addresses top c h k r s is size e kept =
    kept-back old lent new len b marks addresses top c h k r s is size
    (λ are. subst AreBytes (sym e) (tag_written-bytes tag lent t (subst AreBytes (sym is) are)))
    (ap length e ∙ length-tag_written tag lent t) kept

length-row : (count : ℕ) (bytes : List ℕ) (to from : WordRow) → length (row_moved count bytes to from) ≡ length bytes
length-row count bytes to from =
    let copied : List ℕ = moved (8 * count) bytes to.words from.words in
    length-tags_written (tags_in count bytes from.tags) (written (bytes_at (8 * count) bytes from.bases) copied to.bases) to.tags
    ∙ (length-written (bytes_at (8 * count) bytes from.bases) copied to.bases ∙ length-moved (8 * count) bytes to.words from.words)

row-bytes : (count : ℕ) (bytes : List ℕ) (to from : WordRow) → AreBytes bytes → AreBytes (row_moved count bytes to from)
row-bytes count bytes to from are =
    let copied : List ℕ = moved (8 * count) bytes to.words from.words in
    tags_written-bytes (tags_in count bytes from.tags) (written (bytes_at (8 * count) bytes from.bases) copied to.bases) to.tags
    (written-bytes (bytes_at (8 * count) bytes from.bases) copied to.bases (bytes_at-bytes (8 * count) bytes from.bases are) (moved-bytes (8 * count) bytes to.words from.words are))

pub kept-row : (count : ℕ) (to from : WordRow) (old lent new : List ℕ) (len : ℕ) (b : Bounds) (marks : List Mark) (addresses : List ℕ) (t c h k r s : ℕ) → lent ≡ old → length lent ≡ len → new ≡ row_moved count lent to from → IsKept old b marks addresses t c h k r s → IsKept (take len (new ++ drop (length new) old)) b marks addresses t c h k r s
kept-row count to from old lent new len b marks addresses t c h k r s is size e kept =
    kept-back old lent new len b marks addresses t c h k r s is size
    (λ are. subst AreBytes (sym e) (row-bytes count lent to from (subst AreBytes (sym is) are)))
    (ap length e ∙ length-row count lent to from) kept

-- A range of no bytes

pub none-zeroed : (m : Memory) (n at : ℕ) → n ≤ 0 → m ≡ with_bytes m (zeroed n m.bytes at)
unfolding zeroed
none-zeroed m n at h = let none : 0 ≡ n = omega (arith, h) in ap (λ k. with_bytes m (zeroed k m.bytes at)) none

pub none-moved : (m : Memory) (n to from : ℕ) → n ≤ 0 → m ≡ with_bytes m (moved n m.bytes to from)
unfolding bytes_at written
none-moved m n to from h = let none : 0 ≡ n = omega (arith, h) in ap (λ k. with_bytes m (moved k m.bytes to from)) none
