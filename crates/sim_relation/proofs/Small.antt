-- The small states are related, by computation.
use Rattle.std.proofs.Common.{◌≡◌, ◌≢◌, ℕ, zero, suc, ◌+◌, ◌*◌, ◌<◌, inl, inr, Bool, true, false, ◌&&◌, List, [], ◌∷◌, slice_get, slice_index, Some, refl, ap, sym, subst, ◌∙◌, arith, nat_lt}
use Rattle.std.proofs.lemmas.Bool.Decides.{nat_tests}
use Rattle.cc_base.specs.declared.number.TypeId.{TypeId}
use Rattle.cc_base.specs.declared.number.NodeId.{NodeId}
use Rattle.cc_base.specs.declared.kind.Kind.TheVariants.{Seq}
use Rattle.c_types.specs.Layouts.{layout_of}
use Rattle.c_types.specs.Cells.{raw, pointer, cells_at, AreOrdered}
use Rattle.c_types.specs.Widths.{before, ByteRange}
use Rattle.flat_mem.specs.Bytes.{number}
use Rattle.flat_mem.specs.Placement.{data_word, word_count, tagged_size}
use Rattle.flat_mem.specs.Memory.{IsSound}
use Rattle.src_mem.specs.Memory.{Object, pointer_or_null}
use Rattle.src_mem.specs.Outlines.{Outline, outline}
use Rattle.cured_code.specs.FlatState.{PlacedArea, words_at}
use Rattle.sim_relation.specs.Ground.{address, pointer_words, word_number}
use Rattle.cured_code.specs.FlatState.{Range}
use Rattle.sim_relation.specs.Objects.{HoldsTyped, HoldsTagged, HoldsWord, Holds, Lies, Apart, area_of}
use Rattle.sim_relation.specs.Accesses.{covered, image_by, IsImage, AreImages}
use Rattle.sim_relation.specs.Related.{AreAreas, Related}
use Rattle.sim_relation.specs.Small.{node, int, small_setting, number_of, first, second, small_source, small_bytes, small_memory, first_area, second_area, small_flat, small_ground, bytes_with, memory_with_frame, outline_of_call, access_elsewhere, access_to_pointer}

-- The cells of the first object

-- where they have a pointer's byte
record IsPointer (i j : ℕ) (n : NodeId) (t : TypeId) : Type 0 where
  pub at : i ≡ 8 + j
  pub below : j < 8
  pub node : node 1 ≡ n
  pub to : int ≡ t

is_pointer : (i j : ℕ) (n : NodeId) (t : TypeId) → slice_get first.cells i ≡ Some (pointer n t j) → IsPointer i j n t
is_pointer zero j n t e = absurd (cc (e))
is_pointer (suc zero) j n t e = absurd (cc (e))
is_pointer (suc (suc zero)) j n t e = absurd (cc (e))
is_pointer (suc (suc (suc zero))) j n t e = absurd (cc (e))
is_pointer (suc (suc (suc (suc zero)))) j n t e = absurd (cc (e))
is_pointer (suc (suc (suc (suc (suc zero))))) j n t e = absurd (cc (e))
is_pointer (suc (suc (suc (suc (suc (suc zero)))))) j n t e = absurd (cc (e))
is_pointer (suc (suc (suc (suc (suc (suc (suc zero))))))) j n t e = absurd (cc (e))
is_pointer (suc (suc (suc (suc (suc (suc (suc (suc zero)))))))) j n t e = let q : 0 ≡ j = cc (e) in record { at = omega arith; below = omega arith; node = cc (e); to = cc (e) }
is_pointer (suc (suc (suc (suc (suc (suc (suc (suc (suc zero))))))))) j n t e = let q : 1 ≡ j = cc (e) in record { at = omega arith; below = omega arith; node = cc (e); to = cc (e) }
is_pointer (suc (suc (suc (suc (suc (suc (suc (suc (suc (suc zero)))))))))) j n t e = let q : 2 ≡ j = cc (e) in record { at = omega arith; below = omega arith; node = cc (e); to = cc (e) }
is_pointer (suc (suc (suc (suc (suc (suc (suc (suc (suc (suc (suc zero))))))))))) j n t e = let q : 3 ≡ j = cc (e) in record { at = omega arith; below = omega arith; node = cc (e); to = cc (e) }
is_pointer (suc (suc (suc (suc (suc (suc (suc (suc (suc (suc (suc (suc zero)))))))))))) j n t e = let q : 4 ≡ j = cc (e) in record { at = omega arith; below = omega arith; node = cc (e); to = cc (e) }
is_pointer (suc (suc (suc (suc (suc (suc (suc (suc (suc (suc (suc (suc (suc zero))))))))))))) j n t e = let q : 5 ≡ j = cc (e) in record { at = omega arith; below = omega arith; node = cc (e); to = cc (e) }
is_pointer (suc (suc (suc (suc (suc (suc (suc (suc (suc (suc (suc (suc (suc (suc zero)))))))))))))) j n t e = let q : 6 ≡ j = cc (e) in record { at = omega arith; below = omega arith; node = cc (e); to = cc (e) }
is_pointer (suc (suc (suc (suc (suc (suc (suc (suc (suc (suc (suc (suc (suc (suc (suc zero))))))))))))))) j n t e = let q : 7 ≡ j = cc (e) in record { at = omega arith; below = omega arith; node = cc (e); to = cc (e) }
is_pointer (suc (suc (suc (suc (suc (suc (suc (suc (suc (suc (suc (suc (suc (suc (suc (suc i)))))))))))))))) j n t e = absurd (cc (e))

pointer_there : (j : ℕ) → j < 8 → slice_get first.cells (8 + j) ≡ Some (pointer (node 1) int j)
pointer_there zero h = refl
pointer_there (suc zero) h = refl
pointer_there (suc (suc zero)) h = refl
pointer_there (suc (suc (suc zero))) h = refl
pointer_there (suc (suc (suc (suc zero)))) h = refl
pointer_there (suc (suc (suc (suc (suc zero))))) h = refl
pointer_there (suc (suc (suc (suc (suc (suc zero)))))) h = refl
pointer_there (suc (suc (suc (suc (suc (suc (suc zero))))))) h = refl
pointer_there (suc (suc (suc (suc (suc (suc (suc (suc i)))))))) h = absurd (omega arith)

there : (i j : ℕ) (n : NodeId) (t : TypeId) → IsPointer i j n t → slice_get first.cells i ≡ Some (pointer n t j)
there i j n t p =
    ap (slice_get first.cells) p.at ∙ pointer_there j p.below ∙ ap (λ (m : NodeId). Some (pointer m int j)) p.node ∙ ap (λ (u : TypeId). Some (pointer n u j)) p.to

ordered : AreOrdered first.cells
ordered = record {
  least = λ i j n t e. let p = is_pointer i j n t e in let a = p.at in let b = p.below in (omega arith, omega arith);
  back = λ i j n t e. let p = is_pointer (suc i) (suc j) n t e in there i j n t (record { at = (let a = p.at in omega arith); below = (let b = p.below in omega arith); node = p.node; to = p.to });
  on = λ i j n t e h. let p = is_pointer i j n t e in there (suc i) (suc j) n t (record { at = (let a = p.at in omega arith); below = omega arith; node = p.node; to = p.to });
}

-- The first object

integers : (i : ℕ) → slice_get first.cells i ≡ Some raw → slice_index small_bytes (16 + before small_ground.kind first.cells i) ≡ slice_index first.bytes i
integers zero e = refl
integers (suc zero) e = refl
integers (suc (suc zero)) e = refl
integers (suc (suc (suc zero))) e = refl
integers (suc (suc (suc (suc zero)))) e = refl
integers (suc (suc (suc (suc (suc zero))))) e = refl
integers (suc (suc (suc (suc (suc (suc zero)))))) e = refl
integers (suc (suc (suc (suc (suc (suc (suc zero))))))) e = refl
integers (suc (suc (suc (suc (suc (suc (suc (suc zero)))))))) e = absurd (cc (e))
integers (suc (suc (suc (suc (suc (suc (suc (suc (suc zero))))))))) e = absurd (cc (e))
integers (suc (suc (suc (suc (suc (suc (suc (suc (suc (suc zero)))))))))) e = absurd (cc (e))
integers (suc (suc (suc (suc (suc (suc (suc (suc (suc (suc (suc zero))))))))))) e = absurd (cc (e))
integers (suc (suc (suc (suc (suc (suc (suc (suc (suc (suc (suc (suc zero)))))))))))) e = absurd (cc (e))
integers (suc (suc (suc (suc (suc (suc (suc (suc (suc (suc (suc (suc (suc zero))))))))))))) e = absurd (cc (e))
integers (suc (suc (suc (suc (suc (suc (suc (suc (suc (suc (suc (suc (suc (suc zero)))))))))))))) e = absurd (cc (e))
integers (suc (suc (suc (suc (suc (suc (suc (suc (suc (suc (suc (suc (suc (suc (suc zero))))))))))))))) e = absurd (cc (e))
integers (suc (suc (suc (suc (suc (suc (suc (suc (suc (suc (suc (suc (suc (suc (suc (suc i)))))))))))))))) e = absurd (cc (e))

words : words_at 3 small_bytes 24 ≡ pointer_words small_ground Seq (pointer_or_null (first.pointers 8))
unfolding number layout_of cells_at
words = refl

pointers : (i : ℕ) (n : NodeId) (t : TypeId) → slice_get first.cells i ≡ Some (pointer n t 0)
    → words_at (word_number (small_ground.kind n)) small_bytes (16 + before small_ground.kind first.cells i) ≡ pointer_words small_ground (small_ground.kind n) (pointer_or_null (first.pointers i))
pointers i n t e = of (is_pointer i 0 n t e)
  where
    of : IsPointer i 0 n t → words_at (word_number (small_ground.kind n)) small_bytes (16 + before small_ground.kind first.cells i) ≡ pointer_words small_ground (small_ground.kind n) (pointer_or_null (first.pointers i))
    of p =
        subst (λ (m : NodeId). words_at (word_number (small_ground.kind m)) small_bytes (16 + before small_ground.kind first.cells i) ≡ pointer_words small_ground (small_ground.kind m) (pointer_or_null (first.pointers i))) p.node
        (subst (λ (k : ℕ). words_at 3 small_bytes (16 + before small_ground.kind first.cells k) ≡ pointer_words small_ground Seq (pointer_or_null (first.pointers k))) (sym p.at) words)

typed : HoldsTyped small_ground small_bytes 16 first
typed = record { ordered = ordered; sized = refl; integers = integers; pointers = pointers }

-- The second

first_tagged_word : HoldsWord small_ground small_bytes 56 second 0 (second.pointers 0)
unfolding number
first_tagged_word = (refl, refl, refl)

plain_bytes : (i : ℕ) → i < 8 → 8 * 1 + i < 12 → slice_index small_bytes (data_word 56 1 + i) ≡ slice_index second.bytes (8 * 1 + i)
plain_bytes zero h k = refl
plain_bytes (suc zero) h k = refl
plain_bytes (suc (suc zero)) h k = refl
plain_bytes (suc (suc (suc zero))) h k = refl
plain_bytes (suc (suc (suc (suc i)))) h k = absurd (omega arith)

tagged_words : (k : ℕ) → k < word_count 12 → HoldsWord small_ground small_bytes 56 second k (second.pointers (8 * k))
tagged_words zero h = first_tagged_word
tagged_words (suc zero) h = (refl, plain_bytes)
tagged_words (suc (suc k)) h = absurd (omega arith)

tagged : HoldsTagged small_ground small_bytes 56 second
unfolding number
tagged = record { size = refl; words = tagged_words }

-- Both

each_is : (P : ℕ → Object → Type 0) → P 0 first → P 1 second → (k : ℕ) (o : Object) → slice_get small_source.memory.objects k ≡ Some o → P k o
each_is P p q zero o e = let f : first ≡ o = cc (e) in subst (P 0) f p
each_is P p q (suc zero) o e = let f : second ≡ o = cc (e) in subst (P 1) f q
each_is P p q (suc (suc k)) o e = absurd (cc (e))

first_lies : Lies small_ground.kind small_memory 16 (outline first)
first_lies = record { above = omega arith; aligned = refl; inside = omega arith; depth = λ i h. refl; static = λ e. inl (omega arith) }

second_lies : Lies small_ground.kind small_memory 56 (outline second)
unfolding tagged_size
second_lies = record { above = omega arith; aligned = refl; inside = omega arith; depth = λ i h. refl; static = λ e. inl (omega arith) }

areas_are : (k : ℕ) (o : Object) (a : PlacedArea) → slice_get small_source.memory.objects k ≡ Some o → slice_get small_flat.areas k ≡ Some a → a.area ≡ area_of small_ground.kind (outline o)
areas_are k o a e = each_is (λ j p. slice_get small_flat.areas j ≡ Some a → a.area ≡ area_of small_ground.kind (outline p))
    (λ f. let r : first_area ≡ a = cc (f) in ap (λ (x : PlacedArea). x.area) (sym r))
    (λ f. let r : second_area ≡ a = cc (f) in ap (λ (x : PlacedArea). x.area) (sym r)) k o e

-- whatever the first of two objects is
apart_from : (j : ℕ) (o : Object) (k : ℕ) (p : Object) → slice_get small_source.memory.objects j ≡ Some o → slice_get small_source.memory.objects k ≡ Some p → j ≢ k
    → Apart small_ground.kind (address small_ground j) (outline o) (address small_ground k) (outline p)
unfolding tagged_size
apart_from j o k p e f = each_is (λ i q. i ≢ k → Apart small_ground.kind (address small_ground i) (outline q) (address small_ground k) (outline p))
    (each_is (λ i q. 0 ≢ i → Apart small_ground.kind 16 (outline first) (address small_ground i) (outline q)) (λ d. absurd (d refl)) (λ d. inl (omega arith)) k p f)
    (each_is (λ i q. 1 ≢ i → Apart small_ground.kind 56 (outline second) (address small_ground i) (outline q)) (λ d. inr (omega arith)) (λ d. absurd (d refl)) k p f) j o e

areas : AreAreas small_ground small_source.memory.objects small_flat
areas = record {
  count = refl;
  sizes = areas_are;
  lie = λ k o e l. each_is (λ j p. Lies small_ground.kind small_memory (address small_ground j) (outline p)) first_lies second_lies k o e;
  apart = λ j k o p e l f m d. apart_from j o k p e f d;
}

abbrev all_small : List ℕ → Bool
all_small [] = true
all_small (x ∷ xs) = nat_lt x 256 && all_small xs

below : (xs : List ℕ) → all_small xs ≡ true → (i : ℕ) → slice_index xs i < 256
below [] h i = omega arith
below (x ∷ xs) h zero = by x (all_small xs) h
  where
    by : (x : ℕ) (b : Bool) → (nat_lt x 256 && b) ≡ true → x < 256
    by x b h = grind (arith, nat_tests)
below (x ∷ xs) h (suc i) = below xs (by x (all_small xs) h) i
  where
    by : (x : ℕ) (b : Bool) → (nat_lt x 256 && b) ≡ true → b ≡ true
    by x b h = grind (arith, nat_tests)

sound : IsSound small_memory
sound = record {
  bytes = record { below = below small_bytes refl };
  stack = omega arith;
  heap = omega arith;
  blocks = omega arith;
  size = refl;
  aligned = refl;
  aligned_heap = refl;
  consecutive = tt;
  room = omega arith;
  frame_count = omega arith;
  charged = omega arith;
  heap_charged = omega arith;
}

images : AreImages small_ground small_source.accesses small_flat.accesses
images = (record { object = outline first; found = refl; is = refl }, (record { object = outline second; found = refl; is = refl }, tt))

pub small-related : Related small_setting number_of small_source small_flat
small-related = record {
  areas = areas;
  holds = record { each = λ k o e l. each_is (Holds small_ground small_bytes) typed tagged k o e };
  sound = sound;
  small = omega arith;
  room = record { frame_charge = refl; heap_charge = refl; frames = tt; heap = omega arith };
  outside = record { output = refl; read = refl; input = refl; turns = refl; entered = refl };
  accesses = images;
}

-- What isn't related

pub wrong-byte : HoldsTyped small_ground (bytes_with 6 1) 16 first → ⊥
wrong-byte h = let e : 6 ≡ 5 = h.integers 0 refl in absurd (cc (e))

pub tag-more : HoldsTagged small_ground (bytes_with 5 3) 56 second → ⊥
tag-more h = let e : true ≡ false = (h.words 1 (omega arith)).0 in absurd (cc (e))

pub wrong-depth : Lies small_ground.kind memory_with_frame 16 outline_of_call → ⊥
wrong-depth h = let e : 1 ≡ 2 = h.depth 0 (omega arith) in absurd (cc (e))

pub too-near : Apart small_ground.kind 16 (outline first) 48 (outline second) → ⊥
unfolding tagged_size
too-near (inl h) = absurd (omega arith)
too-near (inr h) = absurd (omega arith)

pub no-object : (r : Range) → IsImage small_ground access_elsewhere r → ⊥
no-object r h = absurd (let e = h.found in cc (e))

pub too-short : IsImage small_ground access_to_pointer (record { at = 24; size = 8 }) → ⊥
too-short h = of h.object h.found h.is
  where
    of : (o : Outline) → slice_get small_ground.outlines 0 ≡ Some o → covered (record { at = 24; size = 8 }) ≡ image_by (small_ground.kind o.node) small_ground o access_to_pointer → ⊥
    of o e f =
        let q : outline first ≡ o = cc (e) in
        let i : covered (record { at = 24; size = 8 }) ≡ image_by (small_ground.kind (outline first).node) small_ground (outline first) access_to_pointer = subst (λ (x : Outline). covered (record { at = 24; size = 8 }) ≡ image_by (small_ground.kind x.node) small_ground x access_to_pointer) (sym q) f in
        let n : 32 ≡ 48 = ap (λ (r : ByteRange). r.end) i in absurd (cc (n))
