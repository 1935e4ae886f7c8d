-- A copy between objects with tags, `tmove`: words come over with their base words and their tags.
use Rattle.std.proofs.Common.{◌≡◌, ◌∙◌, ◌⊎◌, ⊎_elim, inl, inr, ℕ, zero, suc, ◌+◌, ◌-◌, ◌*◌, ◌/◌, ◌%◌, ◌<◌, ◌≤◌, Bool, true, false, ◌&&◌, List, [], ◌∷◌, map, length, nat_eq, nat_le, slice_index, Option, Some, None, refl, ap, sym, subst, arith, if◌then◌else◌}
use Rattle.std.specs.Int.{bit_at}
use Rattle.std.proofs.lemmas.Bool.Decides.{nat_tests}
use Rattle.cc_base.specs.declared.kind.Kind.{Kind}
use Rattle.cc_base.specs.declared.kind.Kind.TheVariants.{Wild}
use Rattle.cc_base.specs.declared.number.TypeId.{TypeId}
use Rattle.kind_sites.specs.declared.site.Site.{Site}
use Rattle.runs.specs.Outcome.{allowed}
use Rattle.flat_mem.specs.Bytes.{bytes_at, written, moved, AreBytes}
use Rattle.flat_mem.specs.Placement.{word_count, data_word, base_word, tag_byte, tagged_size}
use Rattle.flat_mem.specs.Memory.{in_flat}
use Rattle.flat_mem.proofs.ByteLaws.{number-moved_apart, number-written_apart, get-moved_inside, get-moved_other, get-written_inside, get-written_other, get-bytes_at, length-bytes_at, length-moved, length-written, written-bytes, moved-bytes, bytes_at-bytes}
use Rattle.flat_mem.proofs.StoreLaws.{number-one}
use Rattle.wild_tags.specs.Words.{length_at, word_at, touched, touched_count, counted, tag_at, with_tag, with_tags}
use Rattle.wild_tags.specs.Calls.{words_moved}
use Rattle.wild_tags.specs.Inside.{allows_zero, allows_side, allows_move, have_bases}
use Rattle.wild_tags.proofs.ByteRows.{range-of, all-true}
use Rattle.wild_tags.proofs.CallLaws.{length-words_moved, words_moved-bytes, get-with_tag_other, tag-with_tag_other}
use Rattle.wild_tags.proofs.MoveLaws.{moved_at, number-with_tags, data-moved, base-moved, tag-moved}
use Rattle.wild_tags.proofs.WriteLaws.{length-with_tag, with_tag-bytes}
use Rattle.src_mem.specs.Pointers.{Pointer}
use Rattle.src_mem.specs.Memory.{Object, touches, untouched, with_copied, with_copy}
use Rattle.src_mem.specs.State as source
use Rattle.src_mem.specs.State.{Setting}
use Rattle.src_mem.specs.Facts.{IsSoundMemory}
use Rattle.src_mem.specs.Primitives.{with_object, copy, spot}
use Rattle.src_mem.proofs.Spots.{spot-right}
use Rattle.cured_code.specs.declared.instr.Instr.TheVariants as instr
use Rattle.cured_code.specs.FlatState as flat
use Rattle.cured_code.specs.FlatState.{slot, copied, Trap, goes}
use Rattle.cured_code.specs.FlatMachine.{Context, act}
use Rattle.sim_relation.specs.Ground.{Ground, address}
use Rattle.sim_relation.specs.Objects.{HoldsTagged, HoldsWord, HoldsBy}
use Rattle.sim_relation.specs.Related.{Related, ground_of}
use Rattle.sim_relation.proofs.Changes.{related-change}
use Rattle.sim_relation.proofs.Places.{in_list}
use Rattle.sim_memory.specs.Found.{GoOnAlike}
use Rattle.sim_memory.proofs.Staying.{stays-change}
use Rattle.sim_memory.specs.Wild.{IsFoundTagged}
use Rattle.sim_memory.proofs.Copying.{copy-right}
use Rattle.sim_memory.proofs.WildLoads.{both-true, eq-true, IsLaid, laid-found, right-tagged, image-tagged, read-tagged, room-of}
use Rattle.sim_memory.proofs.WildClears.{tzero-may}

-- Tags of other words, and bytes beside the tags, stay

tag-with_tags_out : (tags : List Bool) (first k : ℕ) (bytes : List ℕ) (b n i : ℕ) → AreBytes bytes → ((j : ℕ) → first ≤ j → j < first + k → tag_byte b n j < length bytes)
    → (i < first) ⊎ (first + k ≤ i) → tag_at (with_tags tags (counted first k) bytes b n) b n i ≡ tag_at bytes b n i
unfolding with_tags counted
tag-with_tags_out [] first k bytes b n i are room out = refl
tag-with_tags_out (tag ∷ tags) first zero bytes b n i are room out = refl
tag-with_tags_out (tag ∷ tags) first (suc k) bytes b n i are room out =
    let e : length (with_tag tag bytes b n first) ≡ length bytes = length-with_tag tag bytes b n first in
    tag-with_tags_out tags (first + 1) k (with_tag tag bytes b n first) b n i (with_tag-bytes tag bytes b n first are)
    (λ j low high. let r = room j (omega (arith, low)) (omega (arith, high)) in omega (arith, e, r)) (⊎_elim (λ z. inl (omega (arith, z))) (λ z. inr (omega (arith, z))) out)
    ∙ tag-with_tag_other tag bytes b n first i are (room first (omega arith) (omega arith)) (λ same. ⊎_elim (λ h. omega (arith, same, h)) (λ h. omega (arith, same, h)) out)

get-with_tags_other : (tags : List Bool) (first k : ℕ) (bytes : List ℕ) (b n j : ℕ) → ((i : ℕ) → first ≤ i → i < first + k → (j < tag_byte b n i) ⊎ (tag_byte b n i + 1 ≤ j))
    → slice_index (with_tags tags (counted first k) bytes b n) j ≡ slice_index bytes j
unfolding with_tags counted
get-with_tags_other [] first k bytes b n j h = refl
get-with_tags_other (tag ∷ tags) first zero bytes b n j h = refl
get-with_tags_other (tag ∷ tags) first (suc k) bytes b n j h =
    get-with_tags_other tags (first + 1) k (with_tag tag bytes b n first) b n j (λ i l m. h i (omega (arith, l)) (omega (arith, m)))
    ∙ get-with_tag_other tag bytes b n first j (h first (omega arith) (omega arith))

-- The pointers of the target

data Lot (i k m : ℕ) : Type 0 where
  inner : (x : ℕ) → x < k → m ≡ i + x → Lot i k m
  outer : (m < i) ⊎ (i + k ≤ m) → Lot i k m

lot : (i k m : ℕ) → Lot i k m
lot i k m = ⊎_elim outer (λ h. inner (m - i) (let a = h.0 in let b = h.1 in omega (arith, a, b)) (let a = h.0 in omega (arith, a))) (case i k m)
  where
    case : (i k m : ℕ) → ((m < i) ⊎ (i + k ≤ m)) ⊎ ((i ≤ m) × (m < i + k))
    case i k m = grind arith

inner-pointers : (i j k x : ℕ) (z o : ℕ → Option Pointer) → x < k → with_copied (8 * k) z (8 * j) (8 * i) o (8 * (i + x)) ≡ z (8 * (j + x))
inner-pointers i j k x z o h =
    ap (λ (b : Bool). if b then z (8 * j + (8 * (i + x) - 8 * i)) else untouched (8 * k) (8 * i) o (8 * (i + x))) (within i k x h)
    ∙ (let e : 8 * j + (8 * (i + x) - 8 * i) ≡ 8 * (j + x) = omega arith in ap z e)
  where
    within : (i k x : ℕ) → x < k → (nat_le (8 * i) (8 * (i + x)) && nat_le (8 * (i + x) + 8) (8 * i + 8 * k)) ≡ true
    within i k x h = grind (arith, nat_tests, h)

outer-pointers : (i j k m : ℕ) (z o : ℕ → Option Pointer) → (m < i) ⊎ (i + k ≤ m) → with_copied (8 * k) z (8 * j) (8 * i) o (8 * m) ≡ o (8 * m)
outer-pointers i j k m z o h =
    ap (λ (b : Bool). if b then z (8 * j + (8 * m - 8 * i)) else untouched (8 * k) (8 * i) o (8 * m)) (beyond i k m h)
    ∙ ap (λ (b : Bool). if b then None else o (8 * m)) (away i k m h)
  where
    beyond : (i k m : ℕ) → (m < i) ⊎ (i + k ≤ m) → (nat_le (8 * i) (8 * m) && nat_le (8 * m + 8) (8 * i + 8 * k)) ≡ false
    beyond i k m h = grind (arith, nat_tests, h)

    away : (i k m : ℕ) → (m < i) ⊎ (i + k ≤ m) → touches (8 * k) (8 * i) (8 * m) ≡ false
    away i k m h = grind (arith, nat_tests, h)

-- The target, once k words of the source have come over, from word j on to word i on

pub tmove-holds : (g : Ground) (bytes : List ℕ) (b : ℕ) (o : Object) (i d : ℕ) (z : Object) (j k : ℕ) → HoldsTagged g bytes b o → HoldsTagged g bytes d z → AreBytes bytes
    → 8 ≤ b → b + tagged_size o.size ≤ length bytes → length o.bytes ≡ o.size → 8 * i + 8 * k ≤ o.size → 8 * j + 8 * k ≤ z.size
    → HoldsTagged g (moved_at bytes b o.size i d z.size j k) b (with_copy (8 * k) z (8 * j) (8 * i) o)
tmove-holds g bytes b o i d z j k target source are above fits sized low high = record {
  size =
      number-with_tags 8 tags (counted i k) W b o.size (b - 8) (omega (arith, above))
      ∙ number-written_apart 8 B M (base_word b o.size i) (b - 8) (inl (omega (arith, above)))
      ∙ number-moved_apart 8 (8 * k) bytes (data_word b i) (data_word d j) (b - 8) (inl (omega (arith, above))) ∙ target.size;
  words = λ m own. word m own (lot i k m);
}
  where
    B : List ℕ
    B = bytes_at (8 * k) bytes (base_word d z.size j)

    M : List ℕ
    M = moved (8 * k) bytes (data_word b i) (data_word d j)

    W : List ℕ
    W = written (bytes_at (8 * k) bytes (base_word d z.size j)) (moved (8 * k) bytes (data_word b i) (data_word d j)) (base_word b o.size i)

    tags : List Bool
    tags = map (tag_at bytes d z.size) (counted j k)

    new : Object
    new = with_copy (8 * k) z (8 * j) (8 * i) o

    room : b + 16 * word_count o.size + (word_count o.size + 7) / 8 ≤ length bytes
    room = room-of b o.size (length bytes) fits

    wide : length (bytes_at (8 * k) bytes (base_word d z.size j)) ≡ 8 * k
    wide = length-bytes_at (8 * k) bytes (base_word d z.size j)

    long : length (written (bytes_at (8 * k) bytes (base_word d z.size j)) (moved (8 * k) bytes (data_word b i) (data_word d j)) (base_word b o.size i)) ≡ length bytes
    long = length-written B M (base_word b o.size i) ∙ length-moved (8 * k) bytes (data_word b i) (data_word d j)

    own-words : i + k ≤ word_count o.size
    own-words = omega (arith, low)

    W-bytes : AreBytes (written (bytes_at (8 * k) bytes (base_word d z.size j)) (moved (8 * k) bytes (data_word b i) (data_word d j)) (base_word b o.size i))
    W-bytes = written-bytes B M (base_word b o.size i) (bytes_at-bytes (8 * k) bytes (base_word d z.size j) are) (moved-bytes (8 * k) bytes (data_word b i) (data_word d j) are)

    bits : (x : ℕ) → i ≤ x → x < i + k → tag_byte b o.size x < length bytes
    bits x l m = let r = room in let w = own-words in omega (arith, r, w, m)

    -- a byte before the tags
    byte : (p : ℕ) → p + 1 ≤ b + 16 * word_count o.size → slice_index (moved_at bytes b o.size i d z.size j k) p ≡ slice_index W p
    byte p h = sym (number-one (moved_at bytes b o.size i d z.size j k) p) ∙ number-with_tags 1 tags (counted i k) W b o.size p h ∙ number-one W p

    here : (x : ℕ) → x < k → (y : Option Pointer) → HoldsWord g bytes d z (j + x) y → HoldsWord g (moved_at bytes b o.size i d z.size j k) b new (i + x) y
    here x l None y = (
      tag-moved bytes b o.size i d z.size j k x are bits l ∙ y.0,
      λ h m q.
          byte (data_word b (i + x) + h) (let w = own-words in omega (arith, w, l, m))
          ∙ get-written_other B M (base_word b o.size i) (data_word b (i + x) + h) (inl (let w = own-words in omega (arith, w, l, m)))
          ∙ (let e : data_word b (i + x) + h ≡ data_word b i + (8 * x + h) = omega arith in ap (slice_index M) e)
          ∙ get-moved_inside (8 * k) bytes (data_word b i) (data_word d j) (8 * x + h) (omega (arith, l, m)) (let r = room in omega (arith, r, low))
          ∙ (let e : data_word d j + (8 * x + h) ≡ data_word d (j + x) + h = omega arith in ap (slice_index bytes) e)
          ∙ y.1 h m (omega (arith, high, l, m))
          ∙ sym ((let e : 8 * (i + x) + h ≡ 8 * i + (8 * x + h) = omega arith in ap (slice_index (written (bytes_at (8 * k) z.bytes (8 * j)) o.bytes (8 * i))) e)
          ∙ get-written_inside (bytes_at (8 * k) z.bytes (8 * j)) o.bytes (8 * i) (8 * x + h)
          (let e = length-bytes_at (8 * k) z.bytes (8 * j) in omega (arith, e, l, m)) (let e = length-bytes_at (8 * k) z.bytes (8 * j) in omega (arith, e, low, sized))
          ∙ get-bytes_at (8 * k) z.bytes (8 * j) (8 * x + h) (omega (arith, l, m))
          ∙ (let e : 8 * j + (8 * x + h) ≡ 8 * (j + x) + h = omega arith in ap (slice_index z.bytes) e)),
    )
    here x l (Some p) y = (
      tag-moved bytes b o.size i d z.size j k x are bits l ∙ y.0,
      data-moved bytes b o.size i d z.size j k x own-words (let r = room in omega (arith, r, low)) l ∙ y.1,
      base-moved bytes b o.size i d z.size j k x own-words (let r = room in let w = own-words in omega (arith, r, w)) l ∙ y.2,
    )

    kept-tag : (m : ℕ) → m < word_count o.size → (m < i) ⊎ (i + k ≤ m) → tag_at (moved_at bytes b o.size i d z.size j k) b o.size m ≡ tag_at bytes b o.size m
    kept-tag m own out =
        tag-with_tags_out tags i k W b o.size m W-bytes (λ x l h. let e = long in let t = bits x l h in omega (arith, e, t)) out
        ∙ ap (λ v. nat_eq (bit_at v (m % 8)) 1)
        (get-written_other B M (base_word b o.size i) (tag_byte b o.size m) (inr (let e = wide in let w = own-words in omega (arith, e, w)))
        ∙ get-moved_other (8 * k) bytes (data_word b i) (data_word d j) (tag_byte b o.size m) (inr (let w = own-words in omega (arith, w))))

    there : (m : ℕ) → m < word_count o.size → (m < i) ⊎ (i + k ≤ m) → (y : Option Pointer) → HoldsWord g bytes b o m y
        → HoldsWord g (moved_at bytes b o.size i d z.size j k) b new m y
    there m own out None y = (
      kept-tag m own out ∙ y.0,
      λ h l q.
          byte (data_word b m + h) (omega (arith, own, l))
          ∙ get-written_other B M (base_word b o.size i) (data_word b m + h) (inl (omega (arith, own, l)))
          ∙ get-moved_other (8 * k) bytes (data_word b i) (data_word d j) (data_word b m + h) (⊎_elim (λ t. inl (omega (arith, t, l))) (λ t. inr (omega (arith, t))) out)
          ∙ y.1 h l q
          ∙ sym (get-written_other (bytes_at (8 * k) z.bytes (8 * j)) o.bytes (8 * i) (8 * m + h)
          (⊎_elim (λ t. inl (omega (arith, t, l))) (λ t. inr (let e = length-bytes_at (8 * k) z.bytes (8 * j) in omega (arith, t, e))) out)),
    )
    there m own out (Some p) y = (
      kept-tag m own out ∙ y.0,
      number-with_tags 8 tags (counted i k) W b o.size (data_word b m) (omega (arith, own))
          ∙ number-written_apart 8 B M (base_word b o.size i) (data_word b m) (inl (omega (arith, own)))
          ∙ number-moved_apart 8 (8 * k) bytes (data_word b i) (data_word d j) (data_word b m) (⊎_elim (λ t. inl (omega (arith, t))) (λ t. inr (omega (arith, t))) out)
          ∙ y.1,
      number-with_tags 8 tags (counted i k) W b o.size (base_word b o.size m) (omega (arith, own))
          ∙ number-written_apart 8 B M (base_word b o.size i) (base_word b o.size m)
          (⊎_elim (λ t. inl (omega (arith, t))) (λ t. inr (let e = wide in omega (arith, t, e))) out)
          ∙ number-moved_apart 8 (8 * k) bytes (data_word b i) (data_word d j) (base_word b o.size m) (inr (let w = own-words in omega (arith, w)))
          ∙ y.2,
    )

    word : (m : ℕ) → m < word_count o.size → Lot i k m
        → HoldsWord g (moved_at bytes b o.size i d z.size j k) b new m (with_copied (8 * k) z.pointers (8 * j) (8 * i) o.pointers (8 * m))
    word m own (outer out) = subst (HoldsWord g (moved_at bytes b o.size i d z.size j k) b new m) (sym (outer-pointers i j k m z.pointers o.pointers out))
        (there m own out (o.pointers (8 * m)) (target.words m own))
    word m own (inner x l e) = subst (λ n. HoldsWord g (moved_at bytes b o.size i d z.size j k) b new n (with_copied (8 * k) z.pointers (8 * j) (8 * i) o.pointers (8 * n))) (sym e)
        (subst (HoldsWord g (moved_at bytes b o.size i d z.size j k) b new (i + x)) (sym (inner-pointers i j k x z.pointers o.pointers l))
        (here x l (z.pointers (8 * (j + x))) (source.words (j + x) (omega (arith, high, l)))))

-- bytes outside the area stay
pub tmove-outside : (bytes : List ℕ) (home n i d q j k p : ℕ) → 8 * i + 8 * k ≤ n → (p < home) ⊎ (home + tagged_size n ≤ p)
    → slice_index (moved_at bytes home n i d q j k) p ≡ slice_index bytes p
tmove-outside bytes home n i d q j k p inside out =
    get-with_tags_other (map (tag_at bytes d q) (counted j k)) i k
    (written (bytes_at (8 * k) bytes (base_word d q j)) (moved (8 * k) bytes (data_word home i) (data_word d j)) (base_word home n i)) home n p
    (λ x l m. ⊎_elim (λ z. inl (omega (arith, z))) (λ z. inr (let r = room-of home n p z in omega (arith, r, inside, m))) out)
    ∙ get-written_other (bytes_at (8 * k) bytes (base_word d q j)) (moved (8 * k) bytes (data_word home i) (data_word d j)) (base_word home n i) p
    (⊎_elim (λ z. inl (omega (arith, z))) (λ z. inr (let r = room-of home n p z in let e = length-bytes_at (8 * k) bytes (base_word d q j) in omega (arith, r, inside, e))) out)
    ∙ get-moved_other (8 * k) bytes (data_word home i) (data_word d j) p
    (⊎_elim (λ z. inl (omega (arith, z))) (λ z. inr (let r = room-of home n p z in omega (arith, r, inside))) out)

-- `tmove` in the terms of these laws, and where it may be made

here-word : (b k : ℕ) → word_at b (b + 8 * k) ≡ k
here-word b k = omega arith

row-count : (b i k : ℕ) → 0 < k → touched_count b (b + 8 * i) (8 * k) ≡ k
row-count b i k some =
    ap (λ (q : Bool). if q then 0 else word_at b (b + 8 * i + 8 * k - 1) + 1 - word_at b (b + 8 * i)) (not-zero k some)
    ∙ (let e : word_at b (b + 8 * i + 8 * k - 1) + 1 - word_at b (b + 8 * i) ≡ k = omega (arith, some) in e)
  where
    not-zero : (k : ℕ) → 0 < k → nat_eq (8 * k) 0 ≡ false
    not-zero k h = grind (arith, nat_tests, h)

row-touched : (b i k : ℕ) → 0 < k → touched b (b + 8 * i) (8 * k) ≡ counted i k
row-touched b i k some = ap (λ x. counted x (touched_count b (b + 8 * i) (8 * k))) (here-word b i) ∙ ap (counted i) (row-count b i k some)

moved-here : (bytes : List ℕ) (b p i d q j k : ℕ) → 0 < k → length_at bytes b ≡ p → length_at bytes d ≡ q
    → words_moved bytes (b + 8 * i) b (d + 8 * j) d (8 * k) ≡ moved_at bytes b p i d q j k
moved-here bytes b p i d q j k some e f =
    ap (λ m. with_tags (map (tag_at bytes d (length_at bytes d)) (touched d (d + 8 * j) (8 * k))) (touched b (b + 8 * i) (8 * k))
    (written (bytes_at (8 * k) bytes (base_word d (length_at bytes d) (word_at d (d + 8 * j)))) (moved (8 * k) bytes (b + 8 * i) (d + 8 * j)) (base_word b m (word_at b (b + 8 * i)))) b m) e
    ∙ ap (λ m. with_tags (map (tag_at bytes d m) (touched d (d + 8 * j) (8 * k))) (touched b (b + 8 * i) (8 * k))
    (written (bytes_at (8 * k) bytes (base_word d m (word_at d (d + 8 * j)))) (moved (8 * k) bytes (b + 8 * i) (d + 8 * j)) (base_word b p (word_at b (b + 8 * i)))) b p) f
    ∙ ap (λ m. with_tags (map (tag_at bytes d q) (touched d (d + 8 * j) (8 * k))) (touched b (b + 8 * i) (8 * k))
    (written (bytes_at (8 * k) bytes (base_word d q m)) (moved (8 * k) bytes (b + 8 * i) (d + 8 * j)) (base_word b p (word_at b (b + 8 * i)))) b p) (here-word d j)
    ∙ ap (λ m. with_tags (map (tag_at bytes d q) (touched d (d + 8 * j) (8 * k))) (touched b (b + 8 * i) (8 * k))
    (written (bytes_at (8 * k) bytes (base_word d q j)) (moved (8 * k) bytes (b + 8 * i) (d + 8 * j)) (base_word b p m)) b p) (here-word b i)
    ∙ ap (λ ws. with_tags (map (tag_at bytes d q) ws) (touched b (b + 8 * i) (8 * k))
    (written (bytes_at (8 * k) bytes (base_word d q j)) (moved (8 * k) bytes (b + 8 * i) (d + 8 * j)) (base_word b p i)) b p) (row-touched d j k some)
    ∙ ap (λ ws. with_tags (map (tag_at bytes d q) (counted j k)) ws
    (written (bytes_at (8 * k) bytes (base_word d q j)) (moved (8 * k) bytes (b + 8 * i) (d + 8 * j)) (base_word b p i)) b p) (row-touched b i k some)

side-may : (bytes : List ℕ) (b size i k : ℕ) → 8 ≤ b → length_at bytes b ≡ size → 0 < k → 8 * i + 8 * k ≤ size → b + tagged_size size ≤ length bytes
    → allows_side bytes (b + 8 * i) b (8 * k) ≡ true
side-may bytes b size i k above len some inside fits =
    both-true (nat_eq ((b + 8 * i - b) % 8) 0) (allows_zero bytes (b + 8 * i) b (8 * k) && have_bases bytes b (length_at bytes b) (touched b (b + 8 * i) (8 * k)))
    (eq-true ((b + 8 * i - b) % 8) 0 (omega arith))
    (both-true (allows_zero bytes (b + 8 * i) b (8 * k)) (have_bases bytes b (length_at bytes b) (touched b (b + 8 * i) (8 * k)))
    (tzero-may bytes b size (8 * i) (8 * k) above len (omega (arith, some)) inside fits)
    (all-true (λ m. in_flat bytes (base_word b (length_at bytes b) m) 8) (word_at b (b + 8 * i)) (touched_count b (b + 8 * i) (8 * k))
    (λ m l h. in_list (base_word b (length_at bytes b) m) 8 (length bytes)
    (let r = room-of b size (length bytes) fits in let o = (range-of b size (8 * i) (8 * k) (omega (arith, some)) inside).own in let e = ap word_count len in omega (arith, r, o, e, l, h)))))

eighth : (at : ℕ) → at % 8 ≡ 0 → at ≡ 8 * (at / 8)
eighth at h = omega (arith, h)

module _ (w : Setting) (sites : List Site) (number_of : TypeId → ℕ) (p q : Pointer) (s : source.State) (x : Context) (a b d e n : ℕ) (c : flat.Local) (memory : IsSoundMemory w sites s.memory)
    (r : Related w number_of s c.state) (f : IsFoundTagged w number_of s c.state n p (slot c d) (slot c e)) (h : IsFoundTagged w number_of s c.state n q (slot c a) (slot c b))
    (some : 0 < n) (rows : n % 8 ≡ 0) (from8 : f.at % 8 ≡ 0) (to8 : h.at % 8 ≡ 0) where
  abbrev bytes : List ℕ
  bytes = c.state.memory.bytes

  abbrev home : ℕ
  home = address (ground_of w number_of s c.state) h.location.object

  abbrev origin : ℕ
  origin = address (ground_of w number_of s c.state) f.location.object

  abbrev new : Object
  new = with_copy n f.object f.at h.at h.object

  target : IsLaid (ground_of w number_of s c.state) c.state.memory.bytes (address (ground_of w number_of s c.state) h.location.object) h.object
  target = laid-found w number_of s c.state r n q (slot c a) (slot c b) h

  source-laid : IsLaid (ground_of w number_of s c.state) c.state.memory.bytes (address (ground_of w number_of s c.state) f.location.object) f.object
  source-laid = laid-found w number_of s c.state r n p (slot c d) (slot c e) f

  to-words : 8 * (h.at / 8) + 8 * (n / 8) ≤ h.object.size
  to-words = let u = eighth h.at to8 in let v = eighth n rows in let i = h.inside in omega (arith, u, v, i)

  from-words : 8 * (f.at / 8) + 8 * (n / 8) ≤ f.object.size
  from-words = let u = eighth f.at from8 in let v = eighth n rows in let i = f.inside in omega (arith, u, v, i)

  count-some : 0 < n / 8
  count-some = omega (arith, some, rows)

  to-here : slot c a ≡ home + 8 * (h.at / 8)
  to-here = h.here ∙ ap (λ m. home + m) (eighth h.at to8)

  from-here : slot c d ≡ origin + 8 * (f.at / 8)
  from-here = f.here ∙ ap (λ m. origin + m) (eighth f.at from8)

  moved-bytes_are : words_moved bytes (slot c a) (slot c b) (slot c d) (slot c e) n
      ≡ moved_at bytes home h.object.size (h.at / 8) origin f.object.size (f.at / 8) (n / 8)
  moved-bytes_are =
      ap (λ m. words_moved bytes m (slot c b) (slot c d) (slot c e) n) to-here ∙ ap (λ m. words_moved bytes (home + 8 * (h.at / 8)) m (slot c d) (slot c e) n) h.base
      ∙ ap (λ m. words_moved bytes (home + 8 * (h.at / 8)) home m (slot c e) n) from-here ∙ ap (λ m. words_moved bytes (home + 8 * (h.at / 8)) home (origin + 8 * (f.at / 8)) m n) f.base
      ∙ ap (words_moved bytes (home + 8 * (h.at / 8)) home (origin + 8 * (f.at / 8)) origin) (eighth n rows)
      ∙ moved-here bytes home h.object.size (h.at / 8) origin f.object.size (f.at / 8) (n / 8) count-some target.holds.size source-laid.holds.size

  may : allows_move bytes (slot c a) (slot c b) (slot c d) (slot c e) n ≡ true
  may =
      ap (λ m. allows_move bytes m (slot c b) (slot c d) (slot c e) n) to-here ∙ ap (λ m. allows_move bytes (home + 8 * (h.at / 8)) m (slot c d) (slot c e) n) h.base
      ∙ ap (λ m. allows_move bytes (home + 8 * (h.at / 8)) home m (slot c e) n) from-here ∙ ap (λ m. allows_move bytes (home + 8 * (h.at / 8)) home (origin + 8 * (f.at / 8)) m n) f.base
      ∙ ap (allows_move bytes (home + 8 * (h.at / 8)) home (origin + 8 * (f.at / 8)) origin) (eighth n rows)
      ∙ both-true (nat_eq (8 * (n / 8) % 8) 0) (allows_side bytes (origin + 8 * (f.at / 8)) origin (8 * (n / 8)) && allows_side bytes (home + 8 * (h.at / 8)) home (8 * (n / 8)))
      (eq-true (8 * (n / 8) % 8) 0 (omega arith))
      (both-true (allows_side bytes (origin + 8 * (f.at / 8)) origin (8 * (n / 8))) (allows_side bytes (home + 8 * (h.at / 8)) home (8 * (n / 8)))
      (side-may bytes origin f.object.size (f.at / 8) (n / 8) source-laid.above source-laid.holds.size count-some from-words source-laid.fits)
      (side-may bytes home h.object.size (h.at / 8) (n / 8) target.above target.holds.size count-some to-words target.fits))

  held : HoldsTagged (ground_of w number_of s c.state) (words_moved bytes (slot c a) (slot c b) (slot c d) (slot c e) n) home new
  held = subst (λ (xs : List ℕ). HoldsTagged (ground_of w number_of s c.state) xs home new) (sym moved-bytes_are)
      (subst (λ (m : ℕ). HoldsTagged (ground_of w number_of s c.state) (moved_at bytes home h.object.size (h.at / 8) origin f.object.size (f.at / 8) (n / 8)) home (with_copy m f.object f.at h.at h.object))
      (sym (eighth n rows))
      (subst (λ (m : ℕ). HoldsTagged (ground_of w number_of s c.state) (moved_at bytes home h.object.size (h.at / 8) origin f.object.size (f.at / 8) (n / 8)) home
      (with_copy (8 * (n / 8)) f.object m h.at h.object)) (sym (eighth f.at from8))
      (subst (λ (m : ℕ). HoldsTagged (ground_of w number_of s c.state) (moved_at bytes home h.object.size (h.at / 8) origin f.object.size (f.at / 8) (n / 8)) home
      (with_copy (8 * (n / 8)) f.object (8 * (f.at / 8)) m h.object)) (sym (eighth h.at to8))
      (tmove-holds (ground_of w number_of s c.state) bytes home h.object (h.at / 8) origin f.object (f.at / 8) (n / 8) target.holds source-laid.holds r.sound.bytes target.above target.fits
      ((memory.each h.location.object h.object h.found h.live).sized) to-words from-words))))

  pub wild-copied : GoOnAlike w number_of s c (copy n Wild p Wild q s) (act (instr.Tmove a b d e n) x c) tt c.slots
  wild-copied = record {
    next = with_object h.location.object new (source.touched h.location.object h.at n (source.touched f.location.object f.at n s));
    after = copied n (slot c a) (slot c d) (words_moved bytes (slot c a) (slot c b) (slot c d) (slot c e) n) c;
    source_goes = copy-right n Wild Wild s p q (record { number = f.location.object; object = f.object; at = f.at }) (record { number = h.location.object; object = h.object; at = h.at })
        (ap (λ y. spot Wild s.memory.objects y n) f.is ∙ spot-right Wild s.memory.objects f.location n f.object f.at (right-tagged w number_of s c.state r n p (slot c d) (slot c e) f))
        (ap (λ y. spot Wild s.memory.objects y n) h.is ∙ spot-right Wild s.memory.objects h.location n h.object h.at (right-tagged w number_of s c.state r n q (slot c a) (slot c b) h));
    flat_goes = ap (λ (y : Bool). allowed y (Trap x.function) (goes (λ v. copied n (slot v a) (slot v d) (words_moved v.state.memory.bytes (slot v a) (slot v b) (slot v d) (slot v e) n) v)) c) may;
    slots_are = refl;
    stays = stays-change w number_of s (with_object h.location.object new (source.touched h.location.object h.at n (source.touched f.location.object f.at n s))) c.state
        (copied n (slot c a) (slot c d) (words_moved bytes (slot c a) (slot c b) (slot c d) (slot c e) n) c).state h.location.object h.object new h.found h.live
        refl refl refl refl refl refl (λ j l. ap (λ xs. slice_index xs j) moved-bytes_are
        ∙ tmove-outside bytes home h.object.size (h.at / 8) origin f.object.size (f.at / 8) (n / 8) j to-words (inl l));
    related = related-change w number_of (source.touched f.location.object f.at n s) (flat.touched (slot c d) n c.state) h.location.object h.object new
        (words_moved bytes (slot c a) (slot c b) (slot c d) (slot c e) n) (record { object = h.location.object; offset = h.at; size = n }) (record { at = slot c a; size = n })
        (read-tagged w number_of s c.state n p (slot c d) (slot c e) r f) h.found h.live refl
        (length-words_moved bytes (slot c a) (slot c b) (slot c d) (slot c e) n) (words_moved-bytes bytes (slot c a) (slot c b) (slot c d) (slot c e) n r.sound.bytes)
        (λ j z. ap (λ xs. slice_index xs j) moved-bytes_are
        ∙ tmove-outside bytes home h.object.size (h.at / 8) origin f.object.size (f.at / 8) (n / 8) j to-words
        (⊎_elim inl (λ m. inr (subst (λ (k : ℕ). home + k ≤ j) target.contents m)) z))
        (subst (λ (k : Kind). HoldsBy k (ground_of w number_of s c.state) (words_moved bytes (slot c a) (slot c b) (slot c d) (slot c e) n) home new) (sym h.tagged) held)
        (image-tagged w number_of s c.state r n q (slot c a) (slot c b) h);
  }
