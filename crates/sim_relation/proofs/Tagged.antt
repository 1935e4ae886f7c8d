-- A store of an integer through a WILD pointer, `untag` and then `st`: the tags of the words that it touches go.
use Rattle.std.proofs.Common.{◌≡◌, ℕ, ◌+◌, ◌-◌, ◌*◌, ◌/◌, ◌%◌, ◌^◌, ◌<◌, ◌≤◌, ◌⊎◌, inl, inr, ℤ, Bool, true, false, List, [], ◌∷◌, length, slice_index, Option, Some, None, refl, ap, sym, subst, ◌∙◌, ⊎_elim, arith, if◌then◌else◌}
use Rattle.std.proofs.lemmas.Bool.Decides.{nat_tests}
use Rattle.cc_base.specs.declared.number.TypeId.{TypeId}
use Rattle.cc_base.specs.declared.kind.Kind.{Kind}
use Rattle.cc_base.specs.declared.kind.Kind.TheVariants.{Wild}
use Rattle.integers.specs.Words.{word}
use Rattle.integers.specs.Arithmetic.{IntegerType}
use Rattle.runs.specs.Outcome.{Done, allowed, from}
use Rattle.runs.specs.Control.{Goes, then_go}
use Rattle.flat_mem.specs.Bytes.{number, stored, AreBytes}
use Rattle.flat_mem.specs.Placement.{word_count, data_word, base_word, tagged_size, contents_size}
use Rattle.flat_mem.specs.Memory.{with_bytes}
use Rattle.flat_mem.proofs.ByteLaws.{length-stored, get-stored_other, stored-bytes, number-stored_apart, number-same}
use Rattle.flat_mem.proofs.StoreLaws.{stored-both, stored-low, number-zero}
use Rattle.wild_tags.specs.Words.{word_at, touched_count}
use Rattle.wild_tags.specs.Calls.{untagged}
use Rattle.wild_tags.specs.Inside.{allows_untag}
use Rattle.wild_tags.proofs.CallLaws.{length-untagged, untagged-bytes}
use Rattle.wild_tags.proofs.UntagLaws.{untagged_at, tag-untagged, tag-untagged_other, base-untagged, data-untagged, data-untagged_other}
use Rattle.wild_tags.proofs.ByteRows.{IsTouched, range-of, untagged-here, get-untagged_other, get-untagged_plain, get-untagged_outside, length-untagged_at, tag-stored, untag-may}
use Rattle.src_mem.specs.Pointers.{Pointer, Location, At}
use Rattle.src_mem.specs.Memory.{Object, touches, untouched, with_integer}
use Rattle.src_mem.specs.State as source
use Rattle.src_mem.specs.State.{Setting, given, Access}
use Rattle.src_mem.specs.Primitives.{Spot, with_object, store_integer}
use Rattle.src_mem.specs.Outlines.{outline}
use Rattle.src_mem.proofs.Outlines.{get-mapped}
use Rattle.src_mem.proofs.Spots.{IsRight, spot-right}
use Rattle.cured_code.specs.declared.instr.Instr.TheVariants as instr
use Rattle.cured_code.specs.FlatState as flat
use Rattle.cured_code.specs.FlatState.{slot, is_in_list, stored_at, with_list, Trap, PlacedArea, goes}
use Rattle.cured_code.specs.FlatMachine.{Context, run}
use Rattle.sim_relation.specs.Ground.{Ground, ground, address}
use Rattle.sim_relation.specs.Objects.{HoldsTagged, HoldsWord, HoldsBy, Lies, area_of, area_by}
use Rattle.sim_relation.specs.Accesses.{covered, image_by, IsImage}
use Rattle.sim_relation.specs.Related.{Related}
use Rattle.sim_relation.proofs.Changes.{related-change}
use Rattle.sim_relation.proofs.Integers.{Side, beside, within, side}
use Rattle.sim_relation.proofs.Places.{in_list}

touches-true : (n at i : ℕ) → (8 * i < at + n) × (at < 8 * i + 8) → touches n at (8 * i) ≡ true
touches-true n at i h = let a = h.0 in let b = h.1 in grind (arith, nat_tests)

touches-false : (n at i : ℕ) → (8 * i + 8 ≤ at) ⊎ (at + n ≤ 8 * i) → touches n at (8 * i) ≡ false
touches-false n at i h = grind (arith, nat_tests)

-- the object once the integer is stored
pub tagged-integer : (g : Ground) (bytes : List ℕ) (b : ℕ) (o : Object) (n at first k v u : ℕ) → HoldsTagged g bytes b o → AreBytes bytes → 8 ≤ b → length o.bytes ≡ o.size
    → ((i : ℕ) (p : Pointer) → o.pointers i ≡ Some p → number 8 o.bytes i ≡ 0)
    → IsTouched o.size at n first k → b + 16 * word_count o.size + (word_count o.size + 7) / 8 ≤ length bytes → v % 256 ^ n ≡ u % 256 ^ n
    → HoldsTagged g (stored n (untagged_at bytes b o.size first k) (b + at) v) b (with_integer n at u o)
tagged-integer g bytes b o n at first k v u h are above sized under range room same = record {
  size = number-stored_apart 8 n U (b + at) (b - 8) v (inl (omega arith)) ∙ number-one_word ∙ h.size;
  words = λ i l. word i l (sides i);
}
  where
    U : List ℕ
    U = untagged_at bytes b o.size first k

    number-one_word : number 8 (untagged_at bytes b o.size first k) (b - 8) ≡ number 8 bytes (b - 8)
    number-one_word = number-same 8 (untagged_at bytes b o.size first k) bytes (b - 8) (b - 8) (λ j q. get-untagged_other bytes b o.size first k (b - 8 + j) (omega arith) (inl (omega arith)))

    sides : (i : ℕ) → ((8 * i < at + n) × (at < 8 * i + 8)) ⊎ ((8 * i + 8 ≤ at) ⊎ (at + n ≤ 8 * i))
    sides i = grind arith

    ready : length (untagged_at bytes b o.size first k) ≡ length bytes
    ready = length-untagged_at bytes b o.size first k

    -- a byte of a touched word before the store
    old : (i : ℕ) → i < word_count o.size → (first ≤ i) × (i < first + k) → (j : ℕ) → j < 8 → 8 * i + j < o.size → (p : Option Pointer) → o.pointers (8 * i) ≡ p → HoldsWord g bytes b o i p
        → slice_index (untagged_at bytes b o.size first k) (b + 8 * i + j) ≡ slice_index o.bytes (8 * i + j)
    old i l t j q r None e w = get-untagged_plain bytes b o.size first k i j l q w.0 ∙ w.1 j q r
    old i l t j q r (Some p) e w =
        number-zero 8 (untagged_at bytes b o.size first k) (data_word b i) (data-untagged bytes b o.size first k i l t.0 t.1 w.0) j q
        ∙ sym (number-zero 8 o.bytes (8 * i) (under (8 * i) p e) j q)

    byte : (i : ℕ) → i < word_count o.size → (j : ℕ) → j < 8 → 8 * i + j < o.size → (8 * i < at + n) × (at < 8 * i + 8) → Side at n (8 * i + j)
        → slice_index (stored n (untagged_at bytes b o.size first k) (b + at) v) (b + 8 * i + j) ≡ slice_index (stored n o.bytes at u) (8 * i + j)
    byte i l j q r t (beside x) =
        get-stored_other n (untagged_at bytes b o.size first k) (b + at) v (b + 8 * i + j) (⊎_elim (λ m. inl (omega arith)) (λ m. inr (omega arith)) x)
        ∙ old i l (range.high i t) j q r (o.pointers (8 * i)) refl (h.words i l)
        ∙ sym (get-stored_other n o.bytes at u (8 * i + j) x)
    byte i l j q r t (within m less e) =
        let f : b + 8 * i + j ≡ b + at + m = omega arith in
        let c = ready in let d = range.inside in
        let wide : o.size ≤ 8 * word_count o.size = omega arith in
        ap (slice_index (stored n (untagged_at bytes b o.size first k) (b + at) v)) f
        ∙ ap (λ xs. slice_index xs (b + at + m)) (stored-low n (untagged_at bytes b o.size first k) (b + at) v u same)
        ∙ stored-both n (untagged_at bytes b o.size first k) o.bytes (b + at) at u (omega (arith, c, d, room, wide)) (omega (arith, d, sized)) m less
        ∙ ap (slice_index (stored n o.bytes at u)) (sym e)

    out : (i : ℕ) → (8 * i + 8 ≤ at) ⊎ (at + n ≤ 8 * i) → (i < first) ⊎ (first + k ≤ i)
    out i t = ⊎_elim (λ x. x) (λ x. absurd (clash (range.low i x.0 x.1) t)) (case i first k)
      where
        case : (i first k : ℕ) → ((i < first) ⊎ (first + k ≤ i)) ⊎ ((first ≤ i) × (i < first + k))
        case i first k = grind arith

        clash : (8 * i < at + n) × (at < 8 * i + 8) → (8 * i + 8 ≤ at) ⊎ (at + n ≤ 8 * i) → ⊥
        clash x y = let a = x.0 in let c = x.1 in ⊎_elim (λ z. absurd (omega arith)) (λ z. absurd (omega arith)) y

    other : (i : ℕ) → i < word_count o.size → (8 * i + 8 ≤ at) ⊎ (at + n ≤ 8 * i) → (i < first) ⊎ (first + k ≤ i) → (p : Option Pointer) → HoldsWord g bytes b o i p
        → HoldsWord g (stored n (untagged_at bytes b o.size first k) (b + at) v) b (with_integer n at u o) i p
    other i l t x None w = (
      tag-stored n (untagged_at bytes b o.size first k) (b + at) v b o.size i (let q = range.inside in omega arith)
          ∙ tag-untagged_other bytes b o.size first k i are range.own (λ j y z. let a = range.own in omega arith) x ∙ w.0,
      λ j q r.
          get-stored_other n (untagged_at bytes b o.size first k) (b + at) v (b + 8 * i + j) (⊎_elim (λ m. inl (omega arith)) (λ m. inr (omega arith)) t)
          ∙ get-untagged_other bytes b o.size first k (b + 8 * i + j) (omega arith) (⊎_elim (λ m. inl (omega arith)) (λ m. inr (omega arith)) x)
          ∙ w.1 j q r
          ∙ sym (get-stored_other n o.bytes at u (8 * i + j) (⊎_elim (λ m. inl (omega arith)) (λ m. inr (omega arith)) t)),
    )
    other i l t x (Some p) w = (
      tag-stored n (untagged_at bytes b o.size first k) (b + at) v b o.size i (let q = range.inside in omega arith)
          ∙ tag-untagged_other bytes b o.size first k i are range.own (λ j y z. let a = range.own in omega arith) x ∙ w.0,
      number-stored_apart 8 n (untagged_at bytes b o.size first k) (b + at) (b + 8 * i) v (⊎_elim (λ m. inl (omega arith)) (λ m. inr (omega arith)) t)
          ∙ data-untagged_other bytes b o.size first k i l x ∙ w.1,
      number-stored_apart 8 n (untagged_at bytes b o.size first k) (b + at) (base_word b o.size i) v (inr (let q = range.inside in omega arith))
          ∙ base-untagged bytes b o.size first k i range.own l ∙ w.2,
    )

    word : (i : ℕ) → i < word_count o.size → ((8 * i < at + n) × (at < 8 * i + 8)) ⊎ ((8 * i + 8 ≤ at) ⊎ (at + n ≤ 8 * i))
        → HoldsWord g (stored n (untagged_at bytes b o.size first k) (b + at) v) b (with_integer n at u o) i (untouched n at o.pointers (8 * i))
    word i l (inl t) = subst (λ (x : Option Pointer). HoldsWord g (stored n (untagged_at bytes b o.size first k) (b + at) v) b (with_integer n at u o) i x)
        (sym (ap (λ (c : Bool). if c then None else o.pointers (8 * i)) (touches-true n at i t))) (
          tag-stored n (untagged_at bytes b o.size first k) (b + at) v b o.size i (let q = range.inside in omega arith)
              ∙ tag-untagged bytes b o.size first k i are range.own (omega arith) (range.high i t).0 (range.high i t).1,
          λ j q r. byte i l j q r t (side at n (8 * i + j)),
        )
    word i l (inr t) = subst (λ (x : Option Pointer). HoldsWord g (stored n (untagged_at bytes b o.size first k) (b + at) v) b (with_integer n at u o) i x)
        (sym (ap (λ (c : Bool). if c then None else o.pointers (8 * i)) (touches-false n at i t)))
        (other i l t (out i t) (o.pointers (8 * i)) (h.words i l))

beyond : (home at m n j : ℕ) → (j < home) ⊎ (home + tagged_size n ≤ j) → at + m ≤ n → (j < home + at) ⊎ (home + at + m ≤ j)
unfolding tagged_size
beyond home at m n j q h = ⊎_elim (λ m. inl (omega arith)) (λ m. inr (omega arith)) q

room-of : (home n len : ℕ) → home + tagged_size n ≤ len → home + 16 * word_count n + (word_count n + 7) / 8 ≤ len
unfolding tagged_size
room-of home n len h = omega arith

in-area : (home n at m len : ℕ) → at + m ≤ n → home + tagged_size n ≤ len → home + at + m ≤ len
unfolding tagged_size
in-area home n at m len h k = omega arith

-- found: m bytes of a live object with tags
pub record FoundTagged (w : Setting) (number_of : TypeId → ℕ) (objects : List Object) (areas : List PlacedArea) (l : Location) (m a : ℕ) : Type 0 where
  pub object : Object
  pub at : ℕ
  pub right : IsRight Wild objects l m object at
  pub tagged : w.kind object.node ≡ Wild
  pub sized : length object.bytes ≡ object.size
  pub under : (i : ℕ) (p : Pointer) → object.pointers i ≡ Some p → number 8 object.bytes i ≡ 0
  pub here : a ≡ address (ground w number_of objects areas) l.object + at

pub record TaggedStored (w : Setting) (number_of : TypeId → ℕ) (i : IntegerType) (l : Location) (z : ℤ) (s : source.State) (x : Context) (a b v : ℕ) (c : flat.Local) : Type 0 where
  pub next : source.State
  pub after : flat.Local
  pub source_gives : store_integer Wild i (At l) z s ≡ Done tt next
  pub flat_gives : run (instr.Untag a b i.bytes ∷ instr.St i.bytes a v ∷ []) x c ≡ Done Goes after
  pub slots : after.slots ≡ c.slots
  pub related : Related w number_of next after.state

tagged_holds : (k : Kind) → k ≡ Wild → (g : Ground) (bytes : List ℕ) (at : ℕ) (o : Object) → HoldsBy k g bytes at o → HoldsTagged g bytes at o
tagged_holds k e g bytes at o h = subst (λ (x : Kind). HoldsBy x g bytes at o) e h

pub tagged_stored : (w : Setting) (number_of : TypeId → ℕ) (i : IntegerType) (l : Location) (z : ℤ) (s : source.State) (x : Context) (a b v : ℕ) (c : flat.Local)
    → Related w number_of s c.state → 0 < i.bytes → FoundTagged w number_of s.memory.objects c.state.areas l i.bytes (slot c a) → slot c b ≡ address (ground w number_of s.memory.objects c.state.areas) l.object
    → slot c v % 256 ^ i.bytes ≡ word z % 256 ^ i.bytes
    → TaggedStored w number_of i l z s x a b v c
tagged_stored w number_of i l z s x a b v c r some f base low = record {
  next = with_object l.object new (source.touched l.object f.at i.bytes s);
  after = stored_at i.bytes (slot c a) (slot c v) (with_list (untagged bytes (slot c a) (slot c b) i.bytes) c);
  source_gives = ap (λ (q : Option Spot). given q (λ (p : Spot). λ (y : source.State). Done tt (with_object p.number (with_integer i.bytes p.at (word z) p.object) (source.touched p.number p.at i.bytes y))) s)
      (spot-right Wild s.memory.objects l i.bytes f.object f.at f.right);
  flat_gives =
      ap (λ (q : Bool). from (allowed q (Trap x.function) (goes (λ d. with_list (untagged d.state.memory.bytes (slot d a) (slot d b) i.bytes) d)) c) (λ y. then_go y (run (instr.St i.bytes a v ∷ []) x))) may
      ∙ ap (λ (q : Bool). from (allowed q (Trap x.function) (goes (stored_at i.bytes (slot c a) (slot c v))) (with_list (untagged bytes (slot c a) (slot c b) i.bytes) c)) (λ y. then_go y (run [] x))) there;
  slots = refl;
  related = subst (λ (xs : List ℕ). Related w number_of (with_object l.object new (source.touched l.object f.at i.bytes s)) (flat.touched (slot c a) i.bytes (record c.state { memory = with_bytes c.state.memory xs }))) (sym bytes_are)
      (related-change w number_of s c.state l.object f.object new (stored i.bytes U (home + f.at) (slot c v)) (record { object = l.object; offset = f.at; size = i.bytes }) (record { at = slot c a; size = i.bytes })
      r f.right.found f.right.live refl
      (length-stored i.bytes U (home + f.at) (slot c v) ∙ length-untagged_at bytes home f.object.size first count)
      (stored-bytes i.bytes U (home + f.at) (slot c v) (subst AreBytes (untagged-here bytes home f.object.size f.at i.bytes old.size) (untagged-bytes bytes (home + f.at) home i.bytes r.sound.bytes)))
      (λ j q. outside j (⊎_elim inl (λ m. inr (subst (λ (n : ℕ). home + n ≤ j) contents m)) q))
      (subst (λ (k : Kind). HoldsBy k g (stored i.bytes U (home + f.at) (slot c v)) home new) (sym f.tagged)
      (tagged-integer g bytes home f.object i.bytes f.at first count (slot c v) (word z) old r.sound.bytes lies.above f.sized f.under range room low))
      image);
}
  where
    g : Ground
    g = ground w number_of s.memory.objects c.state.areas

    bytes : List ℕ
    bytes = c.state.memory.bytes

    new : Object
    new = with_integer i.bytes f.at (word z) f.object

    home : ℕ
    home = address (ground w number_of s.memory.objects c.state.areas) l.object

    first : ℕ
    first = word_at home (home + f.at)

    count : ℕ
    count = touched_count home (home + f.at) i.bytes

    U : List ℕ
    U = untagged_at bytes home f.object.size first count

    lies : Lies w.kind c.state.memory home (outline f.object)
    lies = r.areas.lie l.object f.object f.right.found f.right.live

    old : HoldsTagged g bytes home f.object
    old = tagged_holds (w.kind f.object.node) f.tagged g bytes home f.object (r.holds.each l.object f.object f.right.found f.right.live)

    range : IsTouched f.object.size f.at i.bytes first count
    range = range-of home f.object.size f.at i.bytes some f.right.high

    contents : contents_size (area_of w.kind (outline f.object)) ≡ tagged_size f.object.size
    contents = ap (λ (k : Kind). contents_size (area_by w.kind k f.object.size f.object.cells)) f.tagged

    fits : home + tagged_size f.object.size ≤ length bytes
    fits = subst (λ (n : ℕ). home + n ≤ length bytes) contents lies.inside

    room : home + 16 * word_count f.object.size + (word_count f.object.size + 7) / 8 ≤ length bytes
    room = room-of home f.object.size (length bytes) fits

    bytes_are : stored i.bytes (untagged bytes (slot c a) (slot c b) i.bytes) (slot c a) (slot c v) ≡ stored i.bytes U (home + f.at) (slot c v)
    bytes_are =
        ap (λ (k : ℕ). stored i.bytes (untagged bytes k (slot c b) i.bytes) k (slot c v)) f.here
        ∙ ap (λ (k : ℕ). stored i.bytes (untagged bytes (home + f.at) k i.bytes) (home + f.at) (slot c v)) base
        ∙ ap (λ (xs : List ℕ). stored i.bytes xs (home + f.at) (slot c v)) (untagged-here bytes home f.object.size f.at i.bytes old.size)

    outside : (j : ℕ) → (j < home) ⊎ (home + tagged_size f.object.size ≤ j) → slice_index (stored i.bytes U (home + f.at) (slot c v)) j ≡ slice_index bytes j
    outside j q = get-stored_other i.bytes U (home + f.at) (slot c v) j (beyond home f.at i.bytes f.object.size j q f.right.high) ∙ get-untagged_outside bytes home f.object.size first count j range.own q

    image : IsImage g (record { object = l.object; offset = f.at; size = i.bytes }) (record { at = slot c a; size = i.bytes })
    image = record {
      object = outline f.object;
      found = get-mapped outline s.memory.objects l.object f.object f.right.found;
      is = subst (λ (k : Kind). covered (record { at = slot c a; size = i.bytes }) ≡ image_by k g (outline f.object) (record { object = l.object; offset = f.at; size = i.bytes })) (sym f.tagged)
          (ap (λ (k : ℕ). record { start = k; end = k + i.bytes }) f.here);
    }

    may : allows_untag bytes (slot c a) (slot c b) i.bytes ≡ true
    may =
        ap (λ (k : ℕ). allows_untag bytes k (slot c b) i.bytes) f.here
        ∙ ap (λ (k : ℕ). allows_untag bytes (home + f.at) k i.bytes) base
        ∙ untag-may bytes home f.object.size f.at i.bytes lies.above old.size some f.right.high fits

    there : is_in_list (with_list (untagged bytes (slot c a) (slot c b) i.bytes) c).state (slot c a) i.bytes ≡ true
    there =
        let e = f.here in let l = length-untagged bytes (slot c a) (slot c b) i.bytes in let h = f.right.high in let k = fits in
        in_list (slot c a) i.bytes (length (untagged bytes (slot c a) (slot c b) i.bytes)) (omega (arith, l, e, in-area home f.object.size f.at i.bytes (length bytes) h k))
