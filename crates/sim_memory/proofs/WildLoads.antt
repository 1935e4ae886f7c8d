-- Loads from objects with tags: both machines read the same, and the states stay related.
use Rattle.std.proofs.Common.{◌≡◌, ◌∙◌, ◌⊎◌, ⊎_elim, ℕ, zero, suc, ◌+◌, ◌-◌, ◌*◌, ◌/◌, ◌%◌, ◌<◌, ◌≤◌, pos, Bool, true, false, not, ◌&&◌, ◌||◌, List, [], length, nat_eq, nat_le, slice_index, slice_set, Option, Some, None, is_none, refl, ap, sym, subst, arith}
use Rattle.std.specs.Prelude.{is_some, ◌==◌}
use Rattle.std.specs.List.{list_all, range_with_len}
use Rattle.std.proofs.lemmas.Bool.Decides.{nat_tests}
use Rattle.cc_base.specs.declared.kind.Kind.{Kind}
use Rattle.cc_base.specs.declared.kind.Kind.TheVariants.{Wild}
use Rattle.cc_base.specs.declared.number.TypeId.{TypeId}
use Rattle.integers.specs.Words.{truth_word}
use Rattle.integers.specs.Arithmetic.{IntegerType}
use Rattle.runs.specs.Outcome.{Done, allowed}
use Rattle.runs.specs.Control.{Goes}
use Rattle.flat_mem.specs.Bytes.{number, IsAccessSize}
use Rattle.flat_mem.specs.Placement.{word_count, base_word, tag_byte, tagged_size, contents_size}
use Rattle.flat_mem.specs.Memory.{in_flat}
use Rattle.flat_mem.proofs.ByteLaws.{number-below, number-same}
use Rattle.wild_tags.specs.Words.{length_at, word_at, tag_at, base_at}
use Rattle.wild_tags.specs.Calls.{is_tagged, base_of}
use Rattle.wild_tags.specs.Inside.{has_length, allows_word, allows_tagged, allows_base}
use Rattle.src_mem.specs.Pointers.{Pointer, Null, Number, At, Function}
use Rattle.src_mem.specs.Memory.{Object, touches, holds_none, holds_pointer_at, pointer_or_null, size_of_object}
use Rattle.src_mem.specs.State as source
use Rattle.src_mem.specs.State.{Setting, Access, given, Wrong}
use Rattle.src_mem.specs.Primitives.{load_integer, load_pointer}
use Rattle.src_mem.specs.Checks.{InObject, fits_between, holds}
use Rattle.src_mem.specs.Outlines.{outline}
use Rattle.src_mem.proofs.Outlines.{get-mapped}
use Rattle.src_mem.proofs.Spots.{IsRight}
use Rattle.facts_kept.proofs.Holds.{in-bounds}
use Rattle.cured_code.specs.declared.parts.Parts.{Parts}
use Rattle.cured_code.specs.declared.instr.Instr.TheVariants as instr
use Rattle.cured_code.specs.FlatState as flat
use Rattle.cured_code.specs.FlatState.{slot, with_slot, loaded, Range, Trap, goes}
use Rattle.cured_code.specs.FlatMachine.{Context, act}
use Rattle.check_forms.specs.declared.slots.PointerSlots.{PointerSlots}
use Rattle.sim_relation.specs.Ground.{Ground, address, first_word, second_word}
use Rattle.sim_relation.specs.Accesses.{covered, image_by, IsImage}
use Rattle.sim_relation.specs.Objects.{HoldsTagged, HoldsWord, HoldsBy, area_of, area_by}
use Rattle.sim_relation.specs.Related.{Related, ground_of}
use Rattle.sim_relation.proofs.Places.{images-append, in_list}
use Rattle.sim_checks.specs.Rows.{IsChecked}
use Rattle.sim_checks.proofs.Tagged.{IsTarget, target, there}
use Rattle.sim_memory.specs.Found.{GoOnAlike}
use Rattle.sim_memory.specs.Laws.{IntegerIsLoaded}
use Rattle.sim_memory.specs.Wild.{IsFoundTagged}
use Rattle.sim_memory.proofs.Loading.{load-pointer, load-right, powers-alike}

-- Places in an area

pub room-of : (home n len : ℕ) → home + tagged_size n ≤ len → home + 16 * word_count n + (word_count n + 7) / 8 ≤ len
unfolding tagged_size
room-of home n len h = omega arith

pub le-true : (a b : ℕ) → a ≤ b → nat_le a b ≡ true
le-true a b h = grind (arith, nat_tests)

pub eq-true : (a b : ℕ) → a ≡ b → nat_eq a b ≡ true
eq-true a b h = grind (arith, nat_tests)

pub both-true : (a b : Bool) → a ≡ true → b ≡ true → (a && b) ≡ true
both-true a b e f = ap (λ (x : Bool). x && b) e ∙ f

-- word k of an area that lies in the list

word-may : (bytes : List ℕ) (b size k : ℕ) → 8 ≤ b → 8 * k + 8 ≤ size → b + tagged_size size ≤ length bytes → allows_word bytes (b + 8 * k) b ≡ true
word-may bytes b size k above inside room =
    let r = room-of b size (length bytes) room in
    both-true (nat_le b (b + 8 * k)) (nat_eq ((b + 8 * k - b) % 8) 0 && has_length bytes b) (le-true b (b + 8 * k) (omega arith))
    (both-true (nat_eq ((b + 8 * k - b) % 8) 0) (has_length bytes b) (eq-true ((b + 8 * k - b) % 8) 0 (omega arith))
    (both-true (nat_le 8 b) (in_flat bytes (b - 8) 8) (le-true 8 b above) (in_list (b - 8) 8 (length bytes) (omega (arith, r, above)))))

here-word : (b k : ℕ) → word_at b (b + 8 * k) ≡ k
here-word b k = omega arith

own-word : (size k : ℕ) → 8 * k + 8 ≤ size → k < word_count size
own-word size k h = omega (arith, h)

pub tagged-may : (bytes : List ℕ) (b size k : ℕ) → 8 ≤ b → length_at bytes b ≡ size → 8 * k + 8 ≤ size → b + tagged_size size ≤ length bytes
    → allows_tagged bytes (b + 8 * k) b ≡ true
tagged-may bytes b size k above len inside room =
    let r = room-of b size (length bytes) room in
    let own = own-word size k inside in
    both-true (allows_word bytes (b + 8 * k) b) (in_flat bytes (tag_byte b (length_at bytes b) (word_at b (b + 8 * k))) 1) (word-may bytes b size k above inside room)
    (ap (λ n. in_flat bytes (tag_byte b n (word_at b (b + 8 * k))) 1) len ∙ ap (λ n. in_flat bytes (tag_byte b size n) 1) (here-word b k)
    ∙ in_list (tag_byte b size k) 1 (length bytes) (omega (arith, r, own)))

pub base-may : (bytes : List ℕ) (b size k : ℕ) → 8 ≤ b → length_at bytes b ≡ size → 8 * k + 8 ≤ size → b + tagged_size size ≤ length bytes
    → allows_base bytes (b + 8 * k) b ≡ true
base-may bytes b size k above len inside room =
    let r = room-of b size (length bytes) room in
    let own = own-word size k inside in
    both-true (allows_word bytes (b + 8 * k) b) (in_flat bytes (base_word b (length_at bytes b) (word_at b (b + 8 * k))) 8) (word-may bytes b size k above inside room)
    (ap (λ n. in_flat bytes (base_word b n (word_at b (b + 8 * k))) 8) len ∙ ap (λ n. in_flat bytes (base_word b size n) 8) (here-word b k)
    ∙ in_list (base_word b size k) 8 (length bytes) (omega (arith, r, own)))

-- What was found

tagged-holds : (k : Kind) → k ≡ Wild → (g : Ground) (bytes : List ℕ) (at : ℕ) (o : Object) → HoldsBy k g bytes at o → HoldsTagged g bytes at o
tagged-holds k e g bytes at o h = subst (λ (x : Kind). HoldsBy x g bytes at o) e h

-- what holds of an object with tags at its address
pub record IsLaid (g : Ground) (bytes : List ℕ) (home : ℕ) (o : Object) : Type 0 where
  pub holds : HoldsTagged g bytes home o
  pub above : 8 ≤ home
  pub fits : home + tagged_size o.size ≤ length bytes
  pub contents : contents_size (area_of g.kind (outline o)) ≡ tagged_size o.size

module _ (w : Setting) (number_of : TypeId → ℕ) (s : source.State) (c : flat.State) (r : Related w number_of s c) (n : ℕ) (p : Pointer) (a b : ℕ)
    (f : IsFoundTagged w number_of s c n p a b) where
  pub laid-found : IsLaid (ground_of w number_of s c) c.memory.bytes (address (ground_of w number_of s c) f.location.object) f.object
  laid-found =
      let lies = r.areas.lie f.location.object f.object f.found f.live in
      let contents : contents_size (area_of w.kind (outline f.object)) ≡ tagged_size f.object.size =
      ap (λ (k : Kind). contents_size (area_by w.kind k f.object.size f.object.cells)) f.tagged in record {
        holds = tagged-holds (w.kind f.object.node) f.tagged (ground_of w number_of s c) c.memory.bytes (address (ground_of w number_of s c) f.location.object) f.object
            (r.holds.each f.location.object f.object f.found f.live);
        above = lies.above;
        fits = subst (λ (m : ℕ). address (ground_of w number_of s c) f.location.object + m ≤ length c.memory.bytes) contents lies.inside;
        contents = contents;
      }

  pub right-tagged : IsRight Wild s.memory.objects f.location n f.object f.at
  right-tagged = record { found = f.found; live = f.live; offset = f.offset; low = omega arith; high = f.inside }

  pub image-tagged : IsImage (ground_of w number_of s c) (record { object = f.location.object; offset = f.at; size = n }) (record { at = a; size = n })
  image-tagged = record {
    object = outline f.object;
    found = get-mapped outline s.memory.objects f.location.object f.object f.found;
    is = subst (λ (k : Kind). covered (record { at = a; size = n }) ≡ image_by k (ground_of w number_of s c) (outline f.object) (record { object = f.location.object; offset = f.at; size = n }))
        (sym f.tagged) (ap (λ (k : ℕ). record { start = k; end = k + n }) f.here);
  }

-- the states once both have read there
pub read-tagged : (w : Setting) (number_of : TypeId → ℕ) (s : source.State) (c : flat.State) (n : ℕ) (p : Pointer) (a b : ℕ) → Related w number_of s c
    → (f : IsFoundTagged w number_of s c n p a b) → Related w number_of (source.touched f.location.object f.at n s) (flat.touched a n c)
read-tagged w number_of s c n p a b r f = record {
  areas = record { count = r.areas.count; sizes = r.areas.sizes; lie = r.areas.lie; apart = r.areas.apart };
  holds = r.holds;
  sound = r.sound;
  small = r.small;
  room = record { frame_charge = r.room.frame_charge; heap_charge = r.room.heap_charge; frames = r.room.frames; heap = r.room.heap };
  outside = record { output = r.outside.output; read = r.outside.read; input = r.outside.input; turns = r.outside.turns; entered = r.outside.entered };
  accesses = images-append (ground_of w number_of s c) s.accesses c.accesses _ _ r.accesses (image-tagged w number_of s c r n p a b f);
}

-- What WBOUNDS lets pass

-- no table of the cured program counts here
no-parts : Parts
no-parts = record { sigs = []; nodes = []; globals = []; functions = [] }

pub bytes-found : (w : Setting) (number_of : TypeId → ℕ) (s : source.State) (c : flat.State) (depth : ℕ) (t : TypeId) (q : Pointer) (e : ℕ → ℕ) (p : PointerSlots)
    (n : ℕ) → IsChecked w number_of s c depth Wild t q e p → holds w s.memory (InObject n q) ≡ true
    → IsFoundTagged w number_of s c n q (e p.first) (e p.second)
bytes-found w number_of s c depth t Null e p n x h = absurd (cc (h))
bytes-found w number_of s c depth t (Number m) e p n x h = absurd (cc (h))
bytes-found w number_of s c depth t (Function f) e p n x h = absurd (cc (h))
bytes-found w number_of s c depth t (At l) e p n x h = of (target w number_of s c no-parts depth t e p l x)
  where
    of : (o : Object) × IsTarget w number_of s c no-parts depth l o → IsFoundTagged w number_of s c n (At l) (e p.first) (e p.second)
    of (o, y) = to (in-bounds 0 o.size l.offset n (sym (ap (λ (z : Option Object). fits_between 0 (size_of_object z) l.offset n) y.found) ∙ h))
      where
        to : (at : ℕ) × (l.offset ≡ pos at) × (0 ≤ at) × (at + n ≤ o.size) → IsFoundTagged w number_of s c n (At l) (e p.first) (e p.second)
        to (at, offset, low, inside) = record {
          location = l;
          is = refl;
          object = o;
          at = at;
          found = y.found;
          live = y.live;
          tagged = y.tagged;
          offset = offset;
          inside = inside;
          base = x.words.1;
          here = there w number_of s c no-parts depth t e p l o y x at offset (omega (arith, inside));
        }

-- Words

-- the address of word k
word-here : (home at k a : ℕ) → a ≡ home + at → at ≡ 8 * k → a ≡ home + 8 * k
word-here home at k a e f = e ∙ ap (λ m. home + m) f

eighth : (at : ℕ) → at % 8 ≡ 0 → at ≡ 8 * (at / 8)
eighth at h = omega (arith, h)

tag-is : (g : Ground) (bytes : List ℕ) (b : ℕ) (o : Object) (k : ℕ) (x : Option Pointer) → HoldsWord g bytes b o k x → tag_at bytes b o.size k ≡ is_some x
tag-is g bytes b o k None h = h.0
tag-is g bytes b o k (Some p) h = h.0

tag-read : (g : Ground) (bytes : List ℕ) (b : ℕ) (o : Object) (k : ℕ) → HoldsTagged g bytes b o → 8 * k + 8 ≤ o.size → is_tagged bytes (b + 8 * k) b ≡ is_some (o.pointers (8 * k))
tag-read g bytes b o k h inside =
    ap (λ m. tag_at bytes b m (word_at b (b + 8 * k))) h.size ∙ ap (tag_at bytes b o.size) (here-word b k)
    ∙ tag-is g bytes b o k (o.pointers (8 * k)) (h.words k (own-word o.size k inside))

base-read : (g : Ground) (bytes : List ℕ) (b : ℕ) (o : Object) (k : ℕ) (q : Pointer) → HoldsTagged g bytes b o → 8 * k + 8 ≤ o.size → o.pointers (8 * k) ≡ Some q
    → base_of bytes (b + 8 * k) b ≡ second_word g Wild q
base-read g bytes b o k q h inside e =
    ap (λ m. base_at bytes b m (word_at b (b + 8 * k))) h.size ∙ ap (base_at bytes b o.size) (here-word b k)
    ∙ (subst (HoldsWord g bytes b o k) e (h.words k (own-word o.size k inside))).2

-- the first word of what is stored there, or of null
first-read : (g : Ground) (bytes : List ℕ) (b : ℕ) (o : Object) (k : ℕ) → HoldsTagged g bytes b o → 8 * k + 8 ≤ o.size → holds_pointer_at (8 * k) o ≡ true
    → number 8 bytes (b + 8 * k) ≡ first_word g Wild (pointer_or_null (o.pointers (8 * k)))
first-read g bytes b o k h inside there = of (o.pointers (8 * k)) refl (h.words k (own-word o.size k inside))
  where
    zero-is : (n : ℕ) → nat_eq n 0 ≡ true → n ≡ 0
    zero-is n e = grind (arith, nat_tests, e)

    of : (x : Option Pointer) → o.pointers (8 * k) ≡ x → HoldsWord g bytes b o k x → number 8 bytes (b + 8 * k) ≡ first_word g Wild (pointer_or_null x)
    of (Some p) e y = y.1
    of None e y =
        number-same 8 bytes o.bytes (b + 8 * k) (8 * k) (λ i l. y.1 i l (omega (arith, inside, l)))
        ∙ zero-is (number 8 o.bytes (8 * k)) (sym (ap (λ (z : Option Pointer). is_some z || (number 8 o.bytes (8 * k) == 0)) e) ∙ there)

module _ (w : Setting) (number_of : TypeId → ℕ) (p : Pointer) (s : source.State) (x : Context) (v a b : ℕ) (c : flat.Local) (r : Related w number_of s c.state)
    (f : IsFoundTagged w number_of s c.state 8 p (slot c a) (slot c b)) (by8 : f.at % 8 ≡ 0) where
  abbrev home : ℕ
  home = address (ground_of w number_of s c.state) f.location.object

  laid : IsLaid (ground_of w number_of s c.state) c.state.memory.bytes (address (ground_of w number_of s c.state) f.location.object) f.object
  laid = laid-found w number_of s c.state r 8 p (slot c a) (slot c b) f

  inside8 : 8 * (f.at / 8) + 8 ≤ f.object.size
  inside8 = let e = eighth f.at by8 in let i = f.inside in omega (arith, e, i)

  where8 : slot c a ≡ address (ground_of w number_of s c.state) f.location.object + 8 * (f.at / 8)
  where8 = word-here (address (ground_of w number_of s c.state) f.location.object) f.at (f.at / 8) (slot c a) f.here (eighth f.at by8)

  pub tags-read : act (instr.Tagged v a b) x c ≡ Done Goes (with_slot v (truth_word (is_some (f.object.pointers f.at))) c)
  tags-read =
      ap (λ (y : Bool). allowed y (Trap x.function) (goes (λ d. with_slot v (truth_word (is_tagged d.state.memory.bytes (slot d a) (slot d b))) d)) c)
      (ap (λ m. allows_tagged c.state.memory.bytes m (slot c b)) where8 ∙ ap (allows_tagged c.state.memory.bytes (home + 8 * (f.at / 8))) f.base
      ∙ tagged-may c.state.memory.bytes home f.object.size (f.at / 8) laid.above laid.holds.size inside8 laid.fits)
      ∙ ap (λ m. Done Goes (with_slot v (truth_word m) c))
      (ap (λ m. is_tagged c.state.memory.bytes m (slot c b)) where8 ∙ ap (is_tagged c.state.memory.bytes (home + 8 * (f.at / 8))) f.base
      ∙ tag-read (ground_of w number_of s c.state) c.state.memory.bytes home f.object (f.at / 8) laid.holds inside8
      ∙ ap (λ m. is_some (f.object.pointers m)) (sym (eighth f.at by8)))

  pub bases-read : (q : Pointer) → f.object.pointers f.at ≡ Some q
      → act (instr.Base v a b) x c ≡ Done Goes (with_slot v (second_word (ground_of w number_of s c.state) Wild q) c)
  bases-read q e =
      ap (λ (y : Bool). allowed y (Trap x.function) (goes (λ d. with_slot v (base_of d.state.memory.bytes (slot d a) (slot d b)) d)) c)
      (ap (λ m. allows_base c.state.memory.bytes m (slot c b)) where8 ∙ ap (allows_base c.state.memory.bytes (home + 8 * (f.at / 8))) f.base
      ∙ base-may c.state.memory.bytes home f.object.size (f.at / 8) laid.above laid.holds.size inside8 laid.fits)
      ∙ ap (λ m. Done Goes (with_slot v m c))
      (ap (λ m. base_of c.state.memory.bytes m (slot c b)) where8 ∙ ap (base_of c.state.memory.bytes (home + 8 * (f.at / 8))) f.base
      ∙ base-read (ground_of w number_of s c.state) c.state.memory.bytes home f.object (f.at / 8) q laid.holds inside8 (ap f.object.pointers (sym (eighth f.at by8)) ∙ e))

  pub wild-pointers-loaded : holds_pointer_at f.at f.object ≡ true
      → GoOnAlike w number_of s c (load_pointer Wild p s) (act (instr.Ld 8 v a) x c) (pointer_or_null (f.object.pointers f.at))
      (slice_set c.slots v (first_word (ground_of w number_of s c.state) Wild (pointer_or_null (f.object.pointers f.at))))
  wild-pointers-loaded there = record {
    next = source.touched f.location.object f.at 8 s;
    after = loaded 8 v (slot c a) c;
    source_goes = ap (λ y. load_pointer Wild y s) f.is
        ∙ load-pointer Wild f.location s f.object f.at (right-tagged w number_of s c.state r 8 p (slot c a) (slot c b) f) there;
    flat_goes = ap (λ (y : Bool). allowed y (Trap x.function) (goes (loaded 8 v (slot c a))) c)
        (in_list (slot c a) 8 (length c.state.memory.bytes)
        (let i = inside8 in let m = where8 in let z = room-of home f.object.size (length c.state.memory.bytes) laid.fits in omega (arith, i, m, z)));
    slots_are = ap (slice_set c.slots v) (ap (number 8 c.state.memory.bytes) where8
        ∙ first-read (ground_of w number_of s c.state) c.state.memory.bytes home f.object (f.at / 8) laid.holds inside8 (ap (λ m. holds_pointer_at m f.object) (sym (eighth f.at by8)) ∙ there)
        ∙ ap (λ m. first_word (ground_of w number_of s c.state) Wild (pointer_or_null (f.object.pointers m))) (sym (eighth f.at by8)));
    stays = record { outlines = refl; lives = refl; input = refl; areas = refl; frames = refl; bounds = refl; top = refl; before = λ i h. refl };
    related = read-tagged w number_of s c.state 8 p (slot c a) (slot c b) r f;
  }

-- Integers

-- no pointer stands over these bytes
pub none-at : (n at : ℕ) (o : Object) (i : ℕ) → holds_none n at o ≡ true → i < at + n → touches n at i ≡ true → o.pointers i ≡ None
none-at n at o i h l t = is (o.pointers i) refl (ap (λ (q : Bool). not q || is_none (o.pointers i)) (sym t) ∙ all 0 (at + n) h i (omega arith) (omega (arith, l)))
  where
    is : (x : Option Pointer) → o.pointers i ≡ x → is_none (o.pointers i) ≡ true → o.pointers i ≡ None
    is None e g = e
    is (Some p) e g = absurd (let z : is_none (Some p) ≡ true = ap is_none (sym e) ∙ g in cc (z))

    first : (a b : Bool) → (a && b) ≡ true → a ≡ true
    first true b h = refl
    first false b h = h

    second : (a b : Bool) → (a && b) ≡ true → b ≡ true
    second true b h = h
    second false b h = absurd (cc (h))

    case : (a i : ℕ) → a ≤ i → (a ≡ i) ⊎ (a + 1 ≤ i)
    case a i l = grind arith

    all : (a k : ℕ) → list_all (λ k. not (touches n at k) || is_none (o.pointers k)) (range_with_len a k) ≡ true → (i : ℕ) → a ≤ i → i < a + k
        → (not (touches n at i) || is_none (o.pointers i)) ≡ true
    all a zero h i l m = absurd (omega (arith, l, m))
    all a (suc k) h i l m = ⊎_elim
        (λ e. subst (λ (j : ℕ). (not (touches n at j) || is_none (o.pointers j)) ≡ true) e
        (first (not (touches n at a) || is_none (o.pointers a)) (list_all (λ k. not (touches n at k) || is_none (o.pointers k)) (range_with_len (a + 1) k)) h))
        (λ e. all (a + 1) k (second (not (touches n at a) || is_none (o.pointers a)) (list_all (λ k. not (touches n at k) || is_none (o.pointers k)) (range_with_len (a + 1) k)) h) i e
        (omega (arith, m))) (case a i l)

-- nor in their words
pub none-in-word : (n at : ℕ) (o : Object) → holds_none n at o ≡ true → (j : ℕ) → j < n → o.pointers (8 * ((at + j) / 8)) ≡ None
none-in-word n at o none j l =
    let split : at + j ≡ 8 * ((at + j) / 8) + (at + j) % 8 = omega arith in
    let less : (at + j) % 8 < 8 = omega arith in
    none-at n at o (8 * ((at + j) / 8)) none (omega (arith, split, l)) (touched at n j ((at + j) / 8) ((at + j) % 8) split less l)
  where
    touched : (at n j k i : ℕ) → at + j ≡ 8 * k + i → i < 8 → j < n → touches n at (8 * k) ≡ true
    touched at n j k i e l m = grind (arith, nat_tests, e, l, m)

-- so they are those of the area
pub bytes-read : (g : Ground) (bytes : List ℕ) (b : ℕ) (o : Object) (n at : ℕ) → HoldsTagged g bytes b o → at + n ≤ o.size → holds_none n at o ≡ true → (j : ℕ) → j < n
    → slice_index bytes (b + at + j) ≡ slice_index o.bytes (at + j)
bytes-read g bytes b o n at h inside none j l =
    let split : at + j ≡ 8 * ((at + j) / 8) + (at + j) % 8 = omega arith in
    let less : (at + j) % 8 < 8 = omega arith in
    let own : (at + j) / 8 < word_count o.size = omega (arith, inside, l) in
    let y = (subst (HoldsWord g bytes b o ((at + j) / 8)) (none-in-word n at o none j l) (h.words ((at + j) / 8) own)).1 ((at + j) % 8) less (omega (arith, split, inside, l)) in
    let f : b + at + j ≡ b + 8 * ((at + j) / 8) + (at + j) % 8 = omega (arith, split) in
    ap (slice_index bytes) f ∙ y ∙ ap (slice_index o.bytes) (sym split)

pub wild-integers-loaded : (w : Setting) (number_of : TypeId → ℕ) (i : IntegerType) (p : Pointer) (s : source.State) (x : Context) (v a b : ℕ) (c : flat.Local)
    → IsAccessSize i.bytes → Related w number_of s c.state → (f : IsFoundTagged w number_of s c.state i.bytes p (slot c a) (slot c b))
    → holds_none i.bytes f.at f.object ≡ true → IntegerIsLoaded w number_of Wild i p s x v a c
wild-integers-loaded w number_of i p s x v a b c size r f none = record {
  number = number i.bytes f.object.bytes f.at;
  below = let h = number-below i.bytes c.state.memory.bytes (slot c a) r.sound.bytes in let m = same in let k = powers-alike i.bytes size in omega (arith, h, m, k);
  goes_on = record {
    next = source.touched f.location.object f.at i.bytes s;
    after = loaded i.bytes v (slot c a) c;
    source_goes = ap (λ y. load_integer Wild i y s) f.is
        ∙ load-right Wild i f.location s f.object f.at (right-tagged w number_of s c.state r i.bytes p (slot c a) (slot c b) f);
    flat_goes = ap (λ (y : Bool). allowed y (Trap x.function) (goes (loaded i.bytes v (slot c a))) c)
        (in_list (slot c a) i.bytes (length c.state.memory.bytes)
        (let j = f.inside in let m = f.here in let z = room-of home f.object.size (length c.state.memory.bytes) laid.fits in omega (arith, j, m, z)));
    slots_are = ap (slice_set c.slots v) same;
    stays = record { outlines = refl; lives = refl; input = refl; areas = refl; frames = refl; bounds = refl; top = refl; before = λ i h. refl };
    related = read-tagged w number_of s c.state i.bytes p (slot c a) (slot c b) r f;
  };
  memory = refl;
}
  where
    home : ℕ
    home = address (ground_of w number_of s c.state) f.location.object

    laid : IsLaid (ground_of w number_of s c.state) c.state.memory.bytes (address (ground_of w number_of s c.state) f.location.object) f.object
    laid = laid-found w number_of s c.state r i.bytes p (slot c a) (slot c b) f

    same : number i.bytes c.state.memory.bytes (slot c a) ≡ number i.bytes f.object.bytes f.at
    same = ap (number i.bytes c.state.memory.bytes) f.here
        ∙ number-same i.bytes c.state.memory.bytes f.object.bytes (address (ground_of w number_of s c.state) f.location.object + f.at) f.at
        (bytes-read (ground_of w number_of s c.state) c.state.memory.bytes (address (ground_of w number_of s c.state) f.location.object) f.object i.bytes f.at laid.holds f.inside none)
