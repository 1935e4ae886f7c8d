-- A clearing of an object with tags.
use Rattle.std.proofs.Common.{◌≡◌, ◌∙◌, ◌⊎◌, ⊎_elim, inl, inr, ℕ, zero, suc, ◌+◌, ◌-◌, ◌*◌, ◌<◌, ◌≤◌, pos, Bool, true, false, ◌&&◌, ◌||◌, List, length, nat_eq, nat_le, slice_get, slice_index, Option, Some, refl, ap, sym, subst, arith}
use Rattle.cc_base.specs.declared.kind.Kind.{Kind}
use Rattle.cc_base.specs.declared.kind.Kind.TheVariants.{Wild}
use Rattle.cc_base.specs.declared.number.TypeId.{TypeId}
use Rattle.runs.specs.Outcome.{allowed, leaves}
use Rattle.flat_mem.specs.Bytes.{zeroed, AreBytes}
use Rattle.flat_mem.specs.Placement.{word_count, data_word, tag_byte, tagged_size}
use Rattle.flat_mem.specs.Memory.{with_bytes, in_flat}
use Rattle.flat_mem.proofs.ByteLaws.{length-zeroed, get-zeroed_other, get-zeroed_inside, zeroed-bytes}
use Rattle.flat_mem.proofs.StoreLaws.{number-one}
use Rattle.wild_tags.specs.Words.{length_at, word_at, touched, touched_count, counted, with_tag, tags_cleared}
use Rattle.wild_tags.specs.Calls.{range_zeroed}
use Rattle.wild_tags.specs.Inside.{allows_plain, allows_zero, has_length, have_tags}
use Rattle.wild_tags.proofs.ByteRows.{IsTouched, range-of, all-true}
use Rattle.wild_tags.proofs.CallLaws.{length-range_zeroed, range_zeroed-bytes, get-with_tag_other}
use Rattle.wild_tags.proofs.MarkLaws.{tag-tags_cleared}
use Rattle.wild_tags.proofs.UntagLaws.{range_zeroed_at, number-range_zeroed, number-range_zeroed_other}
use Rattle.src_mem.specs.Pointers.{Location, At}
use Rattle.src_mem.specs.Memory.{Object, cleared}
use Rattle.src_mem.specs.State as source
use Rattle.src_mem.specs.State.{Setting, Wrong}
use Rattle.src_mem.specs.Primitives.{with_object, clear, clear_at}
use Rattle.cured_code.specs.declared.instr.Instr.TheVariants as instr
use Rattle.cured_code.specs.FlatState as flat
use Rattle.cured_code.specs.FlatState.{slot, accessed, Trap, goes}
use Rattle.cured_code.specs.FlatMachine.{Context, act}
use Rattle.sim_relation.specs.Ground.{Ground, address}
use Rattle.sim_relation.specs.Objects.{HoldsTagged, HoldsBy}
use Rattle.sim_relation.specs.Related.{Related, ground_of}
use Rattle.sim_relation.proofs.Changes.{related-change}
use Rattle.sim_relation.proofs.Places.{in_list}
use Rattle.sim_memory.specs.Found.{GoOnAlike}
use Rattle.sim_memory.proofs.Staying.{stays-change}
use Rattle.sim_memory.specs.Wild.{IsFoundTagged}
use Rattle.sim_memory.proofs.WildLoads.{both-true, le-true, IsLaid, laid-found, image-tagged, room-of}

or-true : (a b : Bool) → b ≡ true → (a || b) ≡ true
or-true true b e = refl
or-true false b e = e

-- `tzero` in the terms of these laws
pub zeroed-here : (bytes : List ℕ) (b n at size : ℕ) → length_at bytes b ≡ n
    → range_zeroed bytes (b + at) b size ≡ range_zeroed_at bytes (b + at) size b n (word_at b (b + at)) (touched_count b (b + at) size)
zeroed-here bytes b n at size e = ap (λ m. tags_cleared (touched b (b + at) size) (zeroed size bytes (b + at)) b m) e

pub tzero-may : (bytes : List ℕ) (b size at n : ℕ) → 8 ≤ b → length_at bytes b ≡ size → 0 < n → at + n ≤ size → b + tagged_size size ≤ length bytes
    → allows_zero bytes (b + at) b n ≡ true
tzero-may bytes b size at n above len some inside fits =
    let r = room-of b size (length bytes) fits in
    both-true (allows_plain bytes (b + at) b n) (in_flat bytes (b + at) n)
    (both-true (nat_le b (b + at)) (nat_eq n 0 || (has_length bytes b && have_tags bytes b (length_at bytes b) (touched b (b + at) n))) (le-true b (b + at) (omega arith))
    (or-true (nat_eq n 0) (has_length bytes b && have_tags bytes b (length_at bytes b) (touched b (b + at) n))
    (both-true (has_length bytes b) (have_tags bytes b (length_at bytes b) (touched b (b + at) n))
    (both-true (nat_le 8 b) (in_flat bytes (b - 8) 8) (le-true 8 b above) (in_list (b - 8) 8 (length bytes) (omega (arith, r, above))))
    (all-true (λ k. in_flat bytes (tag_byte b (length_at bytes b) k) 1) (word_at b (b + at)) (touched_count b (b + at) n)
    (λ k l h. in_list (tag_byte b (length_at bytes b) k) 1 (length bytes)
    (let o = (range-of b size at n some inside).own in let e = ap word_count len in omega (arith, o, e, l, h, r)))))))
    (in_list (b + at) n (length bytes) (omega (arith, r, inside)))

-- clearing tags changes no byte but theirs
get-cleared_other : (first k : ℕ) (bytes : List ℕ) (b n j : ℕ) → ((i : ℕ) → first ≤ i → i < first + k → (j < tag_byte b n i) ⊎ (tag_byte b n i + 1 ≤ j))
    → slice_index (tags_cleared (counted first k) bytes b n) j ≡ slice_index bytes j
unfolding tags_cleared counted
get-cleared_other first zero bytes b n j h = refl
get-cleared_other first (suc k) bytes b n j h =
    get-cleared_other (first + 1) k (with_tag false bytes b n first) b n j (λ i l m. h i (omega (arith, l)) (omega (arith, m)))
    ∙ get-with_tag_other false bytes b n first j (h first (omega arith) (omega arith))

-- bytes outside the area stay
pub zeroed-outside : (bytes : List ℕ) (home n at size first k j : ℕ) → IsTouched n at size first k → (j < home) ⊎ (home + tagged_size n ≤ j)
    → slice_index (range_zeroed_at bytes (home + at) size home n first k) j ≡ slice_index bytes j
zeroed-outside bytes home n at size first k j range out =
    get-cleared_other first k (zeroed size bytes (home + at)) home n j
    (λ i l m. ⊎_elim (λ z. inl (omega (arith, z))) (λ z. inr (let r = room-of home n j z in let o = range.own in omega (arith, r, o, m))) out)
    ∙ get-zeroed_other size bytes (home + at) j (⊎_elim (λ z. inl (omega (arith, z))) (λ z. inr (let r = room-of home n j z in let o = range.inside in omega (arith, r, o))) out)

-- the object, once it is zero
all-zero : (g : Ground) (bytes : List ℕ) (b : ℕ) (o : Object) (first k : ℕ) → HoldsTagged g bytes b o → AreBytes bytes → 8 ≤ b → b + tagged_size o.size ≤ length bytes
    → IsTouched o.size 0 o.size first k → HoldsTagged g (range_zeroed_at bytes (b + 0) o.size b o.size first k) b (cleared o)
all-zero g bytes b o first k h are above fits range = record {
  size = number-range_zeroed_other 8 bytes (b + 0) o.size b o.size first k (b - 8) (inl (omega (arith, above))) (omega (arith, above)) ∙ h.size;
  words = λ i own. (
    tag-tags_cleared first k (zeroed o.size bytes (b + 0)) b o.size i (zeroed-bytes o.size bytes (b + 0) are)
        (let e = length-zeroed o.size bytes (b + 0) in let r = room-of b o.size (length bytes) fits in omega (arith, e, r, own))
        (range.high i (omega (arith, own), omega arith)).0 (range.high i (omega (arith, own), omega arith)).1,
    λ j l m.
        sym (number-one (range_zeroed_at bytes (b + 0) o.size b o.size first k) (data_word b i + j))
        ∙ number-range_zeroed 1 bytes (b + 0) o.size b o.size first k (data_word b i + j) (omega arith) (omega (arith, m)) (omega (arith, own, l))
        ∙ sym (get-zeroed_inside o.size o.bytes 0 (8 * i + j) (omega arith) (omega (arith, m))),
  );
}

pub wild-objects-cleared : (w : Setting) (number_of : TypeId → ℕ) (k : ℕ) (o : Object) (s : source.State) (x : Context) (a b : ℕ) (c : flat.Local)
    → slice_get s.memory.objects k ≡ Some o → o.live ≡ true → w.kind o.node ≡ Wild → 0 < o.size → Related w number_of s c.state
    → slot c a ≡ address (ground_of w number_of s c.state) k → slot c b ≡ address (ground_of w number_of s c.state) k
    → GoOnAlike w number_of s c (clear k s) (act (instr.Tzero a b o.size) x c) tt c.slots
wild-objects-cleared w number_of k o s x a b c found live tagged some r here base = record {
  next = with_object k (cleared o) (source.touched k 0 o.size s);
  after = accessed (slot c a) o.size (range_zeroed old (slot c a) (slot c b) o.size) c;
  source_goes = ap (λ (y : Option Object). clear_at k y s) found
      ∙ ap (λ (q : Bool). allowed q Wrong (leaves (λ z. with_object k (cleared o) (source.touched k 0 o.size z))) s) live;
  flat_goes = ap (λ (q : Bool). allowed q (Trap x.function) (goes (λ d. accessed (slot d a) o.size (range_zeroed d.state.memory.bytes (slot d a) (slot d b) o.size) d)) c)
      (ap (λ (m : ℕ). allows_zero old m (slot c b) o.size) where0 ∙ ap (λ (m : ℕ). allows_zero old (home + 0) m o.size) base
      ∙ tzero-may old home o.size 0 o.size laid.above laid.holds.size some (omega arith) laid.fits);
  slots_are = refl;
  stays = stays-change w number_of s (with_object k (cleared o) (source.touched k 0 o.size s)) c.state
      (accessed (slot c a) o.size (range_zeroed old (slot c a) (slot c b) o.size) c).state k o (cleared o) found live refl refl refl refl refl refl
      (λ j l. ap (λ (xs : List ℕ). slice_index xs j) bytes_are ∙ zeroed-outside old home o.size 0 o.size first count j range (inl l));
  related = subst (λ (xs : List ℕ). Related w number_of (with_object k (cleared o) (source.touched k 0 o.size s)) (flat.touched (slot c a) o.size (record c.state { memory = with_bytes c.state.memory xs })))
      (sym bytes_are)
      (related-change w number_of s c.state k o (cleared o) new (record { object = k; offset = 0; size = o.size }) (record { at = slot c a; size = o.size })
      r found live refl (ap length (sym here-zeroed) ∙ length-range_zeroed old (home + 0) home o.size)
      (subst AreBytes here-zeroed (range_zeroed-bytes old (home + 0) home o.size r.sound.bytes))
      (λ j z. zeroed-outside old home o.size 0 o.size first count j range (⊎_elim inl (λ m. inr (subst (λ (n : ℕ). home + n ≤ j) laid.contents m)) z))
      (subst (λ (q : Kind). HoldsBy q g new home (cleared o)) (sym tagged) (all-zero g old home o first count laid.holds r.sound.bytes laid.above laid.fits range))
      (image-tagged w number_of s c.state r o.size (At there) (slot c a) (slot c b) f));
}
  where
    g : Ground
    g = ground_of w number_of s c.state

    old : List ℕ
    old = c.state.memory.bytes

    home : ℕ
    home = address (ground_of w number_of s c.state) k

    there : Location
    there = record { object = k; part = record { low = 0; high = o.size }; offset = pos 0; made = record { 0 = 0 } }

    where0 : slot c a ≡ address (ground_of w number_of s c.state) k + 0
    where0 = here ∙ (let z : address (ground_of w number_of s c.state) k ≡ address (ground_of w number_of s c.state) k + 0 = omega arith in z)

    f : IsFoundTagged w number_of s c.state o.size (At (record { object = k; part = record { low = 0; high = o.size }; offset = pos 0; made = record { 0 = 0 } })) (slot c a) (slot c b)
    f = record {
      location = there;
      is = refl;
      object = o;
      at = 0;
      found = found;
      live = live;
      tagged = tagged;
      offset = refl;
      inside = omega arith;
      base = base;
      here = where0;
    }

    laid : IsLaid (ground_of w number_of s c.state) c.state.memory.bytes (address (ground_of w number_of s c.state) k) o
    laid = laid-found w number_of s c.state r o.size (At there) (slot c a) (slot c b) f

    first : ℕ
    first = word_at home (home + 0)

    count : ℕ
    count = touched_count home (home + 0) o.size

    new : List ℕ
    new = range_zeroed_at old (home + 0) o.size home o.size first count

    here-zeroed : range_zeroed old (home + 0) home o.size ≡ new
    here-zeroed = zeroed-here old home o.size 0 o.size laid.holds.size

    bytes_are : range_zeroed old (slot c a) (slot c b) o.size ≡ new
    bytes_are = ap (λ (m : ℕ). range_zeroed old m (slot c b) o.size) where0 ∙ ap (λ (m : ℕ). range_zeroed old (home + 0) m o.size) base ∙ here-zeroed

    range : IsTouched o.size 0 o.size first count
    range = range-of home o.size 0 o.size some (omega arith)
