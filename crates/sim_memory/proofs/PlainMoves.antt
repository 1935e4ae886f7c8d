-- A copy of bytes that are no pointer's into an object with tags, wherever they come from: `untag` and then `move`. They are the number that they
-- stand for, so it is a store of an integer of that many bytes.
use Rattle.std.proofs.Common.{◌≡◌, ◌∙◌, ◌⊎◌, ⊎_elim, inl, inr, ℕ, zero, suc, ◌+◌, ◌-◌, ◌*◌, ◌/◌, ◌%◌, ◌<◌, ◌≤◌, ◌^◌, Bool, true, false, ◌&&◌, List, [], ◌∷◌, length, nat_le, slice_index, slice_set, Option, Some, None, refl, ap, sym, subst, arith, if◌then◌else◌}
use Rattle.std.proofs.lemmas.Bool.Decides.{nat_tests}
use Rattle.cc_base.specs.declared.kind.Kind.{Kind}
use Rattle.cc_base.specs.declared.kind.Kind.TheVariants.{Wild}
use Rattle.cc_base.specs.declared.number.TypeId.{TypeId}
use Rattle.kind_sites.specs.declared.site.Site.{Site}
use Rattle.runs.specs.Outcome.{allowed, from}
use Rattle.runs.specs.Control.{then_go}
use Rattle.flat_mem.specs.Bytes.{number, stored, bytes_at, written, moved, AreBytes}
use Rattle.flat_mem.specs.Placement.{tagged_size}
use Rattle.flat_mem.specs.Memory.{with_bytes}
use Rattle.flat_mem.proofs.ByteLaws.{length-moved, get-moved_other, moved-bytes}
use Rattle.wild_tags.specs.Words.{word_at, touched_count}
use Rattle.wild_tags.specs.Calls.{untagged}
use Rattle.wild_tags.specs.Inside.{allows_untag}
use Rattle.wild_tags.proofs.CallLaws.{length-untagged, untagged-bytes}
use Rattle.wild_tags.proofs.UntagLaws.{untagged_at}
use Rattle.wild_tags.proofs.ByteRows.{IsTouched, range-of, untagged-here, get-untagged_outside, length-untagged_at, untag-may}
use Rattle.src_mem.specs.Pointers.{Pointer}
use Rattle.src_mem.specs.Memory.{Object, touches, untouched, with_copied, with_copy, with_integer}
use Rattle.src_mem.specs.State as source
use Rattle.src_mem.specs.State.{Setting}
use Rattle.src_mem.specs.Facts.{IsSoundMemory}
use Rattle.src_mem.specs.Primitives.{Spot, with_object, copy, spot}
use Rattle.src_mem.proofs.Spots.{spot-right}
use Rattle.cured_code.specs.declared.instr.Instr.TheVariants as instr
use Rattle.cured_code.specs.FlatState as flat
use Rattle.cured_code.specs.FlatState.{slot, copied, with_list, is_in_list, Trap, goes}
use Rattle.cured_code.specs.FlatMachine.{Context, run}
use Rattle.sim_relation.specs.Ground.{Ground, address}
use Rattle.sim_relation.specs.Objects.{HoldsTagged, HoldsBy}
use Rattle.sim_relation.specs.Related.{Related, ground_of}
use Rattle.sim_relation.proofs.Changes.{related-change}
use Rattle.sim_relation.proofs.Tagged.{tagged-integer}
use Rattle.sim_relation.proofs.Places.{in_list}
use Rattle.sim_memory.specs.Found.{GoOnAlike}
use Rattle.sim_memory.specs.Wild.{IsFoundTagged}
use Rattle.sim_memory.proofs.Staying.{stays-change}
use Rattle.sim_memory.proofs.Copying.{copy-right}
use Rattle.sim_memory.proofs.WildLoads.{both-true, IsLaid, laid-found, right-tagged, image-tagged, room-of}

-- Bytes that are written are the number that they stand for
written-stored : (n : ℕ) (others : List ℕ) (from : ℕ) (bytes : List ℕ) (at : ℕ) → AreBytes others
    → written (bytes_at n others from) bytes at ≡ stored n bytes at (number n others from)
unfolding number stored bytes_at written
written-stored zero others from bytes at are = refl
written-stored (suc n) others from bytes at are =
    let b = are.below from in
    let low : (slice_index others from + 256 * number n others (from + 1)) % 256 ≡ slice_index others from = omega (arith, b) in
    let high : (slice_index others from + 256 * number n others (from + 1)) / 256 ≡ number n others (from + 1) = omega (arith, b) in
    written-stored n others (from + 1) (slice_set bytes at (slice_index others from)) (at + 1) are
    ∙ ap (λ (v : ℕ). stored n (slice_set bytes at v) (at + 1) (number n others (from + 1))) (sym low)
    ∙ ap (λ (v : ℕ). stored n (slice_set bytes at ((slice_index others from + 256 * number n others (from + 1)) % 256)) (at + 1) v) (sym high)

-- Where the source holds no pointer, none comes along
copied-none : (n : ℕ) (theirs own : ℕ → Option Pointer) (from at k : ℕ) → ((j : ℕ) → j < n → theirs (from + j) ≡ None) → 0 < n
    → with_copied n theirs from at own k ≡ untouched n at own k
copied-none n theirs own from at k none some = by (nat_le at k && nat_le (k + 8) (at + n)) refl
  where
    within : (nat_le at k && nat_le (k + 8) (at + n)) ≡ true → (at ≤ k) × (k + 8 ≤ at + n)
    within e = grind (arith, nat_tests, e)

    touched : (at ≤ k) × (k + 8 ≤ at + n) → touches n at k ≡ true
    touched h = let a = h.0 in let b = h.1 in grind (arith, nat_tests)

    by : (q : Bool) → (nat_le at k && nat_le (k + 8) (at + n)) ≡ q
        → (if q then theirs (from + (k - at)) else untouched n at own k) ≡ untouched n at own k
    by true e =
        let h = within e in
        none (k - at) (let a = h.0 in let b = h.1 in omega (arith, a, b)) ∙ sym (ap (λ (q : Bool). if q then None else own k) (touched h))
    by false e = refl

same-functions : {B : Type 0} (f g : ℕ → B) → ((k : ℕ) → f k ≡ g k) → f ≡ g
same-functions f g h = λ i. λ k. h k i

-- The bytes that are copied

-- The pointer points to n bytes of an object, over which no pointer stands, and the address to n bytes of the list: both machines may read them.
pub record IsPlainSource (w : Setting) (number_of : TypeId → ℕ) (s : source.State) (c : flat.State) (kind : Kind) (n : ℕ) (p : Pointer) (a : ℕ) : Type 0 where
  pub place : Spot
  pub found : spot kind s.memory.objects p n ≡ Some place
  pub bytes : AreBytes place.object.bytes
  pub none : (j : ℕ) → j < n → place.object.pointers (place.at + j) ≡ None
  pub inside : a + n ≤ length c.memory.bytes
  pub read : Related w number_of (source.touched place.number place.at n s) (flat.touched a n c)

-- The copy, where `untag` leaves the bytes of the source as they were

module _ (w : Setting) (sites : List Site) (number_of : TypeId → ℕ) (kind : Kind) (n : ℕ) (p q : Pointer) (s : source.State) (x : Context) (a b d : ℕ) (c : flat.Local)
    (some : 0 < n) (memory : IsSoundMemory w sites s.memory) (r : Related w number_of s c.state) (origin : IsPlainSource w number_of s c.state kind n p (slot c d))
    (h : IsFoundTagged w number_of s c.state n q (slot c a) (slot c b)) where
  abbrev g : Ground
  g = ground_of w number_of s c.state

  abbrev old : List ℕ
  old = c.state.memory.bytes

  abbrev home : ℕ
  home = address (ground_of w number_of s c.state) h.location.object

  abbrev new : Object
  new = with_copy n origin.place.object origin.place.at h.at h.object

  abbrev pub first : ℕ
  first = word_at (address (ground_of w number_of s c.state) h.location.object) (address (ground_of w number_of s c.state) h.location.object + h.at)

  abbrev pub count : ℕ
  count = touched_count (address (ground_of w number_of s c.state) h.location.object) (address (ground_of w number_of s c.state) h.location.object + h.at) n

  -- the bytes behind `untag`
  abbrev pub U : List ℕ
  U = untagged_at c.state.memory.bytes (address (ground_of w number_of s c.state) h.location.object) h.object.size first count

  target : IsLaid (ground_of w number_of s c.state) c.state.memory.bytes (address (ground_of w number_of s c.state) h.location.object) h.object
  target = laid-found w number_of s c.state r n q (slot c a) (slot c b) h

  range : IsTouched h.object.size h.at n first count
  range = range-of home h.object.size h.at n some h.inside

  -- the object with the bytes is the one with their number
  is-new : with_copy n origin.place.object origin.place.at h.at h.object ≡ with_integer n h.at (number n origin.place.object.bytes origin.place.at) h.object
  is-new =
      ap (λ (xs : List ℕ). record h.object { bytes = xs; pointers = with_copied n origin.place.object.pointers origin.place.at h.at h.object.pointers })
      (written-stored n origin.place.object.bytes origin.place.at h.object.bytes h.at origin.bytes)
      ∙ ap (λ (ps : ℕ → Option Pointer). record h.object { bytes = stored n h.object.bytes h.at (number n origin.place.object.bytes origin.place.at); pointers = ps })
      (same-functions (with_copied n origin.place.object.pointers origin.place.at h.at h.object.pointers) (untouched n h.at h.object.pointers)
      (λ k. copied-none n origin.place.object.pointers h.object.pointers origin.place.at h.at k origin.none some))

  U-bytes : AreBytes U
  U-bytes = subst AreBytes (untagged-here old home h.object.size h.at n target.holds.size) (untagged-bytes old (home + h.at) home n r.sound.bytes)

  held : number n U (slot c d) ≡ number n origin.place.object.bytes origin.place.at → HoldsTagged (ground_of w number_of s c.state) (moved n U (home + h.at) (slot c d)) home new
  held same =
      subst (λ (xs : List ℕ). HoldsTagged (ground_of w number_of s c.state) xs home new) (sym (written-stored n U (slot c d) U (home + h.at) U-bytes))
      (subst (λ (o : Object). HoldsTagged (ground_of w number_of s c.state) (stored n U (home + h.at) (number n U (slot c d))) home o) (sym is-new)
      (tagged-integer g old home h.object n h.at first count (number n U (slot c d)) (number n origin.place.object.bytes origin.place.at) target.holds r.sound.bytes target.above
      (memory.each h.location.object h.object h.found h.live).sized (memory.each h.location.object h.object h.found h.live).under range
      (room-of home h.object.size (length old) target.fits) (ap (λ (k : ℕ). k % 256 ^ n) same)))

  -- the bytes behind both lines
  bytes-are : moved n (untagged old (slot c a) (slot c b) n) (slot c a) (slot c d) ≡ moved n U (home + h.at) (slot c d)
  bytes-are =
      ap (λ (k : ℕ). moved n (untagged old k (slot c b) n) k (slot c d)) h.here
      ∙ ap (λ (k : ℕ). moved n (untagged old (home + h.at) k n) (home + h.at) (slot c d)) h.base
      ∙ ap (λ (xs : List ℕ). moved n xs (home + h.at) (slot c d)) (untagged-here old home h.object.size h.at n target.holds.size)

  outside : (j : ℕ) → (j < home) ⊎ (home + tagged_size h.object.size ≤ j) → slice_index (moved n U (home + h.at) (slot c d)) j ≡ slice_index old j
  outside j y =
      get-moved_other n U (home + h.at) (slot c d) j
      (⊎_elim (λ m. inl (omega (arith, m))) (λ m. inr (let k = room-of home h.object.size j m in let i = h.inside in omega (arith, k, i))) y)
      ∙ get-untagged_outside old home h.object.size first count j range.own y

  may : allows_untag old (slot c a) (slot c b) n ≡ true
  may =
      ap (λ (k : ℕ). allows_untag old k (slot c b) n) h.here
      ∙ ap (λ (k : ℕ). allows_untag old (home + h.at) k n) h.base
      ∙ untag-may old home h.object.size h.at n target.above target.holds.size some h.inside target.fits

  both-there : (is_in_list (with_list (untagged old (slot c a) (slot c b) n) c).state (slot c a) n && is_in_list (with_list (untagged old (slot c a) (slot c b) n) c).state (slot c d) n) ≡ true
  both-there =
      let l = length-untagged old (slot c a) (slot c b) n in
      both-true (is_in_list (with_list (untagged old (slot c a) (slot c b) n) c).state (slot c a) n) (is_in_list (with_list (untagged old (slot c a) (slot c b) n) c).state (slot c d) n)
      (let e = h.here in let i = h.inside in let k = room-of home h.object.size (length old) target.fits in
      in_list (slot c a) n (length (untagged old (slot c a) (slot c b) n)) (omega (arith, l, e, i, k)))
      (let m = origin.inside in in_list (slot c d) n (length (untagged old (slot c a) (slot c b) n)) (omega (arith, l, m)))

  pub plain-moved : number n U (slot c d) ≡ number n origin.place.object.bytes origin.place.at
      → GoOnAlike w number_of s c (copy n kind p Wild q s) (run (instr.Untag a b n ∷ instr.Move a d n ∷ []) x c) tt c.slots
  plain-moved same = record {
    next = with_object h.location.object new (source.touched h.location.object h.at n (source.touched origin.place.number origin.place.at n s));
    after = copied n (slot c a) (slot c d) (moved n (untagged old (slot c a) (slot c b) n) (slot c a) (slot c d)) (with_list (untagged old (slot c a) (slot c b) n) c);
    source_goes = copy-right n kind Wild s p q origin.place (record { number = h.location.object; object = h.object; at = h.at }) origin.found
        (ap (λ y. spot Wild s.memory.objects y n) h.is ∙ spot-right Wild s.memory.objects h.location n h.object h.at (right-tagged w number_of s c.state r n q (slot c a) (slot c b) h));
    flat_goes =
        ap (λ (m : Bool). from (allowed m (Trap x.function) (goes (λ v. with_list (untagged v.state.memory.bytes (slot v a) (slot v b) n) v)) c) (λ y. then_go y (run (instr.Move a d n ∷ []) x))) may
        ∙ ap (λ (m : Bool). from (allowed m (Trap x.function) (goes (λ v. copied n (slot v a) (slot v d) (moved n v.state.memory.bytes (slot v a) (slot v d)) v))
        (with_list (untagged old (slot c a) (slot c b) n) c)) (λ y. then_go y (run [] x))) both-there;
    slots_are = refl;
    stays = stays-change w number_of s (with_object h.location.object new (source.touched h.location.object h.at n (source.touched origin.place.number origin.place.at n s))) c.state
        (copied n (slot c a) (slot c d) (moved n (untagged old (slot c a) (slot c b) n) (slot c a) (slot c d)) (with_list (untagged old (slot c a) (slot c b) n) c)).state
        h.location.object h.object new h.found h.live refl refl refl refl refl refl (λ j l. ap (λ (xs : List ℕ). slice_index xs j) bytes-are ∙ outside j (inl l));
    related = subst (λ (xs : List ℕ). Related w number_of (with_object h.location.object new (source.touched h.location.object h.at n (source.touched origin.place.number origin.place.at n s)))
        (flat.touched (slot c a) n (record (flat.touched (slot c d) n c.state) { memory = with_bytes c.state.memory xs }))) (sym bytes-are)
        (related-change w number_of (source.touched origin.place.number origin.place.at n s) (flat.touched (slot c d) n c.state) h.location.object h.object new
        (moved n U (home + h.at) (slot c d)) (record { object = h.location.object; offset = h.at; size = n }) (record { at = slot c a; size = n })
        origin.read h.found h.live refl
        (length-moved n U (home + h.at) (slot c d) ∙ length-untagged_at old home h.object.size first count)
        (moved-bytes n U (home + h.at) (slot c d) U-bytes)
        (λ j y. outside j (⊎_elim inl (λ m. inr (subst (λ (k : ℕ). home + k ≤ j) target.contents m)) y))
        (subst (λ (k : Kind). HoldsBy k (ground_of w number_of s c.state) (moved n U (home + h.at) (slot c d)) home new) (sym h.tagged) (held same))
        (image-tagged w number_of s c.state r n q (slot c a) (slot c b) h));
  }
