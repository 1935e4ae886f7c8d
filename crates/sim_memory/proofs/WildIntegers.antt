-- A store of an integer in an object with tags: `untag` and then `st`.
use Rattle.std.proofs.Common.{◌≡◌, ◌∙◌, ◌⊎◌, ⊎_elim, inl, inr, ℕ, ◌+◌, ◌%◌, ◌<◌, ◌≤◌, ◌^◌, ℤ, Bool, true, List, [], ◌∷◌, length, nat_eq, nat_le, ◌||◌, slice_index, refl, ap, sym, subst, arith}
use Rattle.cc_base.specs.declared.kind.Kind.{Kind}
use Rattle.cc_base.specs.declared.kind.Kind.TheVariants.{Wild}
use Rattle.cc_base.specs.declared.number.TypeId.{TypeId}
use Rattle.kind_sites.specs.declared.site.Site.{Site}
use Rattle.integers.specs.Words.{word, residue}
use Rattle.integers.specs.Arithmetic.{IntegerType, bits_of}
use Rattle.runs.specs.Outcome.{allowed, from}
use Rattle.runs.specs.Control.{then_go}
use Rattle.flat_mem.specs.Bytes.{stored, IsAccessSize, AreBytes}
use Rattle.flat_mem.specs.Placement.{tagged_size}
use Rattle.flat_mem.specs.Memory.{with_bytes}
use Rattle.flat_mem.proofs.ByteLaws.{length-stored, get-stored_other, stored-bytes}
use Rattle.wild_tags.specs.Words.{word_at, touched_count}
use Rattle.wild_tags.specs.Calls.{untagged}
use Rattle.wild_tags.specs.Inside.{allows_untag}
use Rattle.wild_tags.proofs.CallLaws.{length-untagged, untagged-bytes}
use Rattle.wild_tags.proofs.UntagLaws.{untagged_at}
use Rattle.wild_tags.proofs.ByteRows.{IsTouched, range-of, untagged-here, get-untagged_outside, length-untagged_at, untag-may}
use Rattle.src_mem.specs.Pointers.{Pointer}
use Rattle.src_mem.specs.Memory.{Object, with_integer}
use Rattle.src_mem.specs.State as source
use Rattle.src_mem.specs.State.{Setting, given}
use Rattle.src_mem.specs.Facts.{IsSoundMemory, IsSoundObject}
use Rattle.src_mem.specs.Primitives.{Spot, with_object, store_integer}
use Rattle.src_mem.specs.Outlines.{outlines_of, lives_of}
use Rattle.src_mem.proofs.Spots.{spot-right}
use Rattle.runs.specs.Outcome.{Done}
use Rattle.cured_code.specs.declared.instr.Instr.TheVariants as instr
use Rattle.cured_code.specs.FlatState as flat
use Rattle.cured_code.specs.FlatState.{slot, stored_at, with_list, Trap, goes}
use Rattle.cured_code.specs.FlatMachine.{Context, run}
use Rattle.sim_relation.specs.Ground.{Ground, address}
use Rattle.sim_relation.specs.Objects.{HoldsBy}
use Rattle.sim_relation.specs.Related.{Related, ground_of}
use Rattle.sim_relation.proofs.Changes.{related-change}
use Rattle.sim_relation.proofs.Tagged.{tagged-integer}
use Rattle.sim_relation.proofs.Places.{in_list}
use Rattle.sim_memory.specs.Found.{GoOnAlike}
use Rattle.sim_memory.proofs.Staying.{stays-change}
use Rattle.sim_memory.specs.Wild.{IsFoundTagged}
use Rattle.sim_memory.proofs.Loading.{powers-alike}
use Rattle.sim_memory.proofs.Storing.{low-bytes, size-some}
use Rattle.sim_memory.proofs.WildLoads.{IsLaid, laid-found, right-tagged, image-tagged, room-of}

pub wild-integers-stored : (w : Setting) (sites : List Site) (number_of : TypeId → ℕ) (i : IntegerType) (p : Pointer) (z : ℤ) (s : source.State) (x : Context) (a b v : ℕ)
    (c : flat.Local) → IsAccessSize i.bytes → IsSoundMemory w sites s.memory → Related w number_of s c.state
    → IsFoundTagged w number_of s c.state i.bytes p (slot c a) (slot c b) → slot c v % 2 ^ bits_of i ≡ residue z (2 ^ bits_of i)
    → GoOnAlike w number_of s c (store_integer Wild i p z s) (run (instr.Untag a b i.bytes ∷ instr.St i.bytes a v ∷ []) x c) tt c.slots
wild-integers-stored w sites number_of i p z s x a b v c size memory r f low = record {
  next = with_object f.location.object new (source.touched f.location.object f.at i.bytes s);
  after = stored_at i.bytes (slot c a) (slot c v) (with_list (untagged old (slot c a) (slot c b) i.bytes) c);
  source_goes =
      ap (λ y. store_integer Wild i y z s) f.is
      ∙ ap (λ q. given q (λ (y : Spot). λ (t : source.State). Done tt (with_object y.number (with_integer i.bytes y.at (word z) y.object) (source.touched y.number y.at i.bytes t))) s)
      (spot-right Wild s.memory.objects f.location i.bytes f.object f.at (right-tagged w number_of s c.state r i.bytes p (slot c a) (slot c b) f));
  flat_goes =
      ap (λ (q : Bool). from (allowed q (Trap x.function) (goes (λ d. with_list (untagged d.state.memory.bytes (slot d a) (slot d b) i.bytes) d)) c)
      (λ y. then_go y (run (instr.St i.bytes a v ∷ []) x))) may
      ∙ ap (λ (q : Bool). from (allowed q (Trap x.function) (goes (stored_at i.bytes (slot c a) (slot c v))) (with_list (untagged old (slot c a) (slot c b) i.bytes) c)) (λ y. then_go y (run [] x))) there;
  slots_are = refl;
  stays = stays-change w number_of s (with_object f.location.object new (source.touched f.location.object f.at i.bytes s)) c.state
      (stored_at i.bytes (slot c a) (slot c v) (with_list (untagged old (slot c a) (slot c b) i.bytes) c)).state f.location.object f.object new f.found f.live
      refl refl refl refl refl refl (λ j l. ap (λ (xs : List ℕ). slice_index xs j) bytes_are ∙ outside j (inl l));
  related = subst (λ (xs : List ℕ). Related w number_of (with_object f.location.object new (source.touched f.location.object f.at i.bytes s))
      (flat.touched (slot c a) i.bytes (record c.state { memory = with_bytes c.state.memory xs }))) (sym bytes_are)
      (related-change w number_of s c.state f.location.object f.object new (stored i.bytes U (home + f.at) (slot c v))
      (record { object = f.location.object; offset = f.at; size = i.bytes }) (record { at = slot c a; size = i.bytes })
      r f.found f.live refl (length-stored i.bytes U (home + f.at) (slot c v) ∙ length-untagged_at old home f.object.size first count)
      (stored-bytes i.bytes U (home + f.at) (slot c v) (subst AreBytes (untagged-here old home f.object.size f.at i.bytes laid.holds.size) (untagged-bytes old (home + f.at) home i.bytes r.sound.bytes)))
      (λ j q. outside j (⊎_elim inl (λ m. inr (subst (λ (n : ℕ). home + n ≤ j) laid.contents m)) q))
      (subst (λ (k : Kind). HoldsBy k g (stored i.bytes U (home + f.at) (slot c v)) home new) (sym f.tagged)
      (tagged-integer g old home f.object i.bytes f.at first count (slot c v) (word z) laid.holds r.sound.bytes laid.above is.sized is.under range
      (room-of home f.object.size (length old) laid.fits) (ap (λ k. slot c v % k) (powers-alike i.bytes size) ∙ low ∙ sym (low-bytes i.bytes size z))))
      (image-tagged w number_of s c.state r i.bytes p (slot c a) (slot c b) f));
}
  where
    g : Ground
    g = ground_of w number_of s c.state

    old : List ℕ
    old = c.state.memory.bytes

    new : Object
    new = with_integer i.bytes f.at (word z) f.object

    home : ℕ
    home = address (ground_of w number_of s c.state) f.location.object

    first : ℕ
    first = word_at home (home + f.at)

    count : ℕ
    count = touched_count home (home + f.at) i.bytes

    U : List ℕ
    U = untagged_at old home f.object.size first count

    laid : IsLaid (ground_of w number_of s c.state) c.state.memory.bytes (address (ground_of w number_of s c.state) f.location.object) f.object
    laid = laid-found w number_of s c.state r i.bytes p (slot c a) (slot c b) f

    is : IsSoundObject w sites (outlines_of s.memory) (lives_of s.memory) f.object
    is = memory.each f.location.object f.object f.found f.live

    range : IsTouched f.object.size f.at i.bytes first count
    range = range-of home f.object.size f.at i.bytes (size-some i.bytes size) f.inside

    bytes_are : stored i.bytes (untagged old (slot c a) (slot c b) i.bytes) (slot c a) (slot c v) ≡ stored i.bytes U (home + f.at) (slot c v)
    bytes_are =
        ap (λ (k : ℕ). stored i.bytes (untagged old k (slot c b) i.bytes) k (slot c v)) f.here
        ∙ ap (λ (k : ℕ). stored i.bytes (untagged old (home + f.at) k i.bytes) (home + f.at) (slot c v)) f.base
        ∙ ap (λ (xs : List ℕ). stored i.bytes xs (home + f.at) (slot c v)) (untagged-here old home f.object.size f.at i.bytes laid.holds.size)

    outside : (j : ℕ) → (j < home) ⊎ (home + tagged_size f.object.size ≤ j) → slice_index (stored i.bytes U (home + f.at) (slot c v)) j ≡ slice_index old j
    outside j q =
        get-stored_other i.bytes U (home + f.at) (slot c v) j
        (⊎_elim (λ m. inl (omega (arith, m))) (λ m. inr (let t = room-of home f.object.size j m in let h = f.inside in omega (arith, t, h))) q)
        ∙ get-untagged_outside old home f.object.size first count j range.own q

    may : allows_untag old (slot c a) (slot c b) i.bytes ≡ true
    may =
        ap (λ (k : ℕ). allows_untag old k (slot c b) i.bytes) f.here
        ∙ ap (λ (k : ℕ). allows_untag old (home + f.at) k i.bytes) f.base
        ∙ untag-may old home f.object.size f.at i.bytes laid.above laid.holds.size (size-some i.bytes size) f.inside laid.fits

    there : (nat_eq i.bytes 0 || nat_le (slot c a + i.bytes) (length (untagged old (slot c a) (slot c b) i.bytes))) ≡ true
    there =
        let e = f.here in let l = length-untagged old (slot c a) (slot c b) i.bytes in let h = f.inside in let t = room-of home f.object.size (length old) laid.fits in
        in_list (slot c a) i.bytes (length (untagged old (slot c a) (slot c b) i.bytes)) (omega (arith, l, e, h, t))
