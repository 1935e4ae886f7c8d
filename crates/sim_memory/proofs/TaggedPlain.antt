-- A copy of bytes that are no pointer's between objects with tags, which may be one object: `untag` and then `move`.
use Rattle.std.proofs.Common.{◌≡◌, ◌≢◌, ◌∙◌, ◌⊎◌, ⊎_elim, inl, inr, ℕ, ◌+◌, ◌/◌, ◌%◌, ◌<◌, ◌≤◌, true, false, List, [], ◌∷◌, length, slice_get, slice_index, Some, None, ap, sym, subst, arith}
use Rattle.std.proofs.lemmas.Bool.Decides.{nat_tests}
use Rattle.cc_base.specs.declared.kind.Kind.TheVariants.{Wild}
use Rattle.cc_base.specs.declared.number.TypeId.{TypeId}
use Rattle.kind_sites.specs.declared.site.Site.{Site}
use Rattle.flat_mem.specs.Bytes.{number}
use Rattle.flat_mem.specs.Placement.{word_count, data_word}
use Rattle.flat_mem.proofs.ByteLaws.{number-same}
use Rattle.wild_tags.specs.Words.{word_at, touched_count, tag_at}
use Rattle.wild_tags.proofs.UntagLaws.{untagged_at}
use Rattle.wild_tags.proofs.ByteRows.{range-of, get-untagged_outside, get-untagged_plain}
use Rattle.src_mem.specs.Pointers.{Pointer}
use Rattle.src_mem.specs.Memory.{Object, touches, holds_none}
use Rattle.src_mem.specs.State as source
use Rattle.src_mem.specs.State.{Setting}
use Rattle.src_mem.specs.Facts.{IsSoundMemory}
use Rattle.src_mem.specs.Primitives.{copy, spot}
use Rattle.src_mem.proofs.Spots.{spot-right}
use Rattle.cured_code.specs.declared.instr.Instr.TheVariants as instr
use Rattle.cured_code.specs.FlatState as flat
use Rattle.cured_code.specs.FlatState.{slot}
use Rattle.cured_code.specs.FlatMachine.{Context, run}
use Rattle.sim_relation.specs.Ground.{Ground, address}
use Rattle.sim_relation.specs.Objects.{HoldsTagged, HoldsWord}
use Rattle.sim_relation.specs.Related.{Related, ground_of}
use Rattle.sim_memory.specs.Found.{GoOnAlike}
use Rattle.sim_memory.specs.Wild.{IsFoundTagged}
use Rattle.sim_memory.proofs.WildLoads.{IsLaid, laid-found, right-tagged, read-tagged, room-of, none-at, none-in-word, bytes-read}
use Rattle.sim_memory.proofs.PlainMoves.{IsPlainSource, plain-moved}

-- `untag` leaves each byte of its own area over which no pointer stands
untagged-plain : (g : Ground) (bytes : List ℕ) (b : ℕ) (o : Object) (first count n at : ℕ) → HoldsTagged g bytes b o → at + n ≤ o.size → holds_none n at o ≡ true
    → (j : ℕ) → j < n → slice_index (untagged_at bytes b o.size first count) (b + at + j) ≡ slice_index bytes (b + at + j)
untagged-plain g bytes b o first count n at h inside none j l =
    let own : (at + j) / 8 < word_count o.size = omega (arith, inside, l) in
    let less : (at + j) % 8 < 8 = omega arith in
    let e : b + at + j ≡ data_word b ((at + j) / 8) + (at + j) % 8 = omega arith in
    let plain : tag_at bytes b o.size ((at + j) / 8) ≡ false = (subst (HoldsWord g bytes b o ((at + j) / 8)) (none-in-word n at o none j l) (h.words ((at + j) / 8) own)).0 in
    ap (slice_index (untagged_at bytes b o.size first count)) e ∙ get-untagged_plain bytes b o.size first count ((at + j) / 8) ((at + j) % 8) own less plain
    ∙ ap (slice_index bytes) (sym e)

module _ (w : Setting) (sites : List Site) (number_of : TypeId → ℕ) (p q : Pointer) (s : source.State) (x : Context) (a b d e n : ℕ) (c : flat.Local) (some : 0 < n)
    (memory : IsSoundMemory w sites s.memory) (r : Related w number_of s c.state) (f : IsFoundTagged w number_of s c.state n p (slot c d) (slot c e))
    (none : holds_none n f.at f.object ≡ true) (h : IsFoundTagged w number_of s c.state n q (slot c a) (slot c b)) where
  abbrev old : List ℕ
  old = c.state.memory.bytes

  abbrev home : ℕ
  home = address (ground_of w number_of s c.state) h.location.object

  abbrev origin : ℕ
  origin = address (ground_of w number_of s c.state) f.location.object

  abbrev first : ℕ
  first = word_at (address (ground_of w number_of s c.state) h.location.object) (address (ground_of w number_of s c.state) h.location.object + h.at)

  abbrev count : ℕ
  count = touched_count (address (ground_of w number_of s c.state) h.location.object) (address (ground_of w number_of s c.state) h.location.object + h.at) n

  abbrev U : List ℕ
  U = untagged_at c.state.memory.bytes (address (ground_of w number_of s c.state) h.location.object) h.object.size first count

  source-laid : IsLaid (ground_of w number_of s c.state) c.state.memory.bytes (address (ground_of w number_of s c.state) f.location.object) f.object
  source-laid = laid-found w number_of s c.state r n p (slot c d) (slot c e) f

  target : IsLaid (ground_of w number_of s c.state) c.state.memory.bytes (address (ground_of w number_of s c.state) h.location.object) h.object
  target = laid-found w number_of s c.state r n q (slot c a) (slot c b) h

  none-there : (j : ℕ) → j < n → f.object.pointers (f.at + j) ≡ None
  none-there j l = none-at n f.at f.object (f.at + j) none (omega (arith, l)) (touched n f.at j l)
    where
      touched : (n at j : ℕ) → j < n → touches n at (at + j) ≡ true
      touched n at j l = grind (arith, nat_tests, l)

  abbrev plain-source : IsPlainSource w number_of s c.state Wild n p (slot c d)
  plain-source = record {
    place = record { number = f.location.object; object = f.object; at = f.at };
    found = ap (λ y. spot Wild s.memory.objects y n) f.is
        ∙ spot-right Wild s.memory.objects f.location n f.object f.at (right-tagged w number_of s c.state r n p (slot c d) (slot c e) f);
    bytes = (memory.each f.location.object f.object f.found f.live).bytes;
    none = none-there;
    inside = let i = f.inside in let m = f.here in let k = room-of origin f.object.size (length old) source-laid.fits in omega (arith, i, m, k);
    read = read-tagged w number_of s c.state n p (slot c d) (slot c e) r f;
  }

  -- the source lies in the target's object, or apart from it
  untouched-by : (j : ℕ) → j < n → slice_index U (origin + f.at + j) ≡ slice_index old (origin + f.at + j)
  untouched-by j l = ⊎_elim same (λ m. apart (⊎_elim (λ k. λ i. omega (arith, k, i)) (λ k. λ i. omega (arith, k, i)) m)) (case f.location.object h.location.object)
    where
      case : (k m : ℕ) → (k ≡ m) ⊎ ((k < m) ⊎ (m < k))
      case k m = grind arith

      same : f.location.object ≡ h.location.object → slice_index U (origin + f.at + j) ≡ slice_index old (origin + f.at + j)
      same i =
          let alike : f.object ≡ h.object = (let m : slice_get s.memory.objects h.location.object ≡ Some f.object = subst (λ (k : ℕ). slice_get s.memory.objects k ≡ Some f.object) i f.found in
          let k = h.found in cc (m, k)) in
          subst (λ (o : Object). slice_index (untagged_at old home o.size first count) (origin + f.at + j) ≡ slice_index old (origin + f.at + j)) alike
          (subst (λ (k : ℕ). slice_index (untagged_at old (address (ground_of w number_of s c.state) k) f.object.size first count) (origin + f.at + j) ≡ slice_index old (origin + f.at + j)) i
          (untagged-plain (ground_of w number_of s c.state) old origin f.object first count n f.at source-laid.holds f.inside none j l))

      apart : f.location.object ≢ h.location.object → slice_index U (origin + f.at + j) ≡ slice_index old (origin + f.at + j)
      apart i = get-untagged_outside old home h.object.size first count (origin + f.at + j) (range-of home h.object.size h.at n some h.inside).own
          (⊎_elim
          (λ m. inl (let u = source-laid.contents in let k = room-of origin f.object.size home (omega (arith, u, m)) in let y = f.inside in omega (arith, k, y, l)))
          (λ m. inr (let v = target.contents in omega (arith, v, m)))
          (r.areas.apart f.location.object h.location.object f.object h.object f.found f.live h.found h.live i))

  same-number : number n U (slot c d) ≡ number n f.object.bytes f.at
  same-number =
      ap (number n U) f.here
      ∙ number-same n U f.object.bytes (origin + f.at) f.at
      (λ j l. untouched-by j l ∙ bytes-read (ground_of w number_of s c.state) old origin f.object n f.at source-laid.holds f.inside none j l)

  pub tagged-plain-copied : GoOnAlike w number_of s c (copy n Wild p Wild q s) (run (instr.Untag a b n ∷ instr.Move a d n ∷ []) x c) tt c.slots
  tagged-plain-copied = plain-moved w sites number_of Wild n p q s x a b d c some memory r plain-source h same-number
