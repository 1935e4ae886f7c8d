-- A copy of bytes that are no pointer's from an object without tags into one with tags: `untag` and then `move`.
use Rattle.std.proofs.Common.{◌≡◌, ◌≢◌, ◌∙◌, ◌⊎◌, ⊎_elim, inl, inr, ℕ, ◌+◌, ◌<◌, ◌≤◌, List, [], ◌∷◌, length, slice_get, Option, Some, None, refl, ap, subst, arith}
use Rattle.cc_base.specs.declared.kind.Kind.{Kind}
use Rattle.cc_base.specs.declared.kind.Kind.TheVariants.{Wild}
use Rattle.cc_base.specs.declared.number.TypeId.{TypeId}
use Rattle.kind_sites.specs.declared.site.Site.{Site}
use Rattle.c_types.specs.Cells.{raw}
use Rattle.c_types.specs.Equality.{cells_of}
use Rattle.flat_mem.specs.Bytes.{number}
use Rattle.flat_mem.specs.Placement.{tagged_size}
use Rattle.flat_mem.proofs.ByteLaws.{number-same}
use Rattle.wild_tags.specs.Words.{word_at, touched_count}
use Rattle.wild_tags.proofs.UntagLaws.{untagged_at}
use Rattle.wild_tags.proofs.ByteRows.{range-of, get-untagged_outside}
use Rattle.type_laws.proofs.Widths.{before-raw}
use Rattle.src_mem.specs.Pointers.{Pointer}
use Rattle.src_mem.specs.Memory.{Object}
use Rattle.src_mem.specs.State as source
use Rattle.src_mem.specs.State.{Setting}
use Rattle.src_mem.specs.Facts.{IsSoundMemory}
use Rattle.src_mem.specs.Primitives.{copy, spot}
use Rattle.src_mem.specs.Outlines.{outline}
use Rattle.src_mem.proofs.Spots.{spot-right}
use Rattle.cured_code.specs.declared.instr.Instr.TheVariants as instr
use Rattle.cured_code.specs.FlatState as flat
use Rattle.cured_code.specs.FlatState.{slot}
use Rattle.cured_code.specs.FlatMachine.{Context, run}
use Rattle.sim_relation.specs.Ground.{address}
use Rattle.sim_relation.specs.Related.{Related, ground_of}
use Rattle.sim_relation.proofs.Kept.{typed-contents}
use Rattle.sim_relation.proofs.Places.{FoundRaw, found-number, related-read}
use Rattle.sim_memory.specs.Found.{IsFound, GoOnAlike}
use Rattle.sim_memory.specs.Wild.{IsFoundTagged}
use Rattle.sim_memory.proofs.Loading.{right-found, agrees-raw}
use Rattle.sim_memory.proofs.WildLoads.{laid-found}
use Rattle.sim_memory.proofs.PlainMoves.{IsPlainSource, plain-moved}

module _ (w : Setting) (sites : List Site) (number_of : TypeId → ℕ) (kind : Kind) (t : TypeId) (p q : Pointer) (s : source.State) (x : Context) (a b d : ℕ) (c : flat.Local)
    (plain : kind ≢ Wild) (all_raw : (i : ℕ) → i < length (cells_of w.table t) → slice_get (cells_of w.table t) i ≡ Some raw) (some : 0 < length (cells_of w.table t))
    (memory : IsSoundMemory w sites s.memory) (r : Related w number_of s c.state) (f : IsFound w number_of s c.state t p (slot c d))
    (h : IsFoundTagged w number_of s c.state (length (cells_of w.table t)) q (slot c a) (slot c b)) where
  abbrev n : ℕ
  n = length (cells_of w.table t)

  abbrev old : List ℕ
  old = c.state.memory.bytes

  abbrev home : ℕ
  home = address (ground_of w number_of s c.state) h.location.object

  abbrev first : ℕ
  first = word_at (address (ground_of w number_of s c.state) h.location.object) (address (ground_of w number_of s c.state) h.location.object + h.at)

  abbrev count : ℕ
  count = touched_count (address (ground_of w number_of s c.state) h.location.object) (address (ground_of w number_of s c.state) h.location.object + h.at) (length (cells_of w.table t))

  abbrev U : List ℕ
  U = untagged_at c.state.memory.bytes (address (ground_of w number_of s c.state) h.location.object) h.object.size first count

  -- the bytes of the source
  cells-raw : (j : ℕ) → j < n → slice_get f.object.cells (f.at + j) ≡ Some raw
  cells-raw j l = let y = f.holds.agree j raw (all_raw j l) in y.1 ∙ ap Some (agrees-raw w y.0 y.2)

  abbrev source-raw : FoundRaw w number_of s.memory.objects c.state.areas kind f.location n (slot c d)
  source-raw = record {
    object = f.object;
    at = f.at;
    right = right-found w number_of s c.state kind t p (slot c d) n plain f (omega arith);
    untagged = f.untagged;
    are_raw = record { each = cells-raw };
    here = f.here;
  }

  none-there : (j : ℕ) → j < n → f.object.pointers (f.at + j) ≡ None
  none-there j l = of (f.object.pointers (f.at + j)) refl
    where
      of : (o : Option Pointer) → f.object.pointers (f.at + j) ≡ o → o ≡ None
      of None e = refl
      of (Some y) e = absurd (
          let k = ((memory.each f.location.object f.object f.found f.live).typed f.untagged (f.at + j) y e).begins in
          let m = cells-raw j l in cc (k, m))

  abbrev plain-source : IsPlainSource w number_of s c.state kind (length (cells_of w.table t)) p (slot c d)
  plain-source = record {
    place = record { number = f.location.object; object = f.object; at = f.at };
    found = ap (λ y. spot kind s.memory.objects y n) f.is ∙ spot-right kind s.memory.objects f.location n f.object f.at source-raw.right;
    bytes = (memory.each f.location.object f.object f.found f.live).bytes;
    none = none-there;
    inside =
        let e = f.here in
        let i = before-raw w.kind f.object.cells f.at n (record { each = cells-raw }) in
        let u = typed-contents w.kind (w.kind f.object.node) f.untagged (outline f.object) (f.at + n) in
        let m = (r.areas.lie f.location.object f.object f.found f.live).inside in omega (arith, e, i, u, m);
    read = related-read w number_of s c.state kind f.location n (slot c d) r source-raw;
  }

  -- it lies in another object, so `untag` leaves its bytes
  other : f.location.object ≢ h.location.object
  other e = f.untagged (
      let m = f.found in let k = h.found in
      let same : f.object ≡ h.object = (let i : slice_get s.memory.objects h.location.object ≡ Some f.object = subst (λ (j : ℕ). slice_get s.memory.objects j ≡ Some f.object) e m in cc (i, k)) in
      ap (λ (o : Object). w.kind o.node) same ∙ h.tagged)

  beside : (slot c d + n ≤ home) ⊎ (home + tagged_size h.object.size ≤ slot c d)
  beside =
      let e = f.here in
      let i = before-raw w.kind f.object.cells f.at n (record { each = cells-raw }) in
      let u = typed-contents w.kind (w.kind f.object.node) f.untagged (outline f.object) (f.at + n) in
      let v = (laid-found w number_of s c.state r n q (slot c a) (slot c b) h).contents in
      ⊎_elim (λ m. inl (omega (arith, e, i, u, m))) (λ m. inr (omega (arith, e, v, m)))
      (r.areas.apart f.location.object h.location.object f.object h.object f.found f.live h.found h.live other)

  same-number : number n U (slot c d) ≡ number n f.object.bytes f.at
  same-number =
      number-same n U old (slot c d) (slot c d) (λ j l. get-untagged_outside old home h.object.size first count (slot c d + j)
      (range-of home h.object.size h.at n some h.inside).own
      (⊎_elim (λ m. inl (omega (arith, m, l))) (λ m. inr (omega (arith, m, l))) beside))
      ∙ found-number w number_of s c.state kind f.location n (slot c d) r source-raw

  pub plain-copied : GoOnAlike w number_of s c (copy (length (cells_of w.table t)) kind p Wild q s)
      (run (instr.Untag a b (length (cells_of w.table t)) ∷ instr.Move a d (length (cells_of w.table t)) ∷ []) x c) tt c.slots
  plain-copied = plain-moved w sites number_of kind n p q s x a b d c some memory r plain-source h same-number
