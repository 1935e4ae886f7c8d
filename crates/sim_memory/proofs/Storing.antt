-- Stores where something was found: both memories change alike.
use Rattle.std.proofs.Common.{◌≡◌, ◌≢◌, ◌∙◌, ◌⊎◌, ⊎_elim, inl, inr, ℕ, ◌+◌, ◌*◌, ◌<◌, ◌≤◌, ◌%◌, ◌^◌, ℤ, pos, negsuc, Bool, true, List, length, slice_index, Option, refl, ap, sym, subst, arith}
use Rattle.cc_base.specs.declared.kind.Kind.{Kind}
use Rattle.cc_base.specs.declared.kind.Kind.TheVariants.{Safe, Seq, Rtti, Wild}
use Rattle.cc_base.specs.declared.number.TypeId.{TypeId}
use Rattle.cc_base.specs.declared.number.NodeId.{NodeId}
use Rattle.c_types.specs.declared.shape.TypeShape.TheVariants as shape
use Rattle.c_types.specs.Table.{shape_at}
use Rattle.c_types.specs.Equality.{cells_of}
use Rattle.c_types.specs.Sound.{IsWellFormed}
use Rattle.c_types.specs.Widths.{before, kind_width}
use Rattle.type_laws.proofs.Widths.{before-pointer}
use Rattle.integers.specs.Words.{word, residue}
use Rattle.integers.specs.Arithmetic.{IntegerType, bits_of}
use Rattle.runs.specs.Outcome.{Done, allowed}
use Rattle.runs.specs.Control.{Goes}
use Rattle.flat_mem.specs.Bytes.{IsAccessSize, bytes_at}
use Rattle.flat_mem.specs.Placement.{contents_size}
use Rattle.src_mem.specs.Pointers.{Location, Pointer, At}
use Rattle.src_mem.specs.Memory.{Object, with_pointer}
use Rattle.src_mem.specs.State as source
use Rattle.src_mem.specs.State.{Setting, given}
use Rattle.src_mem.specs.Primitives.{Spot, with_object, store_integer, store_pointer}
use Rattle.src_mem.specs.Outlines.{outline, outlines_of}
use Rattle.src_mem.proofs.Outlines.{get-mapped}
use Rattle.src_mem.proofs.Right.{pointer_cells_are}
use Rattle.src_mem.proofs.Spots.{IsRight, spot-right}
use Rattle.facts_kept.proofs.Places.{Stands}
use Rattle.cured_code.specs.declared.instr.Instr.TheVariants as instr
use Rattle.cured_code.specs.FlatState as flat
use Rattle.cured_code.specs.FlatState.{slot, slots_at, stored_at, words_stored, accessed, Trap, goes}
use Rattle.cured_code.specs.FlatMachine.{Context, act}
use Rattle.cured_code.proofs.SlotLaws.{length-words_stored, words_stored-bytes, get-words_stored_other}
use Rattle.sim_relation.specs.Ground.{Ground, address, word_number, pointer_words}
use Rattle.sim_relation.specs.Accesses.{IsImage}
use Rattle.sim_relation.specs.Objects.{HoldsTyped, area_of}
use Rattle.sim_relation.specs.Points.{AreWords}
use Rattle.sim_relation.specs.Related.{Related, ground_of}
use Rattle.sim_relation.proofs.Changes.{related-change}
use Rattle.sim_relation.proofs.Integers.{IntegerStored, integer_stored}
use Rattle.sim_relation.proofs.Kept.{typed-holds, untagged-holds, typed-contents, words-width}
use Rattle.sim_relation.proofs.Places.{found-inside, image-typed, in_list}
use Rattle.sim_relation.proofs.Pointers.{row-length, pointer-holds}
use Rattle.sim_memory.specs.Found.{IsFound, GoOnAlike, storing}
use Rattle.sim_memory.proofs.Staying.{stays-change}
use Rattle.sim_memory.proofs.Loading.{raw-found, right-found, stands-found, powers-alike}
use Rattle.sim_memory.proofs.Words.{words-each}

-- Integers

-- the low bytes of a word are those of its integer
pub low-bytes : (n : ℕ) → IsAccessSize n → (z : ℤ) → word z % 256 ^ n ≡ residue z (2 ^ (8 * n))
low-bytes n (inl e) z = subst (λ k. word z % 256 ^ k ≡ residue z (2 ^ (8 * k))) (sym e) (one z)
  where
    one : (z : ℤ) → word z % 256 ^ 1 ≡ residue z (2 ^ 8)
    one (pos k) = omega arith
    one (negsuc k) = omega arith
low-bytes n (inr (inl e)) z = subst (λ k. word z % 256 ^ k ≡ residue z (2 ^ (8 * k))) (sym e) (two z)
  where
    two : (z : ℤ) → word z % 256 ^ 2 ≡ residue z (2 ^ 16)
    two (pos k) = omega arith
    two (negsuc k) = omega arith
low-bytes n (inr (inr (inl e))) z = subst (λ k. word z % 256 ^ k ≡ residue z (2 ^ (8 * k))) (sym e) (four z)
  where
    four : (z : ℤ) → word z % 256 ^ 4 ≡ residue z (2 ^ 32)
    four (pos k) = omega arith
    four (negsuc k) = omega arith
low-bytes n (inr (inr (inr e))) z = subst (λ k. word z % 256 ^ k ≡ residue z (2 ^ (8 * k))) (sym e) (eight z)
  where
    eight : (z : ℤ) → word z % 256 ^ 8 ≡ residue z (2 ^ 64)
    eight (pos k) = omega arith
    eight (negsuc k) = omega arith

pub size-some : (n : ℕ) → IsAccessSize n → 0 < n
size-some n (inl e) = omega (arith, e)
size-some n (inr (inl e)) = omega (arith, e)
size-some n (inr (inr (inl e))) = omega (arith, e)
size-some n (inr (inr (inr e))) = omega (arith, e)

pub integers-stored : (w : Setting) (number_of : TypeId → ℕ) (kind : Kind) (t : TypeId) (i : IntegerType) (p : Pointer) (z : ℤ) (s : source.State) (x : Context)
    (a v : ℕ) (c : flat.Local) → kind ≢ Wild → shape_at w.table t ≡ shape.Integer i.bytes i.signed → IsAccessSize i.bytes → Related w number_of s c.state
    → IsFound w number_of s c.state t p (slot c a) → slot c v % 2 ^ bits_of i ≡ residue z (2 ^ bits_of i)
    → GoOnAlike w number_of s c (store_integer kind i p z s) (act (instr.St i.bytes a v) x c) tt c.slots
integers-stored w number_of kind t i p z s x a v c plain e size r f low =
    subst (λ q. GoOnAlike w number_of s c (store_integer kind i q z s) (act (instr.St i.bytes a v) x c) tt c.slots) (sym f.is)
    (of (integer_stored w number_of kind i f.location z s x a v c r (size-some i.bytes size) (raw-found w number_of s c.state kind t i p (slot c a) plain e f)
    (ap (λ k. slot c v % k) (powers-alike i.bytes size) ∙ low ∙ sym (low-bytes i.bytes size z))))
  where
    of : IntegerStored w number_of kind i f.location z s x a v c
        → GoOnAlike w number_of s c (store_integer kind i (At f.location) z s) (act (instr.St i.bytes a v) x c) tt c.slots
    of y = record {
      next = y.next;
      after = y.after;
      source_goes = y.source_gives;
      flat_goes = y.flat_gives;
      slots_are = y.slots;
      stays = stays-change w number_of s y.next c.state y.after.state f.location.object y.old y.new y.found (live-of y) y.outlined y.alive y.objects y.input y.areas y.memory y.before;
      related = y.related;
    }
      where
        live-of : (y : IntegerStored w number_of kind i f.location z s x a v c) → y.old.live ≡ true
        live-of y = let a = y.found in let b = f.found in let same : y.old ≡ f.object = cc (a, b) in ap (λ (o : Object). o.live) same ∙ f.live

-- Pointers

-- the line that stores words
stores : (k : Kind) (x : Context) (a v : ℕ) (c : flat.Local) → slot c a + 8 * word_number k ≤ length c.state.memory.bytes
    → act (storing k a v) x c ≡ Done Goes (accessed (slot c a) (8 * word_number k) (words_stored (slots_at (word_number k) v c) c.state.memory.bytes (slot c a)) c)
unfolding bytes_at
stores Safe x a v c h = ap (λ (b : Bool). allowed b (Trap x.function) (goes (stored_at 8 (slot c a) (slot c v))) c) (in_list (slot c a) 8 (length c.state.memory.bytes) h)
stores Rtti x a v c h = ap (λ (b : Bool). allowed b (Trap x.function) (goes (λ d. accessed (slot d a) 16 (words_stored (slots_at 2 v d) d.state.memory.bytes (slot d a)) d)) c)
    (in_list (slot c a) 16 (length c.state.memory.bytes) h)
stores Seq x a v c h = ap (λ (b : Bool). allowed b (Trap x.function) (goes (λ d. accessed (slot d a) 24 (words_stored (slots_at 3 v d) d.state.memory.bytes (slot d a)) d)) c)
    (in_list (slot c a) 24 (length c.state.memory.bytes) h)
stores Wild x a v c h = ap (λ (b : Bool). allowed b (Trap x.function) (goes (λ d. accessed (slot d a) 16 (words_stored (slots_at 2 v d) d.state.memory.bytes (slot d a)) d)) c)
    (in_list (slot c a) 16 (length c.state.memory.bytes) h)

pub store-right : (kind : Kind) (l : Location) (q : Pointer) (s : source.State) (o : Object) (at : ℕ) → IsRight kind s.memory.objects l 8 o at
    → store_pointer kind (At l) q s ≡ Done tt (with_object l.object (with_pointer at q o) (source.touched l.object at 8 s))
store-right kind l q s o at r =
    ap (λ (z : Option Spot). given z (λ (p : Spot). λ (y : source.State). Done tt (with_object p.number (with_pointer p.at q p.object)
    (source.touched p.number p.at 8 y))) s) (spot-right kind s.memory.objects l 8 o at r)

pub pointers-stored : (w : Setting) (number_of : TypeId → ℕ) (kind : Kind) (t : TypeId) (n : NodeId) (u : TypeId) (p q : Pointer) (s : source.State) (x : Context)
    (a v : ℕ) (c : flat.Local) → IsWellFormed w.table → kind ≢ Wild → shape_at w.table t ≡ shape.Pointer n u → Related w number_of s c.state
    → IsFound w number_of s c.state t p (slot c a)
    → slots_at (word_number (w.kind n)) v c ≡ pointer_words (ground_of w number_of s c.state) (w.kind n) q
    → AreWords (pointer_words (ground_of w number_of s c.state) (w.kind n) q)
    → GoOnAlike w number_of s c (store_pointer kind p q s) (act (storing (w.kind n) a v) x c) tt c.slots
pointers-stored w number_of kind t n u p q s x a v c sound plain e r f words are =
    subst (λ y. GoOnAlike w number_of s c (store_pointer kind y q s) (act (storing (w.kind n) a v) x c) tt c.slots) (sym f.is)
    (to (stands-found w number_of sound s c.state t n u p (slot c a) e f))
  where
    g : Ground
    g = ground_of w number_of s c.state

    bytes : List ℕ
    bytes = c.state.memory.bytes

    right : IsRight kind s.memory.objects f.location 8 f.object f.at
    right = right-found w number_of s c.state kind t p (slot c a) 8 plain f
        (let k : length (cells_of w.table t) ≡ 8 = ap length (pointer_cells_are w.table t n u e) in omega (arith, k))

    holds : HoldsTyped (ground_of w number_of s c.state) c.state.memory.bytes (address (ground_of w number_of s c.state) f.location.object) f.object
    holds = typed-holds (w.kind f.object.node) f.untagged _ _ _ _ (r.holds.each f.location.object f.object f.found f.live)

    new : Object
    new = with_pointer f.at q f.object

    to : Stands w sound (outlines_of s.memory) (w.kind n) u f.object.cells f.at
        → GoOnAlike w number_of s c (store_pointer kind (At f.location) q s) (act (storing (w.kind n) a v) x c) tt c.slots
    to y = record {
      next = with_object f.location.object new (source.touched f.location.object f.at 8 s);
      after = accessed (slot c a) (8 * word_number (w.kind n)) (words_stored (slots_at (word_number (w.kind n)) v c) bytes (slot c a)) c;
      source_goes = store-right kind f.location q s f.object f.at right;
      flat_goes = stores (w.kind n) x a v c (let h = inside in let k = width in omega (arith, h, k));
      slots_are = refl;
      stays = stays-change w number_of s (with_object f.location.object new (source.touched f.location.object f.at 8 s)) c.state
          (accessed (slot c a) (8 * word_number (w.kind n)) (words_stored (slots_at (word_number (w.kind n)) v c) bytes (slot c a)) c).state
          f.location.object f.object new f.found f.live refl refl refl refl refl refl
          (λ j l. ap (λ (ws : List ℕ). slice_index (words_stored ws bytes (slot c a)) j) words ∙ get-words_stored_other ws bytes (slot c a) j (outside j (inl l)));
      related = subst (λ (ws : List ℕ). Related w number_of (with_object f.location.object new (source.touched f.location.object f.at 8 s))
          (accessed (slot c a) (8 * word_number (w.kind n)) (words_stored ws bytes (slot c a)) c).state) (sym words)
          (related-change w number_of s c.state f.location.object f.object new (words_stored ws bytes (slot c a))
          (record { object = f.location.object; offset = f.at; size = 8 }) (record { at = slot c a; size = 8 * word_number (w.kind n) })
          r f.found f.live refl (length-words_stored ws bytes (slot c a)) (words_stored-bytes ws bytes (slot c a) r.sound.bytes)
          (λ j z. get-words_stored_other ws bytes (slot c a) j (outside j z))
          (untagged-holds (w.kind f.object.node) f.untagged g (words_stored ws bytes (slot c a)) (address g f.location.object) new held) image);
    }
      where
        ws : List ℕ
        ws = pointer_words (ground_of w number_of s c.state) (w.kind n) q

        width : kind_width (w.kind y.node) ≡ 8 * word_number (w.kind n)
        width = ap kind_width y.kind ∙ sym (words-width (w.kind n))

        wide : length (pointer_words (ground_of w number_of s c.state) (w.kind n) q) ≡ word_number (w.kind n)
        wide = row-length (w.kind n) _ _ _

        step : before w.kind f.object.cells (f.at + 8) ≡ before w.kind f.object.cells f.at + kind_width (w.kind y.node)
        step = before-pointer w.kind f.object.cells f.at y.node y.to holds.ordered y.found

        most : before w.kind f.object.cells (f.at + 8) ≤ contents_size (area_of w.kind (outline f.object))
        most = typed-contents w.kind (w.kind f.object.node) f.untagged (outline f.object) (f.at + 8)

        inside : slot c a + kind_width (w.kind y.node) ≤ length c.state.memory.bytes
        inside =
            let h = found-inside w number_of s c.state kind f.location 8 f.object f.at r right f.untagged (f.at + 8) in
            let b = step in let m = f.here in omega (arith, h, b, m)

        outside : (j : ℕ) → (j < address g f.location.object) ⊎ (address g f.location.object + contents_size (area_of w.kind (outline f.object)) ≤ j)
            → (j < slot c a) ⊎ (slot c a + 8 * length (pointer_words (ground_of w number_of s c.state) (w.kind n) q) ≤ j)
        outside j z = ⊎_elim (λ m. inl (let h = f.here in omega (arith, h, m)))
            (λ m. inr (let h = f.here in let b = step in let u = most in let d = wide in let k = width in omega (arith, h, m, b, u, d, k))) z

        held : HoldsTyped g (words_stored (pointer_words (ground_of w number_of s c.state) (w.kind n) q) bytes (slot c a)) (address g f.location.object)
            (with_pointer f.at q f.object)
        held = subst (λ (j : Kind). HoldsTyped g (words_stored (pointer_words g j q) bytes (slot c a)) (address g f.location.object) (with_pointer f.at q f.object)) y.kind
            (pointer-holds g bytes (address g f.location.object) f.object f.at (slot c a) y.node y.to q holds y.found f.here inside
            (words-each (pointer_words g (w.kind y.node) q) (subst (λ (j : Kind). AreWords (pointer_words g j q)) (sym y.kind) are)))

        image : IsImage g (record { object = f.location.object; offset = f.at; size = 8 }) (record { at = slot c a; size = 8 * word_number (w.kind n) })
        image = record {
          object = outline f.object;
          found = get-mapped outline s.memory.objects f.location.object f.object f.found;
          is = image-typed (w.kind f.object.node) f.untagged g (outline f.object) (record { object = f.location.object; offset = f.at; size = 8 })
              (record { at = slot c a; size = 8 * word_number (w.kind n) }) f.here (let b = step in let k = width in let m = f.here in omega (arith, b, k, m));
        }
