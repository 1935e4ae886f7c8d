-- A store of an integer into raw bytes of an object without tags.
use Rattle.std.proofs.Common.{◌≡◌, ℕ, zero, suc, ◌+◌, ◌-◌, ◌*◌, ◌%◌, ◌^◌, ◌<◌, ◌≤◌, ◌⊎◌, inl, inr, ℤ, Bool, false, List, ◌∷◌, length, slice_get, slice_set, slice_index, Option, Some, None, refl, ap, sym, ◌∙◌, ⊎_elim, arith, if◌then◌else◌}
use Rattle.std.proofs.lemmas.Bool.Decides.{nat_tests}
use Rattle.std.proofs.lemmas.Option.{slice_get_within}
use Rattle.cc_base.specs.declared.number.TypeId.{TypeId}
use Rattle.cc_base.specs.declared.number.NodeId.{NodeId}
use Rattle.cc_base.specs.declared.kind.Kind.{Kind}
use Rattle.c_types.specs.Cells.{raw, pointer}
use Rattle.c_types.specs.Widths.{kind_width, before}
use Rattle.type_laws.proofs.Widths.{AreRaw, before-raw, raw-apart, pointer-besides, pointer-apart}
use Rattle.integers.specs.Words.{word}
use Rattle.integers.specs.Arithmetic.{IntegerType}
use Rattle.runs.specs.Outcome.{Done, allowed}
use Rattle.runs.specs.Control.{Goes}
use Rattle.flat_mem.specs.Bytes.{number, stored}
use Rattle.flat_mem.specs.Placement.{contents_size}
use Rattle.flat_mem.specs.Memory.{with_bytes}
use Rattle.flat_mem.proofs.ByteLaws.{length-stored, get-stored_other, stored-bytes, number-stored_apart}
use Rattle.flat_mem.proofs.StoreLaws.{stored-both, stored-low}
use Rattle.src_mem.specs.Pointers.{Location, At}
use Rattle.src_mem.specs.Memory.{Object, touches, untouched, with_integer, pointer_or_null}
use Rattle.src_mem.specs.State as source
use Rattle.src_mem.specs.State.{Setting, given}
use Rattle.src_mem.specs.Primitives.{Spot, with_object, store_integer}
use Rattle.src_mem.specs.Outlines.{outline}
use Rattle.src_mem.proofs.Spots.{spot-right}
use Rattle.cured_code.specs.declared.instr.Instr.TheVariants as instr
use Rattle.cured_code.specs.FlatState as flat
use Rattle.cured_code.specs.FlatState.{words_at, slot, stored_at, Trap, goes}
use Rattle.cured_code.specs.FlatMachine.{Context, act}
use Rattle.sim_relation.specs.Ground.{Ground, ground, address, word_number, pointer_words}
use Rattle.sim_relation.specs.Objects.{HoldsTyped, area_of}
use Rattle.sim_relation.specs.Related.{Related}
use Rattle.sim_relation.proofs.Kept.{typed-holds, untagged-holds, typed-contents, words-width}
use Rattle.sim_relation.proofs.Places.{FoundRaw, found-image, found-in_list, found-inside}
use Rattle.sim_relation.proofs.Changes.{related-change}

-- words apart from what is stored
pub words-stored_apart : (k n : ℕ) (bytes : List ℕ) (a p v : ℕ) → (p + 8 * k ≤ a) ⊎ (a + n ≤ p) → words_at k (stored n bytes a v) p ≡ words_at k bytes p
words-stored_apart zero n bytes a p v h = refl
words-stored_apart (suc k) n bytes a p v h =
    ap (λ (x : ℕ). x ∷ words_at k (stored n bytes a v) (p + 8)) (number-stored_apart 8 n bytes a p v (grind arith))
    ∙ ap (λ (ws : List ℕ). number 8 bytes p ∷ ws) (words-stored_apart k n bytes a (p + 8) v (grind arith))

pub data Side (at n i : ℕ) : Type 0 where
  beside : (i < at) ⊎ (at + n ≤ i) → Side at n i
  within : (j : ℕ) → j < n → i ≡ at + j → Side at n i

pub side : (at n i : ℕ) → Side at n i
side at n i = ⊎_elim (λ h. beside (inl h)) (λ h. ⊎_elim (λ k. beside (inr k)) (λ k. within (i - at) (omega arith) (omega arith)) (two (at + n) i)) (one i at)
  where
    one : (a b : ℕ) → (a < b) ⊎ (b ≤ a)
    one a b = grind arith

    two : (a b : ℕ) → (a ≤ b) ⊎ (b < a)
    two a b = grind arith

pub not-touched : (n at i : ℕ) → (i + 8 ≤ at) ⊎ (at + n ≤ i) → touches n at i ≡ false
not-touched n at i h = grind (arith, nat_tests)

pub integer-holds : (g : Ground) (bytes : List ℕ) (home : ℕ) (o : Object) (n at a v u : ℕ) → HoldsTyped g bytes home o → AreRaw o.cells at n → 0 < n → at + n ≤ length o.bytes
    → a ≡ home + before g.kind o.cells at → a + n ≤ length bytes → v % 256 ^ n ≡ u % 256 ^ n → HoldsTyped g (stored n bytes a v) home (with_integer n at u o)
integer-holds g bytes home o n at a v u h are some room here inside low = record {
  ordered = h.ordered;
  sized = length-stored n o.bytes at u ∙ h.sized;
  integers = λ i e. byte i e (side at n i);
  pointers = λ i m t e. of i m t e (pointer-besides o.cells at n i m t h.ordered are some e) (pointer-apart g.kind o.cells at n i m t h.ordered are some e);
}
  where
    byte : (i : ℕ) → slice_get o.cells i ≡ Some raw → Side at n i → slice_index (stored n bytes a v) (home + before g.kind o.cells i) ≡ slice_index (stored n o.bytes at u) i
    byte i e (beside b) =
        get-stored_other n bytes a v (home + before g.kind o.cells i) (⊎_elim (λ l. inl (omega (arith, l, here))) (λ l. inr (omega (arith, l, here))) (raw-apart g.kind o.cells at n i are e b))
        ∙ h.integers i e ∙ sym (get-stored_other n o.bytes at u i b)
    byte i e (within j l same) =
        let r : before g.kind o.cells (at + j) ≡ before g.kind o.cells at + j = before-raw g.kind o.cells at j (record { each = λ k m. are.each k (omega arith) }) in
        let p : before g.kind o.cells i ≡ before g.kind o.cells (at + j) = ap (before g.kind o.cells) same in
        let q : home + before g.kind o.cells i ≡ a + j = omega (arith, r, p, here) in
        ap (slice_index (stored n bytes a v)) q ∙ ap (λ xs. slice_index xs (a + j)) (stored-low n bytes a v u low)
        ∙ stored-both n bytes o.bytes a at u inside room j l ∙ ap (slice_index (stored n o.bytes at u)) (sym same)

    of : (i : ℕ) (m : NodeId) (t : TypeId) → slice_get o.cells i ≡ Some (pointer m t 0) → (i + 8 ≤ at) ⊎ (at + n ≤ i)
        → (before g.kind o.cells i + kind_width (g.kind m) ≤ before g.kind o.cells at) ⊎ (before g.kind o.cells at + n ≤ before g.kind o.cells i)
        → words_at (word_number (g.kind m)) (stored n bytes a v) (home + before g.kind o.cells i) ≡ pointer_words g (g.kind m) (pointer_or_null (untouched n at o.pointers i))
    of i m t e b q =
        words-stored_apart (word_number (g.kind m)) n bytes a (home + before g.kind o.cells i) v
        (let w = words-width (g.kind m) in ⊎_elim (λ l. inl (omega (arith, l, here, w))) (λ l. inr (omega (arith, l, here))) q)
        ∙ h.pointers i m t e
        ∙ ap (λ (c : Bool). pointer_words g (g.kind m) (pointer_or_null (if c then None else o.pointers i))) (sym (not-touched n at i b))

-- both sides: C's store and F's `st`, at raw bytes that were found
pub record IntegerStored (w : Setting) (number_of : TypeId → ℕ) (kind : Kind) (i : IntegerType) (l : Location) (z : ℤ) (s : source.State) (x : Context) (a v : ℕ) (c : flat.Local) : Type 0 where
  pub next : source.State
  pub after : flat.Local
  pub source_gives : store_integer kind i (At l) z s ≡ Done tt next
  pub flat_gives : act (instr.St i.bytes a v) x c ≡ Done Goes after
  pub slots : after.slots ≡ c.slots
  pub areas : after.state.areas ≡ c.state.areas
  pub frames : after.state.memory.frames ≡ c.state.memory.frames
  pub old : Object
  pub new : Object
  pub found : slice_get s.memory.objects l.object ≡ Some old
  pub objects : next.memory.objects ≡ slice_set s.memory.objects l.object new
  pub outlined : outline new ≡ outline old
  pub alive : new.live ≡ old.live
  pub input : next.input ≡ s.input
  pub memory : after.state.memory ≡ with_bytes c.state.memory after.state.memory.bytes
  pub before : (j : ℕ) → j < address (ground w number_of s.memory.objects c.state.areas) l.object → slice_index after.state.memory.bytes j ≡ slice_index c.state.memory.bytes j
  pub related : Related w number_of next after.state

pub integer_stored : (w : Setting) (number_of : TypeId → ℕ) (kind : Kind) (i : IntegerType) (l : Location) (z : ℤ) (s : source.State) (x : Context) (a v : ℕ) (c : flat.Local)
    → Related w number_of s c.state → 0 < i.bytes → FoundRaw w number_of s.memory.objects c.state.areas kind l i.bytes (slot c a) → slot c v % 256 ^ i.bytes ≡ word z % 256 ^ i.bytes
    → IntegerStored w number_of kind i l z s x a v c
integer_stored w number_of kind i l z s x a v c r some f low = record {
  next = with_object l.object new (source.touched l.object f.at i.bytes s);
  after = stored_at i.bytes (slot c a) (slot c v) c;
  source_gives = ap (λ (q : Option Spot). given q (λ (p : Spot). λ (y : source.State). Done tt (with_object p.number (with_integer i.bytes p.at (word z) p.object) (source.touched p.number p.at i.bytes y))) s)
      (spot-right kind s.memory.objects l i.bytes f.object f.at f.right);
  flat_gives = ap (λ (b : Bool). allowed b (Trap x.function) (goes (stored_at i.bytes (slot c a) (slot c v))) c) (found-in_list w number_of s c.state kind l i.bytes (slot c a) r f);
  slots = refl;
  areas = refl;
  frames = refl;
  old = f.object;
  new = new;
  found = f.right.found;
  objects = refl;
  outlined = refl;
  alive = refl;
  input = refl;
  memory = refl;
  before = λ j h. get-stored_other i.bytes bytes (slot c a) (slot c v) j (inl (let e = f.here in omega (arith, e, h)));
  related = related-change w number_of s c.state l.object f.object new (stored i.bytes bytes (slot c a) (slot c v)) _ _ r f.right.found f.right.live refl
      (length-stored i.bytes bytes (slot c a) (slot c v)) (stored-bytes i.bytes bytes (slot c a) (slot c v) r.sound.bytes)
      (λ j q. get-stored_other i.bytes bytes (slot c a) (slot c v) j (⊎_elim (λ m. inl (let e = f.here in omega (arith, e, m))) (λ m. inr (let e = f.here in let t = run in let u = most in omega (arith, e, m, t, u))) q))
      (untagged-holds (w.kind f.object.node) f.untagged g (stored i.bytes bytes (slot c a) (slot c v)) (address g l.object) new
      (integer-holds g bytes (address g l.object) f.object i.bytes f.at (slot c a) (slot c v) (word z) old f.are_raw some room f.here inside low))
      (found-image w number_of s.memory.objects c.state.areas kind l i.bytes (slot c a) f);
}
  where
    g : Ground
    g = ground w number_of s.memory.objects c.state.areas

    bytes : List ℕ
    bytes = c.state.memory.bytes

    new : Object
    new = with_integer i.bytes f.at (word z) f.object

    old : HoldsTyped (ground w number_of s.memory.objects c.state.areas) c.state.memory.bytes (address (ground w number_of s.memory.objects c.state.areas) l.object) f.object
    old = typed-holds (w.kind f.object.node) f.untagged _ _ _ _ (r.holds.each l.object f.object f.right.found f.right.live)

    run : before w.kind f.object.cells (f.at + i.bytes) ≡ before w.kind f.object.cells f.at + i.bytes
    run = before-raw w.kind f.object.cells f.at i.bytes f.are_raw

    most : before w.kind f.object.cells (f.at + i.bytes) ≤ contents_size (area_of w.kind (outline f.object))
    most = typed-contents w.kind (w.kind f.object.node) f.untagged (outline f.object) (f.at + i.bytes)

    room : f.at + i.bytes ≤ length f.object.bytes
    room =
        let h = slice_get_within f.object.cells (f.at + (i.bytes - 1)) raw (f.are_raw.each (i.bytes - 1) (omega arith)) in
        let e = old.sized in omega (arith, h, e)

    inside : slot c a + i.bytes ≤ length c.state.memory.bytes
    inside = let h = found-inside w number_of s c.state kind l i.bytes f.object f.at r f.right f.untagged (f.at + i.bytes) in let b = run in let e = f.here in omega (arith, h, b, e)
