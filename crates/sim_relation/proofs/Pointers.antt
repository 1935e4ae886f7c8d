-- A store of a pointer, of any kind, where a pointer of its type begins in an object without tags.
use Rattle.std.proofs.Common.{◌≡◌, ◌≢◌, ℕ, zero, suc, ◌+◌, ◌-◌, ◌*◌, ◌<◌, ◌≤◌, ◌⊎◌, inl, inr, Bool, true, false, List, length, slice_get, slice_index, Option, Some, None, refl, ap, sym, subst, ◌∙◌, ⊎_elim, arith, nat_eq, if◌then◌else◌}
use Rattle.std.proofs.lemmas.Bool.Decides.{nat_tests}
use Rattle.cc_base.specs.declared.number.TypeId.{TypeId}
use Rattle.cc_base.specs.declared.number.NodeId.{NodeId}
use Rattle.cc_base.specs.declared.kind.Kind.{Kind}
use Rattle.cc_base.specs.declared.kind.Kind.TheVariants.{Safe, Seq, Rtti, Wild}
use Rattle.c_types.specs.Cells.{Cell, raw, pointer, AreOrdered}
use Rattle.c_types.specs.Widths.{kind_width, before}
use Rattle.c_types.proofs.OrderedPointers.{pointer_bytes}
use Rattle.type_laws.proofs.Widths.{before-next, before-behind, before-pointer, raw_no_pointer}
use Rattle.runs.specs.Outcome.{Done, allowed}
use Rattle.runs.specs.Control.{Goes}
use Rattle.flat_mem.specs.Bytes.{zeroed}
use Rattle.flat_mem.specs.Placement.{contents_size}
use Rattle.flat_mem.proofs.ByteLaws.{length-zeroed, get-zeroed_other}
use Rattle.src_mem.specs.Pointers.{Pointer, Null, Number, At, Function, Location}
use Rattle.src_mem.specs.Memory.{Object, untouched, with_pointer, with_entry, entry_of, pointer_or_null}
use Rattle.src_mem.specs.State as source
use Rattle.src_mem.specs.State.{Setting, given}
use Rattle.src_mem.specs.Primitives.{Spot, with_object, store_pointer}
use Rattle.src_mem.specs.Outlines.{outline}
use Rattle.src_mem.proofs.Outlines.{get-mapped}
use Rattle.src_mem.proofs.Spots.{IsRight, spot-right}
use Rattle.cured_code.specs.declared.instr.Instr.TheVariants as instr
use Rattle.cured_code.specs.FlatState as flat
use Rattle.cured_code.specs.FlatState.{PlacedArea, words_at, words_stored, slot, slots_at, accessed, Trap, goes}
use Rattle.cured_code.specs.FlatMachine.{Context, act}
use Rattle.cured_code.proofs.SlotLaws.{AreWords, length-words_stored, words_stored-bytes, get-words_stored_other, words-words_stored_apart, words-again}
use Rattle.sim_relation.specs.Ground.{Ground, ground, address, word_number, pointer_words, row}
use Rattle.sim_relation.specs.Objects.{HoldsTyped, area_of}
use Rattle.sim_relation.specs.Accesses.{IsImage}
use Rattle.sim_relation.specs.Related.{Related}
use Rattle.sim_relation.proofs.Kept.{typed-holds, untagged-holds, typed-contents, words-width}
use Rattle.sim_relation.proofs.Places.{image-typed, found-inside, in_list}
use Rattle.sim_relation.proofs.Changes.{related-change}
use Rattle.sim_relation.proofs.Integers.{not-touched}

pub row-length : (k : Kind) (a b c : ℕ) → length (row k a b c) ≡ word_number k
row-length Safe a b c = refl
row-length Rtti a b c = refl
row-length Seq a b c = refl
row-length Wild a b c = refl

-- Cells

-- a raw byte lies beside a pointer, and so does another pointer
raw-beside : (cells : List Cell) (k i : ℕ) (n : NodeId) (t : TypeId) → AreOrdered cells → slice_get cells k ≡ Some (pointer n t 0) → slice_get cells i ≡ Some raw → (i < k) ⊎ (k + 8 ≤ i)
raw-beside cells k i n t o e f = ⊎_elim (λ h. h)
    (λ h. raw_no_pointer cells i (i - k) n t f (subst (λ (j : ℕ). slice_get cells j ≡ Some (pointer n t (i - k))) (let a = h.0 in omega arith) (pointer_bytes cells k n t o e (i - k) (let b = h.1 in omega arith)))) (case i k)
  where
    case : (i k : ℕ) → ((i < k) ⊎ (k + 8 ≤ i)) ⊎ ((k ≤ i) × (i < k + 8))
    case i k = grind arith

later-pointer : (cells : List Cell) (k i : ℕ) (n m : NodeId) (t u : TypeId) → AreOrdered cells → slice_get cells k ≡ Some (pointer n t 0) → slice_get cells i ≡ Some (pointer m u 0) → k < i → k + 8 ≤ i
later-pointer cells k i n m t u o e f l = ⊎_elim (λ h. h) (λ h. clash (i - k) (omega arith)
    (subst (λ (j : ℕ). slice_get cells j ≡ Some (pointer n t (i - k))) (omega arith) (pointer_bytes cells k n t o e (i - k) (omega arith)))) (case i k)
  where
    case : (i k : ℕ) → (k + 8 ≤ i) ⊎ (i < k + 8)
    case i k = grind arith

    clash : (j : ℕ) → 0 < j → slice_get cells i ≡ Some (pointer n t j) → k + 8 ≤ i
    clash zero h g = absurd (omega arith)
    clash (suc j) h g = absurd (cc (f, g))

data Order (k i : ℕ) : Type 0 where
  here : i ≡ k → Order k i
  earlier : i < k → Order k i
  later : k < i → Order k i

order : (k i : ℕ) → Order k i
order k i = ⊎_elim earlier (λ h. ⊎_elim later here h) (case k i)
  where
    case : (k i : ℕ) → (i < k) ⊎ ((k < i) ⊎ (i ≡ k))
    case k i = grind arith

entry-same : (q : Pointer) → pointer_or_null (entry_of q) ≡ q
entry-same Null = refl
entry-same (Number n) = refl
entry-same (At l) = refl
entry-same (Function f) = refl

pub entry-at : (at : ℕ) (e : Option Pointer) (f : ℕ → Option Pointer) → with_entry at e f at ≡ e
entry-at at e f = let h : nat_eq at at ≡ true = grind (arith, nat_tests) in ap (λ (b : Bool). if b then e else f at) h

pub entry-other : (at i : ℕ) (e : Option Pointer) (f : ℕ → Option Pointer) → (i + 8 ≤ at) ⊎ (at + 8 ≤ i) → with_entry at e (untouched 8 at f) i ≡ f i
entry-other at i e f h =
    let g : nat_eq i at ≡ false = grind (arith, nat_tests) in
    ap (λ (b : Bool). if b then e else untouched 8 at f i) g ∙ ap (λ (b : Bool). if b then None else f i) (not-touched 8 at i h)

pub pointer-holds : (g : Ground) (bytes : List ℕ) (home : ℕ) (o : Object) (at a : ℕ) (n : NodeId) (t : TypeId) (q : Pointer) → HoldsTyped g bytes home o → slice_get o.cells at ≡ Some (pointer n t 0)
    → a ≡ home + before g.kind o.cells at → a + kind_width (g.kind n) ≤ length bytes → AreWords (pointer_words g (g.kind n) q)
    → HoldsTyped g (words_stored (pointer_words g (g.kind n) q) bytes a) home (with_pointer at q o)
pointer-holds g bytes home o at a n t q h begins start inside are = record {
  ordered = h.ordered;
  sized = length-zeroed 8 o.bytes at ∙ h.sized;
  integers = λ i e. byte i e (raw-beside o.cells at i n t h.ordered begins e);
  pointers = λ i m u e. of i m u e (order at i);
}
  where
    ws : List ℕ
    ws = pointer_words g (g.kind n) q

    wide : 8 * length (pointer_words g (g.kind n) q) ≡ kind_width (g.kind n)
    wide = ap (λ (k : ℕ). 8 * k) (row-length (g.kind n) _ _ _) ∙ words-width (g.kind n)

    byte : (i : ℕ) → slice_get o.cells i ≡ Some raw → (i < at) ⊎ (at + 8 ≤ i) → slice_index (words_stored (pointer_words g (g.kind n) q) bytes a) (home + before g.kind o.cells i) ≡ slice_index (zeroed 8 o.bytes at) i
    byte i e b =
        get-words_stored_other (pointer_words g (g.kind n) q) bytes a (home + before g.kind o.cells i)
        (⊎_elim (λ l. inl (let k = before-next g.kind o.cells i at e l in omega (arith, k, start))) (λ l. inr (let k = before-behind g.kind o.cells at i n t h.ordered begins l in let w = wide in omega (arith, k, start, w))) b)
        ∙ h.integers i e ∙ sym (get-zeroed_other 8 o.bytes at i b)

    apart : (i : ℕ) (m : NodeId) (u : TypeId) → slice_get o.cells i ≡ Some (pointer m u 0) → (i + 8 ≤ at) ⊎ (at + 8 ≤ i)
        → words_at (word_number (g.kind m)) (words_stored (pointer_words g (g.kind n) q) bytes a) (home + before g.kind o.cells i)
        ≡ pointer_words g (g.kind m) (pointer_or_null (with_entry at (entry_of q) (untouched 8 at o.pointers) i))
    apart i m u e b =
        words-words_stored_apart (word_number (g.kind m)) (pointer_words g (g.kind n) q) bytes a (home + before g.kind o.cells i)
        (let w = words-width (g.kind m) in let v = wide in
        ⊎_elim (λ l. inl (let k = before-behind g.kind o.cells i at m u h.ordered e l in omega (arith, k, start, w))) (λ l. inr (let k = before-behind g.kind o.cells at i n t h.ordered begins l in omega (arith, k, start, v))) b)
        ∙ h.pointers i m u e
        ∙ ap (λ (x : Option Pointer). pointer_words g (g.kind m) (pointer_or_null x)) (sym (entry-other at i (entry_of q) o.pointers b))

    of : (i : ℕ) (m : NodeId) (u : TypeId) → slice_get o.cells i ≡ Some (pointer m u 0) → Order at i
        → words_at (word_number (g.kind m)) (words_stored (pointer_words g (g.kind n) q) bytes a) (home + before g.kind o.cells i)
        ≡ pointer_words g (g.kind m) (pointer_or_null (with_entry at (entry_of q) (untouched 8 at o.pointers) i))
    of i m u e (earlier l) = apart i m u e (inl (later-pointer o.cells i at m n u t h.ordered e begins l))
    of i m u e (later l) = apart i m u e (inr (later-pointer o.cells at i n m t u h.ordered begins e l))
    of i m u e (here same) = subst
        (λ (j : ℕ). words_at (word_number (g.kind m)) (words_stored (pointer_words g (g.kind n) q) bytes a) (home + before g.kind o.cells j)
        ≡ pointer_words g (g.kind m) (pointer_or_null (with_entry at (entry_of q) (untouched 8 at o.pointers) j))) (sym same)
        (subst (λ (x : NodeId). words_at (word_number (g.kind x)) (words_stored (pointer_words g (g.kind n) q) bytes a) (home + before g.kind o.cells at)
        ≡ pointer_words g (g.kind x) (pointer_or_null (with_entry at (entry_of q) (untouched 8 at o.pointers) at))) node mine)
      where
        node : n ≡ m
        node = let f : slice_get o.cells at ≡ Some (pointer m u 0) = subst (λ (j : ℕ). slice_get o.cells j ≡ Some (pointer m u 0)) same e in cc (begins, f)

        mine : words_at (word_number (g.kind n)) (words_stored (pointer_words g (g.kind n) q) bytes a) (home + before g.kind o.cells at)
            ≡ pointer_words g (g.kind n) (pointer_or_null (with_entry at (entry_of q) (untouched 8 at o.pointers) at))
        mine =
            ap (λ (k : ℕ). words_at k (words_stored (pointer_words g (g.kind n) q) bytes a) (home + before g.kind o.cells at)) (sym (row-length (g.kind n) _ _ _))
            ∙ ap (words_at (length (pointer_words g (g.kind n) q)) (words_stored (pointer_words g (g.kind n) q) bytes a)) (sym start)
            ∙ words-again (pointer_words g (g.kind n) q) bytes a are (let w = wide in omega (arith, inside, w))
            ∙ ap (pointer_words g (g.kind n)) (sym (entry-same q))
            ∙ ap (λ (x : Option Pointer). pointer_words g (g.kind n) (pointer_or_null x)) (sym (entry-at at (entry_of q) (untouched 8 at o.pointers)))

-- Found: a pointer's cell of a live object without tags, and its address
pub record FoundPointer (w : Setting) (number_of : TypeId → ℕ) (objects : List Object) (areas : List PlacedArea) (kind : Kind) (l : Location) (n : NodeId) (a : ℕ) : Type 0 where
  pub object : Object
  pub at : ℕ
  pub to : TypeId
  pub right : IsRight kind objects l 8 object at
  pub untagged : w.kind object.node ≢ Wild
  pub begins : slice_get object.cells at ≡ Some (pointer n to 0)
  pub here : a ≡ address (ground w number_of objects areas) l.object + before w.kind object.cells at

pub record PointerStored (w : Setting) (number_of : TypeId → ℕ) (kind : Kind) (l : Location) (q : Pointer) (k : ℕ) (s : source.State) (x : Context) (a v : ℕ) (c : flat.Local) : Type 0 where
  pub next : source.State
  pub after : flat.Local
  pub source_gives : store_pointer kind (At l) q s ≡ Done tt next
  pub flat_gives : act (instr.Stw k a v) x c ≡ Done Goes after
  pub slots : after.slots ≡ c.slots
  pub related : Related w number_of next after.state

pub pointer_stored : (w : Setting) (number_of : TypeId → ℕ) (kind : Kind) (l : Location) (n : NodeId) (q : Pointer) (s : source.State) (x : Context) (a v : ℕ) (c : flat.Local)
    → Related w number_of s c.state → FoundPointer w number_of s.memory.objects c.state.areas kind l n (slot c a)
    → slots_at (word_number (w.kind n)) v c ≡ pointer_words (ground w number_of s.memory.objects c.state.areas) (w.kind n) q
    → AreWords (pointer_words (ground w number_of s.memory.objects c.state.areas) (w.kind n) q)
    → PointerStored w number_of kind l q (word_number (w.kind n)) s x a v c
pointer_stored w number_of kind l n q s x a v c r f words are = record {
  next = with_object l.object new (source.touched l.object f.at 8 s);
  after = accessed (slot c a) (8 * word_number (w.kind n)) (words_stored (slots_at (word_number (w.kind n)) v c) bytes (slot c a)) c;
  source_gives = ap (λ (z : Option Spot). given z (λ (p : Spot). λ (y : source.State). Done tt (with_object p.number (with_pointer p.at q p.object) (source.touched p.number p.at 8 y))) s)
      (spot-right kind s.memory.objects l 8 f.object f.at f.right);
  flat_gives = ap (λ (b : Bool). allowed b (Trap x.function) (goes (λ d. accessed (slot d a) (8 * word_number (w.kind n)) (words_stored (slots_at (word_number (w.kind n)) v d) d.state.memory.bytes (slot d a)) d)) c)
      (in_list (slot c a) (8 * word_number (w.kind n)) (length c.state.memory.bytes) (let e = inside in let k = words-width (w.kind n) in omega (arith, e, k)));
  slots = refl;
  related = subst (λ (ws : List ℕ). Related w number_of (with_object l.object new (source.touched l.object f.at 8 s)) (accessed (slot c a) (8 * word_number (w.kind n)) (words_stored ws bytes (slot c a)) c).state) (sym words)
      (related-change w number_of s c.state l.object f.object new (words_stored ws bytes (slot c a)) (record { object = l.object; offset = f.at; size = 8 }) (record { at = slot c a; size = 8 * word_number (w.kind n) })
      r f.right.found f.right.live refl
      (length-words_stored ws bytes (slot c a)) (words_stored-bytes ws bytes (slot c a) r.sound.bytes)
      (λ j z. get-words_stored_other ws bytes (slot c a) j (⊎_elim (λ m. inl (let e = f.here in omega (arith, e, m))) (λ m. inr (let e = f.here in let t = step in let u = most in let d = wide in omega (arith, e, m, t, u, d))) z))
      (untagged-holds (w.kind f.object.node) f.untagged g (words_stored ws bytes (slot c a)) (address g l.object) new
      (pointer-holds g bytes (address g l.object) f.object f.at (slot c a) n f.to q old f.begins f.here inside are))
      image);
}
  where
    g : Ground
    g = ground w number_of s.memory.objects c.state.areas

    bytes : List ℕ
    bytes = c.state.memory.bytes

    ws : List ℕ
    ws = pointer_words (ground w number_of s.memory.objects c.state.areas) (w.kind n) q

    new : Object
    new = with_pointer f.at q f.object

    old : HoldsTyped (ground w number_of s.memory.objects c.state.areas) c.state.memory.bytes (address (ground w number_of s.memory.objects c.state.areas) l.object) f.object
    old = typed-holds (w.kind f.object.node) f.untagged _ _ _ _ (r.holds.each l.object f.object f.right.found f.right.live)

    wide : 8 * length (pointer_words (ground w number_of s.memory.objects c.state.areas) (w.kind n) q) ≡ kind_width (w.kind n)
    wide = ap (λ (k : ℕ). 8 * k) (row-length (w.kind n) _ _ _) ∙ words-width (w.kind n)

    step : before w.kind f.object.cells (f.at + 8) ≡ before w.kind f.object.cells f.at + kind_width (w.kind n)
    step = before-pointer w.kind f.object.cells f.at n f.to old.ordered f.begins

    most : before w.kind f.object.cells (f.at + 8) ≤ contents_size (area_of w.kind (outline f.object))
    most = typed-contents w.kind (w.kind f.object.node) f.untagged (outline f.object) (f.at + 8)

    inside : slot c a + kind_width (w.kind n) ≤ length c.state.memory.bytes
    inside = let h = found-inside w number_of s c.state kind l 8 f.object f.at r f.right f.untagged (f.at + 8) in let b = step in let e = f.here in omega (arith, h, b, e)

    image : IsImage (ground w number_of s.memory.objects c.state.areas) (record { object = l.object; offset = f.at; size = 8 }) (record { at = slot c a; size = 8 * word_number (w.kind n) })
    image = record {
      object = outline f.object;
      found = get-mapped outline s.memory.objects l.object f.object f.right.found;
      is = image-typed (w.kind f.object.node) f.untagged g (outline f.object) (record { object = l.object; offset = f.at; size = 8 }) (record { at = slot c a; size = 8 * word_number (w.kind n) }) f.here end;
    }
      where
        end : slot c a + 8 * word_number (w.kind n) ≡ address (ground w number_of s.memory.objects c.state.areas) l.object + before w.kind f.object.cells (f.at + 8)
        end = let e = f.here in let b = step in let k = words-width (w.kind n) in omega (arith, e, b, k)
