-- Loads of what was found: both machines read the same, and the states stay related.
use Rattle.std.proofs.Common.{◌≡◌, ◌≢◌, ◌∙◌, inl, inr, ℕ, zero, suc, ◌+◌, ◌*◌, ◌<◌, ◌≤◌, ◌^◌, pos, Bool, true, List, [], length, replicate, slice_get, slice_set, Option, Some, refl, ap, sym, subst, arith}
use Rattle.cc_base.specs.declared.kind.Kind.{Kind}
use Rattle.cc_base.specs.declared.kind.Kind.TheVariants.{Safe, Seq, Rtti, Wild}
use Rattle.cc_base.specs.declared.number.TypeId.{TypeId}
use Rattle.cc_base.specs.declared.number.NodeId.{NodeId}
use Rattle.kind_sites.specs.declared.site.Site.{Site}
use Rattle.c_types.specs.declared.shape.TypeShape.TheVariants as shape
use Rattle.c_types.specs.Table.{Table, shape_at, members_at, descend}
use Rattle.c_types.specs.Cells.{Cell, raw, pointer, mixed, incomplete, cells_at, cells_step, cells_of_shape}
use Rattle.c_types.specs.Equality.{cells_of, physically_equal}
use Rattle.c_types.specs.Flows.{CellsAgree}
use Rattle.c_types.specs.Sound.{IsWellFormed}
use Rattle.c_types.specs.Widths.{before, kind_width}
use Rattle.integers.specs.Arithmetic.{IntegerType, converted}
use Rattle.runs.specs.Outcome.{Done, allowed, done}
use Rattle.runs.specs.Control.{Goes}
use Rattle.flat_mem.specs.Bytes.{number, IsAccessSize, written}
use Rattle.flat_mem.proofs.ByteLaws.{number-below}
use Rattle.src_mem.specs.Pointers.{Location, Pointer, At}
use Rattle.src_mem.specs.Memory.{Object, holds_pointer_at, pointer_or_null}
use Rattle.src_mem.specs.State as source
use Rattle.src_mem.specs.State.{Setting, given, Wrong}
use Rattle.src_mem.specs.Primitives.{Spot, load_integer, load_pointer}
use Rattle.src_mem.specs.Outlines.{outline, outlines_of}
use Rattle.src_mem.specs.Facts.{IsSoundMemory}
use Rattle.src_mem.proofs.Outlines.{get-mapped}
use Rattle.src_mem.proofs.Right.{integer_cells, pointer_cells_are, in_part}
use Rattle.src_mem.proofs.Spots.{IsRight, spot-right}
use Rattle.facts_kept.proofs.Places.{Stands, stands-pointer}
use Rattle.facts_kept.proofs.Reading.{zero-holds}
use Rattle.cured_code.specs.FlatState as flat
use Rattle.cured_code.specs.FlatState.{slot, loaded, words_at, with_slots, accessed, is_in_list, Trap, goes, PlacedArea}
use Rattle.cured_code.specs.FlatMachine.{Context, act}
use Rattle.sim_relation.specs.Ground.{Ground, address, word_number, pointer_words}
use Rattle.sim_relation.specs.Accesses.{IsImage}
use Rattle.sim_relation.specs.Objects.{HoldsTyped}
use Rattle.sim_relation.specs.Points.{AreWords}
use Rattle.sim_relation.specs.Related.{Related, ground_of}
use Rattle.sim_relation.proofs.Kept.{typed-holds, words-width}
use Rattle.sim_relation.proofs.Places.{FoundRaw, found-in_list, found-number, found-inside, related-read, images-append, image-typed, in_list}
use Rattle.sim_relation.proofs.Pointers.{FoundPointer}
use Rattle.type_laws.proofs.Widths.{before-pointer}
use Rattle.sim_memory.specs.Found.{IsFound, loading}
use Rattle.sim_memory.specs.Laws.{IntegerIsLoaded, PointerIsLoaded}
use Rattle.sim_memory.proofs.Words.{words-below}

-- Integers

integer_cells_are : (table : Table) (t : TypeId) (n : ℕ) (signed : Bool) → shape_at table t ≡ shape.Integer n signed → cells_of table t ≡ replicate n raw
unfolding cells_at
integer_cells_are table t n signed e =
    ap (λ s. cells_of_shape table (physically_equal table) (descend (cells_step table (physically_equal table)) [] (length table)) t s (members_at table t)) e

get-replicate : (n j : ℕ) → j < n → slice_get (replicate n raw) j ≡ Some raw
get-replicate zero j h = absurd (omega (arith, h))
get-replicate (suc n) zero h = refl
get-replicate (suc n) (suc j) h = get-replicate n j (omega (arith, h))

pub agrees-raw : (w : Setting) (c : Cell) → CellsAgree w.table w.kind c raw → c ≡ raw
agrees-raw w raw a = refl
agrees-raw w (pointer n t i) a = absurd a
agrees-raw w (mixed t i) a = absurd a
agrees-raw w (incomplete t) a = absurd a

pub powers-alike : (n : ℕ) → IsAccessSize n → 256 ^ n ≡ 2 ^ (8 * n)
powers-alike n (inl e) = subst (λ k. 256 ^ k ≡ 2 ^ (8 * k)) (sym e) (omega arith)
powers-alike n (inr (inl e)) = subst (λ k. 256 ^ k ≡ 2 ^ (8 * k)) (sym e) (omega arith)
powers-alike n (inr (inr (inl e))) = subst (λ k. 256 ^ k ≡ 2 ^ (8 * k)) (sym e) (omega arith)
powers-alike n (inr (inr (inr e))) = subst (λ k. 256 ^ k ≡ 2 ^ (8 * k)) (sym e) (omega arith)

module _ (w : Setting) (number_of : TypeId → ℕ) (s : source.State) (c : flat.State) where
  -- as many bytes as t has cells may be touched
  pub right-found : (kind : Kind) (t : TypeId) (p : Pointer) (a m : ℕ) → kind ≢ Wild → (f : IsFound w number_of s c t p a) → m ≤ length (cells_of w.table t)
      → IsRight kind s.memory.objects f.location m f.object f.at
  right-found kind t p a m plain f room =
      in_part kind plain s.memory.objects f.location m f.object f.at f.found f.live f.offset f.low (let h = f.holds.room in omega (arith, h, room)) f.inside

  pub raw-found : (kind : Kind) (t : TypeId) (i : IntegerType) (p : Pointer) (a : ℕ) → kind ≢ Wild → shape_at w.table t ≡ shape.Integer i.bytes i.signed
      → (f : IsFound w number_of s c t p a) → FoundRaw w number_of s.memory.objects c.areas kind f.location i.bytes a
  raw-found kind t i p a plain e f = record {
    object = f.object;
    at = f.at;
    right = right-found kind t p a i.bytes plain f (let n = integer_cells w.table t i.bytes i.signed e in omega (arith, n));
    untagged = f.untagged;
    are_raw = record { each = λ j l. here j l };
    here = f.here;
  }
    where
      here : (j : ℕ) → j < i.bytes → slice_get f.object.cells (f.at + j) ≡ Some raw
      here j l =
          let x = f.holds.agree j raw (ap (λ cs. slice_get cs j) (integer_cells_are w.table t i.bytes i.signed e) ∙ get-replicate i.bytes j l) in
          x.1 ∙ ap Some (agrees-raw w x.0 x.2)

pub load-right : (kind : Kind) (i : IntegerType) (l : Location) (s : source.State) (o : Object) (at : ℕ) → IsRight kind s.memory.objects l i.bytes o at
    → load_integer kind i (At l) s ≡ Done (converted i (pos (number i.bytes o.bytes at))) (source.touched l.object at i.bytes s)
load-right kind i l s o at r =
    ap (λ (x : Option Spot). given x (λ (p : Spot). λ (z : source.State). Done (converted i (pos (number i.bytes p.object.bytes p.at)))
    (source.touched p.number p.at i.bytes z)) s) (spot-right kind s.memory.objects l i.bytes o at r)

pub integers-loaded : (w : Setting) (number_of : TypeId → ℕ) (kind : Kind) (t : TypeId) (i : IntegerType) (p : Pointer) (s : source.State) (x : Context) (v a : ℕ)
    (c : flat.Local) → kind ≢ Wild → shape_at w.table t ≡ shape.Integer i.bytes i.signed → IsAccessSize i.bytes → Related w number_of s c.state
    → IsFound w number_of s c.state t p (slot c a) → IntegerIsLoaded w number_of kind i p s x v a c
integers-loaded w number_of kind t i p s x v a c plain e size r f =
    subst (λ q. IntegerIsLoaded w number_of kind i q s x v a c) (sym f.is) (of (raw-found w number_of s c.state kind t i p (slot c a) plain e f))
  where
    of : FoundRaw w number_of s.memory.objects c.state.areas kind f.location i.bytes (slot c a) → IntegerIsLoaded w number_of kind i (At f.location) s x v a c
    of y = record {
      number = number i.bytes y.object.bytes y.at;
      below =
          let h = number-below i.bytes c.state.memory.bytes (slot c a) r.sound.bytes in
          let m = found-number w number_of s c.state kind f.location i.bytes (slot c a) r y in
          let k = powers-alike i.bytes size in omega (arith, h, m, k);
      goes_on = record {
        next = source.touched f.location.object y.at i.bytes s;
        after = loaded i.bytes v (slot c a) c;
        source_goes = load-right kind i f.location s y.object y.at y.right;
        flat_goes = ap (λ (b : Bool). allowed b (Trap x.function) (goes (loaded i.bytes v (slot c a))) c)
            (found-in_list w number_of s c.state kind f.location i.bytes (slot c a) r y);
        slots_are = ap (slice_set c.slots v) (found-number w number_of s c.state kind f.location i.bytes (slot c a) r y);
        stays = record { outlines = refl; lives = refl; input = refl; areas = refl; frames = refl; bounds = refl; top = refl; before = λ i h. refl };
        related = related-read w number_of s c.state kind f.location i.bytes (slot c a) r y;
      };
      memory = refl;
    }

-- Pointers

-- the line that loads words
loads : (k : Kind) (x : Context) (v a : ℕ) (c : flat.Local) → slot c a + 8 * word_number k ≤ length c.state.memory.bytes
    → act (loading k v a) x c ≡ Done Goes (with_slots v (words_at (word_number k) c.state.memory.bytes (slot c a))
    (accessed (slot c a) (8 * word_number k) c.state.memory.bytes c))
unfolding written
loads Safe x v a c h = ap (λ (b : Bool). allowed b (Trap x.function) (goes (loaded 8 v (slot c a))) c) (in_list (slot c a) 8 (length c.state.memory.bytes) h)
loads Rtti x v a c h = ap (λ (b : Bool). allowed b (Trap x.function) (goes (λ d. with_slots v (words_at 2 d.state.memory.bytes (slot d a))
    (accessed (slot d a) 16 d.state.memory.bytes d))) c) (in_list (slot c a) 16 (length c.state.memory.bytes) h)
loads Seq x v a c h = ap (λ (b : Bool). allowed b (Trap x.function) (goes (λ d. with_slots v (words_at 3 d.state.memory.bytes (slot d a))
    (accessed (slot d a) 24 d.state.memory.bytes d))) c) (in_list (slot c a) 24 (length c.state.memory.bytes) h)
loads Wild x v a c h = ap (λ (b : Bool). allowed b (Trap x.function) (goes (λ d. with_slots v (words_at 2 d.state.memory.bytes (slot d a))
    (accessed (slot d a) 16 d.state.memory.bytes d))) c) (in_list (slot c a) 16 (length c.state.memory.bytes) h)

pub load-pointer : (kind : Kind) (l : Location) (s : source.State) (o : Object) (at : ℕ) → IsRight kind s.memory.objects l 8 o at → holds_pointer_at at o ≡ true
    → load_pointer kind (At l) s ≡ Done (pointer_or_null (o.pointers at)) (source.touched l.object at 8 s)
load-pointer kind l s o at r there =
    ap (λ (x : Option Spot). given x (λ (p : Spot). λ (z : source.State). allowed (holds_pointer_at p.at p.object) Wrong
    (done (pointer_or_null (p.object.pointers p.at))) (source.touched p.number p.at 8 z)) s) (spot-right kind s.memory.objects l 8 o at r)
    ∙ ap (λ (b : Bool). allowed b Wrong (done (pointer_or_null (o.pointers at))) (source.touched l.object at 8 s)) there

-- what was found of a pointer type: a pointer's cell
module _ (w : Setting) (number_of : TypeId → ℕ) (sound : IsWellFormed w.table) (s : source.State) (c : flat.State) where
  pub pointer-found : (kind : Kind) (t : TypeId) (n : NodeId) (u : TypeId) (p : Pointer) (a : ℕ) → kind ≢ Wild → shape_at w.table t ≡ shape.Pointer n u
      → (f : IsFound w number_of s c t p a) → (y : Stands w sound (outlines_of s.memory) (w.kind n) u f.object.cells f.at)
      → FoundPointer w number_of s.memory.objects c.areas kind f.location y.node a
  pointer-found kind t n u p a plain e f y = record {
    object = f.object;
    at = f.at;
    to = y.to;
    right = right-found w number_of s c kind t p a 8 plain f (let k : length (cells_of w.table t) ≡ 8 = ap length (pointer_cells_are w.table t n u e) in omega (arith, k));
    untagged = f.untagged;
    begins = y.found;
    here = f.here;
  }

  pub stands-found : (t : TypeId) (n : NodeId) (u : TypeId) (p : Pointer) (a : ℕ) → shape_at w.table t ≡ shape.Pointer n u → (f : IsFound w number_of s c t p a)
      → Stands w sound (outlines_of s.memory) (w.kind n) u f.object.cells f.at
  stands-found t n u p a e f = stands-pointer w sound (outlines_of s.memory) t u n f.object.cells f.at f.location.part.high e f.holds

pub pointers-loaded : (w : Setting) (sites : List Site) (number_of : TypeId → ℕ) (kind : Kind) (t : TypeId) (n : NodeId) (u : TypeId) (p : Pointer) (s : source.State)
    (x : Context) (v a : ℕ) (c : flat.Local) → IsWellFormed w.table → kind ≢ Wild → shape_at w.table t ≡ shape.Pointer n u → IsSoundMemory w sites s.memory
    → Related w number_of s c.state → IsFound w number_of s c.state t p (slot c a) → PointerIsLoaded w number_of kind n p s x v a c
pointers-loaded w sites number_of kind t n u p s x v a c sound plain e memory r f =
    subst (λ q. PointerIsLoaded w number_of kind n q s x v a c) (sym f.is)
    (to (stands-found w number_of sound s c.state t n u p (slot c a) e f))
  where
    g : Ground
    g = ground_of w number_of s c.state

    bytes : List ℕ
    bytes = c.state.memory.bytes

    holds : HoldsTyped (ground_of w number_of s c.state) c.state.memory.bytes (address (ground_of w number_of s c.state) f.location.object) f.object
    holds = typed-holds (w.kind f.object.node) f.untagged _ _ _ _ (r.holds.each f.location.object f.object f.found f.live)

    right : IsRight kind s.memory.objects f.location 8 f.object f.at
    right = right-found w number_of s c.state kind t p (slot c a) 8 plain f
        (let k : length (cells_of w.table t) ≡ 8 = ap length (pointer_cells_are w.table t n u e) in omega (arith, k))

    to : Stands w sound (outlines_of s.memory) (w.kind n) u f.object.cells f.at
        → PointerIsLoaded w number_of kind n (At f.location) s x v a c
    to y = record {
      pointer = q;
      words = subst AreWords words (words-below (word_number (w.kind n)) bytes (slot c a) r.sound.bytes);
      goes_on = record {
        next = source.touched f.location.object f.at 8 s;
        after = with_slots v (words_at (word_number (w.kind n)) bytes (slot c a)) (accessed (slot c a) (8 * word_number (w.kind n)) bytes c);
        source_goes = load-pointer kind f.location s f.object f.at right there;
        flat_goes = loads (w.kind n) x v a c inside;
        slots_are = ap (λ ws. written ws c.slots v) words;
        stays = record { outlines = refl; lives = refl; input = refl; areas = refl; frames = refl; bounds = refl; top = refl; before = λ i h. refl };
        related = record {
          areas = record { count = r.areas.count; sizes = r.areas.sizes; lie = r.areas.lie; apart = r.areas.apart };
          holds = r.holds;
          sound = r.sound;
          small = r.small;
          room = record { frame_charge = r.room.frame_charge; heap_charge = r.room.heap_charge; frames = r.room.frames; heap = r.room.heap };
          outside = record { output = r.outside.output; read = r.outside.read; input = r.outside.input; turns = r.outside.turns; entered = r.outside.entered };
          accesses = images-append g s.accesses c.state.accesses _ _ r.accesses image;
        };
      };
      memory = refl;
    }
      where
        q : Pointer
        q = pointer_or_null (f.object.pointers f.at)

        there : holds_pointer_at f.at f.object ≡ true
        there = zero-holds w sound sites f.object f.at ((memory.each f.location.object f.object f.found f.live).zeros f.untagged f.at y.node y.to y.found)

        words : words_at (word_number (w.kind n)) c.state.memory.bytes (slot c a)
            ≡ pointer_words (ground_of w number_of s c.state) (w.kind n) (pointer_or_null (f.object.pointers f.at))
        words =
            ap (words_at (word_number (w.kind n)) c.state.memory.bytes) f.here
            ∙ subst (λ (j : Kind). words_at (word_number j) c.state.memory.bytes (address g f.location.object + before w.kind f.object.cells f.at)
            ≡ pointer_words g j (pointer_or_null (f.object.pointers f.at))) y.kind (holds.pointers f.at y.node y.to y.found)

        width : kind_width (w.kind y.node) ≡ 8 * word_number (w.kind n)
        width = ap kind_width y.kind ∙ sym (words-width (w.kind n))

        step : before w.kind f.object.cells (f.at + 8) ≡ before w.kind f.object.cells f.at + kind_width (w.kind y.node)
        step = before-pointer w.kind f.object.cells f.at y.node y.to holds.ordered y.found

        inside : slot c a + 8 * word_number (w.kind n) ≤ length c.state.memory.bytes
        inside =
            let h = found-inside w number_of s c.state kind f.location 8 f.object f.at r right f.untagged (f.at + 8) in
            let b = step in let k = width in let m = f.here in omega (arith, h, b, k, m)

        image : IsImage g (record { object = f.location.object; offset = f.at; size = 8 }) (record { at = slot c a; size = 8 * word_number (w.kind n) })
        image = record {
          object = outline f.object;
          found = get-mapped outline s.memory.objects f.location.object f.object f.found;
          is = image-typed (w.kind f.object.node) f.untagged g (outline f.object) (record { object = f.location.object; offset = f.at; size = 8 })
              (record { at = slot c a; size = 8 * word_number (w.kind n) }) f.here (let b = step in let k = width in let m = f.here in omega (arith, b, k, m));
        }
