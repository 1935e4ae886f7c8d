-- A block is made by both machines, or by neither: the lines that make one.
use Rattle.std.proofs.Common.{◌≡◌, ◌≢◌, ◌⊎◌, inl, inr, ℕ, zero, suc, ◌+◌, ◌-◌, ◌*◌, ◌/◌, ◌%◌, ◌^◌, ◌<◌, ◌≤◌, Bool, true, false, ◌&&◌, List, [], ◌∷◌, ◌++◌, length, slice_get, Some, refl, ap, sym, subst, ◌∙◌, arith, nat_eq, nat_le, get_or-set_other, get_or-set_same, length-set, if◌then◌else◌}
use Rattle.std.proofs.Math.Nat.{mod-eq_of_lt, mul-le-mul_left, mul-le-mul_right}
use Rattle.std.proofs.lemmas.Bool.Decides.{nat_tests}
use Rattle.std.proofs.lemmas.List.{append-nil}
use Rattle.std.proofs.lemmas.Nat.{div-add-mod'}
use Rattle.std.proofs.lemmas.Option.{slice_get_within}
use Rattle.cc_base.specs.declared.kind.Kind.{Kind}
use Rattle.cc_base.specs.declared.kind.Kind.TheVariants.{Safe, Seq, Rtti, Wild}
use Rattle.cc_base.specs.declared.number.NodeId.{NodeId}
use Rattle.cc_base.specs.declared.number.TypeId.{TypeId}
use Rattle.c_types.specs.declared.shape.TypeShape.{TypeShape}
use Rattle.c_types.specs.declared.shape.TypeShape.TheVariants as shape
use Rattle.c_types.specs.Table.{IsComplete, members_at, shape_at}
use Rattle.c_types.specs.Layouts.{size_of}
use Rattle.c_types.specs.Cells.{Cell, AreOrdered, holds_pointer, holds_in_shape}
use Rattle.c_types.specs.Equality.{cells_of}
use Rattle.c_types.specs.Sound.{IsWellFormed}
use Rattle.c_types.specs.Widths.{before, width_of, cured_size}
use Rattle.c_types.proofs.OrderedPointers.{Which, old, new, which, get_back}
use Rattle.phys_types.proofs.Structs.{holds_is}
use Rattle.integers.specs.Operators.{product_words, quotient_words}
use Rattle.runs.specs.Outcome.{Outcome, Done, done, leaves, either, from, allowed, ◌>>◌}
use Rattle.runs.specs.Control.{then_go}
use Rattle.flat_mem.specs.declared.Area.{Area}
use Rattle.flat_mem.specs.declared.memory.Bounds.{Bounds}
use Rattle.flat_mem.specs.Memory.{block_address, block_fits}
use Rattle.flat_mem.specs.Placement.{area_size, function_address}
use Rattle.flat_mem.proofs.BlockLaws.{IsNewBlock, block-new}
use Rattle.flat_mem.proofs.ByteLaws.{number-same}
use Rattle.flat_mem.proofs.FrameLaws.{frames_end-least}
use Rattle.src_mem.specs.Pointers.{Pointer, Null}
use Rattle.src_mem.specs.Memory.{Object, zero_object, new_block, block_cells, block_size, charge_of}
use Rattle.src_mem.specs.State as source
use Rattle.src_mem.specs.State.{Setting}
use Rattle.src_mem.specs.Checks.{holds}
use Rattle.src_mem.specs.Primitives.{allocate, block_pointer, heap_limit, with_block}
use Rattle.src_mem.specs.Outlines.{outline}
use Rattle.src_mem.specs.Facts.{IsSoundAt}
use Rattle.src_mem.specs.Laws.{Gives}
use Rattle.src_mem.proofs.Outlines.{get-mapped}
use Rattle.facts_kept.specs.Kept.{GivesBlock, MakesBlocks}
use Rattle.facts_kept.proofs.Allocating.{gives-block}
use Rattle.facts_kept.proofs.Blocks.{block-length}
use Rattle.facts_kept.proofs.Complete.{complete-some}
use Rattle.facts_kept.proofs.NonePointers.{block-filled}
use Rattle.cil_form.specs.State as code
use Rattle.cured_code.specs.declared.instr.Instr.TheVariants as flat_instr
use Rattle.cured_code.specs.FlatState as flat
use Rattle.cured_code.specs.FlatState.{PlacedArea, goes, slot, with_slot, with_new}
use Rattle.cured_code.specs.FlatMachine.{Context, blocks_charge_limit, run}
use Rattle.check_forms.specs.Pieces.{Line, Then}
use Rattle.check_forms.proofs.TestLaws.{append-append}
use Rattle.sim_relation.specs.Ground.{address, function_word, place}
use Rattle.sim_relation.specs.Related.{Related}
use Rattle.sim_relation.specs.Points.{Knowledge, Number}
use Rattle.sim_checks.specs.Rows.{AreFunctionsLaid}
use Rattle.sim_checks.proofs.Addresses.{not-zero}
use Rattle.sim_checks.proofs.Sequences.{small}
use Rattle.sim_memory.specs.Laws.{AreBelowHeap, plain_area}
use Rattle.sim_memory.proofs.Blocks.{blocks-made, blocks-fit-alike}
use Rattle.sim_memory.proofs.BlockWidths.{blocks-of-bytes, blocks-of-elements}
use Rattle.cure_rules.specs.Slots.{AreSlots, Role, Amount, Bytes, Charge, Made, Offset, Size, role_number, slot_of}
use Rattle.cure_rules.specs.Known as rules
use Rattle.cure_rules.specs.Known.{Gets}
use Rattle.cure_rules.specs.Checks.{Seat}
use Rattle.cure_rules.specs.Calling.{BlockBy, MakesBlock, has_elements, is_tagged_kind}
use Rattle.sim_laws.specs.Scenes.{Programs, Scene, Running, setting_of, world_of, context_of}
use Rattle.sim_laws.specs.Points.{Grows, IsLaid, There, Point, IsLasting, Passed, ground_of}
use Rattle.sim_laws.specs.Statements.{Lines}
use Rattle.sim_laws.proofs.Growing as growing
use Rattle.sim_laws.proofs.Points.{grows-same, there-on, unwritten}
use Rattle.sim_laws.proofs.Guards.{Got, got-number, lasting-apart, passed-role, passed-then, role-below, role-there}
use Rattle.sim_laws.proofs.Calculations.{exactly}
use Rattle.sim_laws.proofs.Names.{Names}
use Rattle.sim_laws.proofs.Checks.{got-spares, got-spot, passed-point}
use Rattle.sim_laws.proofs.Aiming.{place-at}

-- A block is made behind all areas: what calls speak of stays, and the states are those where the call has come to.
module _ (p : Programs) (count : length p.parts.functions ≡ suc (length (setting_of p).functions)) (b : Running) (s : source.State) (c : flat.State)
    (out : b.outer ≤ b.depth) (there : There p b s c) (n : NodeId) (size : ℕ) (cells : List Cell) (plain : p.whole.kind n ≢ Wild) (ordered : AreOrdered cells)
    (sized : length cells ≡ size) (fits : block_fits c.memory (plain_area (setting_of p) cells) (charge_of size) ≡ true)
    (facts : IsSoundAt (setting_of p) p.sites (with_block (zero_object 0 n size cells) s).memory b.depth) where
  abbrev T : Setting
  T = setting_of p

  abbrev blank : Object
  blank = zero_object 0 n size cells

  abbrev area : Area
  area = plain_area (setting_of p) cells

  abbrev t : source.State
  t = with_block (zero_object 0 n size cells) s

  abbrev d : flat.State
  d = flat.with_block (plain_area (setting_of p) cells) (charge_of size) c

  abbrev plus : List PlacedArea
  plus = record { area = plain_area (setting_of p) cells; address = block_address c.memory } ∷ []

  made : Related (setting_of p) p.whole.node (with_block (zero_object 0 n size cells) s) (flat.with_block (plain_area (setting_of p) cells) (charge_of size) c)
      × AreBelowHeap (setting_of p) p.whole.node (with_block (zero_object 0 n size cells) s) (flat.with_block (plain_area (setting_of p) cells) (charge_of size) c)
      × (address (ground_of p (with_block (zero_object 0 n size cells) s) (flat.with_block (plain_area (setting_of p) cells) (charge_of size) c)) (length s.memory.objects)
      ≡ block_address c.memory)
  made = blocks-made T p.sites p.whole.node s c n size cells plain there.facts.objects there.related there.laid.heap ordered sized fits

  -- it is of no call
  of-none : (j : ℕ) (x : Object) → slice_get (blank ∷ []) j ≡ Some x → (x.depth ≡ 0) ⊎ (b.depth < x.depth)
  of-none zero x e = inl (let f : blank ≡ x = cc (e) in ap (λ (y : Object). y.depth) (sym f))
  of-none (suc j) x e = absurd (cc (e))

  pub block-grows : Grows p b.depth s (with_block (zero_object 0 n size cells) s) c (flat.with_block (plain_area (setting_of p) cells) (charge_of size) c)
  block-grows = growing.grows-more p b.depth s t c d (blank ∷ []) plus refl refl there.related.areas.count of-none

  pub block-at : address (ground_of p (with_block (zero_object 0 n size cells) s) (flat.with_block (plain_area (setting_of p) cells) (charge_of size) c)) (length s.memory.objects)
      ≡ block_address c.memory
  block-at = made.2

  -- functions lie below the heap
  beneath : function_address (length T.functions) ≤ c.memory.heap_top
  beneath =
      let a = ap (λ (x : Bounds). x.stack_start) there.laid.bounds in let e = count in
      let f = frames_end-least c.memory.bounds.stack_start c.memory.frames there.related.sound.consecutive in
      let r = there.related.sound.room in let h = there.related.sound.blocks in omega (arith, a, e, f, r, h)

  behind : IsNewBlock c.memory area (charge_of size)
  behind = block-new c.memory area (charge_of size) there.related.sound fits

  functions : AreFunctionsLaid T p.whole.node t d
  functions = record {
    few = there.laid.functions.few;
    empty = λ f x e. number-same 8 d.memory.bytes c.memory.bytes (function_word f - 8) (function_word f - 8)
        (λ i l. behind.others (function_word f - 8 + i) (inl (let m = slice_get_within T.functions f x e in let h = beneath in omega (arith, m, h, l))))
        ∙ there.laid.functions.empty f x e;
    apart = there.laid.functions.apart;
    beyond = λ j x found live. beyond j x live (which s.memory.objects (blank ∷ []) j x found);
  }
    where
      beyond : (j : ℕ) (x : Object) → x.live ≡ true → Which s.memory.objects (blank ∷ []) j x → function_address (length T.functions) < address (ground_of p t d) j
      beyond j x live (old e l) =
          let a = growing.address-same p b.depth s t c d (blank ∷ []) plus refl refl there.related.areas.count of-none j l in
          let h = there.laid.functions.beyond j x e live in omega (arith, a, h)
      beyond j x live (new zero q e) =
          let is : j ≡ length s.memory.objects = omega (arith, q) in
          let a = ap (address (ground_of p t d)) is ∙ block-at in let h = beneath in omega (arith, a, h)
      beyond j x live (new (suc i) q e) = absurd (cc (e))

  laid : IsLaid p t d
  laid = record { bounds = there.laid.bounds; heap = made.1; functions = functions; input = there.laid.input }

  pub block-there : There p b (with_block (zero_object 0 n size cells) s) (flat.with_block (plain_area (setting_of p) cells) (charge_of size) c)
  block-there = there-on p b s t c d out there made.0 facts laid refl block-grows

-- What an allocation leaves

-- where a block begins and ends, by two words: its address, and as many bytes as its area has
pub record Spans (p : Programs) (t : TypeId) (made bytes : ℕ) (s : source.State) (c : flat.State) (q : Pointer) : Type 0 where
  pub number : ℕ
  pub size : ℕ
  pub is : q ≡ block_pointer number t size
  pub start : made ≡ place (ground_of p s c) number 0
  pub end : made + bytes ≡ place (ground_of p s c) number size
  pub some : 0 < made
  pub small : made + bytes < 2 ^ 33
  pub sizes : ((bytes ≡ size) × (holds_pointer p.whole.table t ≡ false))
      ⊎ ((k : ℕ) × (size ≡ k * size_of p.whole.table t) × (bytes ≡ k * cured_size p.whole.table p.whole.kind t))

-- Both machines have made a block, or none: the working slot of its address holds it, or 0.
pub record BlockMade (w : Scene) (g : AreSlots w.slots) (b : Running) (known : Knowledge) (l : code.Local) (node : NodeId) (t : TypeId)
    (outcome : Outcome source.Ending source.State Pointer) (bytes : ℕ) (lines : Lines) (c : flat.Local) : Type 0 where
  pub pointer : Pointer
  pub next : source.State
  pub source_goes : outcome ≡ Done pointer next
  pub after : flat.Local
  pub runs : (rest : Lines) → run (lines ++ rest) (context_of w b) c ≡ run rest (context_of w b) after
  pub point : Point w g b known (record l { state = next }) after
  pub grows : Grows w.programs b.depth l.state next c.state after.state
  pub passed : Passed w g c.slots after.slots
  pub gives : GivesBlock (setting_of w.programs) w.programs.sites b.depth node t l.state pointer next
  pub is : ((slot after (slot_of w.slots Made) ≡ 0) × (pointer ≡ Null))
      ⊎ Spans w.programs t (slot after (slot_of w.slots Made)) (slot after bytes) next after.state pointer

-- no block is made, and the slot becomes 0
module _ (w : Scene) (g : AreSlots w.slots) (b : Running) (known : Knowledge) (l : code.Local) (c : flat.Local) (p : Point w g b known l c) (node : NodeId) (t : TypeId) where
  pub block-none : (outcome : Outcome source.Ending source.State Pointer) → outcome ≡ Done Null l.state → (bytes : ℕ) (lines : Lines)
      → ((rest : Lines) → run (lines ++ rest) (context_of w b) c ≡ run rest (context_of w b) (with_slot (slot_of w.slots Made) 0 c))
      → BlockMade w g b known l node t outcome bytes lines c
  block-none outcome goes bytes lines runs = record {
    pointer = Null;
    next = l.state;
    source_goes = goes;
    after = with_slot (slot_of w.slots Made) 0 c;
    runs = runs;
    point = unwritten w g b known known l l.state c (with_slot (slot_of w.slots Made) 0 c) p p.there
        (grows-same w.programs b.depth l.state l.state c.state c.state refl refl) (passed-role w g c.slots Made 0) (λ x y e. e);
    grows = grows-same w.programs b.depth l.state l.state c.state c.state refl refl;
    passed = passed-role w g c.slots Made 0;
    gives = record {
      more = [];
      grown = sym (append-nil l.state.memory.objects);
      sound = p.there.facts;
      held = λ h. record { value = tt; reaches = tt };
      made = λ told. tt;
    };
    is = inl (get_or-set_same c.slots (slot_of w.slots Made) 0 0 (let r = role-there w g Made in let k = p.count in omega (arith, r, k)), refl);
  }

module _ (w : Scene) (names : Names w) (count : length w.programs.parts.functions ≡ suc (length (setting_of w.programs).functions)) (g : AreSlots w.slots) (b : Running)
    (known : Knowledge) (l : code.Local) (c : flat.Local) (p : Point w g b known l c) (node : NodeId) (t : TypeId) (plain : w.programs.whole.kind node ≢ Wild)
    (makes : MakesBlocks (setting_of w.programs) node t) (n : ℕ) where
  abbrev S : Setting
  S = setting_of w.programs

  abbrev size : ℕ
  size = block_size w.programs.whole.table (w.programs.whole.kind node) t n

  abbrev cells : List Cell
  cells = block_cells (cells_of w.programs.whole.table t) (block_size w.programs.whole.table (w.programs.whole.kind node) t n)

  abbrev o : Object
  o = new_block w.programs.whole.table node t (block_size w.programs.whole.table (w.programs.whole.kind node) t n)

  abbrev number : ℕ
  number = length l.state.memory.objects

  ordered : AreOrdered cells
  ordered = (block-filled S names.solved.well_formed node t n plain).ordered

  sized : length cells ≡ size
  sized = block-length (cells_of w.programs.whole.table t) size

  limit : c.state.memory.bounds.heap_limit ≡ heap_limit
  unfolding blocks_charge_limit
  limit = ap (λ (x : Bounds). x.heap_limit) p.there.laid.bounds

  end : c.state.memory.bounds.heap_end ≡ c.state.memory.bounds.stack_end + 3 * heap_limit
  unfolding blocks_charge_limit
  end = let a = ap (λ (x : Bounds). x.heap_end) p.there.laid.bounds in let e = ap (λ (x : Bounds). x.stack_end) p.there.laid.bounds in omega (arith, a, e)

  -- C has room for it
  abbrev room : Bool
  room = nat_le (l.state.memory.heap_bytes + charge_of (block_size w.programs.whole.table (w.programs.whole.kind node) t n)) heap_limit

  -- the flat machine has, exactly then
  fits-alike : (bytes : ℕ) → (room ≡ true → bytes ≡ width_of w.programs.whole.kind cells)
      → block_fits c.state.memory (record { tagged = false; bytes = bytes }) (charge_of size) ≡ room
  fits-alike bytes wide = by room refl
    where
      by : (q : Bool) → room ≡ q → block_fits c.state.memory (record { tagged = false; bytes = bytes }) (charge_of size) ≡ q
      by true e = ap (λ (m : ℕ). block_fits c.state.memory (record { tagged = false; bytes = m }) (charge_of size)) (wide e)
          ∙ blocks-fit-alike S w.programs.whole.node l.state c.state size cells p.there.related ordered sized limit end ∙ e
      by false e =
          ap (λ (m : ℕ). nat_le (m + charge_of size) c.state.memory.bounds.heap_limit
          && nat_le (c.state.memory.heap_top + area_size (record { tagged = false; bytes = bytes })) c.state.memory.bounds.heap_end) p.there.related.room.heap_charge
          ∙ ap (λ (m : ℕ). nat_le (l.state.memory.heap_bytes + charge_of size) m
          && nat_le (c.state.memory.heap_top + area_size (record { tagged = false; bytes = bytes })) c.state.memory.bounds.heap_end) limit
          ∙ ap (λ (q : Bool). q && nat_le (c.state.memory.heap_top + area_size (record { tagged = false; bytes = bytes })) c.state.memory.bounds.heap_end) e

  -- what C does
  abbrev outcome-by : Bool → Outcome source.Ending source.State Pointer
  outcome-by q = either q (leaves (with_block (new_block w.programs.whole.table node t (block_size w.programs.whole.table (w.programs.whole.kind node) t n)))
      >> done (block_pointer (length l.state.memory.objects) t (block_size w.programs.whole.table (w.programs.whole.kind node) t n))) (done Null) l.state

  -- the line that makes it
  pub new-made : (bytes charge : ℕ) → slot c charge ≡ block_size w.programs.whole.table (w.programs.whole.kind node) t n
      → (nat_le (l.state.memory.heap_bytes + charge_of (block_size w.programs.whole.table (w.programs.whole.kind node) t n)) heap_limit ≡ true
      → slot c bytes ≡ width_of w.programs.whole.kind (block_cells (cells_of w.programs.whole.table t) (block_size w.programs.whole.table (w.programs.whole.kind node) t n)))
      → bytes ≢ slot_of w.slots Made
      → ((slot c bytes ≡ block_size w.programs.whole.table (w.programs.whole.kind node) t n) × (holds_pointer w.programs.whole.table t ≡ false))
      ⊎ ((k : ℕ) × (block_size w.programs.whole.table (w.programs.whole.kind node) t n ≡ k * size_of w.programs.whole.table t)
      × (nat_le (l.state.memory.heap_bytes + charge_of (block_size w.programs.whole.table (w.programs.whole.kind node) t n)) heap_limit ≡ true
      → slot c bytes ≡ k * cured_size w.programs.whole.table w.programs.whole.kind t))
      → BlockMade w g b known l node t (allocate (setting_of w.programs) node t n l.state) bytes
      (flat_instr.New false (slot_of w.slots Made) bytes charge ∷ []) c
  new-made bytes charge charged wide apart sizes = by room refl
    where
      v : ℕ
      v = slot_of w.slots Made

      area : Area
      area = record { tagged = false; bytes = slot c bytes }

      -- the machine's step, by whether the block fits
      step : (q : Bool) → room ≡ q → (rest : Lines) → run (flat_instr.New false v bytes charge ∷ rest) (context_of w b) c
          ≡ run rest (context_of w b) (with_new q area (charge_of size) v c)
      step q e rest =
          ap (λ (m : ℕ). run rest (context_of w b) (with_new (block_fits c.state.memory area (m + 16)) area (m + 16) v c)) charged
          ∙ ap (λ (x : Bool). run rest (context_of w b) (with_new x area (charge_of size) v c)) (fits-alike (slot c bytes) wide ∙ e)

      by : (q : Bool) → room ≡ q → BlockMade w g b known l node t (allocate S node t n l.state) bytes (flat_instr.New false v bytes charge ∷ []) c
      by false e = block-none w g b known l c p node t (allocate S node t n l.state) (ap outcome-by e) bytes (flat_instr.New false v bytes charge ∷ []) (step false e)
      by true e = record {
        pointer = block_pointer number t size;
        next = next;
        source_goes = ap outcome-by e;
        after = after;
        runs = λ rest. step true e rest ∙ ap (λ (x : Area). run rest (context_of w b) (with_new true x (charge_of size) v c)) area-is;
        point = unwritten w g b known known l next c after p there grows passed (λ x y h. h);
        grows = grows;
        passed = passed;
        gives = block;
        is = inr (record {
          number = number;
          size = size;
          is = refl;
          start = at ∙ sym address-is ∙ before-none ∙ sym (place-is 0);
          end = ap (λ (m : ℕ). m + slot after bytes) (at ∙ sym address-is) ∙ ap (λ (m : ℕ). address (ground_of w.programs next after.state) number + m) (kept ∙ wide e)
              ∙ ap (λ (m : ℕ). address (ground_of w.programs next after.state) number + before w.programs.whole.kind cells m) sized ∙ sym (place-is size);
          some = (let a = at in omega (arith, a));
          small = (let a = at in let k = kept in let f = wide e in let i = behind.inside in let e' = p.there.related.sound.size in let m = p.there.related.small in
              omega (arith, a, k, f, i, e', m));
          sizes = by-sizes sizes;
        });
      }
        where
          next : source.State
          next = with_block o l.state

          after : flat.Local
          after = with_slot v (block_address c.state.memory) (record c { state = flat.with_block (plain_area S cells) (charge_of size) c.state })

          fits : block_fits c.state.memory (plain_area S cells) (charge_of size) ≡ true
          fits = blocks-fit-alike S w.programs.whole.node l.state c.state size cells p.there.related ordered sized limit end ∙ e

          area-is : area ≡ plain_area S cells
          area-is = ap (λ (m : ℕ). record { tagged = false; bytes = m }) (wide e)

          block : GivesBlock S w.programs.sites b.depth node t l.state (block_pointer number t size) next
          block = subst (λ (r : Outcome source.Ending source.State Pointer). Gives r (GivesBlock S w.programs.sites b.depth node t l.state)) (ap outcome-by e)
              (gives-block S names.solved.well_formed w.programs.sites node t n makes l.state b.depth p.there.facts)

          there : There w.programs b next after.state
          there = block-there w.programs count b l.state c.state p.outer p.there node size cells plain ordered sized fits block.sound

          grows : Grows w.programs b.depth l.state next c.state after.state
          grows = block-grows w.programs count b l.state c.state p.outer p.there node size cells plain ordered sized fits block.sound

          passed : Passed w g c.slots after.slots
          passed = passed-role w g c.slots Made (block_address c.state.memory)

          at : slot after v ≡ block_address c.state.memory
          at = get_or-set_same c.slots v (block_address c.state.memory) 0 (let r = role-there w g Made in let k = p.count in omega (arith, r, k))

          kept : slot after bytes ≡ slot c bytes
          kept = get_or-set_other c.slots v bytes (block_address c.state.memory) 0 (λ f. apart f)

          address-is : address (ground_of w.programs next after.state) number ≡ block_address c.state.memory
          address-is = block-at w.programs count b l.state c.state p.outer p.there node size cells plain ordered sized fits block.sound

          place-is : (i : ℕ) → place (ground_of w.programs next after.state) number i ≡ address (ground_of w.programs next after.state) number + before w.programs.whole.kind cells i
          place-is i = place-at (ground_of w.programs next after.state) number i (outline o)
              (get-mapped outline (l.state.memory.objects ++ o ∷ []) number o
              (let z : number ≡ number + 0 = omega arith in ap (slice_get (l.state.memory.objects ++ o ∷ [])) z ∙ get_back l.state.memory.objects (o ∷ []) 0))

          before-none : address (ground_of w.programs next after.state) number ≡ address (ground_of w.programs next after.state) number + before w.programs.whole.kind cells 0
          before-none = omega arith

          behind : IsNewBlock c.state.memory (plain_area S cells) (charge_of size)
          behind = block-new c.state.memory (plain_area S cells) (charge_of size) p.there.related.sound fits

          by-sizes : ((slot c bytes ≡ size) × (holds_pointer w.programs.whole.table t ≡ false))
              ⊎ ((k : ℕ) × (size ≡ k * size_of w.programs.whole.table t) × (room ≡ true → slot c bytes ≡ k * cured_size w.programs.whole.table w.programs.whole.kind t))
              → ((slot after bytes ≡ size) × (holds_pointer w.programs.whole.table t ≡ false))
              ⊎ ((k : ℕ) × (size ≡ k * size_of w.programs.whole.table t) × (slot after bytes ≡ k * cured_size w.programs.whole.table w.programs.whole.kind t))
          by-sizes (inl h) = inl (kept ∙ h.0, h.1)
          by-sizes (inr (k, h, f)) = inr (k, h, kept ∙ f e)

-- The lines of a block

-- where the number of its bytes then stands
pub makes-slot : (w : Scene) (k : Kind) (t : TypeId) (seat : Seat) (a d : ℕ) (lines : Lines) → MakesBlock (world_of w) seat k t a d lines → (d ≡ a) ⊎ (d ≡ slot_of w.slots Bytes)
makes-slot w k t seat a d lines h = by (has_elements k (holds_pointer w.programs.whole.table t)) h
  where
    by : (q : Bool) → BlockBy q (world_of w) seat k t a d lines → (d ≡ a) ⊎ (d ≡ slot_of w.slots Bytes)
    by false h = inl h.0
    by true h = inr h.0

-- a product of few elements doesn't wrap
product-below : (k m n : ℕ) → 0 < m → k * m < 2 ^ 23 → n < 2 ^ 40 → k * n < 2 ^ 64
product-below k m n some few small =
    let a : k * 1 ≤ k * m = mul-le-mul_left k some in let d : k < 2 ^ 23 = omega (arith, a, few) in
    let e : k * n ≤ 2 ^ 23 * n = mul-le-mul_right n (let h : k ≤ 2 ^ 23 = omega (arith, d) in h) in omega (arith, e, small)

-- the slot of a size is none that the lines of a block write
abbrev pub IsAmount : (w : Scene) → AreSlots w.slots → ℕ → Type 0
IsAmount w g a = IsLasting (g.owner a) ⊎ (a ≡ slot_of w.slots Amount)

amount-apart : (w : Scene) (g : AreSlots w.slots) (a : ℕ) → IsAmount w g a → (r : Role) → nat_eq (role_number r) 20 ≡ false → a ≢ slot_of w.slots r
amount-apart w g a (inl lasts) r other e = lasting-apart w g a (role_number r) lasts (role-below r) e
amount-apart w g a (inr is) r other e =
    let n : role_number r ≡ 20 = omega (arith, e, is) in let k : nat_eq (role_number r) 20 ≡ true = grind (arith, nat_tests, n) in absurd (cc (other, k))

sized-plain : (S : Setting) (k : Kind) → k ≢ Wild → (t : TypeId) (n : ℕ)
    → block_size S.table k t n ≡ (if holds_pointer S.table t then n - n % size_of S.table t else n)
sized-plain S Safe plain t n = refl
sized-plain S Rtti plain t n = refl
sized-plain S Seq plain t n = refl
sized-plain S Wild plain t n = absurd (plain refl)

elements-plain : (k : Kind) → k ≢ Wild → (q : Bool) → has_elements k q ≡ q
elements-plain Safe plain q = refl
elements-plain Rtti plain q = refl
elements-plain Seq plain q = refl
elements-plain Wild plain q = absurd (plain refl)

tagged-plain : (k : Kind) → k ≢ Wild → is_tagged_kind k ≡ false
tagged-plain Safe plain = refl
tagged-plain Rtti plain = refl
tagged-plain Seq plain = refl
tagged-plain Wild plain = absurd (plain refl)

-- `void` holds no pointer
void-holds : (S : Setting) → IsWellFormed S.table → (t : TypeId) → shape_at S.table t ≡ shape.Void → holds_pointer S.table t ≡ false
void-holds S sound t e = holds_is S.table sound t ∙ ap (λ (h : TypeShape). holds_in_shape (holds_pointer S.table) h (members_at S.table t)) e

-- a quotient by what isn't 0
pub quotient-runs : (ctx : Context) (c : flat.Local) (v a d : ℕ) (rest : Lines) → 0 < slot c d
    → run (flat_instr.Divu v a d ∷ rest) ctx c ≡ run rest ctx (with_slot v (quotient_words (slot c a) (slot c d)) c)
quotient-runs ctx c v a d rest some =
    ap (λ (q : Bool). from (allowed q (flat.Trap ctx.function) (goes (λ e. with_slot v (quotient_words (slot e a) (slot e d)) e)) c) (λ x. then_go x (run rest ctx)))
    (not-zero (slot c d) some)

-- whole elements of a size
whole-elements : (n m : ℕ) → 0 < m → n - n % m ≡ n / m * m
whole-elements n m some = let h : n / m * m + n % m ≡ n = div-add-mod' n m in omega (arith, h)

module _ (w : Scene) (names : Names w) (count : length w.programs.parts.functions ≡ suc (length (setting_of w.programs).functions)) (g : AreSlots w.slots) (b : Running)
    (known : Knowledge) (l : code.Local) (c : flat.Local) (p : Point w g b known l c) (node : NodeId) (t : TypeId) (plain : w.programs.whole.kind node ≢ Wild)
    (makes : MakesBlocks (setting_of w.programs) node t) (n : ℕ) (below : n < 2 ^ 64) (a : ℕ) (amount : IsAmount w g a) (is : slot c a ≡ n) where
  abbrev long : ℕ
  long = block_size w.programs.whole.table (w.programs.whole.kind node) t n

  abbrev own_cells : List Cell
  own_cells = block_cells (cells_of w.programs.whole.table t) (block_size w.programs.whole.table (w.programs.whole.kind node) t n)

  -- bytes that are no pointers'
  bytes-made : holds_pointer w.programs.whole.table t ≡ false
      → BlockMade w g b known l node t (allocate (setting_of w.programs) node t n l.state) a (flat_instr.New false (slot_of w.slots Made) a a ∷ []) c
  bytes-made none = new-made w names count g b known l c p node t plain makes n a a as-size
      (λ e. as-size ∙ sym (blocks-of-bytes (setting_of w.programs) t long names.solved.well_formed none)) (amount-apart w g a amount Made refl) (inl (as-size, none))
    where
      as-size : slot c a ≡ long
      as-size = is ∙ sym (sized-plain (setting_of w.programs) (w.programs.whole.kind node) plain t n
          ∙ ap (λ (q : Bool). if q then n - n % size_of w.programs.whole.table t else n) none)

  -- whole elements, which grow
  module _ (holds : holds_pointer w.programs.whole.table t ≡ true) where
    complete : IsComplete w.programs.whole.table t
    complete = by makes
      where
        by : MakesBlocks (setting_of w.programs) node t → IsComplete w.programs.whole.table t
        by (inl void) = absurd (let e = void-holds (setting_of w.programs) names.solved.well_formed t void in cc (e, holds))
        by (inr h) = h.0

    abbrev m : ℕ
    m = size_of w.programs.whole.table t

    some : 0 < m
    some = let h = complete-some w.programs.whole.table names.solved.well_formed t complete in let a = h.0 in let e = h.1 in omega (arith, a, e)

    size-is : long ≡ n / m * m
    size-is = sized-plain (setting_of w.programs) (w.programs.whole.kind node) plain t n
        ∙ ap (λ (q : Bool). if q then n - n % size_of w.programs.whole.table t else n) holds ∙ whole-elements n m some

    -- the bytes that C has room for are few
    few : nat_le (l.state.memory.heap_bytes + charge_of long) heap_limit ≡ true → long < 2 ^ 23
    few h = less l.state.memory.heap_bytes long h
      where
        less : (x y : ℕ) → nat_le (x + (y + 16)) 4194304 ≡ true → y < 2 ^ 23
        less x y h = grind (arith, nat_tests, h)

    elements-made : (seat : Seat) (lines : Lines)
        → Then (Gets (world_of w) Size (Number (rules.source_size w.programs.whole t)) (seat Size))
        (Then (Gets (world_of w) Offset (Number (rules.cured_size w.programs.whole t)) (seat Offset))
        (Line (flat_instr.Divu (slot_of w.slots Charge) a (seat Size) ∷ flat_instr.Mul (slot_of w.slots Bytes) (slot_of w.slots Charge) (seat Offset)
        ∷ flat_instr.Mul (slot_of w.slots Charge) (slot_of w.slots Charge) (seat Size)
        ∷ flat_instr.New false (slot_of w.slots Made) (slot_of w.slots Bytes) (slot_of w.slots Charge) ∷ []))) lines
        → BlockMade w g b known l node t (allocate (setting_of w.programs) node t n l.state) (slot_of w.slots Bytes) lines c
    unfolding Line Then
    elements-made seat lines (one, rest, gets, (two, last, again, are, is_rest), is_lines) = record {
      pointer = y.pointer;
      next = y.next;
      source_goes = y.source_goes;
      after = y.after;
      runs = λ more. ap (λ (js : Lines). run (js ++ more) (context_of w b) c) is_lines ∙ ap (λ (js : Lines). run js (context_of w b) c) (append-append one rest more)
          ∙ z1.runs (rest ++ more) ∙ ap (λ (js : Lines). run (js ++ more) (context_of w b) z1.after) is_rest
          ∙ ap (λ (js : Lines). run js (context_of w b) z1.after) (append-append two last more) ∙ z2.runs (last ++ more)
          ∙ ap (λ (js : Lines). run (js ++ more) (context_of w b) z2.after) are
          ∙ quotient-runs (context_of w b) z2.after (slot_of w.slots Charge) a (seat Size)
          (flat_instr.Mul (slot_of w.slots Bytes) (slot_of w.slots Charge) (seat Offset) ∷ flat_instr.Mul (slot_of w.slots Charge) (slot_of w.slots Charge) (seat Size)
          ∷ flat_instr.New false (slot_of w.slots Made) (slot_of w.slots Bytes) (slot_of w.slots Charge) ∷ more) (let e = size_stays in let h = some in omega (arith, e, h))
          ∙ y.runs more;
      point = y.point;
      grows = subst (λ (x : flat.State). Grows w.programs b.depth l.state y.next x y.after.state) (z2.state ∙ z1.state) y.grows;
      passed = passed-then w g c.slots d3.slots y.after.slots passed3 y.passed;
      gives = y.gives;
      is = y.is;
    }
      where
        z1 : Got w g (context_of w b) one c (seat Size) (rules.source_size w.programs.whole t)
        z1 = got-number w g b known l c p Size (omega arith) (rules.source_size w.programs.whole t) (seat Size) one gets

        p1 : Point w g b known l z1.after
        p1 = passed-point w g b known l c z1.after p z1.state z1.passed

        z2 : Got w g (context_of w b) two z1.after (seat Offset) (rules.cured_size w.programs.whole t)
        z2 = got-number w g b known l z1.after p1 Offset (omega arith) (rules.cured_size w.programs.whole t) (seat Offset) two again

        source_is : rules.source_size w.programs.whole t ≡ m
        source_is = ap (λ (q : Bool). if q then size_of w.programs.whole.table t else 0) complete

        -- the operands before the lines
        size_stays : slot z2.after (seat Size) ≡ m
        size_stays = got-spares w g b z1.after Offset (rules.cured_size w.programs.whole t) (seat Offset) two again z2 Size refl (seat Size)
            (got-spot w g Size (rules.source_size w.programs.whole t) (seat Size) one gets) ∙ z1.is ∙ source_is

        amount_stays : slot z2.after a ≡ n
        amount_stays = got-spares w g b z1.after Offset (rules.cured_size w.programs.whole t) (seat Offset) two again z2 Amount refl a amount
            ∙ got-spares w g b c Size (rules.source_size w.programs.whole t) (seat Size) one gets z1 Amount refl a amount ∙ is

        k : ℕ
        k = n / m

        d1 : flat.Local
        d1 = with_slot (slot_of w.slots Charge) (quotient_words (slot z2.after a) (slot z2.after (seat Size))) z2.after

        d2 : flat.Local
        d2 = with_slot (slot_of w.slots Bytes) (product_words (slot d1 (slot_of w.slots Charge)) (slot d1 (seat Offset))) d1

        d3 : flat.Local
        d3 = with_slot (slot_of w.slots Charge) (product_words (slot d2 (slot_of w.slots Charge)) (slot d2 (seat Size))) d2

        count2 : length z2.after.slots ≡ w.slots.count
        count2 = z2.passed.long ∙ z1.passed.long ∙ p.count

        count1 : length d1.slots ≡ w.slots.count
        count1 = length-set z2.after.slots (slot_of w.slots Charge) (quotient_words (slot z2.after a) (slot z2.after (seat Size))) ∙ count2

        count3 : length d2.slots ≡ w.slots.count
        count3 = length-set d1.slots (slot_of w.slots Bytes) (product_words (slot d1 (slot_of w.slots Charge)) (slot d1 (seat Offset))) ∙ count1

        -- the seats are none of the slots that are written
        seat-apart : (r q : Role) (x v : ℕ) (js : Lines) → Gets (world_of w) r (Number x) v js → nat_eq (role_number r) (role_number q) ≡ false → v ≢ slot_of w.slots q
        seat-apart r q x v js h other e = by (got-spot w g r x v js h)
          where
            by : IsLasting (g.owner v) ⊎ (v ≡ slot_of w.slots r) → ⊥
            by (inl lasts) = lasting-apart w g v (role_number q) lasts (role-below q) e
            by (inr f) = let s : role_number r ≡ role_number q = omega (arith, e, f) in
                let y : nat_eq (role_number r) (role_number q) ≡ true = grind (arith, nat_tests, s) in absurd (cc (other, y))

        size_apart : (q : Role) → nat_eq 4 (role_number q) ≡ false → seat Size ≢ slot_of w.slots q
        size_apart q other = seat-apart Size q (rules.source_size w.programs.whole t) (seat Size) one gets other

        offset_apart : (q : Role) → nat_eq 13 (role_number q) ≡ false → seat Offset ≢ slot_of w.slots q
        offset_apart q other = seat-apart Offset q (rules.cured_size w.programs.whole t) (seat Offset) two again other

        roles_apart : slot_of w.slots Charge ≢ slot_of w.slots Bytes
        roles_apart e = omega (arith, e)

        charge1 : slot d1 (slot_of w.slots Charge) ≡ k
        charge1 = get_or-set_same z2.after.slots (slot_of w.slots Charge) (quotient_words (slot z2.after a) (slot z2.after (seat Size))) 0
            (let r = role-there w g Charge in let q = count2 in omega (arith, r, q))
            ∙ ap (λ (x : ℕ). x / slot z2.after (seat Size)) amount_stays ∙ ap (λ (x : ℕ). n / x) size_stays

        offset1 : slot d1 (seat Offset) ≡ rules.cured_size w.programs.whole t
        offset1 = get_or-set_other z2.after.slots (slot_of w.slots Charge) (seat Offset) (quotient_words (slot z2.after a) (slot z2.after (seat Size))) 0 (λ e. offset_apart Charge refl e) ∙ z2.is

        bytes2 : slot d2 (slot_of w.slots Bytes) ≡ product_words k (rules.cured_size w.programs.whole t)
        bytes2 = get_or-set_same d1.slots (slot_of w.slots Bytes) (product_words (slot d1 (slot_of w.slots Charge)) (slot d1 (seat Offset))) 0
            (let r = role-there w g Bytes in let q = count1 in omega (arith, r, q))
            ∙ ap (λ (x : ℕ). product_words x (slot d1 (seat Offset))) charge1 ∙ ap (product_words k) offset1

        charge2 : slot d2 (slot_of w.slots Charge) ≡ k
        charge2 = get_or-set_other d1.slots (slot_of w.slots Bytes) (slot_of w.slots Charge) (product_words (slot d1 (slot_of w.slots Charge)) (slot d1 (seat Offset))) 0 roles_apart ∙ charge1

        size2 : slot d2 (seat Size) ≡ m
        size2 = get_or-set_other d1.slots (slot_of w.slots Bytes) (seat Size) (product_words (slot d1 (slot_of w.slots Charge)) (slot d1 (seat Offset))) 0 (λ e. size_apart Bytes refl e)
            ∙ get_or-set_other z2.after.slots (slot_of w.slots Charge) (seat Size) (quotient_words (slot z2.after a) (slot z2.after (seat Size))) 0 (λ e. size_apart Charge refl e) ∙ size_stays

        no_more : n / m * m ≤ n
        no_more = let h : n / m * m + n % m ≡ n = div-add-mod' n m in omega (arith, h)

        charge3 : slot d3 (slot_of w.slots Charge) ≡ long
        charge3 = get_or-set_same d2.slots (slot_of w.slots Charge) (product_words (slot d2 (slot_of w.slots Charge)) (slot d2 (seat Size))) 0
            (let r = role-there w g Charge in let q = count3 in omega (arith, r, q))
            ∙ ap (λ (x : ℕ). product_words x (slot d2 (seat Size))) charge2 ∙ ap (product_words k) size2
            ∙ mod-eq_of_lt (let h = no_more in let q = below in omega (arith, h, q)) ∙ sym size-is

        bytes3 : slot d3 (slot_of w.slots Bytes) ≡ product_words k (rules.cured_size w.programs.whole t)
        bytes3 = get_or-set_other d2.slots (slot_of w.slots Charge) (slot_of w.slots Bytes) (product_words (slot d2 (slot_of w.slots Charge)) (slot d2 (seat Size))) 0 (λ e. roles_apart (sym e)) ∙ bytes2

        -- where C has room, the product is exact
        whole : nat_le (l.state.memory.heap_bytes + charge_of long) heap_limit ≡ true
            → slot d3 (slot_of w.slots Bytes) ≡ k * cured_size w.programs.whole.table w.programs.whole.kind t
        whole h = bytes3 ∙ ap (product_words k) (names.sizes.size t complete)
            ∙ mod-eq_of_lt (product-below k m (cured_size w.programs.whole.table w.programs.whole.kind t) some
            (let f = few h in let e = size-is in omega (arith, f, e)) (small (setting_of w.programs) names.solved.well_formed t complete))

        passed3 : Passed w g c.slots d3.slots
        passed3 = passed-then w g c.slots z1.after.slots d3.slots z1.passed (passed-then w g z1.after.slots z2.after.slots d3.slots z2.passed
            (passed-then w g z2.after.slots d1.slots d3.slots (passed-role w g z2.after.slots Charge (quotient_words (slot z2.after a) (slot z2.after (seat Size))))
            (passed-then w g d1.slots d2.slots d3.slots (passed-role w g d1.slots Bytes (product_words (slot d1 (slot_of w.slots Charge)) (slot d1 (seat Offset))))
            (passed-role w g d2.slots Charge (product_words (slot d2 (slot_of w.slots Charge)) (slot d2 (seat Size)))))))

        p3 : Point w g b known l d3
        p3 = passed-point w g b known l c d3 p (z2.state ∙ z1.state) passed3

        y : BlockMade w g b known l node t (allocate (setting_of w.programs) node t n l.state) (slot_of w.slots Bytes)
            (flat_instr.New false (slot_of w.slots Made) (slot_of w.slots Bytes) (slot_of w.slots Charge) ∷ []) d3
        y = new-made w names count g b known l d3 p3 node t plain makes n (slot_of w.slots Bytes) (slot_of w.slots Charge) charge3
            (λ h. whole h ∙ sym (blocks-of-elements (setting_of w.programs) t k names.solved.well_formed complete)
            ∙ ap (λ (x : ℕ). width_of w.programs.whole.kind (block_cells (cells_of w.programs.whole.table t) x)) (sym size-is))
            (λ e. omega (arith, e)) (inr (k, size-is, whole))

  -- all of them
  pub block-lines : (seat : Seat) (d : ℕ) (lines : Lines) → MakesBlock (world_of w) seat (w.programs.whole.kind node) t a d lines
      → BlockMade w g b known l node t (allocate (setting_of w.programs) node t n l.state) d lines c
  unfolding Line Then
  block-lines seat d lines h = by (holds_pointer w.programs.whole.table t) refl
      (subst (λ (q : Bool). BlockBy q (world_of w) seat (w.programs.whole.kind node) t a d lines) (elements-plain (w.programs.whole.kind node) plain (holds_pointer w.programs.whole.table t)) h)
    where
      by : (q : Bool) → holds_pointer w.programs.whole.table t ≡ q → BlockBy q (world_of w) seat (w.programs.whole.kind node) t a d lines
          → BlockMade w g b known l node t (allocate (setting_of w.programs) node t n l.state) d lines c
      by false e (same, line) =
          subst (λ (x : ℕ). BlockMade w g b known l node t (allocate (setting_of w.programs) node t n l.state) x lines c) (sym same)
          (subst (λ (js : Lines). BlockMade w g b known l node t (allocate (setting_of w.programs) node t n l.state) a js c)
          (sym (line ∙ ap (λ (q : Bool). flat_instr.New q (slot_of w.slots Made) a a ∷ []) (tagged-plain (w.programs.whole.kind node) plain))) (bytes-made e))
      by true e (same, pieces) =
          subst (λ (x : ℕ). BlockMade w g b known l node t (allocate (setting_of w.programs) node t n l.state) x lines c) (sym same)
          (elements-made e seat lines (subst (λ (q : Bool). Then (Gets (world_of w) Size (Number (rules.source_size w.programs.whole t)) (seat Size))
          (Then (Gets (world_of w) Offset (Number (rules.cured_size w.programs.whole t)) (seat Offset))
          (Line (flat_instr.Divu (slot_of w.slots Charge) a (seat Size) ∷ flat_instr.Mul (slot_of w.slots Bytes) (slot_of w.slots Charge) (seat Offset)
          ∷ flat_instr.Mul (slot_of w.slots Charge) (slot_of w.slots Charge) (seat Size)
          ∷ flat_instr.New q (slot_of w.slots Made) (slot_of w.slots Bytes) (slot_of w.slots Charge) ∷ []))) lines) (tagged-plain (w.programs.whole.kind node) plain) pieces))
