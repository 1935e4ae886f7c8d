-- Copies of structs and unions that hold pointers, between objects without tags: each pointer is loaded and passes ESCAPE, and then the bytes move.
use Rattle.std.proofs.Common.{◌≡◌, ◌≢◌, ◌⊎◌, inl, inr, ℕ, zero, suc, ◌+◌, ◌^◌, ◌<◌, ◌≤◌, pos, ◌+ℤ◌, Bool, true, false, List, [], ◌∷◌, ◌++◌, length, slice_get, slice_index, Option, Some, None, is_none, refl, ap, sym, subst, ◌∙◌, arith, get_or-set_same, get_or-set_other, if◌then◌else◌}
use Rattle.std.proofs.Math.Nat.{mod-eq_of_lt}
use Rattle.std.proofs.lemmas.Int.{ints}
use Rattle.std.proofs.lemmas.Option.{slice_get_within}
use Rattle.cc_base.specs.declared.fault.Check.TheVariants as check
use Rattle.cc_base.specs.declared.kind.Kind.{Kind}
use Rattle.cc_base.specs.declared.kind.Kind.TheVariants.{Safe, Seq, Rtti, Wild}
use Rattle.cc_base.specs.declared.number.NodeId.{NodeId}
use Rattle.cc_base.specs.declared.number.TypeId.{TypeId}
use Rattle.cc_base.specs.declared.place.Place.{Place}
use Rattle.c_types.specs.declared.shape.TypeShape.TheVariants as shape
use Rattle.c_types.specs.Table.{Table, IsComplete, is_function, shape_at}
use Rattle.c_types.specs.Cells.{Cell, raw, pointer, mixed, incomplete, IsBetweenPointers}
use Rattle.c_types.specs.Equality.{cells_of, physically_equal}
use Rattle.c_types.specs.Flows.{CellsAgree, HeldPointer, and_then, pointer_at, pointer_in_cell}
use Rattle.c_types.specs.Sound.{IsWellFormed}
use Rattle.c_types.specs.Widths.{before}
use Rattle.c_types.proofs.OrderedPointers.{cells_ordered, pointer_bytes}
use Rattle.c_types.proofs.WholePointers.{cells_whole}
use Rattle.type_laws.proofs.OneClass.{data-pointer}
use Rattle.constraint_laws.proofs.Held.{held-in-table}
use Rattle.integers.specs.Operators.{sum_words}
use Rattle.runs.specs.Outcome.{Outcome, Done, done, from}
use Rattle.runs.specs.Control.{Goes, then_go}
use Rattle.flat_mem.specs.Bytes.{bytes_at, written}
use Rattle.src_mem.specs.Pointers.{Location, Pointer, At}
use Rattle.src_mem.specs.Memory.{Memory}
use Rattle.src_mem.specs.State as source_state
use Rattle.src_mem.specs.State.{Setting}
use Rattle.src_mem.specs.Checks.{Outlives, checked}
use Rattle.src_mem.specs.Primitives.{load_pointer}
use Rattle.src_mem.specs.Uses.{forward, load_pointers}
use Rattle.src_mem.specs.Outlines.{Outline, outline, outlines_of, lives_of, LivesAt}
use Rattle.src_mem.specs.Facts.{HoldType, IsSoundAt, IsHeldIn, IsPlaceAt, IsPlaceIn, IsTypedPlace}
use Rattle.src_mem.specs.Laws.{Gives}
use Rattle.src_mem.proofs.Outlines.{get-mapped}
use Rattle.src_mem.proofs.Right.{pointer_cells_are}
use Rattle.facts_kept.specs.Kept.{GivesPointer}
use Rattle.facts_kept.proofs.Complete.{complete-data, complete-some}
use Rattle.facts_kept.proofs.Reading.{gives-loaded}
use Rattle.cil_form.specs.State as code
use Rattle.cil_form.specs.State.{beside}
use Rattle.cured_code.specs.declared.instr.Instr.TheVariants as flat_instr
use Rattle.cured_code.specs.FlatState as flat
use Rattle.cured_code.specs.FlatState.{slot, with_slot}
use Rattle.cured_code.specs.FlatMachine.{run}
use Rattle.check_forms.specs.declared.slots.PointerSlots.{PointerSlots}
use Rattle.check_forms.specs.declared.op.Op.TheVariants as op
use Rattle.check_forms.specs.Pieces.{Line, Then}
use Rattle.check_forms.specs.Conditions.{IsNoDeeper, flat_holds}
use Rattle.check_forms.specs.Lines.{IsOther}
use Rattle.check_forms.specs.Rows.{Asked, asked, home_slot}
use Rattle.check_forms.specs.RowChecks.{first_false, stopped_by}
use Rattle.check_forms.proofs.TestLaws.{append-append}
use Rattle.sim_checks.specs.Rows.{AreWordsOf, IsChecked}
use Rattle.sim_checks.proofs.Addresses.{there}
use Rattle.sim_checks.proofs.Escape.{escape-compared}
use Rattle.sim_relation.specs.Ground.{Ground, address, pointer_words, word_number}
use Rattle.sim_relation.specs.Points.{Knowledge, Number}
use Rattle.sim_relation.specs.Related as relation
use Rattle.sim_relation.proofs.Pointers.{row-length}
use Rattle.sim_memory.specs.Found.{IsFound, loading}
use Rattle.sim_memory.specs.Laws.{PointerIsLoaded}
use Rattle.sim_memory.proofs.Copying.{before-held}
use Rattle.sim_memory.proofs.Loading.{pointers-loaded}
use Rattle.cure_rules.specs.Slots.{AreSlots, Role, Address as AddressRole, Made, Offset, Word, OtherWord, ThirdWord, role_number, slot_of, work_of}
use Rattle.cure_rules.specs.Known.{Gets, pointer_slots}
use Rattle.cure_rules.specs.Checks.{Seat, IsGuarded}
use Rattle.cure_rules.specs.Pointing.{cured_offset}
use Rattle.cure_rules.specs.Accesses.{CellsKept, words_loaded}
use Rattle.cure_rules.specs.Code.{Blocks}
use Rattle.sim_laws.specs.Scenes.{Scene, Running, setting_of, world_of, context_of}
use Rattle.sim_laws.specs.Points.{Point, IsLasting, Passed, ground_of}
use Rattle.sim_laws.specs.Statements.{Lines, CodeOutcome, FlatOutcome, Match}
use Rattle.sim_laws.proofs.Points.{unwritten}
use Rattle.sim_laws.proofs.Guards.{Got, got-number, lasting-apart, lasting-other, passed-role, passed-then, role-other, role-there}
use Rattle.sim_laws.proofs.Names.{Names}
use Rattle.sim_laws.proofs.Checks.{Sparing, StopsAlike, got-spares, guarded-sparing, passed-point, stops-together}
use Rattle.sim_laws.proofs.Giving.{Changed}
use Rattle.sim_laws.proofs.Rows.{changed-written}
use Rattle.sim_laws.proofs.Sets.{few-words}
use Rattle.sim_laws.proofs.Reaching.{IsSlotOf, words-of}
use Rattle.sim_laws.proofs.Aiming.{first-slot, home-slot, words-same}
use Rattle.sim_laws.proofs.Accessing.{guard-changes, written-row}
use Rattle.sim_laws.proofs.Stays.{grounds-kept, grows-kept, there-kept}

-- What stands in a type

-- where a type has a pointer, its cell begins
pointer-begins : (table : Table) (t : TypeId) (i : ℕ) (x : HeldPointer) → is_function table t ≡ false → pointer_at table t i ≡ Some x
    → slice_get (cells_of table t) i ≡ Some (pointer x.node x.to 0)
pointer-begins table t i x data_type h = of (slice_get (cells_of table t) i) refl (sym (data-pointer table t (shape_at table t) i data_type) ∙ h)
  where
    of : (r : Option Cell) → slice_get (cells_of table t) i ≡ r → and_then r pointer_in_cell ≡ Some x → slice_get (cells_of table t) i ≡ Some (pointer x.node x.to 0)
    of None e k = absurd (cc (k))
    of (Some raw) e k = absurd (cc (k))
    of (Some (mixed v j)) e k = absurd (cc (k))
    of (Some (incomplete v)) e k = absurd (cc (k))
    of (Some (pointer node to zero)) e k =
        let z : record { node = node; to = to } ≡ x = cc (k) in e ∙ ap (λ (y : HeldPointer). Some (pointer y.node y.to 0)) z
    of (Some (pointer node to (suc j))) e k = absurd (cc (k))

-- v is the type of a pointer that begins at this byte of t
module _ (w : Setting) (sound : IsWellFormed w.table) (t v : TypeId) (i : ℕ) (n : NodeId) (u : TypeId) (begins : slice_get (cells_of w.table t) i ≡ Some (pointer n u 0))
    (is : shape_at w.table v ≡ shape.Pointer n u) where
  long : length (cells_of w.table v) ≡ 8
  long = ap length (pointer_cells_are w.table v n u is)

  within : i + 8 ≤ length (cells_of w.table t)
  within = cells_whole w.table sound (physically_equal w.table) t i n u begins

  own : (j : ℕ) → j ≤ 7 → slice_get (cells_of w.table v) j ≡ Some (pointer n u j)
  own j less = subst (λ (k : ℕ). slice_get (cells_of w.table v) k ≡ Some (pointer n u j)) (let e : 0 + j ≡ j = omega arith in e)
      (pointer_bytes (cells_of w.table v) 0 n u (cells_ordered w.table sound v) (ap (λ cs. slice_get cs 0) (pointer_cells_are w.table v n u is)) j less)

  holds-cell : (cells : List Cell) (at high : ℕ) → HoldType w cells at high t → HoldType w cells (at + i) high v
  holds-cell cells at high h = record {
    room = let r = h.room in let k = within in let m = long in omega (arith, r, k, m);
    agree = λ j d f. of j d f (let k = slice_get_within (cells_of w.table v) j d f in let m = long in omega (arith, k, m));
  }
    where
      of : (j : ℕ) (d : Cell) → slice_get (cells_of w.table v) j ≡ Some d → j ≤ 7
          → (c : Cell) × (slice_get cells (at + i + j) ≡ Some c) × CellsAgree w.table w.kind c d
      of j d f less =
          subst (λ (k : ℕ). (c : Cell) × (slice_get cells k ≡ Some c) × CellsAgree w.table w.kind c d) (let e : at + (i + j) ≡ at + i + j = omega arith in e)
          (h.agree (i + j) d (pointer_bytes (cells_of w.table t) i n u (cells_ordered w.table sound t) begins j less ∙ sym (own j less) ∙ f))

  -- no pointer of the object is cut there
  whole-cell : (cells : List Cell) (at high : ℕ) → HoldType w cells at high t → IsBetweenPointers cells (at + i)
  whole-cell cells at high h = record { whole = λ m y j e. of m y j e (h.agree i (pointer n u 0) begins) }
    where
      of : (m : NodeId) (y : TypeId) (j : ℕ) → slice_get cells (at + i) ≡ Some (pointer m y (suc j))
          → ((c : Cell) × (slice_get cells (at + i) ≡ Some c) × CellsAgree w.table w.kind c (pointer n u 0)) → ⊥
      of m y j e (c, found, agree) =
          let same : c ≡ pointer m y (suc j) = cc (found, e) in
          let both = subst (λ (d : Cell). CellsAgree w.table w.kind d (pointer n u 0)) same agree in
          let none : suc j ≡ 0 = both.0 in absurd (cc (none))

  pub forward-typed : (outlines : List Outline) (l : Location) → IsTypedPlace w outlines t l → IsTypedPlace w outlines v (record l { offset = l.offset +ℤ pos i })
  forward-typed outlines l p = record {
    object = p.object;
    at = p.at + i;
    located = record { found = p.located.found; ordered = p.located.ordered; inside = p.located.inside };
    typed = record { untagged = p.typed.untagged; low = p.typed.low; high = p.typed.high };
    stands = record {
      offset = ap (λ z. z +ℤ pos i) p.stands.offset ∙ plus p.at i;
      low = let a = p.stands.low in omega (arith, a);
      high = let a = p.holds.room in let b = within in omega (arith, a, b);
      whole = whole-cell p.object.cells p.at l.part.high p.holds;
    };
    holds = holds-cell p.object.cells p.at l.part.high p.holds;
  }
    where
      plus : (a b : ℕ) → pos a +ℤ pos b ≡ pos (a + b)
      plus a b = omega (arith, ints)

  pub forward-place : (k : Kind) → k ≢ Wild → (memory : Memory) (depth : ℕ) (p : Pointer) → IsPlaceIn w memory depth k t p → IsPlaceIn w memory depth k v (forward i p)
  forward-place k plain memory depth p h = record {
    location = record h.location { offset = h.location.offset +ℤ pos i };
    is = ap (forward i) h.is;
    place = by k plain h.place;
    reaches = h.reaches;
  }
    where
      by : (k : Kind) → k ≢ Wild → IsPlaceAt w (outlines_of memory) k t h.location
          → IsPlaceAt w (outlines_of memory) k v (record h.location { offset = h.location.offset +ℤ pos i })
      by Safe other x = forward-typed (outlines_of memory) h.location x
      by Rtti other x = forward-typed (outlines_of memory) h.location x
      by Seq other x = forward-typed (outlines_of memory) h.location x
      by Wild other x = absurd (other refl)

  pub forward-found : (number_of : TypeId → ℕ) (s : source_state.State) (c : flat.State) (p : Pointer) (a d : ℕ) → IsFound w number_of s c t p a
      → d ≡ a + before w.kind (cells_of w.table t) i → IsFound w number_of s c v (forward i p) d
  forward-found number_of s c p a d f at = record {
    location = record f.location { offset = f.location.offset +ℤ pos i };
    is = ap (forward i) f.is;
    object = f.object;
    at = f.at + i;
    found = f.found;
    live = f.live;
    untagged = f.untagged;
    offset = ap (λ z. z +ℤ pos i) f.offset ∙ plus f.at i;
    low = let x = f.low in omega (arith, x);
    holds = holds-cell f.object.cells f.at f.location.part.high f.holds;
    inside = f.inside;
    here =
        let x = before-held w sound t f.object.cells f.at f.location.part.high f.holds i (let k = within in omega (arith, k)) in
        let y = f.here in omega (arith, at, x, y);
  }
    where
      plus : (a b : ℕ) → pos a +ℤ pos b ≡ pos (a + b)
      plus a b = omega (arith, ints)

-- what was found is found in states with the same memory, where all stands where it stood
found-on : (w : Setting) (number_of : TypeId → ℕ) (s z : source_state.State) (c d : flat.State) (t : TypeId) (p : Pointer) (a e : ℕ) → z.memory ≡ s.memory
    → (f : IsFound w number_of s c t p a) → e ≡ a → ((n : ℕ) → address (relation.ground_of w number_of z d) n ≡ address (relation.ground_of w number_of s c) n)
    → IsFound w number_of z d t p e
found-on w number_of s z c d t p a e memory f same addresses = record {
  location = f.location;
  is = f.is;
  object = f.object;
  at = f.at;
  found = ap (λ (m : Memory). slice_get m.objects f.location.object) memory ∙ f.found;
  live = f.live;
  untagged = f.untagged;
  offset = f.offset;
  low = f.low;
  holds = f.holds;
  inside = f.inside;
  here = same ∙ f.here ∙ ap (λ (n : ℕ). n + before w.kind f.object.cells f.at) (sym (addresses f.location.object));
}

-- Lines

loading-line : (k : Kind) (v a : ℕ) → words_loaded k v a ≡ loading k v a ∷ []
loading-line Safe v a = refl
loading-line Rtti v a = refl
loading-line Seq v a = refl
loading-line Wild v a = refl

offset-plain : (w : Scene) (k : Kind) → k ≢ Wild → (t : TypeId) (i : ℕ) → cured_offset (world_of w) k t i ≡ w.programs.whole.offset t i
offset-plain w Safe plain t i = refl
offset-plain w Rtti plain t i = refl
offset-plain w Seq plain t i = refl
offset-plain w Wild plain t i = absurd (plain refl)

-- a slot that the cells' lines leave: one that lasts, or that of an address that was set
abbrev pub IsSpot : (w : Scene) → AreSlots w.slots → ℕ → Type 0
IsSpot w g a = IsLasting (g.owner a) ⊎ (a ≡ slot_of w.slots AddressRole)

spot-role : (w : Scene) (g : AreSlots w.slots) (a : ℕ) → IsSpot w g a → (r : Role) → role_number r < 24 → role_number r ≢ 15 → a ≢ slot_of w.slots r
spot-role w g a (inl lasts) r less other e = lasting-apart w g a (role_number r) lasts less e
spot-role w g a (inr is) r less other e = other (omega (arith, is, e))

spot-other : (w : Scene) (g : AreSlots w.slots) (a : ℕ) → IsSpot w g a → IsOther (work_of w.slots) a
spot-other w g a (inl lasts) = lasting-other w g a lasts
spot-other w g a (inr is) = subst (IsOther (work_of w.slots)) (sym is) (role-other w AddressRole (omega arith))

-- the three slots of a word on its way
word-role : (w : Scene) (j : ℕ) → j < 3 → (r : Role) × (slot_of w.slots Word + j ≡ slot_of w.slots r) × (4 ≤ role_number r)
word-role w zero less = (Word, omega arith, omega arith)
word-role w (suc zero) less = (OtherWord, omega arith, omega arith)
word-role w (suc (suc zero)) less = (ThirdWord, omega arith, omega arith)
word-role w (suc (suc (suc j))) less = absurd (omega (arith, less))

home-word : (w : Scene) (k : Kind) → IsOther (work_of w.slots) (home_slot k (pointer_slots (slot_of w.slots Word)))
home-word w Safe = role-other w Word (omega arith)
home-word w Rtti = role-other w Word (omega arith)
home-word w Seq = subst (IsOther (work_of w.slots)) (let e : slot_of w.slots OtherWord ≡ slot_of w.slots Word + 1 = omega arith in e) (role-other w OtherWord (omega arith))
home-word w Wild = subst (IsOther (work_of w.slots)) (let e : slot_of w.slots OtherWord ≡ slot_of w.slots Word + 1 = omega arith in e) (role-other w OtherWord (omega arith))

one-asked : (q : Bool) (a : Asked) → is_none (if q then None else Some a) ≡ q
one-asked true a = refl
one-asked false a = refl

module _ (w : Scene) (names : Names w) (g : AreSlots w.slots) (b : Running) (node home : NodeId) (t : TypeId) (assignment : Place) (known : Knowledge)
    (source target : PointerSlots) (plain : w.programs.whole.kind node ≢ Wild) (other : w.programs.whole.kind home ≢ Wild) (complete : IsComplete w.programs.whole.table t)
    (seat : Seat) (l : code.Local) (what onto : Pointer) (source_spot : IsSpot w g source.first)
    (target_spots : (a : ℕ) → IsSlotOf (w.programs.whole.kind home) target a → IsSpot w g a) where
  abbrev S : Setting
  S = setting_of w.programs

  -- what is so before each cell and behind it: the memory is as it was, and both sides are where they were
  pub record Ready (s : source_state.State) (c : flat.Local) : Type 0 where
    pub memory : s.memory ≡ l.state.memory
    pub point : Point w g b known (record l { state = s }) c
    pub placed : IsPlaceIn (setting_of w.programs) s.memory b.depth (w.programs.whole.kind node) t what
    pub held : IsHeldIn (setting_of w.programs) s.memory b.depth (w.programs.whole.kind home) t onto
    pub words : AreWordsOf (ground_of w.programs s c.state) (slot c) target (w.programs.whole.kind home) onto
    pub source_found : IsFound (setting_of w.programs) w.programs.whole.node s c.state t what (slot c source.first)
    pub target_found : IsFound (setting_of w.programs) w.programs.whole.node s c.state t onto (slot c target.first)

  ready-on : (s z : source_state.State) (c d : flat.Local) → Ready s c → z.memory ≡ s.memory → ground_of w.programs z d.state ≡ ground_of w.programs s c.state
      → Point w g b known (record l { state = z }) d → ((a : ℕ) → IsSpot w g a → slot d a ≡ slot c a) → Ready z d
  ready-on s z c d r memory grounds point same = record {
    memory = memory ∙ r.memory;
    point = point;
    placed = subst (λ (m : Memory). IsPlaceIn S m b.depth (w.programs.whole.kind node) t what) (sym memory) r.placed;
    held = subst (λ (m : Memory). IsHeldIn S m b.depth (w.programs.whole.kind home) t onto) (sym memory) r.held;
    words = subst (λ (gr : Ground). AreWordsOf gr (slot d) target (w.programs.whole.kind home) onto) (sym grounds)
        (words-same (ground_of w.programs s c.state) (w.programs.whole.kind home) target onto (slot c) (slot d) (λ a h. same a (target_spots a h)) r.words);
    source_found = found-on S w.programs.whole.node s z c.state d.state t what (slot c source.first) (slot d source.first) memory r.source_found (same source.first source_spot)
        (λ n. ap (λ (gr : Ground). address gr n) grounds);
    target_found = found-on S w.programs.whole.node s z c.state d.state t onto (slot c target.first) (slot d target.first) memory r.target_found
        (same target.first (target_spots target.first (first-slot (w.programs.whole.kind home) target))) (λ n. ap (λ (gr : Ground). address gr n) grounds);
  }

  -- a cell's lines: C has loaded the pointer, and both have asked
  record Stepped (s : source_state.State) (c : flat.Local) (i : ℕ) (lines : Lines) : Type 0 where
    value : Pointer
    next : source_state.State
    after : flat.Local
    stop : Option Asked
    source_goes : load_pointer (w.programs.whole.kind node) (forward i what) s ≡ Done value next
    alike : StopsAlike stop (checked (setting_of w.programs) assignment (Outlives onto value) next) next
    runs : (rest : Lines) → run (lines ++ rest) (context_of w b) c ≡ from (stopped_by stop after) (λ x. then_go x (run rest (context_of w b)))
    ready : Ready next after

  -- one cell
  module _ (s : source_state.State) (c : flat.Local) (r : Ready s c) (i : ℕ) (x : HeldPointer) (listed : pointer_at w.programs.whole.table t i ≡ Some x) (l1 l2 l3 : Lines)
      (gets : Gets (world_of w) Offset (Number (cured_offset (world_of w) (w.programs.whole.kind node) t i)) (seat Offset) l1)
      (adds : l2 ≡ flat_instr.Add (slot_of w.slots Made) source.first (seat Offset) ∷ words_loaded (w.programs.whole.kind x.node) (slot_of w.slots Word) (slot_of w.slots Made))
      (guard : IsGuarded (world_of w) (op.KeepCell (home_slot (w.programs.whole.kind x.node) (pointer_slots (slot_of w.slots Word))) (home_slot (w.programs.whole.kind home) target))
      (w.programs.whole.kind node) assignment l3) where
    begins : slice_get (cells_of w.programs.whole.table t) i ≡ Some (pointer x.node x.to 0)
    begins = pointer-begins w.programs.whole.table t i x (complete-data w.programs.whole.table names.solved.well_formed t complete) listed

    -- the type of the pointer that stands there
    typed : (v : TypeId) × (shape_at w.programs.whole.table v ≡ shape.Pointer x.node x.to)
    typed = let h = held-in-table w.programs.whole.table t i x listed in (h.0, h.1.1)

    between : IsBetweenPointers (cells_of w.programs.whole.table t) i
    between = record { whole = λ m y j e. absurd (cc (begins, e)) }

    abbrev far : ℕ
    far = cured_offset (world_of w) (w.programs.whole.kind node) t i

    far-is : cured_offset (world_of w) (w.programs.whole.kind node) t i ≡ before w.programs.whole.kind (cells_of w.programs.whole.table t) i
    far-is = offset-plain w (w.programs.whole.kind node) plain t i
        ∙ names.sizes.offset t i complete
        (let k = within S names.solved.well_formed t typed.0 i x.node x.to begins typed.1 in
        let e = (complete-some w.programs.whole.table names.solved.well_formed t complete).1 in omega (arith, k, e)) between

    z1 : Got w g (context_of w b) l1 c (seat Offset) (cured_offset (world_of w) (w.programs.whole.kind node) t i)
    z1 = got-number w g b known (record l { state = s }) c r.point Offset (omega arith) far (seat Offset) l1 gets

    spot-one : (a : ℕ) → IsSpot w g a → slot z1.after a ≡ slot c a
    spot-one a h = got-spares w g b c Offset far (seat Offset) l1 gets z1 AddressRole refl a h

    abbrev sum : ℕ
    sum = sum_words (slot z1.after source.first) (slot z1.after (seat Offset))

    abbrev c1 : flat.Local
    c1 = with_slot (slot_of w.slots Made) sum z1.after

    passed1 : Passed w g c.slots (c1).slots
    passed1 = passed-then w g c.slots z1.after.slots (c1).slots z1.passed (passed-role w g z1.after.slots Made sum)

    p1 : Point w g b known (record l { state = s }) c1
    p1 = passed-point w g b known (record l { state = s }) c c1 r.point z1.state passed1

    spot-two : (a : ℕ) → IsSpot w g a → slot c1 a ≡ slot c a
    spot-two a h = get_or-set_other z1.after.slots (slot_of w.slots Made) a sum 0 (λ e. spot-role w g a h Made (omega arith) (λ f. omega (arith, f)) e) ∙ spot-one a h

    -- where the cell stands
    small : slot c source.first + before w.programs.whole.kind (cells_of w.programs.whole.table t) i < 2 ^ 64
    small =
        let f = r.source_found in
        let same : r.placed.location ≡ f.location = (let d : At r.placed.location ≡ At f.location = sym r.placed.is ∙ f.is in cc (d)) in
        let lives : LivesAt (lives_of s.memory) b.depth f.location.object = subst (λ (y : Location). LivesAt (lives_of s.memory) b.depth y.object) same r.placed.reaches in
        let h = there S w.programs.whole.node s c.state r.point.there.related b.depth f.location.object (f.at + i) (outline f.object)
        (get-mapped outline s.memory.objects f.location.object f.object f.found) lives f.untagged in
        let y = before-held S names.solved.well_formed t f.object.cells f.at f.location.part.high f.holds i
        (let k = within S names.solved.well_formed t typed.0 i x.node x.to begins typed.1 in omega (arith, k)) in
        let e = f.here in let is = h.is in let below = h.below in omega (arith, e, is, below, y)

    made-is : slot c1 (slot_of w.slots Made) ≡ slot c source.first + before w.programs.whole.kind (cells_of w.programs.whole.table t) i
    made-is =
        get_or-set_same z1.after.slots (slot_of w.slots Made) sum 0 (let k = role-there w g Made in let m = z1.passed.long in let n = r.point.count in omega (arith, k, m, n))
        ∙ ap (λ (n : ℕ). sum_words n (slot z1.after (seat Offset))) (spot-one source.first source_spot)
        ∙ ap (sum_words (slot c source.first)) (z1.is ∙ far-is)
        ∙ mod-eq_of_lt small

    -- it is loaded
    found1 : IsFound S w.programs.whole.node s (c1).state typed.0 (forward i what) (slot c1 (slot_of w.slots Made))
    found1 = subst (λ (y : flat.State). IsFound S w.programs.whole.node s y typed.0 (forward i what) (slot c1 (slot_of w.slots Made))) (sym z1.state)
        (forward-found S names.solved.well_formed t typed.0 i x.node x.to begins typed.1 w.programs.whole.node s c.state what (slot c source.first) (slot c1 (slot_of w.slots Made))
        r.source_found made-is)

    y : PointerIsLoaded S w.programs.whole.node (w.programs.whole.kind node) x.node (forward i what) s (context_of w b) (slot_of w.slots Word) (slot_of w.slots Made) c1
    y = pointers-loaded S w.programs.sites w.programs.whole.node (w.programs.whole.kind node) typed.0 x.node x.to (forward i what) s (context_of w b) (slot_of w.slots Word)
        (slot_of w.slots Made) c1 names.solved.well_formed plain typed.1 r.point.there.facts.objects p1.there.related found1

    gives : GivesPointer S w.programs.sites b.depth (w.programs.whole.kind x.node) x.to s y.pointer y.goes_on.next
    gives = subst (λ (o : Outcome source_state.Ending source_state.State Pointer). Gives o (GivesPointer S w.programs.sites b.depth (w.programs.whole.kind x.node) x.to s)) y.goes_on.source_goes
        (gives-loaded S names.solved.well_formed w.programs.sites typed.0 x.to x.node typed.1 s b.depth r.point.there.facts.objects (w.programs.whole.kind node) plain (forward i what)
        (forward-place S names.solved.well_formed t typed.0 i x.node x.to begins typed.1 (w.programs.whole.kind node) plain s.memory b.depth what r.placed))

    held-next : IsHeldIn S y.goes_on.next.memory b.depth (w.programs.whole.kind x.node) x.to y.pointer
    held-next = subst (λ (m : Memory). IsHeldIn S m b.depth (w.programs.whole.kind x.node) x.to y.pointer) (sym y.memory) gives.held

    abbrev row : List ℕ
    row = pointer_words (ground_of w.programs s (c1).state) (w.programs.whole.kind x.node) y.pointer

    wide : length (pointer_words (ground_of w.programs s (c1).state) (w.programs.whole.kind x.node) y.pointer) ≡ word_number (w.programs.whole.kind x.node)
    wide = row-length (w.programs.whole.kind x.node) _ _ _

    few : length (pointer_words (ground_of w.programs s (c1).state) (w.programs.whole.kind x.node) y.pointer) ≤ 3
    few = let e = wide in let k = few-words (w.programs.whole.kind x.node) in omega (arith, e, k)

    wrote : Changed (length (pointer_words (ground_of w.programs s (c1).state) (w.programs.whole.kind x.node) y.pointer)) (slot_of w.slots Word) (c1).slots y.goes_on.after.slots
    wrote = subst (λ (xs : List ℕ). Changed (length row) (slot_of w.slots Word) (c1).slots xs) (sym y.goes_on.slots_are) (changed-written row (c1).slots (slot_of w.slots Word))

    passed2 : Passed w g (c1).slots y.goes_on.after.slots
    passed2 = record {
      others = λ a lasts. wrote.others a (λ j less e. lasting-apart w g a (17 + j) lasts (let k = few in omega (arith, less, k)) (omega (arith, e)));
      long = wrote.long;
    }

    spot-three : (a : ℕ) → IsSpot w g a → slot y.goes_on.after a ≡ slot c1 a
    spot-three a h = wrote.others a (λ j less e. word-apart a j h (let k = few in omega (arith, less, k)) e)
      where
        word-apart : (a j : ℕ) → IsSpot w g a → j < 3 → a ≡ slot_of w.slots Word + j → ⊥
        word-apart a j (inl lasts) less e = lasting-apart w g a (17 + j) lasts (omega (arith, less)) (omega (arith, e))
        word-apart a j (inr is) less e = omega (arith, is, e, less)

    grounds : ground_of w.programs y.goes_on.next y.goes_on.after.state ≡ ground_of w.programs s (c1).state
    grounds = grounds-kept w.programs s y.goes_on.next (c1).state y.goes_on.after.state y.goes_on.stays

    p2 : Point w g b known (record l { state = y.goes_on.next }) y.goes_on.after
    p2 = unwritten w g b known known (record l { state = s }) y.goes_on.next c1 y.goes_on.after p1
        (there-kept w.programs s y.goes_on.next (c1).state y.goes_on.after.state y.goes_on.stays b r.point.outer p1.there y.goes_on.related
        (subst (λ (m : Memory). IsSoundAt S w.programs.sites m b.depth) (sym y.memory) r.point.there.facts))
        (grows-kept w.programs s y.goes_on.next (c1).state y.goes_on.after.state y.goes_on.stays b.depth) passed2 (λ k f e. e)

    in-row : bytes_at (word_number (w.programs.whole.kind x.node)) y.goes_on.after.slots (slot_of w.slots Word)
        ≡ pointer_words (ground_of w.programs y.goes_on.next y.goes_on.after.state) (w.programs.whole.kind x.node) y.pointer
    in-row =
        ap (λ (xs : List ℕ). bytes_at (word_number (w.programs.whole.kind x.node)) xs (slot_of w.slots Word)) y.goes_on.slots_are
        ∙ ap (λ (n : ℕ). bytes_at n (written row (c1).slots (slot_of w.slots Word)) (slot_of w.slots Word)) (sym wide)
        ∙ written-row row (c1).slots (slot_of w.slots Word) (let k = few in let m = role-there w g ThirdWord in let n = p1.count in omega (arith, k, m, n))
        ∙ ap (λ (gr : Ground). pointer_words gr (w.programs.whole.kind x.node) y.pointer) (sym grounds)

    -- ESCAPE
    abbrev asks : List Asked
    asks = asked check.Escape assignment (IsNoDeeper (home_slot (w.programs.whole.kind x.node) (pointer_slots (slot_of w.slots Word))) (home_slot (w.programs.whole.kind home) target)) ∷ []

    z2 : Sparing w g b known (record l { state = y.goes_on.next }) []
        (asked check.Escape assignment (IsNoDeeper (home_slot (w.programs.whole.kind x.node) (pointer_slots (slot_of w.slots Word))) (home_slot (w.programs.whole.kind home) target)) ∷ []) l3 y.goes_on.after
    z2 = guarded-sparing w g b known (record l { state = y.goes_on.next }) [] asks l3 y.goes_on.after p2 tt guard (λ e passed got. record {
      apart = (
        (
          home-word w (w.programs.whole.kind x.node),
          (spot-other w g (home_slot (w.programs.whole.kind home) target) (target_spots (home_slot (w.programs.whole.kind home) target) (home-slot (w.programs.whole.kind home) target)), tt),
        ),
        tt,
      );
      held = (tt, tt);
      safe = (tt, λ q. tt);
    })

    spot-middle : (a : ℕ) → IsSpot w g a → slot z2.guarded.middle a ≡ slot y.goes_on.after a
    spot-middle a h = z2.spared AddressRole tt a h

    spot-all : (a : ℕ) → IsSpot w g a → slot z2.guarded.middle a ≡ slot c a
    spot-all a h = spot-middle a h ∙ spot-three a h ∙ spot-two a h

    grounds-all : ground_of w.programs y.goes_on.next y.goes_on.after.state ≡ ground_of w.programs s c.state
    grounds-all = grounds ∙ ap (ground_of w.programs s) z1.state

    -- the pointer that was loaded, and the target, as the lines read them
    loaded-checked : IsChecked S w.programs.whole.node y.goes_on.next y.goes_on.after.state b.depth (w.programs.whole.kind x.node) x.to y.pointer (slot z2.guarded.middle)
        (pointer_slots (slot_of w.slots Word))
    loaded-checked = record {
      related = p2.there.related;
      held = held-next;
      words = words-of (ground_of w.programs y.goes_on.next y.goes_on.after.state) (w.programs.whole.kind x.node) y.goes_on.after.slots (slot_of w.slots Word) y.pointer
          (slot z2.guarded.middle) in-row (λ j less. of j (word-role w j (let k = few-words (w.programs.whole.kind x.node) in omega (arith, less, k))));
    }
      where
        of : (j : ℕ) → ((r : Role) × (slot_of w.slots Word + j ≡ slot_of w.slots r) × (4 ≤ role_number r))
            → slot z2.guarded.middle (slot_of w.slots Word + j) ≡ slice_index y.goes_on.after.slots (slot_of w.slots Word + j)
        of j (role, is, late) = z2.spared role tt (slot_of w.slots Word + j) (inr is)

    target-checked : IsChecked S w.programs.whole.node y.goes_on.next y.goes_on.after.state b.depth (w.programs.whole.kind home) t onto (slot z2.guarded.middle) target
    target-checked = record {
      related = p2.there.related;
      held = subst (λ (m : Memory). IsHeldIn S m b.depth (w.programs.whole.kind home) t onto) (sym y.memory) r.held;
      words = subst (λ (gr : Ground). AreWordsOf gr (slot z2.guarded.middle) target (w.programs.whole.kind home) onto) (sym grounds-all)
          (words-same (ground_of w.programs s c.state) (w.programs.whole.kind home) target onto (slot c) (slot z2.guarded.middle) (λ a h. spot-all a (target_spots a h)) r.words);
    }

    stepped : Stepped s c i (l1 ++ (l2 ++ l3))
    stepped = record {
      value = y.pointer;
      next = y.goes_on.next;
      after = z2.guarded.after;
      stop = first_false w.programs.parts y.goes_on.after.state.memory asks (slot z2.guarded.middle);
      source_goes = y.goes_on.source_goes;
      alike = stops-together w.programs.parts y.goes_on.after.state.memory (slot z2.guarded.middle) S y.goes_on.next assignment asks (Outlives onto y.pointer) (refl, refl, tt)
          (one-asked (flat_holds w.programs.parts y.goes_on.after.state.memory
          (IsNoDeeper (home_slot (w.programs.whole.kind x.node) (pointer_slots (slot_of w.slots Word))) (home_slot (w.programs.whole.kind home) target)) (slot z2.guarded.middle))
          (asked check.Escape assignment (IsNoDeeper (home_slot (w.programs.whole.kind x.node) (pointer_slots (slot_of w.slots Word))) (home_slot (w.programs.whole.kind home) target)))
          ∙ escape-compared S w.programs.whole.node y.goes_on.next y.goes_on.after.state b.depth p2.there.laid.functions.apart w.programs.parts (w.programs.whole.kind x.node)
          (w.programs.whole.kind home) x.to t y.pointer onto (slot z2.guarded.middle) (pointer_slots (slot_of w.slots Word)) target loaded-checked target-checked);
      runs = λ rest.
          ap (λ (js : Lines). run js (context_of w b) c) (append-append l1 (l2 ++ l3) rest) ∙ z1.runs ((l2 ++ l3) ++ rest)
          ∙ ap (λ (js : Lines). run js (context_of w b) z1.after) (append-append l2 l3 rest)
          ∙ ap (λ (js : Lines). run (js ++ (l3 ++ rest)) (context_of w b) z1.after) adds
          ∙ ap (λ (js : Lines). run (js ++ (l3 ++ rest)) (context_of w b) c1) (loading-line (w.programs.whole.kind x.node) (slot_of w.slots Word) (slot_of w.slots Made))
          ∙ ap (λ (q : FlatOutcome). from q (λ h. then_go h (run (l3 ++ rest) (context_of w b)))) y.goes_on.flat_goes
          ∙ z2.guarded.runs rest;
      ready = ready-on s y.goes_on.next c z2.guarded.after r y.memory (ap (ground_of w.programs y.goes_on.next) z2.guarded.state ∙ grounds-all) z2.guarded.point
          (λ a h. z2.guarded.others a (spot-other w g a h) ∙ spot-all a h);
    }

  -- all of them
  module _ (after : Knowledge) (blocks : Blocks) (F : source_state.State → Outcome source_state.Ending source_state.State (Unit {0})) (rest : Lines) where
    abbrev changed : Outcome source_state.Ending source_state.State (Unit {0}) → CodeOutcome
    changed o = from (beside l.temps o) (λ x. done Goes)

    pub keep-cells : (is : List ℕ) (lines : Lines) (s : source_state.State) (c : flat.Local) → Ready s c
        → CellsKept (world_of w) seat (w.programs.whole.kind node) t source.first (home_slot (w.programs.whole.kind home) target) assignment is lines
        → ((z : source_state.State) (d : flat.Local) → Ready z d
        → load_pointers (setting_of w.programs) assignment (w.programs.whole.kind node) what onto is s ≡ Done tt z
        → Match w g b after blocks (from (beside l.temps (F z)) (λ x. done Goes)) (run rest (context_of w b) d))
        → Match w g b after blocks
        (from (beside l.temps (from (load_pointers (setting_of w.programs) assignment (w.programs.whole.kind node) what onto is s) (λ u. F))) (λ x. done Goes))
        (run (lines ++ rest) (context_of w b) c)
    unfolding Line Then
    keep-cells [] lines s c r is goes = subst (λ (js : Lines). Match w g b after blocks (changed (F s)) (run (js ++ rest) (context_of w b) c)) (sym is) (goes s c r refl)
    keep-cells (i ∷ is) lines s c r (x, listed, (l1, r1, gets, (l2, r2, adds, (l3, r3, guard, more, is3), is2), is1)) goes =
        of (stepped s c r i x listed l1 l2 l3 gets adds guard) (λ z d ready goes'. keep-cells is r3 z d ready more goes')
      where
        all : lines ≡ (l1 ++ (l2 ++ l3)) ++ r3
        all = is1 ∙ ap (λ (js : Lines). l1 ++ js) (is2 ∙ ap (λ (js : Lines). l2 ++ js) is3 ∙ sym (append-append l2 l3 r3)) ∙ sym (append-append l1 (l2 ++ l3) r3)

        body : Pointer → source_state.State → Outcome source_state.Ending source_state.State (Unit {0})
        body q z = from (checked S assignment (Outlives onto q) z) (λ u. load_pointers S assignment (w.programs.whole.kind node) what onto is)

        Further : Type 0
        Further = (z : source_state.State) (d : flat.Local) → Ready z d
            → ((v : source_state.State) (e : flat.Local) → Ready v e → load_pointers S assignment (w.programs.whole.kind node) what onto is z ≡ Done tt v
            → Match w g b after blocks (changed (F v)) (run rest (context_of w b) e))
            → Match w g b after blocks (changed (from (load_pointers S assignment (w.programs.whole.kind node) what onto is z) (λ u. F))) (run (r3 ++ rest) (context_of w b) d)

        of : Stepped s c i (l1 ++ (l2 ++ l3)) → Further → Match w g b after blocks
            (changed (from (load_pointers S assignment (w.programs.whole.kind node) what onto (i ∷ is) s) (λ u. F))) (run (lines ++ rest) (context_of w b) c)
        of y further =
            subst (λ (js : Lines). Match w g b after blocks (changed (from (load_pointers S assignment (w.programs.whole.kind node) what onto (i ∷ is) s) (λ u. F))) (run js (context_of w b) c))
            (sym (ap (λ (js : Lines). js ++ rest) all ∙ append-append (l1 ++ (l2 ++ l3)) r3 rest))
            (subst (λ (o : Outcome source_state.Ending source_state.State Pointer). Match w g b after blocks (changed (from (from o body) (λ u. F)))
            (run ((l1 ++ (l2 ++ l3)) ++ (r3 ++ rest)) (context_of w b) c)) (sym y.source_goes)
            (subst (λ (q : FlatOutcome). Match w g b after blocks (changed (G (checked S assignment (Outlives onto y.value) y.next))) q) (sym (y.runs (r3 ++ rest)))
            (guard-changes w g b known after blocks (record l { state = y.next }) y.after y.ready.point y.stop (checked S assignment (Outlives onto y.value) y.next) y.alike G
            (λ e z. refl) (r3 ++ rest) (λ none. further y.next y.after y.ready (λ z d ready went. goes z d ready
            (ap (λ (o : Outcome source_state.Ending source_state.State Pointer). from o body) y.source_goes
            ∙ ap (λ (o : Outcome source_state.Ending source_state.State (Unit {0})). from o (λ u. load_pointers S assignment (w.programs.whole.kind node) what onto is))
            (subst (λ (o : Option Asked). StopsAlike o (checked S assignment (Outlives onto y.value) y.next) y.next) none y.alike) ∙ went))))))
          where
            G : Outcome source_state.Ending source_state.State (Unit {0}) → Outcome source_state.Ending source_state.State (Unit {0})
            G o = from (from o (λ u. load_pointers S assignment (w.programs.whole.kind node) what onto is)) (λ u. F)
