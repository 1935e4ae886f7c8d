-- The start of a program: its static objects stand where they were laid, and both machines are at a point, once the kept slots of function 0 are set.
use Rattle.std.proofs.Common.{◌%◌, ◌≡◌, ◌≢◌, ℕ, ◌+◌, ◌-◌, ◌*◌, ◌<◌, ◌≤◌, ◌^◌, ◌⊎◌, inl, inr, ⊎_elim, true, List, [], length, map, replicate, slice_get, slice_index, Option, Some, refl, ap, sym, subst, ◌∙◌, arith}
use Rattle.std.proofs.lemmas.List.{append-nil, length-map, length-replicate}
use Rattle.std.proofs.lemmas.Option.{get_or_from_slice_get, slice_get_within}
use Rattle.cc_base.specs.declared.kind.Kind.{Kind}
use Rattle.cc_base.specs.declared.number.NodeId.{NodeId}
use Rattle.cc_base.specs.declared.number.TypeId.{TypeId}
use Rattle.c_types.specs.Layouts.{size_of}
use Rattle.c_types.specs.Cells.{AreOrdered}
use Rattle.c_types.specs.Widths.{width_of, cured_size}
use Rattle.c_types.proofs.OrderedPointers.{get_front}
use Rattle.flat_mem.specs.declared.Area.{Area}
use Rattle.flat_mem.specs.Bytes.{AreBytes, number}
use Rattle.flat_mem.specs.Memory.{IsSound, first_memory, fits}
use Rattle.flat_mem.specs.Placement.{addresses, areas_made, areas_size, contents_size, first_bytes, first_word, flat_size, function_address, globals_start}
use Rattle.flat_mem.proofs.AreaLaws.{area-after_start, area-before_end, areas-apart, areas_size-by_8, get-areas_made_inside, get-areas_made_other, number-areas_made_first}
use Rattle.flat_mem.proofs.ByteLaws.{number-zeros}
use Rattle.flat_mem.proofs.FrameLaws.{address-by_8, depth_in-below}
use Rattle.flat_mem.proofs.SoundLaws.{length-first_bytes, sound-first, sound-pushed, sound-with_bytes}
use Rattle.runs.specs.Input.{Input, Closed, Open, left}
use Rattle.src_mem.specs.Pointers.{Address}
use Rattle.src_mem.specs.Memory.{Object, Planned, charge_of, new_variable}
use Rattle.src_mem.specs.State as source
use Rattle.src_mem.specs.State.{Defined, Setting, bytes_of}
use Rattle.src_mem.specs.Outlines.{Outline, Life, outline, life, outlines_of, lives_of}
use Rattle.src_mem.specs.Facts.{IsSoundAt, IsSoundObject}
use Rattle.src_mem.specs.Uses.{home}
use Rattle.src_mem.specs.Runs as runs
use Rattle.src_mem.specs.Runs.{defined, static_object}
use Rattle.src_mem.proofs.Outlines.{mapped-from, get-mapped}
use Rattle.cil_form.specs.declared.program.Function.{Function}
use Rattle.cil_form.specs.declared.program.Static.{Static}
use Rattle.cil_form.specs.declared.program.Program.{Program}
use Rattle.cil_form.specs.declared.number.Object as named
use Rattle.cil_form.specs.declared.number.Object.TheVariants as object
use Rattle.cil_form.specs.Typing.{PlaceOf}
use Rattle.cil_form.specs.Machine.{head_of, plan, statics_of}
use Rattle.cil_form.specs.Shape.{IsInShape, IsStaticInShape}
use Rattle.cil_form.specs.Told.{IsToldOf, IsSolutionOf}
use Rattle.cil_facts.proofs.Homes.{home-named}
use Rattle.cured_code.specs.declared.parts.AreaLine.{AreaLine}
use Rattle.cured_code.specs.declared.parts.GlobalLine.{GlobalLine}
use Rattle.cured_code.specs.declared.parts.Parts.{Parts}
use Rattle.cured_code.specs.FlatState as flat
use Rattle.cured_code.specs.FlatState.{PlacedArea}
use Rattle.cured_code.specs.Tables as tables
use Rattle.cured_code.specs.Tables.{areas_of}
use Rattle.cured_code.specs.FlatMachine as machine
use Rattle.cured_code.specs.FlatMachine.{blocks_charge_limit, frames_charge_limit, entry, first_state, global_areas, globals_written, loaded_memory, placed, plan_of}
use Rattle.cured_code.proofs.StartLaws.{fits-start, length-loaded}
use Rattle.sim_relation.specs.Ground.{address, address_in, cells, cells_in, function_word}
use Rattle.sim_relation.specs.Objects.{Apart, Holds, Lies, frame_areas, variable_area}
use Rattle.sim_relation.specs.Objects as objects_laid
use Rattle.sim_relation.specs.Related.{Related}
use Rattle.sim_relation.specs.Points.{object_number}
use Rattle.sim_relation.proofs.Frames.{AreWholeTypes, get-placed, length-placed}
use Rattle.sim_relation.proofs.Room.{frame-room, whole-types}
use Rattle.sim_memory.proofs.Blocks.{index-zero}
use Rattle.cure_rules.specs.Programs.{IsFirstOf, Numbers, AreCured, whole_of}
use Rattle.sim_laws.specs.Scenes.{Programs, setting_of, first_scene}
use Rattle.sim_laws.specs.Points.{IsLaid, NamesAlike, There, planned_at, ground_of}
use Rattle.sim_laws.specs.Points as points
use Rattle.sim_laws.specs.Runs.{Started, programs_of, source_first, first_running}
use Rattle.sim_laws.proofs.Points.{grows-same}
use Rattle.sim_laws.proofs.Run.{all-at}
use Rattle.sim_laws.proofs.Beginning.{IsPlanned, there-is}
use Rattle.sim_laws.proofs.Framed.{planned-statics}
use Rattle.sim_laws.proofs.Globals.{BeginInside, globals-before, globals-inside, globals-first, globals-are}
use Rattle.sim_laws.proofs.StaticObjects.{Begins, static-begins, begins-sound, begins-held, begins-room}
use Rattle.sim_laws.proofs.PassedWords.{sum-mapped}
use Rattle.sim_laws.proofs.Keeping.{AllSet, kept-set}
use Rattle.sim_laws.proofs.Prologues.{begun-point}

same-input : (i : Input) → i ≡ left i 0
same-input (Closed bytes) = refl
same-input (Open bytes) = refl

module _ (p : Program) (kind : NodeId → Kind) (node : TypeId → ℕ) (numbers : Numbers) (parents : List ℕ) (parts : Parts) (shaped : IsInShape p)
    (told : IsToldOf p) (solution : IsSolutionOf p kind) (cured : AreCured (whole_of p kind node numbers parts) p parents parts) (input : Input)
    (bytes : AreBytes (bytes_of input)) (turns : ℕ) where
  abbrev both : Programs
  both = programs_of p kind node numbers p.sites parts

  abbrev w : Setting
  w = setting_of (programs_of p kind node numbers p.sites parts)

  abbrev statics : List Planned
  statics = map (λ (o : Static). plan o.planned) p.statics

  abbrev s : source.State
  s = source_first p kind input turns

  abbrev static-from : Static → runs.Static
  static-from o = record { type = o.planned.ty; home = o.planned.home; text = o.text }

  -- the areas of the globals, and where they begin
  abbrev areas : List Area
  areas = global_areas parts.globals

  abbrev start : ℕ
  start = globals_start (plan_of parts)

  abbrev loaded : flat.State
  loaded = first_state parts input turns

  -- the frame of function 0 has no areas
  abbrev c : flat.State
  c = machine.with_frame [] 0 (first_state parts input turns)

  is : IsPlanned both statics
  is = planned-statics p kind node numbers parents parts shaped told solution cured

  types : AreWholeTypes w statics
  types = whole-types w statics shaped.formed (record { each = λ j v e. (is.are j v e).complete })

  areas-are : areas ≡ frame_areas w statics
  areas-are = cured.globals.areas

  -- Which object is made of which static, and which global is its

  -- a static object
  record Laid (k : ℕ) (o : Static) (g : GlobalLine) : Type 0 where
    static : slice_get p.statics k ≡ Some o
    shape : IsStaticInShape p o
    line : slice_get parts.globals k ≡ Some g
    area : tables.area_of g.area ≡ variable_area w (plan o.planned)
    first : IsFirstOf o.text g.first

  laid-at : (k : ℕ) (o : Static) → slice_get p.statics k ≡ Some o → (g : GlobalLine) × Laid k o g
  laid-at k o e = of (mapped-from (λ (g : GlobalLine). tables.area_of g.area) parts.globals k (variable_area w (plan o.planned))
      (ap (λ (xs : List Area). slice_get xs k) areas-are ∙ get-mapped (variable_area w) statics k (plan o.planned) (get-mapped (λ (x : Static). plan x.planned) p.statics k o e)))
    where
      of : (g : GlobalLine) × (slice_get parts.globals k ≡ Some g) × (tables.area_of g.area ≡ variable_area w (plan o.planned)) → (g : GlobalLine) × Laid k o g
      of (g, line, area) = (
        g,
        record { static = e; shape = all-at (IsStaticInShape p) p.statics shaped.statics k o e; line = line; area = area; first = cured.globals.first k o g e line },
      )

  -- which static an object is made of, and which one a global is of
  static-of : (k : ℕ) (x : Object) → slice_get s.memory.objects k ≡ Some x
      → (o : Static) × (slice_get p.statics k ≡ Some o) × (runs.static_from w o.planned.ty o.planned.home o.text ≡ x)
  static-of k x e = of (mapped-from (static_object w) (statics_of p) k x e)
    where
      of : (y : runs.Static) × (slice_get (statics_of p) k ≡ Some y) × (static_object w y ≡ x)
          → (o : Static) × (slice_get p.statics k ≡ Some o) × (runs.static_from w o.planned.ty o.planned.home o.text ≡ x)
      of (y, f, is) =
          let o = mapped-from static-from p.statics k y f in
          (o.0, o.1, ap (static_object w) o.2 ∙ is)

  global-of : (k : ℕ) (g : GlobalLine) → slice_get parts.globals k ≡ Some g → (o : Static) × (slice_get p.statics k ≡ Some o)
  global-of k g e =
      let v = mapped-from (variable_area w) statics k (tables.area_of g.area)
      (ap (λ (xs : List Area). slice_get xs k) (sym areas-are) ∙ get-mapped (λ (y : GlobalLine). tables.area_of y.area) parts.globals k g e) in
      let o = mapped-from (λ (x : Static). plan x.planned) p.statics k v.0 v.1 in (o.0, o.1)

  -- Their areas

  start-by-8 : start % 8 ≡ 0
  start-by-8 = omega arith

  areas-small : areas_size areas ≤ 12582912
  areas-small =
      let e = ap (λ (xs : List Area). areas_size xs) areas-are in let r = frame-room w statics types in let n = sum-mapped (λ (o : Static). plan o.planned) (λ (v : Planned). charge_of (size_of p.types v.type)) p.statics in
      let m = shaped.globals in omega (arith, e, r, n, m)

  long : length (first_bytes (plan_of parts)) ≡ flat_size (plan_of parts)
  long = length-first_bytes (plan_of parts)

  module _ (k : ℕ) (o : Static) (g : GlobalLine) (l : Laid k o g) where
    abbrev x : Object
    x = runs.static_from w o.planned.ty o.planned.home o.text

    abbrev at : ℕ
    at = slice_index (addresses (global_areas parts.globals) (globals_start (plan_of parts))) k

    begins : Begins w (plan o.planned) x g.first
    begins = static-begins p kind shaped o g.first l.shape l.first

    planned : slice_get statics k ≡ Some (plan o.planned)
    planned = get-mapped (λ (z : Static). plan z.planned) p.statics k o l.static

    area-at : slice_get areas k ≡ Some (variable_area w (plan o.planned))
    area-at = ap (λ (xs : List Area). slice_get xs k) areas-are ∙ get-mapped (variable_area w) statics k (plan o.planned) planned

    within : k < length areas
    within = slice_get_within areas k (variable_area w (plan o.planned)) area-at

    celled : length x.cells ≡ x.size
    celled = subst (λ (q : Outline). length q.cells ≡ q.size) (sym begins.outlined) (types.each k (plan o.planned) planned).1

    ordered : AreOrdered x.cells
    ordered = subst (λ (q : Outline). AreOrdered q.cells) (sym begins.outlined) (types.each k (plan o.planned) planned).0

    area-is : objects_laid.area_of w.kind (outline x) ≡ variable_area w (plan o.planned)
    area-is = ap (λ (q : Outline). objects_laid.area_of w.kind q) begins.outlined

    fit : length g.first ≤ contents_size (tables.area_of g.area)
    fit =
        let r = begins-room w (plan o.planned) x g.first begins w.kind (w.kind x.node) celled in
        let a = ap contents_size area-is in let b = ap contents_size l.area in omega (arith, r, a, b)

    low : start + 8 ≤ at
    low = area-after_start areas start k within

    high : at + contents_size (variable_area w (plan o.planned)) ≤ start + areas_size areas
    high = area-before_end areas start k (variable_area w (plan o.planned)) area-at

    placed-at : slice_get c.areas k ≡ Some (record { area = variable_area w (plan o.planned); address = at })
    placed-at =
        get_front (placed areas start) [] k (let e = length-placed areas start in let h = within in omega (arith, e, h))
        ∙ get-placed areas start k (variable_area w (plan o.planned)) area-at

    address-at : address (ground_of both s c) k ≡ at
    address-at = ap address_in placed-at

    -- before what is written
    zero-inside : (i : ℕ) → i < contents_size (variable_area w (plan o.planned)) → slice_index (first_bytes (plan_of parts)) (at + i) ≡ 0
    unfolding first_bytes
    zero-inside i h = get-areas_made_inside areas (replicate (flat_size (plan_of parts)) 0) start k (variable_area w (plan o.planned)) i area-at h

    first-word : number 8 (first_bytes (plan_of parts)) (at - 8) ≡ first_word (variable_area w (plan o.planned))
    unfolding first_bytes
    first-word = number-areas_made_first areas (replicate (flat_size (plan_of parts)) 0) start k (at - 8) (variable_area w (plan o.planned)) area-at
        (let h = low in omega (arith, h)) (types.each k (plan o.planned) planned).2
        (let e = length-replicate {A = ℕ} (flat_size (plan_of parts)) 0 in omega (arith, e))

    object-at : slice_get s.memory.objects k ≡ Some x
    object-at = get-mapped (static_object w) (statics_of p) k (static-from o)
        (get-mapped static-from p.statics k o l.static)

  -- The flat memory

  inside : BeginInside parts.globals
  inside = record { each = λ k g e. of k g e (global-of k g e) }
    where
      of : (k : ℕ) (g : GlobalLine) → slice_get parts.globals k ≡ Some g → (o : Static) × (slice_get p.statics k ≡ Some o)
          → length g.first ≤ contents_size (tables.area_of g.area)
      of k g e (o, f) =
          let l = laid-at k o f in
          subst (λ (y : GlobalLine). length y.first ≤ contents_size (tables.area_of y.area)) (let m = l.1.line in let q : l.0 ≡ g = cc (m, e) in q) (fit k o l.0 l.1)

  begin-bytes : (k : ℕ) (g : GlobalLine) → slice_get parts.globals k ≡ Some g → AreBytes g.first
  begin-bytes k g e = of (global-of k g e)
    where
      of : (o : Static) × (slice_get p.statics k ≡ Some o) → AreBytes g.first
      of (o, f) =
          let l = laid-at k o f in
          subst (λ (y : GlobalLine). AreBytes y.first) (let m = l.1.line in let q : l.0 ≡ g = cc (m, e) in q) (begins k o l.0 l.1).are

  fitting : fits (loaded_memory parts) [] 0 ≡ true
  unfolding areas_size
  fitting = fits-start parts [] 0 (omega arith) (omega arith)

  sound-loaded : IsSound (loaded_memory parts)
  sound-loaded = sound-with_bytes (first_memory (plan_of parts)) (globals_written parts.globals start (first_bytes (plan_of parts)))
      (globals-are parts.globals start (first_bytes (plan_of parts)) begin-bytes (sound-first (plan_of parts)).bytes)
      (length-loaded parts ∙ sym long) (sound-first (plan_of parts))

  bytes-are : c.memory.bytes ≡ globals_written parts.globals start (first_bytes (plan_of parts))
  unfolding areas_made
  bytes-are = refl

  long-bytes : length c.memory.bytes ≡ flat_size (plan_of parts)
  long-bytes = ap (λ (xs : List ℕ). length xs) bytes-are ∙ length-loaded parts

  -- what lies before the globals is 0
  zero-before : (i : ℕ) → i < start → slice_index c.memory.bytes i ≡ 0
  unfolding first_bytes
  zero-before i h = ap (λ (xs : List ℕ). slice_index xs i) bytes-are ∙ globals-before parts.globals start (first_bytes (plan_of parts)) i h
      ∙ get-areas_made_other areas (replicate (flat_size (plan_of parts)) 0) start i (inl h) ∙ index-zero (flat_size (plan_of parts)) i

  sound-memory : IsSound c.memory
  sound-memory = sound-pushed (loaded_memory parts) [] 0 fitting sound-loaded

  -- Each object is held where it lies

  module _ (k : ℕ) (o : Static) (g : GlobalLine) (l : Laid k o g) where
    begin-inside : (i : ℕ) → i < contents_size (variable_area w (plan o.planned)) → slice_index c.memory.bytes (at k o g l + i) ≡ slice_index g.first i
    begin-inside i h = ap (λ (xs : List ℕ). slice_index xs (at k o g l + i)) bytes-are
        ∙ globals-inside parts.globals start (first_bytes (plan_of parts)) k g i l.line inside (let e = long in omega (arith, e))
        (let a = ap contents_size l.area in omega (arith, a, h)) (zero-inside k o g l i h)

    begin-first : number 8 c.memory.bytes (at k o g l - 8) ≡ first_word (variable_area w (plan o.planned))
    begin-first = ap (λ (xs : List ℕ). number 8 xs (at k o g l - 8)) bytes-are
        ∙ globals-first parts.globals start (first_bytes (plan_of parts)) k (at k o g l - 8) (slice_get_within parts.globals k g l.line) inside
        (let h = low k o g l in omega (arith, h)) ∙ first-word k o g l

    held-at : Holds (ground_of both s c) c.memory.bytes k (x k o g l)
    held-at = subst (λ (a : ℕ). objects_laid.HoldsBy (w.kind (x k o g l).node) (ground_of both s c) c.memory.bytes a (x k o g l)) (sym (address-at k o g l))
        (begins-held w (plan o.planned) (x k o g l) g.first (begins k o g l) (ground_of both s c) c.memory.bytes (at k o g l) (ordered k o g l) (celled k o g l)
        (w.kind (x k o g l).node) (begin-first ∙ ap first_word (sym (area-is k o g l)))
        (λ i h. begin-inside i (let a = ap contents_size (area-is k o g l) in omega (arith, a, h))))

    lies-at : Lies w.kind c.memory (address (ground_of both s c) k) (outline (x k o g l))
    lies-at = subst (λ (a : ℕ). Lies w.kind c.memory a (outline (x k o g l))) (sym (address-at k o g l))
        (subst (λ (q : Outline). Lies w.kind c.memory (at k o g l) q) (sym (begins k o g l).outlined) (record {
          above = (let h = low k o g l in omega (arith, h));
          aligned = address-by_8 areas start k start-by-8 (within k o g l);
          inside = (let h = high k o g l in let e = long-bytes in omega (arith, h, e));
          depth = λ i h. depth_in-below c.memory.bounds.stack_start c.memory.frames (at k o g l + i) sound-memory.consecutive
              (let m = high k o g l in omega (arith, m, h));
          static = λ d. inl (high k o g l);
        }))

  apart-at : (j k : ℕ) (o q : Static) (g h : GlobalLine) (l : Laid j o g) (m : Laid k q h) → j ≢ k
      → Apart w.kind (address (ground_of both s c) j) (outline (x j o g l)) (address (ground_of both s c) k) (outline (x k q h m))
  apart-at j k o q g h l m other =
      subst (λ (a : ℕ). Apart w.kind a (outline (x j o g l)) (address (ground_of both s c) k) (outline (x k q h m))) (sym (address-at j o g l))
      (subst (λ (a : ℕ). Apart w.kind (at j o g l) (outline (x j o g l)) a (outline (x k q h m))) (sym (address-at k q h m))
      (subst (λ (a : Outline). Apart w.kind (at j o g l) a (at k q h m) (outline (x k q h m))) (sym (begins j o g l).outlined)
      (subst (λ (a : Outline). Apart w.kind (at j o g l) (outline (new_variable w.table 0 (plan o.planned))) (at k q h m) a) (sym (begins k q h m).outlined)
      (⊎_elim
      (λ z. inl (areas-apart areas start j k (variable_area w (plan o.planned)) (area-at j o g l) z (within k q h m)))
      (λ z. inr (areas-apart areas start k j (variable_area w (plan q.planned)) (area-at k q h m) (omega (arith, z, other)) (within j o g l))) (order j k)))))
    where
      order : (a b : ℕ) → (a < b) ⊎ (b ≤ a)
      order a b = grind arith

  -- what is so of a static's object is so of each
  each-object : (P : ℕ → Object → Type 0) → ((k : ℕ) (o : Static) (g : GlobalLine) (l : Laid k o g) → P k (x k o g l)) → (k : ℕ) (y : Object)
      → slice_get s.memory.objects k ≡ Some y → P k y
  each-object P each k y e =
      let o = static-of k y e in let l = laid-at k o.0 o.1 in subst (P k) o.2 (each k o.0 l.0 l.1)

  -- Both machines

  no-areas : length c.areas ≡ length s.memory.objects
  no-areas =
      ap (λ (xs : List PlacedArea). length xs) (append-nil (placed areas start)) ∙ length-placed areas start ∙ ap (λ (xs : List Area). length xs) areas-are
      ∙ length-map statics (variable_area w) ∙ length-map p.statics (λ (o : Static). plan o.planned)
      ∙ sym (length-map (statics_of p) (static_object w) ∙ length-map p.statics static-from)

  small : length c.memory.bytes < 2 ^ 32
  unfolding frames_charge_limit blocks_charge_limit
  small = let e = long-bytes in let z = areas-small in let n = is.count in let m = length-map p.functions (λ (f : Function). defined (head_of f)) in
      let f = shaped.count in omega (arith, e, z, n, m, f)

  -- the heap begins at a multiple of 8, behind the stack
  heap-room : c.memory.heap_top ≤ c.memory.bounds.stack_end + 3 * c.memory.heap_charge
  unfolding frames_charge_limit blocks_charge_limit
  heap-room = let e = areas_size-by_8 areas in omega (arith, e)

  no-room : areas_size [] ≡ 0
  unfolding areas_size
  no-room = refl

  related : Related w node s c
  related = record {
    areas = record {
      count = no-areas;
      sizes = λ k y a e f. each-object (λ i z. slice_get c.areas i ≡ Some a → a.area ≡ objects_laid.area_of w.kind (outline z))
          (λ i o g l f.
          let q = placed-at i o g l in
          let b : record { area = variable_area w (plan o.planned); address = at i o g l } ≡ a = cc (q, f) in
          ap (λ (z : PlacedArea). z.area) (sym b) ∙ sym (area-is i o g l)) k y e f;
      lie = λ k y e l. each-object (λ i z. Lies w.kind c.memory (address (ground_of both s c) i) (outline z)) lies-at k y e;
      apart = λ j k y z e l f m d.
          let o = static-of j y e in let q = static-of k z f in let a = laid-at j o.0 o.1 in let b = laid-at k q.0 q.1 in
          subst (λ (u : Object). Apart w.kind (address (ground_of both s c) j) (outline u) (address (ground_of both s c) k) (outline z)) o.2
          (subst (λ (u : Object). Apart w.kind (address (ground_of both s c) j) (outline (x j o.0 a.0 a.1)) (address (ground_of both s c) k) (outline u)) q.2
          (apart-at j k o.0 q.0 a.0 b.0 a.1 b.1 d));
    };
    holds = record { each = λ k y e l. each-object (λ i z. Holds (ground_of both s c) c.memory.bytes i z) held-at k y e };
    sound = sound-memory;
    small = small;
    room = record {
      frame_charge = refl;
      heap_charge = refl;
      frames = ((let e = no-room in omega (arith, e)), tt);
      heap = heap-room;
    };
    outside = record { output = refl; read = refl; input = same-input input; turns = refl; entered = refl };
    accesses = tt;
  }

  function-below : (f : ℕ) (d : Defined) → slice_get w.functions f ≡ Some d → function_word f ≤ start
  function-below f d e = let l = slice_get_within w.functions f d e in let n = is.count in omega (arith, l, n)

  laid : IsLaid both s c
  laid = record {
    bounds = refl;
    heap = record {
      each = λ k y e l d. each-object (λ i z. address (ground_of both s c) i + objects_laid.room_of w.kind (outline z) ≤ c.memory.heap_top)
          (λ i o g l. let a = address-at i o g l in let r = ap contents_size (area-is i o g l) in let h = high i o g l in omega (arith, a, r, h)) k y e;
    };
    functions = record {
      few = (let m = length-map p.functions (λ (f : Function). defined (head_of f)) in let f = shaped.count in omega (arith, m, f));
      empty = λ f d e. number-zeros 8 c.memory.bytes (function_word f - 8) (λ i l. zero-before (function_word f - 8 + i)
          (let h = function-below f d e in omega (arith, h, l)));
      apart = λ f d e. depth_in-below c.memory.bounds.stack_start c.memory.frames (function_word f) sound-memory.consecutive
          (let h = function-below f d e in omega (arith, h));
      beyond = λ k y e l. each-object (λ i z. function_address (length w.functions) < address (ground_of both s c) i)
          (λ i o g l. let a = address-at i o g l in let h = low i o g l in let n = is.count in omega (arith, a, h, n)) k y e;
    };
    input = bytes;
  }

  facts : IsSoundAt w p.sites s.memory 0
  facts = record {
    objects = record {
      each = λ k y e l. each-object (λ i z. IsSoundObject w p.sites (outlines_of s.memory) (lives_of s.memory) z)
          (λ i o g l. begins-sound w (plan o.planned) (x i o g l) g.first (begins i o g l) p.sites (outlines_of s.memory) (lives_of s.memory)) k y e;
    };
    outlines = record {
      celled = λ k q e. let y = mapped-from outline s.memory.objects k q e in
          subst (λ (z : Outline). length z.cells ≡ z.size) y.2 (each-object (λ i z. length z.cells ≡ z.size) celled k y.0 y.1);
      ordered = λ k q e d. let y = mapped-from outline s.memory.objects k q e in
          subst (λ (z : Outline). AreOrdered z.cells) y.2 (each-object (λ i z. AreOrdered z.cells) ordered k y.0 y.1);
    };
    lives = record {
      each = λ k q e l.
          let y = mapped-from life s.memory.objects k q e in
          subst (λ (z : Life). z.depth ≤ 0) y.2 (each-object (λ i z. z.depth ≤ 0)
          (λ i o g l. let d = ap (λ (z : Life). z.depth) (begins i o g l).lives in omega (arith, d)) k y.0 y.1);
    };
  }

  count-addresses : length both.whole.addresses ≡ length s.memory.objects
  count-addresses = length-map (placed areas start) (λ (a : PlacedArea). a.address) ∙ ap (λ (xs : List PlacedArea). length xs) (sym (append-nil (placed areas start))) ∙ no-areas

  -- the outline of a static object is that of a variable of its type
  static-outline : (n : ℕ) (v : Planned) → slice_get statics n ≡ Some v → slice_get (outlines_of s.memory) n ≡ Some (outline (new_variable p.types 0 v))
  static-outline n v e = of (mapped-from (λ (o : Static). plan o.planned) p.statics n v e)
    where
      of : (o : Static) × (slice_get p.statics n ≡ Some o) × (plan o.planned ≡ v) → slice_get (outlines_of s.memory) n ≡ Some (outline (new_variable p.types 0 v))
      of (o, at, same) =
          let l = laid-at n o at in
          get-mapped outline s.memory.objects n (x n o l.0 l.1) (object-at n o l.0 l.1) ∙ ap Some (begins n o l.0 l.1).outlined
          ∙ ap (λ (z : Planned). Some (outline (new_variable p.types 0 z))) same

  static-named : (n : ℕ) (v : Planned) (t : TypeId) → slice_get statics n ≡ Some v → NamesAlike p.sites v.type t
      → points.Holds both s 0 (PlaceOf v.node t) (Address (home p.types n t))
  static-named n v t e m = of (mapped-from (λ (o : Static). plan o.planned) p.statics n v e)
    where
      of : (o : Static) × (slice_get p.statics n ≡ Some o) × (plan o.planned ≡ v) → points.Holds both s 0 (PlaceOf v.node t) (Address (home p.types n t))
      of (o, at, same) =
          let l = laid-at n o at in let y = object-at n o l.0 l.1 in let d = ap (λ (z : Life). z.depth) (begins n o l.0 l.1).lives in
          home-named w shaped.formed s.memory p.sites n 0 0 v (is.are n v e).complete (is.are n v e).plain
          (static-outline n v e)
          (record {
            life = life (x n o l.0 l.1);
            found = get-mapped life s.memory.objects n (x n o l.0 l.1) y;
            live = ap (λ (z : Life). z.live) (begins n o l.0 l.1).lives;
            older = omega (arith, d);
          }) t (is.class v.type t m)

  pub there-first : There both (first_running both s c) s c
  there-first = record {
    related = related;
    facts = facts;
    laid = laid;
    frames = refl;
    deep = refl;
    made = omega arith;
    areas = λ k l. absurd (omega (arith, l));
    own_frame = λ k l. absurd (omega (arith, l));
    globals = (let e = count-addresses in omega (arith, e));
    statics = static-address;
    objects = objects;
    wide = wide;
    own = λ some. absurd (omega (arith, some));
    since = grows-same both 0 s s c c refl refl;
  }
    where
      static-address : (k : ℕ) → k < length both.whole.addresses → slice_index both.whole.addresses k ≡ address (ground_of both s c) k
      static-address k h = of (there-is (placed areas start) k (let e = length-map (placed areas start) (λ (a : PlacedArea). a.address) in omega (arith, e, h)))
        where
          of : (a : PlacedArea) × (slice_get (placed areas start) k ≡ Some a) → slice_index both.whole.addresses k ≡ address (ground_of both s c) k
          of (a, e) = get_or_from_slice_get both.whole.addresses k a.address 0 (get-mapped (λ (z : PlacedArea). z.address) (placed areas start) k a e)
              ∙ sym (ap address_in (get_front (placed areas start) [] k (slice_get_within (placed areas start) k a e) ∙ e))

      objects : (o : named.Object) (v : Planned) (t : TypeId) → planned_at both.whole.statics [] o ≡ Some v → NamesAlike p.sites v.type t
          → points.Holds both s 0 (PlaceOf v.node t) (Address (home p.types (object_number 0 o) t))
      objects (object.Static n) v t e m = static-named n.0 v t e m
      objects (object.Variable n) v t e m = absurd (cc (e))

      wide : (o : named.Object) (v : Planned) → planned_at both.whole.statics [] o ≡ Some v
          → width_of kind (cells (ground_of both s c) (object_number 0 o)) ≡ cured_size p.types kind v.type
      wide (object.Static n) v e = ap (λ (q : Option Outline). width_of kind (cells_in q)) (static-outline n.0 v e)
      wide (object.Variable n) v e = absurd (cc (e))

  no-more : length both.whole.statics ≤ length both.whole.addresses
  no-more =
      let e = count-addresses in let a = length-map p.statics (λ (o : Static). plan o.planned) in
      let b = length-map (statics_of p) (static_object w) in
      let d = length-map p.statics static-from in omega (arith, e, a, b, d)

  entered-is : entry cured.first loaded ≡ record { state = c; slots = replicate cured.slots.count 0 }
  entered-is =
      ap (λ (ls : List AreaLine). record { state = machine.with_frame (areas_of ls) cured.first.charge loaded; slots = replicate cured.first.slots 0 }) cured.start.areas
      ∙ ap (λ (n : ℕ). record { state = machine.with_frame [] n loaded; slots = replicate cured.first.slots 0 }) cured.start.charge
      ∙ ap (λ (n : ℕ). record { state = c; slots = replicate n 0 }) cured.start.count

  pub started : Started both cured.slots cured.start.slots cured.start.sets s (entry cured.first (first_state parts input turns))
  started = subst (λ (d : flat.Local). Started both cured.slots cured.start.slots cured.start.sets s d) (sym entered-is)
      (of (kept-set (first_scene both cured.slots) cured.start.slots (first_running both s c) s c there-first refl no-more cured.start.sets (replicate cured.slots.count 0)
      (length-replicate cured.slots.count 0) cured.start.are_set))
    where
      of : AllSet (first_scene both cured.slots) cured.start.slots (first_running both s c) s c there-first refl no-more cured.slots.kept cured.start.sets (replicate cured.slots.count 0)
          → Started both cured.slots cured.start.slots cured.start.sets s (record { state = c; slots = replicate cured.slots.count 0 })
      of z = record {
        after = record { state = c; slots = z.after };
        runs = z.runs;
        point = begun-point (first_scene both cured.slots) cured.start.slots (first_running both s c) s c there-first (omega arith) (λ some. absurd (some refl)) refl no-more cured.start.sets
            (replicate cured.slots.count 0) (length-replicate cured.slots.count 0) (index-zero cured.slots.count cured.slots.nought) z;
      }
