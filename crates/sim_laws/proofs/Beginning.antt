-- A call begins: the states are those where the call has come to, once its frame is pushed.
use Rattle.std.proofs.Common.{◌≡◌, ℕ, zero, suc, ◌+◌, ◌-◌, ◌<◌, ◌≤◌, ◌⊎◌, inl, inr, true, List, [], ◌∷◌, ◌++◌, length, map, slice_get, slice_index, Option, Some, refl, ap, sym, ◌∙◌, arith, nat_le, nat_lt, ◌&&◌}
use Rattle.std.proofs.lemmas.List.{length-append, length-map, map-append}
use Rattle.std.proofs.lemmas.Option.{slice_get_within}
use Rattle.cc_base.specs.declared.number.NodeId.{NodeId}
use Rattle.cc_base.specs.declared.number.TypeId.{TypeId}
use Rattle.c_types.proofs.OrderedPointers.{Which, old, new, which, get_back}
use Rattle.c_types.specs.Table.{IsComplete}
use Rattle.c_types.specs.Flows.{IsOfOneClass}
use Rattle.c_types.specs.Widths.{width_of, cured_size}
use Rattle.c_types.specs.Sound.{IsWellFormed}
use Rattle.flat_mem.specs.declared.Area.{Area}
use Rattle.flat_mem.specs.declared.memory.Bounds.{Bounds}
use Rattle.flat_mem.specs.Memory.{Frame, fits, frame_of, next_frame, newest_addresses, depth_in}
use Rattle.flat_mem.specs.Placement.{addresses, function_address}
use Rattle.flat_mem.proofs.AreaLaws.{area-after_start, get-areas_made_other}
use Rattle.flat_mem.proofs.ByteLaws.{number-same}
use Rattle.flat_mem.proofs.FrameLaws.{frames_end-least, depth_in-older}
use Rattle.src_mem.specs.Pointers.{Value, Integer, Address}
use Rattle.src_mem.specs.Memory.{Object, Planned, new_variable, frame_charge}
use Rattle.src_mem.specs.State as source
use Rattle.src_mem.specs.State.{Setting, Defined}
use Rattle.src_mem.specs.Checks.{depth_limit, source_frame_limit}
use Rattle.src_mem.specs.Primitives as primitive
use Rattle.src_mem.specs.Outlines.{Outline, Life, outline, life, outlines_of, lives_of}
use Rattle.src_mem.specs.Uses.{home}
use Rattle.src_mem.specs.Runs.{Calls}
use Rattle.src_mem.specs.Facts.{IsSoundAt}
use Rattle.src_mem.proofs.Outlines.{mapped-from, get-mapped}
use Rattle.facts_kept.specs.Kept.{IsVariable}
use Rattle.facts_kept.proofs.Frames.{gives-entered}
use Rattle.facts_kept.proofs.Places.{reaches-more}
use Rattle.cil_form.specs.declared.number.Object.TheVariants as object
use Rattle.cil_form.specs.declared.number.Object as named
use Rattle.cil_form.specs.Typing.{PlaceOf}
use Rattle.cil_facts.proofs.Homes.{home-named}
use Rattle.cured_code.specs.FlatState as flat
use Rattle.cured_code.specs.FlatState.{PlacedArea}
use Rattle.cured_code.specs.FlatMachine as machine
use Rattle.cured_code.specs.FlatMachine.{noted, placed}
use Rattle.sim_relation.specs.Ground.{address, address_in, cells, cells_in, function_word}
use Rattle.sim_relation.specs.Objects.{flat_depth, frame_areas, variable_area}
use Rattle.sim_relation.specs.Related.{Related}
use Rattle.sim_relation.specs.Points.{object_number}
use Rattle.sim_relation.proofs.Frames.{get-placed}
use Rattle.sim_relation.proofs.Room.{related-call}
use Rattle.sim_checks.specs.Rows.{AreFunctionsLaid}
use Rattle.sim_memory.proofs.Blocks.{heap-kept_by_call}
use Rattle.sim_laws.specs.Scenes.{Programs, Running, Enters, setting_of}
use Rattle.sim_laws.specs.Points.{Holds, NamesAlike, IsLaid, AreOwn, There, Grows, planned_at, ground_of}
use Rattle.sim_laws.proofs.Fitting.{entered-fits}
use Rattle.sim_laws.proofs.Points.{named-there, width-kept}
use Rattle.sim_laws.proofs.Growing as growing

-- What calls and frames ask of a program: types that are well formed, a solution of its kinds for variables, and functions before its globals.
pub record IsPlanned (p : Programs) (variables : List Planned) : Type 0 where
  pub formed : IsWellFormed p.whole.table
  pub are : (j : ℕ) (v : Planned) → slice_get variables j ≡ Some v → IsVariable (setting_of p) v
  pub class : (t u : TypeId) → NamesAlike p.sites t u → IsOfOneClass p.whole.table p.whole.kind t u
  pub count : length p.parts.functions ≡ suc (length (setting_of p).functions)

-- a list has each of its elements
pub there-is : {A : Type 0} (xs : List A) (j : ℕ) → j < length xs → (x : A) × (slice_get xs j ≡ Some x)
there-is [] j h = absurd (omega (arith, h))
there-is (x ∷ xs) zero h = (x, refl)
there-is (x ∷ xs) (suc j) h = there-is xs j (omega (arith, h))

-- one more function is noted by both
related-noted : (p : Programs) (s : source.State) (c : flat.State) (k : ℕ) → Related (setting_of p) p.whole.node s c
    → Related (setting_of p) p.whole.node (record s { entered = s.entered ++ k ∷ [] }) (noted (suc k) c)
related-noted p s c k r = record {
  areas = record { count = r.areas.count; sizes = r.areas.sizes; lie = r.areas.lie; apart = r.areas.apart };
  holds = r.holds;
  sound = r.sound;
  small = r.small;
  room = record { frame_charge = r.room.frame_charge; heap_charge = r.room.heap_charge; frames = r.room.frames; heap = r.room.heap };
  outside = record {
    output = r.outside.output;
    read = r.outside.read;
    input = r.outside.input;
    turns = r.outside.turns;
    entered = ap (λ (fs : List ℕ). fs ++ suc k ∷ []) r.outside.entered ∙ sym (map-append suc s.entered (k ∷ []));
  };
  accesses = r.accesses;
}

module _ (p : Programs) (variables : List Planned) (is : IsPlanned p variables) (b : Running) (s : source.State) (c : flat.State) (k : ℕ) (there : There p b s c)
    (room : (nat_lt (suc b.depth) depth_limit && nat_le (s.memory.frame_bytes + frame_charge p.whole.table variables) source_frame_limit) ≡ true) where
  abbrev w : Setting
  w = setting_of p

  abbrev areas : List Area
  areas = frame_areas (setting_of p) variables

  abbrev charge : ℕ
  charge = frame_charge p.whole.table variables

  abbrev more : List Object
  more = map (new_variable p.whole.table (suc b.depth)) variables

  abbrev plus : List PlacedArea
  plus = placed (frame_areas (setting_of p) variables) (next_frame c.memory)

  abbrev t : source.State
  t = primitive.with_frame (setting_of p) (suc b.depth) variables (record s { entered = s.entered ++ k ∷ [] })

  abbrev d : flat.State
  d = machine.with_frame (frame_areas (setting_of p) variables) (frame_charge p.whole.table variables) (noted (suc k) c)

  complete : (j : ℕ) (v : Planned) → slice_get variables j ≡ Some v → IsComplete p.whole.table v.type
  complete j v e = (is.are j v e).complete

  fitting : fits c.memory areas charge ≡ true
  fitting = entered-fits p is.formed b s c there variables (record { each = complete }) areas charge refl refl ∙ room

  deep : length c.memory.frames ≡ suc b.depth
  deep = ap (λ (fs : List Frame). length fs) there.frames ∙ there.deep

  related : Related w p.whole.node t d
  related = related-call w p.sites p.whole.node (record s { entered = s.entered ++ k ∷ [] }) (noted (suc k) c) b.depth variables is.formed complete
      there.facts.objects (related-noted p s c k there.related) deep fitting

  facts : IsSoundAt w p.sites t.memory (suc b.depth)
  facts = (gives-entered w is.formed p.sites b.depth k variables s is.are there.facts).sound

  -- The new variables

  new-depth : (j : ℕ) (o : Object) → slice_get more j ≡ Some o → o.depth ≡ suc b.depth
  new-depth j o e = let v = mapped-from (new_variable p.whole.table (suc b.depth)) variables j o e in sym (ap (λ (z : Object). z.depth) v.2)

  deeper : (j : ℕ) (o : Object) → slice_get more j ≡ Some o → (o.depth ≡ 0) ⊎ (b.depth < o.depth)
  deeper j o e = inr (let n = new-depth j o e in omega (arith, n))

  pub since-begun : Grows p b.depth s t c d
  since-begun = growing.grows-more p b.depth s t c d more plus refl refl there.related.areas.count deeper

  count-areas : length areas ≡ length variables
  count-areas = length-map variables (variable_area w)

  -- the area of a new variable
  new-address : (j : ℕ) → j < length variables → address (ground_of p t d) (length s.memory.objects + j) ≡ slice_index (addresses areas (next_frame c.memory)) j
  new-address j less =
      let v = there-is variables j less in
      ap (λ (n : ℕ). address_in (slice_get (c.areas ++ plus) (n + j))) (sym there.related.areas.count)
      ∙ ap address_in (get_back c.areas plus j ∙ get-placed areas (next_frame c.memory) j (variable_area w v.0) (get-mapped (variable_area w) variables j v.0 v.1))

  old-address : (j : ℕ) → j < length s.memory.objects → address (ground_of p t d) j ≡ address (ground_of p s c) j
  old-address j less = growing.address-same p b.depth s t c d more plus refl refl there.related.areas.count deeper j less

  count-more : length more ≡ length variables
  count-more = length-map variables (new_variable p.whole.table (suc b.depth))

  found-variable : (j : ℕ) (v : Planned) → slice_get variables j ≡ Some v
      → slice_get t.memory.objects (length s.memory.objects + j) ≡ Some (new_variable p.whole.table (suc b.depth) v)
  found-variable j v e = get_back s.memory.objects more j ∙ get-mapped (new_variable p.whole.table (suc b.depth)) variables j v e

  -- Functions lie below the stack

  beneath : function_address (length w.functions) ≤ next_frame c.memory
  beneath =
      let a = ap (λ (x : Bounds). x.stack_start) there.laid.bounds in let e = is.count in
      let f = frames_end-least c.memory.bounds.stack_start c.memory.frames there.related.sound.consecutive in omega (arith, a, e, f)

  function-below : (f : ℕ) (x : Defined) → slice_get w.functions f ≡ Some x → function_word f ≤ next_frame c.memory
  function-below f x e = let l = slice_get_within w.functions f x e in let h = beneath in omega (arith, l, h)

  functions : AreFunctionsLaid w p.whole.node t d
  functions = record {
    few = there.laid.functions.few;
    empty = λ f x e. number-same 8 d.memory.bytes c.memory.bytes (function_word f - 8) (function_word f - 8)
        (λ i l. get-areas_made_other areas c.memory.bytes (next_frame c.memory) (function_word f - 8 + i) (inl (let h = function-below f x e in omega (arith, l, h))))
        ∙ there.laid.functions.empty f x e;
    apart = λ f x e. depth_in-older (frame_of areas charge (next_frame c.memory)) c.memory.frames (function_word f) (inl (function-below f x e))
        ∙ there.laid.functions.apart f x e;
    beyond = λ j o found live. beyond j o live (which s.memory.objects more j o found);
  }
    where
      beyond : (j : ℕ) (o : Object) → o.live ≡ true → Which s.memory.objects more j o → function_address (length w.functions) < address (ground_of p t d) j
      beyond j o live (old e l) = let a = old-address j l in let h = there.laid.functions.beyond j o e live in omega (arith, a, h)
      beyond j o live (new i q e) =
          let l : i < length variables = (let m = slice_get_within more i o e in let n = count-more in omega (arith, m, n)) in
          let a = ap (address (ground_of p t d)) q ∙ new-address i l in
          let h = area-after_start areas (next_frame c.memory) i (let n = count-areas in omega (arith, l, n)) in let f = beneath in omega (arith, a, h, f)

  laid : IsLaid p t d
  laid = record {
    bounds = there.laid.bounds;
    heap = record { each = (heap-kept_by_call w p.whole.node s c b.depth variables areas charge there.related there.laid.heap).each };
    functions = functions;
    input = there.laid.input;
  }

  -- Objects that code may name

  place-deeper : (n : NodeId) (u : TypeId) (v : Value) → Holds p t b.depth (PlaceOf n u) v → Holds p t (suc b.depth) (PlaceOf n u) v
  place-deeper n u (Integer z) h = h
  place-deeper n u (Address q) h = (
    record {
      held = record {
        value = h.0.held.value;
        reaches = reaches-more w is.formed (outlines_of t.memory) (lives_of t.memory) b.depth (suc b.depth) q (omega arith) h.0.held.reaches;
      };
      made = h.0.made;
    },
    let place = h.1 in let r = place.reaches in record {
      location = place.location;
      is = place.is;
      place = place.place;
      reaches = record { life = r.life; found = r.found; live = r.live; older = (let o = r.older in omega (arith, o)) };
    },
  )

  objects : (o : named.Object) (v : Planned) (u : TypeId) → planned_at p.whole.statics variables o ≡ Some v → NamesAlike p.sites v.type u
      → Holds p t (suc b.depth) (PlaceOf v.node u) (Address (home p.whole.table (object_number (length s.memory.objects) o) u))
  objects (object.Static n) v u e m = place-deeper v.node u (Address (home p.whole.table n.0 u))
      (since-begun.held b.depth (omega arith) (PlaceOf v.node u) (Address (home p.whole.table n.0 u)) (there.objects (object.Static n) v u e m))
  objects (object.Variable n) v u e m =
      home-named w is.formed t.memory p.sites (length s.memory.objects + n.0) (suc b.depth) (suc b.depth) v (is.are n.0 v e).complete (is.are n.0 v e).plain
      (get-mapped outline t.memory.objects (length s.memory.objects + n.0) (new_variable p.whole.table (suc b.depth) v) (found-variable n.0 v e))
      (record {
        life = life (new_variable p.whole.table (suc b.depth) v);
        found = get-mapped life t.memory.objects (length s.memory.objects + n.0) (new_variable p.whole.table (suc b.depth) v) (found-variable n.0 v e);
        live = refl;
        older = omega arith;
      }) u (is.class v.type u m)

  wide : (o : named.Object) (v : Planned) → planned_at p.whole.statics variables o ≡ Some v
      → width_of p.whole.kind (cells (ground_of p t d) (object_number (length s.memory.objects) o)) ≡ cured_size p.whole.table p.whole.kind v.type
  wide (object.Static n) v e = width-kept p b.depth s t c d since-begun b.first (object.Static n) (named-there p b s c there (object.Static n) v e) ∙ there.wide (object.Static n) v e
  wide (object.Variable n) v e = ap (λ (x : Option Outline). width_of p.whole.kind (cells_in x))
      (get-mapped outline t.memory.objects (length s.memory.objects + n.0) (new_variable p.whole.table (suc b.depth) v) (found-variable n.0 v e))

  own : AreOwn (suc b.depth) (length s.memory.objects) (length variables) (lives_of t.memory)
  own n x e live d_is = by (mapped-from life t.memory.objects n x e)
    where
      by : (o : Object) × (slice_get t.memory.objects n ≡ Some o) × (life o ≡ x) → (length s.memory.objects ≤ n) × (n < length s.memory.objects + length variables)
      by (o, found, same) = of (which s.memory.objects more n o found)
        where
          of : Which s.memory.objects more n o → (length s.memory.objects ≤ n) × (n < length s.memory.objects + length variables)
          of (old f l) = absurd (
              let h = there.facts.lives.each n (life o) (get-mapped life s.memory.objects n o f) (ap (λ (z : Life). z.live) same ∙ live) in
              let e = ap (λ (z : Life). z.depth) same in omega (arith, h, e, d_is))
          of (new i q f) = (omega (arith, q), (let l = slice_get_within more i o f in let m = count-more in omega (arith, q, l, m)))

  -- the areas of the variables lie in the new frame
  own-frame : (n : ℕ) → n < length variables → depth_in d.memory.frames (slice_index (newest_addresses d.memory.frames) n) ≡ flat_depth (suc b.depth)
  own-frame n less =
      let v = there-is variables n less in
      let o : Object = new_variable p.whole.table (suc b.depth) v.0 in
      let lies = related.areas.lie (length s.memory.objects + n) o (found-variable n v.0 v.1) refl in
      ap (depth_in d.memory.frames) (sym (new-address n less) ∙ (let e : address (ground_of p t d) (length s.memory.objects + n) ≡ address (ground_of p t d) (length s.memory.objects + n) + 0 = omega arith in e))
      ∙ lies.depth 0 (omega arith)

  -- the call that has begun
  abbrev pub begun_call : Calls → Enters → Running
  begun_call call enter = record {
    depth = suc b.depth;
    outer = b.depth;
    start = s;
    flat_start = c;
    first = length s.memory.objects;
    frames = d.memory.frames;
    variables = variables;
    call = call;
    enter = enter;
  }

  pub begun : (call : Calls) (enter : Enters) → There p (begun_call call enter) t d
  begun call enter = record {
    related = related;
    facts = facts;
    laid = laid;
    frames = refl;
    deep = ap suc deep;
    made = (let e = length-append s.memory.objects more in let m = count-more in omega (arith, e, m));
    areas = λ n l. sym (new-address n l);
    own_frame = own-frame;
    globals = (let e = length-append s.memory.objects more in let m = there.globals in omega (arith, e, m));
    statics = λ n l. there.statics n l ∙ sym (old-address n (let m = there.globals in omega (arith, l, m)));
    objects = objects;
    wide = wide;
    own = λ some. own;
    since = since-begun;
  }
