-- The prologue of a function: its kept slots are set, the words of its parameters are stored into their areas, and its body begins.
use Rattle.std.proofs.Common.{◌≡◌, ◌≢◌, ◌⊎◌, ℕ, suc, ◌+◌, ◌%◌, ◌^◌, ◌<◌, ◌≤◌, ℤ, inl, inr, List, [], ◌∷◌, ◌++◌, length, map, replicate, slice_get, slice_index, Option, Some, None, refl, ap, sym, subst, ◌∙◌, arith}
use Rattle.std.specs.List.{filter_map, cons_option}
use Rattle.std.proofs.lemmas.List.{length-append, length-replicate}
use Rattle.cc_base.specs.declared.kind.Kind.{Kind}
use Rattle.cc_base.specs.declared.kind.Kind.TheVariants.{Safe, Seq, Rtti, Wild}
use Rattle.cc_base.specs.declared.number.NodeId.{NodeId}
use Rattle.cc_base.specs.declared.number.TypeId.{TypeId}
use Rattle.c_types.specs.declared.shape.TypeShape.{TypeShape}
use Rattle.c_types.specs.declared.shape.TypeShape.TheVariants as shape
use Rattle.c_types.proofs.OrderedPointers.{get_back}
use Rattle.integers.specs.Words.{residue}
use Rattle.integers.specs.Arithmetic.{IntegerType, bits_of}
use Rattle.flat_mem.specs.Bytes.{bytes_at, written}
use Rattle.flat_mem.proofs.ByteLaws.{get-written_inside, get-written_other, length-written}
use Rattle.runs.specs.Outcome.{Outcome, Done, Matches, from}
use Rattle.runs.specs.Control.{then_go}
use Rattle.src_mem.specs.Pointers.{Pointer, Value, Integer, Address}
use Rattle.src_mem.specs.Memory.{Planned, new_variable}
use Rattle.src_mem.specs.State as source
use Rattle.src_mem.specs.State.{Setting}
use Rattle.src_mem.specs.Primitives.{store_integer, store_pointer}
use Rattle.src_mem.specs.Uses.{home, store, store_shape, store_arguments}
use Rattle.src_mem.specs.Outlines.{Outline, Life, LivesAt, outline, life, outlines_of, lives_of}
use Rattle.src_mem.specs.Laws.{Gives}
use Rattle.src_mem.specs.Runs as runs
use Rattle.src_mem.specs.Runs.{Calls, if_named, named_arguments}
use Rattle.src_mem.proofs.Outlines.{get-mapped}
use Rattle.facts_kept.specs.Kept.{IsKept}
use Rattle.facts_kept.proofs.Arguments.{gives-integer_argument, gives-pointer_argument}
use Rattle.cil_form.specs.declared.program.Parameter.{Parameter}
use Rattle.cil_form.specs.declared.number.Object.{Object as NamedObject}
use Rattle.cil_form.specs.declared.number.Object.TheVariants as object
use Rattle.cil_form.specs.State.{no_temps}
use Rattle.cil_form.specs.Typing.{IntegerOf, PointerTo, PlaceOf, no_types}
use Rattle.cil_form.specs.Machine.{head_of, plan, variables_of}
use Rattle.cured_code.specs.declared.instr.Instr.{Instr}
use Rattle.cured_code.specs.declared.instr.Instr.TheVariants as flat_instr
use Rattle.cured_code.specs.FlatState as flat
use Rattle.cured_code.specs.FlatState.{slot, with_slots}
use Rattle.cured_code.specs.FlatMachine.{Context, act, run}
use Rattle.cured_code.proofs.SlotLaws.{slots-same}
use Rattle.check_forms.specs.Pieces.{Line, Then}
use Rattle.check_forms.proofs.TestLaws.{append-append}
use Rattle.sim_relation.specs.Ground.{address, first_word, pointer_words, word_number}
use Rattle.sim_relation.specs.Related.{Related}
use Rattle.sim_relation.specs.Points.{Low, AreWords, Start}
use Rattle.sim_memory.specs.Found.{IsFound, GoOnAlike, storing}
use Rattle.sim_memory.proofs.Finding.{places-found}
use Rattle.sim_memory.proofs.Storing.{integers-stored, pointers-stored}
use Rattle.sim_memory.proofs.Blocks.{index-zero}
use Rattle.cure_rules.specs.Slots.{AreSlots, Nought, Kept, Address as AddressSlot, role_number}
use Rattle.cure_rules.specs.Known.{Gets, IsPlainInteger, IsPointer, nothing_known, words_in, held_shape}
use Rattle.cure_rules.specs.Accesses.{IsHome, PointerStored, integer_stored}
use Rattle.cure_rules.specs.Functions.{AreStored, StoresNamed, StoresParameter, new_slots}
use Rattle.sim_laws.specs.Scenes.{Programs, Scene, Running, Enters, setting_of, world_of, context_of}
use Rattle.sim_laws.specs.Points.{Holds, Grows, There, Point, Passed, ground_of}
use Rattle.sim_laws.specs.Statements.{Lines, FlatOutcome, StatesEndAlike, IsPassed, held_at}
use Rattle.sim_laws.specs.Calls.{Callee, AreArgumentsOf, BodyBegins, parameter_types, scene_in, source_entered, flat_entered, called_from}
use Rattle.sim_laws.proofs.Points.{unwritten}
use Rattle.sim_laws.proofs.Guards.{Got, kept-at, passed-none}
use Rattle.sim_laws.proofs.Checks.{passed-point}
use Rattle.sim_laws.proofs.Keeping.{AllSet, kept-set}
use Rattle.sim_laws.proofs.PassedWords.{StandFrom, arguments-long, arguments-on, first-from, long-row, passed-long, rest-from, row-from}
use Rattle.sim_laws.proofs.Names.{Names, pointer-asked}
use Rattle.sim_laws.proofs.Constants.{named-object}
use Rattle.sim_laws.proofs.Beginning.{IsPlanned}
use Rattle.sim_laws.proofs.Parts.{got-start}
use Rattle.sim_laws.proofs.Storing.{line-of-pointer}
use Rattle.sim_laws.proofs.Accessing.{facts-kept, line-of-store}
use Rattle.sim_laws.proofs.Stays.{grows-kept, there-kept}

-- A point at which nothing is known: the kept slots are set, in slots of which the one that is never written was 0.
pub begun-point : (w : Scene) (g : AreSlots w.slots) (b : Running) (s : source.State) (state : flat.State) (there : There w.programs b s state) → b.outer ≤ b.depth
    → (w.number ≢ 0 → b.depth ≡ suc b.outer) → (variables : b.variables ≡ w.variables) (laid : length w.programs.whole.statics ≤ length w.programs.whole.addresses) (lines : Lines) (slots : List ℕ)
    → length slots ≡ w.slots.count → slice_index slots w.slots.nought ≡ 0
    → (z : AllSet w g b s state there variables laid w.slots.kept lines slots)
    → Point w g b nothing_known (record { state = s; temps = no_temps }) (record { state = state; slots = z.after })
begun-point w g b s state there outer called variables laid lines slots count nought z = record {
  there = there;
  outer = outer;
  called = called;
  variables = variables;
  held = λ t x e. absurd (cc (e));
  stands = λ t x e. absurd (cc (e));
  words = λ t x e. absurd (cc (e));
  kept = z.kept;
  nought = z.others w.slots.nought (λ j x e q. not-kept j (sym g.nought.is ∙ ap g.owner q ∙ (g.kept j x e).is)) ∙ nought;
  count = z.long ∙ count;
  settled = λ t x e. absurd (cc (e));
}
  where
    not-kept : (j : ℕ) → Nought ≡ Kept j → ⊥
    not-kept j e = absurd (cc (e))

-- a home that isn't WILD is SAFE
pub safe-home : (k : Kind) → IsHome k → k ≢ Wild → k ≡ Safe
safe-home Safe home other = refl
safe-home Wild home other = absurd (other refl)
safe-home Seq home other = absurd home
safe-home Rtti home other = absurd home

-- the values of a shape that are passed
record IsIntegerIn (p : Programs) (i : IntegerType) (v : Value) (words : List ℕ) : Type 0 where
  z : ℤ
  value : v ≡ Integer z
  n : ℕ
  is : words ≡ n ∷ []
  low : n % 2 ^ bits_of i ≡ residue z (2 ^ bits_of i)

integer-passed : (p : Programs) (depth : ℕ) (s : source.State) (c : flat.State) (i : IntegerType) (v : Value) (words : List ℕ)
    → IsPassed p depth s c Low (Some (IntegerOf i)) v words → IsIntegerIn p i v words
integer-passed p depth s c i (Integer z) words (held, (n, is, low)) = record { z = z; value = refl; n = n; is = is; low = low }
integer-passed p depth s c i (Address q) words (held, stand) = absurd stand

record IsPointerIn (p : Programs) (depth : ℕ) (s : source.State) (c : flat.State) (m : NodeId) (u : TypeId) (v : Value) (words : List ℕ) : Type 0 where
  pointer : Pointer
  value : v ≡ Address pointer
  held : Holds p s depth (PointerTo m u) (Address pointer)
  is : words ≡ pointer_words (ground_of p s c) (p.whole.kind m) pointer
  are : AreWords words

pointer-passed : (p : Programs) (depth : ℕ) (s : source.State) (c : flat.State) (m : NodeId) (u : TypeId) (v : Value) (words : List ℕ)
    → IsPassed p depth s c Low (Some (PointerTo m u)) v words → IsPointerIn p depth s c m u v words
pointer-passed p depth s c m u (Integer z) words (held, stand) = absurd stand
pointer-passed p depth s c m u (Address q) words (held, stand) = record { pointer = q; value = refl; held = held; is = stand.0; are = stand.1 }

module _ (p : Programs) (k : Callee p) (names : Names (scene_in p k)) (planned : IsPlanned p (variables_of k.function)) (b : Running) (call : Calls) (enters : Enters)
    (s : source.State) (c : flat.State) where
  abbrev w : Scene
  w = scene_in p k

  abbrev g : AreSlots (scene_in p k).slots
  g = k.is.slots.slots

  abbrev inner : Running
  inner = called_from b k call enters s c

  abbrev S : Setting
  S = setting_of p

  abbrev ctx : Context
  ctx = context_of (scene_in p k) (called_from b k call enters s c)

  abbrev entered : source.State
  entered = source_entered p (suc b.depth) k s

  -- what a parameter is once it is a variable
  abbrev named : List Parameter → List Planned
  named ps = filter_map (λ (x : runs.Parameter). runs.planned x.type x.home) (map (λ (x : Parameter). record { type = x.ty; home = x.home }) ps)

  -- Between two stores: the objects are those with which the call began.
  record Midway (t : source.State) (d : flat.Local) : Type 0 where
    point : Point w g inner nothing_known (record { state = t; temps = no_temps }) d
    outlines : outlines_of t.memory ≡ outlines_of entered.memory
    lives : lives_of t.memory ≡ lives_of entered.memory

  -- behind the lines that store one
  record Stored (n : NodeId) (t : TypeId) (j : ℕ) (v : Value) (lines : Lines) (before : source.State) (d : flat.Local) : Type 0 where
    next : source.State
    after : flat.Local
    source_goes : store S (S.kind n) t (home p.whole.table (length s.memory.objects + j) t) v before ≡ Done tt next
    runs : (rest : Lines) → run (lines ++ rest) ctx d ≡ run rest ctx after
    midway : Midway next after
    grows : Grows p b.depth before next d.state after.state
    same : (q : ℕ) → q < w.slots.parameters → slot after q ≡ slot d q

  -- no slot where parameters come is written before they are stored
  parameter-apart : (q a : ℕ) (o : NamedObject) (lines : Lines) → q < w.slots.parameters → Gets (world_of w) AddressSlot (Start o) a lines → q ≢ a
  parameter-apart q a o lines less (inl h) e =
      let x = kept-at w (record { slot = a; content = Start o }) h.0 in
      absurd ((g.behind q less).1 x.0 (ap g.owner e ∙ (g.kept x.0 (record { slot = a; content = Start o }) x.1).is))
  parameter-apart q a o lines less (inr h) e =
      absurd ((g.behind q less).2 (role_number AddressSlot) (ap g.owner (e ∙ h.0) ∙ (g.works (role_number AddressSlot) (omega arith)).is))

  module _ (n : NodeId) (t : TypeId) (j : ℕ) (found : slice_get w.variables j ≡ Some (record { type = t; node = n })) (safe : S.kind n ≡ Safe) (before : source.State)
      (d : flat.Local) (m : Midway before d) where
    abbrev variable : NamedObject
    variable = object.Variable (record { 0 = j })

    abbrev place_of : Pointer
    place_of = home p.whole.table (length s.memory.objects + j) t

    made : slice_get entered.memory.objects (length s.memory.objects + j) ≡ Some (new_variable p.whole.table (suc b.depth) (record { type = t; node = n }))
    made = get_back s.memory.objects (map (new_variable p.whole.table (suc b.depth)) (variables_of k.function)) j
        ∙ get-mapped (new_variable p.whole.table (suc b.depth)) (variables_of k.function) j (record { type = t; node = n }) found

    outlined : slice_get (outlines_of before.memory) (length s.memory.objects + j)
        ≡ Some (outline (new_variable p.whole.table (suc b.depth) (record { type = t; node = n })))
    outlined = ap (λ (os : List Outline). slice_get os (length s.memory.objects + j)) m.outlines
        ∙ get-mapped outline entered.memory.objects (length s.memory.objects + j) (new_variable p.whole.table (suc b.depth) (record { type = t; node = n })) made

    lives-there : LivesAt (lives_of before.memory) (suc b.depth) (length s.memory.objects + j)
    lives-there = record {
      life = life (new_variable p.whole.table (suc b.depth) (record { type = t; node = n }));
      found = ap (λ (ls : List Life). slice_get ls (length s.memory.objects + j)) m.lives
          ∙ get-mapped life entered.memory.objects (length s.memory.objects + j) (new_variable p.whole.table (suc b.depth) (record { type = t; node = n })) made;
      live = refl;
      older = omega arith;
    }

    plain : S.kind n ≢ Wild
    plain e = safe_or (sym safe ∙ e)
      where
        safe_or : Safe ≡ Wild → ⊥
        safe_or f = absurd (cc (f))

    held-home : Holds p before (suc b.depth) (PlaceOf n t) (Address place_of)
    held-home = m.point.there.objects variable (record { type = t; node = n }) t found (inl refl)

    -- the address of its area
    got : (a : ℕ) (lines : Lines) → Gets (world_of w) AddressSlot (Start variable) a lines
        → Got w g ctx lines d a (address (ground_of p before d.state) (length s.memory.objects + j))
    got a lines gets = got-start w g inner nothing_known (record { state = before; temps = no_temps }) d m.point variable n t
        (named-object w inner names 0 no_types variable n t (t, found, inl refl)) AddressSlot (omega arith) a lines gets

    found-home : (a : ℕ) (lines : Lines) (z : Got w g ctx lines d a (address (ground_of p before d.state) (length s.memory.objects + j)))
        → IsFound S p.whole.node before z.after.state t place_of (slot z.after a)
    found-home a lines z =
        subst (λ (x : flat.State). IsFound S p.whole.node before x t place_of (slot z.after a)) (sym z.state)
        (subst (λ (x : ℕ). IsFound S p.whole.node before d.state t place_of x)
        (ap (λ (x : Kind). first_word (ground_of p before d.state) x place_of) safe ∙ none ∙ sym z.is)
        (places-found S p.whole.node before d.state (suc b.depth) (S.kind n) t place_of names.solved.well_formed plain m.point.there.related held-home.0.held held-home.1))
      where
        none : first_word (ground_of p before d.state) Safe place_of ≡ address (ground_of p before d.state) (length s.memory.objects + j)
        none = omega arith

    -- once the line behind it has stored the value
    stored : (v : Value) (a : ℕ) (first : Lines) (line : Instr) (z : Got w g ctx first d a (address (ground_of p before d.state) (length s.memory.objects + j)))
        → ((q : ℕ) → q < w.slots.parameters → q ≢ a)
        → (act_of : source.State → Outcome source.Ending source.State (Unit {0})) → store S (S.kind n) t place_of v before ≡ act_of before
        → (y : GoOnAlike S p.whole.node before z.after (act_of before) (act line ctx z.after) tt z.after.slots)
        → IsKept S p.sites before.memory y.next.memory → Stored n t j v (first ++ line ∷ []) before d
    stored v a first line z apart act_of goes y kept = record {
      next = y.next;
      after = y.after;
      source_goes = goes ∙ y.source_goes;
      runs = λ rest. ap (λ (js : Lines). run js ctx d) (append-append first (line ∷ []) rest) ∙ z.runs (line ∷ rest)
          ∙ ap (λ (q : FlatOutcome). from q (λ x. then_go x (run rest ctx))) y.flat_goes;
      midway = record {
        point = unwritten w g inner nothing_known nothing_known (record { state = before; temps = no_temps }) y.next z.after y.after point
            (there-kept p before y.next z.after.state y.after.state y.stays inner point.outer point.there y.related
            (facts-kept S p.sites before.memory y.next.memory (suc b.depth) kept m.point.there.facts))
            (grows-kept p before y.next z.after.state y.after.state y.stays (suc b.depth))
            (subst (λ (xs : List ℕ). Passed w g z.after.slots xs) (sym y.slots_are) (passed-none w g z.after.slots)) (λ u x e. e);
        outlines = y.stays.outlines ∙ m.outlines;
        lives = y.stays.lives ∙ m.lives;
      };
      grows = subst (λ (x : flat.State). Grows p b.depth before y.next x y.after.state) z.state (grows-kept p before y.next z.after.state y.after.state y.stays b.depth);
      same = λ q less. ap (λ (xs : List ℕ). slice_index xs q) y.slots_are ∙ z.others q (apart q less);
    }
      where
        point : Point w g inner nothing_known (record { state = before; temps = no_temps }) z.after
        point = passed-point w g inner nothing_known (record { state = before; temps = no_temps }) d z.after m.point z.state z.passed

    -- an integer
    stored-integer : (i : IntegerType) (v : Value) (words : List ℕ) (q a : ℕ) (lines first last : Lines) → IsPlainInteger (world_of w) t i
        → IsIntegerIn p i v words → StandFrom words d.slots q → q + length words ≤ w.slots.parameters
        → Gets (world_of w) AddressSlot (Start variable) a first → last ≡ integer_stored (S.kind n) i.bytes (new_slots (world_of w) a) q → lines ≡ first ++ last
        → Stored n t j v lines before d
    stored-integer i v words q a lines first last integer x stand room gets last_is is =
        subst (λ (js : Lines). Stored n t j v js before d) (sym (is ∙ ap (λ (js : Lines). first ++ js) (last_is ∙ line-of-store (S.kind n) plain i.bytes (new_slots (world_of w) a) q)))
        (stored v a first (flat_instr.St i.bytes a q) z (λ r less. parameter-apart r a variable first less gets)
        (store_integer (S.kind n) i place_of x.z) goes stores kept)
      where
        z : Got w g ctx first d a (address (ground_of p before d.state) (length s.memory.objects + j))
        z = got a first gets

        one : length words ≡ 1
        one = ap (λ (xs : List ℕ). length xs) x.is

        held : slot z.after q ≡ x.n
        held = z.others q (parameter-apart q a variable first (let e = one in omega (arith, e, room)) gets)
            ∙ (let none : q + 0 ≡ q = omega arith in ap (slice_index d.slots) (sym none))
            ∙ stand 0 (let e = one in omega (arith, e)) ∙ ap (λ (xs : List ℕ). slice_index xs 0) x.is

        goes : store S (S.kind n) t place_of v before ≡ store_integer (S.kind n) i place_of x.z before
        goes = ap (λ (h : TypeShape). store_shape (S.kind n) h place_of v before) integer.0
            ∙ ap (λ (y : Value). store_shape (S.kind n) (shape.Integer i.bytes i.signed) place_of y before) x.value

        stores : GoOnAlike S p.whole.node before z.after (store_integer (S.kind n) i place_of x.z before) (act (flat_instr.St i.bytes a q) ctx z.after) tt z.after.slots
        stores = integers-stored S p.whole.node (S.kind n) t i place_of x.z before ctx a q z.after plain integer.0 integer.1
            (subst (λ (y : flat.State). Related S p.whole.node before y) (sym z.state) m.point.there.related) (found-home a first z)
            (ap (λ (y : ℕ). y % 2 ^ bits_of i) held ∙ x.low)

        kept : IsKept S p.sites before.memory stores.next.memory
        kept = subst (λ (y : Outcome source.Ending source.State (Unit {0})). Gives y (λ u r. IsKept S p.sites before.memory r.memory))
            (ap (λ (y : Value). store S (S.kind n) t place_of y before) (sym x.value) ∙ goes ∙ stores.source_goes)
            (gives-integer_argument S names.solved.well_formed p.sites b.depth before m.point.there.facts (length s.memory.objects + j) (record { type = t; node = n })
            (planned.are j (record { type = t; node = n }) found) outlined lives-there i x.z integer.0)

    -- a pointer
    stored-pointer : (h : NodeId) (u : TypeId) (v : Value) (words : List ℕ) (q a : ℕ) (lines first last : Lines) → IsPointer (world_of w) t h u
        → IsPointerIn p b.depth before d.state h u v words → StandFrom words d.slots q → q + length words ≤ w.slots.parameters
        → Gets (world_of w) AddressSlot (Start variable) a first → PointerStored (S.kind n) (S.kind h) (world_of w) (new_slots (world_of w) a) q last
        → lines ≡ first ++ last → Stored n t j v lines before d
    stored-pointer h u v words q a lines first last pointer x stand room gets last_is is =
        subst (λ (js : Lines). Stored n t j v js before d)
        (sym (is ∙ ap (λ (js : Lines). first ++ js) (line-of-pointer (S.kind n) (S.kind h) plain w (new_slots (world_of w) a) q last last_is)))
        (stored v a first (storing (S.kind h) a q) z (λ r less. parameter-apart r a variable first less gets)
        (store_pointer (S.kind n) place_of x.pointer) goes stores kept)
      where
        z : Got w g ctx first d a (address (ground_of p before d.state) (length s.memory.objects + j))
        z = got a first gets

        long : length words ≡ word_number (S.kind h)
        long = ap (λ (xs : List ℕ). length xs) x.is ∙ long-row (ground_of p before d.state) (S.kind h) x.pointer

        held : bytes_at (word_number (S.kind h)) z.after.slots q ≡ pointer_words (ground_of p before z.after.state) (S.kind h) x.pointer
        held = slots-same (word_number (S.kind h)) q d.slots z.after.slots
            (λ i l. z.others (q + i) (parameter-apart (q + i) a variable first (let e = long in omega (arith, e, room, l)) gets))
            ∙ ap (λ (y : ℕ). bytes_at y d.slots q) (sym long) ∙ row-from words d.slots q stand ∙ x.is
            ∙ ap (λ (y : flat.State). pointer_words (ground_of p before y) (S.kind h) x.pointer) (sym z.state)

        goes : store S (S.kind n) t place_of v before ≡ store_pointer (S.kind n) place_of x.pointer before
        goes = ap (λ (y : TypeShape). store_shape (S.kind n) y place_of v before) pointer
            ∙ ap (λ (y : Value). store_shape (S.kind n) (shape.Pointer h u) place_of y before) x.value

        stores : GoOnAlike S p.whole.node before z.after (store_pointer (S.kind n) place_of x.pointer before) (act (storing (S.kind h) a q) ctx z.after) tt z.after.slots
        stores = pointers-stored S p.whole.node (S.kind n) t h u place_of x.pointer before ctx a q z.after names.solved.well_formed plain pointer
            (subst (λ (y : flat.State). Related S p.whole.node before y) (sym z.state) m.point.there.related) (found-home a first z) held
            (subst AreWords (x.is ∙ ap (λ (y : flat.State). pointer_words (ground_of p before y) (S.kind h) x.pointer) (sym z.state)) x.are)

        kept : IsKept S p.sites before.memory stores.next.memory
        kept = subst (λ (y : Outcome source.Ending source.State (Unit {0})). Gives y (λ u r. IsKept S p.sites before.memory r.memory))
            (ap (λ (y : Value). store S (S.kind n) t place_of y before) (sym x.value) ∙ goes ∙ stores.source_goes)
            (gives-pointer_argument S names.solved.well_formed p.sites b.depth before m.point.there.facts (length s.memory.objects + j) (record { type = t; node = n })
            (planned.are j (record { type = t; node = n }) found) outlined lives-there h u x.pointer pointer x.held.held
            (x.held.made (pointer-asked w names t h u pointer)))

    -- one of them
    stores-one : (v : Value) (words : List ℕ) (q : ℕ) (lines : Lines) → StoresParameter (world_of w) n t q j lines
        → IsPassed p b.depth before d.state Low (held_at p.whole t) v words → StandFrom words d.slots q → q + length words ≤ w.slots.parameters
        → Stored n t j v lines before d
    unfolding Line Then
    stores-one v words q lines (a, home_is, inl (i, integer, (first, last, gets, last_is, is))) passed stand room =
        stored-integer i v words q a lines first last integer
        (integer-passed p b.depth before d.state i v words (subst (λ (h : TypeShape). IsPassed p b.depth before d.state Low (held_shape h) v words) integer.0 passed))
        stand room gets last_is is
    stores-one v words q lines (a, home_is, inr (h, u, pointer, (first, last, gets, last_is, is))) passed stand room =
        stored-pointer h u v words q a lines first last pointer
        (pointer-passed p b.depth before d.state h u v words (subst (λ (y : TypeShape). IsPassed p b.depth before d.state Low (held_shape y) v words) pointer passed))
        stand room gets last_is is

  -- All of them

  abbrev Ends : Outcome source.Ending source.State (Unit {0}) → FlatOutcome → Type 0
  Ends o q = Matches (BodyBegins p k inner) (λ e t f d. StatesEndAlike p e t f d.state) o q

  -- the variables from number j on
  abbrev AreVariables : List Planned → ℕ → Type 0
  AreVariables xs j = (i : ℕ) → slice_get xs i ≡ slice_get w.variables (j + i)

  -- what is so of lines that store so many parameters
  abbrev StoresFrom : List Parameter → List Value → Type 0
  StoresFrom ps vs = (words : List ℕ) (q j : ℕ) (lines : Lines) (locals : List Planned) (t : source.State) (d : flat.Local) → Midway t d → AreStored (world_of w) ps q j lines
      → AreArgumentsOf p b.depth t d.state (map (λ (x : Parameter). x.ty) ps) vs words → StandFrom words d.slots q → q + length words ≤ w.slots.parameters
      → AreVariables (named ps ++ locals) j
      → Ends (store_arguments S (length s.memory.objects + j) (named ps ++ locals) (named_arguments (map (λ (x : Parameter). record { type = x.ty; home = x.home }) ps) vs) t)
      (run lines ctx d)

  -- no home of a parameter is WILD
  abbrev pub ArePlainHomes : List Parameter → Type 0
  ArePlainHomes ps = (i : ℕ) (x : Parameter) (n : NodeId) → slice_get ps i ≡ Some x → x.home ≡ Some n → p.whole.kind n ≢ Wild

  stores-next : (t : TypeId) (h : Option NodeId) (ps : List Parameter) (v : Value) (vs : List Value) → StoresFrom ps vs
      → ((n : NodeId) → h ≡ Some n → S.kind n ≢ Wild) → (first rest : List ℕ) (q j : ℕ) (lines : Lines) (locals : List Planned) (before : source.State) (d : flat.Local)
      → Midway before d → StoresNamed (world_of w) h t q j (AreStored (world_of w) ps (q + words_in p.whole t)) lines
      → IsPassed p b.depth before d.state Low (held_at p.whole t) v first → AreArgumentsOf p b.depth before d.state (map (λ (x : Parameter). x.ty) ps) vs rest
      → StandFrom (first ++ rest) d.slots q → q + length (first ++ rest) ≤ w.slots.parameters → AreVariables (cons_option (runs.planned t h) (named ps) ++ locals) j
      → Ends (store_arguments S (length s.memory.objects + j) (cons_option (runs.planned t h) (named ps) ++ locals)
      (if_named h v (named_arguments (map (λ (x : Parameter). record { type = x.ty; home = x.home }) ps) vs)) before) (run lines ctx d)
  unfolding Then
  stores-next t None ps v vs others plain first rest q j lines locals before d m stores passed more stand room variables =
      others rest (q + words_in p.whole t) j lines locals before d m stores more
      (subst (λ (n : ℕ). StandFrom rest d.slots (q + n)) (passed-long p b.depth before d.state Low t v first passed) (rest-from first rest d.slots q stand))
      (let e = passed-long p b.depth before d.state Low t v first passed in let l = length-append first rest in omega (arith, e, l, room)) variables
  stores-next t (Some n) ps v vs others plain first rest q j lines locals before d m (x, y, stores, behind, is) passed more stand room variables =
      subst (λ (js : Lines). Ends (from (store S (S.kind n) t (home p.whole.table (length s.memory.objects + j) t) v before) (λ u. rest_of)) (run js ctx d)) (sym is)
      (subst (λ (o : FlatOutcome). Ends (from (store S (S.kind n) t (home p.whole.table (length s.memory.objects + j) t) v before) (λ u. rest_of)) o) (sym (z.runs y))
      (subst (λ (o : Outcome source.Ending source.State (Unit {0})). Ends (from o (λ u. rest_of)) (run y ctx z.after)) (sym z.source_goes)
      (subst (λ (i : ℕ). Ends (store_arguments S i (named ps ++ locals) (named_arguments (map (λ (x : Parameter). record { type = x.ty; home = x.home }) ps) vs) z.next) (run y ctx z.after))
      (let next : length s.memory.objects + suc j ≡ suc (length s.memory.objects + j) = omega arith in next)
      (others rest (q + words_in p.whole t) (suc j) y locals z.next z.after z.midway behind
      (arguments-on p b.depth before z.next d.state z.after.state z.grows (map (λ (x : Parameter). x.ty) ps) vs rest more)
      (λ i l. z.same (q + words_in p.whole t + i) (let e = long in omega (arith, e, l, room))
      ∙ subst (λ (i : ℕ). StandFrom rest d.slots (q + i)) (passed-long p b.depth before d.state Low t v first passed) (rest-from first rest d.slots q stand) i l)
      (let e = long in omega (arith, e, room))
      (λ i. variables (suc i) ∙ (let next : j + suc i ≡ suc j + i = omega arith in ap (slice_get w.variables) next))))))
    where
      rest_of : source.State → Outcome source.Ending source.State (Unit {0})
      rest_of = store_arguments S (suc (length s.memory.objects + j)) (named ps ++ locals) (named_arguments (map (λ (x : Parameter). record { type = x.ty; home = x.home }) ps) vs)

      found : slice_get w.variables j ≡ Some (record { type = t; node = n })
      found = (let none : j ≡ j + 0 = omega arith in ap (slice_get w.variables) none) ∙ sym (variables 0)

      long : length (first ++ rest) ≡ words_in p.whole t + length rest
      long = length-append first rest ∙ ap (λ (i : ℕ). i + length rest) (passed-long p b.depth before d.state Low t v first passed)

      z : Stored n t j v x before d
      z = stores-one n t j found (safe-home (S.kind n) stores.1 (plain n refl)) before d m v first q x stores passed (first-from first rest d.slots q stand)
          (let l = length-append first rest in omega (arith, l, room))

  stores-all : (ps : List Parameter) (vs : List Value) → ArePlainHomes ps → StoresFrom ps vs
  unfolding Line
  stores-all [] vs plain words q j lines locals t d m stores are stand room variables =
      subst (λ (js : Lines). Ends (Done tt t) (run js ctx d)) (sym stores) (refl, m.point)
  stores-all (x ∷ ps) [] plain words q j lines locals t d m stores are stand room variables = absurd are
  stores-all (x ∷ ps) (v ∷ vs) plain words q j lines locals t d m stores (first, rest, is, passed, more) stand room variables =
      stores-next x.ty x.home ps v vs (stores-all ps vs (λ i y n e f. plain (suc i) y n e f)) (λ n e. plain 0 x n refl e) first rest q j lines locals t d m stores passed more
      (subst (λ (ws : List ℕ). StandFrom ws d.slots q) is stand) (subst (λ (ws : List ℕ). q + length ws ≤ w.slots.parameters) is room) variables

  pub prologue-stores : (laid : length p.whole.statics ≤ length p.whole.addresses) → ArePlainHomes k.function.parameters → (arguments : List Value) (words : List ℕ)
      → AreArgumentsOf p b.depth s c (parameter_types k.function) arguments words → There p inner entered (flat_entered k c).state
      → Ends (store_arguments S (length s.memory.objects) (variables_of k.function) (named_arguments (head_of k.function).parameters arguments) entered)
      (run (k.enters.body.sets ++ k.enters.body.stores) ctx (with_slots 0 words (flat_entered k c)))
  prologue-stores laid plain arguments words are there =
      subst (λ (o : FlatOutcome). Ends (store_arguments S (length s.memory.objects) (variables_of k.function) (named_arguments (head_of k.function).parameters arguments) entered) o)
      (sym (set.runs k.enters.body.stores))
      (subst (λ (i : ℕ). Ends (store_arguments S i (variables_of k.function) (named_arguments (head_of k.function).parameters arguments) entered) (run k.enters.body.stores ctx begun))
      (let none : length s.memory.objects + 0 ≡ length s.memory.objects = omega arith in none)
      (stores-all k.function.parameters arguments plain words 0 0 k.enters.body.stores (map plan k.function.locals) entered begun (record { point = point; outlines = refl; lives = refl })
      k.enters.body.are_stored
      (arguments-on p b.depth s entered c (flat_entered k c).state there.since (parameter_types k.function) arguments words are)
      stand (let l = long in omega (arith, l)) (λ i. let none : i ≡ 0 + i = omega arith in ap (slice_get w.variables) none)))
    where
      slots : List ℕ
      slots = written words (replicate k.cured.slots 0) 0

      count : length (written words (replicate k.cured.slots 0) 0) ≡ w.slots.count
      count = length-written words (replicate k.cured.slots 0) 0 ∙ length-replicate k.cured.slots 0 ∙ k.is.slots.count

      long : length words ≡ w.slots.parameters
      long = arguments-long p b.depth s c k.function.parameters arguments words are ∙ sym k.is.slots.parameters

      -- the slot that is never written lies behind them
      behind : w.slots.parameters ≤ w.slots.nought
      behind = by (sides w.slots.nought w.slots.parameters)
        where
          sides : (i n : ℕ) → (i < n) ⊎ (n ≤ i)
          sides i n = grind arith

          by : (w.slots.nought < w.slots.parameters) ⊎ (w.slots.parameters ≤ w.slots.nought) → w.slots.parameters ≤ w.slots.nought
          by (inl h) = absurd ((g.behind w.slots.nought h).0 g.nought.is)
          by (inr h) = h

      nought : slice_index (written words (replicate k.cured.slots 0) 0) w.slots.nought ≡ 0
      nought = get-written_other words (replicate k.cured.slots 0) 0 w.slots.nought (inr (let l = long in let h = behind in omega (arith, l, h)))
          ∙ index-zero k.cured.slots w.slots.nought

      set : AllSet w g inner entered (flat_entered k c).state there refl laid w.slots.kept k.enters.body.sets (written words (replicate k.cured.slots 0) 0)
      set = kept-set w g inner entered (flat_entered k c).state there refl laid k.enters.body.sets (written words (replicate k.cured.slots 0) 0) count k.enters.body.are_set

      begun : flat.Local
      begun = record { state = (flat_entered k c).state; slots = set.after }

      point : Point w g inner nothing_known (record { state = entered; temps = no_temps }) begun
      point = begun-point w g inner entered (flat_entered k c).state there (omega arith) (λ some. refl) refl laid k.enters.body.sets (written words (replicate k.cured.slots 0) 0) count nought set

      -- the words have come in the first slots, and stay there
      stand : StandFrom words set.after 0
      stand i l =
          set.others (0 + i) (λ j x e q. (g.behind (0 + i) (let h = long in omega (arith, h, l))).1 j (ap g.owner q ∙ (g.kept j x e).is))
          ∙ get-written_inside words (replicate k.cured.slots 0) 0 i l
          (let h = long in let f = k.is.slots.held in let e = length-replicate {A = ℕ} k.cured.slots 0 in let n = k.is.slots.count in omega (arith, h, f, e, n))
