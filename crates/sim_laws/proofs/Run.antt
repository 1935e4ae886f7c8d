-- The whole run: the static initialisers, DEPTH of `main`, `main`, and the exit.
use Rattle.std.proofs.Common.{◌≡◌, ℕ, zero, suc, ◌<◌, ℤ, Bool, true, false, List, [], ◌∷◌, ◌++◌, length, map, slice_get, slice_index, slice_set, All, Option, Some, None, refl, ap, sym, subst, ◌∙◌, arith, if◌then◌else◌, get_or-set_same}
use Rattle.std.specs.Prelude.{slice_index_or}
use Rattle.std.proofs.lemmas.Option.{slice_get_within}
use Rattle.cc_base.specs.declared.number.TypeId.{TypeId}
use Rattle.cc_base.specs.declared.number.NodeId.{NodeId}
use Rattle.cc_base.specs.declared.place.Place.{Place}
use Rattle.cc_base.specs.declared.kind.Kind.{Kind}
use Rattle.cc_base.specs.declared.fault.Check.TheVariants as check
use Rattle.c_types.specs.declared.shape.TypeShape.{TypeShape}
use Rattle.c_types.specs.declared.shape.TypeShape.TheVariants as shape
use Rattle.kind_sites.specs.declared.site.Site.{Site}
use Rattle.c_types.specs.Table.{shape_at, is_function_shape}
use Rattle.integers.specs.Words.{word, low_byte}
use Rattle.integers.specs.Arithmetic.{int}
use Rattle.integers.proofs.WordLaws.{low_byte-word}
use Rattle.runs.specs.Outcome.{Run, Outcome, Done, Ended, done, from, allowed, Matches}
use Rattle.runs.specs.Control.{Goes, Leaves, Gives, then_go}
use Rattle.flat_mem.specs.Bytes.{written}
use Rattle.flat_mem.specs.Memory.{fits}
use Rattle.flat_mem.specs.Placement.{areas_size}
use Rattle.src_mem.specs.Pointers.{Value, Integer, Address}
use Rattle.src_mem.specs.State as source
use Rattle.src_mem.specs.State.{Defined, given}
use Rattle.src_mem.specs.Checks as checks
use Rattle.src_mem.specs.Checks.{has_room}
use Rattle.src_mem.specs.Runs as runs
use Rattle.src_mem.specs.Runs.{Calls, Callable, SourceOutcome, call_within, call_body, nested_limit, run_main, status_of, defined, named_arguments}
use Rattle.src_mem.proofs.Outlines.{get-mapped}
use Rattle.cil_form.specs.declared.program.Program.{Program}
use Rattle.cil_form.specs.declared.program.Function as function
use Rattle.cil_form.specs.State as code
use Rattle.cil_form.specs.State.{no_temps}
use Rattle.cil_form.specs.Typing.{HeldType, IntegerOf}
use Rattle.cil_form.specs.Meaning as meaning
use Rattle.cil_form.specs.Shape.{IsInShape, IsMain, IsFunctionInShape, result_of_shape}
use Rattle.cil_form.specs.Machine.{head_of, callable, without_temps, body_of, code_run}
use Rattle.cured_code.specs.declared.instr.Instr.TheVariants as flat_instr
use Rattle.cured_code.specs.declared.parts.Function as cured
use Rattle.cured_code.specs.declared.parts.Parts.{Parts}
use Rattle.cured_code.specs.FlatState as flat
use Rattle.cured_code.specs.FlatState.{slot, slots_at, with_slots, Stopped}
use Rattle.cured_code.specs.FlatMachine as machine
use Rattle.cured_code.specs.FlatMachine.{Context, run, received, enter, entry, entered_limit, flat_run, areas_of, loaded_memory, frames_charge_limit}
use Rattle.cured_code.specs.Tables.{params_of, params_in, sig_of, call_fits, function_at}
use Rattle.cured_code.specs.Tables as tables
use Rattle.cured_code.proofs.RunLaws.{run-append, call-fits}
use Rattle.cured_code.proofs.StartLaws.{fits-start}
use Rattle.cured_code.proofs.TableLaws.{function_at-address}
use Rattle.check_forms.specs.Pieces.{Line, Then}
use Rattle.check_forms.specs.Conditions.{HasRoom}
use Rattle.check_forms.specs.Rows.{Asked, asked}
use Rattle.check_forms.specs.RowChecks.{AreChecks, AreChecked, stopped_by}
use Rattle.check_forms.proofs.RowLaws.{rows}
use Rattle.check_forms.proofs.TestLaws.{append-append}
use Rattle.sim_relation.specs.Ground.{function_word}
use Rattle.sim_relation.specs.Related.{Related}
use Rattle.sim_relation.specs.Outcomes.{RunAlike}
use Rattle.sim_relation.specs.Points.{Exact, Knowledge, Number}
use Rattle.sim_relation.proofs.Ends.{ends-alike}
use Rattle.cure_rules.specs.Slots.{Slots, AreSlots, First, slot_of, work_of}
use Rattle.cure_rules.specs.Slots as role
use Rattle.cure_rules.specs.Known.{Gets, held_shape, nothing_known}
use Rattle.cure_rules.specs.Functions.{signature_by, words_at}
use Rattle.cure_rules.specs.Code.{outside}
use Rattle.cure_rules.specs.Programs.{IsStart, EntersMain, whole_of, IsCuredProgram}
use Rattle.cure_rules.specs.Programs as programs
use Rattle.sim_laws.specs.Scenes.{Programs, Running, setting_of, world_of, first_scene, around_of, context_of}
use Rattle.sim_laws.specs.Points.{Point}
use Rattle.sim_laws.specs.Statements.{Lines, CodeOutcome, FlatOutcome, StatesEndAlike, IsPassed, held_result, Match}
use Rattle.sim_laws.specs.Calls.{AreArgumentsOf, parameter_types, result_type, Returned, Callee, called_from, FrameLaws, InstructionLaws}
use Rattle.sim_laws.specs.Runs.{programs_of, source_first, first_running, CuredProgramsRunAlike}
use Rattle.sim_laws.proofs.Guards.{role-there, Got, got-number, ready}
use Rattle.sim_laws.proofs.Control.{follows-list}
use Rattle.sim_laws.proofs.Returns.{none-at}
use Rattle.sim_laws.proofs.Calls.{AreCured, calls, called-alike, callee_at, calls_within, source_called}

-- two runs that end alike, in related states
abbrev AlikeRuns : Programs → SourceOutcome → machine.FlatOutcome → Type 0
AlikeRuns p o q = RunAlike (setting_of p) p.whole.node o q

alike : (p : Programs) (e : source.Ending) (s : source.State) (f : flat.Ending) (c : flat.State) → StatesEndAlike p e s f c → AlikeRuns p (runs.seen e s) (machine.seen f c)
alike p e s f c h = ends-alike (setting_of p) p.whole.node e s f c h.1 h.0

-- The exit with what `main` gives

record GivesInt (v : Value) (words : List ℕ) : Type 0 where
  z : ℤ
  value : v ≡ Integer z
  stand : words ≡ word z ∷ []

gives-int : (p : Programs) (depth : ℕ) (s : source.State) (c : flat.State) (v : Value) (ws : List ℕ) → IsPassed p depth s c Exact (Some (IntegerOf int)) v ws → GivesInt v ws
gives-int p depth s c (Integer z) ws (held, (n, is, holds)) = record { z = z; value = refl; stand = is ∙ ap (λ (k : ℕ). k ∷ []) holds }
gives-int p depth s c (Address q) ws (held, h) = absurd h

one-written : (n : ℕ) (slots : List ℕ) (a : ℕ) → written (n ∷ []) slots a ≡ slice_set slots a n
unfolding written
one-written n slots a = refl

exit-alike : (p : Programs) (b : Running) (f : function.Function) (x : ℕ) (ctx : Context) (s : source.State) (c : flat.State) (d : flat.Local)
    → held_result p.whole (result_type p f) ≡ Some (IntegerOf int) → x < length d.slots
    → (o : Outcome source.Ending source.State Value) (q : Outcome flat.Ending flat.State (List ℕ)) → Matches (Returned p b f s c) (StatesEndAlike p) o q
    → AlikeRuns p (runs.finished o) (machine.finished (from (received x d q) (λ z. then_go z (run (flat_instr.Exit x ∷ []) ctx))))
exit-alike p b f x ctx s c d is below (Ended e t) (Ended g k) h = alike p e t g k h
exit-alike p b f x ctx s c d is below (Ended e t) (Done ws k) h = absurd h
exit-alike p b f x ctx s c d is below (Done v t) (Ended g k) h = absurd h
exit-alike p b f x ctx s c d is below (Done v t) (Done ws k) h =
    of (gives-int p b.depth t k v ws (subst (λ (y : Option HeldType). IsPassed p b.depth t k Exact y v ws) is h.result))
  where
    of : GivesInt v ws → AlikeRuns p (runs.seen (source.Exited (status_of v)) t) (machine.seen (flat.Exited (low_byte (slice_index (with_slots x ws d).slots x))) k)
    of y = alike p (source.Exited (status_of v)) t (flat.Exited (low_byte (slice_index (with_slots x ws d).slots x))) k (
      ap low_byte (ap (λ (us : List ℕ). slice_index (with_slots x us d).slots x) y.stand ∙ ap (λ (us : List ℕ). slice_index us x) (one-written (word y.z) d.slots x)
          ∙ get_or-set_same d.slots x (word y.z) 0 below) ∙ low_byte-word y.z ∙ sym (ap status_of y.value),
      h.there.related,
    )

-- What is asked of `main`

record Main (p : Programs) (f : ℕ) (d : function.Function) : Type 0 where
  found : slice_get p.functions f ≡ Some d
  bare : parameter_types d ≡ []
  gives : held_result p.whole (result_type p d) ≡ Some (IntegerOf int)
  takes : params_of p.parts (suc f) ≡ 0
  there : suc f < length p.parts.functions

pub named-none : (ps : List runs.Parameter) → named_arguments ps [] ≡ []
named-none [] = refl
named-none (p ∷ ps) = refl

-- DEPTH of `main`: the lines go on where its frame fits, else they stop
record Entering (p : Programs) (slots : Slots) (g : AreSlots slots) (ctx : Context) (lines : Lines) (c : flat.Local) (fits : Bool) (at : Place) : Type 0 where
  after : flat.Local
  state : after.state ≡ c.state
  long : length after.slots ≡ length c.slots
  runs : (rest : Lines) → run (lines ++ rest) ctx c ≡ from (allowed fits (Stopped check.Depth at) (done Goes) after) (λ z. then_go z (run rest ctx))

stopped-is : (fits : Bool) (a : Asked) (d : flat.Local) → stopped_by (if fits then None else Some a) d ≡ allowed fits (Stopped a.check a.place) (done Goes) d
stopped-is true a d = refl
stopped-is false a d = refl

entering : (p : Programs) (slots : Slots) (g : AreSlots slots) (b : Running) (known : Knowledge) (l : code.Local) (c : flat.Local)
    → Point (first_scene p slots) g b known l c → (f a : ℕ) (at : Place) (x y : Lines) → suc f < length p.parts.functions
    → Gets (world_of (first_scene p slots)) role.Address (Number (function_word f)) a x
    → AreChecks (work_of slots) (asked check.Depth at (HasRoom a) ∷ []) y
    → Entering p slots g (context_of (first_scene p slots) b) (x ++ y) c (call_fits p.parts (suc f) c.state.memory) at
entering p slots g b known l c point f a at x y there gets checks = of (got-number (first_scene p slots) g b known l c point role.Address (omega arith) (function_word f) a x gets)
  where
    ctx : Context
    ctx = context_of (first_scene p slots) b

    of : Got (first_scene p slots) g ctx x c a (function_word f) → Entering p slots g ctx (x ++ y) c (call_fits p.parts (suc f) c.state.memory) at
    of z = with_rows (rows (work_of slots) (asked check.Depth at (HasRoom a) ∷ []) y ctx z.after
        (ready (first_scene p slots) g c z.after point.count point.nought z.passed) (z.other, tt) (tt, tt) (tt, λ q. tt) checks)
      where
        room : tables.has_room p.parts (function_at (length p.parts.functions) (slot z.after a)) z.after.state.memory ≡ call_fits p.parts (suc f) c.state.memory
        room = ap (λ (n : ℕ). tables.has_room p.parts (function_at (length p.parts.functions) n) z.after.state.memory) z.is
            ∙ ap (λ (o : Option ℕ). tables.has_room p.parts o z.after.state.memory) (function_at-address (length p.parts.functions) (suc f) there)
            ∙ ap (λ (s : flat.State). call_fits p.parts (suc f) s.memory) z.state

        with_rows : AreChecked (work_of slots) (asked check.Depth at (HasRoom a) ∷ []) y ctx z.after → Entering p slots g ctx (x ++ y) c (call_fits p.parts (suc f) c.state.memory) at
        with_rows r = record {
          after = r.after;
          state = r.state ∙ z.state;
          long = r.count ∙ z.passed.long;
          runs = λ rest. ap (λ (js : Lines). run js ctx c) (append-append x y rest) ∙ z.runs (y ++ rest) ∙ r.runs rest
              ∙ ap (λ (q : Bool). from (stopped_by (if q then None else Some (asked check.Depth at (HasRoom a))) r.after) (λ u. then_go u (run rest ctx))) room
              ∙ ap (λ (o : FlatOutcome). from o (λ u. then_go u (run rest ctx))) (stopped-is (call_fits p.parts (suc f) c.state.memory) (asked check.Depth at (HasRoom a)) r.after);
        }

-- `main` is entered and left
main-inside : (p : Programs) (slots : Slots) (g : AreSlots slots) (s : source.State) (c : flat.State) (laws : FrameLaws p) (code_laws : InstructionLaws p) (cured : AreCured p)
    → (known : Knowledge) (f : ℕ) (d : function.Function) (m : Main p f d) (l : code.Local) (k : flat.Local) → Point (first_scene p slots) g (first_running p s c) known l k
    → (e : flat.Local) → e.state ≡ k.state → length e.slots ≡ length k.slots → has_room (setting_of p) l.state.memory 1 (defined (head_of d)) ≡ true
    → AlikeRuns p
    (runs.finished (call_body (setting_of p) (calls_within p 1022) f 1 [] (defined (head_of d)) (body_of (setting_of p) d) l.state))
    (machine.finished (run (flat_instr.Call (suc f) slots.row (slot_of slots First) ∷ flat_instr.Exit (slot_of slots First) ∷ []) (context_of (first_scene p slots) (first_running p s c)) e))
main-inside p slots g s c laws code_laws cured known f d m l k point e state long room =
    subst (λ (o : FlatOutcome). AlikeRuns p (runs.finished entered) (machine.finished (from o (λ z. then_go z (run (flat_instr.Exit x ∷ []) ctx)))))
    (sym (call-fits (suc f) slots.row x ctx e (ap (λ (t : flat.State). call_fits p.parts (suc f) t.memory) state ∙ laws.fits b f d l.state k.state m.found point.there ∙ room)
    ∙ ap (λ (ws : List ℕ). received x e (enter 1023 p.parts (suc f) ws e.state)) (ap (λ (n : ℕ). slots_at n slots.row e) m.takes ∙ none-at slots.row e)))
    (exit-alike p b d x ctx l.state k.state e m.gives (let h = role-there (first_scene p slots) g First in let q = point.count in omega (arith, h, q, long)) entered (enter 1023 p.parts (suc f) [] e.state)
    (subst (λ (t : flat.State). Matches (Returned p b d l.state k.state) (StatesEndAlike p) entered (enter 1023 p.parts (suc f) [] t)) (sym state)
    (subst (λ (o : Outcome source.Ending source.State Value). Matches (Returned p b d l.state k.state) (StatesEndAlike p) o (enter 1023 p.parts (suc f) [] k.state)) source_is
    (called-alike p laws b callee 1022 [] [] l.state k.state (omega arith) point.there
    (code_laws.function callee (called_from b callee (calls_within p 1022) (enter 1022 p.parts) l.state k.state)
    (calls p laws code_laws cured 1022 (called_from b callee (calls_within p 1022) (enter 1022 p.parts) l.state k.state) refl refl refl))
    (subst (λ (ts : List TypeId). AreArgumentsOf p 0 l.state k.state ts [] []) (sym m.bare) refl) room))))
  where
    b : Running
    b = first_running p s c

    ctx : Context
    ctx = context_of (first_scene p slots) b

    x : ℕ
    x = slot_of slots First

    callee : Callee p
    callee = callee_at p cured 1 l.state f d m.found room

    entered : Outcome source.Ending source.State Value
    entered = call_body (setting_of p) (calls_within p 1022) f 1 [] (defined (head_of d)) (body_of (setting_of p) d) l.state

    source_is : source_called p (calls_within p 1022) f 1 [] l.state ≡ entered
    source_is = ap (λ (o : Option Callable). given o (λ z. call_body (setting_of p) (calls_within p 1022) f 1 (z.named []) z.defined z.body) l.state)
        (get-mapped (callable (setting_of p)) p.functions f d m.found)
        ∙ ap (λ (vs : List Value). call_body (setting_of p) (calls_within p 1022) f 1 vs (defined (head_of d)) (body_of (setting_of p) d) l.state) (named-none (head_of d).parameters)

-- DEPTH, and then `main`
main-alike : (p : Programs) (slots : Slots) (g : AreSlots slots) (s : source.State) (c : flat.State) (laws : FrameLaws p) (code_laws : InstructionLaws p) (cured : AreCured p)
    → (known : Knowledge) (f : ℕ) (d : function.Function) (m : Main p f d) (at : Place) (lines : Lines) → EntersMain (world_of (first_scene p slots)) f at lines
    → (l : code.Local) (k : flat.Local) → Point (first_scene p slots) g (first_running p s c) known l k
    → AlikeRuns p
    (runs.finished (given (slice_get (map (callable (setting_of p)) p.functions) f) (run_main (setting_of p) at (calls_within p 1022) f) l.state))
    (machine.finished (run lines (context_of (first_scene p slots) (first_running p s c)) k))
unfolding Then Line
main-alike p slots g s c laws code_laws cured known f d m at lines (a, (x, others, gets, (y, last, (none, y', empty, asks, y_is), last_is, others_is), is)) l k point =
    subst (λ (js : Lines). AlikeRuns p source_run (machine.finished (run js ctx k))) (sym lines_are)
    (of (entering p slots g (first_running p s c) known l k point f a at x y' m.there gets asks))
  where
    ctx : Context
    ctx = context_of (first_scene p slots) (first_running p s c)

    rest : Lines
    rest = flat_instr.Call (suc f) slots.row (slot_of slots First) ∷ flat_instr.Exit (slot_of slots First) ∷ []

    source_run : SourceOutcome
    source_run = runs.finished (given (slice_get (map (callable (setting_of p)) p.functions) f) (run_main (setting_of p) at (calls_within p 1022) f) l.state)

    lines_are : lines ≡ (x ++ y') ++ rest
    lines_are = is ∙ ap (λ (js : Lines). x ++ js) (others_is ∙ ap (λ (js : Lines). js ++ last) (y_is ∙ ap (λ (js : Lines). js ++ y') empty) ∙ ap (λ (js : Lines). y' ++ js) last_is) ∙ sym (append-append x y' rest)

    room : Bool
    room = has_room (setting_of p) l.state.memory 1 (defined (head_of d))

    checked_run : Bool → Outcome source.Ending source.State Value
    checked_run h = from (allowed h (source.Stopped check.Depth at) (done (tt {0})) l.state)
        (λ u. call_body (setting_of p) (calls_within p 1022) f 1 [] (defined (head_of d)) (body_of (setting_of p) d))

    source_is : source_run ≡ runs.finished (checked_run room)
    source_is = ap (λ (o : Option Callable). runs.finished (given o (run_main (setting_of p) at (calls_within p 1022) f) l.state)) (get-mapped (callable (setting_of p)) p.functions f d m.found)
        ∙ ap (λ (o : Option Defined). runs.finished (checked_run (checks.function_passes_or_none o (has_room (setting_of p) l.state.memory 1))))
        (get-mapped (λ (z : function.Function). defined (head_of z)) p.functions f d m.found)

    by : (e : flat.Local) → e.state ≡ k.state → length e.slots ≡ length k.slots → (h : Bool) → room ≡ h
        → AlikeRuns p (runs.finished (checked_run h)) (machine.finished (from (allowed h (Stopped check.Depth at) (done Goes) e) (λ z. then_go z (run rest ctx))))
    by e state long false h = alike p (source.Stopped check.Depth at) l.state (flat.Stopped check.Depth at) e.state
        ((refl, refl), subst (λ (t : flat.State). StatesRelated t) (sym state) point.there.related)
      where
        StatesRelated : flat.State → Type 0
        StatesRelated t = Related (setting_of p) p.whole.node l.state t
    by e state long true h = main-inside p slots g s c laws code_laws cured known f d m l k point e state long h

    of : Entering p slots g ctx (x ++ y') k (call_fits p.parts (suc f) k.state.memory) at → AlikeRuns p source_run (machine.finished (run ((x ++ y') ++ rest) ctx k))
    of z =
        subst (λ (o : SourceOutcome). AlikeRuns p o (machine.finished (run ((x ++ y') ++ rest) ctx k))) (sym source_is)
        (subst (λ (q : FlatOutcome). AlikeRuns p (runs.finished (checked_run room)) (machine.finished q))
        (sym (z.runs rest ∙ ap (λ (h : Bool). from (allowed h (Stopped check.Depth at) (done Goes) z.after) (λ u. then_go u (run rest ctx))) (laws.fits (first_running p s c) f d l.state k.state m.found point.there)))
        (by z.after z.state z.long room refl))

-- the static initialisers, and then what follows
initialised-alike : (p : Programs) (slots : Slots) (g : AreSlots slots) (b : Running) (known : Knowledge) (next : Run source.Ending source.State Value) (rest : Lines) (m : CodeOutcome) (q : FlatOutcome)
    → Match (first_scene p slots) g b known outside m q
    → ((l : code.Local) (c : flat.Local) → Point (first_scene p slots) g b known l c → AlikeRuns p (runs.finished (next l.state)) (machine.finished (run rest (context_of (first_scene p slots) b) c)))
    → AlikeRuns p (runs.finished (from (from (without_temps m) (λ u. done (tt {0}))) (λ u. next))) (machine.finished (from q (λ z. then_go z (run rest (context_of (first_scene p slots) b)))))
initialised-alike p slots g b known next rest (Ended e l) (Ended f c) h more = alike p e l.state f c.state h
initialised-alike p slots g b known next rest (Ended e l) (Done y c) h more = absurd h
initialised-alike p slots g b known next rest (Done x l) (Ended f c) h more = absurd h
initialised-alike p slots g b known next rest (Done Goes l) (Done Goes c) h more = more l c h
initialised-alike p slots g b known next rest (Done Goes l) (Done (Leaves j) c) h more = absurd h
initialised-alike p slots g b known next rest (Done Goes l) (Done (Gives ws) c) h more = absurd h
initialised-alike p slots g b known next rest (Done (Leaves i) l) (Done Goes c) h more = absurd h
initialised-alike p slots g b known next rest (Done (Leaves i) l) (Done (Leaves j) c) h more = absurd (let e = h.1.1 in cc (e))
initialised-alike p slots g b known next rest (Done (Leaves i) l) (Done (Gives ws) c) h more = absurd h
initialised-alike p slots g b known next rest (Done (Gives v) l) (Done Goes c) h more = absurd h
initialised-alike p slots g b known next rest (Done (Gives v) l) (Done (Leaves j) c) h more = absurd h
initialised-alike p slots g b known next rest (Done (Gives v) l) (Done (Gives ws) c) h more = absurd (h.0 refl)

-- The start

limit-is : entered_limit ≡ 1023
unfolding entered_limit
limit-is = refl

nested-is : nested_limit ≡ 1022
unfolding nested_limit
nested-is = refl

pub start-fits : (parts : Parts) (h : cured.Function) → h.locals ≡ [] → h.charge ≡ 0 → fits (loaded_memory parts) (areas_of h.locals) h.charge ≡ true
unfolding areas_size
start-fits parts h none free = fits-start parts (areas_of h.locals) h.charge (rw free (omega arith)) (rw none (omega arith))

-- What the shape of a program says of `main`

index-at : {X : Type 0} (xs : List X) (k : ℕ) (x : X) → slice_get xs k ≡ Some x → slice_index_or xs k x ≡ x
index-at [] k x e = absurd (cc (e))
index-at (y ∷ xs) zero x e = cc (e)
index-at (y ∷ xs) (suc k) x e = index-at xs k x e

pub all-at : {X : Type 0} (P : X → Type 0) (xs : List X) → All P xs → (k : ℕ) (x : X) → slice_get xs k ≡ Some x → P x
all-at P xs h k x e = subst P (index-at xs k x e) (h k x (slice_get_within xs k x e))

no-types : (ts : List TypeId) (t u : TypeId) → shape.Function ts t ≡ shape.Function [] u → ts ≡ []
no-types ts t u h = cc (h)

main-of : (p : Program) (kind : NodeId → Kind) (node : TypeId → ℕ) (parents : List ℕ) (parts : Parts) (sites : List Site) → IsInShape p
    → (is : IsCuredProgram p kind node parents parts) → (d : function.Function) × Main (programs_of p kind node is.numbers sites parts) p.main.0 d
main-of p kind node parents parts sites shaped is = of shaped.main
  where
    q : Programs
    q = programs_of p kind node is.numbers sites parts

    of : (f : function.Function) × (slice_get p.functions p.main.0 ≡ Some f) × IsMain p f → (d : function.Function) × Main q p.main.0 d
    of (f, found, (result, type, (known, plain))) = (
      f,
      record {
        found = found;
        bare = bare (type_of (shaped_at p.main.0 f found));
        gives = ap (λ (t : TypeShape). held_result q.whole (result_of_shape t)) type ∙ ap (λ (t : TypeShape). held_shape t) plain;
        takes = ap (λ (o : Option cured.Function). params_in (sig_of parts.sigs o)) at.found ∙ ap (λ (n : ℕ). params_in (slice_get parts.sigs n)) at.is.sig
            ∙ ap params_in (is.are_cured.signatures.each f.ty (ap is_function_shape type)).1
            ∙ ap (λ (t : TypeShape). (signature_by (words_at p.types kind) t).params) type;
        there = (let n = slice_get_within p.functions p.main.0 f found in let m = is.are_cured.count in omega (arith, n, m));
      },
    )
      where
        at : programs.IsFunctionAt (whole_of p kind node is.numbers parts) parts p.main.0 f
        at = is.are_cured.functions p.main.0 f found

        bare : (r : TypeId) × (shape_at p.types f.ty ≡ shape.Function (parameter_types f) r) → parameter_types f ≡ []
        bare (r, e) = no-types (parameter_types f) r result (sym e ∙ type)

        type_of : IsFunctionInShape p f → (r : TypeId) × (shape_at p.types f.ty ≡ shape.Function (parameter_types f) r)
        type_of h = (h.type.0, h.type.2)

        shaped_at : (k : ℕ) (g : function.Function) → slice_get p.functions k ≡ Some g → IsFunctionInShape p g
        shaped_at k g e = all-at (IsFunctionInShape p) p.functions shaped.functions k g e

-- THE CONDITIONAL THEOREM
pub runs-alike : CuredProgramsRunAlike
runs-alike p kind node parents parts sites input turns shaped is laws code_laws started = of (main-of p kind node parents parts sites shaped is)
  where
    q : Programs
    q = programs_of p kind node is.numbers sites parts

    s : source.State
    s = source_first p kind input turns

    c : flat.State
    c = machine.first_state parts input turns

    h : cured.Function
    h = is.are_cured.first

    slots : Slots
    slots = is.are_cured.slots

    start : IsStart (programs.start_world q.whole slots) p h
    start = is.are_cured.start

    b : Running
    b = first_running q s (entry h c).state

    ctx : Context
    ctx = context_of (first_scene q slots) b

    initialised : CodeOutcome
    initialised = meaning.run p.initialisers.0.items (around_of (first_scene q slots) b) (record { state = s; temps = no_temps })

    main_run : ℕ → Run source.Ending source.State Value
    main_run n = given (slice_get (map (callable (setting_of q)) p.functions) p.main.0) (run_main (setting_of q) p.main_place (calls_within q n) p.main.0)

    source_run : ℕ → SourceOutcome
    source_run n = runs.finished (from (from (without_temps initialised) (λ u. done (tt {0}))) (λ u. main_run n))

    of : (d : function.Function) × Main q p.main.0 d → AlikeRuns q (code_run p kind input turns) (flat_run parts input turns)
    of (d, main) =
        subst (λ (n : ℕ). AlikeRuns q (source_run n) (flat_run parts input turns)) (sym nested-is)
        (subst (λ (o : Option cured.Function). AlikeRuns q (source_run 1022) (machine.run_of parts o c)) (sym is.are_cured.found)
        (subst (λ (z : Bool). AlikeRuns q (source_run 1022) (machine.started z parts h c)) (sym (start-fits parts h start.areas start.charge))
        (subst (λ (n : ℕ). AlikeRuns q (source_run 1022) (machine.finished (run h.body.0.items (record { parts = parts; function = 0; enter = enter n parts }) (entry h c)))) (sym limit-is)
        (subst (λ (js : Lines). AlikeRuns q (source_run 1022) (machine.finished (run js ctx (entry h c)))) (sym start.body)
        (subst (λ (o : FlatOutcome). AlikeRuns q (source_run 1022) (machine.finished o))
        (sym (started.runs (start.code ++ start.enters) ∙ run-append start.code start.enters ctx started.after))
        (initialised-alike q slots start.slots b start.after (main_run 1022) start.enters initialised (run start.code ctx started.after)
        (follows-list p.initialisers.0.items (first_scene q slots) start.slots b outside nothing_known start.after start.code p.initialisers.0.items (code_laws.start slots start.slots b) (λ j z. z)
        start.are_curing (record { state = s; temps = no_temps }) started.after started.point)
        (λ l k point. main-alike q slots start.slots s (entry h c).state laws code_laws is.are_cured.functions start.after p.main.0 d main p.main_place start.enters start.enters_main l k point)))))))
