-- Calls, by induction on how many may be nested: C's `call_within n` and the flat machine's `enter n`.
use Rattle.std.proofs.Common.{◌≡◌, ℕ, zero, suc, ◌+◌, ◌≤◌, Bool, true, false, ◌&&◌, List, ◌++◌, length, map, slice_get, Option, Some, None, refl, ap, sym, subst, ◌∙◌, arith, nat_lt, nat_le}
use Rattle.std.proofs.lemmas.Bool.Decides.{nat_tests}
use Rattle.c_types.specs.Table.{shape_at}
use Rattle.runs.specs.Outcome.{Run, Outcome, Done, Ended, done, from, Matches}
use Rattle.runs.specs.Control.{Goes, Leaves, Gives, then_go}
use Rattle.runs.proofs.RunLaws.{matches-weaker}
use Rattle.flat_mem.specs.Memory.{older_frames}
use Rattle.src_mem.specs.Pointers.{Value, Integer, Address}
use Rattle.src_mem.specs.Memory.{frame_charge}
use Rattle.src_mem.specs.State as source
use Rattle.src_mem.specs.State.{given}
use Rattle.src_mem.specs.Checks.{has_room, source_frame_limit}
use Rattle.src_mem.specs.Uses.{store_arguments}
use Rattle.src_mem.specs.Operations.{zero_of_function}
use Rattle.src_mem.specs.Runs.{Calls, Callable, call_body, call_within, defined, named_arguments}
use Rattle.src_mem.proofs.Outlines.{get-mapped}
use Rattle.cil_form.specs.declared.program.Function.{Function}
use Rattle.cil_form.specs.State.{no_temps}
use Rattle.cil_form.specs.Typing.{HeldType, IntegerOf, PointerTo, PlaceOf}
use Rattle.cil_form.specs.Meaning as meaning
use Rattle.cil_form.specs.Machine.{head_of, variables_of, result_of, without_temps, body_of, callable}
use Rattle.cured_code.specs.declared.parts.Function as cured
use Rattle.cured_code.specs.FlatState as flat
use Rattle.cured_code.specs.FlatState.{with_slots}
use Rattle.cured_code.specs.Tables.{results_of}
use Rattle.cured_code.specs.FlatMachine as machine
use Rattle.cured_code.specs.FlatMachine.{Context, run, without_frame, enter, entered}
use Rattle.cured_code.proofs.RunLaws.{run-append}
use Rattle.sim_relation.specs.Points.{Form, Exact, Knowledge}
use Rattle.cure_rules.specs.Known.{nothing_known}
use Rattle.cure_rules.specs.Programs.{IsFunctionAt}
use Rattle.cure_rules.specs.Code.{outside}
use Rattle.sim_laws.specs.Scenes.{Programs, Running, Enters, setting_of, around_of, context_of}
use Rattle.sim_laws.specs.Points.{Holds, There, Grows, ground_of}
use Rattle.sim_laws.specs.Statements.{Lines, CodeOutcome, FlatOutcome, StatesEndAlike, StandAs, IsPassed, held_result, Laws, Match}
use Rattle.sim_laws.specs.Calls.{AreArgumentsOf, parameter_types, result_type, Returned, with_turn, Callee, scene_in, source_entered, flat_entered, called_from, source_left, Left, BodyBegins, FrameLaws, InstructionLaws, CallsWithin}
use Rattle.sim_laws.proofs.Points.{grows-same, grows-then, there-on, there-turned}
use Rattle.sim_laws.proofs.Control.{follows-list}

-- What is passed stays so where what is held does

stand-on : (p : Programs) (depth : ℕ) (s t : source.State) (c d : flat.State) (form : Form) (x : HeldType) (v : Value) (words : List ℕ) → Grows p depth s t c d
    → Holds p s depth x v → StandAs (ground_of p s c) form x v words → StandAs (ground_of p t d) form x v words
stand-on p depth s t c d form (IntegerOf i) (Integer z) words grow held h = h
stand-on p depth s t c d form (IntegerOf i) (Address q) words grow held h = absurd h
stand-on p depth s t c d form (PointerTo n u) (Integer z) words grow held h = absurd h
stand-on p depth s t c d form (PointerTo n u) (Address q) words grow held h =
    (h.0 ∙ sym (grow.words depth (omega arith) (PointerTo n u) (p.whole.kind n) q held), h.1)
stand-on p depth s t c d form (PlaceOf n u) (Integer z) words grow held h = absurd h
stand-on p depth s t c d form (PlaceOf n u) (Address q) words grow held h = absurd h

pub passed-on : (p : Programs) (depth : ℕ) (s t : source.State) (c d : flat.State) (form : Form) (x : Option HeldType) (v : Value) (words : List ℕ)
    → Grows p depth s t c d → IsPassed p depth s c form x v words → IsPassed p depth t d form x v words
passed-on p depth s t c d form None v words grow h = h
passed-on p depth s t c d form (Some x) v words grow h =
    (grow.held depth (omega arith) x v h.0, stand-on p depth s t c d form x v words grow h.0 h.1)

-- back in the call around
back : (p : Programs) (laws : FrameLaws p) (b : Running) (k : Callee p) (call : Calls) (enters : Enters) (s t : source.State) (c d : flat.State)
    (v : Value) (words : List ℕ) → b.outer ≤ b.depth → There p b s c → There p (called_from b k call enters s c) t d
    → IsPassed p b.depth t d Exact (held_result p.whole (result_type p k.function)) v words
    → Returned p b k.function s c v (source_left p (suc b.depth) (variables_of k.function) t) words (without_frame d)
back p laws b k call enters s t c d v words out there inner result = from-left (laws.ends b k call enters s t c d inner)
  where
    from-left : Left p b.depth k.function t d → Returned p b k.function s c v (source_left p (suc b.depth) (variables_of k.function) t) words (without_frame d)
    from-left x = record {
      there = there-on p b s (source_left p (suc b.depth) (variables_of k.function) t) c (without_frame d) out there x.related x.facts x.laid (ap older_frames inner.frames) all;
      grows = all;
      result = passed-on p b.depth t (source_left p (suc b.depth) (variables_of k.function) t) d (without_frame d) Exact
          (held_result p.whole (result_type p k.function)) v words x.grows result;
    }
      where
        all : Grows p b.depth s (source_left p (suc b.depth) (variables_of k.function) t) c (without_frame d)
        all = grows-then p b.depth s t (source_left p (suc b.depth) (variables_of k.function) t) c d (without_frame d) inner.since x.grows

-- what C does once a body is left
abbrev source_ended : (p : Programs) → ℕ → Callee p → CodeOutcome → Outcome source.Ending source.State Value
source_ended p depth k m =
    from (from (without_temps m) (λ y. done (result_of (zero_of_function (setting_of p) (shape_at p.whole.table k.function.ty)) y)))
    (λ v t. Done v (source_left p depth (variables_of k.function) t))

-- the end of a body
ended-alike : (p : Programs) (laws : FrameLaws p) (b : Running) (k : Callee p) (call : Calls) (enters : Enters) (after : Knowledge)
    (s : source.State) (c : flat.State) → b.outer ≤ b.depth → There p b s c → (m : CodeOutcome) (q : FlatOutcome)
    → Match (scene_in p k) k.is.slots.slots (called_from b k call enters s c) after outside m q
    → Matches (Returned p b k.function s c) (StatesEndAlike p) (source_ended p (suc b.depth) k m)
    (machine.given (suc k.number) (results_of p.parts (suc k.number)) q)
ended-alike p laws b k call enters after s c out there (Ended e l) (Ended f d) match = match
ended-alike p laws b k call enters after s c out there (Ended e l) (Done y d) match = absurd match
ended-alike p laws b k call enters after s c out there (Done y l) (Ended e d) match = absurd match
ended-alike p laws b k call enters after s c out there (Done Goes l) (Done Goes d) match =
    back p laws b k call enters s l.state c d.state _ _ out there match.there (laws.none k b.depth l.state d.state)
ended-alike p laws b k call enters after s c out there (Done Goes l) (Done (Leaves j) d) match = absurd match
ended-alike p laws b k call enters after s c out there (Done Goes l) (Done (Gives ws) d) match = absurd match
ended-alike p laws b k call enters after s c out there (Done (Leaves i) l) (Done Goes d) match = absurd match
ended-alike p laws b k call enters after s c out there (Done (Leaves i) l) (Done (Leaves j) d) match = absurd (let e = match.1.1 in cc (e))
ended-alike p laws b k call enters after s c out there (Done (Leaves i) l) (Done (Gives ws) d) match = absurd match
ended-alike p laws b k call enters after s c out there (Done (Gives v) l) (Done Goes d) match = absurd match
ended-alike p laws b k call enters after s c out there (Done (Gives v) l) (Done (Leaves j) d) match = absurd match
ended-alike p laws b k call enters after s c out there (Done (Gives v) l) (Done (Gives ws) d) match =
    back p laws b k call enters s l.state c d.state v ws out there match.1 match.2

-- a body behind its prologue
abbrev code_of_body : (p : Programs) → Callee p → Running → source.State → CodeOutcome
code_of_body p k b t = meaning.run k.function.body.0.items (around_of (scene_in p k) b) (record { state = t; temps = no_temps })

entered-alike : (p : Programs) (laws : FrameLaws p) (b : Running) (k : Callee p) (call : Calls) (enters : Enters) (s : source.State) (c : flat.State)
    → b.outer ≤ b.depth → There p b s c → Laws (scene_in p k) k.is.slots.slots (called_from b k call enters s c) k.function.body.0.items
    → (m : Outcome source.Ending source.State (Unit {0})) (q : FlatOutcome)
    → Matches (BodyBegins p k (called_from b k call enters s c)) (λ e t f d. StatesEndAlike p e t f d.state) m q
    → Matches (Returned p b k.function s c) (StatesEndAlike p)
    (from m (λ u t. source_ended p (suc b.depth) k (code_of_body p k (called_from b k call enters s c) t)))
    (machine.given (suc k.number) (results_of p.parts (suc k.number))
    (from q (λ z. then_go z (run k.enters.body.code (context_of (scene_in p k) (called_from b k call enters s c))))))
entered-alike p laws b k call enters s c out there inner (Ended e t) (Ended f d) match = match
entered-alike p laws b k call enters s c out there inner (Ended e t) (Done z d) match = absurd match
entered-alike p laws b k call enters s c out there inner (Done u t) (Ended f d) match = absurd match
entered-alike p laws b k call enters s c out there inner (Done u t) (Done Goes d) match =
    ended-alike p laws b k call enters k.enters.body.after s c out there _ _
    (follows-list k.function.body.0.items (scene_in p k) k.is.slots.slots (called_from b k call enters s c) outside nothing_known k.enters.body.after
    k.enters.body.code k.function.body.0.items inner (λ j q. q) k.enters.body.are_curing (record { state = t; temps = no_temps }) d match.1)
entered-alike p laws b k call enters s c out there inner (Done u t) (Done (Leaves j) d) match = let e = match.0 in absurd (cc (e))
entered-alike p laws b k call enters s c out there inner (Done u t) (Done (Gives ws) d) match = let e = match.0 in absurd (cc (e))

-- the call behind its turn
abbrev pub source_called : Programs → Calls → ℕ → ℕ → List Value → Run source.Ending source.State Value
source_called p call f depth arguments =
    given (slice_get (map (callable (setting_of p)) p.functions) f) (λ k. call_body (setting_of p) call f depth (k.named arguments) k.defined k.body)

abbrev pub calls_within : Programs → ℕ → Calls
calls_within p n = call_within n (setting_of p) (map (callable (setting_of p)) p.functions)

pub called-alike : (p : Programs) (laws : FrameLaws p) (b : Running) (k : Callee p) (n : ℕ) (arguments : List Value) (words : List ℕ)
    (s : source.State) (c : flat.State) → b.outer ≤ b.depth → There p b s c
    → Laws (scene_in p k) k.is.slots.slots (called_from b k (calls_within p n) (enter n p.parts) s c) k.function.body.0.items
    → AreArgumentsOf p b.depth s c (parameter_types k.function) arguments words
    → has_room (setting_of p) s.memory (suc b.depth) (defined (head_of k.function)) ≡ true
    → Matches (Returned p b k.function s c) (StatesEndAlike p)
    (source_called p (calls_within p n) k.number (suc b.depth) arguments s) (enter (suc n) p.parts (suc k.number) words c)
called-alike p laws b k n arguments words s c out there inner are room =
    subst (λ (o : Option Callable). Goal (given o (λ z. call_body (setting_of p) call k.number (suc b.depth) (z.named arguments) z.defined z.body) s) (enter (suc n) p.parts (suc k.number) words c))
    (sym (get-mapped (callable (setting_of p)) p.functions k.number k.function k.found))
    (subst (λ (o : Option cured.Function). Goal source_outcome (entered ctx o words c)) (sym k.stands)
    (subst (λ (js : Lines). Goal source_outcome (machine.given (suc k.number) (results_of p.parts (suc k.number)) (run js ctx first))) (sym k.enters.body.is)
    (subst (λ (q : FlatOutcome). Goal source_outcome (machine.given (suc k.number) (results_of p.parts (suc k.number)) q))
    (sym (run-append (k.enters.body.sets ++ k.enters.body.stores) k.enters.body.code ctx first))
    (entered-alike p laws b k call (enter n p.parts) s c out there inner
    (store_arguments (setting_of p) (length s.memory.objects) (variables_of k.function) (named_arguments (head_of k.function).parameters arguments) (source_entered p (suc b.depth) k s))
    (run (k.enters.body.sets ++ k.enters.body.stores) ctx first)
    (laws.prologue b k call (enter n p.parts) arguments words s c there are (laws.begins b k call (enter n p.parts) s c there room))))))
  where
    Goal : Outcome source.Ending source.State Value → Outcome flat.Ending flat.State (List ℕ) → Type 0
    Goal o q = Matches (Returned p b k.function s c) (StatesEndAlike p) o q

    call : Calls
    call = calls_within p n

    source_outcome : Outcome source.Ending source.State Value
    source_outcome = call_body (setting_of p) call k.number (suc b.depth) (named_arguments (head_of k.function).parameters arguments)
        (defined (head_of k.function)) (body_of (setting_of p) k.function) s

    ctx : Context
    ctx = record { parts = p.parts; function = suc k.number; enter = enter n p.parts }

    first : flat.Local
    first = with_slots 0 words (flat_entered k c)

returned-turned : (p : Programs) (b : Running) (f : Function) (s : source.State) (c : flat.State) (n : ℕ) (v : Value) (t : source.State) (words : List ℕ) (d : flat.State)
    → Returned p b f (record s { turns = n }) (record c { turns = n }) v t words d → Returned p b f s c v t words d
returned-turned p b f s c n v t words d r = record {
  there = r.there;
  grows = grows-then p b.depth s (record s { turns = n }) t c (record c { turns = n }) d
      (grows-same p b.depth s (record s { turns = n }) c (record c { turns = n }) refl refl) r.grows;
  result = r.result;
}

-- where C has room, the frame alone isn't too large
pub few-charged : (charged : ℕ) (m : ℕ) (h : Bool) → (h && nat_le (m + charged) source_frame_limit) ≡ true → charged ≤ source_frame_limit
few-charged charged m true e = grind (arith, nat_tests, e)
few-charged charged m false e = absurd (cc (e))

abbrev pub callee_at : (p : Programs) → ((k : ℕ) (f : Function) → slice_get p.functions k ≡ Some f → IsFunctionAt p.whole p.parts k f)
    → (depth : ℕ) (s : source.State) (k : ℕ) (f : Function) → slice_get p.functions k ≡ Some f → has_room (setting_of p) s.memory depth (defined (head_of f)) ≡ true
    → Callee p
callee_at p cured depth s k f found room = record {
  number = k;
  function = f;
  cured = (cured k f found).cured;
  slots = (cured k f found).slots;
  found = found;
  stands = (cured k f found).found;
  is = (cured k f found).is;
  enters = (cured k f found).is.entered (few-charged (frame_charge p.whole.table (variables_of f)) s.memory.frame_bytes (nat_lt depth 1024) room);
}

abbrev pub AreCured : Programs → Type 0
AreCured p = (k : ℕ) (f : Function) → slice_get p.functions k ≡ Some f → IsFunctionAt p.whole p.parts k f

calls-step : (p : Programs) → FrameLaws p → InstructionLaws p → AreCured p → (n : ℕ) → CallsWithin p n → CallsWithin p (suc n)
calls-step p laws code_laws cured n below b count call_is enter_is k f arguments words s c found out there are room =
    subst (λ (z : Calls). Goal (z k (suc b.depth) arguments s) (with_turn c.turns (b.enter (suc k) words) c)) (sym call_is)
    (subst (λ (z : Enters). Goal (calls_within p (suc n) k (suc b.depth) arguments s) (with_turn c.turns (z (suc k) words) c)) (sym enter_is)
    (by s.turns refl c.turns there.related.outside.turns))
  where
    Goal : Outcome source.Ending source.State Value → Outcome flat.Ending flat.State (List ℕ) → Type 0
    Goal o q = Matches (Returned p b f s c) (StatesEndAlike p) o q

    callee : Callee p
    callee = callee_at p cured (suc b.depth) s k f found room

    by : (i : ℕ) → s.turns ≡ i → (j : ℕ) → j ≡ s.turns
        → Goal (from (source.turn_of i s) (λ u. source_called p (calls_within p n) k (suc b.depth) arguments)) (with_turn j (enter (suc n) p.parts (suc k) words) c)
    by zero e zero g = (tt, there.related)
    by zero e (suc j) g = absurd (cc (e, g))
    by (suc i) e zero g = absurd (cc (e, g))
    by (suc i) e (suc j) g =
        let same : i ≡ j = cc (e, g) in
        subst (λ (j : ℕ). Goal (source_called p (calls_within p n) k (suc b.depth) arguments (record s { turns = i })) (enter (suc n) p.parts (suc k) words (record c { turns = j }))) same
        (matches-weaker (Returned p b f (record s { turns = i }) (record c { turns = i })) (Returned p b f s c) (StatesEndAlike p) (StatesEndAlike p)
        (source_called p (calls_within p n) k (suc b.depth) arguments (record s { turns = i })) (enter (suc n) p.parts (suc k) words (record c { turns = i }))
        (λ v t ws d r. returned-turned p b f s c i v t ws d r) (λ x t y d r. r)
        (called-alike p laws b callee n arguments words (record s { turns = i }) (record c { turns = i }) out (there-turned p b s c i out there)
        (code_laws.function callee (called_from b callee (calls_within p n) (enter n p.parts) (record s { turns = i }) (record c { turns = i }))
        (below (called_from b callee (calls_within p n) (enter n p.parts) (record s { turns = i }) (record c { turns = i })) (omega (arith, count)) refl refl))
        are room))

no-room : (depth : ℕ) (q : Bool) → depth ≡ 1023 → (nat_lt (suc depth) 1024 && q) ≡ true → ⊥
no-room depth q e h = let f : nat_lt (suc depth) 1024 ≡ false = grind (arith, nat_tests, e) in cc (ap (λ (z : Bool). z && q) f, h)

-- `depth` calls are around, and n more may be nested: DEPTH stops the one that would be one more
pub calls : (p : Programs) → FrameLaws p → InstructionLaws p → AreCured p → (n : ℕ) → CallsWithin p n
calls p laws code_laws cured zero = λ b count call_is enter_is k f arguments words s c found out there are room.
    absurd (no-room b.depth (nat_le (s.memory.frame_bytes + frame_charge p.whole.table (variables_of f)) source_frame_limit) (omega (arith, count)) room)
calls p laws code_laws cured (suc n) = calls-step p laws code_laws cured n (calls p laws code_laws cured n)
