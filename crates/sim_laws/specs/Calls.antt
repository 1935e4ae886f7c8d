-- What is said of calls, and what of frames: how a call begins, how its parameters are stored, and how it ends.
use Rattle.std.specs.Prelude.{◌≡◌, ℕ, zero, suc, ◌+◌, ◌-◌, ◌≤◌, true, List, [], ◌∷◌, ◌++◌, length, map, replicate, slice_get, Option, Some}
use Rattle.cc_base.specs.declared.number.TypeId.{TypeId}
use Rattle.c_types.specs.Table.{shape_at}
use Rattle.runs.specs.Outcome.{Run, Ended, Matches}
use Rattle.runs.specs.Control.{Control, Goes}
use Rattle.src_mem.specs.Pointers.{Value}
use Rattle.src_mem.specs.Memory.{Planned, frame_charge}
use Rattle.src_mem.specs.State as source
use Rattle.src_mem.specs.Checks.{has_room}
use Rattle.src_mem.specs.Facts.{IsSoundAt}
use Rattle.src_mem.specs.Primitives as primitive
use Rattle.src_mem.specs.Uses.{store_arguments}
use Rattle.src_mem.specs.Operations.{zero_of_function}
use Rattle.src_mem.specs.Runs.{Calls, call_within, defined, named_arguments}
use Rattle.cil_form.specs.declared.program.Function.{Function}
use Rattle.cil_form.specs.declared.program.Parameter.{Parameter}
use Rattle.cil_form.specs.State.{no_temps}
use Rattle.cil_form.specs.Shape.{result_of_shape}
use Rattle.cil_form.specs.Machine.{head_of, variables_of, callable}
use Rattle.cured_code.specs.declared.parts.Function as cured
use Rattle.cured_code.specs.FlatState as flat
use Rattle.cured_code.specs.FlatState.{with_slots}
use Rattle.cured_code.specs.Tables.{results_of, call_fits}
use Rattle.cured_code.specs.FlatMachine.{run, noted, without_frame, entry, enter}
use Rattle.sim_relation.specs.Related.{Related}
use Rattle.sim_relation.specs.Points.{Exact, Low}
use Rattle.cure_rules.specs.Slots.{Slots, AreSlots}
use Rattle.cure_rules.specs.Known.{nothing_known}
use Rattle.cure_rules.specs.Functions.{IsCuredFunction, IsEntered}
use Rattle.sim_laws.specs.Scenes.{Programs, Scene, Running, Enters, setting_of, world_of, scene_of, first_scene, context_of}
use Rattle.sim_laws.specs.Points.{IsLaid, There, Grows, Point}
use Rattle.sim_laws.specs.Statements.{StatesEndAlike, IsPassed, held_at, held_result, Laws}

-- Calls

-- an argument for each parameter, one after another; of integers the low bytes count
abbrev pub AreArgumentsOf : Programs → ℕ → source.State → flat.State → List TypeId → List Value → List ℕ → Type 0
AreArgumentsOf p depth s c [] [] words = words ≡ []
AreArgumentsOf p depth s c [] (v ∷ vs) words = ⊥
AreArgumentsOf p depth s c (t ∷ ts) [] words = ⊥
AreArgumentsOf p depth s c (t ∷ ts) (v ∷ vs) words = (first rest : List ℕ) × (words ≡ first ++ rest)
    × IsPassed p depth s c Low (held_at p.whole t) v first × AreArgumentsOf p depth s c ts vs rest

abbrev pub parameter_types : Function → List TypeId
parameter_types f = map (λ (x : Parameter). x.ty) f.parameters

-- the type of what a function gives
abbrev pub result_type : Programs → Function → Option TypeId
result_type p f = result_of_shape (shape_at p.whole.table f.ty)

-- A call has come back: all stays that the call around speaks of, and it may hold what was given.
pub record Returned (p : Programs) (b : Running) (f : Function) (s : source.State) (c : flat.State) (v : Value) (t : source.State) (words : List ℕ) (d : flat.State) : Type 0 where
  pub there : There p b t d
  pub grows : Grows p b.depth s t c d
  pub result : IsPassed p b.depth t d Exact (held_result p.whole (result_type p f)) v words

-- the cured program takes the turn of a call before it enters the function
abbrev pub with_turn : ℕ → Run flat.Ending flat.State (List ℕ) → Run flat.Ending flat.State (List ℕ)
with_turn zero m c = Ended flat.Turns c
with_turn (suc n) m c = m (record c { turns = n })

-- THE STATEMENT OF CALLS: in this call, a call of a function that has room matches.
abbrev pub CallsAlike : Programs → Running → Type 0
CallsAlike p b = (k : ℕ) (f : Function) (arguments : List Value) (words : List ℕ) (s : source.State) (c : flat.State)
    → slice_get p.functions k ≡ Some f → b.outer ≤ b.depth → There p b s c → AreArgumentsOf p b.depth s c (parameter_types f) arguments words
    → has_room (setting_of p) s.memory (suc b.depth) (defined (head_of f)) ≡ true
    → Matches (Returned p b f s c) (StatesEndAlike p) (b.call k (suc b.depth) arguments s) (with_turn c.turns (b.enter (suc k) words) c)

-- Frames

-- a function of both programs that may be entered
pub record Callee (p : Programs) : Type 0 where
  pub number : ℕ
  pub function : Function
  pub cured : cured.Function
  pub slots : Slots
  pub found : slice_get p.functions number ≡ Some function
  pub stands : slice_get p.parts.functions (suc number) ≡ Some cured
  pub is : IsCuredFunction (world_of (scene_of p number function slots)) function cured
  pub enters : IsEntered (world_of (scene_of p number function slots)) function cured

abbrev pub scene_in : (p : Programs) → Callee p → Scene
scene_in p k = scene_of p k.number k.function k.slots

-- the states once it is entered
abbrev pub source_entered : (p : Programs) → ℕ → Callee p → source.State → source.State
source_entered p depth k s =
    primitive.with_frame (setting_of p) depth (variables_of k.function) (record s { entered = s.entered ++ k.number ∷ [] })

abbrev pub flat_entered : {p : Programs} → Callee p → flat.State → flat.Local
flat_entered k c = entry k.cured (noted (suc k.number) c)

-- and its call, from a call
abbrev pub called_from : {p : Programs} → Running → Callee p → Calls → Enters → source.State → flat.State → Running
called_from b k call enter s c = record {
  depth = suc b.depth;
  outer = b.depth;
  start = s;
  flat_start = c;
  first = length s.memory.objects;
  frames = (flat_entered k c).state.memory.frames;
  variables = variables_of k.function;
  call = call;
  enter = enter;
}

-- the state once a call of this depth has ended
abbrev pub source_left : Programs → ℕ → List Planned → source.State → source.State
source_left p depth variables s = record s {
  memory = record s.memory {
    objects = map (primitive.ended depth) s.memory.objects;
    frame_bytes = s.memory.frame_bytes - frame_charge p.whole.table variables;
  };
}

pub record Left (p : Programs) (depth : ℕ) (f : Function) (s : source.State) (c : flat.State) : Type 0 where
  pub related : Related (setting_of p) p.whole.node (source_left p (suc depth) (variables_of f) s) (without_frame c)
  pub facts : IsSoundAt (setting_of p) p.sites (source_left p (suc depth) (variables_of f) s).memory depth
  pub laid : IsLaid p (source_left p (suc depth) (variables_of f) s) (without_frame c)
  pub grows : Grows p depth s (source_left p (suc depth) (variables_of f) s) c (without_frame c)

-- the parameters are stored: behind the prologue the body begins, of whose temporaries nothing is known
abbrev pub BodyBegins : (p : Programs) (k : Callee p) → Running → Unit {0} → source.State → Control (List ℕ) → flat.Local → Type 0
BodyBegins p k b u s x c =
    (x ≡ Goes) × Point (scene_in p k) k.is.slots.slots b nothing_known (record { state = s; temps = no_temps }) c

-- where C has room for a call, the stack has
abbrev pub CallsFit : Programs → Type 0
CallsFit p = (b : Running) (k : ℕ) (f : Function) (s : source.State) (c : flat.State) → slice_get p.functions k ≡ Some f → There p b s c
    → call_fits p.parts (suc k) c.memory ≡ has_room (setting_of p) s.memory (suc b.depth) (defined (head_of f))

-- a call that has room begins in states where it has come to
abbrev pub CallsBegin : Programs → Type 0
CallsBegin p = (b : Running) (k : Callee p) (call : Calls) (enters : Enters) (s : source.State) (c : flat.State) → There p b s c
    → has_room (setting_of p) s.memory (suc b.depth) (defined (head_of k.function)) ≡ true
    → There p (called_from b k call enters s c) (source_entered p (suc b.depth) k s) (flat_entered k c).state

-- the prologue sets the kept slots, and stores the parameters as C does
abbrev pub ProloguesFollow : Programs → Type 0
ProloguesFollow p = (b : Running) (k : Callee p) (call : Calls) (enters : Enters) (arguments : List Value) (words : List ℕ) (s : source.State) (c : flat.State)
    → There p b s c → AreArgumentsOf p b.depth s c (parameter_types k.function) arguments words
    → There p (called_from b k call enters s c) (source_entered p (suc b.depth) k s) (flat_entered k c).state
    → Matches (BodyBegins p k (called_from b k call enters s c)) (λ e t f d. StatesEndAlike p e t f d.state)
    (store_arguments (setting_of p) (length s.memory.objects) (variables_of k.function)
    (named_arguments (head_of k.function).parameters arguments) (source_entered p (suc b.depth) k s))
    (run (k.enters.body.sets ++ k.enters.body.stores) (context_of (scene_in p k) (called_from b k call enters s c))
    (with_slots 0 words (flat_entered k c)))

-- a call ends, and all stays that the call around speaks of
abbrev pub CallsEnd : Programs → Type 0
CallsEnd p = (b : Running) (k : Callee p) (call : Calls) (enters : Enters) (s t : source.State) (c d : flat.State)
    → There p (called_from b k call enters s c) t d → Left p b.depth k.function t d

-- the end of a body gives zeros, which stand for zero of the result's type
abbrev pub EndsGiveZero : Programs → Type 0
EndsGiveZero p = (k : Callee p) (depth : ℕ) (s : source.State) (c : flat.State)
    → IsPassed p depth s c Exact (held_result p.whole (result_type p k.function))
    (zero_of_function (setting_of p) (shape_at p.whole.table k.function.ty)) (replicate (results_of p.parts (suc k.number)) 0)

-- The laws of frames: of related states and sound memory alone, whatever code runs.
pub record FrameLaws (p : Programs) : Type 0 where
  pub fits : CallsFit p
  pub begins : CallsBegin p
  pub prologue : ProloguesFollow p
  pub ends : CallsEnd p
  pub none : EndsGiveZero p

-- The laws of instructions: in every call of a function in which calls match, and in function 0, which makes no calls but that of `main`.
pub record InstructionLaws (p : Programs) : Type 0 where
  pub function : (k : Callee p) (b : Running) → CallsAlike p b → Laws (scene_in p k) k.is.slots.slots b k.function.body.0.items
  pub start : (slots : Slots) (g : AreSlots slots) (b : Running) → Laws (first_scene p slots) g b p.initialisers

-- how many calls there may be, one in the other, after `main` is entered and with it
abbrev pub calls_limit : ℕ
calls_limit = 1023

-- All calls match in a call in which so many more may be nested.
abbrev pub CallsWithin : Programs → ℕ → Type 0
CallsWithin p n = (b : Running) → n + b.depth ≡ calls_limit → b.call ≡ call_within n (setting_of p) (map (callable (setting_of p)) p.functions)
    → b.enter ≡ enter n p.parts → CallsAlike p b
