-- Runs of whole programs, around what a body does: how they begin, how functions are called, and what is seen at the end. The
-- source's meaning and that of three-address code differ in their bodies alone.
use Rattle.std.specs.Prelude.{ℕ, zero, suc, List, [], ◌∷◌, ◌++◌, map, length, slice_get, Option, None, Some}
use Rattle.std.specs.List.{filter_map}
use Rattle.cc_base.specs.declared.place.Place.{Place}
use Rattle.cc_base.specs.declared.number.NodeId.{NodeId}
use Rattle.cc_base.specs.declared.number.TypeId.{TypeId}
use Rattle.c_types.specs.Table.{shape_at}
use Rattle.integers.specs.Words.{residue}
use Rattle.runs.specs.Outcome.{Outcome, Ended, Done, done, ends, ◌>>=◌, ◌>>◌}
use Rattle.runs.specs.Input.{Input}
use Rattle.src_mem.specs.Pointers.{Function, Value, Integer, Address}
use Rattle.src_mem.specs.Memory.{Object, Memory, Planned, new_variable, new_literal}
use Rattle.src_mem.specs.State.{Ending, Exited, Turns, Access, State, Act, Defined, Setting, given, turn}
use Rattle.src_mem.specs.Checks.{HasRoom, checked}
use Rattle.src_mem.specs.Primitives.{leave}
use Rattle.src_mem.specs.Uses.{enter_with}
use Rattle.src_mem.specs.Operations.{zero_of_function}

-- Calls

-- what calls do: the call of a function, by its number, at a depth, with arguments
abbrev pub Calls : Type 0
Calls = ℕ → ℕ → List Value → Act Value

-- A body runs at a depth, with the number of the first object of its frame and with the calls that it may make. What it gives is
-- the value that is returned in place of the one for its end.
abbrev pub Body : Type 0
Body = ℕ → ℕ → Calls → Value → Act Value

-- function number f is entered at a depth with the arguments of its variables, its body runs, and it is left
abbrev pub call_body : Setting → Calls → ℕ → ℕ → List Value → Defined → Body → Act Value
call_body w call f depth arguments d body s =
    (do
      enter_with w depth f d.variables arguments
      v ← body depth (length s.memory.objects) call (zero_of_function w (shape_at w.table d.type))
      leave w depth d.variables
      done v) s

-- a defined function with its body
pub record Callable : Type 0 where
  pub defined : Defined
  pub body : Body
  -- the arguments that its variables get, of those that it is called with
  pub named : List Value → List Value

-- A call takes a turn, and then the function runs. At most n calls are nested in one another.
abbrev pub call_within : ℕ → Setting → List Callable → Calls
call_within zero w functions f depth arguments = ends Turns
call_within (suc n) w functions f depth arguments = do
  turn
  given (slice_get functions f) (λ c. call_body w (call_within n w functions) f depth (c.named arguments) c.defined c.body)

-- How many calls are nested in `main` at most. DEPTH stops the call that would be one more, since `main` has depth 1, so no run
-- ends by this number where pointers to functions are SAFE or WILD, as in every solution.
unfoldable pub nested_limit : ℕ
nested_limit = 1022

-- `main`, whose name stands at a place, is entered at depth 1 without a turn, once it has room
abbrev pub run_main : Setting → Place → Calls → ℕ → Callable → Act Value
run_main w place call f c = do
  checked w place (HasRoom 1 (Function f))
  call_body w call f 1 [] c.defined c.body

-- Functions and static objects

-- a parameter: its type, and its home where it has a name
pub record Parameter : Type 0 where
  pub type : TypeId
  pub home : Option NodeId

-- what a defined function is beside its body
pub record Head : Type 0 where
  pub type : TypeId
  pub parameters : List Parameter
  pub locals : List Planned

-- a parameter without a name is no object
abbrev pub planned : TypeId → Option NodeId → Option Planned
planned t None = None
planned t (Some home) = Some (record { type = t; node = home })

-- the objects of a call's frame: the parameters that have names, and then the local variables
abbrev pub variables_of : Head → List Planned
variables_of h = filter_map (λ p. planned p.type p.home) h.parameters ++ h.locals

abbrev pub if_named : Option NodeId → Value → List Value → List Value
if_named None v vs = vs
if_named (Some home) v vs = v ∷ vs

-- the arguments of the parameters that have names
abbrev pub named_arguments : List Parameter → List Value → List Value
named_arguments [] vs = []
named_arguments (p ∷ ps) [] = []
named_arguments (p ∷ ps) (v ∷ vs) = if_named p.home v (named_arguments ps vs)

abbrev pub defined : Head → Defined
defined h = record { type = h.type; variables = variables_of h }

abbrev pub callable : Head → Body → Callable
callable h body = record { defined = defined h; body = body; named = named_arguments h.parameters }

-- an object that lives as long as the program: its type, its home, and of a string literal its bytes
pub record Static : Type 0 where
  pub type : TypeId
  pub home : NodeId
  pub text : Option (List ℕ)

abbrev pub static_from : Setting → TypeId → NodeId → Option (List ℕ) → Object
static_from w t home None = new_variable w.table 0 (record { type = t; node = home })
static_from w t home (Some text) = new_literal home text

abbrev pub static_object : Setting → Static → Object
static_object w o = static_from w o.type o.home o.text

-- The beginning and the end

abbrev pub first_state : List Object → Input → ℕ → State
first_state objects input turns = record {
  memory = record { objects = objects; frame_bytes = 0; heap_bytes = 0 };
  input = input;
  read = 0;
  output = [];
  accesses = [];
  entered = [];
  turns = turns;
}

-- the exit status that `main` returns
abbrev pub status_of : Value → ℕ
status_of (Integer z) = residue z 256
status_of (Address p) = 0

-- what a run gives
pub record SourceOutcome : Type 0 where
  pub ending : Ending
  pub output : List ℕ
  -- how many bytes of the input were read
  pub read : ℕ
  -- the accesses in order
  pub accesses : List Access
  -- the functions entered, `main` first
  pub entered : List ℕ
  pub memory : Memory

-- what is seen of a state at the end
abbrev pub seen : Ending → State → SourceOutcome
seen ending s = record {
  ending = ending;
  output = s.output;
  read = s.read;
  accesses = s.accesses;
  entered = s.entered;
  memory = s.memory;
}

-- the return of `main` is an exit
abbrev pub finished : Outcome Ending State Value → SourceOutcome
finished (Ended ending s) = seen ending s
finished (Done v s) = seen (Exited (status_of v)) s

-- A whole run: what comes before `main`, then `main`.
abbrev pub run_program : Act (Unit {0}) → Act Value → List Object → Input → ℕ → SourceOutcome
run_program before main objects input turns = finished ((before >> main) (first_state objects input turns))

-- The run of a program: its static initialisers, and then `main`, which is the function of this number and whose name stands at a place.
abbrev pub run_all : Setting → Act (Unit {0}) → List Callable → ℕ → Place → List Static → Input → ℕ → SourceOutcome
run_all w before functions main place statics input turns =
    run_program before (given (slice_get functions main) (run_main w place (call_within nested_limit w functions) main))
    (map (static_object w) statics) input turns
