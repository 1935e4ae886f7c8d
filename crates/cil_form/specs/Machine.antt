-- What a program in three-address code means: its static initialisers run, and then `main` (C99 5.1.2).
use Rattle.std.specs.Prelude.{ℕ, List, map}
use Rattle.cc_base.specs.declared.number.NodeId.{NodeId}
use Rattle.cc_base.specs.declared.kind.Kind.{Kind}
use Rattle.runs.specs.Outcome.{Outcome, Ended, Done, done, ◌>>=◌, ◌>>◌}
use Rattle.runs.specs.Control.{Control, Goes, Leaves, Gives}
use Rattle.runs.specs.Input.{Input}
use Rattle.src_mem.specs.Pointers.{Value}
use Rattle.src_mem.specs.Memory.{Planned}
use Rattle.src_mem.specs.State.{Ending, State, Act, Setting, wrong}
use Rattle.src_mem.specs.Runs as runs
use Rattle.src_mem.specs.Runs.{Body, Callable, Head, SourceOutcome, defined, run_all}
use Rattle.cil_form.specs.declared.instr.Instr.{Instr}
use Rattle.cil_form.specs.declared.number.Planned.{Planned as PlannedObject}
use Rattle.cil_form.specs.declared.program.Function.{Function}
use Rattle.cil_form.specs.declared.program.Program.{Program}
use Rattle.cil_form.specs.State.{Local, Step, Around, no_temps}
use Rattle.cil_form.specs.Meaning.{run}

-- The parts of a program

abbrev pub plan : PlannedObject → Planned
plan o = record { type = o.ty; node = o.home }

-- what a function is beside its body
abbrev pub head_of : Function → Head
head_of f = record { type = f.ty; parameters = map (λ p. record { type = p.ty; home = p.home }) f.parameters; locals = map plan f.locals }

-- the objects of a function's frame: its parameters that have names, and its local variables
abbrev pub variables_of : Function → List Planned
variables_of f = runs.variables_of (head_of f)

-- the objects that live as long as the program
abbrev pub statics_of : Program → List runs.Static
statics_of p = map (λ o. record { type = o.planned.ty; home = o.planned.home; text = o.text }) p.statics

-- what stays the same in the runs of a program whose nodes have these kinds
abbrev pub setting_of : Program → (NodeId → Kind) → Setting
setting_of p kind = record { table = p.types; kind = kind; functions = map (λ f. defined (head_of f)) p.functions }

-- Bodies

-- what a body gives, by how it is left; `none` where its end is reached
abbrev pub result_of : Value → Control Value → Value
result_of none Goes = none
result_of none (Leaves k) = none
result_of none (Gives v) = v

-- an outcome without the temporaries
abbrev pub without_temps : {A : Type 0} → Outcome Ending Local A → Outcome Ending State A
without_temps (Ended e c) = Ended e c.state
without_temps (Done a c) = Done a c.state

-- code with temporaries of its own, which are all 0 as it begins
abbrev pub alone : Step → Act (Control Value)
alone step s = without_temps (step (record { state = s; temps = no_temps }))

-- the body of a function runs in its frame
abbrev pub body_of : Setting → Function → Body
body_of w f depth first call none =
    alone (run f.body.0.items (record { setting = w; depth = depth; first = first; call = call })) >>= (λ x. done (result_of none x))

abbrev pub callable : Setting → Function → Callable
callable w f = runs.callable (head_of f) (body_of w f)

-- The run

-- what the static initialisers run in: a call of depth 0 without variables, which makes no calls
abbrev pub static_around : Setting → Around
static_around w = record { setting = w; depth = 0; first = 0; call = λ f depth arguments. wrong }

abbrev pub initialise_statics : Setting → List Instr → Act (Unit {0})
initialise_statics w code = alone (run code (static_around w)) >> done tt

-- The meaning of a program, with the kinds of its nodes, for an input and a bound on turns.
abbrev pub code_run : Program → (NodeId → Kind) → Input → ℕ → SourceOutcome
code_run p kind input turns =
    let w = setting_of p kind in
    run_all w (initialise_statics w p.initialisers.0.items) (map (callable w) p.functions) p.main.0 p.main_place (statics_of p) input turns
