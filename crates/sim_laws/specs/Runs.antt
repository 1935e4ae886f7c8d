-- What is said of whole runs.
use Rattle.std.specs.Prelude.{◌≡◌, ℕ, List, [], ◌++◌, map}
use Rattle.cc_base.specs.declared.kind.Kind.{Kind}
use Rattle.cc_base.specs.declared.number.NodeId.{NodeId}
use Rattle.cc_base.specs.declared.number.TypeId.{TypeId}
use Rattle.kind_sites.specs.declared.site.Site.{Site}
use Rattle.runs.specs.Input.{Input}
use Rattle.src_mem.specs.State as source
use Rattle.src_mem.specs.State.{wrong}
use Rattle.src_mem.specs.Runs as runs
use Rattle.cil_form.specs.declared.program.Program.{Program}
use Rattle.cil_form.specs.State.{no_temps}
use Rattle.cil_form.specs.Shape.{IsInShape}
use Rattle.cil_form.specs.Machine.{setting_of, statics_of, code_run}
use Rattle.cured_code.specs.declared.parts.Parts.{Parts}
use Rattle.cured_code.specs.FlatState as flat
use Rattle.cured_code.specs.FlatMachine.{run, enter, entry, first_state, flat_run}
use Rattle.sim_relation.specs.Outcomes.{RunAlike}
use Rattle.cure_rules.specs.Slots.{Slots, AreSlots}
use Rattle.cure_rules.specs.Known.{nothing_known}
use Rattle.cure_rules.specs.Programs.{Numbers, whole_of, IsCuredProgram}
use Rattle.sim_laws.specs.Scenes.{Programs, Running, first_scene, context_of}
use Rattle.sim_laws.specs.Points.{Point}
use Rattle.sim_laws.specs.Statements.{Lines}
use Rattle.sim_laws.specs.Calls.{FrameLaws, InstructionLaws, calls_limit}

-- the program and its cured program
abbrev pub programs_of : Program → (NodeId → Kind) → (TypeId → ℕ) → Numbers → List Site → Parts → Programs
programs_of p kind node numbers sites parts =
    record { functions = p.functions; initialisers = p.initialisers.0.items; sites = sites; parts = parts; whole = whole_of p kind node numbers parts }

-- The states as a run begins, before and behind the push of function 0's frame.
abbrev pub source_first : Program → (NodeId → Kind) → Input → ℕ → source.State
source_first p kind input turns = runs.first_state (map (runs.static_object (setting_of p kind)) (statics_of p)) input turns

-- function 0 as it runs: it makes no calls but that of `main`, which comes last
abbrev pub first_running : Programs → source.State → flat.State → Running
first_running p s c = record {
  depth = 0;
  outer = 0;
  start = s;
  flat_start = c;
  first = 0;
  frames = c.memory.frames;
  variables = [];
  call = λ f depth arguments. wrong;
  enter = enter calls_limit p.parts;
}

-- The law of the start: behind the lines that set the kept slots of function 0 both machines are at a point of which nothing is known.
pub record Started (p : Programs) (slots : Slots) (g : AreSlots slots) (sets : Lines) (s : source.State) (c : flat.Local) : Type 0 where
  pub after : flat.Local
  pub runs : (rest : Lines) → run (sets ++ rest) (context_of (first_scene p slots) (first_running p s c.state)) c
      ≡ run rest (context_of (first_scene p slots) (first_running p s c.state)) after
  pub point : Point (first_scene p slots) g (first_running p s c.state) nothing_known (record { state = s; temps = no_temps }) after

-- THE CONDITIONAL THEOREM: a cured program runs as its three-address code, for every input and every number of turns, where single instructions
-- do, frames begin and end as they should, and the first states are related.
abbrev pub CuredProgramsRunAlike : Type 0
CuredProgramsRunAlike =
    (p : Program) (kind : NodeId → Kind) (node : TypeId → ℕ) (parents : List ℕ) (parts : Parts) (sites : List Site) (input : Input) (turns : ℕ)
    → IsInShape p → (is : IsCuredProgram p kind node parents parts)
    → FrameLaws (programs_of p kind node is.numbers sites parts) → InstructionLaws (programs_of p kind node is.numbers sites parts)
    → Started (programs_of p kind node is.numbers sites parts) is.are_cured.slots is.are_cured.start.slots is.are_cured.start.sets
    (source_first p kind input turns) (entry is.are_cured.first (first_state parts input turns))
    → RunAlike (setting_of p kind) node (code_run p kind input turns) (flat_run parts input turns)
