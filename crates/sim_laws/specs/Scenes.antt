-- What two bodies of code run in: the program and its cured program, a function of both, and a call of it.
use Rattle.std.specs.Prelude.{ℕ, suc, List, [], map, Option, None}
use Rattle.cc_base.specs.declared.number.TypeId.{TypeId}
use Rattle.kind_sites.specs.declared.site.Site.{Site}
use Rattle.c_types.specs.Table.{shape_at}
use Rattle.runs.specs.Outcome.{Run}
use Rattle.flat_mem.specs.Memory.{Frame}
use Rattle.src_mem.specs.Memory.{Planned}
use Rattle.src_mem.specs.State as source
use Rattle.src_mem.specs.State.{Setting}
use Rattle.src_mem.specs.Runs.{Calls, defined}
use Rattle.cil_form.specs.declared.instr.Instr.{Instr}
use Rattle.cil_form.specs.declared.program.Function.{Function}
use Rattle.cil_form.specs.State.{Around}
use Rattle.cil_form.specs.Shape.{result_of_shape}
use Rattle.cil_form.specs.Machine.{head_of, variables_of}
use Rattle.cured_code.specs.declared.parts.Parts.{Parts}
use Rattle.cured_code.specs.FlatState as flat
use Rattle.cured_code.specs.FlatMachine.{Context}
use Rattle.cure_rules.specs.Slots.{Slots}
use Rattle.cure_rules.specs.Known.{Whole, World}

-- A program and its cured program: the functions that the program defines, its static initialisers, its sites, the parts of the cured one, and what the curer has of
-- types, kinds and static objects.
pub record Programs : Type 0 where
  pub functions : List Function
  pub initialisers : List Instr
  pub sites : List Site
  pub parts : Parts
  pub whole : Whole

-- what stays the same in a run of the program
abbrev pub setting_of : Programs → Setting
setting_of p = record { table = p.whole.table; kind = p.whole.kind; functions = map (λ f. defined (head_of f)) p.functions }

-- A function of both: its number in the cured program, where function 0 runs the static initialisers; its variables; the type of its
-- result; its slots.
pub record Scene : Type 0 where
  pub programs : Programs
  pub number : ℕ
  pub variables : List Planned
  pub result : Option TypeId
  pub slots : Slots

abbrev pub world_of : Scene → World
world_of w = record { whole = w.programs.whole; number = w.number; variables = w.variables; result = w.result; slots = w.slots }

-- function k of the program
abbrev pub scene_of : Programs → ℕ → Function → Slots → Scene
scene_of p k f slots =
    record { programs = p; number = suc k; variables = variables_of f; result = result_of_shape (shape_at p.whole.table f.ty); slots = slots }

-- function 0
abbrev pub first_scene : Programs → Slots → Scene
first_scene p slots = record { programs = p; number = 0; variables = []; result = None; slots = slots }

-- what calls do in the cured program
abbrev pub Enters : Type 0
Enters = ℕ → List ℕ → Run flat.Ending flat.State (List ℕ)

-- A call as it runs: its depth and that of the call around it, the states in which it began, the number of its first variable, the frames,
-- its variables, and what calls of it do.
pub record Running : Type 0 where
  pub depth : ℕ
  pub outer : ℕ
  pub start : source.State
  pub flat_start : flat.State
  pub first : ℕ
  pub frames : List Frame
  pub variables : List Planned
  pub call : Calls
  pub enter : Enters

abbrev pub around_of : Scene → Running → Around
around_of w b = record { setting = setting_of w.programs; depth = b.depth; first = b.first; call = b.call }

abbrev pub context_of : Scene → Running → Context
context_of w b = record { parts = w.programs.parts; function = w.number; enter = b.enter }
