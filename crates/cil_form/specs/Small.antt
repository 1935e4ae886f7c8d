-- Words to write small programs in three-address code with.
use Rattle.std.specs.Prelude.{ℕ, ◌<◌, ◌^◌, List, [], length, Some, refl}
use Rattle.std.proofs.Common.{le_refl}
use Rattle.std.specs.declared.alloc.Global.{Global}
use denote.RawPtr.{null_ptr}
use Rattle.cc_base.specs.declared.place.Place.{Place}
use Rattle.cc_base.specs.declared.number.NodeId.{NodeId}
use Rattle.cc_base.specs.declared.number.TypeId.{TypeId}
use Rattle.c_types.specs.declared.shape.TypeShape.{TypeShape}
use Rattle.kind_sites.specs.declared.site.Site.{Site}
use Rattle.c_types.specs.Table.{Table, Entry}
use Rattle.cil_form.specs.declared.number.Temp.{Temp}
use Rattle.cil_form.specs.declared.number.Temp.TheVariants as temp
use Rattle.cil_form.specs.declared.number.Planned.{Planned}
use Rattle.cil_form.specs.declared.number.Object.{Object}
use Rattle.cil_form.specs.declared.number.Object.TheVariants as object
use Rattle.cil_form.specs.declared.instr.Instr.{Instr}
use Rattle.cil_form.specs.declared.instr.Code.{Code}
use Rattle.cil_form.specs.declared.program.Parameter.{Parameter}
use Rattle.cil_form.specs.declared.program.Function.{Function}
use Rattle.cil_form.specs.declared.program.Program.{Program}
use Rattle.src_mem.specs.State.{Ending, Access}
use Rattle.src_mem.specs.Runs.{SourceOutcome}

-- the place in line 1 at this column
abbrev pub at : ℕ → Place
at column = record { line = 1; col = column }

abbrev pub node : ℕ → NodeId
node n = record { 0 = n }

abbrev pub type : ℕ → TypeId
type n = record { 0 = n }

-- the integer types that each table begins with
abbrev pub int : TypeId
int = type 5

-- a type that has no members
abbrev pub entry : TypeShape → Entry
entry shape = record { shape = shape; members = [] }

-- value t, what the `switch` with so many others around it keeps, variable k of the call
abbrev pub value : ℕ → Temp
value t = temp.Value t

abbrev pub kept : ℕ → Temp
kept depth = temp.Switch depth

abbrev pub variable : ℕ → Object
variable k = object.Variable (record { 0 = k })

-- the code with these instructions, in some block of memory
abbrev pub code : Global → (is : List Instr) → length is < 2 ^ 63 → Code
code alloc is small = record { 0 = record { ptr = null_ptr; len = length is; cap = length is; alloc = alloc; items = is; ok = (refl, le_refl _); small = small } }

-- a parameter with a name, a variable
abbrev pub parameter : ℕ → TypeId → Parameter
parameter home t = record { ty = t; home = Some (node home) }

abbrev pub local : ℕ → TypeId → Planned
local home t = record { ty = t; home = node home }

-- a program without static objects, with the number and the place of its `main`, its sites, and the empty code
abbrev pub program : Table → ℕ → List Function → ℕ → Place → List Site → Code → Program
program table nodes functions main place sites none = record {
  types = table;
  nodes = nodes;
  statics = [];
  initialisers = none;
  functions = functions;
  main = record { 0 = main };
  main_place = place;
  sites = sites;
}

-- What is looked at of a run

pub record Shown : Type 0 where
  pub ending : Ending
  pub output : List ℕ
  pub entered : List ℕ
  pub accesses : List Access

abbrev pub shown : SourceOutcome → Shown
shown o = record { ending = o.ending; output = o.output; entered = o.entered; accesses = o.accesses }

abbrev pub access : ℕ → ℕ → ℕ → Access
access object offset size = record { object = object; offset = offset; size = size }
