-- What the cured program of a program in three-address code is.
use Rattle.std.specs.Prelude.{◌≡◌, ℕ, suc, List, [], ◌∷◌, ◌++◌, length, map, replicate, slice_get, slice_index, Option, Some, None, ◌-◌, ◌<◌, ◌≤◌, ◌≢◌}
use Rattle.cc_base.specs.declared.number.TypeId.{TypeId}
use Rattle.cc_base.specs.declared.number.NodeId.{NodeId}
use Rattle.cc_base.specs.declared.place.Place.{Place}
use Rattle.cc_base.specs.declared.kind.Kind.{Kind}
use Rattle.cc_base.specs.declared.kind.Kind.TheVariants.{Safe}
use Rattle.c_types.specs.Table.{Table}
use Rattle.cil_form.specs.declared.program.Function.{Function}
use Rattle.cil_form.specs.declared.program.Static.{Static}
use Rattle.cil_form.specs.declared.program.Program.{Program}
use Rattle.cil_form.specs.Machine.{plan}
use Rattle.cured_code.specs.declared.instr.Instr.{Instr}
use Rattle.cured_code.specs.declared.instr.Instr.TheVariants as instr
use Rattle.cured_code.specs.declared.parts.GlobalLine.{GlobalLine}
use Rattle.cured_code.specs.declared.parts.Function as cured
use Rattle.cured_code.specs.declared.parts.Parts.{Parts}
use Rattle.cured_code.specs.FlatState.{PlacedArea}
use Rattle.cured_code.specs.FlatMachine.{global_areas, plan_of, placed}
use Rattle.cured_code.specs.Ranges.{slots_limit, params_limit}
use Rattle.flat_mem.specs.Placement.{globals_start}
use Rattle.check_forms.specs.Pieces.{Piece, Line, Then}
use Rattle.check_forms.specs.declared.op.Op.TheVariants.{EnterMain}
use Rattle.sim_relation.specs.Ground.{function_word}
use Rattle.sim_relation.specs.Points.{Number, Knowledge}
use Rattle.cure_rules.specs.Slots.{Slots, AreSlots, Address, First, slot_of}
use Rattle.cure_rules.specs.Known.{Whole, World, AreSizes, Gets, nothing_known}
use Rattle.cure_rules.specs.Checks.{IsGuarded}
use Rattle.cure_rules.specs.Code.{AreCuring, outside}
use Rattle.cure_rules.specs.Functions.{AreSignatures, AreSet, world_of, IsCuredFunction, areas_for}

-- Globals

-- the addresses of the areas of a program's globals, in order
abbrev pub global_addresses : Parts → List ℕ
global_addresses parts = map (λ (a : PlacedArea). a.address) (placed (global_areas parts.globals) (globals_start (plan_of parts)))

-- A static object begins as zeros, and a string literal with its bytes, of which the zeros at the end are left out.
abbrev pub IsFirstOf : Option (List ℕ) → List ℕ → Type 0
IsFirstOf None first = first ≡ []
IsFirstOf (Some text) first = (n : ℕ) × (text ≡ first ++ replicate n 0) × (0 < length first → slice_index first (length first - 1) ≢ 0)

-- the areas of the static objects, in order, and what each begins with
pub record AreGlobals (table : Table) (kind : NodeId → Kind) (statics : List Static) (globals : List GlobalLine) : Type 0 where
  pub areas : global_areas globals ≡ areas_for table kind (map (λ (o : Static). plan o.planned) statics)
  pub first : (k : ℕ) (o : Static) (g : GlobalLine) → slice_get statics k ≡ Some o → slice_get globals k ≡ Some g → IsFirstOf o.text g.first

-- Function 0

abbrev pub start_world : Whole → Slots → World
start_world w slots = record { whole = w; number = 0; variables = []; result = None; slots = slots }

-- DEPTH of `main`, its call, and the exit with what it gives
abbrev pub EntersMain : World → ℕ → Place → Piece
EntersMain w main at lines = (a : ℕ)
    × Then (Gets w Address (Number (function_word main)) a) (Then (IsGuarded w (EnterMain a) Safe at)
    (Line (instr.Call (suc main) w.slots.row (slot_of w.slots First) ∷ instr.Exit (slot_of w.slots First) ∷ []))) lines

-- Function 0: the kept slots are set, the static initialisers run, and `main` is entered.
pub record IsStart (w : World) (p : Program) (h : cured.Function) : Type 0 where
  pub slots : AreSlots w.slots
  pub count : h.slots ≡ w.slots.count
  pub few : w.slots.count ≤ slots_limit
  pub parameters : w.slots.parameters ≡ 0
  pub row : w.slots.row_width ≡ params_limit
  pub sig : h.sig ≡ 0
  pub areas : h.locals ≡ []
  pub charge : h.charge ≡ 0
  pub sets : List Instr
  pub code : List Instr
  pub enters : List Instr
  pub after : Knowledge
  pub are_set : AreSet w w.slots.kept sets
  pub are_curing : AreCuring p.initialisers.0.items w outside nothing_known after code
  pub enters_main : EntersMain w p.main.0 p.main_place enters
  pub body : h.body.0.items ≡ sets ++ (code ++ enters)

-- Programs

-- what the curer makes tables of: the sizes and offsets of types once cured, and the number of the signature of each function type
pub record Numbers : Type 0 where
  pub size : TypeId → ℕ
  pub offset : TypeId → ℕ → ℕ
  pub signature : TypeId → ℕ

-- what is the same in all functions, by the kinds of the nodes and the type nodes
abbrev pub whole_of : Program → (NodeId → Kind) → (TypeId → ℕ) → Numbers → Parts → Whole
whole_of p kind node numbers parts = record {
  table = p.types;
  kind = kind;
  size = numbers.size;
  offset = numbers.offset;
  node = node;
  statics = map (λ (o : Static). plan o.planned) p.statics;
  addresses = global_addresses parts;
  functions = length p.functions;
  signature = numbers.signature;
}

-- function k of the source in the cured program
pub record IsFunctionAt (w : Whole) (parts : Parts) (k : ℕ) (f : Function) : Type 0 where
  pub cured : cured.Function
  pub found : slice_get parts.functions (suc k) ≡ Some cured
  pub slots : Slots
  pub is : IsCuredFunction (world_of w k f slots) f cured

-- the parts are those of the program, of whose functions this is the same
pub record AreCured (w : Whole) (p : Program) (parents : List ℕ) (parts : Parts) : Type 0 where
  pub sizes : AreSizes w
  pub signatures : AreSignatures w.table w.kind w.signature parts.sigs
  pub nodes : parts.nodes ≡ parents
  pub globals : AreGlobals w.table w.kind p.statics parts.globals
  pub count : length parts.functions ≡ suc (length p.functions)
  pub functions : (k : ℕ) (f : Function) → slice_get p.functions k ≡ Some f → IsFunctionAt w parts k f
  pub first : cured.Function
  pub found : slice_get parts.functions 0 ≡ Some first
  pub slots : Slots
  pub start : IsStart (start_world w slots) p first

-- A program is cured, where its nodes have these kinds, the types these type nodes, and the type nodes these parents: its functions follow
-- function 0.
pub record IsCuredProgram (p : Program) (kind : NodeId → Kind) (node : TypeId → ℕ) (parents : List ℕ) (parts : Parts) : Type 0 where
  pub numbers : Numbers
  pub are_cured : AreCured (whole_of p kind node numbers parts) p parents parts
