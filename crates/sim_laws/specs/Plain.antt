-- A part of three-address code whose laws are all there: constants and addresses, tests for null, calculations, conversions of integers and from
-- them, loads and stores of integers and pointers through pointers that aren't WILD or into parts of objects that are named, copies of structs and
-- clearing where no tags are, calls through pointers that aren't WILD, `free`, `getchar`, `putchar` and `exit`, control and returns; and of pointers
-- that are SAFE or SEQ `&`, members, arrays that decay, moves, comparisons, differences, conversions, `malloc` and `calloc`; in functions whose
-- parameters have homes without tags.
use Rattle.std.specs.Prelude.{◌≡◌, ◌≢◌, ⊤, List, [], map, Option, Some, None, All}
use Rattle.cc_base.specs.declared.kind.Kind.{Kind}
use Rattle.cc_base.specs.declared.kind.Kind.TheVariants.{Safe, Seq, Wild}
use Rattle.cc_base.specs.declared.number.NodeId.{NodeId}
use Rattle.cc_base.specs.declared.number.TypeId.{TypeId}
use Rattle.c_types.specs.declared.shape.TypeShape.{TypeShape}
use Rattle.c_types.specs.declared.shape.TypeShape.TheVariants as shape
use Rattle.c_types.specs.Table.{Table, shape_at}
use Rattle.src_mem.specs.Memory.{Planned}
use Rattle.src_mem.specs.Operations.{node_at}
use Rattle.cil_form.specs.declared.number.Object.{Object}
use Rattle.cil_form.specs.declared.instr.Access.{Access}
use Rattle.cil_form.specs.declared.instr.Access.TheVariants as access
use Rattle.cil_form.specs.declared.instr.Target.TheVariants as target
use Rattle.cil_form.specs.declared.instr.Allocate.{Allocate}
use Rattle.cil_form.specs.declared.instr.Allocate.TheVariants as allocate
use Rattle.cil_form.specs.declared.instr.Convert.{Convert}
use Rattle.cil_form.specs.declared.instr.Convert.TheVariants as convert
use Rattle.cil_form.specs.declared.instr.Point.{Point}
use Rattle.cil_form.specs.declared.instr.Point.TheVariants as point
use Rattle.cil_form.specs.declared.instr.Instr.{Instr}
use Rattle.cil_form.specs.declared.instr.Instr.TheVariants as instr
use Rattle.cil_form.specs.declared.program.Parameter.{Parameter}
use Rattle.cil_form.specs.declared.program.Function.{Function}
use Rattle.cil_form.specs.declared.program.Program.{Program}
use Rattle.cil_form.specs.declared.program.Static.{Static}
use Rattle.cil_form.specs.Meaning.{target_node}
use Rattle.cil_form.specs.Machine.{plan, variables_of}
use Rattle.sim_laws.specs.Held.{IsInCode}
use Rattle.sim_laws.specs.Points.{planned_at}

-- the kind is SAFE or SEQ
abbrev pub IsPlainKind : Kind → Type 0
IsPlainKind Safe = ⊤
IsPlainKind Seq = ⊤
IsPlainKind other = ⊥

-- pointers of the type t are SAFE or SEQ
abbrev pub IsPlainPointer : Table → (NodeId → Kind) → TypeId → Type 0
IsPlainPointer table kind t = IsPlainKind (kind (node_at table t))

-- pointers of both types are SAFE or SEQ
abbrev pub ArePlainPointers : Table → (NodeId → Kind) → TypeId → TypeId → Type 0
ArePlainPointers table kind t s = IsPlainPointer table kind t × IsPlainPointer table kind s

abbrev pub IsPlainConvert : Table → (NodeId → Kind) → Convert → Type 0
IsPlainConvert table kind (convert.Integer into from t) = ⊤
IsPlainConvert table kind (convert.ToPointer into from t at) = ⊤
IsPlainConvert table kind (convert.Pointer into from t s at) = IsPlainPointer table kind t × IsPlainPointer table kind s
IsPlainConvert table kind other = ⊥

-- the object that is named, of these, has no tags
abbrev pub IsPlainObject : (NodeId → Kind) → List Planned → List Planned → Object → Type 0
IsPlainObject kind statics variables o = (x : Planned) → planned_at statics variables o ≡ Some x → kind x.node ≢ Wild

abbrev pub IsPlainAccess : (NodeId → Kind) → List Planned → List Planned → Access → Type 0
IsPlainAccess kind statics variables (access.Load into from n t at) = kind n ≢ Wild
IsPlainAccess kind statics variables (access.Store (target.Pointer p n) v t at assignment) = kind n ≢ Wild
IsPlainAccess kind statics variables (access.Store (target.Part o n u offset) v t at assignment) = kind n ≢ Wild
IsPlainAccess kind statics variables (access.Clear o) = IsPlainObject kind statics variables o
IsPlainAccess kind statics variables (access.Copy to to_place from n from_place t assignment) =
    (kind n ≢ Wild) × (kind (target_node to) ≢ Wild)

abbrev pub IsPlainAllocate : (NodeId → Kind) → Allocate → Type 0
IsPlainAllocate kind (allocate.Malloc into n node t at) = IsPlainKind (kind node)
IsPlainAllocate kind (allocate.Calloc into m n node t at) = IsPlainKind (kind node)

-- pointers that are SAFE or SEQ, also where they are made for a part
abbrev pub IsPlainPoint : Table → (NodeId → Kind) → Point → Type 0
IsPlainPoint table kind (point.Move into p n way t at) = IsPlainPointer table kind t
IsPlainPoint table kind (point.Difference into a t b s at) = ArePlainPointers table kind t s
IsPlainPoint table kind (point.Compare into which a t b s at) = ArePlainPointers table kind t s
IsPlainPoint table kind (point.IsNull into p t different) = ⊤
IsPlainPoint table kind (point.Member into from outer t i inner u at) = (kind outer ≢ Wild) × IsPlainKind (kind inner)
IsPlainPoint table kind (point.Decay into from outer array check inner element at) = (kind outer ≢ Wild) × IsPlainKind (kind inner)
IsPlainPoint table kind (point.Address into from outer inner t) = (kind outer ≢ Wild) × IsPlainKind (kind inner)

-- a call through a pointer that isn't WILD
abbrev pub IsPlainCallee : (NodeId → Kind) → TypeShape → Type 0
IsPlainCallee kind (shape.Pointer n u) = kind n ≢ Wild
IsPlainCallee kind other = ⊤

-- a single instruction; control holds others, of which the same is said
abbrev pub IsPlainInstr : Table → (NodeId → Kind) → List Planned → List Planned → Instr → Type 0
IsPlainInstr table kind statics variables (instr.Set i) = ⊤
IsPlainInstr table kind statics variables (instr.Calculate i) = ⊤
IsPlainInstr table kind statics variables (instr.Point i) = IsPlainPoint table kind i
IsPlainInstr table kind statics variables (instr.Convert i) = IsPlainConvert table kind i
IsPlainInstr table kind statics variables (instr.Access i) = IsPlainAccess kind statics variables i
IsPlainInstr table kind statics variables (instr.Allocate i) = IsPlainAllocate kind i
IsPlainInstr table kind statics variables (instr.Call i) = IsPlainCallee kind (shape_at table i.ty)
IsPlainInstr table kind statics variables (instr.Runtime i) = ⊤
IsPlainInstr table kind statics variables (instr.If' t shape code shape' other) = ⊤
IsPlainInstr table kind statics variables (instr.Block' shape code) = ⊤
IsPlainInstr table kind statics variables (instr.Loop' shape code) = ⊤
IsPlainInstr table kind statics variables (instr.Break n) = ⊤
IsPlainInstr table kind statics variables instr.Return = ⊤
IsPlainInstr table kind statics variables (instr.ReturnValue v t at) = ⊤

-- each instruction that code consists of, which names these objects
abbrev pub IsPlainCode : Table → (NodeId → Kind) → List Planned → List Planned → List Instr → Type 0
IsPlainCode table kind statics variables code = (i : Instr) → IsInCode i code → IsPlainInstr table kind statics variables i

-- a parameter is stored into a home without tags
abbrev pub IsPlainHome : (NodeId → Kind) → Option NodeId → Type 0
IsPlainHome kind None = ⊤
IsPlainHome kind (Some n) = kind n ≢ Wild

-- A program of such code under these kinds, whose functions take such parameters.
pub record IsPlainProgram (p : Program) (kind : NodeId → Kind) : Type 0 where
  pub initialisers : IsPlainCode p.types kind (map (λ (o : Static). plan o.planned) p.statics) [] p.initialisers.0.items
  pub parameters : All (λ (f : Function). All (λ (x : Parameter). IsPlainHome kind x.home) f.parameters) p.functions
  pub functions : All (λ (f : Function). IsPlainCode p.types kind (map (λ (o : Static). plan o.planned) p.statics) (variables_of f) f.body.0.items) p.functions
