-- Where the curer stands, and what its functions ask of each instruction in order to refuse nothing.
use Rattle.std.specs.Prelude.{◌≡◌, ◌≢◌, ℕ, ◌≤◌, List, length, slice_get, Option, Some, IsSome, IsTrue}
use Rattle.std.specs.List.{Contains}
use Rattle.cc_base.specs.declared.number.TypeId.{TypeId}
use Rattle.c_types.specs.declared.shape.TypeShape.TheVariants as shape
use Rattle.kind_sites.specs.declared.site.Site.TheVariants as site
use Rattle.c_types.specs.Table.{Table, shape_at, is_function}
use Rattle.kind_sites.specs.Solutions.{IsSolution}
use Rattle.src_mem.specs.Memory.{Planned}
use Rattle.cil_form.specs.declared.number.Object.{Object}
use Rattle.cil_form.specs.declared.instr.Point.{Point}
use Rattle.cil_form.specs.declared.instr.Point.TheVariants as point
use Rattle.cil_form.specs.declared.instr.Target.TheVariants as target
use Rattle.cil_form.specs.declared.instr.Access.{Access}
use Rattle.cil_form.specs.declared.instr.Access.TheVariants as access
use Rattle.cil_form.specs.declared.instr.Instr.{Instr}
use Rattle.cil_form.specs.declared.instr.Instr.TheVariants as instr
use Rattle.cil_form.specs.Typing.{Context, HeldType, Typing, IsObjectType, plan_of}
use Rattle.cil_form.specs.Told.{AreSitesTold, TellsOf}
use Rattle.cure_rules.specs.Known.{World, AreSizes}
use Rattle.cure_instrs.specs.Cured.{IsIn, CanSet, CanCalculate, CanReach, IsAsked, IsHome}
use Rattle.cure_points.specs.Lines.{CanMove, HasMember, HavePointers}
use Rattle.cure_calls.specs.Lines.{CanCall, CanReturn}
use Rattle.cure_blocks.specs.Cured.{CanConvert, CanAllocate}
use Rattle.cure_objects.specs.Cured.{CanPlace, HasPlan}
use Rattle.cure_objects.specs.Copies.{CanCopy, CanCopyPart}

-- The premises

-- a function type has at most 127 parameters (C99 5.2.4.1)
abbrev pub HaveFewParameters : Table → Type 0
HaveFewParameters table =
    (t : TypeId) (parameters : List TypeId) (result : TypeId) → shape_at table t ≡ shape.Function parameters result → length parameters ≤ 127

-- Code is cured in a function, or in the static initialisers, under kinds that are a solution for the sites of the program, and these tell of all
-- that the code may name.
pub record IsCurable (k : Context) (w : World) : Type 0 where
  pub inside : IsIn w k
  pub solution : IsSolution w.whole.table k.sites w.whole.kind
  pub made : List Planned
  pub told : AreSitesTold w.whole.table made k.sites
  pub tells : TellsOf k.sites k
  -- each object that code names has a home, and a type of objects
  pub objects : (o : Object) (x : Planned) → plan_of k o ≡ Some x → Contains k.sites (site.Home x.node x.type) × IsObjectType k x.type
  -- the functions that code names have function types
  pub functions : (f : ℕ) (v : TypeId) → slice_get k.functions f ≡ Some v → IsTrue (is_function w.whole.table v)
  pub sizes : AreSizes w.whole
  -- code that calls and returns is no static initialiser's
  pub number : IsSome k.result → w.number ≢ 0
  pub few : HaveFewParameters w.whole.table

-- What is asked

abbrev pub CanPoint : Point → World → Typing → Type 0
CanPoint (point.Move into p n way t at) w types = (x : Option HeldType) → types n ≡ x → CanMove w t x
CanPoint (point.Difference into a t b s at) w types = HavePointers w.whole t s
CanPoint (point.Compare into which a t b s at) w types = HavePointers w.whole t s
CanPoint (point.IsNull into p t different) w types = (x : Option HeldType) → types p ≡ x → IsSome x
CanPoint (point.Member into from outer t i inner u at) w types = HasMember w.whole t i
CanPoint other w types = Unit {0}

abbrev pub CanAccess : Access → World → Type 0
CanAccess (access.Load into from node t at) w = CanReach w.whole node t
CanAccess (access.Store (target.Pointer p node) v t at assignment) w = CanReach w.whole node t
CanAccess (access.Store (target.Part o home u offset) v t at assignment) w =
    CanPlace w.whole u offset × (IsHome (w.whole.kind home) × CanReach w.whole home t)
CanAccess (access.Clear o) w = HasPlan w o
CanAccess (access.Copy (target.Pointer p to) to_place from node from_place t assignment) w = CanCopy w.whole to node t
CanAccess (access.Copy (target.Part o home u offset) to_place from node from_place t assignment) w = CanCopyPart w.whole home u offset node t

-- What the curer asks of an instruction, where this is known of the temporaries before it. Of an instruction that holds code it asks no more than
-- of that code.
abbrev pub CanBeCured : Instr → World → Typing → Type 0
CanBeCured (instr.Set i) w types = CanSet i w.whole
CanBeCured (instr.Calculate i) w types = (x : Option HeldType) → IsAsked i types x → CanCalculate i w.whole x
CanBeCured (instr.Point i) w types = CanPoint i w types
CanBeCured (instr.Convert i) w types = CanConvert i w.whole
CanBeCured (instr.Access i) w types = CanAccess i w
CanBeCured (instr.Allocate i) w types = CanAllocate i w.whole
CanBeCured (instr.Call i) w types = CanCall w i.ty i.first
CanBeCured (instr.Runtime i) w types = Unit {0}
CanBeCured (instr.If' t shape code shape' other) w types = (x : Option HeldType) → types t ≡ x → IsSome x
CanBeCured (instr.Block' shape code) w types = Unit {0}
CanBeCured (instr.Loop' shape code) w types = Unit {0}
CanBeCured (instr.Break n) w types = Unit {0}
CanBeCured instr.Return w types = Unit {0}
CanBeCured (instr.ReturnValue v t at) w types = CanReturn w t
