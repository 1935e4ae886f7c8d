-- Where an instruction is in shape, its lines are cured code of it.
use Rattle.std.specs.Prelude.{◌≡◌, ◌⊎◌, Option, IsSome}
use Rattle.cc_base.specs.declared.kind.Kind.{Kind}
use Rattle.cc_base.specs.declared.kind.Kind.TheVariants.{Safe, Seq, Rtti, Wild}
use Rattle.cc_base.specs.declared.number.NodeId.{NodeId}
use Rattle.cc_base.specs.declared.number.TypeId.{TypeId}
use Rattle.c_types.specs.declared.shape.TypeShape.{TypeShape}
use Rattle.c_types.specs.declared.shape.TypeShape.TheVariants as shape
use Rattle.c_types.specs.Table.{IsType, shape_at}
use Rattle.c_types.specs.Sound.{IsWellFormed}
use Rattle.cil_form.specs.declared.number.Temp.{Temp}
use Rattle.cil_form.specs.declared.instr.Set.{Set}
use Rattle.cil_form.specs.declared.instr.Set.TheVariants as set
use Rattle.cil_form.specs.declared.instr.Calculate.{Calculate}
use Rattle.cil_form.specs.declared.instr.Calculate.TheVariants as calculate
use Rattle.cil_form.specs.declared.instr.Point.{Point}
use Rattle.cil_form.specs.declared.instr.Access.{Access}
use Rattle.cil_form.specs.Typing.{Context, HeldType, Typing, IsShapedSet, IsShapedCalculate, IsShapedPoint, IsShapedAccess}
use Rattle.check_forms.specs.Pieces.{Piece}
use Rattle.cure_rules.specs.Known.{Whole, World, known_of}
use Rattle.cure_instrs.specs.Lines.{HasInteger, AgreeOn}
use Rattle.cure_rules.specs.Setting.{IsCuringSet, IsCuringCalculate}
use Rattle.cure_rules.specs.Pointing.{IsCuringPoint}
use Rattle.cure_rules.specs.Accesses.{IsCuringAccess}

-- code that may name this is in the function
pub record IsIn (w : World) (k : Context) : Type 0 where
  pub formed : IsWellFormed w.whole.table
  pub table : k.table ≡ w.whole.table
  pub statics : k.statics ≡ w.whole.statics
  pub variables : k.variables ≡ w.variables

unfoldable pub SetCured : Set → World → Typing → Piece
SetCured i w types code = (k : Context) (after : Typing) → IsIn w k → IsShapedSet i k types after
    → IsCuringSet i w (known_of w.slots types) (known_of w.slots after) code

unfoldable pub CalculateCured : Calculate → World → Typing → Piece
CalculateCured i w types code = (k : Context) (after : Typing) → IsIn w k → IsShapedCalculate i k types after
    → IsCuringCalculate i w (known_of w.slots types) (known_of w.slots after) code

unfoldable pub PointCured : Point → World → Typing → Piece
PointCured i w types code = (k : Context) (after : Typing) → IsIn w k → IsShapedPoint i k types after
    → IsCuringPoint i w (known_of w.slots types) (known_of w.slots after) code

unfoldable pub AccessCured : Access → World → Typing → Piece
AccessCured i w types code = (k : Context) (after : Typing) → IsIn w k → IsShapedAccess i k types after
    → IsCuringAccess i w (known_of w.slots types) (known_of w.slots after) code

-- Which instructions have code

-- a home, and a function pointer, is SAFE or WILD
abbrev pub IsHome : Kind → Type 0
IsHome Safe = Unit {0}
IsHome Wild = Unit {0}
IsHome kind = ⊥

-- the node of a pointer's shape
abbrev pub node_at : TypeShape → NodeId
node_at (shape.Pointer n u) = n
node_at other = record { 0 = 0 }

abbrev pub kind_in : Whole → TypeId → Kind
kind_in w t = w.kind (node_at (shape_at w.table t))

abbrev pub CanSet : Set → Whole → Type 0
CanSet (set.Function into f t) w = IsHome (kind_in w t)
CanSet (set.Object into o home t) w = IsHome (w.kind home)
CanSet i w = Unit {0}

-- what the temporary holds that is copied
abbrev pub IsCopied : Set → Typing → Option HeldType → Type 0
IsCopied (set.Copy into from) types x = types from ≡ x
IsCopied i types x = Unit {0}

-- an operator of an integer type, and a truth value of a temporary of which it is known what it holds
abbrev pub CanCalculate : Calculate → Whole → Option HeldType → Type 0
CanCalculate (calculate.Negate into a t) w x = HasInteger w t
CanCalculate (calculate.Complement into a t) w x = HasInteger w t
CanCalculate (calculate.Binary into operator a b t at) w x = HasInteger w t
CanCalculate (calculate.Truth into a) w x = IsSome x
CanCalculate (calculate.Not into a) w x = IsSome x

-- what the temporary holds whose truth value is wanted
abbrev pub IsAsked : Calculate → Typing → Option HeldType → Type 0
IsAsked (calculate.Truth into a) types x = types a ≡ x
IsAsked (calculate.Not into a) types x = types a ≡ x
IsAsked i types x = Unit {0}

-- t is a pointer type
unfoldable pub HasPointer : Whole → TypeId → Type 0
HasPointer w t = (n : NodeId) × (u : TypeId) × IsType w.table t × (shape_at w.table t ≡ shape.Pointer n u)

unfoldable pub IsPointerAt : Whole → TypeId → NodeId → TypeId → Type 0
IsPointerAt w t n u = shape_at w.table t ≡ shape.Pointer n u

-- a scalar of type t may be reached by a pointer of node n: one of a WILD pointer's is no pointer of another kind
unfoldable pub CanReach : Whole → NodeId → TypeId → Type 0
CanReach w n t = (HasInteger w t ⊎ HasPointer w t) × ((m : NodeId) (u : TypeId) → IsPointerAt w t m u → AgreeOn (w.kind n) (w.kind m))
