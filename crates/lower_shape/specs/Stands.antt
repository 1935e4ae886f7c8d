-- What code stands in, by what its tree stands in.
use Rattle.std.specs.Prelude.{◌≡◌, ℕ, ◌<◌, true, false, List, map, slice_get, Option, Some, IsSome, IsTrue}
use Rattle.std.specs.List.{Contains}
use Rattle.cc_base.specs.declared.number.NodeId.{NodeId}
use Rattle.cc_base.specs.declared.number.TypeId.{TypeId}
use Rattle.c_types.specs.declared.shape.TypeShape.TheVariants as shape
use Rattle.kind_sites.specs.declared.site.Site.{Site}
use Rattle.kind_sites.specs.declared.site.Site.TheVariants as site
use Rattle.c_types.specs.Table.{HasShape}
use Rattle.c_types.specs.Equality.{physically_equal}
use Rattle.c_types.specs.Sameness.{IsSameType}
use Rattle.c_tree.specs.declared.leaf.Identifier.{Identifier}
use Rattle.src_mem.specs.Memory.{Planned}
use Rattle.integers.specs.Arithmetic.{IntegerType, converted}
use Rattle.std.specs.Prelude.{pos}
use Rattle.src_machine.specs.Pieces.{Piece}
use Rattle.src_machine.specs.Sites.{sites_of_piece}
use Rattle.cil_form.specs.declared.number.Object.{Object}
use Rattle.cil_form.specs.Sites.{Each, AreAmong}
use Rattle.cil_form.specs.Typing as code
use Rattle.cil_form.specs.Typing.{Typing, IsObject, ArePhysicallyEqual, AreDeclaredAlike, no_types}
use Rattle.lower_rules.specs.Words as lowered
use Rattle.lower_rules.specs.Words.{object_in}
use Rattle.c_ready.specs.Ready.{Stage, IsObjectOf, IsLiteral, IsFunctionNamed}

-- what code may name beside its table
pub record Frame : Type 0 where
  pub sites : List Site
  pub statics : List Planned
  pub variables : List Planned
  pub functions : List TypeId
  pub result : Option TypeId

-- what code stands in, inside so many blocks
abbrev pub stand : Stage → Frame → ℕ → Typing → code.Context
stand s f blocks kept = record {
  table = s.table;
  nodes = s.nodes;
  sites = f.sites;
  statics = f.statics;
  variables = f.variables;
  functions = f.functions;
  result = f.result;
  blocks = blocks;
  kept = kept;
}

-- what the code of the tree depends on
abbrev pub low : Stage → Frame → lowered.Context
low s f = record { table = s.table; statics = map (λ o. o.node) f.statics; variables = map (λ o. o.node) f.variables }

-- what the tree's stage says holds of the code's
pub record Knows (s : Stage) (f : Frame) : Type 0 where
  pub runs : s.runs ≡ true
  pub calls : s.calls ≡ true → IsSome f.result
  pub objects : (o : Object) (home : NodeId) (t : TypeId) → object_in (low s f) home ≡ Some o → IsObjectOf true s home t
      → IsObject (stand s f 0 no_types) o home t
  pub literals : (o : Object) (home : NodeId) (t : TypeId) → object_in (low s f) home ≡ Some o → IsLiteral s home t
      → IsObject (stand s f 0 no_types) o home t
  pub functions : (name : Identifier) (number : ℕ) (n : NodeId) (t : TypeId) (named : IsFunctionNamed s name number n t)
      → (v : TypeId) × (slice_get f.functions number ≡ Some v) × ArePhysicallyEqual (stand s f 0 no_types) named.function v
      × AreDeclaredAlike f.sites named.function v
  -- what two pointers point to is physically equal where it is the same type
  pub same : (a b : TypeId) (m n : NodeId) (t u : TypeId) → HasShape s.table a (shape.Pointer m t) → HasShape s.table b (shape.Pointer n u)
      → IsSameType s.table t u → IsTrue (physically_equal s.table t u)
  pub nodes : (t : TypeId) (n : NodeId) (u : TypeId) → HasShape s.table t (shape.Pointer n u) → n.0 < s.nodes
  -- the table begins with the basic types
  pub basic : HasShape s.table (record { 0 = 5 }) (shape.Integer 4 true)
  pub long : HasShape s.table (record { 0 = 8 }) (shape.Integer 8 false)
  -- 1 fits each integer type: none is of no bytes
  pub ones : (t : TypeId) (i : IntegerType) → HasShape s.table t (shape.Integer i.bytes i.signed) → converted i (pos 1) ≡ pos 1
  pub pointees : (t : TypeId) (n : NodeId) (u : TypeId) → HasShape s.table t (shape.Pointer n u) → Contains f.sites (site.Pointee n u)

-- all sites of the pieces are the program's
abbrev pub Told : Stage → Frame → List Piece → Type 0
Told s f pieces = Each (λ piece. AreAmong f.sites (sites_of_piece s.table piece)) pieces
