-- The kinds of the nodes of a program, as a list that is read by nodes, and whether two kinds are the same.
use Rattle.std.specs.Prelude.{Bool, true, false, List, slice_index_or}
use Rattle.cc_base.specs.declared.kind.Kind.{Kind}
use Rattle.cc_base.specs.declared.kind.Kind.TheVariants.{Safe, Seq, Rtti, Wild}
use Rattle.cc_base.specs.declared.number.NodeId.{NodeId}

-- the kind of a node by a list of kinds; a node that isn't in it counts as SAFE
abbrev pub kind_at : List Kind → NodeId → Kind
kind_at kinds n = slice_index_or kinds n.0 Safe

abbrev pub same_kind : Kind → Kind → Bool
same_kind Safe Safe = true
same_kind Seq Seq = true
same_kind Rtti Rtti = true
same_kind Wild Wild = true
same_kind k l = false
