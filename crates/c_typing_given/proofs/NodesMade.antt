-- Each thing that judging makes has one node at most.
use Rattle.std.proofs.Common.{◌≤◌, List, [], ◌∷◌, length, arith}
use Rattle.cc_base.specs.declared.number.TypeId.{TypeId}
use Rattle.c_tree.specs.declared.leaf.Identifier.{Identifier}
use Rattle.c_tree.specs.declared.typed_word.Home.{Home}
use Rattle.c_tree.specs.declared.typed_word.Home.TheVariants as home
use Rattle.c_tree.specs.TypedParts.{Made, Written, Name, Literal, Address, Copy}
use Rattle.c_typing_given.specs.Spending.{node_cost, total}

name-node : (name : Identifier) (h : Home) (t : TypeId) → node_cost (Name name h t) ≤ 1
name-node name home.None t = omega arith
name-node name (home.Static n) t = omega arith
name-node name (home.Local n) t = omega arith
name-node name (home.Parameter n) t = omega arith
name-node name (home.Known n) t = omega arith

one-node : (m : Made) → node_cost m ≤ 1
one-node (Written at n) = omega arith
one-node (Name name h t) = name-node name h t
one-node (Literal pieces n t) = omega arith
one-node (Address n) = omega arith
one-node (Copy t) = omega arith

pub nodes-few : (made : List Made) → total node_cost made ≤ length made
nodes-few [] = omega arith
nodes-few (m ∷ made) = let one = one-node m in let rest = nodes-few made in omega (arith, one, rest)
