use Rattle.std.proofs.Common.{◌≡◌, take}
use Rattle.kind_solver.specs.declared.constraint.Constraint.TheVariants.{Inside}
use Rattle.kind_constraints.specs.Adding.{Adds, OfSome}
use Rattle.kind_constraints.proofs.contents.add_inner.Given as goal

abbrev pub invariant-nodes : goal.invariant-nodes
invariant-nodes l = Adds (OfSome (take l.node-index l.nodes) (λ pair c. c ≡ Inside l.outer pair.0)) l.fn.list.items l.list.items
