use Rattle.std.proofs.Common.{◌≡◌, take}
use Rattle.std.specs.List.{Contains}
use Rattle.kind_solver.specs.declared.constraint.Constraint.TheVariants.{Force}
use Rattle.kind_solver.specs.declared.constraint.Why.TheVariants.{Union}
use Rattle.kind_constraints.specs.Adding.{Adds, OfSome}
use Rattle.kind_constraints.proofs.contents.add_forces.Given as goal

abbrev pub invariant-unions : goal.invariant-unions
invariant-unions l = Adds (OfSome (take l.union-index l.unions) (λ union c. Contains l.mixed union.0 × (c ≡ Force l.node Union union.1))) l.fn.list.items l.list.items
