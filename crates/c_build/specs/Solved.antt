-- The kinds of a program in three-address code.
use Rattle.std.specs.Prelude.{◌≡◌, ◌<◌, List}
use Rattle.cc_base.specs.Kinds.{kind_at}
use Rattle.cc_base.specs.declared.kind.Kind.{Kind}
use Rattle.cc_base.specs.declared.kind.Kind.TheVariants.{Wild}
use Rattle.cc_base.specs.declared.number.NodeId.{NodeId}
use Rattle.cil_form.specs.declared.program.Program.{Program}
use Rattle.cil_form.specs.Told.{IsSolutionOf}
use Rattle.constraint_laws.specs.Given.{AreGiven}
use Rattle.kind_solver.specs.declared.constraint.Constraint.{Constraint}
use Rattle.kind_solver.specs.declared.solved.Solved.{Solved}
use Rattle.kind_solver.specs.Sets.{AreKinds, AreCauses}

-- Of the constraints that the program gives, these are the kinds and their causes. The kinds are a solution of the program, and every
-- solution has WILD wherever they have it.
pub record IsSolvedBy (p : Program) (s : Solved) : Type 0 where
  pub list : List Constraint
  pub given : AreGiven p.types p.sites list
  pub kinds : AreKinds list p.nodes s.kinds
  pub causes : AreCauses list p.nodes s.kinds s.causes
  pub solution : IsSolutionOf p (kind_at s.kinds)
  pub least : (kind : NodeId → Kind) → IsSolutionOf p kind → (n : NodeId) → n.0 < p.nodes → kind_at s.kinds n ≡ Wild → kind n ≡ Wild
