-- What each pass leaves of the ones before it.
use Rattle.std.proofs.Common.{◌≡◌, ◌↔◌, ℕ, List, Result, Ok, Err, IfOk, length, sym, subst}
use Rattle.cc_base.specs.declared.fault.Fault.{Fault}
use Rattle.cc_base.specs.declared.fault.NoMemory.{NoMemory}
use Rattle.cc_base.specs.Kinds.{kind_at}
use Rattle.cc_base.specs.declared.kind.Kind.{Kind}
use Rattle.cc_base.specs.declared.number.NodeId.{NodeId}
use Rattle.runs.specs.Input.{Input}
use Rattle.c_tree.specs.TypedParts.{made_by_unit, nodes_made}
use Rattle.c_tree.specs.TypedStatementViews.{typed_unit_view}
use Rattle.c_tree.specs.declared.typed_unit.Typed.{Typed}
use Rattle.c_printed.specs.Printing.{AreInOrder, HasPrinted}
use Rattle.src_machine.specs.Machine.{source_run}
use Rattle.src_machine.specs.Sites.{sites_of}
use Rattle.cil_form.specs.declared.program.Program.{Program}
use Rattle.cil_form.specs.Machine.{code_run}
use Rattle.cil_form.specs.Told.{IsSolutionOf, IsToldOf}
use Rattle.lower_rules.specs.Units.{IsCodeOfUnit}
use Rattle.constraint_laws.specs.Given.{AreGiven}
use Rattle.kind_solver.specs.declared.constraint.Constraint.{Constraint}
use Rattle.kind_solver.specs.declared.solved.Solved.{Solved}
use Rattle.kind_solver.specs.Constraints.{MeetsAll, PlainApart}
use Rattle.kind_solver.specs.Sets.{AreKinds, AreCauses, HasLeastWild}
use Rattle.c_front.specs.Accepted.{IsTypedText}
use Rattle.c_build.specs.declared.inferring.Inferred.{Inferred}
use Rattle.c_build.specs.Inferred.{IsLowered, IsInferred}
use Rattle.c_build.specs.Solved.{IsSolvedBy}

pub solved_so : (p : Program) (list : List Constraint) (r : Result Solved NoMemory) → AreGiven p.types p.sites list
    → ((kind : NodeId → Kind) → MeetsAll kind list ↔ IsSolutionOf p kind) → PlainApart list
    → IfOk r (λ s. AreKinds list p.nodes s.kinds) → IfOk r (λ s. AreCauses list p.nodes s.kinds s.causes)
    → (PlainApart list → IfOk r (λ s. MeetsAll (kind_at s.kinds) list)) → IfOk r (λ s. HasLeastWild list p.nodes s.kinds)
    → IfOk r (λ s. IsSolvedBy p s)
solved_so p list (Err want) given solutions apart kinds causes meets least = tt {0}
solved_so p list (Ok s) given solutions apart kinds causes meets least = record {
  list = list;
  given = given;
  kinds = kinds;
  causes = causes;
  solution = (solutions (kind_at s.kinds)).0 (meets apart);
  least = λ kind is n lt wild. least kind ((solutions kind).1 is) n lt wild;
}

-- what is so of what was made is so of what stands beside what was kept
pub made_so : {U E : Type 0} (P : U → Type 0) (made : Result U E) (u : U) → made ≡ Ok u → IfOk made P → P u
made_so P made u same is = subst (λ r. IfOk r P) same is

pub lowered_so : (t : Typed) (r : Result Program NoMemory) → IfOk r (IsCodeOfUnit (typed_unit_view t.unit)) → IfOk r (λ p. p.types ≡ t.types)
    → IfOk r (λ p. p.nodes ≡ t.nodes) → IfOk r (λ p. p.sites ≡ sites_of (typed_unit_view t.unit) t.types) → IfOk r IsToldOf
    → IfOk r (λ p. (kind : NodeId → Kind) (input : Input) (turns : ℕ) → code_run p kind input turns ≡ source_run (typed_unit_view t.unit) t.types kind input turns)
    → IfOk r (IsLowered t)
lowered_so t (Err want) code types nodes sites told means = tt {0}
lowered_so t (Ok p) code types nodes sites told means =
    record { code = code; types = types; nodes = nodes; sites = sites; told = told; means = means }

-- it is still so where both are kept beside what is made next
pub kept_lowered : (t : Typed) (made : Result Program NoMemory) (first both : Typed × Program) → made ≡ Ok first.1 → both ≡ first
    → IfOk made (IsLowered t) → IsLowered t both.1
kept_lowered t made first both ok same is =
    subst (λ (z : Typed × Program). IsLowered t z.1) (sym same) (made_so (IsLowered t) made first.1 ok is)

pub inferred_so : (text : List ℕ) (t : Typed) (r : Result Inferred Fault) → IsTypedText text t.types (typed_unit_view t.unit)
    → t.nodes ≡ length (nodes_made (made_by_unit (typed_unit_view t.unit))) → HasPrinted (typed_unit_view t.unit) t.printed → AreInOrder t.printed
    → IfOk r (λ i. i.typed ≡ t) → IfOk r (λ i. IsLowered t i.code) → IfOk r (λ i. IsSolvedBy i.code i.solved)
    → IfOk r (λ i. IsInferred text i.typed i.code i.solved)
inferred_so text t (Err f) typed counted printed ordered same lowered solved = tt {0}
inferred_so text t (Ok i) typed counted printed ordered same lowered solved =
    subst (λ u. IsInferred text u i.code i.solved) (sym same)
    (record { typed = typed; counted = counted; printed = printed; ordered = ordered; lowered = lowered; solved = solved })
