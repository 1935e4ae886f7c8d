-- What the text of `kinds` asks of what was built.
use Rattle.std.proofs.Common.{◌≡◌, ℕ, ◌<◌, ◌⊎◌, List, length, Option, Some, None, IsSome, Result, Ok, Err, IfOk, inl, inr, ◌∙◌, refl}
use Rattle.std.proofs.lemmas.List.Elements.{All-weaker}
use Rattle.cc_base.specs.Kinds.{kind_at}
use Rattle.cc_base.specs.declared.kind.Kind.{Kind}
use Rattle.cc_base.specs.declared.kind.Kind.TheVariants.{Safe}
use Rattle.c_tree.specs.TypedParts.{made_by_unit}
use Rattle.c_tree.specs.TypedStatementViews.{typed_unit_view}
use Rattle.c_tree.specs.declared.typed_unit.Typed.{Typed}
use Rattle.cil_form.specs.declared.program.Program.{Program}
use Rattle.kind_report.specs.Report.{AreWithin, HaveCauses, cause_at, report_of}
use Rattle.kind_solver.specs.declared.cause.Cause.{Cause}
use Rattle.kind_solver.specs.declared.constraint.Constraint.{Constraint}
use Rattle.kind_solver.specs.declared.solved.Solved.{Solved}
use Rattle.kind_solver.specs.Sets.{HasCause}
use Rattle.c_build.specs.Inferred.{IsInferred, HasKinds}
use Rattle.c_build.proofs.PrintedNodes.{printed_below}

module _ (text : List ℕ) (t : Typed) (p : Program) (s : Solved) (is : IsInferred text t p s) where
  within : (count : ℕ) → count ≡ p.nodes → AreWithin count t.printed
  within count same =
      printed_below (made_by_unit (typed_unit_view t.unit)) t.printed count is.typed.typed.numbered (same ∙ is.lowered.nodes ∙ is.counted) is.printed

  pub kinds_within : AreWithin (length s.kinds) t.printed
  kinds_within = within (length s.kinds) is.solved.kinds.len

  pub causes_within : AreWithin (length s.causes) t.printed
  causes_within = within (length s.causes) is.solved.causes.len

  has_cause : (list : List Constraint) (n : ℕ) (kind : Kind) (cause : Option Cause) → HasCause list n kind cause → (kind ≡ Safe) ⊎ IsSome cause
  has_cause list n kind None safe = inl safe
  has_cause list n kind (Some c) chain = inr refl

  pub have_causes : HaveCauses s.kinds s.causes t.printed
  have_causes =
      All-weaker (λ one. one.node.0 < p.nodes) (λ one. (kind_at s.kinds one.node ≡ Safe) ⊎ IsSome (cause_at s.causes one.node))
      (λ one lt. has_cause is.solved.list one.node.0 _ _ (is.solved.causes.each one.node lt)) t.printed (within p.nodes refl)

-- the lines that the report gives are those of the kinds
pub has_kinds : {A E : Type 0} (items : A → List ℕ) (t : Typed) (p : Program) (s : Solved) (r : Result A E)
    → IfOk r (λ lines. items lines ≡ report_of s.kinds s.causes t.printed)
    → IfOk r (λ lines. (text : List ℕ) → IsInferred text t p s → HasKinds text (items lines))
has_kinds items t p s (Err e) is = tt {0}
has_kinds items t p s (Ok lines) is = λ text inferred. record { typed = t; code = p; solved = s; inferred = inferred; lines_are = is }
