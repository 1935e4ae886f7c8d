-- A built program runs as its source, where its kinds make it plain.
use Rattle.std.proofs.Common.{List, ℕ, Result, Ok, Err, IfOk, sym, subst}
use Rattle.cc_base.specs.Kinds.{kind_at}
use Rattle.cc_base.specs.declared.fault.Fault.{Fault}
use Rattle.c_types.specs.Table.{Table}
use Rattle.c_tree.specs.TypedStatementViews.{typed_unit_view}
use Rattle.c_ready.specs.Ready.{IsReadyUnit}
use Rattle.c_ready.proofs.ReadyUnit.{well-typed-ready}
use Rattle.cil_form.specs.Machine.{setting_of}
use Rattle.rtti_nodes.specs.TypeNodes.{node_at}
use Rattle.cured_code.specs.FlatMachine.{flat_run}
use Rattle.sim_relation.specs.Outcomes.{RunAlike}
use Rattle.units_are_safe.proofs.Units.{unit-spares}
use Rattle.sim_laws.proofs.Plain.{plain-alike}
use Rattle.sim_laws.proofs.PlainKinds.{programs-plain}
use Rattle.c_build.specs.declared.building.Built.{Built}
use Rattle.c_build.specs.Alike.{RunsAlikeIfPlain, BuiltProgramsRunAlike, PlainKindsRunAlike}
use Rattle.c_build.specs.Built.{IsBuilt}

pub built_alike : BuiltProgramsRunAlike
built_alike text t p s c built is plain =
    let kind = kind_at s.kinds in
    let number_of = node_at is.nodes in
    λ input turns bytes.
    subst (λ o. RunAlike (setting_of p kind) number_of o (flat_run c input turns)) (built.inferred.lowered.means kind input turns)
    (plain-alike p kind number_of is.nodes.parents c is.in_shape built.inferred.lowered.told built.inferred.solved.solution plain is.cured input turns
    bytes)

-- a program whose nodes are SAFE or SEQ is plain: its unit converts no pointer to an integer
pub kinds_alike : PlainKindsRunAlike
kinds_alike text t p s c built is kinds =
    built_alike text t p s c built is (programs-plain p (kind_at s.kinds) is.in_shape (record {
      kinds = kinds;
      numbers = unit-spares (typed_unit_view t.unit) p
          (subst (λ (T : Table). IsReadyUnit T (typed_unit_view t.unit)) (sym built.inferred.lowered.types)
          (well-typed-ready t.types (typed_unit_view t.unit) built.inferred.typed.typed)) built.inferred.lowered.code;
    }))

pub alike_so : (text : List ℕ) (r : Result Built Fault) → IfOk r (λ b. IsBuilt text b.typed b.code b.solved b.cured)
    → IfOk r (λ b. RunsAlikeIfPlain b.typed b.code b.solved b.cured)
alike_so text (Err fault) built = tt {0}
alike_so text (Ok b) built = built_alike text b.typed b.code b.solved b.cured built
