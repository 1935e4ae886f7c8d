use Rattle.std.proofs.Common.{sym, subst, ◌∙◌, arith}
use Rattle.cc_base.specs.Kinds.{kind_at}
use Rattle.cil_form.specs.declared.program.Program.{Program}
use Rattle.cure_ready.specs.Curable.{HaveFewParameters}
use Rattle.rtti_nodes.specs.TypeNodes.{node_at}
use Rattle.sim_laws.proofs.Plain.{plain-alike}
use Rattle.cure_code.proofs.ProgramLaws.{cured_as, in_range_as}
use Rattle.cure_code.proofs.programs.cure.Goals as goal

pub cured_functions-requires-clause-few : goal.cured_functions-requires-clause-few
cured_functions-requires-clause-few c = subst (λ (p : Program). HaveFewParameters p.types) (sym c.program-program.ensures.same) c.requires.few

pub returns : goal.returns
returns c =
    let is =
    cured_as c.program-program.result.now c.args.code.now c.args.kinds.now c.numbers.result.now _ _ c.args.nodes.now.parents c.in_ok-t.t c.in_ok-functions.functions.items
    c.parts.result c.in-Some.cured c.program-program.ensures.same c.numbers.ensures
    (c.in_ok-parents.ensures.items ∙ c.deref.ensures.value ∙ c.parents.view_is ∙ c.parents-parents.ensures.same)
    c.in_ok-t.ensures c.in_ok-functions.ensures c.parts.ensures c.in-Some.ensures.value in
    record {
      curing = is;
      alike = λ plain.
          plain-alike c.args.code.now (kind_at c.args.kinds.now) (node_at c.args.nodes.now) c.args.nodes.now.parents c.in-Some.cured
          c.program-program.ensures.in_shape c.requires.told c.requires.solution plain is;
    }

-- the parts are in range
pub unreachable-requires : goal.unreachable-requires
unreachable-requires c =
    let few = c.parents-parents.ensures.nodes.few in
    let small = c.parents-parents.ensures.nodes.formed.small in
    absurd (cc (c.in-None.ensures.exact.1
    (in_range_as c.program-program.result.now c.args.code.now c.args.kinds.now c.numbers.result.now _ _ c.args.nodes.now.parents c.in_ok-t.t c.in_ok-functions.functions.items
    c.parts.result c.program-program.ensures.same c.numbers.ensures
    (c.in_ok-parents.ensures.items ∙ c.deref.ensures.value ∙ c.parents.view_is ∙ c.parents-parents.ensures.same)
    c.in_ok-t.ensures c.in_ok-functions.ensures c.parts.ensures c.program-program.ensures.in_shape c.requires.targets (omega (arith, few, small)) c.parents-parents.ensures.nodes.earlier)))
