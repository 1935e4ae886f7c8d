use Rattle.std.proofs.Common.{ap, sym, subst, ◌∙◌, ◌+◌, map, arith}
use Rattle.cil_form.specs.Machine.{plan}
use Rattle.cure_rules.specs.Known.{Whole, World}
use Rattle.cure_scope.specs.Scopes.{world_of}
use Rattle.cure_calls.specs.Storing.{CanStoreAll}
use Rattle.cure_code.proofs.FunctionLaws.{curable_by, parameters_stored}
use Rattle.cure_code.proofs.functions.body_of.Goals as goal

pub code_in-code-requires-clause-stored : goal.code_in-code-requires-clause-stored
code_in-code-requires-clause-stored c =
    subst (λ (x : Whole). CanStoreAll x c.args.f.now.parameters) (sym (ap (λ (x : World). x.whole) c.scope-k.ensures.world))
    (parameters_stored c.args.w.now c.requires.set c.args.number c.args.f.now c.requires.function)

pub code_in-code-requires-clause-curable : goal.code_in-code-requires-clause-curable
code_in-code-requires-clause-curable c =
    curable_by c.args.w.now c.requires.set c.args.number c.args.f.now c.requires.function (world_of c.scope-k.result) (c.args.number + 1)
    (map plan c.args.variables.now) c.result_of.result c.words_of.result c.deref.result.now c.scope-k.ensures.world (omega arith)
    c.requires.variables c.result_of.ensures c.words_of.ensures.sum (c.deref.ensures.value ∙ c.parameters.view_is)
