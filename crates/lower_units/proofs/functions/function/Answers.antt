use Rattle.lower_units.specs.Heads.{function_seen}
use Rattle.lower_units.proofs.HeadLaws.{body_has_code, code_of_function, variables_apart}
use Rattle.lower_units.proofs.functions.function.Goals as goal

pub variable_homes-requires : goal.variable_homes-requires
variable_homes-requires c = rw (c.as_slice.ensures.value, c.as_slice-2.ensures.value, c.parameters.view_is, c.locals.view_is)
    (variables_apart _ _ (function_seen c.args.f.now) c.in_ok-parameters.parameters c.in_ok-locals.locals c.in_ok-parameters.ensures
    (rw c.as_slice-body.ensures at c.in_ok-locals.ensures) c.requires)

pub body_of-code-requires : goal.body_of-code-requires
body_of-code-requires c = rw c.as_slice-body.ensures (body_has_code _ _ (function_seen c.args.f.now) c.in_ok-parameters.parameters c.in_ok-locals.locals
    c.in_ok-variables.variables.keys c.in_ok-parameters.ensures (rw c.as_slice-body.ensures at c.in_ok-locals.ensures)
    (rw (c.as_slice.ensures.value, c.as_slice-2.ensures.value, c.parameters.view_is, c.locals.view_is) at c.in_ok-variables.ensures) c.requires)

pub returns : goal.returns
returns c = code_of_function _ _ (function_seen c.args.f.now) _ _ c.declared_type.ensures c.in_ok-parameters.ensures
    (rw c.as_slice-body.ensures at c.in_ok-locals.ensures) (rw (c.as_slice.ensures.value, c.as_slice-2.ensures.value, c.parameters.view_is, c.locals.view_is) at c.in_ok-variables.ensures)
    (rw c.as_slice-body.ensures at c.in_ok-body.ensures)
