use Rattle.std.proofs.Common.{◌∙◌}
use Rattle.src_mem.specs.Runs.{planned}
use Rattle.cil_form.specs.Machine.{plan}
use Rattle.cure_tables.proofs.Pushing.{all_variables}
use Rattle.cure_tables.proofs.frames.variables.Goals as goal

pub returns : goal.returns
returns c =
    all_variables (λ p. planned p.type p.home) (λ p. record { type = p.ty; home = p.home }) plan c.args.function.now.parameters _ c.in_ok-all.all.items c.extend_from_slice.new.self.items
    c.args.function.now.locals _ c.in_ok-all.ensures (c.deref.ensures.value ∙ c.parameters.view_is) c.in_ok-extend_from_slice.ensures.items (c.deref-2.ensures.value ∙ c.locals.view_is)
