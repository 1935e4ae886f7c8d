use Rattle.std.proofs.Common.{ap, ◌∙◌}
use Rattle.c_typing.specs.Scopes.{with_scopes}
use Rattle.c_typing.proofs.ScopeLaws.{tag_set-new, on_ok}
use Rattle.c_typing.proofs.scope.Scope.declare_tag.Goals as goal

pub returns-clause-declared : goal.returns-clause-declared
returns-clause-declared c =
    on_ok _ _ c.set_tag.result
    (λ new. new ∙ ap (λ ls. with_scopes c.args.self.now (record c.args.self.now.scopes { levels = ls }))
    (tag_set-new c.args.name.now c.args.what c.args.self.now.scopes.levels c.requires))
    c.set_tag.ensures.declared
