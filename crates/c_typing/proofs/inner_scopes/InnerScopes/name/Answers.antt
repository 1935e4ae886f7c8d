use Rattle.std.proofs.Common.{ap, ◌∙◌}
use Rattle.named_lists.specs.Stacks.{top_of}
use Rattle.c_typing.specs.Scopes.{name_in}
use Rattle.c_typing.proofs.ScopeLaws.{name-on-top}
use Rattle.c_typing.proofs.inner_scopes.InnerScopes.name.Goals as goal

pub returns : goal.returns
returns c =
    c.top.ensures
    ∙ ap top_of (c.self.invariant.0 c.args.name.now)
    ∙ name-on-top c.self.inside.levels.items c.args.name.now
    ∙ ap (λ ls. name_in ls c.args.name.now) c.self.view_is
