use Rattle.std.proofs.Common.{ap, ◌∙◌}
use Rattle.named_lists.specs.Stacks.{top_of}
use Rattle.c_typing.specs.Scopes.{tag_in}
use Rattle.c_typing.proofs.ScopeLaws.{tag-on-top}
use Rattle.c_typing.proofs.inner_scopes.InnerScopes.tag.Goals as goal

pub returns : goal.returns
returns c =
    c.top.ensures
    ∙ ap top_of (c.self.invariant.1 c.args.name.now)
    ∙ tag-on-top c.self.inside.levels.items c.args.name.now
    ∙ ap (λ ls. tag_in ls c.args.name.now) c.self.view_is
