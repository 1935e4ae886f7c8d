use Rattle.std.proofs.Common.{ap, ◌∙◌}
use Rattle.c_typing.specs.Scopes.{entry_of, tag_in, or_outer}
use Rattle.c_typing.proofs.scope.Scope.tag.Goals as goal

pub returns-in-Some : goal.returns-in-Some
returns-in-Some c =
    ap (λ o. or_outer o (entry_of c.self.inside.file.tags c.args.name.now)) c.in-Some.ensures
    ∙ ap (λ s. tag_in s.scopes.levels c.args.name.now) c.self.view_is

pub returns-in-None : goal.returns-in-None
returns-in-None c =
    c.tag-in-None.ensures
    ∙ ap (λ o. or_outer o (entry_of c.self.inside.file.tags c.args.name.now)) c.in-None.ensures
    ∙ ap (λ s. tag_in s.scopes.levels c.args.name.now) c.self.view_is
