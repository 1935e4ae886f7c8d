use Rattle.std.proofs.Common.{ap, ◌∙◌}
use Rattle.c_typing.specs.Scopes.{entry_of, name_in, or_outer}
use Rattle.c_typing.proofs.scope.Scope.name.Goals as goal

pub returns-in-Some : goal.returns-in-Some
returns-in-Some c =
    ap (λ o. or_outer o (entry_of c.self.inside.file.names c.args.name.now)) c.in-Some.ensures
    ∙ ap (λ s. name_in s.scopes.levels c.args.name.now) c.self.view_is

pub returns-in-None : goal.returns-in-None
returns-in-None c =
    c.name-in-None.ensures
    ∙ ap (λ o. or_outer o (entry_of c.self.inside.file.names c.args.name.now)) c.in-None.ensures
    ∙ ap (λ s. name_in s.scopes.levels c.args.name.now) c.self.view_is
