use Rattle.std.proofs.Common.{refl, sym, ap, ◌∙◌, ◌∷◌}
use Rattle.c_typing.specs.Scopes.{entry_of, here}
use Rattle.c_typing.proofs.ScopeLaws.{innermost-inner}
use Rattle.c_typing.proofs.scope.Scope.here.Goals as goal

pub returns-in-Some : goal.returns-in-Some
returns-in-Some c =
    let last = c.in-Some.ensures.some in
    c.name.ensures
    ∙ ap (λ l. entry_of l.names c.args.name.now) (last.1 ∙ sym (innermost-inner c.self.inside.file c.self.inside.inner last.0))
    ∙ ap (λ s. here s.scopes.levels c.args.name.now) c.self.view_is

pub returns-in-None : goal.returns-in-None
returns-in-None c =
    c.name-in-None.ensures
    ∙ ap (λ ls. here (c.self.inside.file ∷ ls) c.args.name.now) (sym (c.in-None.ensures.none refl))
    ∙ ap (λ s. here s.scopes.levels c.args.name.now) c.self.view_is
