use Rattle.std.proofs.Common.{refl, sym, ap, ◌∙◌, ◌∷◌}
use Rattle.c_typing.specs.Scopes.{entry_of, tag_here}
use Rattle.c_typing.proofs.ScopeLaws.{innermost-inner}
use Rattle.c_typing.proofs.scope.Scope.tag_here.Goals as goal

pub returns-in-Some : goal.returns-in-Some
returns-in-Some c =
    let last = c.in-Some.ensures.some in
    c.tag.ensures
    ∙ ap (λ l. entry_of l.tags c.args.name.now) (last.1 ∙ sym (innermost-inner c.self.inside.file c.self.inside.inner last.0))
    ∙ ap (λ s. tag_here s.scopes.levels c.args.name.now) c.self.view_is

pub returns-in-None : goal.returns-in-None
returns-in-None c =
    c.tag-in-None.ensures
    ∙ ap (λ ls. tag_here (c.self.inside.file ∷ ls) c.args.name.now) (sym (c.in-None.ensures.none refl))
    ∙ ap (λ s. tag_here s.scopes.levels c.args.name.now) c.self.view_is
