use Rattle.std.proofs.Common.{ap, sym, ◌∙◌, bytes_eq}
use Rattle.c_typing.specs.Scopes.{place_among}
use Rattle.c_typing.proofs.ScopeLaws.{position-map}
use Rattle.c_typing.proofs.scope.Scope.function.Goals as goal

pub returns : goal.returns
returns c =
    c.get_index_of.ensures.index
    ∙ sym (position-map (λ k. k.items) (bytes_eq c.args.name.now) c.self.inside.defined.keys)
    ∙ ap (λ s. place_among s.scopes.defined c.args.name.now) c.self.view_is
