use Rattle.std.proofs.Common.{ap, sym, ◌∙◌, bytes_eq}
use Rattle.c_typing.specs.Scopes.{place_among}
use Rattle.c_typing.proofs.ScopeLaws.{position-map}
use Rattle.c_typing.proofs.member.MemberNames.place.Goals as goal

pub returns : goal.returns
returns c =
    c.get_index_of.ensures.index
    ∙ sym (position-map (λ k. k.items) (bytes_eq c.args.name.now) c.self.inside.0.keys)
    ∙ ap (λ names. place_among names c.args.name.now) c.self.view_is
