use Rattle.std.proofs.Common.{ap, sym, ◌∙◌, bytes_eq}
use Rattle.c_unit_typing.specs.Units.{is_one_of}
use Rattle.c_check_context.proofs.LinkageLaws.{any-map}
use Rattle.c_check_context.proofs.linkage.Names.has.Goals as goal

pub returns : goal.returns
returns c =
    c.contains.ensures
    ∙ sym (any-map (λ k. k.items) (bytes_eq c.args.name.now) c.self.inside.0.keys)
    ∙ ap (λ ns. is_one_of ns c.args.name.now) c.self.view_is
