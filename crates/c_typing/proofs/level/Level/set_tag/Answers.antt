use Rattle.std.proofs.Common.{refl}
use Rattle.c_typing.proofs.ScopeLaws.{tags-set}
use Rattle.c_typing.proofs.level.Level.set_tag.Goals as goal

pub returns-clause-declared : goal.returns-clause-declared
returns-clause-declared c =
    tags-set (λ k. k.items) _ (λ k x. refl) c.self.inside.tags.entries c.insert.new.self.entries _ c.in_ok-key.key c.args.name.now
    c.args.what c.args.self.now c.self.view_is c.in_ok-key.ensures.items c.in_ok-insert.ensures.entries
