use Rattle.std.proofs.Common.{refl}
use Rattle.c_typing.proofs.ScopeLaws.{names-pushed}
use Rattle.c_typing.proofs.member.MemberNames.push.Goals as goal

pub returns-clause-pushed : goal.returns-clause-pushed
returns-clause-pushed c =
    names-pushed (λ k. k.items) _ (λ k x. refl) c.self.inside.0.keys c.insert.new.self.keys c.in_ok-name.name c.args.name.now
    c.args.self.now c.self.view_is c.in_ok-name.ensures.items (c.in_ok-insert.ensures.keys) c.requires
