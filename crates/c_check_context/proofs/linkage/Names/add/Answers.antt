use Rattle.std.proofs.Common.{refl}
use Rattle.c_check_context.proofs.LinkageLaws.{names-added}
use Rattle.c_check_context.proofs.linkage.Names.add.Goals as goal

pub returns : goal.returns
returns c =
    names-added (λ k. k.items) _ (λ k x. refl) c.self.inside.0.keys c.insert.new.self.keys c.in_ok-key.key c.args.name.now
    c.args.self.now c.self.view_is c.in_ok-key.ensures.items c.in_ok-insert.ensures.keys
