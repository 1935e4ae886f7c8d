use Rattle.std.proofs.Common.{refl}
use Rattle.c_check_context.proofs.LinkageLaws.{declarations-added}
use Rattle.c_check_context.proofs.linkage.FirstDeclarations.add.Goals as goal

pub returns : goal.returns
returns c =
    declarations-added (λ k. k.items) _ (λ k x. refl) c.self.inside.0.entries c.insert.new.self.entries c.in_ok-key.key c.args.name.now
    c.args.what c.args.self.now c.self.view_is c.in_ok-key.ensures.items c.in_ok-insert.ensures.entries c.requires
