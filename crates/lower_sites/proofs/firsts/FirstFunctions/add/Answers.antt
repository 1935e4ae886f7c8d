use Rattle.std.proofs.Common.{refl}
use Rattle.lower_sites.proofs.NameLaws.{firsts_added}
use Rattle.lower_sites.proofs.firsts.FirstFunctions.add.Goals as goal

pub returns : goal.returns
returns c =
    firsts_added (λ k. k.items) _ (λ k x. refl) c.self.inside.0.entries c.insert.new.self.entries c.in_ok-key.key c.args.name.now
    c.args.t c.args.self.now c.self.view_is c.in_ok-key.ensures.items c.in_ok-insert.ensures.entries c.requires
