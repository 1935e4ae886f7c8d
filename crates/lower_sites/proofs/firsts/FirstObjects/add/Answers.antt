use Rattle.std.proofs.Common.{refl}
use Rattle.lower_sites.specs.HomeNames.{home_name}
use Rattle.lower_sites.proofs.NameLaws.{firsts_added, home_names}
use Rattle.lower_sites.proofs.firsts.FirstObjects.add.Goals as goal

pub returns : goal.returns
returns c =
    firsts_added home_name _ home_names c.self.inside.0.entries c.insert.new.self.entries c.args.home (home_name c.args.home)
    c.args.t c.args.self.now c.self.view_is refl c.in_ok-insert.ensures.entries c.requires
