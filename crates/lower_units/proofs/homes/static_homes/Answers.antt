use Rattle.lower_units.specs.Heads.{homes_of_statics}
use Rattle.lower_units.proofs.Lists.{new_homes}
use Rattle.lower_units.proofs.homes.static_homes.Goals as goal

pub returns : goal.returns
returns c = new_homes _ (homes_of_statics c.args.statics.now) _ c.new-homes.ensures.empty c.in_ok-add_statics.ensures c.requires
