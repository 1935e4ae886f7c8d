use Rattle.lower_units.specs.Heads.{homes_of_parameters, homes_of_planned}
use Rattle.lower_units.proofs.Lists.{new_homes_behind}
use Rattle.lower_units.proofs.homes.variable_homes.Goals as goal

pub returns : goal.returns
returns c = new_homes_behind _ (homes_of_parameters c.args.parameters.now) (homes_of_planned c.args.locals.now) _ _ c.new-homes.ensures.empty
    c.in_ok-add_parameters.ensures c.in_ok-add_planned.ensures c.requires
