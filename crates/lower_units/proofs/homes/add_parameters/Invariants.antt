use Rattle.std.proofs.Common.{◌≡◌, take}
use Rattle.indexmap.specs.IndexSet.{insert_all}
use Rattle.src_machine.specs.World.{same_node}
use Rattle.lower_units.specs.Heads.{homes_of_parameters}
use Rattle.lower_units.proofs.homes.add_parameters.Given as goal

abbrev pub invariant-loop-one : goal.invariant-loop-one
invariant-loop-one l = l.homes.keys ≡ insert_all same_node l.fn.homes.keys (homes_of_parameters (take l.one-index l.all))
