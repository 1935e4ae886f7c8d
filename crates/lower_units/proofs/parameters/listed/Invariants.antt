use Rattle.std.proofs.Common.{◌≡◌, map, take}
use Rattle.c_tree.specs.TypedViews.{parameters_seen}
use Rattle.c_tree.specs.TypedParts.{parameter_objects}
use Rattle.lower_units.specs.Heads.{taken_as}
use Rattle.lower_units.proofs.parameters.listed.Given as goal

-- the parameters so far
abbrev pub invariant-loop-one : goal.invariant-loop-one
invariant-loop-one l = map taken_as l.all.items ≡ parameter_objects (parameters_seen (take l.one-index l.parameters))
