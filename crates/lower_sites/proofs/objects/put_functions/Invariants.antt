use Rattle.std.proofs.Common.{◌≡◌, ◌++◌, flat_map, take}
use Rattle.lower_sites.specs.Objects.{sites_of_function}
use Rattle.lower_sites.proofs.objects.put_functions.Given as goal

abbrev pub invariant-loop-one : goal.invariant-loop-one
invariant-loop-one l = l.out.items ≡ l.fn.out.items ++ flat_map sites_of_function (take l.one-index l.all)
