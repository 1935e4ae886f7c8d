use Rattle.std.proofs.Common.{◌≡◌, ◌++◌, flat_map, take}
use Rattle.lower_sites.specs.Objects.{site_of_planned}
use Rattle.lower_sites.proofs.objects.put_locals.Given as goal

abbrev pub invariant-loop-one : goal.invariant-loop-one
invariant-loop-one l = l.out.items ≡ l.fn.out.items ++ flat_map site_of_planned (take l.one-index l.all)
