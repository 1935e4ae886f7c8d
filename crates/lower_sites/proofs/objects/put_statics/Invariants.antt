use Rattle.std.proofs.Common.{◌≡◌, ◌++◌, flat_map, take}
use Rattle.lower_sites.specs.Objects.{site_of_static}
use Rattle.lower_sites.proofs.objects.put_statics.Given as goal

abbrev pub invariant-loop-one : goal.invariant-loop-one
invariant-loop-one l = l.out.items ≡ l.fn.out.items ++ flat_map site_of_static (take l.one-index l.all)
