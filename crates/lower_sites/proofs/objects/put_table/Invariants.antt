use Rattle.std.proofs.Common.{◌≡◌, ◌++◌, flat_map, take}
use Rattle.c_types.specs.Table.{Entry}
use Rattle.kind_sites.specs.Solutions.{sites_of_shape}
use Rattle.lower_sites.proofs.objects.put_table.Given as goal

abbrev pub invariant-types : goal.invariant-types
invariant-types l = l.out.items ≡ l.fn.out.items ++ flat_map (λ (e : Entry). sites_of_shape e.shape) (take l.i l.types)
