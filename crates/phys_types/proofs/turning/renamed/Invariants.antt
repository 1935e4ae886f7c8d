use Rattle.std.proofs.Common.{◌≡◌, take, flat_map}
use Rattle.std.specs.Prelude.{nat_eq}
use Rattle.indexmap.specs.IndexMap.{get}
use Rattle.phys_types.specs.Turning.{renamed_at}
use Rattle.phys_types.proofs.turning.renamed.Given as goal

abbrev pub invariant-told : goal.invariant-told
invariant-told l = l.renamed.items ≡ flat_map (renamed_at (get nat_eq l.keepers) l.numbers) (take l.e-index l.told)
