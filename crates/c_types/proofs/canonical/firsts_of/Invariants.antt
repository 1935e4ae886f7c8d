use Rattle.std.proofs.Common.{◌≡◌, take, map}
use Rattle.c_types.specs.Kept.{firsts_of, first_at}
use Rattle.c_types.proofs.canonical.firsts_of.Given as goal

abbrev pub invariant-types : goal.invariant-types
invariant-types l = l.firsts.items ≡ map (first_at (firsts_of l.entries.entries)) (take l.t-index l.list)
