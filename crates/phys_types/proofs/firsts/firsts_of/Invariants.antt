use Rattle.std.specs.Prelude.{nat_eq}
use Rattle.indexmap.specs.IndexMap.{get}
use Rattle.phys_types.specs.Numbers.{number_in}
use Rattle.phys_types.proofs.FirstEquals.{AreFirsts}
use Rattle.phys_types.proofs.firsts.firsts_of.Given as goal

abbrev pub invariant-types : goal.invariant-types
invariant-types l = AreFirsts (number_in l.numbers) (get nat_eq l.kept) l.firsts.items l.t
