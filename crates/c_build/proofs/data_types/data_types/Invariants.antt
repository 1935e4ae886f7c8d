use Rattle.std.proofs.Common.{◌≡◌}
use Rattle.c_build.proofs.DataTypes.{AreDataBelow}
use Rattle.c_build.proofs.data_types.data_types.Given as goal

abbrev pub invariant-types : goal.invariant-types
invariant-types l = AreDataBelow l.types l.number l.all.items
