use Rattle.std.proofs.Common.{◌≤◌, length}
use Rattle.cure_tables.proofs.Statics.{AreZerosBehind}
use Rattle.cure_tables.proofs.globals.without_zeros.Given as goal

abbrev pub invariant-zeros : goal.invariant-zeros
invariant-zeros l = record {
  within : l.count ≤ length l.text;
  zeros : AreZerosBehind l.text l.count;
}

abbrev pub decreases-zeros : goal.decreases-zeros
decreases-zeros l = l.count
