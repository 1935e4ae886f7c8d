use Rattle.std.proofs.Common.{◌≡◌, length}
use Rattle.phys_types.proofs.readers.empty_lists.Given as goal

abbrev pub invariant-types : goal.invariant-types
invariant-types l = length l.lists.items ≡ l._type
