use Rattle.std.proofs.Common.{◌≡◌, length}
use Rattle.phys_types.specs.Numbers.{number_in, same_number}
use Rattle.phys_types.specs.Rounds.{AreShown}
use Rattle.phys_types.proofs.round.built.Given as goal

abbrev pub invariant-types : goal.invariant-types
invariant-types l = record {
  so_far : length l.layouts.items ≡ l.t-index;
  shown : AreShown l.types (same_number (number_in l.numbers)) l.order l.layouts.items;
}
