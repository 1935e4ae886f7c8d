use Rattle.std.proofs.Common.{◌≡◌, ◌+◌, length, take, drop}
use Rattle.c_types.specs.Equality.{made_alike}
use Rattle.phys_types.specs.Numbers.{number_in, same_number}
use Rattle.phys_types.specs.Rounds.{first_place}
use Rattle.phys_types.proofs.round.first_alike.Given as goal

abbrev pub invariant-loop-i : goal.invariant-loop-i
invariant-loop-i l =
    l.i + first_place (λ u. made_alike l.types (same_number (number_in l.numbers)) u l.t) (drop l.i (take (length l.layouts) l.order))
    ≡ first_place (λ u. made_alike l.types (same_number (number_in l.numbers)) u l.t) (take (length l.layouts) l.order)
