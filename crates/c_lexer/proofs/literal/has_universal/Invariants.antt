use Rattle.std.proofs.Common.{◌≡◌, length}
use Rattle.std.specs.List.{list_any}
use Rattle.c_lexer.specs.Literals.{characters, is_universal}
use Rattle.c_lexer.proofs.literal.has_universal.Given as goal

abbrev pub invariant-looking : goal.invariant-looking
invariant-looking l = list_any is_universal (characters 0 l.text) ≡ list_any is_universal (characters 0 l.rest)

abbrev pub decreases-looking : goal.decreases-looking
decreases-looking l = length l.rest
