use Rattle.std.proofs.Common.{◌≡◌, ◌++◌, length}
use Rattle.c_tree.proofs.literal.copied_pieces.Given as goal

abbrev pub invariant-pieces : goal.invariant-pieces
invariant-pieces l = l.pieces ≡ l.copy ++ l.rest

abbrev pub decreases-pieces : goal.decreases-pieces
decreases-pieces l = length l.rest
