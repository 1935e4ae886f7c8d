use Rattle.std.proofs.Common.{◌≡◌, ◌++◌, length}
use Rattle.c_tree.proofs.literal.pieces_bytes.Given as goal
use Rattle.c_tree.specs.Literals.{pieces_bytes}

abbrev pub invariant-pieces : goal.invariant-pieces
invariant-pieces l = pieces_bytes l.pieces ≡ l.bytes.items ++ pieces_bytes l.rest

abbrev pub decreases-pieces : goal.decreases-pieces
decreases-pieces l = length l.rest
