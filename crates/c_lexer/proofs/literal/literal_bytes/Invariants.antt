use Rattle.std.proofs.Common.{◌≡◌, ◌++◌, length}
use Rattle.std.specs.List.{flat_map}
use Rattle.c_lexer.specs.Literals.{characters, bytes_of, literal_bytes}
use Rattle.c_lexer.proofs.literal.literal_bytes.Given as goal

-- the bytes so far, and those of the rest
abbrev pub invariant-reading : goal.invariant-reading
invariant-reading l = literal_bytes l.literal ≡ l.bytes.items ++ flat_map bytes_of (characters 0 l.rest)

abbrev pub decreases-reading : goal.decreases-reading
decreases-reading l = length l.rest
