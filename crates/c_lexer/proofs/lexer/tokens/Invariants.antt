use Rattle.std.proofs.Common.{length}
use Rattle.c_lexer.proofs.ReachedLaws.{Reached}
use Rattle.c_lexer.proofs.lexer.tokens.Given as goal

-- the text is cut as far as the rest
abbrev pub invariant-cutting : goal.invariant-cutting
invariant-cutting l = Reached l.text l.found.items l.rest l.position

abbrev pub decreases-cutting : goal.decreases-cutting
decreases-cutting l = length l.rest
