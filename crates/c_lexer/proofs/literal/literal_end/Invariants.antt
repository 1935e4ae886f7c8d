use Rattle.std.proofs.Common.{◌≡◌, ◌+◌, drop, false}
use Rattle.c_lexer.specs.Reading.{literal_end}
use Rattle.c_lexer.proofs.literal.literal_end.Given as goal

abbrev pub invariant-loop-passed : goal.invariant-loop-passed
invariant-loop-passed l = literal_end l.quote 1 false l.text ≡ literal_end l.quote (l.passed + 1) l.is_escaped (drop l.passed l.text)
