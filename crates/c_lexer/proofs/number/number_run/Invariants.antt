use Rattle.std.proofs.Common.{◌≡◌, ◌+◌, drop}
use Rattle.c_lexer.specs.Reading.{number_run}
use Rattle.c_lexer.proofs.number.number_run.Given as goal

-- the run goes on from here as far as the rest says
abbrev pub invariant-loop-size : goal.invariant-loop-size
invariant-loop-size l = number_run l.fn.first l.text ≡ l.size + number_run l.previous (drop l.size l.text)
