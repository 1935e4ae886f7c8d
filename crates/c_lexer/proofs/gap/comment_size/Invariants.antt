use Rattle.std.proofs.Common.{◌≡◌, ◌+◌, length}
use Rattle.c_lexer.specs.Reading.{comment_end}
use Rattle.c_lexer.proofs.gap.comment_size.Given as goal

abbrev pub invariant-passing : goal.invariant-passing
invariant-passing l = record {
  same : comment_end 2 l.text ≡ comment_end l.passed l.rest;
  counted : l.passed + length l.rest ≡ 2 + length l.text;
}

abbrev pub decreases-passing : goal.decreases-passing
decreases-passing l = length l.rest
