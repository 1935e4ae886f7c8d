use Rattle.std.proofs.Common.{◌≡◌, ◌≤◌, drop}
use Rattle.command_words.specs.Numbers.{digits_from}
use Rattle.command_words.proofs.numbers.number_of.Given as goal

-- the digits that are left, behind the number so far, spell what all of them do
abbrev pub invariant-loop-digit : goal.invariant-loop-digit
invariant-loop-digit l = record {
  rest : digits_from l.fn.most l.number (drop l.digit-index l.word) ≡ digits_from l.fn.most 0 l.word;
  small : l.number ≤ l.fn.most;
}
