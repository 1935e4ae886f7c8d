use Rattle.std.proofs.Common.{◌≡◌, ◌+◌, ◌≤◌, drop}
use Rattle.std.specs.List.{fold}
use Rattle.c_lexer.specs.Reading.{next_position}
use Rattle.c_lexer.proofs.position.Position.after.Given as goal

-- the bytes that are left go on from the position so far, which has moved by a line or a column a byte
abbrev pub invariant-loop-byte : goal.invariant-loop-byte
invariant-loop-byte l = record {
  goes_on : fold next_position l.fn.self l.bytes ≡ fold next_position l.position (drop l.byte-index l.bytes);
  line : l.position.place.line ≤ l.fn.self.place.line + l.byte-index;
  column : l.position.place.col ≤ l.fn.self.place.col + l.byte-index + 1;
}
