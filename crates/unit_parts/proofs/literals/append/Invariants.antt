use Rattle.std.proofs.Common.{◌≡◌, ◌++◌, take}
use Rattle.unit_parts.specs.Collecting.{AreBytes}
use Rattle.unit_parts.proofs.literals.append.Given as goal

abbrev pub invariant-loop-byte : goal.invariant-loop-byte
invariant-loop-byte l = record {
  text : l.text.items ≡ l.fn.text.items ++ take l.byte-index l.bytes;
  bytes : AreBytes l.fn.text.items → AreBytes l.text.items;
}
