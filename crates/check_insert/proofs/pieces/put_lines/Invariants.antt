use Rattle.std.proofs.Common.{map, take}
use Rattle.cured_code.specs.Straight.{instrs}
use Rattle.check_insert.specs.Drafts.{Grows}
use Rattle.check_forms.specs.Pieces.{Line}
use Rattle.check_insert.specs.Views.{straight_of}
use Rattle.check_insert.proofs.pieces.put_lines.Given as goal

abbrev pub invariant-loop-line : goal.invariant-loop-line
invariant-loop-line l = Grows (Line (instrs (map straight_of (take l.line-index l.lines)))) (Unit {0}) l.fn.out l.out
