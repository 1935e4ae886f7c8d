use Rattle.cure_instrs.proofs.PieceLaws.{line_more}
use Rattle.cure_points.proofs.parts.put_part.Goals as goal

pub returns-in-Seq : goal.returns-in-Seq
returns-in-Seq c = rw c.in-Seq.is (line_more _ _ _ _ _ c.put-in-Seq.ensures c.put_three.ensures)
