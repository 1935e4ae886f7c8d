use Rattle.cure_scope.proofs.Laws.{grows_row}
use Rattle.cure_blocks.proofs.ConvertLaws.{grows_sides}
use Rattle.cure_blocks.proofs.allocating.put_block_words.Goals as goal

pub returns-in-Seq : goal.returns-in-Seq
returns-in-Seq c =
    rw c.in-Seq.is (grows_row _ _ _ _ _
    (grows_sides _ _ _ _ _ _ _ _ _ c.choose.ensures c.put-in-Seq.ensures c.start-made.ensures c.put-in-Seq-2.ensures c.start-none.ensures)
    c.put_lines-in-Seq.ensures)
