use Rattle.src_mem.proofs.CopiesRight.{decayed_right}
use Rattle.src_mem.proofs.PointersCopied.{all_copied}
use Rattle.src_mem.proofs.decays_and_copies_are_not_wrong.Goals as goal

pub returns-clause-decay : goal.returns-clause-decay
returns-clause-decay c = decayed_right

pub returns-clause-copying : goal.returns-clause-copying
returns-clause-copying c = all_copied
