use Rattle.std.proofs.Common.{refl}
use Rattle.c_types.specs.Table.{shape_at}
use Rattle.src_mem.proofs.NotWrong.{read_right, write_right}
use Rattle.src_mem.proofs.reads_and_writes_are_not_wrong.Goals as goal

pub returns-clause-reading : goal.returns-clause-reading
returns-clause-reading c w sites place depth kind t p s sound scalar held = read_right w sites place depth kind t p s (shape_at w.table t) sound scalar refl held

pub returns-clause-writing : goal.returns-clause-writing
returns-clause-writing c w own assignment depth kind t p v s scalar held = write_right w own assignment depth kind t p v s (shape_at w.table t) scalar refl held
