use Rattle.check_insert.proofs.Laws.{grows_as, grows_puts}
use Rattle.cure_blocks.proofs.RuntimeLaws.{free_cured, getchar_cured, putchar_cured, exit_cured}
use Rattle.cure_blocks.proofs.runtime.put_runtime.Goals as goal

pub returns-in-Free : goal.returns-in-Free
returns-in-Free c k types = rw c.in-Free.is (grows_as _ _ _ _ _ (free_cured k types c.in-Free.into c.in-Free.pointer) c.keep.ensures)

pub returns-in-Getchar : goal.returns-in-Getchar
returns-in-Getchar c k types =
    rw c.in-Getchar.is (grows_as _ _ _ _ _ (getchar_cured k types c.in-Getchar.into) (rw c.column.ensures.value at c.put.ensures))

pub returns-in-Putchar : goal.returns-in-Putchar
returns-in-Putchar c k types =
    rw c.in-Putchar.is (grows_as _ _ _ _ _ (putchar_cured k types c.in-Putchar.into c.in-Putchar.value)
    (grows_puts _ _ _ _ _ (rw c.column-byte.ensures.value at c.put-in-Putchar.ensures)
    (rw (c.column-byte.ensures.value, c.column-in-Putchar.ensures.value) at c.put-in-Putchar-2.ensures)))

pub returns-in-Exit : goal.returns-in-Exit
returns-in-Exit c k types =
    rw c.in-Exit.is (grows_as _ _ _ _ _ (exit_cured k types c.in-Exit.into c.in-Exit.status) (rw c.column-in-Exit.ensures.value at c.put-in-Exit.ensures))
