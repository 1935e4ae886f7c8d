use Rattle.c_build.proofs.Passes.{solved_so}
use Rattle.c_build.proofs.solving.solution.Goals as goal

pub returns-in-Ok : goal.returns-in-Ok
returns-in-Ok c =
    solved_so c.args.code.now c.in-Ok.list.items c.solve.result c.in-Ok.ensures.members c.in-Ok.ensures.solutions c.in-Ok.ensures.apart
    (rw (c.nodes.ensures, c.as_slice.ensures.value) at c.solve.ensures.kinds) (rw (c.nodes.ensures, c.as_slice.ensures.value) at c.solve.ensures.causes)
    (rw c.as_slice.ensures.value at c.solve.ensures.meets) (rw (c.nodes.ensures, c.as_slice.ensures.value) at c.solve.ensures.least)
