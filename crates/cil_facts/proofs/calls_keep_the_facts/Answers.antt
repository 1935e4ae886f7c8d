use Rattle.std.proofs.Common.{sym, subst}
use Rattle.flat_mem.specs.Bytes.{AreBytes}
use Rattle.src_mem.specs.State.{bytes_of}
use Rattle.cil_facts.proofs.Calls.{call-keeps}
use Rattle.cil_facts.proofs.RuntimeCalls.{runtime-keeps}
use Rattle.cil_facts.proofs.calls_keep_the_facts.Goals as goal

pub returns-clause-functions : goal.returns-clause-functions
returns-clause-functions f i k a types after input c solved calls bytes reads shaped facts =
    call-keeps k a solved types after c facts i input calls reads shaped

pub returns-clause-runtime : goal.returns-clause-runtime
returns-clause-runtime f i k a types after input c solved calls bytes reads shaped facts =
    runtime-keeps k a solved types after c facts i (subst (λ x. AreBytes (bytes_of x)) (sym reads.same) bytes) shaped
