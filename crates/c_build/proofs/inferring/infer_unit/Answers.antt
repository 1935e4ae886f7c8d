use Rattle.c_build.proofs.Passes.{lowered_so, kept_lowered}
use Rattle.c_build.proofs.inferring.infer_unit.Goals as goal

pub returns-clause-lowered : goal.returns-clause-lowered
returns-clause-lowered c =
    kept_lowered c.args.typed c.lower-code.result c.in_ok-lowered.lowered (c.in_ok-typed.typed, c.in_ok-typed.code)
    c.in_ok-lowered.ensures.made c.in_ok-typed.ensures.kept
    (lowered_so c.args.typed c.lower-code.result c.lower-code.ensures.code c.lower-code.ensures.types c.lower-code.ensures.nodes
    c.lower-code.ensures.sites c.lower-code.ensures.told c.lower-code.ensures.means)
