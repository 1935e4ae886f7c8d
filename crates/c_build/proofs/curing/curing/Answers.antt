use Rattle.std.proofs.Common.{◌∙◌, ap}
use Rattle.cc_base.specs.Kinds.{kind_at}
use Rattle.cil_form.specs.declared.program.Program.{Program}
use Rattle.c_build.proofs.CuringLaws.{are_types, members_of, targets_named, curing_so}
use Rattle.c_build.proofs.curing.curing.Goals as goal

pub make-requires-clause-used : goal.make-requires-clause-used
make-requires-clause-used c =
    rw c.deref.ensures.value (are_types c.program-program.result.now.types c.in_ok-used.used.items c.in_ok-used.ensures)

pub cure-requires-clause-targets : goal.cure-requires-clause-targets
cure-requires-clause-targets c =
    targets_named c.args.code.now (kind_at c.args.solved.now.kinds) c.in_ok-nodes.nodes c.program-program.ensures.in_shape
    (members_of c.args.code.now c.program-program.result.now c.in_ok-nodes.nodes.used c.deref.result.now c.in_ok-used.used.items
    c.program-program.ensures.same c.in_ok-nodes.ensures.used c.deref.ensures.value c.in_ok-used.ensures)
    c.parents-parents.ensures.nodes

pub returns : goal.returns
returns c =
    curing_so c.args.code.now c.args.solved.now c.in_ok-nodes.nodes c.cure.result
    (c.in_ok-nodes.ensures.table ∙ ap (λ (p : Program). p.types) c.program-program.ensures.same) c.in_ok-nodes.ensures.kinds
    (members_of c.args.code.now c.program-program.result.now c.in_ok-nodes.nodes.used c.deref.result.now c.in_ok-used.used.items
    c.program-program.ensures.same c.in_ok-nodes.ensures.used c.deref.ensures.value c.in_ok-used.ensures)
    c.parents-parents.ensures.nodes c.program-program.ensures.in_shape c.cure.ensures.curing
