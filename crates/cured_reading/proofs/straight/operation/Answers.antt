use Rattle.std.proofs.Common.{append-nil}
use Rattle.cured_reading.proofs.ExitLaws.{exit-passes}
use Rattle.cured_reading.proofs.OperationLaws.{operation-text}
use Rattle.cured_reading.proofs.StraightLaws.{bad-as, operation-lacks, operation-more, operation-unkept, operation-told}
use Rattle.cured_reading.specs.Operations.{operation_name}
use Rattle.cured_reading.proofs.straight.operation.Goals as goal

pub returns-clause-spelled : goal.returns-clause-spelled
returns-clause-spelled c =
    let of = c.in_ok-operands.ensures.same in
    let read = rw (c.format.ensures, c.in_ok-end.ensures.ended, append-nil) at c.in_ok-wide.ensures.cut in
    rw c.made.ensures (operation-text c.args.of _ _ _ of.0 of.1 of.2 of.3 of.4 read)

pub returns-clause-line : goal.returns-clause-line
returns-clause-line c =
    let of = c.in_ok-operands.ensures.same in
    rw c.made.ensures
    (operation-told c.args.of _ _ c.format.ensures c.in_ok-wide.wide _ c.in_ok-wide.ensures.small c.in_ok-wide.ensures.cut c.in_ok-end.ensures.ended _ of.0
    of.1 of.2 of.3 of.4)

pub returns-in_err-wide-clause-bad : goal.returns-in_err-wide-clause-bad
returns-in_err-wide-clause-bad c =
    exit-passes c.from_residual.result _ _ c.from_residual.ensures.1
    (λ names few.
    bad-as names (operation_name c.args.of) _ _ _ c.in_err-wide.ensures.none.0
    (operation-lacks c.args.of names _ c.format.result c.format.ensures c.in_err-wide.ensures.none.1))

pub returns-in_err-end-clause-bad : goal.returns-in_err-end-clause-bad
returns-in_err-end-clause-bad c =
    exit-passes c.from_residual-in_err-end.result _ _ c.from_residual-in_err-end.ensures.1
    (λ names few.
    bad-as names (operation_name c.args.of) _ _ _ c.in_err-end.ensures.more.0
    (operation-more c.args.of names _ c.format.result c.format.ensures c.in_ok-wide.wide _ c.in_ok-wide.ensures.small c.in_ok-wide.ensures.cut
    c.in_ok-wide.ensures.ends c.in_err-end.ensures.more.1))

pub returns-in_err-operands-clause-bad : goal.returns-in_err-operands-clause-bad
returns-in_err-operands-clause-bad c =
    exit-passes c.from_residual-in_err-operands.result _ _ c.from_residual-in_err-operands.ensures.1
    (λ names few.
    bad-as names (operation_name c.args.of) _ _ _ c.in_err-operands.ensures.over.0
    (operation-unkept c.args.of names _ c.format.result c.format.ensures c.in_ok-wide.wide _ c.in_ok-wide.ensures.small c.in_ok-wide.ensures.cut
    c.in_ok-end.ensures.ended c.in_ok-wide.ensures.padded few c.in_err-operands.ensures.over.1))
