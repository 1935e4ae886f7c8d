use Rattle.std.proofs.Common.{[]}
use Rattle.cured_reading.specs.declared.code.Closing.TheVariants as closing
use Rattle.cured_reading.proofs.ExitLaws.{exit-passes}
use Rattle.cured_reading.proofs.ReadingLaws.{areas-read}
use Rattle.cured_reading.proofs.RefusalLaws.{read-on, refused-on}
use Rattle.cured_reading.proofs.reading.body.Goals as goal

pub returns-in_err-code-clause-refused : goal.returns-in_err-code-clause-refused
returns-in_err-code-clause-refused c =
    exit-passes c.from_residual-in_err-code.result _ _ c.from_residual-in_err-code.ensures.1
    (λ rest.
    refused-on _ _ _ _ _ _
    (areas-read c.args.names.now c.args.head.areas rest _ _ c.requires.areas (c.in_ok-areas.ensures.read (record { names = c.args.names.now; closing = closing.End }) rest))
    (c.in_err-code.ensures.refused [] rest))

pub returns-clause-read : goal.returns-clause-read
returns-clause-read c =
    λ rest.
    read-on _ _ _ _ _ _
    (areas-read c.args.names.now c.args.head.areas rest _ _ c.requires.areas (c.in_ok-areas.ensures.read (record { names = c.args.names.now; closing = closing.End }) rest))
    (c.in_ok-code.ensures.read [] rest)
