use Rattle.std.proofs.Common.{inl, inr, ap, Err}
use Rattle.c_tree.specs.StatementViews.{unit_view}
use Rattle.c_parser.proofs.UnitCall.{cut_written, unit_right, unit_refused, unit_read, accepted, no_memory}
use Rattle.c_parser.proofs.units.parse_unit.Goals as goal

pub returns-in-Ok-clause-read : goal.returns-in-Ok-clause-read
returns-in-Ok-clause-read c =
    unit_read 256 c.args.toks.now (unit_view c.in-Ok.unit) c.read_unit.new.cursor _ (unit_right 256 c.args.toks.now c.new-cursor.result c.new-cursor.ensures) c.in-Ok.ensures

pub returns-in-Ok-clause-accepts : goal.returns-in-Ok-clause-accepts
returns-in-Ok-clause-accepts c = λ unit spells low.
    inl (accepted 256 c.args.toks.now (cut_written c.args.text.now c.args.toks.now c.requires.tokens) unit spells low
    _ (unit_right 256 c.args.toks.now c.new-cursor.result c.new-cursor.ensures) (unit_view c.in-Ok.unit) c.read_unit.new.cursor c.in-Ok.ensures)

pub returns-in-Err-clause-refused : goal.returns-in-Err-clause-refused
returns-in-Err-clause-refused c =
    unit_refused 256 c.args.toks.now c.args.text.now c.in-Err.stop c.read_unit.new.cursor _ (unit_right 256 c.args.toks.now c.new-cursor.result c.new-cursor.ensures) c.in-Err.ensures
    c.fault_of.result c.fault_of.ensures

pub returns-in-Err-clause-accepts : goal.returns-in-Err-clause-accepts
returns-in-Err-clause-accepts c = λ unit spells low.
    inr (ap Err (no_memory 256 c.args.toks.now (cut_written c.args.text.now c.args.toks.now c.requires.tokens) unit spells low
    _ (unit_right 256 c.args.toks.now c.new-cursor.result c.new-cursor.ensures) c.in-Err.stop c.read_unit.new.cursor c.in-Err.ensures _ c.fault_of.result c.fault_of.ensures))
