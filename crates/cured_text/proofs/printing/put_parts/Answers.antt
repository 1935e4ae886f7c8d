use Rattle.cured_spelling.proofs.RowLaws.{parts-text}
use Rattle.cured_text.proofs.Appended.{six-put}
use Rattle.cured_text.proofs.printing.put_parts.Goals as goal

pub returns : goal.returns
returns c = six-put _ _ _ _ _ _ _ _ _ _ _ _ _ _ _ c.in_ok-put_line.ensures c.in_ok-put_sigs.ensures c.in_ok-put_nodes.ensures c.in_ok-put_globals.ensures c.in_ok-put_functions.ensures
    c.put_bodies.ensures (parts-text c.args.sigs.now c.args.parents.now c.args.globals.now c.args.functions.now)
