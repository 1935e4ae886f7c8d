use Rattle.std.proofs.Common.{◌≡◌, ◌∙◌, ap, inr, Err}
use Rattle.c_tree.specs.StatementViews.{unit_view}
use Rattle.c_front.proofs.Passes.{uncut_so, unread_so, read_so, of_success, of_failure}
use Rattle.c_front.proofs.front.unit_of.Goals as goal

pub returns-in-Ok-clause-refused : goal.returns-in-Ok-clause-refused
returns-in-Ok-clause-refused c =
    unread_so _ c.as_slice.result.now _ (rw c.as_slice.ensures.value c.in-Ok.ensures.cut) c.parse_unit.ensures.refused

pub returns-in-Ok-clause-accepts : goal.returns-in-Ok-clause-accepts
returns-in-Ok-clause-accepts c =
    read_so _ c.as_slice.result.now _ (λ unit u. unit_view u ≡ unit)
    (λ list cut. c.as_slice.ensures.value ∙ of_success _ _ (c.in-Ok.ensures.accepts list cut)) c.parse_unit.ensures.accepts

pub returns-in-Err-clause-refused : goal.returns-in-Err-clause-refused
returns-in-Err-clause-refused c = uncut_so _ _ c.in-Err.ensures.refused

pub returns-in-Err-clause-accepts : goal.returns-in-Err-clause-accepts
returns-in-Err-clause-accepts c unit is = inr (ap Err (of_failure _ _ (c.in-Err.ensures.accepts is.tokens is.cut)))
