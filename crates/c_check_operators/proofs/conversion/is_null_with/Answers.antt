use Rattle.c_check_operators.proofs.NullLaws.{asked, unasked}
use Rattle.c_check_operators.proofs.conversion.is_null_with.Goals as goal

pub returns-then-is_pointer : goal.returns-then-is_pointer
returns-then-is_pointer c = asked c.is_pointer.result _ c.is_null_part.result _ c.is_pointer.ensures c.if-is_pointer.true c.is_null_part.ensures

pub returns : goal.returns
returns c = unasked c.is_pointer.result _ _ c.is_pointer.ensures c.if-is_pointer.false
