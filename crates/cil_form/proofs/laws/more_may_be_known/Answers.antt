use Rattle.cil_form.proofs.TypingLaws.{shaped-more, shaped-less}
use Rattle.cil_form.proofs.laws.more_may_be_known.Goals as goal

pub returns-clause-before : goal.returns-clause-before
returns-clause-before c = shaped-more

pub returns-clause-behind : goal.returns-clause-behind
returns-clause-behind c = shaped-less
