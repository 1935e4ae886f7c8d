use Rattle.lower_units.proofs.StaticLaws.{statics_then}
use Rattle.lower_units.proofs.statics.external.Goals as goal

pub returns-in-Declaration : goal.returns-in-Declaration
returns-in-Declaration c = λ all start before. rw c.in-Declaration.is (statics_then _ _ _ _ _ _ before c.declaration.ensures)

pub returns-in-Function : goal.returns-in-Function
returns-in-Function c = λ all start before. rw c.in-Function.is (statics_then _ _ _ _ _ _ before (rw c.as_slice.ensures at c.block.ensures))
