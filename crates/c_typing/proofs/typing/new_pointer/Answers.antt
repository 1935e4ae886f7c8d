use Rattle.c_typing.proofs.GrowingLaws.{node-grows}
use Rattle.c_typing.proofs.typing.new_pointer.Goals as goal

pub returns-in_err-ty-clause-grows : goal.returns-in_err-ty-clause-grows
returns-in_err-ty-clause-grows c = λ any first h. c.pointer_type.ensures.grows any first (node-grows _ _ _ c.in-Some.ensures.given.2 any first h)

pub returns-clause-grows : goal.returns-clause-grows
returns-clause-grows c = λ any first h. c.pointer_type.ensures.grows any first (node-grows _ _ _ c.in-Some.ensures.given.2 any first h)
