use Rattle.std.proofs.Common.{refl}
use Rattle.c_typing.proofs.GrowingLaws.{either-grows, tag-grows}
use Rattle.c_check_declarators.proofs.specifying.declare_tag_of.Goals as goal

pub returns-in-Some-clause-grows : goal.returns-in-Some-clause-grows
returns-in-Some-clause-grows c = λ table.
    either-grows _ _ c.declare_tag.result table c.args.scope.now c.declare_tag.new.self _ c.declare_tag.ensures.declared c.declare_tag.ensures.unchanged
    (tag-grows table _ _ c.as_slice.result.now c.args.what refl)
