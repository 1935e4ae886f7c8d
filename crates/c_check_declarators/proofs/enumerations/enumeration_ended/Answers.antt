use Rattle.std.proofs.Common.{refl}
use Rattle.c_typing.specs.declared.declared.Tag.TheVariants.{Enumeration}
use Rattle.c_typing.proofs.GrowingLaws.{either-grows, set_tag-grows}
use Rattle.c_check_declarators.proofs.enumerations.enumeration_ended.Goals as goal

pub returns-in-Some-clause-grows : goal.returns-in-Some-clause-grows
returns-in-Some-clause-grows c = λ table.
    either-grows _ _ c.set_tag.result table c.args.scope.now c.set_tag.new.self _ c.set_tag.ensures.declared c.set_tag.ensures.unchanged
    (set_tag-grows table _ _ c.as_slice.result.now Enumeration refl)
