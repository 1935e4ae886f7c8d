use Rattle.std.proofs.Common.{sym, subst}
use Rattle.c_typing.specs.Growing.{HasGrown}
use Rattle.c_typing.specs.Judging.{known}
use Rattle.c_typing.specs.Scopes.{Seen}
use Rattle.c_typing.proofs.GrowingLaws.{aggregate-grows}
use Rattle.c_check_declarators.proofs.specifying.new_aggregate.Goals as goal

pub returns-in_err-new_aggregate-clause-grows : goal.returns-in_err-new_aggregate-clause-grows
returns-in_err-new_aggregate-clause-grows c = λ any first h.
    subst (λ (a : Seen). HasGrown any first (known c.type_with.new.types a)) (sym c.in_err-new_aggregate.ensures.unchanged) (c.type_with.ensures.grows any first h)

pub returns-in_err-declare_tag_of-clause-grows : goal.returns-in_err-declare_tag_of-clause-grows
returns-in_err-declare_tag_of-clause-grows c = λ any first h.
    c.declare_tag_of.ensures.grows _ any first (aggregate-grows _ _ _ c.in_ok-new_aggregate.ensures.counted any first (c.type_with.ensures.grows any first h))

pub returns-clause-grows : goal.returns-clause-grows
returns-clause-grows c = λ any first h.
    c.declare_tag_of.ensures.grows _ any first (aggregate-grows _ _ _ c.in_ok-new_aggregate.ensures.counted any first (c.type_with.ensures.grows any first h))
