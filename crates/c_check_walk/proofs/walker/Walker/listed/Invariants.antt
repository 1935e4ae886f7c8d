use Rattle.std.proofs.Common.{◌≡◌, map, take}
use Rattle.c_tree.specs.TypedViews.{typed_specifier_view, typed_specifiers_of}
use Rattle.c_tree.specs.Views.{specifier_view, specifiers_of}
use Rattle.c_typing.specs.Declarators.{counted, named_by_list}
use Rattle.c_typing.specs.Growing.{Grows}
use Rattle.c_typing.specs.Judging.{Gives, known}
use Rattle.c_check_walk.specs.NamedViews.{named_view}
use Rattle.c_typing.specs.Walks as walks
use Rattle.c_check_walk.proofs.walker.Walker.listed.Given as goal

-- those so far are judged and counted, and they name this
abbrev pub invariant-loop-one : goal.invariant-loop-one
invariant-loop-one g l =
    (walks.judge_list (specifiers_of (map specifier_view (take l.one-index l.specifiers))) (known l.fn.types l.fn.scope)
    ≡ Gives (typed_specifiers_of (map typed_specifier_view l.list)) (known l.types l.scope))
    × ((counted (typed_specifiers_of (map typed_specifier_view l.list)) ≡ l.words)
    × (named_by_list (typed_specifiers_of (map typed_specifier_view l.list)) ≡ named_view l.named))
    × Grows (known l.fn.types l.fn.scope) (known l.types l.scope)
