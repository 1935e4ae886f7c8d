-- What no part of a declarator makes.
use Rattle.std.proofs.Common.{◌≡◌, refl, suc, List, [], ◌∷◌, length, map, arith}
use Rattle.cc_base.specs.declared.place.Place.{Place}
use Rattle.cc_base.specs.declared.number.TypeId.{TypeId}
use Rattle.c_tree.specs.TypedTree as typed
use Rattle.c_tree.specs.TypedViews.{typed_part_view}
use Rattle.c_tree.specs.Views.{added}
use Rattle.c_tree.specs.declared.typed_expr.TypedPart.{TypedPart}
use Rattle.c_typing.specs.Declarators.{Outermost}
use Rattle.c_typing.specs.Declaring.{parts_make}
use Rattle.c_typing.specs.Judging.{State, Gives}

pub no_part_makes : (at : Place) (outermost : Outermost) (parts : List TypedPart) → length parts ≡ 0 → (base : TypeId) (s : State)
    → parts_make at outermost (added typed.NoPart (map typed_part_view parts)) base s ≡ Gives base s
unfolding parts_make
no_part_makes at outermost [] none base s = refl
no_part_makes at outermost (part ∷ parts) none base s = absurd (let h : suc (length parts) ≡ 0 = none in omega arith)
