-- What judging a list of specifiers says of the list by itself.
use Rattle.std.specs.Prelude.{◌≡◌, ◌≢◌, Result, Ok, Err}
use Rattle.cc_base.specs.declared.fault.Fault.{Fault}
use Rattle.cc_base.specs.declared.fault.Fault.TheVariants.{NoMemory}
use Rattle.c_tree.specs.TypedTree.{TypedSpecifierList}
use Rattle.c_tree.specs.TypedViews.{typed_specifiers_view}
use Rattle.c_tree.specs.declared.typed_expr.TypedSpecifiers.{TypedSpecifiers}
use Rattle.c_typing.specs.Judging.{State, Outcome, Gives, Stops}
use Rattle.c_typing.specs.Specifying.{specified}

-- the list gives these specifiers; or it stops, want of memory apart
abbrev pub IsListed : Outcome TypedSpecifierList → Result TypedSpecifiers Fault → State → Type 0
IsListed outcome (Ok made) after = (list : TypedSpecifierList) × (outcome ≡ Gives list after) × (specified list ≡ typed_specifiers_view made)
IsListed outcome (Err fault) after = fault ≢ NoMemory → outcome ≡ Stops fault after
