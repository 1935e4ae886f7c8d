-- A label of a `switch` that stands there already.
use Rattle.std.proofs.Common.{◌≡◌, ℤ, true, Option, Some, refl}
use Rattle.std.specs.List.{list_any}
use Rattle.std.specs.Ordering.{int_eq}
use Rattle.cc_base.specs.declared.place.Place.{Place}
use Rattle.cc_base.specs.declared.number.TypeId.{TypeId}
use Rattle.cc_base.specs.declared.fault.Fault.TheVariants.{Refused}
use Rattle.cc_base.specs.declared.fault.Rule.TheVariants as rule
use Rattle.c_tree.specs.Tree as tree
use Rattle.c_tree.specs.TypedTree.{TypedBlockItems}
use Rattle.c_typing.specs.Checking.{Constant, checked_constant}
use Rattle.c_unit_typing.specs.Units.{labels_of}
use Rattle.c_unit_typing.specs.UnitJudging.{UnitState, Gives, Stops, lifted}
use Rattle.c_unit_typing.specs.StatementJudging.{case_label, label_as, labelled}

pub label_twice : (on : Option TypeId) (at : Place) (e : tree.Expr) (list : TypedBlockItems) (s r : UnitState) (c : Constant) (z : ℤ)
    → lifted (checked_constant e) s ≡ Gives c r → label_as r.table on c.value ≡ Some z
    → list_any (λ each. int_eq z each) (labels_of list) ≡ true
    → case_label on at e list s ≡ Stops (Refused at rule.Redeclared) r
unfolding case_label labelled
label_twice on at e list s r c z given label twice = rw given (rw label (rw twice refl))
