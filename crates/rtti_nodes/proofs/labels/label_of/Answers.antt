use Rattle.std.proofs.Common.{List, ap, sym, subst, ◌∙◌}
use Rattle.std.specs.List.{All}
use Rattle.cc_base.specs.Kinds.{kind_at}
use Rattle.c_types.specs.Table.{IsType, shape_at}
use Rattle.phys_types.specs.declared.spot.Spot.{Spot}
use Rattle.phys_types.specs.Numbers.{number_in}
use Rattle.phys_types.specs.Signatures.{mixed_all}
use Rattle.phys_types.proofs.EachAlike.{no_function}
use Rattle.phys_types.proofs.Makeups.{named_types, all_tail}
use Rattle.rtti_nodes.specs.Numbering.{spot_label}
use Rattle.rtti_nodes.proofs.Labelled.{data_label}
use Rattle.rtti_nodes.proofs.labels.label_of.Goals as goal

pub slots_label-requires-clause-parameters : goal.slots_label-requires-clause-parameters
slots_label-requires-clause-parameters c =
    subst (All (IsType c.args.types.now)) (sym c.ids.ensures)
    (all_tail (IsType c.args.types.now) c.in-Function.r c.in-Function.ps
    (named_types c.args.types.now c.requires.formed c.args.t c.in-Function.ps c.in-Function.r (sym c.shape.ensures ∙ c.in-Function.is)))

pub returns-in_default : goal.returns-in_default
returns-in_default c =
    c.spots_label.ensures
    ∙ ap (λ (ss : List Spot). mixed_all 0 (spot_label (kind_at c.args.kinds.now) (number_in c.args.numbers.now)) ss) c.deref.ensures.value
    ∙ sym (data_label c.args.types.now (kind_at c.args.kinds.now) (number_in c.args.numbers.now) c.args.layout.now (shape_at c.args.types.now c.args.t)
    (no_function c.args.types.now c.args.t (λ ps r e. c.in_default.not-Function ps r (c.shape.ensures ∙ e))))
