use Rattle.std.proofs.Common.{◌≡◌, List, ◌∷◌, flat_map, ap, sym, subst, ◌∙◌}
use Rattle.std.specs.Prelude.{IfOk}
use Rattle.std.specs.List.{All}
use Rattle.cc_base.specs.declared.number.TypeId.{TypeId}
use Rattle.c_types.specs.Table.{IsType}
use Rattle.phys_types.specs.Signatures.{slot_targets, slot_in, targets_of_shape}
use Rattle.phys_types.proofs.Makeups.{named_types, all_tail}
use Rattle.phys_types.proofs.signature.targets_of.Goals as goal

pub function_targets-requires-clause-parameters : goal.function_targets-requires-clause-parameters
function_targets-requires-clause-parameters c =
    subst (All (IsType c.args.types.now)) (sym c.ids.ensures)
    (all_tail (IsType c.args.types.now) c.in-Function.r c.in-Function.ps
    (named_types c.args.types.now c.requires.formed c.args.t c.in-Function.ps c.in-Function.r (sym c.shape.ensures ∙ c.in-Function.is)))

pub returns-in-Function : goal.returns-in-Function
returns-in-Function c =
    subst (λ (xs : List TypeId). IfOk c.function_targets.result (λ targets. targets.items ≡ xs))
    (ap (λ (ps : List TypeId). flat_map (λ p. slot_targets (slot_in c.args.types.now p)) (c.in-Function.r ∷ ps)) c.ids.ensures
    ∙ sym (ap (λ s. targets_of_shape c.args.types.now s c.args.spots.now) (sym c.shape.ensures ∙ c.in-Function.is)))
    c.function_targets.ensures
