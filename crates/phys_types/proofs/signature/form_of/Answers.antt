use Rattle.std.proofs.Common.{sym, subst, ◌∙◌}
use Rattle.std.specs.List.{All}
use Rattle.c_types.specs.Table.{IsType}
use Rattle.phys_types.proofs.Makeups.{named_types, all_tail}
use Rattle.phys_types.proofs.signature.form_of.Goals as goal

pub slots_form-requires : goal.slots_form-requires
slots_form-requires c =
    subst (All (IsType c.args.types.now)) (sym c.ids.ensures)
    (all_tail (IsType c.args.types.now) c.in-Function.r c.in-Function.ps
    (named_types c.args.types.now c.requires.formed c.args.t c.in-Function.ps c.in-Function.r (sym c.shape.ensures ∙ c.in-Function.is)))
