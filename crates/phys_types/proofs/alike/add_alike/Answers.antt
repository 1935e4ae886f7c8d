use Rattle.std.proofs.Common.{sym, subst, ◌∙◌}
use Rattle.std.specs.List.{All}
use Rattle.std.proofs.lemmas.Result.{on_ok_weaker}
use Rattle.c_types.specs.Table.{IsType}
use Rattle.c_types.specs.Equality.{physically_equal}
use Rattle.phys_types.specs.Shown.{all_spots}
use Rattle.phys_types.specs.Standing.{shown}
use Rattle.phys_types.proofs.Makeups.{named_types, all_tail}
use Rattle.phys_types.proofs.EachAlike.{no_function, data_alike, function_alike, none_alike}
use Rattle.phys_types.proofs.InCopies.{kept_few, kept_whole}
use Rattle.phys_types.proofs.alike.add_alike.Goals as goal

pub add_slots-requires-clause-first : goal.add_slots-requires-clause-first
add_slots-requires-clause-first c =
    subst (All (IsType c.args.types.now)) (sym c.ids.ensures)
    (all_tail (IsType c.args.types.now) c.in-Function.r c.in-Function.ps
    (named_types c.args.types.now c.requires.formed c.args.t c.in-Function.ps c.in-Function.r (sym c.shape.ensures ∙ c.in-Function.is)))

pub add_slots-requires-clause-second : goal.add_slots-requires-clause-second
add_slots-requires-clause-second c =
    subst (All (IsType c.args.types.now)) (sym c.ids-in-Function-shape.ensures)
    (all_tail (IsType c.args.types.now) c.in-Function-shape.s c.in-Function-shape.qs
    (named_types c.args.types.now c.requires.formed c.args.u c.in-Function-shape.qs c.in-Function-shape.s (sym c.shape-in-Function.ensures ∙ c.in-Function-shape.is)))

pub returns-in_ok-add_both-in-Function-shape : goal.returns-in_ok-add_both-in-Function-shape
returns-in_ok-add_both-in-Function-shape c =
    on_ok_weaker c.add_slots.result
    (function_alike c.args.types.now c.requires.formed c.args.t c.args.u c.requires.equal c.in-Function.ps c.in-Function-shape.qs c.ids.result.now c.ids-in-Function-shape.result.now
    c.in-Function.r c.in-Function-shape.s (shown c.pointer_of.result) (shown c.pointer_of-in-Function-shape.result) c.args.found.now c.add_both.new.found c.add_slots.new.found
    (sym c.shape.ensures ∙ c.in-Function.is) (sym c.shape-in-Function.ensures ∙ c.in-Function-shape.is) c.ids.ensures c.ids-in-Function-shape.ensures
    c.pointer_of.ensures c.pointer_of-in-Function-shape.ensures c.in_ok-add_both-in-Function-shape.ensures)
    c.add_slots.ensures

pub returns-in_default-shape : goal.returns-in_default-shape
returns-in_default-shape c =
    absurd (none_alike c.args.types.now c.requires.formed c.args.t c.args.u c.requires.equal c.in-Function.ps c.in-Function.r (sym c.shape.ensures ∙ c.in-Function.is)
    (no_function c.args.types.now c.args.u (λ ps r e. c.in_default-shape.not-Function ps r (c.shape-in-Function.ensures ∙ e))))

pub add_copies-requires-clause-first : goal.add_copies-requires-clause-first
add_copies-requires-clause-first c = kept_few c.args.types.now c.requires.formed (physically_equal c.args.types.now) c.args.t c.args.x.now c.requires.first_kept

pub add_copies-requires-clause-second : goal.add_copies-requires-clause-second
add_copies-requires-clause-second c = kept_few c.args.types.now c.requires.formed (physically_equal c.args.types.now) c.args.u c.args.y.now c.requires.second_kept

pub returns-in_default : goal.returns-in_default
returns-in_default c =
    let table = c.args.types.now in
    let v = kept_whole table c.requires.formed (physically_equal table) c.args.t c.args.x.now c.requires.first_kept in
    let z = kept_whole table c.requires.formed (physically_equal table) c.args.u c.args.y.now c.requires.second_kept in
    on_ok_weaker c.add_copies.result
    (data_alike table c.requires.formed c.args.t c.args.u c.requires.equal v.0 z.0 (all_spots c.args.x.now) (all_spots c.args.y.now)
    c.args.found.now c.add_copies.new.found c.requires.first c.requires.second v.4 z.4
    (no_function table c.args.t (λ ps r e. c.in_default.not-Function ps r (c.shape.ensures ∙ e))) v.1 z.1)
    c.add_copies.ensures
