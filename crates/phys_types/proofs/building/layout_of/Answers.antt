use Rattle.std.proofs.Common.{sym, ◌∙◌, arith}
use Rattle.std.proofs.lemmas.Result.{IfOk-weaker}
use Rattle.phys_types.specs.Numbers.{number_in, same_number}
use Rattle.phys_types.proofs.Shapes.{void_shown, function_shown, integer_shown, pointer_shown, tag_shown, union_tag_shown}
use Rattle.phys_types.proofs.building.layout_of.Goals as goal

pub returns-in-Void : goal.returns-in-Void
returns-in-Void c =
    void_shown c.args.types.now c.requires.formed (same_number (number_in c.args.numbers.now)) c.args.t c.raw_layout.result (sym c.shape.ensures ∙ c.in-Void.is) c.raw_layout.ensures

pub returns-in-Function : goal.returns-in-Function
returns-in-Function c =
    function_shown c.args.types.now c.requires.formed (same_number (number_in c.args.numbers.now)) c.args.t c.raw_layout-in-Function.result _ _
    (sym c.shape.ensures ∙ c.in-Function.is) c.raw_layout-in-Function.ensures

pub returns-in-Integer : goal.returns-in-Integer
returns-in-Integer c =
    integer_shown c.args.types.now c.requires.formed (same_number (number_in c.args.numbers.now)) c.args.t c.raw_layout-in-Integer.result _ _
    (sym c.shape.ensures ∙ c.in-Integer.is) c.raw_layout-in-Integer.ensures

pub returns-in-Pointer : goal.returns-in-Pointer
returns-in-Pointer c =
    IfOk-weaker c.item_layout.result _ _
    (λ layout m. pointer_shown c.args.types.now c.requires.formed (same_number (number_in c.args.numbers.now)) c.args.t layout c.in-Pointer.node c.in-Pointer.to
    (sym c.shape.ensures ∙ c.in-Pointer.is) m)
    c.item_layout.ensures

pub returns-in-Array : goal.returns-in-Array
returns-in-Array c = absurd (c.requires.other _ _ (sym c.shape.ensures ∙ c.in-Array.is))

pub struct_layout-requires-clause-shown : goal.struct_layout-requires-clause-shown
struct_layout-requires-clause-shown c = (same_number (number_in c.args.numbers.now), c.requires.shown)

pub returns-then-fields-eq0 : goal.returns-then-fields-eq0
returns-then-fields-eq0 c =
    IfOk-weaker c.item_layout-then-fields-eq0.result _ _
    (λ layout m. tag_shown c.args.types.now c.requires.formed (same_number (number_in c.args.numbers.now)) c.args.t layout c.in-Struct.field-0
    (sym c.shape.ensures ∙ c.in-Struct.is) (omega arith) m)
    c.item_layout-then-fields-eq0.ensures

pub returns-then-fields-eq0-2 : goal.returns-then-fields-eq0-2
returns-then-fields-eq0-2 c =
    IfOk-weaker c.item_layout-then-fields-eq0-2.result _ _
    (λ layout m. union_tag_shown c.args.types.now c.requires.formed (same_number (number_in c.args.numbers.now)) c.args.t layout c.in-Union.field-0
    (sym c.shape.ensures ∙ c.in-Union.is) (omega arith) m)
    c.item_layout-then-fields-eq0-2.ensures
