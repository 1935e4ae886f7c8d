-- The code's operands as plain data.
use Rattle.c_tree.specs.TypedViews.{typed_expr_view, typed_place_view}
use Rattle.c_typing.specs.Tests.{Elaborated, AsPlace, AsValue, AsAllocation}
use Rattle.c_typing.specs.Judging as judging
use Rattle.c_typing.specs.Operands as plain
use Rattle.c_typing.specs.declared.operand.Part.{Part}
use Rattle.c_typing.specs.declared.operand.Part.TheVariants as part
use Rattle.c_typing.specs.declared.operand.PartRef.{PartRef}
use Rattle.c_typing.specs.declared.operand.PartRef.TheVariants as part_ref
use Rattle.c_typing.specs.declared.operand.Operand.{Operand}
use Rattle.c_typing.specs.declared.operand.Value.{Value}
use Rattle.c_typing.specs.declared.operand.Pointing.{Pointing}

abbrev pub part_view : Part → Elaborated
part_view (part.Place p) = AsPlace (typed_place_view p)
part_view (part.Value e) = AsValue (typed_expr_view e)
part_view (part.Allocation e) = AsAllocation (typed_expr_view e)

abbrev pub part_ref_view : PartRef → Elaborated
part_ref_view (part_ref.Place p) = AsPlace (typed_place_view p.now)
part_ref_view (part_ref.Value e) = AsValue (typed_expr_view e.now)
part_ref_view (part_ref.Allocation e) = AsAllocation (typed_expr_view e.now)

abbrev pub operand_view : Operand → plain.Operand
operand_view x = record { part = part_view x.part; place = x.place; held = x.held }

abbrev pub value_view : Value → plain.Value
value_view v = record { expr = typed_expr_view v.expr; place = v.place; held = v.held }

abbrev pub pointing_view : Pointing → judging.Pointing
pointing_view p = record { node = p.node; type = p.ty }
