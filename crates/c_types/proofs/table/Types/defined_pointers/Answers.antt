use Rattle.std.proofs.Common.{◌≡◌, ◌≤◌, sym, subst, ◌∙◌, arith}
use Rattle.c_types.specs.declared.shape.TypeShape.{TypeShape}
use Rattle.c_types.specs.declared.shape.TypeShape.TheVariants.{Struct}
use Rattle.c_types.specs.Layouts.{layout_of, layout_of_shape}
use Rattle.c_types.specs.Sound.{IsWellFormed}
use Rattle.c_types.specs.Table.{shape_at}
use Rattle.c_types.proofs.PointerCounts.{members_few}
use Rattle.c_types.proofs.table.Types.defined_pointers.Goals as goal

pub pointers_of_all-requires-clause-small : goal.pointers_of_all-requires-clause-small
pointers_of_all-requires-clause-small c =
    let few = members_few c.args.self.now (subst IsWellFormed c.self.view_is c.self.invariant.formed) (Struct c.in-Struct.field-0) c.args.members.now in
    let shape : shape_at c.args.self.now c.args.t ≡ Struct c.in-Struct.field-0 = sym c.shape.ensures ∙ c.in-Struct.is in
    let small : (layout_of_shape (layout_of c.args.self.now) (Struct c.in-Struct.field-0) c.args.members.now).size ≤ 1048576 =
    subst (λ (s : TypeShape). (layout_of_shape (layout_of c.args.self.now) s c.args.members.now).size ≤ 1048576) shape c.requires.small in
    omega (arith, few, small)
