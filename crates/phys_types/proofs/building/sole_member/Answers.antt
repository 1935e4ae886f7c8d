use Rattle.std.proofs.Common.{ap, sym, ◌∙◌, arith}
use Rattle.phys_types.specs.Shown.{is_struct_shape}
use Rattle.phys_types.proofs.Sole.{sole_kept}
use Rattle.phys_types.proofs.building.sole_member.Goals as goal

pub returns-else-size_of : goal.returns-else-size_of
returns-else-size_of c = λ E h.
    sole_kept c.args.types.now c.requires.formed c.args.t (ap is_struct_shape (sym c.shape.ensures ∙ c.in-Struct.is)) (omega arith)
    c.args.places.now c.args.built.now E c.field-field.result.ty c.kept.result.now c.field-field.ensures.ty
    (let o = c.field-field.ensures.offset in omega arith) (let a = c.size_of.ensures in let b = c.size_of-else-field-ne0.ensures in omega arith) c.kept.ensures h
