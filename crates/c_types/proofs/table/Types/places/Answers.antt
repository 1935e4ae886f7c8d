use Rattle.std.proofs.Common.{◌≡◌, List, Result, Ok, Err, IfOk, ◌∙◌}
use Rattle.cc_base.specs.declared.number.TypeId.{TypeId}
use Rattle.c_types.specs.declared.layout.Layout.{Layout}
use Rattle.c_types.specs.declared.kept.FieldPlace.{FieldPlace}
use Rattle.c_types.specs.declared.shape.TypeShape.{TypeShape}
use Rattle.c_types.specs.declared.shape.TypeShape.TheVariants.{Struct, Union}
use Rattle.c_types.specs.Layouts.{layout_of}
use Rattle.c_types.specs.Table.{shape_at}
use Rattle.c_types.specs.Kept.{ArePlaces}
use Rattle.c_types.proofs.Laying.{union_shape}
use Rattle.c_types.proofs.table.Types.places.Goals as goal

union_result : {V E : Type 0} (items : V → List FieldPlace) (f : TypeId → Layout) (s : TypeShape) (members : List TypeId) (r : Result V E)
    → ((tag : _) → s ≡ Struct tag → ⊥) → IfOk r (λ v. ArePlaces f (Union 0) members (items v)) → IfOk r (λ v. ArePlaces f s members (items v))
union_result items f s members (Ok v) n h = union_shape f s members (items v) n h
union_result items f s members (Err e) n h = tt

pub returns-in_default : goal.returns-in_default
returns-in_default c =
    union_result (λ v. v.items) (layout_of c.args.self.now) (shape_at c.args.self.now c.args.t) c.args.members.now c.union_places.result
    (λ tag e. c.in_default.not-Struct tag (c.shape.ensures ∙ e)) c.union_places.ensures
