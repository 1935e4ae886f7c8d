use Rattle.std.proofs.Common.{refl}
use Rattle.c_types.specs.declared.shape.TypeShape.TheVariants.{Union}
use Rattle.c_types.specs.Layouts.{layout_of}
use Rattle.c_types.proofs.Laying.{places_more}
use Rattle.c_types.proofs.table.Types.union_places.Goals as goal

pub members-preserved : goal.members-preserved
members-preserved c =
    rw c.in_ok-push.ensures.items
    (places_more (layout_of c.args.self.now) c.args.members.now (Union 0) c.members.m-index 0 c.members.fields.items (record { 0 = 0 })
    c.members.invariant c.members-test.true (λ e. refl))
