use Rattle.std.proofs.Common.{List, sym, subst}
use Rattle.c_types.specs.Table.{Entry}
use Rattle.phys_types.specs.Standing.{AreEqualTypes}
use Rattle.phys_types.proofs.Knowing.{known_kept}
use Rattle.phys_types.proofs.known.Known.follow.Goals as goal

pub follow-requires-clause-kept : goal.follow-requires-clause-kept
follow-requires-clause-kept c =
    known_kept c.self.inside.types.now c.self.inside.order.items c.self.inside.places.items c.self.inside.numbers.items c.self.inside.layouts.items c.self.invariant
    c.deref.result.now c.deref-2.result.now c.deref.ensures.value c.deref-2.ensures.value

pub follow-requires-clause-equal : goal.follow-requires-clause-equal
follow-requires-clause-equal c t u h = subst (λ (table : List Entry). AreEqualTypes table t u) (sym c.self.view_is) (c.requires t u h)
