use Rattle.std.proofs.Common.{refl, sym, subst, ap, ◌∙◌}
use Rattle.std.specs.List.{All}
use Rattle.cc_base.specs.Kinds.{kind_at}
use Rattle.phys_types.specs.declared.spot.Spot.{Spot}
use Rattle.fat_layouts.specs.Stops.{HasNode, IsLaid, all_stops}
use Rattle.std.specs.Prelude.{length}
use Rattle.fat_layouts.proofs.LayoutLaws.{part_laid, part_nodes, part_cured}
use Rattle.fat_layouts.proofs.layouts.layout_of.Goals as goal

pub stops_of-requires-clause-nodes : goal.stops_of-requires-clause-nodes
stops_of-requires-clause-nodes c =
    subst (All (λ (s : Spot). HasNode (length c.args.kinds.now) s.item)) (sym c.deref.ensures.value)
    (part_nodes c.args.known.now c.requires.formed (length c.args.kinds.now) c.requires.nodes c.args.t c.repeated-own.result.now c.repeated-own.ensures)

pub stops_of-requires-clause-laid : goal.stops_of-requires-clause-laid
stops_of-requires-clause-laid c =
    subst IsLaid (sym c.deref.ensures.value) (part_laid c.args.known.now c.requires.formed c.args.t c.repeated-own.result.now c.repeated-own.ensures)

pub returns : goal.returns
returns c =
    part_cured c.args.known.now c.requires.formed c.args.kinds.now c.args.t c.repeated-own.result.now (record { size = c.repeated-own.result.now.part.size; stops = c.in_ok-stops.stops })
    c.repeated-own.ensures refl (c.in_ok-stops.ensures ∙ ap (all_stops (kind_at c.args.kinds.now)) c.deref.ensures.value)
