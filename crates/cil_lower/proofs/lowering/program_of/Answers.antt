use Rattle.std.proofs.Common.{rules, ◌<◌, Fits, w32, arith, ap, length, sym, ◌∙◌}
use Rattle.std.specs.List.{flat_map}
use Rattle.c_tree.specs.TypedParts.{made_by_unit, nodes_made}
use Rattle.c_tree.specs.TypedStatementViews.{typed_unit_view}
use Rattle.src_machine.specs.Pieces.{pieces_of_unit}
use Rattle.src_machine.specs.Sites.{sites_of_piece}
use Rattle.lower_ready.proofs.Units.{has-unit}
use Rattle.cil_lower.proofs.LowerLaws.{lowered_with}
use Rattle.cil_lower.proofs.lowering.program_of.Goals as goal

pub program-requires : goal.program-requires
program-requires c =
    let number : Fits w32 c.args.unit.now.nodes = search rules in
    let few : length (nodes_made (made_by_unit (typed_unit_view c.args.unit.now.unit))) < 4294967296 = omega (arith, number.fits, c.requires.nodes) in
    rw c.in_ok-types.ensures (has-unit c.args.unit.now.types (typed_unit_view c.args.unit.now.unit) c.requires.typed few c.requires.limited c.requires.height)

pub sites_of-requires-clause-pieces : goal.sites_of-requires-clause-pieces
sites_of-requires-clause-pieces c = c.in_ok-made.ensures.pieces
    ∙ ap (λ t. flat_map (sites_of_piece t) (pieces_of_unit (typed_unit_view c.args.unit.now.unit))) (sym c.in_ok-made.ensures.types)

pub returns-clause-lowered : goal.returns-clause-lowered
returns-clause-lowered c = rw c.with_sites.ensures
    (lowered_with (typed_unit_view c.args.unit.now.unit) c.in_ok-made.made c.in_ok-sites.sites c.in_ok-made.ensures.code
    (c.in_ok-made.ensures.nodes ∙ c.requires.nodes) c.in_ok-sites.ensures c.in_ok-made.ensures.bytes)
