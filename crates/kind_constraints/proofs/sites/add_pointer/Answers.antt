use Rattle.std.proofs.Common.{sym, ◌∙◌}
use Rattle.c_types.specs.Table.{is_function}
use Rattle.kind_constraints.specs.Pieces.{IsOfContents}
use Rattle.kind_constraints.proofs.GivenPieces.{plain_pieces, no_plain_pieces}
use Rattle.kind_constraints.proofs.sites.add_pointer.Goals as goal

pub returns-in_ok-push : goal.returns-in_ok-push
returns-in_ok-push c =
    plain_pieces (IsOfContents c.args.asked.now.types.now c.args.asked.now.sites.now c.args.node c.args.ty) (is_function c.args.asked.now.types.now c.args.ty) c.args.node
    (sym c.is_function.ensures ∙ c.if-is_function.true) c.args.list.now.items c.add_contents.new.list.items c.push.new.list.items c.in_ok-add_contents.ensures c.in_ok-push.ensures

pub returns-else-is_function : goal.returns-else-is_function
returns-else-is_function c =
    no_plain_pieces (IsOfContents c.args.asked.now.types.now c.args.asked.now.sites.now c.args.node c.args.ty) (is_function c.args.asked.now.types.now c.args.ty) c.args.node
    (sym c.is_function.ensures ∙ c.if-is_function.false) c.args.list.now.items c.add_contents.new.list.items c.in_ok-add_contents.ensures
