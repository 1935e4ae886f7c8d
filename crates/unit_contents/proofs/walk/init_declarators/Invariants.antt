use Rattle.std.proofs.Common.{map, take}
use Rattle.c_tree.specs.Views.{added}
use Rattle.c_tree.specs.TypedTree as typed
use Rattle.c_tree.specs.TypedParts.{made_by_init_declarators}
use Rattle.c_tree.specs.TypedStatementViews.{typed_init_declarator_view}
use Rattle.src_machine.specs.Pieces.{pieces_of_init_declarators}
use Rattle.unit_parts.specs.Collecting.{Collects}
use Rattle.unit_contents.proofs.walk.init_declarators.Given as goal

abbrev pub invariant-loop-one : goal.invariant-loop-one
invariant-loop-one l = record {
  found : Collects l.k.types.now (made_by_init_declarators (added typed.NoInitDeclarator (map typed_init_declarator_view (take l.one-index l.all)))) (pieces_of_init_declarators (added typed.NoInitDeclarator (map typed_init_declarator_view (take l.one-index l.all)))) l.fn.out l.out;
}
