use Rattle.std.proofs.Common.{◌≡◌, take}
use Rattle.c_tree.specs.TypedStatementViews.{typed_block_view}
use Rattle.src_machine.specs.Statements.{labels}
use Rattle.lower_exprs.specs.declared.draft.Draft.{Draft}
use Rattle.lower_exprs.specs.Drafts.{Grows}
use Rattle.lower_rules.specs.Statements.{IsCodeOfTests}
use Rattle.lower_statements.proofs.switching.put_tests.Given as goal

abbrev pub invariant-loop-i : goal.invariant-loop-i
invariant-loop-i l = record {
  made : (c : Draft) → Grows (IsCodeOfTests (typed_block_view (take l.i l.items)) l.s.switches l.s.ty l.s.at) (Unit {0}) l.out c
      → Grows (IsCodeOfTests (typed_block_view l.items) l.s.switches l.s.ty l.s.at) (Unit {0}) l.fn.out c;
  number : l.label ≡ labels (typed_block_view (take l.i l.items));
}
