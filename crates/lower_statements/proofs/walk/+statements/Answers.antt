use Rattle.std.proofs.Common.{arith, refl, rules, take_all}
use Rattle.c_tree.proofs.TypedStatementViewLaws.{typed_block_item-Statement, typed_block_item-Declaration, typed_block_item-Case, typed_block_item-Default, typed_statement-If, typed_statement-IfElse, typed_statement-Switch, typed_statement-While, typed_statement-DoWhile, typed_statement-For, typed_statement-ForDeclaration, typed_statement-Return}
use Rattle.lower_exprs.specs.Drafts.{context_of}
use Rattle.lower_statements.specs.Ready.{nesting_of}
use Rattle.lower_exprs.proofs.Laws.{grows_then, grows_choice, grows_nothing}
use Rattle.lower_initialisers.proofs.Laws.{grows_kept}
use Rattle.lower_statements.proofs.Laws.{grows_blocked, grows_looped, more_block}
use Rattle.lower_statements.proofs.SwitchLaws.{grows_where, more_number, more_pieces, one_label, pieces_begun, pieces_case, pieces_declaration, pieces_default, pieces_done, pieces_statement}
use Rattle.lower_statements.specs.Switches.{Pieces}
use Rattle.lower_statements.proofs.walk.+statements.Goals as goal
use Rattle.lower_statements.proofs.walk.+statements.Goals.{block-in-Statement, block-in-Declaration, block-in-Case, block-in-Default, pieces-in-Statement, pieces-in-Declaration, pieces-in-Case, pieces-in-Default}

pub statement-returns-in-If : goal.statement-returns-in-If
statement-returns-in-If t c = rw (c.in-If.is, typed_statement-If) (grows_then _ _ _ _ _ _ _ (rw c.get.ensures at c.expr-in-If.ensures) (grows_choice _ _ _ _ _ _ _ _ _ _ _ c.choose.ensures (rw c.get-in-If.ensures at c.statement.ensures) c.start-then.ensures (grows_nothing _ _) c.start-otherwise.ensures))

pub statement-returns-in-IfElse : goal.statement-returns-in-IfElse
statement-returns-in-IfElse t c = rw (c.in-IfElse.is, typed_statement-IfElse) (grows_then _ _ _ _ _ _ _ (rw c.get-in-IfElse.ensures at c.expr-in-IfElse.ensures) (grows_choice _ _ _ _ _ _ _ _ _ _ _ c.choose-in-IfElse.ensures (rw c.get-in-IfElse-2.ensures at c.statement-in-IfElse.ensures) c.start-then-in-IfElse.ensures (rw c.get-in-IfElse-3.ensures at c.statement-in-IfElse-2.ensures) c.start-otherwise-in-IfElse.ensures))

pub statement-returns-in-Switch : goal.statement-returns-in-Switch
unfolding Pieces
statement-returns-in-Switch t c = rw (c.in-Switch.is, typed_statement-Switch) (grows_where _ _ _ _ _ _ (rw c.as_slice-items.ensures at c.labels_fit.ensures) (grows_blocked _ _ _ _ _ _ c.put_block.ensures c.start-inner.ensures (grows_then _ _ _ _ _ _ _ (rw c.get-e.ensures at c.expr-in-Switch.ensures) (grows_then _ _ _ _ _ _ _ (rw (c.get-e.ensures, c.as_slice-items.ensures) at c.put_begin.ensures) (grows_then _ _ _ _ _ _ _ (rw (c.as_slice-items.ensures, c.switch_of.ensures, c.get-e.ensures) at c.put_tests.ensures) (rw c.as_slice-items.ensures at c.pieces.ensures))))))

pub statement-returns-in-While : goal.statement-returns-in-While
statement-returns-in-While t c = rw (c.in-While.is, typed_statement-While) (grows_looped _ _ _ _ _ _ c.put_loop.ensures c.start-round.ensures (grows_then _ _ _ _ _ _ _ (rw c.get-in-While.ensures at c.test.ensures) (grows_blocked _ _ _ _ _ _ c.put_block-in-While.ensures c.start-body.ensures (rw (c.in_loop.ensures, c.get-in-While-2.ensures) at c.statement-in-While.ensures))))

pub statement-returns-in-DoWhile : goal.statement-returns-in-DoWhile
statement-returns-in-DoWhile t c = rw (c.in-DoWhile.is, typed_statement-DoWhile) (grows_looped _ _ _ _ _ _ c.put_loop-in-DoWhile.ensures c.start-round-in-DoWhile.ensures (grows_then _ _ _ _ _ _ _ (grows_blocked _ _ _ _ _ _ c.put_block-in-DoWhile.ensures c.start-body-in-DoWhile.ensures (rw (c.in_loop-in-DoWhile.ensures, c.get-in-DoWhile.ensures) at c.statement-in-DoWhile.ensures)) (rw c.get-in-DoWhile-2.ensures at c.test-in-DoWhile.ensures)))

pub statement-returns-in-For : goal.statement-returns-in-For
statement-returns-in-For t c = rw (c.in-For.is, typed_statement-For) (grows_then _ _ _ _ _ _ _ c.effect.ensures (grows_looped _ _ _ _ _ _ c.put_loop-in-For.ensures c.start-round-in-For.ensures (grows_then _ _ _ _ _ _ _ c.condition.ensures (grows_then _ _ _ _ _ _ _ (grows_blocked _ _ _ _ _ _ c.put_block-in-For.ensures c.start-body-in-For.ensures (rw (c.in_loop-in-For.ensures, c.get-in-For.ensures) at c.statement-in-For.ensures)) c.effect-in-For.ensures))))

pub statement-returns-in-ForDeclaration : goal.statement-returns-in-ForDeclaration
statement-returns-in-ForDeclaration t c = rw (c.in-ForDeclaration.is, typed_statement-ForDeclaration) (grows_then _ _ _ _ _ _ _ (rw c.get-in-ForDeclaration.ensures at c.declaration.ensures) (grows_looped _ _ _ _ _ _ c.put_loop-in-ForDeclaration.ensures c.start-round-in-ForDeclaration.ensures (grows_then _ _ _ _ _ _ _ c.condition-in-ForDeclaration.ensures (grows_then _ _ _ _ _ _ _ (grows_blocked _ _ _ _ _ _ c.put_block-in-ForDeclaration.ensures c.start-body-in-ForDeclaration.ensures (rw (c.in_loop-in-ForDeclaration.ensures, c.get-in-ForDeclaration-2.ensures) at c.statement-in-ForDeclaration.ensures)) c.effect-in-ForDeclaration.ensures))))

pub statement-returns-in-Some : goal.statement-returns-in-Some
statement-returns-in-Some t c = rw (c.in-Return.is, typed_statement-Return, c.in-Some.is) (grows_then _ _ _ _ _ _ _ (rw c.get-e-in-Some.ensures at c.expr-in-Some.ensures) (rw c.get-e-in-Some.ensures at c.put_return.ensures))

pub block-loop-item-preserved : goal.block-loop-item-preserved
block-loop-item-preserved t c = record {
  made = more_block c.args.items.now c.loop-item.item-index c.item-item.result (context_of c.args.k.now) (nesting_of c.args.v) _ _
      c.loop-item-test.true c.item-item.is (elim c.match-item.branch [
        | block-in-Statement w ↦ rw (w.out-is, w.in-Statement.is, typed_block_item-Statement) (grows_then _ _ _ _ _ _ _ c.loop-item.invariant.made w.statement.ensures)
        | block-in-Declaration w ↦ rw (w.out-is, w.in-Declaration.is, typed_block_item-Declaration) (grows_then _ _ _ _ _ _ _ c.loop-item.invariant.made w.declaration.ensures)
        | block-in-Case w ↦ rw (w.out-is, w.in-Case.is, typed_block_item-Case) (grows_kept _ _ _ _ _ c.loop-item.invariant.made w.keep.ensures)
        | block-in-Default w ↦ rw (w.out-is, w.in-Default.is, typed_block_item-Default) (grows_kept _ _ _ _ _ c.loop-item.invariant.made w.keep-in-Default.ensures)
      ]);
}

pub pieces-loop-item-init : goal.pieces-loop-item-init
pieces-loop-item-init t c = record { made = pieces_begun _ _ _ _ _ _ c.start-last.ensures; number = refl; few = search rules }

pub pieces-loop-item-preserved : goal.pieces-loop-item-preserved
pieces-loop-item-preserved t c = record {
  made = more_pieces c.args.items.now c.loop-item.item-index c.item-item.result (context_of c.args.k.now) (nesting_of c.args.v) c.args.at _ _ _
      c.loop-item-test.true c.item-item.is (elim c.match-item.branch [
        | pieces-in-Statement w ↦ rw (w.out-is, w.last-is, w.in-Statement.is, typed_block_item-Statement)
            (pieces_statement _ _ _ _ _ _ _ _ _ _ _ c.loop-item.invariant.made w.in_switch-inner.ensures.room w.in_switch-inner.ensures.nesting w.statement.ensures)
        | pieces-in-Declaration w ↦ rw (w.out-is, w.last-is, w.in-Declaration.is, typed_block_item-Declaration)
            (pieces_declaration _ _ _ _ _ _ _ _ _ c.loop-item.invariant.made w.declaration.ensures)
        | pieces-in-Case w ↦ rw (w.out-is, w.last-is, w.in-Case.is, typed_block_item-Case)
            (pieces_case _ _ _ _ _ _ _ _ _ _ _ _ _ c.loop-item.invariant.number c.loop-item.invariant.made w.close.ensures.closed w.close.ensures.begun)
        | pieces-in-Default w ↦ rw (w.out-is, w.last-is, w.in-Default.is, typed_block_item-Default)
            (pieces_default _ _ _ _ _ _ _ _ _ _ _ c.loop-item.invariant.number c.loop-item.invariant.made w.close-in-Default.ensures.closed w.close-in-Default.ensures.begun)
      ]);
  number = more_number c.args.items.now c.loop-item.item-index c.item-item.result _ c.loop-item-test.true c.item-item.is (elim c.match-item.branch [
    | pieces-in-Statement w ↦ rw (w.label-is, w.in-Statement.is, typed_block_item-Statement) c.loop-item.invariant.number
    | pieces-in-Declaration w ↦ rw (w.label-is, w.in-Declaration.is, typed_block_item-Declaration) c.loop-item.invariant.number
    | pieces-in-Case w ↦ rw (w.label-is, w.in-Case.is, typed_block_item-Case) (one_label _ _ c.loop-item.invariant.number)
    | pieces-in-Default w ↦ rw (w.label-is, w.in-Default.is, typed_block_item-Default) (one_label _ _ c.loop-item.invariant.number)
  ]);
  few = elim c.match-item.branch [
    | pieces-in-Statement w ↦ rw w.label-is (let h = c.loop-item.invariant.few in omega arith)
    | pieces-in-Declaration w ↦ rw w.label-is (let h = c.loop-item.invariant.few in omega arith)
    | pieces-in-Case w ↦ rw w.label-is (let h = c.loop-item.invariant.few in omega arith)
    | pieces-in-Default w ↦ rw w.label-is (let h = c.loop-item.invariant.few in omega arith)
  ];
}

pub pieces-returns : goal.pieces-returns
pieces-returns t c =
    let all = take_all c.loop-item.item-index c.args.items.now c.loop-item-test.false in
    pieces_done _ _ _ _ _ _ _ _ _ _ (rw all at c.loop-item.invariant.number) (rw all at c.loop-item.invariant.made) c.put_piece.ensures
