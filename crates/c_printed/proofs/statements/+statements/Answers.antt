use Rattle.std.proofs.Common.{take}
use Rattle.c_tree.specs.TypedTree as typed
use Rattle.c_tree.specs.TypedStatementViews.{typed_block_item_view, typed_block_view}
use Rattle.c_tree.proofs.TypedStatementViewLaws.{typed_block_item-Statement, typed_block_item-Declaration, typed_block_item-Case, typed_block_item-Default, typed_statement-Block, typed_statement-Express, typed_statement-Empty, typed_statement-If, typed_statement-IfElse, typed_statement-Switch, typed_statement-While, typed_statement-DoWhile, typed_statement-For, typed_statement-ForDeclaration, typed_statement-Break, typed_statement-Continue, typed_statement-Return}
use Rattle.c_printed.proofs.Laws.{prints_nothing, prints_then}
use Rattle.c_tree.proofs.ListLaws.{one_more}
use Rattle.c_printed.proofs.statements.+statements.Goals as goal

pub statement-returns-in-Block : goal.statement-returns-in-Block
statement-returns-in-Block t c = rw (c.in-Block.is, typed_statement-Block) (rw c.as_slice.ensures at c.block.ensures)

pub statement-returns-in-Express : goal.statement-returns-in-Express
statement-returns-in-Express t c = rw (c.in-Express.is, typed_statement-Express) c.expr.ensures

pub statement-returns-in-Empty : goal.statement-returns-in-Empty
statement-returns-in-Empty t c = rw (c.in-Empty.is, typed_statement-Empty) (prints_nothing _)

pub statement-returns-in-If : goal.statement-returns-in-If
statement-returns-in-If t c = rw (c.in-If.is, typed_statement-If) (prints_then _ _ _ _ _ (rw c.get.ensures at c.expr-in-If.ensures) (rw c.get-in-If.ensures at c.statement.ensures))

pub statement-returns-in-IfElse : goal.statement-returns-in-IfElse
statement-returns-in-IfElse t c = rw (c.in-IfElse.is, typed_statement-IfElse) (prints_then _ _ _ _ _ (prints_then _ _ _ _ _ (rw c.get-in-IfElse.ensures at c.expr-in-IfElse.ensures) (rw c.get-in-IfElse-2.ensures at c.statement-in-IfElse.ensures)) (rw c.get-in-IfElse-3.ensures at c.statement-in-IfElse-2.ensures))

pub statement-returns-in-Switch : goal.statement-returns-in-Switch
statement-returns-in-Switch t c = rw (c.in-Switch.is, typed_statement-Switch) (prints_then _ _ _ _ _ (rw c.get-in-Switch.ensures at c.expr-in-Switch.ensures) (rw c.as_slice-in-Switch.ensures at c.block-in-Switch.ensures))

pub statement-returns-in-While : goal.statement-returns-in-While
statement-returns-in-While t c = rw (c.in-While.is, typed_statement-While) (prints_then _ _ _ _ _ (rw c.get-in-While.ensures at c.expr-in-While.ensures) (rw c.get-in-While-2.ensures at c.statement-in-While.ensures))

pub statement-returns-in-DoWhile : goal.statement-returns-in-DoWhile
statement-returns-in-DoWhile t c = rw (c.in-DoWhile.is, typed_statement-DoWhile) (prints_then _ _ _ _ _ (rw c.get-in-DoWhile.ensures at c.statement-in-DoWhile.ensures) (rw c.get-in-DoWhile-2.ensures at c.expr-in-DoWhile.ensures))

pub statement-returns-in-For : goal.statement-returns-in-For
statement-returns-in-For t c = rw (c.in-For.is, typed_statement-For) (prints_then _ _ _ _ _ (prints_then _ _ _ _ _ (prints_then _ _ _ _ _ c.optional.ensures c.optional-in-For.ensures) c.optional-in-For-2.ensures) (rw c.get-in-For.ensures at c.statement-in-For.ensures))

pub statement-returns-in-ForDeclaration : goal.statement-returns-in-ForDeclaration
statement-returns-in-ForDeclaration t c = rw (c.in-ForDeclaration.is, typed_statement-ForDeclaration) (prints_then _ _ _ _ _ (prints_then _ _ _ _ _ (prints_then _ _ _ _ _ (rw c.get-in-ForDeclaration.ensures at c.declaration.ensures) c.optional-in-ForDeclaration.ensures) c.optional-in-ForDeclaration-2.ensures) (rw c.get-in-ForDeclaration-2.ensures at c.statement-in-ForDeclaration.ensures))

pub statement-returns-in-Break : goal.statement-returns-in-Break
statement-returns-in-Break t c = rw (c.in-Break.is, typed_statement-Break) (prints_nothing _)

pub statement-returns-in-Continue : goal.statement-returns-in-Continue
statement-returns-in-Continue t c = rw (c.in-Continue.is, typed_statement-Continue) (prints_nothing _)

pub statement-returns-in-Return : goal.statement-returns-in-Return
statement-returns-in-Return t c = rw (c.in-Return.is, typed_statement-Return) c.optional-in-Return.ensures

pub block-loop-one-init : goal.block-loop-one-init
block-loop-one-init t c = record { found = prints_nothing _ }

pub block-loop-one-preserved : goal.block-loop-one-preserved
block-loop-one-preserved t c = record {
  found = rw (one_more typed_block_item_view c.args.all.now c.loop-one.one-index c.one-item.result c.loop-one-test.true c.one-item.is typed.NoBlockItem)
      (c.block_item.ensures (typed_block_view (take c.loop-one.one-index c.args.all.now)) c.args.out.now c.loop-one.invariant.found);
}

pub block_item-returns-in-Statement : goal.block_item-returns-in-Statement
block_item-returns-in-Statement t c = λ all start before. rw (c.in-Statement.is, typed_block_item-Statement) (prints_then _ _ _ _ _ before c.statement.ensures)

pub block_item-returns-in-Declaration : goal.block_item-returns-in-Declaration
block_item-returns-in-Declaration t c = λ all start before. rw (c.in-Declaration.is, typed_block_item-Declaration) (prints_then _ _ _ _ _ before c.declaration.ensures)

pub block_item-returns-in-Case : goal.block_item-returns-in-Case
block_item-returns-in-Case t c = λ all start before. rw (c.in-Case.is, typed_block_item-Case) (prints_then _ _ _ _ _ before c.expr.ensures)

pub block_item-returns-in-Default : goal.block_item-returns-in-Default
block_item-returns-in-Default t c = λ all start before. rw (c.in-Default.is, typed_block_item-Default) before
