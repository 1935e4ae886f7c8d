-- What is seen of each variant of the code's typed initialisers, statements and what blocks hold.
use Rattle.std.proofs.Common.{◌≡◌, ap, sym, ◌∙◌, ℕ, ℤ, Bool, List, map, Option, option_map}
use Rattle.cc_base.specs.declared.place.Place.{Place}
use Rattle.cc_base.specs.declared.number.TypeId.{TypeId}
use Rattle.c_tree.specs.TypedTree as typed
use Rattle.c_tree.specs.Views.{added}
use Rattle.c_tree.specs.TypedViews.{typed_expr_view, typed_place_view}
use Rattle.c_tree.specs.TypedStatementViews.{typed_initialiser_layer, typed_item_layer, typed_initialiser_view, typed_item_view, typed_declaration_view, typed_block_item_layer, typed_statement_layer, typed_statement_view, typed_block_item_view, typed_block_view}
use Rattle.c_tree.specs.declared.leaf.StringPiece.{StringPiece}
use Rattle.c_tree.specs.declared.typed_expr.TypedExpr.{TypedExpr}
use Rattle.c_tree.specs.declared.typed_expr.TypedPlace.{TypedPlace}
use Rattle.c_tree.specs.declared.typed_statement.TypedBlockItem.{TypedBlockItem}
use Rattle.c_tree.specs.declared.typed_statement.TypedBlockItem.TheOpen as layer
use Rattle.c_tree.specs.declared.typed_statement.TypedBlockItem.TheFolds.{fold-roll-TypedBlockItem, fold-roll-TypedStatement}
use Rattle.c_tree.specs.declared.typed_statement.TypedBlockItem.TheVariants as item
use Rattle.c_tree.specs.declared.typed_statement.TypedDeclaration.{TypedDeclaration}
use Rattle.c_tree.specs.declared.typed_statement.TypedInitialiser.{TypedInitialiser}
use Rattle.c_tree.specs.declared.typed_statement.TypedInitialiser.TheOpen as initialiser_layers
use Rattle.c_tree.specs.declared.typed_statement.TypedInitialiser.TheFolds.{fold-roll-TypedInitialiser, fold-roll-TypedItem}
use Rattle.c_tree.specs.declared.typed_statement.TypedInitialiser.TheVariants as initialiser
use Rattle.c_tree.specs.declared.typed_statement.TypedItem.{TypedItem, roll-TypedItem}
use Rattle.c_tree.specs.declared.typed_statement.TypedStatement.{TypedStatement}
use Rattle.c_tree.specs.declared.typed_statement.TypedStatement.TheVariants as statement

pub typed_initialiser-Value : (e : TypedExpr) → typed_initialiser_view (initialiser.Value e) ≡ typed.Value (typed_expr_view e)
typed_initialiser-Value e = ap typed_initialiser_view (sym (initialiser.rolls-Value e)) ∙ fold-roll-TypedInitialiser typed.TypedInitialiser (typed.TypedItems → typed.TypedItems) typed_initialiser_layer typed_item_layer (initialiser_layers.Value e)

pub typed_initialiser-Copied : (p : TypedPlace) (at : Place) → typed_initialiser_view (initialiser.Copied p at) ≡ typed.Copied (typed_place_view p) at
typed_initialiser-Copied p at = ap typed_initialiser_view (sym (initialiser.rolls-Copied p at)) ∙ fold-roll-TypedInitialiser typed.TypedInitialiser (typed.TypedItems → typed.TypedItems) typed_initialiser_layer typed_item_layer (initialiser_layers.Copied p at)

pub typed_initialiser-Text : (pieces : List StringPiece) (bytes : List ℕ) → typed_initialiser_view (initialiser.Text pieces bytes) ≡ typed.Text pieces bytes
typed_initialiser-Text pieces bytes = ap typed_initialiser_view (sym (initialiser.rolls-Text pieces bytes)) ∙ fold-roll-TypedInitialiser typed.TypedInitialiser (typed.TypedItems → typed.TypedItems) typed_initialiser_layer typed_item_layer (initialiser_layers.Text pieces bytes)

pub typed_initialiser-Listed : (brace : Place) (items : List TypedItem) (comma : Bool) (t : TypeId) → typed_initialiser_view (initialiser.Listed brace items comma t) ≡ typed.Listed brace (added typed.NoItem (map typed_item_view items)) comma t
typed_initialiser-Listed brace items comma t = ap typed_initialiser_view (sym (initialiser.rolls-Listed brace items comma t)) ∙ fold-roll-TypedInitialiser typed.TypedInitialiser (typed.TypedItems → typed.TypedItems) typed_initialiser_layer typed_item_layer (initialiser_layers.Listed brace items comma t)

pub seen-TypedItem : (offset : ℕ) (ty : TypeId) (initialiser : TypedInitialiser) → typed_item_view (roll-TypedItem (record { offset = offset; ty = ty; initialiser = initialiser })) ≡ (λ before. typed.AndItem before offset ty (typed_initialiser_view initialiser))
seen-TypedItem offset ty initialiser = fold-roll-TypedItem typed.TypedInitialiser (typed.TypedItems → typed.TypedItems) typed_initialiser_layer typed_item_layer (record { offset = offset; ty = ty; initialiser = initialiser })

pub typed_block_item-Statement : (s : TypedStatement) → typed_block_item_view (item.Statement s) ≡ (λ before. typed.AndStatement before (typed_statement_view s))
typed_block_item-Statement s = ap typed_block_item_view (sym (item.rolls-Statement s)) ∙ fold-roll-TypedBlockItem (typed.TypedBlockItems → typed.TypedBlockItems) typed.TypedStatement typed_block_item_layer typed_statement_layer (layer.Statement s)

pub typed_block_item-Declaration : (d : TypedDeclaration) → typed_block_item_view (item.Declaration d) ≡ (λ before. typed.AndDeclaration before (typed_declaration_view d))
typed_block_item-Declaration d = ap typed_block_item_view (sym (item.rolls-Declaration d)) ∙ fold-roll-TypedBlockItem (typed.TypedBlockItems → typed.TypedBlockItems) typed.TypedStatement typed_block_item_layer typed_statement_layer (layer.Declaration d)

pub typed_block_item-Case : (at : Place) (e : TypedExpr) (value : ℤ) → typed_block_item_view (item.Case at e value) ≡ (λ before. typed.AndCase before at (typed_expr_view e) value)
typed_block_item-Case at e value = ap typed_block_item_view (sym (item.rolls-Case at e value)) ∙ fold-roll-TypedBlockItem (typed.TypedBlockItems → typed.TypedBlockItems) typed.TypedStatement typed_block_item_layer typed_statement_layer (layer.Case at e value)

pub typed_block_item-Default : (at : Place) → typed_block_item_view (item.Default at) ≡ (λ before. typed.AndDefault before at)
typed_block_item-Default at = ap typed_block_item_view (sym (item.rolls-Default at)) ∙ fold-roll-TypedBlockItem (typed.TypedBlockItems → typed.TypedBlockItems) typed.TypedStatement typed_block_item_layer typed_statement_layer (layer.Default at)

pub typed_statement-Block : (brace : Place) (items : List TypedBlockItem) → typed_statement_view (statement.Block brace items) ≡ typed.Block brace (typed_block_view items)
typed_statement-Block brace items = ap typed_statement_view (sym (statement.rolls-Block brace items)) ∙ fold-roll-TypedStatement (typed.TypedBlockItems → typed.TypedBlockItems) typed.TypedStatement typed_block_item_layer typed_statement_layer (layer.Block brace items)

pub typed_statement-Express : (e : TypedExpr) → typed_statement_view (statement.Express e) ≡ typed.Express (typed_expr_view e)
typed_statement-Express e = ap typed_statement_view (sym (statement.rolls-Express e)) ∙ fold-roll-TypedStatement (typed.TypedBlockItems → typed.TypedBlockItems) typed.TypedStatement typed_block_item_layer typed_statement_layer (layer.Express e)

pub typed_statement-Empty : typed_statement_view statement.Empty ≡ typed.Empty
typed_statement-Empty = ap typed_statement_view (sym (statement.rolls-Empty)) ∙ fold-roll-TypedStatement (typed.TypedBlockItems → typed.TypedBlockItems) typed.TypedStatement typed_block_item_layer typed_statement_layer layer.Empty

pub typed_statement-If : (at : Place) (paren : Place) (test : TypedExpr) (s : TypedStatement) → typed_statement_view (statement.If at paren test s) ≡ typed.If at paren (typed_expr_view test) (typed_statement_view s)
typed_statement-If at paren test s = ap typed_statement_view (sym (statement.rolls-If at paren test s)) ∙ fold-roll-TypedStatement (typed.TypedBlockItems → typed.TypedBlockItems) typed.TypedStatement typed_block_item_layer typed_statement_layer (layer.If at paren test s)

pub typed_statement-IfElse : (at : Place) (paren : Place) (test : TypedExpr) (s : TypedStatement) (other : TypedStatement) → typed_statement_view (statement.IfElse at paren test s other) ≡ typed.IfElse at paren (typed_expr_view test) (typed_statement_view s) (typed_statement_view other)
typed_statement-IfElse at paren test s other = ap typed_statement_view (sym (statement.rolls-IfElse at paren test s other)) ∙ fold-roll-TypedStatement (typed.TypedBlockItems → typed.TypedBlockItems) typed.TypedStatement typed_block_item_layer typed_statement_layer (layer.IfElse at paren test s other)

pub typed_statement-Switch : (at : Place) (paren : Place) (e : TypedExpr) (brace : Place) (items : List TypedBlockItem) → typed_statement_view (statement.Switch at paren e brace items) ≡ typed.Switch at paren (typed_expr_view e) brace (typed_block_view items)
typed_statement-Switch at paren e brace items = ap typed_statement_view (sym (statement.rolls-Switch at paren e brace items)) ∙ fold-roll-TypedStatement (typed.TypedBlockItems → typed.TypedBlockItems) typed.TypedStatement typed_block_item_layer typed_statement_layer (layer.Switch at paren e brace items)

pub typed_statement-While : (at : Place) (paren : Place) (test : TypedExpr) (s : TypedStatement) → typed_statement_view (statement.While at paren test s) ≡ typed.While at paren (typed_expr_view test) (typed_statement_view s)
typed_statement-While at paren test s = ap typed_statement_view (sym (statement.rolls-While at paren test s)) ∙ fold-roll-TypedStatement (typed.TypedBlockItems → typed.TypedBlockItems) typed.TypedStatement typed_block_item_layer typed_statement_layer (layer.While at paren test s)

pub typed_statement-DoWhile : (s : TypedStatement) (at : Place) (paren : Place) (test : TypedExpr) → typed_statement_view (statement.DoWhile s at paren test) ≡ typed.DoWhile (typed_statement_view s) at paren (typed_expr_view test)
typed_statement-DoWhile s at paren test = ap typed_statement_view (sym (statement.rolls-DoWhile s at paren test)) ∙ fold-roll-TypedStatement (typed.TypedBlockItems → typed.TypedBlockItems) typed.TypedStatement typed_block_item_layer typed_statement_layer (layer.DoWhile s at paren test)

pub typed_statement-For : (at : Place) (paren : Place) (start : Option TypedExpr) (test : Option TypedExpr) (step : Option TypedExpr) (s : TypedStatement) → typed_statement_view (statement.For at paren start test step s) ≡ typed.For at paren (option_map typed_expr_view start) (option_map typed_expr_view test) (option_map typed_expr_view step) (typed_statement_view s)
typed_statement-For at paren start test step s = ap typed_statement_view (sym (statement.rolls-For at paren start test step s)) ∙ fold-roll-TypedStatement (typed.TypedBlockItems → typed.TypedBlockItems) typed.TypedStatement typed_block_item_layer typed_statement_layer (layer.For at paren start test step s)

pub typed_statement-ForDeclaration : (at : Place) (paren : Place) (start : TypedDeclaration) (test : Option TypedExpr) (step : Option TypedExpr) (s : TypedStatement) → typed_statement_view (statement.ForDeclaration at paren start test step s) ≡ typed.ForDeclaration at paren (typed_declaration_view start) (option_map typed_expr_view test) (option_map typed_expr_view step) (typed_statement_view s)
typed_statement-ForDeclaration at paren start test step s = ap typed_statement_view (sym (statement.rolls-ForDeclaration at paren start test step s)) ∙ fold-roll-TypedStatement (typed.TypedBlockItems → typed.TypedBlockItems) typed.TypedStatement typed_block_item_layer typed_statement_layer (layer.ForDeclaration at paren start test step s)

pub typed_statement-Break : (at : Place) → typed_statement_view (statement.Break at) ≡ typed.Break at
typed_statement-Break at = ap typed_statement_view (sym (statement.rolls-Break at)) ∙ fold-roll-TypedStatement (typed.TypedBlockItems → typed.TypedBlockItems) typed.TypedStatement typed_block_item_layer typed_statement_layer (layer.Break at)

pub typed_statement-Continue : (at : Place) → typed_statement_view (statement.Continue at) ≡ typed.Continue at
typed_statement-Continue at = ap typed_statement_view (sym (statement.rolls-Continue at)) ∙ fold-roll-TypedStatement (typed.TypedBlockItems → typed.TypedBlockItems) typed.TypedStatement typed_block_item_layer typed_statement_layer (layer.Continue at)

pub typed_statement-Return : (at : Place) (e : Option TypedExpr) → typed_statement_view (statement.Return at e) ≡ typed.Return at (option_map typed_expr_view e)
typed_statement-Return at e = ap typed_statement_view (sym (statement.rolls-Return at e)) ∙ fold-roll-TypedStatement (typed.TypedBlockItems → typed.TypedBlockItems) typed.TypedStatement typed_block_item_layer typed_statement_layer (layer.Return at e)

pub ruleset typed_statement_views = (typed_initialiser-Value, typed_initialiser-Copied, typed_initialiser-Text, typed_initialiser-Listed, seen-TypedItem, typed_block_item-Statement, typed_block_item-Declaration, typed_block_item-Case, typed_block_item-Default, typed_statement-Block, typed_statement-Express, typed_statement-Empty, typed_statement-If, typed_statement-IfElse, typed_statement-Switch, typed_statement-While, typed_statement-DoWhile, typed_statement-For, typed_statement-ForDeclaration, typed_statement-Break, typed_statement-Continue, typed_statement-Return)
