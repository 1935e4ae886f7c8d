-- What is seen of each variant of the code's initialisers, statements and what blocks hold.
use Rattle.std.proofs.Common.{◌≡◌, ap, sym, ◌∙◌, Bool, List, map, Option, option_map}
use Rattle.cc_base.specs.declared.place.Place.{Place}
use Rattle.c_tree.specs.Tree as tree
use Rattle.c_tree.specs.Views.{expr_view}
use Rattle.c_tree.specs.StatementViews.{items_of, initialiser_layer, initialiser_view, declaration_view, block_item_layer, statement_layer, statement_view, block_item_view, block_view}
use Rattle.c_tree.specs.declared.expr.Expr.{Expr}
use Rattle.c_tree.specs.declared.statement.BlockItem.{BlockItem}
use Rattle.c_tree.specs.declared.statement.BlockItem.TheOpen as layer
use Rattle.c_tree.specs.declared.statement.BlockItem.TheFolds.{fold-roll-BlockItem, fold-roll-Statement}
use Rattle.c_tree.specs.declared.statement.BlockItem.TheVariants as item
use Rattle.c_tree.specs.declared.statement.Declaration.{Declaration}
use Rattle.c_tree.specs.declared.statement.Initialiser.{Initialiser}
use Rattle.c_tree.specs.declared.statement.Initialiser.TheOpen as initialiser_layers
use Rattle.c_tree.specs.declared.statement.Initialiser.TheFolds.{fold-roll-Initialiser}
use Rattle.c_tree.specs.declared.statement.Initialiser.TheVariants as initialiser
use Rattle.c_tree.specs.declared.statement.Statement.{Statement}
use Rattle.c_tree.specs.declared.statement.Statement.TheVariants as statement

pub view_initialiser-Value : (e : Expr) → initialiser_view (initialiser.Value e) ≡ tree.Value (expr_view e)
view_initialiser-Value e = ap initialiser_view (sym (initialiser.rolls-Value e)) ∙ fold-roll-Initialiser tree.Initialiser initialiser_layer (initialiser_layers.Value e)

pub view_initialiser-Listed : (brace : Place) (items : List Initialiser) (comma : Bool) → initialiser_view (initialiser.Listed brace items comma) ≡ tree.Listed brace (items_of (map initialiser_view items)) comma
view_initialiser-Listed brace items comma = ap initialiser_view (sym (initialiser.rolls-Listed brace items comma)) ∙ fold-roll-Initialiser tree.Initialiser initialiser_layer (initialiser_layers.Listed brace items comma)

pub view_item-Statement : (s : Statement) → block_item_view (item.Statement s) ≡ (λ before. tree.AndStatement before (statement_view s))
view_item-Statement s = ap block_item_view (sym (item.rolls-Statement s)) ∙ fold-roll-BlockItem (tree.BlockItems → tree.BlockItems) tree.Statement block_item_layer statement_layer (layer.Statement s)

pub view_item-Declaration : (d : Declaration) → block_item_view (item.Declaration d) ≡ (λ before. tree.AndDeclaration before (declaration_view d))
view_item-Declaration d = ap block_item_view (sym (item.rolls-Declaration d)) ∙ fold-roll-BlockItem (tree.BlockItems → tree.BlockItems) tree.Statement block_item_layer statement_layer (layer.Declaration d)

pub view_item-Case : (at : Place) (e : Expr) → block_item_view (item.Case at e) ≡ (λ before. tree.AndCase before at (expr_view e))
view_item-Case at e = ap block_item_view (sym (item.rolls-Case at e)) ∙ fold-roll-BlockItem (tree.BlockItems → tree.BlockItems) tree.Statement block_item_layer statement_layer (layer.Case at e)

pub view_item-Default : (at : Place) → block_item_view (item.Default at) ≡ (λ before. tree.AndDefault before at)
view_item-Default at = ap block_item_view (sym (item.rolls-Default at)) ∙ fold-roll-BlockItem (tree.BlockItems → tree.BlockItems) tree.Statement block_item_layer statement_layer (layer.Default at)

pub view_statement-Block : (brace : Place) (items : List BlockItem) → statement_view (statement.Block brace items) ≡ tree.Block brace (block_view items)
view_statement-Block brace items = ap statement_view (sym (statement.rolls-Block brace items)) ∙ fold-roll-Statement (tree.BlockItems → tree.BlockItems) tree.Statement block_item_layer statement_layer (layer.Block brace items)

pub view_statement-Express : (e : Expr) → statement_view (statement.Express e) ≡ tree.Express (expr_view e)
view_statement-Express e = ap statement_view (sym (statement.rolls-Express e)) ∙ fold-roll-Statement (tree.BlockItems → tree.BlockItems) tree.Statement block_item_layer statement_layer (layer.Express e)

pub view_statement-Empty : statement_view statement.Empty ≡ tree.Empty
view_statement-Empty = ap statement_view (sym (statement.rolls-Empty)) ∙ fold-roll-Statement (tree.BlockItems → tree.BlockItems) tree.Statement block_item_layer statement_layer layer.Empty

pub view_statement-If : (at : Place) (paren : Place) (test : Expr) (s : Statement) → statement_view (statement.If at paren test s) ≡ tree.If at paren (expr_view test) (statement_view s)
view_statement-If at paren test s = ap statement_view (sym (statement.rolls-If at paren test s)) ∙ fold-roll-Statement (tree.BlockItems → tree.BlockItems) tree.Statement block_item_layer statement_layer (layer.If at paren test s)

pub view_statement-IfElse : (at : Place) (paren : Place) (test : Expr) (s : Statement) (other : Statement) → statement_view (statement.IfElse at paren test s other) ≡ tree.IfElse at paren (expr_view test) (statement_view s) (statement_view other)
view_statement-IfElse at paren test s other = ap statement_view (sym (statement.rolls-IfElse at paren test s other)) ∙ fold-roll-Statement (tree.BlockItems → tree.BlockItems) tree.Statement block_item_layer statement_layer (layer.IfElse at paren test s other)

pub view_statement-Switch : (at : Place) (paren : Place) (e : Expr) (brace : Place) (items : List BlockItem) → statement_view (statement.Switch at paren e brace items) ≡ tree.Switch at paren (expr_view e) brace (block_view items)
view_statement-Switch at paren e brace items = ap statement_view (sym (statement.rolls-Switch at paren e brace items)) ∙ fold-roll-Statement (tree.BlockItems → tree.BlockItems) tree.Statement block_item_layer statement_layer (layer.Switch at paren e brace items)

pub view_statement-While : (at : Place) (paren : Place) (test : Expr) (s : Statement) → statement_view (statement.While at paren test s) ≡ tree.While at paren (expr_view test) (statement_view s)
view_statement-While at paren test s = ap statement_view (sym (statement.rolls-While at paren test s)) ∙ fold-roll-Statement (tree.BlockItems → tree.BlockItems) tree.Statement block_item_layer statement_layer (layer.While at paren test s)

pub view_statement-DoWhile : (s : Statement) (at : Place) (paren : Place) (test : Expr) → statement_view (statement.DoWhile s at paren test) ≡ tree.DoWhile (statement_view s) at paren (expr_view test)
view_statement-DoWhile s at paren test = ap statement_view (sym (statement.rolls-DoWhile s at paren test)) ∙ fold-roll-Statement (tree.BlockItems → tree.BlockItems) tree.Statement block_item_layer statement_layer (layer.DoWhile s at paren test)

pub view_statement-For : (at : Place) (paren : Place) (start : Option Expr) (test : Option Expr) (step : Option Expr) (s : Statement) → statement_view (statement.For at paren start test step s) ≡ tree.For at paren (option_map expr_view start) (option_map expr_view test) (option_map expr_view step) (statement_view s)
view_statement-For at paren start test step s = ap statement_view (sym (statement.rolls-For at paren start test step s)) ∙ fold-roll-Statement (tree.BlockItems → tree.BlockItems) tree.Statement block_item_layer statement_layer (layer.For at paren start test step s)

pub view_statement-ForDeclaration : (at : Place) (paren : Place) (start : Declaration) (test : Option Expr) (step : Option Expr) (s : Statement) → statement_view (statement.ForDeclaration at paren start test step s) ≡ tree.ForDeclaration at paren (declaration_view start) (option_map expr_view test) (option_map expr_view step) (statement_view s)
view_statement-ForDeclaration at paren start test step s = ap statement_view (sym (statement.rolls-ForDeclaration at paren start test step s)) ∙ fold-roll-Statement (tree.BlockItems → tree.BlockItems) tree.Statement block_item_layer statement_layer (layer.ForDeclaration at paren start test step s)

pub view_statement-Break : (at : Place) → statement_view (statement.Break at) ≡ tree.Break at
view_statement-Break at = ap statement_view (sym (statement.rolls-Break at)) ∙ fold-roll-Statement (tree.BlockItems → tree.BlockItems) tree.Statement block_item_layer statement_layer (layer.Break at)

pub view_statement-Continue : (at : Place) → statement_view (statement.Continue at) ≡ tree.Continue at
view_statement-Continue at = ap statement_view (sym (statement.rolls-Continue at)) ∙ fold-roll-Statement (tree.BlockItems → tree.BlockItems) tree.Statement block_item_layer statement_layer (layer.Continue at)

pub view_statement-Return : (at : Place) (e : Option Expr) → statement_view (statement.Return at e) ≡ tree.Return at (option_map expr_view e)
view_statement-Return at e = ap statement_view (sym (statement.rolls-Return at e)) ∙ fold-roll-Statement (tree.BlockItems → tree.BlockItems) tree.Statement block_item_layer statement_layer (layer.Return at e)

pub ruleset statement_views = (view_initialiser-Value, view_initialiser-Listed, view_item-Statement, view_item-Declaration, view_item-Case, view_item-Default, view_statement-Block, view_statement-Express, view_statement-Empty, view_statement-If, view_statement-IfElse, view_statement-Switch, view_statement-While, view_statement-DoWhile, view_statement-For, view_statement-ForDeclaration, view_statement-Break, view_statement-Continue, view_statement-Return)
