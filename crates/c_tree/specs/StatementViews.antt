-- Declarations, statements and units of the code as plain data.
use Rattle.std.specs.Prelude.{List, map, fold, option_map}
use Rattle.c_tree.specs.Tree as tree
use Rattle.c_tree.specs.Views.{added, declarator_view, expr_view, specifiers_view}
use Rattle.c_tree.specs.declared.statement.BlockItem.{BlockItem}
use Rattle.c_tree.specs.declared.statement.BlockItem.TheOpen as layer
use Rattle.c_tree.specs.declared.statement.BlockItem.TheFolds.{fold-BlockItem, fold-Statement}
use Rattle.c_tree.specs.declared.statement.Declaration.{Declaration}
use Rattle.c_tree.specs.declared.statement.External.{External}
use Rattle.c_tree.specs.declared.statement.External.TheVariants as external
use Rattle.c_tree.specs.declared.statement.InitDeclarator.{InitDeclarator}
use Rattle.c_tree.specs.declared.statement.InitDeclarator.TheVariants as declarator
use Rattle.c_tree.specs.declared.statement.Initialiser.{Initialiser}
use Rattle.c_tree.specs.declared.statement.Initialiser.TheOpen as initialiser
use Rattle.c_tree.specs.declared.statement.Initialiser.TheFolds.{fold-Initialiser}
use Rattle.c_tree.specs.declared.statement.Statement.{Statement}
use Rattle.c_tree.specs.declared.statement.Unit.{Unit as CodeUnit}

abbrev pub items_of : List tree.Initialiser → tree.Items
items_of items = fold tree.AndItem tree.NoItem items

abbrev pub initialiser_layer : initialiser.Initialiser-F tree.Initialiser → tree.Initialiser
initialiser_layer (initialiser.Value e) = tree.Value (expr_view e)
initialiser_layer (initialiser.Listed brace items comma) = tree.Listed brace (items_of items) comma

abbrev pub initialiser_view : Initialiser → tree.Initialiser
initialiser_view = fold-Initialiser tree.Initialiser initialiser_layer

abbrev pub init_declarator_view : InitDeclarator → tree.InitDeclarators → tree.InitDeclarators
init_declarator_view (declarator.Plain d) before = tree.AndPlain before (declarator_view d)
init_declarator_view (declarator.Initialised d at value) before = tree.AndInitialised before (declarator_view d) at (initialiser_view value)

abbrev pub declaration_view : Declaration → tree.Declaration
declaration_view d = tree.Declare (specifiers_view d.specifiers) (added tree.NoInitDeclarator (map init_declarator_view d.declarators))

abbrev pub block_item_layer : layer.BlockItem-F (tree.BlockItems → tree.BlockItems) tree.Statement → tree.BlockItems → tree.BlockItems
block_item_layer (layer.Statement s) before = tree.AndStatement before s
block_item_layer (layer.Declaration d) before = tree.AndDeclaration before (declaration_view d)
block_item_layer (layer.Case at e) before = tree.AndCase before at (expr_view e)
block_item_layer (layer.Default at) before = tree.AndDefault before at

abbrev pub statement_layer : layer.Statement-F (tree.BlockItems → tree.BlockItems) tree.Statement → tree.Statement
statement_layer (layer.Block brace items) = tree.Block brace (added tree.NoBlockItem items)
statement_layer (layer.Express e) = tree.Express (expr_view e)
statement_layer layer.Empty = tree.Empty
statement_layer (layer.If at paren test s) = tree.If at paren (expr_view test) s
statement_layer (layer.IfElse at paren test s other) = tree.IfElse at paren (expr_view test) s other
statement_layer (layer.Switch at paren e brace items) = tree.Switch at paren (expr_view e) brace (added tree.NoBlockItem items)
statement_layer (layer.While at paren test s) = tree.While at paren (expr_view test) s
statement_layer (layer.DoWhile s at paren test) = tree.DoWhile s at paren (expr_view test)
statement_layer (layer.For at paren start test step s) =
    tree.For at paren (option_map expr_view start) (option_map expr_view test) (option_map expr_view step) s
statement_layer (layer.ForDeclaration at paren start test step s) =
    tree.ForDeclaration at paren (declaration_view start) (option_map expr_view test) (option_map expr_view step) s
statement_layer (layer.Break at) = tree.Break at
statement_layer (layer.Continue at) = tree.Continue at
statement_layer (layer.Return at e) = tree.Return at (option_map expr_view e)

abbrev pub statement_view : Statement → tree.Statement
statement_view = fold-Statement (tree.BlockItems → tree.BlockItems) tree.Statement block_item_layer statement_layer

abbrev pub block_item_view : BlockItem → tree.BlockItems → tree.BlockItems
block_item_view = fold-BlockItem (tree.BlockItems → tree.BlockItems) tree.Statement block_item_layer statement_layer

abbrev pub block_view : List BlockItem → tree.BlockItems
block_view items = added tree.NoBlockItem (map block_item_view items)

abbrev pub external_view : External → tree.TranslationUnit → tree.TranslationUnit
external_view (external.Declaration d) before = tree.AndExternal before (declaration_view d)
external_view (external.Function f) before =
    tree.AndFunctionBody before (specifiers_view f.specifiers) (declarator_view f.declarator) f.brace (block_view f.body)

abbrev pub unit_view : CodeUnit → tree.TranslationUnit
unit_view unit = added tree.NoExternal (map external_view unit.externals)
