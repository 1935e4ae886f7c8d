-- Typed declarations, statements and units of the code as plain data.
use Rattle.std.specs.Prelude.{List, map, option_map}
use Rattle.c_tree.specs.TypedTree as typed
use Rattle.c_tree.specs.Views.{added}
use Rattle.c_tree.specs.TypedViews.{typed_declarator_view, typed_expr_view, typed_place_view, typed_specifiers_view}
use Rattle.c_tree.specs.declared.typed_statement.TypedBlockItem.{TypedBlockItem}
use Rattle.c_tree.specs.declared.typed_statement.TypedBlockItem.TheOpen as layer
use Rattle.c_tree.specs.declared.typed_statement.TypedBlockItem.TheFolds.{fold-TypedBlockItem, fold-TypedStatement}
use Rattle.c_tree.specs.declared.typed_statement.TypedDeclaration.{TypedDeclaration}
use Rattle.c_tree.specs.declared.typed_statement.TypedExternal.{TypedExternal}
use Rattle.c_tree.specs.declared.typed_statement.TypedExternal.TheVariants as external
use Rattle.c_tree.specs.declared.typed_statement.TypedInitDeclarator.{TypedInitDeclarator}
use Rattle.c_tree.specs.declared.typed_statement.TypedInitDeclarator.TheVariants as declarator
use Rattle.c_tree.specs.declared.typed_statement.TypedInitialiser.{TypedInitialiser}
use Rattle.c_tree.specs.declared.typed_statement.TypedInitialiser.TheOpen as initialiser
use Rattle.c_tree.specs.declared.typed_statement.TypedInitialiser.TheFolds.{fold-TypedInitialiser, fold-TypedItem}
use Rattle.c_tree.specs.declared.typed_statement.TypedItem.{TypedItem}
use Rattle.c_tree.specs.declared.typed_statement.TypedStatement.{TypedStatement}
use Rattle.c_tree.specs.declared.typed_statement.TypedUnit.{TypedUnit}

abbrev pub typed_initialiser_layer : initialiser.TypedInitialiser-F typed.TypedInitialiser (typed.TypedItems → typed.TypedItems) → typed.TypedInitialiser
typed_initialiser_layer (initialiser.Value e) = typed.Value (typed_expr_view e)
typed_initialiser_layer (initialiser.Copied p at) = typed.Copied (typed_place_view p) at
typed_initialiser_layer (initialiser.Text pieces bytes) = typed.Text pieces bytes
typed_initialiser_layer (initialiser.Listed brace items comma t) = typed.Listed brace (added typed.NoItem items) comma t

abbrev pub typed_item_layer : initialiser.TypedItem-F typed.TypedInitialiser (typed.TypedItems → typed.TypedItems) → typed.TypedItems → typed.TypedItems
typed_item_layer item before = typed.AndItem before item.offset item.ty item.initialiser

abbrev pub typed_initialiser_view : TypedInitialiser → typed.TypedInitialiser
typed_initialiser_view = fold-TypedInitialiser typed.TypedInitialiser (typed.TypedItems → typed.TypedItems) typed_initialiser_layer typed_item_layer

abbrev pub typed_item_view : TypedItem → typed.TypedItems → typed.TypedItems
typed_item_view = fold-TypedItem typed.TypedInitialiser (typed.TypedItems → typed.TypedItems) typed_initialiser_layer typed_item_layer

abbrev pub typed_init_declarator_view : TypedInitDeclarator → typed.TypedInitDeclarators → typed.TypedInitDeclarators
typed_init_declarator_view (declarator.Plain d) before = typed.AndPlain before (typed_declarator_view d)
typed_init_declarator_view (declarator.Initialised d at value) before =
    typed.AndInitialised before (typed_declarator_view d) at (typed_initialiser_view value)

abbrev pub typed_declaration_view : TypedDeclaration → typed.TypedDeclaration
typed_declaration_view d = typed.Declare (typed_specifiers_view d.specifiers) (added typed.NoInitDeclarator (map typed_init_declarator_view d.declarators))

abbrev pub typed_block_item_layer : layer.TypedBlockItem-F (typed.TypedBlockItems → typed.TypedBlockItems) typed.TypedStatement → typed.TypedBlockItems → typed.TypedBlockItems
typed_block_item_layer (layer.Statement s) before = typed.AndStatement before s
typed_block_item_layer (layer.Declaration d) before = typed.AndDeclaration before (typed_declaration_view d)
typed_block_item_layer (layer.Case at e value) before = typed.AndCase before at (typed_expr_view e) value
typed_block_item_layer (layer.Default at) before = typed.AndDefault before at

abbrev pub typed_statement_layer : layer.TypedStatement-F (typed.TypedBlockItems → typed.TypedBlockItems) typed.TypedStatement → typed.TypedStatement
typed_statement_layer (layer.Block brace items) = typed.Block brace (added typed.NoBlockItem items)
typed_statement_layer (layer.Express e) = typed.Express (typed_expr_view e)
typed_statement_layer layer.Empty = typed.Empty
typed_statement_layer (layer.If at paren test s) = typed.If at paren (typed_expr_view test) s
typed_statement_layer (layer.IfElse at paren test s other) = typed.IfElse at paren (typed_expr_view test) s other
typed_statement_layer (layer.Switch at paren e brace items) = typed.Switch at paren (typed_expr_view e) brace (added typed.NoBlockItem items)
typed_statement_layer (layer.While at paren test s) = typed.While at paren (typed_expr_view test) s
typed_statement_layer (layer.DoWhile s at paren test) = typed.DoWhile s at paren (typed_expr_view test)
typed_statement_layer (layer.For at paren start test step s) =
    typed.For at paren (option_map typed_expr_view start) (option_map typed_expr_view test) (option_map typed_expr_view step) s
typed_statement_layer (layer.ForDeclaration at paren start test step s) =
    typed.ForDeclaration at paren (typed_declaration_view start) (option_map typed_expr_view test) (option_map typed_expr_view step) s
typed_statement_layer (layer.Break at) = typed.Break at
typed_statement_layer (layer.Continue at) = typed.Continue at
typed_statement_layer (layer.Return at e) = typed.Return at (option_map typed_expr_view e)

abbrev pub typed_statement_view : TypedStatement → typed.TypedStatement
typed_statement_view = fold-TypedStatement (typed.TypedBlockItems → typed.TypedBlockItems) typed.TypedStatement typed_block_item_layer typed_statement_layer

abbrev pub typed_block_item_view : TypedBlockItem → typed.TypedBlockItems → typed.TypedBlockItems
typed_block_item_view = fold-TypedBlockItem (typed.TypedBlockItems → typed.TypedBlockItems) typed.TypedStatement typed_block_item_layer typed_statement_layer

abbrev pub typed_block_view : List TypedBlockItem → typed.TypedBlockItems
typed_block_view items = added typed.NoBlockItem (map typed_block_item_view items)

abbrev pub typed_external_view : TypedExternal → typed.TypedTranslationUnit → typed.TypedTranslationUnit
typed_external_view (external.Declaration d) before = typed.AndExternal before (typed_declaration_view d)
typed_external_view (external.Function f) before =
    typed.AndFunctionBody before (typed_specifiers_view f.specifiers) (typed_declarator_view f.declarator) f.brace (typed_block_view f.body)

abbrev pub typed_unit_view : TypedUnit → typed.TypedTranslationUnit
typed_unit_view unit = added typed.NoExternal (map typed_external_view unit.externals)
