-- Which types, sizes of arrays and members the parts of a unit use, in the order of the text (`c_type_order` has those of expressions and declarators).
use Rattle.std.specs.Prelude.{List, [], ◌++◌, Option, Some, None}
use Rattle.c_types.specs.Table.{Table}
use Rattle.c_tree.specs.TypedTree as typed
use Rattle.c_tree.specs.TypedTree.{TypedExpr, TypedInitialiser, TypedItems, TypedInitDeclarators, TypedDeclaration, TypedStatement, TypedBlockItems, TypedTranslationUnit}
use Rattle.c_typing.specs.Declarators.{Written}
use Rattle.c_type_order.specs.TypesUsed.{Use, used_by, used_by_place, used_by_specifiers, used_by_declarator}

abbrev mutual
  pub used_by_initialiser : Table → TypedInitialiser → List Use
  used_by_initialiser T (typed.Value e) = used_by T e
  used_by_initialiser T (typed.Copied p at) = used_by_place T p
  used_by_initialiser T (typed.Text pieces bytes) = []
  used_by_initialiser T (typed.Listed at items comma t) = used_by_items T items

  pub used_by_items : Table → TypedItems → List Use
  used_by_items T typed.NoItem = []
  used_by_items T (typed.AndItem all offset t i) = used_by_items T all ++ used_by_initialiser T i

-- each declarator with the types that it makes, then its initialiser
abbrev pub used_by_init_declarators : Table → TypedInitDeclarators → List Use
used_by_init_declarators T typed.NoInitDeclarator = []
used_by_init_declarators T (typed.AndPlain all d) = used_by_init_declarators T all ++ used_by_declarator T Written d
used_by_init_declarators T (typed.AndInitialised all d at i) =
    used_by_init_declarators T all ++ used_by_declarator T Written d ++ used_by_initialiser T i

abbrev pub used_by_declaration : Table → TypedDeclaration → List Use
used_by_declaration T (typed.Declare specifiers all) = used_by_specifiers T specifiers ++ used_by_init_declarators T all

abbrev pub used_by_optional : Table → Option TypedExpr → List Use
used_by_optional T None = []
used_by_optional T (Some e) = used_by T e

abbrev mutual
  pub used_by_statement : Table → TypedStatement → List Use
  used_by_statement T (typed.Block at items) = used_by_block_items T items
  used_by_statement T (typed.Express e) = used_by T e
  used_by_statement T typed.Empty = []
  used_by_statement T (typed.If at paren c s) = used_by T c ++ used_by_statement T s
  used_by_statement T (typed.IfElse at paren c s r) = used_by T c ++ used_by_statement T s ++ used_by_statement T r
  used_by_statement T (typed.Switch at paren e brace items) = used_by T e ++ used_by_block_items T items
  used_by_statement T (typed.While at paren c s) = used_by T c ++ used_by_statement T s
  used_by_statement T (typed.DoWhile s at paren c) = used_by_statement T s ++ used_by T c
  used_by_statement T (typed.For at paren a b c s) = used_by_optional T a ++ used_by_optional T b ++ used_by_optional T c ++ used_by_statement T s
  used_by_statement T (typed.ForDeclaration at paren d b c s) =
      used_by_declaration T d ++ used_by_optional T b ++ used_by_optional T c ++ used_by_statement T s
  used_by_statement T (typed.Break at) = []
  used_by_statement T (typed.Continue at) = []
  used_by_statement T (typed.Return at e) = used_by_optional T e

  pub used_by_block_items : Table → TypedBlockItems → List Use
  used_by_block_items T typed.NoBlockItem = []
  used_by_block_items T (typed.AndStatement all s) = used_by_block_items T all ++ used_by_statement T s
  used_by_block_items T (typed.AndDeclaration all d) = used_by_block_items T all ++ used_by_declaration T d
  used_by_block_items T (typed.AndCase all at e value) = used_by_block_items T all ++ used_by T e
  used_by_block_items T (typed.AndDefault all at) = used_by_block_items T all

abbrev pub used_by_unit : Table → TypedTranslationUnit → List Use
used_by_unit T typed.NoExternal = []
used_by_unit T (typed.AndExternal u d) = used_by_unit T u ++ used_by_declaration T d
used_by_unit T (typed.AndFunctionBody u specifiers d brace items) =
    used_by_unit T u ++ used_by_specifiers T specifiers ++ used_by_declarator T Written d ++ used_by_block_items T items
