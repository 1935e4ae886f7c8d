-- What initialisers, declarations and statements make is paid for.
use Rattle.std.proofs.Common.{true, false, Option, Some, None}
use Rattle.c_tree.specs.Erasure.{erased_initialiser, erased_items, erased_init_declarators, erased_declaration, erased_optional, erased_statement, erased_block_items}
use Rattle.c_tree.specs.Spelling.{initialiser_spelling, before_item, before_init_declarator, declaration_spelling, optional_spelling, statement_spelling, block_items_spelling}
use Rattle.c_tree.specs.TypedTree as typed
use Rattle.c_tree.specs.TypedTree.{TypedExpr, TypedInitialiser, TypedItems, TypedInitDeclarators, TypedDeclaration, TypedStatement, TypedBlockItems}
use Rattle.c_tree.specs.TypedParts.{made_by_initialiser, made_by_items, made_by_init_declarators, made_by_declaration, made_by_optional, made_by_statement, made_by_block_items}
use Rattle.c_tree_sizes.proofs.Commas.{items-end, init_declarators-end}
use Rattle.c_tree_sizes.proofs.PaidTrees.{expr-paid, place-paid, specifiers-paid, declarator-paid}
use Rattle.c_tree_sizes.proofs.Paying.{IsPaid, nothing, then, three, four, more, followed, fits, with_one}

mutual
  initialiser-paid : (i : TypedInitialiser) → IsPaid 0 (made_by_initialiser i) (initialiser_spelling (erased_initialiser i))
  initialiser-paid (typed.Value e) = expr-paid e
  initialiser-paid (typed.Copied p at) = with_one _ (place-paid p)
  initialiser-paid (typed.Text pieces bytes) = nothing
  initialiser-paid (typed.Listed at items true t) = more (followed _ (items-paid items))
  initialiser-paid (typed.Listed at items false t) = more (fits (items-paid items) (items-end _ (erased_items items)))

  items-paid : (all : TypedItems) → IsPaid 0 (made_by_items all) (before_item (erased_items all))
  items-paid typed.NoItem = nothing
  items-paid (typed.AndItem all offset t i) = then (items-paid all) (followed _ (initialiser-paid i))

init_declarators-paid : (all : TypedInitDeclarators) → IsPaid 0 (made_by_init_declarators all) (before_init_declarator (erased_init_declarators all))
init_declarators-paid typed.NoInitDeclarator = nothing
init_declarators-paid (typed.AndPlain all d) = then (init_declarators-paid all) (followed _ (declarator-paid d))
init_declarators-paid (typed.AndInitialised all d at i) =
    three (init_declarators-paid all) (declarator-paid d) (more (followed _ (initialiser-paid i)))

pub declaration-paid : (d : TypedDeclaration) → IsPaid 0 (made_by_declaration d) (declaration_spelling (erased_declaration d))
declaration-paid (typed.Declare specifiers all) =
    then (specifiers-paid specifiers) (fits (init_declarators-paid all) (init_declarators-end _ (erased_init_declarators all)))

optional-paid : (o : Option TypedExpr) → IsPaid 0 (made_by_optional o) (optional_spelling (erased_optional o))
optional-paid None = nothing
optional-paid (Some e) = expr-paid e

mutual
  statement-paid : (s : TypedStatement) → IsPaid 0 (made_by_statement s) (statement_spelling (erased_statement s))
  statement-paid (typed.Block at items) = more (followed _ (block_items-paid items))
  statement-paid (typed.Express e) = followed _ (expr-paid e)
  statement-paid typed.Empty = nothing
  statement-paid (typed.If at paren c s) = more (more (then (expr-paid c) (more (statement-paid s))))
  statement-paid (typed.IfElse at paren c s r) =
      more (more (three (expr-paid c) (more (statement-paid s)) (more (statement-paid r))))
  statement-paid (typed.Switch at paren e brace items) = more (more (then (expr-paid e) (more (more (followed _ (block_items-paid items))))))
  statement-paid (typed.While at paren c s) = more (more (then (expr-paid c) (more (statement-paid s))))
  statement-paid (typed.DoWhile s at paren c) = more (then (statement-paid s) (more (more (followed _ (expr-paid c)))))
  statement-paid (typed.For at paren a b c s) =
      more (more (four (optional-paid a) (more (optional-paid b)) (more (optional-paid c)) (more (statement-paid s))))
  statement-paid (typed.ForDeclaration at paren d b c s) =
      more (more (four (declaration-paid d) (optional-paid b) (more (optional-paid c)) (more (statement-paid s))))
  statement-paid (typed.Break at) = nothing
  statement-paid (typed.Continue at) = nothing
  statement-paid (typed.Return at e) = more (followed _ (optional-paid e))

  pub block_items-paid : (all : TypedBlockItems) → IsPaid 0 (made_by_block_items all) (block_items_spelling (erased_block_items all))
  block_items-paid typed.NoBlockItem = nothing
  block_items-paid (typed.AndStatement all s) = then (block_items-paid all) (statement-paid s)
  block_items-paid (typed.AndDeclaration all d) = then (block_items-paid all) (declaration-paid d)
  block_items-paid (typed.AndCase all at e value) = then (block_items-paid all) (more (followed _ (expr-paid e)))
  block_items-paid (typed.AndDefault all at) = followed _ (block_items-paid all)
