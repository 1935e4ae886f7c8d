-- A list that is written with commas between its elements, and one token after it, is no shorter than with a comma after each element.
use Rattle.std.proofs.Common.{◌≤◌, List, [], ◌∷◌, ◌++◌, length, arith, length-append}
use Rattle.c_lexer.specs.declared.punctuator.Punctuator.TheVariants as mark
use Rattle.c_tree.specs.Spelling.{name_symbol, comma, colon, expr_spelling, arguments_spelling, before_argument, declarator_spelling, member_declarators_spelling, before_declarator, enumerators_spelling, before_enumerator, parameters_spelling, before_parameter, specifiers_spelling, declared_spelling, initialiser_spelling, items_spelling, before_item, before_init_declarator, init_declarators_spelling}
use Rattle.c_tree.specs.Symbols.{Symbol, Mark}
use Rattle.c_tree.specs.Tree as tree

-- an element that ends a list
ends : (t : Symbol) (before one : List Symbol) (c : Symbol) → length (before ++ (one ++ c ∷ [])) ≤ length ((before ++ one) ++ t ∷ [])
ends t before one c =
    omega (arith, length-append before (one ++ c ∷ []), length-append one (c ∷ []), length-append (before ++ one) (t ∷ []), length-append before one)

module _ (t : Symbol) where
  pub arguments-end : (all : tree.Arguments) → length (before_argument all) ≤ length (arguments_spelling all ++ t ∷ [])
  arguments-end tree.NoArgument = omega arith
  arguments-end (tree.AndArgument all e) = ends t (before_argument all) (expr_spelling e) _

  pub row-ends : (all : tree.MemberDeclarators) → length (before_declarator all) ≤ length (member_declarators_spelling all ++ t ∷ [])
  row-ends tree.NoDeclarator = omega arith
  row-ends (tree.AndDeclarator all d) = ends t (before_declarator all) (declarator_spelling d) _
  row-ends (tree.AndBitField all d) =
      omega (
        arith,
        length-append (before_declarator all) (declarator_spelling d ++ (colon ++ comma)),
        length-append (declarator_spelling d) (colon ++ comma),
        length-append (before_declarator all ++ (declarator_spelling d ++ colon)) (t ∷ []),
        length-append (before_declarator all) (declarator_spelling d ++ colon),
        length-append (declarator_spelling d) colon,
      )
  row-ends (tree.AndUnnamedBitField all) = ends t (before_declarator all) colon _

  pub enumerators-end : (all : tree.Enumerators) → length (before_enumerator all) ≤ length (enumerators_spelling all ++ t ∷ [])
  enumerators-end tree.NoEnumerator = omega arith
  enumerators-end (tree.AndEnumerator all name) = ends t (before_enumerator all) (name_symbol name ∷ []) _
  enumerators-end (tree.AndValued all name at e) = ends t (before_enumerator all) (name_symbol name ∷ Mark mark.Equal at ∷ expr_spelling e) _

  pub parameters-end : (all : tree.Parameters) → length (before_parameter all) ≤ length (parameters_spelling all ++ t ∷ [])
  parameters-end tree.NoParameter = omega arith
  parameters-end (tree.AndParameter all specifiers d) =
      let xs = specifiers_spelling specifiers in
      let ys = declared_spelling d in
      omega (
        arith,
        length-append (before_parameter all) (xs ++ (ys ++ comma)),
        length-append xs (ys ++ comma),
        length-append ys comma,
        length-append (before_parameter all ++ (xs ++ ys)) (t ∷ []),
        length-append (before_parameter all) (xs ++ ys),
        length-append xs ys,
      )

  pub items-end : (all : tree.Items) → length (before_item all) ≤ length (items_spelling all ++ t ∷ [])
  items-end tree.NoItem = omega arith
  items-end (tree.AndItem all i) = ends t (before_item all) (initialiser_spelling i) _
  items-end (tree.AndMemberDesignator all at) = ends t (before_item all) (Mark mark.Dot at ∷ []) _
  items-end (tree.AndIndexDesignator all at) = ends t (before_item all) (Mark mark.OpenBracket at ∷ []) _

  pub init_declarators-end : (all : tree.InitDeclarators) → length (before_init_declarator all) ≤ length (init_declarators_spelling all ++ t ∷ [])
  init_declarators-end tree.NoInitDeclarator = omega arith
  init_declarators-end (tree.AndPlain all d) = ends t (before_init_declarator all) (declarator_spelling d) _
  init_declarators-end (tree.AndInitialised all d at i) =
      let xs = declarator_spelling d in
      let ys = initialiser_spelling i in
      omega (
        arith,
        length-append (before_init_declarator all) (xs ++ Mark mark.Equal at ∷ (ys ++ comma)),
        length-append xs (Mark mark.Equal at ∷ (ys ++ comma)),
        length-append ys comma,
        length-append (before_init_declarator all ++ (xs ++ Mark mark.Equal at ∷ ys)) (t ∷ []),
        length-append (before_init_declarator all) (xs ++ Mark mark.Equal at ∷ ys),
        length-append xs (Mark mark.Equal at ∷ ys),
      )
