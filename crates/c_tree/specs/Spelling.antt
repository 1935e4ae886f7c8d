-- The tokens that a part of the tree is written with.
use Rattle.std.specs.Prelude.{true, false, List, [], ◌∷◌, ◌++◌, map, Option, Some, None}
use Rattle.c_lexer.specs.declared.word.Keyword.TheVariants as keyword
use Rattle.c_lexer.specs.declared.punctuator.Punctuator.TheVariants as mark
use Rattle.c_tree.specs.declared.leaf.Identifier.{Identifier}
use Rattle.c_tree.specs.declared.leaf.StringPiece.{StringPiece}
use Rattle.c_tree.specs.declared.leaf.Word.{Word as PlacedWord}
use Rattle.c_tree.specs.declared.leaf.Star.{Star}
use Rattle.c_tree.specs.declared.leaf.Separator.TheVariants as separator
use Rattle.c_tree.specs.Operators.{aggregate_keyword, member_mark, step_mark, unary_symbol, binary_mark, assignment_mark}
use Rattle.c_tree.specs.Symbols.{Symbol, Name, Quoted, Word, Mark, Bare}
use Rattle.c_tree.specs.Symbols as symbol
use Rattle.c_tree.specs.Tree as tree

abbrev pub name_symbol : Identifier → Symbol
name_symbol name = Name name.bytes name.place

abbrev pub tag_spelling : Option Identifier → List Symbol
tag_spelling None = []
tag_spelling (Some name) = name_symbol name ∷ []

abbrev pub piece_symbol : StringPiece → Symbol
piece_symbol piece = Quoted piece.bytes piece.place

abbrev pub word_symbol : PlacedWord → Symbol
word_symbol word = Word word.keyword word.place

abbrev pub star_spelling : Star → List Symbol
star_spelling star = Mark mark.Star star.place ∷ map word_symbol star.qualifiers

abbrev pub stars_spelling : List Star → List Symbol
stars_spelling [] = []
stars_spelling (star ∷ stars) = star_spelling star ++ stars_spelling stars

abbrev pub semicolon : List Symbol
semicolon = Bare separator.Semicolon ∷ []

abbrev pub comma : List Symbol
comma = Bare separator.Comma ∷ []

abbrev pub colon : List Symbol
colon = Bare separator.Colon ∷ []

abbrev pub close_paren : List Symbol
close_paren = Bare separator.CloseParen ∷ []

abbrev pub close_bracket : List Symbol
close_bracket = Bare separator.CloseBracket ∷ []

abbrev pub close_brace : List Symbol
close_brace = Bare separator.CloseBrace ∷ []

-- A list with commas between its elements has two functions: before_.. has a comma after each element.
abbrev mutual
  pub expr_spelling : tree.Expr → List Symbol
  expr_spelling (tree.Name name) = name_symbol name ∷ []
  expr_spelling (tree.Integer type value place) = symbol.Integer type value place ∷ []
  expr_spelling (tree.Character value place) = symbol.Character value place ∷ []
  expr_spelling (tree.String pieces) = map piece_symbol pieces
  expr_spelling (tree.Paren at e) = Mark mark.OpenParen at ∷ (expr_spelling e ++ close_paren)
  expr_spelling (tree.Index e at index) = expr_spelling e ++ Mark mark.OpenBracket at ∷ (expr_spelling index ++ close_bracket)
  expr_spelling (tree.Call e at arguments) = expr_spelling e ++ Mark mark.OpenParen at ∷ (arguments_spelling arguments ++ close_paren)
  expr_spelling (tree.Member e op at name) = expr_spelling e ++ Mark (member_mark op) at ∷ name_symbol name ∷ []
  expr_spelling (tree.Postfix e step at) = expr_spelling e ++ Mark (step_mark step) at ∷ []
  expr_spelling (tree.Prefix op at e) = unary_symbol op at ∷ expr_spelling e
  expr_spelling (tree.SizeOfType at paren type) = Word keyword.Sizeof at ∷ Mark mark.OpenParen paren ∷ (type_name_spelling type ++ close_paren)
  expr_spelling (tree.Cast at type e) = Mark mark.OpenParen at ∷ (type_name_spelling type ++ Bare separator.CloseParen ∷ expr_spelling e)
  expr_spelling (tree.Infix op left at right) = expr_spelling left ++ Mark (binary_mark op) at ∷ expr_spelling right
  expr_spelling (tree.Conditional test at then_ else_) = expr_spelling test ++ Mark mark.Question at ∷ (expr_spelling then_ ++ Bare separator.Colon ∷ expr_spelling else_)
  expr_spelling (tree.Assign op left at right) = expr_spelling left ++ Mark (assignment_mark op) at ∷ expr_spelling right
  expr_spelling (tree.Comma left right) = expr_spelling left ++ Bare separator.Comma ∷ expr_spelling right
  expr_spelling (tree.Compound at type brace) = Mark mark.OpenParen at ∷ (type_name_spelling type ++ Bare separator.CloseParen ∷ Mark mark.OpenBrace brace ∷ [])
  expr_spelling (tree.SizeOfCompound at paren type brace) =
      Word keyword.Sizeof at ∷ Mark mark.OpenParen paren ∷ (type_name_spelling type ++ Bare separator.CloseParen ∷ Mark mark.OpenBrace brace ∷ [])

  pub arguments_spelling : tree.Arguments → List Symbol
  arguments_spelling tree.NoArgument = []
  arguments_spelling (tree.AndArgument arguments e) = before_argument arguments ++ expr_spelling e

  pub before_argument : tree.Arguments → List Symbol
  before_argument tree.NoArgument = []
  before_argument (tree.AndArgument arguments e) = before_argument arguments ++ (expr_spelling e ++ comma)

  pub type_name_spelling : tree.TypeName → List Symbol
  type_name_spelling (tree.Named specifiers declared) = specifiers_spelling specifiers ++ declared_spelling declared

  pub specifiers_spelling : tree.Specifiers → List Symbol
  specifiers_spelling tree.NoSpecifier = []
  specifiers_spelling (tree.AndSpecifier specifiers specifier) = specifiers_spelling specifiers ++ specifier_spelling specifier

  pub specifier_spelling : tree.Specifier → List Symbol
  specifier_spelling (tree.Keyword word) = word_symbol word ∷ []
  specifier_spelling (tree.Typedef name) = name_symbol name ∷ []
  specifier_spelling (tree.Tagged kind at tag) = Word (aggregate_keyword kind) at ∷ name_symbol tag ∷ []
  specifier_spelling (tree.Aggregate kind at tag brace members) =
      Word (aggregate_keyword kind) at ∷ (tag_spelling tag ++ Mark mark.OpenBrace brace ∷ (members_spelling members ++ close_brace))
  specifier_spelling (tree.Enum at tag) = Word keyword.Enum at ∷ name_symbol tag ∷ []
  specifier_spelling (tree.Enumeration at tag brace enumerators true) =
      Word keyword.Enum at ∷ (tag_spelling tag ++ Mark mark.OpenBrace brace ∷ (before_enumerator enumerators ++ close_brace))
  specifier_spelling (tree.Enumeration at tag brace enumerators false) =
      Word keyword.Enum at ∷ (tag_spelling tag ++ Mark mark.OpenBrace brace ∷ (enumerators_spelling enumerators ++ close_brace))

  pub members_spelling : tree.Members → List Symbol
  members_spelling tree.NoMember = []
  members_spelling (tree.AndMember members specifiers declarators) =
      members_spelling members ++ (specifiers_spelling specifiers ++ (member_declarators_spelling declarators ++ semicolon))

  pub member_declarators_spelling : tree.MemberDeclarators → List Symbol
  member_declarators_spelling tree.NoDeclarator = []
  member_declarators_spelling (tree.AndDeclarator declarators d) = before_declarator declarators ++ declarator_spelling d
  member_declarators_spelling (tree.AndBitField declarators d) = before_declarator declarators ++ (declarator_spelling d ++ colon)
  member_declarators_spelling (tree.AndUnnamedBitField declarators) = before_declarator declarators ++ colon

  pub before_declarator : tree.MemberDeclarators → List Symbol
  before_declarator tree.NoDeclarator = []
  before_declarator (tree.AndDeclarator declarators d) = before_declarator declarators ++ (declarator_spelling d ++ comma)
  before_declarator (tree.AndBitField declarators d) = before_declarator declarators ++ (declarator_spelling d ++ (colon ++ comma))
  before_declarator (tree.AndUnnamedBitField declarators) = before_declarator declarators ++ (colon ++ comma)

  pub enumerators_spelling : tree.Enumerators → List Symbol
  enumerators_spelling tree.NoEnumerator = []
  enumerators_spelling (tree.AndEnumerator enumerators name) = before_enumerator enumerators ++ name_symbol name ∷ []
  enumerators_spelling (tree.AndValued enumerators name at e) = before_enumerator enumerators ++ name_symbol name ∷ Mark mark.Equal at ∷ expr_spelling e

  pub before_enumerator : tree.Enumerators → List Symbol
  before_enumerator tree.NoEnumerator = []
  before_enumerator (tree.AndEnumerator enumerators name) = before_enumerator enumerators ++ name_symbol name ∷ comma
  before_enumerator (tree.AndValued enumerators name at e) = before_enumerator enumerators ++ name_symbol name ∷ Mark mark.Equal at ∷ (expr_spelling e ++ comma)

  pub declarator_spelling : tree.Declarator → List Symbol
  declarator_spelling (tree.Declares stars core parts) = stars_spelling stars ++ (core_spelling core ++ parts_spelling parts)

  pub core_spelling : tree.Core → List Symbol
  core_spelling (tree.Names name) = name_symbol name ∷ []
  core_spelling tree.Unnamed = []
  core_spelling (tree.Nested at d) = Mark mark.OpenParen at ∷ (declarator_spelling d ++ close_paren)

  pub parts_spelling : tree.Parts → List Symbol
  parts_spelling tree.NoPart = []
  parts_spelling (tree.AndArray parts at words) = parts_spelling parts ++ Mark mark.OpenBracket at ∷ (map word_symbol words ++ close_bracket)
  parts_spelling (tree.AndSizedArray parts at words e) = parts_spelling parts ++ Mark mark.OpenBracket at ∷ (map word_symbol words ++ (expr_spelling e ++ close_bracket))
  parts_spelling (tree.AndFunction parts at parameters) = parts_spelling parts ++ Mark mark.OpenParen at ∷ (parameters_spelling parameters ++ close_paren)

  pub parameters_spelling : tree.Parameters → List Symbol
  parameters_spelling tree.NoParameter = []
  parameters_spelling (tree.AndParameter parameters specifiers declared) =
      before_parameter parameters ++ (specifiers_spelling specifiers ++ declared_spelling declared)

  pub before_parameter : tree.Parameters → List Symbol
  before_parameter tree.NoParameter = []
  before_parameter (tree.AndParameter parameters specifiers declared) =
      before_parameter parameters ++ (specifiers_spelling specifiers ++ (declared_spelling declared ++ comma))

  pub declared_spelling : tree.Declared → List Symbol
  declared_spelling tree.NotDeclared = []
  declared_spelling (tree.DeclaredBy d) = declarator_spelling d

abbrev mutual
  pub initialiser_spelling : tree.Initialiser → List Symbol
  initialiser_spelling (tree.Value e) = expr_spelling e
  initialiser_spelling (tree.Listed brace items true) = Mark mark.OpenBrace brace ∷ (before_item items ++ close_brace)
  initialiser_spelling (tree.Listed brace items false) = Mark mark.OpenBrace brace ∷ (items_spelling items ++ close_brace)

  pub items_spelling : tree.Items → List Symbol
  items_spelling tree.NoItem = []
  items_spelling (tree.AndItem items initialiser) = before_item items ++ initialiser_spelling initialiser
  items_spelling (tree.AndMemberDesignator items at) = before_item items ++ Mark mark.Dot at ∷ []
  items_spelling (tree.AndIndexDesignator items at) = before_item items ++ Mark mark.OpenBracket at ∷ []

  pub before_item : tree.Items → List Symbol
  before_item tree.NoItem = []
  before_item (tree.AndItem items initialiser) = before_item items ++ (initialiser_spelling initialiser ++ comma)
  before_item (tree.AndMemberDesignator items at) = before_item items ++ Mark mark.Dot at ∷ comma
  before_item (tree.AndIndexDesignator items at) = before_item items ++ Mark mark.OpenBracket at ∷ comma

abbrev pub before_init_declarator : tree.InitDeclarators → List Symbol
before_init_declarator tree.NoInitDeclarator = []
before_init_declarator (tree.AndPlain declarators d) = before_init_declarator declarators ++ (declarator_spelling d ++ comma)
before_init_declarator (tree.AndInitialised declarators d at initialiser) =
    before_init_declarator declarators ++ (declarator_spelling d ++ Mark mark.Equal at ∷ (initialiser_spelling initialiser ++ comma))

abbrev pub init_declarators_spelling : tree.InitDeclarators → List Symbol
init_declarators_spelling tree.NoInitDeclarator = []
init_declarators_spelling (tree.AndPlain declarators d) = before_init_declarator declarators ++ declarator_spelling d
init_declarators_spelling (tree.AndInitialised declarators d at initialiser) =
    before_init_declarator declarators ++ (declarator_spelling d ++ Mark mark.Equal at ∷ initialiser_spelling initialiser)

abbrev pub declaration_spelling : tree.Declaration → List Symbol
declaration_spelling (tree.Declare specifiers declarators) = specifiers_spelling specifiers ++ (init_declarators_spelling declarators ++ semicolon)

abbrev pub optional_spelling : Option tree.Expr → List Symbol
optional_spelling None = []
optional_spelling (Some e) = expr_spelling e

abbrev mutual
  pub statement_spelling : tree.Statement → List Symbol
  statement_spelling (tree.Block brace items) = Mark mark.OpenBrace brace ∷ (block_items_spelling items ++ close_brace)
  statement_spelling (tree.Express e) = expr_spelling e ++ semicolon
  statement_spelling tree.Empty = semicolon
  statement_spelling (tree.If at paren test s) = Word keyword.If at ∷ Mark mark.OpenParen paren ∷ (expr_spelling test ++ Bare separator.CloseParen ∷ statement_spelling s)
  statement_spelling (tree.IfElse at paren test s other) =
      Word keyword.If at ∷ Mark mark.OpenParen paren ∷ (expr_spelling test ++ Bare separator.CloseParen ∷ (statement_spelling s ++ Bare separator.Else ∷ statement_spelling other))
  statement_spelling (tree.Switch at paren e brace items) =
      Word keyword.Switch at ∷ Mark mark.OpenParen paren ∷ (expr_spelling e ++ Bare separator.CloseParen ∷ Mark mark.OpenBrace brace ∷ (block_items_spelling items ++ close_brace))
  statement_spelling (tree.While at paren test s) = Word keyword.While at ∷ Mark mark.OpenParen paren ∷ (expr_spelling test ++ Bare separator.CloseParen ∷ statement_spelling s)
  statement_spelling (tree.DoWhile s at paren test) =
      Bare separator.Do ∷ (statement_spelling s ++ Word keyword.While at ∷ Mark mark.OpenParen paren ∷ (expr_spelling test ++ Bare separator.CloseParen ∷ semicolon))
  statement_spelling (tree.For at paren first test step s) =
      Word keyword.For at ∷ Mark mark.OpenParen paren ∷ (optional_spelling first ++ Bare separator.Semicolon ∷ (optional_spelling test ++ Bare separator.Semicolon ∷
      (optional_spelling step ++ Bare separator.CloseParen ∷ statement_spelling s)))
  statement_spelling (tree.ForDeclaration at paren first test step s) =
      Word keyword.For at ∷ Mark mark.OpenParen paren ∷ (declaration_spelling first ++ (optional_spelling test ++ Bare separator.Semicolon ∷
      (optional_spelling step ++ Bare separator.CloseParen ∷ statement_spelling s)))
  statement_spelling (tree.Break at) = Word keyword.Break at ∷ semicolon
  statement_spelling (tree.Continue at) = Word keyword.Continue at ∷ semicolon
  statement_spelling (tree.Return at e) = Word keyword.Return at ∷ (optional_spelling e ++ semicolon)

  pub block_items_spelling : tree.BlockItems → List Symbol
  block_items_spelling tree.NoBlockItem = []
  block_items_spelling (tree.AndStatement items s) = block_items_spelling items ++ statement_spelling s
  block_items_spelling (tree.AndDeclaration items d) = block_items_spelling items ++ declaration_spelling d
  block_items_spelling (tree.AndCase items at e) = block_items_spelling items ++ Word keyword.Case at ∷ (expr_spelling e ++ colon)
  block_items_spelling (tree.AndDefault items at) = block_items_spelling items ++ Word keyword.Default at ∷ colon

abbrev pub unit_spelling : tree.TranslationUnit → List Symbol
unit_spelling tree.NoExternal = []
unit_spelling (tree.AndExternal unit d) = unit_spelling unit ++ declaration_spelling d
unit_spelling (tree.AndFunctionBody unit specifiers d brace items) =
    unit_spelling unit ++ (specifiers_spelling specifiers ++ (declarator_spelling d ++ Mark mark.OpenBrace brace ∷ (block_items_spelling items ++ close_brace)))
