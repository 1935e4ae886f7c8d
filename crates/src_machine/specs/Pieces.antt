-- All that a typed unit is made of, in the order of the text: of the operands of `sizeof`, and of array sizes and enumerators, too.
use Rattle.std.specs.Prelude.{List, [], ◌∷◌, ◌++◌, Option, None, Some}
use Rattle.c_tree.specs.TypedTree as typed
use Rattle.c_tree.specs.TypedTree.{TypedExpr, TypedPlace, TypedArguments, TypedTypeName, TypedSpecifiers, TypedSpecifierList, TypedSpecifier, TypedMembers, TypedMemberDeclarators, TypedEnumerators, TypedDeclarator, TypedForm, TypedCore, TypedParts, TypedParameters, TypedDeclared, TypedInitialiser, TypedItems, TypedInitDeclarators, TypedDeclaration, TypedStatement, TypedBlockItems, TypedTranslationUnit}

pub data Piece : Type 0 where
  AnExpression : TypedExpr → Piece
  APlace : TypedPlace → Piece
  ASpecifier : TypedSpecifier → Piece
  -- a declarator with its initialiser
  AnInitialiser : TypedDeclarator → TypedInitialiser → Piece

abbrev mutual
  pub pieces_of : TypedExpr → List Piece
  pieces_of (typed.Integer of value at t) = AnExpression (typed.Integer of value at t) ∷ []
  pieces_of (typed.Character value at t) = AnExpression (typed.Character value at t) ∷ []
  pieces_of (typed.Enumerator name value t) = AnExpression (typed.Enumerator name value t) ∷ []
  pieces_of (typed.FunctionName name f n t) = AnExpression (typed.FunctionName name f n t) ∷ []
  pieces_of (typed.RuntimeName name f t) = AnExpression (typed.RuntimeName name f t) ∷ []
  pieces_of (typed.Paren at e) = pieces_of e
  pieces_of (typed.Read p) = pieces_of_place p
  pieces_of (typed.Unread p) = pieces_of_place p
  pieces_of (typed.Decay p n t) = pieces_of_place p ++ AnExpression (typed.Decay p n t) ∷ []
  pieces_of (typed.Convert which at t e) = pieces_of e ++ AnExpression (typed.Convert which at t e) ∷ []
  pieces_of (typed.Cast which at to e) = pieces_of_type_name to ++ pieces_of e ++ AnExpression (typed.Cast which at to e) ∷ []
  pieces_of (typed.AddressOf at p n t) = pieces_of_place p ++ AnExpression (typed.AddressOf at p n t) ∷ []
  pieces_of (typed.AddressOfElement at p t) = pieces_of_place p
  pieces_of (typed.AddressOfFunction at e) = pieces_of e
  pieces_of (typed.FunctionAt at e) = pieces_of e
  pieces_of (typed.Prefix operator at e t) = pieces_of e
  pieces_of (typed.SizeOfPlace at p size t) = pieces_of_place p
  pieces_of (typed.SizeOfValue at e size t) = pieces_of e
  pieces_of (typed.SizeOfType at paren name size t) = pieces_of_type_name name
  pieces_of (typed.StepBefore which at p) = pieces_of_place p ++ AnExpression (typed.StepBefore which at p) ∷ []
  pieces_of (typed.StepAfter p which at) = pieces_of_place p ++ AnExpression (typed.StepAfter p which at) ∷ []
  pieces_of (typed.Arithmetic operator a at b t) = pieces_of a ++ pieces_of b
  pieces_of (typed.Moved operator which a at b t) = pieces_of a ++ pieces_of b ++ AnExpression (typed.Moved operator which a at b t) ∷ []
  pieces_of (typed.Difference a at b t) = pieces_of a ++ pieces_of b ++ AnExpression (typed.Difference a at b t) ∷ []
  pieces_of (typed.Compared operator a at b t) = pieces_of a ++ pieces_of b ++ AnExpression (typed.Compared operator a at b t) ∷ []
  pieces_of (typed.Logical operator a at b t) = pieces_of a ++ pieces_of b
  pieces_of (typed.Conditional c at a b t) = pieces_of c ++ pieces_of a ++ pieces_of b
  pieces_of (typed.PointerConditional c at a b n t) = pieces_of c ++ pieces_of a ++ pieces_of b
  pieces_of (typed.Comma a b) = pieces_of a ++ pieces_of b
  pieces_of (typed.Assign p at e) = pieces_of_place p ++ pieces_of e
  pieces_of (typed.AssignWith operator p at e t) = pieces_of_place p ++ pieces_of e ++ AnExpression (typed.AssignWith operator p at e t) ∷ []
  pieces_of (typed.Call f at arguments t) = pieces_of f ++ pieces_of_arguments arguments
  pieces_of (typed.CallRuntime runtime f at arguments t) = pieces_of_arguments arguments
  pieces_of (typed.Allocate runtime f at arguments n t) = pieces_of_arguments arguments
  pieces_of (typed.AllocateFor runtime f at arguments t) = pieces_of_arguments arguments

  pub pieces_of_place : TypedPlace → List Piece
  pieces_of_place (typed.Variable name home t) = []
  pieces_of_place (typed.String pieces home t) = APlace (typed.String pieces home t) ∷ []
  pieces_of_place (typed.ParenPlace at p) = pieces_of_place p
  pieces_of_place (typed.Target at e t) = pieces_of e
  pieces_of_place (typed.Element which a at b t) = pieces_of a ++ pieces_of b ++ APlace (typed.Element which a at b t) ∷ []
  pieces_of_place (typed.Member p at name i n t) = pieces_of_place p ++ APlace (typed.Member p at name i n t) ∷ []
  pieces_of_place (typed.MemberAt e at name i n t) = pieces_of e ++ APlace (typed.MemberAt e at name i n t) ∷ []
  pieces_of_place (typed.StructAssign p at q) = pieces_of_place p ++ pieces_of_place q ++ APlace (typed.StructAssign p at q) ∷ []
  pieces_of_place (typed.StructConditional c at p q) = pieces_of c ++ pieces_of_place p ++ pieces_of_place q ++ APlace (typed.StructConditional c at p q) ∷ []
  pieces_of_place (typed.StructComma e p) = pieces_of e ++ pieces_of_place p

  pub pieces_of_arguments : TypedArguments → List Piece
  pieces_of_arguments typed.NoArgument = []
  pieces_of_arguments (typed.AndArgument all e) = pieces_of_arguments all ++ pieces_of e

  pub pieces_of_type_name : TypedTypeName → List Piece
  pieces_of_type_name (typed.Named specifiers declared t) = pieces_of_specifiers specifiers ++ pieces_of_declared declared

  pub pieces_of_specifiers : TypedSpecifiers → List Piece
  pieces_of_specifiers (typed.Specified list t) = pieces_of_specifier_list list

  pub pieces_of_specifier_list : TypedSpecifierList → List Piece
  pieces_of_specifier_list typed.NoSpecifier = []
  pieces_of_specifier_list (typed.AndSpecifier all s) = pieces_of_specifier_list all ++ pieces_of_specifier s

  pub pieces_of_specifier : TypedSpecifier → List Piece
  pieces_of_specifier (typed.Keyword word) = []
  pieces_of_specifier (typed.Typedef name t) = []
  pieces_of_specifier (typed.Tagged kind at name t) = []
  pieces_of_specifier (typed.Aggregate kind at name brace members t) = pieces_of_members members ++ ASpecifier (typed.Aggregate kind at name brace members t) ∷ []
  pieces_of_specifier (typed.Enum at name) = []
  pieces_of_specifier (typed.Enumeration at name brace all comma) = pieces_of_enumerators all

  pub pieces_of_members : TypedMembers → List Piece
  pieces_of_members typed.NoMember = []
  pieces_of_members (typed.AndMember all specifiers declarators) =
      pieces_of_members all ++ pieces_of_specifiers specifiers ++ pieces_of_member_declarators declarators

  pub pieces_of_member_declarators : TypedMemberDeclarators → List Piece
  pieces_of_member_declarators typed.NoDeclarator = []
  pieces_of_member_declarators (typed.AndDeclarator all d) = pieces_of_member_declarators all ++ pieces_of_declarator d

  pub pieces_of_enumerators : TypedEnumerators → List Piece
  pieces_of_enumerators typed.NoEnumerator = []
  pieces_of_enumerators (typed.AndEnumerator all name value) = pieces_of_enumerators all
  pieces_of_enumerators (typed.AndValued all name at e value) = pieces_of_enumerators all ++ pieces_of e

  pub pieces_of_declarator : TypedDeclarator → List Piece
  pieces_of_declarator (typed.Declares form t) = pieces_of_form form

  pub pieces_of_form : TypedForm → List Piece
  pieces_of_form (typed.Form stars core parts) = pieces_of_core core ++ pieces_of_parts parts

  pub pieces_of_core : TypedCore → List Piece
  pieces_of_core (typed.Names name home) = []
  pieces_of_core typed.Unnamed = []
  pieces_of_core (typed.Nested at form) = pieces_of_form form

  pub pieces_of_parts : TypedParts → List Piece
  pieces_of_parts typed.NoPart = []
  pieces_of_parts (typed.AndArray all at words) = pieces_of_parts all
  pieces_of_parts (typed.AndSizedArray all at words e size) = pieces_of_parts all ++ pieces_of e
  pieces_of_parts (typed.AndFunction all at parameters) = pieces_of_parts all ++ pieces_of_parameters parameters

  pub pieces_of_parameters : TypedParameters → List Piece
  pieces_of_parameters typed.NoParameter = []
  pieces_of_parameters (typed.AndParameter all specifiers declared adjusted t) =
      pieces_of_parameters all ++ pieces_of_specifiers specifiers ++ pieces_of_declared declared

  pub pieces_of_declared : TypedDeclared → List Piece
  pieces_of_declared typed.NotDeclared = []
  pieces_of_declared (typed.DeclaredBy form) = pieces_of_form form

abbrev mutual
  pub pieces_of_initialiser : TypedInitialiser → List Piece
  pieces_of_initialiser (typed.Value e) = pieces_of e
  pieces_of_initialiser (typed.Copied p at) = pieces_of_place p
  pieces_of_initialiser (typed.Text pieces bytes) = []
  pieces_of_initialiser (typed.Listed at items comma t) = pieces_of_items items

  pub pieces_of_items : TypedItems → List Piece
  pieces_of_items typed.NoItem = []
  pieces_of_items (typed.AndItem all offset t i) = pieces_of_items all ++ pieces_of_initialiser i

abbrev pub pieces_of_init_declarators : TypedInitDeclarators → List Piece
pieces_of_init_declarators typed.NoInitDeclarator = []
pieces_of_init_declarators (typed.AndPlain all d) = pieces_of_init_declarators all ++ pieces_of_declarator d
pieces_of_init_declarators (typed.AndInitialised all d at i) =
    pieces_of_init_declarators all ++ pieces_of_declarator d ++ pieces_of_initialiser i ++ AnInitialiser d i ∷ []

abbrev pub pieces_of_declaration : TypedDeclaration → List Piece
pieces_of_declaration (typed.Declare specifiers all) = pieces_of_specifiers specifiers ++ pieces_of_init_declarators all

abbrev pub pieces_of_optional : Option TypedExpr → List Piece
pieces_of_optional None = []
pieces_of_optional (Some e) = pieces_of e

abbrev mutual
  pub pieces_of_statement : TypedStatement → List Piece
  pieces_of_statement (typed.Block at items) = pieces_of_block_items items
  pieces_of_statement (typed.Express e) = pieces_of e
  pieces_of_statement typed.Empty = []
  pieces_of_statement (typed.If at paren c s) = pieces_of c ++ pieces_of_statement s
  pieces_of_statement (typed.IfElse at paren c s r) = pieces_of c ++ pieces_of_statement s ++ pieces_of_statement r
  pieces_of_statement (typed.Switch at paren e brace items) = pieces_of e ++ pieces_of_block_items items
  pieces_of_statement (typed.While at paren c s) = pieces_of c ++ pieces_of_statement s
  pieces_of_statement (typed.DoWhile s at paren c) = pieces_of_statement s ++ pieces_of c
  pieces_of_statement (typed.For at paren a b c s) = pieces_of_optional a ++ pieces_of_optional b ++ pieces_of_optional c ++ pieces_of_statement s
  pieces_of_statement (typed.ForDeclaration at paren d b c s) =
      pieces_of_declaration d ++ pieces_of_optional b ++ pieces_of_optional c ++ pieces_of_statement s
  pieces_of_statement (typed.Break at) = []
  pieces_of_statement (typed.Continue at) = []
  pieces_of_statement (typed.Return at e) = pieces_of_optional e

  pub pieces_of_block_items : TypedBlockItems → List Piece
  pieces_of_block_items typed.NoBlockItem = []
  pieces_of_block_items (typed.AndStatement all s) = pieces_of_block_items all ++ pieces_of_statement s
  pieces_of_block_items (typed.AndDeclaration all d) = pieces_of_block_items all ++ pieces_of_declaration d
  pieces_of_block_items (typed.AndCase all at e value) = pieces_of_block_items all ++ pieces_of e
  pieces_of_block_items (typed.AndDefault all at) = pieces_of_block_items all

abbrev pub pieces_of_unit : TypedTranslationUnit → List Piece
pieces_of_unit typed.NoExternal = []
pieces_of_unit (typed.AndExternal u d) = pieces_of_unit u ++ pieces_of_declaration d
pieces_of_unit (typed.AndFunctionBody u specifiers d brace items) =
    pieces_of_unit u ++ pieces_of_specifiers specifiers ++ pieces_of_declarator d ++ pieces_of_block_items items
