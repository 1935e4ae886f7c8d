-- What the parts of a tree make that a pointer type may be of: all but the addresses of members, which are of none.
use Rattle.std.proofs.Common.{List, [], ◌∷◌, ◌++◌, Option, None, Some}
use Rattle.cc_base.specs.declared.number.TypeId.{TypeId}
use Rattle.c_tree.specs.TypedTree as typed
use Rattle.c_tree.specs.TypedTree.{TypedExpr, TypedPlace, TypedArguments, TypedTypeName, TypedSpecifiers, TypedSpecifierList, TypedSpecifier, TypedMembers, TypedMemberDeclarators, TypedEnumerators, TypedDeclarator, TypedForm, TypedCore, TypedParts, TypedParameters, TypedDeclared, TypedInitialiser, TypedItems, TypedInitDeclarators, TypedDeclaration, TypedStatement, TypedBlockItems, TypedTranslationUnit}
use Rattle.c_tree.specs.TypedParts.{Made, Name, Literal, Address, Copy, place_type, made_by_stars, made_by_adjusted}

abbrev mutual
  pub made_by : TypedExpr → List Made
  made_by (typed.Integer of value at t) = []
  made_by (typed.Character value at t) = []
  made_by (typed.Enumerator name value t) = []
  made_by (typed.FunctionName name number n t) = Address n ∷ []
  made_by (typed.RuntimeName name runtime t) = []
  made_by (typed.Paren at e) = made_by e
  made_by (typed.Read p) = made_by_place p
  made_by (typed.Unread p) = made_by_place p
  made_by (typed.Decay p n t) = made_by_place p ++ Address n ∷ []
  made_by (typed.Convert which at t e) = made_by e
  made_by (typed.Cast which at to e) = made_by_type_name to ++ made_by e
  made_by (typed.AddressOf at p n t) = made_by_place p ++ Address n ∷ []
  made_by (typed.AddressOfElement at p t) = made_by_place p
  made_by (typed.AddressOfFunction at e) = made_by e
  made_by (typed.FunctionAt at e) = made_by e
  made_by (typed.Prefix operator at e t) = made_by e
  made_by (typed.SizeOfPlace at p size t) = made_by_place p
  made_by (typed.SizeOfValue at e size t) = made_by e
  made_by (typed.SizeOfType at paren name size t) = made_by_type_name name
  made_by (typed.StepBefore operator at p) = made_by_place p
  made_by (typed.StepAfter p operator at) = made_by_place p
  made_by (typed.Arithmetic operator a at b t) = made_by a ++ made_by b
  made_by (typed.Moved operator which a at b t) = made_by a ++ made_by b
  made_by (typed.Difference a at b t) = made_by a ++ made_by b
  made_by (typed.Compared operator a at b t) = made_by a ++ made_by b
  made_by (typed.Logical operator a at b t) = made_by a ++ made_by b
  made_by (typed.Conditional c at a b t) = made_by c ++ made_by a ++ made_by b
  made_by (typed.PointerConditional c at a b n t) = made_by c ++ made_by a ++ made_by b ++ Address n ∷ []
  made_by (typed.Comma a b) = made_by a ++ made_by b
  made_by (typed.Assign p at e) = made_by_place p ++ made_by e
  made_by (typed.AssignWith operator p at e t) = made_by_place p ++ made_by e
  made_by (typed.Call f at arguments t) = made_by f ++ made_by_arguments arguments
  made_by (typed.CallRuntime runtime f at arguments t) = made_by f ++ made_by_arguments arguments
  made_by (typed.Allocate runtime f at arguments n t) = made_by f ++ made_by_arguments arguments ++ Address n ∷ []
  made_by (typed.AllocateFor runtime f at arguments t) = made_by f ++ made_by_arguments arguments

  pub made_by_place : TypedPlace → List Made
  made_by_place (typed.Variable name home t) = []
  made_by_place (typed.String pieces home t) = Literal pieces home t ∷ []
  made_by_place (typed.ParenPlace at p) = made_by_place p
  made_by_place (typed.Target at e t) = made_by e
  made_by_place (typed.Element which a at b t) = made_by a ++ made_by b
  made_by_place (typed.Member p at name i n t) = made_by_place p
  made_by_place (typed.MemberAt e at name i n t) = made_by e
  made_by_place (typed.StructAssign p at q) = made_by_place p ++ made_by_place q ++ Copy (place_type p) ∷ []
  made_by_place (typed.StructConditional c at p q) = made_by c ++ made_by_place p ++ made_by_place q
  made_by_place (typed.StructComma e p) = made_by e ++ made_by_place p

  pub made_by_arguments : TypedArguments → List Made
  made_by_arguments typed.NoArgument = []
  made_by_arguments (typed.AndArgument all e) = made_by_arguments all ++ made_by e

  pub made_by_type_name : TypedTypeName → List Made
  made_by_type_name (typed.Named specifiers declared t) = made_by_specifiers specifiers ++ made_by_declared declared t

  pub made_by_specifiers : TypedSpecifiers → List Made
  made_by_specifiers (typed.Specified list t) = made_by_specifier_list list

  pub made_by_specifier_list : TypedSpecifierList → List Made
  made_by_specifier_list typed.NoSpecifier = []
  made_by_specifier_list (typed.AndSpecifier all s) = made_by_specifier_list all ++ made_by_specifier s

  pub made_by_specifier : TypedSpecifier → List Made
  made_by_specifier (typed.Keyword word) = []
  made_by_specifier (typed.Typedef name t) = []
  made_by_specifier (typed.Tagged kind at name t) = []
  made_by_specifier (typed.Aggregate kind at name brace members t) = made_by_members members
  made_by_specifier (typed.Enum at name) = []
  made_by_specifier (typed.Enumeration at name brace all comma) = made_by_enumerators all

  pub made_by_members : TypedMembers → List Made
  made_by_members typed.NoMember = []
  made_by_members (typed.AndMember all specifiers declarators) =
      made_by_members all ++ made_by_specifiers specifiers ++ made_by_member_declarators declarators

  pub made_by_member_declarators : TypedMemberDeclarators → List Made
  made_by_member_declarators typed.NoDeclarator = []
  made_by_member_declarators (typed.AndDeclarator all d) = made_by_member_declarators all ++ made_by_declarator d

  pub made_by_enumerators : TypedEnumerators → List Made
  made_by_enumerators typed.NoEnumerator = []
  made_by_enumerators (typed.AndEnumerator all name value) = made_by_enumerators all
  made_by_enumerators (typed.AndValued all name at e value) = made_by_enumerators all ++ made_by e

  pub made_by_declarator : TypedDeclarator → List Made
  made_by_declarator (typed.Declares form t) = made_by_form form t

  pub made_by_form : TypedForm → TypeId → List Made
  made_by_form (typed.Form stars core parts) t = made_by_stars stars ++ made_by_core core t ++ made_by_parts parts

  pub made_by_core : TypedCore → TypeId → List Made
  made_by_core (typed.Names name home) t = Name name home t ∷ []
  made_by_core typed.Unnamed t = []
  made_by_core (typed.Nested at form) t = made_by_form form t

  pub made_by_parts : TypedParts → List Made
  made_by_parts typed.NoPart = []
  made_by_parts (typed.AndArray all at words) = made_by_parts all
  made_by_parts (typed.AndSizedArray all at words e size) = made_by_parts all ++ made_by e
  made_by_parts (typed.AndFunction all at parameters) = made_by_parts all ++ made_by_parameters parameters

  pub made_by_parameters : TypedParameters → List Made
  made_by_parameters typed.NoParameter = []
  made_by_parameters (typed.AndParameter all specifiers declared adjusted t) =
      made_by_parameters all ++ made_by_specifiers specifiers ++ made_by_declared declared t ++ made_by_adjusted adjusted

  pub made_by_declared : TypedDeclared → TypeId → List Made
  made_by_declared typed.NotDeclared t = []
  made_by_declared (typed.DeclaredBy form) t = made_by_form form t

abbrev mutual
  pub made_by_initialiser : TypedInitialiser → List Made
  made_by_initialiser (typed.Value e) = made_by e
  made_by_initialiser (typed.Copied p at) = made_by_place p ++ Copy (place_type p) ∷ []
  made_by_initialiser (typed.Text pieces bytes) = []
  made_by_initialiser (typed.Listed at items comma t) = made_by_items items

  pub made_by_items : TypedItems → List Made
  made_by_items typed.NoItem = []
  made_by_items (typed.AndItem all offset t i) = made_by_items all ++ made_by_initialiser i

abbrev pub made_by_init_declarators : TypedInitDeclarators → List Made
made_by_init_declarators typed.NoInitDeclarator = []
made_by_init_declarators (typed.AndPlain all d) = made_by_init_declarators all ++ made_by_declarator d
made_by_init_declarators (typed.AndInitialised all d at i) =
    made_by_init_declarators all ++ made_by_declarator d ++ made_by_initialiser i

abbrev pub made_by_declaration : TypedDeclaration → List Made
made_by_declaration (typed.Declare specifiers all) = made_by_specifiers specifiers ++ made_by_init_declarators all

abbrev pub made_by_optional : Option TypedExpr → List Made
made_by_optional None = []
made_by_optional (Some e) = made_by e

abbrev mutual
  pub made_by_statement : TypedStatement → List Made
  made_by_statement (typed.Block at items) = made_by_block_items items
  made_by_statement (typed.Express e) = made_by e
  made_by_statement typed.Empty = []
  made_by_statement (typed.If at paren c s) = made_by c ++ made_by_statement s
  made_by_statement (typed.IfElse at paren c s r) = made_by c ++ made_by_statement s ++ made_by_statement r
  made_by_statement (typed.Switch at paren e brace items) = made_by e ++ made_by_block_items items
  made_by_statement (typed.While at paren c s) = made_by c ++ made_by_statement s
  made_by_statement (typed.DoWhile s at paren c) = made_by_statement s ++ made_by c
  made_by_statement (typed.For at paren a b c s) = made_by_optional a ++ made_by_optional b ++ made_by_optional c ++ made_by_statement s
  made_by_statement (typed.ForDeclaration at paren d b c s) =
      made_by_declaration d ++ made_by_optional b ++ made_by_optional c ++ made_by_statement s
  made_by_statement (typed.Break at) = []
  made_by_statement (typed.Continue at) = []
  made_by_statement (typed.Return at e) = made_by_optional e

  pub made_by_block_items : TypedBlockItems → List Made
  made_by_block_items typed.NoBlockItem = []
  made_by_block_items (typed.AndStatement all s) = made_by_block_items all ++ made_by_statement s
  made_by_block_items (typed.AndDeclaration all d) = made_by_block_items all ++ made_by_declaration d
  made_by_block_items (typed.AndCase all at e value) = made_by_block_items all ++ made_by e
  made_by_block_items (typed.AndDefault all at) = made_by_block_items all

abbrev pub made_by_unit : TypedTranslationUnit → List Made
made_by_unit typed.NoExternal = []
made_by_unit (typed.AndExternal u d) = made_by_unit u ++ made_by_declaration d
made_by_unit (typed.AndFunctionBody u specifiers d brace items) =
    made_by_unit u ++ made_by_specifiers specifiers ++ made_by_declarator d ++ made_by_block_items items
