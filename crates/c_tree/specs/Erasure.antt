-- The tree that a typed tree is made of: its types, nodes and values are forgotten, and so is what C does without being told.
use Rattle.std.specs.Prelude.{List, Option, None, Some, map}
use Rattle.c_tree.specs.declared.leaf.Star.{Star}
use Rattle.c_tree.specs.declared.operator.Assignment.TheVariants as assignment
use Rattle.c_tree.specs.declared.operator.MemberOperator.TheVariants as member
use Rattle.c_tree.specs.declared.operator.Unary.TheVariants as unary
use Rattle.c_tree.specs.declared.operator.Binary.TheVariants as binary
use Rattle.c_tree.specs.declared.operator.Step.{Step}
use Rattle.c_tree.specs.declared.operator.Step.TheVariants as step
use Rattle.c_tree.specs.declared.operator.Unary.{Unary}
use Rattle.c_tree.specs.Tree as tree
use Rattle.c_tree.specs.Tree.{Expr, Arguments, TypeName, Specifiers, Specifier, Members, MemberDeclarators, Enumerators, Declarator, Core, Parts, Parameters, Declared, Initialiser, Items, InitDeclarators, Declaration, Statement, BlockItems}
use Rattle.c_tree.specs.Tree.{TranslationUnit}
use Rattle.c_tree.specs.TypedTree as typed
use Rattle.c_tree.specs.declared.typed_word.TypedStar.{TypedStar}
use Rattle.c_tree.specs.TypedTree.{TypedExpr, TypedPlace, TypedArguments, TypedTypeName, TypedSpecifiers, TypedSpecifierList, TypedSpecifier, TypedMembers, TypedMemberDeclarators, TypedEnumerators, TypedDeclarator, TypedForm, TypedCore, TypedParts, TypedParameters, TypedDeclared, TypedInitialiser, TypedItems, TypedInitDeclarators, TypedDeclaration, TypedStatement, TypedBlockItems, TypedTranslationUnit}

-- `++` or `--` before its operand
abbrev pub step_operator : Step → Unary
step_operator step.Increment = unary.Increment
step_operator step.Decrement = unary.Decrement

abbrev pub erased_stars : List TypedStar → List Star
erased_stars stars = map (λ s. s.star) stars

abbrev mutual
  pub erased : TypedExpr → Expr
  erased (typed.Integer of value at t) = tree.Integer of value at
  erased (typed.Character value at t) = tree.Character value at
  erased (typed.Enumerator name value t) = tree.Name name
  erased (typed.FunctionName name number n t) = tree.Name name
  erased (typed.RuntimeName name runtime t) = tree.Name name
  erased (typed.Paren at e) = tree.Paren at (erased e)
  erased (typed.Read p) = erased_place p
  erased (typed.Unread p) = erased_place p
  erased (typed.Decay p n t) = erased_place p
  erased (typed.Convert conversion at t e) = erased e
  erased (typed.Cast conversion at to e) = tree.Cast at (erased_type_name to) (erased e)
  erased (typed.AddressOf at p n t) = tree.Prefix unary.AddressOf at (erased_place p)
  erased (typed.AddressOfElement at p t) = tree.Prefix unary.AddressOf at (erased_place p)
  erased (typed.AddressOfFunction at e) = tree.Prefix unary.AddressOf at (erased e)
  erased (typed.FunctionAt at e) = tree.Prefix unary.Dereference at (erased e)
  erased (typed.Prefix operator at e t) = tree.Prefix operator at (erased e)
  erased (typed.SizeOfPlace at p size t) = tree.Prefix unary.SizeOf at (erased_place p)
  erased (typed.SizeOfValue at e size t) = tree.Prefix unary.SizeOf at (erased e)
  erased (typed.SizeOfType at paren name size t) = tree.SizeOfType at paren (erased_type_name name)
  erased (typed.StepBefore operator at p) = tree.Prefix (step_operator operator) at (erased_place p)
  erased (typed.StepAfter p operator at) = tree.Postfix (erased_place p) operator at
  erased (typed.Arithmetic operator a at b t) = tree.Infix operator (erased a) at (erased b)
  erased (typed.Moved operator side a at b t) = tree.Infix operator (erased a) at (erased b)
  erased (typed.Difference a at b t) = tree.Infix binary.Subtract (erased a) at (erased b)
  erased (typed.Compared operator a at b t) = tree.Infix operator (erased a) at (erased b)
  erased (typed.Logical operator a at b t) = tree.Infix operator (erased a) at (erased b)
  erased (typed.Conditional c at a b t) = tree.Conditional (erased c) at (erased a) (erased b)
  erased (typed.PointerConditional c at a b n t) = tree.Conditional (erased c) at (erased a) (erased b)
  erased (typed.Comma a b) = tree.Comma (erased a) (erased b)
  erased (typed.Assign p at e) = tree.Assign assignment.Assign (erased_place p) at (erased e)
  erased (typed.AssignWith operator p at e t) = tree.Assign operator (erased_place p) at (erased e)
  erased (typed.Call f at arguments t) = tree.Call (erased f) at (erased_arguments arguments)
  erased (typed.CallRuntime runtime f at arguments t) = tree.Call (erased f) at (erased_arguments arguments)
  erased (typed.Allocate runtime f at arguments n t) = tree.Call (erased f) at (erased_arguments arguments)
  erased (typed.AllocateFor runtime f at arguments t) = tree.Call (erased f) at (erased_arguments arguments)

  pub erased_place : TypedPlace → Expr
  erased_place (typed.Variable name home t) = tree.Name name
  erased_place (typed.String pieces home t) = tree.String pieces
  erased_place (typed.ParenPlace at p) = tree.Paren at (erased_place p)
  erased_place (typed.Target at e t) = tree.Prefix unary.Dereference at (erased e)
  erased_place (typed.Element side a at b t) = tree.Index (erased a) at (erased b)
  erased_place (typed.Member p at name i n t) = tree.Member (erased_place p) member.Dot at name
  erased_place (typed.MemberAt e at name i n t) = tree.Member (erased e) member.Arrow at name
  erased_place (typed.StructAssign p at q) = tree.Assign assignment.Assign (erased_place p) at (erased_place q)
  erased_place (typed.StructConditional c at p q) = tree.Conditional (erased c) at (erased_place p) (erased_place q)
  erased_place (typed.StructComma e p) = tree.Comma (erased e) (erased_place p)

  pub erased_arguments : TypedArguments → Arguments
  erased_arguments typed.NoArgument = tree.NoArgument
  erased_arguments (typed.AndArgument all e) = tree.AndArgument (erased_arguments all) (erased e)

  pub erased_type_name : TypedTypeName → TypeName
  erased_type_name (typed.Named specifiers declared t) = tree.Named (erased_specifiers specifiers) (erased_declared declared)

  pub erased_specifiers : TypedSpecifiers → Specifiers
  erased_specifiers (typed.Specified list t) = erased_specifier_list list

  pub erased_specifier_list : TypedSpecifierList → Specifiers
  erased_specifier_list typed.NoSpecifier = tree.NoSpecifier
  erased_specifier_list (typed.AndSpecifier all s) = tree.AndSpecifier (erased_specifier_list all) (erased_specifier s)

  pub erased_specifier : TypedSpecifier → Specifier
  erased_specifier (typed.Keyword word) = tree.Keyword word
  erased_specifier (typed.Typedef name t) = tree.Typedef name
  erased_specifier (typed.Tagged kind at name t) = tree.Tagged kind at name
  erased_specifier (typed.Aggregate kind at name brace members t) = tree.Aggregate kind at name brace (erased_members members)
  erased_specifier (typed.Enum at name) = tree.Enum at name
  erased_specifier (typed.Enumeration at name brace all comma) = tree.Enumeration at name brace (erased_enumerators all) comma

  pub erased_members : TypedMembers → Members
  erased_members typed.NoMember = tree.NoMember
  erased_members (typed.AndMember all specifiers declarators) =
      tree.AndMember (erased_members all) (erased_specifiers specifiers) (erased_member_declarators declarators)

  pub erased_member_declarators : TypedMemberDeclarators → MemberDeclarators
  erased_member_declarators typed.NoDeclarator = tree.NoDeclarator
  erased_member_declarators (typed.AndDeclarator all d) = tree.AndDeclarator (erased_member_declarators all) (erased_declarator d)

  pub erased_enumerators : TypedEnumerators → Enumerators
  erased_enumerators typed.NoEnumerator = tree.NoEnumerator
  erased_enumerators (typed.AndEnumerator all name value) = tree.AndEnumerator (erased_enumerators all) name
  erased_enumerators (typed.AndValued all name at e value) = tree.AndValued (erased_enumerators all) name at (erased e)

  pub erased_declarator : TypedDeclarator → Declarator
  erased_declarator (typed.Declares form t) = erased_form form

  pub erased_form : TypedForm → Declarator
  erased_form (typed.Form stars core parts) = tree.Declares (erased_stars stars) (erased_core core) (erased_parts parts)

  pub erased_core : TypedCore → Core
  erased_core (typed.Names name home) = tree.Names name
  erased_core typed.Unnamed = tree.Unnamed
  erased_core (typed.Nested at form) = tree.Nested at (erased_form form)

  pub erased_parts : TypedParts → Parts
  erased_parts typed.NoPart = tree.NoPart
  erased_parts (typed.AndArray all at words) = tree.AndArray (erased_parts all) at words
  erased_parts (typed.AndSizedArray all at words e size) = tree.AndSizedArray (erased_parts all) at words (erased e)
  erased_parts (typed.AndFunction all at parameters) = tree.AndFunction (erased_parts all) at (erased_parameters parameters)

  pub erased_parameters : TypedParameters → Parameters
  erased_parameters typed.NoParameter = tree.NoParameter
  erased_parameters (typed.AndParameter all specifiers declared adjusted t) =
      tree.AndParameter (erased_parameters all) (erased_specifiers specifiers) (erased_declared declared)

  pub erased_declared : TypedDeclared → Declared
  erased_declared typed.NotDeclared = tree.NotDeclared
  erased_declared (typed.DeclaredBy form) = tree.DeclaredBy (erased_form form)

abbrev mutual
  pub erased_initialiser : TypedInitialiser → Initialiser
  erased_initialiser (typed.Value e) = tree.Value (erased e)
  erased_initialiser (typed.Copied p at) = tree.Value (erased_place p)
  erased_initialiser (typed.Text pieces bytes) = tree.Value (tree.String pieces)
  erased_initialiser (typed.Listed at items comma t) = tree.Listed at (erased_items items) comma

  pub erased_items : TypedItems → Items
  erased_items typed.NoItem = tree.NoItem
  erased_items (typed.AndItem all offset t i) = tree.AndItem (erased_items all) (erased_initialiser i)

abbrev pub erased_init_declarators : TypedInitDeclarators → InitDeclarators
erased_init_declarators typed.NoInitDeclarator = tree.NoInitDeclarator
erased_init_declarators (typed.AndPlain all d) = tree.AndPlain (erased_init_declarators all) (erased_declarator d)
erased_init_declarators (typed.AndInitialised all d at i) =
    tree.AndInitialised (erased_init_declarators all) (erased_declarator d) at (erased_initialiser i)

abbrev pub erased_declaration : TypedDeclaration → Declaration
erased_declaration (typed.Declare specifiers all) = tree.Declare (erased_specifiers specifiers) (erased_init_declarators all)

abbrev pub erased_optional : Option TypedExpr → Option Expr
erased_optional None = None
erased_optional (Some e) = Some (erased e)

abbrev mutual
  pub erased_statement : TypedStatement → Statement
  erased_statement (typed.Block at items) = tree.Block at (erased_block_items items)
  erased_statement (typed.Express e) = tree.Express (erased e)
  erased_statement typed.Empty = tree.Empty
  erased_statement (typed.If at paren c s) = tree.If at paren (erased c) (erased_statement s)
  erased_statement (typed.IfElse at paren c s r) = tree.IfElse at paren (erased c) (erased_statement s) (erased_statement r)
  erased_statement (typed.Switch at paren e brace items) = tree.Switch at paren (erased e) brace (erased_block_items items)
  erased_statement (typed.While at paren c s) = tree.While at paren (erased c) (erased_statement s)
  erased_statement (typed.DoWhile s at paren c) = tree.DoWhile (erased_statement s) at paren (erased c)
  erased_statement (typed.For at paren a b c s) =
      tree.For at paren (erased_optional a) (erased_optional b) (erased_optional c) (erased_statement s)
  erased_statement (typed.ForDeclaration at paren d b c s) =
      tree.ForDeclaration at paren (erased_declaration d) (erased_optional b) (erased_optional c) (erased_statement s)
  erased_statement (typed.Break at) = tree.Break at
  erased_statement (typed.Continue at) = tree.Continue at
  erased_statement (typed.Return at e) = tree.Return at (erased_optional e)

  pub erased_block_items : TypedBlockItems → BlockItems
  erased_block_items typed.NoBlockItem = tree.NoBlockItem
  erased_block_items (typed.AndStatement all s) = tree.AndStatement (erased_block_items all) (erased_statement s)
  erased_block_items (typed.AndDeclaration all d) = tree.AndDeclaration (erased_block_items all) (erased_declaration d)
  erased_block_items (typed.AndCase all at e value) = tree.AndCase (erased_block_items all) at (erased e)
  erased_block_items (typed.AndDefault all at) = tree.AndDefault (erased_block_items all) at

abbrev pub erased_unit : TypedTranslationUnit → TranslationUnit
erased_unit typed.NoExternal = tree.NoExternal
erased_unit (typed.AndExternal u d) = tree.AndExternal (erased_unit u) (erased_declaration d)
erased_unit (typed.AndFunctionBody u specifiers d brace items) =
    tree.AndFunctionBody (erased_unit u) (erased_specifiers specifiers) (erased_declarator d) brace (erased_block_items items)
