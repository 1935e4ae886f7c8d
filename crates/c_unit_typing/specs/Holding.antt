-- The most values that an expression of a part of the tree holds at once, those in its type names among them.
use Rattle.std.specs.Prelude.{ℕ, max, Option, Some, None}
use Rattle.c_tree.specs.Tree as tree
use Rattle.c_typing.specs.Held.{held}

abbrev mutual
  pub expr_holds : tree.Expr → ℕ
  expr_holds (tree.Name name) = held (tree.Name name)
  expr_holds (tree.Integer type value place) = held (tree.Integer type value place)
  expr_holds (tree.Character value place) = held (tree.Character value place)
  expr_holds (tree.String pieces) = held (tree.String pieces)
  expr_holds (tree.Paren at e) = max (held (tree.Paren at e)) (expr_holds e)
  expr_holds (tree.Index e at index) = max (held (tree.Index e at index)) (max (expr_holds e) (expr_holds index))
  expr_holds (tree.Call e at arguments) = max (held (tree.Call e at arguments)) (max (expr_holds e) (arguments_holds arguments))
  expr_holds (tree.Member e op at name) = max (held (tree.Member e op at name)) (expr_holds e)
  expr_holds (tree.Postfix e step at) = max (held (tree.Postfix e step at)) (expr_holds e)
  expr_holds (tree.Prefix op at e) = max (held (tree.Prefix op at e)) (expr_holds e)
  expr_holds (tree.SizeOfType at paren type) = max (held (tree.SizeOfType at paren type)) (type_name_holds type)
  expr_holds (tree.Cast at type e) = max (held (tree.Cast at type e)) (max (type_name_holds type) (expr_holds e))
  expr_holds (tree.Infix op left at right) = max (held (tree.Infix op left at right)) (max (expr_holds left) (expr_holds right))
  expr_holds (tree.Conditional test at then_ else_) = max (held (tree.Conditional test at then_ else_)) (max (expr_holds test) (max (expr_holds then_) (expr_holds else_)))
  expr_holds (tree.Assign op left at right) = max (held (tree.Assign op left at right)) (max (expr_holds left) (expr_holds right))
  expr_holds (tree.Comma left right) = max (held (tree.Comma left right)) (max (expr_holds left) (expr_holds right))
  expr_holds (tree.Compound at type brace) = max (held (tree.Compound at type brace)) (type_name_holds type)
  expr_holds (tree.SizeOfCompound at paren type brace) = max (held (tree.SizeOfCompound at paren type brace)) (type_name_holds type)

  pub arguments_holds : tree.Arguments → ℕ
  arguments_holds tree.NoArgument = 0
  arguments_holds (tree.AndArgument arguments e) = max (arguments_holds arguments) (expr_holds e)

  pub type_name_holds : tree.TypeName → ℕ
  type_name_holds (tree.Named specifiers declared) = max ((specifiers_holds specifiers)) (declared_holds declared)

  pub specifiers_holds : tree.Specifiers → ℕ
  specifiers_holds tree.NoSpecifier = 0
  specifiers_holds (tree.AndSpecifier specifiers specifier) = max (specifiers_holds specifiers) (specifier_holds specifier)

  pub specifier_holds : tree.Specifier → ℕ
  specifier_holds (tree.Keyword word) = 0
  specifier_holds (tree.Typedef name) = 0
  specifier_holds (tree.Tagged kind at tag) = 0
  specifier_holds (tree.Aggregate kind at tag brace members) = members_holds members
  specifier_holds (tree.Enum at tag) = 0
  specifier_holds (tree.Enumeration at tag brace enumerators comma) = enumerators_holds enumerators

  pub members_holds : tree.Members → ℕ
  members_holds tree.NoMember = 0
  members_holds (tree.AndMember members specifiers declarators) = max (members_holds members) (max ((specifiers_holds specifiers)) (member_declarators_holds declarators))

  pub member_declarators_holds : tree.MemberDeclarators → ℕ
  member_declarators_holds tree.NoDeclarator = 0
  member_declarators_holds (tree.AndDeclarator declarators d) = max (member_declarators_holds declarators) (declarator_holds d)
  member_declarators_holds (tree.AndBitField declarators d) = max (member_declarators_holds declarators) (declarator_holds d)
  member_declarators_holds (tree.AndUnnamedBitField declarators) = member_declarators_holds declarators

  pub enumerators_holds : tree.Enumerators → ℕ
  enumerators_holds tree.NoEnumerator = 0
  enumerators_holds (tree.AndEnumerator enumerators name) = enumerators_holds enumerators
  enumerators_holds (tree.AndValued enumerators name at e) = max (enumerators_holds enumerators) (expr_holds e)

  pub declarator_holds : tree.Declarator → ℕ
  declarator_holds (tree.Declares stars core parts) = max (core_holds core) (parts_holds parts)

  pub core_holds : tree.Core → ℕ
  core_holds (tree.Names name) = 0
  core_holds tree.Unnamed = 0
  core_holds (tree.Nested at d) = declarator_holds d

  pub parts_holds : tree.Parts → ℕ
  parts_holds tree.NoPart = 0
  parts_holds (tree.AndArray parts at words) = parts_holds parts
  parts_holds (tree.AndSizedArray parts at words e) = max (parts_holds parts) (expr_holds e)
  parts_holds (tree.AndFunction parts at parameters) = max (parts_holds parts) (parameters_holds parameters)

  pub parameters_holds : tree.Parameters → ℕ
  parameters_holds tree.NoParameter = 0
  parameters_holds (tree.AndParameter parameters specifiers declared) = max (parameters_holds parameters) (max ((specifiers_holds specifiers)) (declared_holds declared))

  pub declared_holds : tree.Declared → ℕ
  declared_holds tree.NotDeclared = 0
  declared_holds (tree.DeclaredBy d) = declarator_holds d

abbrev mutual
  pub initialiser_holds : tree.Initialiser → ℕ
  initialiser_holds (tree.Value e) = expr_holds e
  initialiser_holds (tree.Listed brace items comma) = items_holds items

  pub items_holds : tree.Items → ℕ
  items_holds tree.NoItem = 0
  items_holds (tree.AndItem items initialiser) = max (items_holds items) (initialiser_holds initialiser)
  items_holds (tree.AndMemberDesignator items at) = items_holds items
  items_holds (tree.AndIndexDesignator items at) = items_holds items

abbrev pub init_declarators_holds : tree.InitDeclarators → ℕ
init_declarators_holds tree.NoInitDeclarator = 0
init_declarators_holds (tree.AndPlain declarators d) = max (init_declarators_holds declarators) (declarator_holds d)
init_declarators_holds (tree.AndInitialised declarators d at initialiser) = max (init_declarators_holds declarators) (max (declarator_holds d) (initialiser_holds initialiser))

abbrev pub declaration_holds : tree.Declaration → ℕ
declaration_holds (tree.Declare specifiers declarators) = max (specifiers_holds specifiers) (init_declarators_holds declarators)

abbrev pub optional_holds : Option tree.Expr → ℕ
optional_holds None = 0
optional_holds (Some e) = expr_holds e

abbrev mutual
  pub statement_holds : tree.Statement → ℕ
  statement_holds (tree.Block brace items) = block_items_holds items
  statement_holds (tree.Express e) = expr_holds e
  statement_holds tree.Empty = 0
  statement_holds (tree.If at paren test s) = max (expr_holds test) (statement_holds s)
  statement_holds (tree.IfElse at paren test s other) = max (expr_holds test) (max (statement_holds s) (statement_holds other))
  statement_holds (tree.Switch at paren e brace items) = max (expr_holds e) (block_items_holds items)
  statement_holds (tree.While at paren test s) = max (expr_holds test) (statement_holds s)
  statement_holds (tree.DoWhile s at paren test) = max (statement_holds s) (expr_holds test)
  statement_holds (tree.For at paren first test step s) = max (optional_holds first) (max (optional_holds test) (max (optional_holds step) (statement_holds s)))
  statement_holds (tree.ForDeclaration at paren first test step s) = max (declaration_holds first) (max (optional_holds test) (max (optional_holds step) (statement_holds s)))
  statement_holds (tree.Break at) = 0
  statement_holds (tree.Continue at) = 0
  statement_holds (tree.Return at e) = optional_holds e

  pub block_items_holds : tree.BlockItems → ℕ
  block_items_holds tree.NoBlockItem = 0
  block_items_holds (tree.AndStatement items s) = max (block_items_holds items) (statement_holds s)
  block_items_holds (tree.AndDeclaration items d) = max (block_items_holds items) (declaration_holds d)
  block_items_holds (tree.AndCase items at e) = max (block_items_holds items) (expr_holds e)
  block_items_holds (tree.AndDefault items at) = block_items_holds items

abbrev pub unit_holds : tree.TranslationUnit → ℕ
unit_holds tree.NoExternal = 0
unit_holds (tree.AndExternal unit d) = max (unit_holds unit) (declaration_holds d)
unit_holds (tree.AndFunctionBody unit specifiers d brace items) = max (unit_holds unit) (max (specifiers_holds specifiers) (max (declarator_holds d) ((block_items_holds items))))
