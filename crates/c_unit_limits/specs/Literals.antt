-- The bytes of the string literals of a part of the tree, with 16 for each: what judging the part counts as objects that last.
use Rattle.std.specs.Prelude.{ℕ, ◌+◌, List, [], ◌∷◌}
use Rattle.c_tree.specs.Tree as tree
use Rattle.c_tree.specs.TypedParts.{Made, Literal, Name}
use Rattle.c_tree.specs.declared.typed_word.Home.{Home}
use Rattle.c_tree.specs.declared.typed_word.Home.TheVariants as home
use Rattle.cc_base.specs.declared.number.TypeId.{TypeId}
use Rattle.c_types.specs.Layouts.{size_of}
use Rattle.c_types.specs.Table.{Table}
use Rattle.c_typing.specs.Assignments.{literal_size, literal_cost}

abbrev mutual
  pub expr_literals : tree.Expr → ℕ
  expr_literals (tree.Name name) = 0
  expr_literals (tree.Integer type value place) = 0
  expr_literals (tree.Character value place) = 0
  expr_literals (tree.String pieces) = literal_size pieces + 16
  expr_literals (tree.Paren at e) = expr_literals e
  expr_literals (tree.Index e at index) = expr_literals e + expr_literals index
  expr_literals (tree.Call e at arguments) = expr_literals e + arguments_literals arguments
  expr_literals (tree.Member e op at name) = expr_literals e
  expr_literals (tree.Postfix e step at) = expr_literals e
  expr_literals (tree.Prefix op at e) = expr_literals e
  expr_literals (tree.SizeOfType at paren type) = type_name_literals type
  expr_literals (tree.Cast at type e) = type_name_literals type + expr_literals e
  expr_literals (tree.Infix op left at right) = expr_literals left + expr_literals right
  expr_literals (tree.Conditional test at then_ else_) = expr_literals test + (expr_literals then_ + expr_literals else_)
  expr_literals (tree.Assign op left at right) = expr_literals left + expr_literals right
  expr_literals (tree.Comma left right) = expr_literals left + expr_literals right
  expr_literals (tree.Compound at type brace) = type_name_literals type
  expr_literals (tree.SizeOfCompound at paren type brace) = type_name_literals type

  pub arguments_literals : tree.Arguments → ℕ
  arguments_literals tree.NoArgument = 0
  arguments_literals (tree.AndArgument arguments e) = arguments_literals arguments + expr_literals e

  pub type_name_literals : tree.TypeName → ℕ
  type_name_literals (tree.Named specifiers declared) = specifiers_literals specifiers + declared_literals declared

  pub specifiers_literals : tree.Specifiers → ℕ
  specifiers_literals tree.NoSpecifier = 0
  specifiers_literals (tree.AndSpecifier specifiers specifier) = specifiers_literals specifiers + specifier_literals specifier

  pub specifier_literals : tree.Specifier → ℕ
  specifier_literals (tree.Keyword word) = 0
  specifier_literals (tree.Typedef name) = 0
  specifier_literals (tree.Tagged kind at tag) = 0
  specifier_literals (tree.Aggregate kind at tag brace members) = members_literals members
  specifier_literals (tree.Enum at tag) = 0
  specifier_literals (tree.Enumeration at tag brace enumerators comma) = enumerators_literals enumerators

  pub members_literals : tree.Members → ℕ
  members_literals tree.NoMember = 0
  members_literals (tree.AndMember members specifiers declarators) = members_literals members + (specifiers_literals specifiers + member_declarators_literals declarators)

  pub member_declarators_literals : tree.MemberDeclarators → ℕ
  member_declarators_literals tree.NoDeclarator = 0
  member_declarators_literals (tree.AndDeclarator declarators d) = member_declarators_literals declarators + declarator_literals d
  member_declarators_literals (tree.AndBitField declarators d) = member_declarators_literals declarators + declarator_literals d
  member_declarators_literals (tree.AndUnnamedBitField declarators) = member_declarators_literals declarators

  pub enumerators_literals : tree.Enumerators → ℕ
  enumerators_literals tree.NoEnumerator = 0
  enumerators_literals (tree.AndEnumerator enumerators name) = enumerators_literals enumerators
  enumerators_literals (tree.AndValued enumerators name at e) = enumerators_literals enumerators + expr_literals e

  pub declarator_literals : tree.Declarator → ℕ
  declarator_literals (tree.Declares stars core parts) = core_literals core + parts_literals parts

  pub core_literals : tree.Core → ℕ
  core_literals (tree.Names name) = 0
  core_literals tree.Unnamed = 0
  core_literals (tree.Nested at d) = declarator_literals d

  pub parts_literals : tree.Parts → ℕ
  parts_literals tree.NoPart = 0
  parts_literals (tree.AndArray parts at words) = parts_literals parts
  parts_literals (tree.AndSizedArray parts at words e) = parts_literals parts + expr_literals e
  parts_literals (tree.AndFunction parts at parameters) = parts_literals parts + parameters_literals parameters

  pub parameters_literals : tree.Parameters → ℕ
  parameters_literals tree.NoParameter = 0
  parameters_literals (tree.AndParameter parameters specifiers declared) = parameters_literals parameters + (specifiers_literals specifiers + declared_literals declared)

  pub declared_literals : tree.Declared → ℕ
  declared_literals tree.NotDeclared = 0
  declared_literals (tree.DeclaredBy d) = declarator_literals d

abbrev pub literals_made : List Made → ℕ
literals_made [] = 0
literals_made (m ∷ made) = literal_cost m + literals_made made

-- the bytes of the objects that last among what a typed tree makes, with 16 for each, as their types are in the table
abbrev pub static_bytes : Table → Made → ℕ
static_bytes table (Literal pieces home t) = size_of table t + 16
static_bytes table (Name name (home.Static n) t) = size_of table t + 16
static_bytes table made = 0

abbrev pub statics_made : Table → List Made → ℕ
statics_made table [] = 0
statics_made table (m ∷ made) = static_bytes table m + statics_made table made

-- the bytes of an object of the type that has this home, where it lasts
abbrev pub own_bytes : Table → Home → TypeId → ℕ
own_bytes table (home.Static n) t = size_of table t + 16
own_bytes table h t = 0
