-- What is read off a typed tree: the types of its expressions, what it makes, its objects, its functions and its static initialisers.
use Rattle.std.specs.Prelude.{Bool, true, false, List, [], ◌∷◌, ◌++◌, flat_map, Option, None, Some, if◌then◌else◌}
use Rattle.cc_base.specs.declared.place.Place.{Place}
use Rattle.cc_base.specs.declared.number.NodeId.{NodeId}
use Rattle.cc_base.specs.declared.number.TypeId.{TypeId}
use Rattle.c_lexer.specs.declared.word.Keyword.{Keyword}
use Rattle.c_lexer.specs.declared.word.Keyword.TheVariants as keyword
use Rattle.c_tree.specs.declared.leaf.Identifier.{Identifier}
use Rattle.c_tree.specs.declared.leaf.StringPiece.{StringPiece}
use Rattle.c_tree.specs.declared.typed_unit.Printed.{Printed}
use Rattle.c_tree.specs.declared.typed_word.Adjusted.{Adjusted}
use Rattle.c_tree.specs.declared.typed_word.Conversion.{Conversion}
use Rattle.c_tree.specs.declared.typed_word.Conversion.TheVariants as conversion
use Rattle.c_tree.specs.declared.typed_word.Home.{Home}
use Rattle.c_tree.specs.declared.typed_word.Home.TheVariants as home
use Rattle.c_tree.specs.declared.typed_word.Side.{Side}
use Rattle.c_tree.specs.declared.typed_word.Side.TheVariants as side
use Rattle.c_tree.specs.Erasure.{erased, erased_place, erased_initialiser}
use Rattle.c_tree.specs.Places.{pieces_place, expr_place, initialiser_place}
use Rattle.c_tree.specs.TypedTree as typed
use Rattle.c_tree.specs.declared.typed_word.TypedStar.{TypedStar}
use Rattle.c_tree.specs.TypedTree.{TypedExpr, TypedPlace, TypedArguments, TypedTypeName, TypedSpecifiers, TypedSpecifierList, TypedSpecifier, TypedMembers, TypedMemberDeclarators, TypedEnumerators, TypedDeclarator, TypedForm, TypedCore, TypedParts, TypedParameters, TypedDeclared, TypedInitialiser, TypedItems, TypedInitDeclarators, TypedDeclaration, TypedStatement, TypedBlockItems, TypedTranslationUnit}

-- Places

-- Where the checks of a place stand: at its own operator, or at its name, or at its first literal; parentheses aside. A comma has that of its
-- right operand.
abbrev pub place_at : TypedPlace → Place
place_at (typed.Variable name home t) = name.place
place_at (typed.String pieces home t) = pieces_place pieces
place_at (typed.ParenPlace at p) = place_at p
place_at (typed.Target at e t) = at
place_at (typed.Element which a at b t) = at
place_at (typed.Member p at name i n t) = at
place_at (typed.MemberAt e at name i n t) = at
place_at (typed.StructAssign p at q) = at
place_at (typed.StructConditional c at p q) = at
place_at (typed.StructComma e p) = place_at p

-- Types

abbrev pub named_type : TypedTypeName → TypeId
named_type (typed.Named specifiers declared t) = t

abbrev pub specified_type : TypedSpecifiers → TypeId
specified_type (typed.Specified list t) = t

abbrev pub form_of : TypedDeclarator → TypedForm
form_of (typed.Declares form t) = form

abbrev pub declared_type : TypedDeclarator → TypeId
declared_type (typed.Declares form t) = t

-- the type of what a place designates
abbrev pub place_type : TypedPlace → TypeId
place_type (typed.Variable name home t) = t
place_type (typed.String pieces home t) = t
place_type (typed.ParenPlace at p) = place_type p
place_type (typed.Target at e t) = t
place_type (typed.Element which a at b t) = t
place_type (typed.Member p at name i n t) = t
place_type (typed.MemberAt e at name i n t) = t
place_type (typed.StructAssign p at q) = place_type p
place_type (typed.StructConditional c at p q) = place_type p
place_type (typed.StructComma e p) = place_type p

-- the type of a value
abbrev pub type_of : TypedExpr → TypeId
type_of (typed.Integer of value at t) = t
type_of (typed.Character value at t) = t
type_of (typed.Enumerator name value t) = t
type_of (typed.FunctionName name number n t) = t
type_of (typed.RuntimeName name runtime t) = t
type_of (typed.Paren at e) = type_of e
type_of (typed.Read p) = place_type p
type_of (typed.Unread p) = place_type p
type_of (typed.Decay p n t) = t
type_of (typed.Convert which at t e) = t
type_of (typed.Cast which at to e) = named_type to
type_of (typed.AddressOf at p n t) = t
type_of (typed.AddressOfElement at p t) = t
type_of (typed.AddressOfFunction at e) = type_of e
type_of (typed.FunctionAt at e) = type_of e
type_of (typed.Prefix operator at e t) = t
type_of (typed.SizeOfPlace at p size t) = t
type_of (typed.SizeOfValue at e size t) = t
type_of (typed.SizeOfType at paren name size t) = t
type_of (typed.StepBefore operator at p) = place_type p
type_of (typed.StepAfter p operator at) = place_type p
type_of (typed.Arithmetic operator a at b t) = t
type_of (typed.Moved operator which a at b t) = t
type_of (typed.Difference a at b t) = t
type_of (typed.Compared operator a at b t) = t
type_of (typed.Logical operator a at b t) = t
type_of (typed.Conditional c at a b t) = t
type_of (typed.PointerConditional c at a b n t) = t
type_of (typed.Comma a b) = type_of b
type_of (typed.Assign p at e) = place_type p
type_of (typed.AssignWith operator p at e t) = place_type p
type_of (typed.Call f at arguments t) = t
type_of (typed.CallRuntime runtime f at arguments t) = t
type_of (typed.Allocate runtime f at arguments n t) = t
type_of (typed.AllocateFor runtime f at arguments t) = t

-- the operand that is the pointer
abbrev pub pointer_side : Side → TypedExpr → TypedExpr → TypedExpr
pointer_side side.Left a b = a
pointer_side side.Right a b = b

-- The node of the address of a place, where `node_in` gives a pointer type's node: the home of a variable or literal, the pointer's
-- own node for what it points to, a member's. A struct that is a value has that of the first place whose value it may be.
abbrev pub address_node : (TypeId → NodeId) → TypedPlace → NodeId
address_node node_in (typed.Variable name home t) = home
address_node node_in (typed.String pieces home t) = home
address_node node_in (typed.ParenPlace at p) = address_node node_in p
address_node node_in (typed.Target at e t) = node_in (type_of e)
address_node node_in (typed.Element which a at b t) = node_in (type_of (pointer_side which a b))
address_node node_in (typed.Member p at name i n t) = n
address_node node_in (typed.MemberAt e at name i n t) = n
address_node node_in (typed.StructAssign p at q) = address_node node_in p
address_node node_in (typed.StructConditional c at p q) = address_node node_in p
address_node node_in (typed.StructComma e p) = address_node node_in p

abbrev pub is_null_conversion : Conversion → Bool
is_null_conversion conversion.NullToPointer = true
is_null_conversion which = false

-- an operand of a comparison is a null constant
abbrev pub is_null : TypedExpr → Bool
is_null (typed.Convert which at t e) = is_null_conversion which
is_null e = false

-- What a typed tree makes

pub data Made : Type 0 where
  -- a pointer type that is written, at its `*` or at the parameter that it stands for
  Written : Place → NodeId → Made
  -- a name that a declarator declares, with its home and its type
  Name : Identifier → Home → TypeId → Made
  -- a string literal that is an object, with its home and its type
  Literal : List StringPiece → NodeId → TypeId → Made
  -- an address expression, by its node
  Address : NodeId → Made
  -- the assignment of a struct or union of this type
  Copy : TypeId → Made

abbrev pub made_by_stars : List TypedStar → List Made
made_by_stars [] = []
made_by_stars (s ∷ stars) = Written s.star.place s.node ∷ made_by_stars stars

abbrev pub made_by_adjusted : Option Adjusted → List Made
made_by_adjusted None = []
made_by_adjusted (Some adjusted) = Written adjusted.place adjusted.node ∷ []

-- What each part makes, in the order of the text; what an operator makes comes after what its operands make.
abbrev mutual
  pub made_by : TypedExpr → List Made
  made_by (typed.Integer of value at t) = []
  made_by (typed.Character value at t) = []
  made_by (typed.Enumerator name value t) = []
  made_by (typed.FunctionName name number n t) = Address n ∷ []
  made_by (typed.RuntimeName name runtime t) = []
  made_by (typed.Paren at e) = made_by e
  made_by (typed.Read p) = made_by_place p
  made_by (typed.Unread p) = made_by_place p
  made_by (typed.Decay p n t) = made_by_place p ++ Address n ∷ []
  made_by (typed.Convert which at t e) = made_by e
  made_by (typed.Cast which at to e) = made_by_type_name to ++ made_by e
  made_by (typed.AddressOf at p n t) = made_by_place p ++ Address n ∷ []
  made_by (typed.AddressOfElement at p t) = made_by_place p
  made_by (typed.AddressOfFunction at e) = made_by e
  made_by (typed.FunctionAt at e) = made_by e
  made_by (typed.Prefix operator at e t) = made_by e
  made_by (typed.SizeOfPlace at p size t) = made_by_place p
  made_by (typed.SizeOfValue at e size t) = made_by e
  made_by (typed.SizeOfType at paren name size t) = made_by_type_name name
  made_by (typed.StepBefore operator at p) = made_by_place p
  made_by (typed.StepAfter p operator at) = made_by_place p
  made_by (typed.Arithmetic operator a at b t) = made_by a ++ made_by b
  made_by (typed.Moved operator which a at b t) = made_by a ++ made_by b
  made_by (typed.Difference a at b t) = made_by a ++ made_by b
  made_by (typed.Compared operator a at b t) = made_by a ++ made_by b
  made_by (typed.Logical operator a at b t) = made_by a ++ made_by b
  made_by (typed.Conditional c at a b t) = made_by c ++ made_by a ++ made_by b
  made_by (typed.PointerConditional c at a b n t) = made_by c ++ made_by a ++ made_by b ++ Address n ∷ []
  made_by (typed.Comma a b) = made_by a ++ made_by b
  made_by (typed.Assign p at e) = made_by_place p ++ made_by e
  made_by (typed.AssignWith operator p at e t) = made_by_place p ++ made_by e
  made_by (typed.Call f at arguments t) = made_by f ++ made_by_arguments arguments
  made_by (typed.CallRuntime runtime f at arguments t) = made_by f ++ made_by_arguments arguments
  made_by (typed.Allocate runtime f at arguments n t) = made_by f ++ made_by_arguments arguments ++ Address n ∷ []
  made_by (typed.AllocateFor runtime f at arguments t) = made_by f ++ made_by_arguments arguments

  pub made_by_place : TypedPlace → List Made
  made_by_place (typed.Variable name home t) = []
  made_by_place (typed.String pieces home t) = Literal pieces home t ∷ []
  made_by_place (typed.ParenPlace at p) = made_by_place p
  made_by_place (typed.Target at e t) = made_by e
  made_by_place (typed.Element which a at b t) = made_by a ++ made_by b
  made_by_place (typed.Member p at name i n t) = made_by_place p ++ Address n ∷ []
  made_by_place (typed.MemberAt e at name i n t) = made_by e ++ Address n ∷ []
  made_by_place (typed.StructAssign p at q) = made_by_place p ++ made_by_place q ++ Copy (place_type p) ∷ []
  made_by_place (typed.StructConditional c at p q) = made_by c ++ made_by_place p ++ made_by_place q
  made_by_place (typed.StructComma e p) = made_by e ++ made_by_place p

  pub made_by_arguments : TypedArguments → List Made
  made_by_arguments typed.NoArgument = []
  made_by_arguments (typed.AndArgument all e) = made_by_arguments all ++ made_by e

  pub made_by_type_name : TypedTypeName → List Made
  made_by_type_name (typed.Named specifiers declared t) = made_by_specifiers specifiers ++ made_by_declared declared t

  pub made_by_specifiers : TypedSpecifiers → List Made
  made_by_specifiers (typed.Specified list t) = made_by_specifier_list list

  pub made_by_specifier_list : TypedSpecifierList → List Made
  made_by_specifier_list typed.NoSpecifier = []
  made_by_specifier_list (typed.AndSpecifier all s) = made_by_specifier_list all ++ made_by_specifier s

  pub made_by_specifier : TypedSpecifier → List Made
  made_by_specifier (typed.Keyword word) = []
  made_by_specifier (typed.Typedef name t) = []
  made_by_specifier (typed.Tagged kind at name t) = []
  made_by_specifier (typed.Aggregate kind at name brace members t) = made_by_members members
  made_by_specifier (typed.Enum at name) = []
  made_by_specifier (typed.Enumeration at name brace all comma) = made_by_enumerators all

  pub made_by_members : TypedMembers → List Made
  made_by_members typed.NoMember = []
  made_by_members (typed.AndMember all specifiers declarators) =
      made_by_members all ++ made_by_specifiers specifiers ++ made_by_member_declarators declarators

  pub made_by_member_declarators : TypedMemberDeclarators → List Made
  made_by_member_declarators typed.NoDeclarator = []
  made_by_member_declarators (typed.AndDeclarator all d) = made_by_member_declarators all ++ made_by_declarator d

  pub made_by_enumerators : TypedEnumerators → List Made
  made_by_enumerators typed.NoEnumerator = []
  made_by_enumerators (typed.AndEnumerator all name value) = made_by_enumerators all
  made_by_enumerators (typed.AndValued all name at e value) = made_by_enumerators all ++ made_by e

  pub made_by_declarator : TypedDeclarator → List Made
  made_by_declarator (typed.Declares form t) = made_by_form form t

  pub made_by_form : TypedForm → TypeId → List Made
  made_by_form (typed.Form stars core parts) t = made_by_stars stars ++ made_by_core core t ++ made_by_parts parts

  pub made_by_core : TypedCore → TypeId → List Made
  made_by_core (typed.Names name home) t = Name name home t ∷ []
  made_by_core typed.Unnamed t = []
  made_by_core (typed.Nested at form) t = made_by_form form t

  pub made_by_parts : TypedParts → List Made
  made_by_parts typed.NoPart = []
  made_by_parts (typed.AndArray all at words) = made_by_parts all
  made_by_parts (typed.AndSizedArray all at words e size) = made_by_parts all ++ made_by e
  made_by_parts (typed.AndFunction all at parameters) = made_by_parts all ++ made_by_parameters parameters

  pub made_by_parameters : TypedParameters → List Made
  made_by_parameters typed.NoParameter = []
  made_by_parameters (typed.AndParameter all specifiers declared adjusted t) =
      made_by_parameters all ++ made_by_specifiers specifiers ++ made_by_declared declared t ++ made_by_adjusted adjusted

  pub made_by_declared : TypedDeclared → TypeId → List Made
  made_by_declared typed.NotDeclared t = []
  made_by_declared (typed.DeclaredBy form) t = made_by_form form t

abbrev mutual
  pub made_by_initialiser : TypedInitialiser → List Made
  made_by_initialiser (typed.Value e) = made_by e
  made_by_initialiser (typed.Copied p at) = made_by_place p ++ Copy (place_type p) ∷ []
  made_by_initialiser (typed.Text pieces bytes) = []
  made_by_initialiser (typed.Listed at items comma t) = made_by_items items

  pub made_by_items : TypedItems → List Made
  made_by_items typed.NoItem = []
  made_by_items (typed.AndItem all offset t i) = made_by_items all ++ made_by_initialiser i

abbrev pub made_by_init_declarators : TypedInitDeclarators → List Made
made_by_init_declarators typed.NoInitDeclarator = []
made_by_init_declarators (typed.AndPlain all d) = made_by_init_declarators all ++ made_by_declarator d
made_by_init_declarators (typed.AndInitialised all d at i) =
    made_by_init_declarators all ++ made_by_declarator d ++ made_by_initialiser i

abbrev pub made_by_declaration : TypedDeclaration → List Made
made_by_declaration (typed.Declare specifiers all) = made_by_specifiers specifiers ++ made_by_init_declarators all

abbrev pub made_by_optional : Option TypedExpr → List Made
made_by_optional None = []
made_by_optional (Some e) = made_by e

abbrev mutual
  pub made_by_statement : TypedStatement → List Made
  made_by_statement (typed.Block at items) = made_by_block_items items
  made_by_statement (typed.Express e) = made_by e
  made_by_statement typed.Empty = []
  made_by_statement (typed.If at paren c s) = made_by c ++ made_by_statement s
  made_by_statement (typed.IfElse at paren c s r) = made_by c ++ made_by_statement s ++ made_by_statement r
  made_by_statement (typed.Switch at paren e brace items) = made_by e ++ made_by_block_items items
  made_by_statement (typed.While at paren c s) = made_by c ++ made_by_statement s
  made_by_statement (typed.DoWhile s at paren c) = made_by_statement s ++ made_by c
  made_by_statement (typed.For at paren a b c s) = made_by_optional a ++ made_by_optional b ++ made_by_optional c ++ made_by_statement s
  made_by_statement (typed.ForDeclaration at paren d b c s) =
      made_by_declaration d ++ made_by_optional b ++ made_by_optional c ++ made_by_statement s
  made_by_statement (typed.Break at) = []
  made_by_statement (typed.Continue at) = []
  made_by_statement (typed.Return at e) = made_by_optional e

  pub made_by_block_items : TypedBlockItems → List Made
  made_by_block_items typed.NoBlockItem = []
  made_by_block_items (typed.AndStatement all s) = made_by_block_items all ++ made_by_statement s
  made_by_block_items (typed.AndDeclaration all d) = made_by_block_items all ++ made_by_declaration d
  made_by_block_items (typed.AndCase all at e value) = made_by_block_items all ++ made_by e
  made_by_block_items (typed.AndDefault all at) = made_by_block_items all

abbrev pub made_by_unit : TypedTranslationUnit → List Made
made_by_unit typed.NoExternal = []
made_by_unit (typed.AndExternal u d) = made_by_unit u ++ made_by_declaration d
made_by_unit (typed.AndFunctionBody u specifiers d brace items) =
    made_by_unit u ++ made_by_specifiers specifiers ++ made_by_declarator d ++ made_by_block_items items

-- Nodes

abbrev pub node_of_home : Home → List NodeId
node_of_home home.None = []
node_of_home (home.Static n) = n ∷ []
node_of_home (home.Local n) = n ∷ []
node_of_home (home.Parameter n) = n ∷ []
node_of_home (home.Known n) = []

abbrev pub node_made : Made → List NodeId
node_made (Written place n) = n ∷ []
node_made (Name name home t) = node_of_home home
node_made (Literal pieces home t) = home ∷ []
node_made (Address n) = n ∷ []
node_made (Copy t) = []

-- the nodes that were made, in order
abbrev pub nodes_made : List Made → List NodeId
nodes_made made = flat_map node_made made

-- the nodes whose kinds may be printed
abbrev pub printed : Made → List Printed
printed (Written place n) = record { place = place; node = n; home = false } ∷ []
printed (Name name (home.Static n) t) = record { place = name.place; node = n; home = true } ∷ []
printed (Name name (home.Local n) t) = record { place = name.place; node = n; home = true } ∷ []
printed (Name name (home.Parameter n) t) = record { place = name.place; node = n; home = true } ∷ []
printed made = []

-- Objects

-- An object with a home: its type, and what a string literal holds.
pub record MadeObject : Type 0 where
  pub home : NodeId
  pub type : TypeId
  pub place : Place
  pub literal : Option (List StringPiece)

abbrev pub named_object : Identifier → NodeId → TypeId → MadeObject
named_object name home t = record { home = home; type = t; place = name.place; literal = None }

-- objects that live as long as the program
abbrev pub static_made : Made → List MadeObject
static_made (Name name (home.Static n) t) = named_object name n t ∷ []
static_made (Literal pieces home t) = record { home = home; type = t; place = pieces_place pieces; literal = Some pieces } ∷ []
static_made made = []

-- objects that live as long as a call
abbrev pub local_made : Made → List MadeObject
local_made (Name name (home.Local n) t) = named_object name n t ∷ []
local_made made = []

abbrev pub statics_of : TypedTranslationUnit → List MadeObject
statics_of u = flat_map static_made (made_by_unit u)

abbrev pub locals_of : TypedBlockItems → List MadeObject
locals_of body = flat_map local_made (made_by_block_items body)

-- Functions

-- the home of what a form declares
abbrev mutual
  pub home_of_form : TypedForm → Home
  home_of_form (typed.Form stars core parts) = home_of_core core

  pub home_of_core : TypedCore → Home
  home_of_core (typed.Names name home) = home
  home_of_core typed.Unnamed = home.None
  home_of_core (typed.Nested at form) = home_of_form form

abbrev pub home_of : TypedDeclarator → Home
home_of (typed.Declares form t) = home_of_form form

-- the node of a home: an object has it, and a function or a typedef has none
abbrev pub home_node : Home → Option NodeId
home_node home.None = None
home_node (home.Static n) = Some n
home_node (home.Local n) = Some n
home_node (home.Parameter n) = Some n
home_node (home.Known n) = Some n

-- the name of what a form declares
abbrev mutual
  pub name_of_form : TypedForm → Option Identifier
  name_of_form (typed.Form stars core parts) = name_of_core core

  pub name_of_core : TypedCore → Option Identifier
  name_of_core (typed.Names name home) = Some name
  name_of_core typed.Unnamed = None
  name_of_core (typed.Nested at form) = name_of_form form

abbrev pub name_of : TypedDeclarator → Option Identifier
name_of (typed.Declares form t) = name_of_form form

abbrev pub unless_starred : List TypedStar → TypedParameters → TypedParameters
unless_starred [] outer = outer
unless_starred (s ∷ stars) outer = typed.NoParameter

abbrev pub nearest_parameters : TypedParts → TypedParameters → TypedParameters
nearest_parameters typed.NoPart outer = outer
nearest_parameters (typed.AndArray all at words) outer = nearest_parameters all typed.NoParameter
nearest_parameters (typed.AndSizedArray all at words e size) outer = nearest_parameters all typed.NoParameter
nearest_parameters (typed.AndFunction all at parameters) outer = nearest_parameters all parameters

-- the parameters of the part that stands nearest to the name, from those that a form around this one gives
abbrev mutual
  pub parameters_in_form : TypedForm → TypedParameters → TypedParameters
  parameters_in_form (typed.Form stars core parts) outer = parameters_in_core core (nearest_parameters parts (unless_starred stars outer))

  pub parameters_in_core : TypedCore → TypedParameters → TypedParameters
  parameters_in_core (typed.Names name home) found = found
  parameters_in_core typed.Unnamed found = found
  parameters_in_core (typed.Nested at form) found = parameters_in_form form found

-- A parameter of a function that is defined: its type, and its home where it has a name.
pub record ParameterObject : Type 0 where
  pub home : Option NodeId
  pub type : TypeId

abbrev pub parameter_home : Home → Option NodeId
parameter_home (home.Parameter n) = Some n
parameter_home other = None

abbrev pub declared_home : TypedDeclared → Home
declared_home typed.NotDeclared = home.None
declared_home (typed.DeclaredBy form) = home_of_form form

abbrev pub parameter_objects : TypedParameters → List ParameterObject
parameter_objects typed.NoParameter = []
parameter_objects (typed.AndParameter all specifiers declared adjusted t) =
    parameter_objects all ++ record { home = parameter_home (declared_home declared); type = t } ∷ []

-- `(void)` is a list without parameters (C99 6.7.5.3p10)
abbrev pub is_void_keyword : Keyword → Bool
is_void_keyword keyword.Void = true
is_void_keyword word = false

abbrev pub is_void_word : TypedSpecifierList → Bool
is_void_word (typed.AndSpecifier typed.NoSpecifier (typed.Keyword word)) = is_void_keyword word.keyword
is_void_word list = false

abbrev pub is_void_list : TypedParameters → Bool
is_void_list (typed.AndParameter typed.NoParameter (typed.Specified list t) typed.NotDeclared adjusted u) = is_void_word list
is_void_list parameters = false

abbrev pub taken_parameters : TypedParameters → List ParameterObject
taken_parameters parameters = if is_void_list parameters then [] else parameter_objects parameters

-- the parameters of the function that a declarator declares
abbrev pub parameters_of : TypedDeclarator → List ParameterObject
parameters_of (typed.Declares form t) = taken_parameters (parameters_in_form form typed.NoParameter)

-- A function that the unit defines.
pub record DefinedFunction : Type 0 where
  pub declarator : TypedDeclarator
  pub body : TypedBlockItems

-- the functions in the order of their definitions, which numbers them from 0
abbrev pub functions_of : TypedTranslationUnit → List DefinedFunction
functions_of typed.NoExternal = []
functions_of (typed.AndExternal u d) = functions_of u
functions_of (typed.AndFunctionBody u specifiers d brace items) = functions_of u ++ record { declarator = d; body = items } ∷ []

-- Static initialisers

-- What initialises an object that lives as long as the program.
pub record StaticInitialiser : Type 0 where
  pub home : NodeId
  pub type : TypeId
  pub place : Place
  pub initialiser : TypedInitialiser

abbrev pub static_home : Home → List NodeId
static_home (home.Static n) = n ∷ []
static_home (home.Known n) = n ∷ []
static_home other = []

abbrev pub initialises : List NodeId → TypeId → Place → TypedInitialiser → List StaticInitialiser
initialises [] t at i = []
initialises (n ∷ more) t at i = record { home = n; type = t; place = at; initialiser = i } ∷ []

abbrev pub initialisers_in_declarators : TypedInitDeclarators → List StaticInitialiser
initialisers_in_declarators typed.NoInitDeclarator = []
initialisers_in_declarators (typed.AndPlain all d) = initialisers_in_declarators all
initialisers_in_declarators (typed.AndInitialised all d at i) =
    initialisers_in_declarators all ++ initialises (static_home (home_of d)) (declared_type d) at i

abbrev pub initialisers_in_declaration : TypedDeclaration → List StaticInitialiser
initialisers_in_declaration (typed.Declare specifiers all) = initialisers_in_declarators all

abbrev mutual
  pub initialisers_in : TypedStatement → List StaticInitialiser
  initialisers_in (typed.Block at items) = initialisers_in_items items
  initialisers_in (typed.Express e) = []
  initialisers_in typed.Empty = []
  initialisers_in (typed.If at paren c s) = initialisers_in s
  initialisers_in (typed.IfElse at paren c s r) = initialisers_in s ++ initialisers_in r
  initialisers_in (typed.Switch at paren e brace items) = initialisers_in_items items
  initialisers_in (typed.While at paren c s) = initialisers_in s
  initialisers_in (typed.DoWhile s at paren c) = initialisers_in s
  initialisers_in (typed.For at paren a b c s) = initialisers_in s
  initialisers_in (typed.ForDeclaration at paren d b c s) = initialisers_in_declaration d ++ initialisers_in s
  initialisers_in (typed.Break at) = []
  initialisers_in (typed.Continue at) = []
  initialisers_in (typed.Return at e) = []

  pub initialisers_in_items : TypedBlockItems → List StaticInitialiser
  initialisers_in_items typed.NoBlockItem = []
  initialisers_in_items (typed.AndStatement all s) = initialisers_in_items all ++ initialisers_in s
  initialisers_in_items (typed.AndDeclaration all d) = initialisers_in_items all ++ initialisers_in_declaration d
  initialisers_in_items (typed.AndCase all at e value) = initialisers_in_items all
  initialisers_in_items (typed.AndDefault all at) = initialisers_in_items all

-- the initialisers of objects that live as long as the program, in the order of the text
abbrev pub static_initialisers : TypedTranslationUnit → List StaticInitialiser
static_initialisers typed.NoExternal = []
static_initialisers (typed.AndExternal u d) = static_initialisers u ++ initialisers_in_declaration d
static_initialisers (typed.AndFunctionBody u specifiers d brace items) = static_initialisers u ++ initialisers_in_items items

-- Places of first tokens

abbrev pub first_place : TypedExpr → Place
first_place e = expr_place (erased e)

abbrev pub first_place_of_place : TypedPlace → Place
first_place_of_place p = expr_place (erased_place p)

abbrev pub item_place : TypedInitialiser → Place
item_place i = initialiser_place (erased_initialiser i)
