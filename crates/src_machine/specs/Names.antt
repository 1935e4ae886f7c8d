-- The objects and functions that a typed unit declares, by each of their declarators, in the order of the text.
use Rattle.std.specs.Prelude.{Bool, true, false, if◌then◌else◌, List, [], ◌∷◌, ◌++◌, flat_map, Option, None, Some, bytes_eq}
use Rattle.cc_base.specs.declared.number.NodeId.{NodeId}
use Rattle.cc_base.specs.declared.number.TypeId.{TypeId}
use Rattle.c_types.specs.Table.{Table, is_function}
use Rattle.c_tree.specs.Words.{is_typedef_word}
use Rattle.c_tree.specs.declared.leaf.Identifier.{Identifier}
use Rattle.c_tree.specs.TypedTree as typed
use Rattle.c_tree.specs.TypedTree.{TypedSpecifiers, TypedSpecifierList, TypedDeclarator, TypedInitDeclarators, TypedDeclaration, TypedStatement, TypedBlockItems, TypedTranslationUnit}
use Rattle.c_tree.specs.TypedParts.{declared_type, home_of, name_of, home_node}
use Rattle.src_machine.specs.World.{same_node}

-- Declarators

-- whether specifiers say `typedef`
abbrev pub is_typedef_list : TypedSpecifierList → Bool
is_typedef_list typed.NoSpecifier = false
is_typedef_list (typed.AndSpecifier all (typed.Keyword word)) = if is_typedef_word word.keyword then true else is_typedef_list all
is_typedef_list (typed.AndSpecifier all specifier) = is_typedef_list all

abbrev pub is_typedef : TypedSpecifiers → Bool
is_typedef (typed.Specified list t) = is_typedef_list list

abbrev pub declarators_of : TypedInitDeclarators → List TypedDeclarator
declarators_of typed.NoInitDeclarator = []
declarators_of (typed.AndPlain all d) = declarators_of all ++ d ∷ []
declarators_of (typed.AndInitialised all d at i) = declarators_of all ++ d ∷ []

-- a typedef declares no object and no function (C99 6.7.7)
abbrev pub declarators_in_declaration : TypedDeclaration → List TypedDeclarator
declarators_in_declaration (typed.Declare specifiers all) = if is_typedef specifiers then [] else declarators_of all

abbrev mutual
  pub declarators_in_statement : TypedStatement → List TypedDeclarator
  declarators_in_statement (typed.Block at items) = declarators_in_items items
  declarators_in_statement (typed.If at paren c s) = declarators_in_statement s
  declarators_in_statement (typed.IfElse at paren c s r) = declarators_in_statement s ++ declarators_in_statement r
  declarators_in_statement (typed.Switch at paren e brace items) = declarators_in_items items
  declarators_in_statement (typed.While at paren c s) = declarators_in_statement s
  declarators_in_statement (typed.DoWhile s at paren c) = declarators_in_statement s
  declarators_in_statement (typed.For at paren a b c s) = declarators_in_statement s
  declarators_in_statement (typed.ForDeclaration at paren d b c s) = declarators_in_declaration d ++ declarators_in_statement s
  declarators_in_statement other = []

  pub declarators_in_items : TypedBlockItems → List TypedDeclarator
  declarators_in_items typed.NoBlockItem = []
  declarators_in_items (typed.AndStatement all s) = declarators_in_items all ++ declarators_in_statement s
  declarators_in_items (typed.AndDeclaration all d) = declarators_in_items all ++ declarators_in_declaration d
  declarators_in_items (typed.AndCase all at e value) = declarators_in_items all
  declarators_in_items (typed.AndDefault all at) = declarators_in_items all

abbrev pub declarators_in : TypedTranslationUnit → List TypedDeclarator
declarators_in typed.NoExternal = []
declarators_in (typed.AndExternal u d) = declarators_in u ++ declarators_in_declaration d
declarators_in (typed.AndFunctionBody u specifiers d brace items) = declarators_in u ++ d ∷ declarators_in_items items

-- What they declare

-- Which object or function it is: an object by its home, and a function by its name, since a name of a function type is that of one function
-- wherever it is declared (C99 6.2.2).
pub data Which : Type 0 where
  AnObject : NodeId → Which
  AFunction : Identifier → Which

-- what a declarator declares, with its type
pub record Named : Type 0 where
  pub which : Which
  pub type : TypeId

abbrev pub object_named : Option NodeId → TypeId → List Named
object_named None t = []
object_named (Some n) t = record { which = AnObject n; type = t } ∷ []

abbrev pub function_named : Option Identifier → TypeId → List Named
function_named None t = []
function_named (Some name) t = record { which = AFunction name; type = t } ∷ []

abbrev pub named_by : Table → TypedDeclarator → List Named
named_by table d =
    if is_function table (declared_type d) then function_named (name_of d) (declared_type d) else object_named (home_node (home_of d)) (declared_type d)

abbrev pub named_in : TypedTranslationUnit → Table → List Named
named_in u table = flat_map (named_by table) (declarators_in u)

abbrev pub is_same_which : Which → Which → Bool
is_same_which (AnObject m) (AnObject n) = same_node m n
is_same_which (AFunction x) (AFunction y) = bytes_eq x.bytes y.bytes
is_same_which x y = false

-- the type with which an object or function is declared first
abbrev pub first_type : List Named → Which → Option TypeId
first_type [] w = None
first_type (x ∷ xs) w = if is_same_which x.which w then Some x.type else first_type xs w
