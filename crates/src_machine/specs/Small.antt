-- Words to write small typed trees with: they leave out what the machine doesn't look at.
use Rattle.std.specs.Prelude.{◌≡◌, ℕ, List, [], ◌∷◌, None, Some, codes}
use Rattle.std.specs.List.{fold}
use Rattle.cc_base.specs.declared.place.Place.{Place}
use Rattle.cc_base.specs.declared.number.NodeId.{NodeId}
use Rattle.cc_base.specs.declared.number.TypeId.{TypeId}
use Rattle.c_lexer.specs.declared.number.IntegerType.TheVariants.{Int}
use Rattle.c_types.specs.declared.shape.TypeShape.{TypeShape}
use Rattle.c_types.specs.Table.{Entry}
use Rattle.c_tree.specs.declared.leaf.Identifier.{Identifier}
use Rattle.c_tree.specs.declared.typed_word.Home.{Home}
use Rattle.c_tree.specs.declared.typed_word.Home.TheVariants as home
use Rattle.c_tree.specs.declared.typed_word.Conversion.TheVariants as conversion
use Rattle.c_tree.specs.declared.typed_word.Runtime.{Runtime}
use Rattle.c_tree.specs.declared.typed_word.Runtime.TheVariants as runtime
use Rattle.c_tree.specs.TypedTree as typed
use Rattle.c_tree.specs.TypedTree.{TypedExpr, TypedPlace, TypedArguments, TypedForm, TypedParameters, TypedDeclaration, TypedStatement, TypedBlockItems, TypedTranslationUnit, TypedSpecifiers, TypedTypeName}
use Rattle.src_mem.specs.State.{Ending, Access}
use Rattle.src_mem.specs.Runs.{SourceOutcome}

-- the place in line 1 at this column
abbrev pub at : ℕ → Place
at column = record { line = 1; col = column }

abbrev pub at_line : ℕ → ℕ → Place
at_line line column = record { line = line; col = column }

abbrev pub node : ℕ → NodeId
node n = record { 0 = n }

abbrev pub type : ℕ → TypeId
type n = record { 0 = n }

-- the integer types that each table begins with
abbrev pub char : TypeId
char = type 1

abbrev pub int : TypeId
int = type 5

abbrev pub long : TypeId
long = type 7

abbrev pub unsigned_long : TypeId
unsigned_long = type 8

-- a type that has no members
abbrev pub entry : TypeShape → Entry
entry shape = record { shape = shape; members = [] }

-- a struct or union with these members
abbrev pub aggregate : TypeShape → List TypeId → Entry
aggregate shape members = record { shape = shape; members = members }

abbrev pub name : List ℕ → Place → Identifier
name text place = record { bytes = text; place = place }

-- Expressions

abbrev pub number : ℕ → TypedExpr
number n = typed.Integer Int n (at 0) int

-- a variable by its home and its type, and its value
abbrev pub variable : ℕ → ℕ → TypeId → TypedPlace
variable column home t = typed.Variable (name [] (at column)) (node home) t

abbrev pub value : ℕ → ℕ → TypeId → TypedExpr
value column home t = typed.Read (variable column home t)

-- conversions to a type
abbrev pub null : TypeId → TypedExpr
null t = typed.Convert conversion.NullToPointer (at 0) t (number 0)

abbrev pub flows : Place → TypeId → TypedExpr → TypedExpr
flows place t e = typed.Convert conversion.PointerToPointer place t e

abbrev pub widened : TypeId → TypedExpr → TypedExpr
widened t e = typed.Convert conversion.IntegerToInteger (at 0) t e

-- the specifiers and the name of a type
abbrev pub specifiers : TypeId → TypedSpecifiers
specifiers t = typed.Specified typed.NoSpecifier t

abbrev pub type_name : TypeId → TypedTypeName
type_name t = typed.Named (specifiers t) typed.NotDeclared t

-- arguments in order
abbrev pub arguments : List TypedExpr → TypedArguments
arguments es = fold (λ all e. typed.AndArgument all e) typed.NoArgument es

-- a string literal as it is written, with its home and its type
abbrev pub string : List ℕ → ℕ → TypeId → TypedPlace
string text home t = typed.String (record { bytes = text; place = at 0 } ∷ []) (node home) t

-- the name of a runtime function that is called, and calls of two
abbrev pub runtime_call : Runtime → TypedExpr
runtime_call function = typed.RuntimeName (name [] (at 0)) function (type 0)

abbrev pub put : TypedExpr → TypedExpr
put e = typed.CallRuntime runtime.Putchar (runtime_call runtime.Putchar) (at 0) (arguments (e ∷ [])) int

abbrev pub get : TypedExpr
get = typed.CallRuntime runtime.Getchar (runtime_call runtime.Getchar) (at 0) (arguments []) int

-- Declarations

abbrev pub form : Identifier → Home → TypedForm
form x h = typed.Form [] (typed.Names x h) typed.NoPart

abbrev pub local : ℕ → TypeId → TypedDeclaration
local n t = typed.Declare (specifiers t) (typed.AndPlain typed.NoInitDeclarator (typed.Declares (form (name [] (at 0)) (home.Local (node n))) t))

-- with an initialiser, whose `=` stands at the place
abbrev pub local_is : ℕ → TypeId → Place → TypedExpr → TypedDeclaration
local_is n t place e = typed.Declare (specifiers t)
    (typed.AndInitialised typed.NoInitDeclarator (typed.Declares (form (name [] (at 0)) (home.Local (node n))) t) place (typed.Value e))

-- Statements

abbrev pub Item : Type 0
Item = TypedBlockItems → TypedBlockItems

abbrev pub declares : TypedDeclaration → Item
declares d all = typed.AndDeclaration all d

abbrev pub does : TypedExpr → Item
does e all = typed.AndStatement all (typed.Express e)

abbrev pub runs : TypedStatement → Item
runs s all = typed.AndStatement all s

abbrev pub returns : Place → TypedExpr → Item
returns place e all = typed.AndStatement all (typed.Return place (Some e))

abbrev pub returns_nothing : Place → Item
returns_nothing place all = typed.AndStatement all (typed.Return place None)

abbrev pub body : List Item → TypedBlockItems
body items = fold (λ all item. item all) typed.NoBlockItem items

abbrev pub while : TypedExpr → TypedStatement → Item
while c s = runs (typed.While (at 0) (at 0) c s)

-- Units

-- parameters by their homes and types
abbrev pub parameters : List (ℕ × TypeId) → TypedParameters
parameters ps = fold (λ all p. typed.AndParameter all (specifiers p.1) (typed.DeclaredBy (form (name [] (at 0)) (home.Parameter (node p.0)))) None p.1) typed.NoParameter ps

-- a function with its name, its type, its parameters and its body
abbrev pub function : Identifier → TypeId → List (ℕ × TypeId) → List Item → TypedTranslationUnit → TypedTranslationUnit
function x t ps items u = typed.AndFunctionBody u (specifiers t)
    (typed.Declares (typed.Form [] (typed.Names x home.None) (typed.AndFunction typed.NoPart (at 0) (parameters ps))) t) (at 0) (body items)

-- a program that has a `main` alone, of this type
abbrev pub main : TypeId → List Item → TypedTranslationUnit
main t items = function (name (codes "main") (at 5)) t [] items typed.NoExternal

abbrev pub global : ℕ → TypeId → TypedTranslationUnit → TypedTranslationUnit
global n t u = typed.AndExternal u (typed.Declare (specifiers t) (typed.AndPlain typed.NoInitDeclarator (typed.Declares (form (name [] (at 0)) (home.Static (node n))) t)))

-- a function of this name and type that is declared
abbrev pub declared : List ℕ → TypeId → TypedTranslationUnit → TypedTranslationUnit
declared text t u = typed.AndExternal u
    (typed.Declare (specifiers t) (typed.AndPlain typed.NoInitDeclarator (typed.Declares (form (name text (at 0)) home.None) t)))

-- What is looked at of a run

pub record Shown : Type 0 where
  pub ending : Ending
  pub output : List ℕ
  pub accesses : List Access

abbrev pub shown : SourceOutcome → Shown
shown o = record { ending = o.ending; output = o.output; accesses = o.accesses }

-- a run ends so, having written this output and made these accesses
abbrev pub Shows : SourceOutcome → Ending → List ℕ → List Access → Type 0
Shows o ending output accesses = shown o ≡ record { ending = ending; output = output; accesses = accesses }

abbrev pub access : ℕ → ℕ → ℕ → Access
access object offset size = record { object = object; offset = offset; size = size }
