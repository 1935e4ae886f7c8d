-- What declarators and parameters make of a type, where no rule is broken, and where they stop else (C99 6.7.5).
use Rattle.std.specs.Prelude.{ℕ, ℤ, pos, Bool, true, false, ◌&&◌, nat_lt, List, [], ◌∷◌, length, Option, Some, None, if◌then◌else◌}
use Rattle.std.specs.List.{list_all}
use Rattle.cc_base.specs.declared.place.Place.{Place}
use Rattle.cc_base.specs.declared.number.NodeId.{NodeId}
use Rattle.cc_base.specs.declared.number.TypeId.{TypeId}
use Rattle.cc_base.specs.declared.fault.Fault.TheVariants.{TooLarge}
use Rattle.cc_base.specs.declared.fault.Limit.TheVariants.{Types, Params}
use Rattle.c_types.specs.declared.shape.TypeShape.{TypeShape}
use Rattle.c_types.specs.declared.shape.TypeShape.TheVariants as shape
use Rattle.c_types.specs.Table.{Table, shape_at, entry_at, is_complete}
use Rattle.c_tree.specs.declared.leaf.Identifier.{Identifier}
use Rattle.c_tree.specs.declared.leaf.Star.{Star}
use Rattle.c_tree.specs.declared.leaf.Word.{Word}
use Rattle.c_tree.specs.declared.typed_word.Adjusted.{Adjusted}
use Rattle.c_tree.specs.declared.typed_word.Home.{Home}
use Rattle.c_tree.specs.declared.typed_word.Home.TheVariants as home
use Rattle.c_tree.specs.declared.typed_word.TypedStar.{TypedStar}
use Rattle.c_tree.specs.Tree as tree
use Rattle.c_tree.specs.Places.{nowhere}
use Rattle.c_tree.specs.TypedTree as typed
use Rattle.c_tree.specs.TypedTree.{TypedSpecifiers, TypedForm, TypedCore, TypedParts, TypedParameters, TypedDeclared, TypedMemberDeclarators}
use Rattle.c_tree.specs.TypedParts.{specified_type, declared_home}
use Rattle.c_typing.specs.declared.declared.Declared.TheVariants as declared
use Rattle.c_typing.specs.declared.naming.Naming.{Naming}
use Rattle.c_typing.specs.declared.naming.Naming.TheVariants as naming
pub use Rattle.c_typing.specs.Adjusting.{Derived, NotDerived, ByStar, ByArray, ByFunction, by_stars, by_parts, derived_by, derived_by_core, derived_by_declared, typedef_place, adjusted_at}
use Rattle.c_typing.specs.Scopes.{Name, declaring, entering, leaving, with_scopes}
use Rattle.c_typing.specs.Constants.{constant_value}
use Rattle.c_typing.specs.Shapes.{is_function_shape}
use Rattle.c_typing.specs.Declarators.{Outermost, Written, Counts, Points, nearest, outside, taken_types, is_derived_declared}
use Rattle.c_typing.specs.Tests as tests
use Rattle.c_typing.specs.Tests.{AsValue}
use Rattle.c_typing.specs.Refusals.{has_name, is_here, declared_identifier}
use Rattle.c_typing.specs.Judging.{State, Outcome, Judging, Gives, Stops, pure, stop, by_known, ◌>>=◌, new_node, type_with, pointer_type}
use Rattle.c_typing.specs.Operands.{Value}
use Rattle.c_typing.specs.Specifying.{obeying, in_scopes}

-- Names of declarators as they are written

abbrev mutual
  pub declarator_name : tree.Declarator → Option Identifier
  declarator_name (tree.Declares stars core parts) = core_name core

  pub core_name : tree.Core → Option Identifier
  core_name (tree.Names name) = Some name
  core_name tree.Unnamed = None
  core_name (tree.Nested at d) = declarator_name d

abbrev pub declared_name : tree.Declared → Option Identifier
declared_name tree.NotDeclared = None
declared_name (tree.DeclaredBy d) = declarator_name d

-- a declarator makes its name a function, of a type with this shape
abbrev pub is_function_by : Derived → TypeShape → Bool
is_function_by NotDerived base = is_function_shape base
is_function_by ByStar base = false
is_function_by (ByArray at) base = false
is_function_by (ByFunction at) base = true

-- Homes

abbrev pub unless_function : Bool → Naming → Naming
unless_function true which = naming.None
unless_function false which = which

-- the home of a name, whose node is made where the name stands
unfoldable pub home_as : Place → Naming → Judging Home
home_as at naming.None = pure home.None
home_as at naming.Static = do
  n ← new_node at
  pure (home.Static n)
home_as at naming.Local = do
  n ← new_node at
  pure (home.Local n)
home_as at naming.Parameter = do
  n ← new_node at
  pure (home.Parameter n)
home_as at (naming.Known n) = pure (home.Known n)

-- the nodes of stars, in the order of the text
unfoldable pub stars_with_nodes : Place → List Star → Judging (List TypedStar)
stars_with_nodes at [] = pure []
stars_with_nodes at (star ∷ stars) = do
  n ← new_node at
  all ← stars_with_nodes at stars
  pure (record { star = star; node = n } ∷ all)

-- The size of an array part

abbrev pub size_given : Option ℤ → Option ℕ
size_given (Some (pos n)) = if nat_lt n 18446744073709551616 then Some n else None
size_given other = None

unfoldable pub sized_part : TypedParts → Place → List Word → Value → Option ℕ → Judging TypedParts
sized_part all at words v None = stop (TooLarge v.place Types)
sized_part all at words v (Some size) = pure (typed.AndSizedArray all at words v.expr size)

unfoldable pub sized : TypedParts → Place → List Word → Value → Judging TypedParts
sized all at words v = obeying (λ s. tests.array_size_tests s.table v.place (AsValue v.expr))
    (by_known (λ s. sized_part all at words v (size_given (constant_value s.table v.expr))))

-- Types, each named at the place

unfoldable pub stars_make : Place → List TypedStar → TypeId → Judging TypeId
stars_make at [] base = pure base
stars_make at (star ∷ stars) base = do
  t ← pointer_type at star.node base
  stars_make at stars t

-- whether the table can have an array of these elements
abbrev pub is_element : Table → TypeId → ℕ → Bool
is_element T element count = nat_lt element.0 (length T) && (is_complete (entry_at T element) && nat_lt 0 count)

unfoldable pub array_type : Place → TypeId → ℕ → Judging TypeId
array_type at element count = λ s. if is_element s.table element count then type_with at (shape.Array element count) s else Stops (TooLarge at Types) s

unfoldable pub array_of : Place → Outermost → Option ℕ → TypeId → Judging TypeId
array_of at (Points n) count element = pointer_type at n element
array_of at Written (Some count) element = array_type at element count
array_of at (Counts given) (Some count) element = array_type at element count
array_of at (Counts given) None element = array_type at element given
array_of at Written None element = stop (TooLarge at Types)

unfoldable pub array_makes : Place → Outermost → Place → List Word → Option ℕ → TypeId → Judging TypeId
array_makes at outermost bracket words count element = obeying
    (λ s. tests.array_tests s.table s.seen.scopes outermost (tests.has_some count) bracket words element at)
    (array_of at outermost count element)

-- no function has more than 127 parameters
unfoldable pub counting_parameters : Place → List TypeId → TypeId → Judging TypeId
counting_parameters at parameters t = if nat_lt 127 (length parameters) then stop (TooLarge at Params) else pure t

-- whether the table has all of them
abbrev pub are_types : Table → List TypeId → Bool
are_types T all = list_all (λ t. nat_lt t.0 (length T)) all

unfoldable pub function_type : Place → List TypeId → TypeId → Judging TypeId
function_type at parameters result = λ s. if are_types s.table (result ∷ parameters)
    then (type_with at (shape.Function parameters result) >>= counting_parameters at parameters) s
    else Stops (TooLarge at Types) s

unfoldable pub function_as : Place → Outermost → TypeId → Judging TypeId
function_as at (Points n) f = pointer_type at n f
function_as at outermost f = pure f

unfoldable pub function_makes : Place → Outermost → TypedParameters → TypeId → Judging TypeId
function_makes at outermost parameters result = obeying (λ s. tests.function_tests s.table result at) (do
  f ← function_type at (taken_types parameters) result
  function_as at outermost f)

-- what the last part makes
unfoldable pub last_makes : Place → Outermost → TypedParts → TypeId → Judging TypeId
last_makes at outermost typed.NoPart base = pure base
last_makes at outermost (typed.AndArray all bracket words) base = array_makes at outermost bracket words None base
last_makes at outermost (typed.AndSizedArray all bracket words e size) base = array_makes at outermost bracket words (Some size) base
last_makes at outermost (typed.AndFunction all paren parameters) base = function_makes at outermost parameters base

-- the last part first
unfoldable pub parts_make : Place → Outermost → TypedParts → TypeId → Judging TypeId
parts_make at outermost typed.NoPart base = pure base
parts_make at outermost (typed.AndArray all bracket words) base =
    last_makes at (nearest all outermost) (typed.AndArray all bracket words) base >>= parts_make at outermost all
parts_make at outermost (typed.AndSizedArray all bracket words e size) base =
    last_makes at (nearest all outermost) (typed.AndSizedArray all bracket words e size) base >>= parts_make at outermost all
parts_make at outermost (typed.AndFunction all paren parameters) base =
    last_makes at (nearest all outermost) (typed.AndFunction all paren parameters) base >>= parts_make at outermost all

-- the stars, then the parts, then what stands in parentheses round the name
unfoldable mutual
  pub form_makes : Place → Outermost → TypedForm → TypeId → Judging TypeId
  form_makes at outermost (typed.Form stars core parts) base = do
    t ← stars_make at stars base
    u ← parts_make at (outside core outermost) parts t
    core_makes at outermost core u

  pub core_makes : Place → Outermost → TypedCore → TypeId → Judging TypeId
  core_makes at outermost (typed.Names name home) base = pure base
  core_makes at outermost typed.Unnamed base = pure base
  core_makes at outermost (typed.Nested paren form) base = form_makes at outermost form base

unfoldable pub declared_makes : Place → Outermost → TypedDeclared → TypeId → Judging TypeId
declared_makes at outermost typed.NotDeclared base = pure base
declared_makes at outermost (typed.DeclaredBy form) base = form_makes at outermost form base

-- Members

unfoldable pub member_type : Place → TypedForm → TypeId → Judging TypeId
member_type at form base = do
  t ← form_makes at Written form base
  obeying (λ s. tests.member_type_tests s.table s.seen.scopes t at) (pure t)

-- `names` are those of the members before; a member without a name stands in no text
unfoldable pub member_named : List Name → TypedMemberDeclarators → TypedForm → TypeId → Option Identifier → Judging TypedMemberDeclarators
member_named names all form base None = stop (TooLarge nowhere Types)
member_named names all form base (Some name) = obeying (λ s. tests.member_name_tests (has_name names (Some name)) name.place) (do
  t ← member_type name.place form base
  pure (typed.AndDeclarator all (typed.Declares form t)))

-- Parameters

unfoldable pub adjusted_with_node : Place → Option Place → Judging (Option Adjusted)
adjusted_with_node at None = pure None
adjusted_with_node at (Some place) = do
  n ← new_node at
  pure (Some (record { node = n; place = place }))

-- a type by a typedef's name becomes a pointer
unfoldable pub adjusted_shape : Place → NodeId → TypeId → TypeShape → Judging TypeId
adjusted_shape at n base (shape.Array element count) = pointer_type at n element
adjusted_shape at n base (shape.Function parameters result) = pointer_type at n base
adjusted_shape at n base x = stop (TooLarge at Types)

unfoldable pub adjusted_makes : Place → NodeId → TypedDeclared → TypeId → (derived : Bool) → Judging TypeId
adjusted_makes at n d base true = declared_makes at (Points n) d base
adjusted_makes at n d base false = by_known (λ s. adjusted_shape at n base (shape_at s.table base))

unfoldable pub parameter_makes : Place → Option Adjusted → TypedDeclared → TypeId → Judging TypeId
parameter_makes at None d base = declared_makes at Written d base
parameter_makes at (Some adjusted) d base = adjusted_makes at adjusted.node d base (is_derived_declared d)

-- its name is declared in the scope of its list
unfoldable pub parameter_declared : Place → Option Identifier → Home → TypeId → Judging TypeId
parameter_declared at (Some name) (home.Parameter n) t = in_scopes (declaring name.bytes (declared.Object t n)) t
parameter_declared at None home t = pure t
parameter_declared at name home t = stop (TooLarge at Types)

-- a parameter at the place, whose specifiers and declarator are judged: `adjusting` says from its specifiers' shape whether it is made a pointer
unfoldable pub parameter : (void : Bool) → Place → (TypeShape → Option Place) → TypedParameters → TypedSpecifiers → TypedDeclared → Judging TypedParameters
parameter void at adjusting all specifiers d = obeying (λ s. tests.parameter_name_tests (is_here s.seen.scopes (declared_identifier d)) at) (do
  adjusted ← by_known (λ s. adjusted_with_node at (adjusting (shape_at s.table (specified_type specifiers))))
  t ← parameter_makes at adjusted d (specified_type specifiers)
  u ← obeying (λ s. tests.parameter_type_tests s.table s.seen.scopes void t at) (parameter_declared at (declared_identifier d) (declared_home d) t)
  pure (typed.AndParameter all specifiers d adjusted u))

-- Scopes of prototypes

unfoldable pub entered : Judging Bool
entered = in_scopes entering true

-- the file's scope is never left
unfoldable pub left : {A : Type 0} → Place → A → Judging A
left at a = λ s. if nat_lt 1 (length s.seen.scopes.levels) then in_scopes leaving a s else Stops (TooLarge at Types) s

-- what is known once the innermost scope is left, unless it is the file's
abbrev pub once_left : State → State
once_left s = if nat_lt 1 (length s.seen.scopes.levels) then record s { seen = with_scopes s.seen (leaving s.seen.scopes) } else s

-- a stop in a scope of its own leaves that scope
abbrev pub stopped_outside : {A : Type 0} → Outcome A → Outcome A
stopped_outside (Gives a s) = Gives a s
stopped_outside (Stops fault s) = Stops fault (once_left s)

abbrev pub stopping_outside : {A : Type 0} → Judging A → Judging A
stopping_outside p = λ s. stopped_outside (p s)
