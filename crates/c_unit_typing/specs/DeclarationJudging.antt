-- What declarations give, or where they stop (C99 6.2.2, 6.7).
use Rattle.std.specs.Prelude.{ℕ, Bool, true, false, List, Option, Some, None, if◌then◌else◌}
use Rattle.cc_base.specs.declared.place.Place.{Place}
use Rattle.cc_base.specs.declared.number.NodeId.{NodeId}
use Rattle.cc_base.specs.declared.number.TypeId.{TypeId}
use Rattle.cc_base.specs.declared.fault.Fault.TheVariants.{TooLarge}
use Rattle.cc_base.specs.declared.fault.Limit.TheVariants.{Types}
use Rattle.c_types.specs.Table.{Table, shape_at, entry_at, is_complete}
use Rattle.c_types.specs.Layouts.{size_of}
use Rattle.c_tree.specs.declared.leaf.Identifier.{Identifier}
use Rattle.c_tree.specs.declared.typed_word.Home.{Home}
use Rattle.c_tree.specs.declared.typed_word.Home.TheVariants as home
use Rattle.c_tree.specs.Places.{nowhere}
use Rattle.c_tree.specs.Tree as tree
use Rattle.c_tree.specs.TypedTree as typed
use Rattle.c_tree.specs.TypedTree.{TypedSpecifiers, TypedDeclarator, TypedInitialiser, TypedInitDeclarators, TypedDeclaration}
use Rattle.c_tree.specs.TypedParts.{specified_type, declared_type, home_of}
use Rattle.c_typing.specs.declared.declared.Declared.{Declared}
use Rattle.c_typing.specs.declared.declared.Declared.TheVariants as declared
use Rattle.c_typing.specs.declared.naming.Naming.{Naming}
use Rattle.c_typing.specs.declared.naming.Naming.TheVariants as naming
use Rattle.c_typing.specs.Shapes.{is_function_shape}
use Rattle.c_typing.specs.Scopes as scopes
use Rattle.c_typing.specs.Scopes.{Name, Scopes, here, declaring, entry_of}
use Rattle.c_typing.specs.Assignments.{count_global}
use Rattle.c_typing.specs.Declaring.{declarator_name}
use Rattle.c_typing.specs.Walks.{judge_declarator, judge_specifiers_of}
use Rattle.c_unit_typing.specs.Initialisers.{with_home, makes_chars}
use Rattle.c_unit_typing.specs.Units.{Storage, AsTypedef, AsExtern, AsStatic, storage_of, unless_linked, unless_here, is_linked_home}
use Rattle.c_unit_typing.specs.UnitRefusals.{declared_tests, size_written, is_lasting}
use Rattle.c_unit_typing.specs.Linkage.{with_name}
use Rattle.c_unit_typing.specs.UnitJudging.{UnitJudging, Gives, known_of, pure, stop, obeying, by_known, lifted, ◌>>=◌}
use Rattle.c_unit_typing.specs.InitialiserJudging.{judge_initialiser}

-- Homes

-- what has linkage keeps the home of its first declaration
abbrev pub first_home : Option Declared → Naming
first_home (Some (declared.Object t n)) = naming.Known n
first_home first = naming.Static

-- what a declarator's name is to have as its home, unless it is a function; `first` is the first declaration of the name with linkage
abbrev pub naming_for : (file : Bool) → Storage → (first : Option Declared) → Naming
naming_for file AsTypedef first = naming.None
naming_for true storage first = first_home first
naming_for false AsExtern first = first_home first
naming_for false AsStatic first = naming.Static
naming_for false storage first = naming.Local

-- whether an object has linkage
abbrev pub is_linked_object : (file : Bool) → Storage → Bool
is_linked_object true storage = true
is_linked_object false AsExtern = true
is_linked_object false storage = false

-- Names

-- a name that the innermost scope does not have
abbrev pub new_in : Identifier → Declared → Option Declared → UnitJudging Declared
new_in name what None = λ s. Gives what (record s { seen = scopes.with_scopes s.seen (declaring name.bytes what s.seen.scopes) })
new_in name what (Some other) = stop (TooLarge name.place Types)

unfoldable pub new_name : Identifier → Declared → UnitJudging Declared
new_name name what = by_known (λ s. new_in name what (here s.seen.scopes.levels name.bytes))

-- a name with linkage: its first declaration stays, in its scope and everywhere
unfoldable pub linked_name : Identifier → Declared → UnitJudging Declared
linked_name name what = λ s. Gives what (record s {
  seen = scopes.with_scopes s.seen (unless_here (here s.seen.scopes.levels name.bytes) name.bytes what s.seen.scopes);
  linkage = record s.linkage { linked = unless_linked (entry_of s.linkage.linked name.bytes) name.bytes what s.linkage.linked };
})

unfoldable pub object_name : (linked : Bool) → Identifier → Declared → UnitJudging Declared
object_name true name what = linked_name name what
object_name false name what = new_name name what

-- a new object that lives as long as the program: its bytes are counted
abbrev pub complete_size : Table → TypeId → Option ℕ
complete_size T t = if is_complete (entry_at T t) then Some (size_of T t) else None

unfoldable pub count_object : Place → Option ℕ → UnitJudging ℕ
count_object at None = stop (TooLarge at Types)
count_object at (Some bytes) = lifted (count_global at bytes)

unfoldable pub lasting : NodeId → UnitJudging NodeId
lasting n = λ s. Gives n (record s { linkage = record s.linkage { statics = with_home n s.linkage.statics } })

unfoldable pub new_static : Identifier → NodeId → TypeId → UnitJudging NodeId
new_static name n t = do
  bytes ← by_known (λ s. count_object name.place (complete_size s.table t))
  lasting n

-- an object, by its home
unfoldable pub declare_object : (linked : Bool) → Identifier → TypeId → Home → UnitJudging Declared
declare_object linked name t (home.Static n) = do
  made ← new_static name n t
  object_name linked name (declared.Object t n)
declare_object linked name t (home.Known n) = object_name linked name (declared.Object t n)
declare_object linked name t (home.Local n) = new_name name (declared.Object t n)
declare_object linked name t home = stop (TooLarge name.place Types)

unfoldable pub declare_by : (function : Bool) → (linked : Bool) → Identifier → TypeId → Home → UnitJudging Declared
declare_by true linked name t home = linked_name name (declared.Function t)
declare_by false linked name t home = declare_object linked name t home

-- a name is declared, with its type and its home
unfoldable pub declare : (file : Bool) → Storage → Identifier → TypeId → Home → UnitJudging Declared
declare file AsTypedef name t home = new_name name (declared.Typedef t)
declare file storage name t home = by_known (λ s. declare_by (is_function_shape (shape_at s.table t)) (is_linked_object file storage) name t home)

-- Declarators

-- the name of what was judged is tried and declared; a declarator without a name declares nothing, and is never given
unfoldable pub named : (file : Bool) → Storage → (initialised : Bool) → Option Identifier → TypedDeclarator → UnitJudging TypedDeclarator
named file storage initialised None one = stop (TooLarge nowhere Types)
named file storage initialised (Some name) one = obeying
    (λ s. declared_tests s.table (known_of s) file storage initialised name.bytes (declared_type one) name.place)
    (do
      what ← declare file storage name (declared_type one) (home_of one)
      pure one)

-- the first declaration with linkage of what a declarator names
abbrev pub linked_first : List (Name × Declared) → Option Identifier → Option Declared
linked_first linked None = None
linked_first linked (Some name) = entry_of linked name.bytes

-- a declarator behind specifiers; `size` is what an initialiser gives to the array part without one
unfoldable pub judge_named : (file : Bool) → TypedSpecifiers → (initialised : Bool) → (size : Option ℕ) → tree.Declarator → UnitJudging TypedDeclarator
judge_named file base initialised size d = do
  one ← by_known (λ s. lifted (judge_declarator (naming_for file (storage_of base) (linked_first s.linkage.linked (declarator_name d))) base size d))
  named file (storage_of base) initialised (declarator_name d) one

-- Initialised declarators

-- an initialiser defines what has linkage
abbrev pub is_linked_by : Option Declared → Home → Bool
is_linked_by first (home.Static n) = is_linked_home first n
is_linked_by first (home.Known n) = is_linked_home first n
is_linked_by first home = false

unfoldable pub defining : Option Identifier → TypedDeclarator → UnitJudging TypedDeclarator
defining None one = pure one
defining (Some name) one = λ s. Gives one (record s {
  linkage = record s.linkage {
    defined = if is_linked_by (entry_of s.linkage.linked name.bytes) (home_of one) then with_name name.bytes s.linkage.defined else s.linkage.defined;
  };
})

unfoldable pub judge_init_declarators : (file : Bool) → TypedSpecifiers → tree.InitDeclarators → UnitJudging TypedInitDeclarators
judge_init_declarators file base tree.NoInitDeclarator = pure typed.NoInitDeclarator
judge_init_declarators file base (tree.AndPlain all d) = do
  list ← judge_init_declarators file base all
  one ← judge_named file base false None d
  pure (typed.AndPlain list one)
judge_init_declarators file base (tree.AndInitialised all d at i) = do
  list ← judge_init_declarators file base all
  one ← by_known (λ s. judge_named file base true (size_written (makes_chars s.table (specified_type base) d) i) d)
  value ← judge_initialiser (is_lasting file (storage_of base)) i at (Some (declared_type one)) false
  again ← defining (declarator_name d) one
  pure (typed.AndInitialised list one at value)

-- Declarations

abbrev pub is_none : tree.InitDeclarators → Bool
is_none tree.NoInitDeclarator = true
is_none all = false

unfoldable pub judge_declaration : (file : Bool) → tree.Declaration → UnitJudging TypedDeclaration
judge_declaration file (tree.Declare specifiers all) = do
  base ← lifted (judge_specifiers_of (is_none all) specifiers)
  list ← judge_init_declarators file base all
  pure (typed.Declare base list)
