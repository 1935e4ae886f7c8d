-- When a typed unit is well typed (C99 6.7 to 6.9).
use Rattle.std.specs.Prelude.{◌≡◌, ◌≤◌, ◌+◌, ◌==◌, ℕ, ℤ, Bool, true, false, List, [], ◌∷◌, ◌++◌, Option, None, Some, IsTrue, bytes_eq}
use Rattle.std.specs.List.{All, list_any}
use Rattle.cc_base.specs.declared.place.Place.{Place}
use Rattle.cc_base.specs.declared.number.NodeId.{NodeId}
use Rattle.cc_base.specs.declared.number.TypeId.{TypeId}
use Rattle.c_types.specs.declared.shape.TypeShape.TheVariants.{Function}
use Rattle.c_types.specs.Table.{Table, shape_at, HasShape}
use Rattle.c_types.specs.Sameness.{IsSameType}
use Rattle.c_lexer.specs.declared.word.Keyword.{Keyword}
use Rattle.c_lexer.specs.declared.word.Keyword.TheVariants as keyword
use Rattle.c_tree.specs.declared.leaf.Identifier.{Identifier}
use Rattle.c_tree.specs.declared.typed_word.Home.{Home}
use Rattle.c_tree.specs.declared.typed_word.Home.TheVariants as home
use Rattle.c_tree.specs.TypedTree as typed
use Rattle.c_tree.specs.TypedTree.{TypedExpr, TypedSpecifiers, TypedSpecifierList, TypedForm, TypedCore, TypedParts, TypedParameters, TypedInitialiser, TypedInitDeclarators, TypedDeclaration, TypedStatement, TypedBlockItems, TypedTranslationUnit}
use Rattle.c_tree.specs.TypedParts.{type_of, specified_type, home_of, name_of_form, is_void_list}
use Rattle.integers.specs.Arithmetic.{IntegerType, converted}
use Rattle.c_tree.specs.declared.typed_word.Runtime.{Runtime}
use Rattle.runtime_calls.specs.Prototypes.{IsNamed, IsNoName, HasPrototype}
use Rattle.c_typing.specs.Walks.{outermost_of}
use Rattle.c_typing.specs.declared.declared.Declared.{Declared}
use Rattle.c_typing.specs.declared.declared.Declared.TheVariants as declared
use Rattle.c_typing.specs.Shapes.{integer_at, is_function_shape, is_void_shape}
use Rattle.c_typing.specs.Scopes.{Name, Level, Scopes, here, innermost, declaring, entering, leaving, entry_of, is_complete_at}
use Rattle.c_typing.specs.Constants.{constant_value}
use Rattle.c_typing.specs.Conversions.{IsPlain, IsConverted}
use Rattle.c_typing.specs.Rules.{IsCondition, IsPromoted, IsDroppable}
use Rattle.c_typing.specs.Declarators.{Outermost, Written, FormMakes, name_bytes}
use Rattle.c_typing.specs.Typing.{IsTyped, AreSpecifiers, AreAlone, IsForm, IsNewName, AreParameters}
use Rattle.c_unit_typing.specs.Initialisers.{IsInitialiser, is_constant_initialiser, is_char_array, size_given, with_home}

-- What is known at a point of a unit.
pub record Known : Type 0 where
  pub scopes : Scopes
  -- what has linkage, wherever it was declared first: one function or object for each name (C99 6.2.2)
  pub linked : List (Name × Declared)
  -- the names with linkage that have a definition: a body, or an initialiser (C99 6.9)
  pub defined : List Name
  -- the homes of the objects that live as long as the program, each once
  pub statics : List NodeId

abbrev pub with_scopes : Known → Scopes → Known
with_scopes k s = record k { scopes = s }

-- Storage (C99 6.7.1)

pub data Storage : Type 0 where
  Unstored : Storage
  AsTypedef : Storage
  AsExtern : Storage
  AsStatic : Storage
  -- `auto` and `register`
  AsAutomatic : Storage

abbrev pub storage_of_word : Keyword → Storage → Storage
storage_of_word keyword.Typedef before = AsTypedef
storage_of_word keyword.Extern before = AsExtern
storage_of_word keyword.Static before = AsStatic
storage_of_word keyword.Auto before = AsAutomatic
storage_of_word keyword.Register before = AsAutomatic
storage_of_word word before = before

abbrev pub storage_of_list : TypedSpecifierList → Storage
storage_of_list typed.NoSpecifier = Unstored
storage_of_list (typed.AndSpecifier all (typed.Keyword word)) = storage_of_word word.keyword (storage_of_list all)
storage_of_list (typed.AndSpecifier all specifier) = storage_of_list all

abbrev pub storage_of : TypedSpecifiers → Storage
storage_of (typed.Specified list t) = storage_of_list list

-- Names with linkage

abbrev pub is_one_of : List Name → Name → Bool
is_one_of names name = list_any (λ each. bytes_eq name each) names

-- the declarations of one name in one scope are of one type and one object (C99 6.7)
abbrev pub AgreesWith : Table → Option Declared → Declared → Type 0
AgreesWith table None what = Unit {0}
AgreesWith table (Some (declared.Object t n)) (declared.Object u m) = IsSameType table t u × (n ≡ m)
AgreesWith table (Some (declared.Function t)) (declared.Function u) = IsSameType table t u
AgreesWith table (Some other) what = ⊥

-- the first declaration stays
abbrev pub unless_here : Option Declared → Name → Declared → Scopes → Scopes
unless_here None name what s = declaring name what s
unless_here (Some first) name what s = s

abbrev pub unless_linked : Option Declared → Name → Declared → List (Name × Declared) → List (Name × Declared)
unless_linked None name what linked = linked ++ (name, what) ∷ []
unless_linked (Some first) name what linked = linked

-- the home of an object with linkage: that of its first declaration, else a new one
abbrev pub IsLinkedHome : Option Declared → Home → NodeId → Type 0
IsLinkedHome (Some (declared.Object t n)) (home.Known m) node = (n ≡ m) × (m ≡ node)
IsLinkedHome None (home.Static n) node = n ≡ node
IsLinkedHome first home node = ⊥

-- a runtime function is declared again with its own type
abbrev pub AgreesWithRuntime : Table → Runtime → Declared → Type 0
AgreesWithRuntime table function (declared.Function t) = HasPrototype table function t
AgreesWithRuntime table function what = ⊥

-- a name with linkage is declared
pub record IsLinked (table : Table) (name : Name) (what : Declared) (k k' : Known) : Type 0 where
  pub here_agrees : AgreesWith table (here k.scopes.levels name) what
  pub linked_agrees : AgreesWith table (entry_of k.linked name) what
  pub runtime_agrees : (function : Runtime) → IsNamed name function → AgreesWithRuntime table function what
  pub after : k' ≡ record k {
    scopes = unless_here (here k.scopes.levels name) name what k.scopes;
    linked = unless_linked (entry_of k.linked name) name what k.linked;
  }

-- Declarations (C99 6.7)

abbrev pub IsCompleteHere : Table → Known → TypeId → Type 0
IsCompleteHere table k t = IsTrue (is_complete_at table k.scopes t)

-- an object with linkage: at file scope, or `extern`
pub record IsLinkedObject (table : Table) (name : Name) (h : Home) (t : TypeId) (k k' : Known) : Type 0 where
  pub node : NodeId
  pub middle : Known
  pub complete : IsCompleteHere table k t
  pub home : IsLinkedHome (entry_of k.linked name) h node
  pub linked : IsLinked table name (declared.Object t node) k middle
  pub after : k' ≡ record middle { statics = with_home node middle.statics }

-- an object of a block: a new name in its scope
pub record IsBlockObject (table : Table) (name : Name) (node : NodeId) (t : TypeId) (k : Known) (s : Scopes) : Type 0 where
  pub complete : IsCompleteHere table k t
  pub fresh : IsNewName name (declared.Object t node) k.scopes s

abbrev pub IsStaticOrLocal : Table → Storage → Home → Name → TypeId → Known → Known → Type 0
IsStaticOrLocal table AsStatic (home.Static n) name t k k' =
    (s : Scopes) × IsBlockObject table name n t k s × (k' ≡ record k { scopes = s; statics = with_home n k.statics })
IsStaticOrLocal table Unstored (home.Local n) name t k k' = (s : Scopes) × IsBlockObject table name n t k s × (k' ≡ with_scopes k s)
IsStaticOrLocal table AsAutomatic (home.Local n) name t k k' = (s : Scopes) × IsBlockObject table name n t k s × (k' ≡ with_scopes k s)
IsStaticOrLocal table storage home name t k k' = ⊥

-- a function: it has linkage, and no home; one of the six runtime functions may be declared
abbrev pub IsFunctionDeclared : Table → Home → Name → TypeId → Known → Known → Type 0
IsFunctionDeclared table home.None name t k k' = IsLinked table name (declared.Function t) k k'
IsFunctionDeclared table home name t k k' = ⊥

-- by where it stands and its storage, an object is declared
abbrev pub IsObjectDeclared : Table → (file : Bool) → Storage → Home → Name → TypeId → Known → Known → Type 0
IsObjectDeclared table true storage h name t k k' = IsLinkedObject table name h t k k'
IsObjectDeclared table false AsExtern h name t k k' = IsLinkedObject table name h t k k'
IsObjectDeclared table false storage h name t k k' = IsStaticOrLocal table storage h name t k k'

-- a typedef; the names of the six runtime functions belong to the file scope
abbrev pub IsTypedefDeclared : Bool → Home → Name → TypeId → Known → Known → Type 0
IsTypedefDeclared file home.None name t k k' =
    (s : Scopes) × IsNewName name (declared.Typedef t) k.scopes s × (k' ≡ with_scopes k s) × (IsTrue file → IsNoName name)
IsTypedefDeclared file home name t k k' = ⊥

abbrev pub IsOrdinaryDeclared : Bool → Table → Bool → Storage → Home → Name → TypeId → Known → Known → Type 0
IsOrdinaryDeclared true table file storage h name t k k' = IsFunctionDeclared table h name t k k'
IsOrdinaryDeclared false table file storage h name t k k' = IsObjectDeclared table file storage h name t k k'

abbrev pub IsNameDeclared : Table → Bool → Storage → Home → Name → TypeId → Known → Known → Type 0
IsNameDeclared table file AsTypedef h name t k k' = IsTypedefDeclared file h name t k k'
IsNameDeclared table file storage h name t k k' = IsOrdinaryDeclared (is_function_shape (shape_at table t)) table file storage h name t k k'

-- a declarator gives its name a type, and declares it
pub record IsDeclarator (table : Table) (file : Bool) (storage : Storage) (base : TypeId) (outermost : Outermost) (form : TypedForm) (t : TypeId) (k k' : Known) : Type 0 where
  pub name : Identifier
  pub inside : Scopes
  pub named : name_of_form form ≡ Some name
  pub parts : IsForm table form k.scopes inside
  pub type : FormMakes table inside form outermost base t
  pub declares : IsNameDeclared table file storage (home_of (typed.Declares form t)) name.bytes t (with_scopes k inside) k'

-- Initialised declarators (C99 6.7.8)

-- the home is that of the name with linkage
abbrev pub is_linked_home : Option Declared → NodeId → Bool
is_linked_home (Some (declared.Object t m)) n = m.0 == n.0
is_linked_home what n = false

-- an initialiser defines a name with linkage, once (C99 6.9)
abbrev pub IsDefinedOnce : Bool → Name → Known → Known → Type 0
IsDefinedOnce true name k k' = (is_one_of k.defined name ≡ false) × (k' ≡ record k { defined = k.defined ++ name ∷ [] })
IsDefinedOnce false name k k' = k' ≡ k

-- the initialiser of what lives as long as the program is constant (C99 6.7.8)
abbrev pub IsStaticInitialised : Table → Known → NodeId → Name → TypedInitialiser → Known → Type 0
IsStaticInitialised table k n name i k' =
    IsTrue (is_constant_initialiser table k.statics i) × IsDefinedOnce (is_linked_home (entry_of k.linked name) n) name k k'

abbrev pub IsInitialised : Table → Home → Known → Name → TypedInitialiser → Known → Type 0
IsInitialised table (home.Local n) k name i k' = k' ≡ k
IsInitialised table (home.Static n) k name i k' = IsStaticInitialised table k n name i k'
IsInitialised table (home.Known n) k name i k' = IsStaticInitialised table k n name i k'
IsInitialised table other k name i k' = ⊥

abbrev pub AreDeclarators : Table → Bool → Storage → TypeId → TypedInitDeclarators → Known → Known → Type 0
AreDeclarators T file storage base typed.NoInitDeclarator k k' = k' ≡ k
AreDeclarators T file storage base (typed.AndPlain all (typed.Declares form t)) k k' =
    (m : Known) × AreDeclarators T file storage base all k m × IsDeclarator T file storage base Written form t m k'
AreDeclarators T file storage base (typed.AndInitialised all (typed.Declares form t) at i) k k' =
    (m n : Known) × (s : Scopes) × AreDeclarators T file storage base all k m
    × IsDeclarator T file storage base (outermost_of (size_given (is_char_array T t) i)) form t m n
    × IsInitialiser T i at t n.scopes s × IsInitialised T (home_of (typed.Declares form t)) (with_scopes n s) (name_bytes (name_of_form form)) i k'

-- a declaration; without declarators it may declare tags and enumerators
abbrev pub IsDeclaration : Table → Bool → TypedDeclaration → Known → Known → Type 0
IsDeclaration T file (typed.Declare specifiers typed.NoInitDeclarator) k k' =
    (s : Scopes) × AreAlone T specifiers k.scopes s × (k' ≡ with_scopes k s)
IsDeclaration T file (typed.Declare specifiers all) k k' =
    (s : Scopes) × AreSpecifiers T specifiers k.scopes s × AreDeclarators T file (storage_of specifiers) (specified_type specifiers) all (with_scopes k s) k'

-- Statements (C99 6.8)

-- What a statement stands in.
pub record Around : Type 0 where
  -- the result of the function
  pub result : TypeId
  -- whether a loop, and whether a loop or a `switch`, stands around it
  pub in_loop : Bool
  pub breakable : Bool

abbrev pub in_a_loop : Around → Around
in_a_loop a = record a { in_loop = true; breakable = true }

abbrev pub in_a_switch : Around → Around
in_a_switch a = record a { breakable = true }

-- an expression whose value is dropped, or none
abbrev pub IsDropped : Table → Option TypedExpr → Known → Known → Type 0
IsDropped T None k k' = k' ≡ k
IsDropped T (Some e) k k' = (s : Scopes) × IsTyped T e k.scopes s × IsDroppable e × (k' ≡ with_scopes k s)

-- a condition, or none
abbrev pub IsTested : Table → TypedExpr → Known → Known → Type 0
IsTested T e k k' = (s : Scopes) × IsTyped T e k.scopes s × IsCondition T e × (k' ≡ with_scopes k s)

abbrev pub IsTestedOrNone : Table → Option TypedExpr → Known → Known → Type 0
IsTestedOrNone T None k k' = k' ≡ k
IsTestedOrNone T (Some e) k k' = IsTested T e k k'

-- `return`: a value, converted to the type of the result at this place, or none where that is `void` (C99 6.8.6.4)
abbrev pub IsReturned : Table → Place → TypeId → Option TypedExpr → Known → Known → Type 0
IsReturned T at t None k k' = (k' ≡ k) × IsTrue (is_void_shape (shape_at T t))
IsReturned T at t (Some e) k k' = (s : Scopes) × IsTyped T e k.scopes s × IsConverted T at t e × (k' ≡ with_scopes k s)

abbrev pub entering_known : Known → Known
entering_known k = with_scopes k (entering k.scopes)

abbrev pub leaving_known : Known → Known
leaving_known k = with_scopes k (leaving k.scopes)

-- the labels of a `switch` on a value of this integer type
abbrev pub labels_of : TypedBlockItems → List ℤ
labels_of typed.NoBlockItem = []
labels_of (typed.AndStatement all s) = labels_of all
labels_of (typed.AndDeclaration all d) = labels_of all
labels_of (typed.AndCase all at e value) = labels_of all ++ value ∷ []
labels_of (typed.AndDefault all at) = labels_of all

abbrev pub defaults_in : TypedBlockItems → ℕ
defaults_in typed.NoBlockItem = 0
defaults_in (typed.AndStatement all s) = defaults_in all
defaults_in (typed.AndDeclaration all d) = defaults_in all
defaults_in (typed.AndCase all at e value) = defaults_in all
defaults_in (typed.AndDefault all at) = defaults_in all + 1

abbrev pub AreDifferent : List ℤ → Type 0
AreDifferent [] = Unit {0}
AreDifferent (z ∷ zs) = All (λ other. ¬ (z ≡ other)) zs × AreDifferent zs

-- `switch` on an integer, which is promoted; no two labels are alike (C99 6.8.4.2)
pub record IsSwitched (table : Table) (at : Place) (e : TypedExpr) (items : TypedBlockItems) : Type 0 where
  pub operand : IsPromoted table at e (type_of e)
  pub labels : AreDifferent (labels_of items)
  pub defaults : defaults_in items ≤ 1

-- `case`: an integer constant, whose value is converted to the type of the `switch`
abbrev pub IsLabel : Table → Option TypeId → TypedExpr → ℤ → Type 0
IsLabel T None e value = ⊥
IsLabel T (Some t) e value =
    (k : IntegerType) × (z : ℤ) × IsPlain e × (integer_at T t ≡ Some k) × (constant_value T e ≡ Some z) × (value ≡ converted k z)

-- A selection or iteration statement is a block, and so is each of its substatements (C99 6.8.4, 6.8.5). Each block has one `default` at most (C99 6.8.4.2).
abbrev mutual
  pub IsStatement : Table → Around → TypedStatement → Known → Known → Type 0
  IsStatement T a (typed.Block brace items) k k' =
      (m : Known) × AreBlockItems T a None items (entering_known k) m × (k' ≡ leaving_known m) × (defaults_in items ≤ 1)
  IsStatement T a (typed.Express e) k k' = IsDropped T (Some e) k k'
  IsStatement T a typed.Empty k k' = k' ≡ k
  IsStatement T a (typed.If at paren c s) k k' =
      (m n : Known) × IsTested T c (entering_known k) m × IsStatement T a s (entering_known m) n × (k' ≡ leaving_known (leaving_known n))
  IsStatement T a (typed.IfElse at paren c s r) k k' =
      (m n o : Known) × IsTested T c (entering_known k) m × IsStatement T a s (entering_known m) n
      × IsStatement T a r (entering_known (leaving_known n)) o × (k' ≡ leaving_known (leaving_known o))
  IsStatement T a (typed.Switch at paren e brace items) k k' =
      (s : Scopes) × (m : Known) × IsTyped T e (entering k.scopes) s × IsSwitched T at e items
      × AreBlockItems T (in_a_switch a) (Some (type_of e)) items (entering_known (with_scopes k s)) m × (k' ≡ leaving_known (leaving_known m))
  IsStatement T a (typed.While at paren c s) k k' =
      (m n : Known) × IsTested T c (entering_known k) m × IsStatement T (in_a_loop a) s (entering_known m) n × (k' ≡ leaving_known (leaving_known n))
  IsStatement T a (typed.DoWhile s at paren c) k k' =
      (m n : Known) × IsStatement T (in_a_loop a) s (entering_known (entering_known k)) m × IsTested T c (leaving_known m) n × (k' ≡ leaving_known n)
  IsStatement T a (typed.For at paren first test step s) k k' =
      (l m n o : Known) × IsDropped T first (entering_known k) l × IsTestedOrNone T test l m × IsDropped T step m n
      × IsStatement T (in_a_loop a) s (entering_known n) o × (k' ≡ leaving_known (leaving_known o))
  IsStatement T a (typed.ForDeclaration at paren d test step s) k k' =
      (l m n o : Known) × IsDeclaration T false d (entering_known k) l × IsTestedOrNone T test l m × IsDropped T step m n
      × IsStatement T (in_a_loop a) s (entering_known n) o × (k' ≡ leaving_known (leaving_known o))
  IsStatement T a (typed.Break at) k k' = (k' ≡ k) × IsTrue a.breakable
  IsStatement T a (typed.Continue at) k k' = (k' ≡ k) × IsTrue a.in_loop
  IsStatement T a (typed.Return at e) k k' = IsReturned T at a.result e k k'

  -- what a block holds; `on` is the type of the `switch` whose block it is
  pub AreBlockItems : Table → Around → Option TypeId → TypedBlockItems → Known → Known → Type 0
  AreBlockItems T a on typed.NoBlockItem k k' = k' ≡ k
  AreBlockItems T a on (typed.AndStatement all s) k k' = (m : Known) × AreBlockItems T a on all k m × IsStatement T a s m k'
  AreBlockItems T a on (typed.AndDeclaration all d) k k' = (m : Known) × AreBlockItems T a on all k m × IsDeclaration T false d m k'
  AreBlockItems T a on (typed.AndCase all at e value) k k' =
      (m : Known) × (s : Scopes) × AreBlockItems T a on all k m × IsTyped T e m.scopes s × IsLabel T on e value × (k' ≡ with_scopes m s)
  AreBlockItems T a on (typed.AndDefault all at) k k' = AreBlockItems T a on all k k'

-- Functions and units (C99 6.9)

-- the parameters of the function part that stands nearest to the name, where that is what a definition has to begin with
abbrev pub declares_parameters : TypedParts → Option TypedParameters → Option TypedParameters
declares_parameters typed.NoPart outer = outer
declares_parameters (typed.AndArray all at words) outer = declares_parameters all None
declares_parameters (typed.AndSizedArray all at words e size) outer = declares_parameters all None
declares_parameters (typed.AndFunction all at parameters) outer = declares_parameters all (Some parameters)

abbrev pub unless_pointer : {A B : Type 0} → List A → Option B → Option B
unless_pointer [] outer = outer
unless_pointer (star ∷ stars) outer = None

abbrev mutual
  pub parameters_of_form : TypedForm → Option TypedParameters → Option TypedParameters
  parameters_of_form (typed.Form stars core parts) outer = parameters_of_core core (declares_parameters parts (unless_pointer stars outer))

  pub parameters_of_core : TypedCore → Option TypedParameters → Option TypedParameters
  parameters_of_core (typed.Names name home) found = found
  parameters_of_core typed.Unnamed found = found
  parameters_of_core (typed.Nested at form) found = parameters_of_form form found

-- the scope of a body: that of the list of parameters that stands nearest to the name goes on in it, behind those of the declarator (C99 6.2.1)
abbrev pub going_on : Level → Scopes → Scopes
going_on level s = record s { levels = s.levels ++ level ∷ [] }

-- a function with its body
pub record IsDefinition (T : Table) (specifiers : TypedSpecifiers) (form : TypedForm) (t : TypeId) (body : TypedBlockItems) (k k' : Known) : Type 0 where
  pub name : Identifier
  pub named : name_of_form form ≡ Some name
  pub parameters : TypedParameters
  pub written : parameters_of_form form None ≡ Some parameters
  pub types : List TypeId
  pub result : TypeId
  pub shape : HasShape T t (Function types result)
  pub before : Scopes
  pub specified : AreSpecifiers T specifiers k.scopes before
  pub no_typedef : ¬ (storage_of specifiers ≡ AsTypedef)
  pub declared : Known
  pub declares : IsDeclarator T true (storage_of specifiers) (specified_type specifiers) Written form t (with_scopes k before) declared
  -- what the list of its parameters leaves, in a scope of its own
  pub inside : Scopes
  pub listed : AreParameters T (is_void_list parameters) parameters (entering before) inside
  -- it is defined once, and is no runtime function
  pub once : is_one_of declared.defined name.bytes ≡ false
  pub own : IsNoName name.bytes
  pub after : Known
  pub statements : AreBlockItems T (record { result = result; in_loop = false; breakable = false }) None body
      (record declared {
        scopes = going_on (innermost inside.levels) declared.scopes;
        defined = declared.defined ++ name.bytes ∷ [];
      }) after
  pub defaults : defaults_in body ≤ 1
  pub leaves : k' ≡ leaving_known after

abbrev pub IsUnitTyped : Table → TypedTranslationUnit → Known → Known → Type 0
IsUnitTyped T typed.NoExternal k k' = k' ≡ k
IsUnitTyped T (typed.AndExternal u d) k k' = (m : Known) × IsUnitTyped T u k m × IsDeclaration T true d m k'
IsUnitTyped T (typed.AndFunctionBody u specifiers (typed.Declares form t) brace body) k k' =
    (m : Known) × IsUnitTyped T u k m × IsDefinition T specifiers form t body m k'
