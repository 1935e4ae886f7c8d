-- The functions that a unit defines are the same at each point of it: names, declarations, statements and units.
use Rattle.std.proofs.Common.{◌≡◌, Bool, true, false, [], ◌∷◌, ◌++◌, Option, Some, None, refl, ap, ◌∙◌}
use Rattle.cc_base.specs.declared.place.Place.{Place}
use Rattle.cc_base.specs.declared.number.TypeId.{TypeId}
use Rattle.c_types.specs.Table.{Table, shape_at}
use Rattle.c_tree.specs.declared.typed_word.Home.{Home}
use Rattle.c_tree.specs.declared.typed_word.Home.TheVariants as home
use Rattle.c_tree.specs.TypedTree as typed
use Rattle.c_tree.specs.TypedTree.{TypedExpr, TypedSpecifiers, TypedForm, TypedInitialiser, TypedInitDeclarators, TypedDeclaration, TypedStatement, TypedBlockItems, TypedTranslationUnit}
use Rattle.c_tree.specs.TypedParts.{type_of, specified_type, home_of, name_of_form}
use Rattle.c_typing.specs.Walks.{outermost_of}
use Rattle.c_typing.specs.declared.declared.Declared.{Declared}
use Rattle.c_typing.specs.declared.declared.Declared.TheVariants as declared
use Rattle.c_typing.specs.Declarators.{Outermost, Written, name_bytes}
use Rattle.c_typing.specs.Scopes.{Name, Scopes, here, innermost, entry_of, entering}
use Rattle.c_typing.specs.Shapes.{is_function_shape}
use Rattle.c_unit_typing.specs.Initialisers.{is_char_array, size_given}
use Rattle.c_unit_typing.specs.Units.{Known, Storage, Unstored, AsTypedef, AsExtern, AsStatic, AsAutomatic, Around, storage_of, with_scopes, unless_here, IsLinked, IsLinkedObject, IsStaticOrLocal, IsFunctionDeclared, IsObjectDeclared, IsTypedefDeclared, IsOrdinaryDeclared, IsNameDeclared, IsDeclarator, is_linked_home, IsDefinedOnce, IsInitialised, AreDeclarators, IsDeclaration, in_a_loop, in_a_switch, IsDropped, IsTested, IsTestedOrNone, IsReturned, entering_known, leaving_known, IsStatement, AreBlockItems, going_on, IsDefinition, IsUnitTyped}
use Rattle.c_unit_typing.proofs.StillDefined.{value-defined, specifiers-defined, form-defined, alone-defined, initialiser-defined}

-- the same functions
abbrev IsSame : Known → Known → Type 0
IsSame k k' = k'.scopes.defined ≡ k.scopes.defined

as_known : (k k' : Known) → k' ≡ k → IsSame k k'
as_known k k' h = ap (λ (q : Known). q.scopes.defined) h

unless_defined : (o : Option Declared) (name : Name) (what : Declared) (s : Scopes) → (unless_here o name what s).defined ≡ s.defined
unless_defined None name what s = refl
unless_defined (Some first) name what s = refl

module _ (T : Table) where
  linked_defined : (name : Name) (what : Declared) (k k' : Known) → IsLinked T name what k k' → IsSame k k'
  linked_defined name what k k' h =
      ap (λ (q : Known). q.scopes.defined) h.after ∙ unless_defined (here k.scopes.levels name) name what k.scopes

  linked_object_defined : (name : Name) (h : Home) (t : TypeId) (k k' : Known) → IsLinkedObject T name h t k k' → IsSame k k'
  linked_object_defined name h t k k' d = ap (λ (q : Known). q.scopes.defined) d.after ∙ linked_defined name (declared.Object t d.node) k d.middle d.linked

  static_defined : (storage : Storage) (h : Home) (name : Name) (t : TypeId) (k k' : Known) → IsStaticOrLocal T storage h name t k k' → IsSame k k'
  static_defined AsStatic (home.Static n) name t k k' d = ap (λ (q : Known). q.scopes.defined) d.2 ∙ ap (λ (q : Scopes). q.defined) d.1.fresh.after
  static_defined Unstored (home.Local n) name t k k' d = ap (λ (q : Known). q.scopes.defined) d.2 ∙ ap (λ (q : Scopes). q.defined) d.1.fresh.after
  static_defined AsAutomatic (home.Local n) name t k k' d = ap (λ (q : Known). q.scopes.defined) d.2 ∙ ap (λ (q : Scopes). q.defined) d.1.fresh.after
  static_defined storage h name t k k' d = absurd d

  object_defined : (file : Bool) (storage : Storage) (h : Home) (name : Name) (t : TypeId) (k k' : Known) → IsObjectDeclared T file storage h name t k k' → IsSame k k'
  object_defined true storage h name t k k' d = linked_object_defined name h t k k' d
  object_defined false AsExtern h name t k k' d = linked_object_defined name h t k k' d
  object_defined false Unstored h name t k k' d = static_defined Unstored h name t k k' d
  object_defined false AsStatic h name t k k' d = static_defined AsStatic h name t k k' d
  object_defined false AsAutomatic h name t k k' d = static_defined AsAutomatic h name t k k' d
  object_defined false AsTypedef h name t k k' d = static_defined AsTypedef h name t k k' d

  function_defined : (h : Home) (name : Name) (t : TypeId) (k k' : Known) → IsFunctionDeclared T h name t k k' → IsSame k k'
  function_defined home.None name t k k' d = linked_defined name (declared.Function t) k k' d
  function_defined h name t k k' d = absurd d

  typedef_defined : (file : Bool) (h : Home) (name : Name) (t : TypeId) (k k' : Known) → IsTypedefDeclared file h name t k k' → IsSame k k'
  typedef_defined file home.None name t k k' d = ap (λ (q : Known). q.scopes.defined) d.2 ∙ ap (λ (q : Scopes). q.defined) d.1.after
  typedef_defined file h name t k k' d = absurd d

  ordinary_defined : (b : Bool) (file : Bool) (storage : Storage) (h : Home) (name : Name) (t : TypeId) (k k' : Known) → IsOrdinaryDeclared b T file storage h name t k k' → IsSame k k'
  ordinary_defined true file storage h name t k k' d = function_defined h name t k k' d
  ordinary_defined false file storage h name t k k' d = object_defined file storage h name t k k' d

  name_defined : (file : Bool) (storage : Storage) (h : Home) (name : Name) (t : TypeId) (k k' : Known) → IsNameDeclared T file storage h name t k k' → IsSame k k'
  name_defined file AsTypedef h name t k k' d = typedef_defined file h name t k k' d
  name_defined file storage h name t k k' d = ordinary_defined (is_function_shape (shape_at T t)) file storage h name t k k' d

  declarator_defined : (file : Bool) (storage : Storage) (base : TypeId) (o : Outermost) (form : TypedForm) (t : TypeId) (k k' : Known) → IsDeclarator T file storage base o form t k k' → IsSame k k'
  declarator_defined file storage base o form t k k' d =
      name_defined file storage (home_of (typed.Declares form t)) d.name.bytes t (with_scopes k d.inside) k' d.declares ∙ form-defined T form k.scopes d.inside d.parts

  once_defined : (b : Bool) (name : Name) (k k' : Known) → IsDefinedOnce b name k k' → IsSame k k'
  once_defined true name k k' d = ap (λ (q : Known). q.scopes.defined) d.1
  once_defined false name k k' d = as_known k k' d

  initialised_defined : (h : Home) (k : Known) (name : Name) (i : TypedInitialiser) (k' : Known) → IsInitialised T h k name i k' → IsSame k k'
  initialised_defined (home.Local n) k name i k' d = as_known k k' d
  initialised_defined (home.Static n) k name i k' d = once_defined (is_linked_home (entry_of k.linked name) n) name k k' d.1
  initialised_defined (home.Known n) k name i k' d = once_defined (is_linked_home (entry_of k.linked name) n) name k k' d.1
  initialised_defined home.None k name i k' d = absurd d
  initialised_defined (home.Parameter n) k name i k' d = absurd d

  declarators_defined : (file : Bool) (storage : Storage) (base : TypeId) (all : TypedInitDeclarators) (k k' : Known) → AreDeclarators T file storage base all k k' → IsSame k k'
  declarators_defined file storage base typed.NoInitDeclarator k k' d = as_known k k' d
  declarators_defined file storage base (typed.AndPlain all (typed.Declares form t)) k k' d =
      declarator_defined file storage base Written form t d.0 k' d.2 ∙ declarators_defined file storage base all k d.0 d.1
  declarators_defined file storage base (typed.AndInitialised all (typed.Declares form t) at i) k k' d =
      initialised_defined (home_of (typed.Declares form t)) (with_scopes d.1 d.2) (name_bytes (name_of_form form)) i k' d.6
      ∙ (initialiser-defined T i at t d.1.scopes d.2 d.5
      ∙ (declarator_defined file storage base (outermost_of (size_given (is_char_array T t) i)) form t d.0 d.1 d.4 ∙ declarators_defined file storage base all k d.0 d.3))

  declaration_defined : (file : Bool) (d : TypedDeclaration) (k k' : Known) → IsDeclaration T file d k k' → IsSame k k'
  declaration_defined file (typed.Declare specifiers typed.NoInitDeclarator) k k' d =
      ap (λ (q : Known). q.scopes.defined) d.2 ∙ alone-defined T specifiers k.scopes d.0 d.1
  declaration_defined file (typed.Declare specifiers (typed.AndPlain all one)) k k' d =
      declarators_defined file (storage_of specifiers) (specified_type specifiers) (typed.AndPlain all one) (with_scopes k d.0) k' d.2 ∙ specifiers-defined T specifiers k.scopes d.0 d.1
  declaration_defined file (typed.Declare specifiers (typed.AndInitialised all one at i)) k k' d =
      declarators_defined file (storage_of specifiers) (specified_type specifiers) (typed.AndInitialised all one at i) (with_scopes k d.0) k' d.2
      ∙ specifiers-defined T specifiers k.scopes d.0 d.1

  dropped_defined : (e : Option TypedExpr) (k k' : Known) → IsDropped T e k k' → IsSame k k'
  dropped_defined None k k' d = as_known k k' d
  dropped_defined (Some e) k k' d = ap (λ (q : Known). q.scopes.defined) d.3 ∙ value-defined T e k.scopes d.0 d.1

  tested_defined : (e : TypedExpr) (k k' : Known) → IsTested T e k k' → IsSame k k'
  tested_defined e k k' d = ap (λ (q : Known). q.scopes.defined) d.3 ∙ value-defined T e k.scopes d.0 d.1

  tested_or_none_defined : (e : Option TypedExpr) (k k' : Known) → IsTestedOrNone T e k k' → IsSame k k'
  tested_or_none_defined None k k' d = as_known k k' d
  tested_or_none_defined (Some e) k k' d = tested_defined e k k' d

  returned_defined : (at : Place) (t : TypeId) (e : Option TypedExpr) (k k' : Known) → IsReturned T at t e k k' → IsSame k k'
  returned_defined at t None k k' d = as_known k k' d.0
  returned_defined at t (Some e) k k' d = ap (λ (q : Known). q.scopes.defined) d.3 ∙ value-defined T e k.scopes d.0 d.1

  mutual
    statement_defined : (t : TypedStatement) (a : Around) (k k' : Known) → IsStatement T a t k k' → IsSame k k'
    statement_defined (typed.Block brace items) a k k' d = as_known (leaving_known d.0) k' d.2 ∙ items_defined items a None (entering_known k) d.0 d.1
    statement_defined (typed.Express e) a k k' d = dropped_defined (Some e) k k' d
    statement_defined typed.Empty a k k' d = as_known k k' d
    statement_defined (typed.If at paren c s) a k k' d =
        as_known (leaving_known (leaving_known d.1)) k' d.4 ∙ (statement_defined s a (entering_known d.0) d.1 d.3 ∙ tested_defined c (entering_known k) d.0 d.2)
    statement_defined (typed.IfElse at paren c s r) a k k' d =
        as_known (leaving_known (leaving_known d.2)) k' d.6
        ∙ (statement_defined r a (entering_known (leaving_known d.1)) d.2 d.5 ∙ (statement_defined s a (entering_known d.0) d.1 d.4 ∙ tested_defined c (entering_known k) d.0 d.3))
    statement_defined (typed.Switch at paren e brace items) a k k' d =
        as_known (leaving_known (leaving_known d.1)) k' d.5
        ∙ (items_defined items (in_a_switch a) (Some (type_of e)) (entering_known (with_scopes k d.0)) d.1 d.4 ∙ value-defined T e (entering k.scopes) d.0 d.2)
    statement_defined (typed.While at paren c s) a k k' d =
        as_known (leaving_known (leaving_known d.1)) k' d.4 ∙ (statement_defined s (in_a_loop a) (entering_known d.0) d.1 d.3 ∙ tested_defined c (entering_known k) d.0 d.2)
    statement_defined (typed.DoWhile s at paren c) a k k' d =
        as_known (leaving_known d.1) k' d.4 ∙ (tested_defined c (leaving_known d.0) d.1 d.3 ∙ statement_defined s (in_a_loop a) (entering_known (entering_known k)) d.0 d.2)
    statement_defined (typed.For at paren first test step s) a k k' d =
        as_known (leaving_known (leaving_known d.3)) k' d.8
        ∙ (statement_defined s (in_a_loop a) (entering_known d.2) d.3 d.7
        ∙ (dropped_defined step d.1 d.2 d.6 ∙ (tested_or_none_defined test d.0 d.1 d.5 ∙ dropped_defined first (entering_known k) d.0 d.4)))
    statement_defined (typed.ForDeclaration at paren f test step s) a k k' d =
        as_known (leaving_known (leaving_known d.3)) k' d.8
        ∙ (statement_defined s (in_a_loop a) (entering_known d.2) d.3 d.7
        ∙ (dropped_defined step d.1 d.2 d.6 ∙ (tested_or_none_defined test d.0 d.1 d.5 ∙ declaration_defined false f (entering_known k) d.0 d.4)))
    statement_defined (typed.Break at) a k k' d = as_known k k' d.0
    statement_defined (typed.Continue at) a k k' d = as_known k k' d.0
    statement_defined (typed.Return at e) a k k' d = returned_defined at a.result e k k' d

    items_defined : (all : TypedBlockItems) (a : Around) (on : Option TypeId) (k k' : Known) → AreBlockItems T a on all k k' → IsSame k k'
    items_defined typed.NoBlockItem a on k k' d = as_known k k' d
    items_defined (typed.AndStatement all s) a on k k' d = statement_defined s a d.0 k' d.2 ∙ items_defined all a on k d.0 d.1
    items_defined (typed.AndDeclaration all f) a on k k' d = declaration_defined false f d.0 k' d.2 ∙ items_defined all a on k d.0 d.1
    items_defined (typed.AndCase all at e value) a on k k' d =
        ap (λ (q : Known). q.scopes.defined) d.5 ∙ (value-defined T e d.0.scopes d.1 d.3 ∙ items_defined all a on k d.0 d.2)
    items_defined (typed.AndDefault all at) a on k k' d = items_defined all a on k k' d

  definition_defined : (specifiers : TypedSpecifiers) (form : TypedForm) (t : TypeId) (body : TypedBlockItems) (k k' : Known) → IsDefinition T specifiers form t body k k' → IsSame k k'
  definition_defined specifiers form t body k k' d =
      as_known (leaving_known d.after) k' d.leaves
      ∙ (items_defined body (record { result = d.result; in_loop = false; breakable = false }) None (record d.declared {
        scopes = going_on (innermost d.inside.levels) d.declared.scopes;
        defined = d.declared.defined ++ d.name.bytes ∷ [];
      }) d.after d.statements
      ∙ (declarator_defined true (storage_of specifiers) (specified_type specifiers) Written form t (with_scopes k d.before) d.declared d.declares
      ∙ specifiers-defined T specifiers k.scopes d.before d.specified))

  pub unit-defined : (u : TypedTranslationUnit) (k k' : Known) → IsUnitTyped T u k k' → IsSame k k'
  unit-defined typed.NoExternal k k' d = as_known k k' d
  unit-defined (typed.AndExternal u f) k k' d = declaration_defined true f d.0 k' d.2 ∙ unit-defined u k d.0 d.1
  unit-defined (typed.AndFunctionBody u specifiers (typed.Declares form t) brace body) k k' d = definition_defined specifiers form t body d.0 k' d.2 ∙ unit-defined u k d.0 d.1
