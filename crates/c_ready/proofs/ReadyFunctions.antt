-- What is well typed is ready: functions and units.
use Rattle.std.specs.List.{All, Contains}
use Rattle.std.proofs.Common.{◌≡◌, ◌⊎◌, Bool, true, false, List, [], ◌∷◌, ◌++◌, map, Option, Some, None, refl, ap, sym, subst, ◌∙◌, true≢false, inl, inr, arith, if◌then◌else◌}
use Rattle.std.proofs.lemmas.List.Elements.{All-nil, All-cons, All-head, All-tail, All-push, All-weaker, All-contains_itself, All-append}
use Rattle.std.proofs.lemmas.Option.{none-some}
use Rattle.cc_base.specs.declared.number.NodeId.{NodeId}
use Rattle.cc_base.specs.declared.number.TypeId.{TypeId}
use Rattle.c_types.specs.declared.shape.TypeShape.{TypeShape}
use Rattle.c_types.specs.declared.shape.TypeShape.TheVariants.{Function, Void, Integer, Pointer, Array, Struct, Union}
use Rattle.c_types.specs.Table.{Table, HasShape, IsType, named_by, shape_at}
use Rattle.c_types.specs.Sound.{IsWellFormed}
use Rattle.c_tree.specs.declared.typed_word.Home.{Home}
use Rattle.c_tree.specs.declared.typed_word.Home.TheVariants as home
use Rattle.c_tree.specs.TypedTree as typed
use Rattle.c_tree.specs.TypedTree.{TypedSpecifiers, TypedForm, TypedCore, TypedParts, TypedParameters, TypedDeclared, TypedBlockItems, TypedTranslationUnit, TypedDeclarator}
use Rattle.c_tree.specs.TypedParts.{specified_type, DefinedFunction, Name, made_by, made_by_specifiers, made_by_form, made_by_core, made_by_parts, made_by_parameters, made_by_declared, made_by_adjusted, made_by_stars, home_of_form, made_by_declaration, made_by_block_items, declared_home, ParameterObject, parameter_home, parameter_objects, parameters_in_form, parameters_in_core, nearest_parameters, unless_starred, locals_of, declared_type, is_void_list}
use Rattle.c_tree.specs.declared.typed_word.TypedStar.{TypedStar}
use Rattle.c_typing.specs.declared.declared.Declared.{Declared}
use Rattle.c_typing.specs.declared.declared.Declared.TheVariants as declared
use Rattle.c_typing.specs.Scopes as scopes
use Rattle.c_typing.specs.Scopes.{Level, Scopes, entering, without_innermost, innermost}
use Rattle.c_typing.specs.Declarators.{Written, taken_types, parameter_types, is_result_shape}
use Rattle.c_typing.specs.Typing.{IsForm, IsCore, AreParts, AreParameters, IsTakenType, DeclaresParameter}
use Rattle.c_typing.specs.Shapes.{IsScalar, IsVoid, is_scalar_shape}
use Rattle.c_unit_typing.specs.Units as units
use Rattle.c_unit_typing.specs.Units.{with_scopes, leaving_known, storage_of, declares_parameters, unless_pointer, parameters_of_form, parameters_of_core, IsDefinition, IsUnitTyped, Around, going_on, Storage, AsTypedef, AsExtern, AsStatic, AsAutomatic, Unstored}
use Rattle.c_unit_typing.proofs.FunctionParameters.{function-with}
use Rattle.src_machine.specs.Names.{declarators_in_declaration, declarators_in_items}
use Rattle.c_ready.specs.Ready.{Named, parameter_named, made_named, variables_named, parameters_listed}
use Rattle.c_ready.proofs.Contexts.{IsReadyHome, IsReadyDeclaration, AreReadyBlockItems, Context, unread, IsNode, IsWhole, IsObjectOf, AreReadySpecifiers, IsReadyForm}
use Rattle.c_ready.proofs.Walked.{innermost-of, IsLevelOf, AreDeclared, declared-of, entered-of, outer-of}
use Rattle.c_ready.proofs.Walked
use Rattle.c_ready.proofs.Suits.{scalar-in}
use Rattle.c_ready.proofs.ReadyParts.{Known, values, AreDefinitions, IsMade, AreMade, ml, mr, specified-in, HasNoNames, void-names, scalar-whole}
use Rattle.c_ready.proofs.ReadyUnits.{In, Last, Fixed, IsGrown, IsLinkedSeen, grown-same, both-grown, last-left, none, AreListed}
use Rattle.c_ready.proofs.Typedefs.{unless_typedef}
use Rattle.c_ready.proofs.ParameterObjects.{objects_of, variables-are}
use Rattle.c_ready.proofs.ReadyStatements.{declarator-step, specifiers-step, declaration-step, items-step}
use Rattle.c_ready.proofs.Basics.{some-same, no_true, all-left, all-right, flat-append}

-- The parameters of a definition

pub record Has (T : Table) (k : Context) (ps : TypedParameters) : Type 0 where
  pub before : Scopes
  pub behind : Scopes
  pub are : AreParameters T (is_void_list ps) ps before behind
  pub made : AreMade k (made_by_parameters ps)

module _ (T : Table) (k : Context) (ps : TypedParameters) where
  parts-have : (parts : TypedParts) (outer : Option TypedParameters) (s s' : Scopes) → declares_parameters parts outer ≡ Some ps
      → AreParts T parts s s' → AreMade k (made_by_parts parts) → (outer ≡ Some ps) ⊎ Has T k ps
  parts-have typed.NoPart outer s s' q h m = inl q
  parts-have (typed.AndArray all at words) outer s s' q h m = elim (parts-have all None s s' q h m) [
    | inl none ↦ absurd (none-some ps none)
    | inr has ↦ inr has
  ]
  parts-have (typed.AndSizedArray all at words e size) outer s s' q h m =
      elim (parts-have all None s h.0 q h.1 (ml k (made_by_parts all) (made_by e) m)) [
        | inl none ↦ absurd (none-some ps none)
        | inr has ↦ inr has
      ]
  parts-have (typed.AndFunction all at qs) outer s s' q h m =
      elim (parts-have all (Some qs) s h.0 q h.2 (ml k (made_by_parts all) (made_by_parameters qs) m)) [
        | inl same ↦ inr (subst (Has T k) (some-same qs ps same)
            (record { before = entering h.0; behind = h.1; are = h.3; made = mr k (made_by_parts all) (made_by_parameters qs) m }))
        | inr has ↦ inr has
      ]

  unstarred : (stars : List TypedStar) (outer : Option TypedParameters) → unless_pointer stars outer ≡ Some ps → outer ≡ Some ps
  unstarred [] outer h = h
  unstarred (star ∷ stars) outer h = absurd (none-some ps h)

  mutual
    form-has : (form : TypedForm) (t : TypeId) (outer : Option TypedParameters) (s s' : Scopes) → parameters_of_form form outer ≡ Some ps
        → IsForm T form s s' → AreMade k (made_by_form form t) → (outer ≡ Some ps) ⊎ Has T k ps
    form-has (typed.Form stars core parts) t outer s s' q h m =
        let x = made_by_stars stars in let y = made_by_core core t in let z = made_by_parts parts in
        elim (core-has core t (declares_parameters parts (unless_pointer stars outer)) s h.0 q h.1 (mr k x y (ml k (x ++ y) z m))) [
          | inl found ↦ elim (parts-have parts (unless_pointer stars outer) h.0 s' found h.2 (mr k (x ++ y) z m)) [
            | inl given ↦ inl (unstarred stars outer given)
            | inr has ↦ inr has
          ]
          | inr has ↦ inr has
        ]

    core-has : (core : TypedCore) (t : TypeId) (found : Option TypedParameters) (s s' : Scopes) → parameters_of_core core found ≡ Some ps
        → IsCore T core s s' → AreMade k (made_by_core core t) → (found ≡ Some ps) ⊎ Has T k ps
    core-has (typed.Names name home) t found s s' q h m = inl q
    core-has typed.Unnamed t found s s' q h m = inl q
    core-has (typed.Nested at form) t found s s' q h m = form-has form t found s s' q h m

  -- they are those that the tree gives
  IsGiven : Option TypedParameters → TypedParameters → Type 0
  IsGiven a b = a ≡ Some ps → b ≡ ps

  nearest-same : (parts : TypedParts) (a : Option TypedParameters) (b : TypedParameters) → (a ≡ Some ps → b ≡ ps)
      → declares_parameters parts a ≡ Some ps → nearest_parameters parts b ≡ ps
  nearest-same typed.NoPart a b h q = h q
  nearest-same (typed.AndArray all at words) a b h q = nearest-same all None typed.NoParameter (λ x. absurd (none-some ps x)) q
  nearest-same (typed.AndSizedArray all at words e size) a b h q = nearest-same all None typed.NoParameter (λ x. absurd (none-some ps x)) q
  nearest-same (typed.AndFunction all at qs) a b h q = nearest-same all (Some qs) qs (some-same qs ps) q

  starred-same : (stars : List TypedStar) (a : Option TypedParameters) (b : TypedParameters) → (a ≡ Some ps → b ≡ ps)
      → unless_pointer stars a ≡ Some ps → unless_starred stars b ≡ ps
  starred-same [] a b h q = h q
  starred-same (star ∷ stars) a b h q = absurd (none-some ps q)

  mutual
    form-same : (form : TypedForm) (a : Option TypedParameters) (b : TypedParameters) → (a ≡ Some ps → b ≡ ps) → parameters_of_form form a ≡ Some ps
        → parameters_in_form form b ≡ ps
    form-same (typed.Form stars core parts) a b h q =
        core-same core (declares_parameters parts (unless_pointer stars a)) (nearest_parameters parts (unless_starred stars b))
        (nearest-same parts (unless_pointer stars a) (unless_starred stars b) (starred-same stars a b h)) q

    core-same : (core : TypedCore) (a : Option TypedParameters) (b : TypedParameters) → (a ≡ Some ps → b ≡ ps) → parameters_of_core core a ≡ Some ps
        → parameters_in_core core b ≡ ps
    core-same (typed.Names name home) a b h q = h q
    core-same typed.Unnamed a b h q = h q
    core-same (typed.Nested at form) a b h q = form-same form a b h q

-- their objects

is_none_home : Home → Bool
is_none_home home.None = true
is_none_home h = false

pub no_home : (n : NodeId) → home.None ≡ home.Parameter n → ⊥
unfolding is_none_home
no_home n h = true≢false (ap (λ (x : Home). is_none_home x) h)

home-made : (k : Context) (form : TypedForm) (t : TypeId) (n : NodeId) → home_of_form form ≡ home.Parameter n → AreMade k (made_by_form form t)
    → IsNode k n
home-made k (typed.Form stars (typed.Names name home) parts) t n q m =
    let own = All-head (IsMade k) (Name name home t) []
    (mr k (made_by_stars stars) (Name name home t ∷ []) (ml k (made_by_stars stars ++ (Name name home t ∷ [])) (made_by_parts parts) m)) in
    subst (λ (h : Home). IsMade k (Name name h t)) q own
home-made k (typed.Form stars typed.Unnamed parts) t n q m = absurd (no_home n q)
home-made k (typed.Form stars (typed.Nested at form) parts) t n q m =
    home-made k form t n q
    (mr k (made_by_stars stars) (made_by_form form t) (ml k (made_by_stars stars ++ made_by_form form t) (made_by_parts parts) m))

parameter-object : (k : Context) (void : Bool) (d : TypedDeclared) → (void ≡ true → d ≡ typed.NotDeclared) → (t : TypeId) (n : Scopes)
    → IsTakenType void k.table n t → AreMade k (made_by_declared d t)
    → All (λ (o : Named). IsNode k o.0 × IsWhole k o.1) (parameter_named (record { home = parameter_home (declared_home d); type = t }))
parameter-object k void typed.NotDeclared nd t n taken m = All-nil (λ (o : Named). IsNode k o.0 × IsWhole k o.1)
parameter-object k void (typed.DeclaredBy form) nd t n taken m = by (home_of_form form) refl
  where
    no_declared : typed.DeclaredBy form ≡ typed.NotDeclared → ⊥
    no_declared e = no_true (ap (λ (x : TypedDeclared). elim x as (λ y. Bool) [ typed.NotDeclared ↦ true | typed.DeclaredBy g ↦ false ]) e)

    whole : (v : Bool) → (v ≡ true → typed.DeclaredBy form ≡ typed.NotDeclared) → IsTakenType v k.table n t → IsWhole k t
    whole true g x = absurd (no_declared (g refl))
    whole false g x = scalar-whole k t x

    by : (h : Home) → home_of_form form ≡ h
        → All (λ (o : Named). IsNode k o.0 × IsWhole k o.1) (parameter_named (record { home = parameter_home h; type = t }))
    by (home.Parameter i) q =
        All-cons (λ (o : Named). IsNode k o.0 × IsWhole k o.1) (i, t) [] (home-made k form t i q m, whole void nd taken)
        (All-nil (λ (o : Named). IsNode k o.0 × IsWhole k o.1))
    by home.None q = All-nil (λ (o : Named). IsNode k o.0 × IsWhole k o.1)
    by (home.Static i) q = All-nil (λ (o : Named). IsNode k o.0 × IsWhole k o.1)
    by (home.Local i) q = All-nil (λ (o : Named). IsNode k o.0 × IsWhole k o.1)
    by (home.Known i) q = All-nil (λ (o : Named). IsNode k o.0 × IsWhole k o.1)

objects-made : (k : Context) (void : Bool) (ps : TypedParameters) → (void ≡ true → HasNoNames ps) → (s s' : Scopes)
    → AreParameters k.table void ps s s' → AreMade k (made_by_parameters ps)
    → All (λ (o : Named). IsNode k o.0 × IsWhole k o.1) (objects_of ps)
objects-made k void typed.NoParameter none s s' h m = All-nil (λ (o : Named). IsNode k o.0 × IsWhole k o.1)
objects-made k void (typed.AndParameter all specifiers d adjusted t) none s s' h m =
    let x = made_by_parameters all in let y = made_by_specifiers specifiers in let z = made_by_declared d t in let v = made_by_adjusted adjusted in
    let m3 = ml k (x ++ y ++ z) v m in
    let P : Named → Type 0 = λ o. IsNode k o.0 × IsWhole k o.1 in
    subst (All P) (sym (flat-append parameter_named (parameter_objects all) (record { home = parameter_home (declared_home d); type = t })))
    (All-append P (objects_of all) (parameter_named (record { home = parameter_home (declared_home d); type = t }))
    (objects-made k void all (λ q. (none q).0) s h.0 h.3 (ml k x y (ml k (x ++ y) z m3)))
    (parameter-object k void d (λ q. (none q).1) t h.2 h.8 (mr k (x ++ y) z m3)))

-- the scope of a body

names-of-form : (k : Context) → k.runs ≡ true → (form : TypedForm) (t : TypeId) (s s' : Scopes) → DeclaresParameter (typed.DeclaredBy form) t s s'
    → All (λ (o : Named). IsObjectOf true k o.0 o.1) (parameter_named (record { home = parameter_home (home_of_form form); type = t }))
    → AreDeclared k.table (Known k) s.levels → AreDeclared k.table (Known k) s'.levels
names-of-form k r (typed.Form stars (typed.Names name (home.Parameter n)) parts) t s s' h all d =
    subst (λ (q : Scopes). AreDeclared k.table (Known k) q.levels) (sym h.after)
    (declared-of k.table (Known k) name.bytes (declared.Object t n) s.levels
    (subst (λ (b : Bool). IsObjectOf b k n t) (sym r) (All-head (λ (o : Named). IsObjectOf true k o.0 o.1) (n, t) [] all)) d)
names-of-form k r (typed.Form stars (typed.Names name other) parts) t s s' h all d = absurd h
names-of-form k r (typed.Form stars typed.Unnamed parts) t s s' h all d = subst (λ (q : Scopes). AreDeclared k.table (Known k) q.levels) (sym h) d
names-of-form k r (typed.Form stars (typed.Nested at form) parts) t s s' h all d = names-of-form k r form t s s' h all d

-- the scope that a list of parameters leaves
parameters-in : (k : Context) → k.runs ≡ true → (void : Bool) (ps : TypedParameters) (s s' : Scopes) → AreParameters k.table void ps s s'
    → All (λ (o : Named). IsObjectOf true k o.0 o.1) (objects_of ps)
    → AreDeclared k.table (Known k) s.levels → AreDeclared k.table (Known k) s'.levels
parameters-in k r void typed.NoParameter s s' h all d = subst (λ (q : Scopes). AreDeclared k.table (Known k) q.levels) (sym h) d
parameters-in k r void (typed.AndParameter ps specifiers one adjusted t) s s' h all d =
    let P : Named → Type 0 = λ o. IsObjectOf true k o.0 o.1 in
    let own : ParameterObject = record { home = parameter_home (declared_home one); type = t } in
    let both = subst (All P) (flat-append parameter_named (parameter_objects ps) own) all in
    let before = parameters-in k r void ps s h.0 h.3 (all-left P (objects_of ps) (parameter_named own) both) d in
    let behind = (Walked.declared-kept k.table (Known k) (values k) one h.1 h.2 h.5).names
    ((Walked.specifiers-kept k.table (Known k) (values k) specifiers h.0 h.1 h.4).names before) in
    by one h.9 (all-right P (objects_of ps) (parameter_named own) both) behind
  where
    by : (x : TypedDeclared) → DeclaresParameter x t h.2 s'
        → All (λ (o : Named). IsObjectOf true k o.0 o.1) (parameter_named (record { home = parameter_home (declared_home x); type = t }))
        → AreDeclared k.table (Known k) h.2.levels → AreDeclared k.table (Known k) s'.levels
    by typed.NotDeclared g all d = subst (λ (q : Scopes). AreDeclared k.table (Known k) q.levels) (sym g) d
    by (typed.DeclaredBy form) g all d = names-of-form k r form t h.2 s' g all d

-- Functions and units

abbrev pub static_of : Context → Context
static_of base = record base { variables = []; calls = false; runs = true; file = false }

abbrev pub file_of : Context → Context
file_of base = record base { variables = []; calls = true; runs = true; file = true }

-- in which parts are gone through for what grows alone
abbrev pub block_of : Context → Context
block_of base = record base { variables = []; calls = true; runs = true; file = false }

abbrev pub in_body : Context → DefinedFunction → Context
in_body base f = record base { variables = variables_named f; calls = true; runs = true; file = false }

pub no-member : {A : Type 0} (x : A) → Contains [] x → ⊥
no-member x h = omega (arith, h.1)

module _ (base : Context) (f : DefinedFunction) where
  object-in : (h : NodeId) (t : TypeId) → IsObjectOf true (file_of base) h t → IsObjectOf true (in_body base f) h t
  object-in h t o = (
    o.0,
    o.1,
    elim o.2 [
      | inl v ↦ absurd (no-member (h, t) v)
      | inr r ↦ inr (record { first = r.first; made = r.made; alike = r.alike; declared = r.declared; begun = r.begun })
    ],
  )

  known-in : (name : scopes.Name) (what : Declared) → Known (file_of base) name what → Known (in_body base f) name what
  known-in name (declared.Object t h) o = object-in h t o
  known-in name (declared.Function t) o = record { told = o.told; first = o.first; linked = o.linked; alike = o.alike }
  known-in name (declared.Typedef t) o = tt
  known-in name (declared.Enumerator z) o = tt

  linked-in-body : (name : scopes.Name) (what : Declared) → IsLinkedSeen (file_of base) name what → IsLinkedSeen (in_body base f) name what
  linked-in-body name (declared.Object t h) o = o
  linked-in-body name (declared.Function t) o = tt
  linked-in-body name (declared.Typedef t) o = tt
  linked-in-body name (declared.Enumerator z) o = tt

  linked-out : (name : scopes.Name) (what : Declared) → IsLinkedSeen (in_body base f) name what → IsLinkedSeen (file_of base) name what
  linked-out name (declared.Object t h) o = o
  linked-out name (declared.Function t) o = tt
  linked-out name (declared.Typedef t) o = tt
  linked-out name (declared.Enumerator z) o = tt

  levels-in : (ls : List Level) → AreDeclared base.table (Known (file_of base)) ls → AreDeclared base.table (Known (in_body base f)) ls
  levels-in ls h =
      All-weaker (IsLevelOf base.table (Known (file_of base))) (IsLevelOf base.table (Known (in_body base f)))
      (λ l own. record {
        names =
            All-weaker (λ (e : scopes.Name × Declared). Known (file_of base) e.0 e.1)
            (λ (e : scopes.Name × Declared). Known (in_body base f) e.0 e.1)
            (λ e q. known-in e.0 e.1 q) l.names own.names;
        tags = own.tags;
      }) ls h

-- what a function is, but for its local variables
pub record IsBodyReady (base : Context) (f : DefinedFunction) : Type 0 where
  pub result : TypeId
  pub types : HasShape base.table (declared_type f.declarator) (Function (taken_types (parameters_listed f.declarator)) result)
  pub scalars : All (λ t. IsType base.table t × IsScalar base.table t) (taken_types (parameters_listed f.declarator))
  pub gives : (IsType base.table result × IsScalar base.table result) ⊎ IsVoid base.table result
  pub objects : All (λ (o : Named). IsNode base o.0 × IsWhole base o.1) (objects_of (parameters_listed f.declarator))
  pub body : AreReadyBlockItems (in_body base f) (static_of base) (record { result = result; in_loop = false; breakable = false }) None f.body

-- no home is that of a variable of the function and of what lives as long as the program
abbrev pub IsApart : Context → DefinedFunction → Type 0
IsApart base f = (h : NodeId) (t u : TypeId) → Contains base.statics (h, t) → Contains (variables_named f) (h, u) → ⊥

-- what a definition makes is given, and what it declares is listed
pub record IsDefinitionMade (base : Context) (specifiers : TypedSpecifiers) (form : TypedForm) (t : TypeId) (body : TypedBlockItems) : Type 0 where
  pub specified : AreMade (file_of base) (made_by_specifiers specifiers)
  pub formed : AreMade (file_of base) (made_by_form form t)
  pub inside : AreMade (in_body base (record { declarator = typed.Declares form t; body = body })) (made_by_block_items body)
  pub apart : IsApart base (record { declarator = typed.Declares form t; body = body })
  pub own : Contains base.declarators (typed.Declares form t)
  pub listed : AreListed base (declarators_in_items body)

abbrev pub AreExternalsMade : Context → TypedTranslationUnit → Type 0
AreExternalsMade base typed.NoExternal = Unit {0}
AreExternalsMade base (typed.AndExternal u d) =
    AreExternalsMade base u × AreMade (file_of base) (made_by_declaration d) × AreListed base (declarators_in_declaration d)
AreExternalsMade base (typed.AndFunctionBody u specifiers (typed.Declares form t) brace body) =
    AreExternalsMade base u × IsDefinitionMade base specifiers form t body

abbrev pub AreExternalsReady : Context → TypedTranslationUnit → Type 0
AreExternalsReady base typed.NoExternal = Unit {0}
AreExternalsReady base (typed.AndExternal u d) = AreExternalsReady base u × IsReadyDeclaration (file_of base) (static_of base) d
AreExternalsReady base (typed.AndFunctionBody u specifiers (typed.Declares form t) brace body) =
    AreExternalsReady base u × AreReadySpecifiers (unread base) specifiers × IsReadyForm (unread base) form
    × IsReadyHome (file_of base) (home_of_form form) t
    × IsBodyReady base (record { declarator = typed.Declares form t; body = body })

objects-with : (k : Context) (os : List Named) → All (λ (o : Named). IsNode k o.0 × IsWhole k o.1) os → All (Contains k.variables) os
    → All (λ (o : Named). IsObjectOf true k o.0 o.1) os
objects-with k [] a b = All-nil (λ (o : Named). IsObjectOf true k o.0 o.1)
objects-with k (o ∷ os) a b =
    let x = All-head (λ (o : Named). IsNode k o.0 × IsWhole k o.1) o os a in
    All-cons (λ (o : Named). IsObjectOf true k o.0 o.1) o os (x.0, x.1, inl (All-head (Contains k.variables) o os b))
    (objects-with k os (All-tail (λ (o : Named). IsNode k o.0 × IsWhole k o.1) o os a) (All-tail (Contains k.variables) o os b))

pub result-in : (T : Table) → IsWellFormed T → (t result : TypeId) (types : List TypeId) → HasShape T t (Function types result) → IsType T result
result-in T w t result types h = All-head (IsType T) result types (subst (λ (x : TypeShape). All (IsType T) (named_by x)) h.1 (w.each t).named)

listed-one : (P : TypedDeclarator → Type 0) (storage : Storage) (d : TypedDeclarator) → P d → All P (unless_typedef storage d)
listed-one P AsTypedef d h = All-nil P
listed-one P AsExtern d h = All-cons P d [] h (All-nil P)
listed-one P AsStatic d h = All-cons P d [] h (All-nil P)
listed-one P AsAutomatic d h = All-cons P d [] h (All-nil P)
listed-one P Unstored d h = All-cons P d [] h (All-nil P)

result_of : TypeShape → TypeId → TypeId
result_of (Function ps r) t = r
result_of x t = t

same-result : (ps qs : List TypeId) (r q : TypeId) → Function ps r ≡ Function qs q → r ≡ q
unfolding result_of
same-result ps qs r q h = ap (λ (x : TypeShape). result_of x r) h

result-gives : (T : Table) (r : TypeId) → IsType T r → is_result_shape (shape_at T r) ≡ true → (IsType T r × IsScalar T r) ⊎ IsVoid T r
result-gives T r b h = by (shape_at T r) refl h
  where
    by : (x : TypeShape) → shape_at T r ≡ x → is_result_shape x ≡ true → (IsType T r × IsScalar T r) ⊎ IsVoid T r
    by Void e g = inr (b, e)
    by (Integer bytes signed) e g = inl (b, ap is_scalar_shape e)
    by (Pointer n u) e g = inl (b, ap is_scalar_shape e)
    by (Array u n) e g = no_true g
    by (Function ps q) e g = no_true g
    by (Struct n) e g = no_true g
    by (Union n) e g = no_true g

-- the types of parameters
each-scalar : (k : Context) (ps : TypedParameters) (s s' : Scopes) → AreParameters k.table false ps s s'
    → All (λ t. IsType k.table t × IsScalar k.table t) (parameter_types ps)
each-scalar k typed.NoParameter s s' h = All-nil (λ t. IsType k.table t × IsScalar k.table t)
each-scalar k (typed.AndParameter all specifiers d adjusted t) s s' h =
    All-push (λ t. IsType k.table t × IsScalar k.table t) (parameter_types all) t (each-scalar k all s h.0 h.3) (scalar-in k.table t h.8, h.8)

taken-scalars : (k : Context) (ps : TypedParameters) (b : Bool) → is_void_list ps ≡ b → (s s' : Scopes)
    → AreParameters k.table (is_void_list ps) ps s s'
    → All (λ t. IsType k.table t × IsScalar k.table t) (taken_types ps)
taken-scalars k ps true q s s' h =
    subst (λ (c : Bool). All (λ t. IsType k.table t × IsScalar k.table t) (if c then [] else parameter_types ps)) (sym q)
    (All-nil (λ t. IsType k.table t × IsScalar k.table t))
taken-scalars k ps false q s s' h =
    subst (λ (c : Bool). All (λ t. IsType k.table t × IsScalar k.table t) (if c then [] else parameter_types ps)) (sym q)
    (each-scalar k ps s s' (subst (λ (c : Bool). AreParameters k.table c ps s s') q h))

pub record IsGoing (base : Context) (m m' : units.Known) (M R : Type 0) : Type 0 where
  pub grown : IsGrown m m'
  pub ready : In (file_of base) m → Last (file_of base) m' → M → R × In (file_of base) m'

module _ (base : Context) (w : IsWellFormed base.table) (definitions : AreDefinitions base) where
  definitions-at : (v : List Named) (a b c : Bool) → AreDefinitions (record base { variables = v; calls = a; runs = b; file = c })
  definitions-at v a b c i d h = definitions i d h

  pub fixed-block : Fixed (block_of base)
  fixed-block =
      record { formed = w; calls = inl refl; definitions = definitions-at [] true true false; runs = refl; apart = λ h t u c v. no-member (h, u) v }

  pub fixed-file : Fixed (file_of base)
  fixed-file =
      record { formed = w; calls = inl refl; definitions = definitions-at [] true true true; runs = refl; apart = λ h t u c v. no-member (h, u) v }

  fixed-body : (f : DefinedFunction) → IsApart base f → Fixed (in_body base f)
  fixed-body f apart =
      record { formed = w; calls = inl refl; definitions = definitions-at (variables_named f) true true false; runs = refl; apart = apart }

  pub definition-going : (specifiers : TypedSpecifiers) (form : TypedForm) (t : TypeId) (body : TypedBlockItems) (m m' : units.Known)
      → IsDefinition base.table specifiers form t body m m'
      → IsGoing base m m' (IsDefinitionMade base specifiers form t body)
      (AreReadySpecifiers (unread base) specifiers × IsReadyForm (unread base) form × IsReadyHome (file_of base) (home_of_form form) t
      × IsBodyReady base (record { declarator = typed.Declares form t; body = body }))
  definition-going specifiers form t body m m' h =
      let k = file_of base in
      let f : DefinedFunction = record { declarator = typed.Declares form t; body = body } in
      let b = in_body base f in
      let n = with_scopes m h.before in
      let first = specifiers-step k fixed-file specifiers m h.before h.specified in
      let second = declarator-step k fixed-file true (λ e. absurd (true≢false e)) (storage_of specifiers) (specified_type specifiers) Written form t
      n h.declared
      (specified-in base.table specifiers m.scopes h.before h.specified) h.declares in
      let level = innermost h.inside.levels in
      let start : units.Known = record h.declared { scopes = going_on level h.declared.scopes; defined = h.declared.defined ++ h.name.bytes ∷ [] }
      in
      let result = result-in base.table w t h.result h.types h.shape in
      let around : Around = record { result = h.result; in_loop = false; breakable = false } in
      let third = items-step (block_of base) fixed-block around None body start h.after (result, refl) h.statements in
      let leaves : without_innermost h.after.scopes.levels ≡ h.declared.scopes.levels = third.grown.stays.outer ∙ outer-of h.declared.scopes.levels
      level in
      let whole : IsGrown h.declared (leaving_known h.after) = record {
        stays = record {
          outer = ap (λ (ls : List Level). without_innermost ls) leaves;
          defined = third.grown.stays.defined;
          members = third.grown.stays.members;
        };
        linked = third.grown.linked;
      } in
      let ended = grown-same (leaving_known h.after) m' h.leaves in
      record {
        grown = both-grown first.grown (both-grown second.grown (both-grown whole ended));
        ready = λ i l made.
            let l4 = last-left k (leaving_known h.after) m' ended l in
            let l3 = last-left k h.declared (leaving_known h.after) whole l4 in
            let l2 = last-left k n h.declared second.grown l3 in
            let r1 = first.ready i l2 made.specified (All-nil (Contains k.declarators)) in
            let r2 = second.ready r1.1 l3 made.formed (listed-one (Contains k.declarators) (storage_of specifiers) (typed.Declares form t) made.own)
            in
            let ps = h.parameters in
            let has = given (form-has base.table k ps form t None h.before h.declares.inside h.written h.declares.parts made.formed) in
            let objects = objects-made k (is_void_list ps) ps (void-names ps) (entering h.before) h.inside h.listed has.made in
            let same = form-same base.table k ps form None typed.NoParameter (λ x. absurd (none-some ps x)) h.written in
            let listed : All (Contains b.variables) (objects_of ps) =
            subst (λ (qs : TypedParameters). All (Contains b.variables) (objects_of qs)) same
            (all-left (Contains b.variables) (objects_of (parameters_in_form form typed.NoParameter)) (map made_named (locals_of body))
            (subst (All (Contains b.variables)) (variables-are form t body) (All-contains_itself b.variables))) in
            let names = parameters-in b refl (is_void_list ps) ps (entering h.before) h.inside h.listed
            (objects-with b (objects_of ps) objects listed)
            (entered-of b.table (Known b) h.before.levels (levels-in base f h.before.levels r1.1.names)) in
            let in3 : In b start = record {
              names = All-push (IsLevelOf b.table (Known b)) h.declared.scopes.levels level (levels-in base f h.declared.scopes.levels r2.1.names)
                  (innermost-of b.table (Known b) h.inside.levels names);
              defined = r2.1.defined;
              linked = All-weaker (λ (e : scopes.Name × Declared). IsLinkedSeen k e.0 e.1) (λ (e : scopes.Name × Declared). IsLinkedSeen b e.0 e.1)
                  (λ e q. linked-in-body base f e.0 e.1 q) h.declared.linked r2.1.linked;
              statics = r2.1.statics;
            } in
            let last3 : Last b h.after = record { followed = l4.followed; lengths = l4.lengths; linked = l4.linked } in
            let r3 = (items-step b (fixed-body f made.apart) around None body start h.after (result, refl) h.statements).ready in3 last3 made.inside
            made.listed in
            let function = function-with base.table h.declares.inside form (specified_type specifiers) t ps h.written h.declares.type in
            let one = same-result h.types (taken_types ps) h.result function.0 (sym h.shape.1 ∙ function.1.1) in
            let types = subst (λ (r : TypeId). HasShape base.table t (Function (taken_types ps) r)) (sym one) function.1 in
            let scalars = taken-scalars k ps (is_void_list ps) refl (entering h.before) h.inside h.listed in (
              (
                r1.0,
                r2.0.0,
                r2.0.2,
                record {
                  result = h.result;
                  types = subst (λ (qs : TypedParameters). HasShape base.table t (Function (taken_types qs) h.result)) (sym same) types;
                  scalars =
                      subst (λ (qs : TypedParameters). All (λ u. IsType base.table u × IsScalar base.table u) (taken_types qs)) (sym same) scalars;
                  gives =
                      result-gives base.table h.result result
                      (subst (λ (r : TypeId). is_result_shape (shape_at base.table r) ≡ true) (sym one) function.2);
                  objects =
                      subst (λ (qs : TypedParameters). All (λ (o : Named). IsNode base o.0 × IsWhole base o.1) (objects_of qs)) (sym same) objects;
                  body = r3.0;
                },
              ),
              subst (In k) (sym h.leaves) (record {
                names = subst (λ (ls : List Level). AreDeclared k.table (Known k) ls) (sym leaves) r2.1.names;
                defined = r3.1.defined;
                linked =
                    All-weaker (λ (e : scopes.Name × Declared). IsLinkedSeen b e.0 e.1) (λ (e : scopes.Name × Declared). IsLinkedSeen k e.0 e.1)
                    (λ e q. linked-out base f e.0 e.1 q) h.after.linked r3.1.linked;
                statics = r3.1.statics;
              }),
            );
      }
    where
      given : None ≡ Some h.parameters ⊎ Has base.table (file_of base) h.parameters → Has base.table (file_of base) h.parameters
      given (inl x) = absurd (none-some h.parameters x)
      given (inr x) = x

  pub unit-going : (u : TypedTranslationUnit) (m m' : units.Known) → IsUnitTyped base.table u m m'
      → IsGoing base m m' (AreExternalsMade base u) (AreExternalsReady base u)
  unit-going typed.NoExternal m m' h = record { grown = grown-same m m' h; ready = λ i l a. (tt, subst (In (file_of base)) (sym h) i) }
  unit-going (typed.AndExternal u d) m m' h =
      let first = unit-going u m h.0 h.1 in
      let second = declaration-step (file_of base) fixed-file true (λ e. absurd (true≢false e)) d h.0 m' h.2 in
      record {
        grown = both-grown first.grown second.grown;
        ready = λ i l a.
            let x = first.ready i (last-left (file_of base) h.0 m' second.grown l) a.0 in
            let y = second.ready x.1 l a.1 a.2 in ((x.0, y.0), y.1);
      }
  unit-going (typed.AndFunctionBody u specifiers (typed.Declares form t) brace body) m m' h =
      let first = unit-going u m h.0 h.1 in
      let second = definition-going specifiers form t body h.0 m' h.2 in
      record {
        grown = both-grown first.grown second.grown;
        ready = λ i l a.
            let x = first.ready i (last-left (file_of base) h.0 m' second.grown l) a.0 in
            let y = second.ready x.1 l a.1 in ((x.0, y.0.0, y.0.1, y.0.2, y.0.3), y.1);
      }
