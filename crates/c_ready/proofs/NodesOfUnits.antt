-- The same of initialisers, declarations, statements and units; so each pointer type of the table has a node of the unit, and no other has it.
use Rattle.std.proofs.Common.{◌≡◌, ℕ, ◌<◌, ◌+◌, Bool, true, false, List, [], ◌∷◌, ◌++◌, Option, Some, None, refl, ap, inl, inr, arith, ◌≤◌, if◌then◌else◌, ◌&&◌, ◌≢◌}
use Rattle.std.proofs.lemmas.Bool.Decides.{eqb_tells}
use Rattle.cc_base.specs.declared.place.Place.{Place}
use Rattle.cc_base.specs.declared.number.TypeId.{TypeId}
use Rattle.c_types.specs.Table.{Table, shape_at}
use Rattle.c_tree.specs.TypedTree as typed
use Rattle.c_tree.specs.TypedTree.{TypedExpr, TypedSpecifiers, TypedForm, TypedCore, TypedParts, TypedInitialiser, TypedItems, TypedInitDeclarators, TypedDeclaration, TypedStatement, TypedBlockItems, TypedTranslationUnit}
use Rattle.c_tree.specs.TypedParts.{type_of, place_type, specified_type, Made, Copy, item_place, home_of_form}
use Rattle.c_ready.proofs.PointersMade.{made_by, made_by_place, made_by_specifiers, made_by_form, made_by_initialiser, made_by_items, made_by_init_declarators, made_by_declaration, made_by_optional, made_by_statement, made_by_block_items, made_by_unit}
use Rattle.c_tree.specs.declared.typed_word.Home.{Home}
use Rattle.c_tree.specs.declared.typed_word.Home.TheVariants as home
use Rattle.c_typing.specs.Walks.{outermost_of}
use Rattle.c_typing.specs.Scopes.{Scopes, entering}
use Rattle.c_typing.specs.Declarators.{Written, Counts, FormMakes, is_derived_core, is_derived}
use Rattle.c_typing.specs.Typing.{AreSpecifiers, IsForm, AreAlone}
use Rattle.c_type_order.specs.TypesUsed.{Use, OfType, OfSize, OfMember, types_of, made_in, parts_steps, form_steps, core_steps, used_by, used_by_place, used_by_specifiers, used_by_declarator, used_by_form, AreUses}
use Rattle.c_unit_typing.specs.Units.{Storage, AreDeclarators, IsDeclaration, IsStatement, AreBlockItems, IsDropped, IsTestedOrNone, IsReturned, entering_known, leaving_known, with_scopes, Around, in_a_loop, in_a_switch, storage_of, IsUnitTyped}
use Rattle.c_unit_typing.specs.TypesUsed.{used_by_initialiser, used_by_items, used_by_init_declarators, used_by_declaration, used_by_optional, used_by_statement, used_by_block_items, used_by_unit}
use Rattle.c_unit_typing.specs.Units as units
use Rattle.c_unit_typing.specs.Initialisers.{IsInitialiser, AreItems, is_only_text, is_char_array, size_given}
use Rattle.c_ready.specs.Ready.{Stage, Named, unread, IsReadyForm, IsReadyInitialiser, AreReadyItems, initialised_in, AreReadyDeclarators, AreReadySpecifiers, IsReadyDeclaration, IsReadyOptional, IsReadyTestOrNone, IsReadyReturn, IsReadyStatement, AreReadyBlockItems, AreReadyExternals}
use Rattle.c_ready.proofs.NodesUsed.{aggregate-zero, of_shape, uses, makes, uses-append, both, wide, declared-by, form-made, if-counts, steps-move, value-uses, place-uses, form-uses, specifiers-uses}

module _ (static : Stage) (n : ℕ) where
  abbrev T : Table
  T = static.table

  -- a part stands outside functions or in one
  abbrev in_function : List Named → Stage
  in_function variables = record static { variables = variables; calls = true }

  abbrev MostIn : Table → List Use → List Made → Type 0
  MostIn U us ms = uses U n us ≤ makes n ms

  abbrev Most : List Use → List Made → Type 0
  Most us ms = MostIn T us ms

  -- an outermost array with a count of its own is as one that is written
  parts-same : (parts : TypedParts) (c : ℕ) → parts_steps (Counts c) parts ≡ parts_steps Written parts
  parts-same typed.NoPart c = refl
  parts-same (typed.AndArray all at words) c = ap (λ k. k + 1) (parts-same all c)
  parts-same (typed.AndSizedArray all at words e size) c = ap (λ k. k + 1) (parts-same all c)
  parts-same (typed.AndFunction typed.NoPart at ps) c = refl
  parts-same (typed.AndFunction (typed.AndArray all a w) at ps) c = ap (λ k. k + 1) (parts-same (typed.AndArray all a w) c)
  parts-same (typed.AndFunction (typed.AndSizedArray all a w e z) at ps) c = ap (λ k. k + 1) (parts-same (typed.AndSizedArray all a w e z) c)
  parts-same (typed.AndFunction (typed.AndFunction all a qs) at ps) c = ap (λ k. k + 1) (parts-same (typed.AndFunction all a qs) c)

  outside-same : (b : Bool) (parts : TypedParts) (c : ℕ)
      → parts_steps (if b then Written else Counts c) parts ≡ parts_steps (if b then Written else Written) parts
  outside-same true parts c = refl
  outside-same false parts c = parts-same parts c

  mutual
    form-same : (form : TypedForm) (c : ℕ) → form_steps (Counts c) form ≡ form_steps Written form
    form-same (typed.Form stars core parts) c = let a = core-same core c in let b = outside-same (is_derived_core core) parts c in omega (arith, a, b)

    core-same : (core : TypedCore) (c : ℕ) → core_steps (Counts c) core ≡ core_steps Written core
    core-same (typed.Names name home) c = refl
    core-same typed.Unnamed c = refl
    core-same (typed.Nested at form) c = form-same form c

  -- a declarator of an object, whose missing size may be known
  object-uses : (size : Option ℕ) (form : TypedForm) (base t : TypeId) (s s' : Scopes) → IsForm T form s s' → IsReadyForm (unread static) form
      → FormMakes T s' form (outermost_of size) base t → Most (used_by_declarator T Written (typed.Declares form t)) (made_by_form form t)
  object-uses None form base t s s' h r g = declared-by T n form base t s' g (form-uses n (unread static) form t s s' h r)
  object-uses (Some c) form base t s s' h r g =
      let a = form-uses n (unread static) form t s s' h r in
      let b = form-made T n s' form (Counts c) base t 0 g in
      let z = if-counts T n (is_derived form) c in
      let x = uses-append T n (used_by_form T form) (types_of (made_in T (form_steps Written form) t)) in
      let move = steps-move T n (form_steps (Counts c) form + 0) (form_steps Written form) t (let e = form-same form c in omega (arith, e)) in
      omega (arith, a, b, z, x, move)

  mutual
    init-uses : (k0 : Stage) (i : TypedInitialiser) (at : Place) (t : TypeId) (s s' : Scopes) → IsInitialiser k0.table i at t s s'
        → IsReadyInitialiser k0 t i → MostIn k0.table (used_by_initialiser k0.table i) (made_by_initialiser i)
    init-uses k0 (typed.Value e) at t s s' h r = value-uses n k0 e s s' h.0 r.0
    init-uses k0 (typed.Copied p seat) at t s s' h r =
        wide k0.table n (used_by_place k0.table p) (made_by_place p) (Copy (place_type p) ∷ []) (place-uses n k0 p s s' h.0 r.0)
    init-uses k0 (typed.Text pieces bytes) at t s s' h r = omega arith
    init-uses k0 (typed.Listed brace items comma u) at t s s' h r =
        items-uses k0 items (is_only_text items && is_char_array k0.table t) t s s' h.1 r.1

    items-uses : (k0 : Stage) (all : TypedItems) (text : Bool) (t : TypeId) (s s' : Scopes) → AreItems k0.table all text t s s'
        → AreReadyItems k0 text t all
        → MostIn k0.table (used_by_items k0.table all) (made_by_items all)
    items-uses k0 typed.NoItem text t s s' h r = omega arith
    items-uses k0 (typed.AndItem all offset u i) text t s s' h r =
        both k0.table n (used_by_items k0.table all) (used_by_initialiser k0.table i) (made_by_items all) (made_by_initialiser i)
        (items-uses k0 all text t s h.0 h.1 r.0) (init-uses k0 i (item_place i) u h.0 s' h.2 r.1)

  initialised-uses : (vs : List Named) (home : Home) (i : TypedInitialiser) (at : Place) (t : TypeId) (s s' : Scopes) → IsInitialiser T i at t s s'
      → IsReadyInitialiser (initialised_in home (in_function vs) static) t i → Most (used_by_initialiser T i) (made_by_initialiser i)
  initialised-uses vs (home.Local m) i at t s s' h r = init-uses (in_function vs) i at t s s' h r
  initialised-uses vs home.None i at t s s' h r = init-uses static i at t s s' h r
  initialised-uses vs (home.Static m) i at t s s' h r = init-uses static i at t s s' h r
  initialised-uses vs (home.Known m) i at t s s' h r = init-uses static i at t s s' h r
  initialised-uses vs (home.Parameter m) i at t s s' h r = init-uses static i at t s s' h r

  declarators-uses : (vs : List Named) (file : Bool) (storage : Storage) (base : TypeId) (all : TypedInitDeclarators) (k k' : units.Known)
      → AreDeclarators T file storage base all k k' → AreReadyDeclarators (in_function vs) static all
      → Most (used_by_init_declarators T all) (made_by_init_declarators all)
  declarators-uses vs file storage base typed.NoInitDeclarator k k' h r = omega arith
  declarators-uses vs file storage base (typed.AndPlain all (typed.Declares form t)) k k' h r =
      both T n (used_by_init_declarators T all) (used_by_declarator T Written (typed.Declares form t)) (made_by_init_declarators all)
      (made_by_form form t)
      (declarators-uses vs file storage base all k h.0 h.1 r.0) (object-uses None form base t h.0.scopes h.2.inside h.2.parts r.1 h.2.type)
  declarators-uses vs file storage base (typed.AndInitialised all (typed.Declares form t) at i) k k' h r =
      both T n (used_by_init_declarators T all ++ used_by_declarator T Written (typed.Declares form t)) (used_by_initialiser T i)
      (made_by_init_declarators all ++ made_by_form form t) (made_by_initialiser i)
      (both T n (used_by_init_declarators T all) (used_by_declarator T Written (typed.Declares form t)) (made_by_init_declarators all)
      (made_by_form form t)
      (declarators-uses vs file storage base all k h.0 h.3 r.0)
      (object-uses (size_given (is_char_array T t) i) form base t h.0.scopes h.4.inside h.4.parts r.1 h.4.type))
      (initialised-uses vs (home_of_form form) i at t h.1.scopes h.2 h.5 r.5)

  alone-uses : (all : TypedSpecifiers) (s s' : Scopes) → AreAlone T all s s' → AreReadySpecifiers (unread static) all
      → Most (used_by_specifiers T all) (made_by_specifiers all)
  alone-uses (typed.Specified (typed.AndSpecifier typed.NoSpecifier (typed.Tagged which at name t)) u) s s' h r =
      let z = aggregate-zero T n t r.1 in omega (arith, z)
  alone-uses (typed.Specified typed.NoSpecifier u) s s' h r = specifiers-uses n (unread static) (typed.Specified typed.NoSpecifier u) s s' h r
  alone-uses (typed.Specified (typed.AndSpecifier (typed.AndSpecifier all other) x) u) s s' h r =
      specifiers-uses n (unread static) (typed.Specified (typed.AndSpecifier (typed.AndSpecifier all other) x) u) s s' h r
  alone-uses (typed.Specified (typed.AndSpecifier typed.NoSpecifier x) u) s s' h r =
      specifiers-uses n (unread static) (typed.Specified (typed.AndSpecifier typed.NoSpecifier x) u) s s' h r

  some-uses : (vs : List Named) (file : Bool) (specifiers : TypedSpecifiers) (all : TypedInitDeclarators) (k k' : units.Known)
      → ((s : Scopes) × AreSpecifiers T specifiers k.scopes s × AreDeclarators T file (storage_of specifiers) (specified_type specifiers) all
      (with_scopes k s) k')
      → AreReadySpecifiers (unread static) specifiers → AreReadyDeclarators (in_function vs) static all
      → Most (used_by_specifiers T specifiers ++ used_by_init_declarators T all) (made_by_specifiers specifiers ++ made_by_init_declarators all)
  some-uses vs file specifiers all k k' h q r =
      both T n (used_by_specifiers T specifiers) (used_by_init_declarators T all) (made_by_specifiers specifiers) (made_by_init_declarators all)
      (specifiers-uses n (unread static) specifiers k.scopes h.0 h.1 q)
      (declarators-uses vs file (storage_of specifiers) (specified_type specifiers) all (with_scopes k h.0) k' h.2 r)

  declaration-uses : (vs : List Named) (file : Bool) (d : TypedDeclaration) (k k' : units.Known) → IsDeclaration T file d k k'
      → IsReadyDeclaration (in_function vs) static d
      → Most (used_by_declaration T d) (made_by_declaration d)
  declaration-uses vs file (typed.Declare specifiers typed.NoInitDeclarator) k k' h r =
      both T n (used_by_specifiers T specifiers) [] (made_by_specifiers specifiers) [] (alone-uses specifiers k.scopes h.0 h.1 r.0) (omega arith)
  declaration-uses vs file (typed.Declare specifiers (typed.AndPlain all d)) k k' h r =
      some-uses vs file specifiers (typed.AndPlain all d) k k' h r.0 r.1
  declaration-uses vs file (typed.Declare specifiers (typed.AndInitialised all d at i)) k k' h r =
      some-uses vs file specifiers (typed.AndInitialised all d at i) k k' h r.0 r.1

  dropped-uses : (vs : List Named) (e : Option TypedExpr) (k k' : units.Known) → IsDropped T e k k' → IsReadyOptional (in_function vs) e
      → Most (used_by_optional T e) (made_by_optional e)
  dropped-uses vs None k k' h r = omega arith
  dropped-uses vs (Some e) k k' h r = value-uses n (in_function vs) e k.scopes h.0 h.1 r.0

  tested-uses : (vs : List Named) (e : Option TypedExpr) (k k' : units.Known) → IsTestedOrNone T e k k' → IsReadyTestOrNone (in_function vs) e
      → Most (used_by_optional T e) (made_by_optional e)
  tested-uses vs None k k' h r = omega arith
  tested-uses vs (Some e) k k' h r = value-uses n (in_function vs) e k.scopes h.0 h.1 r.0

  returned-uses : (vs : List Named) (at : Place) (t u : TypeId) (e : Option TypedExpr) (k k' : units.Known) → IsReturned T at t e k k'
      → IsReadyReturn (in_function vs) u e
      → Most (used_by_optional T e) (made_by_optional e)
  returned-uses vs at t u None k k' h r = omega arith
  returned-uses vs at t u (Some e) k k' h r = value-uses n (in_function vs) e k.scopes h.0 h.1 r.0

  mutual
    statement-uses : (vs : List Named) (a a' : Around) (st : TypedStatement) (k k' : units.Known) → IsStatement T a st k k'
        → IsReadyStatement (in_function vs) static a' st
        → Most (used_by_statement T st) (made_by_statement st)
    statement-uses vs a a' (typed.Block brace items) k k' h r = block-uses vs a a' None items (entering_known k) h.0 h.1 r
    statement-uses vs a a' (typed.Express e) k k' h r = value-uses n (in_function vs) e k.scopes h.0 h.1 r.0
    statement-uses vs a a' typed.Empty k k' h r = omega arith
    statement-uses vs a a' (typed.If at paren c s) k k' h r =
        both T n (used_by T c) (used_by_statement T s) (made_by c) (made_by_statement s)
        (value-uses n (in_function vs) c (entering k.scopes) h.2.0 h.2.1 r.0.0) (statement-uses vs a a' s (entering_known h.0) h.1 h.3 r.1)
    statement-uses vs a a' (typed.IfElse at paren c s other) k k' h r =
        both T n (used_by T c ++ used_by_statement T s) (used_by_statement T other) (made_by c ++ made_by_statement s) (made_by_statement other)
        (both T n (used_by T c) (used_by_statement T s) (made_by c) (made_by_statement s)
        (value-uses n (in_function vs) c (entering k.scopes) h.3.0 h.3.1 r.0.0) (statement-uses vs a a' s (entering_known h.0) h.1 h.4 r.1))
        (statement-uses vs a a' other (entering_known (leaving_known h.1)) h.2 h.5 r.2)
    statement-uses vs a a' (typed.Switch at paren e brace items) k k' h r =
        both T n (used_by T e) (used_by_block_items T items) (made_by e) (made_by_block_items items)
        (value-uses n (in_function vs) e (entering k.scopes) h.0 h.2 r.0)
        (block-uses vs (in_a_switch a) (in_a_switch a') (Some (type_of e)) items (entering_known (with_scopes k h.0)) h.1 h.4 r.2)
    statement-uses vs a a' (typed.While at paren c s) k k' h r =
        both T n (used_by T c) (used_by_statement T s) (made_by c) (made_by_statement s)
        (value-uses n (in_function vs) c (entering k.scopes) h.2.0 h.2.1 r.0.0)
        (statement-uses vs (in_a_loop a) (in_a_loop a') s (entering_known h.0) h.1 h.3 r.1)
    statement-uses vs a a' (typed.DoWhile s at paren c) k k' h r =
        both T n (used_by_statement T s) (used_by T c) (made_by_statement s) (made_by c)
        (statement-uses vs (in_a_loop a) (in_a_loop a') s (entering_known (entering_known k)) h.0 h.2 r.0)
        (value-uses n (in_function vs) c (leaving_known h.0).scopes h.3.0 h.3.1 r.1.0)
    statement-uses vs a a' (typed.For at paren x y z s) k k' h r =
        both T n (used_by_optional T x ++ used_by_optional T y ++ used_by_optional T z) (used_by_statement T s)
        (made_by_optional x ++ made_by_optional y ++ made_by_optional z) (made_by_statement s)
        (both T n (used_by_optional T x ++ used_by_optional T y) (used_by_optional T z) (made_by_optional x ++ made_by_optional y)
        (made_by_optional z)
        (both T n (used_by_optional T x) (used_by_optional T y) (made_by_optional x) (made_by_optional y)
        (dropped-uses vs x (entering_known k) h.0 h.4 r.0) (tested-uses vs y h.0 h.1 h.5 r.1)) (dropped-uses vs z h.1 h.2 h.6 r.2))
        (statement-uses vs (in_a_loop a) (in_a_loop a') s (entering_known h.2) h.3 h.7 r.3)
    statement-uses vs a a' (typed.ForDeclaration at paren d y z s) k k' h r =
        both T n (used_by_declaration T d ++ used_by_optional T y ++ used_by_optional T z) (used_by_statement T s)
        (made_by_declaration d ++ made_by_optional y ++ made_by_optional z) (made_by_statement s)
        (both T n (used_by_declaration T d ++ used_by_optional T y) (used_by_optional T z) (made_by_declaration d ++ made_by_optional y)
        (made_by_optional z)
        (both T n (used_by_declaration T d) (used_by_optional T y) (made_by_declaration d) (made_by_optional y)
        (declaration-uses vs false d (entering_known k) h.0 h.4 r.0) (tested-uses vs y h.0 h.1 h.5 r.1)) (dropped-uses vs z h.1 h.2 h.6 r.2))
        (statement-uses vs (in_a_loop a) (in_a_loop a') s (entering_known h.2) h.3 h.7 r.3)
    statement-uses vs a a' (typed.Break at) k k' h r = omega arith
    statement-uses vs a a' (typed.Continue at) k k' h r = omega arith
    statement-uses vs a a' (typed.Return at e) k k' h r = returned-uses vs at a.result a'.result e k k' h r

    block-uses : (vs : List Named) (a a' : Around) (on : Option TypeId) (items : TypedBlockItems) (k k' : units.Known)
        → AreBlockItems T a on items k k'
        → AreReadyBlockItems (in_function vs) static a' on items → Most (used_by_block_items T items) (made_by_block_items items)
    block-uses vs a a' on typed.NoBlockItem k k' h r = omega arith
    block-uses vs a a' on (typed.AndStatement all s) k k' h r =
        both T n (used_by_block_items T all) (used_by_statement T s) (made_by_block_items all) (made_by_statement s)
        (block-uses vs a a' on all k h.0 h.1 r.0) (statement-uses vs a a' s h.0 k' h.2 r.1)
    block-uses vs a a' on (typed.AndDeclaration all d) k k' h r =
        both T n (used_by_block_items T all) (used_by_declaration T d) (made_by_block_items all) (made_by_declaration d)
        (block-uses vs a a' on all k h.0 h.1 r.0) (declaration-uses vs false d h.0 k' h.2 r.1)
    block-uses vs a a' on (typed.AndCase all at e value) k k' h r =
        both T n (used_by_block_items T all) (used_by T e) (made_by_block_items all) (made_by e)
        (block-uses vs a a' on all k h.0 h.2 r.0) (value-uses n (unread static) e h.0.scopes h.1 h.3 r.1)
    block-uses vs a a' on (typed.AndDefault all at) k k' h r = block-uses vs a a' on all k k' h r

  pub unit-uses : (u : TypedTranslationUnit) (k k' : units.Known) → IsUnitTyped T u k k' → AreReadyExternals static u
      → Most (used_by_unit T u) (made_by_unit u)
  unit-uses typed.NoExternal k k' h r = omega arith
  unit-uses (typed.AndExternal u d) k k' h r =
      both T n (used_by_unit T u) (used_by_declaration T d) (made_by_unit u) (made_by_declaration d)
      (unit-uses u k h.0 h.1 r.0) (declaration-uses static.variables true d h.0 k' h.2 r.1)
  unit-uses (typed.AndFunctionBody u specifiers (typed.Declares form t) brace body) k k' h r =
      both T n (used_by_unit T u ++ used_by_specifiers T specifiers ++ used_by_declarator T Written (typed.Declares form t))
      (used_by_block_items T body)
      (made_by_unit u ++ made_by_specifiers specifiers ++ made_by_form form t) (made_by_block_items body)
      (both T n (used_by_unit T u ++ used_by_specifiers T specifiers) (used_by_declarator T Written (typed.Declares form t))
      (made_by_unit u ++ made_by_specifiers specifiers) (made_by_form form t)
      (both T n (used_by_unit T u) (used_by_specifiers T specifiers) (made_by_unit u) (made_by_specifiers specifiers) (unit-uses u k h.0 h.1 r.0)
      (specifiers-uses n (unread static) specifiers h.0.scopes h.2.before h.2.specified r.1))
      (object-uses None form (specified_type specifiers) t h.2.before h.2.declares.inside h.2.declares.parts r.2 h.2.declares.type))
      (block-uses _ (record { result = h.2.result; in_loop = false; breakable = false })
      (record { result = r.4.result; in_loop = false; breakable = false }) None body
      _ h.2.after h.2.statements r.4.body)

-- Each type of the table is used

module _ (T : Table) (n : ℕ) where
  at_most : (t x : TypeId) → t.0 ≡ x.0 → of_shape n (shape_at T t) ≡ of_shape n (shape_at T x)
  at_most t x h = ap (λ (i : ℕ). of_shape n (shape_at T (record { 0 = i }))) h

  pub single : (us : List Use) (a b : ℕ) → AreUses us a b → (t : TypeId) → a ≤ t.0 → t.0 < b → of_shape n (shape_at T t) ≤ uses T n us
  single [] a b h t p q = absurd (omega (arith, h, p, q))
  single (OfSize size ∷ us) a b h t p q = single us a b h.1 t p q
  single (OfMember (Some name) ∷ us) a b h t p q = single us a b h t p q
  single (OfMember None ∷ us) a b h t p q = absurd h
  single (OfType x ∷ us) a b h t p q = elim h.1 [
    | inl u ↦ let k = u.1 in let r = single us h.0 b h.2 t (omega (arith, k, p)) q in omega (arith, r)
    | inr u ↦ elim (eqb_tells t.0 x.0) [
      | inl same ↦ let e = at_most t x same.1 in omega (arith, e)
      | inr other ↦ let k = u.1 in let i = u.0 in let o = other.1 in let r = single us h.0 b h.2 t (omega (arith, k, i, o, p)) q in omega (arith, r)
    ]
  ]

  pub two : (us : List Use) (a b : ℕ) → AreUses us a b → (t v : TypeId) → t.0 ≢ v.0 → a ≤ t.0 → t.0 < b → a ≤ v.0 → v.0 < b
      → of_shape n (shape_at T t) + of_shape n (shape_at T v) ≤ uses T n us
  two [] a b h t v d p q r s = absurd (omega (arith, h, p, q))
  two (OfSize size ∷ us) a b h t v d p q r s = two us a b h.1 t v d p q r s
  two (OfMember (Some name) ∷ us) a b h t v d p q r s = two us a b h t v d p q r s
  two (OfMember None ∷ us) a b h t v d p q r s = absurd h
  two (OfType x ∷ us) a b h t v d p q r s = elim h.1 [
    | inl u ↦ let k = u.1 in let w = two us h.0 b h.2 t v d (omega (arith, k, p)) q (omega (arith, k, r)) s in omega (arith, w)
    | inr u ↦ let k = u.1 in let i = u.0 in elim (eqb_tells t.0 x.0) [
      | inl same ↦ let g =
          same.1 in let e = at_most t x same.1 in let w = single us h.0 b h.2 v (omega (arith, k, i, g, d, r)) s in omega (arith, e, w)
      | inr other ↦ let o = other.1 in elim (eqb_tells v.0 x.0) [
        | inl same ↦ let e = at_most v x same.1 in let w = single us h.0 b h.2 t (omega (arith, k, i, o, p)) q in omega (arith, e, w)
        | inr also ↦ let l = also.1 in let w = two us h.0 b h.2 t v d (omega (arith, k, i, o, p)) q (omega (arith, k, i, l, r)) s in omega (arith, w)
      ]
    ]
  ]
