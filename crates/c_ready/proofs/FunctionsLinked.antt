-- A name that is declared as a function has one type (C99 6.2.7): that of its first declaration, or the same type.
use Rattle.std.specs.List.{All}
use Rattle.std.proofs.Common.{◌≡◌, Bool, true, false, List, [], ◌∷◌, ◌++◌, Option, Some, None, refl, ap, sym, subst, ◌∙◌, inl, inr, if◌then◌else◌, true≢false}
use Rattle.std.proofs.lemmas.List.Elements.{All-nil, All-cons, All-append, All-weaker, All-contains}
use Rattle.cc_base.specs.declared.place.Place.{Place}
use Rattle.cc_base.specs.declared.number.TypeId.{TypeId}
use Rattle.c_types.specs.declared.shape.TypeShape.{TypeShape}
use Rattle.c_types.specs.declared.shape.TypeShape.TheVariants as shape
use Rattle.c_types.specs.Table as types
use Rattle.c_types.specs.Table.{Table, is_function, shape_at}
use Rattle.c_tree.specs.declared.leaf.Identifier.{Identifier}
use Rattle.c_tree.specs.declared.typed_word.Home.{Home}
use Rattle.c_tree.specs.declared.typed_word.Home.TheVariants as home
use Rattle.c_tree.specs.TypedTree as typed
use Rattle.c_tree.specs.TypedTree.{TypedExpr, TypedForm, TypedSpecifiers, TypedDeclarator, TypedInitialiser, TypedInitDeclarators, TypedDeclaration, TypedStatement, TypedBlockItems, TypedTranslationUnit}
use Rattle.c_tree.specs.TypedParts.{declared_type, home_of_form, name_of, name_of_form, specified_type, type_of}
use Rattle.c_typing.specs.declared.declared.Declared.{Declared}
use Rattle.c_typing.specs.declared.declared.Declared.TheVariants as declared
use Rattle.c_typing.specs.Shapes.{is_function_shape}
use Rattle.c_typing.specs.Scopes.{Name, entry_of}
use Rattle.c_typing.specs.Declarators.{Outermost, name_bytes}
use Rattle.c_unit_typing.specs.Units.{Known, Storage, Unstored, AsTypedef, AsExtern, AsStatic, AsAutomatic, storage_of, AgreesWith, unless_linked, IsLinked, IsLinkedObject, IsStaticOrLocal, IsObjectDeclared, IsOrdinaryDeclared, IsNameDeclared, IsDeclarator, IsDefinedOnce, IsInitialised, AreDeclarators, IsDeclaration, Around, in_a_loop, in_a_switch, IsDropped, IsTestedOrNone, IsReturned, entering_known, leaving_known, IsStatement, AreBlockItems, IsUnitTyped}
use Rattle.c_ready.specs.Ready.{IsAlike, AreAlike, IsFunctionDeclared, static_stage}
use Rattle.c_ready.proofs.ReadyNames.{entry-kept, entry-new}
use Rattle.c_ready.proofs.Typedefs.{is_for_types, types-are-typedefs, plain-storage, not-typedef}
use Rattle.src_machine.specs.Names.{is_typedef, declarators_of, declarators_in_declaration, declarators_in_statement, declarators_in_items, declarators_in}

-- Names with linkage

abbrev pub Linked : Type 0
Linked = List (Name × Declared)

-- the name stands there as a function of this type, or of the same type
abbrev pub IsFunctionLinked : Table → Linked → Name → TypeId → Type 0
IsFunctionLinked T linked name t = (first : TypeId) × (entry_of linked name ≡ Some (declared.Function first)) × IsAlike T first t

module _ (T : Table) where
  -- a declarator of a function type names such a function
  abbrev pub IsLinkedDeclarator : Linked → TypedDeclarator → Type 0
  IsLinkedDeclarator linked d =
      is_function_shape (shape_at T (declared_type d)) ≡ true → (id : Identifier) → name_of d ≡ Some id
      → IsFunctionLinked T linked id.bytes (declared_type d)

  abbrev Grows : Linked → Linked → Type 0
  Grows l m = (name : Name) (x : Declared) → entry_of l name ≡ Some x → entry_of m name ≡ Some x

  -- what was linked stays, and the declarators' functions are linked then
  pub record AreLinked (l m : Linked) (ds : List TypedDeclarator) : Type 0 where
    pub grows : Grows l m
    pub told : All (IsLinkedDeclarator m) ds

  stays-linked : (l m : Linked) → Grows l m → (d : TypedDeclarator) → IsLinkedDeclarator l d → IsLinkedDeclarator m d
  stays-linked l m g d h q id named = let f = h q id named in (f.0, g id.bytes (declared.Function f.0) f.1, f.2)

  seq : (l m n : Linked) (xs ys : List TypedDeclarator) → AreLinked l m xs → AreLinked m n ys → AreLinked l n (xs ++ ys)
  seq l m n xs ys p q = record {
    grows = λ name x h. q.grows name x (p.grows name x h);
    told =
        All-append (IsLinkedDeclarator n) xs ys
        (All-weaker (IsLinkedDeclarator m) (IsLinkedDeclarator n) (stays-linked m n q.grows) xs p.told) q.told;
  }

  quiet : (l m : Linked) → m ≡ l → AreLinked l m []
  quiet l m e = record {
    grows = λ name x h. ap (λ (k : Linked). entry_of k name) e ∙ h;
    told = All-nil (IsLinkedDeclarator m);
  }

  grown : (l m : Linked) (xs : List TypedDeclarator) → AreLinked l m xs → AreLinked l m []
  grown l m xs h = record { grows = h.grows; told = All-nil (IsLinkedDeclarator m) }

  then-same : (l m n : Linked) (xs : List TypedDeclarator) → AreLinked l m xs → n ≡ m → AreLinked l n xs
  then-same l m n xs h e = subst (λ (k : Linked). AreLinked l k xs) (sym e) h

  first-same : (l m n : Linked) (xs : List TypedDeclarator) → m ≡ l → AreLinked m n xs → AreLinked l n xs
  first-same l m n xs e h = subst (λ (k : Linked). AreLinked k n xs) e h

  -- Declarators

  link-grows : (b : Option Declared) (name : Name) (what : Declared) (l : Linked) → Grows l (unless_linked b name what l)
  link-grows None name what l other x h = entry-kept l (name, what) other x h
  link-grows (Some y) name what l other x h = h

  linked-grows : (name : Name) (what : Declared) (k m : Known) → IsLinked T name what k m → Grows k.linked m.linked
  linked-grows name what k m h other x g =
      ap (λ (n : Known). entry_of n.linked other) h.after ∙ link-grows (entry_of k.linked name) name what k.linked other x g

  function-linked : (b : Option Declared) (name : Name) (t : TypeId) (l : Linked) → entry_of l name ≡ b → AgreesWith T b (declared.Function t)
      → IsFunctionLinked T (unless_linked b name (declared.Function t) l) name t
  function-linked None name t l e h = (t, entry-new l name (declared.Function t) e, inl refl)
  function-linked (Some (declared.Function first)) name t l e h = (first, e, inr h)
  function-linked (Some (declared.Object u n)) name t l e h = absurd h
  function-linked (Some (declared.Typedef u)) name t l e h = absurd h
  function-linked (Some (declared.Enumerator z)) name t l e h = absurd h

  function-told : (name : Name) (t : TypeId) (k m : Known) → IsLinked T name (declared.Function t) k m → IsFunctionLinked T m.linked name t
  function-told name t k m h =
      subst (λ (n : Known). IsFunctionLinked T n.linked name t) (sym h.after)
      (function-linked (entry_of k.linked name) name t k.linked refl h.linked_agrees)

  abbrev linked_of : Known → Linked
  linked_of k = k.linked

  object-grows : (name : Name) (h : Home) (t : TypeId) (k m : Known) → IsLinkedObject T name h t k m → Grows k.linked m.linked
  object-grows name h t k m o other x g =
      ap (λ (n : Known). entry_of n.linked other) o.after ∙ linked-grows name (declared.Object t o.node) k o.middle o.linked other x g

  same-grows : (l m : Linked) → m ≡ l → Grows l m
  same-grows l m e name x h = ap (λ (k : Linked). entry_of k name) e ∙ h

  local-grows : (storage : Storage) (h : Home) (name : Name) (t : TypeId) (k m : Known) → IsStaticOrLocal T storage h name t k m
      → Grows k.linked m.linked
  local-grows AsStatic (home.Static n) name t k m o = same-grows k.linked m.linked (ap linked_of o.2)
  local-grows Unstored (home.Local n) name t k m o = same-grows k.linked m.linked (ap linked_of o.2)
  local-grows AsAutomatic (home.Local n) name t k m o = same-grows k.linked m.linked (ap linked_of o.2)
  local-grows storage h name t k m o = absurd o

  objects-grow : (file : Bool) (storage : Storage) (h : Home) (name : Name) (t : TypeId) (k m : Known) → IsObjectDeclared T file storage h name t k m
      → Grows k.linked m.linked
  objects-grow true storage h name t k m o = object-grows name h t k m o
  objects-grow false AsExtern h name t k m o = object-grows name h t k m o
  objects-grow false AsStatic h name t k m o = local-grows AsStatic h name t k m o
  objects-grow false AsTypedef h name t k m o = local-grows AsTypedef h name t k m o
  objects-grow false AsAutomatic h name t k m o = local-grows AsAutomatic h name t k m o
  objects-grow false Unstored h name t k m o = local-grows Unstored h name t k m o

  -- what a declared name adds; a typedef names no function
  abbrev Adds : Storage → Name → TypeId → Linked → Linked → Type 0
  Adds storage name t l m =
      Grows l m × (is_for_types storage ≡ false → is_function_shape (shape_at T t) ≡ true → IsFunctionLinked T m name t)

  ordinary-adds : (b : Bool) (file : Bool) (storage : Storage) (h : Home) (name : Name) (t : TypeId) (k m : Known)
      → is_function_shape (shape_at T t) ≡ b → IsOrdinaryDeclared b T file storage h name t k m → Adds storage name t k.linked m.linked
  ordinary-adds true file storage home.None name t k m e o = (linked-grows name (declared.Function t) k m o, (λ p q. function-told name t k m o))
  ordinary-adds true file storage (home.Static n) name t k m e o = absurd o
  ordinary-adds true file storage (home.Local n) name t k m e o = absurd o
  ordinary-adds true file storage (home.Parameter n) name t k m e o = absurd o
  ordinary-adds true file storage (home.Known n) name t k m e o = absurd o
  ordinary-adds false file storage h name t k m e o = (objects-grow file storage h name t k m o, (λ p q. absurd (true≢false (sym q ∙ e))))

  typedef-grows : (h : Home) (name : Name) (t : TypeId) (file : Bool) (k m : Known) → IsNameDeclared T file AsTypedef h name t k m
      → Grows k.linked m.linked
  typedef-grows home.None name t file k m o = same-grows k.linked m.linked (ap linked_of o.2)
  typedef-grows (home.Static n) name t file k m o = absurd o
  typedef-grows (home.Local n) name t file k m o = absurd o
  typedef-grows (home.Parameter n) name t file k m o = absurd o
  typedef-grows (home.Known n) name t file k m o = absurd o

  name-adds : (storage : Storage) (file : Bool) (h : Home) (name : Name) (t : TypeId) (k m : Known) → IsNameDeclared T file storage h name t k m
      → Adds storage name t k.linked m.linked
  name-adds AsTypedef file h name t k m o = (typedef-grows h name t file k m o, (λ p q. absurd (true≢false p)))
  name-adds AsExtern file h name t k m o = ordinary-adds (is_function_shape (shape_at T t)) file AsExtern h name t k m refl o
  name-adds AsStatic file h name t k m o = ordinary-adds (is_function_shape (shape_at T t)) file AsStatic h name t k m refl o
  name-adds AsAutomatic file h name t k m o = ordinary-adds (is_function_shape (shape_at T t)) file AsAutomatic h name t k m refl o
  name-adds Unstored file h name t k m o = ordinary-adds (is_function_shape (shape_at T t)) file Unstored h name t k m refl o

  some-bytes : (a b : Option Identifier) (x y : Identifier) → a ≡ Some x → a ≡ Some y → x.bytes ≡ y.bytes
  some-bytes a b x y h g = ap name_bytes (sym h ∙ g)

  declarator-linked : (file : Bool) (storage : Storage) → is_for_types storage ≡ false → (base : TypeId) (o : Outermost) (form : TypedForm) (t : TypeId)
      → (k m : Known) → IsDeclarator T file storage base o form t k m → AreLinked k.linked m.linked (typed.Declares form t ∷ [])
  declarator-linked file storage plain base o form t k m d =
      let adds = name-adds storage file (home_of_form form) d.name.bytes t _ m d.declares in
      record {
        grows = adds.0;
        told =
            All-cons (IsLinkedDeclarator m.linked) (typed.Declares form t) []
            (λ q id named. subst (λ (n : Name). IsFunctionLinked T m.linked n t) (some-bytes (name_of_form form) None d.name id d.named named)
            (adds.1 plain q)) (All-nil (IsLinkedDeclarator m.linked));
      }

  declarator-grows : (file : Bool) (storage : Storage) (base : TypeId) (o : Outermost) (form : TypedForm) (t : TypeId)
      → (k m : Known) → IsDeclarator T file storage base o form t k m → Grows k.linked m.linked
  declarator-grows file storage base o form t k m d = (name-adds storage file (home_of_form form) d.name.bytes t _ m d.declares).0

  -- an initialiser links nothing
  once-same : (b : Bool) (name : Name) (k m : Known) → IsDefinedOnce b name k m → m.linked ≡ k.linked
  once-same true name k m h = ap linked_of h.1
  once-same false name k m h = ap linked_of h

  initialised-same : (h : Home) (k : Known) (name : Name) (i : TypedInitialiser) (m : Known) → IsInitialised T h k name i m → m.linked ≡ k.linked
  initialised-same (home.Local n) k name i m o = ap linked_of o
  initialised-same (home.Static n) k name i m o = once-same _ name k m o.1
  initialised-same (home.Known n) k name i m o = once-same _ name k m o.1
  initialised-same (home.Parameter n) k name i m o = absurd o
  initialised-same home.None k name i m o = absurd o

  declarators-linked : (file : Bool) (storage : Storage) → is_for_types storage ≡ false → (base : TypeId) (all : TypedInitDeclarators) (k m : Known)
      → AreDeclarators T file storage base all k m → AreLinked k.linked m.linked (declarators_of all)
  declarators-linked file storage plain base typed.NoInitDeclarator k m h = quiet k.linked m.linked (ap linked_of h)
  declarators-linked file storage plain base (typed.AndPlain all (typed.Declares form t)) k m h =
      seq k.linked h.0.linked m.linked (declarators_of all) (typed.Declares form t ∷ []) (declarators-linked file storage plain base all k h.0 h.1)
      (declarator-linked file storage plain base _ form t h.0 m h.2)
  declarators-linked file storage plain base (typed.AndInitialised all (typed.Declares form t) at i) k m h =
      seq k.linked h.0.linked m.linked (declarators_of all) (typed.Declares form t ∷ []) (declarators-linked file storage plain base all k h.0 h.3)
      (then-same h.0.linked h.1.linked m.linked (typed.Declares form t ∷ [])
      (declarator-linked file storage plain base _ form t h.0 h.1 h.4) (initialised-same (home_of_form form) _ _ i m h.6))

  declarators-grow : (file : Bool) (storage : Storage) (base : TypeId) (all : TypedInitDeclarators) (k m : Known)
      → AreDeclarators T file storage base all k m → Grows k.linked m.linked
  declarators-grow file storage base typed.NoInitDeclarator k m h = same-grows k.linked m.linked (ap linked_of h)
  declarators-grow file storage base (typed.AndPlain all (typed.Declares form t)) k m h =
      λ name x g. declarator-grows file storage base _ form t h.0 m h.2 name x (declarators-grow file storage base all k h.0 h.1 name x g)
  declarators-grow file storage base (typed.AndInitialised all (typed.Declares form t) at i) k m h =
      λ name x g. same-grows h.1.linked m.linked (initialised-same (home_of_form form) _ _ i m h.6) name x
      (declarator-grows file storage base _ form t h.0 h.1 h.4 name x (declarators-grow file storage base all k h.0 h.3 name x g))

  declared-linked : (file : Bool) (specifiers : TypedSpecifiers) (base : TypeId) (all : TypedInitDeclarators) (k m : Known)
      → AreDeclarators T file (storage_of specifiers) base all k m
      → AreLinked k.linked m.linked (declarators_in_declaration (typed.Declare specifiers all))
  declared-linked file specifiers base all k m h = by (is_typedef specifiers) refl
    where
      by : (b : Bool) → is_typedef specifiers ≡ b → AreLinked k.linked m.linked (if b then [] else declarators_of all)
      by true e = record { grows = declarators-grow file (storage_of specifiers) base all k m h; told = All-nil (IsLinkedDeclarator m.linked) }
      by false e =
          declarators-linked file (storage_of specifiers)
          (not-typedef (is_for_types (storage_of specifiers)) (is_typedef specifiers) (types-are-typedefs specifiers) e) base all k m h

  -- a declaration without declarators
  alone-linked : (specifiers : TypedSpecifiers) (k m : Known) → m.linked ≡ k.linked
      → AreLinked k.linked m.linked (declarators_in_declaration (typed.Declare specifiers typed.NoInitDeclarator))
  alone-linked specifiers k m e = by (is_typedef specifiers)
    where
      by : (b : Bool) → AreLinked k.linked m.linked (if b then [] else [])
      by true = quiet k.linked m.linked e
      by false = quiet k.linked m.linked e

  declaration-linked : (file : Bool) (d : TypedDeclaration) (k m : Known) → IsDeclaration T file d k m
      → AreLinked k.linked m.linked (declarators_in_declaration d)
  declaration-linked file (typed.Declare specifiers typed.NoInitDeclarator) k m h = alone-linked specifiers k m (ap linked_of h.2)
  declaration-linked file (typed.Declare specifiers (typed.AndPlain all d)) k m h =
      declared-linked file specifiers (specified_type specifiers) (typed.AndPlain all d) _ m h.2
  declaration-linked file (typed.Declare specifiers (typed.AndInitialised all d at i)) k m h =
      declared-linked file specifiers (specified_type specifiers) (typed.AndInitialised all d at i) _ m h.2

  -- Statements

  dropped-same : (e : Option TypedExpr) (k m : Known) → IsDropped T e k m → m.linked ≡ k.linked
  dropped-same None k m h = ap linked_of h
  dropped-same (Some e) k m h = ap linked_of h.3

  tested-same : (e : Option TypedExpr) (k m : Known) → IsTestedOrNone T e k m → m.linked ≡ k.linked
  tested-same None k m h = ap linked_of h
  tested-same (Some e) k m h = ap linked_of h.3

  returned-same : (at : Place) (t : TypeId) (e : Option TypedExpr) (k m : Known) → IsReturned T at t e k m → m.linked ≡ k.linked
  returned-same at t None k m h = ap linked_of h.0
  returned-same at t (Some e) k m h = ap linked_of h.3

  mutual
    statement-linked : (a : Around) (s : TypedStatement) (k m : Known) → IsStatement T a s k m
        → AreLinked k.linked m.linked (declarators_in_statement s)
    statement-linked a (typed.Block brace items) k m h =
        then-same k.linked h.0.linked m.linked (declarators_in_items items) (items-linked a None items _ h.0 h.1) (ap linked_of h.2)
    statement-linked a (typed.Express e) k m h = quiet k.linked m.linked (ap linked_of h.3)
    statement-linked a typed.Empty k m h = quiet k.linked m.linked (ap linked_of h)
    statement-linked a (typed.If at paren c s) k m h =
        first-same k.linked h.0.linked m.linked (declarators_in_statement s) (ap linked_of h.2.3)
        (then-same h.0.linked h.1.linked m.linked (declarators_in_statement s) (statement-linked a s (entering_known h.0) h.1 h.3) (ap linked_of h.4))
    statement-linked a (typed.IfElse at paren c s r) k m h =
        first-same k.linked h.0.linked m.linked (declarators_in_statement s ++ declarators_in_statement r) (ap linked_of h.3.3)
        (then-same h.0.linked h.2.linked m.linked (declarators_in_statement s ++ declarators_in_statement r)
        (seq h.0.linked h.1.linked h.2.linked (declarators_in_statement s) (declarators_in_statement r) (statement-linked a s (entering_known h.0) h.1 h.4)
        (statement-linked a r (entering_known (leaving_known h.1)) h.2 h.5)) (ap linked_of h.6))
    statement-linked a (typed.Switch at paren e brace items) k m h =
        then-same k.linked h.1.linked m.linked (declarators_in_items items) (items-linked (in_a_switch a) (Some (type_of e)) items _ h.1 h.4)
        (ap linked_of h.5)
    statement-linked a (typed.While at paren c s) k m h =
        first-same k.linked h.0.linked m.linked (declarators_in_statement s) (ap linked_of h.2.3)
        (then-same h.0.linked h.1.linked m.linked (declarators_in_statement s) (statement-linked (in_a_loop a) s (entering_known h.0) h.1 h.3)
        (ap linked_of h.4))
    statement-linked a (typed.DoWhile s at paren c) k m h =
        then-same k.linked h.0.linked m.linked (declarators_in_statement s) (statement-linked (in_a_loop a) s (entering_known (entering_known k)) h.0 h.2)
        (ap linked_of h.4 ∙ ap linked_of h.3.3)
    statement-linked a (typed.For at paren x y z s) k m h =
        first-same k.linked h.2.linked m.linked (declarators_in_statement s)
        (dropped-same z h.1 h.2 h.6 ∙ (tested-same y h.0 h.1 h.5 ∙ dropped-same x (entering_known k) h.0 h.4))
        (then-same h.2.linked h.3.linked m.linked (declarators_in_statement s) (statement-linked (in_a_loop a) s (entering_known h.2) h.3 h.7)
        (ap linked_of h.8))
    statement-linked a (typed.ForDeclaration at paren d y z s) k m h =
        then-same k.linked h.3.linked m.linked (declarators_in_declaration d ++ declarators_in_statement s)
        (seq k.linked h.0.linked h.3.linked (declarators_in_declaration d) (declarators_in_statement s) (declaration-linked false d _ h.0 h.4)
        (first-same h.0.linked h.2.linked h.3.linked (declarators_in_statement s)
        (dropped-same z h.1 h.2 h.6 ∙ tested-same y h.0 h.1 h.5) (statement-linked (in_a_loop a) s (entering_known h.2) h.3 h.7))) (ap linked_of h.8)
    statement-linked a (typed.Break at) k m h = quiet k.linked m.linked (ap linked_of h.0)
    statement-linked a (typed.Continue at) k m h = quiet k.linked m.linked (ap linked_of h.0)
    statement-linked a (typed.Return at e) k m h = quiet k.linked m.linked (returned-same at a.result e k m h)

    items-linked : (a : Around) (on : Option TypeId) (items : TypedBlockItems) (k m : Known) → AreBlockItems T a on items k m
        → AreLinked k.linked m.linked (declarators_in_items items)
    items-linked a on typed.NoBlockItem k m h = quiet k.linked m.linked (ap linked_of h)
    items-linked a on (typed.AndStatement all s) k m h =
        seq k.linked h.0.linked m.linked (declarators_in_items all) (declarators_in_statement s) (items-linked a on all k h.0 h.1)
        (statement-linked a s h.0 m h.2)
    items-linked a on (typed.AndDeclaration all d) k m h =
        seq k.linked h.0.linked m.linked (declarators_in_items all) (declarators_in_declaration d) (items-linked a on all k h.0 h.1)
        (declaration-linked false d h.0 m h.2)
    items-linked a on (typed.AndCase all at e value) k m h =
        then-same k.linked h.0.linked m.linked (declarators_in_items all) (items-linked a on all k h.0 h.2) (ap linked_of h.5)
    items-linked a on (typed.AndDefault all at) k m h = items-linked a on all k m h

  pub unit-linked : (u : TypedTranslationUnit) (k m : Known) → IsUnitTyped T u k m → AreLinked k.linked m.linked (declarators_in u)
  unit-linked typed.NoExternal k m h = quiet k.linked m.linked (ap linked_of h)
  unit-linked (typed.AndExternal u d) k m h =
      seq k.linked h.0.linked m.linked (declarators_in u) (declarators_in_declaration d) (unit-linked u k h.0 h.1)
      (declaration-linked true d h.0 m h.2)
  unit-linked (typed.AndFunctionBody u specifiers (typed.Declares form t) brace body) k m h =
      seq k.linked h.0.linked m.linked (declarators_in u) (typed.Declares form t ∷ declarators_in_items body) (unit-linked u k h.0 h.1)
      (seq h.0.linked h.2.declared.linked m.linked (typed.Declares form t ∷ []) (declarators_in_items body)
      (declarator-linked true (storage_of specifiers) (plain-storage (storage_of specifiers) h.2.no_typedef) (specified_type specifiers) _ form t _
      h.2.declared h.2.declares)
      (then-same h.2.declared.linked h.2.after.linked m.linked (declarators_in_items body)
      (items-linked (record { result = h.2.result; in_loop = false; breakable = false }) None body _ h.2.after h.2.statements)
      (ap linked_of h.2.leaves)))

-- Two declarators of one function

function-shapes : (x : TypeShape) → types.is_function_shape x ≡ true → is_function_shape x ≡ true
function-shapes (shape.Function ps r) h = refl
function-shapes shape.Void h = absurd (true≢false (sym h))
function-shapes (shape.Integer a s) h = absurd (true≢false (sym h))
function-shapes (shape.Pointer n t) h = absurd (true≢false (sym h))
function-shapes (shape.Array t n) h = absurd (true≢false (sym h))
function-shapes (shape.Struct n) h = absurd (true≢false (sym h))
function-shapes (shape.Union n) h = absurd (true≢false (sym h))

function_type : Option Declared → TypeId → TypeId
function_type (Some (declared.Function t)) u = t
function_type other u = u

same-function : (t u : TypeId) → Some (declared.Function t) ≡ Some (declared.Function u) → t ≡ u
unfolding function_type
same-function t u h = ap (λ (x : Option Declared). function_type x t) h

module _ (T : Table) (u : TypedTranslationUnit) (before after : Known) (typed_ : IsUnitTyped T u before after) where
  -- the type that a name has in the list of names with linkage
  function-first : (name : Name) (t : TypeId) → IsFunctionDeclared (static_stage T u) name t → is_function T t ≡ true
      → IsFunctionLinked T after.linked name t
  function-first name t (d, there, (id, named, bytes), type) h =
      let linked = All-contains (IsLinkedDeclarator T after.linked) (declarators_in u) d (unit-linked T u before after typed_).told there in
      let function = function-shapes (shape_at T (declared_type d)) (ap (λ (x : TypeId). is_function T x) type ∙ h) in
      subst (λ (x : TypeId). IsFunctionLinked T after.linked name x) type
      (subst (λ (n : Name). IsFunctionLinked T after.linked n (declared_type d)) bytes (linked function id named))

  pub functions-alike : (name : Name) (t v : TypeId) → IsFunctionDeclared (static_stage T u) name t → IsFunctionDeclared (static_stage T u) name v
      → is_function T t ≡ true → is_function T v ≡ true → AreAlike T t v
  functions-alike name t v d e h g =
      let x = function-first name t d h in
      let y = function-first name v e g in
      let one : y.0 ≡ x.0 = same-function y.0 x.0 (sym y.1 ∙ x.1) in
      (x.0, x.2, subst (λ (f : TypeId). IsAlike T f v) one y.2)
