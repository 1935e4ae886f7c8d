-- An initialiser defines the name of what has linkage, once.
use Rattle.std.proofs.Common.{◌≡◌, Bool, true, false, List, [], ◌∷◌, ◌++◌, Option, Some, None, refl, ap, sym, ◌∙◌, if◌then◌else◌}
use Rattle.cc_base.specs.declared.number.NodeId.{NodeId}
use Rattle.cc_base.specs.declared.number.TypeId.{TypeId}
use Rattle.c_types.specs.Table.{Table, shape_at}
use Rattle.c_tree.specs.declared.typed_word.Home.{Home}
use Rattle.c_tree.specs.declared.typed_word.Home.TheVariants as home
use Rattle.c_tree.specs.TypedTree.{TypedInitialiser}
use Rattle.c_typing.specs.declared.declared.Declared.{Declared}
use Rattle.c_typing.specs.declared.declared.Declared.TheVariants as declared
use Rattle.c_typing.specs.Scopes.{Name, entry_of}
use Rattle.c_typing.specs.Shapes.{is_function_shape}
use Rattle.c_typing_unique.proofs.Shapes.{no_true}
use Rattle.c_unit_typing.specs.DeclarationJudging.{is_linked_object, is_linked_by}
use Rattle.c_unit_typing.specs.Initialisers.{is_constant_initialiser}
use Rattle.c_unit_typing.specs.Linkage.{with_name}
use Rattle.c_unit_typing.specs.Units.{Known, Storage, Unstored, AsTypedef, AsExtern, AsStatic, AsAutomatic, is_one_of, is_linked_home, unless_linked, IsLinkedHome, IsLinkedObject, IsObjectDeclared, IsOrdinaryDeclared, IsFunctionDeclared, IsTypedefDeclared, IsNameDeclared, IsDefinedOnce, IsInitialised}
use Rattle.c_unit_typing.specs.UnitRefusals.{is_lasting}
use Rattle.c_unit_typing.proofs.DeclaredNames.{is_typedef}
use Rattle.c_unit_typing.proofs.NameSteps.{entry-own}
use Rattle.c_unit_given.proofs.NameRules.{IsObjectHome, equal-numbers}

-- what an initialiser adds to the names that are defined
abbrev pub defining_known : Home → Name → Known → Known
defining_known h name k = record k { defined = if is_linked_by (entry_of k.linked name) h then with_name name k.defined else k.defined }

defined_once : (b : Bool) (name : Name) (k k' : Known) → IsDefinedOnce b name k k' → record k { defined = if b then with_name name k.defined else k.defined } ≡ k'
defined_once true name k k' h =
    ap (λ (f : Bool). record k { defined = if f then k.defined else k.defined ++ name ∷ [] }) h.0 ∙ sym h.1
defined_once false name k k' h = sym h

pub defines : (T : Table) (h : Home) (k : Known) (name : Name) (i : TypedInitialiser) (k' : Known) → IsInitialised T h k name i k' → defining_known h name k ≡ k'
defines T (home.Local n) k name i k' h = sym h
defines T (home.Static n) k name i k' h = defined_once (is_linked_home (entry_of k.linked name) n) name k k' h.1
defines T (home.Known n) k name i k' h = defined_once (is_linked_home (entry_of k.linked name) n) name k k' h.1
defines T home.None k name i k' h = absurd h
defines T (home.Parameter n) k name i k' h = absurd h

pub object-home : (T : Table) (h : Home) (k : Known) (name : Name) (i : TypedInitialiser) (k' : Known) → IsInitialised T h k name i k' → IsObjectHome h
object-home T (home.Local n) k name i k' h = tt
object-home T (home.Static n) k name i k' h = tt
object-home T (home.Known n) k name i k' h = tt
object-home T home.None k name i k' h = absurd h
object-home T (home.Parameter n) k name i k' h = absurd h

-- the home is that of the name with linkage
abbrev IsFoundAt : Option Declared → Home → Type 0
IsFoundAt o (home.Static n) = is_linked_home o n ≡ true
IsFoundAt o (home.Known n) = is_linked_home o n ≡ true
IsFoundAt o h = ⊥

module _ (T : Table) (name : Name) (t : TypeId) (k k' : Known) where
  linked_after : (h : Home) (d : IsLinkedObject T name h t k k') → k'.linked ≡ unless_linked (entry_of k.linked name) name (declared.Object t d.node) k.linked
  linked_after h d = ap (λ (l : Known). l.linked) d.after ∙ ap (λ (l : Known). l.linked) d.linked.after

  found_after : (first : Option Declared) (h : Home) (d : IsLinkedObject T name h t k k') → entry_of k.linked name ≡ first → IsLinkedHome first h d.node → IsFoundAt (entry_of k'.linked name) h
  found_after (Some (declared.Object u n)) (home.Known m) d q l =
      let linked : k'.linked ≡ k.linked = linked_after (home.Known m) d ∙ ap (λ (o : Option Declared). unless_linked o name (declared.Object t d.node) k.linked) q in
      ap (λ (o : Option Declared). is_linked_home o m) (ap (λ (all : List _). entry_of all name) linked ∙ q) ∙ equal-numbers n m l.0
  found_after None (home.Static n) d q l =
      let linked : k'.linked ≡ k.linked ++ (name, declared.Object t d.node) ∷ [] =
      linked_after (home.Static n) d ∙ ap (λ (o : Option Declared). unless_linked o name (declared.Object t d.node) k.linked) q in
      ap (λ (o : Option Declared). is_linked_home o n) (ap (λ (all : List _). entry_of all name) linked ∙ entry-own k.linked name (declared.Object t d.node) q) ∙ equal-numbers d.node n (sym l)
  found_after first h d q l = absurd l

  -- what has linkage was not defined before its initialiser
  not_defined : (h : Home) (n : Known) (i : TypedInitialiser) (k'' : Known) → n.linked ≡ k'.linked → n.defined ≡ k.defined → IsFoundAt (entry_of k'.linked name) h → IsInitialised T h n name i k''
      → is_one_of k.defined name ≡ false
  not_defined (home.Static m) n i k'' l e f h = by (is_linked_home (entry_of n.linked name) m) (ap (λ (all : List _). is_linked_home (entry_of all name) m) l ∙ f) h.1
    where
      by : (b : Bool) → b ≡ true → IsDefinedOnce b name n k'' → is_one_of k.defined name ≡ false
      by true q g = ap (λ (names : List Name). is_one_of names name) (sym e) ∙ g.0
      by false q g = no_true q
  not_defined (home.Known m) n i k'' l e f h = by (is_linked_home (entry_of n.linked name) m) (ap (λ (all : List _). is_linked_home (entry_of all name) m) l ∙ f) h.1
    where
      by : (b : Bool) → b ≡ true → IsDefinedOnce b name n k'' → is_one_of k.defined name ≡ false
      by true q g = ap (λ (names : List Name). is_one_of names name) (sym e) ∙ g.0
      by false q g = no_true q
  not_defined (home.Local m) n i k'' l e f h = absurd f
  not_defined home.None n i k'' l e f h = absurd f
  not_defined (home.Parameter m) n i k'' l e f h = absurd f

  module _ (h : Home) (n : Known) (i : TypedInitialiser) (k'' : Known) (l : n.linked ≡ k'.linked) (e : n.defined ≡ k'.defined) (g : IsInitialised T h n name i k'') where
    linked_once : IsLinkedObject T name h t k k' → is_one_of k.defined name ≡ false
    linked_once d =
        not_defined h n i k'' l (e ∙ ap (λ (x : Known). x.defined) d.after ∙ ap (λ (x : Known). x.defined) d.linked.after) (found_after (entry_of k.linked name) h d refl d.home) g

    object_once : (file : Bool) (storage : Storage) → is_typedef storage ≡ false → IsObjectDeclared T file storage h name t k k' → is_linked_object file storage ≡ true → is_one_of k.defined name ≡ false
    object_once file AsTypedef q d w = no_true (sym q)
    object_once true storage q d w = linked_once d
    object_once false AsExtern q d w = linked_once d
    object_once false AsStatic q d w = no_true w
    object_once false Unstored q d w = no_true w
    object_once false AsAutomatic q d w = no_true w

    function_once : {P : Type 0} (x : Home) → IsFunctionDeclared T x name t k k' → IsObjectHome x → P
    function_once home.None d o = absurd o
    function_once (home.Static m) d o = absurd d
    function_once (home.Local m) d o = absurd d
    function_once (home.Parameter m) d o = absurd d
    function_once (home.Known m) d o = absurd d

    ordinary_once : (f file : Bool) (storage : Storage) → is_typedef storage ≡ false → IsOrdinaryDeclared f T file storage h name t k k' → is_linked_object file storage ≡ true → is_one_of k.defined name ≡ false
    ordinary_once true file storage q d w = function_once h d (object-home T h n name i k'' g)
    ordinary_once false file storage q d w = object_once file storage q d w

    typedef_once : {P : Type 0} (file : Bool) (x : Home) → IsTypedefDeclared file x name t k k' → IsObjectHome x → P
    typedef_once file home.None d o = absurd o
    typedef_once file (home.Static m) d o = absurd d
    typedef_once file (home.Local m) d o = absurd d
    typedef_once file (home.Parameter m) d o = absurd d
    typedef_once file (home.Known m) d o = absurd d

    pub named-once : (file : Bool) (storage : Storage) → IsNameDeclared T file storage h name t k k' → is_linked_object file storage ≡ true → is_one_of k.defined name ≡ false
    named-once file AsTypedef d w = typedef_once file h d (object-home T h n name i k'' g)
    named-once file Unstored d w = ordinary_once (is_function_shape (shape_at T t)) file Unstored refl d w
    named-once file AsExtern d w = ordinary_once (is_function_shape (shape_at T t)) file AsExtern refl d w
    named-once file AsStatic d w = ordinary_once (is_function_shape (shape_at T t)) file AsStatic refl d w
    named-once file AsAutomatic d w = ordinary_once (is_function_shape (shape_at T t)) file AsAutomatic refl d w

  -- the initialiser of what lasts is constant
  linked_local : {P : Type 0} (first : Option Declared) (m node : NodeId) → IsLinkedHome first (home.Local m) node → P
  linked_local None m node l = absurd l
  linked_local (Some (declared.Object u n)) m node l = absurd l
  linked_local (Some (declared.Function u)) m node l = absurd l
  linked_local (Some (declared.Typedef u)) m node l = absurd l
  linked_local (Some (declared.Enumerator z)) m node l = absurd l

  local_object : (file : Bool) (storage : Storage) (m : NodeId) → is_typedef storage ≡ false → IsObjectDeclared T file storage (home.Local m) name t k k' → is_lasting file storage ≡ false
  local_object file AsTypedef m q d = no_true (sym q)
  local_object true storage m q d = linked_local (entry_of k.linked name) m d.node d.home
  local_object false AsExtern m q d = linked_local (entry_of k.linked name) m d.node d.home
  local_object false AsStatic m q d = absurd d
  local_object false Unstored m q d = refl
  local_object false AsAutomatic m q d = refl

  local_ordinary : (f file : Bool) (storage : Storage) (m : NodeId) → is_typedef storage ≡ false → IsOrdinaryDeclared f T file storage (home.Local m) name t k k' → is_lasting file storage ≡ false
  local_ordinary true file storage m q d = absurd d
  local_ordinary false file storage m q d = local_object file storage m q d

  local_named : (file : Bool) (storage : Storage) (m : NodeId) → IsNameDeclared T file storage (home.Local m) name t k k' → is_lasting file storage ≡ false
  local_named file AsTypedef m d = absurd d
  local_named file Unstored m d = local_ordinary (is_function_shape (shape_at T t)) file Unstored m refl d
  local_named file AsExtern m d = local_ordinary (is_function_shape (shape_at T t)) file AsExtern m refl d
  local_named file AsStatic m d = local_ordinary (is_function_shape (shape_at T t)) file AsStatic m refl d
  local_named file AsAutomatic m d = local_ordinary (is_function_shape (shape_at T t)) file AsAutomatic m refl d

  pub named-constant : (file : Bool) (storage : Storage) (h : Home) (n : Known) (i : TypedInitialiser) (k'' : Known) → IsNameDeclared T file storage h name t k k' → IsInitialised T h n name i k''
      → is_lasting file storage ≡ true → is_constant_initialiser T n.statics i ≡ true
  named-constant file storage (home.Local m) n i k'' d h q = no_true (sym (local_named file storage m d) ∙ q)
  named-constant file storage (home.Static m) n i k'' d h q = h.0
  named-constant file storage (home.Known m) n i k'' d h q = h.0
  named-constant file storage home.None n i k'' d h q = absurd h
  named-constant file storage (home.Parameter m) n i k'' d h q = absurd h
