-- Declarators, their parts and parameters, and type names: each has one typed tree where its parts have one. The home of what a form
-- declares is fixed by what stands around the form.
use Rattle.std.proofs.Common.{◌≡◌, ℕ, ◌+◌, Bool, List, [], ◌∷◌, ◌++◌, map, length, Option, Some, None, refl, ap, sym, subst, ◌∙◌, append-nil}
use Rattle.std.proofs.lemmas.Grind.{flat_map-append}
use Rattle.cc_base.specs.declared.place.Place.{Place}
use Rattle.cc_base.specs.declared.number.NodeId.{NodeId}
use Rattle.cc_base.specs.declared.number.TypeId.{TypeId}
use Rattle.c_types.specs.Table.{Table}
use Rattle.c_tree.specs.declared.leaf.Identifier.{Identifier}
use Rattle.c_tree.specs.declared.leaf.Star.{Star}
use Rattle.c_tree.specs.declared.typed_word.Home.{Home}
use Rattle.c_tree.specs.declared.typed_word.Home.TheVariants as home
use Rattle.c_tree.specs.declared.typed_word.TypedStar.{TypedStar}
use Rattle.c_tree.specs.Erasure.{erased_stars, erased_form, erased_core, erased_parts, erased_parameters, erased_declared, erased_specifiers}
use Rattle.c_tree.specs.Tree as tree
use Rattle.c_tree.specs.TypedTree as typed
use Rattle.c_tree.specs.TypedTree.{TypedExpr, TypedForm, TypedCore, TypedParts, TypedParameters, TypedDeclared, TypedSpecifiers, TypedTypeName}
use Rattle.c_tree.specs.TypedParts.{Made, Name, nodes_made, node_made, node_of_home, made_by_stars, made_by_form, made_by_core, made_by_parts, made_by_parameters, made_by_declared, made_by_specifiers, home_of_form, home_of_core, name_of_form, name_of_core, declared_home}
use Rattle.c_typing.specs.declared.declared.Declared.TheVariants as declared
use Rattle.c_typing.specs.Declaring.{declarator_name, core_name, declared_name}
use Rattle.c_typing.specs.Scopes.{Scopes}
use Rattle.c_typing.specs.Typing.{IsNewName, AreSpecifiers, IsForm, IsCore, AreParts, AreParameters, IsDeclared, DeclaresParameter, IsHomelessDeclared}
use Rattle.c_typing_unique.specs.Sameness.{AreHomesAlike, HasOwnFunctions}
use Rattle.c_typing_unique.proofs.Numbering.{AreFrom, Numbers, Point, HasOwn, node-same, two-parts, scopes-of, node-of}
use Rattle.c_typing_unique.proofs.Reading.{IsReadAs, IsUniqueAs, point-same}
use Rattle.c_typing_unique.proofs.Shapes.{IsDistinct}

-- Homes

ids_one : (ns ms : List NodeId) (a b c d : ℕ) → length ns ≡ length ms → a ≡ c → AreFrom (map (λ (n : NodeId). n.0) ns) a b → AreFrom (map (λ (n : NodeId). n.0) ms) c d → (ns ≡ ms) × (b ≡ d)
ids_one [] [] a b c d l e h k = (refl, h ∙ e ∙ sym k)
ids_one [] (m ∷ ms) a b c d l e h k = (cc, cc)
ids_one (n ∷ ns) [] a b c d l e h k = (cc, cc)
ids_one (n ∷ ns) (m ∷ ms) a b c d l e h k =
    let lengths : length ns ≡ length ms = cc in
    let rest = ids_one ns ms (a + 1) b (c + 1) d lengths (ap (λ (x : ℕ). x + 1) e) h.1 k.1 in
    let first = node-same n m a c e h.0 k.0 in
    ((λ i. first i ∷ rest.0 i), rest.1)

home_one : (name : Identifier) (h k : Home) (t : TypeId) (a b c d : ℕ) → AreHomesAlike h k → a ≡ c
    → Numbers (Name name h t ∷ []) a b → Numbers (Name name k t ∷ []) c d → (h ≡ k) × (b ≡ d)
home_one name h k t a b c d alike e p q =
    let one = ids_one (node_of_home h) (node_of_home k) a b c d alike.0 e
    (subst (λ (ns : List NodeId). AreFrom (map (λ (n : NodeId). n.0) ns) a b) (append-nil (node_of_home h)) p)
    (subst (λ (ns : List NodeId). AreFrom (map (λ (n : NodeId). n.0) ns) c d) (append-nil (node_of_home k)) q) in
    (alike.1 one.0, one.1)

pub homes-none : (h k : Home) → h ≡ home.None → k ≡ home.None → AreHomesAlike h k
homes-none h k p q = subst (λ (x : Home). AreHomesAlike x k) (sym p) (subst (AreHomesAlike home.None) (sym q) (refl, λ e. refl))

pub one-node : (n m : NodeId) → n ∷ [] ≡ m ∷ [] → n ≡ m
one-node n m h = cc

-- The nodes of a form do not hang on its type

abbrev pub no_type : TypeId
no_type = record { 0 = 0 }

abbrev nodes : List Made → List NodeId
nodes made = nodes_made made

nodes_append : (xs ys zs : List Made) → nodes ys ≡ nodes zs → nodes (xs ++ ys) ≡ nodes (xs ++ zs)
nodes_append xs ys zs h = flat_map-append node_made xs ys ∙ ap (λ (l : List NodeId). nodes xs ++ l) h ∙ sym (flat_map-append node_made xs zs)

nodes_before : (xs ys zs : List Made) → nodes xs ≡ nodes ys → nodes (xs ++ zs) ≡ nodes (ys ++ zs)
nodes_before xs ys zs h = flat_map-append node_made xs zs ∙ ap (λ (l : List NodeId). l ++ nodes zs) h ∙ sym (flat_map-append node_made ys zs)

mutual
  form_nodes : (x : TypedForm) (t u : TypeId) → nodes (made_by_form x t) ≡ nodes (made_by_form x u)
  form_nodes (typed.Form stars core parts) t u =
      nodes_before (made_by_stars stars ++ made_by_core core t) (made_by_stars stars ++ made_by_core core u) (made_by_parts parts)
      (nodes_append (made_by_stars stars) (made_by_core core t) (made_by_core core u) (core_nodes core t u))

  core_nodes : (x : TypedCore) (t u : TypeId) → nodes (made_by_core x t) ≡ nodes (made_by_core x u)
  core_nodes (typed.Names name h) t u = refl
  core_nodes typed.Unnamed t u = refl
  core_nodes (typed.Nested at form) t u = form_nodes form t u

pub form-numbers : (x : TypedForm) (t : TypeId) (a b : ℕ) → Numbers (made_by_form x t) a b → Numbers (made_by_form x no_type) a b
form-numbers x t a b h = subst (λ (ns : List NodeId). AreFrom (map (λ (n : NodeId). n.0) ns) a b) (form_nodes x t no_type) h

pub declared-numbers : (x : TypedDeclared) (t : TypeId) (a b : ℕ) → Numbers (made_by_declared x t) a b → Numbers (made_by_declared x no_type) a b
declared-numbers typed.NotDeclared t a b h = h
declared-numbers (typed.DeclaredBy form) t a b h = form-numbers form t a b h

-- Names

mutual
  pub form-name : (x : TypedForm) → declarator_name (erased_form x) ≡ name_of_form x
  form-name (typed.Form stars core parts) = core_named core

  core_named : (x : TypedCore) → core_name (erased_core x) ≡ name_of_core x
  core_named (typed.Names name h) = refl
  core_named typed.Unnamed = refl
  core_named (typed.Nested at form) = form-name form

-- what has no name has no home
mutual
  form_homeless : (x : TypedForm) → name_of_form x ≡ None → home_of_form x ≡ home.None
  form_homeless (typed.Form stars core parts) h = core_homeless core h

  core_homeless : (x : TypedCore) → name_of_core x ≡ None → home_of_core x ≡ home.None
  core_homeless (typed.Names name o) h = some_none name h
    where
      some_none : {P : Type 0} (n : Identifier) → Some n ≡ None → P
      some_none n h = absurd (let e : ◌≡◌ {A = Option Identifier} (Some n) None = h in cc)
  core_homeless typed.Unnamed h = refl
  core_homeless (typed.Nested at form) h = form_homeless form h

abbrev pub name_declared : TypedDeclared → Option Identifier
name_declared typed.NotDeclared = None
name_declared (typed.DeclaredBy form) = name_of_form form

pub declared-named : (x : TypedDeclared) → declared_name (erased_declared x) ≡ name_declared x
declared-named typed.NotDeclared = refl
declared-named (typed.DeclaredBy form) = form-name form

pub declared-homeless : (x : TypedDeclared) → name_declared x ≡ None → declared_home x ≡ home.None
declared-homeless typed.NotDeclared h = refl
declared-homeless (typed.DeclaredBy form) h = form_homeless form h

pub homeless : (x : TypedDeclared) → IsHomelessDeclared x → declared_home x ≡ home.None
homeless typed.NotDeclared h = refl
homeless (typed.DeclaredBy form) h = h

-- where a parameter's name is declared
abbrev pub DeclaresName : Option Identifier → Home → TypeId → Scopes → Scopes → Type 0
DeclaresName (Some name) (home.Parameter n) t s s' = IsNewName name.bytes (declared.Object t n) s s'
DeclaresName None home t s s' = s' ≡ s
DeclaresName name home t s s' = ⊥

pub declares-by : (x : TypedDeclared) (t : TypeId) (s s' : Scopes) → DeclaresParameter x t s s' → DeclaresName (name_declared x) (declared_home x) t s s'
declares-by typed.NotDeclared t s s' h = h
declares-by (typed.DeclaredBy form) t s s' h = h

pub name-homes : (n : Option Identifier) (h k : Home) (t u : TypeId) (s p r q : Scopes) → (n ≡ None → h ≡ home.None) → (n ≡ None → k ≡ home.None)
    → DeclaresName n h t s p → DeclaresName n k u r q → AreHomesAlike h k
name-homes None h k t u s p r q x y f g = homes-none h k (x refl) (y refl)
name-homes (Some name) (home.Parameter n) (home.Parameter m) t u s p r q x y f g = (refl, λ e. ap home.Parameter (one-node n m e))
name-homes (Some name) (home.Parameter n) home.None t u s p r q x y f g = absurd g
name-homes (Some name) (home.Parameter n) (home.Static m) t u s p r q x y f g = absurd g
name-homes (Some name) (home.Parameter n) (home.Local m) t u s p r q x y f g = absurd g
name-homes (Some name) (home.Parameter n) (home.Known m) t u s p r q x y f g = absurd g
name-homes (Some name) home.None k t u s p r q x y f g = absurd f
name-homes (Some name) (home.Static m) k t u s p r q x y f g = absurd f
name-homes (Some name) (home.Local m) k t u s p r q x y f g = absurd f
name-homes (Some name) (home.Known m) k t u s p r q x y f g = absurd f

name_one : (n : Option Identifier) (h : Home) (t : TypeId) (s p q : Scopes) → HasOwnFunctions s → DeclaresName n h t s p → DeclaresName n h t s q → (p ≡ q) × HasOwnFunctions p
name_one None h t s p q own f g = (f ∙ sym g, subst HasOwnFunctions (sym f) own)
name_one (Some name) (home.Parameter n) t s p q own f g = (f.after ∙ sym g.after, subst HasOwnFunctions (sym f.after) own)
name_one (Some name) home.None t s p q own f g = absurd f
name_one (Some name) (home.Static m) t s p q own f g = absurd f
name_one (Some name) (home.Local m) t s p q own f g = absurd f
name_one (Some name) (home.Known m) t s p q own f g = absurd f

pub declares-one : (x y : TypedDeclared) (t u : TypeId) (s r p q : Scopes) → x ≡ y → t ≡ u → s ≡ r → HasOwnFunctions s → DeclaresParameter x t s p → DeclaresParameter y u r q
    → (p ≡ q) × HasOwnFunctions p
declares-one x y t u s r p q e f g own h k =
    name_one (name_declared x) (declared_home x) t s p q own (declares-by x t s p h)
    (declares-by x t s q (subst (λ (z : TypedDeclared). DeclaresParameter z t s q) (sym e) (subst (λ (v : TypeId). DeclaresParameter y v s q) (sym f) (subst (λ (m : Scopes). DeclaresParameter y u m q) (sym g) k))))

-- Forms

abbrev pub IsFormRead : Table → tree.Declarator → TypedForm → Point → Point → Type 0
IsFormRead T = IsReadAs erased_form (λ (x : TypedForm). made_by_form x no_type) (IsForm T)

abbrev pub IsCoreRead : Table → tree.Core → TypedCore → Point → Point → Type 0
IsCoreRead T = IsReadAs erased_core (λ (x : TypedCore). made_by_core x no_type) (IsCore T)

abbrev pub IsDeclaredRead : Table → tree.Declared → TypedDeclared → Point → Point → Type 0
IsDeclaredRead T = IsReadAs erased_declared (λ (x : TypedDeclared). made_by_declared x no_type) (IsDeclared T)

abbrev pub IsFormUnique : Table → tree.Declarator → Type 0
IsFormUnique T d =
    (x y : TypedForm) (a b c e : Point) → IsFormRead T d x a b → IsFormRead T d y c e → a ≡ c → HasOwn a → AreHomesAlike (home_of_form x) (home_of_form y)
    → (x ≡ y) × (b ≡ e) × HasOwn b

abbrev pub IsCoreUnique : Table → tree.Core → Type 0
IsCoreUnique T d =
    (x y : TypedCore) (a b c e : Point) → IsCoreRead T d x a b → IsCoreRead T d y c e → a ≡ c → HasOwn a → AreHomesAlike (home_of_core x) (home_of_core y)
    → (x ≡ y) × (b ≡ e) × HasOwn b

abbrev pub IsDeclaredUnique : Table → tree.Declared → Type 0
IsDeclaredUnique T d =
    (x y : TypedDeclared) (a b c e : Point) → IsDeclaredRead T d x a b → IsDeclaredRead T d y c e → a ≡ c → HasOwn a → AreHomesAlike (declared_home x) (declared_home y)
    → (x ≡ y) × (b ≡ e) × HasOwn b

abbrev pub ArePartsUnique : Table → tree.Parts → Type 0
ArePartsUnique T parts = IsUniqueAs erased_parts made_by_parts (AreParts T) parts

abbrev pub AreParametersUnique : Table → tree.Parameters → Type 0
AreParametersUnique T all =
    (v w : Bool) (x y : TypedParameters) (a b c e : Point) → IsReadAs erased_parameters made_by_parameters (AreParameters T v) all x a b
    → IsReadAs erased_parameters made_by_parameters (AreParameters T w) all y c e → a ≡ c → HasOwn a → (x ≡ y) × (b ≡ e) × HasOwn b

abbrev pub AreSpecifiersUnique : Table → tree.Specifiers → Type 0
AreSpecifiersUnique T all = IsUniqueAs erased_specifiers made_by_specifiers (AreSpecifiers T) all

stars_one : (x y : List TypedStar) (a b c d : ℕ) → erased_stars x ≡ erased_stars y → a ≡ c → Numbers (made_by_stars x) a b → Numbers (made_by_stars y) c d → (x ≡ y) × (b ≡ d)
stars_one [] [] a b c d q e h k = (refl, h ∙ e ∙ sym k)
stars_one [] (y ∷ ys) a b c d q e h k = (cc, cc)
stars_one (x ∷ xs) [] a b c d q e h k = (cc, cc)
stars_one (x ∷ xs) (y ∷ ys) a b c d q e h k =
    let star : x.star ≡ y.star = cc in
    let stars : erased_stars xs ≡ erased_stars ys = cc in
    let node = node-same x.node y.node a c e h.0 k.0 in
    let rest = stars_one xs ys (a + 1) b (c + 1) d stars (ap (λ (n : ℕ). n + 1) e) h.1 k.1 in
    ((λ i. record { star = star i; node = node i } ∷ rest.0 i), rest.1)

pub declares_parts : (s r : List Star) (c d : tree.Core) (p q : tree.Parts) → tree.Declares s c p ≡ tree.Declares r d q → (s ≡ r) × (c ≡ d) × (p ≡ q)
declares_parts s r c d p q h = (cc, cc, cc)

module _ (T : Table) (D : IsDistinct T) where
  pub form-unique : (stars : List Star) (core : tree.Core) (parts : tree.Parts) → IsCoreUnique T core → ArePartsUnique T parts → IsFormUnique T (tree.Declares stars core parts)
  form-unique stars core parts u v (typed.Form x f p) (typed.Form y g q) a b c e h k o own alike =
      let left = declares_parts (erased_stars x) stars (erased_core f) core (erased_parts p) parts h.0 in
      let right = declares_parts (erased_stars y) stars (erased_core g) core (erased_parts q) parts k.0 in
      let cut = two-parts (made_by_stars x ++ made_by_core f no_type) (made_by_parts p) a.node b.node h.2 in
      let inner = two-parts (made_by_stars x) (made_by_core f no_type) a.node cut.0 cut.1 in
      let cut' = two-parts (made_by_stars y ++ made_by_core g no_type) (made_by_parts q) c.node e.node k.2 in
      let inner' = two-parts (made_by_stars y) (made_by_core g no_type) c.node cut'.0 cut'.1 in
      let first = stars_one x y a.node inner.0 c.node inner'.0 (left.0 ∙ sym right.0) (node-of a c o) inner.1 inner'.1 in
      let begin : Point = record { scopes = a.scopes; node = inner.0 } in
      let begin' : Point = record { scopes = c.scopes; node = inner'.0 } in
      let middle : Point = record { scopes = h.1.0; node = cut.0 } in
      let middle' : Point = record { scopes = k.1.0; node = cut'.0 } in
      let second = u f g begin middle begin' middle' (left.1, h.1.1, inner.2) (right.1, k.1.1, inner'.2) (point-same begin begin' (scopes-of a c o) first.1) own alike in
      let third = v p q middle b middle' e (left.2, h.1.2, cut.2) (right.2, k.1.2, cut'.2) second.1 second.2 in
      let all = first.0 in
      let inside = second.0 in
      let behind = third.0 in
      ((λ i. typed.Form (all i) (inside i) (behind i)), third.1, third.2)

  -- how a core is read
  abbrev pub IsCoreOf : tree.Core → TypedCore → Point → Point → Type 0
  IsCoreOf (tree.Names name) y a b = (h : Home) × (b.scopes ≡ a.scopes) × Numbers (Name name h no_type ∷ []) a.node b.node × (y ≡ typed.Names name h)
  IsCoreOf tree.Unnamed y a b = (y ≡ typed.Unnamed) × (b ≡ a)
  IsCoreOf (tree.Nested at d) y a b = (x : TypedForm) × IsFormRead T d x a b × (y ≡ typed.Nested at x)

  core_of : (y : TypedCore) (a b : Point) → IsCore T y a.scopes b.scopes → Numbers (made_by_core y no_type) a.node b.node → IsCoreOf (erased_core y) y a b
  core_of (typed.Names name home) a b h k = (home, h, k, refl)
  core_of typed.Unnamed a b h k = (refl, point-same b a h k)
  core_of (typed.Nested at form) a b h k = (form, (refl, h, k), refl)

  pub is_core : (x : tree.Core) (y : TypedCore) (a b : Point) → IsCoreRead T x y a b → IsCoreOf x y a b
  is_core x y a b h = subst (λ (w : tree.Core). IsCoreOf w y a b) h.0 (core_of y a b h.1 h.2)

  pub names-unique : (name : Identifier) → IsCoreUnique T (tree.Names name)
  names-unique name x y a b c e h k o own alike =
      let left = is_core (tree.Names name) x a b h in
      let right = is_core (tree.Names name) y c e k in
      let homes = subst (λ (z : TypedCore). AreHomesAlike (home_of_core z) (home_of_core y)) left.3 alike in
      let one = home_one name left.0 right.0 no_type a.node b.node c.node e.node (subst (λ (z : TypedCore). AreHomesAlike left.0 (home_of_core z)) right.3 homes) (node-of a c o) left.2 right.2 in
      (left.3 ∙ ap (typed.Names name) one.0 ∙ sym right.3, point-same b e (left.1 ∙ scopes-of a c o ∙ sym right.1) one.1, subst HasOwnFunctions (sym left.1) own)

  pub unnamed-unique : IsCoreUnique T tree.Unnamed
  unnamed-unique x y a b c e h k o own alike =
      let left = is_core tree.Unnamed x a b h in
      let right = is_core tree.Unnamed y c e k in
      (left.0 ∙ sym right.0, left.1 ∙ o ∙ sym right.1, subst HasOwn (sym left.1) own)

  pub nested-unique : (at : Place) (d : tree.Declarator) → IsFormUnique T d → IsCoreUnique T (tree.Nested at d)
  nested-unique at d u x y a b c e h k o own alike =
      let left = is_core (tree.Nested at d) x a b h in
      let right = is_core (tree.Nested at d) y c e k in
      let homes = subst (λ (z : TypedCore). AreHomesAlike (home_of_core z) (home_of_core y)) left.2 alike in
      let one = u left.0 right.0 a b c e left.1 right.1 o own (subst (λ (z : TypedCore). AreHomesAlike (home_of_form left.0) (home_of_core z)) right.2 homes) in
      (left.2 ∙ ap (typed.Nested at) one.0 ∙ sym right.2, one.1, one.2)

  -- Declarators that may be left out

  abbrev pub IsDeclaredOf : tree.Declared → TypedDeclared → Point → Point → Type 0
  IsDeclaredOf tree.NotDeclared y a b = (y ≡ typed.NotDeclared) × (b ≡ a)
  IsDeclaredOf (tree.DeclaredBy d) y a b = (x : TypedForm) × IsFormRead T d x a b × (y ≡ typed.DeclaredBy x)

  declared_of : (y : TypedDeclared) (a b : Point) → IsDeclared T y a.scopes b.scopes → Numbers (made_by_declared y no_type) a.node b.node → IsDeclaredOf (erased_declared y) y a b
  declared_of typed.NotDeclared a b h k = (refl, point-same b a h k)
  declared_of (typed.DeclaredBy form) a b h k = (form, (refl, h, k), refl)

  pub is_declared : (x : tree.Declared) (y : TypedDeclared) (a b : Point) → IsDeclaredRead T x y a b → IsDeclaredOf x y a b
  is_declared x y a b h = subst (λ (w : tree.Declared). IsDeclaredOf w y a b) h.0 (declared_of y a b h.1 h.2)

  pub not-declared-unique : IsDeclaredUnique T tree.NotDeclared
  not-declared-unique x y a b c e h k o own alike =
      let left = is_declared tree.NotDeclared x a b h in
      let right = is_declared tree.NotDeclared y c e k in
      (left.0 ∙ sym right.0, left.1 ∙ o ∙ sym right.1, subst HasOwn (sym left.1) own)

  pub declared-unique : (d : tree.Declarator) → IsFormUnique T d → IsDeclaredUnique T (tree.DeclaredBy d)
  declared-unique d u x y a b c e h k o own alike =
      let left = is_declared (tree.DeclaredBy d) x a b h in
      let right = is_declared (tree.DeclaredBy d) y c e k in
      let homes = subst (λ (z : TypedDeclared). AreHomesAlike (declared_home z) (declared_home y)) left.2 alike in
      let one = u left.0 right.0 a b c e left.1 right.1 o own (subst (λ (z : TypedDeclared). AreHomesAlike (home_of_form left.0) (declared_home z)) right.2 homes) in
      (left.2 ∙ ap typed.DeclaredBy one.0 ∙ sym right.2, one.1, one.2)
