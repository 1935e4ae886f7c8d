-- What is declared of one name is of types that sites tie: each with the first of them, which is physically equal to it.
use Rattle.std.specs.List.{All, Contains}
use Rattle.std.proofs.Common.{◌≡◌, ℕ, Bool, true, false, List, [], ◌∷◌, ◌++◌, map, flat_map, Option, Some, None, refl, ap, sym, subst, ◌∙◌, inl, inr, if◌then◌else◌, ◌==◌, IsTrue, bytes_eq, true≢false, length, rules}
use Rattle.std.proofs.lemmas.List.Elements.{All-nil, All-cons, All-head, All-append, All-map, All-weaker, All-contains, All-contains_itself}
use Rattle.std.proofs.lemmas.Option.{none-some}
use Rattle.cc_base.specs.declared.number.NodeId.{NodeId}
use Rattle.cc_base.specs.declared.number.TypeId.{TypeId}
use Rattle.c_types.specs.declared.shape.TypeShape.{TypeShape}
use Rattle.c_types.specs.declared.shape.TypeShape.TheVariants as shape
use Rattle.kind_sites.specs.declared.site.Site.{Site}
use Rattle.kind_sites.specs.declared.site.Site.TheVariants as site
use Rattle.c_types.specs.Equality.{physically_equal}
use Rattle.c_types.specs.Sameness.{IsSameType, is_same_type, same_shape, same_step}
use Rattle.c_types.specs.Sound.{IsWellFormed}
use Rattle.c_types.specs.Table.{Table, IsType, IsComplete, is_complete_entry, is_function, is_function_shape, shape_at, members_at, descend}
use Rattle.c_tree.specs.declared.leaf.Identifier.{Identifier}
use Rattle.c_tree.specs.declared.typed_word.Home.{Home}
use Rattle.c_tree.specs.declared.typed_word.Home.TheVariants as home
use Rattle.c_tree.specs.TypedTree.{TypedDeclarator, TypedTranslationUnit}
use Rattle.c_tree.specs.TypedParts.{MadeObject, declared_type, home_of, name_of, static_home, statics_of, functions_of, home_node}
use Rattle.c_ready.specs.Ready.{Named, IsAlike, IsWhole, IsReadyUnit, static_stage, made_named, variables_named}
use Rattle.c_ready.specs.Ready as stages
use Rattle.c_ready.proofs.Basics.{all-right, eq_from, bytes-same}
use Rattle.c_ready.proofs.Suits.{function-in}
use Rattle.type_laws.proofs.Relations.{equal_equiv}
use Rattle.type_laws.proofs.SameTypes.{same-is-equal}
use Rattle.cil_form.specs.Typing.{AreDeclaredAlike, same, listed, turned, chained}
use Rattle.src_machine.specs.Names as names
use Rattle.src_machine.specs.Names.{Which, AnObject, AFunction, object_named, function_named, named_by, named_in, is_same_which, first_type, declarators_in}
use Rattle.src_machine.specs.World.{same_node}
use Rattle.kind_sites.specs.Solutions.{sites_of_table}
use Rattle.src_machine.specs.Sites.{sites_of_homes, sites_of_piece, same_as, sites_of_names, sites_of}
use Rattle.src_machine.specs.Pieces.{pieces_of_unit}
use Rattle.unit_sites.proofs.Elements.{only, flat, unflat}
use Rattle.unit_sites.proofs.ObjectsAlike.{Names, IsObjectAlike, objects_made, objects-named, one-type}

-- Types

-- what a function type is the same as is one
function-left : (R : TypeId → TypeId → Bool) (x : TypeShape) (y : TypeShape) → same_shape R x y ≡ true → is_function_shape y ≡ true
    → is_function_shape x ≡ true
function-left R (shape.Function ps r) y h g = refl
function-left R shape.Void (shape.Function ps r) h g = absurd (true≢false (sym h))
function-left R (shape.Integer a s) (shape.Function ps r) h g = absurd (true≢false (sym h))
function-left R (shape.Pointer n t) (shape.Function ps r) h g = absurd (true≢false (sym h))
function-left R (shape.Array t n) (shape.Function ps r) h g = absurd (true≢false (sym h))
function-left R (shape.Struct n) (shape.Function ps r) h g = absurd (true≢false (sym h))
function-left R (shape.Union n) (shape.Function ps r) h g = absurd (true≢false (sym h))
function-left R x shape.Void h g = absurd (true≢false (sym g))
function-left R x (shape.Integer a s) h g = absurd (true≢false (sym g))
function-left R x (shape.Pointer n t) h g = absurd (true≢false (sym g))
function-left R x (shape.Array t n) h g = absurd (true≢false (sym g))
function-left R x (shape.Struct n) h g = absurd (true≢false (sym g))
function-left R x (shape.Union n) h g = absurd (true≢false (sym g))

function-right : (R : TypeId → TypeId → Bool) (x : TypeShape) (y : TypeShape) → same_shape R x y ≡ true → is_function_shape x ≡ true
    → is_function_shape y ≡ true
function-right R x (shape.Function ps r) h g = refl
function-right R (shape.Function ps r) shape.Void h g = absurd (true≢false (sym h))
function-right R (shape.Function ps r) (shape.Integer a s) h g = absurd (true≢false (sym h))
function-right R (shape.Function ps r) (shape.Pointer n t) h g = absurd (true≢false (sym h))
function-right R (shape.Function ps r) (shape.Array t n) h g = absurd (true≢false (sym h))
function-right R (shape.Function ps r) (shape.Struct n) h g = absurd (true≢false (sym h))
function-right R (shape.Function ps r) (shape.Union n) h g = absurd (true≢false (sym h))
function-right R shape.Void y h g = absurd (true≢false (sym g))
function-right R (shape.Integer a s) y h g = absurd (true≢false (sym g))
function-right R (shape.Pointer n t) y h g = absurd (true≢false (sym g))
function-right R (shape.Array t n) y h g = absurd (true≢false (sym g))
function-right R (shape.Struct n) y h g = absurd (true≢false (sym g))
function-right R (shape.Union n) y h g = absurd (true≢false (sym g))

pub same-shapes : (T : Table) (t u : TypeId) → IsSameType T t u
    → IsTrue (same_shape (descend (same_step T) (λ v. false) (length T)) (shape_at T t) (shape_at T u))
unfolding is_same_type
same-shapes T t u h = h

pub alike-function_left : (T : Table) (t u : TypeId) → IsAlike T t u → is_function T u ≡ true → is_function T t ≡ true
alike-function_left T t u (inl e) g = ap (λ (x : TypeId). is_function T x) e ∙ g
alike-function_left T t u (inr h) g = function-left _ (shape_at T t) (shape_at T u) (same-shapes T t u h) g

pub alike-function_right : (T : Table) (t u : TypeId) → IsAlike T t u → is_function T t ≡ true → is_function T u ≡ true
alike-function_right T t u (inl e) g = ap (λ (x : TypeId). is_function T x) (sym e) ∙ g
alike-function_right T t u (inr h) g = function-right _ (shape_at T t) (shape_at T u) (same-shapes T t u h) g

-- what is complete is no function
pub whole-plain : (T : Table) (t : TypeId) → IsComplete T t → is_function T t ≡ false
whole-plain T t h = by (shape_at T t) h
  where
    by : (x : TypeShape) → is_complete_entry x (members_at T t) ≡ true → is_function_shape x ≡ false
    by (shape.Function ps r) g = absurd (true≢false (sym g))
    by shape.Void g = refl
    by (shape.Integer a s) g = refl
    by (shape.Pointer n u) g = refl
    by (shape.Array u n) g = refl
    by (shape.Struct n) g = refl
    by (shape.Union n) g = refl

pub physical : (T : Table) → IsWellFormed T → (g t : TypeId) → IsType T g → IsType T t → IsAlike T g t → IsTrue (physically_equal T g t)
physical T w g t a b (inl e) = subst (λ (x : TypeId). IsTrue (physically_equal T g x)) e ((equal_equiv T).refl g)
physical T w g t a b (inr h) = same-is-equal T w g t a b h

-- both are alike to a third
pub physical-both : (T : Table) → IsWellFormed T → (g t u : TypeId) → IsType T g → IsType T t → IsType T u → IsAlike T g t → IsAlike T g u
    → IsTrue (physically_equal T t u)
physical-both T w g t u a b c h k =
    sym ((equal_equiv T).congr g t u (physical T w g t a b h)) ∙ physical T w g u a c k

-- The first of one name

abbrev HasFirst : List names.Named → Which → Type 0
HasFirst xs w = (t : TypeId) × (first_type xs w ≡ Some t)

first-more : (x : names.Named) (xs : List names.Named) (w : Which) → HasFirst xs w → HasFirst (x ∷ xs) w
first-more x xs w h = by (is_same_which x.which w)
  where
    by : (b : Bool) → (t : TypeId) × ((if b then Some x.type else first_type xs w) ≡ Some t)
    by true = (x.type, refl)
    by false = h

first-there : (w : Which) (xs : List names.Named) → All (λ (y : names.Named). is_same_which y.which w ≡ true → HasFirst xs w) xs
first-there w [] = All-nil (λ (y : names.Named). is_same_which y.which w ≡ true → HasFirst [] w)
first-there w (x ∷ xs) =
    All-cons (λ (y : names.Named). is_same_which y.which w ≡ true → HasFirst (x ∷ xs) w) x xs
    (λ e. (x.type, ap (λ (b : Bool). if b then Some x.type else first_type xs w) e))
    (All-weaker (λ (y : names.Named). is_same_which y.which w ≡ true → HasFirst xs w)
    (λ (y : names.Named). is_same_which y.which w ≡ true → HasFirst (x ∷ xs) w) (λ y f e. first-more x xs w (f e)) xs (first-there w xs))

-- it is that of something of the name
pub first-of : (P : TypeId → Type 0) (w : Which) (xs : List names.Named) → All (λ (y : names.Named). is_same_which y.which w ≡ true → P y.type) xs
    → (t : TypeId) → first_type xs w ≡ Some t → P t
first-of P w [] h t e = absurd (none-some t e)
first-of P w (x ∷ xs) h t e = by (is_same_which x.which w) refl e (λ r. first-of P w xs (all-right Q (x ∷ []) xs h) t r)
  where
    Q : names.Named → Type 0
    Q y = is_same_which y.which w ≡ true → P y.type

    one : (a b : TypeId) → Some a ≡ Some b → a ≡ b
    one a b g = cc

    by : (b : Bool) → is_same_which x.which w ≡ b → (if b then Some x.type else first_type xs w) ≡ Some t
        → (first_type xs w ≡ Some t → P t) → P t
    by true g r more = subst P (one x.type t r) (All-head Q x xs h g)
    by false g r more = more r

bytes-refl : (n : List ℕ) → bytes_eq n n ≡ true
bytes-refl n = search rules

node-refl : (n : NodeId) → same_node n n ≡ true
node-refl n = by n.0
  where
    by : (m : ℕ) → (m == m) ≡ true
    by m = search rules

which-refl : (w : Which) → is_same_which w w ≡ true
which-refl (AnObject n) = node-refl n
which-refl (AFunction x) = bytes-refl x.bytes

-- a function goes by its bytes
first-bytes : (x y : Identifier) → x.bytes ≡ y.bytes → (xs : List names.Named) → first_type xs (AFunction x) ≡ first_type xs (AFunction y)
first-bytes x y e [] = refl
first-bytes x y e (z ∷ zs) =
    ap (λ (b : Bool). if b then Some z.type else first_type zs (AFunction x)) (which z.which)
    ∙ ap (λ (o : Option TypeId). if is_same_which z.which (AFunction y) then Some z.type else o) (first-bytes x y e zs)
  where
    which : (v : Which) → is_same_which v (AFunction x) ≡ is_same_which v (AFunction y)
    which (AnObject n) = refl
    which (AFunction i) = ap (λ (b : List ℕ). bytes_eq i.bytes b) e

module _ (T : Table) (u : TypedTranslationUnit) where
  abbrev all_named : List names.Named
  all_named = named_in u T

  abbrev sites : List Site
  sites = sites_of u T

  names-among : All (Contains sites) (sites_of_names all_named)
  names-among =
      all-right (Contains sites) (sites_of_table T ++ sites_of_homes u ++ flat_map (sites_of_piece T) (pieces_of_unit u)) (sites_of_names all_named)
      (All-contains_itself sites)

  to-first : (x : names.Named) → Contains all_named x → (first : TypeId) → first_type all_named x.which ≡ Some first
      → AreDeclaredAlike sites first x.type
  to-first x c first e = by (first.0 == x.type.0) refl at-x
    where
      at-x : All (Contains sites) (same_as x.type (Some first))
      at-x =
          subst (λ (o : Option TypeId). All (Contains sites) (same_as x.type o)) e
          (All-contains (λ (y : names.Named). All (Contains sites) (same_as y.type (first_type all_named y.which))) all_named x
          (unflat (Contains sites) (λ (y : names.Named). same_as y.type (first_type all_named y.which)) all_named names-among) c)

      by : (b : Bool) → (first.0 == x.type.0) ≡ b → All (Contains sites) (if b then [] else site.Same first x.type ∷ [])
          → AreDeclaredAlike sites first x.type
      by true g h =
          subst (λ (z : TypeId). AreDeclaredAlike sites first z) (ap (λ (n : ℕ). record { 0 = n }) (eq_from first.0 x.type.0 g)) (same first)
      by false g h = listed first x.type (All-head (Contains sites) (site.Same first x.type) [] h)

  -- what is declared of one name
  pub alike-named : (x y : names.Named) → Contains all_named x → Contains all_named y
      → first_type all_named x.which ≡ first_type all_named y.which → AreDeclaredAlike sites x.type y.type
  alike-named x y a b e =
      let f = All-contains (λ (z : names.Named). is_same_which z.which x.which ≡ true → HasFirst all_named x.which) all_named x
      (first-there x.which all_named) a (which-refl x.which) in
      chained x.type f.0 y.type (turned f.0 x.type (to-first x a f.0 f.1)) (to-first y b f.0 (sym e ∙ f.1))

  -- Objects

  named-of : (d : TypedDeclarator) → Contains (declarators_in u) d → All (Contains all_named) (named_by T d)
  named-of d c =
      All-contains (λ (z : TypedDeclarator). All (Contains all_named) (named_by T z)) (declarators_in u) d
      (unflat (Contains all_named) (named_by T) (declarators_in u) (All-contains_itself all_named)) c

  home-node : (h : Home) (n : NodeId) → static_home h ≡ n ∷ [] → home_node h ≡ Some n
  home-node (home.Static m) n e = cc
  home-node (home.Known m) n e = cc
  home-node home.None n e = absurd (cc (e))
  home-node (home.Local m) n e = absurd (cc (e))
  home-node (home.Parameter m) n e = absurd (cc (e))

  object-there : (d : TypedDeclarator) → Contains (declarators_in u) d → (n : NodeId) → home_node (home_of d) ≡ Some n
      → is_function T (declared_type d) ≡ false → Contains all_named (record { which = AnObject n; type = declared_type d })
  object-there d c n e g =
      All-head (Contains all_named) (record { which = AnObject n; type = declared_type d }) []
      (subst (λ (ns : List names.Named). All (Contains all_named) ns) (
      ap (λ (b : Bool). if b then function_named (name_of d) (declared_type d) else object_named (home_node (home_of d)) (declared_type d)) g
      ∙ ap (λ (o : Option NodeId). object_named o (declared_type d)) e) (named-of d c))

  function-there : (d : TypedDeclarator) → Contains (declarators_in u) d → (id : Identifier) → name_of d ≡ Some id
      → is_function T (declared_type d) ≡ true → Contains all_named (record { which = AFunction id; type = declared_type d })
  function-there d c id e g =
      All-head (Contains all_named) (record { which = AFunction id; type = declared_type d }) []
      (subst (λ (ns : List names.Named). All (Contains all_named) ns) (
      ap (λ (b : Bool). if b then function_named (name_of d) (declared_type d) else object_named (home_node (home_of d)) (declared_type d)) g
      ∙ ap (λ (o : Option Identifier). function_named o (declared_type d)) e) (named-of d c))

  -- the static object with this home, by two of its declarators
  pub objects-alike : (h : NodeId) (t v : TypeId) → IsComplete T t → IsComplete T v → stages.IsObjectDeclared (static_stage T u) h t
      → stages.IsObjectDeclared (static_stage T u) h v → AreDeclaredAlike (sites_of u T) t v
  objects-alike h t v a b (d, c, e, g) (d', c', e', g') =
      subst (λ (x : TypeId). AreDeclaredAlike (sites_of u T) x v) g (subst (λ (x : TypeId). AreDeclaredAlike (sites_of u T) (declared_type d) x) g'
      (alike-named (record { which = AnObject h; type = declared_type d }) (record { which = AnObject h; type = declared_type d' })
      (object-there d c h (home-node (home_of d) h e)
      (ap (λ (x : TypeId). is_function T x) g ∙ whole-plain T t a))
      (object-there d' c' h (home-node (home_of d') h e')
      (ap (λ (x : TypeId). is_function T x) g' ∙ whole-plain T v b))
      refl))

  -- the function of this name, by two of its declarators
  pub functions-alike : (name : List ℕ) (t v : TypeId) → is_function T t ≡ true → is_function T v ≡ true
      → stages.IsFunctionDeclared (static_stage T u) name t → stages.IsFunctionDeclared (static_stage T u) name v
      → AreDeclaredAlike (sites_of u T) t v
  functions-alike name t v a b (d, c, (id, e, n), g) (d', c', (id', e', n'), g') =
      subst (λ (x : TypeId). AreDeclaredAlike (sites_of u T) x v) g (subst (λ (x : TypeId). AreDeclaredAlike (sites_of u T) (declared_type d) x) g'
      (alike-named (record { which = AFunction id; type = declared_type d }) (record { which = AFunction id'; type = declared_type d' })
      (function-there d c id e (ap (λ (x : TypeId). is_function T x) g ∙ a))
      (function-there d' c' id' e' (ap (λ (x : TypeId). is_function T x) g' ∙ b))
      (first-bytes id id' (n ∙ sym n') (named_in u T))))

-- Types of one name are physically equal

node-same : (m n : NodeId) → same_node m n ≡ true → m ≡ n
node-same m n h = ap (λ (z : ℕ). record { 0 = z }) (eq_from m.0 n.0 h)

module _ (T : Table) (u : TypedTranslationUnit) (r : IsReadyUnit T u) where
  abbrev static : stages.Stage
  static = static_stage T u

  -- an object is made with a type that this one is alike to, and a function is declared with this one
  abbrev IsMadeWith : Which → TypeId → Type 0
  IsMadeWith (AnObject n) t = IsObjectAlike T (objects_made u) n t
  IsMadeWith (AFunction id) t = stages.IsFunctionDeclared static id.bytes t × (is_function T t ≡ true)

  objects-whole : All (λ (o : Named). IsWhole static o.1) (objects_made u)
  objects-whole =
      All-append (λ (o : Named). IsWhole static o.1) (map made_named (statics_of u)) (flat_map variables_named (functions_of u))
      (All-map (λ (o : Named). IsWhole static o.1) made_named (statics_of u)
      (All-weaker (λ (o : MadeObject). stages.IsNode static o.home × IsWhole static o.type)
      (λ (o : MadeObject). IsWhole static o.type) (λ o q. q.1) (statics_of u) r.objects.plans))
      (flat (λ (o : Named). IsWhole static o.1) variables_named (functions_of u)
      (All-weaker (stages.IsReadyFunction static) (λ f. All (λ (o : Named). IsWhole static o.1) (variables_named f))
      (λ f q. All-weaker (λ (o : Named). stages.IsNode static o.0 × IsWhole static o.1)
      (λ (o : Named). IsWhole static o.1) (λ o z. z.1) (variables_named f) q.plans) (functions_of u) r.functions))

  -- a type of the table that both are alike to
  abbrev HaveFirst : TypeId → TypeId → Type 0
  HaveFirst t v = (first : TypeId) × IsType T first × IsAlike T first t × IsAlike T first v

  have-first : (v x : Which) (t s : TypeId) → is_same_which v x ≡ true → IsMadeWith v t → IsMadeWith x s → HaveFirst t s
  have-first (AnObject m) (AnObject n) t s e a b =
      let one = one-type u r.objects.distinct n a.0 b.0 (subst (λ (i : NodeId). Contains (objects_made u) (i, a.0)) (node-same m n e) a.1) b.1 in (
        b.0,
        (All-contains (λ (o : Named). IsWhole static o.1) (objects_made u) (n, b.0) objects-whole b.1).0,
        subst (λ (f : TypeId). IsAlike T f t) one a.2,
        b.2,
      )
  have-first (AFunction v) (AFunction x) t s e a b =
      let f = r.alike x.bytes t s
      (subst (λ (n : List ℕ). stages.IsFunctionDeclared static n t) (bytes-same v.bytes x.bytes e) a.0) b.0 a.1 b.1 in
      (f.0, function-in T f.0 (alike-function_left T f.0 t f.1 a.1), f.1, f.2)
  have-first (AnObject m) (AFunction x) t s e a b = absurd (true≢false (sym e))
  have-first (AFunction v) (AnObject n) t s e a b = absurd (true≢false (sym e))

  pub record IsMadeAlike (x : names.Named) : Type 0 where
    pub made : IsMadeWith x.which x.type
    pub type_in : IsType T x.type

  declarator-made : (d : TypedDeclarator) → Contains (declarators_in u) d → Names static (objects_made u) d → All IsMadeAlike (named_by T d)
  declarator-made d c h = by (is_function T (declared_type d)) refl
    where
      function : (o : Option Identifier) → name_of d ≡ o → is_function T (declared_type d) ≡ true
          → All IsMadeAlike (function_named o (declared_type d))
      function None e g = All-nil IsMadeAlike
      function (Some id) e g = only IsMadeAlike (record { which = AFunction id; type = declared_type d }) (record {
        made = ((d, c, (id, e, refl), refl), g);
        type_in = function-in T (declared_type d) g;
      })

      object : (o : Option NodeId) → home_node (home_of d) ≡ o → All IsMadeAlike (object_named o (declared_type d))
      object None e = All-nil IsMadeAlike
      object (Some n) e = only IsMadeAlike (record { which = AnObject n; type = declared_type d }) (record {
        made = (h n e).0;
        type_in = (h n e).1.0;
      })

      by : (b : Bool) → is_function T (declared_type d) ≡ b
          → All IsMadeAlike (if b then function_named (name_of d) (declared_type d) else object_named (home_node (home_of d)) (declared_type d))
      by true e = function (name_of d) refl e
      by false e = object (home_node (home_of d)) refl

  both-all : (ds : List TypedDeclarator) → All (Contains (declarators_in u)) ds → All (Names static (objects_made u)) ds
      → All (λ d. All IsMadeAlike (named_by T d)) ds
  both-all [] c h = All-nil (λ d. All IsMadeAlike (named_by T d))
  both-all (d ∷ ds) c h =
      All-cons (λ x. All IsMadeAlike (named_by T x)) d ds
      (declarator-made d (All-head (Contains (declarators_in u)) d ds c) (All-head (Names static (objects_made u)) d ds h))
      (both-all ds (all-right (Contains (declarators_in u)) (d ∷ []) ds c) (all-right (Names static (objects_made u)) (d ∷ []) ds h))

  all-made : All IsMadeAlike (named_in u T)
  all-made =
      flat IsMadeAlike (named_by T) (declarators_in u)
      (both-all (declarators_in u) (All-contains_itself (declarators_in u)) (objects-named T u r.externals))

  pair-equal : (x y : names.Named) → IsMadeAlike x → IsMadeAlike y → is_same_which y.which x.which ≡ true
      → IsTrue (physically_equal T y.type x.type)
  pair-equal x y m q g =
      let f = have-first y.which x.which y.type x.type g q.made m.made in
      physical-both T r.basic.formed f.0 y.type x.type f.1 q.type_in m.type_in f.2 f.3

  -- the first type of a name is physically equal to each
  pub first-equal : All (λ (x : names.Named). (first : TypeId) → first_type (named_in u T) x.which ≡ Some first
      → IsTrue (physically_equal T first x.type)) (named_in u T)
  first-equal =
      All-weaker IsMadeAlike (λ (x : names.Named). (first : TypeId) → first_type (named_in u T) x.which ≡ Some first
      → IsTrue (physically_equal T first x.type))
      (λ x m first e. first-of (λ t. IsTrue (physically_equal T t x.type)) x.which (named_in u T)
      (All-weaker IsMadeAlike (λ (y : names.Named). is_same_which y.which x.which ≡ true → IsTrue (physically_equal T y.type x.type))
      (λ y q g. pair-equal x y m q g) (named_in u T) all-made) first e)
      (named_in u T) all-made
