-- Declarators, with initialisers or without, and declarations have one typed tree.
use Rattle.std.proofs.Common.{◌≡◌, ℕ, inl, inr, Bool, true, false, List, [], ◌++◌, Option, Some, None, refl, ap, sym, subst, ◌∙◌}
use Rattle.cc_base.specs.declared.place.Place.{Place}
use Rattle.cc_base.specs.declared.number.TypeId.{TypeId}
use Rattle.c_types.specs.Table.{Table, shape_at}
use Rattle.c_tree.specs.declared.leaf.Identifier.{Identifier}
use Rattle.c_tree.specs.declared.typed_word.Home.{Home}
use Rattle.c_tree.specs.declared.typed_word.Home.TheVariants as home
use Rattle.c_tree.specs.Erasure.{erased_form, erased_init_declarators, erased_specifiers, erased_declaration}
use Rattle.c_tree.specs.Tree as tree
use Rattle.c_tree.specs.TypedTree as typed
use Rattle.c_tree.specs.TypedTree.{TypedForm, TypedInitialiser, TypedInitDeclarators, TypedSpecifiers, TypedDeclaration}
use Rattle.c_tree.specs.TypedParts.{Made, made_by_form, made_by_initialiser, made_by_init_declarators, made_by_specifiers, made_by_declaration, specified_type, home_of_form, name_of_form}
use Rattle.c_typing.specs.Walks.{outermost_of}
use Rattle.c_typing.specs.Adjusting.{NotDerived, derived_by}
use Rattle.c_typing.specs.Declarators.{Written, is_pointed, name_bytes}
use Rattle.c_typing.specs.Declaring.{declarator_name, is_function_by}
use Rattle.c_typing.specs.Scopes.{Name, Scopes, entry_of}
use Rattle.c_typing.specs.Typing.{AreAlone, AreSpecifiers}
use Rattle.c_typing_laws.proofs.FunctionNames.{form_tells}
use Rattle.c_typing_unique.proofs.DeclaratorSteps.{form-name, form-numbers}
use Rattle.c_typing_unique.proofs.Numbering.{Point, Numbers, two-parts, scopes-of, node-of}
use Rattle.c_typing_unique.proofs.Reading.{IsReadAs}
use Rattle.c_typing_unique.proofs.Shapes.{IsDistinct, some-same}
use Rattle.c_typing_unique.proofs.SpecifierSteps.{specifiers-unique}
use Rattle.c_typing_unique.proofs.UniqueTrees.{form-one, list-one}
use Rattle.c_typing_unique.proofs.UniqueWhole.{alone-one}
use Rattle.c_unit_typing.specs.Initialisers.{is_char_array, size_given}
use Rattle.c_unit_typing.specs.Units.{Known, with_scopes, Storage, storage_of, IsNameDeclared, IsDeclarator, IsInitialised, IsDefinedOnce, is_linked_home, AreDeclarators, IsDeclaration}
use Rattle.c_unit_unique.proofs.HomeLaws.{OwnKnown, name-homes, name-one}
use Rattle.c_unit_unique.proofs.Initialisers.{IsInitialiserRead, initialiser-one}
use Rattle.c_unit_unique.proofs.SizedForms.{AreSized, form-sized, sized-one}

-- what is known at a point of a unit, and the number of the next node
pub record Spot : Type 0 where
  pub known : Known
  pub node : ℕ

abbrev pub OwnSpot : Spot → Type 0
OwnSpot a = OwnKnown a.known

abbrev pub point_of : Spot → Point
point_of a = record { scopes = a.known.scopes; node = a.node }

pub spot-same : (a b : Spot) → a.known ≡ b.known → a.node ≡ b.node → a ≡ b
spot-same a b p q = (λ i. record { known = p i; node = q i })

-- y is a typed tree of x from a to b
abbrev pub IsReadIn : {A X : Type 0} → (A → X) → (A → List Made) → (A → Known → Known → Type 0) → X → A → Spot → Spot → Type 0
IsReadIn erase made typed x y a b = (erase y ≡ x) × typed y a.known b.known × Numbers (made y) a.node b.node

-- x has one typed tree
abbrev pub IsUniqueIn : {A X : Type 0} → (A → X) → (A → List Made) → (A → Known → Known → Type 0) → X → Type 0
IsUniqueIn {A} {X} erase made typed x =
    (y z : A) (a b c d : Spot) → IsReadIn erase made typed x y a b → IsReadIn erase made typed x z c d → a ≡ c → OwnSpot a → (y ≡ z) × (b ≡ d) × OwnSpot b

not_pointed : (f : Option ℕ) → is_pointed (outermost_of f) ≡ false
not_pointed None = refl
not_pointed (Some c) = refl

module _ (T : Table) (D : IsDistinct T) where
  -- a declarator that is read twice, where the types that it gives are one as soon as the form is
  pub declarator-one : (file : Bool) (storage : Storage) (base : TypeId) (f g : Option ℕ) (x y : TypedForm) (t u : TypeId) (a b c e : Spot) → erased_form x ≡ erased_form y
      → IsDeclarator T file storage base (outermost_of f) x t a.known b.known → Numbers (made_by_form x t) a.node b.node
      → IsDeclarator T file storage base (outermost_of g) y u c.known e.known → Numbers (made_by_form y u) c.node e.node
      → a ≡ c → OwnSpot a → (AreSized T D f g t u → t ≡ u) → (x ≡ y) × (t ≡ u) × (b ≡ e) × OwnSpot b
  declarator-one file storage base f g x y t u a b c e h p n q m o own typed_as =
      let name = some-same p.name q.name (sym p.named ∙ sym (form-name x) ∙ ap declarator_name h ∙ form-name y ∙ q.named) in
      let declares = subst (λ (w : Identifier). IsNameDeclared T file storage (home_of_form y) w.bytes u (with_scopes c.known q.inside) e.known) (sym name) q.declares in
      let function = sym (form_tells T p.inside (shape_at T base) x (outermost_of f) base t NotDerived (not_pointed f) p.type refl)
      ∙ ap (λ (d : tree.Declarator). is_function_by (derived_by d NotDerived) (shape_at T base)) h
      ∙ form_tells T q.inside (shape_at T base) y (outermost_of g) base u NotDerived (not_pointed g) q.type refl in
      let homes = name-homes T file storage (home_of_form x) (home_of_form y) p.name.bytes t u (with_scopes a.known p.inside) b.known (with_scopes c.known q.inside) e.known function
      (ap (λ (s : Spot). entry_of s.known.linked p.name.bytes) o) p.declares declares in
      let inside : Point = record { scopes = p.inside; node = b.node } in
      let inside' : Point = record { scopes = q.inside; node = e.node } in
      let one = form-one T D (erased_form y) x y (point_of a) inside (point_of c) inside' (h, p.parts, form-numbers x t a.node b.node n) (refl, q.parts, form-numbers y u c.node e.node m)
      (ap point_of o) own homes in
      let form = one.0 in
      let scopes = scopes-of inside inside' one.1 in
      let type = typed_as (form-sized T D p.inside q.inside x y f g base t u scopes form p.type q.type) in
      let known : with_scopes a.known p.inside ≡ with_scopes c.known q.inside = (λ i. with_scopes (o i).known (scopes i)) in
      let again = subst (λ (z : TypedForm). IsNameDeclared T file storage (home_of_form z) p.name.bytes t (with_scopes a.known p.inside) e.known) (sym form)
      (subst (λ (v : TypeId). IsNameDeclared T file storage (home_of_form y) p.name.bytes v (with_scopes a.known p.inside) e.known) (sym type)
      (subst (λ (k : Known). IsNameDeclared T file storage (home_of_form y) p.name.bytes u k e.known) (sym known) declares)) in
      let after = name-one T file storage (home_of_form x) p.name.bytes t (with_scopes a.known p.inside) b.known e.known one.2 p.declares again in
      (form, type, spot-same b e after.0 (node-of inside inside' one.1), after.1)

  -- Declarators of a declaration

  abbrev AreDeclaratorsRead : Bool → Storage → TypeId → tree.InitDeclarators → TypedInitDeclarators → Spot → Spot → Type 0
  AreDeclaratorsRead file storage base = IsReadIn erased_init_declarators made_by_init_declarators (AreDeclarators T file storage base)

  abbrev AreDeclaratorsUnique : tree.InitDeclarators → Type 0
  AreDeclaratorsUnique x = (file : Bool) (storage : Storage) (base : TypeId) → IsUniqueIn erased_init_declarators made_by_init_declarators (AreDeclarators T file storage base) x

  record IsInitialisedOf (file : Bool) (storage : Storage) (base : TypeId) (d : tree.Declarator) (at : Place) (x : tree.Initialiser) (form : TypedForm) (t : TypeId) (i : TypedInitialiser) (a b : Spot) : Type 0 where
    middle : Spot
    inside : Scopes
    erases : erased_form form ≡ d
    declares : IsDeclarator T file storage base (outermost_of (size_given (is_char_array T t) i)) form t a.known middle.known
    numbers : Numbers (made_by_form form t) a.node middle.node
    value : IsInitialiserRead T at t x i (point_of middle) (record { scopes = inside; node = b.node })
    known : IsInitialised T (home_of_form form) (with_scopes middle.known inside) (name_bytes (name_of_form form)) i b.known

  abbrev AreDeclaratorsOf : Bool → Storage → TypeId → tree.InitDeclarators → TypedInitDeclarators → Spot → Spot → Type 0
  AreDeclaratorsOf file storage base tree.NoInitDeclarator y a b = (y ≡ typed.NoInitDeclarator) × (b ≡ a)
  AreDeclaratorsOf file storage base (tree.AndPlain xs d) y a b =
      (all : TypedInitDeclarators) × (form : TypedForm) × (t : TypeId) × (m : Spot) × AreDeclaratorsRead file storage base xs all a m × (erased_form form ≡ d)
      × IsDeclarator T file storage base Written form t m.known b.known × Numbers (made_by_form form t) m.node b.node × (y ≡ typed.AndPlain all (typed.Declares form t))
  AreDeclaratorsOf file storage base (tree.AndInitialised xs d at x) y a b =
      (all : TypedInitDeclarators) × (form : TypedForm) × (t : TypeId) × (i : TypedInitialiser) × (m : Spot) × AreDeclaratorsRead file storage base xs all a m
      × IsInitialisedOf file storage base d at x form t i m b × (y ≡ typed.AndInitialised all (typed.Declares form t) at i)

  declarators_of : (file : Bool) (storage : Storage) (base : TypeId) (y : TypedInitDeclarators) (a b : Spot) → AreDeclarators T file storage base y a.known b.known
      → Numbers (made_by_init_declarators y) a.node b.node → AreDeclaratorsOf file storage base (erased_init_declarators y) y a b
  declarators_of file storage base typed.NoInitDeclarator a b h k = (refl, spot-same b a h k)
  declarators_of file storage base (typed.AndPlain all (typed.Declares form t)) a b h k =
      let cut = two-parts (made_by_init_declarators all) (made_by_form form t) a.node b.node k in
      (all, form, t, record { known = h.0; node = cut.0 }, (refl, h.1, cut.1), refl, h.2, cut.2, refl)
  declarators_of file storage base (typed.AndInitialised all (typed.Declares form t) at i) a b h k =
      let cut = two-parts (made_by_init_declarators all ++ made_by_form form t) (made_by_initialiser i) a.node b.node k in
      let first = two-parts (made_by_init_declarators all) (made_by_form form t) a.node cut.0 cut.1 in (
        all,
        form,
        t,
        i,
        record { known = h.0; node = first.0 },
        (refl, h.3, first.1),
        record { middle = record { known = h.1; node = cut.0 }; inside = h.2; erases = refl; declares = h.4; numbers = first.2; value = (refl, h.5, cut.2); known = h.6 },
        refl,
      )

  are_declarators : (file : Bool) (storage : Storage) (base : TypeId) (x : tree.InitDeclarators) (y : TypedInitDeclarators) (a b : Spot) → AreDeclaratorsRead file storage base x y a b
      → AreDeclaratorsOf file storage base x y a b
  are_declarators file storage base x y a b h = subst (λ (w : tree.InitDeclarators). AreDeclaratorsOf file storage base w y a b) h.0 (declarators_of file storage base y a b h.1 h.2)

  no_declarator : AreDeclaratorsUnique tree.NoInitDeclarator
  no_declarator file storage base y z a b c d h k o own =
      let left = are_declarators file storage base tree.NoInitDeclarator y a b h in
      let right = are_declarators file storage base tree.NoInitDeclarator z c d k in
      (left.0 ∙ sym right.0, left.1 ∙ o ∙ sym right.1, subst OwnSpot (sym left.1) own)

  pub same-sized : (t u : TypeId) → AreSized T D None None t u → t ≡ u
  same-sized t u (inl h) = h
  same-sized t u (inr h) = absurd (let e : ◌≡◌ {A = Option ℕ} None (Some h.0) = h.3 in cc)

  plain_declarator : (xs : tree.InitDeclarators) (x : tree.Declarator) → AreDeclaratorsUnique xs → AreDeclaratorsUnique (tree.AndPlain xs x)
  plain_declarator xs x u file storage base y z a b c d h k o own =
      let left = are_declarators file storage base (tree.AndPlain xs x) y a b h in
      let right = are_declarators file storage base (tree.AndPlain xs x) z c d k in
      let first = u file storage base left.0 right.0 a left.3 c right.3 left.4 right.4 o own in
      let second = declarator-one file storage base None None left.1 right.1 left.2 right.2 left.3 b right.3 d (left.5 ∙ sym right.5) left.6 left.7 right.6 right.7 first.1 first.2 (same-sized left.2 right.2) in
      let before = first.0 in
      let form = second.0 in
      let type = second.1 in
      let whole : typed.AndPlain left.0 (typed.Declares left.1 left.2) ≡ typed.AndPlain right.0 (typed.Declares right.1 right.2) = (λ i. typed.AndPlain (before i) (typed.Declares (form i) (type i))) in
      (left.8 ∙ whole ∙ sym right.8, second.2, second.3)

  defined_once : (b : Bool) (name : Name) (k p q : Known) → OwnKnown k → IsDefinedOnce b name k p → IsDefinedOnce b name k q → (p ≡ q) × OwnKnown p
  defined_once true name k p q own h j = (h.1 ∙ sym j.1, subst OwnKnown (sym h.1) own)
  defined_once false name k p q own h j = (h ∙ sym j, subst OwnKnown (sym h) own)

  initialised_one : (x : Home) (k : Known) (name : Name) (i : TypedInitialiser) (p q : Known) → OwnKnown k → IsInitialised T x k name i p → IsInitialised T x k name i q → (p ≡ q) × OwnKnown p
  initialised_one (home.Local n) k name i p q own h j = (h ∙ sym j, subst OwnKnown (sym h) own)
  initialised_one (home.Static n) k name i p q own h j = defined_once (is_linked_home (entry_of k.linked name) n) name k p q own h.1 j.1
  initialised_one (home.Known n) k name i p q own h j = defined_once (is_linked_home (entry_of k.linked name) n) name k p q own h.1 j.1
  initialised_one home.None k name i p q own h j = absurd h
  initialised_one (home.Parameter n) k name i p q own h j = absurd h

  initialised_declarator : (xs : tree.InitDeclarators) (x : tree.Declarator) (at : Place) (v : tree.Initialiser) → AreDeclaratorsUnique xs → AreDeclaratorsUnique (tree.AndInitialised xs x at v)
  initialised_declarator xs x at v u file storage base y z a b c d h k o own =
      let left = are_declarators file storage base (tree.AndInitialised xs x at v) y a b h in
      let right = are_declarators file storage base (tree.AndInitialised xs x at v) z c d k in
      let p = left.6 in
      let q = right.6 in
      let inside : Point = record { scopes = p.inside; node = b.node } in
      let inside' : Point = record { scopes = q.inside; node = d.node } in
      let first = u file storage base left.0 right.0 a left.4 c right.4 left.5 right.5 o own in
      let second = declarator-one file storage base (size_given (is_char_array T left.2) left.3) (size_given (is_char_array T right.2) right.3) left.1 right.1 left.2 right.2 left.4 p.middle right.4 q.middle
      (p.erases ∙ sym q.erases) p.declares p.numbers q.declares q.numbers first.1 first.2
      (sized-one T D left.2 right.2 left.3 right.3 (p.value.0 ∙ sym q.value.0) (at, point_of p.middle, inside, p.value.1, p.value.2) (at, point_of q.middle, inside', q.value.1, q.value.2)) in
      let third = initialiser-one T D v at at left.2 right.2 left.3 right.3 (point_of p.middle) inside (point_of q.middle) inside' refl second.1 p.value q.value (ap point_of second.2) second.3 in
      let before = first.0 in
      let form = second.0 in
      let type = second.1 in
      let value = third.0 in
      let middle = second.2 in
      let scopes = scopes-of inside inside' third.1 in
      let known : with_scopes p.middle.known p.inside ≡ with_scopes q.middle.known q.inside = (λ i. with_scopes (middle i).known (scopes i)) in
      let again = subst (λ (f : TypedForm). IsInitialised T (home_of_form f) (with_scopes p.middle.known p.inside) (name_bytes (name_of_form f)) left.3 d.known) (sym form)
      (subst (λ (s : Known). IsInitialised T (home_of_form right.1) s (name_bytes (name_of_form right.1)) left.3 d.known) (sym known)
      (subst (λ (i : TypedInitialiser). IsInitialised T (home_of_form right.1) (with_scopes q.middle.known q.inside) (name_bytes (name_of_form right.1)) i d.known) (sym value) q.known)) in
      let last = initialised_one (home_of_form left.1) (with_scopes p.middle.known p.inside) (name_bytes (name_of_form left.1)) left.3 b.known d.known third.2 p.known again in
      let whole : typed.AndInitialised left.0 (typed.Declares left.1 left.2) at left.3 ≡ typed.AndInitialised right.0 (typed.Declares right.1 right.2) at right.3 =
      (λ i. typed.AndInitialised (before i) (typed.Declares (form i) (type i)) at (value i)) in
      (left.7 ∙ whole ∙ sym right.7, spot-same b d last.0 (node-of inside inside' third.1), last.1)

  declarators_one : (x : tree.InitDeclarators) → AreDeclaratorsUnique x
  declarators_one tree.NoInitDeclarator = no_declarator
  declarators_one (tree.AndPlain xs x) = plain_declarator xs x (declarators_one xs)
  declarators_one (tree.AndInitialised xs x at v) = initialised_declarator xs x at v (declarators_one xs)

  -- Declarations

  abbrev IsDeclarationRead : Bool → tree.Declaration → TypedDeclaration → Spot → Spot → Type 0
  IsDeclarationRead file = IsReadIn erased_declaration made_by_declaration (IsDeclaration T file)

  -- specifiers with declarators
  record IsFull (file : Bool) (specifiers : tree.Specifiers) (all : tree.InitDeclarators) (y : TypedDeclaration) (a b : Spot) : Type 0 where
    words : TypedSpecifiers
    list : TypedInitDeclarators
    middle : Point
    first : IsReadAs erased_specifiers made_by_specifiers (AreSpecifiers T) specifiers words (point_of a) middle
    second : AreDeclaratorsRead file (storage_of words) (specified_type words) all list (record { known = with_scopes a.known middle.scopes; node = middle.node }) b
    whole : y ≡ typed.Declare words list

  record IsSparse (specifiers : tree.Specifiers) (y : TypedDeclaration) (a b : Spot) : Type 0 where
    words : TypedSpecifiers
    inside : Scopes
    only : IsReadAs erased_specifiers made_by_specifiers (AreAlone T) specifiers words (point_of a) (record { scopes = inside; node = b.node })
    known : b.known ≡ with_scopes a.known inside
    whole : y ≡ typed.Declare words typed.NoInitDeclarator

  abbrev IsDeclarationOf : Bool → tree.Declaration → TypedDeclaration → Spot → Spot → Type 0
  IsDeclarationOf file (tree.Declare specifiers tree.NoInitDeclarator) y a b = IsSparse specifiers y a b
  IsDeclarationOf file (tree.Declare specifiers (tree.AndPlain xs x)) y a b = IsFull file specifiers (tree.AndPlain xs x) y a b
  IsDeclarationOf file (tree.Declare specifiers (tree.AndInitialised xs x at v)) y a b = IsFull file specifiers (tree.AndInitialised xs x at v) y a b

  full : (file : Bool) (words : TypedSpecifiers) (list : TypedInitDeclarators) (s : Scopes) (a b : Spot) → AreSpecifiers T words a.known.scopes s
      → AreDeclarators T file (storage_of words) (specified_type words) list (with_scopes a.known s) b.known → Numbers (made_by_specifiers words ++ made_by_init_declarators list) a.node b.node
      → IsFull file (erased_specifiers words) (erased_init_declarators list) (typed.Declare words list) a b
  full file words list s a b h k n =
      let cut = two-parts (made_by_specifiers words) (made_by_init_declarators list) a.node b.node n in
      record { words = words; list = list; middle = record { scopes = s; node = cut.0 }; first = (refl, h, cut.1); second = (refl, k, cut.2); whole = refl }

  declaration_of : (file : Bool) (y : TypedDeclaration) (a b : Spot) → IsDeclaration T file y a.known b.known → Numbers (made_by_declaration y) a.node b.node
      → IsDeclarationOf file (erased_declaration y) y a b
  declaration_of file (typed.Declare words typed.NoInitDeclarator) a b h k =
      let cut = two-parts (made_by_specifiers words) [] a.node b.node k in
      record { words = words; inside = h.0; only = (refl, h.1, subst (Numbers (made_by_specifiers words) a.node) (sym cut.2) cut.1); known = h.2; whole = refl }
  declaration_of file (typed.Declare words (typed.AndPlain all (typed.Declares form t))) a b h k = full file words (typed.AndPlain all (typed.Declares form t)) h.0 a b h.1 h.2 k
  declaration_of file (typed.Declare words (typed.AndInitialised all (typed.Declares form t) at i)) a b h k =
      full file words (typed.AndInitialised all (typed.Declares form t) at i) h.0 a b h.1 h.2 k

  is_declaration : (file : Bool) (x : tree.Declaration) (y : TypedDeclaration) (a b : Spot) → IsDeclarationRead file x y a b → IsDeclarationOf file x y a b
  is_declaration file x y a b h = subst (λ (w : tree.Declaration). IsDeclarationOf file w y a b) h.0 (declaration_of file y a b h.1 h.2)

  sparse_one : (specifiers : tree.Specifiers) (y z : TypedDeclaration) (a b c d : Spot) → IsSparse specifiers y a b → IsSparse specifiers z c d → a ≡ c → OwnSpot a → (y ≡ z) × (b ≡ d) × OwnSpot b
  sparse_one specifiers y z a b c d h k o own =
      let inside : Point = record { scopes = h.inside; node = b.node } in
      let inside' : Point = record { scopes = k.inside; node = d.node } in
      let one = alone-one T D specifiers h.words k.words (point_of a) inside (point_of c) inside' h.only k.only (ap point_of o) own in
      let scopes = scopes-of inside inside' one.1 in
      let known : with_scopes a.known h.inside ≡ with_scopes c.known k.inside = (λ i. with_scopes (o i).known (scopes i)) in (
        h.whole ∙ ap (λ (w : TypedSpecifiers). typed.Declare w typed.NoInitDeclarator) one.0 ∙ sym k.whole,
        spot-same b d (h.known ∙ known ∙ sym k.known) (node-of inside inside' one.1),
        subst OwnKnown (sym h.known) one.2,
      )

  full_one : (file : Bool) (specifiers : tree.Specifiers) (all : tree.InitDeclarators) (y z : TypedDeclaration) (a b c d : Spot) → IsFull file specifiers all y a b → IsFull file specifiers all z c d
      → a ≡ c → OwnSpot a → (y ≡ z) × (b ≡ d) × OwnSpot b
  full_one file specifiers all y z a b c d h k o own =
      let one = specifiers-unique T D specifiers (list-one T D specifiers) h.words k.words (point_of a) h.middle (point_of c) k.middle h.first k.first (ap point_of o) own in
      let words = one.0 in
      let middle = one.1 in
      let begin : Spot = record { known = with_scopes a.known h.middle.scopes; node = h.middle.node } in
      let begin' : Spot = record { known = with_scopes c.known k.middle.scopes; node = k.middle.node } in
      let start : begin ≡ begin' = (λ i. record { known = with_scopes (o i).known (middle i).scopes; node = (middle i).node }) in
      let again = subst (λ (w : TypedSpecifiers). AreDeclaratorsRead file (storage_of w) (specified_type w) all k.list begin' d) (sym words) k.second in
      let two = declarators_one all file (storage_of h.words) (specified_type h.words) h.list k.list begin b begin' d h.second again start one.2 in
      let list = two.0 in
      let whole : typed.Declare h.words h.list ≡ typed.Declare k.words k.list = (λ i. typed.Declare (words i) (list i)) in
      (h.whole ∙ whole ∙ sym k.whole, two.1, two.2)

  -- a declaration has one typed tree
  pub declaration-one : (file : Bool) (x : tree.Declaration) → IsUniqueIn erased_declaration made_by_declaration (IsDeclaration T file) x
  declaration-one file (tree.Declare specifiers tree.NoInitDeclarator) y z a b c d h k o own =
      sparse_one specifiers y z a b c d (is_declaration file (tree.Declare specifiers tree.NoInitDeclarator) y a b h) (is_declaration file (tree.Declare specifiers tree.NoInitDeclarator) z c d k) o own
  declaration-one file (tree.Declare specifiers (tree.AndPlain xs x)) y z a b c d h k o own =
      full_one file specifiers (tree.AndPlain xs x) y z a b c d (is_declaration file (tree.Declare specifiers (tree.AndPlain xs x)) y a b h)
      (is_declaration file (tree.Declare specifiers (tree.AndPlain xs x)) z c d k) o own
  declaration-one file (tree.Declare specifiers (tree.AndInitialised xs x at v)) y z a b c d h k o own =
      full_one file specifiers (tree.AndInitialised xs x at v) y z a b c d (is_declaration file (tree.Declare specifiers (tree.AndInitialised xs x at v)) y a b h)
      (is_declaration file (tree.Declare specifiers (tree.AndInitialised xs x at v)) z c d k) o own
