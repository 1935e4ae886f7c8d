-- What the name of a declarator is declared as: its home, apart from the node of the home, and what is known after it.
use Rattle.std.proofs.Common.{◌≡◌, Bool, true, false, Option, Some, None, refl, ap, sym, subst, ◌∙◌}
use Rattle.cc_base.specs.declared.number.NodeId.{NodeId}
use Rattle.cc_base.specs.declared.number.TypeId.{TypeId}
use Rattle.c_types.specs.Table.{Table, shape_at}
use Rattle.c_tree.specs.declared.typed_word.Home.{Home}
use Rattle.c_tree.specs.declared.typed_word.Home.TheVariants as home
use Rattle.c_typing.specs.declared.declared.Declared.{Declared}
use Rattle.c_typing.specs.declared.declared.Declared.TheVariants as declared
use Rattle.c_typing.specs.Scopes.{Name, Scopes, entry_of, here}
use Rattle.c_typing.specs.Shapes.{is_function_shape}
use Rattle.c_typing.specs.Typing.{IsNewName}
use Rattle.c_typing_unique.specs.Sameness.{AreHomesAlike, HasOwnFunctions}
use Rattle.c_typing_unique.proofs.DeclaratorSteps.{homes-none, one-node}
use Rattle.c_unit_typing.specs.Initialisers.{with_home}
use Rattle.c_unit_typing.specs.Units.{Known, with_scopes, Storage, Unstored, AsTypedef, AsExtern, AsStatic, AsAutomatic, unless_here, unless_linked, IsLinkedHome, IsLinked, IsLinkedObject, IsStaticOrLocal, IsFunctionDeclared, IsObjectDeclared, IsTypedefDeclared, IsOrdinaryDeclared, IsNameDeclared}

abbrev pub OwnKnown : Known → Type 0
OwnKnown k = HasOwnFunctions k.scopes

linked_homes : (o : Option Declared) (x y : Home) (n m : NodeId) → IsLinkedHome o x n → IsLinkedHome o y m → AreHomesAlike x y
linked_homes None (home.Static a) (home.Static b) n m h k = (refl, λ e. ap home.Static (one-node a b e))
linked_homes None (home.Static a) home.None n m h k = absurd k
linked_homes None (home.Static a) (home.Local b) n m h k = absurd k
linked_homes None (home.Static a) (home.Parameter b) n m h k = absurd k
linked_homes None (home.Static a) (home.Known b) n m h k = absurd k
linked_homes None home.None y n m h k = absurd h
linked_homes None (home.Local a) y n m h k = absurd h
linked_homes None (home.Parameter a) y n m h k = absurd h
linked_homes None (home.Known a) y n m h k = absurd h
linked_homes (Some (declared.Object t c)) (home.Known a) (home.Known b) n m h k = (refl, λ e. ap home.Known (sym h.0 ∙ k.0))
linked_homes (Some (declared.Object t c)) (home.Known a) home.None n m h k = absurd k
linked_homes (Some (declared.Object t c)) (home.Known a) (home.Static b) n m h k = absurd k
linked_homes (Some (declared.Object t c)) (home.Known a) (home.Local b) n m h k = absurd k
linked_homes (Some (declared.Object t c)) (home.Known a) (home.Parameter b) n m h k = absurd k
linked_homes (Some (declared.Object t c)) home.None y n m h k = absurd h
linked_homes (Some (declared.Object t c)) (home.Static a) y n m h k = absurd h
linked_homes (Some (declared.Object t c)) (home.Local a) y n m h k = absurd h
linked_homes (Some (declared.Object t c)) (home.Parameter a) y n m h k = absurd h
linked_homes (Some (declared.Typedef t)) x y n m h k = absurd h
linked_homes (Some (declared.Function t)) x y n m h k = absurd h
linked_homes (Some (declared.Enumerator z)) x y n m h k = absurd h

linked_node : (o : Option Declared) (x : Home) (n m : NodeId) → IsLinkedHome o x n → IsLinkedHome o x m → n ≡ m
linked_node None (home.Static a) n m h k = sym h ∙ k
linked_node None home.None n m h k = absurd h
linked_node None (home.Local a) n m h k = absurd h
linked_node None (home.Parameter a) n m h k = absurd h
linked_node None (home.Known a) n m h k = absurd h
linked_node (Some (declared.Object t c)) (home.Known a) n m h k = sym h.1 ∙ k.1
linked_node (Some (declared.Object t c)) home.None n m h k = absurd h
linked_node (Some (declared.Object t c)) (home.Static a) n m h k = absurd h
linked_node (Some (declared.Object t c)) (home.Local a) n m h k = absurd h
linked_node (Some (declared.Object t c)) (home.Parameter a) n m h k = absurd h
linked_node (Some (declared.Typedef t)) x n m h k = absurd h
linked_node (Some (declared.Function t)) x n m h k = absurd h
linked_node (Some (declared.Enumerator z)) x n m h k = absurd h

new_same : (name : Name) (what : Declared) (s p q : Scopes) → HasOwnFunctions s → IsNewName name what s p → IsNewName name what s q → (p ≡ q) × HasOwnFunctions p
new_same name what s p q own h k = (h.after ∙ sym k.after, subst HasOwnFunctions (sym h.after) own)

here_own : (o : Option Declared) (name : Name) (what : Declared) (s : Scopes) → HasOwnFunctions s → HasOwnFunctions (unless_here o name what s)
here_own None name what s own = own
here_own (Some first) name what s own = own

module _ (T : Table) where
  linked_one : (name : Name) (what with : Declared) (k p q : Known) → what ≡ with → OwnKnown k → IsLinked T name what k p → IsLinked T name with k q → (p ≡ q) × OwnKnown p
  linked_one name what with k p q e own h j = (
    h.after
        ∙ ap (λ (w : Declared). record k { scopes = unless_here (here k.scopes.levels name) name w k.scopes; linked = unless_linked (entry_of k.linked name) name w k.linked }) e
        ∙ sym j.after,
    subst OwnKnown (sym h.after) (here_own (here k.scopes.levels name) name what k.scopes own),
  )

  block_homes : (storage : Storage) (x y : Home) (name : Name) (t u : TypeId) (k p l q : Known) → IsStaticOrLocal T storage x name t k p → IsStaticOrLocal T storage y name u l q → AreHomesAlike x y
  block_homes AsStatic (home.Static a) (home.Static b) name t u k p l q h j = (refl, λ e. ap home.Static (one-node a b e))
  block_homes AsStatic (home.Static a) home.None name t u k p l q h j = absurd j
  block_homes AsStatic (home.Static a) (home.Local b) name t u k p l q h j = absurd j
  block_homes AsStatic (home.Static a) (home.Parameter b) name t u k p l q h j = absurd j
  block_homes AsStatic (home.Static a) (home.Known b) name t u k p l q h j = absurd j
  block_homes AsStatic home.None y name t u k p l q h j = absurd h
  block_homes AsStatic (home.Local a) y name t u k p l q h j = absurd h
  block_homes AsStatic (home.Parameter a) y name t u k p l q h j = absurd h
  block_homes AsStatic (home.Known a) y name t u k p l q h j = absurd h
  block_homes Unstored (home.Local a) (home.Local b) name t u k p l q h j = (refl, λ e. ap home.Local (one-node a b e))
  block_homes Unstored (home.Local a) home.None name t u k p l q h j = absurd j
  block_homes Unstored (home.Local a) (home.Static b) name t u k p l q h j = absurd j
  block_homes Unstored (home.Local a) (home.Parameter b) name t u k p l q h j = absurd j
  block_homes Unstored (home.Local a) (home.Known b) name t u k p l q h j = absurd j
  block_homes Unstored home.None y name t u k p l q h j = absurd h
  block_homes Unstored (home.Static a) y name t u k p l q h j = absurd h
  block_homes Unstored (home.Parameter a) y name t u k p l q h j = absurd h
  block_homes Unstored (home.Known a) y name t u k p l q h j = absurd h
  block_homes AsAutomatic (home.Local a) (home.Local b) name t u k p l q h j = (refl, λ e. ap home.Local (one-node a b e))
  block_homes AsAutomatic (home.Local a) home.None name t u k p l q h j = absurd j
  block_homes AsAutomatic (home.Local a) (home.Static b) name t u k p l q h j = absurd j
  block_homes AsAutomatic (home.Local a) (home.Parameter b) name t u k p l q h j = absurd j
  block_homes AsAutomatic (home.Local a) (home.Known b) name t u k p l q h j = absurd j
  block_homes AsAutomatic home.None y name t u k p l q h j = absurd h
  block_homes AsAutomatic (home.Static a) y name t u k p l q h j = absurd h
  block_homes AsAutomatic (home.Parameter a) y name t u k p l q h j = absurd h
  block_homes AsAutomatic (home.Known a) y name t u k p l q h j = absurd h
  block_homes AsExtern x y name t u k p l q h j = absurd h
  block_homes AsTypedef x y name t u k p l q h j = absurd h

  block_one : (storage : Storage) (x : Home) (name : Name) (t : TypeId) (k p q : Known) → OwnKnown k → IsStaticOrLocal T storage x name t k p → IsStaticOrLocal T storage x name t k q
      → (p ≡ q) × OwnKnown p
  block_one AsStatic (home.Static a) name t k p q own h j = let s = new_same name (declared.Object t a) k.scopes h.0 j.0 own h.1.fresh j.1.fresh in
      (h.2 ∙ ap (λ (c : Scopes). record k { scopes = c; statics = with_home a k.statics }) s.0 ∙ sym j.2, subst (λ (c : Known). HasOwnFunctions c.scopes) (sym h.2) s.1)
  block_one AsStatic home.None name t k p q own h j = absurd h
  block_one AsStatic (home.Local a) name t k p q own h j = absurd h
  block_one AsStatic (home.Parameter a) name t k p q own h j = absurd h
  block_one AsStatic (home.Known a) name t k p q own h j = absurd h
  block_one Unstored (home.Local a) name t k p q own h j = let s = new_same name (declared.Object t a) k.scopes h.0 j.0 own h.1.fresh j.1.fresh in
      (h.2 ∙ ap (with_scopes k) s.0 ∙ sym j.2, subst (λ (c : Known). HasOwnFunctions c.scopes) (sym h.2) s.1)
  block_one Unstored home.None name t k p q own h j = absurd h
  block_one Unstored (home.Static a) name t k p q own h j = absurd h
  block_one Unstored (home.Parameter a) name t k p q own h j = absurd h
  block_one Unstored (home.Known a) name t k p q own h j = absurd h
  block_one AsAutomatic (home.Local a) name t k p q own h j = let s = new_same name (declared.Object t a) k.scopes h.0 j.0 own h.1.fresh j.1.fresh in
      (h.2 ∙ ap (with_scopes k) s.0 ∙ sym j.2, subst (λ (c : Known). HasOwnFunctions c.scopes) (sym h.2) s.1)
  block_one AsAutomatic home.None name t k p q own h j = absurd h
  block_one AsAutomatic (home.Static a) name t k p q own h j = absurd h
  block_one AsAutomatic (home.Parameter a) name t k p q own h j = absurd h
  block_one AsAutomatic (home.Known a) name t k p q own h j = absurd h
  block_one AsExtern x name t k p q own h j = absurd h
  block_one AsTypedef x name t k p q own h j = absurd h

  function_home : (x : Home) (name : Name) (t : TypeId) (k p : Known) → IsFunctionDeclared T x name t k p → x ≡ home.None
  function_home home.None name t k p h = refl
  function_home (home.Static a) name t k p h = absurd h
  function_home (home.Local a) name t k p h = absurd h
  function_home (home.Parameter a) name t k p h = absurd h
  function_home (home.Known a) name t k p h = absurd h

  function_one : (x : Home) (name : Name) (t : TypeId) (k p q : Known) → OwnKnown k → IsFunctionDeclared T x name t k p → IsFunctionDeclared T x name t k q → (p ≡ q) × OwnKnown p
  function_one home.None name t k p q own h j = linked_one name (declared.Function t) (declared.Function t) k p q refl own h j
  function_one (home.Static a) name t k p q own h j = absurd h
  function_one (home.Local a) name t k p q own h j = absurd h
  function_one (home.Parameter a) name t k p q own h j = absurd h
  function_one (home.Known a) name t k p q own h j = absurd h

  object_one : (name : Name) (x : Home) (t : TypeId) (k p q : Known) → OwnKnown k → IsLinkedObject T name x t k p → IsLinkedObject T name x t k q → (p ≡ q) × OwnKnown p
  object_one name x t k p q own h j =
      let node = linked_node (entry_of k.linked name) x h.node j.node h.home j.home in
      let middle = linked_one name (declared.Object t h.node) (declared.Object t j.node) k h.middle j.middle (ap (declared.Object t) node) own h.linked j.linked in
      let same = middle.0 in
      let after : (record h.middle { statics = with_home h.node h.middle.statics }) ≡ (record j.middle { statics = with_home j.node j.middle.statics }) =
      (λ i. record (same i) { statics = with_home (node i) (same i).statics }) in
      (h.after ∙ after ∙ sym j.after, subst OwnKnown (sym h.after) middle.1)

  typedef_home : (file : Bool) (x : Home) (name : Name) (t : TypeId) (k p : Known) → IsTypedefDeclared file x name t k p → x ≡ home.None
  typedef_home file home.None name t k p h = refl
  typedef_home file (home.Static a) name t k p h = absurd h
  typedef_home file (home.Local a) name t k p h = absurd h
  typedef_home file (home.Parameter a) name t k p h = absurd h
  typedef_home file (home.Known a) name t k p h = absurd h

  typedef_one : (file : Bool) (x : Home) (name : Name) (t : TypeId) (k p q : Known) → OwnKnown k → IsTypedefDeclared file x name t k p → IsTypedefDeclared file x name t k q
      → (p ≡ q) × OwnKnown p
  typedef_one file home.None name t k p q own h j =
      let s = new_same name (declared.Typedef t) k.scopes h.0 j.0 own h.1 j.1 in
      (h.2 ∙ ap (with_scopes k) s.0 ∙ sym j.2, subst OwnKnown (sym h.2) s.1)
  typedef_one file (home.Static a) name t k p q own h j = absurd h
  typedef_one file (home.Local a) name t k p q own h j = absurd h
  typedef_one file (home.Parameter a) name t k p q own h j = absurd h
  typedef_one file (home.Known a) name t k p q own h j = absurd h

  -- objects

  object_homes : (file : Bool) (storage : Storage) (x y : Home) (name : Name) (t u : TypeId) (k p l q : Known) → entry_of k.linked name ≡ entry_of l.linked name
      → IsObjectDeclared T file storage x name t k p → IsObjectDeclared T file storage y name u l q → AreHomesAlike x y
  object_homes true storage x y name t u k p l q e h j =
      linked_homes (entry_of k.linked name) x y h.node j.node h.home (subst (λ (o : Option Declared). IsLinkedHome o y j.node) (sym e) j.home)
  object_homes false AsExtern x y name t u k p l q e h j =
      linked_homes (entry_of k.linked name) x y h.node j.node h.home (subst (λ (o : Option Declared). IsLinkedHome o y j.node) (sym e) j.home)
  object_homes false AsStatic x y name t u k p l q e h j = block_homes AsStatic x y name t u k p l q h j
  object_homes false Unstored x y name t u k p l q e h j = block_homes Unstored x y name t u k p l q h j
  object_homes false AsAutomatic x y name t u k p l q e h j = block_homes AsAutomatic x y name t u k p l q h j
  object_homes false AsTypedef x y name t u k p l q e h j = block_homes AsTypedef x y name t u k p l q h j

  declared_object_one : (file : Bool) (storage : Storage) (x : Home) (name : Name) (t : TypeId) (k p q : Known) → OwnKnown k → IsObjectDeclared T file storage x name t k p
      → IsObjectDeclared T file storage x name t k q → (p ≡ q) × OwnKnown p
  declared_object_one true storage x name t k p q own h j = object_one name x t k p q own h j
  declared_object_one false AsExtern x name t k p q own h j = object_one name x t k p q own h j
  declared_object_one false AsStatic x name t k p q own h j = block_one AsStatic x name t k p q own h j
  declared_object_one false Unstored x name t k p q own h j = block_one Unstored x name t k p q own h j
  declared_object_one false AsAutomatic x name t k p q own h j = block_one AsAutomatic x name t k p q own h j
  declared_object_one false AsTypedef x name t k p q own h j = block_one AsTypedef x name t k p q own h j

  ordinary_homes : (function file : Bool) (storage : Storage) (x y : Home) (name : Name) (t u : TypeId) (k p l q : Known) → entry_of k.linked name ≡ entry_of l.linked name
      → IsOrdinaryDeclared function T file storage x name t k p → IsOrdinaryDeclared function T file storage y name u l q → AreHomesAlike x y
  ordinary_homes true file storage x y name t u k p l q e h j = homes-none x y (function_home x name t k p h) (function_home y name u l q j)
  ordinary_homes false file storage x y name t u k p l q e h j = object_homes file storage x y name t u k p l q e h j

  ordinary_one : (function file : Bool) (storage : Storage) (x : Home) (name : Name) (t : TypeId) (k p q : Known) → OwnKnown k → IsOrdinaryDeclared function T file storage x name t k p
      → IsOrdinaryDeclared function T file storage x name t k q → (p ≡ q) × OwnKnown p
  ordinary_one true file storage x name t k p q own h j = function_one x name t k p q own h j
  ordinary_one false file storage x name t k p q own h j = declared_object_one file storage x name t k p q own h j

  functions : (file : Bool) (storage : Storage) (y : Home) (name : Name) (t u : TypeId) (l q : Known) → is_function_shape (shape_at T t) ≡ is_function_shape (shape_at T u)
      → IsOrdinaryDeclared (is_function_shape (shape_at T u)) T file storage y name u l q → IsOrdinaryDeclared (is_function_shape (shape_at T t)) T file storage y name u l q
  functions file storage y name t u l q e h = subst (λ (b : Bool). IsOrdinaryDeclared b T file storage y name u l q) (sym e) h

  -- two declarations of one name, as functions both or not, have homes of one sort
  pub name-homes : (file : Bool) (storage : Storage) (x y : Home) (name : Name) (t u : TypeId) (k p l q : Known) → is_function_shape (shape_at T t) ≡ is_function_shape (shape_at T u)
      → entry_of k.linked name ≡ entry_of l.linked name → IsNameDeclared T file storage x name t k p → IsNameDeclared T file storage y name u l q → AreHomesAlike x y
  name-homes file AsTypedef x y name t u k p l q f e h j = homes-none x y (typedef_home file x name t k p h) (typedef_home file y name u l q j)
  name-homes file Unstored x y name t u k p l q f e h j = ordinary_homes (is_function_shape (shape_at T t)) file Unstored x y name t u k p l q e h (functions file Unstored y name t u l q f j)
  name-homes file AsExtern x y name t u k p l q f e h j = ordinary_homes (is_function_shape (shape_at T t)) file AsExtern x y name t u k p l q e h (functions file AsExtern y name t u l q f j)
  name-homes file AsStatic x y name t u k p l q f e h j = ordinary_homes (is_function_shape (shape_at T t)) file AsStatic x y name t u k p l q e h (functions file AsStatic y name t u l q f j)
  name-homes file AsAutomatic x y name t u k p l q f e h j = ordinary_homes (is_function_shape (shape_at T t)) file AsAutomatic x y name t u k p l q e h (functions file AsAutomatic y name t u l q f j)

  -- what is known after a declaration is one
  pub name-one : (file : Bool) (storage : Storage) (x : Home) (name : Name) (t : TypeId) (k p q : Known) → OwnKnown k → IsNameDeclared T file storage x name t k p
      → IsNameDeclared T file storage x name t k q → (p ≡ q) × OwnKnown p
  name-one file AsTypedef x name t k p q own h j = typedef_one file x name t k p q own h j
  name-one file Unstored x name t k p q own h j = ordinary_one (is_function_shape (shape_at T t)) file Unstored x name t k p q own h j
  name-one file AsExtern x name t k p q own h j = ordinary_one (is_function_shape (shape_at T t)) file AsExtern x name t k p q own h j
  name-one file AsStatic x name t k p q own h j = ordinary_one (is_function_shape (shape_at T t)) file AsStatic x name t k p q own h j
  name-one file AsAutomatic x name t k p q own h j = ordinary_one (is_function_shape (shape_at T t)) file AsAutomatic x name t k p q own h j
