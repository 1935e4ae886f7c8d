-- A name that the tree declares is declared by judging.
use Rattle.std.proofs.Common.{◌≡◌, ◌≤◌, ◌<◌, ◌+◌, Bool, true, false, List, [], ◌∷◌, ◌++◌, Option, Some, None, refl, ap, sym, subst, ◌∙◌, if◌then◌else◌}
use Rattle.cc_base.specs.declared.number.NodeId.{NodeId}
use Rattle.cc_base.specs.declared.number.TypeId.{TypeId}
use Rattle.c_types.specs.Layouts.{size_of}
use Rattle.c_types.specs.Table.{Table, IsType, shape_at}
use Rattle.c_tree.specs.declared.leaf.Identifier.{Identifier}
use Rattle.c_tree.specs.declared.typed_word.Home.{Home}
use Rattle.c_tree.specs.declared.typed_word.Home.TheVariants as home
use Rattle.c_typing.specs.declared.declared.Declared.{Declared}
use Rattle.c_typing.specs.declared.declared.Declared.TheVariants as declared
use Rattle.c_typing.specs.Scopes.{Scopes, entry_of}
use Rattle.c_typing.specs.Shapes.{is_function_shape}
use Rattle.c_typing_unique.proofs.Shapes.{no_true}
use Rattle.c_unit_typing.specs.DeclarationJudging.{object_name, declare_object, declare_by, declare, is_linked_object}
use Rattle.c_unit_typing.specs.Initialisers.{with_home, is_among}
use Rattle.c_unit_typing.specs.Units.{Known, Storage, Unstored, AsTypedef, AsExtern, AsStatic, AsAutomatic, with_scopes, IsLinkedHome, IsLinkedObject, IsOrdinaryDeclared, IsObjectDeclared, IsFunctionDeclared, IsTypedefDeclared, IsNameDeclared}
use Rattle.c_unit_typing.specs.UnitJudging.{UnitState, known_of}
use Rattle.c_unit_typing.proofs.DeclaredNames.{is_typedef}
use Rattle.c_unit_typing.proofs.NameSteps.{static_state, linked-there, home-own}
use Rattle.c_unit_given.proofs.UnitGiven.{IsUnitHere}
use Rattle.c_unit_given.proofs.NamesGiven.{home_cost, IsDeclaredGiven, IsMadeBelow, static-here, new-given, linked-given, static-given, known_linked, after-linked, whole-type}

module _ (T : Table) (name : Identifier) (t : TypeId) (s : UnitState) (k' : Known) (here : IsUnitHere T s) (there : IsType s.table t) where
  abbrev IsRoomFor : Home → Type 0
  IsRoomFor h = s.seen.globals + home_cost T h t ≤ 4194304

  linked_object : (first : Option Declared) (h : Home) (d : IsLinkedObject T name.bytes h t (known_of s) k') → entry_of s.linkage.linked name.bytes ≡ first → IsLinkedHome first h d.node
      → IsMadeBelow T s.seen.node h → IsRoomFor h → IsDeclaredGiven T (home_cost T h t) (declare_object true name t h s) s k'
  unfolding declare_object object_name
  linked_object (Some (declared.Object u n)) (home.Known m) d q l low room =
      let before = linked-there s here.unit name.bytes (declared.Object u n) q in
      let below : m.0 < s.seen.node = subst (λ (i : NodeId). i.0 < s.seen.node) l.0 before.1.0 in
      let among : is_among s.linkage.statics m ≡ true = subst (λ (i : NodeId). is_among s.linkage.statics i ≡ true) l.0 before.1.1 in
      let homes : with_home m s.linkage.statics ≡ s.linkage.statics = ap (λ (f : Bool). if f then s.linkage.statics else s.linkage.statics ++ m ∷ []) among in
      linked-given T name t s k' here there (declared.Object t m) (declare_object true name t (home.Known m) s) refl (there, (below, among)) below
      (ap (λ (ns : List NodeId). record (known_linked T name t s k' here there m) { statics = ns }) (sym homes) ∙ after-linked T name t s k' here there (home.Known m) d m l.1)
  linked_object None (home.Static n) d q l low room =
      let c = whole-type T name t s k' here there d.complete in
      let after : UnitState = static_state s (s.seen.globals + (size_of T t + 16)) n in
      static-given T name t s k' here there true n (declare_object true name t (home.Static n) s) refl c low room
      (linked-given T name t after k' (static-here T s (s.seen.globals + (size_of T t + 16)) n here) there (declared.Object t n) (object_name true name (declared.Object t n) after) refl
      (there, (low, home-own s.linkage.statics n)) low (after-linked T name t s k' here there (home.Static n) d n l))
  linked_object first h d q l low room = absurd l

  object_given : (file : Bool) (storage : Storage) (h : Home) → is_typedef storage ≡ false → IsObjectDeclared T file storage h name.bytes t (known_of s) k' → IsMadeBelow T s.seen.node h → IsRoomFor h
      → IsDeclaredGiven T (home_cost T h t) (declare_object (is_linked_object file storage) name t h s) s k'
  unfolding declare_object object_name
  object_given file AsTypedef h n d low room = no_true (sym n)
  object_given true storage h n d low room = linked_object (entry_of s.linkage.linked name.bytes) h d refl d.home low room
  object_given false AsExtern h n d low room = linked_object (entry_of s.linkage.linked name.bytes) h d refl d.home low room
  object_given false AsStatic (home.Static m) n d low room =
      let c = whole-type T name t s k' here there d.1.complete in
      let after : UnitState = static_state s (s.seen.globals + (size_of T t + 16)) m in
      static-given T name t s k' here there false m (declare_object false name t (home.Static m) s) refl c low room
      (new-given T name t after k' (static-here T s (s.seen.globals + (size_of T t + 16)) m here) there (declared.Object t m) (object_name false name (declared.Object t m) after) refl there low
      d.1.fresh.fresh (d.2 ∙ ap (λ (c : Scopes). record (known_of after) { scopes = c }) d.1.fresh.after))
  object_given false Unstored (home.Local m) n d low room =
      new-given T name t s k' here there (declared.Object t m) (declare_object false name t (home.Local m) s) refl there low d.1.fresh.fresh (d.2 ∙ ap (with_scopes (known_of s)) d.1.fresh.after)
  object_given false AsAutomatic (home.Local m) n d low room =
      new-given T name t s k' here there (declared.Object t m) (declare_object false name t (home.Local m) s) refl there low d.1.fresh.fresh (d.2 ∙ ap (with_scopes (known_of s)) d.1.fresh.after)
  object_given false storage h n d low room = absurd d

  function_given : (linked : Bool) (h : Home) → IsFunctionDeclared T h name.bytes t (known_of s) k' → IsDeclaredGiven T (home_cost T h t) (declare_by true linked name t h s) s k'
  unfolding declare_by
  function_given linked home.None d = linked-given T name t s k' here there (declared.Function t) (declare_by true linked name t home.None s) refl (there, tt) tt (sym d.after)
  function_given linked (home.Static m) d = absurd d
  function_given linked (home.Local m) d = absurd d
  function_given linked (home.Parameter m) d = absurd d
  function_given linked (home.Known m) d = absurd d

  ordinary_given : (f file : Bool) (storage : Storage) (h : Home) → is_typedef storage ≡ false → IsOrdinaryDeclared f T file storage h name.bytes t (known_of s) k' → IsMadeBelow T s.seen.node h → IsRoomFor h
      → IsDeclaredGiven T (home_cost T h t) (declare_by f (is_linked_object file storage) name t h s) s k'
  unfolding declare_by
  ordinary_given true file storage h n d low room = function_given (is_linked_object file storage) h d
  ordinary_given false file storage h n d low room = object_given file storage h n d low room

  typedef_given : (file : Bool) (h : Home) → IsTypedefDeclared file h name.bytes t (known_of s) k' → IsDeclaredGiven T (home_cost T h t) (declare file AsTypedef name t h s) s k'
  unfolding declare
  typedef_given file home.None d =
      new-given T name t s k' here there (declared.Typedef t) (declare file AsTypedef name t home.None s) refl there tt d.1.fresh (d.2 ∙ ap (with_scopes (known_of s)) d.1.after)
  typedef_given file (home.Static m) d = absurd d
  typedef_given file (home.Local m) d = absurd d
  typedef_given file (home.Parameter m) d = absurd d
  typedef_given file (home.Known m) d = absurd d

  abbrev IsDeclaring : Bool → Storage → Type 0
  IsDeclaring file storage =
      (h : Home) → IsNameDeclared T file storage h name.bytes t (known_of s) k' → IsMadeBelow T s.seen.node h → IsRoomFor h
      → IsDeclaredGiven T (home_cost T h t) (declare file storage name t h s) s k'

  as_shaped : is_function_shape (shape_at T t) ≡ is_function_shape (shape_at s.table t)
  as_shaped = ap is_function_shape (here.here.first.shapes t there)

  -- a name is declared, with its type and its home
  pub declare-given : (file : Bool) (storage : Storage) → IsDeclaring file storage
  unfolding declare
  declare-given file AsTypedef h d low room = typedef_given file h d
  declare-given file storage h d low room =
      subst (λ (f : Bool). IsDeclaredGiven T (home_cost T h t) (declare_by f (is_linked_object file storage) name t h s) s k') as_shaped
      (ordinary_given (is_function_shape (shape_at T t)) file storage h refl d low room)
