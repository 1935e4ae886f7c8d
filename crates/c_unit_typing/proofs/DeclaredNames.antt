-- A name is declared as the rules say, where its own are not broken: a typedef, a function, and each kind of object.
use Rattle.std.proofs.Common.{◌≡◌, ℕ, ◌<◌, ◌==◌, Bool, true, false, ◌&&◌, ◌||◌, List, [], ◌∷◌, ◌++◌, Option, Some, None, refl, ap, sym, subst, ◌∙◌, ◌⊎◌, inl, inr, if◌then◌else◌, IsTrue, MatchOption, arith}
use Rattle.std.proofs.lemmas.Bool.Decides.{nat_tests}
use Rattle.std.proofs.lemmas.Option.{none-some}
use Rattle.cc_base.specs.declared.number.NodeId.{NodeId}
use Rattle.cc_base.specs.declared.number.TypeId.{TypeId}
use Rattle.c_types.specs.Table.{Table, IsType, IsComplete, shape_at}
use Rattle.c_tree.specs.declared.leaf.Identifier.{Identifier}
use Rattle.c_tree.specs.declared.typed_word.Home.{Home}
use Rattle.c_tree.specs.declared.typed_word.Home.TheVariants as home
use Rattle.c_tree.specs.declared.typed_word.Runtime.{Runtime}
use Rattle.runtime_calls.specs.Prototypes.{IsNamed, IsNoName, runtime_of}
use Rattle.runtime_calls.proofs.Found.{runtime_of-exact}
use Rattle.c_typing.specs.declared.declared.Declared.{Declared}
use Rattle.c_typing.specs.declared.declared.Declared.TheVariants as declared
use Rattle.c_typing.specs.Scopes.{Name, here, entry_of, is_complete_at}
use Rattle.c_typing.specs.Shapes.{is_function_shape}
use Rattle.c_typing.specs.Tests.{has_some}
use Rattle.c_typing_laws.proofs.ConstructLaws.{not_false, or_left, or_right, either_false}
use Rattle.c_typing_laws.proofs.ExtensionLaws.{no_true, complete_kept}
use Rattle.c_unit_typing.specs.DeclarationJudging.{is_linked_object}
use Rattle.c_unit_typing.specs.Initialisers.{with_home}
use Rattle.c_unit_typing.specs.Units.{Known, Storage, Unstored, AsTypedef, AsExtern, AsStatic, AsAutomatic, is_one_of, is_linked_home, IsLinkedHome, IsLinkedObject, IsBlockObject, IsObjectDeclared, IsOrdinaryDeclared, IsNameDeclared}
use Rattle.c_unit_typing.specs.UnitJudged.{IsUnitKnown, UnitGoesOn, OverLater}
use Rattle.c_unit_typing.specs.UnitJudging.{UnitState, known_of}
use Rattle.c_unit_typing.specs.UnitRefusals.{conflicts, conflicts_with_runtime, declared_as, has_linkage, is_unlinked, is_redeclared, is_taken_by_runtime, is_lasting}
use Rattle.c_unit_typing.proofs.DeclaredAgain.{runtime-agrees, object-agrees, function-agrees}
use Rattle.c_unit_typing.proofs.NameSteps.{here-there, linked-there, home-own, named_state, linked_state, static_state, named-goes, linked-goes, static-goes}
use Rattle.c_unit_typing.proofs.UnitStates.{unit-on}

-- Rules that are not broken

pub record IsNotAgain (T : Table) (k : Known) (defines : Bool) (name : Name) (what : Declared) : Type 0 where
  pub here_same : conflicts T (here k.scopes.levels name) what ≡ false
  pub unlinked : is_unlinked (here k.scopes.levels name) (entry_of k.linked name) ≡ false
  pub linked_same : conflicts T (entry_of k.linked name) what ≡ false
  pub runtime_same : conflicts_with_runtime T (runtime_of name) what ≡ false
  pub once : (defines && is_one_of k.defined name) ≡ false

pub not-again : (T : Table) (k : Known) (defines : Bool) (name : Name) (what : Declared) → is_redeclared T k true defines name what ≡ false → IsNotAgain T k defines name what
not-again T k defines name what h =
    let a = conflicts T (here k.scopes.levels name) what in
    let b = is_unlinked (here k.scopes.levels name) (entry_of k.linked name) in
    let c = conflicts T (entry_of k.linked name) what in
    let d = conflicts_with_runtime T (runtime_of name) what in
    let e = defines && is_one_of k.defined name in
    let h1 = or_right a (b || (c || (d || e))) h in
    let h2 = or_right b (c || (d || e)) h1 in
    let h3 = or_right c (d || e) h2 in
    record {
      here_same = or_left a (b || (c || (d || e))) h;
      unlinked = or_left b (c || (d || e)) h1;
      linked_same = or_left c (d || e) h2;
      runtime_same = or_left d e h3;
      once = or_right d e h3;
    }

-- What declares an object or a function

abbrev pub is_typedef : Storage → Bool
is_typedef AsTypedef = true
is_typedef storage = false

ordinary-declared : (b : Bool) (T : Table) (file : Bool) (storage : Storage) (h : Home) (name : Name) (t : TypeId) (k k' : Known) → is_typedef storage ≡ false
    → is_function_shape (shape_at T t) ≡ b → IsOrdinaryDeclared b T file storage h name t k k' → IsNameDeclared T file storage h name t k k'
ordinary-declared b T file AsTypedef h name t k k' n q d = no_true (sym n)
ordinary-declared b T file Unstored h name t k k' n q d = subst (λ (f : Bool). IsOrdinaryDeclared f T file Unstored h name t k k') (sym q) d
ordinary-declared b T file AsExtern h name t k k' n q d = subst (λ (f : Bool). IsOrdinaryDeclared f T file AsExtern h name t k k') (sym q) d
ordinary-declared b T file AsStatic h name t k k' n q d = subst (λ (f : Bool). IsOrdinaryDeclared f T file AsStatic h name t k k') (sym q) d
ordinary-declared b T file AsAutomatic h name t k k' n q d = subst (λ (f : Bool). IsOrdinaryDeclared f T file AsAutomatic h name t k k') (sym q) d

object-linked : (T : Table) (file : Bool) (storage : Storage) (h : Home) (name : Name) (t : TypeId) (k k' : Known) → is_linked_object file storage ≡ true
    → IsLinkedObject T name h t k k' → IsObjectDeclared T file storage h name t k k'
object-linked T true storage h name t k k' n d = d
object-linked T false AsExtern h name t k k' n d = d
object-linked T false AsTypedef h name t k k' n d = no_true n
object-linked T false Unstored h name t k k' n d = no_true n
object-linked T false AsStatic h name t k k' n d = no_true n
object-linked T false AsAutomatic h name t k k' n d = no_true n

abbrev pub zero_home : NodeId
zero_home = record { 0 = 0 }

abbrev pub as_made : Table → TypeId → Bool → Declared
as_made T t b = if b then declared.Function t else declared.Object t zero_home

pub declared-as : (T : Table) (storage : Storage) (t : TypeId) (b : Bool) → is_typedef storage ≡ false → is_function_shape (shape_at T t) ≡ b → declared_as T storage t ≡ as_made T t b
declared-as T AsTypedef t b n q = no_true (sym n)
declared-as T Unstored t b n q = ap (as_made T t) q
declared-as T AsExtern t b n q = ap (as_made T t) q
declared-as T AsStatic t b n q = ap (as_made T t) q
declared-as T AsAutomatic t b n q = ap (as_made T t) q

pub linkage_of_function : (file : Bool) (storage : Storage) (t : TypeId) → has_linkage file storage (declared.Function t) ≡ true
linkage_of_function true storage t = refl
linkage_of_function false AsTypedef t = refl
linkage_of_function false Unstored t = refl
linkage_of_function false AsExtern t = refl
linkage_of_function false AsStatic t = refl
linkage_of_function false AsAutomatic t = refl

pub linkage_of_object : (file : Bool) (storage : Storage) (t : TypeId) (n : NodeId) → is_linked_object file storage ≡ true → has_linkage file storage (declared.Object t n) ≡ true
linkage_of_object true storage t n h = refl
linkage_of_object false AsExtern t n h = refl
linkage_of_object false AsTypedef t n h = no_true h
linkage_of_object false Unstored t n h = no_true h
linkage_of_object false AsStatic t n h = no_true h
linkage_of_object false AsAutomatic t n h = no_true h

linked_lasts : (file : Bool) (storage : Storage) → is_linked_object file storage ≡ true → is_lasting file storage ≡ true
linked_lasts true storage h = refl
linked_lasts false AsExtern h = refl
linked_lasts false AsTypedef h = no_true h
linked_lasts false Unstored h = no_true h
linked_lasts false AsStatic h = no_true h
linked_lasts false AsAutomatic h = no_true h

-- A name that is none of the six

pub no-runtime : (name : Name) → has_some (runtime_of name) ≡ false → IsNoName name
no-runtime name h = by (runtime_of name) h (runtime_of-exact name)
  where
    by : (o : Option Runtime) → has_some o ≡ false → MatchOption o (IsNoName name) (IsNamed name) → IsNoName name
    by None g m = m
    by (Some function) g m = no_true (sym g)

-- at file scope a typedef has no such name
pub typedef-own : (T : Table) (file : Bool) (name : Name) (t : TypeId) → is_taken_by_runtime T file name (declared.Typedef t) ≡ false → IsTrue file → IsNoName name
typedef-own T true name t h file = no-runtime name (none (runtime_of name) h)
  where
    none : (o : Option Runtime) → conflicts_with_runtime T o (declared.Typedef t) ≡ false → has_some o ≡ false
    none None g = refl
    none (Some function) g = no_true (sym g)
typedef-own T false name t h file = no_true file

-- Homes

-- an object's home: of what lasts, or of a call
abbrev pub IsLastingHome : Bool → Home → Type 0
IsLastingHome true h = (n : NodeId) × ((h ≡ home.Static n) ⊎ (h ≡ home.Known n))
IsLastingHome false h = (n : NodeId) × (h ≡ home.Local n)

abbrev pub IsHomeAt : Home → NodeId → Type 0
IsHomeAt h n = (h ≡ home.Static n) ⊎ (h ≡ home.Known n)

-- the name of a declarator is declared, with its type and its home; where it has an initialiser it is an object of a complete type
pub record IsNamedAs (file : Bool) (storage : Storage) (initialised : Bool) (name : Name) (t : TypeId) (h : Home) (s r : UnitState) : Type 0 where
  pub typed : OverLater s.table (λ T. IsNameDeclared T file storage h name t (known_of s) (known_of r))
  pub table : r.table ≡ s.table
  pub node : r.seen.node ≡ s.seen.node
  pub goes : UnitGoesOn s r
  pub defined : r.linkage.defined ≡ s.linkage.defined
  pub complete : initialised ≡ true → IsComplete s.table t
  pub lasting : initialised ≡ true → IsLastingHome (is_lasting file storage) h
  pub once : (n : NodeId) → initialised ≡ true → IsHomeAt h n → is_linked_home (entry_of r.linkage.linked name) n ≡ true → is_one_of s.linkage.defined name ≡ false

plainly_false : {P : Type 0} (i : Bool) → (i && true) ≡ false → i ≡ true → P
plainly_false true h g = no_true (sym h)
plainly_false false h g = no_true g

refused_once : (i o : Bool) → (i && o) ≡ false → i ≡ true → o ≡ false
refused_once i o h g = either_false i o h g

home_of_linked : NodeId → Option Declared → NodeId
home_of_linked d (Some (declared.Object t n)) = n
home_of_linked d what = d

same_home : (a b : NodeId) → (a.0 == b.0) ≡ true → a ≡ b
same_home a b h =
    let n : a.0 ≡ b.0 = grind (arith, nat_tests) in
    ap (λ (k : ℕ). record { 0 = k }) n

own_home : (n : NodeId) → (n.0 == n.0) ≡ true
own_home n = grind (arith, nat_tests)

object-runtime : (T : Table) (o : Option Runtime) (t : TypeId) (n : NodeId) → conflicts_with_runtime T o (declared.Object t zero_home) ≡ false
    → conflicts_with_runtime T o (declared.Object t n) ≡ false
object-runtime T None t n h = refl
object-runtime T (Some function) t n h = h

static_node : NodeId → Home → NodeId
static_node d (home.Static n) = n
static_node d h = d

is_local : Home → Bool
is_local (home.Local n) = true
is_local h = false

static_of : (n m : NodeId) → IsHomeAt (home.Static n) m → n ≡ m
unfolding static_node
static_of n m (inl q) = ap (static_node n) q
static_of n m (inr q) = ap (static_node m) q

no_local : {P : Type 0} (n m : NodeId) → IsHomeAt (home.Local n) m → P
unfolding is_local
no_local n m (inl q) = no_true (sym (ap is_local q))
no_local n m (inr q) = no_true (sym (ap is_local q))

unlinked : (n m : NodeId) (o : Option Declared) → ((u : TypeId) (l : NodeId) → o ≡ Some (declared.Object u l) → l.0 < n.0) → n ≡ m → is_linked_home o m ≡ true → ⊥
unlinked n m (Some (declared.Object u l)) fresh e q =
    let below = fresh u l refl in
    let same : l.0 ≡ m.0 = grind (arith, nat_tests) in
    let number : n.0 ≡ m.0 = ap (λ (w : NodeId). w.0) e in
    omega (arith, below, same, number)
unlinked n m (Some (declared.Function u)) fresh e q = no_true q
unlinked n m (Some (declared.Typedef u)) fresh e q = no_true q
unlinked n m (Some (declared.Enumerator z)) fresh e q = no_true q
unlinked n m None fresh e q = no_true q

module _ (file : Bool) (storage : Storage) (initialised : Bool) (name : Identifier) (t : TypeId) (s : UnitState) (k : IsUnitKnown s) (there : IsType s.table t) where
  -- a typedef's name

  pub typedef-named : (r : UnitState) → storage ≡ AsTypedef → (initialised && true) ≡ false → (IsTrue file → IsNoName name.bytes) → here s.seen.scopes.levels name.bytes ≡ None
      → r ≡ named_state s name.bytes (declared.Typedef t) → IsNamedAs file storage initialised name.bytes t home.None s r
  typedef-named r is plain own none made =
      let after : UnitState = named_state s name.bytes (declared.Typedef t) in
      subst (λ (q : UnitState). IsNamedAs file storage initialised name.bytes t home.None s q) (sym made) (record {
        typed = λ T x. subst (λ (w : Storage). IsNameDeclared T file w home.None name.bytes t (known_of s) (known_of after)) (sym is)
            (after.seen.scopes, record { fresh = none; after = refl }, refl, own);
        table = refl;
        node = refl;
        goes = named-goes name.bytes (declared.Typedef t) s k there;
        defined = refl;
        complete = λ i. plainly_false initialised plain i;
        lasting = λ i. plainly_false initialised plain i;
        once = λ n i at q. plainly_false initialised plain i;
      })

  -- a function

  pub function-named : (r : UnitState) → is_typedef storage ≡ false → is_function_shape (shape_at s.table t) ≡ true → (initialised && true) ≡ false
      → IsNotAgain s.table (known_of s) (initialised && false) name.bytes (declared.Function t) → r ≡ linked_state s name.bytes (declared.Function t)
      → IsNamedAs file storage initialised name.bytes t home.None s r
  function-named r is shape plain again made =
      let after : UnitState = linked_state s name.bytes (declared.Function t) in
      let b = k.known.basic in
      subst (λ (q : UnitState). IsNamedAs file storage initialised name.bytes t home.None s q) (sym made) (record {
        typed = λ T x. ordinary-declared true T file storage home.None name.bytes t (known_of s) (known_of after) is (ap is_function_shape (x.shapes t there) ∙ shape) (record {
          here_agrees = function-agrees s.table T x b (here s.seen.scopes.levels name.bytes) t there (here-there s k name.bytes) again.here_same;
          linked_agrees = function-agrees s.table T x b (entry_of s.linkage.linked name.bytes) t there (λ what q. (linked-there s k name.bytes what q).0) again.linked_same;
          runtime_agrees = runtime-agrees s.table T x b name.bytes (declared.Function t) there again.runtime_same;
          after = refl;
        });
        table = refl;
        node = refl;
        goes = linked-goes name.bytes (declared.Function t) s k (there, tt);
        defined = refl;
        complete = λ i. plainly_false initialised plain i;
        lasting = λ i. plainly_false initialised plain i;
        once = λ n i at q. plainly_false initialised plain i;
      })

  -- an object

  module _ (is : is_typedef storage ≡ false) (shape : is_function_shape (shape_at s.table t) ≡ false) (complete : is_complete_at s.table s.seen.scopes t ≡ true) where
    whole : IsComplete s.table t
    whole = k.known.followed t complete

    module _ (linked : is_linked_object file storage ≡ true) (again : IsNotAgain s.table (known_of s) initialised name.bytes (declared.Object t zero_home)) where
      -- that was declared before, with its home
      pub known-named : (u : TypeId) (n : NodeId) (r : UnitState) → entry_of s.linkage.linked name.bytes ≡ Some (declared.Object u n)
          → r ≡ linked_state s name.bytes (declared.Object t n) → IsNamedAs file storage initialised name.bytes t (home.Known n) s r
      unfolding home_of_linked
      known-named u n r first made =
          let after : UnitState = linked_state s name.bytes (declared.Object t n) in
          let b = k.known.basic in
          let before = linked-there s k name.bytes (declared.Object u n) first in
          let homes : with_home n s.linkage.statics ≡ s.linkage.statics = ap (λ (f : Bool). if f then s.linkage.statics else s.linkage.statics ++ n ∷ []) before.1.1 in
          subst (λ (q : UnitState). IsNamedAs file storage initialised name.bytes t (home.Known n) s q) (sym made) (record {
            typed = λ T x. ordinary-declared false T file storage (home.Known n) name.bytes t (known_of s) (known_of after) is (ap is_function_shape (x.shapes t there) ∙ shape)
                (object-linked T file storage (home.Known n) name.bytes t (known_of s) (known_of after) linked (record {
                  node = n;
                  middle = known_of after;
                  complete = complete_kept s.table T x s.seen.scopes t complete;
                  home = subst (λ (o : Option Declared). IsLinkedHome o (home.Known n) n) (sym first) (refl, refl);
                  linked = record {
                    here_agrees = object-agrees s.table T x b (here s.seen.scopes.levels name.bytes) t n zero_home there (here-there s k name.bytes)
                        (λ v m q. sym (same_home n m (not_false (n.0 == m.0)
                        (sym (λ i. is_unlinked (q i) (first i)) ∙ again.unlinked)))) again.here_same;
                    linked_agrees = object-agrees s.table T x b (entry_of s.linkage.linked name.bytes) t n zero_home there (λ what q. (linked-there s k name.bytes what q).0)
                        (λ v m q. ap (home_of_linked m) (sym q ∙ first)) again.linked_same;
                    runtime_agrees = runtime-agrees s.table T x b name.bytes (declared.Object t n) there (object-runtime s.table (runtime_of name.bytes) t n again.runtime_same);
                    after = refl;
                  };
                  after = ap (λ (ns : List NodeId). record (known_of after) { statics = ns }) (sym homes);
                }));
            table = refl;
            node = refl;
            goes = linked-goes name.bytes (declared.Object t n) s k (there, before.1);
            defined = refl;
            complete = λ i. whole;
            lasting = λ i. subst (λ (f : Bool). IsLastingHome f (home.Known n)) (sym (linked_lasts file storage linked)) (n, inr refl);
            once = λ m i at q. refused_once initialised (is_one_of s.linkage.defined name.bytes) again.once i;
          })

      -- that is declared first here
      pub first-named : (globals : ℕ) (n : NodeId) (r : UnitState) → n.0 < s.seen.node → entry_of s.linkage.linked name.bytes ≡ None
          → r ≡ linked_state (static_state s globals n) name.bytes (declared.Object t n) → IsNamedAs file storage initialised name.bytes t (home.Static n) s r
      first-named globals n r below first made =
          let middle : UnitState = static_state s globals n in
          let after : UnitState = linked_state middle name.bytes (declared.Object t n) in
          let b = k.known.basic in
          let g1 = static-goes globals n s k in
          subst (λ (q : UnitState). IsNamedAs file storage initialised name.bytes t (home.Static n) s q) (sym made) (record {
            typed = λ T x. ordinary-declared false T file storage (home.Static n) name.bytes t (known_of s) (known_of after) is (ap is_function_shape (x.shapes t there) ∙ shape)
                (object-linked T file storage (home.Static n) name.bytes t (known_of s) (known_of after) linked (record {
                  node = n;
                  middle = record (known_of after) { statics = s.linkage.statics };
                  complete = complete_kept s.table T x s.seen.scopes t complete;
                  home = subst (λ (o : Option Declared). IsLinkedHome o (home.Static n) n) (sym first) refl;
                  linked = record {
                    here_agrees = object-agrees s.table T x b (here s.seen.scopes.levels name.bytes) t n zero_home there (here-there s k name.bytes)
                        (λ v m q. no_true (sym (sym (λ i. is_unlinked (q i) (first i)) ∙ again.unlinked))) again.here_same;
                    linked_agrees = object-agrees s.table T x b (entry_of s.linkage.linked name.bytes) t n zero_home there (λ what q. (linked-there s k name.bytes what q).0)
                        (λ v m q. absurd (none-some (declared.Object v m) (sym first ∙ q))) again.linked_same;
                    runtime_agrees = runtime-agrees s.table T x b name.bytes (declared.Object t n) there (object-runtime s.table (runtime_of name.bytes) t n again.runtime_same);
                    after = refl;
                  };
                  after = refl;
                }));
            table = refl;
            node = refl;
            goes = unit-on s middle after g1 (linked-goes name.bytes (declared.Object t n) middle g1.known (there, (below, home-own s.linkage.statics n)));
            defined = refl;
            complete = λ i. whole;
            lasting = λ i. subst (λ (f : Bool). IsLastingHome f (home.Static n)) (sym (linked_lasts file storage linked)) (n, inl refl);
            once = λ m i at q. refused_once initialised (is_one_of s.linkage.defined name.bytes) again.once i;
          })

    -- an object of a block
    pub static-named : (globals : ℕ) (n : NodeId) (r : UnitState) → file ≡ false → storage ≡ AsStatic
        → ((u : TypeId) (m : NodeId) → entry_of s.linkage.linked name.bytes ≡ Some (declared.Object u m) → m.0 < n.0) → here s.seen.scopes.levels name.bytes ≡ None
        → r ≡ named_state (static_state s globals n) name.bytes (declared.Object t n) → IsNamedAs file storage initialised name.bytes t (home.Static n) s r
    unfolding static_node
    static-named globals n r block static fresh none made =
        let middle : UnitState = static_state s globals n in
        let after : UnitState = named_state middle name.bytes (declared.Object t n) in
        let g1 = static-goes globals n s k in
        subst (λ (q : UnitState). IsNamedAs file storage initialised name.bytes t (home.Static n) s q) (sym made) (record {
          typed = λ T x. ordinary-declared false T file storage (home.Static n) name.bytes t (known_of s) (known_of after) is (ap is_function_shape (x.shapes t there) ∙ shape)
              (subst (λ (f : Bool). IsObjectDeclared T f storage (home.Static n) name.bytes t (known_of s) (known_of after)) (sym block)
              (subst (λ (w : Storage). IsObjectDeclared T false w (home.Static n) name.bytes t (known_of s) (known_of after)) (sym static)
              (after.seen.scopes, record { complete = complete_kept s.table T x s.seen.scopes t complete; fresh = record { fresh = none; after = refl } }, refl)));
          table = refl;
          node = refl;
          goes = unit-on s middle after g1 (named-goes name.bytes (declared.Object t n) middle g1.known there);
          defined = refl;
          complete = λ i. whole;
          lasting = λ i. subst (λ (f : Bool). IsLastingHome f (home.Static n)) (sym (λ j. is_lasting (block j) (static j))) (n, inl refl);
          once = λ m i at q. absurd (unlinked n m (entry_of s.linkage.linked name.bytes) fresh (static_of n m at) q);
        })

    pub local-named : (n : NodeId) (r : UnitState) → file ≡ false → (storage ≡ Unstored) ⊎ (storage ≡ AsAutomatic) → here s.seen.scopes.levels name.bytes ≡ None
        → r ≡ named_state s name.bytes (declared.Object t n) → IsNamedAs file storage initialised name.bytes t (home.Local n) s r
    local-named n r block local none made =
        let after : UnitState = named_state s name.bytes (declared.Object t n) in
        let storage_is : (P : Storage → Type 0) → P Unstored → P AsAutomatic → P storage = λ P a c. elim local [
          | inl e ↦ subst P (sym e) a
          | inr e ↦ subst P (sym e) c
        ] in
        subst (λ (q : UnitState). IsNamedAs file storage initialised name.bytes t (home.Local n) s q) (sym made) (record {
          typed = λ T x.
              let object : IsBlockObject T name.bytes n t (known_of s) after.seen.scopes =
              record { complete = complete_kept s.table T x s.seen.scopes t complete; fresh = record { fresh = none; after = refl } } in
              ordinary-declared false T file storage (home.Local n) name.bytes t (known_of s) (known_of after) is (ap is_function_shape (x.shapes t there) ∙ shape)
              (subst (λ (f : Bool). IsObjectDeclared T f storage (home.Local n) name.bytes t (known_of s) (known_of after)) (sym block)
              (storage_is (λ (w : Storage). IsObjectDeclared T false w (home.Local n) name.bytes t (known_of s) (known_of after))
              (after.seen.scopes, object, refl) (after.seen.scopes, object, refl)));
          table = refl;
          node = refl;
          goes = named-goes name.bytes (declared.Object t n) s k there;
          defined = refl;
          complete = λ i. whole;
          lasting = λ i. subst (λ (f : Bool). IsLastingHome (is_lasting f storage) (home.Local n)) (sym block)
              (storage_is (λ (w : Storage). IsLastingHome (is_lasting false w) (home.Local n)) (n, refl) (n, refl));
          once = λ m i at q. no_local n m at;
        })
