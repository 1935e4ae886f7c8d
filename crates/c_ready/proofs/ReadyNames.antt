-- What is well typed is ready: names, declarations, statements.
use Rattle.std.specs.List.{All, Contains}
use Rattle.std.proofs.Common.{◌≡◌, ◌⊎◌, Bool, true, false, List, [], ◌∷◌, ◌++◌, Option, Some, None, refl, ap, sym, subst, ◌∙◌, inl, inr, bytes_eq, rules, if◌then◌else◌}
use Rattle.std.proofs.lemmas.List.Elements.{All-head, All-push}
use Rattle.std.proofs.lemmas.Option.{none-some}
use Rattle.cc_base.specs.declared.number.NodeId.{NodeId}
use Rattle.cc_base.specs.declared.number.TypeId.{TypeId}
use Rattle.c_types.specs.Table.{Table, shape_at}
use Rattle.c_tree.specs.declared.leaf.Identifier.{Identifier}
use Rattle.c_tree.specs.declared.typed_word.Home.{Home}
use Rattle.c_tree.specs.declared.typed_word.Home.TheVariants as home
use Rattle.c_tree.specs.TypedParts.{Name, name_of, declared_type, home_of, static_home}
use Rattle.c_tree.specs.TypedTree.{TypedDeclarator}
use Rattle.c_typing.specs.declared.declared.Declared.{Declared}
use Rattle.c_typing.specs.declared.declared.Declared.TheVariants as declared
use Rattle.c_typing.specs.Shapes.{is_function_shape}
use Rattle.c_typing.specs.Scopes as scopes
use Rattle.c_typing.specs.Scopes.{Scopes, entry_of, with_name, here, declaring}
use Rattle.c_unit_typing.specs.Units as units
use Rattle.c_unit_typing.specs.Units.{with_scopes, Storage, AsTypedef, AsExtern, AsStatic, AsAutomatic, Unstored, AgreesWith, unless_here, unless_linked, IsLinkedHome, IsLinked, IsLinkedObject, IsBlockObject, IsStaticOrLocal, IsTypedefDeclared, IsOrdinaryDeclared, IsNameDeclared}
use Rattle.c_unit_typing.specs.Initialisers.{is_among, with_home}
use Rattle.c_ready.proofs.Typedefs.{unless_typedef}
use Rattle.c_ready.proofs.Contexts.{IsObjectDeclared, IsFunctionDeclared, IsStaticNamed, IsReadyHome, Context, IsNode, IsWhole, IsObjectOf}
use Rattle.c_ready.proofs.Walked.{entry-from, AreDeclared, IsOuter, declared-of, same-outer, both-outer, outer-same}
use Rattle.c_ready.proofs.Suits.{whole-in}
use Rattle.c_ready.proofs.ReadyParts.{Known, IsFunctionSeen, defined_in, IsMade}
use Rattle.c_ready.proofs.ReadyUnits.{In, Last, Fixed, IsGrown, Step, IsLinkedSeen, last-left, ends}

-- Lists of names

bytes-refl : (n : scopes.Name) → bytes_eq n n ≡ true
bytes-refl n = search rules

if_either : {A : Type 0} (b : Bool) (p q r x : A) → (q ≡ x → r ≡ x) → (if b then p else q) ≡ x → (if b then p else r) ≡ x
if_either true p q r x f g = g
if_either false p q r x f g = f g

if_none : (b : Bool) (d : Declared) (q r x : Option Declared) → (q ≡ None → r ≡ x) → (if b then Some d else q) ≡ None → (if b then Some d else r) ≡ x
if_none true d q r x f g = absurd (none-some d (sym g))
if_none false d q r x f g = f g

pub entry-kept : (es : List (scopes.Name × Declared)) (e : scopes.Name × Declared) (name : scopes.Name) (x : Declared) → entry_of es name ≡ Some x
    → entry_of (es ++ e ∷ []) name ≡ Some x
entry-kept [] e name x h = absurd (none-some x h)
entry-kept (d ∷ es) e name x h =
    if_either (bytes_eq name d.0) (Some d.1) (entry_of es name) (entry_of (es ++ e ∷ []) name) (Some x) (λ g. entry-kept es e name x g) h

pub entry-new : (es : List (scopes.Name × Declared)) (name : scopes.Name) (x : Declared) → entry_of es name ≡ None
    → entry_of (es ++ (name, x) ∷ []) name ≡ Some x
entry-new [] name x h = ap (λ (b : Bool). if b then Some x else None) (bytes-refl name)
entry-new (d ∷ es) name x h =
    if_none (bytes_eq name d.0) d.1 (entry_of es name) (entry_of (es ++ (name, x) ∷ []) name) (Some x) (λ g. entry-new es name x g) h

-- A name with linkage

pub after_of : scopes.Name → Declared → units.Known → Option Declared → Option Declared → units.Known
after_of name what m a b = record m { scopes = unless_here a name what m.scopes; linked = unless_linked b name what m.linked }

module _ (k : Context) (f : Fixed k) (name : scopes.Name) (what : Declared) (m : units.Known) where
  linked-grown : (a b : Option Declared) → entry_of m.linked name ≡ b → IsGrown m (after_of name what m a b)
  unfolding after_of
  linked-grown a b q = record { stays = here_ a; linked = list_ b q }
    where
      here_ : (a : Option Declared) → IsOuter m.scopes (unless_here a name what m.scopes)
      here_ None = record { outer = outer-same (with_name name what) m.scopes.levels; defined = refl; members = λ n x. refl }
      here_ (Some x) = same-outer m.scopes m.scopes refl

      list_ : (b : Option Declared) → entry_of m.linked name ≡ b → (other : scopes.Name) (x : Declared) → entry_of m.linked other ≡ Some x
          → entry_of (unless_linked b name what m.linked) other ≡ Some x
      list_ None q other x h = entry-kept m.linked (name, what) other x h
      list_ (Some y) q other x h = h

  linked-in : (a b : Option Declared) → In k m → Known k name what → (b ≡ None → IsLinkedSeen k name what) → In k (after_of name what m a b)
  unfolding after_of
  linked-in a b i known seen = record { names = names_ a; defined = defined_ a; linked = list_ b seen; statics = i.statics }
    where
      names_ : (a : Option Declared) → AreDeclared k.table (Known k) (unless_here a name what m.scopes).levels
      names_ None = declared-of k.table (Known k) name what m.scopes.levels known i.names
      names_ (Some x) = i.names

      defined_ : (a : Option Declared) → (unless_here a name what m.scopes).defined ≡ defined_in k
      defined_ None = i.defined
      defined_ (Some x) = i.defined

      list_ : (b : Option Declared) → (b ≡ None → IsLinkedSeen k name what)
          → All (λ (e : scopes.Name × Declared). IsLinkedSeen k e.0 e.1) (unless_linked b name what m.linked)
      list_ None first = All-push (λ (e : scopes.Name × Declared). IsLinkedSeen k e.0 e.1) m.linked (name, what) i.linked (first refl)
      list_ (Some x) first = i.linked

  -- the first declaration is the last list's
  first-linked : (a b : Option Declared) → entry_of m.linked name ≡ b → Last k (after_of name what m a b)
      → (b ≡ None → entry_of k.linked name ≡ Some what) × ((x : Declared) → b ≡ Some x → entry_of k.linked name ≡ Some x)
  unfolding after_of
  first-linked a None q l = ((λ g. l.linked name what (entry-new m.linked name what q)), (λ x g. absurd (none-some x g)))
  first-linked a (Some y) q l = ((λ g. absurd (none-some y (sym g))), (λ x g. l.linked name x (q ∙ g)))

pub is-after : (T : Table) (name : scopes.Name) (what : Declared) (m m' : units.Known) → IsLinked T name what m m'
    → m' ≡ after_of name what m (here m.scopes.levels name) (entry_of m.linked name)
unfolding after_of
is-after T name what m m' h = h.after

-- the declarator names this object or function
pub record Declares (d : TypedDeclarator) (id : Identifier) (t : TypeId) (h : Home) : Type 0 where
  pub named : name_of d ≡ Some id
  pub type : declared_type d ≡ t
  pub home : home_of d ≡ h

module _ (k : Context) (f : Fixed k) where
  function-seen : (name : scopes.Name) (t : TypeId) (b : Option Declared) → AgreesWith k.table b (declared.Function t)
      → (b ≡ None → entry_of k.linked name ≡ Some (declared.Function t))
      → ((x : Declared) → b ≡ Some x → entry_of k.linked name ≡ Some x) → IsFunctionDeclared k name t → IsFunctionSeen k name t
  function-seen name t None h p q c = record { told = c; first = t; linked = p refl; alike = inl refl }
  function-seen name t (Some (declared.Function first)) h p q c =
      record { told = c; first = first; linked = q (declared.Function first) refl; alike = inr h }
  function-seen name t (Some (declared.Object u n)) h p q c = absurd h
  function-seen name t (Some (declared.Typedef u)) h p q c = absurd h
  function-seen name t (Some (declared.Enumerator z)) h p q c = absurd h

  function-step : (d : TypedDeclarator) (id : Identifier) (t : TypeId) (h : Home) (m m' : units.Known) → Declares d id t h
      → units.IsFunctionDeclared k.table h id.bytes t m m'
      → Step k m m' (Name id h t ∷ []) (d ∷ []) (IsReadyHome k h t)
  function-step d id t home.None m m' own h =
      let what = declared.Function t in
      let a = here m.scopes.levels id.bytes in
      let b = entry_of m.linked id.bytes in
      ends k (Name id home.None t ∷ []) m (after_of id.bytes what m a b) m' (is-after k.table id.bytes what m m' h) (record {
        grown = linked-grown k f id.bytes what m a b refl;
        ready = λ i l made told.
            let p = first-linked k f id.bytes what m a b refl l in (
              tt,
              linked-in k f id.bytes what m a b i
                  (function-seen id.bytes t b h.linked_agrees p.0 p.1 (
                    d,
                    All-head (Contains k.declarators) d [] told,
                    (id, own.named, refl),
                    own.type,
                  ))
                  (λ e. tt),
            );
      })
  function-step d id t (home.Static n) m m' own h = absurd h
  function-step d id t (home.Local n) m m' own h = absurd h
  function-step d id t (home.Parameter n) m m' own h = absurd h
  function-step d id t (home.Known n) m m' own h = absurd h

  known-object : (name : scopes.Name) (h : NodeId) (t : TypeId) → IsObjectOf true k h t → Known k name (declared.Object t h)
  known-object name h t o = subst (λ (b : Bool). IsObjectOf b k h t) (sym f.runs) o

  -- an object with linkage
  home-seen : (d : TypedDeclarator) (id : Identifier) (t : TypeId) (h : Home) (node : NodeId) (b : Option Declared) → IsLinkedHome b h node
      → AgreesWith k.table b (declared.Object t node)
      → ((x : Declared) → b ≡ Some x → IsLinkedSeen k id.bytes x) → Declares d id t h → Contains k.declarators d → IsMade k (Name id h t)
      → IsWhole k t
      → IsObjectOf true k node t × IsReadyHome k h t × ((first : TypeId) × Contains k.statics (node, first))
      × (b ≡ None → IsLinkedSeen k id.bytes (declared.Object t node))
  home-seen d id t (home.Static n) node None h agrees seen own told made w =
      let named : IsStaticNamed k n t = record {
        first = t;
        made = made.1;
        alike = inl refl;
        declared = (d, told, ap static_home own.home, own.type);
        begun = (d, told, ap static_home own.home, own.type);
      } in (
        subst (λ (x : NodeId). IsObjectOf true k x t) h (made.0, w, inr named),
        (made.0, w, named),
        (t, subst (λ (x : NodeId). Contains k.statics (x, t)) h made.1),
        (λ q. subst (λ (x : NodeId). IsLinkedSeen k id.bytes (declared.Object t x)) h (made.0, made.1, named.begun)),
      )
  home-seen d id t (home.Known n) node (Some (declared.Object u x)) h agrees seen own told made w =
      let first = seen (declared.Object u x) refl in
      let node = subst (IsNode k) h.0 first.0 in
      let named : IsStaticNamed k n t = record {
        first = u;
        made = subst (λ (y : NodeId). Contains k.statics (y, u)) h.0 first.1;
        alike = inr agrees.0;
        declared = (d, told, ap static_home own.home, own.type);
        begun = subst (λ (y : NodeId). IsObjectDeclared k y u) h.0 first.2;
      } in (
        subst (λ (y : NodeId). IsObjectOf true k y t) h.1 (node, w, inr named),
        (node, w, named),
        (u, subst (λ (y : NodeId). Contains k.statics (y, u)) (h.0 ∙ h.1) first.1),
        (λ q. absurd (none-some _ (sym q))),
      )
  home-seen d id t home.None node None g agrees seen own told made w = absurd g
  home-seen d id t (home.Local n) node None g agrees seen own told made w = absurd g
  home-seen d id t (home.Parameter n) node None g agrees seen own told made w = absurd g
  home-seen d id t (home.Known n) node None g agrees seen own told made w = absurd g
  home-seen d id t home.None node (Some (declared.Object u x)) g agrees seen own told made w = absurd g
  home-seen d id t (home.Local n) node (Some (declared.Object u x)) g agrees seen own told made w = absurd g
  home-seen d id t (home.Parameter n) node (Some (declared.Object u x)) g agrees seen own told made w = absurd g
  home-seen d id t (home.Static n) node (Some (declared.Object u x)) g agrees seen own told made w = absurd g
  home-seen d id t h node (Some (declared.Typedef u)) g agrees seen own told made w = absurd agrees
  home-seen d id t h node (Some (declared.Function u)) g agrees seen own told made w = absurd agrees
  home-seen d id t h node (Some (declared.Enumerator z)) g agrees seen own told made w = absurd agrees

  statics-in : (node : NodeId) (homes : List NodeId) → ((first : TypeId) × Contains k.statics (node, first))
      → All (λ n. (t : TypeId) × Contains k.statics (n, t)) homes
      → All (λ n. (t : TypeId) × Contains k.statics (n, t)) (with_home node homes)
  statics-in node homes q h = by (is_among homes node)
    where
      by : (b : Bool) → All (λ n. (t : TypeId) × Contains k.statics (n, t)) (if b then homes else homes ++ node ∷ [])
      by true = h
      by false = All-push (λ n. (t : TypeId) × Contains k.statics (n, t)) homes node h q

  linked_object-step : (d : TypedDeclarator) (id : Identifier) (t : TypeId) (h : Home) (m m' : units.Known) → Declares d id t h
      → IsLinkedObject k.table id.bytes h t m m'
      → Step k m m' (Name id h t ∷ []) (d ∷ []) (IsReadyHome k h t)
  linked_object-step d id t h m m' own g =
      let what = declared.Object t g.node in
      let a = here m.scopes.levels id.bytes in
      let b = entry_of m.linked id.bytes in
      let n = after_of id.bytes what m a b in
      let middle = is-after k.table id.bytes what m g.middle g.linked in
      let last : units.Known = record n { statics = with_home g.node n.statics } in
      ends k (Name id h t ∷ []) m last m' (g.after ∙ ap (λ (q : units.Known). record q { statics = with_home g.node q.statics }) middle) (record {
        grown = record { stays = (linked-grown k f id.bytes what m a b refl).stays; linked = (linked-grown k f id.bytes what m a b refl).linked };
        ready = λ i l made told.
            let l2 : Last k n = record { followed = l.followed; lengths = l.lengths; linked = l.linked } in
            let l0 = last-left k m n (linked-grown k f id.bytes what m a b refl) l2 in
            let whole : IsWhole k t = (whole-in k.table t (l0.followed t g.complete), l0.followed t g.complete) in
            let o = home-seen d id t h g.node b g.home g.linked.linked_agrees
            (λ x q. entry-from (IsLinkedSeen k) id.bytes x m.linked i.linked q) own (All-head (Contains k.declarators) d [] told)
            (All-head (IsMade k) (Name id h t) [] made) whole in
            let after = linked-in k f id.bytes what m a b i (known-object id.bytes g.node t o.0) o.3 in (
              o.1,
              record {
                names = after.names;
                defined = after.defined;
                linked = after.linked;
                statics = statics-in g.node n.statics o.2
                    after.statics;
              },
            );
      })

  -- an object of a block
  block-step : (id : Identifier) (t : TypeId) (n : NodeId) (m : units.Known) (s : Scopes) → IsBlockObject k.table id.bytes n t m s
      → IsGrown m (with_scopes m s) × (In k m → Last k (with_scopes m s) → IsNode k n → (Contains k.variables (n, t) ⊎ IsStaticNamed k n t)
      → IsObjectOf true k n t × In k (with_scopes m s))
  block-step id t n m s h =
      let grown : IsGrown m (with_scopes m s) = record {
        stays =
            both-outer (record {
              outer = outer-same (with_name id.bytes (declared.Object t n)) m.scopes.levels;
              defined = refl;
              members = λ i x. refl;
            }) (same-outer (declaring id.bytes (declared.Object t n) m.scopes) s h.fresh.after);
        linked = λ name x g. g;
      } in (
        grown,
        (λ i l node o.
            let l0 = last-left k m (with_scopes m s) grown l in
            let c = l0.followed t h.complete in
            let object : IsObjectOf true k n t = (node, (whole-in k.table t c, c), o) in (
              object,
              record {
                names =
                    subst (λ (q : Scopes). AreDeclared k.table (Known k) q.levels) (sym h.fresh.after)
                    (declared-of k.table (Known k) id.bytes (declared.Object t n) m.scopes.levels (known-object id.bytes n t object) i.names);
                defined = grown.stays.defined ∙ i.defined;
                linked = i.linked;
                statics = i.statics;
              },
            )),
      )

  local-step : k.file ≡ false → (d : TypedDeclarator) (id : Identifier) (t : TypeId) (n : NodeId) (m m' : units.Known)
      → ((s : Scopes) × IsBlockObject k.table id.bytes n t m s × (m' ≡ with_scopes m s))
      → Step k m m' (Name id (home.Local n) t ∷ []) (d ∷ []) (IsReadyHome k (home.Local n) t)
  local-step q d id t n m m' h =
      let b = block-step id t n m h.0 h.1 in
      ends k (Name id (home.Local n) t ∷ []) m (with_scopes m h.0) m' h.2 (record {
        grown = b.0;
        ready = λ i l made told.
            let own = All-head (IsMade k) (Name id (home.Local n) t) [] made in
            let r = b.1 i l own.0 (inl (own.1 f.runs q)) in
            ((own.0, r.0.1, own.1 f.runs q), r.1);
      })

  static-step : (d : TypedDeclarator) (id : Identifier) (t : TypeId) (n : NodeId) (m m' : units.Known) → Declares d id t (home.Static n)
      → ((s : Scopes) × IsBlockObject k.table id.bytes n t m s × (m' ≡ record m { scopes = s; statics = with_home n m.statics }))
      → Step k m m' (Name id (home.Static n) t ∷ []) (d ∷ []) (IsReadyHome k (home.Static n) t)
  static-step d id t n m m' declares h =
      let b = block-step id t n m h.0 h.1 in
      ends k (Name id (home.Static n) t ∷ []) m (record m { scopes = h.0; statics = with_home n m.statics }) m' h.2 (record {
        grown = record { stays = b.0.stays; linked = b.0.linked };
        ready = λ i l made told.
            let own = All-head (IsMade k) (Name id (home.Static n) t) [] made in
            let named : IsStaticNamed k n t = record {
              first = t;
              made = own.1;
              alike = inl refl;
              declared = (d, All-head (Contains k.declarators) d [] told, ap static_home declares.home, declares.type);
              begun = (d, All-head (Contains k.declarators) d [] told, ap static_home declares.home, declares.type);
            } in
            let r = b.1 i (record { followed = l.followed; lengths = l.lengths; linked = l.linked }) own.0 (inr named) in (
              (own.0, r.0.1, named),
              record { names = r.1.names; defined = r.1.defined; linked = r.1.linked; statics = statics-in n m.statics (t, own.1) r.1.statics },
            );
      })

  block_object-step : k.file ≡ false → (storage : Storage) (d : TypedDeclarator) (id : Identifier) (t : TypeId) (h : Home) (m m' : units.Known)
      → Declares d id t h
      → IsStaticOrLocal k.table storage h id.bytes t m m' → Step k m m' (Name id h t ∷ []) (d ∷ []) (IsReadyHome k h t)
  block_object-step q AsStatic d id t (home.Static n) m m' o h = static-step d id t n m m' o h
  block_object-step q Unstored d id t (home.Local n) m m' o h = local-step q d id t n m m' h
  block_object-step q AsAutomatic d id t (home.Local n) m m' o h = local-step q d id t n m m' h
  block_object-step q storage d id t h m m' o g = absurd g

  object-step : (file : Bool) → (file ≡ false → k.file ≡ false)
      → (storage : Storage) (d : TypedDeclarator) (id : Identifier) (t : TypeId) (h : Home) (m m' : units.Known)
      → Declares d id t h → units.IsObjectDeclared k.table file storage h id.bytes t m m' → Step k m m' (Name id h t ∷ []) (d ∷ [])
      (IsReadyHome k h t)
  object-step true q storage d id t h m m' o g = linked_object-step d id t h m m' o g
  object-step false q AsExtern d id t h m m' o g = linked_object-step d id t h m m' o g
  object-step false q AsStatic d id t h m m' o g = block_object-step (q refl) AsStatic d id t h m m' o g
  object-step false q AsTypedef d id t h m m' o g = block_object-step (q refl) AsTypedef d id t h m m' o g
  object-step false q AsAutomatic d id t h m m' o g = block_object-step (q refl) AsAutomatic d id t h m m' o g
  object-step false q Unstored d id t h m m' o g = block_object-step (q refl) Unstored d id t h m m' o g

  ordinary-step : (function file : Bool) → (file ≡ false → k.file ≡ false)
      → (storage : Storage) (d : TypedDeclarator) (id : Identifier) (t : TypeId) (h : Home) (m m' : units.Known)
      → Declares d id t h → IsOrdinaryDeclared function k.table file storage h id.bytes t m m' → Step k m m' (Name id h t ∷ []) (d ∷ [])
      (IsReadyHome k h t)
  ordinary-step true file q storage d id t h m m' o g = function-step d id t h m m' o g
  ordinary-step false file q storage d id t h m m' o g = object-step file q storage d id t h m m' o g

  typedef-step : (file : Bool) (id : Identifier) (t : TypeId) (h : Home) (m m' : units.Known) → IsTypedefDeclared file h id.bytes t m m'
      → Step k m m' (Name id h t ∷ []) [] (IsReadyHome k h t)
  typedef-step file id t home.None m m' h =
      ends k (Name id home.None t ∷ []) m (with_scopes m h.0) m' h.2 (record {
        grown = record {
          stays =
              both-outer (record {
                outer = outer-same (with_name id.bytes (declared.Typedef t)) m.scopes.levels;
                defined = refl;
                members = λ i
                    x. refl;
              }) (same-outer (declaring id.bytes (declared.Typedef t) m.scopes) h.0 h.1.after);
          linked = λ name x g. g;
        };
        ready = λ i l made told. (
          tt,
          record {
            names =
                subst (λ (q : Scopes). AreDeclared k.table (Known k) q.levels) (sym h.1.after)
                (declared-of k.table (Known k) id.bytes (declared.Typedef t) m.scopes.levels tt i.names);
            defined = ap (λ (q : Scopes). q.defined) h.1.after ∙ i.defined;
            linked = i.linked;
            statics = i.statics;
          },
        );
      })
  typedef-step file id t (home.Static n) m m' h = absurd h
  typedef-step file id t (home.Local n) m m' h = absurd h
  typedef-step file id t (home.Parameter n) m m' h = absurd h
  typedef-step file id t (home.Known n) m m' h = absurd h

  pub name-step : (file : Bool) → (file ≡ false → k.file ≡ false)
      → (storage : Storage) (d : TypedDeclarator) (id : Identifier) (t : TypeId) (h : Home) (m m' : units.Known)
      → Declares d id t h → IsNameDeclared k.table file storage h id.bytes t m m' → Step k m m' (Name id h t ∷ []) (unless_typedef storage d)
      (IsReadyHome k h t)
  name-step file q AsTypedef d id t h m m' o g = typedef-step file id t h m m' g
  name-step file q AsExtern d id t h m m' o g = ordinary-step (is_function_shape (shape_at k.table t)) file q AsExtern d id t h m m' o g
  name-step file q AsStatic d id t h m m' o g = ordinary-step (is_function_shape (shape_at k.table t)) file q AsStatic d id t h m m' o g
  name-step file q AsAutomatic d id t h m m' o g = ordinary-step (is_function_shape (shape_at k.table t)) file q AsAutomatic d id t h m m' o g
  name-step file q Unstored d id t h m m' o g = ordinary-step (is_function_shape (shape_at k.table t)) file q Unstored d id t h m m' o g
