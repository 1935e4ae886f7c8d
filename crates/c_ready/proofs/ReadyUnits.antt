-- What is well typed is ready: initialisers, declarations, statements.
use Rattle.std.specs.List.{All, Contains}
use Rattle.std.proofs.Common.{◌≡◌, ℕ, zero, suc, ℤ, Bool, true, false, ◌==◌, List, [], ◌∷◌, ◌++◌, length, Some, None, refl, ap, sym, subst, ◌∙◌, arith, ◌&&◌, if◌then◌else◌, nat_lt, ◌≤◌, take}
use Rattle.std.proofs.lemmas.List.Elements.{All-nil, All-head}
use Rattle.std.proofs.lemmas.Bool.Decides.{nat_tests}
use Rattle.std.proofs.lemmas.Option.{none-some}
use Rattle.cc_base.specs.declared.place.Place.{Place}
use Rattle.cc_base.specs.declared.number.NodeId.{NodeId}
use Rattle.cc_base.specs.declared.number.TypeId.{TypeId}
use Rattle.c_types.specs.declared.shape.TypeShape.{TypeShape}
use Rattle.c_types.specs.declared.shape.TypeShape.TheVariants.{Void, Integer, Pointer, Array, Function, Struct, Union}
use Rattle.c_types.specs.Table.{Table, HasShape, IsAggregate, IsComplete, shape_at, members_at, entry_at, is_complete, parts_of_shape, is_empty}
use Rattle.c_types.specs.Sound.{IsWellFormed}
use Rattle.c_types.specs.Layouts.{member_at}
use Rattle.c_tree.specs.TypedTree as typed
use Rattle.c_tree.specs.TypedTree.{TypedDeclarator, TypedInitialiser, TypedItems}
use Rattle.c_tree.specs.TypedParts.{place_type, Made, Copy, made_by_place, item_place, made_by_initialiser, made_by_items}
use Rattle.c_typing.specs.declared.declared.Declared.{Declared}
use Rattle.c_typing.specs.declared.declared.Declared.TheVariants as declared
use Rattle.c_typing.specs.Shapes.{is_void_shape}
use Rattle.c_typing.specs.Scopes as scopes
use Rattle.c_typing.specs.Scopes.{Level, Scopes, entry_of, members_named, is_complete_at, without_innermost, empty_level}
use Rattle.c_typing.specs.Rules.{number_of_shape}
use Rattle.c_unit_typing.specs.Units as units
use Rattle.c_unit_typing.specs.Units.{with_scopes, entering_known, leaving_known}
use Rattle.c_unit_typing.specs.Initialisers.{Slot, slot_of_members, IsInitialiser, AreItems, IsSlot, IsText, slot_of_shape, items_count, is_char_array, char_count_of_shape, char_count_of_element, is_only_text}
use Rattle.c_ready.proofs.Contexts.{IsObjectDeclared, IsReadyInitialiser, AreReadyItems, Context, IsNode, IsWhole, MayCall}
use Rattle.c_ready.proofs.Walked.{AreDeclared, IsOuter, IsWalked, entered-of, same-outer, both-outer, outer-of, left-of}
use Rattle.c_ready.proofs.Walked
use Rattle.c_ready.proofs.Suits.{whole-in, is_in, shaped-integer, assigned-suits}
use Rattle.c_ready.proofs.ReadyParts.{Known, values, At, AreDefinitions, at-left, at-right, one-struct-back, shape-later, nonempty-same, defined_in, AreMade, ml, mr, parts-aggregate, at_or}
use Rattle.c_ready.proofs.ReadyTrees.{value-ready, place-ready}
use Rattle.c_ready.proofs.Basics.{all-left, all-right}

-- Initialisers

module _ (T : Table) (Q : scopes.Name → Declared → Type 0) (v : (name : scopes.Name) (z : ℤ) → Q name (declared.Enumerator z)) where
  mutual
    pub init-kept : (i : TypedInitialiser) (at : Place) (t : TypeId) (s s' : Scopes) → IsInitialiser T i at t s s' → IsWalked T Q s s'
    init-kept (typed.Value e) at t s s' h = Walked.value-kept T Q v e s s' h.0
    init-kept (typed.Copied p seat) at t s s' h = Walked.place-kept T Q v p s s' h.0
    init-kept (typed.Text pieces bytes) at t s s' h = Walked.same T Q v s s' h.0
    init-kept (typed.Listed brace items comma u) at t s s' h = items-kept items (is_only_text items && is_char_array T t) t s s' h.1

    pub items-kept : (all : TypedItems) (text : Bool) (t : TypeId) (s s' : Scopes) → AreItems T all text t s s' → IsWalked T Q s s'
    items-kept typed.NoItem text t s s' h = Walked.same T Q v s s' h
    items-kept (typed.AndItem all offset u i) text t s s' h =
        Walked.both T Q v (items-kept all text t s h.0 h.1) (init-kept i (item_place i) u h.0 s' h.2)

-- parts of complete types are complete

if_some : (b : Bool) (x y : Slot) → (if b then Some x else None) ≡ Some y → x ≡ y
if_some true x y h = cc
if_some false x y h = absurd (none-some y h)

member_slot : (k : Context) → IsWellFormed k.table → (t : TypeId) (x : TypeShape) (n i offset : ℕ) (u : TypeId) → shape_at k.table t ≡ x
    → number_of_shape x ≡ Some n → IsWhole k t → (b : Bool)
    → slot_of_members k.table t i b ≡ Some (record { offset = offset; type = u }) → IsWhole k u
member_slot k w t x n i offset u e m h b g =
    let c = at_or (IsComplete k.table) (members_at k.table t) i t
    (parts-aggregate (IsComplete k.table) (shape_at k.table t) (members_at k.table t) n (ap number_of_shape e ∙ m) (w.each t).parts) h.1 in
    subst (IsWhole k) (ap (λ (q : Slot). q.type) (if_some b _ _ g)) (whole-in k.table (member_at k.table t i) c, c)

slot_whole : (k : Context) → IsWellFormed k.table → (t : TypeId) (x : TypeShape) → shape_at k.table t ≡ x → IsWhole k t → (i offset : ℕ) (u : TypeId)
    → slot_of_shape k.table t x i ≡ Some (record { offset = offset; type = u }) → IsWhole k u
slot_whole k w t (Array element count) e h i offset u g =
    let c = All-head (IsComplete k.table) element []
    (subst (λ (y : TypeShape). All (IsComplete k.table) (parts_of_shape y (members_at k.table t))) e (w.each t).parts) in
    subst (IsWhole k) (ap (λ (q : Slot). q.type) (if_some (nat_lt i count) _ _ g)) (whole-in k.table element c, c)
slot_whole k w t (Struct n) e h i offset u g = member_slot k w t (Struct n) n i offset u e refl h _ g
slot_whole k w t (Union n) e h i offset u g = member_slot k w t (Union n) n i offset u e refl h _ g
slot_whole k w t (Integer bytes signed) e h i offset u g = subst (IsWhole k) (ap (λ (q : Slot). q.type) (if_some (i == 0) _ _ g)) h
slot_whole k w t (Pointer n v) e h i offset u g = subst (IsWhole k) (ap (λ (q : Slot). q.type) (if_some (i == 0) _ _ g)) h
slot_whole k w t Void e h i offset u g = absurd (none-some _ g)
slot_whole k w t (Function ps r) e h i offset u g = absurd (none-some _ g)

pub slot-whole : (k : Context) → IsWellFormed k.table → (text : Bool) (t : TypeId) → IsWhole k t → (i offset : ℕ) (u : TypeId)
    → IsSlot text k.table t i offset u → IsWhole k u
slot-whole k w true t h i offset u g = subst (IsWhole k) (sym g.1) h
slot-whole k w false t h i offset u g = slot_whole k w t (shape_at k.table t) refl h i offset u g

one_from : (b : ℕ) → (b == 1) ≡ true → b ≡ 1
one_from b h = grind (arith, nat_tests)

taken_most : (n : ℕ) (xs : List ℕ) → length (take n xs) ≤ n
taken_most zero xs = omega arith
taken_most (suc n) [] = omega arith
taken_most (suc n) (x ∷ xs) = let r = taken_most n xs in omega (arith, r)

text-ready : (k : Context) (t : TypeId) (bytes text : List ℕ) → IsText (char_count_of_shape k.table (shape_at k.table t)) text bytes
    → (element : TypeId) × (count : ℕ) × (signed : Bool) × HasShape k.table t (Array element count) × HasShape k.table element (Integer 1 signed)
    × (length bytes ≤ count)
text-ready k t bytes text h = by (shape_at k.table t) refl h
  where
    by_count : (element : TypeId) (count b : ℕ) (s : Bool) → shape_at k.table t ≡ Array element count → shape_at k.table element ≡ Integer b s
        → (c : Bool) → (c ≡ true → b ≡ 1)
        → IsText (if c then Some count else None) text bytes
        → (element : TypeId) × (count : ℕ) × (signed : Bool) × HasShape k.table t (Array element count)
        × HasShape k.table element (Integer 1 signed) × (length bytes ≤ count)
    by_count element count b s e f true c g = (
      element,
      count,
      s,
      (is_in k.table t (ap is_void_shape e), e),
      shaped-integer k.table element 1 s (f ∙ ap (λ (n : ℕ). Integer n s) (c refl)),
      subst (λ (xs : List ℕ). length xs ≤ count) (sym g.1) (taken_most count (text ++ 0 ∷ [])),
    )
    by_count element count b s e f false c g = absurd g

    by_element : (element : TypeId) (count : ℕ) (y : TypeShape) → shape_at k.table t ≡ Array element count → shape_at k.table element ≡ y
        → IsText (char_count_of_element y count) text bytes
        → (element : TypeId) × (count : ℕ) × (signed : Bool) × HasShape k.table t (Array element count)
        × HasShape k.table element (Integer 1 signed) × (length bytes ≤ count)
    by_element element count (Integer b s) e f g = by_count element count b s e f (b == 1) (λ q. one_from b q) g
    by_element element count Void e f g = absurd g
    by_element element count (Pointer n u) e f g = absurd g
    by_element element count (Array n u) e f g = absurd g
    by_element element count (Function ps r) e f g = absurd g
    by_element element count (Struct n) e f g = absurd g
    by_element element count (Union n) e f g = absurd g

    by : (x : TypeShape) → shape_at k.table t ≡ x → IsText (char_count_of_shape k.table x) text bytes
        → (element : TypeId) × (count : ℕ) × (signed : Bool) × HasShape k.table t (Array element count)
        × HasShape k.table element (Integer 1 signed) × (length bytes ≤ count)
    by (Array element count) e g = by_element element count (shape_at k.table element) e refl g
    by Void e g = absurd g
    by (Integer b s) e g = absurd g
    by (Pointer n u) e g = absurd g
    by (Function ps r) e g = absurd g
    by (Struct n) e g = absurd g
    by (Union n) e g = absurd g

mutual
  pub init-ready : (k : Context) → IsWellFormed k.table → (i : TypedInitialiser) (at : Place) (t : TypeId) (s s' : Scopes)
      → IsInitialiser k.table i at t s s' → IsWhole k t → At k s s' → AreMade k (made_by_initialiser i)
      → IsReadyInitialiser k t i
  init-ready k w (typed.Value e) at t s s' h c a m =
      let g = assigned-suits k s' a.followed at t e h.1 h.2 in
      (value-ready k w e s s' h.0 a m g.0, g.1)
  init-ready k w (typed.Copied p seat) at t s s' h c a m =
      let same = one-struct-back k.table w t (place_type p) h.2 h.3 in
      (place-ready k w p s s' h.0 a (ml k (made_by_place p) (Copy (place_type p) ∷ []) m), subst (IsAggregate k.table) same h.2, same)
  init-ready k w (typed.Text pieces bytes) at t s s' h c a m = text-ready k t bytes _ h.1
  init-ready k w (typed.Listed brace items comma u) at t s s' h c a m =
      (h.0, items-ready k w items (is_only_text items && is_char_array k.table t) t s s' h.1 c a m)

  pub items-ready : (k : Context) → IsWellFormed k.table → (all : TypedItems) (text : Bool) (t : TypeId) (s s' : Scopes)
      → AreItems k.table all text t s s' → IsWhole k t → At k s s' → AreMade k (made_by_items all)
      → AreReadyItems k text t all
  items-ready k w typed.NoItem text t s s' h c a m = tt
  items-ready k w (typed.AndItem all offset u i) text t s s' h c a m =
      let part = slot-whole k w text t c (items_count all) offset u h.3 in (
        items-ready k w all text t s h.0 h.1 c (at-left k s h.0 s' (init-kept k.table (Known k) (values k) i (item_place i) u h.0 s' h.2).stays a)
            (ml k (made_by_items all) (made_by_initialiser i) m),
        init-ready k w i (item_place i) u h.0 s' h.2 part (at-right k s h.0 s' (items-kept k.table (Known k) (values k) all text t s h.0 h.1) a)
            (mr k (made_by_items all) (made_by_initialiser i) m),
        h.3,
        part,
      )

-- What is known of a unit between two points

abbrev pub IsLinkedSeen : Context → scopes.Name → Declared → Type 0
IsLinkedSeen k name (declared.Object t n) = IsNode k n × Contains k.statics (n, t) × IsObjectDeclared k n t
IsLinkedSeen k name (declared.Function t) = Unit {0}
IsLinkedSeen k name (declared.Typedef t) = Unit {0}
IsLinkedSeen k name (declared.Enumerator z) = Unit {0}

pub record In (k : Context) (m : units.Known) : Type 0 where
  pub names : AreDeclared k.table (Known k) m.scopes.levels
  pub defined : m.scopes.defined ≡ defined_in k
  pub linked : All (λ (e : scopes.Name × Declared). IsLinkedSeen k e.0 e.1) m.linked
  pub statics : All (λ n. (t : TypeId) × Contains k.statics (n, t)) m.statics

pub record Last (k : Context) (m : units.Known) : Type 0 where
  pub followed : (t : TypeId) → is_complete_at k.table m.scopes t ≡ true → IsComplete k.table t
  pub lengths : (t : TypeId) (n : ℕ) → number_of_shape (shape_at k.table t) ≡ Some n → is_empty (members_named m.scopes n) ≡ false
      → length (members_named m.scopes n) ≡ length (members_at k.table t)
  pub linked : (name : scopes.Name) (x : Declared) → entry_of m.linked name ≡ Some x → entry_of k.linked name ≡ Some x

-- what stays true of a stage
pub record Fixed (k : Context) : Type 0 where
  pub formed : IsWellFormed k.table
  pub calls : MayCall k
  pub definitions : AreDefinitions k
  pub runs : k.runs ≡ true
  -- no home is that of a variable and of what lives as long as the program
  pub apart : (h : NodeId) (t u : TypeId) → Contains k.statics (h, t) → Contains k.variables (h, u) → ⊥

pub record IsGrown (m m' : units.Known) : Type 0 where
  pub stays : IsOuter m.scopes m'.scopes
  pub linked : (name : scopes.Name) (x : Declared) → entry_of m.linked name ≡ Some x → entry_of m'.linked name ≡ Some x

abbrev pub AreListed : Context → List TypedDeclarator → Type 0
AreListed k told = All (Contains k.declarators) told

-- from the one point to the other: what is made is given, what is declared is listed, R is true
pub record Step (k : Context) (m m' : units.Known) (made : List Made) (told : List TypedDeclarator) (R : Type 0) : Type 0 where
  pub grown : IsGrown m m'
  pub ready : In k m → Last k m' → AreMade k made → AreListed k told → R × In k m'

pub grown-same : (m m' : units.Known) → m' ≡ m → IsGrown m m'
grown-same m m' h =
    record {
      stays = same-outer m.scopes m'.scopes (ap (λ (q : units.Known). q.scopes) h);
      linked = λ name x g. subst
          (λ (q : units.Known). entry_of q.linked name ≡ Some x) (sym h) g;
    }

pub both-grown : {a b c : units.Known} → IsGrown a b → IsGrown b c → IsGrown a c
both-grown p q = record { stays = both-outer p.stays q.stays; linked = λ name x g. q.linked name x (p.linked name x g) }

module _ (k : Context) where
  pub last-left : (m m' : units.Known) → IsGrown m m' → Last k m' → Last k m
  last-left m m' g l = record {
    followed = λ t h. l.followed t (shape-later m.scopes m'.scopes g.stays (is_complete (entry_at k.table t)) (shape_at k.table t) h);
    lengths = λ t n h x. ap (λ (xs : List scopes.Name). length xs) (sym (g.stays.members n x))
        ∙ l.lengths t n h (nonempty-same (members_named m'.scopes n) (members_named m.scopes n) (g.stays.members n x) x);
    linked = λ name x h. l.linked name x (g.linked name x h);
  }

  pub none : (m m' : units.Known) → m' ≡ m → Step k m m' [] [] (Unit {0})
  none m m' h = record { grown = grown-same m m' h; ready = λ i l a d. (tt, subst (In k) (sym h) i) }

  pub joins : {R S : Type 0} (xs ys : List Made) {ds es : List TypedDeclarator} (a b c : units.Known) → Step k a b xs ds R → Step k b c ys es S
      → Step k a c (xs ++ ys) (ds ++ es) (R × S)
  joins xs ys {ds} {es} a b c p q = record {
    grown = both-grown p.grown q.grown;
    ready = λ i l m d.
        let x = p.ready i (last-left b c q.grown l) (ml k xs ys m) (all-left (Contains k.declarators) ds es d) in
        let y = q.ready x.1 l (mr k xs ys m) (all-right (Contains k.declarators) ds es d) in ((x.0, y.0), y.1);
  }

  -- the second part declares nothing
  pub joins-plain : {R S : Type 0} (xs ys : List Made) {ds : List TypedDeclarator} (a b c : units.Known) → Step k a b xs ds R → Step k b c ys [] S
      → Step k a c (xs ++ ys) ds (R × S)
  joins-plain xs ys a b c p q = record {
    grown = both-grown p.grown q.grown;
    ready = λ i l m d.
        let x = p.ready i (last-left b c q.grown l) (ml k xs ys m) d in
        let y = q.ready x.1 l (mr k xs ys m) (All-nil (Contains k.declarators)) in ((x.0, y.0), y.1);
  }

  pub gives : {R S : Type 0} (xs : List Made) {ds : List TypedDeclarator} (a b : units.Known) → (R → S) → Step k a b xs ds R → Step k a b xs ds S
  gives xs a b f p = record { grown = p.grown; ready = λ i l m d. let x = p.ready i l m d in (f x.0, x.1) }

  pub ends : {R : Type 0} (xs : List Made) {ds : List TypedDeclarator} (a b c : units.Known) → c ≡ b → Step k a b xs ds R → Step k a c xs ds R
  ends {R} xs {ds} a b c h p = subst (λ (q : units.Known). Step k a q xs ds R) (sym h) p

  -- a part that declares no object
  pub walks : (f : Fixed k) {R : Type 0} (xs : List Made) (m : units.Known) (s : Scopes) → IsWalked k.table (Known k) m.scopes s
      → (At k m.scopes s → AreMade k xs → R) → Step k m (with_scopes m s) xs [] R
  walks f xs m s w r = record {
    grown = record { stays = w.stays; linked = λ name x g. g };
    ready =
        λ i l a d. (
          r (record {
            names = i.names;
            defined = i.defined;
            followed = l.followed;
            lengths = l.lengths;
            calls = f.calls;
            definitions = f.definitions;
          }) a,
          record { names = w.names i.names; defined = w.stays.defined ∙ i.defined; linked = i.linked; statics = i.statics },
        );
  }

  -- a block
  pub blocks : {R : Type 0} (xs : List Made) {ds : List TypedDeclarator} (m n : units.Known) → Step k (entering_known m) n xs ds R
      → Step k m (leaving_known n) xs ds R
  blocks xs m n p = record {
    grown = record {
      stays = record {
        outer = ap (λ (ls : List Level). without_innermost ls) (p.grown.stays.outer ∙ outer-of m.scopes.levels empty_level);
        defined = p.grown.stays.defined;
        members = p.grown.stays.members;
      };
      linked = p.grown.linked;
    };
    ready = λ i l a d.
        let x = p.ready (record {
          names = entered-of k.table (Known k) m.scopes.levels i.names;
          defined = i.defined;
          linked = i.linked;
          statics = i.statics;
        })
        (record { followed = l.followed; lengths = l.lengths; linked = l.linked }) a d in (
          x.0,
          record {
            names = left-of k.table (Known k) n.scopes.levels x.1.names;
            defined = x.1.defined;
            linked = x.1.linked;
            statics = x.1.statics;
          },
        );
  }
