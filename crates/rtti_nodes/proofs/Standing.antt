-- What stands once all types are put into their classes.
use Rattle.std.specs.Prelude.{◌↔◌, ◌≢◌, IsTrue, slice_index, IsFalse}
use Rattle.std.proofs.Common.{◌≡◌, ℕ, zero, suc, ◌<◌, ◌≤◌, Bool, true, false, List, [], ◌∷◌, length, map, get_or, slice_get, Some, refl, ap, sym, subst, ◌∙◌, inl, inr, ◌⊎◌, arith}
use Rattle.std.specs.List.{All, AllPairs, Contains, list_any}
use lib.Dec.{eqb}
use Rattle.std.proofs.lemmas.Bool.Decides.{Decides-eqb}
use Rattle.std.proofs.lemmas.Option.{slice_get-get_or, get_or_from_slice_get}
use Rattle.std.proofs.lemmas.List.{length-map, get_or-map}
use Rattle.std.proofs.lemmas.List.Elements.{Contains-get_or}
use Rattle.std.proofs.lemmas.Map.Made.{IsDistinct-from_AllPairs}
use Rattle.std.proofs.lemmas.Map.Steps.{length-le_from_distinct_below}
use Rattle.cc_base.specs.Kinds.{kind_at}
use Rattle.indexmap.proofs.CallerLemmas.{Contains-list_any}
use Rattle.std.specs.List.Sorted.{IsPermutation, IsNonDecreasingBy}
use Rattle.std.proofs.lemmas.List.Sorted.{Contains-permutation, IsPermutation-sym}
use Rattle.cc_base.specs.declared.number.TypeId.{TypeId}
use Rattle.cc_base.specs.declared.number.NodeId.{NodeId}
use Rattle.cc_base.specs.declared.kind.Kind.{Kind}
use Rattle.c_types.specs.Table.{Table, IsType, is_function}
use Rattle.c_types.specs.Equality.{cells_of}
use Rattle.c_types.specs.Flows.{IsOfOneClass, Covers}
use Rattle.c_types.specs.Sound.{IsWellFormed}
use Rattle.type_laws.proofs.Pointers.{class_own, class_turned, class_twice}
use Rattle.type_laws.proofs.Sizes.{equal_counts}
use Rattle.cured_code.specs.Tables.{parent_of, is_below}
use Rattle.rtti_nodes.specs.declared.ordering.Sized.{Sized}
use Rattle.rtti_nodes.specs.TypeNodes.{TypeNodes, AreTypeNodes, IsNextCovered, node_at, kind_by}
use Rattle.rtti_nodes.specs.Classes.{IsData, IsLastCovered, AreFirsts, IsNumbered, IsSizedType, AreSorted, sized}
use Rattle.rtti_nodes.proofs.Prefixes.{covers_along, class_if_long, covers_between}
use Rattle.rtti_nodes.proofs.Below.{there, within, order_of, zero_or, below_is, same_some}

pub number_there : (p q : TypeNodes) → p ≡ q → AreTypeNodes p → (t : TypeId) → Contains q.used t → t.0 < length p.numbers
number_there p q e h t c = h.fits t (subst (λ (r : TypeNodes). Contains r.used t) (sym e) c)

pub below_covers : (p q : TypeNodes) → p ≡ q → AreTypeNodes p → (a b : ℕ) (x : Bool) → x ≡ is_below q.parents a b → (t u : TypeId) → Contains q.used t → Contains q.used u
    → node_at q t ≡ a → node_at q u ≡ b → IsTrue x ↔ Covers q.table (kind_by q) t u
below_covers p q e h a b x is t u c d f g =
    let k = (subst AreTypeNodes e h).below t u c d in
    let s : x ≡ is_below q.parents (node_at q t) (node_at q u) = is ∙ ap (λ n. is_below q.parents n b) (sym f) ∙ ap (is_below q.parents (node_at q t)) (sym g) in
    (λ y. k.0 (sym s ∙ y), λ y. s ∙ k.1 y)

-- Lists

contains_get : {A : Type 0} (xs : List A) (x : A) → Contains xs x → (i : ℕ) × (slice_get xs i ≡ Some x)
contains_get [] x (i, l, e) = absurd (omega (arith, l))
contains_get (y ∷ ys) x (zero, l, e) = (0, ap Some e)
contains_get (y ∷ ys) x (suc i, l, e) = let r = contains_get ys x (i, omega (arith, l), e) in (suc r.0, r.1)

get_contains : {A : Type 0} (xs : List A) (i : ℕ) (x : A) → slice_get xs i ≡ Some x → Contains xs x
get_contains [] i x e = absurd (cc (e))
get_contains (y ∷ ys) zero x e = (0, omega arith, same_some y x e)
get_contains (y ∷ ys) (suc i) x e = let r = get_contains ys i x e in (suc r.0, let l = r.1 in omega (arith, l), r.2)

map_contains : {A B : Type 0} (f : A → B) (xs : List A) (x : A) → Contains xs x → Contains (map f xs) (f x)
map_contains f [] x (i, l, e) = absurd (omega (arith, l))
map_contains f (y ∷ ys) x (zero, l, e) = (0, omega arith, ap f e)
map_contains f (y ∷ ys) x (suc i, l, e) = let r = map_contains f ys x (i, omega (arith, l), e) in (suc r.0, let m = r.1 in omega (arith, m), r.2)

contains_map : {A B : Type 0} (f : A → B) (xs : List A) (y : B) → Contains (map f xs) y → (x : A) × Contains xs x × (f x ≡ y)
contains_map f [] y (i, l, e) = absurd (omega (arith, l))
contains_map f (x ∷ xs) y (zero, l, e) = (x, (0, omega arith, refl), e)
contains_map f (x ∷ xs) y (suc i, l, e) =
    let r = contains_map f xs y (i, omega (arith, l), e) in (r.0, (suc r.1.0, let m = r.1.1 in omega (arith, m), r.1.2), r.2)

number_of : TypeId → ℕ
number_of t = t.0

zeroth : TypeId
zeroth = record { 0 = 0 }

numbers_apart : (xs : List TypeId) → AllPairs (λ x y. x ≢ y) xs → AllPairs (λ x y. x ≢ y) (map number_of xs)
unfolding number_of
numbers_apart xs d i j e l m f =
    let k = length-map xs number_of in
    let s = sym (get_or-map number_of xs i zeroth e (omega arith)) ∙ f ∙ get_or-map number_of xs j zeroth e (omega arith) in
    d i j zeroth l (omega arith) (λ v. record { 0 = s v })

-- there are no more types than the table has
few_types : (n : ℕ) (xs : List TypeId) → ((x : TypeId) → Contains xs x → x.0 < n) → AllPairs (λ x y. x ≢ y) xs → length xs ≤ n
unfolding number_of
few_types n xs h d =
    let k = length-map xs number_of in
    let l = length-le_from_distinct_below (map number_of xs) n (IsDistinct-from_AllPairs Decides-eqb (map number_of xs) (numbers_apart xs d)) below in
    omega arith
  where
    below : (q : ℕ) → list_any (eqb q) (map number_of xs) ≡ true → q < n
    below q m =
        let c = Contains-list_any eqb (λ x y. (Decides-eqb x y).0) (map number_of xs) q m in
        let k = length-map xs number_of in
        let i : c.0 < length xs = (let v = c.1 in omega arith) in
        subst (λ v. v < n) (sym (get_or-map number_of xs c.0 zeroth q i) ∙ c.2) (h (get_or xs c.0 zeroth) (Contains-get_or xs c.0 zeroth i))

pub few_firsts : (table : Table) (kind : NodeId → Kind) (firsts : List TypeId) (parents : List ℕ) → AreFirsts table kind firsts parents → length firsts ≤ length table
few_firsts table kind firsts parents f =
    few_types (length table) firsts (λ x c. let g = contains_get firsts x c in (f.types g.0 x g.1).typed)
    (λ i j d l m e. f.apart i j (get_or firsts i d) (get_or firsts j d) l (slice_get-get_or firsts i d (omega arith)) (slice_get-get_or firsts j d m)
    (subst (IsOfOneClass table kind (get_or firsts i d)) e (class_own table kind (get_or firsts i d))))

-- the first types of all classes are types of the table
pub all_typed : (table : Table) (kind : NodeId → Kind) (firsts : List TypeId) (parents : List ℕ) → AreFirsts table kind firsts parents → All (IsType table) firsts
all_typed table kind firsts parents f k d l = (f.types k (get_or firsts k d) (slice_get-get_or firsts k d l)).typed

-- What the sorted types are

module _ (table : Table) (used : List TypeId) (typed : All (IsType table) used) (plain : All (λ t. IsFalse (is_function table t)) used) (ordered : List Sized)
    (same : IsPermutation (map (sized table) used) ordered) where
  is_data : (t : TypeId) → Contains used t → IsData table t
  is_data t c =
      let i = contains_get used t c in let l = within used i.0 t i.1 in let e = get_or_from_slice_get used i.0 t t i.1 in
      record { typed = subst (IsType table) e (typed i.0 t l); plain = subst (λ (u : TypeId). is_function table u ≡ false) e (plain i.0 t l) }

  pub used_of : (s : Sized) → Contains ordered s → (t : TypeId) × Contains used t × (sized table t ≡ s)
  used_of s c = contains_map (sized table) used s (Contains-permutation ordered (map (sized table) used) s (IsPermutation-sym (map (sized table) used) ordered same) c)

  pub sizes_of : (j : ℕ) (s : Sized) → slice_get ordered j ≡ Some s → IsSizedType table s
  sizes_of j s e =
      let u = used_of s (get_contains ordered j s e) in
      subst (IsSizedType table) u.2 (record { right = is_data u.0 u.1; size = refl })

  pub all_sized : All (IsSizedType table) ordered
  all_sized k d l = sizes_of k (get_or ordered k d) (slice_get-get_or ordered k d l)

pub rising_of : (ordered : List Sized) → IsNonDecreasingBy (λ s. s.size) ordered → (i j : ℕ) (r s : Sized) → i ≤ j → slice_get ordered i ≡ Some r → slice_get ordered j ≡ Some s → r.size ≤ s.size
rising_of ordered h i j r s l e f =
    let m = within ordered j s f in
    let k = h i j r l m in
    subst (λ (x : Sized). x.size ≤ s.size) (get_or_from_slice_get ordered i r r e) (subst (λ (x : Sized). (get_or ordered i r).size ≤ x.size) (get_or_from_slice_get ordered j s r f) k)

pub sizes_at : (table : Table) (ordered : List Sized) → All (IsSizedType table) ordered → (j : ℕ) (s : Sized) → slice_get ordered j ≡ Some s → IsSizedType table s
sizes_at table ordered h j s e = subst (IsSizedType table) (get_or_from_slice_get ordered j s s e) (h j s (within ordered j s e))

-- All types are in their classes

module _ (table : Table) (w : IsWellFormed table) (kinds : List Kind) (used : List TypeId) (typed : All (IsType table) used)
    (plain : All (λ t. IsFalse (is_function table t)) used) (ordered : List Sized) (same : IsPermutation (map (sized table) used) ordered)
    (firsts : List TypeId) (parents numbers : List ℕ) (a : AreSorted table (kind_at kinds) ordered (length ordered) firsts parents numbers) where
  kind : NodeId → Kind
  kind = kind_at kinds

  abbrev nodes : TypeNodes
  nodes = record { table = table; kinds = kinds; used = used; numbers = numbers; parents = parents }

  placed : (t : TypeId) → Contains used t → IsNumbered table (kind_at kinds) firsts numbers t
  placed t c =
      let i = contains_get ordered (sized table t) (Contains-permutation (map (sized table) used) ordered (sized table t) same (map_contains (sized table) used t c)) in
      a.numbered i.0 (sized table t) (within ordered i.0 (sized table t) i.1) i.1

  abbrev Data : TypeId → Type 0
  Data t = IsData table t

  data_of : (t : TypeId) → Contains used t → IsData table t
  data_of = is_data table used typed plain ordered same

  -- the first type of a class is used, and has its number
  first_used : (i : ℕ) (t : TypeId) → slice_get firsts i ≡ Some t → Contains used t × (slice_index numbers t.0 ≡ suc i)
  first_used i t e =
      let m = a.made i t e in
      let u = used_of table used typed plain ordered same m.one (get_contains ordered m.place m.one m.found) in
      (subst (Contains used) (ap (λ (s : Sized). s.ty) u.2 ∙ m.is) u.1, m.number)

  same_place : (i j : ℕ) (t u : TypeId) → slice_get firsts i ≡ Some t → slice_get firsts j ≡ Some u → IsOfOneClass table (kind_at kinds) t u → i ≡ j
  same_place i j t u e f c = by (order_of i j)
    where
      by : (i ≡ j) ⊎ (i < j) ⊎ (j < i) → i ≡ j
      by (inl x) = x
      by (inr (inl x)) = absurd (a.stand.apart i j t u x e f c)
      by (inr (inr x)) = absurd (a.stand.apart j i u t x f e (class_turned table (kind_at kinds) t u c))

  one_class : (t u : TypeId) (c : Contains used t) (d : Contains used u) → IsOfOneClass table (kind_at kinds) t u
      → IsOfOneClass table (kind_at kinds) (placed t c).first (placed u d).first
  one_class t u c d h =
      class_twice table (kind_at kinds) w (placed t c).first t (placed u d).first (class_turned table (kind_at kinds) t (placed t c).first (placed t c).class)
      (class_twice table (kind_at kinds) w t u (placed u d).first h (placed u d).class)

  classes : (t u : TypeId) → Contains used t → Contains used u → (node_at nodes t ≡ node_at nodes u) ↔ IsOfOneClass table (kind_at kinds) t u
  classes t u c d = (
    λ e.
        let p : (placed t c).place ≡ (placed u d).place = (let x = (placed t c).number in let y = (placed u d).number in omega (arith, e, x, y)) in
        let f : (placed t c).first ≡ (placed u d).first = same_some _ _ (sym (placed t c).found ∙ ap (slice_get firsts) p ∙ (placed u d).found) in
        class_twice table (kind_at kinds) w t (placed t c).first u (placed t c).class
        (subst (λ (v : TypeId). IsOfOneClass table (kind_at kinds) v u) (sym f) (class_turned table (kind_at kinds) u (placed u d).first (placed u d).class)),
    λ h. (placed t c).number ∙ ap suc (same_place (placed t c).place (placed u d).place (placed t c).first (placed u d).first (placed t c).found (placed u d).found (one_class t u c d h))
        ∙ sym (placed u d).number,
  )

  covers_firsts : (t u : TypeId) (c : Contains used t) (d : Contains used u) → Covers table (kind_at kinds) t u → Covers table (kind_at kinds) (placed t c).first (placed u d).first
  covers_firsts t u c d =
      covers_along table w (kind_at kinds) t (placed t c).first u (placed u d).first (a.stand.types (placed t c).place (placed t c).first (placed t c).found).plain
      (placed t c).class (placed u d).class

  covers_used : (t u : TypeId) (c : Contains used t) (d : Contains used u) → Covers table (kind_at kinds) (placed t c).first (placed u d).first → Covers table (kind_at kinds) t u
  covers_used t u c d =
      covers_along table w (kind_at kinds) (placed t c).first t (placed u d).first u (data_of t c).plain
      (class_turned table (kind_at kinds) t (placed t c).first (placed t c).class) (class_turned table (kind_at kinds) u (placed u d).first (placed u d).class)

  below_holds : (t u : TypeId) → Contains used t → Contains used u → IsTrue (is_below parents (node_at nodes t) (node_at nodes u)) ↔ Covers table (kind_at kinds) t u
  below_holds t u c d =
      let k = below_is table w (kind_at kinds) firsts parents a.stand (placed t c).place (placed u d).place (placed t c).first (placed u d).first (placed t c).found (placed u d).found in
      let e : is_below parents (node_at nodes t) (node_at nodes u) ≡ is_below parents (suc (placed t c).place) (suc (placed u d).place) =
      ap (λ n. is_below parents n (node_at nodes u)) (placed t c).number ∙ ap (is_below parents (suc (placed t c).place)) (placed u d).number in
      (λ h. covers_used t u c d (k.0 (sym e ∙ h)), λ h. e ∙ k.1 (covers_firsts t u c d h))

  -- Parents

  first_of : (t : TypeId) → Contains used t → TypeId
  first_of t c = (placed t c).first

  -- one that comes before is of no class that comes behind
  module _ (t : TypeId) (c : Contains used t) where
    i : ℕ
    i = (placed t c).place

    is_last : IsLastCovered table (kind_at kinds) firsts (placed t c).place (placed t c).first (slice_index parents (placed t c).place)
    is_last = a.stand.parent (placed t c).place (placed t c).first (placed t c).found

    small : (placed t c).place < length firsts
    small = within firsts (placed t c).place (placed t c).first (placed t c).found

    -- what t covers and isn't of its class comes before
    comes_before : (u : TypeId) (d : Contains used u) → Covers table (kind_at kinds) t u → (IsOfOneClass table (kind_at kinds) t u → ⊥) → (placed u d).place < (placed t c).place
    comes_before u d h n = by (order_of (placed u d).place (placed t c).place)
      where
        g : Covers table (kind_at kinds) (placed t c).first (placed u d).first
        g = covers_firsts t u c d h

        by : ((placed u d).place ≡ (placed t c).place) ⊎ ((placed u d).place < (placed t c).place) ⊎ ((placed t c).place < (placed u d).place) → (placed u d).place < (placed t c).place
        by (inl x) = absurd (n ((classes t u c d).0 (let y = (placed t c).number in let z = (placed u d).number in omega (arith, x, y, z))))
        by (inr (inl x)) = x
        by (inr (inr x)) =
            absurd (a.stand.apart (placed t c).place (placed u d).place (placed t c).first (placed u d).first x (placed t c).found (placed u d).found
            (class_if_long table w (kind_at kinds) (placed t c).first (placed u d).first (a.stand.types (placed t c).place (placed t c).first (placed t c).found).typed
            (a.stand.types (placed u d).place (placed u d).first (placed u d).found).typed
            (a.stand.rising (placed t c).place (placed u d).place (placed t c).first (placed u d).first (omega (arith, x)) (placed t c).found (placed u d).found) g))

    at_most : (u : TypeId) (d : Contains used u) → Covers table (kind_at kinds) t u → (placed u d).place < (placed t c).place → suc (placed u d).place ≤ slice_index parents (placed t c).place
    at_most u d h l = by (order (placed u d).place (slice_index parents (placed t c).place))
      where
        order : (x y : ℕ) → (x < y) ⊎ (y ≤ x)
        order x y = grind arith

        by : ((placed u d).place < slice_index parents (placed t c).place) ⊎ (slice_index parents (placed t c).place ≤ (placed u d).place) → suc (placed u d).place ≤ slice_index parents (placed t c).place
        by (inl x) = omega (arith, x)
        by (inr x) = absurd (is_last.behind (placed u d).place (placed u d).first x l (placed u d).found (covers_firsts t u c d h))

    size_of_first : (u : TypeId) (d : Contains used u) → length (cells_of table u) ≡ length (cells_of table (placed u d).first)
    size_of_first u d = equal_counts table w u (placed u d).first (placed u d).class.equal

    -- the parent's type
    module _ (k : ℕ) (e : slice_index parents (placed t c).place ≡ suc k) where
      before : k < (placed t c).place
      before = let l = is_last.within in omega (arith, l, e)

      v : TypeId
      v = (there firsts k (let l = before in let m = small in omega (arith, l, m))).0

      v_found : slice_get firsts k ≡ Some v
      unfolding v
      v_found = (there firsts k (let l = before in let m = small in omega (arith, l, m))).1

      v_used : Contains used v
      v_used = (first_used k v v_found).0

      v_covered : Covers table (kind_at kinds) t v
      v_covered =
          covers_along table w (kind_at kinds) (placed t c).first t v v (data_of t c).plain (class_turned table (kind_at kinds) t (placed t c).first (placed t c).class)
          (class_own table (kind_at kinds) v) (is_last.covered k v e v_found)

      v_other : IsOfOneClass table (kind_at kinds) t v → ⊥
      v_other h =
          a.stand.apart k (placed t c).place v (placed t c).first before v_found (placed t c).found
          (class_twice table (kind_at kinds) w v t (placed t c).first (class_turned table (kind_at kinds) t v h) (placed t c).class)

      longest : (u : TypeId) (d : Contains used u) → (placed u d).place ≤ k → length (cells_of table u) ≤ length (cells_of table v)
      longest u d l =
          let s = size_of_first u d in let r = a.stand.rising (placed u d).place k (placed u d).first v l (placed u d).found v_found in omega (arith, s, r)

      is_next : IsNextCovered nodes t v
      is_next = record {
        used = v_used;
        covers = v_covered;
        other = v_other;
        longest = λ u d h n. longest u d (let b = at_most u d h (comes_before u d h n) in omega (arith, b, e));
      }

    root_holds : ((u : TypeId) → IsNextCovered nodes t u → ⊥) → slice_index parents (placed t c).place ≡ 0
    root_holds none = by (zero_or (slice_index parents (placed t c).place))
      where
        by : (slice_index parents (placed t c).place ≡ 0) ⊎ ((k : ℕ) × (slice_index parents (placed t c).place ≡ suc k)) → slice_index parents (placed t c).place ≡ 0
        by (inl x) = x
        by (inr (k, x)) = absurd (none (v k x) (is_next k x))

    parent_holds : (u : TypeId) → IsNextCovered nodes t u → slice_index parents (placed t c).place ≡ node_at nodes u
    parent_holds u n = by (zero_or (slice_index parents (placed t c).place))
      where
        d : Contains used u
        d = n.used

        b : suc (placed u n.used).place ≤ slice_index parents (placed t c).place
        b = at_most u n.used n.covers (comes_before u n.used n.covers n.other)

        same_node : (k : ℕ) (e : slice_index parents (placed t c).place ≡ suc k) → (placed u n.used).place ≤ k → node_at nodes u ≡ node_at nodes (v k e)
        same_node k e l =
            (classes u (v k e) n.used (v_used k e)).1
            (class_if_long table w (kind_at kinds) u (v k e) (data_of u n.used).typed (data_of (v k e) (v_used k e)).typed (longest k e u n.used l)
            (covers_between table w (kind_at kinds) t u (v k e) (n.longest (v k e) (v_used k e) (v_covered k e) (v_other k e)) n.covers (v_covered k e)))

        by : (slice_index parents (placed t c).place ≡ 0) ⊎ ((k : ℕ) × (slice_index parents (placed t c).place ≡ suc k)) → slice_index parents (placed t c).place ≡ node_at nodes u
        by (inl x) = absurd (let y = b in omega (arith, x, y))
        by (inr (k, x)) = x ∙ sym (first_used k (v k x) (v_found k x)).1 ∙ sym (same_node k x (let y = b in omega (arith, x, y)))

  all_made : (k : ℕ) → 0 < k → k ≤ length parents → (t : TypeId) × Contains used t × (slice_index numbers t.0 ≡ k)
  all_made zero l m = absurd (omega (arith, l))
  all_made (suc k) l m =
      let n = a.stand.count in let t = there firsts k (omega (arith, m, n)) in let f = first_used k t.0 t.1 in (t.0, f.0, f.1)

  pub type_nodes : AreTypeNodes (record { table = table; kinds = kinds; used = used; numbers = numbers; parents = parents })
  type_nodes = record {
    formed = w;
    fits = λ t c. let l = (data_of t c).typed in let e = a.fits in omega (arith, l, e);
    few = let l = few_firsts table (kind_at kinds) firsts parents a.stand in let e = a.stand.count in omega (arith, l, e);
    each = λ t c.
        let n = (placed t c).number in let l = small t c in let e = a.stand.count in (omega (arith, n), omega (arith, n, l, e));
    all = all_made;
    class = classes;
    parent = λ t u c n. ap (parent_of parents) (placed t c).number ∙ parent_holds t c u n;
    root = λ t c n. ap (parent_of parents) (placed t c).number ∙ root_holds t c n;
    earlier = λ k l. let n = a.stand.count in let t = there firsts k (omega (arith, l, n)) in (a.stand.parent k t.0 t.1).within;
    below = below_holds;
  }
