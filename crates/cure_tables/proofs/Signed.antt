-- One function type after another gets its signature.
use Rattle.std.specs.Prelude.{◌↔◌, ◌*◌, slice_index, slice_set, sum_by, nat_le, if◌then◌else◌, IfSome}
use Rattle.std.proofs.Common.{◌≡◌, ℕ, zero, suc, ◌+◌, ◌<◌, ◌≤◌, Bool, true, false, List, [], ◌∷◌, ◌++◌, length, get_or, slice_get, Option, Some, refl, ap, sym, subst, ◌∙◌, inl, inr, ◌⊎◌, true≢false, arith}
use Rattle.std.specs.List.{All}
use Rattle.std.proofs.lemmas.Bool.Decides.{nat_tests}
use Rattle.std.proofs.lemmas.Option.{slice_get-get_or, get_or_from_slice_get}
use Rattle.std.proofs.lemmas.List.Sums.{sum_by-cons}
use Rattle.cc_base.specs.declared.number.TypeId.{TypeId}
use Rattle.cc_base.specs.declared.number.NodeId.{NodeId}
use Rattle.cc_base.specs.declared.kind.Kind.{Kind}
use Rattle.cc_base.specs.declared.kind.Kind.TheVariants.{Safe, Seq, Rtti, Wild}
use Rattle.c_types.specs.declared.shape.TypeShape.{TypeShape}
use Rattle.c_types.specs.declared.shape.TypeShape.TheVariants.{Void, Integer, Pointer, Array, Function, Struct, Union}
use Rattle.c_types.specs.Table.{Table, IsType, shape_at, is_function}
use Rattle.c_types.specs.Coverage.{of_one_class}
use Rattle.type_laws.proofs.Coverage.{one_class_is}
use Rattle.sim_relation.specs.Ground.{word_number}
use Rattle.cil_form.specs.Shape.{parameters_limit}
use Rattle.cure_rules.specs.Known.{words_by}
use Rattle.c_types.specs.Flows.{IsOfOneClass}
use Rattle.c_types.specs.Sound.{IsWellFormed}
use Rattle.type_laws.proofs.Pointers.{class_own, class_turned, class_twice}
use Rattle.cured_code.specs.declared.parts.Sig.{Sig}
use Rattle.cured_code.specs.Ranges.{IsSigInRange}
use Rattle.cure_rules.specs.Functions.{words_at, bare, signature_by, signature_of, AreSignatures}
use Rattle.cure_tables.specs.declared.function_types.Signing.{Signing}
use Rattle.cure_tables.specs.Signed.{IsJoined, IsBegun, IsSigned, IsPassed, IsFirstOf, HasNumber, AreSigned}
use Rattle.cure_tables.proofs.Classes.{function_typed, class_signature}

-- Lists

pub take_some : (o : Option ℕ) (P : ℕ → Type 0) (i : ℕ) → o ≡ Some i → IfSome o P → P i
take_some o P i e h = subst (λ (x : Option ℕ). IfSome x P) e h

same_some : {A : Type 0} (x y : A) → Some x ≡ Some y → x ≡ y
same_some x y h = cc

within : {A : Type 0} (xs : List A) (i : ℕ) (x : A) → slice_get xs i ≡ Some x → i < length xs
within [] i x h = absurd (cc (h))
within (y ∷ xs) zero x h = omega arith
within (y ∷ xs) (suc i) x h = let k = within xs i x h in omega arith

pub place_within : {A : Type 0} (xs : List A) (i : ℕ) (x : A) → slice_get xs i ≡ Some x → i < length xs
place_within xs i x e = within xs i x e

there : {A : Type 0} (xs : List A) (i : ℕ) → i < length xs → (x : A) × (slice_get xs i ≡ Some x)
there [] i h = absurd (omega (arith, h))
there (x ∷ xs) zero h = (x, refl)
there (x ∷ xs) (suc i) h = there xs i (omega (arith, h))

front_get : {A : Type 0} (xs ys : List A) (i : ℕ) → i < length xs → slice_get (xs ++ ys) i ≡ slice_get xs i
front_get [] ys i h = absurd (omega (arith, h))
front_get (x ∷ xs) ys zero h = refl
front_get (x ∷ xs) ys (suc i) h = front_get xs ys i (omega (arith, h))

last_get : {A : Type 0} (xs : List A) (x y : A) (i : ℕ) → length xs ≤ i → slice_get (xs ++ x ∷ []) i ≡ Some y → (i ≡ length xs) × (y ≡ x)
last_get [] x y zero h e = (refl, same_some y x (sym e))
last_get [] x y (suc i) h e = absurd (cc (e))
last_get (z ∷ xs) x y zero h e = absurd (omega (arith, h))
last_get (z ∷ xs) x y (suc i) h e = let r = last_get xs x y i (omega (arith, h)) e in (let k = r.0 in omega arith, r.1)

last_there : {A : Type 0} (xs : List A) (x : A) → slice_get (xs ++ x ∷ []) (length xs) ≡ Some x
last_there [] x = refl
last_there (z ∷ xs) x = last_there xs x

pushed_length : {A : Type 0} (xs : List A) (x : A) → length (xs ++ x ∷ []) ≡ suc (length xs)
pushed_length [] x = refl
pushed_length (z ∷ xs) x = ap suc (pushed_length xs x)

front_or : {A : Type 0} (xs : List A) (x y : A) (i : ℕ) → slice_get (xs ++ x ∷ []) i ≡ Some y → (slice_get xs i ≡ Some y) ⊎ ((i ≡ length xs) × (y ≡ x))
front_or xs x y i e = by (order i (length xs))
  where
    order : (a b : ℕ) → (a < b) ⊎ (b ≤ a)
    order a b = grind arith

    by : (i < length xs) ⊎ (length xs ≤ i) → (slice_get xs i ≡ Some y) ⊎ ((i ≡ length xs) × (y ≡ x))
    by (inl l) = inl (sym (front_get xs (x ∷ []) i l) ∙ e)
    by (inr l) = inr (last_get xs x y i l e)

set_same : (xs : List ℕ) (i x : ℕ) → i < length xs → slice_index (slice_set xs i x) i ≡ x
set_same [] i x h = absurd (omega (arith, h))
set_same (y ∷ xs) zero x h = refl
set_same (y ∷ xs) (suc i) x h = set_same xs i x (omega (arith, h))

set_other : (xs : List ℕ) (i j x : ℕ) → (i ≡ j → ⊥) → slice_index (slice_set xs i x) j ≡ slice_index xs j
set_other [] i j x h = refl
set_other (y ∷ xs) zero zero x h = absurd (h refl)
set_other (y ∷ xs) zero (suc j) x h = refl
set_other (y ∷ xs) (suc i) zero x h = refl
set_other (y ∷ xs) (suc i) (suc j) x h = set_other xs i j x (λ e. h (ap suc e))

set_length : (xs : List ℕ) (i x : ℕ) → length (slice_set xs i x) ≡ length xs
set_length [] i x = refl
set_length (y ∷ xs) zero x = refl
set_length (y ∷ xs) (suc i) x = ap suc (set_length xs i x)

all_pushed : {A : Type 0} (P : A → Type 0) (xs : List A) (x : A) → All P xs → P x → All P (xs ++ x ∷ [])
all_pushed P xs x a p i d l = by (there (xs ++ x ∷ []) i l)
  where
    by : (y : _) × (slice_get (xs ++ x ∷ []) i ≡ Some y) → P (get_or (xs ++ x ∷ []) i d)
    by (y, e) = subst P (sym (get_or_from_slice_get (xs ++ x ∷ []) i y d e)) (elim (front_or xs x y i e) [
      | inl f ↦ subst P (get_or_from_slice_get xs i y d f) (a i d (within xs i y f))
      | inr f ↦ subst P (sym f.1) p
    ])

same_id : (t u : TypeId) → t.0 ≡ u.0 → t ≡ u
same_id t u e = ap (λ (n : ℕ). record { 0 = n }) e

order_of : (i j : ℕ) → (i ≡ j) ⊎ (i < j) ⊎ (j < i)
order_of i j = grind arith

before_or : (i n : ℕ) → i < n + 1 → (i < n) ⊎ (i ≡ n)
before_or i n l = grind arith

module _ (table : Table) (w : IsWellFormed table) (kind : NodeId → Kind) where
  -- a type that is no function type changes nothing
  pub passed : (n : ℕ) (t : TypeId) (state : Signing) → t.0 ≡ n → is_function table t ≡ false → AreSigned table kind n state → AreSigned table kind (n + 1) state
  passed n t state e f a = record {
    few = let l = a.few in omega (arith, l);
    count = a.count;
    fits = a.fits;
    start = a.start;
    sigs = a.sigs;
    firsts = λ i u g. let b = a.firsts i u g in record { function = b.function; before = (let l = b.before in omega (arith, l)); number = b.number };
    apart = a.apart;
    numbered = λ u l h. elim (before_or u.0 n l) [
      | inl m ↦ a.numbered u m h
      | inr m ↦ absurd (true≢false (sym h ∙ ap (is_function table) (same_id u t (m ∙ sym e)) ∙ f))
    ];
    kept = a.kept;
  }

  module _ (n : ℕ) (t : TypeId) (is : t.0 ≡ n) (typed : IsType table t) (f : is_function table t ≡ true) (old new : Signing) (a : AreSigned table kind n old) where
    in_numbers : t.0 < length old.numbers.items
    in_numbers = let e = a.fits in let l = typed in omega (arith, l, e)

    module _ (x : ℕ) (numbers : new.numbers.items ≡ slice_set old.numbers.items t.0 x) where
      fits : length new.numbers.items ≡ length table
      fits = ap length numbers ∙ set_length old.numbers.items t.0 x ∙ a.fits

      own : slice_index new.numbers.items t.0 ≡ x
      own = ap (λ (ns : List ℕ). slice_index ns t.0) numbers ∙ set_same old.numbers.items t.0 x in_numbers

      others : (u : TypeId) → u.0 < n → slice_index new.numbers.items u.0 ≡ slice_index old.numbers.items u.0
      others u l = ap (λ (ns : List ℕ). slice_index ns u.0) numbers ∙ set_other old.numbers.items t.0 u.0 x (λ e. absurd (let q = is in omega (arith, l, e)))

      first_on : (i : ℕ) (u : TypeId) → IsFirstOf table old.numbers.items n i u → IsFirstOf table new.numbers.items (n + 1) i u
      first_on i u b = record { function = b.function; before = (let l = b.before in omega (arith, l)); number = others u b.before ∙ b.number }

    joined : IsJoined table kind t old new → AreSigned table kind (n + 1) new
    joined j = record {
      few = let l = a.few in let e = ap length j.firsts in omega (arith, l, e);
      count = ap length j.sigs ∙ a.count ∙ ap (λ (xs : List TypeId). suc (length xs)) (sym j.firsts);
      fits = fits (suc j.place) j.numbers;
      start = ap (λ (xs : List Sig). slice_get xs 0) j.sigs ∙ a.start;
      sigs = λ i u e. ap (λ (xs : List Sig). slice_get xs (suc i)) j.sigs ∙ a.sigs i u (back i u e);
      firsts = λ i u e. first_on (suc j.place) j.numbers i u (a.firsts i u (back i u e));
      apart = λ i k u v l e g c. a.apart i k u v l (back i u e) (back k v g) c;
      numbered = λ u l h. subst (λ (xs : List TypeId). HasNumber table kind xs new.numbers.items u) (sym j.firsts) (elim (before_or u.0 n l) [
        | inl m ↦ (let b = a.numbered u m h in record { place = b.place; alike = b.alike; number = others (suc j.place) j.numbers u m ∙ b.number })
        | inr m ↦
            subst (HasNumber table kind old.firsts.items new.numbers.items) (same_id t u (is ∙ sym m))
            (record { place = j.place; alike = j.alike; number = own (suc j.place) j.numbers })
      ]);
      kept = subst (λ (xs : List Sig). All IsSigInRange xs) (sym j.sigs) a.kept;
    }
      where
        back : (i : ℕ) (u : TypeId) → slice_get new.firsts.items i ≡ Some u → slice_get old.firsts.items i ≡ Some u
        back i u e = sym (ap (λ (xs : List TypeId). slice_get xs i) j.firsts) ∙ e

    module _ (j : IsBegun table kind t old new) (kept : IsSigInRange (signature_of table kind t)) where
      cases : (i : ℕ) (u : TypeId) → slice_get new.firsts.items i ≡ Some u → (slice_get old.firsts.items i ≡ Some u) ⊎ ((i ≡ length old.firsts.items) × (u ≡ t))
      cases i u e = front_or old.firsts.items t u i (sym (ap (λ (xs : List TypeId). slice_get xs i) j.firsts) ∙ e)

      begun_sigs : (i : ℕ) (u : TypeId) → slice_get new.firsts.items i ≡ Some u → slice_get new.sigs.items (suc i) ≡ Some (signature_of table kind u)
      begun_sigs i u e = ap (λ (xs : List Sig). slice_get xs (suc i)) j.sigs ∙ by (cases i u e)
        where
          by : (slice_get old.firsts.items i ≡ Some u) ⊎ ((i ≡ length old.firsts.items) × (u ≡ t)) → slice_get (old.sigs.items ++ signature_of table kind t ∷ []) (suc i) ≡ Some (signature_of table kind u)
          by (inl x) =
              front_get old.sigs.items (signature_of table kind t ∷ []) (suc i) (let l = within old.firsts.items i u x in let c = a.count in omega (arith, l, c)) ∙ a.sigs i u x
          by (inr x) =
              ap (slice_get (old.sigs.items ++ signature_of table kind t ∷ [])) (ap suc x.0 ∙ sym a.count) ∙ last_there old.sigs.items (signature_of table kind t)
              ∙ ap (λ v. Some (signature_of table kind v)) (sym x.1)

      begun_firsts : (i : ℕ) (u : TypeId) → slice_get new.firsts.items i ≡ Some u → IsFirstOf table new.numbers.items (n + 1) i u
      begun_firsts i u e = elim (cases i u e) [
        | inl x ↦ first_on (suc (length old.firsts.items)) j.numbers i u (a.firsts i u x)
        | inr x ↦
            subst (IsFirstOf table new.numbers.items (n + 1) i) (sym x.1)
            (record { function = f; before = (let q = is in omega (arith, q)); number = own (suc (length old.firsts.items)) j.numbers ∙ ap suc (sym x.0) })
      ]

      begun_apart : (i k : ℕ) (u v : TypeId) → i < k → slice_get new.firsts.items i ≡ Some u → slice_get new.firsts.items k ≡ Some v → IsOfOneClass table kind u v → ⊥
      begun_apart i k u v l e g c = by (cases i u e) (cases k v g)
        where
          by : (slice_get old.firsts.items i ≡ Some u) ⊎ ((i ≡ length old.firsts.items) × (u ≡ t)) → (slice_get old.firsts.items k ≡ Some v) ⊎ ((k ≡ length old.firsts.items) × (v ≡ t)) → ⊥
          by (inl x) (inl y) = a.apart i k u v l x y c
          by (inl x) (inr y) = j.none.other i u x (class_turned table kind u t (subst (IsOfOneClass table kind u) y.1 c))
          by (inr x) (inl y) = let z = within old.firsts.items k v y in let q = x.0 in absurd (omega (arith, l, z, q))
          by (inr x) (inr y) = let p = x.0 in let q = y.0 in absurd (omega (arith, l, p, q))

      begun_numbered : (u : TypeId) → u.0 < n + 1 → is_function table u ≡ true → HasNumber table kind new.firsts.items new.numbers.items u
      begun_numbered u l h = subst (λ (xs : List TypeId). HasNumber table kind xs new.numbers.items u) (sym j.firsts) (by (before_or u.0 n l))
        where
          by : (u.0 < n) ⊎ (u.0 ≡ n) → HasNumber table kind (old.firsts.items ++ t ∷ []) new.numbers.items u
          by (inl m) =
              let b = a.numbered u m h in
              record {
                place = b.place;
                alike = record {
                  first = b.alike.first;
                  found = front_get old.firsts.items (t ∷ []) b.place (within old.firsts.items b.place b.alike.first b.alike.found) ∙ b.alike.found;
                  class = b.alike.class;
                };
                number = others (suc (length old.firsts.items)) j.numbers u m ∙ b.number;
              }
          by (inr m) =
              subst (HasNumber table kind (old.firsts.items ++ t ∷ []) new.numbers.items) (same_id t u (is ∙ sym m)) (record {
                place = length old.firsts.items;
                alike = record { first = t; found = last_there old.firsts.items t; class = class_own table kind t };
                number = own (suc (length old.firsts.items)) j.numbers;
              })

      begun : AreSigned table kind (n + 1) new
      begun = record {
        few = let l = a.few in let e = ap length j.firsts in let p = pushed_length old.firsts.items t in omega (arith, l, e, p);
        count = ap length j.sigs ∙ pushed_length old.sigs.items (signature_of table kind t) ∙ ap suc a.count ∙ ap suc (sym (pushed_length old.firsts.items t))
            ∙ ap (λ (xs : List TypeId). suc (length xs)) (sym j.firsts);
        fits = fits (suc (length old.firsts.items)) j.numbers;
        start = ap (λ (xs : List Sig). slice_get xs 0) j.sigs
            ∙ front_get old.sigs.items (signature_of table kind t ∷ []) 0 (let c = a.count in omega (arith, c)) ∙ a.start;
        sigs = begun_sigs;
        firsts = begun_firsts;
        apart = begun_apart;
        numbered = begun_numbered;
        kept = subst (λ (xs : List Sig). All IsSigInRange xs) (sym j.sigs) (all_pushed IsSigInRange old.sigs.items (signature_of table kind t) a.kept kept);
      }

    pub signed_one : IsSigInRange (signature_of table kind t) → IsSigned table kind t old new → AreSigned table kind (n + 1) new
    signed_one k s = elim s [
      | inl j ↦ joined j
      | inr j ↦ begun j k
    ]

  -- all types are done
  module _ (state : Signing) (a : AreSigned table kind (length table) state) where
    numbered : (t : TypeId) → is_function table t ≡ true → HasNumber table kind state.firsts.items state.numbers.items t
    numbered t f = a.numbered t (function_typed table t f) f

    has_sig : (t : TypeId) → is_function table t ≡ true → slice_get state.sigs.items (slice_index state.numbers.items t.0) ≡ Some (signature_of table kind t)
    has_sig t f =
        let h = numbered t f in
        ap (slice_get state.sigs.items) h.number ∙ a.sigs h.place h.alike.first h.alike.found
        ∙ ap Some (sym (class_signature table w kind t h.alike.first f (a.firsts h.place h.alike.first h.alike.found).function h.alike.class))

    same_place : (i j : ℕ) (t u : TypeId) → slice_get state.firsts.items i ≡ Some t → slice_get state.firsts.items j ≡ Some u → IsOfOneClass table kind t u → i ≡ j
    same_place i j t u e g c = by (order_of i j)
      where
        by : (i ≡ j) ⊎ (i < j) ⊎ (j < i) → i ≡ j
        by (inl x) = x
        by (inr (inl x)) = absurd (a.apart i j t u x e g c)
        by (inr (inr x)) = absurd (a.apart j i u t x g e (class_turned table kind t u c))

    classes : (t u : TypeId) → is_function table t ≡ true → is_function table u ≡ true
        → (slice_index state.numbers.items t.0 ≡ slice_index state.numbers.items u.0) ↔ IsOfOneClass table kind t u
    classes t u f g =
        let h = numbered t f in
        let k = numbered u g in (
          λ e.
              let p : h.place ≡ k.place = (let x = h.number in let y = k.number in omega (arith, e, x, y)) in
              let q : h.alike.first ≡ k.alike.first = same_some _ _ (sym h.alike.found ∙ ap (slice_get state.firsts.items) p ∙ k.alike.found) in
              class_twice table kind w t h.alike.first u h.alike.class
              (subst (λ (v : TypeId). IsOfOneClass table kind v u) (sym q) (class_turned table kind u k.alike.first k.alike.class)),
          λ c.
              h.number
              ∙ ap suc (same_place h.place k.place h.alike.first k.alike.first h.alike.found k.alike.found
              (class_twice table kind w h.alike.first t k.alike.first (class_turned table kind t h.alike.first h.alike.class)
              (class_twice table kind w t u k.alike.first c k.alike.class)))
              ∙ sym k.number,
        )

    each_used : (g : ℕ) → 0 < g → g < length state.sigs.items → (t : TypeId) × (is_function table t ≡ true) × (slice_index state.numbers.items t.0 ≡ g)
    each_used zero l m = absurd (omega (arith, l))
    each_used (suc g) l m =
        let c = a.count in
        let t = there state.firsts.items g (omega (arith, m, c)) in
        let b = a.firsts g t.0 t.1 in (t.0, b.function, b.number)

    pub all_signed : AreSignatures table kind (λ t. slice_index state.numbers.items t.0) state.sigs.items
    all_signed = record {
      start = a.start;
      each = λ t f. (let h = numbered t f in let n = h.number in omega (arith, n), has_sig t f);
      class = classes;
      kept = each_used;
    }

  pub passed_one : (n : ℕ) (t : TypeId) (old new : Signing) → t.0 ≡ n → IsType table t → AreSigned table kind n old → ((f : is_function table t ≡ true) → IsSigInRange (signature_of table kind t))
      → IsPassed table kind t old new → AreSigned table kind (n + 1) new
  passed_one n t old new is typed a k p = by (is_function table t) refl
    where
      by : (b : Bool) → is_function table t ≡ b → AreSigned table kind (n + 1) new
      by true f = signed_one n t is typed f old new a (k f) (p.function f)
      by false f = subst (AreSigned table kind (n + 1)) (sym (p.other f)) (passed n t old is f a)

  pub firsts_typed : (n : ℕ) (state : Signing) → AreSigned table kind n state → All (IsType table) state.firsts.items
  firsts_typed n state a i d l =
      function_typed table (get_or state.firsts.items i d) (a.firsts i (get_or state.firsts.items i d) (slice_get-get_or state.firsts.items i d l)).function

-- The search for a class

pub none_next : (table : Table) (kind : NodeId → Kind) (firsts : List TypeId) (t : TypeId) (i : ℕ) (d : TypeId) → i < length firsts → of_one_class table kind t (get_or firsts i d) ≡ false
    → ((j : ℕ) (u : TypeId) → j < i → slice_get firsts j ≡ Some u → IsOfOneClass table kind t u → ⊥)
    → (j : ℕ) (u : TypeId) → j < i + 1 → slice_get firsts j ≡ Some u → IsOfOneClass table kind t u → ⊥
none_next table kind firsts t i d l f h j u m e c = elim (before_or j i m) [
  | inl k ↦ h j u k e c
  | inr k ↦ (
      let g : get_or firsts i d ≡ u = ap (λ n. get_or firsts n d) (sym k) ∙ get_or_from_slice_get firsts j u d e in
      true≢false (sym ((one_class_is table kind t u).1 c) ∙ ap (of_one_class table kind t) (sym g) ∙ f))
]

-- what every type is signed with is in range
words_few : (kind : NodeId → Kind) (s : TypeShape) → words_by kind s ≤ 3
words_few kind (Integer b s) = omega arith
words_few kind (Pointer n u) = by (kind n)
  where
    by : (k : Kind) → word_number k ≤ 3
    by Safe = omega arith
    by Seq = omega arith
    by Rtti = omega arith
    by Wild = omega arith
words_few kind other = omega arith

sum_few : {A : Type 0} (f : A → ℕ) (xs : List A) → ((x : A) → f x ≤ 3) → sum_by f xs ≤ 3 * length xs
sum_few f [] h = omega arith
sum_few f (x ∷ xs) h = let r = sum_few f xs h in let k = h x in let e = sum_by-cons f x xs in omega (arith, r, k, e)

pub signature_small : (table : Table) (kind : NodeId → Kind) (t : TypeId) → IsSigInRange (signature_of table kind t)
signature_small table kind t = by (shape_at table t)
  where
    none : IsSigInRange bare
    none = record { params_kept = omega arith; results_kept = omega arith }

    both : (ps : List TypeId) (r : TypeId) (b : Bool) → nat_le (length ps) parameters_limit ≡ b
        → IsSigInRange (if b then record { params = sum_by (words_at table kind) ps; results = words_at table kind r } else bare)
    both ps r true e = record {
      params_kept = (let s = sum_few (words_at table kind) ps (λ x. words_few kind (shape_at table x)) in let l : length ps ≤ 127 = grind (arith, nat_tests) in omega (arith, s, l));
      results_kept = words_few kind (shape_at table r);
    }
    both ps r false e = none

    by : (s : TypeShape) → IsSigInRange (signature_by (words_at table kind) s)
    by (Function ps r) = both ps r (nat_le (length ps) parameters_limit) refl
    by Void = none
    by (Integer b s) = none
    by (Pointer n u) = none
    by (Array e k) = none
    by (Struct g) = none
    by (Union g) = none

pub signed_result : (table known : Table) → known ≡ table → IsWellFormed table → (kind : NodeId → Kind) (n : ℕ) → n ≡ length table → (state : Signing) → AreSigned known kind n state
    → (numbers : List ℕ) → numbers ≡ state.numbers.items → (sigs : List Sig) → sigs ≡ state.sigs.items → AreSignatures table kind (λ t. slice_index numbers t.0) sigs
signed_result table known e w kind n l state a numbers f sigs g =
    let b = subst (λ m. AreSigned table kind m state) l (subst (λ (x : Table). AreSigned x kind n state) e a) in
    subst (λ ns. AreSignatures table kind (λ t. slice_index ns t.0) sigs) (sym f)
    (subst (λ ss. AreSignatures table kind (λ t. slice_index state.numbers.items t.0) ss) (sym g) (all_signed table w kind state b))
