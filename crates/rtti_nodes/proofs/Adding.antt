-- One type after another is put into its class.
use Rattle.std.specs.Prelude.{slice_index, slice_set}
use Rattle.std.proofs.Common.{◌≡◌, ℕ, zero, suc, ◌+◌, ◌<◌, ◌≤◌, List, [], ◌∷◌, ◌++◌, length, slice_get, Some, refl, ap, sym, subst, ◌∙◌, inl, inr, ◌⊎◌, true≢false, arith}
use Rattle.cc_base.specs.declared.number.TypeId.{TypeId}
use Rattle.cc_base.specs.declared.number.NodeId.{NodeId}
use Rattle.cc_base.specs.declared.kind.Kind.{Kind}
use Rattle.c_types.specs.Table.{Table}
use Rattle.c_types.specs.Equality.{cells_of}
use Rattle.c_types.specs.Flows.{IsOfOneClass, Covers}
use Rattle.c_types.specs.Sound.{IsWellFormed}
use Rattle.type_laws.proofs.Pointers.{class_own, class_turned}
use Rattle.type_laws.proofs.Sizes.{equal_counts}
use Rattle.rtti_nodes.specs.declared.ordering.Sized.{Sized}
use Rattle.rtti_nodes.specs.declared.joining.Classes.{Classes}
use Rattle.rtti_nodes.specs.Classes.{IsData, IsLastCovered, IsNumbered, IsSizedType, IsJoined, IsBegun, IsAdded, IsMade, AreSorted}
use Rattle.rtti_nodes.proofs.Prefixes.{no_longer, equal_if_long, class_covers}
use Rattle.rtti_nodes.proofs.Below.{same_some, there, within, order_of}

-- Lists

front_get : {A : Type 0} (xs ys : List A) (i : ℕ) → i < length xs → slice_get (xs ++ ys) i ≡ slice_get xs i
front_get [] ys i h = absurd (omega (arith, h))
front_get (x ∷ xs) ys zero h = refl
front_get (x ∷ xs) ys (suc i) h = front_get xs ys i (omega (arith, h))

last_get : {A : Type 0} (xs : List A) (x y : A) (i : ℕ) → length xs ≤ i → slice_get (xs ++ x ∷ []) i ≡ Some y → (i ≡ length xs) × (y ≡ x)
last_get [] x y zero h e = (refl, same_some y x (sym e))
last_get [] x y (suc i) h e = absurd (cc (e))
last_get (z ∷ xs) x y zero h e = absurd (omega (arith, h))
last_get (z ∷ xs) x y (suc i) h e = let r = last_get xs x y i (omega (arith, h)) e in (let k = r.0 in omega arith, r.1)

last_there : {A : Type 0} (xs : List A) (x : A) → slice_get (xs ++ x ∷ []) (length xs) ≡ Some x
last_there [] x = refl
last_there (z ∷ xs) x = last_there xs x

front_index : (xs ys : List ℕ) (i : ℕ) → i < length xs → slice_index (xs ++ ys) i ≡ slice_index xs i
front_index [] ys i h = absurd (omega (arith, h))
front_index (x ∷ xs) ys zero h = refl
front_index (x ∷ xs) ys (suc i) h = front_index xs ys i (omega (arith, h))

last_index : (xs : List ℕ) (x : ℕ) → slice_index (xs ++ x ∷ []) (length xs) ≡ x
last_index [] x = refl
last_index (z ∷ xs) x = last_index xs x

pushed_length : {A : Type 0} (xs : List A) (x : A) → length (xs ++ x ∷ []) ≡ suc (length xs)
pushed_length [] x = refl
pushed_length (z ∷ xs) x = ap suc (pushed_length xs x)

set_same : (xs : List ℕ) (i x : ℕ) → i < length xs → slice_index (slice_set xs i x) i ≡ x
set_same [] i x h = absurd (omega (arith, h))
set_same (y ∷ xs) zero x h = refl
set_same (y ∷ xs) (suc i) x h = set_same xs i x (omega (arith, h))

set_other : (xs : List ℕ) (i j x : ℕ) → (i ≡ j → ⊥) → slice_index (slice_set xs i x) j ≡ slice_index xs j
set_other [] i j x h = refl
set_other (y ∷ xs) zero zero x h = absurd (h refl)
set_other (y ∷ xs) zero (suc j) x h = refl
set_other (y ∷ xs) (suc i) zero x h = refl
set_other (y ∷ xs) (suc i) (suc j) x h = set_other xs i j x (λ e. h (ap suc e))

set_length : (xs : List ℕ) (i x : ℕ) → length (slice_set xs i x) ≡ length xs
set_length [] i x = refl
set_length (y ∷ xs) zero x = refl
set_length (y ∷ xs) (suc i) x = ap suc (set_length xs i x)

front_or : {A : Type 0} (xs : List A) (x y : A) (i : ℕ) → slice_get (xs ++ x ∷ []) i ≡ Some y → (slice_get xs i ≡ Some y) ⊎ ((i ≡ length xs) × (y ≡ x))
front_or xs x y i e = by (order i (length xs))
  where
    order : (a b : ℕ) → (a < b) ⊎ (b ≤ a)
    order a b = grind arith

    by : (i < length xs) ⊎ (length xs ≤ i) → (slice_get xs i ≡ Some y) ⊎ ((i ≡ length xs) × (y ≡ x))
    by (inl l) = inl (sym (front_get xs (x ∷ []) i l) ∙ e)
    by (inr l) = inr (last_get xs x y i l e)

same_id : (t u : TypeId) → t.0 ≡ u.0 → t ≡ u
same_id t u e = ap (λ (n : ℕ). record { 0 = n }) e

module _ (table : Table) (w : IsWellFormed table) (kind : NodeId → Kind) (ordered : List Sized) (sizes : (j : ℕ) (s : Sized) → slice_get ordered j ≡ Some s → IsSizedType table s)
    (sorted : (i j : ℕ) (r s : Sized) → i ≤ j → slice_get ordered i ≡ Some r → slice_get ordered j ≡ Some s → r.size ≤ s.size) where
  -- nothing is put into a class yet
  pub none_yet : (numbers : List ℕ) → length numbers ≡ length table → AreSorted table kind ordered 0 [] [] numbers
  none_yet numbers l = record {
    stand = record {
      count = refl;
      types = λ i t e. absurd (cc (e));
      rising = λ i j t u n e f. absurd (cc (e));
      apart = λ i j t u n e f c. absurd (cc (e));
      parent = λ i t e. absurd (cc (e));
    };
    fits = l;
    numbered = λ i s n e. absurd (omega (arith, n));
    low = λ i j t s n e f. absurd (cc (e));
    made = λ i t e. absurd (cc (e));
  }

  module _ (n : ℕ) (s : Sized) (here : slice_get ordered n ≡ Some s) (old new : Classes) (last : ℕ) (a : AreSorted table kind ordered n old.firsts.items old.parents.items old.numbers.items) where
    typed : IsData table s.ty
    typed = (sizes n s here).right

    in_numbers : s.ty.0 < length old.numbers.items
    in_numbers = let l = typed.typed in let e = a.fits in omega (arith, l)

    -- the numbers after one is set
    module _ (x : ℕ) (numbers : List ℕ) (is : numbers ≡ slice_set old.numbers.items s.ty.0 x) where
      fits : length numbers ≡ length table
      fits = ap length is ∙ set_length old.numbers.items s.ty.0 x ∙ a.fits

      own : slice_index numbers s.ty.0 ≡ x
      own = ap (λ (ns : List ℕ). slice_index ns s.ty.0) is ∙ set_same old.numbers.items s.ty.0 x in_numbers

      others : (t : TypeId) → (s.ty.0 ≡ t.0 → ⊥) → slice_index numbers t.0 ≡ slice_index old.numbers.items t.0
      others t ne = ap (λ (ns : List ℕ). slice_index ns t.0) is ∙ set_other old.numbers.items s.ty.0 t.0 x ne

    same_or : (a b : ℕ) → (a ≡ b) ⊎ (a ≡ b → ⊥)
    same_or a b = by (order_of a b)
      where
        by : (a ≡ b) ⊎ (a < b) ⊎ (b < a) → (a ≡ b) ⊎ (a ≡ b → ⊥)
        by (inl e) = inl e
        by (inr (inl l)) = inr (λ e. omega (arith, l, e))
        by (inr (inr l)) = inr (λ e. omega (arith, l, e))

    before_or : (i : ℕ) → i < n + 1 → (i < n) ⊎ (i ≡ n)
    before_or i l = grind arith

    this_one : (i : ℕ) (r : Sized) → i ≡ n → slice_get ordered i ≡ Some r → r ≡ s
    this_one i r e f = same_some r s (sym f ∙ ap (slice_get ordered) e ∙ here)

    low_next : (i j : ℕ) (t : TypeId) (r : Sized) → n + 1 ≤ j → slice_get old.firsts.items i ≡ Some t → slice_get ordered j ≡ Some r → length (cells_of table t) ≤ r.size
    low_next i j t r l e f = a.low i j t r (omega (arith, l)) e f

    earlier : (m : ℕ) → m < n → m < n + 1
    earlier m l = omega (arith, l)

    module _ (k : IsLastCovered table kind old.firsts.items (length old.firsts.items) s.ty last) where
      -- the class is there
      module _ (j : IsJoined table s.ty last old new) where
        first_class : IsOfOneClass table kind s.ty j.first
        first_class = record { equal = j.equal; kinds = (k.covered j.place j.first j.is_last j.found).kinds }

        joined_one : (numbers : List ℕ) → numbers ≡ slice_set old.numbers.items s.ty.0 last → IsNumbered table kind old.firsts.items numbers s.ty
        joined_one numbers is = record { place = j.place; first = j.first; found = j.found; number = own last numbers is ∙ j.is_last; class = first_class }

        joined_numbered : (numbers : List ℕ) → numbers ≡ slice_set old.numbers.items s.ty.0 last → (i : ℕ) (r : Sized) → i < n + 1 → slice_get ordered i ≡ Some r
            → IsNumbered table kind old.firsts.items numbers r.ty
        joined_numbered numbers is i r l e = by (before_or i l)
          where
            one : IsNumbered table kind old.firsts.items numbers s.ty
            one = joined_one numbers is

            kept : i < n → (s.ty.0 ≡ r.ty.0) ⊎ (s.ty.0 ≡ r.ty.0 → ⊥) → IsNumbered table kind old.firsts.items numbers r.ty
            kept m (inl q) = subst (IsNumbered table kind old.firsts.items numbers) (same_id s.ty r.ty q) one
            kept m (inr q) =
                let b = a.numbered i r m e in
                record { place = b.place; first = b.first; found = b.found; number = others last numbers is r.ty q ∙ b.number; class = b.class }

            by : (i < n) ⊎ (i ≡ n) → IsNumbered table kind old.firsts.items numbers r.ty
            by (inl m) = kept m (same_or s.ty.0 r.ty.0)
            by (inr m) = subst (IsNumbered table kind old.firsts.items numbers) (ap (λ (x : Sized). x.ty) (sym (this_one i r m e))) one

        joined_made : (numbers : List ℕ) → numbers ≡ slice_set old.numbers.items s.ty.0 last → (i : ℕ) (t : TypeId) → slice_get old.firsts.items i ≡ Some t
            → IsMade ordered (n + 1) numbers i t
        joined_made numbers is i t e = by (same_or s.ty.0 t.0)
          where
            b : IsMade ordered n old.numbers.items i t
            b = a.made i t e

            with_number : slice_index numbers t.0 ≡ suc i → IsMade ordered (n + 1) numbers i t
            with_number q = record { place = b.place; one = b.one; before = earlier b.place b.before; found = b.found; is = b.is; number = q }

            class : s.ty ≡ t → IsOfOneClass table kind t j.first
            class q = subst (λ (x : TypeId). IsOfOneClass table kind x j.first) q first_class

            place : s.ty ≡ t → (i ≡ j.place) ⊎ (i < j.place) ⊎ (j.place < i) → i ≡ j.place
            place q (inl x) = x
            place q (inr (inl x)) = absurd (a.stand.apart i j.place t j.first x e j.found (class q))
            place q (inr (inr x)) = absurd (a.stand.apart j.place i j.first t x j.found e (class_turned table kind t j.first (class q)))

            same : s.ty ≡ t → slice_index numbers t.0 ≡ suc i
            same q =
                ap (λ (x : TypeId). slice_index numbers x.0) (sym q) ∙ own last numbers is ∙ j.is_last ∙ ap suc (sym (place q (order_of i j.place)))

            by : (s.ty.0 ≡ t.0) ⊎ (s.ty.0 ≡ t.0 → ⊥) → IsMade ordered (n + 1) numbers i t
            by (inl q) = with_number (same (same_id s.ty t q))
            by (inr q) = with_number (others last numbers is t q ∙ b.number)

        joined : (numbers : List ℕ) → numbers ≡ slice_set old.numbers.items s.ty.0 last → AreSorted table kind ordered (n + 1) old.firsts.items old.parents.items numbers
        joined numbers is = record {
          stand = a.stand;
          fits = fits last numbers is;
          numbered = joined_numbered numbers is;
          low = low_next;
          made = joined_made numbers is;
        }

        pub after_joined : AreSorted table kind ordered (n + 1) new.firsts.items new.parents.items new.numbers.items
        after_joined =
            subst (λ fs. AreSorted table kind ordered (n + 1) fs new.parents.items new.numbers.items) (sym j.firsts)
            (subst (λ ps. AreSorted table kind ordered (n + 1) old.firsts.items ps new.numbers.items) (sym j.parents) (joined new.numbers.items j.numbers))

      -- the class is new
      module _ (j : IsBegun table s.ty last old new) where
        not_class : (i : ℕ) (t : TypeId) → slice_get old.firsts.items i ≡ Some t → IsOfOneClass table kind t s.ty → ⊥
        not_class i t e c = by (order i last)
          where
            order : (x y : ℕ) → (x < y) ⊎ (y ≤ x)
            order x y = grind arith

            covers : Covers table kind s.ty t
            covers = class_covers table w kind s.ty t typed.plain (class_turned table kind t s.ty c)

            inside : (m : ℕ) (u : TypeId) → last ≡ suc m → i < last → slice_get old.firsts.items m ≡ Some u → ⊥
            inside m u q l f =
                let d = k.covered m u q f in
                let x = a.stand.rising i m t u (omega (arith, q, l)) e f in
                let y = no_longer table w kind s.ty u d.begins in
                let z = equal_counts table w t s.ty c.equal in
                absurd (true≢false (sym (equal_if_long table w kind s.ty u typed.typed (a.stand.types m u f).typed (omega arith) d.begins) ∙ j.other m u q f))

            pred : (m : ℕ) → i < m → (p : ℕ) × (m ≡ suc p)
            pred zero l = absurd (omega (arith, l))
            pred (suc p) l = (p, refl)

            by : (i < last) ⊎ (last ≤ i) → ⊥
            by (inr l) = k.behind i t l (within old.firsts.items i t e) e covers
            by (inl l) =
                let p = pred last l in let x = k.within in
                let u = there old.firsts.items p.0 (let y = p.1 in omega arith) in inside p.0 u.0 p.1 l u.1

        own_size : s.size ≡ length (cells_of table s.ty)
        own_size = (sizes n s here).size

        wider : (i : ℕ) (t u : TypeId) (p : ℕ) (ys : List TypeId) → i ≤ length old.firsts.items → IsLastCovered table kind old.firsts.items i t p
            → IsLastCovered table kind (old.firsts.items ++ ys) i t p
        wider i t u p ys l c = record {
          within = c.within;
          covered = λ m v q f. c.covered m v q (sym (front_get old.firsts.items ys m (let x = c.within in omega (arith, q, l))) ∙ f);
          behind = λ m v q r f. c.behind m v q r (sym (front_get old.firsts.items ys m (omega (arith, r, l))) ∙ f);
        }

        begun_types : (i : ℕ) (t : TypeId) → slice_get (old.firsts.items ++ s.ty ∷ []) i ≡ Some t → IsData table t
        begun_types i t e = elim (front_or old.firsts.items s.ty t i e) [
          | inl f ↦ a.stand.types i t f
          | inr f ↦ subst (IsData table) (sym f.1) typed
        ]

        begun_rising : (i m : ℕ) (t u : TypeId) → i ≤ m → slice_get (old.firsts.items ++ s.ty ∷ []) i ≡ Some t → slice_get (old.firsts.items ++ s.ty ∷ []) m ≡ Some u
            → length (cells_of table t) ≤ length (cells_of table u)
        begun_rising i m t u l e f = by (front_or old.firsts.items s.ty t i e) (front_or old.firsts.items s.ty u m f)
          where
            by : (slice_get old.firsts.items i ≡ Some t) ⊎ ((i ≡ length old.firsts.items) × (t ≡ s.ty)) → (slice_get old.firsts.items m ≡ Some u) ⊎ ((m ≡ length old.firsts.items) × (u ≡ s.ty))
                → length (cells_of table t) ≤ length (cells_of table u)
            by (inl x) (inl y) = a.stand.rising i m t u l x y
            by (inl x) (inr y) =
                subst (λ (v : TypeId). length (cells_of table t) ≤ length (cells_of table v)) (sym y.1)
                (let z = a.low i n t s (omega arith) x here in let q = own_size in omega arith)
            by (inr x) (inl y) = absurd (let z = within old.firsts.items m u y in let q = x.0 in omega arith)
            by (inr x) (inr y) = subst (λ (v : TypeId). length (cells_of table v) ≤ length (cells_of table u)) (y.1 ∙ sym x.1) (omega arith)

        begun_apart : (i m : ℕ) (t u : TypeId) → i < m → slice_get (old.firsts.items ++ s.ty ∷ []) i ≡ Some t → slice_get (old.firsts.items ++ s.ty ∷ []) m ≡ Some u
            → IsOfOneClass table kind t u → ⊥
        begun_apart i m t u l e f c = by (front_or old.firsts.items s.ty t i e) (front_or old.firsts.items s.ty u m f)
          where
            by : (slice_get old.firsts.items i ≡ Some t) ⊎ ((i ≡ length old.firsts.items) × (t ≡ s.ty)) → (slice_get old.firsts.items m ≡ Some u) ⊎ ((m ≡ length old.firsts.items) × (u ≡ s.ty)) → ⊥
            by (inl x) (inl y) = a.stand.apart i m t u l x y c
            by (inl x) (inr y) = not_class i t x (subst (IsOfOneClass table kind t) y.1 c)
            by (inr x) (inl y) = let z = within old.firsts.items m u y in let q = x.0 in omega (arith, l)
            by (inr x) (inr y) = let p = x.0 in let q = y.0 in omega (arith, l)

        begun_parent : (i : ℕ) (t : TypeId) → slice_get (old.firsts.items ++ s.ty ∷ []) i ≡ Some t
            → IsLastCovered table kind (old.firsts.items ++ s.ty ∷ []) i t (slice_index (old.parents.items ++ last ∷ []) i)
        begun_parent i t e = by (front_or old.firsts.items s.ty t i e)
          where
            F : List TypeId
            F = old.firsts.items ++ s.ty ∷ []

            by : (slice_get old.firsts.items i ≡ Some t) ⊎ ((i ≡ length old.firsts.items) × (t ≡ s.ty))
                → IsLastCovered table kind (old.firsts.items ++ s.ty ∷ []) i t (slice_index (old.parents.items ++ last ∷ []) i)
            by (inl x) =
                let l = within old.firsts.items i t x in let q = a.stand.count in
                subst (IsLastCovered table kind (old.firsts.items ++ s.ty ∷ []) i t) (sym (front_index old.parents.items (last ∷ []) i (omega arith)))
                (wider i t t (slice_index old.parents.items i) (s.ty ∷ []) (omega arith) (a.stand.parent i t x))
            by (inr x) =
                let m : i ≡ length old.parents.items = x.0 ∙ sym a.stand.count in
                subst (IsLastCovered table kind (old.firsts.items ++ s.ty ∷ []) i t) (sym (ap (slice_index (old.parents.items ++ last ∷ [])) m ∙ last_index old.parents.items last))
                (wider i t t last (s.ty ∷ []) (let q = x.0 in omega arith)
                (subst (λ (v : TypeId). IsLastCovered table kind old.firsts.items i v last) (sym x.1) (subst (λ m. IsLastCovered table kind old.firsts.items m s.ty last) (sym x.0) k)))

        begun_one : (numbers : List ℕ) → numbers ≡ slice_set old.numbers.items s.ty.0 (suc (length old.firsts.items))
            → IsNumbered table kind (old.firsts.items ++ s.ty ∷ []) numbers s.ty
        begun_one numbers is = record {
          place = length old.firsts.items;
          first = s.ty;
          found = last_there old.firsts.items s.ty;
          number = own (suc (length old.firsts.items)) numbers is;
          class = class_own table kind s.ty;
        }

        begun_numbered : (numbers : List ℕ) → numbers ≡ slice_set old.numbers.items s.ty.0 (suc (length old.firsts.items)) → (i : ℕ) (r : Sized) → i < n + 1 → slice_get ordered i ≡ Some r
            → IsNumbered table kind (old.firsts.items ++ s.ty ∷ []) numbers r.ty
        begun_numbered numbers is i r l e = by (before_or i l)
          where
            one : IsNumbered table kind (old.firsts.items ++ s.ty ∷ []) numbers s.ty
            one = begun_one numbers is

            kept : i < n → (s.ty.0 ≡ r.ty.0) ⊎ (s.ty.0 ≡ r.ty.0 → ⊥) → IsNumbered table kind (old.firsts.items ++ s.ty ∷ []) numbers r.ty
            kept m (inl q) = subst (IsNumbered table kind (old.firsts.items ++ s.ty ∷ []) numbers) (same_id s.ty r.ty q) one
            kept m (inr q) =
                let b = a.numbered i r m e in
                record {
                  place = b.place;
                  first = b.first;
                  found = front_get old.firsts.items (s.ty ∷ []) b.place (within old.firsts.items b.place b.first b.found) ∙ b.found;
                  number = others (suc (length old.firsts.items)) numbers is r.ty q ∙ b.number;
                  class = b.class;
                }

            by : (i < n) ⊎ (i ≡ n) → IsNumbered table kind (old.firsts.items ++ s.ty ∷ []) numbers r.ty
            by (inl m) = kept m (same_or s.ty.0 r.ty.0)
            by (inr m) = subst (IsNumbered table kind (old.firsts.items ++ s.ty ∷ []) numbers) (ap (λ (x : Sized). x.ty) (sym (this_one i r m e))) one

        begun_low : (i m : ℕ) (t : TypeId) (r : Sized) → n + 1 ≤ m → slice_get (old.firsts.items ++ s.ty ∷ []) i ≡ Some t → slice_get ordered m ≡ Some r
            → length (cells_of table t) ≤ r.size
        begun_low i m t r l e f = elim (front_or old.firsts.items s.ty t i e) [
          | inl x ↦ low_next i m t r l x f
          | inr x ↦ subst (λ (v : TypeId). length (cells_of table v) ≤ r.size) (sym x.1) (let z = sorted n m s r (omega (arith, l)) here f in let q = own_size in omega arith)
        ]

        begun_made : (numbers : List ℕ) → numbers ≡ slice_set old.numbers.items s.ty.0 (suc (length old.firsts.items)) → (i : ℕ) (t : TypeId) → slice_get (old.firsts.items ++ s.ty ∷ []) i ≡ Some t
            → IsMade ordered (n + 1) numbers i t
        begun_made numbers is i t e = by (front_or old.firsts.items s.ty t i e)
          where
            kept : slice_get old.firsts.items i ≡ Some t → (s.ty.0 ≡ t.0) ⊎ (s.ty.0 ≡ t.0 → ⊥) → IsMade ordered (n + 1) numbers i t
            kept x (inl q) = absurd (not_class i t x (subst (IsOfOneClass table kind t) (sym (same_id s.ty t q)) (class_own table kind t)))
            kept x (inr q) =
                let b = a.made i t x in
                record {
                  place = b.place;
                  one = b.one;
                  before = earlier b.place b.before;
                  found = b.found;
                  is = b.is;
                  number = others (suc (length old.firsts.items)) numbers is t q ∙ b.number;
                }

            by : (slice_get old.firsts.items i ≡ Some t) ⊎ ((i ≡ length old.firsts.items) × (t ≡ s.ty)) → IsMade ordered (n + 1) numbers i t
            by (inl x) = kept x (same_or s.ty.0 t.0)
            by (inr x) = record {
              place = n;
              one = s;
              before = omega arith;
              found = here;
              is = sym x.1;
              number = ap (λ (v : TypeId). slice_index numbers v.0) x.1 ∙ own (suc (length old.firsts.items)) numbers is ∙ ap suc (sym x.0);
            }

        begun : (numbers : List ℕ) → numbers ≡ slice_set old.numbers.items s.ty.0 (suc (length old.firsts.items))
            → AreSorted table kind ordered (n + 1) (old.firsts.items ++ s.ty ∷ []) (old.parents.items ++ last ∷ []) numbers
        begun numbers is = record {
          stand = record {
            count = pushed_length old.parents.items last ∙ ap suc a.stand.count ∙ sym (pushed_length old.firsts.items s.ty);
            types = begun_types;
            rising = begun_rising;
            apart = begun_apart;
            parent = begun_parent;
          };
          fits = fits (suc (length old.firsts.items)) numbers is;
          numbered = begun_numbered numbers is;
          low = begun_low;
          made = begun_made numbers is;
        }

        pub after_begun : AreSorted table kind ordered (n + 1) new.firsts.items new.parents.items new.numbers.items
        after_begun =
            subst (λ fs. AreSorted table kind ordered (n + 1) fs new.parents.items new.numbers.items) (sym j.firsts)
            (subst (λ ps. AreSorted table kind ordered (n + 1) (old.firsts.items ++ s.ty ∷ []) ps new.numbers.items) (sym j.parents) (begun new.numbers.items j.numbers))

  -- the next type
  pub one_more : (n : ℕ) (s : Sized) → slice_get ordered n ≡ Some s → (old new : Classes) → AreSorted table kind ordered n old.firsts.items old.parents.items old.numbers.items
      → IsAdded table kind s.ty old new → AreSorted table kind ordered (n + 1) new.firsts.items new.parents.items new.numbers.items
  one_more n s here old new a d = elim d.put [
    | inl j ↦ after_joined n s here old new d.last a d.covered j
    | inr j ↦ after_begun n s here old new d.last a d.covered j
  ]
