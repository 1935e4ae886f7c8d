use Rattle.std.proofs.Common.{◌≡◌, ℕ, zero, suc, ◌*◌, Bool, true, false, ◌&&◌, if◌then◌else◌, length, nat_lt, ◌==◌, refl, ap, sym, ◌∙◌, true≢false, arith}
use Rattle.std.specs.Cmp.{IsEquivalence}
use Rattle.std.proofs.lemmas.Cmp.{lists_equiv, on_equiv, nat_eq_equiv}
use lib.Pointwise.{pointwise}
use Rattle.cc_base.specs.declared.number.TypeId.{TypeId}
use Rattle.c_types.specs.Table.{Table}
use Rattle.c_types.specs.Cells.{Cell, raw, pointer, mixed, incomplete, Relation, same_type, alike, all_alike}
use Rattle.c_types.specs.Equality.{Slot, nothing, integer, pointer_to, other, same_bool, same_slot, Makeup, code, bytes, same_makeup, makeup_at, made_alike, within, equal_at_level, physically_equal}
use Rattle.c_types.proofs.Shapes.{first_true, second_true}

-- Relations on types, lifted to cells, slots and makeups; each level of equality is an equivalence.

pub same_type_equiv : IsEquivalence same_type
same_type_equiv = on_equiv (λ (t : TypeId). t.0) nat_eq_equiv

pub same_id : (t u : TypeId) → same_type t u ≡ true → t.0 ≡ u.0
same_id t u h = grind arith

and_flip : (a b c d : Bool) → a ≡ c → b ≡ d → (a && b) ≡ (c && d)
and_flip a b c d p q = λ i. p i && q i

module _ {E : Relation} (q : IsEquivalence E) where
  alike_refl : (x : Cell) → alike E x x ≡ true
  alike_refl raw = refl
  alike_refl (pointer node to i) = λ j. nat_eq_equiv.refl i j && q.refl to j
  alike_refl (mixed u i) = λ j. same_type_equiv.refl u j && nat_eq_equiv.refl i j
  alike_refl (incomplete t) = same_type_equiv.refl t

  alike_symm : (x y : Cell) → alike E x y ≡ alike E y x
  alike_symm raw raw = refl
  alike_symm (pointer node to i) (pointer n u j) = λ k. nat_eq_equiv.symm i j k && q.symm to u k
  alike_symm (mixed u i) (mixed v j) = λ k. same_type_equiv.symm u v k && nat_eq_equiv.symm i j k
  alike_symm (incomplete t) (incomplete u) = same_type_equiv.symm t u
  alike_symm raw (pointer n u j) = refl
  alike_symm raw (mixed v j) = refl
  alike_symm raw (incomplete u) = refl
  alike_symm (pointer node to i) raw = refl
  alike_symm (pointer node to i) (mixed v j) = refl
  alike_symm (pointer node to i) (incomplete u) = refl
  alike_symm (mixed u i) raw = refl
  alike_symm (mixed u i) (pointer n v j) = refl
  alike_symm (mixed u i) (incomplete v) = refl
  alike_symm (incomplete t) raw = refl
  alike_symm (incomplete t) (pointer n v j) = refl
  alike_symm (incomplete t) (mixed v j) = refl

  alike_congr : (x y z : Cell) → alike E x y ≡ true → alike E x z ≡ alike E y z
  alike_congr raw raw z h = refl
  alike_congr (pointer node to i) (pointer n u j) (pointer m v k) h =
      let a = nat_eq_equiv.congr i j k (first_true (i == j) _ h) in let b = q.congr to u v (second_true (i == j) (E to u) h) in λ l. a l && b l
  alike_congr (pointer node to i) (pointer n u j) raw h = refl
  alike_congr (pointer node to i) (pointer n u j) (mixed v k) h = refl
  alike_congr (pointer node to i) (pointer n u j) (incomplete v) h = refl
  alike_congr (mixed t i) (mixed u j) (mixed v k) h =
      let a = same_type_equiv.congr t u v (first_true (same_type t u) _ h) in let b = nat_eq_equiv.congr i j k (second_true (same_type t u) (i == j) h) in λ l. a l && b l
  alike_congr (mixed t i) (mixed u j) raw h = refl
  alike_congr (mixed t i) (mixed u j) (pointer n v k) h = refl
  alike_congr (mixed t i) (mixed u j) (incomplete v) h = refl
  alike_congr (incomplete t) (incomplete u) (incomplete v) h = same_type_equiv.congr t u v h
  alike_congr (incomplete t) (incomplete u) raw h = refl
  alike_congr (incomplete t) (incomplete u) (pointer n v k) h = refl
  alike_congr (incomplete t) (incomplete u) (mixed v k) h = refl
  alike_congr x y z h = absurd (true≢false (sym h))

  pub alike_equiv : IsEquivalence (alike E)
  alike_equiv = record { refl = alike_refl; symm = alike_symm; congr = alike_congr }

  bool_refl : (a : Bool) → same_bool a a ≡ true
  bool_refl true = refl
  bool_refl false = refl

  bool_symm : (a b : Bool) → same_bool a b ≡ same_bool b a
  bool_symm true true = refl
  bool_symm true false = refl
  bool_symm false true = refl
  bool_symm false false = refl

  bool_congr : (a b c : Bool) → same_bool a b ≡ true → same_bool a c ≡ same_bool b c
  bool_congr true true c h = refl
  bool_congr false false c h = refl
  bool_congr true false c h = absurd (true≢false (sym h))
  bool_congr false true c h = absurd (true≢false (sym h))

  slot_refl : (x : Slot) → same_slot E x x ≡ true
  slot_refl nothing = refl
  slot_refl (integer a s) = λ j. nat_eq_equiv.refl a j && bool_refl s j
  slot_refl (pointer_to t) = q.refl t
  slot_refl (other t) = q.refl t

  slot_symm : (x y : Slot) → same_slot E x y ≡ same_slot E y x
  slot_symm nothing nothing = refl
  slot_symm (integer a s) (integer b r) = λ k. nat_eq_equiv.symm a b k && bool_symm s r k
  slot_symm (pointer_to t) (pointer_to u) = q.symm t u
  slot_symm (other t) (other u) = q.symm t u
  slot_symm nothing (integer b r) = refl
  slot_symm nothing (pointer_to u) = refl
  slot_symm nothing (other u) = refl
  slot_symm (integer a s) nothing = refl
  slot_symm (integer a s) (pointer_to u) = refl
  slot_symm (integer a s) (other u) = refl
  slot_symm (pointer_to t) nothing = refl
  slot_symm (pointer_to t) (integer b r) = refl
  slot_symm (pointer_to t) (other u) = refl
  slot_symm (other t) nothing = refl
  slot_symm (other t) (integer b r) = refl
  slot_symm (other t) (pointer_to u) = refl

  slot_congr : (x y z : Slot) → same_slot E x y ≡ true → same_slot E x z ≡ same_slot E y z
  slot_congr nothing nothing z h = refl
  slot_congr (integer a s) (integer b r) (integer c p) h =
      let u = nat_eq_equiv.congr a b c (first_true (a == b) _ h) in let v = bool_congr s r p (second_true (a == b) (same_bool s r) h) in λ l. u l && v l
  slot_congr (integer a s) (integer b r) nothing h = refl
  slot_congr (integer a s) (integer b r) (pointer_to v) h = refl
  slot_congr (integer a s) (integer b r) (other v) h = refl
  slot_congr (pointer_to t) (pointer_to u) (pointer_to v) h = q.congr t u v h
  slot_congr (pointer_to t) (pointer_to u) nothing h = refl
  slot_congr (pointer_to t) (pointer_to u) (integer c p) h = refl
  slot_congr (pointer_to t) (pointer_to u) (other v) h = refl
  slot_congr (other t) (other u) (other v) h = q.congr t u v h
  slot_congr (other t) (other u) nothing h = refl
  slot_congr (other t) (other u) (integer c p) h = refl
  slot_congr (other t) (other u) (pointer_to v) h = refl
  slot_congr x y z h = absurd (true≢false (sym h))

  slot_equiv : IsEquivalence (same_slot E)
  slot_equiv = record { refl = slot_refl; symm = slot_symm; congr = slot_congr }

  pub cells_equiv : IsEquivalence (all_alike E)
  cells_equiv = lists_equiv alike_equiv

  slots_equiv : IsEquivalence (pointwise (same_slot E))
  slots_equiv = lists_equiv slot_equiv

  makeup_refl : (x : Makeup) → same_makeup E x x ≡ true
  makeup_refl (code xs) = slots_equiv.refl xs
  makeup_refl (bytes xs) = cells_equiv.refl xs

  makeup_symm : (x y : Makeup) → same_makeup E x y ≡ same_makeup E y x
  makeup_symm (code xs) (code ys) = slots_equiv.symm xs ys
  makeup_symm (bytes xs) (bytes ys) = cells_equiv.symm xs ys
  makeup_symm (code xs) (bytes ys) = refl
  makeup_symm (bytes xs) (code ys) = refl

  makeup_congr : (x y z : Makeup) → same_makeup E x y ≡ true → same_makeup E x z ≡ same_makeup E y z
  makeup_congr (code xs) (code ys) (code zs) h = slots_equiv.congr xs ys zs h
  makeup_congr (code xs) (code ys) (bytes zs) h = refl
  makeup_congr (bytes xs) (bytes ys) (bytes zs) h = cells_equiv.congr xs ys zs h
  makeup_congr (bytes xs) (bytes ys) (code zs) h = refl
  makeup_congr (code xs) (bytes ys) z h = absurd (true≢false (sym h))
  makeup_congr (bytes xs) (code ys) z h = absurd (true≢false (sym h))

  pub makeup_equiv : IsEquivalence (same_makeup E)
  makeup_equiv = record { refl = makeup_refl; symm = makeup_symm; congr = makeup_congr }

pub made_alike_equiv : (table : Table) {E : Relation} → IsEquivalence E → IsEquivalence (made_alike table E)
made_alike_equiv table {E} q = on_equiv (makeup_at table E) (makeup_equiv q)

-- ---- within the table

module _ (table : Table) {E : Relation} (q : IsEquivalence E) where
  inside : TypeId → Bool
  inside t = nat_lt t.0 (length table)

  same_inside : (t u : TypeId) → same_type t u ≡ true → inside t ≡ inside u
  unfolding inside
  same_inside t u h = ap (λ n. nat_lt n (length table)) (same_id t u h)

  choose : Bool → Bool → Bool → Bool → Bool
  choose a b x y = if a && b then x else y

  within_refl : (t : TypeId) → within table E t t ≡ true
  within_refl t = by (nat_lt t.0 (length table))
    where
      by : (a : Bool) → (if a && a then E t t else same_type t t) ≡ true
      by true = q.refl t
      by false = same_type_equiv.refl t

  within_symm : (t u : TypeId) → within table E t u ≡ within table E u t
  within_symm t u = by (nat_lt t.0 (length table)) (nat_lt u.0 (length table))
    where
      by : (a b : Bool) → (if a && b then E t u else same_type t u) ≡ (if b && a then E u t else same_type u t)
      by true true = q.symm t u
      by true false = same_type_equiv.symm t u
      by false true = same_type_equiv.symm t u
      by false false = same_type_equiv.symm t u

  within_congr : (t u v : TypeId) → within table E t u ≡ true → within table E t v ≡ within table E u v
  within_congr t u v = by (nat_lt t.0 (length table)) (nat_lt u.0 (length table)) (nat_lt v.0 (length table)) refl refl refl
    where
      apart : (x y : TypeId) → nat_lt x.0 (length table) ≡ true → nat_lt y.0 (length table) ≡ false → same_type x y ≡ false
      apart x y i o = by_answer (same_type x y) refl
        where
          by_answer : (b : Bool) → same_type x y ≡ b → same_type x y ≡ false
          by_answer true e = absurd (true≢false (sym i ∙ ap (λ n. nat_lt n (length table)) (same_id x y e) ∙ o))
          by_answer false e = e

      by : (a b c : Bool) → nat_lt t.0 (length table) ≡ a → nat_lt u.0 (length table) ≡ b → nat_lt v.0 (length table) ≡ c
          → (if a && b then E t u else same_type t u) ≡ true
          → (if a && c then E t v else same_type t v) ≡ (if b && c then E u v else same_type u v)
      by true true true x y z h = q.congr t u v h
      by true true false x y z h = apart t v x z ∙ sym (apart u v y z)
      by true false c x y z h = absurd (true≢false (sym h ∙ apart t u x y))
      by false true c x y z h = absurd (true≢false (sym h ∙ same_type_equiv.symm t u ∙ apart u t y x))
      by false false c x y z h = same_type_equiv.congr t u v h

  pub within_equiv : IsEquivalence (within table E)
  within_equiv = record { refl = within_refl; symm = within_symm; congr = within_congr }

all_equiv : IsEquivalence (λ (t u : TypeId). true)
all_equiv = record { refl = λ t. refl; symm = λ t u. refl; congr = λ t u v h. refl }

pub level_equiv : (table : Table) (k : ℕ) → IsEquivalence (equal_at_level table k)
level_equiv table zero = within_equiv table all_equiv
level_equiv table (suc k) = within_equiv table (made_alike_equiv table (level_equiv table k))

pub equal_equiv : (table : Table) → IsEquivalence (physically_equal table)
unfolding physically_equal
equal_equiv table = level_equiv table (length table * length table)
