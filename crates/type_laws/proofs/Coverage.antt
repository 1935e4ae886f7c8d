-- Coverage and the one class of types, as they are computed, are the relations.
use Rattle.std.proofs.Common.{◌≡◌, ℕ, zero, suc, ◌+◌, ◌*◌, ◌<◌, ◌≤◌, Bool, true, false, ◌&&◌, List, [], ◌∷◌, length, nat_lt, slice_get, Option, None, Some, refl, ap, sym, subst, ◌∙◌, arith}
use Rattle.std.specs.Prelude.{◌↔◌, IsTrue}
use Rattle.std.specs.List.{list_all, range_with_len}
use Rattle.std.proofs.lemmas.Bool.Decides.{nat_tests}
use Rattle.std.proofs.Math.ListN.{get_or-eq_default}
use Rattle.cc_base.specs.Kinds.{same_kind}
use Rattle.cc_base.specs.declared.number.TypeId.{TypeId}
use Rattle.cc_base.specs.declared.number.NodeId.{NodeId}
use Rattle.cc_base.specs.declared.kind.Kind.{Kind}
use Rattle.cc_base.specs.declared.kind.Kind.TheVariants.{Safe, Seq, Rtti, Wild}
use Rattle.c_types.specs.declared.shape.TypeShape.{TypeShape}
use Rattle.c_types.specs.declared.shape.TypeShape.TheVariants as shape
use Rattle.c_types.specs.Table.{Table, Entry, descend, void_entry, entry_at, shape_at}
use Rattle.c_types.specs.Cells.{Relation, cells_at, cells_step, cells_of_shape}
use Rattle.c_types.specs.Equality.{cells_of, physically_equal, begins_with}
use Rattle.c_types.specs.Flows.{HeldPointer, and_then, pointer_in_cell, pointer_of_shape, pointer_in, pointer_at, StandAlike, top, inside, CorrespondByPlace, HaveEqualKinds, IsOfOneClass, Covers}
use Rattle.c_types.specs.Coverage.{places, places_of_shape, agree, kinds_agree_at_level, kinds_agree, of_one_class, covers}
use Rattle.type_laws.proofs.Standing.{AreLevels, stand}

first_of : (a b : Bool) → (a && b) ≡ true → a ≡ true
first_of true b h = refl
first_of false b h = h

second_of : (a b : Bool) → (a && b) ≡ true → b ≡ true
second_of true b h = h
second_of false b h = absurd (cc (h))

-- Lists of places

all_true : (f : ℕ → Bool) (is : List ℕ) → ((i : ℕ) → f i ≡ true) → list_all f is ≡ true
all_true f [] h = refl
all_true f (i ∷ is) h = (λ j. h i j && list_all f is) ∙ all_true f is h

all_wider : (f g : ℕ → Bool) (is : List ℕ) → ((i : ℕ) → f i ≡ true → g i ≡ true) → list_all f is ≡ true → list_all g is ≡ true
all_wider f g [] h a = refl
all_wider f g (i ∷ is) h a = (λ j. h i (first_of (f i) (list_all f is) a) j && list_all g is) ∙ all_wider f g is h (second_of (f i) (list_all f is) a)

all_at : (f : ℕ → Bool) (a n i : ℕ) → list_all f (range_with_len a n) ≡ true → i < n → f (a + i) ≡ true
all_at f a zero i h l = absurd (omega arith)
all_at f a (suc n) zero h l = subst (λ k. f k ≡ true) (omega arith) (first_of (f a) _ h)
all_at f a (suc n) (suc i) h l = subst (λ k. f k ≡ true) (omega arith) (all_at f (a + 1) n i (second_of (f a) _ h) (omega arith))

below : {A : Type 0} (xs : List A) (i : ℕ) (x : A) → slice_get xs i ≡ Some x → i < length xs
below [] i x h = absurd (cc (h))
below (y ∷ xs) zero x h = omega arith
below (y ∷ xs) (suc i) x h = let k = below xs i x h in omega arith

-- a pointer stands at one of the places
place_of : {A : Type 0} (xs : List A) (f : A → Option HeldPointer) (i : ℕ) (p : HeldPointer) → and_then (slice_get xs i) f ≡ Some p → i < length xs
place_of xs f i p = by (slice_get xs i) refl
  where
    by : (r : Option _) → slice_get xs i ≡ r → and_then r f ≡ Some p → i < length xs
    by None e h = absurd (cc (h))
    by (Some x) e h = below xs i x e

bounded : (table : Table) (t : TypeId) (i : ℕ) (p : HeldPointer) → pointer_at table t i ≡ Some p → i < places table t
bounded table t i p = by (shape_at table t)
  where
    by : (s : TypeShape) → pointer_in table t s i ≡ Some p → i < places_of_shape table t s
    by (shape.Function parameters result) h = let k = place_of (result ∷ parameters) (λ q. pointer_of_shape (shape_at table q)) i p h in omega arith
    by shape.Void h = place_of (cells_of table t) pointer_in_cell i p h
    by (shape.Integer bytes signed) h = place_of (cells_of table t) pointer_in_cell i p h
    by (shape.Pointer node to) h = place_of (cells_of table t) pointer_in_cell i p h
    by (shape.Array element count) h = place_of (cells_of table t) pointer_in_cell i p h
    by (shape.Struct tag) h = place_of (cells_of table t) pointer_in_cell i p h
    by (shape.Union tag) h = place_of (cells_of table t) pointer_in_cell i p h

-- Kinds

same_kind-is : (k l : Kind) → same_kind k l ≡ true → k ≡ l
same_kind-is Safe Safe h = refl
same_kind-is Seq Seq h = refl
same_kind-is Rtti Rtti h = refl
same_kind-is Wild Wild h = refl
same_kind-is Safe Seq h = absurd (cc (h))
same_kind-is Safe Rtti h = absurd (cc (h))
same_kind-is Safe Wild h = absurd (cc (h))
same_kind-is Seq Safe h = absurd (cc (h))
same_kind-is Seq Rtti h = absurd (cc (h))
same_kind-is Seq Wild h = absurd (cc (h))
same_kind-is Rtti Safe h = absurd (cc (h))
same_kind-is Rtti Seq h = absurd (cc (h))
same_kind-is Rtti Wild h = absurd (cc (h))
same_kind-is Wild Safe h = absurd (cc (h))
same_kind-is Wild Seq h = absurd (cc (h))
same_kind-is Wild Rtti h = absurd (cc (h))

same_kind-own : (k : Kind) → same_kind k k ≡ true
same_kind-own Safe = refl
same_kind-own Seq = refl
same_kind-own Rtti = refl
same_kind-own Wild = refl

agree_wider : (kind : NodeId → Kind) (E F : Relation) → ((t u : TypeId) → E t u ≡ true → F t u ≡ true) → (p q : Option HeldPointer) → agree kind E p q ≡ true → agree kind F p q ≡ true
agree_wider kind E F sub None q h = refl
agree_wider kind E F sub (Some p) None h = refl
agree_wider kind E F sub (Some p) (Some q) h =
    (λ j. first_of (same_kind (kind p.node) (kind q.node)) (E p.to q.to) h j && F p.to q.to) ∙ sub p.to q.to (second_of (same_kind (kind p.node) (kind q.node)) (E p.to q.to) h)

-- The levels

module _ (table : Table) (kind : NodeId → Kind) where
  abbrev step : Relation → Relation
  step E t u = list_all (λ i. agree kind E (pointer_at table t i) (pointer_at table u i)) (range_with_len 0 (places table t))

  abbrev level : ℕ → Relation
  level k = kinds_agree_at_level table kind k

  falls : (k : ℕ) (t u : TypeId) → level (suc k) t u ≡ true → level k t u ≡ true
  falls zero t u h = refl
  falls (suc k) t u h =
      all_wider (λ i. agree kind (level (suc k)) (pointer_at table t i) (pointer_at table u i)) (λ i. agree kind (level k) (pointer_at table t i) (pointer_at table u i))
      (range_with_len 0 (places table t)) (λ i. agree_wider kind (level (suc k)) (level k) (falls k) (pointer_at table t i) (pointer_at table u i)) h

  -- what isn't in the table has no places
  no_cells : (t : TypeId) → entry_at table t ≡ void_entry → cells_of table t ≡ []
  unfolding cells_at
  no_cells t e = ap (λ (x : Entry). cells_of_shape table (physically_equal table) (descend (cells_step table (physically_equal table)) [] (length table)) t x.shape x.members) e

  outside_left : (k : ℕ) (t u : TypeId) → entry_at table t ≡ void_entry → level k t u ≡ true
  outside_left zero t u e = refl
  outside_left (suc k) t u e =
      ap (λ n. list_all (λ i. agree kind (level k) (pointer_at table t i) (pointer_at table u i)) (range_with_len 0 n))
      (ap (λ s. places_of_shape table t s) (ap (λ (x : Entry). x.shape) e) ∙ ap length (no_cells t e))

  no_pointer : (u : TypeId) (i : ℕ) → entry_at table u ≡ void_entry → pointer_at table u i ≡ None
  no_pointer u i e = ap (λ s. pointer_in table u s i) (ap (λ (x : Entry). x.shape) e) ∙ ap (λ cs. and_then (slice_get cs i) pointer_in_cell) (no_cells u e)

  agree_none : (E : Relation) (p q : Option HeldPointer) → q ≡ None → agree kind E p q ≡ true
  agree_none E p q e = ap (λ r. agree kind E p r) e ∙ by p
    where
      by : (p : Option HeldPointer) → agree kind E p None ≡ true
      by None = refl
      by (Some x) = refl

  outside_right : (k : ℕ) (t u : TypeId) → entry_at table u ≡ void_entry → level k t u ≡ true
  outside_right zero t u e = refl
  outside_right (suc k) t u e =
      all_true (λ i. agree kind (level k) (pointer_at table t i) (pointer_at table u i)) (range_with_len 0 (places table t))
      (λ i. agree_none (level k) (pointer_at table t i) (pointer_at table u i) (no_pointer u i e))

  void_outside : (t : TypeId) → nat_lt t.0 (length table) ≡ false → entry_at table t ≡ void_entry
  void_outside t e = get_or-eq_default table void_entry (let l : length table ≤ t.0 = grind (arith, nat_tests) in l)

  outside : (k : ℕ) (t u : TypeId) → (nat_lt t.0 (length table) && nat_lt u.0 (length table)) ≡ false → level (suc k) t u ≡ level k t u
  outside k t u = by (nat_lt t.0 (length table)) (nat_lt u.0 (length table)) refl refl
    where
      by : (a b : Bool) → nat_lt t.0 (length table) ≡ a → nat_lt u.0 (length table) ≡ b → (a && b) ≡ false → level (suc k) t u ≡ level k t u
      by true true x y h = absurd (cc (h))
      by true false x y h = outside_right (suc k) t u (void_outside u y) ∙ sym (outside_right k t u (void_outside u y))
      by false b x y h = outside_left (suc k) t u (void_outside t x) ∙ sym (outside_left k t u (void_outside t x))

  levels : AreLevels (length table) step level
  levels = record { next = λ k. refl; falls = falls; outside = outside }

  still : level (suc (length table * length table)) ≡ level (length table * length table)
  still = stand (length table) step level levels (suc (length table * length table)) (omega arith)

  zero_plus : (i : ℕ) → 0 + i ≡ i
  zero_plus i = omega arith

  -- What a level tells where the next is the same

  Told : ℕ → HeldPointer → HeldPointer → Type 0
  Told k p q = (kind p.node ≡ kind q.node) × (level k p.to q.to ≡ true)

  told : (k : ℕ) → level (suc k) ≡ level k → (t u : TypeId) (p q : HeldPointer) → level k t u ≡ true → StandAlike table t u p q → Told k p q
  unfolding Told
  told k e t u p q h s =
      let a : level (suc k) t u ≡ true = (λ j. e j t u) ∙ h in
      let b : agree kind (level k) (pointer_at table t s.0) (pointer_at table u s.0) ≡ true =
      subst (λ i. agree kind (level k) (pointer_at table t i) (pointer_at table u i) ≡ true) (zero_plus s.0)
      (all_at (λ i. agree kind (level k) (pointer_at table t i) (pointer_at table u i)) 0 (places table t) s.0 a (bounded table t s.0 p s.1)) in
      let c : agree kind (level k) (Some p) (Some q) ≡ true = sym (λ j. agree kind (level k) (s.1 j) (s.2 j)) ∙ b in (
        same_kind-is (kind p.node) (kind q.node) (first_of (same_kind (kind p.node) (kind q.node)) (level k p.to q.to) c),
        second_of (same_kind (kind p.node) (kind q.node)) (level k p.to q.to) c,
      )

  all_told : (k : ℕ) → level (suc k) ≡ level k → (t u : TypeId) → level k t u ≡ true → (p q : HeldPointer) → CorrespondByPlace table t u p q → Told k p q
  unfolding Told
  all_told k e t u h p q (top a b s) = told k e t u p q h s
  all_told k e t u h r s (inside p q c d before a) = told k e p.to q.to r s (all_told k e t u h p q before).1 a

  -- And what the relation tells of each level

  deeper : (t u : TypeId) (p q r s : HeldPointer) → StandAlike table t u p q → CorrespondByPlace table p.to q.to r s → CorrespondByPlace table t u r s
  deeper t u p q r s here (top c d a) = inside p q r s (top p q here) a
  deeper t u p q r s here (inside a b c d before e) = inside a b r s (deeper t u p q a b here before) e

  holds_at : (k : ℕ) (t u : TypeId) → HaveEqualKinds kind (CorrespondByPlace table t u) → level k t u ≡ true
  holds_at zero t u h = refl
  holds_at (suc k) t u h =
      all_true (λ i. agree kind (level k) (pointer_at table t i) (pointer_at table u i)) (range_with_len 0 (places table t))
      (λ i. by i (pointer_at table t i) (pointer_at table u i) refl refl (λ p q. holds_at k p.to q.to))
    where
      by : (i : ℕ) (a b : Option HeldPointer) → pointer_at table t i ≡ a → pointer_at table u i ≡ b
          → ((p q : HeldPointer) → HaveEqualKinds kind (CorrespondByPlace table p.to q.to) → level k p.to q.to ≡ true) → agree kind (level k) a b ≡ true
      by i None b e f rest = refl
      by i (Some p) None e f rest = refl
      by i (Some p) (Some q) e f rest =
          let here : StandAlike table t u p q = (i, e, f) in
          let same : same_kind (kind p.node) (kind q.node) ≡ true = ap (λ l. same_kind (kind p.node) l) (sym (h p q (top p q here))) ∙ same_kind-own (kind p.node) in
          (λ j. same j && level k p.to q.to) ∙ rest p q (λ r s c. h r s (deeper t u p q r s here c))

  kinds_told : (t u : TypeId) → kinds_agree table kind t u ≡ true → HaveEqualKinds kind (CorrespondByPlace table t u)
  unfolding kinds_agree Told
  kinds_told t u h p q c = (all_told (length table * length table) still t u h p q c).0

  kinds_hold : (t u : TypeId) → HaveEqualKinds kind (CorrespondByPlace table t u) → kinds_agree table kind t u ≡ true
  unfolding kinds_agree
  kinds_hold t u h = holds_at (length table * length table) t u h

  both_true : (a b : Bool) → a ≡ true → b ≡ true → (a && b) ≡ true
  both_true a b p q = λ i. p i && q i

  pub covers_is : (t u : TypeId) → IsTrue (covers table kind t u) ↔ Covers table kind t u
  covers_is t u = (
    λ h. record { begins = first_of (begins_with table t u) (kinds_agree table kind t u) h; kinds = kinds_told t u (second_of (begins_with table t u) (kinds_agree table kind t u) h) },
    λ c. both_true (begins_with table t u) (kinds_agree table kind t u) c.begins (kinds_hold t u c.kinds),
  )

  pub one_class_is : (t u : TypeId) → IsTrue (of_one_class table kind t u) ↔ IsOfOneClass table kind t u
  one_class_is t u = (
    λ h. record { equal = first_of (physically_equal table t u) (kinds_agree table kind t u) h; kinds = kinds_told t u (second_of (physically_equal table t u) (kinds_agree table kind t u) h) },
    λ c. both_true (physically_equal table t u) (kinds_agree table kind t u) c.equal (kinds_hold t u c.kinds),
  )
