-- What a table that goes on from another one keeps.
use Rattle.std.proofs.Common.{◌≡◌, ℕ, zero, suc, ◌≤◌, Bool, true, false, ◌&&◌, ◌==◌, List, [], ◌∷◌, length, Some, refl, ap, sym, subst, ◌∙◌, inl, inr, true≢false, arith}
use Rattle.std.specs.List.{Contains}
use Rattle.std.proofs.lemmas.Bool.Decides.{leb_tells}
use Rattle.std.proofs.lemmas.List.{get_or_past}
use Rattle.std.proofs.lemmas.List.Elements.{All-contains}
use lib.Pointwise.{pointwise}
use Rattle.cc_base.specs.declared.number.NodeId.{NodeId}
use Rattle.cc_base.specs.declared.number.TypeId.{TypeId}
use Rattle.c_types.specs.declared.shape.TypeShape.{TypeShape}
use Rattle.c_types.specs.declared.shape.TypeShape.TheVariants.{Void, Integer, Pointer, Array, Function, Struct, Union}
use Rattle.c_types.specs.Table.{Table, Entry, IsType, HasShape, shape_at, members_at, named_by, void_entry, is_complete_entry, descend}
use Rattle.c_types.specs.Sound.{IsWellFormed}
use Rattle.c_types.specs.Sameness.{same_shape, same_step, is_same_type}
use Rattle.c_types.proofs.Lists.{contains_head, contains_tail}
use Rattle.integers.specs.Arithmetic.{IntegerType}
use Rattle.c_typing.specs.Shapes.{integer_of_shape, integer_at, is_void_shape, IsPointerTo}
use Rattle.c_typing.specs.Scopes.{Scopes, is_complete_shape_at, is_complete_at}
use Rattle.c_typing.specs.Extensions.{IsExtended}

pub no_true : {P : Type 0} → false ≡ true → P
no_true h = absurd (true≢false (sym h))

pub and_left : (a b : Bool) → (a && b) ≡ true → a ≡ true
and_left true b h = refl
and_left false b h = h

pub and_right : (a b : Bool) → (a && b) ≡ true → b ≡ true
and_right true b h = h
and_right false b h = no_true h

pub and_true : (a b : Bool) → a ≡ true → b ≡ true → (a && b) ≡ true
and_true a b p q = ap (λ x. x && b) p ∙ q

-- what has a shape other than `void` is in the table
pub is_in : (T : Table) (t : TypeId) → is_void_shape (shape_at T t) ≡ false → IsType T t
is_in T t h = elim (leb_tells (length T) t.0) [
  | inl past ↦ absurd (true≢false (sym (ap (λ (e : Entry). is_void_shape e.shape) (get_or_past T t.0 void_entry past.1)) ∙ h))
  | inr below ↦ below.1
]

-- a test that `void` does not pass
pub not_void : (f : TypeShape → Bool) (x : TypeShape) → f Void ≡ false → f x ≡ true → is_void_shape x ≡ false
not_void f Void n h = no_true (sym n ∙ h)
not_void f (Integer bytes signed) n h = refl
not_void f (Pointer node t) n h = refl
not_void f (Array t count) n h = refl
not_void f (Function ps r) n h = refl
not_void f (Struct k) n h = refl
not_void f (Union k) n h = refl

pub pointer_in : (T : Table) (n : NodeId) (t u : TypeId) → IsWellFormed T → shape_at T t ≡ Pointer n u → IsType T u
pointer_in T n t u w h =
    All-contains (IsType T) (named_by (shape_at T t)) u (w.each t).named (subst (λ x. Contains (named_by x) u) (sym h) (contains_head u []))

pub array_in : (T : Table) (n : ℕ) (t u : TypeId) → IsWellFormed T → shape_at T t ≡ Array u n → IsType T u
array_in T n t u w h =
    All-contains (IsType T) (named_by (shape_at T t)) u (w.each t).named (subst (λ x. Contains (named_by x) u) (sym h) (contains_head u []))

module _ (T U : Table) (e : IsExtended T U) where
  pub still_in : (t : TypeId) → IsType T t → IsType U t
  still_in t h = let l = e.longer in omega arith

  pub shape_kept : (t : TypeId) → is_void_shape (shape_at T t) ≡ false → shape_at U t ≡ shape_at T t
  shape_kept t h = e.shapes t (is_in T t h)

  pub has_kept : (t : TypeId) (x : TypeShape) → shape_at T t ≡ x → is_void_shape x ≡ false → HasShape U t x
  has_kept t x h n =
      let v : is_void_shape (shape_at T t) ≡ false = ap is_void_shape h ∙ n in
      (still_in t (is_in T t v), shape_kept t v ∙ h)

  pub test_kept : (f : TypeShape → Bool) (t : TypeId) → f Void ≡ false → f (shape_at T t) ≡ true → f (shape_at U t) ≡ true
  test_kept f t n h = ap f (shape_kept t (not_void f (shape_at T t) n h)) ∙ h

  -- completeness at a point of the text
  complete_by : (s : Scopes) (x : TypeShape) (ms ns : List TypeId) → is_complete_shape_at s (is_complete_entry x ms) x ≡ true
      → is_complete_shape_at s (is_complete_entry x ns) x ≡ true
  complete_by s Void ms ns h = h
  complete_by s (Integer bytes signed) ms ns h = h
  complete_by s (Pointer node t) ms ns h = h
  complete_by s (Array t count) ms ns h = h
  complete_by s (Function ps r) ms ns h = h
  complete_by s (Struct k) ms ns h = h
  complete_by s (Union k) ms ns h = h

  complete_not_void : (s : Scopes) (x : TypeShape) (ms : List TypeId) → is_complete_shape_at s (is_complete_entry x ms) x ≡ true → is_void_shape x ≡ false
  complete_not_void s Void ms h = no_true h
  complete_not_void s (Integer bytes signed) ms h = refl
  complete_not_void s (Pointer node t) ms h = refl
  complete_not_void s (Array t count) ms h = refl
  complete_not_void s (Function ps r) ms h = refl
  complete_not_void s (Struct k) ms h = refl
  complete_not_void s (Union k) ms h = refl

  pub complete_kept : (s : Scopes) (t : TypeId) → is_complete_at T s t ≡ true → is_complete_at U s t ≡ true
  complete_kept s t h =
      let same = shape_kept t (complete_not_void s (shape_at T t) (members_at T t) h) in
      subst (λ x. is_complete_shape_at s (is_complete_entry x (members_at U t)) x ≡ true) (sym same)
      (complete_by s (shape_at T t) (members_at T t) (members_at U t) h)

  -- integers and pointers
  integer_by : (x y : TypeShape) (k : IntegerType) → (is_void_shape x ≡ false → y ≡ x) → integer_of_shape x ≡ Some k → integer_of_shape y ≡ Some k
  integer_by (Integer bytes signed) y k same h = ap integer_of_shape (same refl) ∙ h
  integer_by Void y k same h = cc
  integer_by (Pointer node t) y k same h = cc
  integer_by (Array t count) y k same h = cc
  integer_by (Function ps r) y k same h = cc
  integer_by (Struct n) y k same h = cc
  integer_by (Union n) y k same h = cc

  pub integer_kept : (t : TypeId) (k : IntegerType) → integer_at T t ≡ Some k → integer_at U t ≡ Some k
  integer_kept t k h = integer_by (shape_at T t) (shape_at U t) k (shape_kept t) h

  pub pointer_kept : (n : NodeId) (t u : TypeId) → shape_at T t ≡ Pointer n u → IsPointerTo U u t
  pointer_kept n t u h = (n, has_kept t (Pointer n u) h refl)

  -- types that are the same stay so
  module _ (w : IsWellFormed T) where
    named_in : (t v : TypeId) → Contains (named_by (shape_at T t)) v → IsType T v
    named_in t v c = All-contains (IsType T) (named_by (shape_at T t)) v (w.each t).named c

    lists_more : (f g : TypeId → TypeId → Bool) (ps qs : List TypeId)
        → ((a b : TypeId) → Contains ps a → Contains qs b → f a b ≡ true → g a b ≡ true) → pointwise f ps qs ≡ true → pointwise g ps qs ≡ true
    lists_more f g [] [] more h = refl
    lists_more f g [] (q ∷ qs) more h = h
    lists_more f g (p ∷ ps) [] more h = h
    lists_more f g (p ∷ ps) (q ∷ qs) more h =
        and_true (g p q) (pointwise g ps qs)
        (more p q (contains_head p ps) (contains_head q qs) (and_left (f p q) (pointwise f ps qs) h))
        (lists_more f g ps qs (λ a b c d. more a b (contains_tail p ps a c) (contains_tail q qs b d)) (and_right (f p q) (pointwise f ps qs) h))

    shapes_more : (f g : TypeId → TypeId → Bool) (x y : TypeShape)
        → ((a b : TypeId) → Contains (named_by x) a → Contains (named_by y) b → f a b ≡ true → g a b ≡ true) → same_shape f x y ≡ true → same_shape g x y ≡ true
    shapes_more f g Void Void more h = h
    shapes_more f g (Integer a s) (Integer b r) more h = h
    shapes_more f g (Pointer n t) (Pointer m u) more h = more t u (contains_head t []) (contains_head u []) h
    shapes_more f g (Array t a) (Array u b) more h =
        and_true (a == b) (g t u) (and_left (a == b) (f t u) h) (more t u (contains_head t []) (contains_head u []) (and_right (a == b) (f t u) h))
    shapes_more f g (Function ps r) (Function qs q) more h =
        and_true (g r q) (pointwise g ps qs)
        (more r q (contains_head r ps) (contains_head q qs) (and_left (f r q) (pointwise f ps qs) h))
        (lists_more f g ps qs (λ a b c d. more a b (contains_tail r ps a c) (contains_tail q qs b d)) (and_right (f r q) (pointwise f ps qs) h))
    shapes_more f g (Struct a) (Struct b) more h = h
    shapes_more f g (Union a) (Union b) more h = h
    shapes_more f g x y more h = h

    same_more : (n m : ℕ) (t u : TypeId) → n ≤ m → IsType T t → IsType T u → descend (same_step T) (λ v. false) n t u ≡ true → descend (same_step U) (λ v. false) m t u ≡ true
    same_more zero m t u l p q h = no_true h
    same_more (suc n) zero t u l p q h = absurd (omega arith)
    same_more (suc n) (suc m) t u l p q h =
        let P : TypeShape → TypeShape → Type 0 = λ x y. same_shape (descend (same_step U) (λ v. false) m) x y ≡ true in
        subst (λ x. P x (shape_at U u)) (sym (e.shapes t p)) (subst (P (shape_at T t)) (sym (e.shapes u q))
        (shapes_more (descend (same_step T) (λ v. false) n) (descend (same_step U) (λ v. false) m) (shape_at T t) (shape_at T u)
        (λ a b c d. same_more n m a b (omega arith) (named_in t a c) (named_in u b d)) h))

    pub same_kept : (t u : TypeId) → IsType T t → IsType T u → is_same_type T t u ≡ true → is_same_type U t u ≡ true
    unfolding is_same_type
    same_kept t u p q h = let l = e.longer in same_more (suc (length T)) (suc (length U)) t u (omega arith) p q h

pub extended_refl : (T : Table) → IsExtended T T
extended_refl T = record { longer = omega arith; shapes = λ t h. refl; complete = λ t h. refl; layouts = λ t h. refl }
