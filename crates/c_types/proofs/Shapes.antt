use Rattle.std.proofs.Common.{◌≡◌, ℕ, Bool, true, false, ◌&&◌, List, [], ◌∷◌, refl, ap, sym, true≢false, eqb, arith}
use Rattle.std.proofs.lemmas.Bool.Decides.{nat_tests, Decides-eqb}
use lib.Pointwise.{pointwise, pointwise_decides}
use Rattle.cc_base.specs.declared.number.TypeId.{TypeId}
use Rattle.c_types.specs.declared.shape.TypeShape.{TypeShape}
use Rattle.c_types.specs.declared.shape.TypeShape.TheVariants.{Void, Integer, Pointer, Array, Function, Struct, Union}
use Rattle.c_types.specs.contracts.shape.TypeShapePartialEq as derived

-- The derived `==` on shapes is equality.

abbrev pub shape_eq : TypeShape → TypeShape → Bool
shape_eq = derived.TheImpl.eq-value.it

pub first_true : (a b : Bool) → (a && b) ≡ true → a ≡ true
first_true true b h = refl
first_true false b h = h

pub second_true : (a b : Bool) → (a && b) ≡ true → b ≡ true
second_true true b h = h
second_true false b h = absurd (true≢false (sym h))

same_number : (a b : ℕ) → eqb a b ≡ true → a ≡ b
same_number a b h = (Decides-eqb a b).0 h

own_number : (a : ℕ) → eqb a a ≡ true
own_number a = (Decides-eqb a a).1 refl

same_types : (ps qs : List TypeId) → pointwise (λ (x y : TypeId). eqb x.0 y.0) ps qs ≡ true → ps ≡ qs
same_types ps qs h = (pointwise_decides (λ (x y : TypeId). (λ e. ap (λ (n : ℕ). record { 0 = n }) (same_number x.0 y.0 e), λ e. (Decides-eqb x.0 y.0).1 (ap (λ (t : TypeId). t.0) e))) ps qs).0 h

own_types : (ps : List TypeId) → pointwise (λ (x y : TypeId). eqb x.0 y.0) ps ps ≡ true
own_types [] = refl
own_types (p ∷ ps) = λ i. own_number p.0 i && own_types ps i

pub same_shape : (a b : TypeShape) → shape_eq a b ≡ true → a ≡ b
same_shape Void Void h = refl
same_shape (Integer b s) (Integer c r) h = grind (arith, nat_tests)
same_shape (Pointer n t) (Pointer m u) h =
    let e = same_number n.0 m.0 (first_true _ _ h) in let f = same_number t.0 u.0 (second_true (eqb n.0 m.0) _ h) in
    λ i. Pointer (record { 0 = e i }) (record { 0 = f i })
same_shape (Array t k) (Array u l) h =
    let e = same_number t.0 u.0 (first_true _ _ h) in let f = same_number k l (second_true (eqb t.0 u.0) _ h) in
    λ i. Array (record { 0 = e i }) (f i)
same_shape (Function p s) (Function q r) h =
    let e = same_types p q (first_true _ _ h) in let f = same_number s.0 r.0 (second_true (pointwise (λ (x y : TypeId). eqb x.0 y.0) p q) _ h) in
    λ i. Function (e i) (record { 0 = f i })
same_shape (Struct t) (Struct u) h = ap Struct (same_number t u h)
same_shape (Union t) (Union u) h = ap Union (same_number t u h)
same_shape a b h = cc

own_integer : (n : ℕ) (b : Bool) → shape_eq (Integer n b) (Integer n b) ≡ true
own_integer n true = λ i. own_number n i && true
own_integer n false = λ i. own_number n i && true

pub own_shape : (a : TypeShape) → shape_eq a a ≡ true
own_shape Void = refl
own_shape (Integer b s) = own_integer b s
own_shape (Pointer n t) = λ i. own_number n.0 i && own_number t.0 i
own_shape (Array t k) = λ i. own_number t.0 i && own_number k i
own_shape (Function p s) = λ i. own_types p i && own_number s.0 i
own_shape (Struct t) = own_number t
own_shape (Union t) = own_number t

by_answer : (b : Bool) → (b ≡ true → ⊥) → b ≡ false
by_answer true h = absurd (h refl)
by_answer false h = refl

pub other_shape : (a b : TypeShape) → (a ≡ b → ⊥) → shape_eq a b ≡ false
other_shape a b n = by_answer (shape_eq a b) (λ h. n (same_shape a b h))
