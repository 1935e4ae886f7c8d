-- What a table that goes on keeps of the types that were there, whether it is so or not: which are the same, which are data, and which
-- are complete.
use Rattle.std.proofs.Common.{◌≡◌, ℕ, zero, suc, ◌<◌, Bool, false, not, ◌&&◌, ◌||◌, ◌==◌, List, [], ◌∷◌, length, refl, ap, ◌∙◌, if◌then◌else◌, arith}
use Rattle.std.specs.List.{Contains}
use Rattle.std.proofs.lemmas.List.Elements.{All-contains}
use lib.Pointwise.{pointwise}
use Rattle.cc_base.specs.declared.number.TypeId.{TypeId}
use Rattle.c_types.specs.declared.shape.TypeShape.{TypeShape}
use Rattle.c_types.specs.declared.shape.TypeShape.TheVariants.{Void, Integer, Pointer, Array, Function, Struct, Union}
use Rattle.c_types.specs.Table.{Table, IsType, shape_at, members_at, named_by, descend, is_complete_entry}
use Rattle.c_types.specs.Sameness.{same_shape, same_step, is_same_type}
use Rattle.c_types.proofs.Lists.{contains_head, contains_tail}
use Rattle.c_typing.specs.Conversions.{is_taken_as, points_to_void, is_pointer_to_complete, is_pointer_to_complete_shape}
use Rattle.c_typing.specs.Constants.{is_void_pointer, is_void_pointer_shape}
use Rattle.c_typing.specs.Extensions.{IsExtended}
use Rattle.c_typing.specs.Rules.{meeting_pointee, BothPoint, NeverMeet}
use Rattle.c_typing.specs.Scopes.{Scopes, is_complete_shape_at, is_complete_at}
use Rattle.c_typing.specs.Settled.{IsBasic}
use Rattle.c_typing.specs.Shapes.{is_data, is_function_shape, is_void_shape}
use Rattle.c_typing_laws.proofs.ExtensionLaws.{pointer_in}

lists_equal : (f g : TypeId → TypeId → Bool) (ps qs : List TypeId)
    → ((a b : TypeId) → Contains ps a → Contains qs b → f a b ≡ g a b) → pointwise f ps qs ≡ pointwise g ps qs
lists_equal f g [] [] more = refl
lists_equal f g [] (q ∷ qs) more = refl
lists_equal f g (p ∷ ps) [] more = refl
lists_equal f g (p ∷ ps) (q ∷ qs) more =
    let head : f p q ≡ g p q = more p q (contains_head p ps) (contains_head q qs) in
    let tail : pointwise f ps qs ≡ pointwise g ps qs = lists_equal f g ps qs (λ a b c d. more a b (contains_tail p ps a c) (contains_tail q qs b d)) in
    λ i. head i && tail i

shapes_equal : (f g : TypeId → TypeId → Bool) (x y : TypeShape)
    → ((a b : TypeId) → Contains (named_by x) a → Contains (named_by y) b → f a b ≡ g a b) → same_shape f x y ≡ same_shape g x y
shapes_equal f g Void Void more = refl
shapes_equal f g (Integer a s) (Integer b r) more = refl
shapes_equal f g (Pointer n t) (Pointer m u) more = more t u (contains_head t []) (contains_head u [])
shapes_equal f g (Array t a) (Array u b) more = ap (λ (z : Bool). (a == b) && z) (more t u (contains_head t []) (contains_head u []))
shapes_equal f g (Function ps r) (Function qs q) more =
    let result : f r q ≡ g r q = more r q (contains_head r ps) (contains_head q qs) in
    let each : pointwise f ps qs ≡ pointwise g ps qs = lists_equal f g ps qs (λ a b c d. more a b (contains_tail r ps a c) (contains_tail q qs b d)) in
    λ i. result i && each i
shapes_equal f g (Struct a) (Struct b) more = refl
shapes_equal f g (Union a) (Union b) more = refl
shapes_equal f g x y more = refl

pub complete_shape : (s : Scopes) (x : TypeShape) (ms ns : List TypeId)
    → is_complete_shape_at s (is_complete_entry x ms) x ≡ is_complete_shape_at s (is_complete_entry x ns) x
complete_shape s Void ms ns = refl
complete_shape s (Integer bytes signed) ms ns = refl
complete_shape s (Pointer node t) ms ns = refl
complete_shape s (Array t count) ms ns = refl
complete_shape s (Function ps r) ms ns = refl
complete_shape s (Struct k) ms ns = refl
complete_shape s (Union k) ms ns = refl

-- what the shape of a pointer points to is in the table
abbrev pub PointsIn : Table → TypeShape → Type 0
PointsIn T (Pointer n t) = IsType T t
PointsIn T x = Unit {0}

points_in : (T : Table) (t : TypeId) (x : TypeShape) → IsBasic T → shape_at T t ≡ x → PointsIn T x
points_in T t (Pointer n u) b h = pointer_in T n t u b.formed h
points_in T t Void b h = tt
points_in T t (Integer bytes signed) b h = tt
points_in T t (Array u count) b h = tt
points_in T t (Function ps r) b h = tt
points_in T t (Struct k) b h = tt
points_in T t (Union k) b h = tt

pub points-in : (T : Table) (t : TypeId) → IsBasic T → PointsIn T (shape_at T t)
points-in T t b = points_in T t (shape_at T t) b refl

module _ (T U : Table) (e : IsExtended T U) (b : IsBasic T) where
  named_below : (t u : TypeId) → Contains (named_by (shape_at T t)) u → (n : ℕ) → t.0 < suc n → u.0 < n
  named_below t u c n h = let l = b.built t u c in omega arith

  named_in : (t u : TypeId) → Contains (named_by (shape_at T t)) u → IsType T u
  named_in t u c = All-contains (IsType T) (named_by (shape_at T t)) u (b.formed.each t).named c

  same_by : (n m : ℕ) (t u : TypeId) → IsType T t → IsType T u → t.0 < n → t.0 < m
      → descend (same_step U) (λ v. false) m t u ≡ descend (same_step T) (λ v. false) n t u
  same_by zero m t u p q l k = absurd (omega arith)
  same_by (suc n) zero t u p q l k = absurd (omega arith)
  same_by (suc n) (suc m) t u p q l k =
      let f : TypeId → TypeId → Bool = descend (same_step U) (λ v. false) m in
      let g : TypeId → TypeId → Bool = descend (same_step T) (λ v. false) n in
      (λ i. same_shape f (e.shapes t p i) (e.shapes u q i))
      ∙ shapes_equal f g (shape_at T t) (shape_at T u)
      (λ a c in_a in_c. same_by n m a c (named_in t a in_a) (named_in u c in_c) (named_below t a in_a n l) (named_below t a in_a m k))

  pub same_exact : (t u : TypeId) → IsType T t → IsType T u → is_same_type U t u ≡ is_same_type T t u
  unfolding is_same_type
  same_exact t u p q =
      let l = e.longer in
      let h : t.0 < length T = p in
      same_by (suc (length T)) (suc (length U)) t u p q (omega arith) (omega arith)

  pub data_exact : (t : TypeId) → IsType T t → is_data U t ≡ is_data T t
  data_exact t p = ap (λ (x : TypeShape). not (is_function_shape x)) (e.shapes t p)

  pub void_exact : (t : TypeId) → IsType T t → points_to_void U t ≡ points_to_void T t
  void_exact t p = ap is_void_shape (e.shapes t p)

  pub complete_exact : (s : Scopes) (t : TypeId) → IsType T t → is_complete_at U s t ≡ is_complete_at T s t
  complete_exact s t p =
      ap (λ (x : TypeShape). is_complete_shape_at s (is_complete_entry x (members_at U t)) x) (e.shapes t p)
      ∙ complete_shape s (shape_at T t) (members_at U t) (members_at T t)

  pub taken_exact : (t u : TypeId) → IsType T t → IsType T u → is_taken_as U t u ≡ is_taken_as T t u
  taken_exact t u p q =
      let same = same_exact t u p q in
      let first = data_exact t p in
      let second = data_exact u q in
      let left = void_exact t p in
      let right = void_exact u q in
      λ i. same i || ((first i && second i) && (left i || right i))

  pub pointees_exact : (t u : TypeId) → IsType T t → IsType T u → meeting_pointee U t u ≡ meeting_pointee T t u
  pointees_exact t u p q =
      let same = same_exact t u p q in
      let first = data_exact t p in
      let second = data_exact u q in
      let left = void_exact t p in
      let right = void_exact u q in
      λ i. if same i then BothPoint t
      else (if (first i && second i) && left i then BothPoint t
      else (if (first i && second i) && right i then BothPoint u else NeverMeet))

  pointed_by : (s : Scopes) (x : TypeShape) → PointsIn T x → is_pointer_to_complete_shape U s x ≡ is_pointer_to_complete_shape T s x
  pointed_by s (Pointer n t) p = complete_exact s t p
  pointed_by s x p = refl

  pub pointed_exact : (s : Scopes) (t : TypeId) → IsType T t → is_pointer_to_complete U s t ≡ is_pointer_to_complete T s t
  pointed_exact s t p = ap (is_pointer_to_complete_shape U s) (e.shapes t p) ∙ pointed_by s (shape_at T t) (points-in T t b)

  void_pointer_by : (x : TypeShape) → PointsIn T x → is_void_pointer_shape U x ≡ is_void_pointer_shape T x
  void_pointer_by (Pointer n t) p = void_exact t p
  void_pointer_by x p = refl

  pub void_pointer_exact : (t : TypeId) → IsType T t → is_void_pointer U t ≡ is_void_pointer T t
  void_pointer_exact t p = ap (is_void_pointer_shape U) (e.shapes t p) ∙ void_pointer_by (shape_at T t) (points-in T t b)
