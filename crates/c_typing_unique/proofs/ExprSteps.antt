-- Each form of an expression has one typed tree where its parts have one.
use Rattle.std.proofs.Common.{◌≡◌, ℕ, ◌+◌, ℤ, Bool, true, false, inl, inr, List, length, Option, Some, None, refl, ap, sym, subst, ◌∙◌}
use Rattle.cc_base.specs.declared.place.Place.{Place}
use Rattle.cc_base.specs.declared.number.NodeId.{NodeId}
use Rattle.cc_base.specs.declared.number.TypeId.{TypeId}
use Rattle.c_types.specs.declared.shape.TypeShape.TheVariants.{Void, Array, Pointer}
use Rattle.c_types.specs.Layouts.{member_at}
use Rattle.c_types.specs.Table.{Table, is_aggregate_shape, shape_at}
use Rattle.integers.specs.Arithmetic.{int}
use Rattle.c_lexer.specs.declared.number.IntegerType.{IntegerType as ConstantType}
use Rattle.c_tree.specs.Literals.{pieces_bytes}
use Rattle.c_tree.specs.declared.leaf.Identifier.{Identifier}
use Rattle.c_tree.specs.declared.leaf.StringPiece.{StringPiece}
use Rattle.c_tree.specs.declared.operator.Binary.{Binary}
use Rattle.c_tree.specs.declared.operator.MemberOperator.TheVariants as member
use Rattle.c_tree.specs.declared.typed_word.Side.{Side}
use Rattle.c_tree.specs.declared.typed_word.Side.TheVariants as side
use Rattle.c_tree.specs.Erasure.{erased_type_name}
use Rattle.c_tree.specs.Tree as tree
use Rattle.c_tree.specs.TypedTree as typed
use Rattle.c_tree.specs.TypedTree.{TypedExpr, TypedPlace, TypedArguments, TypedTypeName}
use Rattle.c_tree.specs.TypedParts.{type_of, place_type, made_by_type_name}
use Rattle.c_typing.specs.declared.declared.Declared.{Declared}
use Rattle.c_typing.specs.declared.declared.Declared.TheVariants as declared
use Rattle.c_typing.specs.Conversions.{bare, IsPlain}
use Rattle.c_typing.specs.Integers.{char, constant_type}
use Rattle.c_typing.specs.Rules.{IsElement, HasMember, is_hidden, number_of_shape}
use Rattle.c_typing.specs.Scopes.{Scopes, members_named, place_among}
use Rattle.c_typing.specs.Shapes.{is_array_shape, is_integer_shape, is_pointer_shape, is_scalar_shape}
use Rattle.c_typing.specs.Typing.{IsTypeName}
use Rattle.c_typing_unique.specs.Sameness.{HasOwnFunctions}
use Rattle.c_typing_unique.proofs.CallLaws.{ArePlain, bares, called-one, called-over, called-plain, runtime-same}
use Rattle.c_typing_unique.proofs.Numbering.{Point, HasOwn, node-same}
use Rattle.c_typing_unique.proofs.OperatorLaws.{IsInfix, sort_of, shape_of, bare-plain, infix-one, plain-same}
use Rattle.c_typing_unique.proofs.Reading.{ArePartsAlike, IsRead, IsUnique, IsUniqueAs, Part, OfValue, OfPlace, IsMadeOf, IsStanding, by-read, by-unread, by-decay, alike-same, bare-read, bare-value, place-one, plain-one, plain-over, standing}
use Rattle.c_typing_unique.proofs.Readings.{AreRead, Both, IsOf, IsNamed, variable, enumerator, defined, library, in_parens, is-of}
use Rattle.c_typing_unique.proofs.Shapes.{IsDistinct, no_true, two-sorts, aggregate-no-array, scalar-no-array, integer-no-pointer, shape-one, some-same, is-integer, is-pointer, pointee-same, integer-type-one}

-- two parts are one, and end at one place of the text
abbrev pub AreOne : Part → Part → Point → Point → Type 0
AreOne y z b d = ArePartsAlike y z × (b.scopes ≡ d.scopes) × HasOwn b

-- an expression that is read twice from one point on
abbrev pub IsStep : Table → tree.Expr → Type 0
IsStep T x = (y z : Part) (a b d : Point) → IsOf T x y a b → IsOf T x z a d → HasOwn a → AreOne y z b d

pub step-unique : (T : Table) (x : tree.Expr) → IsStep T x → IsUnique T x
step-unique T x s y z a b c d h k e own = s y z a b d (is-of T x y a b h) (subst (λ (p : Point). IsOf T x z p d) (sym e) (is-of T x z c d k)) own

-- the arguments of a call, of which nothing is taken over
abbrev pub AreUnique : Table → tree.Arguments → Type 0
AreUnique T xs =
    (x y : TypedArguments) (a b c d : Point) → AreRead T xs x a b → AreRead T xs y c d → a ≡ c → HasOwn a → ArePlain x → ArePlain y → (bares x ≡ bares y) × (b ≡ d) × HasOwn b

abbrev pub IsNameUnique : Table → tree.TypeName → Type 0
IsNameUnique T name = IsUniqueAs erased_type_name made_by_type_name (IsTypeName T) name

pub alike-by : (y y' z z' : Part) → y ≡ y' → z ≡ z' → ArePartsAlike y' z' → ArePartsAlike y z
alike-by y y' z z' p q h = subst (λ (w : Part). ArePartsAlike w z) (sym p) (subst (ArePartsAlike y') (sym q) h)

pub values-by : (e f : TypedExpr) (y z : Part) → y ≡ OfValue e → z ≡ OfValue f → e ≡ f → ArePartsAlike y z
values-by e f y z p q h = alike-by y (OfValue e) z (OfValue f) p q (alike-same e f h)

pub places-by : (e f : TypedPlace) (y z : Part) → y ≡ OfPlace e → z ≡ OfPlace f → e ≡ f → ArePartsAlike y z
places-by e f y z p q h = alike-by y (OfPlace e) z (OfPlace f) p q h

stays_own : (a b : Point) → b.scopes ≡ a.scopes → HasOwn a → HasOwn b
stays_own a b h own = subst HasOwnFunctions (sym h) own

-- Names

object_same : (t u : TypeId) (m n : NodeId) → Some (declared.Object t m) ≡ Some (declared.Object u n) → (m ≡ n) × (t ≡ u)
object_same t u m n h = (cc, cc)

function_same : (t u : TypeId) → Some (declared.Function t) ≡ Some (declared.Function u) → t ≡ u
function_same t u h = cc

value_same : (y z : ℤ) → Some (declared.Enumerator y) ≡ Some (declared.Enumerator z) → y ≡ z
value_same y z h = cc

abbrev stands_for : Option Declared → ℕ
stands_for None = 0
stands_for (Some (declared.Typedef t)) = 1
stands_for (Some (declared.Object t n)) = 2
stands_for (Some (declared.Function t)) = 3
stands_for (Some (declared.Enumerator z)) = 4

module _ (T : Table) (D : IsDistinct T) where
  name_alike : (name : Identifier) (a b d : Point) (y z : Part) → IsNamed T name a b y → IsNamed T name a d z → HasOwn a → ArePartsAlike y z
  name_alike name a b d _ _ (variable m t h) (variable n u k) own =
      let one = object_same t u m n (sym h ∙ k) in
      let home = one.0 in
      let type = one.1 in
      (λ i. typed.Variable name (home i) (type i))
  name_alike name a b d _ _ (enumerator m t h) (enumerator n u k) own =
      let value = value_same m n (sym h.known ∙ k.known) in
      let type = integer-type-one T D int int t u refl h.type k.type in
      alike-same (typed.Enumerator name m t) (typed.Enumerator name n u) (λ i. typed.Enumerator name (value i) (type i))
  name_alike name a b d _ _ (defined m k t h c) (defined n l u j e) own =
      let number = some-same m n (sym h.defined ∙ j.defined) in
      let to = function_same h.function j.function (sym h.known ∙ j.known) in
      let node = node-same k l a.node a.node refl c e in
      let type = shape-one T D t u (Pointer k h.function) (Pointer l j.function) (λ i. Pointer (node i) (to i)) h.type j.type in
      alike-same (typed.FunctionName name m k t) (typed.FunctionName name n l u) (λ i. typed.FunctionName name (number i) (node i) (type i))
  name_alike name a b d _ _ (library f t h) (library g u j) own =
      let which = runtime-same name.bytes f g h.named j.named in
      let type = shape-one T D t u Void Void refl h.type j.type in
      alike-same (typed.RuntimeName name f t) (typed.RuntimeName name g u) (λ i. typed.RuntimeName name (which i) (type i))
  name_alike name a b d _ _ (defined m k t h c) (library g u j) own = absurd (own name.bytes m h.defined g j.named)
  name_alike name a b d _ _ (library g u j) (defined m k t h c) own = absurd (own name.bytes m h.defined g j.named)
  name_alike name a b d _ _ (variable m t h) (enumerator n u k) own = absurd (let e : 2 ≡ 4 = ap stands_for (sym h ∙ k.known) in cc)
  name_alike name a b d _ _ (enumerator n u k) (variable m t h) own = absurd (let e : 2 ≡ 4 = ap stands_for (sym h ∙ k.known) in cc)
  name_alike name a b d _ _ (variable m t h) (defined n l u j c) own = absurd (let e : 2 ≡ 3 = ap stands_for (sym h ∙ j.known) in cc)
  name_alike name a b d _ _ (defined n l u j c) (variable m t h) own = absurd (let e : 2 ≡ 3 = ap stands_for (sym h ∙ j.known) in cc)
  name_alike name a b d _ _ (enumerator n t k) (defined m l u j c) own = absurd (let e : 4 ≡ 3 = ap stands_for (sym k.known ∙ j.known) in cc)
  name_alike name a b d _ _ (defined m l u j c) (enumerator n t k) own = absurd (let e : 4 ≡ 3 = ap stands_for (sym k.known ∙ j.known) in cc)
  name_alike name a b d _ _ (variable m t h) (library g u j) own = no_true (sym j.seen ∙ ap is_hidden h)
  name_alike name a b d _ _ (library g u j) (variable m t h) own = no_true (sym j.seen ∙ ap is_hidden h)
  name_alike name a b d _ _ (enumerator n t h) (library g u j) own = no_true (sym j.seen ∙ ap is_hidden h.known)
  name_alike name a b d _ _ (library g u j) (enumerator n t h) own = no_true (sym j.seen ∙ ap is_hidden h.known)

  pub name-step : (name : Identifier) → IsStep T (tree.Name name)
  name-step name y z a b d h k own = (name_alike name a b d y z h.0 k.0 own, h.1 ∙ sym k.1, stays_own a b h.1 own)

  -- Constants and literals

  pub integer-step : (of : ConstantType) (value : ℕ) (at : Place) → IsStep T (tree.Integer of value at)
  integer-step of value at y z a b d h k own =
      let type = integer-type-one T D (constant_type of) (constant_type of) h.0 k.0 refl h.1 k.1 in
      (values-by (typed.Integer of value at h.0) (typed.Integer of value at k.0) y z h.2 k.2 (ap (typed.Integer of value at) type), h.3 ∙ sym k.3, stays_own a b h.3 own)

  pub character-step : (value : ℤ) (at : Place) → IsStep T (tree.Character value at)
  character-step value at y z a b d h k own =
      let type = integer-type-one T D int int h.0 k.0 refl h.1 k.1 in
      (values-by (typed.Character value at h.0) (typed.Character value at k.0) y z h.2 k.2 (ap (typed.Character value at) type), h.3 ∙ sym k.3, stays_own a b h.3 own)

  pub string-step : (pieces : List StringPiece) → IsStep T (tree.String pieces)
  string-step pieces y z a b d h k own =
      let node = node-same h.0 k.0 a.node a.node refl h.3 k.3 in
      let element = integer-type-one T D char char h.2.element k.2.element refl h.2.char k.2.char in
      let count = length (pieces_bytes pieces) + 1 in
      let type = shape-one T D h.1 k.1 (Array h.2.element count) (Array k.2.element count) (λ i. Array (element i) count) h.2.shape k.2.shape in
      (places-by (typed.String pieces h.0 h.1) (typed.String pieces k.0 k.1) y z h.4 k.4 (λ i. typed.String pieces (node i) (type i)), h.5 ∙ sym k.5, stays_own a b h.5 own)

  -- the value of a string literal is the address of its first byte
  pub string-decays : (pieces : List StringPiece) (e : TypedExpr) (a b : Point) → IsRead T (tree.String pieces) e a b
      → (p : TypedPlace) × (n : NodeId) × (t : TypeId) × (bare e ≡ typed.Decay p n t) × (is_pointer_shape (shape_at T t) ≡ true)
  string-decays pieces e a b h = by (standing T (tree.String pieces) (bare e) a b (bare-value T e a.scopes b.scopes h.1) (bare-read T (tree.String pieces) e a b h))
    where
      IsDecayed : TypedExpr → Type 0
      IsDecayed f = (p : TypedPlace) × (n : NodeId) × (t : TypeId) × (f ≡ typed.Decay p n t) × (is_pointer_shape (shape_at T t) ≡ true)

      array_place : (p q : TypedPlace) (m : Point) → IsOf T (tree.String pieces) (OfPlace p) a m → is_array_shape (shape_at T (place_type p)) ≡ true
      array_place p q m k = subst (λ (w : Part). is_array_part w ≡ true) (sym k.4) (ap is_array_shape k.2.shape.1)
        where
          is_array_part : Part → Bool
          is_array_part (OfValue f) = false
          is_array_part (OfPlace w) = is_array_shape (shape_at T (place_type w))

      made : (p : TypedPlace) (m : ℕ) (f : TypedExpr) → is_array_shape (shape_at T (place_type p)) ≡ true → IsMadeOf T p m f → IsDecayed f
      made p m _ k (by-read s) = two-sorts is_scalar_shape is_array_shape scalar-no-array (shape_at T (place_type p)) (shape_at T (place_type p)) refl s k
      made p m _ k (by-unread s) = two-sorts is_aggregate_shape is_array_shape aggregate-no-array (shape_at T (place_type p)) (shape_at T (place_type p)) refl s k
      made p m _ k (by-decay n t s j) = (p, n, t, refl, ap is_pointer_shape s.type.1)

      by : IsStanding T (tree.String pieces) (bare e) a b → IsDecayed (bare e)
      by (inl g) = absurd (value_no_place (bare e) (is-of T (tree.String pieces) (OfValue (bare e)) a b g).4)
        where
          value_no_place : (f : TypedExpr) {q : TypedPlace} → OfValue f ≡ OfPlace q → ⊥
          value_no_place f {q} j = let w : OfValue f ≡ OfPlace q = j in cc
      by (inr g) = made g.0 g.1.node (bare e) (array_place g.0 g.0 g.1 (is-of T (tree.String pieces) (OfPlace g.0) a g.1 g.2)) g.3

  -- Parentheses

  parens_alike : (at : Place) (y z : Part) → ArePartsAlike y z → ArePartsAlike (in_parens at y) (in_parens at z)
  parens_alike at (OfValue e) (OfValue f) h = record { allocation = h.allocation; same = λ p q. ap (typed.Paren at) (h.same p q) }
  parens_alike at (OfPlace p) (OfPlace q) h = ap (typed.ParenPlace at) h
  parens_alike at (OfValue e) (OfPlace q) h = absurd h
  parens_alike at (OfPlace p) (OfValue f) h = absurd h

  pub paren-step : (at : Place) (x : tree.Expr) → IsUnique T x → IsStep T (tree.Paren at x)
  paren-step at x u y z a b d h k own =
      let one = u h.0 k.0 a b a d h.1 k.1 refl own in
      (alike-by y (in_parens at h.0) z (in_parens at k.0) h.2 k.2 (parens_alike at h.0 k.0 one.0), one.1, one.2)

  -- Two values, which nothing takes over

  two_plain : (x x' : tree.Expr) → IsUnique T x → IsUnique T x' → (e f g k : TypedExpr) (a b d : Point) → Both (IsRead T x e) (IsRead T x' f) a b → Both (IsRead T x g) (IsRead T x' k) a d
      → HasOwn a → IsPlain (bare e) → IsPlain (bare f) → IsPlain (bare g) → IsPlain (bare k) → (bare e ≡ bare g) × (bare f ≡ bare k) × (b ≡ d) × HasOwn b
  two_plain x x' u v e f g k a b d h j own pe pf pg pk =
      let first = plain-one T D x u e g a h.0 a j.0 h.1 j.1 refl own (plain-over (bare e) pe) (plain-over (bare g) pg) in
      let second = plain-one T D x' v f k h.0 b j.0 d h.2 j.2 first.1 first.2 (plain-over (bare f) pf) (plain-over (bare k) pk) in
      (first.0, second.0, second.1, second.2)

  pub infix-step : (operator : Binary) (x : tree.Expr) (at : Place) (x' : tree.Expr) → IsUnique T x → IsUnique T x' → IsStep T (tree.Infix operator x at x')
  infix-step operator x at x' u v y z a b d h k own =
      let one = two_plain x x' u v h.0 h.1 k.0 k.1 a b d h.2 k.2 own h.3 h.4 k.3 k.4 in
      let first = one.0 in
      let second = one.1 in
      let sort = sort_of operator (shape_of T (bare h.0)) (shape_of T (bare h.1)) in
      let sorts : sort ≡ sort_of operator (shape_of T (bare k.0)) (shape_of T (bare k.1)) = (λ i. sort_of operator (shape_of T (first i)) (shape_of T (second i))) in (
        infix-one T D b.scopes d.scopes operator at h.0 h.1 k.0 k.1 y z sort first second h.5 (subst (IsInfix T d.scopes operator k.0 at k.1 z) (sym sorts) k.5),
        ap (λ (p : Point). p.scopes) one.2,
        one.3,
      )

  element_plain : (s : Scopes) (which : Side) (e f : TypedExpr) (t : TypeId) → IsElement T s which e f t → IsPlain e × IsPlain f
  element_plain s side.Left e f t h = (h.pointer.plain, h.integer.plain)
  element_plain s side.Right e f t h = (h.integer.plain, h.pointer.plain)

  element_same : (s r : Scopes) (which other : Side) (e f g k : TypedExpr) (t u : TypeId) → e ≡ g → f ≡ k → IsElement T s which e f t → IsElement T r other g k u → (which ≡ other) × (t ≡ u)
  element_same s r side.Left side.Left e f g k t u p q x y = (refl, pointee-same T (type_of e) (type_of g) t u (ap type_of p) x.pointer.type y.pointer.type)
  element_same s r side.Right side.Right e f g k t u p q x y = (refl, pointee-same T (type_of f) (type_of k) t u (ap type_of q) x.pointer.type y.pointer.type)
  element_same s r side.Left side.Right e f g k t u p q x y =
      two-sorts is_integer_shape is_pointer_shape integer-no-pointer (shape_of T g) (shape_of T e) (ap (shape_of T) (sym p)) (is-integer T (type_of g) y.kind y.integer.type) (is-pointer T (type_of e) t x.pointer.type)
  element_same s r side.Right side.Left e f g k t u p q x y =
      two-sorts is_integer_shape is_pointer_shape integer-no-pointer (shape_of T e) (shape_of T g) (ap (shape_of T) p) (is-integer T (type_of e) x.kind x.integer.type) (is-pointer T (type_of g) u y.pointer.type)

  pub index-step : (x : tree.Expr) (at : Place) (x' : tree.Expr) → IsUnique T x → IsUnique T x' → IsStep T (tree.Index x at x')
  index-step x at x' u v y z a b d h k own =
      let p = element_plain b.scopes h.0 h.1 h.2 h.3 h.5 in
      let q = element_plain d.scopes k.0 k.1 k.2 k.3 k.5 in
      let one = two_plain x x' u v h.1 h.2 k.1 k.2 a b d h.4 k.4 own (bare-plain h.1 p.0) (bare-plain h.2 p.1) (bare-plain k.1 q.0) (bare-plain k.2 q.1) in
      let first = plain-same h.1 k.1 p.0 q.0 one.0 in
      let second = plain-same h.2 k.2 p.1 q.1 one.1 in
      let same = element_same b.scopes d.scopes h.0 k.0 h.1 h.2 k.1 k.2 h.3 k.3 first second h.5 k.5 in
      let which = same.0 in
      let type = same.1 in (
        places-by (typed.Element h.0 h.1 at h.2 h.3) (typed.Element k.0 k.1 at k.2 k.3) y z h.6 k.6 (λ i. typed.Element (which i) (first i) at (second i) (type i)),
        ap (λ (m : Point). m.scopes) one.2,
        one.3,
      )

  -- Calls

  pub call-step : (x : tree.Expr) (at : Place) (xs : tree.Arguments) → IsUnique T x → AreUnique T xs → IsStep T (tree.Call x at xs)
  call-step x at xs u v y z a b d h k own =
      let over = called-over T h.0 at h.1 h.3.node h.2 h.6 in
      let over' = called-over T k.0 at k.1 k.3.node k.2 k.6 in
      let first = plain-one T D x u h.0 k.0 a h.4.0 a k.4.0 h.4.1 k.4.1 refl own over.1 over'.1 in
      let same = sym over.0 ∙ first.0 ∙ over'.0 in
      let rest = v h.1 k.1 h.4.0 h.3 k.4.0 k.3 h.4.2 k.4.2 first.1 first.2 (called-plain T h.0 at h.1 h.3.node h.2 h.6) (called-plain T k.0 at k.1 k.3.node k.2 k.6) in
      let call = called-one T D h.0 k.0 at h.1 k.1 h.3.node k.3.node h.2 k.2 same rest.0 (ap (λ (p : Point). p.node) rest.1) h.6 k.6 in
      (alike-by y (OfValue h.2) z (OfValue k.2) h.7 k.7 call, sym h.5 ∙ ap (λ (p : Point). p.scopes) rest.1 ∙ k.5, subst HasOwnFunctions h.5 rest.2)

  -- Members

  member_same : (s r : Scopes) (t u : TypeId) (name : Identifier) (i j : ℕ) (v w : TypeId) → s ≡ r → t ≡ u → HasMember T s t name i v → HasMember T r u name j w → (i ≡ j) × (v ≡ w)
  member_same s r t u name i j v w p q h k =
      let number = some-same h.number k.number (sym h.declared ∙ ap (λ (c : TypeId). number_of_shape (shape_at T c)) q ∙ k.declared) in
      let index = some-same i j (sym h.named ∙ (λ l. place_among (members_named (p l) (number l)) name.bytes) ∙ k.named) in
      (index, h.type ∙ (λ l. member_at T (q l) (index l)) ∙ sym k.type)

  pub dot-step : (x : tree.Expr) (at : Place) (name : Identifier) → IsUnique T x → IsStep T (tree.Member x member.Dot at name)
  dot-step x at name u y z a b d h k own =
      let one = place-one T x u h.0 k.0 a h.4.0 a k.4.0 h.4.1 k.4.1 refl own in
      let scopes = sym h.4.2 ∙ ap (λ (p : Point). p.scopes) one.1 ∙ k.4.2 in
      let whole = one.0 in
      let same = member_same b.scopes d.scopes (place_type h.0) (place_type k.0) name h.1 k.1 h.3 k.3 scopes (ap place_type whole) h.5 k.5 in
      let index = same.0 in
      let type = same.1 in
      let node = node-same h.2 k.2 h.4.0.node k.4.0.node (ap (λ (p : Point). p.node) one.1) h.4.3 k.4.3 in (
        places-by (typed.Member h.0 at name h.1 h.2 h.3) (typed.Member k.0 at name k.1 k.2 k.3) y z h.6 k.6 (λ i. typed.Member (whole i) at name (index i) (node i) (type i)),
        scopes,
        subst HasOwnFunctions h.4.2 one.2,
      )

  pub arrow-step : (x : tree.Expr) (at : Place) (name : Identifier) → IsUnique T x → IsStep T (tree.Member x member.Arrow at name)
  arrow-step x at name u y z a b d h k own =
      let p = h.5.pointer.plain in
      let q = k.5.pointer.plain in
      let one = plain-one T D x u h.0 k.0 a h.4.0 a k.4.0 h.4.1 k.4.1 refl own (plain-over (bare h.0) (bare-plain h.0 p)) (plain-over (bare k.0) (bare-plain k.0 q)) in
      let scopes = sym h.4.2 ∙ ap (λ (c : Point). c.scopes) one.1 ∙ k.4.2 in
      let value = plain-same h.0 k.0 p q one.0 in
      let whole = pointee-same T (type_of h.0) (type_of k.0) h.5.whole k.5.whole (ap type_of value) h.5.pointer.type k.5.pointer.type in
      let same = member_same b.scopes d.scopes h.5.whole k.5.whole name h.1 k.1 h.3 k.3 scopes whole h.5.member k.5.member in
      let index = same.0 in
      let type = same.1 in
      let node = node-same h.2 k.2 h.4.0.node k.4.0.node (ap (λ (c : Point). c.node) one.1) h.4.3 k.4.3 in (
        places-by (typed.MemberAt h.0 at name h.1 h.2 h.3) (typed.MemberAt k.0 at name k.1 k.2 k.3) y z h.6 k.6 (λ i. typed.MemberAt (value i) at name (index i) (node i) (type i)),
        scopes,
        subst HasOwnFunctions h.4.2 one.2,
      )
