-- How each expression is read as a typed tree: what stands in the tree where an expression of each form erases to it.
use Rattle.std.proofs.Common.{◌≡◌, ℕ, ℤ, true, false, List, [], ◌∷◌, ◌++◌, refl, sym, subst, ◌∙◌}
use Rattle.cc_base.specs.declared.place.Place.{Place}
use Rattle.cc_base.specs.declared.number.NodeId.{NodeId}
use Rattle.cc_base.specs.declared.number.TypeId.{TypeId}
use Rattle.c_types.specs.Table.{Table, IsAggregate}
use Rattle.integers.specs.Arithmetic.{int}
use Rattle.c_tree.specs.declared.leaf.Identifier.{Identifier}
use Rattle.c_tree.specs.declared.operator.Assignment.{Assignment}
use Rattle.c_tree.specs.declared.operator.Assignment.TheVariants as assignment
use Rattle.c_tree.specs.declared.operator.Binary.{Binary}
use Rattle.c_tree.specs.declared.operator.Binary.TheVariants as binary
use Rattle.c_tree.specs.declared.operator.MemberOperator.TheVariants as member
use Rattle.c_tree.specs.declared.operator.Step.{Step}
use Rattle.c_tree.specs.declared.operator.Step.TheVariants as step
use Rattle.c_tree.specs.declared.operator.Unary.{Unary}
use Rattle.c_tree.specs.declared.operator.Unary.TheVariants as unary
use Rattle.c_tree.specs.declared.typed_word.Conversion.{Conversion}
use Rattle.c_tree.specs.declared.typed_word.Runtime.{Runtime}
use Rattle.c_tree.specs.declared.typed_word.Side.{Side}
use Rattle.c_tree.specs.Erasure.{erased, erased_place, erased_arguments, erased_type_name}
use Rattle.c_tree.specs.Tree as tree
use Rattle.c_tree.specs.TypedTree as typed
use Rattle.c_tree.specs.TypedTree.{TypedExpr, TypedPlace, TypedArguments, TypedTypeName}
use Rattle.c_tree.specs.TypedParts.{Made, Address, Copy, type_of, place_type, named_type, made_by, made_by_place, made_by_arguments, made_by_type_name}
use Rattle.c_typing.specs.Conversions.{bare, IsPlain}
use Rattle.c_typing.specs.Integers.{constant_type}
use Rattle.c_typing.specs.Rules.{IsVariable, IsEnumerator, IsFunctionName, IsRuntimeName, IsStringType, IsElement, HasMember, IsMemberAt, AreOneStruct, IsAddress, IsElementAddress, IsFunctionAt, IsTarget, IsPrefix, IsSize, IsValueAlone, IsAssignment, IsStructAssignment, IsUpdate, IsCast, IsDroppable, IsCondition, is_designator, is_made_of_place}
use Rattle.c_typing.specs.Scopes.{Scopes}
use Rattle.c_typing.specs.Shapes.{IsIntegerType}
use Rattle.c_typing.specs.Typing.{IsTyped, IsPlace, AreTyped, IsTypeName}
use Rattle.c_typing_unique.proofs.CallLaws.{IsCalled, function, runtime, allocation, taken}
use Rattle.c_typing_unique.proofs.Numbering.{Point, Numbers, two-parts}
use Rattle.c_typing_unique.proofs.OperatorLaws.{IsInfix, Sort, ByArithmetic, ByMove, ByDifference, ByComparison, ByLogic, sort_of, shape_of, bare-plain, arithmetic-sort, logic-sort, move-sort, difference-sort, comparison-sort, moved-plain}
use Rattle.c_typing_unique.proofs.Reading.{IsReadAs, IsRead, IsReadPlace, Part, OfValue, OfPlace, IsPartRead, plain-bare}
use Rattle.c_typing_unique.proofs.Shapes.{no_true, is-integer}
use Rattle.c_typing_unique.proofs.ValueLaws.{IsValueChoice, plainly, by-pointers}

abbrev pub AreRead : Table → tree.Arguments → TypedArguments → Point → Point → Type 0
AreRead T = IsReadAs erased_arguments made_by_arguments (AreTyped T)

abbrev pub IsTypeNameRead : Table → tree.TypeName → TypedTypeName → Point → Point → Type 0
IsTypeNameRead T = IsReadAs erased_type_name made_by_type_name (IsTypeName T)

-- one part after another
abbrev pub Both : (Point → Point → Type 0) → (Point → Point → Type 0) → Point → Point → Type 0
Both P Q a b = (m : Point) × P a m × Q m b

-- one part, and then a node is made
abbrev pub WithNode : (Point → Point → Type 0) → NodeId → Point → Point → Type 0
WithNode P n a b = (m : Point) × P a m × (m.scopes ≡ b.scopes) × (n.0 ≡ m.node)

pub data IsNamed (T : Table) (name : Identifier) (a b : Point) : Part → Type 0 where
  variable : (home : NodeId) (t : TypeId) → IsVariable a.scopes name home t → IsNamed T name a b (OfPlace (typed.Variable name home t))
  enumerator : (value : ℤ) (t : TypeId) → IsEnumerator T a.scopes name value t → IsNamed T name a b (OfValue (typed.Enumerator name value t))
  defined : (number : ℕ) (n : NodeId) (t : TypeId) → IsFunctionName T a.scopes name number n t → n.0 ≡ a.node → IsNamed T name a b (OfValue (typed.FunctionName name number n t))
  library : (f : Runtime) (t : TypeId) → IsRuntimeName T a.scopes name f t → IsNamed T name a b (OfValue (typed.RuntimeName name f t))

abbrev pub in_parens : Place → Part → Part
in_parens at (OfValue e) = OfValue (typed.Paren at e)
in_parens at (OfPlace p) = OfPlace (typed.ParenPlace at p)

-- `&`: of a place, of what a pointer points to, of a function
pub data IsAddressed (T : Table) (x : tree.Expr) (at : Place) (a b : Point) : Part → Type 0 where
  of-place : (p : TypedPlace) (n : NodeId) (t : TypeId) → WithNode (IsReadPlace T x p) n a b → IsAddress T p n t → IsAddressed T x at a b (OfValue (typed.AddressOf at p n t))
  of-element : (p : TypedPlace) (t : TypeId) → IsReadPlace T x p a b → IsElementAddress p t → IsAddressed T x at a b (OfValue (typed.AddressOfElement at p t))
  of-function : (e : TypedExpr) → IsRead T x e a b → is_designator e ≡ true → IsAddressed T x at a b (OfValue (typed.AddressOfFunction at e))

pub data IsPointed (T : Table) (x : tree.Expr) (at : Place) (a b : Point) : Part → Type 0 where
  to-function : (e : TypedExpr) → IsRead T x e a b → IsFunctionAt T e → IsPointed T x at a b (OfValue (typed.FunctionAt at e))
  to-object : (e : TypedExpr) (t : TypeId) → IsRead T x e a b → IsTarget T b.scopes e t → IsPointed T x at a b (OfPlace (typed.Target at e t))

pub data IsSized (T : Table) (x : tree.Expr) (at : Place) (a b : Point) : Part → Type 0 where
  of-object : (p : TypedPlace) (size : ℕ) (t : TypeId) → IsReadPlace T x p a b → IsSize T b.scopes (place_type p) size t → IsSized T x at a b (OfValue (typed.SizeOfPlace at p size t))
  of-value : (e : TypedExpr) (size : ℕ) (t : TypeId) → IsRead T x e a b → IsValueAlone e → IsSize T b.scopes (type_of e) size t → IsSized T x at a b (OfValue (typed.SizeOfValue at e size t))

abbrev pub IsPrefixed : Table → Unary → Place → tree.Expr → Part → Point → Point → Type 0
IsPrefixed T unary.AddressOf at x y a b = IsAddressed T x at a b y
IsPrefixed T unary.Dereference at x y a b = IsPointed T x at a b y
IsPrefixed T unary.SizeOf at x y a b = IsSized T x at a b y
IsPrefixed T unary.Increment at x y a b = (p : TypedPlace) × IsReadPlace T x p a b × (y ≡ OfValue (typed.StepBefore step.Increment at p))
IsPrefixed T unary.Decrement at x y a b = (p : TypedPlace) × IsReadPlace T x p a b × (y ≡ OfValue (typed.StepBefore step.Decrement at p))
IsPrefixed T operator at x y a b = (e : TypedExpr) × (t : TypeId) × IsRead T x e a b × IsPrefix operator T at e t × (y ≡ OfValue (typed.Prefix operator at e t))

pub data IsChosen (T : Table) (x : tree.Expr) (at : Place) (x' x'' : tree.Expr) (a b : Point) : Part → Type 0 where
  between-values : (c e f v : TypedExpr) (m : Point) → Both (IsRead T x c) (Both (IsRead T x' e) (IsRead T x'' f)) a m → m.scopes ≡ b.scopes
      → IsValueChoice T c at e f m.node b.node v → IsChosen T x at x' x'' a b (OfValue v)
  between-structs : (c : TypedExpr) (p q : TypedPlace) → Both (IsRead T x c) (Both (IsReadPlace T x' p) (IsReadPlace T x'' q)) a b
      → IsCondition T c → AreOneStruct T p q → IsChosen T x at x' x'' a b (OfPlace (typed.StructConditional c at p q))

pub data IsAssigning (T : Table) (operator : Assignment) (x : tree.Expr) (at : Place) (x' : tree.Expr) (a b : Point) : Part → Type 0 where
  of-scalar : (p : TypedPlace) (e : TypedExpr) → operator ≡ assignment.Assign → Both (IsReadPlace T x p) (IsRead T x' e) a b → IsAssignment T b.scopes p at e
      → IsAssigning T operator x at x' a b (OfValue (typed.Assign p at e))
  of-struct : (p q : TypedPlace) → operator ≡ assignment.Assign → Both (IsReadPlace T x p) (IsReadPlace T x' q) a b → IsStructAssignment T p q
      → IsAssigning T operator x at x' a b (OfPlace (typed.StructAssign p at q))
  updating : (p : TypedPlace) (e : TypedExpr) (t : TypeId) → Both (IsReadPlace T x p) (IsRead T x' e) a b → IsUpdate T b.scopes operator p at e t
      → IsAssigning T operator x at x' a b (OfValue (typed.AssignWith operator p at e t))

pub data IsSequence (T : Table) (x x' : tree.Expr) (a b : Point) : Part → Type 0 where
  with-value : (e f : TypedExpr) → Both (IsRead T x e) (IsRead T x' f) a b → IsDroppable e → IsPlain f → IsSequence T x x' a b (OfValue (typed.Comma e f))
  with-struct : (e : TypedExpr) (p : TypedPlace) → Both (IsRead T x e) (IsReadPlace T x' p) a b → IsDroppable e → IsAggregate T (place_type p)
      → IsSequence T x x' a b (OfPlace (typed.StructComma e p))

-- how an expression is read
abbrev pub IsOf : Table → tree.Expr → Part → Point → Point → Type 0
IsOf T (tree.Name name) y a b = IsNamed T name a b y × (b.scopes ≡ a.scopes)
IsOf T (tree.Integer of value at) y a b = (t : TypeId) × IsIntegerType T (constant_type of) t × (y ≡ OfValue (typed.Integer of value at t)) × (b.scopes ≡ a.scopes)
IsOf T (tree.Character value at) y a b = (t : TypeId) × IsIntegerType T int t × (y ≡ OfValue (typed.Character value at t)) × (b.scopes ≡ a.scopes)
IsOf T (tree.String pieces) y a b =
    (home : NodeId) × (t : TypeId) × IsStringType T pieces t × (home.0 ≡ a.node) × (y ≡ OfPlace (typed.String pieces home t)) × (b.scopes ≡ a.scopes)
IsOf T (tree.Paren at x) y a b = (z : Part) × IsPartRead T x z a b × (y ≡ in_parens at z)
IsOf T (tree.Index x at x') y a b =
    (which : Side) × (e f : TypedExpr) × (t : TypeId) × Both (IsRead T x e) (IsRead T x' f) a b × IsElement T b.scopes which e f t × (y ≡ OfPlace (typed.Element which e at f t))
IsOf T (tree.Call x at xs) y a b =
    (f : TypedExpr) × (list : TypedArguments) × (v : TypedExpr) × (m : Point) × Both (IsRead T x f) (AreRead T xs list) a m × (m.scopes ≡ b.scopes)
    × IsCalled T f at list m.node v × (y ≡ OfValue v)
IsOf T (tree.Member x member.Dot at name) y a b =
    (p : TypedPlace) × (i : ℕ) × (n : NodeId) × (t : TypeId) × WithNode (IsReadPlace T x p) n a b × HasMember T b.scopes (place_type p) name i t
    × (y ≡ OfPlace (typed.Member p at name i n t))
IsOf T (tree.Member x member.Arrow at name) y a b =
    (e : TypedExpr) × (i : ℕ) × (n : NodeId) × (t : TypeId) × WithNode (IsRead T x e) n a b × IsMemberAt T b.scopes e name i t × (y ≡ OfPlace (typed.MemberAt e at name i n t))
IsOf T (tree.Postfix x operator at) y a b = (p : TypedPlace) × IsReadPlace T x p a b × (y ≡ OfValue (typed.StepAfter p operator at))
IsOf T (tree.Prefix operator at x) y a b = IsPrefixed T operator at x y a b
IsOf T (tree.SizeOfType at paren name) y a b =
    (n : TypedTypeName) × (size : ℕ) × (t : TypeId) × IsTypeNameRead T name n a b × IsSize T b.scopes (named_type n) size t × (y ≡ OfValue (typed.SizeOfType at paren n size t))
IsOf T (tree.Cast at name x) y a b =
    (which : Conversion) × (to : TypedTypeName) × (e : TypedExpr) × Both (IsTypeNameRead T name to) (IsRead T x e) a b × IsCast T b.scopes which (named_type to) e
    × (y ≡ OfValue (typed.Cast which at to e))
IsOf T (tree.Infix operator x at x') y a b =
    (e f : TypedExpr) × Both (IsRead T x e) (IsRead T x' f) a b × IsPlain (bare e) × IsPlain (bare f)
    × IsInfix T b.scopes operator e at f y (sort_of operator (shape_of T (bare e)) (shape_of T (bare f)))
IsOf T (tree.Conditional x at x' x'') y a b = IsChosen T x at x' x'' a b y
IsOf T (tree.Assign operator x at x') y a b = IsAssigning T operator x at x' a b y
IsOf T (tree.Comma x x') y a b = IsSequence T x x' a b y
IsOf T (tree.Compound at name brace) y a b = ⊥
IsOf T (tree.SizeOfCompound at paren name brace) y a b = ⊥

module _ {A B X Y : Type 0} (erase : A → X) (made : A → List Made) (typed : A → Scopes → Scopes → Type 0)
    (erase' : B → Y) (made' : B → List Made) (typed' : B → Scopes → Scopes → Type 0) where
  -- two parts, one after the other
  pub both : (x : A) (y : B) (m : Scopes) (a b : Point) → typed x a.scopes m → typed' y m b.scopes → Numbers (made x ++ made' y) a.node b.node
      → Both (IsReadAs erase made typed (erase x) x) (IsReadAs erase' made' typed' (erase' y) y) a b
  both x y m a b h k n =
      let cut = two-parts (made x) (made' y) a.node b.node n in
      (record { scopes = m; node = cut.0 }, (refl, h, cut.1), (refl, k, cut.2))

module _ {A X : Type 0} (erase : A → X) (made : A → List Made) (typed : A → Scopes → Scopes → Type 0) where
  pub with-node : (x : A) (n : NodeId) (a b : Point) → typed x a.scopes b.scopes → Numbers (made x ++ Address n ∷ []) a.node b.node
      → WithNode (IsReadAs erase made typed (erase x) x) n a b
  with-node x n a b h k =
      let cut = two-parts (made x) (Address n ∷ []) a.node b.node k in
      (record { scopes = b.scopes; node = cut.0 }, (refl, h, cut.1), refl, cut.2.0)

module _ (T : Table) where
  abbrev two_values : (e f : TypedExpr) (m : Scopes) (a b : Point) → IsTyped T e a.scopes m → IsTyped T f m b.scopes → Numbers (made_by e ++ made_by f) a.node b.node
      → Both (IsRead T (erased e) e) (IsRead T (erased f) f) a b
  two_values = both erased made_by (IsTyped T) erased made_by (IsTyped T)

  abbrev place_value : (p : TypedPlace) (e : TypedExpr) (m : Scopes) (a b : Point) → IsPlace T p a.scopes m → IsTyped T e m b.scopes → Numbers (made_by_place p ++ made_by e) a.node b.node
      → Both (IsReadPlace T (erased_place p) p) (IsRead T (erased e) e) a b
  place_value = both erased_place made_by_place (IsPlace T) erased made_by (IsTyped T)

  three_values : (c e f : TypedExpr) (m n : Scopes) (a b : Point) → IsTyped T c a.scopes m → IsTyped T e m n → IsTyped T f n b.scopes → Numbers (made_by c ++ made_by e ++ made_by f) a.node b.node
      → Both (IsRead T (erased c) c) (Both (IsRead T (erased e) e) (IsRead T (erased f) f)) a b
  three_values c e f m n a b h k j r =
      let cut = two-parts (made_by c ++ made_by e) (made_by f) a.node b.node r in
      let middle : Point = record { scopes = n; node = cut.0 } in
      let first = two_values c e m a middle h k cut.1 in
      (first.0, first.1, (middle, first.2, (refl, j, cut.2)))

  -- which sort of operation it is, where the operands are plain as they stand
  plain_sort : (operator : Binary) (s : Scopes) (e f : TypedExpr) (at : Place) (y : Part) (sort : Sort) → IsPlain e → IsPlain f → sort_of operator (shape_of T e) (shape_of T f) ≡ sort
      → IsInfix T s operator e at f y sort → IsInfix T s operator e at f y (sort_of operator (shape_of T (bare e)) (shape_of T (bare f)))
  plain_sort operator s e f at y sort h k q j =
      subst (IsInfix T s operator e at f y) (sym ((λ i. sort_of operator (shape_of T (plain-bare e h i)) (shape_of T (plain-bare f k i))) ∙ q)) j

  bare_sort : (operator : Binary) (s : Scopes) (e f : TypedExpr) (at : Place) (y : Part) (sort : Sort) → sort_of operator (shape_of T (bare e)) (shape_of T (bare f)) ≡ sort
      → IsInfix T s operator e at f y sort → IsInfix T s operator e at f y (sort_of operator (shape_of T (bare e)) (shape_of T (bare f)))
  bare_sort operator s e f at y sort q j = subst (IsInfix T s operator e at f y) (sym q) j

  prefixed : (operator : Unary) (at : Place) (e : TypedExpr) (t : TypeId) (a b : Point) → IsRead T (erased e) e a b → IsPrefix operator T at e t
      → IsPrefixed T operator at (erased e) (OfValue (typed.Prefix operator at e t)) a b
  prefixed unary.Not at e t a b h k = (e, t, h, k, refl)
  prefixed unary.Plus at e t a b h k = (e, t, h, k, refl)
  prefixed unary.Minus at e t a b h k = (e, t, h, k, refl)
  prefixed unary.Complement at e t a b h k = (e, t, h, k, refl)
  prefixed unary.AddressOf at e t a b h k = absurd k
  prefixed unary.Dereference at e t a b h k = absurd k
  prefixed unary.SizeOf at e t a b h k = absurd k
  prefixed unary.Increment at e t a b h k = absurd k
  prefixed unary.Decrement at e t a b h k = absurd k

  step_before : (operator : Step) (at : Place) (p : TypedPlace) (a b : Point) → IsReadPlace T (erased_place p) p a b
      → IsOf T (erased (typed.StepBefore operator at p)) (OfValue (typed.StepBefore operator at p)) a b
  step_before step.Increment at p a b h = (p, h, refl)
  step_before step.Decrement at p a b h = (p, h, refl)

  value_of : (e : TypedExpr) (a b : Point) → is_made_of_place e ≡ false → IsTyped T e a.scopes b.scopes → Numbers (made_by e) a.node b.node → IsOf T (erased e) (OfValue e) a b
  value_of (typed.Integer of value at t) a b v h k = (t, h.1, refl, h.0)
  value_of (typed.Character value at t) a b v h k = (t, h.1, refl, h.0)
  value_of (typed.Enumerator name value t) a b v h k = (enumerator value t h.1, h.0)
  value_of (typed.FunctionName name number n t) a b v h k = (defined number n t h.1 k.0, h.0)
  value_of (typed.RuntimeName name f t) a b v h k = (library f t h.1, h.0)
  value_of (typed.Paren at e) a b v h k = (OfValue e, (h.1, (refl, h.0, k)), refl)
  value_of (typed.Read p) a b v h k = no_true (sym v)
  value_of (typed.Unread p) a b v h k = no_true (sym v)
  value_of (typed.Decay p n t) a b v h k = no_true (sym v)
  value_of (typed.Convert which at t e) a b v h k = no_true (sym v)
  value_of (typed.Cast which at to e) a b v h k =
      (which, to, e, both erased_type_name made_by_type_name (IsTypeName T) erased made_by (IsTyped T) to e h.0 a b h.1 h.2 k, h.3, refl)
  value_of (typed.AddressOf at p n t) a b v h k = of-place p n t (with-node erased_place made_by_place (IsPlace T) p n a b h.0 k) h.1
  value_of (typed.AddressOfElement at p t) a b v h k = of-element p t (refl, h.0, k) h.1
  value_of (typed.AddressOfFunction at e) a b v h k = of-function e (refl, h.0, k) h.1
  value_of (typed.FunctionAt at e) a b v h k = to-function e (refl, h.0, k) h.1
  value_of (typed.Prefix operator at e t) a b v h k = prefixed operator at e t a b (refl, h.0, k) h.1
  value_of (typed.SizeOfPlace at p size t) a b v h k = of-object p size t (refl, h.0, k) h.1
  value_of (typed.SizeOfValue at e size t) a b v h k = of-value e size t (refl, h.0, k) h.1 h.2
  value_of (typed.SizeOfType at paren name size t) a b v h k = (name, size, t, (refl, h.0, k), h.1, refl)
  value_of (typed.StepBefore operator at p) a b v h k = step_before operator at p a b (refl, h.0, k)
  value_of (typed.StepAfter p operator at) a b v h k = (p, (refl, h.0, k), refl)
  value_of (typed.Arithmetic operator e at f t) a b v h k =
      let r = h.3 in (
        e,
        f,
        two_values e f h.0 a b h.1 h.2 k,
        r.first_converted.plain,
        r.second_converted.plain,
        bare_sort operator b.scopes e f at (OfValue (typed.Arithmetic operator e at f t)) ByArithmetic
            (arithmetic-sort operator (shape_of T (bare e)) (shape_of T (bare f)) r.allowed (is-integer T (type_of (bare e)) r.left r.first) (is-integer T (type_of (bare f)) r.right r.second))
            (t, r, refl),
      )
  value_of (typed.Moved operator which e at f t) a b v h k =
      let r = h.3 in
      let plain = moved-plain T b.scopes operator which e f t r in (
        e,
        f,
        two_values e f h.0 a b h.1 h.2 k,
        bare-plain e plain.0,
        bare-plain f plain.1,
        plain_sort operator b.scopes e f at (OfValue (typed.Moved operator which e at f t)) ByMove plain.0 plain.1 (move-sort T b.scopes operator which e f t r) (which, t, r, refl),
      )
  value_of (typed.Difference e at f t) a b v h k =
      let r = h.3 in (
        e,
        f,
        two_values e f h.0 a b h.1 h.2 k,
        bare-plain e r.first.plain,
        bare-plain f r.second.plain,
        plain_sort binary.Subtract b.scopes e f at (OfValue (typed.Difference e at f t)) ByDifference r.first.plain r.second.plain (difference-sort T b.scopes e f t r) (t, r, refl),
      )
  value_of (typed.Compared operator e at f t) a b v h k =
      let r = h.3 in (
        e,
        f,
        two_values e f h.0 a b h.1 h.2 k,
        r.plain.0,
        r.plain.1,
        bare_sort operator b.scopes e f at (OfValue (typed.Compared operator e at f t)) ByComparison (comparison-sort T operator e f at t r) (t, r, refl),
      )
  value_of (typed.Logical operator e at f t) a b v h k =
      let r = h.3 in (
        e,
        f,
        two_values e f h.0 a b h.1 h.2 k,
        bare-plain e r.first.plain,
        bare-plain f r.second.plain,
        bare_sort operator b.scopes e f at (OfValue (typed.Logical operator e at f t)) ByLogic (logic-sort operator (shape_of T (bare e)) (shape_of T (bare f)) r.allowed) (t, r, refl),
      )
  value_of (typed.Conditional c at e f t) a b v h k =
      between-values c e f (typed.Conditional c at e f t) b (three_values c e f h.0 h.1 a b h.2 h.3 h.4 k) refl (plainly t h.5 refl)
  value_of (typed.PointerConditional c at e f n t) a b v h k =
      let cut = two-parts (made_by c ++ made_by e ++ made_by f) (Address n ∷ []) a.node b.node k in
      let m : Point = record { scopes = b.scopes; node = cut.0 } in
      between-values c e f (typed.PointerConditional c at e f n t) m (three_values c e f h.0 h.1 a m h.2 h.3 h.4 cut.1) refl (by-pointers n t h.5 cut.2.0)
  value_of (typed.Comma e f) a b v h k = with-value e f (two_values e f h.0 a b h.1 h.2 k) h.3 h.4
  value_of (typed.Assign p at e) a b v h k = of-scalar p e refl (place_value p e h.0 a b h.1 h.2 k) h.3
  value_of (typed.AssignWith operator p at e t) a b v h k = updating p e t (place_value p e h.0 a b h.1 h.2 k) h.3
  value_of (typed.Call f at list t) a b v h k =
      (f, list, typed.Call f at list t, b, both erased made_by (IsTyped T) erased_arguments made_by_arguments (AreTyped T) f list h.0 a b h.1 h.2 k, refl, function t h.3, refl)
  value_of (typed.CallRuntime g f at list t) a b v h k =
      (f, list, typed.CallRuntime g f at list t, b, both erased made_by (IsTyped T) erased_arguments made_by_arguments (AreTyped T) f list h.0 a b h.1 h.2 k, refl, runtime g t h.3, refl)
  value_of (typed.Allocate g f at list n t) a b v h k =
      let cut = two-parts (made_by f ++ made_by_arguments list) (Address n ∷ []) a.node b.node k in
      let m : Point = record { scopes = b.scopes; node = cut.0 } in
      (f, list, typed.Allocate g f at list n t, m, both erased made_by (IsTyped T) erased_arguments made_by_arguments (AreTyped T) f list h.0 a m h.1 h.2 cut.1, refl, allocation g n t h.3 cut.2.0, refl)
  value_of (typed.AllocateFor g f at list t) a b v h k =
      (f, list, typed.AllocateFor g f at list t, b, both erased made_by (IsTyped T) erased_arguments made_by_arguments (AreTyped T) f list h.0 a b h.1 h.2 k, refl, taken g t h.3, refl)

  -- the copy makes no node
  copied_places : (p q : TypedPlace) (m : Scopes) (a b : Point) → IsPlace T p a.scopes m → IsPlace T q m b.scopes → Numbers (made_by_place p ++ made_by_place q ++ Copy (place_type p) ∷ []) a.node b.node
      → Both (IsReadPlace T (erased_place p) p) (IsReadPlace T (erased_place q) q) a b
  copied_places p q m a b h k n =
      let cut = two-parts (made_by_place p ++ made_by_place q) (Copy (place_type p) ∷ []) a.node b.node n in
      both erased_place made_by_place (IsPlace T) erased_place made_by_place (IsPlace T) p q m a b h k (subst (Numbers (made_by_place p ++ made_by_place q) a.node) (sym cut.2) cut.1)

  place_of : (p : TypedPlace) (a b : Point) → IsPlace T p a.scopes b.scopes → Numbers (made_by_place p) a.node b.node → IsOf T (erased_place p) (OfPlace p) a b
  place_of (typed.Variable name home t) a b h k = (variable home t h.1, h.0)
  place_of (typed.String pieces home t) a b h k = (home, t, h.1, k.0, refl, h.0)
  place_of (typed.ParenPlace at p) a b h k = (OfPlace p, (refl, h, k), refl)
  place_of (typed.Target at e t) a b h k = to-object e t (refl, h.0, k) h.1
  place_of (typed.Element which e at f t) a b h k = (which, e, f, t, two_values e f h.0 a b h.1 h.2 k, h.3, refl)
  place_of (typed.Member p at name i n t) a b h k = (p, i, n, t, with-node erased_place made_by_place (IsPlace T) p n a b h.0 k, h.1, refl)
  place_of (typed.MemberAt e at name i n t) a b h k = (e, i, n, t, with-node erased made_by (IsTyped T) e n a b h.0 k, h.1, refl)
  place_of (typed.StructAssign p at q) a b h k = of-struct p q refl (copied_places p q h.0 a b h.1 h.2 k) h.3
  place_of (typed.StructConditional c at p q) a b h k =
      let cut = two-parts (made_by c ++ made_by_place p) (made_by_place q) a.node b.node k in
      let n : Point = record { scopes = h.1; node = cut.0 } in
      let first = both erased made_by (IsTyped T) erased_place made_by_place (IsPlace T) c p h.0 a n h.2 h.3 cut.1 in
      between-structs c p q (first.0, first.1, (n, first.2, (refl, h.4, cut.2))) h.5 h.6
  place_of (typed.StructComma e p) a b h k = with-struct e p (both erased made_by (IsTyped T) erased_place made_by_place (IsPlace T) e p h.0 a b h.1 h.2 k) h.3 h.4

  -- a part is read in one of these ways
  pub is-of : (x : tree.Expr) (y : Part) (a b : Point) → IsPartRead T x y a b → IsOf T x y a b
  is-of x (OfValue e) a b h = subst (λ (w : tree.Expr). IsOf T w (OfValue e) a b) h.1.0 (value_of e a b h.0 h.1.1 h.1.2)
  is-of x (OfPlace p) a b h = subst (λ (w : tree.Expr). IsOf T w (OfPlace p) a b) h.0 (place_of p a b h.1 h.2)
