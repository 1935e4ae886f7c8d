-- The types that operators on two operands and members use, behind those of their operands.
use Rattle.std.proofs.Common.{◌≡◌, ℕ, Bool, true, false, not, ◌&&◌, ◌||◌, List, [], ◌∷◌, ◌++◌, Option, Some, None, refl, ap, sym, ◌∙◌, if◌then◌else◌}
use Rattle.cc_base.specs.declared.place.Place.{Place}
use Rattle.cc_base.specs.declared.number.NodeId.{NodeId}
use Rattle.cc_base.specs.declared.number.TypeId.{TypeId}
use Rattle.cc_base.specs.declared.fault.Fault.TheVariants.{Refused, TooLarge}
use Rattle.cc_base.specs.declared.fault.Limit.TheVariants.{Types}
use Rattle.cc_base.specs.declared.fault.Rule.TheVariants as rule
use Rattle.c_types.specs.declared.shape.TypeShape.{TypeShape}
use Rattle.c_types.specs.Layouts.{member_at}
use Rattle.c_types.specs.Table.{Table, shape_at}
use Rattle.c_tree.specs.declared.leaf.Identifier.{Identifier}
use Rattle.c_tree.specs.declared.operator.Binary.{Binary}
use Rattle.c_tree.specs.declared.operator.Binary.TheVariants as binary
use Rattle.c_tree.specs.TypedTree as typed
use Rattle.c_tree.specs.TypedTree.{TypedExpr}
use Rattle.c_tree.specs.TypedParts.{type_of, place_type}
use Rattle.integers.specs.Arithmetic.{IntegerType}
use Rattle.c_typing.specs.Integers.{is_logical, is_order, left_type, right_type}
use Rattle.c_typing.specs.Judging.{State, Gives, ◌>>=◌, pure, by_known, new_node, integer_type}
use Rattle.c_typing.specs.Operands.{Operand, Value}
use Rattle.c_typing.specs.Operations.{element, index, arithmetic, equated, compared, pointers, by_kinds, operation, infix_of, numbered, named_member, Found, found, member_of, member, member_at_pointer, pointed_member, int_type}
use Rattle.c_typing.specs.Rules.{Meeting, RightIsNull, LeftIsNull, BothPoint, NeverMeet, meeting}
use Rattle.c_typing.specs.Shapes.{integer_at, pointee_at, is_pointer_shape}
use Rattle.c_typing.specs.Tests
use Rattle.c_typing.specs.Tests.{Elaborated, AsPlace, AsValue, AsAllocation, has_some, is_index_pair, points_to_incomplete}
use Rattle.c_typing_laws.proofs.ConstructLaws.{two_unbroken, not_false}
use Rattle.c_typing_laws.proofs.ExtensionLaws.{no_true}
use Rattle.c_typing_laws.proofs.JudgedOperators.{pair_some}
use Rattle.c_typing_laws.proofs.Outcomes.{bind-gives, gives-state, never-gives, construct-gives}
use Rattle.c_type_order.specs.TypesUsed.{Use, used_by, used_by_place}
use Rattle.c_type_order.specs.Uses.{IsUsed, used_by_part}
use Rattle.c_type_order.proofs.Uses.{used-still, node-table}
use Rattle.c_type_order.proofs.UsedConstructs.{PartUsed, ValueUsed, part-same, part_as, to_integer-used, number-table}

-- Operators on two operands

abbrev pub BothUsed : TypedExpr → TypedExpr → Table → List Use
BothUsed x y U = used_by U x ++ used_by U y

element-used : (U : Table) (x : TypedExpr) (at : Place) (y : TypedExpr) (t u : Option TypeId) → (has_some t || has_some u) ≡ true → used_by_part U (element x at y t u) ≡ BothUsed x y U
element-used U x at y (Some t) u h = refl
element-used U x at y None (Some u) h = refl
element-used U x at y None None h = no_true h

pub index-used : (x : Value) (at : Place) (y : Value) (o : Operand) (S : Table) (s r : State) → IsUsed (BothUsed x.expr y.expr) S s.table → index x at y s ≡ Gives o r
    → PartUsed o.part S r.table
unfolding index
index-used x at y o S s r n h =
    let T : Table = s.table in
    let c = construct-gives (λ (q : State). Tests.index_tests q.table q.seen.scopes at (AsValue x.expr) (AsValue y.expr)) x.place (x.held ∷ y.held ∷ [])
    (by_known (λ q. pure (element x.expr at y.expr (pointee_at q.table (type_of x.expr)) (pointee_at q.table (type_of y.expr))))) s o r h in
    let z : TypeShape = shape_at T (type_of x.expr) in
    let w : TypeShape = shape_at T (type_of y.expr) in
    let two = two_unbroken (is_index_pair z w && (points_to_incomplete T s.seen.scopes z || points_to_incomplete T s.seen.scopes w)) (not (is_index_pair z w))
    (Refused at rule.Incomplete) (Refused at rule.Mismatch) c.unbroken in
    let some = pair_some z w (not_false (is_index_pair z w) two.1) in
    part_as S (BothUsed x.expr y.expr) (element x.expr at y.expr (pointee_at T (type_of x.expr)) (pointee_at T (type_of y.expr))) o.part s r c.part
    (λ U. element-used U x.expr at y.expr (pointee_at T (type_of x.expr)) (pointee_at T (type_of y.expr)) some) n

module _ (U T : Table) (x : TypedExpr) (at : Place) (y : TypedExpr) where
  arithmetic-used : (operator : Binary) (j k : IntegerType) → used_by U (arithmetic operator x at y j k) ≡ BothUsed x y U
  arithmetic-used operator j k =
      let one = to_integer-used U at (integer_type (left_type operator j k)) x in
      let two = to_integer-used U at (integer_type (right_type operator j k)) y in
      λ i. one i ++ two i

  equated-used : (z : Meeting) (operator : Binary) → used_by U (equated z operator x at y) ≡ BothUsed x y U
  equated-used (RightIsNull t) operator = refl
  equated-used (LeftIsNull t) operator = refl
  equated-used (BothPoint t) operator = refl
  equated-used NeverMeet operator = refl

  compared-used : (operator : Binary) → used_by U (compared T operator x at y) ≡ BothUsed x y U
  compared-used operator = by (is_order operator)
    where
      by : (b : Bool) → used_by U (if b then typed.Compared operator x at y int_type else equated (meeting T x y) operator x at y) ≡ BothUsed x y U
      by true = refl
      by false = equated-used (meeting T x y) operator

  pointers-used : (operator : Binary) (b c : Bool) → used_by U (pointers T operator x at y b c) ≡ BothUsed x y U
  pointers-used binary.Add true c = refl
  pointers-used binary.Add false c = refl
  pointers-used binary.Subtract b true = refl
  pointers-used binary.Subtract b false = refl
  pointers-used operator b c = compared-used operator

  kinds-used : (operator : Binary) (j k : Option IntegerType) (b c : Bool) → used_by U (by_kinds T operator x at y j k b c) ≡ BothUsed x y U
  kinds-used operator (Some j) (Some k) b c = arithmetic-used operator j k
  kinds-used operator (Some j) None b c = pointers-used operator b c
  kinds-used operator None k b c = pointers-used operator b c

  operation-used : (operator : Binary) → used_by U (operation T operator x at y) ≡ BothUsed x y U
  operation-used operator = by (is_logical operator)
    where
      by : (b : Bool) → used_by U (if b then typed.Logical operator x at y int_type
          else by_kinds T operator x at y (integer_at T (type_of x)) (integer_at T (type_of y)) (is_pointer_shape (shape_at T (type_of x))) (is_pointer_shape (shape_at T (type_of y)))) ≡ BothUsed x y U
      by true = refl
      by false = kinds-used operator (integer_at T (type_of x)) (integer_at T (type_of y)) (is_pointer_shape (shape_at T (type_of x))) (is_pointer_shape (shape_at T (type_of y)))

pub infix-used : (operator : Binary) (x : Value) (at : Place) (y : Value) (o : Operand) (S : Table) (s r : State) → IsUsed (BothUsed x.expr y.expr) S s.table
    → infix_of operator x at y s ≡ Gives o r → PartUsed o.part S r.table
unfolding infix_of
infix-used operator x at y o S s r n h =
    let c = construct-gives (λ (q : State). Tests.infix_tests q.table q.seen.scopes operator at x.place (AsValue x.expr) (AsValue y.expr)) x.place (x.held ∷ y.held ∷ [])
    (by_known (λ q. pure (AsValue (operation q.table operator x.expr at y.expr)))) s o r h in
    part_as S (BothUsed x.expr y.expr) (AsValue (operation s.table operator x.expr at y.expr)) o.part s r c.part (λ U. operation-used U s.table x.expr at y.expr operator) n

-- Members

found-table : (begin : Place) (x : TypeShape) (name : Identifier) (f : Found) (s r : State) → found begin x name s ≡ Gives f r → r.table ≡ s.table
unfolding found
found-table begin x name f s r h =
    let one = bind-gives (numbered begin (named_member s.seen.scopes x name.bytes) s) (λ i. new_node begin >>= (λ n. pure (one_found i n))) f r h in
    let two = bind-gives (new_node begin one.1) (λ n. pure (one_found one.0 n)) f r one.3 in
    ap (λ (q : State). q.table) (sym (gives-state (one_found one.0 two.0) f two.1 r two.3))
    ∙ node-table begin two.0 one.1 two.1 two.2
    ∙ number-table begin (named_member s.seen.scopes x name.bytes) one.0 s one.1 one.2
  where
    one_found : ℕ → NodeId → Found
    one_found i n = record { member = i; node = n }

pub member-used : (x : Operand) (at : Place) (name : Identifier) (o : Operand) (S : Table) (s r : State) → PartUsed x.part S s.table → member x at name s ≡ Gives o r
    → PartUsed o.part S r.table
unfolding member member_of
member-used x at name o S s r n h =
    let c = construct-gives (λ (q : State). Tests.member_tests q.seen.scopes (Tests.shape_of q.table x.part) at name.bytes name.place) x.place (x.held ∷ []) (member_of x.place at name x.part) s o r h in
    by_part x.part n c.part
  where
    by_part : (y : Elaborated) → PartUsed y S s.table → member_of x.place at name y s ≡ Gives o.part r → PartUsed o.part S r.table
    by_part (AsPlace p) m g =
        let one = bind-gives (found x.place (shape_at s.table (place_type p)) name s)
        (λ (i : Found). by_known (λ q. pure (AsPlace (typed.Member p at name i.member i.node (member_at q.table (place_type p) i.member))))) o.part r g in
        part-same S (AsPlace (typed.Member p at name one.0.member one.0.node (member_at one.1.table (place_type p) one.0.member))) o.part one.1 r one.3
        (used-still (λ U. used_by_place U p) S s.table one.1.table (found-table x.place (shape_at s.table (place_type p)) name one.0 s one.1 one.2) m)
    by_part (AsValue e) m g = never-gives o.part (TooLarge x.place Types) s r g
    by_part (AsAllocation e) m g = never-gives o.part (TooLarge x.place Types) s r g

pub pointed-used : (v : Value) (at : Place) (name : Identifier) (o : Operand) (S : Table) (s r : State) → ValueUsed v.expr S s.table → pointed_member v at name s ≡ Gives o r
    → PartUsed o.part S r.table
unfolding pointed_member member_at_pointer
pointed-used v at name o S s r n h =
    let c = construct-gives (λ (q : State). Tests.member_tests q.seen.scopes (Tests.pointed_shape q.table (shape_at q.table (type_of v.expr))) at name.bytes name.place) v.place (v.held ∷ [])
    (by_known (λ q. member_at_pointer v.place at name v.expr (pointee_at q.table (type_of v.expr)))) s o r h in
    by_type (pointee_at s.table (type_of v.expr)) c.part
  where
    by_type : (t : Option TypeId) → member_at_pointer v.place at name v.expr t s ≡ Gives o.part r → PartUsed o.part S r.table
    by_type (Some t) g =
        let one = bind-gives (found v.place (shape_at s.table t) name s)
        (λ (i : Found). by_known (λ q. pure (AsPlace (typed.MemberAt v.expr at name i.member i.node (member_at q.table t i.member))))) o.part r g in
        part-same S (AsPlace (typed.MemberAt v.expr at name one.0.member one.0.node (member_at one.1.table t one.0.member))) o.part one.1 r one.3
        (used-still (λ U. used_by U v.expr) S s.table one.1.table (found-table v.place (shape_at s.table t) name one.0 s one.1 one.2) n)
    by_type None g = never-gives o.part (TooLarge v.place Types) s r g
