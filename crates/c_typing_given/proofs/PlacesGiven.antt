-- Operators on places are given: `++` and `--`, `&`, `sizeof`, and members.
use Rattle.std.proofs.Common.{◌≡◌, ◌≤◌, ◌<◌, ℕ, Bool, false, List, [], ◌∷◌, ◌++◌, length, Option, Some, None, refl, ap, sym, subst, ◌∙◌, arith}
use Rattle.std.specs.Prelude.{bytes_eq}
use Rattle.std.specs.List.{All, slice_get}
use Rattle.std.proofs.lemmas.List.Elements.{All-get_or}
use Rattle.std.proofs.lemmas.List.Quantifiers.{position-Some}
use Rattle.std.proofs.lemmas.Option.{none-some, slice_get_within, get_or_from_slice_get}
use Rattle.cc_base.specs.declared.place.Place.{Place}
use Rattle.cc_base.specs.declared.number.NodeId.{NodeId}
use Rattle.c_types.specs.declared.shape.TypeShape.{TypeShape}
use Rattle.c_types.specs.declared.shape.TypeShape.TheVariants.{Void, Integer, Pointer, Array, Function, Struct, Union}
use Rattle.c_types.specs.Layouts.{member_at}
use Rattle.c_types.specs.Table.{Table, shape_at}
use Rattle.c_tree.specs.declared.leaf.Identifier.{Identifier}
use Rattle.c_tree.specs.declared.operator.MemberOperator.TheVariants as member_operator
use Rattle.c_tree.specs.declared.operator.Step.{Step}
use Rattle.c_tree.specs.declared.operator.Step.TheVariants as step
use Rattle.c_tree.specs.declared.operator.Unary.{Unary}
use Rattle.c_tree.specs.declared.operator.Unary.TheVariants as unary
use Rattle.c_tree.specs.Tree as tree
use Rattle.c_tree.specs.TypedTree as typed
use Rattle.c_tree.specs.TypedTree.{TypedExpr, TypedPlace}
use Rattle.c_tree.specs.TypedParts.{Made, Address, made_by_place, place_type}
use Rattle.c_typing.specs.Held.{held, held_with}
use Rattle.c_typing.specs.Judging.{State, Outcome, Gives, ◌>>=◌, pure, by_known, new_node}
use Rattle.c_typing.specs.Operands.{Operand}
use Rattle.c_typing.specs.Operations.{prefix, step_part, step_before, step_after, member, member_of, Found, found, named_member, numbered}
use Rattle.c_typing.specs.Rules.{IsStep, HasMember, number_of_shape}
use Rattle.c_typing.specs.Scopes.{Name, Scopes, members_named, place_among}
use Rattle.c_typing.specs.Settled.{IsBasic}
use Rattle.c_typing.specs.Tests.{Elaborated, AsPlace, AsValue, first_broken, step_tests, member_tests, shape_of}
use Rattle.c_typing.specs.Walks.{judge}
use Rattle.c_typing_laws.specs.Numbers.{made_by_part}
use Rattle.c_typing_unique.specs.Points.{Point, IsReadPlace}
use Rattle.c_typing_unique.proofs.Reading.{OfValue}
use Rattle.c_typing_exact.specs.Numbered.{IsElaboratedAt}
use Rattle.c_typing_exact.specs.Passing.{Passes}
use Rattle.c_typing_exact.proofs.OperatorPasses.{step-passes, dot-passes}
use Rattle.c_rules_alike.specs.PartsThere.{IsPartThere}
use Rattle.c_rules_alike.proofs.OperatorRules.{step-over}
use Rattle.c_rules_alike.proofs.PartsAlike.{shape_of-over}
use Rattle.c_rules_alike.proofs.PartsThere.{elaborated-there}
use Rattle.c_type_order.specs.Uses.{used_by_part}
use Rattle.c_typing_given.specs.Given.{point_at, IsHere, IsOnWay, IsPartGiven, IsGiven}
use Rattle.c_unit_typing.specs.Holding.{expr_holds}
use Rattle.c_typing_given.specs.Spending.{HasRoom, HasSpent, IsSmall}
use Rattle.c_type_order.specs.TypesUsed.{AreUses}
use Rattle.c_typing_given.proofs.Constructing.{as-place, as-value, of-part, finish, uses-as, room-as, scopes-at, max-left, max-right, held-as}
use Rattle.c_typing_given.proofs.OperatorsGiven.{judges-prefix}
use Rattle.c_typing_given.proofs.Settling.{of_part, small-kept}
use Rattle.c_typing_given.proofs.Spent.{room-first, room-then, spent-both}
use Rattle.c_typing_given.proofs.Steps.{then-is, construct-is, new_node-is, with_node, operand_with}
use Rattle.c_typing_given.proofs.TypeGiven.{lt_true, none-same}
use Rattle.c_typing_given.proofs.ValuesGiven.{same-place}

judges_postfix : (called : Bool) (x : tree.Expr) (operator : Step) (at : Place) (p : Operand) (s k : State) (o : Outcome Operand) → judge false x s ≡ Gives p k
    → step_after operator at p k ≡ o → judge called (tree.Postfix x operator at) s ≡ o
unfolding judge
judges_postfix called x operator at p s k o h l = then-is (judge false x) (step_after operator at) p s k o h l

judges_dot : (called : Bool) (x : tree.Expr) (at : Place) (name : Identifier) (p : Operand) (s k : State) (o : Outcome Operand) → judge false x s ≡ Gives p k
    → member p at name k ≡ o → judge called (tree.Member x member_operator.Dot at name) s ≡ o
unfolding judge
judges_dot called x at name p s k o h l = then-is (judge false x) (λ q. member q at name) p s k o h l

-- Members among those of a scope

pub named-member : (s : Scopes) (x : TypeShape) (name : List ℕ) (number i : ℕ) → number_of_shape x ≡ Some number → place_among (members_named s number) name ≡ Some i
    → named_member s x name ≡ Some i
named-member s (Struct n) name number i h k = subst (λ (m : ℕ). place_among (members_named s m) name ≡ Some i) (sym (some_number n number h)) k
  where
    some_number : (a b : ℕ) → Some a ≡ Some b → a ≡ b
    some_number a b p = cc
named-member s (Union n) name number i h k = subst (λ (m : ℕ). place_among (members_named s m) name ≡ Some i) (sym (some_number n number h)) k
  where
    some_number : (a b : ℕ) → Some a ≡ Some b → a ≡ b
    some_number a b p = cc
named-member s Void name number i h k = absurd (none-some number h)
named-member s (Integer bytes signed) name number i h k = absurd (none-some number h)
named-member s (Pointer n t) name number i h k = absurd (none-some number h)
named-member s (Array t n) name number i h k = absurd (none-some number h)
named-member s (Function ps r) name number i h k = absurd (none-some number h)

few_named : (s : Scopes) (number : ℕ) → All (λ (names : List Name). length names ≤ 4294967296) s.members → length (members_named s number) ≤ 4294967296
few_named s number h = by (slice_get s.members number) refl
  where
    by : (o : Option (List Name)) → slice_get s.members number ≡ o → length (members_named s number) ≤ 4294967296
    by None q = rw q (omega arith)
    by (Some names) q =
        rw q (subst (λ (all : List Name). length all ≤ 4294967296) (get_or_from_slice_get s.members number names names q)
        (All-get_or (λ (all : List Name). length all ≤ 4294967296) s.members number names (slice_get_within s.members number names q) h))

pub numbered-is : (at : Place) (i : ℕ) (s : State) → i < 4294967296 → numbered at (Some i) s ≡ Gives i s
unfolding numbered
numbered-is at i s h = rw (lt_true i 4294967296 h) refl

pub found-is : (begin : Place) (x : TypeShape) (name : Identifier) (number i : ℕ) (n : NodeId) (s : State) → IsSmall s → number_of_shape x ≡ Some number
    → place_among (members_named s.seen.scopes number) name.bytes ≡ Some i → n.0 ≡ s.seen.node → s.seen.node < 4294967295
    → found begin x name s ≡ Gives (record { member = i; node = n }) (with_node s)
unfolding found
found-is begin x name number i n s small h k node few =
    let inside = (position-Some (bytes_eq name.bytes) (members_named s.seen.scopes number) i [] k).0 in
    let most = few_named s.seen.scopes number small.short in
    then-is (by_known (λ q. numbered begin (named_member q.seen.scopes x name.bytes))) (λ j. new_node begin >>= (λ c. pure (record { member = j; node = c }))) i s s
    (Gives (record { member = i; node = n }) (with_node s))
    (ap (λ (o : Option ℕ). numbered begin o s) (named-member s.seen.scopes x name.bytes number i h k) ∙ numbered-is begin i s (omega (arith, inside, most)))
    (then-is (new_node begin) (λ c. pure (record { member = i; node = c })) n s (with_node s) (Gives (record { member = i; node = n }) (with_node s)) (new_node-is begin n s node few) refl)

module _ (T : Table) (basic : IsBasic T) where
  -- a node, after a part
  pub way-node : (made : List Made) (s k : State) (n : NodeId) (c : ℕ) → IsHere T k → IsOnWay T made s k c → IsOnWay T (made ++ Address n ∷ []) s (with_node k) c
  way-node made s k n c here way = record {
    first = way.first;
    small = small-kept k (with_node k) here.small refl refl (omega arith) (λ o. o) (none-same k.table);
    types = way.types;
    spent = spent-both T made (Address n ∷ []) s k (with_node k) way.spent (record { nodes = omega arith; globals = omega arith; cells = omega arith });
  }

  pub node-few : (made : List Made) (s k : State) (n : NodeId) → HasRoom T (made ++ Address n ∷ []) s → HasSpent T made s k → k.seen.node < 4294967295
  node-few made s k n room spent = let few = (room-then T made (Address n ∷ []) s k room spent).nodes in omega (arith, few)

  -- a place that is given is there
  pub place-there : (e : tree.Expr) (p : TypedPlace) (s : State) (b : Point) (c : ℕ) (g : IsPartGiven T false e (AsPlace p) s b c) → IsPartThere g.after.table (AsPlace p)
  place-there e p s b c g =
      subst (λ (x : Elaborated). IsPartThere g.after.table x) (same-place g.operand.part p g.same)
      (elaborated-there g.after.table g.reached.here.known.basic e g.operand.part s.seen.scopes g.after.seen.scopes g.typed)

  -- Steps

  step_is : (f : TypedPlace → TypedExpr) (at begin : Place) (o : Operand) (p : TypedPlace) (r : State) → o.part ≡ AsPlace p
      → step_part f at o.part r ≡ Gives (AsValue (f p)) r
  unfolding step_part
  step_is f at begin o p r h = ap (λ (x : Elaborated). step_part f at x r) h

  before_is : (operator : Step) (at : Place) (o : Operand) (p : TypedPlace) (r : State) → o.part ≡ AsPlace p → first_broken (step_tests r.table r.seen.scopes at o.part) ≡ None
      → held_with 0 (o.held ∷ []) ≤ 256 → step_before operator at o r ≡ Gives (operand_with at (AsValue (typed.StepBefore operator at p)) (held_with 0 (o.held ∷ []))) r
  unfolding step_before
  before_is operator at o p r h pass few =
      construct-is (λ s. step_tests s.table s.seen.scopes at o.part) at (o.held ∷ []) (step_part (λ q. typed.StepBefore operator at q) at o.part) r r
      (AsValue (typed.StepBefore operator at p)) pass few (step_is (λ q. typed.StepBefore operator at q) at at o p r h)

  after_is : (operator : Step) (at : Place) (o : Operand) (p : TypedPlace) (r : State) → o.part ≡ AsPlace p → first_broken (step_tests r.table r.seen.scopes at o.part) ≡ None
      → held_with 0 (o.held ∷ []) ≤ 256 → step_after operator at o r ≡ Gives (operand_with o.place (AsValue (typed.StepAfter p operator at)) (held_with 0 (o.held ∷ []))) r
  unfolding step_after
  after_is operator at o p r h pass few =
      construct-is (λ s. step_tests s.table s.seen.scopes at o.part) o.place (o.held ∷ []) (step_part (λ q. typed.StepAfter q operator at) at o.part) r r
      (AsValue (typed.StepAfter p operator at)) pass few (step_is (λ q. typed.StepAfter q operator at) at o.place o p r h)

  step_pass : (x : tree.Expr) (at : Place) (p : TypedPlace) (s : State) (b : Point) (c : ℕ) (g : IsPartGiven T false x (AsPlace p) s b c) → IsStep T b.scopes p
      → first_broken (step_tests g.after.table g.after.seen.scopes at g.operand.part) ≡ None
  step_pass x at p s b c g w =
      let r : State = g.after in
      ap (λ (y : Elaborated). first_broken (step_tests r.table r.seen.scopes at y)) (same-place g.operand.part p g.same)
      ∙ ap first_broken (step-over r.table T g.reached.way.first g.reached.here.known.basic r.seen.scopes at (AsPlace p) (place-there x p s b c g))
      ∙ subst (λ (sc : Scopes). Passes (step_tests T sc at (AsPlace p))) (sym (scopes-at T basic (made_by_place p) s r b c g.reached)) (step-passes T b.scopes at p w)

  pub postfix-given : (x : tree.Expr) (operator : Step) (at : Place) → IsGiven T x → IsGiven T (tree.Postfix x operator at)
  postfix-given x operator at gx called z s b count here h c uses room holds =
      let e : tree.Expr = tree.Postfix x operator at in
      let i = of-part T basic (tree.Postfix x operator at) z (point_at s) b h in
      let q = as-value T basic (tree.Postfix x operator at) z (typed.StepAfter i.0 operator at) (point_at s) b h i.2 refl in
      let read = subst (λ (w : Elaborated). IsElaboratedAt T (tree.Postfix x operator at) w (point_at s) b) q h in
      let g =
      gx false (AsPlace i.0) s b count here i.1 tt (uses-as T basic z (AsValue (typed.StepAfter i.0 operator at)) (length s.table) count q uses)
      (room-as T basic z (AsValue (typed.StepAfter i.0 operator at)) s q room) (max-right (held (tree.Postfix x operator at)) (expr_holds x) 256 holds) in
      let o : Operand = g.operand in
      let few = held-as (held_with 0 (o.held ∷ [])) (held (tree.Postfix x operator at)) 256 (λ j. held_with 0 (g.held j ∷ [])) (max-left (held (tree.Postfix x operator at)) (expr_holds x) 256 holds) in
      finish T basic called (tree.Postfix x operator at) z (AsValue (typed.StepAfter i.0 operator at))
      (operand_with o.place (AsValue (typed.StepAfter i.0 operator at)) (held_with 0 (o.held ∷ []))) s g.after b count here h q
      (judges_postfix called x operator at o s g.after (Gives (operand_with o.place (AsValue (typed.StepAfter i.0 operator at)) (held_with 0 (o.held ∷ []))) g.after) g.gives
      (after_is operator at o i.0 g.after (same-place o.part i.0 g.same) (step_pass x at i.0 s b count g read.0.1.1) few)) g.reached.way

  before_given : (u : Unary) (operator : Step) (at : Place) (x : tree.Expr) → IsGiven T x → ((p : Operand) (q : State) → prefix u at p q ≡ step_before operator at p q)
      → (called : Bool) (z : Elaborated) (s : State) (b : Point) (count : ℕ) → IsHere T s → IsElaboratedAt T (tree.Prefix u at x) z (point_at s) b
      → (p : TypedPlace) → IsReadPlace T x p (point_at s) b → of_part z ≡ OfValue (typed.StepBefore operator at p)
      → AreUses (used_by_part T z) (length s.table) count → HasRoom T (made_by_part z) s → expr_holds (tree.Prefix u at x) ≤ 256
      → IsPartGiven T called (tree.Prefix u at x) z s b count
  before_given u operator at x gx same called z s b count here h p read k uses room holds =
      let q = as-value T basic (tree.Prefix u at x) z (typed.StepBefore operator at p) (point_at s) b h k refl in
      let whole = subst (λ (w : Elaborated). IsElaboratedAt T (tree.Prefix u at x) w (point_at s) b) q h in
      let g =
      gx false (AsPlace p) s b count here read tt (uses-as T basic z (AsValue (typed.StepBefore operator at p)) (length s.table) count q uses)
      (room-as T basic z (AsValue (typed.StepBefore operator at p)) s q room) (max-right (held (tree.Prefix u at x)) (expr_holds x) 256 holds) in
      let o : Operand = g.operand in
      let few = held-as (held_with 0 (o.held ∷ [])) (held (tree.Prefix u at x)) 256 (λ j. held_with 0 (g.held j ∷ [])) (max-left (held (tree.Prefix u at x)) (expr_holds x) 256 holds) in
      finish T basic called (tree.Prefix u at x) z (AsValue (typed.StepBefore operator at p))
      (operand_with at (AsValue (typed.StepBefore operator at p)) (held_with 0 (o.held ∷ []))) s g.after b count here h q
      (judges-prefix called u at x o s g.after (Gives (operand_with at (AsValue (typed.StepBefore operator at p)) (held_with 0 (o.held ∷ []))) g.after) g.gives
      (same o g.after ∙ before_is operator at o p g.after (same-place o.part p g.same) (step_pass x at p s b count g whole.0.1.1) few)) g.reached.way

  increment_is : (at : Place) (p : Operand) (q : State) → prefix unary.Increment at p q ≡ step_before step.Increment at p q
  unfolding prefix
  increment_is at p q = refl

  decrement_is : (at : Place) (p : Operand) (q : State) → prefix unary.Decrement at p q ≡ step_before step.Decrement at p q
  unfolding prefix
  decrement_is at p q = refl

  pub increment-given : (at : Place) (x : tree.Expr) → IsGiven T x → IsGiven T (tree.Prefix unary.Increment at x)
  increment-given at x gx called z s b count here h c uses room holds =
      let i = of-part T basic (tree.Prefix unary.Increment at x) z (point_at s) b h in
      before_given unary.Increment step.Increment at x gx (increment_is at) called z s b count here h i.0 i.1 i.2 uses room holds

  pub decrement-given : (at : Place) (x : tree.Expr) → IsGiven T x → IsGiven T (tree.Prefix unary.Decrement at x)
  decrement-given at x gx called z s b count here h c uses room holds =
      let i = of-part T basic (tree.Prefix unary.Decrement at x) z (point_at s) b h in
      before_given unary.Decrement step.Decrement at x gx (decrement_is at) called z s b count here h i.0 i.1 i.2 uses room holds

  -- `.`

  member_of_is : (begin at : Place) (name : Identifier) (x : Elaborated) (p : TypedPlace) (i : ℕ) (n : NodeId) (r : State) → x ≡ AsPlace p
      → found begin (shape_at r.table (place_type p)) name r ≡ Gives (record { member = i; node = n }) (with_node r)
      → member_of begin at name x r ≡ Gives (AsPlace (typed.Member p at name i n (member_at r.table (place_type p) i))) (with_node r)
  unfolding member_of
  member_of_is begin at name x p i n r h k =
      ap (λ (y : Elaborated). member_of begin at name y r) h
      ∙ then-is (by_known (λ (s : State). found begin (shape_at s.table (place_type p)) name))
      (λ (f : Found). by_known (λ (s : State). pure (AsPlace (typed.Member p at name f.member f.node (member_at s.table (place_type p) f.member))))) (record { member = i; node = n }) r (with_node r)
      (Gives (AsPlace (typed.Member p at name i n (member_at r.table (place_type p) i))) (with_node r)) k refl

  member_is : (at : Place) (name : Identifier) (o : Operand) (p : TypedPlace) (i : ℕ) (n : NodeId) (r : State) → o.part ≡ AsPlace p
      → first_broken (member_tests r.seen.scopes (shape_of r.table o.part) at name.bytes name.place) ≡ None → held_with 0 (o.held ∷ []) ≤ 256
      → found o.place (shape_at r.table (place_type p)) name r ≡ Gives (record { member = i; node = n }) (with_node r)
      → member o at name r ≡ Gives (operand_with o.place (AsPlace (typed.Member p at name i n (member_at r.table (place_type p) i))) (held_with 0 (o.held ∷ []))) (with_node r)
  unfolding member
  member_is at name o p i n r h pass few k =
      construct-is (λ s. member_tests s.seen.scopes (shape_of s.table o.part) at name.bytes name.place) o.place (o.held ∷ []) (member_of o.place at name o.part) r (with_node r)
      (AsPlace (typed.Member p at name i n (member_at r.table (place_type p) i))) pass few (member_of_is o.place at name o.part p i n r h k)

  pub dot-given : (x : tree.Expr) (at : Place) (name : Identifier) → IsGiven T x → IsGiven T (tree.Member x member_operator.Dot at name)
  dot-given x at name gx called z s b count here h c uses room holds =
      let e : tree.Expr = tree.Member x member_operator.Dot at name in
      let i = of-part T basic (tree.Member x member_operator.Dot at name) z (point_at s) b h in
      let p : TypedPlace = i.0 in
      let n : NodeId = i.2 in
      let m : Point = i.4.0 in
      let q = as-place z (typed.Member i.0 at name i.1 i.2 i.3) i.6 in
      let whole = room-as T basic z (AsPlace (typed.Member i.0 at name i.1 i.2 i.3)) s q room in
      let g =
      gx false (AsPlace i.0) s m count here i.4.1 tt (uses-as T basic z (AsPlace (typed.Member i.0 at name i.1 i.2 i.3)) (length s.table) count q uses)
      (room-first T (made_by_place i.0) (Address i.2 ∷ []) s whole) (max-right (held (tree.Member x member_operator.Dot at name)) (expr_holds x) 256 holds) in
      let o : Operand = g.operand in
      let r : State = g.after in
      let part = same-place o.part i.0 g.same in
      let has : HasMember T r.seen.scopes (place_type i.0) name i.1 i.3 =
      subst (λ (sc : Scopes). HasMember T sc (place_type i.0) name i.1 i.3) (sym (scopes-at T basic (made_by_place i.0) s r m count g.reached ∙ i.4.2)) i.5 in
      let shape : shape_at r.table (place_type i.0) ≡ shape_at T (place_type i.0) =
      sym (g.reached.way.first.shapes (place_type i.0) (place-there x i.0 s m count g).type) in
      let pass =
      ap (λ (y : Elaborated). first_broken (member_tests r.seen.scopes (shape_of r.table y) at name.bytes name.place)) part
      ∙ ap (λ (y : TypeShape). first_broken (member_tests r.seen.scopes y at name.bytes name.place))
      (shape_of-over r.table T g.reached.way.first g.reached.here.known.basic (AsPlace i.0) (place-there x i.0 s m count g))
      ∙ dot-passes T r.seen.scopes at i.0 name i.1 i.3 has in
      let few = held-as (held_with 0 (o.held ∷ [])) (held (tree.Member x member_operator.Dot at name)) 256 (λ j. held_with 0 (g.held j ∷ []))
      (max-left (held (tree.Member x member_operator.Dot at name)) (expr_holds x) 256 holds) in
      let made = found-is o.place (shape_at r.table (place_type i.0)) name has.number i.1 i.2 r g.reached.here.small (ap number_of_shape shape ∙ has.declared) has.named
      (i.4.3 ∙ sym (ap (λ (a : Point). a.node) g.reached.point)) (node-few (made_by_place i.0) s r i.2 whole g.reached.way.spent) in
      finish T basic called (tree.Member x member_operator.Dot at name) z (AsPlace (typed.Member i.0 at name i.1 i.2 i.3))
      (operand_with o.place (AsPlace (typed.Member i.0 at name i.1 i.2 (member_at r.table (place_type i.0) i.1))) (held_with 0 (o.held ∷ []))) s (with_node r) b count here h q
      (judges_dot called x at name o s r
      (Gives (operand_with o.place (AsPlace (typed.Member i.0 at name i.1 i.2 (member_at r.table (place_type i.0) i.1))) (held_with 0 (o.held ∷ []))) (with_node r)) g.gives
      (member_is at name o i.0 i.1 i.2 r part pass few made)) (way-node (made_by_place i.0) s r i.2 count g.reached.here g.reached.way)
