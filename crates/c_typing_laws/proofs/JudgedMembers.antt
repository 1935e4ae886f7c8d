-- What judging gives for `sizeof` and for members, from what it gave for their operands.
use Rattle.std.proofs.Common.{◌≡◌, ℕ, ◌+◌, Bool, true, false, not, ◌||◌, nat_lt, List, [], ◌∷◌, Option, Some, None, refl, ap, sym, subst, ◌∙◌, inr, if◌then◌else◌}
use Rattle.std.proofs.lemmas.Option.{none-some}
use Rattle.cc_base.specs.declared.place.Place.{Place}
use Rattle.cc_base.specs.declared.number.NodeId.{NodeId}
use Rattle.cc_base.specs.declared.number.TypeId.{TypeId}
use Rattle.cc_base.specs.declared.fault.Fault.TheVariants.{Refused, TooLarge}
use Rattle.cc_base.specs.declared.fault.Limit.TheVariants.{Types}
use Rattle.cc_base.specs.declared.fault.Rule.TheVariants as rule
use Rattle.c_types.specs.declared.shape.TypeShape.{TypeShape}
use Rattle.c_types.specs.declared.shape.TypeShape.TheVariants.{Void, Integer, Pointer, Array, Function, Struct, Union}
use Rattle.c_types.specs.Table.{Table, HasShape, shape_at, members_at, is_complete_entry, is_empty}
use Rattle.c_types.specs.Layouts.{size_of, member_at}
use Rattle.c_tree.specs.declared.leaf.Identifier.{Identifier}
use Rattle.c_tree.specs.declared.operator.MemberOperator.TheVariants as member
use Rattle.c_tree.specs.declared.operator.Unary.TheVariants as unary
use Rattle.c_tree.specs.Erasure.{erased_type_name}
use Rattle.c_tree.specs.Places.{expr_place}
use Rattle.c_tree.specs.Tree as tree
use Rattle.c_tree.specs.TypedTree as typed
use Rattle.c_tree.specs.TypedTree.{TypedExpr, TypedTypeName}
use Rattle.c_tree.specs.TypedParts.{type_of, place_type, named_type}
use Rattle.integers.specs.Arithmetic.{unsigned_long}
use Rattle.c_typing.specs.Assignments.{size_of_type}
use Rattle.c_typing.specs.Conversions.{is_plain, is_taken_over}
use Rattle.c_typing.specs.Judging.{State, Gives, ◌>>=◌, pure, stop, by_known, new_node, new_pointer, void_type}
use Rattle.c_typing.specs.Operands.{Operand, Value, made_raw, raw_value, value_of}
use Rattle.c_typing.specs.Operations
use Rattle.c_typing.specs.Operations.{size_type, size_of_part, size, numbered, named_member, Found, found, member_of, member_at_pointer, pointed_member}
use Rattle.c_typing.specs.Refusals.{is_natural, IsElaborated, type_size_tests}
use Rattle.c_typing.specs.Rules.{is_designator, is_made_of_place, runtime_named, number_of_shape, HasMember, IsSize}
use Rattle.c_typing.specs.Scopes.{Scopes, is_complete_shape_at, is_complete_at, members_named, place_among}
use Rattle.c_typing.specs.Settled.{IsValueOf, IsKnown, GoesOn, IsJudged}
use Rattle.c_typing.specs.Shapes.{pointee_at, pointee_of_shape, is_void_shape}
use Rattle.c_typing.specs.Tests.{Elaborated, AsPlace, AsValue, AsAllocation, first_broken, size_tests, is_complete_part, has_some, member_tests, shape_of, pointed_shape}
use Rattle.c_typing.specs.Typing.{IsTyped, IsTypeName}
use Rattle.c_typing_laws.proofs.ExtensionLaws.{no_true, and_left, and_right}
use Rattle.c_typing_laws.proofs.ConstructLaws.{one_unbroken, not_false, pointer_value}
use Rattle.c_typing_laws.proofs.ConversionLaws.{size_typed}
use Rattle.c_typing_laws.proofs.Outcomes.{construct-gives, gives-value, gives-state, never-gives, bind-gives, new_node-gives}
use Rattle.c_typing_laws.proofs.KnownStates.{stays, new_pointer-gives}
use Rattle.c_typing_laws.proofs.ValuesTaken.{not_true, natural-no_place, natural-plain, runtime-void, value_of-gives}
use Rattle.c_typing_laws.proofs.JudgedOperators.{made-here, made-later}

-- `sizeof` of a value

-- what is complete is not `void`
complete_no_void : (s : Scopes) (x : TypeShape) (ms : List TypeId) → is_complete_shape_at s (is_complete_entry x ms) x ≡ true → is_void_shape x ≡ false
complete_no_void s Void ms h = no_true h
complete_no_void s (Integer bytes signed) ms h = refl
complete_no_void s (Pointer n t) ms h = refl
complete_no_void s (Array t n) ms h = refl
complete_no_void s (Function ps r) ms h = refl
complete_no_void s (Struct n) ms h = refl
complete_no_void s (Union n) ms h = refl

whole_plain : (T : Table) (s0 s : Scopes) (e : TypedExpr) → IsTyped T e s0 s → is_natural e ≡ true → is_complete_at T s (type_of e) ≡ true → is_plain e ≡ true
whole_plain T s0 s e h n c = by (is_plain e) refl (natural-plain e n)
  where
    by : (b : Bool) → is_plain e ≡ b → (b || has_some (runtime_named e)) ≡ true → is_plain e ≡ true
    by true p q = p
    by false p q = no_true (sym (complete_no_void s (shape_at T (type_of e)) (members_at T (type_of e)) c) ∙ runtime-void T e s0 s h q)

raw_type : (n : NodeId) (t : TypeId) (e : TypedExpr) → is_taken_over e ≡ true → type_of (made_raw n t e) ≡ t
raw_type n t (typed.Paren at e) h = raw_type n t e h
raw_type n t (typed.AllocateFor runtime f at arguments u) h = refl
raw_type n t e h = no_true h

pub raw_plain : (n : NodeId) (t : TypeId) (e : TypedExpr) → is_taken_over e ≡ true → is_plain (made_raw n t e) ≡ true
raw_plain n t (typed.Paren at e) h = raw_plain n t e h
raw_plain n t (typed.AllocateFor runtime f at arguments u) h = refl
raw_plain n t e h = no_true h

raw_alone : (n : NodeId) (t : TypeId) (e : TypedExpr) → is_taken_over e ≡ true → (is_made_of_place (made_raw n t e) ≡ false) × (is_designator (made_raw n t e) ≡ false)
raw_alone n t (typed.Paren at e) h = (refl, (raw_alone n t e h).1)
raw_alone n t (typed.AllocateFor runtime f at arguments u) h = (refl, refl)
raw_alone n t e h = no_true h

pub raw_made : (at : Place) (w v : TypedExpr) (s r : State) → IsKnown s → raw_value at w s ≡ Gives v r
    → (n : NodeId) × (t : TypeId) × (v ≡ made_raw n t w) × HasShape r.table t (Pointer n void_type)
unfolding raw_value
raw_made at w v s r k q =
    let one = bind-gives (new_pointer at void_type s) (λ made. pure (made_raw made.node made.type w)) v r q in
    let there = new_pointer-gives at void_type one.0 s one.1 k one.2 in (
      one.0.node,
      one.0.type,
      sym (gives-value (made_raw one.0.node one.0.type w) v one.1 r one.3),
      subst (λ (m : State). HasShape m.table one.0.type (Pointer one.0.node void_type)) (gives-state (made_raw one.0.node one.0.type w) v one.1 r one.3) there.0,
    )

pointer_complete : (T : Table) (s : Scopes) (t : TypeId) (n : NodeId) (u : TypeId) → shape_at T t ≡ Pointer n u → is_complete_at T s t ≡ true
pointer_complete T s t n u h = subst (λ (x : TypeShape). is_complete_shape_at s (is_complete_entry x (members_at T t)) x ≡ true) (sym h) refl

size_rule : (s : State) (t : TypeId) → IsKnown s → is_complete_at s.table s.seen.scopes t ≡ true → IsSize s.table s.seen.scopes t (size_of s.table t) size_type
size_rule s t k h = record { complete = h; known = k.followed t h; given = refl; type = k.basic.integers unsigned_long (inr (inr (inr refl))) }

pub size-judged : (e : tree.Expr) (at : Place) (x o : Operand) (s0 : Scopes) (s r : State) → IsKnown s → IsElaborated s.table e x.part s0 s.seen.scopes
    → Operations.size at x s ≡ Gives o r → IsJudged (tree.Prefix unary.SizeOf at e) o s0 s r
unfolding size size_of_part value_of
size-judged e at x o s0 s r k el h =
    let c = construct-gives (λ (q : State). size_tests q.table q.seen.scopes at x.part) at (x.held ∷ []) (size_of_part at x.place x.part) s o r h in
    by x.part el c.unbroken c.part c.place
  where
    tested : (y : Elaborated) → first_broken (size_tests s.table s.seen.scopes at y) ≡ None → is_complete_part s.table s.seen.scopes y ≡ true
    tested y u = not_false (is_complete_part s.table s.seen.scopes y) (one_unbroken (not (is_complete_part s.table s.seen.scopes y)) (Refused at rule.Incomplete) u)

    by : (y : Elaborated) → IsElaborated s.table e y s0 s.seen.scopes → first_broken (size_tests s.table s.seen.scopes at y) ≡ None → size_of_part at x.place y s ≡ Gives o.part r
        → o.place ≡ at → IsJudged (tree.Prefix unary.SizeOf at e) o s0 s r
    by (AsPlace p) l u q place =
        made-here (tree.Prefix unary.SizeOf at e) (AsValue (typed.SizeOfPlace at p (size_of s.table (place_type p)) size_type)) o s0 s r k q place
        (size_typed s.table s0 s.seen.scopes at p k.basic k.followed l.0 u, ap (tree.Prefix unary.SizeOf at) l.1, refl)
    by (AsValue v) l u q place =
        let both = tested (AsValue v) u in
        let whole = and_left (is_complete_at s.table s.seen.scopes (type_of v)) (not (is_designator v)) both in
        made-here (tree.Prefix unary.SizeOf at e) (AsValue (typed.SizeOfValue at v (size_of s.table (type_of v)) size_type)) o s0 s r k q place (
          (
            l.0,
            record {
              plain = whole_plain s.table s0 s.seen.scopes v l.0 l.2 whole;
              value = natural-no_place v l.2;
              no_function = not_true (is_designator v) (and_right (is_complete_at s.table s.seen.scopes (type_of v)) (not (is_designator v)) both);
            },
            size_rule s (type_of v) k whole,
          ),
          ap (tree.Prefix unary.SizeOf at) l.1,
          refl,
        )
    by (AsAllocation v) l u q place =
        let one = bind-gives (value_of x.place (AsAllocation v) s)
        (λ w. by_known (λ t. pure (AsValue (typed.SizeOfValue at w (size_of t.table (type_of w)) size_type)))) o.part r q in
        let taken = value_of-gives e x.place (AsAllocation v) one.0 s0 s one.1 k l one.2 in
        let made = raw_made x.place v one.0 s one.1 k one.2 in
        let n : NodeId = made.0 in
        let t : TypeId = made.1 in
        let same : one.0 ≡ made_raw n t v = made.2 in
        let shape : shape_at one.1.table (type_of one.0) ≡ Pointer n void_type = ap (λ (w : TypedExpr). shape_at one.1.table (type_of w)) same
        ∙ ap (shape_at one.1.table) (raw_type n t v l.2) ∙ made.3.1 in
        let alone = raw_alone n t v l.2 in
        made-later (tree.Prefix unary.SizeOf at e) (AsValue (typed.SizeOfValue at one.0 (size_of one.1.table (type_of one.0)) size_type)) o s0 s one.1 r taken.1.goes one.3 place (
          (
            taken.0.typed,
            record {
              plain = ap is_plain same ∙ raw_plain n t v l.2;
              value = ap is_made_of_place same ∙ alone.0;
              no_function = ap is_designator same ∙ alone.1;
            },
            size_rule one.1 (type_of one.0) taken.1.goes.known (pointer_complete one.1.table one.1.seen.scopes (type_of one.0) n void_type shape),
          ),
          ap (tree.Prefix unary.SizeOf at) taken.0.erases,
          refl,
        )

-- `sizeof` of a type

pub size_of_type-judged : (name : tree.TypeName) (at paren : Place) (t : TypedTypeName) (o : Operand) (s0 : Scopes) (s r : State) → IsKnown s
    → IsTypeName s.table t s0 s.seen.scopes → erased_type_name t ≡ name → size_of_type at paren t s ≡ Gives o r → IsJudged (tree.SizeOfType at paren name) o s0 s r
unfolding size_of_type
size_of_type-judged name at paren t o s0 s r k el same h =
    let c = construct-gives (λ (q : State). type_size_tests q.table q.seen.scopes at (named_type t)) at []
    (by_known (λ q. pure (AsValue (typed.SizeOfType at paren t (size_of q.table (named_type t)) size_type)))) s o r h in
    let whole = not_false (is_complete_at s.table s.seen.scopes (named_type t))
    (one_unbroken (not (is_complete_at s.table s.seen.scopes (named_type t))) (Refused at rule.Incomplete) c.unbroken) in
    made-here (tree.SizeOfType at paren name) (AsValue (typed.SizeOfType at paren t (size_of s.table (named_type t)) size_type)) o s0 s r k c.part c.place
    ((el, size_rule s (named_type t) k whole), ap (tree.SizeOfType at paren) same, refl)

-- Members

pub numbered-gives : (at : Place) (o : Option ℕ) (i : ℕ) (s r : State) → numbered at o s ≡ Gives i r → (o ≡ Some i) × (r ≡ s)
unfolding numbered
numbered-gives at None i s r h = never-gives i (TooLarge at Types) s r h
numbered-gives at (Some j) i s r h = by (nat_lt j 4294967296) h
  where
    by : (b : Bool) → (if b then pure j else stop (TooLarge at Types)) s ≡ Gives i r → (Some j ≡ Some i) × (r ≡ s)
    by true q = (ap Some (gives-value j i s r q), sym (gives-state j i s r q))
    by false q = never-gives i (TooLarge at Types) s r q

abbrev found_with : ℕ → NodeId → Found
found_with i n = record { member = i; node = n }

abbrev after_node : State → State
after_node s = record s { seen = record s.seen { node = s.seen.node + 1 } }

pub found-gives : (begin : Place) (x : TypeShape) (name : Identifier) (f : Found) (s r : State) → found begin x name s ≡ Gives f r
    → (named_member s.seen.scopes x name.bytes ≡ Some f.member) × (r ≡ after_node s)
unfolding found
found-gives begin x name f s r h =
    let one = bind-gives (numbered begin (named_member s.seen.scopes x name.bytes) s) (λ i. new_node begin >>= (λ n. pure (found_with i n))) f r h in
    let first = numbered-gives begin (named_member s.seen.scopes x name.bytes) one.0 s one.1 one.2 in
    let two = bind-gives (new_node begin one.1) (λ n. pure (found_with one.0 n)) f r one.3 in
    let node = new_node-gives begin two.0 one.1 two.1 two.2 in
    let made = gives-value (found_with one.0 two.0) f two.1 r two.3 in (
      first.0 ∙ ap (λ (g : Found). Some g.member) made,
      sym (gives-state (found_with one.0 two.0) f two.1 r two.3) ∙ node.1 ∙ ap after_node first.1,
    )

named-by : (s : Scopes) (x : TypeShape) (name : List ℕ) (i : ℕ) → named_member s x name ≡ Some i
    → (number : ℕ) × (number_of_shape x ≡ Some number) × (place_among (members_named s number) name ≡ Some i)
named-by s (Struct n) name i h = (n, refl, h)
named-by s (Union n) name i h = (n, refl, h)
named-by s Void name i h = absurd (none-some i h)
named-by s (Integer bytes signed) name i h = absurd (none-some i h)
named-by s (Pointer n t) name i h = absurd (none-some i h)
named-by s (Array t n) name i h = absurd (none-some i h)
named-by s (Function ps r) name i h = absurd (none-some i h)

some_named : (names : List (List ℕ)) (name : List ℕ) (i : ℕ) → place_among names name ≡ Some i → is_empty names ≡ false
some_named [] name i h = absurd (none-some i h)
some_named (n ∷ names) name i h = refl

named_whole : (s : Scopes) (x : TypeShape) (number : ℕ) (ms : List TypeId) → number_of_shape x ≡ Some number → is_empty (members_named s number) ≡ false
    → is_complete_shape_at s (is_complete_entry x ms) x ≡ true
named_whole s (Struct n) number ms h e = subst (λ (m : ℕ). not (is_empty (members_named s m)) ≡ true) (sym (some_number n number h)) (ap not e)
  where
    some_number : (a b : ℕ) → Some a ≡ Some b → a ≡ b
    some_number a b p = cc
named_whole s (Union n) number ms h e = subst (λ (m : ℕ). not (is_empty (members_named s m)) ≡ true) (sym (some_number n number h)) (ap not e)
  where
    some_number : (a b : ℕ) → Some a ≡ Some b → a ≡ b
    some_number a b p = cc
named_whole s Void number ms h e = absurd (none-some number h)
named_whole s (Integer bytes signed) number ms h e = absurd (none-some number h)
named_whole s (Pointer n t) number ms h e = absurd (none-some number h)
named_whole s (Array t n) number ms h e = absurd (none-some number h)
named_whole s (Function ps r) number ms h e = absurd (none-some number h)

member_rule : (s : State) (whole : TypeId) (name : Identifier) (i : ℕ) → IsKnown s → named_member s.seen.scopes (shape_at s.table whole) name.bytes ≡ Some i
    → HasMember s.table s.seen.scopes whole name i (member_at s.table whole i)
member_rule s whole name i k h =
    let known = named-by s.seen.scopes (shape_at s.table whole) name.bytes i h in
    record {
      number = known.0;
      declared = known.1;
      known = k.followed whole (named_whole s.seen.scopes (shape_at s.table whole) known.0 (members_at s.table whole) known.1
          (some_named (members_named s.seen.scopes known.0) name.bytes i known.2));
      named = known.2;
      type = refl;
    }

after-known : (s : State) → IsKnown s → IsKnown (after_node s)
after-known s k = record { basic = k.basic; followed = k.followed; levels = k.levels; numbered = k.numbered }

node-goes : (s m : State) → IsKnown s → m ≡ after_node s → GoesOn s m
node-goes s m k same = subst (GoesOn s) (sym same) (record { extends = (stays s k).goes.extends; known = after-known s k })

pub member-judged : (e : tree.Expr) (at : Place) (name : Identifier) (x o : Operand) (s0 : Scopes) (s r : State) → IsKnown s → IsElaborated s.table e x.part s0 s.seen.scopes
    → x.place ≡ expr_place e → Operations.member x at name s ≡ Gives o r → IsJudged (tree.Member e member.Dot at name) o s0 s r
unfolding Operations.member member_of
member-judged e at name x o s0 s r k el here h =
    let c = construct-gives (λ (q : State). member_tests q.seen.scopes (shape_of q.table x.part) at name.bytes name.place) x.place (x.held ∷ []) (member_of x.place at name x.part) s o r h in
    by x.part el c.part (c.place ∙ here)
  where
    by : (y : Elaborated) → IsElaborated s.table e y s0 s.seen.scopes → member_of x.place at name y s ≡ Gives o.part r → o.place ≡ expr_place e
        → IsJudged (tree.Member e member.Dot at name) o s0 s r
    by (AsPlace p) l q place =
        let one = bind-gives (found x.place (shape_at s.table (place_type p)) name s)
        (λ (f : Found). by_known (λ t. pure (AsPlace (typed.Member p at name f.member f.node (member_at t.table (place_type p) f.member))))) o.part r q in
        let f : Found = one.0 in
        let known = found-gives x.place (shape_at s.table (place_type p)) name f s one.1 one.2 in
        made-later (tree.Member e member.Dot at name) (AsPlace (typed.Member p at name f.member f.node (member_at one.1.table (place_type p) f.member))) o s0 s one.1 r
        (node-goes s one.1 k known.1) one.3 place
        (subst (λ (t : State). IsElaborated t.table (tree.Member e member.Dot at name) (AsPlace (typed.Member p at name f.member f.node (member_at t.table (place_type p) f.member))) s0 t.seen.scopes)
        (sym known.1)
        ((l.0, member_rule s (place_type p) name f.member k known.0), ap (λ (t : tree.Expr). tree.Member t member.Dot at name) l.1))
    by (AsValue v) l q place = never-gives o.part (TooLarge x.place Types) s r q
    by (AsAllocation v) l q place = never-gives o.part (TooLarge x.place Types) s r q

pointee_shape : (x : TypeShape) (t : TypeId) → pointee_of_shape x ≡ Some t → (n : NodeId) × (x ≡ Pointer n t)
pointee_shape (Pointer n u) t h = (n, ap (Pointer n) (some_type u t h))
  where
    some_type : (a b : TypeId) → Some a ≡ Some b → a ≡ b
    some_type a b p = cc
pointee_shape Void t h = absurd (none-some t h)
pointee_shape (Integer bytes signed) t h = absurd (none-some t h)
pointee_shape (Array u n) t h = absurd (none-some t h)
pointee_shape (Function ps r) t h = absurd (none-some t h)
pointee_shape (Struct n) t h = absurd (none-some t h)
pointee_shape (Union n) t h = absurd (none-some t h)

pub pointed_member-judged : (e : tree.Expr) (v : Value) (at : Place) (name : Identifier) (o : Operand) (s0 : Scopes) (s r : State) → IsKnown s
    → IsValueOf s.table e v.expr s0 s.seen.scopes → v.place ≡ expr_place e → pointed_member v at name s ≡ Gives o r → IsJudged (tree.Member e member.Arrow at name) o s0 s r
unfolding pointed_member member_at_pointer
pointed_member-judged e v at name o s0 s r k val here h =
    let c = construct-gives (λ (q : State). member_tests q.seen.scopes (pointed_shape q.table (shape_at q.table (type_of v.expr))) at name.bytes name.place) v.place (v.held ∷ [])
    (by_known (λ q. member_at_pointer v.place at name v.expr (pointee_at q.table (type_of v.expr)))) s o r h in
    by (pointee_at s.table (type_of v.expr)) refl c.part (c.place ∙ here)
  where
    by : (t : Option TypeId) → pointee_at s.table (type_of v.expr) ≡ t → member_at_pointer v.place at name v.expr t s ≡ Gives o.part r → o.place ≡ expr_place e
        → IsJudged (tree.Member e member.Arrow at name) o s0 s r
    by None to q place = never-gives o.part (TooLarge v.place Types) s r q
    by (Some t) to q place =
        let shape = pointee_shape (shape_at s.table (type_of v.expr)) t to in
        let one = bind-gives (found v.place (shape_at s.table t) name s)
        (λ (f : Found). by_known (λ m. pure (AsPlace (typed.MemberAt v.expr at name f.member f.node (member_at m.table t f.member))))) o.part r q in
        let f : Found = one.0 in
        let known = found-gives v.place (shape_at s.table t) name f s one.1 one.2 in
        made-later (tree.Member e member.Arrow at name) (AsPlace (typed.MemberAt v.expr at name f.member f.node (member_at one.1.table t f.member))) o s0 s one.1 r
        (node-goes s one.1 k known.1) one.3 place
        (subst (λ (m : State). IsElaborated m.table (tree.Member e member.Arrow at name) (AsPlace (typed.MemberAt v.expr at name f.member f.node (member_at m.table t f.member))) s0 m.seen.scopes)
        (sym known.1) (
          (
            val.typed,
            record {
              whole = t;
              pointer = pointer_value s.table v.expr shape.0 t shape.1 val.settled;
              member = member_rule s t name f.member k known.0;
            },
          ),
          ap (λ (w : tree.Expr). tree.Member w member.Arrow at name) val.erases,
        ))
