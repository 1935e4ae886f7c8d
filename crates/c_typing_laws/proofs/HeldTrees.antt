-- How many values a judged expression holds at once.
use Rattle.std.proofs.Common.{◌≡◌, ℕ, ℤ, ◌+◌, Bool, true, false, List, [], ◌∷◌, map, length, max, ◌++◌, arith, refl, ap, sym, subst, ◌∙◌}
use Rattle.std.proofs.lemmas.List.{length-append}
use Rattle.cc_base.specs.declared.place.Place.{Place}
use Rattle.cc_base.specs.declared.fault.Fault.TheVariants.{TooLarge}
use Rattle.cc_base.specs.declared.fault.Limit.TheVariants.{Types}
use Rattle.c_lexer.specs.declared.number.IntegerType.{IntegerType as ConstantType}
use Rattle.c_types.specs.Table.{shape_at}
use Rattle.c_types.specs.Layouts.{size_of}
use Rattle.c_tree.specs.Literals.{pieces_bytes}
use Rattle.c_tree.specs.declared.leaf.Identifier.{Identifier}
use Rattle.c_tree.specs.declared.leaf.StringPiece.{StringPiece}
use Rattle.c_tree.specs.declared.operator.Assignment.{Assignment}
use Rattle.c_tree.specs.declared.operator.Assignment.TheVariants as assignment
use Rattle.c_tree.specs.declared.operator.Binary.{Binary}
use Rattle.c_tree.specs.declared.operator.Step.{Step}
use Rattle.c_tree.specs.declared.operator.Unary.{Unary}
use Rattle.c_tree.specs.Places.{nowhere, pieces_place}
use Rattle.c_tree.specs.TypedTree as typed
use Rattle.c_tree.specs.TypedTree.{TypedExpr, TypedPlace, TypedTypeName}
use Rattle.c_tree.specs.TypedParts.{type_of, named_type}
use Rattle.runtime_calls.specs.Prototypes.{runtime_of}
use Rattle.c_typing.specs.Assignments
use Rattle.c_typing.specs.Assignments.{assigned, assign_part, part_type, updated, update_part, update_by, pointer_choice, choice_of_pointers, choice_of_values, choice_of_parts, choice, comma_part, comma, cast_part, size_of_type, called, arguments_held, function_name, named_as, count_global, literal}
use Rattle.c_typing.specs.Integers.{constant_type}
use Rattle.c_typing.specs.Judging.{State, Gives, next, ◌>>=◌, pure, by_known, new_node, integer_type}
use Rattle.c_typing.specs.Operands.{Operand, Value, value, value_of, side_of, given, argument_of}
use Rattle.c_typing.specs.Operations
use Rattle.c_typing.specs.Operations.{construct, leaf, prefix, target, size_type, int_type, pointed, target_of, address_behind, address_of_part, address, operator_on, prefix_of, size_of_part, step_part, step_before, step_after, element, index, operation, infix_of, numbered, named_member, Found, found, member_of, member_at_pointer, pointed_member, in_parens, paren, integer, character}
use Rattle.c_typing.specs.Refusals.{type_size_tests}
use Rattle.c_typing.specs.Rules.{runtime_named}
use Rattle.c_typing.specs.Scopes.{name_in}
use Rattle.c_typing.specs.Shapes.{pointee_at}
use Rattle.c_typing.specs.Tests.{AsPlace, AsValue, has_some, target_tests, address_tests, prefix_tests, size_tests, step_tests, index_tests, infix_tests, member_tests, shape_of, pointed_shape, choice_tests, assign_tests, cast_tests, call_tests, name_tests}
use Rattle.c_tree.specs.declared.operator.MemberOperator.TheVariants as member
use Rattle.c_tree.specs.declared.operator.Step.TheVariants as step
use Rattle.c_tree.specs.declared.operator.Unary.TheVariants as unary
use Rattle.c_tree.specs.Tree as tree
use Rattle.c_typing.specs.Held.{held_with, held, held_by_arguments, count_of}
use Rattle.c_typing.specs.Walks.{judge, judge_arguments, judge_type_name}
use Rattle.c_typing_laws.proofs.Outcomes.{construct-gives, leaf-gives, gives-value, never-gives, bind-gives}

target-held : (at : Place) (v : Value) (s : State) (o : Operand) (r : State) → target_of at v s ≡ Gives o r → o.held ≡ held_with 0 (v.held ∷ [])
unfolding target_of
target-held at v s o r h =
    (construct-gives (λ (q : State). target_tests q.table q.seen.scopes at (AsValue v.expr)) at (v.held ∷ [])
    (by_known (λ q. pure (pointed q.table at v.expr (pointee_at q.table (type_of v.expr))))) s o r h).held

address-held : (at : Place) (x : Operand) (s : State) (o : Operand) (r : State) → address at x s ≡ Gives o r → o.held ≡ held_with 0 (x.held ∷ [])
unfolding address
address-held at x s o r h =
    (construct-gives (λ (q : State). address_tests at x.part) at (x.held ∷ []) (address_of_part at x.part) s o r h).held

prefix-held : (operator : Unary) (at : Place) (v : Value) (s : State) (o : Operand) (r : State) → prefix_of operator at v s ≡ Gives o r → o.held ≡ held_with 0 (v.held ∷ [])
unfolding prefix_of
prefix-held operator at v s o r h =
    (construct-gives (λ (q : State). prefix_tests q.table q.seen.scopes operator at (AsValue v.expr)) at (v.held ∷ [])
    (by_known (λ q. pure (AsValue (operator_on q.table operator at v.expr)))) s o r h).held

size-held : (at : Place) (x : Operand) (s : State) (o : Operand) (r : State) → Operations.size at x s ≡ Gives o r → o.held ≡ held_with 0 (x.held ∷ [])
unfolding Operations.size
size-held at x s o r h =
    (construct-gives (λ (q : State). size_tests q.table q.seen.scopes at x.part) at (x.held ∷ []) (size_of_part at x.place x.part) s o r h).held

size_of_type-held : (at paren : Place) (name : TypedTypeName) (s : State) (o : Operand) (r : State) → size_of_type at paren name s ≡ Gives o r → o.held ≡ held_with 0 ([])
unfolding size_of_type
size_of_type-held at paren name s o r h =
    (construct-gives (λ (q : State). type_size_tests q.table q.seen.scopes at (named_type name)) at []
    (by_known (λ q. pure (AsValue (typed.SizeOfType at paren name (size_of q.table (named_type name)) size_type)))) s o r h).held

before-held : (operator : Step) (at : Place) (x : Operand) (s : State) (o : Operand) (r : State) → step_before operator at x s ≡ Gives o r → o.held ≡ held_with 0 (x.held ∷ [])
unfolding step_before
before-held operator at x s o r h =
    (construct-gives (λ (q : State). step_tests q.table q.seen.scopes at x.part) at (x.held ∷ []) (step_part (λ y. typed.StepBefore operator at y) at x.part) s o r h).held

after-held : (operator : Step) (at : Place) (x : Operand) (s : State) (o : Operand) (r : State) → step_after operator at x s ≡ Gives o r → o.held ≡ held_with 0 (x.held ∷ [])
unfolding step_after
after-held operator at x s o r h =
    (construct-gives (λ (q : State). step_tests q.table q.seen.scopes at x.part) x.place (x.held ∷ []) (step_part (λ y. typed.StepAfter y operator at) at x.part) s o r h).held

index-held : (a : Value) (at : Place) (b : Value) (s : State) (o : Operand) (r : State) → index a at b s ≡ Gives o r → o.held ≡ held_with 0 (a.held ∷ b.held ∷ [])
unfolding index
index-held a at b s o r h =
    (construct-gives (λ (q : State). index_tests q.table q.seen.scopes at (AsValue a.expr) (AsValue b.expr)) a.place (a.held ∷ b.held ∷ [])
    (by_known (λ q. pure (element a.expr at b.expr (pointee_at q.table (type_of a.expr)) (pointee_at q.table (type_of b.expr))))) s o r h).held

infix-held : (operator : Binary) (a : Value) (at : Place) (b : Value) (s : State) (o : Operand) (r : State) → infix_of operator a at b s ≡ Gives o r → o.held ≡ held_with 0 (a.held ∷ b.held ∷ [])
unfolding infix_of
infix-held operator a at b s o r h =
    (construct-gives (λ (q : State). infix_tests q.table q.seen.scopes operator at a.place (AsValue a.expr) (AsValue b.expr)) a.place (a.held ∷ b.held ∷ [])
    (by_known (λ q. pure (AsValue (operation q.table operator a.expr at b.expr)))) s o r h).held

member-held : (x : Operand) (at : Place) (name : Identifier) (s : State) (o : Operand) (r : State) → Operations.member x at name s ≡ Gives o r → o.held ≡ held_with 0 (x.held ∷ [])
unfolding Operations.member
member-held x at name s o r h =
    (construct-gives (λ (q : State). member_tests q.seen.scopes (shape_of q.table x.part) at name.bytes name.place) x.place (x.held ∷ []) (member_of x.place at name x.part) s o r h).held

pointed-held : (v : Value) (at : Place) (name : Identifier) (s : State) (o : Operand) (r : State) → pointed_member v at name s ≡ Gives o r → o.held ≡ held_with 0 (v.held ∷ [])
unfolding pointed_member
pointed-held v at name s o r h =
    (construct-gives (λ (q : State). member_tests q.seen.scopes (pointed_shape q.table (shape_at q.table (type_of v.expr))) at name.bytes name.place) v.place (v.held ∷ [])
    (by_known (λ q. member_at_pointer v.place at name v.expr (pointee_at q.table (type_of v.expr)))) s o r h).held

update-held : (operator : Assignment) (x : Operand) (at : Place) (v : Value) (s : State) (o : Operand) (r : State) → update_by operator x at v s ≡ Gives o r → o.held ≡ held_with 0 (x.held ∷ v.held ∷ [])
unfolding update_by
update-held operator x at v s o r h =
    (construct-gives (λ (q : State). assign_tests q.table q.seen.scopes operator at x.part (AsValue v.expr)) x.place (x.held ∷ v.held ∷ []) (update_part operator at x.part v.expr) s o r h).held

choice-held : (c : Value) (at : Place) (a b : Value) (s : State) (o : Operand) (r : State) → choice c at a b s ≡ Gives o r → o.held ≡ held_with 0 (c.held ∷ a.held ∷ b.held ∷ [])
unfolding choice
choice-held c at a b s o r h =
    (construct-gives (λ (q : State). choice_tests q.table at (AsValue c.expr) (side_of a.expr) (side_of b.expr)) c.place (c.held ∷ a.held ∷ b.held ∷ [])
    (choice_of_parts c.expr c.place at (side_of a.expr) (side_of b.expr)) s o r h).held

call-held : (f : Value) (at : Place) (values : List Value) (s : State) (o : Operand) (r : State) → Assignments.call f at values s ≡ Gives o r → o.held ≡ held_with 0 (max f.held (arguments_held 1 values) ∷ [])
unfolding Assignments.call
call-held f at values s o r h =
    (construct-gives (λ (q : State). call_tests q.table at (AsValue f.expr) (map argument_of values)) f.place (max f.held (arguments_held 1 values) ∷ [])
    (by_known (λ q. pure (called q.table f.expr at values (runtime_named f.expr)))) s o r h).held

name-held : (at_call : Bool) (word : Identifier) (s : State) (o : Operand) (r : State) → Assignments.name at_call word s ≡ Gives o r → o.held ≡ held_with 0 ([])
unfolding Assignments.name
name-held at_call word s o r h =
    (construct-gives (λ (q : State). name_tests q.seen.scopes (has_some (runtime_of word.bytes)) at_call word.bytes word.place) word.place []
    (by_known (λ q. named_as word (runtime_of word.bytes) (name_in q.seen.scopes.levels word.bytes))) s o r h).held

paren-held : (at : Place) (x : Operand) (s : State) (o : Operand) (r : State) → paren at x s ≡ Gives o r → o.held ≡ held_with 0 (x.held ∷ [])
unfolding paren
paren-held at x s o r h = (construct-gives (λ (q : State). []) at (x.held ∷ []) (pure (in_parens at x.part)) s o r h).held

comma-held : (a b : Value) (s : State) (o : Operand) (r : State) → comma a b s ≡ Gives o r → o.held ≡ held_with 0 (a.held ∷ b.held ∷ [])
unfolding comma
comma-held a b s o r h = (construct-gives (λ (q : State). []) a.place (a.held ∷ b.held ∷ []) (pure (comma_part a.expr (side_of b.expr))) s o r h).held

assign-held : (x : Operand) (at : Place) (y : Operand) (s : State) (o : Operand) (r : State) → Assignments.assign x at y s ≡ Gives o r → o.held ≡ held_with 0 (x.held ∷ y.held ∷ [])
unfolding Assignments.assign Assignments.assign_given
assign-held x at y s o r h =
    let one = bind-gives (given (part_type x.part) y.place y.part s)
    (λ v. construct (λ q. assign_tests q.table q.seen.scopes assignment.Assign at x.part v) x.place (x.held ∷ y.held ∷ []) (assign_part at x.part v)) o r h in
    (construct-gives (λ (q : State). assign_tests q.table q.seen.scopes assignment.Assign at x.part one.0) x.place (x.held ∷ y.held ∷ []) (assign_part at x.part one.0) one.1 o r one.3).held

cast-held : (at : Place) (to : TypedTypeName) (x : Operand) (s : State) (o : Operand) (r : State) → Assignments.cast at to x s ≡ Gives o r → o.held ≡ held_with 0 (x.held ∷ [])
unfolding Assignments.cast Assignments.cast_given
cast-held at to x s o r h =
    let one = bind-gives (given (named_type to) x.place x.part s)
    (λ v. construct (λ q. cast_tests q.table at v (named_type to)) at (x.held ∷ []) (by_known (λ q. pure (AsValue (cast_part q.table at to v))))) o r h in
    (construct-gives (λ (q : State). cast_tests q.table at one.0 (named_type to)) at (x.held ∷ []) (by_known (λ q. pure (AsValue (cast_part q.table at to one.0)))) one.1 o r one.3).held

integer-held : (of : ConstantType) (n : ℕ) (at : Place) (s : State) (o : Operand) (r : State) → integer of n at s ≡ Gives o r → o.held ≡ 1
unfolding integer
integer-held of n at s o r h = (leaf-gives at (pure (AsValue (typed.Integer of n at (integer_type (constant_type of))))) s o r h).2

character-held : (n : ℤ) (at : Place) (s : State) (o : Operand) (r : State) → character n at s ≡ Gives o r → o.held ≡ 1
unfolding character
character-held n at s o r h = (leaf-gives at (pure (AsValue (typed.Character n at int_type))) s o r h).2

literal-held : (pieces : List StringPiece) (s : State) (o : Operand) (r : State) → literal pieces s ≡ Gives o r → o.held ≡ 1
unfolding literal
literal-held pieces s o r h =
    (leaf-gives (pieces_place pieces) (new_node (pieces_place pieces) >>= (λ n. Assignments.string_type (pieces_place pieces) (length (pieces_bytes pieces) + 1)
    >>= (λ t. count_global (pieces_place pieces) (length (pieces_bytes pieces) + 1) >>= (λ bytes. pure (AsPlace (typed.String pieces n t)))))) s o r h).2

abbrev value_with : Operand → TypedExpr → Value
value_with x e = record { expr = e; place = x.place; held = x.held }

value-held : (x : Operand) (v : Value) (s r : State) → value x s ≡ Gives v r → v.held ≡ x.held
unfolding value
value-held x v s r h =
    let one = bind-gives (value_of x.place x.part s) (λ e. pure (value_with x e)) v r h in
    sym (ap (λ (w : Value). w.held) (gives-value (value_with x one.0) v one.1 r one.3))

prefix-any : (operator : Unary) (at : Place) (x : Operand) (s : State) (o : Operand) (r : State) → prefix operator at x s ≡ Gives o r → o.held ≡ held_with 0 (x.held ∷ [])
unfolding prefix target
prefix-any unary.Increment at x s o r h = before-held step.Increment at x s o r h
prefix-any unary.Decrement at x s o r h = before-held step.Decrement at x s o r h
prefix-any unary.AddressOf at x s o r h = address-held at x s o r h
prefix-any unary.SizeOf at x s o r h = size-held at x s o r h
prefix-any unary.Dereference at x s o r h =
    let one = bind-gives (value x s) (target_of at) o r h in
    target-held at one.0 one.1 o r one.3 ∙ ap (λ (n : ℕ). held_with 0 (n ∷ [])) (value-held x one.0 s one.1 one.2)
prefix-any unary.Plus at x s o r h =
    let one = bind-gives (value x s) (prefix_of unary.Plus at) o r h in
    prefix-held unary.Plus at one.0 one.1 o r one.3 ∙ ap (λ (n : ℕ). held_with 0 (n ∷ [])) (value-held x one.0 s one.1 one.2)
prefix-any unary.Minus at x s o r h =
    let one = bind-gives (value x s) (prefix_of unary.Minus at) o r h in
    prefix-held unary.Minus at one.0 one.1 o r one.3 ∙ ap (λ (n : ℕ). held_with 0 (n ∷ [])) (value-held x one.0 s one.1 one.2)
prefix-any unary.Complement at x s o r h =
    let one = bind-gives (value x s) (prefix_of unary.Complement at) o r h in
    prefix-held unary.Complement at one.0 one.1 o r one.3 ∙ ap (λ (n : ℕ). held_with 0 (n ∷ [])) (value-held x one.0 s one.1 one.2)
prefix-any unary.Not at x s o r h =
    let one = bind-gives (value x s) (prefix_of unary.Not at) o r h in
    prefix-held unary.Not at one.0 one.1 o r one.3 ∙ ap (λ (n : ℕ). held_with 0 (n ∷ [])) (value-held x one.0 s one.1 one.2)

-- arguments: what each holds while the function and those before it are held

abbrev each_held : ℕ → List Value → ℕ
each_held i [] = 0
each_held i (v ∷ vs) = max (i + v.held) (each_held (i + 1) vs)

all_held : (i : ℕ) (vs : List Value) → arguments_held i vs ≡ max (each_held i vs) (i + length vs + 1)
all_held i [] = omega arith
all_held i (v ∷ vs) = let more = all_held (i + 1) vs in omega (arith, more)

last_held : (i : ℕ) (vs : List Value) (v : Value) → each_held i (vs ++ v ∷ []) ≡ max (each_held i vs) (i + length vs + v.held)
last_held i [] v = omega arith
last_held i (w ∷ vs) v = let more = last_held (i + 1) vs v in omega (arith, more)

record AreHeld (all : tree.Arguments) (values : List Value) : Type 0 where
  each : each_held 1 values ≡ held_by_arguments all
  count : length values ≡ count_of all

called-held : (f : ℕ) (g : ℕ) (all : tree.Arguments) (values : List Value) → f ≡ g → AreHeld all values
    → held_with 0 (max f (arguments_held 1 values) ∷ []) ≡ max g (max (held_by_arguments all) (count_of all + 2))
called-held f g all values h a =
    let own = all_held 1 values in
    let each = a.each in
    let count = a.count in
    omega (arith, own, each, count, h)

next_held : (all : tree.Arguments) (e : tree.Expr) (before : List Value) (v : Value) → AreHeld all before → v.held ≡ held e → AreHeld (tree.AndArgument all e) (before ++ v ∷ [])
next_held all e before v a h = record {
  each =
      let own = last_held 1 before v in
      let each = a.each in
      let count = a.count in
      omega (arith, own, each, count, h);
  count =
      let long = length-append before (v ∷ []) in
      let count = a.count in
      omega (arith, long, count);
}

-- the value of an expression
abbrev Holding : tree.Expr → State → Type 0
Holding e s = (o : Operand) (q : State) → judge false e s ≡ Gives o q → o.held ≡ held e

taken-held : (e : tree.Expr) (v : Value) (s m : State) → Holding e s → next (judge false e s) value ≡ Gives v m → v.held ≡ held e
taken-held e v s m ih h = let one = bind-gives (judge false e s) value v m h in value-held one.0 v one.1 m one.3 ∙ ih one.0 one.1 one.2

update-any : (operator : Assignment) (a : tree.Expr) (at : Place) (b : tree.Expr) (o : Operand) (s r : State) → Holding a s → ((m : State) → Holding b m)
    → next (judge false a s) (λ x. λ m. next (next (judge false b m) value) (λ y. update_by operator x at y)) ≡ Gives o r → o.held ≡ held_with 0 (held a ∷ held b ∷ [])
update-any operator a at b o s r ja jb h =
    let one = bind-gives (judge false a s) (λ x. λ m. next (next (judge false b m) value) (λ y. update_by operator x at y)) o r h in
    let two = bind-gives (next (judge false b one.1) value) (λ y. update_by operator one.0 at y) o r one.3 in
    let x = ja one.0 one.1 one.2 in
    let y = taken-held b two.0 one.1 two.1 (jb one.1) two.2 in
    update-held operator one.0 at two.0 two.1 o r two.3 ∙ (λ i. held_with 0 (x i ∷ y i ∷ []))

mutual
  unfolding judge judge_arguments

  pub expr-held : (e : tree.Expr) (called : Bool) (o : Operand) (s r : State) → judge called e s ≡ Gives o r → o.held ≡ held e
  expr-held (tree.Name word) called o s r h = name-held called word s o r h
  expr-held (tree.Integer of n at) called o s r h = integer-held of n at s o r h
  expr-held (tree.Character n at) called o s r h = character-held n at s o r h
  expr-held (tree.String pieces) called o s r h = literal-held pieces s o r h
  expr-held (tree.Paren at e) called o s r h =
      let one = bind-gives (judge called e s) (paren at) o r h in
      paren-held at one.0 one.1 o r one.3 ∙ ap (λ (n : ℕ). held_with 0 (n ∷ [])) (expr-held e called one.0 s one.1 one.2)
  expr-held (tree.Index a at b) called o s r h =
      let one = bind-gives (next (judge false a s) value) (λ x. λ m. next (next (judge false b m) value) (λ y. index x at y)) o r h in
      let two = bind-gives (next (judge false b one.1) value) (λ y. index one.0 at y) o r one.3 in
      let x = taken-held a one.0 s one.1 (λ p q t. expr-held a false p s q t) one.2 in
      let y = taken-held b two.0 one.1 two.1 (λ p q t. expr-held b false p one.1 q t) two.2 in
      index-held one.0 at two.0 two.1 o r two.3 ∙ (λ i. held_with 0 (x i ∷ y i ∷ []))
  expr-held (tree.Call f at all) called o s r h =
      let one = bind-gives (judge true f s) (λ x. λ m. next (value x m) (λ g. λ n. next (judge_arguments all n) (λ values. Assignments.call g at values))) o r h in
      let two = bind-gives (value one.0 one.1) (λ g. λ n. next (judge_arguments all n) (λ values. Assignments.call g at values)) o r one.3 in
      let three = bind-gives (judge_arguments all two.1) (λ values. Assignments.call two.0 at values) o r two.3 in
      let g = value-held one.0 two.0 one.1 two.1 two.2 ∙ expr-held f true one.0 s one.1 one.2 in
      call-held two.0 at three.0 three.1 o r three.3 ∙ called-held two.0.held (held f) all three.0 g (arguments-held all three.0 two.1 three.1 three.2)
  expr-held (tree.Member e member.Dot at name) called o s r h =
      let one = bind-gives (judge false e s) (λ x. Operations.member x at name) o r h in
      member-held one.0 at name one.1 o r one.3 ∙ ap (λ (n : ℕ). held_with 0 (n ∷ [])) (expr-held e false one.0 s one.1 one.2)
  expr-held (tree.Member e member.Arrow at name) called o s r h =
      let one = bind-gives (next (judge false e s) value) (λ x. pointed_member x at name) o r h in
      pointed-held one.0 at name one.1 o r one.3 ∙ ap (λ (n : ℕ). held_with 0 (n ∷ [])) (taken-held e one.0 s one.1 (λ p q t. expr-held e false p s q t) one.2)
  expr-held (tree.Postfix e operator at) called o s r h =
      let one = bind-gives (judge false e s) (step_after operator at) o r h in
      after-held operator at one.0 one.1 o r one.3 ∙ ap (λ (n : ℕ). held_with 0 (n ∷ [])) (expr-held e false one.0 s one.1 one.2)
  expr-held (tree.Prefix operator at e) called o s r h =
      let one = bind-gives (judge false e s) (prefix operator at) o r h in
      prefix-any operator at one.0 one.1 o r one.3 ∙ ap (λ (n : ℕ). held_with 0 (n ∷ [])) (expr-held e false one.0 s one.1 one.2)
  expr-held (tree.SizeOfType at paren name) called o s r h =
      let one = bind-gives (judge_type_name name s) (size_of_type at paren) o r h in
      size_of_type-held at paren one.0 one.1 o r one.3
  expr-held (tree.Cast at name e) called o s r h =
      let one = bind-gives (judge_type_name name s) (λ to. λ m. next (judge false e m) (λ x. Assignments.cast at to x)) o r h in
      let two = bind-gives (judge false e one.1) (λ x. Assignments.cast at one.0 x) o r one.3 in
      cast-held at one.0 two.0 two.1 o r two.3 ∙ ap (λ (n : ℕ). held_with 0 (n ∷ [])) (expr-held e false two.0 one.1 two.1 two.2)
  expr-held (tree.Infix operator a at b) called o s r h =
      let one = bind-gives (next (judge false a s) value) (λ x. λ m. next (next (judge false b m) value) (λ y. infix_of operator x at y)) o r h in
      let two = bind-gives (next (judge false b one.1) value) (λ y. infix_of operator one.0 at y) o r one.3 in
      let x = taken-held a one.0 s one.1 (λ p q t. expr-held a false p s q t) one.2 in
      let y = taken-held b two.0 one.1 two.1 (λ p q t. expr-held b false p one.1 q t) two.2 in
      infix-held operator one.0 at two.0 two.1 o r two.3 ∙ (λ i. held_with 0 (x i ∷ y i ∷ []))
  expr-held (tree.Conditional c at a b) called o s r h =
      let one = bind-gives (next (judge false c s) value)
      (λ z. λ m. next (next (judge false a m) value) (λ x. λ n. next (next (judge false b n) value) (λ y. choice z at x y))) o r h in
      let two = bind-gives (next (judge false a one.1) value) (λ x. λ n. next (next (judge false b n) value) (λ y. choice one.0 at x y)) o r one.3 in
      let three = bind-gives (next (judge false b two.1) value) (λ y. choice one.0 at two.0 y) o r two.3 in
      let z = taken-held c one.0 s one.1 (λ p q t. expr-held c false p s q t) one.2 in
      let x = taken-held a two.0 one.1 two.1 (λ p q t. expr-held a false p one.1 q t) two.2 in
      let y = taken-held b three.0 two.1 three.1 (λ p q t. expr-held b false p two.1 q t) three.2 in
      choice-held one.0 at two.0 three.0 three.1 o r three.3 ∙ (λ i. held_with 0 (z i ∷ x i ∷ y i ∷ []))
  expr-held (tree.Assign assignment.Assign a at b) called o s r h =
      let one = bind-gives (judge false a s) (λ x. λ m. next (judge false b m) (λ y. Assignments.assign x at y)) o r h in
      let two = bind-gives (judge false b one.1) (λ y. Assignments.assign one.0 at y) o r one.3 in
      let x = expr-held a false one.0 s one.1 one.2 in
      let y = expr-held b false two.0 one.1 two.1 two.2 in
      assign-held one.0 at two.0 two.1 o r two.3 ∙ (λ i. held_with 0 (x i ∷ y i ∷ []))
  expr-held (tree.Assign operator a at b) called o s r h =
      update-any operator a at b o s r (λ p q t. expr-held a false p s q t) (λ m p q t. expr-held b false p m q t) h
  expr-held (tree.Comma a b) called o s r h =
      let one = bind-gives (next (judge false a s) value) (λ x. λ m. next (next (judge false b m) value) (λ y. comma x y)) o r h in
      let two = bind-gives (next (judge false b one.1) value) (λ y. comma one.0 y) o r one.3 in
      let x = taken-held a one.0 s one.1 (λ p q t. expr-held a false p s q t) one.2 in
      let y = taken-held b two.0 one.1 two.1 (λ p q t. expr-held b false p one.1 q t) two.2 in
      comma-held one.0 two.0 two.1 o r two.3 ∙ (λ i. held_with 0 (x i ∷ y i ∷ []))
  expr-held (tree.Compound at name brace) called o s r h = never-gives o (TooLarge nowhere Types) s r h
  expr-held (tree.SizeOfCompound at paren name brace) called o s r h = never-gives o (TooLarge nowhere Types) s r h

  arguments-held : (all : tree.Arguments) (values : List Value) (s r : State) → judge_arguments all s ≡ Gives values r → AreHeld all values
  arguments-held tree.NoArgument values s r h =
      subst (AreHeld tree.NoArgument) (gives-value [] values s r h) (record { each = refl; count = refl })
  arguments-held (tree.AndArgument all e) values s r h =
      let one = bind-gives (judge_arguments all s) (λ before. λ m. next (next (judge false e m) value) (λ v. pure (before ++ v ∷ []))) values r h in
      let two = bind-gives (next (judge false e one.1) value) (λ v. pure (one.0 ++ v ∷ [])) values r one.3 in
      let before = arguments-held all one.0 s one.1 one.2 in
      let v = taken-held e two.0 one.1 two.1 (λ p q t. expr-held e false p one.1 q t) two.2 in
      subst (AreHeld (tree.AndArgument all e)) (gives-value (one.0 ++ two.0 ∷ []) values two.1 r two.3) (next_held all e one.0 two.0 before v)

pub held-law : (called : Bool) (e : tree.Expr) (o : Operand) (s r : State) → judge called e s ≡ Gives o r → o.held ≡ held e
held-law called e o s r h = expr-held e called o s r h
