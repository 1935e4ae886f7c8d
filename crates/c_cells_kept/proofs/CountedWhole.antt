-- What is counted of what stands by itself: lists of specifiers, declarators, prototypes, values, values for a type, and constants.
use Rattle.std.proofs.Common.{◌≡◌, ℕ, ℤ, Bool, true, false, [], Option, Some, None, refl, ap, sym, subst}
use Rattle.cc_base.specs.declared.place.Place.{Place}
use Rattle.cc_base.specs.declared.number.TypeId.{TypeId}
use Rattle.cc_base.specs.declared.fault.Fault.TheVariants.{Refused}
use Rattle.cc_base.specs.declared.fault.Rule.TheVariants as rule
use Rattle.c_types.specs.Table.{shape_at}
use Rattle.c_tree.specs.declared.leaf.Identifier.{Identifier}
use Rattle.c_tree.specs.declared.operator.AggregateKind.{AggregateKind}
use Rattle.c_tree.specs.Tree as tree
use Rattle.c_tree.specs.TypedTree as typed
use Rattle.c_tree.specs.TypedTree.{TypedExpr, TypedSpecifiers, TypedSpecifierList, TypedSpecifier, TypedDeclarator, TypedParameters, TypedTypeName}
use Rattle.c_tree.specs.TypedParts.{made_by, made_by_specifiers, made_by_specifier, made_by_specifier_list, made_by_declarator, made_by_form, made_by_parameters, made_by_type_name}
use Rattle.c_typing.specs.declared.declared.Tag.{Tag}
use Rattle.c_typing.specs.declared.naming.Naming.{Naming}
use Rattle.c_typing.specs.Checking.{checked, taken, value_tests, converted_part, converted_value, checked_value, Constant, constant_as, checked_constant}
use Rattle.c_typing.specs.Constants.{constant_value}
use Rattle.c_typing.specs.Declaring.{NotDerived, derived_by, is_function_by, unless_function, form_makes, entered, left, stopped_outside}
use Rattle.c_typing.specs.Judging.{State, Gives, next, pure}
use Rattle.c_typing.specs.Operands.{Operand, Value, value, side_of}
use Rattle.c_typing.specs.Refusals.{is_void_alone}
use Rattle.c_typing.specs.Scopes.{tag_here}
use Rattle.c_typing.specs.Settled.{IsKnown}
use Rattle.c_typing.specs.Specifying.{specified, tagged_as, tagged_by, tagged_alone}
use Rattle.c_typing.specs.Tests
use Rattle.c_typing.specs.Tests.{Elaborated, AsPlace, AsValue, AsAllocation, first_broken, is_tag_of}
use Rattle.c_typing.specs.Walks
use Rattle.c_typing.specs.Walks.{judge, judge_list, judge_alone_list, judge_value, judge_specifiers, judge_specifiers_of, judge_form, judge_parameters, judge_prototype, judge_declarator_at, judge_type_name}
use Rattle.c_typing_laws.specs.Numbers.{made_by_part}
use Rattle.c_typing_laws.proofs.JudgedDeclarators.{entered-judged}
use Rattle.c_typing_laws.proofs.JudgedTrees.{void_self}
use Rattle.c_typing_laws.proofs.NumberedConstructs.{IsWhole, side-made}
use Rattle.c_typing_laws.proofs.NumberedTrees.{operand-whole, left_same}
use Rattle.c_typing_laws.proofs.Outcomes.{bind-gives, unless-gives, gives-value, never-gives, outside-gives}
use Rattle.c_typing_laws.proofs.ValuesTaken.{given-same}
use Rattle.c_cells_kept.specs.Counted.{Moves}
use Rattle.c_cells_kept.proofs.CellsMoved.{stays-refl, made-as, made-to, made-from, made-none}
use Rattle.c_cells_kept.proofs.CountedValues.{IsCounted, part_as, value-moves, given-moves}
use Rattle.c_cells_kept.proofs.CountedOperands.{value-makes}
use Rattle.c_cells_kept.proofs.CountedTrees.{expr-makes, specifiers-make, type_name-makes, form-makes, parameters-make}
use Rattle.c_cells_kept.proofs.StepsKept.{obeying-keeps, tagged_by-keeps, form-keeps, entered-keeps, left-keeps}
use Rattle.c_typing_laws.proofs.NumberedWhole.{converted_made}

pub expr-moves : (called : Bool) (e : tree.Expr) (o : Operand) (s r : State) → IsKnown s → judge called e s ≡ Gives o r → Moves (made_by_part o.part) s r
expr-moves called e o s r k h = expr-makes e called o s r k h

-- Lists of specifiers

listed-moves : (all : tree.Specifiers) (t : TypedSpecifiers) (s r : State) → IsKnown s → next (judge_list all s) (λ list. pure (specified list)) ≡ Gives t r
    → Moves (made_by_specifiers t) s r
listed-moves all t s r k h =
    let one = bind-gives (judge_list all s) (λ list. pure (specified list)) t r h in
    given-same (λ (v : TypedSpecifiers) (q : State). Moves (made_by_specifiers v) s q) (specified one.0) t one.1 r one.3
    (specifiers-make all one.0 s one.1 k one.2)

tagged_none : (which : AggregateKind) (at : Place) (name : Identifier) (found : State → Option Tag) (one : TypedSpecifier) (s r : State) → tagged_by which at name found s ≡ Gives one r
    → made_by_specifier one ≡ []
unfolding tagged_by
tagged_none which at name found one s r h =
    let two = bind-gives (tagged_as which name (found s) s) (λ u. pure (typed.Tagged which at name u)) one r h in
    ap made_by_specifier (sym (gives-value (typed.Tagged which at name two.0) one two.1 r two.3))

alone-moves : (which : AggregateKind) (at : Place) (name : Identifier) (one : TypedSpecifier) (s r : State) → tagged_alone which at name s ≡ Gives one r → Moves (made_by_specifier one) s r
unfolding tagged_alone
alone-moves which at name one s r h =
    let kept = obeying-keeps (λ q. Tests.alone_tests q.seen.scopes (is_tag_of which) name.bytes name.place) (tagged_by which at name (λ q. tag_here q.seen.scopes.levels name.bytes)) s s
    (tagged_by-keeps which at name (λ q. tag_here q.seen.scopes.levels name.bytes) s s (stays-refl s)) one r h in
    let go = unless-gives (first_broken (Tests.alone_tests s.seen.scopes (is_tag_of which) name.bytes name.place)) (tagged_by which at name (λ q. tag_here q.seen.scopes.levels name.bytes)) s one r h in
    made-as (made_by_specifier one) [] s r (tagged_none which at name (λ q. tag_here q.seen.scopes.levels name.bytes) one s r go.1) (made-none [] s r (λ U. refl) kept)

alone_by : (all : tree.Specifiers) (t : TypedSpecifiers) (s r : State) → IsKnown s → next (judge_alone_list all s) (λ list. pure (specified list)) ≡ Gives t r
    → Moves (made_by_specifiers t) s r
alone_by (tree.AndSpecifier tree.NoSpecifier (tree.Tagged which at name)) t s r k h =
    let one = bind-gives (next (tagged_alone which at name s) (λ v. pure (typed.AndSpecifier typed.NoSpecifier v))) (λ list. pure (specified list)) t r h in
    let two = bind-gives (tagged_alone which at name s) (λ v. pure (typed.AndSpecifier typed.NoSpecifier v)) one.0 one.1 one.2 in
    given-same (λ (v : TypedSpecifiers) (q : State). Moves (made_by_specifiers v) s q) (specified one.0) t one.1 r one.3
    (given-same (λ (v : TypedSpecifierList) (q : State). Moves (made_by_specifier_list v) s q) (typed.AndSpecifier typed.NoSpecifier two.0) one.0 two.1 one.1 two.3
    (alone-moves which at name two.0 s two.1 two.2))
alone_by tree.NoSpecifier t s r k h = listed-moves tree.NoSpecifier t s r k h
alone_by (tree.AndSpecifier (tree.AndSpecifier all one) specifier) t s r k h = listed-moves (tree.AndSpecifier (tree.AndSpecifier all one) specifier) t s r k h
alone_by (tree.AndSpecifier tree.NoSpecifier specifier) t s r k h = listed-moves (tree.AndSpecifier tree.NoSpecifier specifier) t s r k h

pub specifiers-moves : (alone : Bool) (all : tree.Specifiers) (t : TypedSpecifiers) (s r : State) → IsKnown s → judge_specifiers_of alone all s ≡ Gives t r
    → Moves (made_by_specifiers t) s r
unfolding judge_specifiers_of judge_specifiers
specifiers-moves false all t s r k h = listed-moves all t s r k h
specifiers-moves true all t s r k h = alone_by all t s r k h

-- Declarators

pub declarator-moves : (at : Place) (which : Naming) (base : TypeId) (size : Option ℕ) (d : tree.Declarator) (one : TypedDeclarator) (s r : State) → IsKnown s
    → judge_declarator_at at which base size d s ≡ Gives one r → Moves (made_by_declarator one) s r
unfolding judge_declarator_at
declarator-moves at which base size d one s r k h =
    let naming : Naming = unless_function (is_function_by (derived_by d NotDerived) (shape_at s.table base)) which in
    let first = bind-gives (judge_form naming at d s) (λ form. λ m. next (form_makes at (Walks.outermost_of size) form base m) (λ t. pure (typed.Declares form t))) one r h in
    let two = bind-gives (form_makes at (Walks.outermost_of size) first.0 base first.1) (λ t. pure (typed.Declares first.0 t)) one r first.3 in
    let stays = form-keeps at (Walks.outermost_of size) first.0 base first.1 first.1 (stays-refl first.1) two.0 two.1 two.2 in
    given-same (λ (v : TypedDeclarator) (q : State). Moves (made_by_declarator v) s q) (typed.Declares first.0 two.0) one two.1 r two.3
    (made-to (made_by_form first.0 two.0) s first.1 two.1 stays (form-makes d naming at first.0 two.0 s first.1 k first.2))

pub name-moves : (name : tree.TypeName) (t : TypedTypeName) (s r : State) → IsKnown s → judge_type_name name s ≡ Gives t r → Moves (made_by_type_name t) s r
name-moves name t s r k h = type_name-makes name t s r k h

pub prototype-moves : (at : Place) (all : tree.Parameters) (list : TypedParameters) (s r : State) → IsKnown s → judge_prototype at all s ≡ Gives list r
    → Moves (made_by_parameters list) s r
unfolding judge_prototype
prototype-moves at all list s r k h =
    let one = bind-gives (entered s) (λ b. λ m. next (stopped_outside (judge_parameters (is_void_alone all) all m)) (left at)) list r h in
    let inside = entered-judged one.0 s one.1 k one.2 in
    let kept = entered-keeps s s (stays-refl s) one.0 one.1 one.2 in
    let two = bind-gives (stopped_outside (judge_parameters (is_void_alone all) all one.1)) (left at) list r one.3 in
    let made = parameters-make all (is_void_alone all) two.0 one.1 two.1 (void_self all) inside.1.known (outside-gives (judge_parameters (is_void_alone all) all one.1) two.0 two.1 two.2) in
    let out = left-keeps at two.0 two.1 two.1 (stays-refl two.1) list r two.3 in
    subst (λ (v : TypedParameters). Moves (made_by_parameters v) s r) (left_same at two.0 list two.1 r two.3)
    (made-to (made_by_parameters two.0) s two.1 r out
    (made-from (made_by_parameters two.0) s one.1 two.1 kept made))

-- Values

value_here : (e : tree.Expr) (v : Value) (s m : State) → IsKnown s → judge_value e s ≡ Gives v m → Moves (made_by v.expr) s m
unfolding judge_value
value_here e v s m k h = (value-makes e v s m k (λ o q g. expr-makes e false o s q k g) h).0

pub checked-moves : (e : tree.Expr) (v : TypedExpr) (s r : State) → IsKnown s → checked e s ≡ Gives v r → Moves (made_by v) s r
unfolding checked
checked-moves e v s r k h =
    let one = bind-gives (judge_value e s) (λ w. pure w.expr) v r h in
    given-same (λ (w : TypedExpr) (q : State). Moves (made_by w) s q) one.0.expr v one.1 r one.3
    (value_here e one.0 s one.1 k one.2)

constant_by : (v : Value) (o : Option ℤ) (c : Constant) (s0 s r : State) → Moves (made_by v.expr) s0 s → constant_as v o s ≡ Gives c r → Moves (made_by c.expr) s0 r
unfolding constant_as
constant_by v None c s0 s r n h = never-gives c (Refused v.place rule.NotConstant) s r h
constant_by v (Some z) c s0 s r n h =
    given-same (λ (w : Constant) (q : State). Moves (made_by w.expr) s0 q) (record { expr = v.expr; value = z }) c s r h (n)

pub constant-moves : (e : tree.Expr) (c : Constant) (s r : State) → IsKnown s → checked_constant e s ≡ Gives c r → Moves (made_by c.expr) s r
unfolding checked_constant
constant-moves e c s r k h =
    let one = bind-gives (judge_value e s) (λ v. λ m. constant_as v (constant_value m.table v.expr) m) c r h in
    constant_by one.0 (constant_value one.1.table one.0.expr) c s one.1 r (value_here e one.0 s one.1 k one.2) one.3

taken-moves : (init : Bool) (t : TypeId) (x : Operand) (y : Elaborated) (a : State) (s r : State) → IsWhole x.part → IsCounted a x.part s → taken init t x s ≡ Gives y r → IsCounted a y r
unfolding taken
taken-moves true t x y a s r w n h = given-moves t x.place x.part y a s r w n h
taken-moves false t x y a s r w n h =
    let one = bind-gives (value x s) (λ v. pure (side_of v.expr)) y r h in
    part_as a (made_by one.0.expr) (side_of one.0.expr) y one.1 r one.3 (side-made one.0.expr) (value-moves x one.0 a s one.1 w n one.2)

pub checked_value-moves : (t : TypeId) (at : Place) (init : Bool) (e : tree.Expr) (v : TypedExpr) (s r : State) → IsKnown s → checked_value t at init e s ≡ Gives v r
    → Moves (made_by v) s r
unfolding checked_value converted_value
checked_value-moves t at init e v s r k h =
    let one = bind-gives (judge false e s) (λ x. λ m. next (taken init t x m) (converted_value t at)) v r h in
    let x = operand-whole false e one.0 s one.1 k one.2 in
    let two = bind-gives (taken init t one.0 one.1) (converted_value t at) v r one.3 in
    let y = taken-moves init t one.0 two.0 s one.1 two.1 x.0 (expr-makes e false one.0 s one.1 k one.2) two.2 in
    let go = unless-gives (first_broken (value_tests two.1.table t at two.0)) (λ (q : State). pure (converted_part q.table t at two.0) q) two.1 v r two.3 in
    given-same (λ (w : TypedExpr) (q : State). Moves (made_by w) s q) (converted_part two.1.table t at two.0) v two.1 r go.1
    (made-as (made_by (converted_part two.1.table t at two.0)) (made_by_part two.0) s two.1 (converted_made two.1.table t at two.0) y)
