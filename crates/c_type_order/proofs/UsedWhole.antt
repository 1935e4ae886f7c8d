-- The types that what stands by itself uses: lists of specifiers, declarators, prototypes, values, values for a type, and constants.
use Rattle.std.proofs.Common.{◌≡◌, ℕ, ℤ, ◌+◌, Bool, true, false, length, Option, Some, None, refl, ap, sym, if◌then◌else◌}
use Rattle.cc_base.specs.declared.place.Place.{Place}
use Rattle.cc_base.specs.declared.number.TypeId.{TypeId}
use Rattle.cc_base.specs.declared.fault.Fault.TheVariants.{Refused}
use Rattle.cc_base.specs.declared.fault.Rule.TheVariants as rule
use Rattle.c_types.specs.Table.{Table, shape_at}
use Rattle.c_tree.specs.declared.leaf.Identifier.{Identifier}
use Rattle.c_tree.specs.declared.operator.AggregateKind.{AggregateKind}
use Rattle.c_tree.specs.Tree as tree
use Rattle.c_tree.specs.TypedTree as typed
use Rattle.c_tree.specs.TypedTree.{TypedExpr, TypedTypeName, TypedSpecifiers, TypedSpecifierList, TypedSpecifier, TypedDeclarator, TypedForm, TypedCore, TypedParts, TypedParameters}
use Rattle.c_typing.specs.declared.naming.Naming.{Naming}
use Rattle.c_typing.specs.Checking.{checked, taken, value_tests, converted_part, converted_value, checked_value, Constant, constant_as, checked_constant}
use Rattle.c_typing.specs.Constants.{constant_value}
use Rattle.c_typing.specs.Conversions.{implicit}
use Rattle.c_typing.specs.Declarators.{Written, Counts, nearest, is_derived_core}
use Rattle.c_typing.specs.Declaring.{NotDerived, derived_by, is_function_by, unless_function, form_makes, entered, left, stopped_outside}
use Rattle.c_typing.specs.Judging.{State, Gives, next, pure}
use Rattle.c_typing.specs.Operands.{Operand, Value, value, side_of}
use Rattle.c_typing.specs.Refusals.{is_void_alone}
use Rattle.c_typing.specs.Scopes.{tag_here}
use Rattle.c_typing.specs.Settled.{IsKnown}
use Rattle.c_typing.specs.Specifying.{specified, tagged_by, tagged_alone}
use Rattle.c_typing.specs.Tests
use Rattle.c_typing.specs.Tests.{Elaborated, AsPlace, AsValue, AsAllocation, first_broken, is_tag_of}
use Rattle.c_typing.specs.Walks
use Rattle.c_typing.specs.Walks.{judge, judge_list, judge_alone_list, judge_value, judge_specifiers, judge_specifiers_of, judge_form, judge_parameters, judge_prototype, judge_declarator_at}
use Rattle.c_typing_laws.proofs.JudgedDeclarators.{entered-judged}
use Rattle.c_typing_laws.proofs.JudgedTrees.{void_self}
use Rattle.c_typing_laws.proofs.KnownScopes.{tag_here-there}
use Rattle.c_typing_laws.proofs.NumberedConstructs.{IsWhole}
use Rattle.c_typing_laws.proofs.NumberedTrees.{operand-whole}
use Rattle.c_typing_laws.proofs.Outcomes.{bind-gives, unless-gives, never-gives, outside-gives}
use Rattle.c_typing_laws.proofs.ValuesTaken.{given-same}
use Rattle.c_type_order.specs.TypesUsed.{types_of, made_in, function_steps, parts_steps, form_steps, core_steps, used_by, used_by_specifiers, used_by_specifier_list, used_by_declarator, used_by_form, used_by_parameters}
use Rattle.c_type_order.specs.Uses.{IsUsed, used_by_part}
use Rattle.c_type_order.proofs.Uses.{then_used, used-as}
use Rattle.c_type_order.proofs.UsedConstructs.{PartUsed, ValueUsed, part_as, value-used, given-used, converted-used, side-used}
use Rattle.c_type_order.proofs.UsedChains.{chain-used, form-chain}
use Rattle.c_type_order.proofs.UsedSteps.{SpecifierUsed, tagged_by-used}
use Rattle.c_type_order.proofs.UsedParameters.{scoped}
use Rattle.c_type_order.proofs.UsedValues.{value-uses}
use Rattle.c_type_order.proofs.UsedTrees.{expr-uses, specifiers-use, form-uses, parameters-use}

-- Lists of specifiers

abbrev pub SpecifiersUsed : TypedSpecifiers → Table → Table → Type 0
SpecifiersUsed t S R = IsUsed (λ U. used_by_specifiers U t) S R

listed-used : (all : tree.Specifiers) (t : TypedSpecifiers) (s r : State) → IsKnown s → next (judge_list all s) (λ list. pure (specified list)) ≡ Gives t r → SpecifiersUsed t s.table r.table
listed-used all t s r k h =
    let one = bind-gives (judge_list all s) (λ list. pure (specified list)) t r h in
    given-same (λ (v : TypedSpecifiers) (q : State). SpecifiersUsed v s.table q.table) (specified one.0) t one.1 r one.3 (specifiers-use all one.0 s one.1 k one.2)

alone-used : (which : AggregateKind) (at : Place) (name : Identifier) (one : TypedSpecifier) (s r : State) → IsKnown s → tagged_alone which at name s ≡ Gives one r
    → SpecifierUsed one s.table r.table
unfolding tagged_alone
alone-used which at name one s r k h =
    let go = unless-gives (first_broken (Tests.alone_tests s.seen.scopes (is_tag_of which) name.bytes name.place)) (tagged_by which at name (λ q. tag_here q.seen.scopes.levels name.bytes)) s one r h in
    tagged_by-used which at name (λ (q : State). tag_here q.seen.scopes.levels name.bytes) one s r
    (λ what q. tag_here-there s.table s.seen.scopes.levels k.levels name.bytes what q) go.1

alone_by : (all : tree.Specifiers) (t : TypedSpecifiers) (s r : State) → IsKnown s → next (judge_alone_list all s) (λ list. pure (specified list)) ≡ Gives t r
    → SpecifiersUsed t s.table r.table
alone_by (tree.AndSpecifier tree.NoSpecifier (tree.Tagged which at name)) t s r k h =
    let one = bind-gives (next (tagged_alone which at name s) (λ v. pure (typed.AndSpecifier typed.NoSpecifier v))) (λ list. pure (specified list)) t r h in
    let two = bind-gives (tagged_alone which at name s) (λ v. pure (typed.AndSpecifier typed.NoSpecifier v)) one.0 one.1 one.2 in
    given-same (λ (v : TypedSpecifiers) (q : State). SpecifiersUsed v s.table q.table) (specified one.0) t one.1 r one.3
    (given-same (λ (v : TypedSpecifierList) (q : State). IsUsed (λ U. used_by_specifier_list U v) s.table q.table) (typed.AndSpecifier typed.NoSpecifier two.0) one.0 two.1 one.1 two.3
    (alone-used which at name two.0 s two.1 k two.2))
alone_by tree.NoSpecifier t s r k h = listed-used tree.NoSpecifier t s r k h
alone_by (tree.AndSpecifier (tree.AndSpecifier all one) specifier) t s r k h = listed-used (tree.AndSpecifier (tree.AndSpecifier all one) specifier) t s r k h
alone_by (tree.AndSpecifier tree.NoSpecifier specifier) t s r k h = listed-used (tree.AndSpecifier tree.NoSpecifier specifier) t s r k h

pub specifiers_of-used : (alone : Bool) (all : tree.Specifiers) (t : TypedSpecifiers) (s r : State) → IsKnown s → judge_specifiers_of alone all s ≡ Gives t r
    → SpecifiersUsed t s.table r.table
unfolding judge_specifiers_of judge_specifiers
specifiers_of-used false all t s r k h = listed-used all t s r k h
specifiers_of-used true all t s r k h = alone_by all t s r k h

-- Declarators: a size that an initialiser gives changes no step

sized_parts : (n : ℕ) (parts : TypedParts) → parts_steps (Counts n) parts ≡ parts_steps Written parts
sized_parts n typed.NoPart = refl
sized_parts n (typed.AndArray all at words) = ap (λ (k : ℕ). k + 1) (sized_parts n all)
sized_parts n (typed.AndSizedArray all at words e size) = ap (λ (k : ℕ). k + 1) (sized_parts n all)
sized_parts n (typed.AndFunction all at parameters) =
    let rest = sized_parts n all in
    let own = nearest_steps all in
    λ i. rest i + own i
  where
    nearest_steps : (p : TypedParts) → function_steps (nearest p (Counts n)) ≡ function_steps (nearest p Written)
    nearest_steps typed.NoPart = refl
    nearest_steps p = refl

outside_steps : (n : ℕ) (b : Bool) (parts : TypedParts) → parts_steps (if b then Written else Counts n) parts ≡ parts_steps (if b then Written else Written) parts
outside_steps n true parts = refl
outside_steps n false parts = sized_parts n parts

mutual
  sized_form : (n : ℕ) (form : TypedForm) → form_steps (Counts n) form ≡ form_steps Written form
  sized_form n (typed.Form stars core parts) =
      let inner = sized_core n core in
      let outer = outside_steps n (is_derived_core core) parts in
      λ i. inner i + (outer i + length stars)

  sized_core : (n : ℕ) (core : TypedCore) → core_steps (Counts n) core ≡ core_steps Written core
  sized_core n (typed.Names name home) = refl
  sized_core n typed.Unnamed = refl
  sized_core n (typed.Nested at form) = sized_form n form

steps_of : (size : Option ℕ) (form : TypedForm) → form_steps Written form ≡ form_steps (Walks.outermost_of size) form
steps_of None form = refl
steps_of (Some n) form = sym (sized_form n form)

abbrev pub DeclaratorUsed : TypedDeclarator → Table → Table → Type 0
DeclaratorUsed d S R = IsUsed (λ U. used_by_declarator U Written d) S R

pub declarator-used : (at : Place) (which : Naming) (base : TypeId) (size : Option ℕ) (d : tree.Declarator) (one : TypedDeclarator) (s r : State) → IsKnown s
    → judge_declarator_at at which base size d s ≡ Gives one r → DeclaratorUsed one s.table r.table
unfolding judge_declarator_at
declarator-used at which base size d one s r k h =
    let naming : Naming = unless_function (is_function_by (derived_by d NotDerived) (shape_at s.table base)) which in
    let first = bind-gives (judge_form naming at d s) (λ form. λ m. next (form_makes at (Walks.outermost_of size) form base m) (λ t. pure (typed.Declares form t))) one r h in
    let two = bind-gives (form_makes at (Walks.outermost_of size) first.0 base first.1) (λ t. pure (typed.Declares first.0 t)) one r first.3 in
    let steps = steps_of size first.0 in
    let types = chain-used (form_steps (Walks.outermost_of size) first.0) base two.0 first.1.table two.1.table
    (form-chain at (Walks.outermost_of size) first.0 base two.0 first.1 two.1 two.2) in
    given-same (λ (v : TypedDeclarator) (q : State). DeclaratorUsed v s.table q.table) (typed.Declares first.0 two.0) one two.1 r two.3
    (then_used (λ U. used_by_form U first.0) (λ U. types_of (made_in U (form_steps Written first.0) two.0)) s.table first.1.table two.1.table
    (form-uses d naming at first.0 s first.1 k first.2)
    (used-as (λ U. types_of (made_in U (form_steps (Walks.outermost_of size) first.0) two.0)) (λ U. types_of (made_in U (form_steps Written first.0) two.0)) first.1.table two.1.table
    (λ U. ap (λ (n : ℕ). types_of (made_in U n two.0)) steps) types))

pub prototype-used : (at : Place) (all : tree.Parameters) (list : TypedParameters) (s r : State) → IsKnown s → judge_prototype at all s ≡ Gives list r
    → IsUsed (λ U. used_by_parameters U list) s.table r.table
unfolding judge_prototype
prototype-used at all list s r k h =
    let one = bind-gives (entered s) (λ b. λ m. next (stopped_outside (judge_parameters (is_void_alone all) all m)) (left at)) list r h in
    let inside = entered-judged one.0 s one.1 k one.2 in
    let two = bind-gives (stopped_outside (judge_parameters (is_void_alone all) all one.1)) (left at) list r one.3 in
    scoped at one.0 two.0 list s one.1 two.1 r one.2 two.3 (parameters-use all (is_void_alone all) two.0 one.1 two.1 (void_self all) inside.1.known (outside-gives (judge_parameters (is_void_alone all) all one.1) two.0 two.1 two.2))

-- Values

value_here : (e : tree.Expr) (v : Value) (s m : State) → IsKnown s → judge_value e s ≡ Gives v m → ValueUsed v.expr s.table m.table
unfolding judge_value
value_here e v s m k h = (value-uses e v s m k (λ o q g. expr-uses e false o s q k g) h).0

pub checked-used : (e : tree.Expr) (v : TypedExpr) (s r : State) → IsKnown s → checked e s ≡ Gives v r → ValueUsed v s.table r.table
unfolding checked
checked-used e v s r k h =
    let one = bind-gives (judge_value e s) (λ w. pure w.expr) v r h in
    given-same (λ (w : TypedExpr) (q : State). ValueUsed w s.table q.table) one.0.expr v one.1 r one.3 (value_here e one.0 s one.1 k one.2)

constant_by : (v : Value) (o : Option ℤ) (c : Constant) (S : Table) (s r : State) → ValueUsed v.expr S s.table → constant_as v o s ≡ Gives c r → ValueUsed c.expr S r.table
unfolding constant_as
constant_by v None c S s r n h = never-gives c (Refused v.place rule.NotConstant) s r h
constant_by v (Some z) c S s r n h = given-same (λ (w : Constant) (q : State). ValueUsed w.expr S q.table) (record { expr = v.expr; value = z }) c s r h n

pub constant-used : (e : tree.Expr) (c : Constant) (s r : State) → IsKnown s → checked_constant e s ≡ Gives c r → ValueUsed c.expr s.table r.table
unfolding checked_constant
constant-used e c s r k h =
    let one = bind-gives (judge_value e s) (λ v. λ m. constant_as v (constant_value m.table v.expr) m) c r h in
    constant_by one.0 (constant_value one.1.table one.0.expr) c s.table one.1 r (value_here e one.0 s one.1 k one.2) one.3

converted_part-used : (U T : Table) (t : TypeId) (at : Place) (y : Elaborated) → used_by U (converted_part T t at y) ≡ used_by_part U y
converted_part-used U T t at (AsPlace p) = refl
converted_part-used U T t at (AsValue e) = converted-used U at t e (implicit T e t)
converted_part-used U T t at (AsAllocation e) = refl

taken-used : (init : Bool) (t : TypeId) (x : Operand) (y : Elaborated) (S : Table) (s r : State) → IsWhole x.part → PartUsed x.part S s.table → taken init t x s ≡ Gives y r → PartUsed y S r.table
unfolding taken
taken-used true t x y S s r w n h = given-used t x.place x.part y S s r w n h
taken-used false t x y S s r w n h =
    let one = bind-gives (value x s) (λ v. pure (side_of v.expr)) y r h in
    part_as S (λ U. used_by U one.0.expr) (side_of one.0.expr) y one.1 r one.3 (λ U. side-used U one.0.expr) (value-used x one.0 S s one.1 w n one.2)

pub checked_value-used : (t : TypeId) (at : Place) (init : Bool) (e : tree.Expr) (v : TypedExpr) (s r : State) → IsKnown s → checked_value t at init e s ≡ Gives v r
    → ValueUsed v s.table r.table
unfolding checked_value converted_value
checked_value-used t at init e v s r k h =
    let one = bind-gives (judge false e s) (λ x. λ m. next (taken init t x m) (converted_value t at)) v r h in
    let x = operand-whole false e one.0 s one.1 k one.2 in
    let two = bind-gives (taken init t one.0 one.1) (converted_value t at) v r one.3 in
    let y = taken-used init t one.0 two.0 s.table one.1 two.1 x.0 (expr-uses e false one.0 s one.1 k one.2) two.2 in
    let go = unless-gives (first_broken (value_tests two.1.table t at two.0)) (λ (q : State). pure (converted_part q.table t at two.0) q) two.1 v r two.3 in
    given-same (λ (w : TypedExpr) (q : State). ValueUsed w s.table q.table) (converted_part two.1.table t at two.0) v two.1 r go.1
    (used-as (λ U. used_by_part U two.0) (λ U. used_by U (converted_part two.1.table t at two.0)) s.table two.1.table (λ U. converted_part-used U two.1.table t at two.0) y)
