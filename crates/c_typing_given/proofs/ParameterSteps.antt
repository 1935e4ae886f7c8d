-- What judging a parameter is made of: its name, the pointer that it is made, and the rules of its type.
use Rattle.std.proofs.Common.{◌≡◌, ◌<◌, Bool, true, false, not, ◌&&◌, List, [], ◌∷◌, length, Option, Some, None, refl, ap, sym, subst}
use Rattle.cc_base.specs.declared.fault.Rule.TheVariants as rule
use Rattle.cc_base.specs.declared.place.Place.{Place}
use Rattle.cc_base.specs.declared.number.TypeId.{TypeId}
use Rattle.c_types.specs.declared.shape.TypeShape.{TypeShape}
use Rattle.c_types.specs.declared.shape.TypeShape.TheVariants as shape
use Rattle.c_types.specs.Table.{Table, entry_at, shape_at, is_aggregate_shape, is_complete_entry}
use Rattle.c_tree.specs.declared.leaf.Identifier.{Identifier}
use Rattle.c_tree.specs.declared.typed_word.Adjusted.{Adjusted}
use Rattle.c_tree.specs.declared.typed_word.Home.{Home}
use Rattle.c_tree.specs.declared.typed_word.Home.TheVariants as home
use Rattle.c_tree.specs.Tree as tree
use Rattle.c_tree.specs.TypedTree as typed
use Rattle.c_tree.specs.TypedTree.{TypedSpecifiers, TypedSpecifierList, TypedParameters, TypedDeclared}
use Rattle.c_tree.specs.TypedParts.{declared_home, specified_type}
use Rattle.c_typing.specs.declared.declared.Declared.TheVariants as declared
use Rattle.c_typing.specs.declared.naming.Naming.TheVariants as naming
use Rattle.c_typing.specs.Adjusting.{adjusted_at, derived_by_declared, typedef_place}
use Rattle.c_typing.specs.Declaring.{adjusted_with_node, parameter_makes, parameter_declared, parameter}
use Rattle.c_typing.specs.Judging.{State, Outcome, Judging, Gives, ◌>>=◌, by_known, pure, new_node}
use Rattle.c_typing.specs.Refusals.{is_here, declared_identifier}
use Rattle.c_typing.specs.Scopes.{Scopes, is_complete_at, is_complete_shape_at}
use Rattle.c_typing.specs.Shapes.{is_scalar_shape}
use Rattle.c_typing.specs.Specifying.{specified, obeying}
use Rattle.c_typing.specs.Tests.{first_broken, broken_at, parameter_name_tests, parameter_type_tests, has_some}
use Rattle.c_typing.specs.Typing.{IsTakenType}
use Rattle.c_typing.specs.Walks.{declared_place, judge_list, judge_declared, judge_parameters}
use Rattle.c_typing_laws.specs.Judged.{IsHomeOf}
use Rattle.c_typing_laws.proofs.ExtensionLaws.{no_true}
use Rattle.c_typing_unique.proofs.DeclaratorSteps.{DeclaresName, name_declared}
use Rattle.c_typing_exact.specs.Passing.{Passes}
use Rattle.c_typing_exact.proofs.Unbroken.{passes_one, passes_and, off}
use Rattle.c_typing_given.proofs.EnumeratorsGiven.{in_state, declaring-opened}
use Rattle.c_typing_given.proofs.Steps.{then-is, obeying-is}

-- What judging is made of

abbrev pub adjusting-by : tree.Declared → tree.Specifiers → TypeShape → Option Place
adjusting-by d specifiers base = adjusted_at (derived_by_declared d) base (typedef_place specifiers)

pub judges-no-parameter : (void : Bool) (s : State) → judge_parameters void tree.NoParameter s ≡ Gives typed.NoParameter s
unfolding judge_parameters
judges-no-parameter void s = refl

pub judges-parameter : (void : Bool) (all : tree.Parameters) (specifiers : tree.Specifiers) (d : tree.Declared) (list : TypedParameters) (own : TypedSpecifierList)
    (one : TypedDeclared) (s j k l : State) (o : Outcome TypedParameters) → judge_parameters void all s ≡ Gives list j → judge_list specifiers j ≡ Gives own k
    → judge_declared naming.Parameter (declared_place specifiers d) d k ≡ Gives one l
    → parameter void (declared_place specifiers d) (adjusting-by d specifiers) list (specified own) one l ≡ o
    → judge_parameters void (tree.AndParameter all specifiers d) s ≡ o
unfolding judge_parameters
judges-parameter void all specifiers d list own one s j k l o h g f e =
    then-is (judge_parameters void all)
    (λ a. judge_list specifiers >>= (λ b. judge_declared naming.Parameter (declared_place specifiers d) d
    >>= (λ c. parameter void (declared_place specifiers d) (adjusting-by d specifiers) a (specified b) c))) list s j o h
    (then-is (judge_list specifiers)
    (λ b. judge_declared naming.Parameter (declared_place specifiers d) d >>= (λ c. parameter void (declared_place specifiers d) (adjusting-by d specifiers) list (specified b) c))
    own j k o g
    (then-is (judge_declared naming.Parameter (declared_place specifiers d) d)
    (λ c. parameter void (declared_place specifiers d) (adjusting-by d specifiers) list (specified own) c) one k l o f e))

pub parameter-is : (void : Bool) (at : Place) (adjusting : TypeShape → Option Place) (list : TypedParameters) (x : TypedSpecifiers) (one : TypedDeclared) (f : Option Adjusted)
    (t : TypeId) (s k m r : State) → first_broken (parameter_name_tests (is_here s.seen.scopes (declared_identifier one)) at) ≡ None
    → adjusted_with_node at (adjusting (shape_at s.table (specified_type x))) s ≡ Gives f k → parameter_makes at f one (specified_type x) k ≡ Gives t m
    → first_broken (parameter_type_tests m.table m.seen.scopes void t at) ≡ None
    → parameter_declared at (declared_identifier one) (declared_home one) t m ≡ Gives t r
    → parameter void at adjusting list x one s ≡ Gives (typed.AndParameter list x one f t) r
unfolding parameter
parameter-is void at adjusting list x one f t s k m r pass h g tested e =
    let o : Outcome TypedParameters = Gives (typed.AndParameter list x one f t) r in
    let check : TypeId → Judging TypeId = λ u. obeying (λ (q : State). parameter_type_tests q.table q.seen.scopes void u at)
    (parameter_declared at (declared_identifier one) (declared_home one) u) in
    obeying-is (λ (q : State). parameter_name_tests (is_here q.seen.scopes (declared_identifier one)) at)
    (by_known (λ (q : State). adjusted_with_node at (adjusting (shape_at q.table (specified_type x))))
    >>= (λ a. parameter_makes at a one (specified_type x) >>= (λ u. check u >>= (λ v. pure (typed.AndParameter list x one a v))))) s o pass
    (then-is (by_known (λ (q : State). adjusted_with_node at (adjusting (shape_at q.table (specified_type x)))))
    (λ a. parameter_makes at a one (specified_type x) >>= (λ u. check u >>= (λ v. pure (typed.AndParameter list x one a v)))) f s k o h
    (then-is (parameter_makes at f one (specified_type x)) (λ u. check u >>= (λ v. pure (typed.AndParameter list x one f v))) t k m o g
    (then-is (check t) (λ v. pure (typed.AndParameter list x one f v)) t m r o
    (obeying-is (λ (q : State). parameter_type_tests q.table q.seen.scopes void t at) (parameter_declared at (declared_identifier one) (declared_home one) t) m
    (Gives t r) tested e) refl)))

pub adjusted-none : (at : Place) (s : State) → adjusted_with_node at None s ≡ Gives None s
unfolding adjusted_with_node
adjusted-none at s = refl

pub adjusted-some : (at : Place) (a : Adjusted) (s r : State) → new_node at s ≡ Gives a.node r → adjusted_with_node at (Some a.place) s ≡ Gives (Some a) r
unfolding adjusted_with_node
adjusted-some at a s r h = then-is (new_node at) (λ n. pure (Some (record { node = n; place = a.place }))) a.node s r (Gives (Some a) r) h refl

-- Names of parameters

pub same-identifier : (x : TypedDeclared) → declared_identifier x ≡ name_declared x
same-identifier typed.NotDeclared = refl
same-identifier (typed.DeclaredBy form) = refl

pub same-home : (x : TypedDeclared) → declared_home x ≡ declared_home x
same-home typed.NotDeclared = refl
same-home (typed.DeclaredBy form) = refl

-- a parameter's name is new, and its home is a parameter's
pub parameter-home : (name : Option Identifier) (h : Home) (t : TypeId) (s r : Scopes) → (name ≡ None → h ≡ home.None) → DeclaresName name h t s r → IsHomeOf naming.Parameter name h
parameter-home None h t s r w d = w refl
parameter-home (Some name) (home.Parameter n) t s r w d = (n, refl)
parameter-home (Some name) home.None t s r w d = absurd d
parameter-home (Some name) (home.Static n) t s r w d = absurd d
parameter-home (Some name) (home.Local n) t s r w d = absurd d
parameter-home (Some name) (home.Known n) t s r w d = absurd d

pub record IsDeclaring (at : Place) (name : Option Identifier) (h : Home) (t : TypeId) (k : State) (after : Scopes) : Type 0 where
  pub gives : parameter_declared at name h t k ≡ Gives t (in_state after k)
  pub fresh : is_here k.seen.scopes name ≡ false
  pub members : after.members ≡ k.seen.scopes.members
  pub defined : after.defined ≡ k.seen.scopes.defined
  pub opened : 0 < length k.seen.scopes.levels → 0 < length after.levels

pub declaring-is : (at : Place) (name : Option Identifier) (h : Home) (t : TypeId) (k : State) (after : Scopes) → DeclaresName name h t k.seen.scopes after
    → IsDeclaring at name h t k after
unfolding parameter_declared
declaring-is at None h t k after d =
    subst (IsDeclaring at None h t k) (sym d) (record { gives = refl; fresh = refl; members = refl; defined = refl; opened = λ o. o })
declaring-is at (Some name) (home.Parameter n) t k after d =
    subst (IsDeclaring at (Some name) (home.Parameter n) t k) (sym d.after) (record {
      gives = refl;
      fresh = ap has_some d.fresh;
      members = refl;
      defined = refl;
      opened = declaring-opened name.bytes (declared.Object t n) k.seen.scopes;
    })
declaring-is at (Some name) home.None t k after d = absurd d
declaring-is at (Some name) (home.Static n) t k after d = absurd d
declaring-is at (Some name) (home.Local n) t k after d = absurd d
declaring-is at (Some name) (home.Known n) t k after d = absurd d

-- Rules of parameters' types

scalar_whole : (c : Scopes) (x : TypeShape) (ms : List TypeId) → is_scalar_shape x ≡ true
    → (is_complete_shape_at c (is_complete_entry x ms) x ≡ true) × (is_aggregate_shape x ≡ false)
scalar_whole c (shape.Integer bytes signed) ms h = (refl, refl)
scalar_whole c (shape.Pointer n t) ms h = (refl, refl)
scalar_whole c shape.Void ms h = no_true h
scalar_whole c (shape.Array t n) ms h = no_true h
scalar_whole c (shape.Function ps r) ms h = no_true h
scalar_whole c (shape.Struct n) ms h = no_true h
scalar_whole c (shape.Union n) ms h = no_true h

pub taken-passes : (T : Table) (c : Scopes) (void : Bool) (t : TypeId) (at : Place) → IsTakenType void T c t → Passes (parameter_type_tests T c void t at)
taken-passes T c true t at h =
    passes_and rule.Incomplete at (not true && not (is_complete_at T c t)) (broken_at rule.Mismatch at (is_aggregate_shape (shape_at T t)) ∷ []) refl
    (passes_one rule.Mismatch at (is_aggregate_shape (shape_at T t)) (ap is_aggregate_shape h.1))
taken-passes T c false t at h =
    let own = scalar_whole c (shape_at T t) (entry_at T t).members h in
    passes_and rule.Incomplete at (not false && not (is_complete_at T c t)) (broken_at rule.Mismatch at (is_aggregate_shape (shape_at T t)) ∷ [])
    (off (is_complete_at T c t) own.0) (passes_one rule.Mismatch at (is_aggregate_shape (shape_at T t)) own.1)
