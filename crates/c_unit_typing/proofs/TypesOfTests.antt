-- What the expressions of statements use; scopes that begin and end use nothing.
use Rattle.std.proofs.Common.{◌≡◌, Bool, false, not, List, [], ◌∷◌, Option, Some, None, refl, subst}
use Rattle.cc_base.specs.declared.place.Place.{Place}
use Rattle.cc_base.specs.declared.number.TypeId.{TypeId}
use Rattle.cc_base.specs.declared.fault.Rule.TheVariants as rule
use Rattle.c_types.specs.Table.{Table, shape_at}
use Rattle.c_tree.specs.Tree as tree
use Rattle.c_tree.specs.TypedTree.{TypedExpr}
use Rattle.c_tree.specs.TypedParts.{type_of}
use Rattle.integers.specs.Arithmetic.{IntegerType}
use Rattle.c_typing.specs.Checking.{checked, checked_value}
use Rattle.c_typing.specs.Declaring.{entered, left}
use Rattle.c_typing.specs.Integers.{promoted}
use Rattle.c_typing.specs.Judging.{integer_type}
use Rattle.c_typing.specs.Settled.{IsKnown}
use Rattle.c_typing.specs.Shapes.{integer_at, is_void_shape}
use Rattle.c_typing.specs.Tests.{broken_at, first_broken}
use Rattle.c_type_order.specs.TypesUsed.{Use, used_by}
use Rattle.c_type_order.specs.Uses.{IsUsed}
use Rattle.c_type_order.proofs.Uses.{used-none, used-as, used-still}
use Rattle.c_type_order.proofs.UsedConstructs.{ValueUsed, to_integer-used}
use Rattle.c_type_order.proofs.UsedParameters.{entered-table, left-same}
use Rattle.c_type_order.proofs.UsedWhole.{checked-used, checked_value-used}
use Rattle.c_unit_typing.specs.StatementJudging.{dropped, returned, promoted_by}
use Rattle.c_unit_typing.specs.TypesUsed.{used_by_optional}
use Rattle.c_unit_typing.specs.UnitJudged.{state_of}
use Rattle.c_unit_typing.specs.UnitJudging.{UnitState, Gives, pure, lifted}
use Rattle.c_unit_typing.proofs.UnitOutcomes.{bind-gives, unless-gives, given-same, lifted-gives}

pub enter-table : (b : Bool) (s r : UnitState) → lifted entered s ≡ Gives b r → r.table ≡ s.table
enter-table b s r h = entered-table b (state_of s) (state_of r) (lifted-gives entered b s r h).0

pub leave-table : {A : Type 0} (at : Place) (a b : A) (s r : UnitState) → lifted (left at a) s ≡ Gives b r → r.table ≡ s.table
leave-table at a b s r h = (left-same at a b (state_of s) (state_of r) (lifted-gives (left at a) b s r h).0).1

-- what is used between is used by the whole
pub inside-types : (f : Table → List Use) (S M N R : Table) → M ≡ S → R ≡ N → IsUsed f M N → IsUsed f S R
inside-types f S M N R e g p = used-still f S N R g (subst (λ (T : Table). IsUsed f T N) e p)

abbrev pub OptionUsed : Option TypedExpr → Table → Table → Type 0
OptionUsed v S R = IsUsed (λ U. used_by_optional U v) S R

pub value-types : (e : tree.Expr) (v : TypedExpr) (s r : UnitState) → IsKnown (state_of s) → lifted (checked e) s ≡ Gives v r → ValueUsed v s.table r.table
value-types e v s r k h = checked-used e v (state_of s) (state_of r) k (lifted-gives (checked e) v s r h).0

none_types : (v : Option TypedExpr) (s r : UnitState) → pure {A = Option TypedExpr} None s ≡ Gives v r → OptionUsed v s.table r.table
none_types v s r h = given-same (λ (w : Option TypedExpr) (q : UnitState). OptionUsed w s.table q.table) None v s r h (used-none s.table)

some_types : (e : TypedExpr) (v : Option TypedExpr) (S : Table) (m r : UnitState) → ValueUsed e S m.table → Gives (Some e) m ≡ Gives v r → OptionUsed v S r.table
some_types e v S m r n h = given-same (λ (w : Option TypedExpr) (q : UnitState). OptionUsed w S q.table) (Some e) v m r h n

pub dropped-types : (e : Option tree.Expr) (v : Option TypedExpr) (s r : UnitState) → IsKnown (state_of s) → dropped e s ≡ Gives v r → OptionUsed v s.table r.table
unfolding dropped
dropped-types None v s r k h = none_types v s r h
dropped-types (Some e) v s r k h =
    let one = bind-gives (lifted (checked e) s) (λ w. pure (Some w)) v r h in
    some_types one.0 v s.table one.1 r (value-types e one.0 s one.1 k one.2) one.3

pub returned-types : (at : Place) (t : TypeId) (e : Option tree.Expr) (v : Option TypedExpr) (s r : UnitState) → IsKnown (state_of s)
    → returned at t e s ≡ Gives v r → OptionUsed v s.table r.table
unfolding returned
returned-types at t None v s r k h =
    let go = unless-gives (first_broken (broken_at rule.Mismatch at (not (is_void_shape (shape_at s.table t))) ∷ [])) (pure None) s v r h in
    none_types v s r go.1
returned-types at t (Some e) v s r k h =
    let one = bind-gives (lifted (checked_value t at false e) s) (λ w. pure (Some w)) v r h in
    let l = lifted-gives (checked_value t at false e) one.0 s one.1 one.2 in
    some_types one.0 v s.table one.1 r (checked_value-used t at false e one.0 (state_of s) (state_of one.1) k l.0) one.3

promoted_types : (U : Table) (at : Place) (c : TypedExpr) (o : Option IntegerType) → used_by U (promoted_by at c o) ≡ used_by U c
promoted_types U at c None = refl
promoted_types U at c (Some k) = to_integer-used U at (integer_type (promoted k)) c

-- what a `switch` is on, promoted, uses what its value does
pub switched-types : (at : Place) (e : tree.Expr) (c : TypedExpr) (s m : UnitState) → IsKnown (state_of s) → lifted (checked e) s ≡ Gives c m
    → ValueUsed (promoted_by at c (integer_at m.table (type_of c))) s.table m.table
switched-types at e c s m k h =
    used-as (λ U. used_by U c) (λ U. used_by U (promoted_by at c (integer_at m.table (type_of c)))) s.table m.table
    (λ U. promoted_types U at c (integer_at m.table (type_of c))) (value-types e c s m k h)
