-- What judging counts for the expressions of statements is the bytes of the literals that it gives.
use Rattle.std.proofs.Common.{◌≡◌, Bool, true, false, List, Option, Some, None, refl, sym, subst, if◌then◌else◌, ◌==◌, not, [], ◌∷◌}
use Rattle.cc_base.specs.declared.place.Place.{Place}
use Rattle.cc_base.specs.declared.number.TypeId.{TypeId}
use Rattle.cc_base.specs.declared.fault.Rule.TheVariants as rule
use Rattle.c_types.specs.Table.{IsType, shape_at}
use Rattle.c_tree.specs.Tree as tree
use Rattle.c_tree.specs.TypedTree as typed
use Rattle.c_tree.specs.TypedTree.{TypedExpr}
use Rattle.c_tree.specs.TypedParts.{Made, type_of, made_by, made_by_optional}
use Rattle.c_tree.specs.declared.typed_word.Conversion.TheVariants as conversion
use Rattle.integers.specs.Arithmetic.{IntegerType}
use Rattle.c_typing.specs.Checking.{checked, checked_value}
use Rattle.c_typing.specs.Conversions.{to_integer}
use Rattle.c_typing.specs.Integers.{promoted}
use Rattle.c_typing.specs.Judging.{integer_type}
use Rattle.c_typing.specs.Settled.{IsKnown}
use Rattle.c_typing.specs.Shapes.{integer_at, is_void_shape}
use Rattle.c_typing.specs.Tests.{first_broken, broken_at}
use Rattle.c_unit_limits.proofs.CountedLiterals.{value-counted, becomes-counted}
use Rattle.c_unit_limits.proofs.CountedInitialisers.{Counts, counts-none}
use Rattle.c_unit_typing.specs.StatementJudging.{dropped, returned, promoted_by}
use Rattle.c_unit_typing.specs.UnitJudged.{state_of}
use Rattle.c_unit_typing.specs.UnitJudging.{UnitState, Gives, pure, lifted}
use Rattle.c_unit_typing.proofs.UnitOutcomes.{bind-gives, unless-gives, given-same, lifted-gives}

pub value-counts : (e : tree.Expr) (v : TypedExpr) (s r : UnitState) → IsKnown (state_of s) → lifted (checked e) s ≡ Gives v r
    → Counts (made_by v) s r
value-counts e v s r k h = value-counted e v (state_of s) (state_of r) k (lifted-gives (checked e) v s r h).0

none_counts : (v : Option TypedExpr) (s r : UnitState) → pure {A = Option TypedExpr} None s ≡ Gives v r → Counts (made_by_optional v) s r
none_counts v s r h =
    given-same (λ (w : Option TypedExpr) (q : UnitState). Counts (made_by_optional w) s q) None v s r h
    (counts-none s)

some_counts : (e : TypedExpr) (v : Option TypedExpr) (s m r : UnitState) → Counts (made_by e) s m → Gives (Some e) m ≡ Gives v r
    → Counts (made_by_optional v) s r
some_counts e v s m r n h =
    given-same (λ (w : Option TypedExpr) (q : UnitState). Counts (made_by_optional w) s q) (Some e) v m r h n

pub dropped-counts : (e : Option tree.Expr) (v : Option TypedExpr) (s r : UnitState) → IsKnown (state_of s) → dropped e s ≡ Gives v r
    → Counts (made_by_optional v) s r
unfolding dropped
dropped-counts None v s r k h = none_counts v s r h
dropped-counts (Some e) v s r k h =
    let one = bind-gives (lifted (checked e) s) (λ w. pure (Some w)) v r h in
    some_counts one.0 v s one.1 r (value-counts e one.0 s one.1 k one.2) one.3

pub returned-counts : (at : Place) (t : TypeId) (e : Option tree.Expr) (v : Option TypedExpr) (s r : UnitState) → IsKnown (state_of s) → IsType s.table t
    → returned at t e s ≡ Gives v r → Counts (made_by_optional v) s r
unfolding returned
returned-counts at t None v s r k b h =
    let go = unless-gives (first_broken (broken_at rule.Mismatch at (not (is_void_shape (shape_at s.table t))) ∷ [])) (pure None) s v r h in
    none_counts v s r go.1
returned-counts at t (Some e) v s r k b h =
    let one = bind-gives (lifted (checked_value t at false e) s) (λ w. pure (Some w)) v r h in
    let l = lifted-gives (checked_value t at false e) one.0 s one.1 one.2 in
    some_counts one.0 v s one.1 r (becomes-counted t at false e one.0 (state_of s) (state_of one.1) k b l.0) one.3

to_integer_made : (at : Place) (t : TypeId) (e : TypedExpr) → made_by (to_integer at t e) ≡ made_by e
to_integer_made at t e = by ((type_of e).0 == t.0)
  where
    by : (b : Bool) → made_by (if b then e else typed.Convert conversion.IntegerToInteger at t e) ≡ made_by e
    by true = refl
    by false = refl

pub promoted-made : (at : Place) (c : TypedExpr) (o : Option IntegerType) → made_by (promoted_by at c o) ≡ made_by c
promoted-made at c None = refl
promoted-made at c (Some k) = to_integer_made at (integer_type (promoted k)) c

-- what a `switch` is on, promoted, makes what its value does
pub switched-counts : (at : Place) (e : tree.Expr) (c : TypedExpr) (s m : UnitState) → IsKnown (state_of s) → lifted (checked e) s ≡ Gives c m
    → Counts (made_by (promoted_by at c (integer_at m.table (type_of c)))) s m
switched-counts at e c s m k h =
    subst (λ (made : List Made). Counts made s m) (sym (promoted-made at c (integer_at m.table (type_of c)))) (value-counts e c s m k h)
