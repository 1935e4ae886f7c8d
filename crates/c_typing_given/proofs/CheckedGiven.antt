-- What a unit asks of its expressions is given: values, and constants.
use Rattle.std.proofs.Common.{◌≡◌, ◌≤◌, ℕ, ℤ, Bool, true, false, not, ◌&&◌, ◌||◌, Option, Some, None, length, refl, ap, sym, subst, ◌∙◌, arith}
use Rattle.c_types.specs.Table.{Table}
use Rattle.c_tree.specs.Tree as tree
use Rattle.c_tree.specs.TypedTree as typed
use Rattle.c_tree.specs.TypedTree.{TypedExpr, TypedPlace}
use Rattle.c_tree.specs.TypedParts.{made_by, made_by_place, place_type}
use Rattle.c_typing.specs.Checking.{Constant, checked, checked_constant, constant_as}
use Rattle.c_typing.specs.Constants.{constant_value}
use Rattle.c_typing.specs.Conversions.{takes_over, bare, IsPlain}
use Rattle.c_typing.specs.Judging.{◌>>=◌, State, Outcome, Gives, next, pure, by_known}
use Rattle.c_typing.specs.Operands.{given, Value, value}
use Rattle.c_typing.specs.Settled.{IsBasic}
use Rattle.c_typing.specs.Walks.{judge, judge_value}
use Rattle.c_typing_unique.specs.Points.{Point, IsRead, IsReadPlace}
use Rattle.c_typing_unique.proofs.OperatorLaws.{bare-plain}
use Rattle.c_typing_unique.proofs.Reading.{plain-bare}
use Rattle.c_rules_alike.proofs.PartsAlike.{constant-over}
use Rattle.c_typing_given.specs.Given.{point_at, IsHere, IsGiven, IsGivenAs}
use Rattle.c_unit_typing.specs.Holding.{expr_holds}
use Rattle.c_typing_given.specs.Spending.{HasRoom}
use Rattle.c_type_order.specs.TypesUsed.{AreUses, used_by, used_by_place}
use Rattle.c_typing_given.proofs.GivenTo.{given-for}
use Rattle.c_rules_alike.specs.PartsThere.{IsPartThere}
use Rattle.c_typing_unique.proofs.Shapes.{no_true}
use Rattle.c_typing_given.proofs.Constructing.{plain-simple, IsSimple, simple-given, plain-given}
use Rattle.c_typing_given.proofs.Steps.{then-is}
use Rattle.std.proofs.lemmas.Option.{none-some}
use Rattle.cc_base.specs.declared.place.Place.{Place}
use Rattle.cc_base.specs.declared.number.TypeId.{TypeId}
use Rattle.cc_base.specs.declared.fault.Rule.TheVariants as rule
use Rattle.c_types.specs.Table.{IsType, IsAggregate, shape_at, is_aggregate_shape}
use Rattle.c_types.specs.Sameness.{is_same_type}
use Rattle.c_tree.specs.declared.typed_word.Conversion.{Conversion}
use Rattle.c_typing.specs.Assignments.{converted_by, converted_to}
use Rattle.c_typing.specs.Checking.{taken, becomes, value_tests, converted_part, converted_value, checked_value}
use Rattle.c_typing.specs.Conversions.{converting_by, implicit, IsConverted}
use Rattle.c_typing.specs.Operands.{Operand, side_of}
use Rattle.c_typing.specs.Tests.{Elaborated, AsPlace, AsValue, fits}
use Rattle.c_typing_laws.proofs.Outcomes.{bind-gives}
use Rattle.c_typing_exact.proofs.ConversionPasses.{converted-fits}
use Rattle.c_typing_exact.proofs.Unbroken.{passes_one}
use Rattle.c_rules_alike.proofs.PartsAlike.{fits-over}
use Rattle.c_rules_alike.proofs.MadeAlike.{implicit-over}
use Rattle.c_rules_alike.proofs.TypesAlike.{same-over}
use Rattle.c_typing_given.proofs.PointersGiven.{and-both}
use Rattle.c_typing_given.proofs.Constructing.{alike-as}
use Rattle.c_typing_given.proofs.SequencesGiven.{side-plain, unread-read}
use Rattle.c_typing_given.proofs.Steps.{obeying-is}

judges_value : (e : tree.Expr) (v : Value) (s r : State) → next (judge false e s) value ≡ Gives v r → judge_value e s ≡ Gives v r
unfolding judge_value
judges_value e v s r h = h

checks : (e : tree.Expr) (v : Value) (s r : State) → judge_value e s ≡ Gives v r → checked e s ≡ Gives v.expr r
unfolding checked
checks e v s r h = then-is (judge_value e) (λ (w : Value). pure w.expr) v s r (Gives v.expr r) h refl

abbrev pub constant_of : TypedExpr → ℤ → Constant
constant_of v z = record { expr = v; value = z }

constant_is : (v : Value) (z : ℤ) (o : Option ℤ) (r : State) → o ≡ Some z → constant_as v o r ≡ Gives (constant_of v.expr z) r
unfolding constant_as
constant_is v z o r h = ap (λ (p : Option ℤ). constant_as v p r) h

checks_constant : (e : tree.Expr) (v : Value) (z : ℤ) (s r : State) → judge_value e s ≡ Gives v r → constant_value r.table v.expr ≡ Some z
    → checked_constant e s ≡ Gives (constant_of v.expr z) r
unfolding checked_constant
checks_constant e v z s r h c =
    then-is (judge_value e) (λ (w : Value). by_known (λ (q : State). constant_as w (constant_value q.table w.expr))) v s r (Gives (constant_of v.expr z) r) h
    (constant_is v z (constant_value r.table v.expr) r c)

module _ (T : Table) (basic : IsBasic T) (e : tree.Expr) (ge : IsGiven T e) (v : TypedExpr) (s : State) (b : Point) (count : ℕ) (here : IsHere T s)
    (h : IsRead T e v (point_at s) b) (uses : AreUses (used_by T v) (length s.table) count) (room : HasRoom T (made_by v) s) (holds : expr_holds e ≤ 256) where
  -- a value is given without the conversion that is made of it
  pub dropped-given : IsSimple T basic v → IsGivenAs T (made_by v) (checked e s) (bare v) s b count
  dropped-given simple =
      let g = simple-given T basic e ge v s b count here h simple uses room holds in
      record {
        after = g.after;
        gives = checks e g.value s g.after (judges_value e g.value s g.after g.gives) ∙ ap (λ (w : TypedExpr). Gives w g.after) g.same;
        reached = g.reached;
      }

  -- a value that nothing converts is given
  pub checked-given : IsSimple T basic v → bare v ≡ v → IsGivenAs T (made_by v) (checked e s) v s b count
  checked-given simple same =
      let g = simple-given T basic e ge v s b count here h simple uses room holds in
      record {
        after = g.after;
        gives = checks e g.value s g.after (judges_value e g.value s g.after g.gives) ∙ ap (λ (w : TypedExpr). Gives w g.after) (g.same ∙ same);
        reached = g.reached;
      }

  -- and so is a constant, with its value
  pub constant-given : IsPlain v → (z : ℤ) → constant_value T v ≡ Some z → IsGivenAs T (made_by v) (checked_constant e s) (constant_of v z) s b count
  constant-given plain z known =
      let g = plain-given T basic e ge v s b count here h (bare-plain v plain) uses room holds in
      let same : g.value.expr ≡ v = g.same ∙ plain-bare v plain in
      let c = constant-over g.after.table T g.reached.way.first g.reached.here.known.basic g.value.expr g.there ∙ ap (constant_value T) same ∙ known in
      record {
        after = g.after;
        gives = checks_constant e g.value z s g.after (judges_value e g.value s g.after g.gives) c ∙ ap (λ (w : TypedExpr). Gives (constant_of w z) g.after) same;
        reached = g.reached;
      }

-- A value that is converted to the type t

abbrev or_else : TypedExpr → Option TypedExpr → TypedExpr
or_else d None = d
or_else d (Some e) = e

converting_made : (o : Option Conversion) (at : Place) (t : TypeId) (w v : TypedExpr) → converting_by o at t w ≡ Some v → converted_by o at t w ≡ v
converting_made None at t w v h = absurd (none-some v h)
converting_made (Some which) at t w v h = ap (or_else v) h

pub checks-value : (t : TypeId) (at : Place) (init : Bool) (e : tree.Expr) (x : Operand) (y : Elaborated) (s k m : State) (o : Outcome TypedExpr) → judge false e s ≡ Gives x k
    → taken init t x k ≡ Gives y m → converted_value t at y m ≡ o → checked_value t at init e s ≡ o
unfolding checked_value
checks-value t at init e x y s k m o h l c =
    then-is (judge false e) (λ (i : Operand). taken init t i >>= (λ (j : Elaborated). converted_value t at j)) x s k o h
    (then-is (taken init t x) (λ (j : Elaborated). converted_value t at j) y k m o l c)

returns_taken : (t : TypeId) (x : Operand) (v : Value) (k m : State) → value x k ≡ Gives v m → taken false t x k ≡ Gives (side_of v.expr) m
unfolding taken
returns_taken t x v k m h = then-is (value x) (λ (w : Value). pure (side_of w.expr)) v k m (Gives (side_of v.expr) m) h refl

pub initialises-taken : (t : TypeId) (x : Operand) (y : Elaborated) (k m : State) → given t x.place x.part k ≡ Gives y m → taken true t x k ≡ Gives y m
unfolding taken
initialises-taken t x y k m h = h

converted_is : (t : TypeId) (at : Place) (w v : TypedExpr) (r : State) → fits r.table (AsValue w) (shape_at r.table t) ≡ true → converted_to r.table at t w ≡ v
    → converted_value t at (AsValue w) r ≡ Gives v r
unfolding converted_value
converted_is t at w v r h c =
    obeying-is (λ (q : State). value_tests q.table t at (AsValue w)) (by_known (λ (q : State). pure (converted_part q.table t at (AsValue w)))) r (Gives v r)
    (passes_one rule.Mismatch at (not (becomes r.table t (AsValue w))) (ap not h)) (ap (λ (u : TypedExpr). Gives u r) c)

module _ (T : Table) (basic : IsBasic T) (t : TypeId) (at : Place) (e : tree.Expr) (ge : IsGiven T e) (v : TypedExpr) (s : State) (b : Point) (count : ℕ) (here : IsHere T s)
    (there : IsType s.table t) (h : IsRead T e v (point_at s) b) (uses : AreUses (used_by T v) (length s.table) count) (room : HasRoom T (made_by v) s)
    (holds : expr_holds e ≤ 256) where
  -- what is returned is given, and converted to the result's type
  pub returned-given : IsConverted T at t v → IsGivenAs T (made_by v) (checked_value t at false e s) v s b count
  returned-given c =
      let g = plain-given T basic e ge v s b count here h c.plain uses room holds in
      let r : State = g.after in
      let w : TypedExpr = g.value.expr in
      let one = bind-gives (judge false e s) value g.value g.after g.gives in
      let still : IsType g.after.table t = let l = g.reached.grown.longer in omega (arith, l, there) in
      let first = g.reached.way.first in
      let known = g.reached.here.known.basic in
      let fit = fits-over g.after.table T first known (AsValue g.value.expr) t g.there still
      ∙ converted-fits T at t v (AsValue g.value.expr) c (alike-as T basic g.value.expr (bare v) g.same) in
      let conversion : implicit g.after.table g.value.expr t ≡ implicit T (bare v) t =
      implicit-over g.after.table T first known g.value.expr t g.there still ∙ ap (λ (u : TypedExpr). implicit T u t) g.same in
      let made : converted_to g.after.table at t g.value.expr ≡ v =
      (λ i. converted_by (conversion i) at t (g.same i)) ∙ converting_made (implicit T (bare v) t) at t (bare v) v c.made in
      let side : side_of g.value.expr ≡ AsValue g.value.expr = ap side_of g.same ∙ side-plain (bare v) c.plain ∙ ap AsValue (sym g.same) in
      record {
        after = g.after;
        gives = checks-value t at false e one.0 (AsValue g.value.expr) s one.1 g.after (Gives v g.after) one.2
            (returns_taken t one.0 g.value one.1 g.after one.3 ∙ ap (λ (y : Elaborated). Gives y g.after) side)
            (converted_is t at g.value.expr v g.after fit made);
        reached = g.reached;
      }

  -- so is a value that initialises, where the type takes no allocation over
  pub initialised-given : takes_over T b.scopes t v ≡ false → IsConverted T at t v → IsGivenAs T (made_by v) (checked_value t at true e s) v s b count
  initialised-given free c =
      let d = given-for T basic t e ge v s b count here h there uses room holds (λ f. no_true (sym free ∙ f)) (λ f. plain-simple T basic v c.plain) in
      let part : d.part ≡ AsValue (bare v) = d.plain free ∙ side-plain (bare v) c.plain in
      let inside = subst (IsPartThere d.after.table) part d.there in
      let still : IsType d.after.table t = let l = d.reached.grown.longer in omega (arith, l, there) in
      let first = d.reached.way.first in
      let known = d.reached.here.known.basic in
      let fit = fits-over d.after.table T first known (AsValue (bare v)) t inside still
      ∙ converted-fits T at t v (AsValue (bare v)) c (alike-as T basic (bare v) (bare v) refl) in
      let conversion : implicit d.after.table (bare v) t ≡ implicit T (bare v) t = implicit-over d.after.table T first known (bare v) t inside still in
      let made : converted_to d.after.table at t (bare v) ≡ v =
      ap (λ (o : Option Conversion). converted_by o at t (bare v)) conversion ∙ converting_made (implicit T (bare v) t) at t (bare v) v c.made in
      record {
        after = d.after;
        gives = checks-value t at true e d.operand (AsValue (bare v)) s d.between d.after (Gives v d.after) d.gives
            (initialises-taken t d.operand (AsValue (bare v)) d.between d.after (d.giving ∙ ap (λ (y : Elaborated). Gives y d.after) part))
            (converted_is t at (bare v) v d.after fit made);
        reached = d.reached;
      }

-- A struct that is not read

struct_is : (t : TypeId) (at : Place) (p : TypedPlace) (r : State) → becomes r.table t (AsPlace p) ≡ true → converted_value t at (AsPlace p) r ≡ Gives (typed.Unread p) r
unfolding converted_value
struct_is t at p r h =
    obeying-is (λ (q : State). value_tests q.table t at (AsPlace p)) (by_known (λ (q : State). pure (converted_part q.table t at (AsPlace p)))) r (Gives (typed.Unread p) r)
    (passes_one rule.Mismatch at (not (becomes r.table t (AsPlace p))) (ap not h)) refl

or_second : (a b : Bool) → b ≡ true → (a || b) ≡ true
or_second true b h = refl
or_second false b h = h

module _ (T : Table) (basic : IsBasic T) (t : TypeId) (at : Place) (e : tree.Expr) (ge : IsGiven T e) (p : TypedPlace) (s : State) (b : Point) (count : ℕ) (here : IsHere T s)
    (there : IsType s.table t) (h : IsReadPlace T e p (point_at s) b) (uses : AreUses (used_by_place T p) (length s.table) count) (room : HasRoom T (made_by_place p) s)
    (holds : expr_holds e ≤ 256) where
  -- a struct that initialises an object of its type is given
  pub copied-given : IsAggregate T (place_type p) → is_aggregate_shape (shape_at T t) ≡ true → is_same_type T t (place_type p) ≡ true
      → IsGivenAs T (made_by_place p) (checked_value t at true e s) (typed.Unread p) s b count
  copied-given aggregate shaped same =
      let d =
      given-for T basic t e ge (typed.Unread p) s b count here (unread-read T e p (point_at s) b h aggregate) there uses room holds (λ f. no_true f) (λ f. (refl, refl)) in
      let part : d.part ≡ AsPlace p = d.plain refl in
      let inside = subst (IsPartThere d.after.table) part d.there in
      let still : IsType d.after.table t = let l = d.reached.grown.longer in omega (arith, l, there) in
      let first = d.reached.way.first in
      let known = d.reached.here.known.basic in
      let become : becomes d.after.table t (AsPlace p) ≡ true =
      or_second (fits d.after.table (AsPlace p) (shape_at d.after.table t)) (is_aggregate_shape (shape_at d.after.table t) && is_same_type d.after.table t (place_type p))
      (and-both (is_aggregate_shape (shape_at d.after.table t)) (is_same_type d.after.table t (place_type p))
      (ap is_aggregate_shape (sym (first.shapes t still)) ∙ shaped) (same-over d.after.table T first known t (place_type p) still inside.type ∙ same)) in
      record {
        after = d.after;
        gives = checks-value t at true e d.operand (AsPlace p) s d.between d.after (Gives (typed.Unread p) d.after) d.gives
            (initialises-taken t d.operand (AsPlace p) d.between d.after (d.giving ∙ ap (λ (y : Elaborated). Gives y d.after) part)) (struct_is t at p d.after become);
        reached = d.reached;
      }
