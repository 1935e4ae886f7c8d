-- What initialises an object is given: an allocation that the object's type takes over, or a value that is converted to it (C99 6.7.8).
use Rattle.std.proofs.Common.{◌≡◌, ◌≤◌, ℕ, Bool, true, false, not, length, refl, ap, sym, subst, ◌∙◌, arith}
use Rattle.cc_base.specs.declared.fault.Rule.TheVariants as rule
use Rattle.cc_base.specs.declared.place.Place.{Place}
use Rattle.cc_base.specs.declared.number.TypeId.{TypeId}
use Rattle.c_types.specs.Table.{Table, IsType, shape_at}
use Rattle.c_tree.specs.Tree as tree
use Rattle.c_tree.specs.TypedTree.{TypedExpr}
use Rattle.c_tree.specs.TypedParts.{made_by}
use Rattle.c_typing.specs.Checking.{becomes, value_tests, converted_part, converted_value, checked_value}
use Rattle.c_typing.specs.Conversions.{takes_over, IsTakenOver, IsAssigned, IsAssignedBy}
use Rattle.c_typing.specs.Judging.{State, Gives, by_known, pure}
use Rattle.c_typing.specs.Settled.{IsBasic}
use Rattle.c_typing.specs.Tests.{Elaborated, AsAllocation, fits}
use Rattle.c_rules_alike.specs.PartsThere.{IsPartThere}
use Rattle.c_typing_laws.proofs.JudgedAssignments.{given-gives}
use Rattle.c_typing_laws.proofs.JudgedTrees.{expr-judged}
use Rattle.c_typing_laws.proofs.KeptTrees.{value-kept}
use Rattle.c_typing_laws.proofs.NumberedWhole.{checked_value-numbers}
use Rattle.c_typing_unique.specs.Points.{Point, IsRead}
use Rattle.c_typing_unique.proofs.Reading.{OfValue}
use Rattle.c_typing_unique.proofs.Shapes.{no_true}
use Rattle.c_typing_exact.proofs.ConversionPasses.{assigned-fits}
use Rattle.c_typing_exact.proofs.SameParts.{one, over_no_place}
use Rattle.c_typing_exact.proofs.Unbroken.{passes_one}
use Rattle.c_rules_alike.proofs.ConversionRules.{becomes-over}
use Rattle.c_unit_typing.specs.Holding.{expr_holds}
use Rattle.c_typing_given.specs.Given.{point_at, IsHere, IsGiven, IsGivenAs}
use Rattle.c_typing_given.specs.Spending.{HasRoom}
use Rattle.c_type_order.specs.TypesUsed.{AreUses, used_by}
use Rattle.c_typing_given.proofs.CheckedGiven.{checks-value, initialises-taken, initialised-given}
use Rattle.c_typing_given.proofs.GivenTo.{IsGivenFor, given-for, given-as}
use Rattle.c_typing_given.proofs.Settling.{numbered-at}
use Rattle.c_typing_given.proofs.Steps.{obeying-is}

block_is : (t : TypeId) (at : Place) (w : TypedExpr) (r : State) → becomes r.table t (AsAllocation w) ≡ true → converted_value t at (AsAllocation w) r ≡ Gives w r
unfolding converted_value
block_is t at w r h =
    obeying-is (λ (q : State). value_tests q.table t at (AsAllocation w)) (by_known (λ (q : State). pure (converted_part q.table t at (AsAllocation w)))) r (Gives w r)
    (passes_one rule.Mismatch at (not (becomes r.table t (AsAllocation w))) (ap not h)) refl

module _ (T : Table) (basic : IsBasic T) (t : TypeId) (at : Place) (e : tree.Expr) (ge : IsGiven T e) (v : TypedExpr) (s : State) (b : Point) (count : ℕ) (here : IsHere T s)
    (there : IsType s.table t) (h : IsRead T e v (point_at s) b) (uses : AreUses (used_by T v) (length s.table) count) (room : HasRoom T (made_by v) s)
    (holds : expr_holds e ≤ 256) where
  block_by : takes_over T b.scopes t v ≡ true → IsTakenOver t v → (d : IsGivenFor T basic t e v s b count) → (w : TypedExpr) → d.part ≡ AsAllocation w
      → IsGivenAs T (made_by v) (checked_value t at true e s) v s b count
  block_by q k d w part =
      let j = expr-judged e false d.operand s d.between here.known d.gives in
      let between : IsType d.between.table t = let l = j.judged.goes.extends.longer in omega (arith, l, there) in
      let still : IsType d.after.table t = let l = d.reached.grown.longer in omega (arith, l, there) in
      let giving = d.giving ∙ ap (λ (y : Elaborated). Gives y d.after) part in
      let own = (given-gives e t d.operand.place d.operand.part (AsAllocation w) s.seen.scopes d.between d.after j.judged.goes.known between j.judged.part giving).0 in
      let first = d.reached.way.first in
      let known = d.reached.here.known.basic in
      let std = given-as T basic t e v s b count d (λ f. no_true (sym f ∙ q)) in
      let fit =
      assigned-fits T basic b.scopes at t v d.part (takes_over T b.scopes t v) refl (subst (λ (c : Bool). IsAssignedBy c T at t v) (sym q) k) std.alike std.block in
      let become : becomes d.after.table t (AsAllocation w) ≡ true =
      becomes-over d.after.table T first known t (AsAllocation w) still (subst (λ (y : Elaborated). IsPartThere d.after.table y) part d.there)
      ∙ ap (λ (y : Elaborated). fits T y (shape_at T t)) (sym part) ∙ fit in
      let gives =
      checks-value t at true e d.operand (AsAllocation w) s d.between d.after (Gives w d.after) d.gives (initialises-taken t d.operand (AsAllocation w) d.between d.after giving)
      (block_is t at w d.after become) in
      let numbers = checked_value-numbers t at true e w s d.after here.known gives in
      let read : IsRead T e w (point_at s) (point_at d.after) = (
        own.erases,
        value-kept d.after.table T first known w s.seen.scopes d.after.seen.scopes own.typed,
        numbered-at T basic (made_by w) s d.after numbers,
      ) in
      let alike =
      one T basic e (OfValue w) (OfValue v) (point_at s) (point_at d.after) (point_at s) b (over_no_place w own.over, read) (over_no_place v k.over, h) refl here.own in
      let same : w ≡ v = alike.0.same (own.over ∙ sym k.over) (λ f. own.type ∙ sym k.type) in
      record { after = d.after; gives = gives ∙ ap (λ (x : TypedExpr). Gives x d.after) same; reached = d.reached }

  -- an allocation that the type takes over is given
  pub overtaken-given : takes_over T b.scopes t v ≡ true → IsTakenOver t v → IsGivenAs T (made_by v) (checked_value t at true e s) v s b count
  overtaken-given q k =
      let d = given-for T basic t e ge v s b count here h there uses room holds (λ f. k.over) (λ f. no_true (sym f ∙ q)) in
      let w = d.block q in
      block_by q k d w.0 w.1

  pub assigned-given : IsAssigned T b.scopes at t v → IsGivenAs T (made_by v) (checked_value t at true e s) v s b count
  assigned-given a = by (takes_over T b.scopes t v) refl a
    where
      by : (c : Bool) → takes_over T b.scopes t v ≡ c → IsAssignedBy c T at t v → IsGivenAs T (made_by v) (checked_value t at true e s) v s b count
      by true q k = overtaken-given q k
      by false q k = initialised-given T basic t at e ge v s b count here there h uses room holds q k
