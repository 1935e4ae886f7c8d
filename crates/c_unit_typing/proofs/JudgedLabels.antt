-- What judging gives for labels, and for `break` and `continue`.
use Rattle.std.proofs.Common.{◌≡◌, ℤ, ◌==◌, Bool, true, false, not, List, [], ◌∷◌, ◌++◌, Option, Some, None, ap, sym, ◌∙◌, true≢false, arith}
use Rattle.std.specs.List.{list_any}
use Rattle.std.specs.Ordering.{int_eq}
use Rattle.std.proofs.lemmas.Bool.Decides.{nat_tests, Decides-int_eq}
use Rattle.std.proofs.lemmas.List.Elements.{All-nil, All-cons, All-append}
use Rattle.std.proofs.lemmas.Option.{none-some}
use Rattle.cc_base.specs.declared.place.Place.{Place}
use Rattle.cc_base.specs.declared.number.TypeId.{TypeId}
use Rattle.cc_base.specs.declared.fault.Fault.TheVariants.{Refused, TooLarge}
use Rattle.cc_base.specs.declared.fault.Limit.TheVariants.{Types}
use Rattle.cc_base.specs.declared.fault.Rule.TheVariants as rule
use Rattle.c_types.specs.declared.shape.TypeShape.{TypeShape}
use Rattle.c_types.specs.Table.{Table}
use Rattle.c_tree.specs.Tree as tree
use Rattle.c_tree.specs.TypedTree as typed
use Rattle.c_tree.specs.TypedTree.{TypedExpr, TypedStatement, TypedBlockItems}
use Rattle.c_tree.specs.TypedParts.{made_by, made_by_block_items}
use Rattle.integers.specs.Arithmetic.{IntegerType}
use Rattle.c_typing.specs.Checking.{checked_constant}
use Rattle.c_typing.specs.Constants.{constant_value}
use Rattle.c_typing.specs.Conversions.{is_plain, is_droppable}
use Rattle.c_typing.specs.Shapes.{integer_at, integer_of_shape}
use Rattle.c_typing.specs.Tests.{first_broken, broken_at}
use Rattle.c_typing_laws.proofs.ConstructLaws.{one_unbroken, not_false, or_left, or_right}
use Rattle.c_typing_laws.proofs.ExtensionLaws.{still_in}
use Rattle.c_typing_laws.proofs.JudgedWhole.{constant-judged}
use Rattle.c_typing_laws.proofs.KeptConstants.{constant-kept, own-plain}
use Rattle.c_typing_laws.proofs.KeptTrees.{value-kept}
use Rattle.c_typing_laws.proofs.NumberedWhole.{constant-numbers}
use Rattle.c_typing_laws.proofs.TableGrowth.{extended_trans}
use Rattle.c_type_order.specs.TypesUsed.{used_by}
use Rattle.c_type_order.proofs.Uses.{then_used}
use Rattle.c_type_order.proofs.UsedWhole.{constant-used}
use Rattle.c_unit_typing.specs.StatementJudging.{label_as, labelled, case_label, default_label, jump}
use Rattle.c_unit_typing.specs.UnitJudged.{state_of, IsOnInteger, IsStatementJudged, IsSwitchThere, AreBlockItemsJudged}
use Rattle.c_unit_typing.specs.UnitJudging.{UnitState, Gives, known_of, pure, lifted}
use Rattle.c_unit_typing.specs.UnitRefusals.{converted_label, jump_tests, AreItemsSoFar, IsLabelSoFar}
use Rattle.c_unit_typing.specs.Units.{Known, Around, labels_of, defaults_in, AreBlockItems, AreDifferent, IsLabel}
use Rattle.c_unit_typing.proofs.JudgedTests.{scopes-alone}
use Rattle.c_unit_typing.proofs.UnitOutcomes.{never-gives, bind-gives, unless-gives, given-same, lifted-gives}
use Rattle.c_unit_typing.proofs.UnitStates.{numbers-on, numbers-rise, linkage-stays, unit-on}
use Rattle.c_unit_typing.specs.TypesUsed.{used_by_block_items}

-- `break` and `continue`

pub jump-judged : (at : Place) (allowed : Bool) (a : Around) (t : tree.Statement) (v one : TypedStatement) (s r : UnitState)
    → (allowed ≡ true → IsStatementJudged a t v s s) → jump at allowed v s ≡ Gives one r → IsStatementJudged a t one s r
unfolding jump
jump-judged at allowed a t v one s r made h =
    let go = unless-gives (first_broken (jump_tests at allowed)) (pure v) s one r h in
    given-same (λ (w : TypedStatement) (q : UnitState). IsStatementJudged a t w s q) v one s r go.1
    (made (not_false allowed (one_unbroken (not allowed) (Refused at rule.Mismatch) go.0)))

-- Labels

different_after : (labels : List ℤ) (z : ℤ) → list_any (λ each. int_eq z each) labels ≡ false → AreDifferent labels → AreDifferent (labels ++ z ∷ [])
different_after [] z n h = (All-nil (λ (other : ℤ). z ≡ other → ⊥), tt)
different_after (y ∷ ys) z n h = (
  All-append (λ (other : ℤ). y ≡ other → ⊥) ys (z ∷ []) h.0
      (All-cons (λ (other : ℤ). y ≡ other → ⊥) z []
      (λ q. true≢false (sym ((Decides-int_eq z y).1 (sym q)) ∙ or_left (int_eq z y) (list_any (λ each. int_eq z each) ys) n))
      (All-nil (λ (other : ℤ). y ≡ other → ⊥))),
  different_after ys z (or_right (int_eq z y) (list_any (λ each. int_eq z each) ys) n) h.1,
)

-- an expression with a value is no struct
constant-plain : (T : Table) (e : TypedExpr) (z : ℤ) → is_droppable e ≡ true → constant_value T e ≡ Some z → is_plain e ≡ true
constant-plain T (typed.Unread p) z d h = absurd (none-some z h)
constant-plain T e z d h = d

-- a label of a `switch` on an integer is well typed, and so is all that its block holds
label_on : (T : Table) (on : Option TypeId) (e : TypedExpr) (value : ℤ) → IsOnInteger T on → IsLabelSoFar T on e value → IsLabel T on e value
label_on T None e value k h = h
label_on T (Some t) e value k h = (k.0, h.0, h.1, k.1, h.2, h.3 ∙ ap (λ (o : Option IntegerType). converted_label o h.0) k.1)

pub items-on : (T : Table) (a : Around) (on : Option TypeId) → IsOnInteger T on → (list : TypedBlockItems) (k k' : Known) → AreItemsSoFar T a on list k k' → AreBlockItems T a on list k k'
items-on T a on i typed.NoBlockItem k k' h = h
items-on T a on i (typed.AndStatement all s) k k' h = (h.0, items-on T a on i all k h.0 h.1, h.2)
items-on T a on i (typed.AndDeclaration all d) k k' h = (h.0, items-on T a on i all k h.0 h.1, h.2)
items-on T a on i (typed.AndCase all at e value) k k' h = (h.0, h.1, items-on T a on i all k h.0 h.2, h.3, label_on T on e value i h.4, h.5)
items-on T a on i (typed.AndDefault all at) k k' h = items-on T a on i all k k' h

pub case-judged : (a : Around) (on : Option TypeId) (all : tree.BlockItems) (before list : TypedBlockItems) (at : Place) (e : tree.Expr) (s m r : UnitState) → IsSwitchThere s.table on
    → AreBlockItemsJudged a on all before s m → case_label on at e before m ≡ Gives list r → AreBlockItemsJudged a on (tree.AndCase all at e) list s r
unfolding case_label labelled
case-judged a None all before list at e s m r there j h =
    let one = bind-gives (lifted (checked_constant e) m) (λ c. λ q. labelled at (labels_of before) before c.expr (label_as q.table None c.value) q) list r h in
    never-gives list (TooLarge at Types) one.1 r one.3
case-judged a (Some t) all before list at e s m r there j h =
    let one = bind-gives (lifted (checked_constant e) m) (λ c. λ q. labelled at (labels_of before) before c.expr (label_as q.table (Some t) c.value) q) list r h in
    let c = one.0 in
    let n = one.1 in
    let l = lifted-gives (checked_constant e) c m n one.2 in
    let v = constant-judged e c (state_of m) (state_of n) j.goes.known.known l.0 in
    let made = constant-numbers e c (state_of m) (state_of n) j.goes.known.known l.0 in
    let z : ℤ = converted_label (integer_at n.table t) c.value in
    let same : Bool = list_any (λ each. int_eq z each) (labels_of before) in
    let go = unless-gives (first_broken (broken_at rule.Redeclared at same ∷ [])) (pure (typed.AndCase before at c.expr z)) n list r one.3 in
    let new = one_unbroken same (Refused at rule.Redeclared) go.0 in
    let plain = constant-plain n.table c.expr c.value v.checked.droppable v.value in
    let basic = v.checked.goes.known.basic in
    let still = still_in m.table n.table v.checked.goes.extends t (still_in s.table m.table j.goes.goes.extends t there) in
    given-same (λ (w : TypedBlockItems) (p : UnitState). AreBlockItemsJudged a (Some t) (tree.AndCase all at e) w s p) (typed.AndCase before at c.expr z) list n r go.1 (record {
      typed = λ U x. (
        known_of m,
        n.seen.scopes,
        j.typed U (extended_trans m.table n.table U v.checked.goes.extends x),
        value-kept n.table U x basic c.expr m.seen.scopes n.seen.scopes v.checked.typed,
        (
          c.value,
          plain,
          constant-kept n.table U x basic c.expr m.seen.scopes n.seen.scopes v.checked.typed (own-plain n.table c.expr plain) ∙ v.value,
          ap (λ (y : TypeShape). converted_label (integer_of_shape y) c.value) (sym (x.shapes t still)),
        ),
        scopes-alone m n l.1,
      );
      labels = different_after (labels_of before) z new j.labels;
      defaults = j.defaults;
      erases = λ i. tree.AndCase (j.erases i) at (v.checked.erases i);
      numbers = numbers-on (made_by_block_items before) (made_by c.expr) (state_of s) (state_of m) (state_of n) j.numbers made;
      types = then_used (λ U. used_by_block_items U before) (λ U. used_by U c.expr) s.table m.table n.table j.types
          (constant-used e c (state_of m) (state_of n) j.goes.known.known l.0);
      goes = unit-on s m n j.goes (linkage-stays m n j.goes.known v.checked.goes l.1 (numbers-rise (made_by c.expr) (state_of m) (state_of n) made));
    })

pub default-judged : (a : Around) (on : Option TypeId) (all : tree.BlockItems) (before list : TypedBlockItems) (at : Place) (s m r : UnitState)
    → AreBlockItemsJudged a on all before s m → default_label at before m ≡ Gives list r → AreBlockItemsJudged a on (tree.AndDefault all at) list s r
unfolding default_label
default-judged a on all before list at s m r j h =
    let none : Bool = defaults_in before == 0 in
    let go = unless-gives (first_broken (broken_at rule.Redeclared at (not none) ∷ [])) (pure (typed.AndDefault before at)) m list r h in
    let yes : none ≡ true = not_false none (one_unbroken (not none) (Refused at rule.Redeclared) go.0) in
    let zero : defaults_in before ≡ 0 = grind (arith, nat_tests) in
    given-same (λ (w : TypedBlockItems) (p : UnitState). AreBlockItemsJudged a on (tree.AndDefault all at) w s p) (typed.AndDefault before at) list m r go.1 (record {
      typed = λ U x. j.typed U x;
      labels = j.labels;
      defaults = omega (arith, zero);
      erases = ap (λ (w : tree.BlockItems). tree.AndDefault w at) j.erases;
      numbers = j.numbers;
      types = j.types;
      goes = j.goes;
    })
