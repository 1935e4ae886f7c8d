-- What judging counts of a statement is the bytes of all that lasts in it.
use Rattle.std.proofs.Common.{◌≡◌, ℤ, ◌==◌, Bool, false, not, List, [], ◌∷◌, ◌++◌, Option, Some, None, subst}
use Rattle.cc_base.specs.declared.place.Place.{Place}
use Rattle.cc_base.specs.declared.number.TypeId.{TypeId}
use Rattle.cc_base.specs.declared.fault.Fault.TheVariants.{TooLarge}
use Rattle.cc_base.specs.declared.fault.Limit.TheVariants.{Types}
use Rattle.cc_base.specs.declared.fault.Rule.TheVariants as rule
use Rattle.c_tree.specs.Tree as tree
use Rattle.c_tree.specs.TypedTree as typed
use Rattle.c_tree.specs.TypedTree.{TypedExpr, TypedStatement, TypedBlockItems}
use Rattle.c_tree.specs.TypedParts.{Made, type_of, made_by, made_by_optional, made_by_declaration, made_by_statement, made_by_block_items}
use Rattle.c_typing.specs.Checking.{checked, checked_constant}
use Rattle.c_typing.specs.Declaring.{entered, left}
use Rattle.c_typing.specs.Shapes.{integer_at}
use Rattle.c_typing.specs.Tests.{AsValue, first_broken, broken_at}
use Rattle.c_typing_laws.proofs.ExtensionLaws.{still_in}
use Rattle.c_unit_typing.specs.DeclarationJudging.{judge_declaration}
use Rattle.c_unit_typing.specs.StatementJudging.{dropped, returned, promoted_by, promotion, tested, tested_or_none, switched, label_as, labelled, case_label, default_label, jump, within, judge_statement, judge_block_items}
use Rattle.c_unit_typing.specs.UnitJudged.{IsResult, IsSwitchThere, IsUnitKnown}
use Rattle.c_unit_typing.specs.UnitJudging.{UnitState, UnitJudging, Gives, next, pure, lifted}
use Rattle.c_unit_typing.specs.UnitRefusals.{condition_tests, jump_tests, switch_tests}
use Rattle.c_unit_typing.specs.Units.{Around, in_a_loop, in_a_switch, labels_of, defaults_in}
use Rattle.c_unit_typing.proofs.JudgedDeclarations.{declaration-judged}
use Rattle.c_unit_typing.proofs.JudgedStatements.{result-kept, value-part, dropped-part, statement-judged, items-judged}
use Rattle.c_unit_typing.proofs.JudgedSwitches.{switch-there}
use Rattle.c_unit_typing.proofs.Scoped.{IsWithin, within-gives, sub-judged}
use Rattle.c_unit_typing.proofs.UnitStates.{unit-on}
use Rattle.c_unit_typing.proofs.UnitOutcomes.{never-gives, bind-gives, unless-gives, given-same}
use Rattle.c_unit_limits.proofs.KeptTypes.{entered-kept, left-kept}
use Rattle.c_unit_limits.proofs.LastingDeclarations.{declaration-lasts}
use Rattle.c_unit_limits.proofs.LastingSteps.{Lasts, lasts-none, lasts-on, lasts-inside, lifted-still, value-lasts, switched-lasts, dropped-lasts, returned-lasts, constant-lasts}

-- A statement's own rule, once it is kept, changes nothing

pub tested_same : (at : Place) (c : TypedExpr) (one whole : TypedStatement) (s r : UnitState) → tested at c one s ≡ Gives whole r → Gives one s ≡ Gives whole r
unfolding tested
tested_same at c one whole s r h = (unless-gives (first_broken (condition_tests s.table at (AsValue c))) (pure one) s whole r h).1

pub tested_or_none_same : (at : Place) (c : Option TypedExpr) (one whole : TypedStatement) (s r : UnitState) → tested_or_none at c one s ≡ Gives whole r → Gives one s ≡ Gives whole r
unfolding tested_or_none
tested_or_none_same at None one whole s r h = h
tested_or_none_same at (Some c) one whole s r h = tested_same at c one whole s r h

pub switched_same : (at : Place) (c : TypedExpr) (one whole : TypedStatement) (s r : UnitState) → switched at c one s ≡ Gives whole r → Gives one s ≡ Gives whole r
unfolding switched
switched_same at c one whole s r h = (unless-gives (first_broken (switch_tests s.table at (AsValue c))) (pure one) s whole r h).1

pub jump_same : (at : Place) (allowed : Bool) (one whole : TypedStatement) (s r : UnitState) → jump at allowed one s ≡ Gives whole r → Gives one s ≡ Gives whole r
unfolding jump
jump_same at allowed one whole s r h = (unless-gives (first_broken (jump_tests at allowed)) (pure one) s whole r h).1

-- Labels

pub labelled_same : (at : Place) (labels : List ℤ) (before list : TypedBlockItems) (e : TypedExpr) (o : Option ℤ) (s r : UnitState) → labelled at labels before e o s ≡ Gives list r
    → (z : ℤ) × (Gives (typed.AndCase before at e z) s ≡ Gives list r)
unfolding labelled
labelled_same at labels before list e None s r h = never-gives list (TooLarge at Types) s r h
labelled_same at labels before list e (Some z) s r h = (z, (unless-gives _ (pure (typed.AndCase before at e z)) s list r h).1)

case_lasts : (on : Option TypeId) (at : Place) (e : tree.Expr) (before list : TypedBlockItems) (s m r : UnitState) → IsUnitKnown m → Lasts (made_by_block_items before) s m
    → case_label on at e before m ≡ Gives list r → Lasts (made_by_block_items list) s r
unfolding case_label
case_lasts on at e before list s m r k made h =
    let one = bind-gives (lifted (checked_constant e) m) (λ c. λ q. labelled at (labels_of before) before c.expr (label_as q.table on c.value) q) list r h in
    let c = one.0 in
    let n = one.1 in
    let v = constant-lasts e c m n k one.2 in
    let same = labelled_same at (labels_of before) before list c.expr (label_as n.table on c.value) n r one.3 in
    given-same (λ (w : TypedBlockItems) (q : UnitState). Lasts (made_by_block_items w) s q) (typed.AndCase before at c.expr same.0) list n r same.1
    (lasts-on (made_by_block_items before) (made_by c.expr) s m n made v.0 v.1)

default_lasts : (at : Place) (before list : TypedBlockItems) (s m r : UnitState) → Lasts (made_by_block_items before) s m → default_label at before m ≡ Gives list r
    → Lasts (made_by_block_items list) s r
unfolding default_label
default_lasts at before list s m r made h =
    let go = unless-gives (first_broken (broken_at rule.Redeclared at (not (defaults_in before == 0)) ∷ [])) (pure (typed.AndDefault before at)) m list r h in
    given-same (λ (w : TypedBlockItems) (q : UnitState). Lasts (made_by_block_items w) s q) (typed.AndDefault before at) list m r go.1 made

-- Statements

-- what a statement becomes, where it is given
becomes : (v one : TypedStatement) (s q r : UnitState) → Gives v q ≡ Gives one r → Lasts (made_by_statement v) s q → Lasts (made_by_statement one) s r
becomes v one s q r h made = given-same (λ (w : TypedStatement) (p : UnitState). Lasts (made_by_statement w) s p) v one q r h made

known-at : (v one : TypedStatement) (q r : UnitState) → Gives v q ≡ Gives one r → IsUnitKnown q → IsUnitKnown r
known-at v one q r h k = given-same (λ (w : TypedStatement) (p : UnitState). IsUnitKnown p) v one q r h k

-- what stands in a scope of its own
within-lasts : {A : Type 0} (at : Place) (go : UnitJudging A) (whole : A) (s r : UnitState) (made : A → List Made) (w : IsWithin at go whole s r) → IsUnitKnown w.last
    → Lasts (made w.one) w.first w.last → Lasts (made whole) s r
within-lasts at go whole s r made w k h =
    subst (λ (v : _). Lasts (made v) s r) (w.ends k).same
    (lasts-inside (made w.one) s w.first w.last r (lifted-still entered entered-kept w.flag s w.first w.enters) h
    (lifted-still (left at w.one) (left-kept at w.one) whole w.last r w.leaves) (w.ends k).on.goes.extends)

sub-lasts : (at : Place) (a : Around) (t : tree.Statement) (one : TypedStatement) (s r : UnitState) → IsUnitKnown s → IsResult s.table a.result
    → ((v : TypedStatement) (x y : UnitState) → IsUnitKnown x → IsResult x.table a.result → judge_statement a t x ≡ Gives v y → Lasts (made_by_statement v) x y)
    → within at (judge_statement a t) s ≡ Gives one r → Lasts (made_by_statement one) s r
sub-lasts at a t one s r k b moves h =
    let w = within-gives at (judge_statement a t) one s r k h in
    let b1 = result-kept s.table w.first.table a.result w.on.goes.extends b in
    within-lasts at (judge_statement a t) one s r made_by_statement w (statement-judged t a w.one w.first w.last w.on.known b1 w.gives).goes.known (moves w.one w.first w.last w.on.known b1 w.gives)

mutual
  unfolding judge_statement judge_block_items promotion

  pub statement-lasts : (t : tree.Statement) (a : Around) (one : TypedStatement) (s r : UnitState) → IsUnitKnown s → IsResult s.table a.result → judge_statement a t s ≡ Gives one r
      → Lasts (made_by_statement one) s r
  statement-lasts (tree.Block brace items) a one s r k b h =
      let w = within-gives brace (λ m. next (judge_block_items a None items m) (λ list. pure (typed.Block brace list))) one s r k h in
      let e = bind-gives (judge_block_items a None items w.first) (λ list. pure (typed.Block brace list)) w.one w.last w.gives in
      let b1 = result-kept s.table w.first.table a.result w.on.goes.extends b in
      let j = items-judged items a None e.0 w.first e.1 w.on.known b1 tt e.2 in
      let made = becomes (typed.Block brace e.0) w.one w.first e.1 w.last e.3 (items-last items a None e.0 w.first e.1 w.on.known b1 tt e.2) in
      within-lasts brace (λ m. next (judge_block_items a None items m) (λ list. pure (typed.Block brace list))) one s r made_by_statement w (known-at (typed.Block brace e.0) w.one e.1 w.last e.3 j.goes.known) made
  statement-lasts (tree.Express e) a one s r k b h =
      let e1 = bind-gives (lifted (checked e) s) (λ v. pure (typed.Express v)) one r h in
      becomes (typed.Express e1.0) one s e1.1 r e1.3 (value-lasts e e1.0 s e1.1 k e1.2)
  statement-lasts tree.Empty a one s r k b h = becomes typed.Empty one s s r h (lasts-none s)
  statement-lasts (tree.If at paren c t) a one s r k b h =
      let w = within-gives at (λ m. next (lifted (checked c) m) (λ test. λ n. next (within at (judge_statement a t) n) (λ inner. tested at test (typed.If at paren test inner)))) one s r k h in
      let b0 = result-kept s.table w.first.table a.result w.on.goes.extends b in
      let e1 = bind-gives (lifted (checked c) w.first) (λ test. λ n. next (within at (judge_statement a t) n) (λ inner. tested at test (typed.If at paren test inner))) w.one w.last w.gives in
      let j = value-part c e1.0 w.first e1.1 w.on.known e1.2 in
      let b1 = result-kept w.first.table e1.1.table a.result j.goes.goes.extends b0 in
      let e2 = bind-gives (within at (judge_statement a t) e1.1) (λ inner. tested at e1.0 (typed.If at paren e1.0 inner)) w.one w.last e1.3 in
      let i = sub-judged at a t e2.0 e1.1 e2.1 j.goes.known b1 (λ v x y. statement-judged t a v x y) e2.2 in
      let same = tested_same at e1.0 (typed.If at paren e1.0 e2.0) w.one e2.1 w.last e2.3 in
      let made = becomes (typed.If at paren e1.0 e2.0) w.one w.first e2.1 w.last same in
      within-lasts at (λ m. next (lifted (checked c) m) (λ test. λ n. next (within at (judge_statement a t) n) (λ inner. tested at test (typed.If at paren test inner)))) one s r made_by_statement w (known-at (typed.If at paren e1.0 e2.0) w.one e2.1 w.last same i.goes.known)
      (made
      (lasts-on (made_by e1.0) (made_by_statement e2.0) w.first e1.1 e2.1 (value-lasts c e1.0 w.first e1.1 w.on.known e1.2) (sub-lasts at a t e2.0 e1.1 e2.1 j.goes.known b1 (λ v x y. statement-lasts t a v x y) e2.2) i.goes.goes.extends))
  statement-lasts (tree.IfElse at paren c t u) a one s r k b h =
      let w = within-gives at (λ m. next (lifted (checked c) m) (λ test. λ n. next (within at (judge_statement a t) n) (λ inner. λ o. next (within at (judge_statement a u) o) (λ other. tested at test (typed.IfElse at paren test inner other))))) one s r k h in
      let b0 = result-kept s.table w.first.table a.result w.on.goes.extends b in
      let e1 = bind-gives (lifted (checked c) w.first)
      (λ test. λ n. next (within at (judge_statement a t) n) (λ inner. λ o. next (within at (judge_statement a u) o) (λ other. tested at test (typed.IfElse at paren test inner other)))) w.one w.last w.gives in
      let j = value-part c e1.0 w.first e1.1 w.on.known e1.2 in
      let b1 = result-kept w.first.table e1.1.table a.result j.goes.goes.extends b0 in
      let e2 = bind-gives (within at (judge_statement a t) e1.1) (λ inner. λ o. next (within at (judge_statement a u) o) (λ other. tested at e1.0 (typed.IfElse at paren e1.0 inner other))) w.one w.last e1.3 in
      let i = sub-judged at a t e2.0 e1.1 e2.1 j.goes.known b1 (λ v x y. statement-judged t a v x y) e2.2 in
      let b2 = result-kept e1.1.table e2.1.table a.result i.goes.goes.extends b1 in
      let e3 = bind-gives (within at (judge_statement a u) e2.1) (λ other. tested at e1.0 (typed.IfElse at paren e1.0 e2.0 other)) w.one w.last e2.3 in
      let o = sub-judged at a u e3.0 e2.1 e3.1 i.goes.known b2 (λ v x y. statement-judged u a v x y) e3.2 in
      let same = tested_same at e1.0 (typed.IfElse at paren e1.0 e2.0 e3.0) w.one e3.1 w.last e3.3 in
      let made = becomes (typed.IfElse at paren e1.0 e2.0 e3.0) w.one w.first e3.1 w.last same in
      within-lasts at (λ m. next (lifted (checked c) m) (λ test. λ n. next (within at (judge_statement a t) n) (λ inner. λ o. next (within at (judge_statement a u) o) (λ other. tested at test (typed.IfElse at paren test inner other))))) one s r made_by_statement w (known-at (typed.IfElse at paren e1.0 e2.0 e3.0) w.one e3.1 w.last same o.goes.known)
      (made
      (lasts-on (made_by e1.0 ++ made_by_statement e2.0) (made_by_statement e3.0) w.first e2.1 e3.1
      (lasts-on (made_by e1.0) (made_by_statement e2.0) w.first e1.1 e2.1 (value-lasts c e1.0 w.first e1.1 w.on.known e1.2) (sub-lasts at a t e2.0 e1.1 e2.1 j.goes.known b1 (λ v x y. statement-lasts t a v x y) e2.2) i.goes.goes.extends)
      (sub-lasts at a u e3.0 e2.1 e3.1 i.goes.known b2 (λ v x y. statement-lasts u a v x y) e3.2) o.goes.goes.extends))
  statement-lasts (tree.Switch at paren e brace items) a one s r k b h =
      let w = within-gives at (λ l. next (lifted (checked e) l) (λ c. λ m. next (promotion at c m) (λ on. λ n. next (within brace (judge_block_items (in_a_switch a) (Some (type_of on)) items) n) (λ list. switched at c (typed.Switch at paren on brace list))))) one s r k h in
      let b0 = result-kept s.table w.first.table a.result w.on.goes.extends b in
      let e1 = bind-gives (lifted (checked e) w.first)
      (λ c. λ m. next (promotion at c m) (λ on. λ n. next (within brace (judge_block_items (in_a_switch a) (Some (type_of on)) items) n) (λ list. switched at c (typed.Switch at paren on brace list)))) w.one w.last w.gives in
      let c = e1.0 in
      let on : TypedExpr = promoted_by at c (integer_at e1.1.table (type_of c)) in
      let f : Around = in_a_switch a in
      let v = value-part e c w.first e1.1 w.on.known e1.2 in
      let e2 = bind-gives (within brace (judge_block_items f (Some (type_of on)) items) e1.1) (λ list. switched at c (typed.Switch at paren on brace list)) w.one w.last e1.3 in
      let u = within-gives brace (judge_block_items f (Some (type_of on)) items) e2.0 e1.1 e2.1 v.goes.known e2.2 in
      let b2 = result-kept e1.1.table u.first.table a.result u.on.goes.extends (result-kept w.first.table e1.1.table a.result v.goes.goes.extends b0) in
      let there = still_in e1.1.table u.first.table u.on.goes.extends (type_of on) (switch-there at e c w.first e1.1 w.on.known.known e1.2).1 in
      let i = items-judged items f (Some (type_of on)) u.one u.first u.last u.on.known b2 there u.gives in
      let out = u.ends i.goes.known in
      let inner = unit-on e1.1 u.first e2.1 u.on (unit-on u.first u.last e2.1 i.goes out.on) in
      let same = switched_same at c (typed.Switch at paren on brace e2.0) w.one e2.1 w.last e2.3 in
      let made = becomes (typed.Switch at paren on brace e2.0) w.one w.first e2.1 w.last same in
      within-lasts at (λ l. next (lifted (checked e) l) (λ c. λ m. next (promotion at c m) (λ on. λ n. next (within brace (judge_block_items (in_a_switch a) (Some (type_of on)) items) n) (λ list. switched at c (typed.Switch at paren on brace list))))) one s r made_by_statement w (known-at (typed.Switch at paren on brace e2.0) w.one e2.1 w.last same out.on.known)
      (made
      (lasts-on (made_by on) (made_by_block_items e2.0) w.first e1.1 e2.1 (switched-lasts at e c w.first e1.1 w.on.known e1.2)
      (within-lasts brace (judge_block_items f (Some (type_of on)) items) e2.0 e1.1 e2.1 made_by_block_items u i.goes.known
      (items-last items f (Some (type_of on)) u.one u.first u.last u.on.known b2 there u.gives)) inner.goes.extends))
  statement-lasts (tree.While at paren c t) a one s r k b h =
      let w = within-gives at (λ m. next (lifted (checked c) m) (λ test. λ n. next (within at (judge_statement (in_a_loop a) t) n) (λ inner. tested at test (typed.While at paren test inner)))) one s r k h in
      let b0 = result-kept s.table w.first.table a.result w.on.goes.extends b in
      let e1 = bind-gives (lifted (checked c) w.first) (λ test. λ n. next (within at (judge_statement (in_a_loop a) t) n) (λ inner. tested at test (typed.While at paren test inner))) w.one w.last w.gives in
      let j = value-part c e1.0 w.first e1.1 w.on.known e1.2 in
      let b1 = result-kept w.first.table e1.1.table a.result j.goes.goes.extends b0 in
      let e2 = bind-gives (within at (judge_statement (in_a_loop a) t) e1.1) (λ inner. tested at e1.0 (typed.While at paren e1.0 inner)) w.one w.last e1.3 in
      let i = sub-judged at (in_a_loop a) t e2.0 e1.1 e2.1 j.goes.known b1 (λ v x y. statement-judged t (in_a_loop a) v x y) e2.2 in
      let same = tested_same at e1.0 (typed.While at paren e1.0 e2.0) w.one e2.1 w.last e2.3 in
      let made = becomes (typed.While at paren e1.0 e2.0) w.one w.first e2.1 w.last same in
      within-lasts at (λ m. next (lifted (checked c) m) (λ test. λ n. next (within at (judge_statement (in_a_loop a) t) n) (λ inner. tested at test (typed.While at paren test inner)))) one s r made_by_statement w (known-at (typed.While at paren e1.0 e2.0) w.one e2.1 w.last same i.goes.known)
      (made
      (lasts-on (made_by e1.0) (made_by_statement e2.0) w.first e1.1 e2.1 (value-lasts c e1.0 w.first e1.1 w.on.known e1.2) (sub-lasts at (in_a_loop a) t e2.0 e1.1 e2.1 j.goes.known b1 (λ v x y. statement-lasts t (in_a_loop a) v x y) e2.2) i.goes.goes.extends))
  statement-lasts (tree.DoWhile t at paren c) a one s r k b h =
      let w = within-gives at (λ m. next (within at (judge_statement (in_a_loop a) t) m) (λ inner. λ n. next (lifted (checked c) n) (λ test. tested at test (typed.DoWhile inner at paren test)))) one s r k h in
      let b0 = result-kept s.table w.first.table a.result w.on.goes.extends b in
      let e1 = bind-gives (within at (judge_statement (in_a_loop a) t) w.first) (λ inner. λ n. next (lifted (checked c) n) (λ test. tested at test (typed.DoWhile inner at paren test))) w.one w.last w.gives in
      let i = sub-judged at (in_a_loop a) t e1.0 w.first e1.1 w.on.known b0 (λ v x y. statement-judged t (in_a_loop a) v x y) e1.2 in
      let e2 = bind-gives (lifted (checked c) e1.1) (λ test. tested at test (typed.DoWhile e1.0 at paren test)) w.one w.last e1.3 in
      let j = value-part c e2.0 e1.1 e2.1 i.goes.known e2.2 in
      let same = tested_same at e2.0 (typed.DoWhile e1.0 at paren e2.0) w.one e2.1 w.last e2.3 in
      let made = becomes (typed.DoWhile e1.0 at paren e2.0) w.one w.first e2.1 w.last same in
      within-lasts at (λ m. next (within at (judge_statement (in_a_loop a) t) m) (λ inner. λ n. next (lifted (checked c) n) (λ test. tested at test (typed.DoWhile inner at paren test)))) one s r made_by_statement w (known-at (typed.DoWhile e1.0 at paren e2.0) w.one e2.1 w.last same j.goes.known)
      (made
      (lasts-on (made_by_statement e1.0) (made_by e2.0) w.first e1.1 e2.1 (sub-lasts at (in_a_loop a) t e1.0 w.first e1.1 w.on.known b0 (λ v x y. statement-lasts t (in_a_loop a) v x y) e1.2) (value-lasts c e2.0 e1.1 e2.1 i.goes.known e2.2) j.goes.goes.extends))
  statement-lasts (tree.For at paren first test step t) a one s r k b h =
      let w = within-gives at (λ m. next (dropped first m) (λ f. λ n. next (dropped test n) (λ c. λ o. next (dropped step o) (λ g. λ q. next (within at (judge_statement (in_a_loop a) t) q) (λ inner. tested_or_none at c (typed.For at paren f c g inner)))))) one s r k h in
      let b0 = result-kept s.table w.first.table a.result w.on.goes.extends b in
      let e1 = bind-gives (dropped first w.first) (λ f. λ n. next (dropped test n) (λ c. λ o. next (dropped step o) (λ g. λ q. next (within at (judge_statement (in_a_loop a) t) q) (λ inner. tested_or_none at c (typed.For at paren f c g inner))))) w.one w.last w.gives in
      let j1 = dropped-part first e1.0 w.first e1.1 w.on.known e1.2 in
      let b1 = result-kept w.first.table e1.1.table a.result j1.goes.goes.extends b0 in
      let e2 = bind-gives (dropped test e1.1) (λ c. λ o. next (dropped step o) (λ g. λ q.
      next (within at (judge_statement (in_a_loop a) t) q) (λ inner. tested_or_none at c (typed.For at paren e1.0 c g inner)))) w.one w.last e1.3 in
      let j2 = dropped-part test e2.0 e1.1 e2.1 j1.goes.known e2.2 in
      let b2 = result-kept e1.1.table e2.1.table a.result j2.goes.goes.extends b1 in
      let e3 = bind-gives (dropped step e2.1) (λ g. λ q. next (within at (judge_statement (in_a_loop a) t) q) (λ inner. tested_or_none at e2.0 (typed.For at paren e1.0 e2.0 g inner))) w.one w.last e2.3 in
      let j3 = dropped-part step e3.0 e2.1 e3.1 j2.goes.known e3.2 in
      let b3 = result-kept e2.1.table e3.1.table a.result j3.goes.goes.extends b2 in
      let e4 = bind-gives (within at (judge_statement (in_a_loop a) t) e3.1) (λ inner. tested_or_none at e2.0 (typed.For at paren e1.0 e2.0 e3.0 inner)) w.one w.last e3.3 in
      let i = sub-judged at (in_a_loop a) t e4.0 e3.1 e4.1 j3.goes.known b3 (λ v x y. statement-judged t (in_a_loop a) v x y) e4.2 in
      let all : TypedStatement = typed.For at paren e1.0 e2.0 e3.0 e4.0 in
      let same = tested_or_none_same at e2.0 all w.one e4.1 w.last e4.3 in
      let made = becomes all w.one w.first e4.1 w.last same in
      within-lasts at (λ m. next (dropped first m) (λ f. λ n. next (dropped test n) (λ c. λ o. next (dropped step o) (λ g. λ q. next (within at (judge_statement (in_a_loop a) t) q) (λ inner. tested_or_none at c (typed.For at paren f c g inner)))))) one s r made_by_statement w (known-at all w.one e4.1 w.last same i.goes.known)
      (made
      (lasts-on (made_by_optional e1.0 ++ made_by_optional e2.0 ++ made_by_optional e3.0) (made_by_statement e4.0) w.first e3.1 e4.1
      (lasts-on (made_by_optional e1.0 ++ made_by_optional e2.0) (made_by_optional e3.0) w.first e2.1 e3.1
      (lasts-on (made_by_optional e1.0) (made_by_optional e2.0) w.first e1.1 e2.1 (dropped-lasts first e1.0 w.first e1.1 w.on.known e1.2) (dropped-lasts test e2.0 e1.1 e2.1 j1.goes.known e2.2) j2.goes.goes.extends)
      (dropped-lasts step e3.0 e2.1 e3.1 j2.goes.known e3.2) j3.goes.goes.extends)
      (sub-lasts at (in_a_loop a) t e4.0 e3.1 e4.1 j3.goes.known b3 (λ v x y. statement-lasts t (in_a_loop a) v x y) e4.2) i.goes.goes.extends))
  statement-lasts (tree.ForDeclaration at paren d test step t) a one s r k b h =
      let w = within-gives at (λ m. next (judge_declaration false d m) (λ f. λ n. next (dropped test n) (λ c. λ o. next (dropped step o) (λ g. λ q. next (within at (judge_statement (in_a_loop a) t) q) (λ inner. tested_or_none at c (typed.ForDeclaration at paren f c g inner)))))) one s r k h in
      let b0 = result-kept s.table w.first.table a.result w.on.goes.extends b in
      let e1 = bind-gives (judge_declaration false d w.first) (λ f. λ n. next (dropped test n) (λ c. λ o. next (dropped step o) (λ g. λ q. next (within at (judge_statement (in_a_loop a) t) q) (λ inner. tested_or_none at c (typed.ForDeclaration at paren f c g inner))))) w.one w.last w.gives in
      let j1 = declaration-judged false d e1.0 w.first e1.1 w.on.known e1.2 in
      let b1 = result-kept w.first.table e1.1.table a.result j1.goes.goes.extends b0 in
      let e2 = bind-gives (dropped test e1.1) (λ c. λ o. next (dropped step o) (λ g. λ q.
      next (within at (judge_statement (in_a_loop a) t) q) (λ inner. tested_or_none at c (typed.ForDeclaration at paren e1.0 c g inner)))) w.one w.last e1.3 in
      let j2 = dropped-part test e2.0 e1.1 e2.1 j1.goes.known e2.2 in
      let b2 = result-kept e1.1.table e2.1.table a.result j2.goes.goes.extends b1 in
      let e3 = bind-gives (dropped step e2.1) (λ g. λ q. next (within at (judge_statement (in_a_loop a) t) q) (λ inner. tested_or_none at e2.0 (typed.ForDeclaration at paren e1.0 e2.0 g inner))) w.one w.last e2.3 in
      let j3 = dropped-part step e3.0 e2.1 e3.1 j2.goes.known e3.2 in
      let b3 = result-kept e2.1.table e3.1.table a.result j3.goes.goes.extends b2 in
      let e4 = bind-gives (within at (judge_statement (in_a_loop a) t) e3.1) (λ inner. tested_or_none at e2.0 (typed.ForDeclaration at paren e1.0 e2.0 e3.0 inner)) w.one w.last e3.3 in
      let i = sub-judged at (in_a_loop a) t e4.0 e3.1 e4.1 j3.goes.known b3 (λ v x y. statement-judged t (in_a_loop a) v x y) e4.2 in
      let all : TypedStatement = typed.ForDeclaration at paren e1.0 e2.0 e3.0 e4.0 in
      let same = tested_or_none_same at e2.0 all w.one e4.1 w.last e4.3 in
      let made = becomes all w.one w.first e4.1 w.last same in
      within-lasts at (λ m. next (judge_declaration false d m) (λ f. λ n. next (dropped test n) (λ c. λ o. next (dropped step o) (λ g. λ q. next (within at (judge_statement (in_a_loop a) t) q) (λ inner. tested_or_none at c (typed.ForDeclaration at paren f c g inner)))))) one s r made_by_statement w (known-at all w.one e4.1 w.last same i.goes.known)
      (made
      (lasts-on (made_by_declaration e1.0 ++ made_by_optional e2.0 ++ made_by_optional e3.0) (made_by_statement e4.0) w.first e3.1 e4.1
      (lasts-on (made_by_declaration e1.0 ++ made_by_optional e2.0) (made_by_optional e3.0) w.first e2.1 e3.1
      (lasts-on (made_by_declaration e1.0) (made_by_optional e2.0) w.first e1.1 e2.1 (declaration-lasts false d e1.0 w.first e1.1 w.on.known e1.2) (dropped-lasts test e2.0 e1.1 e2.1 j1.goes.known e2.2) j2.goes.goes.extends)
      (dropped-lasts step e3.0 e2.1 e3.1 j2.goes.known e3.2) j3.goes.goes.extends)
      (sub-lasts at (in_a_loop a) t e4.0 e3.1 e4.1 j3.goes.known b3 (λ v x y. statement-lasts t (in_a_loop a) v x y) e4.2) i.goes.goes.extends))
  statement-lasts (tree.Break at) a one s r k b h = becomes (typed.Break at) one s s r (jump_same at a.breakable (typed.Break at) one s r h) (lasts-none s)
  statement-lasts (tree.Continue at) a one s r k b h = becomes (typed.Continue at) one s s r (jump_same at a.in_loop (typed.Continue at) one s r h) (lasts-none s)
  statement-lasts (tree.Return at e) a one s r k b h =
      let e1 = bind-gives (returned at a.result e s) (λ v. pure (typed.Return at v)) one r h in
      becomes (typed.Return at e1.0) one s e1.1 r e1.3 (returned-lasts at a.result e e1.0 s e1.1 k b e1.2)

  pub items-last : (all : tree.BlockItems) (a : Around) (on : Option TypeId) (list : TypedBlockItems) (s r : UnitState) → IsUnitKnown s → IsResult s.table a.result
      → IsSwitchThere s.table on → judge_block_items a on all s ≡ Gives list r → Lasts (made_by_block_items list) s r
  items-last tree.NoBlockItem a on list s r k b w h =
      given-same (λ (v : TypedBlockItems) (q : UnitState). Lasts (made_by_block_items v) s q) typed.NoBlockItem list s r h (lasts-none s)
  items-last (tree.AndStatement all t) a on list s r k b w h =
      let e1 = bind-gives (judge_block_items a on all s) (λ before. λ m. next (judge_statement a t m) (λ one. pure (typed.AndStatement before one))) list r h in
      let j = items-judged all a on e1.0 s e1.1 k b w e1.2 in
      let b1 = result-kept s.table e1.1.table a.result j.goes.goes.extends b in
      let e2 = bind-gives (judge_statement a t e1.1) (λ one. pure (typed.AndStatement e1.0 one)) list r e1.3 in
      let i = statement-judged t a e2.0 e1.1 e2.1 j.goes.known b1 e2.2 in
      given-same (λ (v : TypedBlockItems) (q : UnitState). Lasts (made_by_block_items v) s q) (typed.AndStatement e1.0 e2.0) list e2.1 r e2.3
      (lasts-on (made_by_block_items e1.0) (made_by_statement e2.0) s e1.1 e2.1 (items-last all a on e1.0 s e1.1 k b w e1.2)
      (statement-lasts t a e2.0 e1.1 e2.1 j.goes.known b1 e2.2) i.goes.goes.extends)
  items-last (tree.AndDeclaration all d) a on list s r k b w h =
      let e1 = bind-gives (judge_block_items a on all s) (λ before. λ m. next (judge_declaration false d m) (λ one. pure (typed.AndDeclaration before one))) list r h in
      let j = items-judged all a on e1.0 s e1.1 k b w e1.2 in
      let e2 = bind-gives (judge_declaration false d e1.1) (λ one. pure (typed.AndDeclaration e1.0 one)) list r e1.3 in
      let i = declaration-judged false d e2.0 e1.1 e2.1 j.goes.known e2.2 in
      given-same (λ (v : TypedBlockItems) (q : UnitState). Lasts (made_by_block_items v) s q) (typed.AndDeclaration e1.0 e2.0) list e2.1 r e2.3
      (lasts-on (made_by_block_items e1.0) (made_by_declaration e2.0) s e1.1 e2.1 (items-last all a on e1.0 s e1.1 k b w e1.2)
      (declaration-lasts false d e2.0 e1.1 e2.1 j.goes.known e2.2) i.goes.goes.extends)
  items-last (tree.AndCase all at e) a on list s r k b w h =
      let e1 = bind-gives (judge_block_items a on all s) (case_label on at e) list r h in
      case_lasts on at e e1.0 list s e1.1 r (items-judged all a on e1.0 s e1.1 k b w e1.2).goes.known (items-last all a on e1.0 s e1.1 k b w e1.2) e1.3
  items-last (tree.AndDefault all at) a on list s r k b w h =
      let e1 = bind-gives (judge_block_items a on all s) (default_label at) list r h in
      default_lasts at e1.0 list s e1.1 r (items-last all a on e1.0 s e1.1 k b w e1.2) e1.3
