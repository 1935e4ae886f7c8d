-- What judging counts of a statement is the pointers that assignments of structs in it move.
use Rattle.std.proofs.Common.{◌≡◌, ◌==◌, false, not, List, [], ◌∷◌, ◌++◌, Option, Some, None, subst}
use Rattle.cc_base.specs.declared.place.Place.{Place}
use Rattle.cc_base.specs.declared.number.TypeId.{TypeId}
use Rattle.cc_base.specs.declared.fault.Rule.TheVariants as rule
use Rattle.c_tree.specs.Tree as tree
use Rattle.c_tree.specs.TypedTree as typed
use Rattle.c_tree.specs.TypedTree.{TypedExpr, TypedStatement, TypedBlockItems}
use Rattle.c_tree.specs.TypedParts.{Made, type_of, made_by, made_by_optional, made_by_declaration, made_by_statement, made_by_block_items}
use Rattle.c_typing.specs.Checking.{checked, checked_constant}
use Rattle.c_typing.specs.Shapes.{integer_at}
use Rattle.c_typing.specs.Tests.{first_broken, broken_at}
use Rattle.c_typing_laws.proofs.ExtensionLaws.{still_in}
use Rattle.c_unit_typing.specs.DeclarationJudging.{judge_declaration}
use Rattle.c_unit_typing.specs.StatementJudging.{dropped, returned, promoted_by, promotion, tested, tested_or_none, switched, label_as, labelled, case_label, default_label, within, judge_statement, judge_block_items}
use Rattle.c_unit_typing.specs.UnitJudged.{IsResult, IsSwitchThere, IsUnitKnown}
use Rattle.c_unit_typing.specs.UnitJudging.{UnitState, UnitJudging, Gives, next, pure, lifted}
use Rattle.c_unit_typing.specs.Units.{Around, in_a_loop, in_a_switch, labels_of, defaults_in}
use Rattle.c_unit_typing.proofs.JudgedDeclarations.{declaration-judged}
use Rattle.c_unit_typing.proofs.JudgedStatements.{result-kept, value-part, dropped-part, statement-judged, items-judged}
use Rattle.c_unit_typing.proofs.JudgedSwitches.{switch-there}
use Rattle.c_unit_typing.proofs.Scoped.{IsWithin, within-gives, sub-judged}
use Rattle.c_unit_typing.proofs.UnitStates.{unit-on}
use Rattle.c_unit_typing.proofs.UnitOutcomes.{bind-gives, unless-gives, given-same}
use Rattle.c_unit_limits.proofs.CellsDeclarations.{declaration-moves}
use Rattle.c_unit_limits.proofs.CellsSteps.{UnitMoves, unit-none, unit-then, unit-inside, enter-stays, leave-stays, value-moves, switched-moves, dropped-moves, returned-moves, constant-counted}
use Rattle.c_unit_limits.proofs.LastingStatements.{tested_same, tested_or_none_same, switched_same, jump_same, labelled_same}

-- Labels

case_moves : (on : Option TypeId) (at : Place) (e : tree.Expr) (before list : TypedBlockItems) (s m r : UnitState) → IsUnitKnown m → UnitMoves (made_by_block_items before) s m
    → case_label on at e before m ≡ Gives list r → UnitMoves (made_by_block_items list) s r
unfolding case_label
case_moves on at e before list s m r k made h =
    let one = bind-gives (lifted (checked_constant e) m) (λ c. λ q. labelled at (labels_of before) before c.expr (label_as q.table on c.value) q) list r h in
    let c = one.0 in
    let n = one.1 in
    let v = constant-counted e c m n k one.2 in
    let same = labelled_same at (labels_of before) before list c.expr (label_as n.table on c.value) n r one.3 in
    given-same (λ (w : TypedBlockItems) (q : UnitState). UnitMoves (made_by_block_items w) s q) (typed.AndCase before at c.expr same.0) list n r same.1
    (unit-then (made_by_block_items before) (made_by c.expr) s m n made v)

default_moves : (at : Place) (before list : TypedBlockItems) (s m r : UnitState) → UnitMoves (made_by_block_items before) s m → default_label at before m ≡ Gives list r
    → UnitMoves (made_by_block_items list) s r
unfolding default_label
default_moves at before list s m r made h =
    let go = unless-gives (first_broken (broken_at rule.Redeclared at (not (defaults_in before == 0)) ∷ [])) (pure (typed.AndDefault before at)) m list r h in
    given-same (λ (w : TypedBlockItems) (q : UnitState). UnitMoves (made_by_block_items w) s q) (typed.AndDefault before at) list m r go.1 made

-- Statements

-- what a statement becomes, where it is given
becomes : (v one : TypedStatement) (s q r : UnitState) → Gives v q ≡ Gives one r → UnitMoves (made_by_statement v) s q → UnitMoves (made_by_statement one) s r
becomes v one s q r h made = given-same (λ (w : TypedStatement) (p : UnitState). UnitMoves (made_by_statement w) s p) v one q r h made

known-at : (v one : TypedStatement) (q r : UnitState) → Gives v q ≡ Gives one r → IsUnitKnown q → IsUnitKnown r
known-at v one q r h k = given-same (λ (w : TypedStatement) (p : UnitState). IsUnitKnown p) v one q r h k

-- what stands in a scope of its own
within-moves : {A : Type 0} (at : Place) (go : UnitJudging A) (whole : A) (s r : UnitState) (made : A → List Made) (w : IsWithin at go whole s r) → IsUnitKnown w.last
    → UnitMoves (made w.one) w.first w.last → UnitMoves (made whole) s r
within-moves at go whole s r made w k h =
    subst (λ (v : _). UnitMoves (made v) s r) (w.ends k).same
    (unit-inside (made w.one) s w.first w.last r (enter-stays w.flag s w.first w.enters) h (leave-stays at w.one whole w.last r w.leaves))

sub-moves : (at : Place) (a : Around) (t : tree.Statement) (one : TypedStatement) (s r : UnitState) → IsUnitKnown s → IsResult s.table a.result
    → ((v : TypedStatement) (x y : UnitState) → IsUnitKnown x → IsResult x.table a.result → judge_statement a t x ≡ Gives v y → UnitMoves (made_by_statement v) x y)
    → within at (judge_statement a t) s ≡ Gives one r → UnitMoves (made_by_statement one) s r
sub-moves at a t one s r k b moves h =
    let w = within-gives at (judge_statement a t) one s r k h in
    let b1 = result-kept s.table w.first.table a.result w.on.goes.extends b in
    within-moves at (judge_statement a t) one s r made_by_statement w (statement-judged t a w.one w.first w.last w.on.known b1 w.gives).goes.known (moves w.one w.first w.last w.on.known b1 w.gives)

mutual
  unfolding judge_statement judge_block_items promotion

  pub statement-moves : (t : tree.Statement) (a : Around) (one : TypedStatement) (s r : UnitState) → IsUnitKnown s → IsResult s.table a.result → judge_statement a t s ≡ Gives one r
      → UnitMoves (made_by_statement one) s r
  statement-moves (tree.Block brace items) a one s r k b h =
      let w = within-gives brace (λ m. next (judge_block_items a None items m) (λ list. pure (typed.Block brace list))) one s r k h in
      let e = bind-gives (judge_block_items a None items w.first) (λ list. pure (typed.Block brace list)) w.one w.last w.gives in
      let b1 = result-kept s.table w.first.table a.result w.on.goes.extends b in
      let j = items-judged items a None e.0 w.first e.1 w.on.known b1 tt e.2 in
      let made = becomes (typed.Block brace e.0) w.one w.first e.1 w.last e.3 (items-move items a None e.0 w.first e.1 w.on.known b1 tt e.2) in
      within-moves brace (λ m. next (judge_block_items a None items m) (λ list. pure (typed.Block brace list))) one s r made_by_statement w (known-at (typed.Block brace e.0) w.one e.1 w.last e.3 j.goes.known) made
  statement-moves (tree.Express e) a one s r k b h =
      let e1 = bind-gives (lifted (checked e) s) (λ v. pure (typed.Express v)) one r h in
      becomes (typed.Express e1.0) one s e1.1 r e1.3 (value-moves e e1.0 s e1.1 k e1.2)
  statement-moves tree.Empty a one s r k b h = becomes typed.Empty one s s r h (unit-none s)
  statement-moves (tree.If at paren c t) a one s r k b h =
      let w = within-gives at (λ m. next (lifted (checked c) m) (λ test. λ n. next (within at (judge_statement a t) n) (λ inner. tested at test (typed.If at paren test inner)))) one s r k h in
      let b0 = result-kept s.table w.first.table a.result w.on.goes.extends b in
      let e1 = bind-gives (lifted (checked c) w.first) (λ test. λ n. next (within at (judge_statement a t) n) (λ inner. tested at test (typed.If at paren test inner))) w.one w.last w.gives in
      let j = value-part c e1.0 w.first e1.1 w.on.known e1.2 in
      let b1 = result-kept w.first.table e1.1.table a.result j.goes.goes.extends b0 in
      let e2 = bind-gives (within at (judge_statement a t) e1.1) (λ inner. tested at e1.0 (typed.If at paren e1.0 inner)) w.one w.last e1.3 in
      let i = sub-judged at a t e2.0 e1.1 e2.1 j.goes.known b1 (λ v x y. statement-judged t a v x y) e2.2 in
      let same = tested_same at e1.0 (typed.If at paren e1.0 e2.0) w.one e2.1 w.last e2.3 in
      let made = becomes (typed.If at paren e1.0 e2.0) w.one w.first e2.1 w.last same in
      within-moves at (λ m. next (lifted (checked c) m) (λ test. λ n. next (within at (judge_statement a t) n) (λ inner. tested at test (typed.If at paren test inner)))) one s r made_by_statement w (known-at (typed.If at paren e1.0 e2.0) w.one e2.1 w.last same i.goes.known)
      (made
      (unit-then (made_by e1.0) (made_by_statement e2.0) w.first e1.1 e2.1 (value-moves c e1.0 w.first e1.1 w.on.known e1.2) (sub-moves at a t e2.0 e1.1 e2.1 j.goes.known b1 (λ v x y. statement-moves t a v x y) e2.2)))
  statement-moves (tree.IfElse at paren c t u) a one s r k b h =
      let w = within-gives at (λ m. next (lifted (checked c) m) (λ test. λ n. next (within at (judge_statement a t) n) (λ inner. λ o. next (within at (judge_statement a u) o) (λ other. tested at test (typed.IfElse at paren test inner other))))) one s r k h in
      let b0 = result-kept s.table w.first.table a.result w.on.goes.extends b in
      let e1 = bind-gives (lifted (checked c) w.first)
      (λ test. λ n. next (within at (judge_statement a t) n) (λ inner. λ o. next (within at (judge_statement a u) o) (λ other. tested at test (typed.IfElse at paren test inner other)))) w.one w.last w.gives in
      let j = value-part c e1.0 w.first e1.1 w.on.known e1.2 in
      let b1 = result-kept w.first.table e1.1.table a.result j.goes.goes.extends b0 in
      let e2 = bind-gives (within at (judge_statement a t) e1.1) (λ inner. λ o. next (within at (judge_statement a u) o) (λ other. tested at e1.0 (typed.IfElse at paren e1.0 inner other))) w.one w.last e1.3 in
      let i = sub-judged at a t e2.0 e1.1 e2.1 j.goes.known b1 (λ v x y. statement-judged t a v x y) e2.2 in
      let b2 = result-kept e1.1.table e2.1.table a.result i.goes.goes.extends b1 in
      let e3 = bind-gives (within at (judge_statement a u) e2.1) (λ other. tested at e1.0 (typed.IfElse at paren e1.0 e2.0 other)) w.one w.last e2.3 in
      let o = sub-judged at a u e3.0 e2.1 e3.1 i.goes.known b2 (λ v x y. statement-judged u a v x y) e3.2 in
      let same = tested_same at e1.0 (typed.IfElse at paren e1.0 e2.0 e3.0) w.one e3.1 w.last e3.3 in
      let made = becomes (typed.IfElse at paren e1.0 e2.0 e3.0) w.one w.first e3.1 w.last same in
      within-moves at (λ m. next (lifted (checked c) m) (λ test. λ n. next (within at (judge_statement a t) n) (λ inner. λ o. next (within at (judge_statement a u) o) (λ other. tested at test (typed.IfElse at paren test inner other))))) one s r made_by_statement w (known-at (typed.IfElse at paren e1.0 e2.0 e3.0) w.one e3.1 w.last same o.goes.known)
      (made
      (unit-then (made_by e1.0 ++ made_by_statement e2.0) (made_by_statement e3.0) w.first e2.1 e3.1
      (unit-then (made_by e1.0) (made_by_statement e2.0) w.first e1.1 e2.1 (value-moves c e1.0 w.first e1.1 w.on.known e1.2) (sub-moves at a t e2.0 e1.1 e2.1 j.goes.known b1 (λ v x y. statement-moves t a v x y) e2.2))
      (sub-moves at a u e3.0 e2.1 e3.1 i.goes.known b2 (λ v x y. statement-moves u a v x y) e3.2)))
  statement-moves (tree.Switch at paren e brace items) a one s r k b h =
      let w = within-gives at (λ l. next (lifted (checked e) l) (λ c. λ m. next (promotion at c m) (λ on. λ n. next (within brace (judge_block_items (in_a_switch a) (Some (type_of on)) items) n) (λ list. switched at c (typed.Switch at paren on brace list))))) one s r k h in
      let b0 = result-kept s.table w.first.table a.result w.on.goes.extends b in
      let e1 = bind-gives (lifted (checked e) w.first)
      (λ c. λ m. next (promotion at c m) (λ on. λ n. next (within brace (judge_block_items (in_a_switch a) (Some (type_of on)) items) n) (λ list. switched at c (typed.Switch at paren on brace list)))) w.one w.last w.gives in
      let c = e1.0 in
      let on : TypedExpr = promoted_by at c (integer_at e1.1.table (type_of c)) in
      let f : Around = in_a_switch a in
      let v = value-part e c w.first e1.1 w.on.known e1.2 in
      let e2 = bind-gives (within brace (judge_block_items f (Some (type_of on)) items) e1.1) (λ list. switched at c (typed.Switch at paren on brace list)) w.one w.last e1.3 in
      let u = within-gives brace (judge_block_items f (Some (type_of on)) items) e2.0 e1.1 e2.1 v.goes.known e2.2 in
      let b2 = result-kept e1.1.table u.first.table a.result u.on.goes.extends (result-kept w.first.table e1.1.table a.result v.goes.goes.extends b0) in
      let there = still_in e1.1.table u.first.table u.on.goes.extends (type_of on) (switch-there at e c w.first e1.1 w.on.known.known e1.2).1 in
      let i = items-judged items f (Some (type_of on)) u.one u.first u.last u.on.known b2 there u.gives in
      let out = u.ends i.goes.known in
      let inner = unit-on e1.1 u.first e2.1 u.on (unit-on u.first u.last e2.1 i.goes out.on) in
      let same = switched_same at c (typed.Switch at paren on brace e2.0) w.one e2.1 w.last e2.3 in
      let made = becomes (typed.Switch at paren on brace e2.0) w.one w.first e2.1 w.last same in
      within-moves at (λ l. next (lifted (checked e) l) (λ c. λ m. next (promotion at c m) (λ on. λ n. next (within brace (judge_block_items (in_a_switch a) (Some (type_of on)) items) n) (λ list. switched at c (typed.Switch at paren on brace list))))) one s r made_by_statement w (known-at (typed.Switch at paren on brace e2.0) w.one e2.1 w.last same out.on.known)
      (made
      (unit-then (made_by on) (made_by_block_items e2.0) w.first e1.1 e2.1 (switched-moves at e c w.first e1.1 w.on.known e1.2)
      (within-moves brace (judge_block_items f (Some (type_of on)) items) e2.0 e1.1 e2.1 made_by_block_items u i.goes.known
      (items-move items f (Some (type_of on)) u.one u.first u.last u.on.known b2 there u.gives))))
  statement-moves (tree.While at paren c t) a one s r k b h =
      let w = within-gives at (λ m. next (lifted (checked c) m) (λ test. λ n. next (within at (judge_statement (in_a_loop a) t) n) (λ inner. tested at test (typed.While at paren test inner)))) one s r k h in
      let b0 = result-kept s.table w.first.table a.result w.on.goes.extends b in
      let e1 = bind-gives (lifted (checked c) w.first) (λ test. λ n. next (within at (judge_statement (in_a_loop a) t) n) (λ inner. tested at test (typed.While at paren test inner))) w.one w.last w.gives in
      let j = value-part c e1.0 w.first e1.1 w.on.known e1.2 in
      let b1 = result-kept w.first.table e1.1.table a.result j.goes.goes.extends b0 in
      let e2 = bind-gives (within at (judge_statement (in_a_loop a) t) e1.1) (λ inner. tested at e1.0 (typed.While at paren e1.0 inner)) w.one w.last e1.3 in
      let i = sub-judged at (in_a_loop a) t e2.0 e1.1 e2.1 j.goes.known b1 (λ v x y. statement-judged t (in_a_loop a) v x y) e2.2 in
      let same = tested_same at e1.0 (typed.While at paren e1.0 e2.0) w.one e2.1 w.last e2.3 in
      let made = becomes (typed.While at paren e1.0 e2.0) w.one w.first e2.1 w.last same in
      within-moves at (λ m. next (lifted (checked c) m) (λ test. λ n. next (within at (judge_statement (in_a_loop a) t) n) (λ inner. tested at test (typed.While at paren test inner)))) one s r made_by_statement w (known-at (typed.While at paren e1.0 e2.0) w.one e2.1 w.last same i.goes.known)
      (made
      (unit-then (made_by e1.0) (made_by_statement e2.0) w.first e1.1 e2.1 (value-moves c e1.0 w.first e1.1 w.on.known e1.2) (sub-moves at (in_a_loop a) t e2.0 e1.1 e2.1 j.goes.known b1 (λ v x y. statement-moves t (in_a_loop a) v x y) e2.2)))
  statement-moves (tree.DoWhile t at paren c) a one s r k b h =
      let w = within-gives at (λ m. next (within at (judge_statement (in_a_loop a) t) m) (λ inner. λ n. next (lifted (checked c) n) (λ test. tested at test (typed.DoWhile inner at paren test)))) one s r k h in
      let b0 = result-kept s.table w.first.table a.result w.on.goes.extends b in
      let e1 = bind-gives (within at (judge_statement (in_a_loop a) t) w.first) (λ inner. λ n. next (lifted (checked c) n) (λ test. tested at test (typed.DoWhile inner at paren test))) w.one w.last w.gives in
      let i = sub-judged at (in_a_loop a) t e1.0 w.first e1.1 w.on.known b0 (λ v x y. statement-judged t (in_a_loop a) v x y) e1.2 in
      let e2 = bind-gives (lifted (checked c) e1.1) (λ test. tested at test (typed.DoWhile e1.0 at paren test)) w.one w.last e1.3 in
      let j = value-part c e2.0 e1.1 e2.1 i.goes.known e2.2 in
      let same = tested_same at e2.0 (typed.DoWhile e1.0 at paren e2.0) w.one e2.1 w.last e2.3 in
      let made = becomes (typed.DoWhile e1.0 at paren e2.0) w.one w.first e2.1 w.last same in
      within-moves at (λ m. next (within at (judge_statement (in_a_loop a) t) m) (λ inner. λ n. next (lifted (checked c) n) (λ test. tested at test (typed.DoWhile inner at paren test)))) one s r made_by_statement w (known-at (typed.DoWhile e1.0 at paren e2.0) w.one e2.1 w.last same j.goes.known)
      (made
      (unit-then (made_by_statement e1.0) (made_by e2.0) w.first e1.1 e2.1 (sub-moves at (in_a_loop a) t e1.0 w.first e1.1 w.on.known b0 (λ v x y. statement-moves t (in_a_loop a) v x y) e1.2) (value-moves c e2.0 e1.1 e2.1 i.goes.known e2.2)))
  statement-moves (tree.For at paren first test step t) a one s r k b h =
      let w = within-gives at (λ m. next (dropped first m) (λ f. λ n. next (dropped test n) (λ c. λ o. next (dropped step o) (λ g. λ q. next (within at (judge_statement (in_a_loop a) t) q) (λ inner. tested_or_none at c (typed.For at paren f c g inner)))))) one s r k h in
      let b0 = result-kept s.table w.first.table a.result w.on.goes.extends b in
      let e1 = bind-gives (dropped first w.first) (λ f. λ n. next (dropped test n) (λ c. λ o. next (dropped step o) (λ g. λ q. next (within at (judge_statement (in_a_loop a) t) q) (λ inner. tested_or_none at c (typed.For at paren f c g inner))))) w.one w.last w.gives in
      let j1 = dropped-part first e1.0 w.first e1.1 w.on.known e1.2 in
      let b1 = result-kept w.first.table e1.1.table a.result j1.goes.goes.extends b0 in
      let e2 = bind-gives (dropped test e1.1) (λ c. λ o. next (dropped step o) (λ g. λ q.
      next (within at (judge_statement (in_a_loop a) t) q) (λ inner. tested_or_none at c (typed.For at paren e1.0 c g inner)))) w.one w.last e1.3 in
      let j2 = dropped-part test e2.0 e1.1 e2.1 j1.goes.known e2.2 in
      let b2 = result-kept e1.1.table e2.1.table a.result j2.goes.goes.extends b1 in
      let e3 = bind-gives (dropped step e2.1) (λ g. λ q. next (within at (judge_statement (in_a_loop a) t) q) (λ inner. tested_or_none at e2.0 (typed.For at paren e1.0 e2.0 g inner))) w.one w.last e2.3 in
      let j3 = dropped-part step e3.0 e2.1 e3.1 j2.goes.known e3.2 in
      let b3 = result-kept e2.1.table e3.1.table a.result j3.goes.goes.extends b2 in
      let e4 = bind-gives (within at (judge_statement (in_a_loop a) t) e3.1) (λ inner. tested_or_none at e2.0 (typed.For at paren e1.0 e2.0 e3.0 inner)) w.one w.last e3.3 in
      let i = sub-judged at (in_a_loop a) t e4.0 e3.1 e4.1 j3.goes.known b3 (λ v x y. statement-judged t (in_a_loop a) v x y) e4.2 in
      let all : TypedStatement = typed.For at paren e1.0 e2.0 e3.0 e4.0 in
      let same = tested_or_none_same at e2.0 all w.one e4.1 w.last e4.3 in
      let made = becomes all w.one w.first e4.1 w.last same in
      within-moves at (λ m. next (dropped first m) (λ f. λ n. next (dropped test n) (λ c. λ o. next (dropped step o) (λ g. λ q. next (within at (judge_statement (in_a_loop a) t) q) (λ inner. tested_or_none at c (typed.For at paren f c g inner)))))) one s r made_by_statement w (known-at all w.one e4.1 w.last same i.goes.known)
      (made
      (unit-then (made_by_optional e1.0 ++ made_by_optional e2.0 ++ made_by_optional e3.0) (made_by_statement e4.0) w.first e3.1 e4.1
      (unit-then (made_by_optional e1.0 ++ made_by_optional e2.0) (made_by_optional e3.0) w.first e2.1 e3.1
      (unit-then (made_by_optional e1.0) (made_by_optional e2.0) w.first e1.1 e2.1 (dropped-moves first e1.0 w.first e1.1 w.on.known e1.2) (dropped-moves test e2.0 e1.1 e2.1 j1.goes.known e2.2))
      (dropped-moves step e3.0 e2.1 e3.1 j2.goes.known e3.2))
      (sub-moves at (in_a_loop a) t e4.0 e3.1 e4.1 j3.goes.known b3 (λ v x y. statement-moves t (in_a_loop a) v x y) e4.2)))
  statement-moves (tree.ForDeclaration at paren d test step t) a one s r k b h =
      let w = within-gives at (λ m. next (judge_declaration false d m) (λ f. λ n. next (dropped test n) (λ c. λ o. next (dropped step o) (λ g. λ q. next (within at (judge_statement (in_a_loop a) t) q) (λ inner. tested_or_none at c (typed.ForDeclaration at paren f c g inner)))))) one s r k h in
      let b0 = result-kept s.table w.first.table a.result w.on.goes.extends b in
      let e1 = bind-gives (judge_declaration false d w.first) (λ f. λ n. next (dropped test n) (λ c. λ o. next (dropped step o) (λ g. λ q. next (within at (judge_statement (in_a_loop a) t) q) (λ inner. tested_or_none at c (typed.ForDeclaration at paren f c g inner))))) w.one w.last w.gives in
      let j1 = declaration-judged false d e1.0 w.first e1.1 w.on.known e1.2 in
      let b1 = result-kept w.first.table e1.1.table a.result j1.goes.goes.extends b0 in
      let e2 = bind-gives (dropped test e1.1) (λ c. λ o. next (dropped step o) (λ g. λ q.
      next (within at (judge_statement (in_a_loop a) t) q) (λ inner. tested_or_none at c (typed.ForDeclaration at paren e1.0 c g inner)))) w.one w.last e1.3 in
      let j2 = dropped-part test e2.0 e1.1 e2.1 j1.goes.known e2.2 in
      let b2 = result-kept e1.1.table e2.1.table a.result j2.goes.goes.extends b1 in
      let e3 = bind-gives (dropped step e2.1) (λ g. λ q. next (within at (judge_statement (in_a_loop a) t) q) (λ inner. tested_or_none at e2.0 (typed.ForDeclaration at paren e1.0 e2.0 g inner))) w.one w.last e2.3 in
      let j3 = dropped-part step e3.0 e2.1 e3.1 j2.goes.known e3.2 in
      let b3 = result-kept e2.1.table e3.1.table a.result j3.goes.goes.extends b2 in
      let e4 = bind-gives (within at (judge_statement (in_a_loop a) t) e3.1) (λ inner. tested_or_none at e2.0 (typed.ForDeclaration at paren e1.0 e2.0 e3.0 inner)) w.one w.last e3.3 in
      let i = sub-judged at (in_a_loop a) t e4.0 e3.1 e4.1 j3.goes.known b3 (λ v x y. statement-judged t (in_a_loop a) v x y) e4.2 in
      let all : TypedStatement = typed.ForDeclaration at paren e1.0 e2.0 e3.0 e4.0 in
      let same = tested_or_none_same at e2.0 all w.one e4.1 w.last e4.3 in
      let made = becomes all w.one w.first e4.1 w.last same in
      within-moves at (λ m. next (judge_declaration false d m) (λ f. λ n. next (dropped test n) (λ c. λ o. next (dropped step o) (λ g. λ q. next (within at (judge_statement (in_a_loop a) t) q) (λ inner. tested_or_none at c (typed.ForDeclaration at paren f c g inner)))))) one s r made_by_statement w (known-at all w.one e4.1 w.last same i.goes.known)
      (made
      (unit-then (made_by_declaration e1.0 ++ made_by_optional e2.0 ++ made_by_optional e3.0) (made_by_statement e4.0) w.first e3.1 e4.1
      (unit-then (made_by_declaration e1.0 ++ made_by_optional e2.0) (made_by_optional e3.0) w.first e2.1 e3.1
      (unit-then (made_by_declaration e1.0) (made_by_optional e2.0) w.first e1.1 e2.1 (declaration-moves false d e1.0 w.first e1.1 w.on.known e1.2) (dropped-moves test e2.0 e1.1 e2.1 j1.goes.known e2.2))
      (dropped-moves step e3.0 e2.1 e3.1 j2.goes.known e3.2))
      (sub-moves at (in_a_loop a) t e4.0 e3.1 e4.1 j3.goes.known b3 (λ v x y. statement-moves t (in_a_loop a) v x y) e4.2)))
  statement-moves (tree.Break at) a one s r k b h = becomes (typed.Break at) one s s r (jump_same at a.breakable (typed.Break at) one s r h) (unit-none s)
  statement-moves (tree.Continue at) a one s r k b h = becomes (typed.Continue at) one s s r (jump_same at a.in_loop (typed.Continue at) one s r h) (unit-none s)
  statement-moves (tree.Return at e) a one s r k b h =
      let e1 = bind-gives (returned at a.result e s) (λ v. pure (typed.Return at v)) one r h in
      becomes (typed.Return at e1.0) one s e1.1 r e1.3 (returned-moves at a.result e e1.0 s e1.1 k e1.2)

  pub items-move : (all : tree.BlockItems) (a : Around) (on : Option TypeId) (list : TypedBlockItems) (s r : UnitState) → IsUnitKnown s → IsResult s.table a.result
      → IsSwitchThere s.table on → judge_block_items a on all s ≡ Gives list r → UnitMoves (made_by_block_items list) s r
  items-move tree.NoBlockItem a on list s r k b w h =
      given-same (λ (v : TypedBlockItems) (q : UnitState). UnitMoves (made_by_block_items v) s q) typed.NoBlockItem list s r h (unit-none s)
  items-move (tree.AndStatement all t) a on list s r k b w h =
      let e1 = bind-gives (judge_block_items a on all s) (λ before. λ m. next (judge_statement a t m) (λ one. pure (typed.AndStatement before one))) list r h in
      let j = items-judged all a on e1.0 s e1.1 k b w e1.2 in
      let b1 = result-kept s.table e1.1.table a.result j.goes.goes.extends b in
      let e2 = bind-gives (judge_statement a t e1.1) (λ one. pure (typed.AndStatement e1.0 one)) list r e1.3 in
      let i = statement-judged t a e2.0 e1.1 e2.1 j.goes.known b1 e2.2 in
      given-same (λ (v : TypedBlockItems) (q : UnitState). UnitMoves (made_by_block_items v) s q) (typed.AndStatement e1.0 e2.0) list e2.1 r e2.3
      (unit-then (made_by_block_items e1.0) (made_by_statement e2.0) s e1.1 e2.1 (items-move all a on e1.0 s e1.1 k b w e1.2)
      (statement-moves t a e2.0 e1.1 e2.1 j.goes.known b1 e2.2))
  items-move (tree.AndDeclaration all d) a on list s r k b w h =
      let e1 = bind-gives (judge_block_items a on all s) (λ before. λ m. next (judge_declaration false d m) (λ one. pure (typed.AndDeclaration before one))) list r h in
      let j = items-judged all a on e1.0 s e1.1 k b w e1.2 in
      let e2 = bind-gives (judge_declaration false d e1.1) (λ one. pure (typed.AndDeclaration e1.0 one)) list r e1.3 in
      let i = declaration-judged false d e2.0 e1.1 e2.1 j.goes.known e2.2 in
      given-same (λ (v : TypedBlockItems) (q : UnitState). UnitMoves (made_by_block_items v) s q) (typed.AndDeclaration e1.0 e2.0) list e2.1 r e2.3
      (unit-then (made_by_block_items e1.0) (made_by_declaration e2.0) s e1.1 e2.1 (items-move all a on e1.0 s e1.1 k b w e1.2)
      (declaration-moves false d e2.0 e1.1 e2.1 j.goes.known e2.2))
  items-move (tree.AndCase all at e) a on list s r k b w h =
      let e1 = bind-gives (judge_block_items a on all s) (case_label on at e) list r h in
      case_moves on at e e1.0 list s e1.1 r (items-judged all a on e1.0 s e1.1 k b w e1.2).goes.known (items-move all a on e1.0 s e1.1 k b w e1.2) e1.3
  items-move (tree.AndDefault all at) a on list s r k b w h =
      let e1 = bind-gives (judge_block_items a on all s) (default_label at) list r h in
      default_moves at e1.0 list s e1.1 r (items-move all a on e1.0 s e1.1 k b w e1.2) e1.3
