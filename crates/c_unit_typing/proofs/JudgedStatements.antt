-- What judging gives for statements is well typed and erases to what was judged.
use Rattle.std.proofs.Common.{◌≡◌, false, ◌++◌, Option, Some, None, refl, ap, sym, subst, ◌∙◌, arith}
use Rattle.cc_base.specs.declared.number.TypeId.{TypeId}
use Rattle.c_tree.specs.Tree as tree
use Rattle.c_tree.specs.TypedTree as typed
use Rattle.c_tree.specs.TypedTree.{TypedExpr, TypedStatement, TypedBlockItems}
use Rattle.c_tree.specs.TypedParts.{type_of, made_by, made_by_optional, made_by_declaration, made_by_statement, made_by_block_items}
use Rattle.c_typing.specs.Checking.{checked}
use Rattle.c_typing.specs.Shapes.{integer_at}
use Rattle.c_typing.specs.Typing.{IsTyped}
use Rattle.c_typing_laws.proofs.ExtensionLaws.{extended_refl, still_in}
use Rattle.c_typing_laws.proofs.TableGrowth.{extended_trans}
use Rattle.c_type_order.specs.TypesUsed.{used_by}
use Rattle.c_type_order.proofs.Uses.{used-none, then_used}
use Rattle.c_unit_typing.specs.DeclarationJudging.{judge_declaration}
use Rattle.c_unit_typing.specs.StatementJudging.{dropped, returned, promoted_by, promotion, tested, tested_or_none, switched, case_label, default_label, within, judge_statement, judge_block_items}
use Rattle.c_unit_typing.specs.UnitJudged.{state_of, IsResult, IsUnitKnown, IsStatementJudged, IsSwitchThere, AreBlockItemsJudged}
use Rattle.c_unit_typing.specs.UnitJudging.{UnitState, Gives, known_of, next, pure, lifted}
use Rattle.c_unit_typing.specs.Units.{Known, Around, with_scopes, in_a_loop, in_a_switch, entering_known, leaving_known, IsDeclaration, IsDropped, IsTested, IsStatement, AreBlockItems}
use Rattle.c_unit_typing.proofs.JudgedDeclarations.{declaration-judged}
use Rattle.c_unit_typing.proofs.JudgedLabels.{jump-judged, items-on, case-judged, default-judged}
use Rattle.c_unit_typing.proofs.JudgedSwitches.{promoted-integer, switch-passed, switch-there}
use Rattle.c_unit_typing.proofs.JudgedTests.{scopes-alone, tested-judged, tested_or_none-judged}
use Rattle.c_unit_typing.proofs.NumberedTests.{switched-numbers}
use Rattle.c_unit_typing.proofs.Scoped.{IsOpenJudged, within-gives, scope-judged, sub-judged}
use Rattle.c_unit_typing.proofs.UnitOutcomes.{bind-gives, given-same}
use Rattle.c_unit_typing.proofs.UnitStates.{numbers-on, numbers-none, numbers-before, numbers-after, unit-stays, unit-on}
use Rattle.c_unit_typing.specs.TypesUsed.{used_by_declaration, used_by_optional, used_by_statement, used_by_block_items}
use Rattle.c_unit_typing.proofs.TypesOfTests.{inside-types, switched-types}
pub use Rattle.c_unit_typing.proofs.StatementParts.{result-kept, enter-judged, leave-judged, value-part, dropped-part, returned-part}

-- Statements

mutual
  unfolding judge_statement judge_block_items promotion

  pub statement-judged : (t : tree.Statement) (a : Around) (one : TypedStatement) (s r : UnitState) → IsUnitKnown s
      → IsResult s.table a.result → judge_statement a t s ≡ Gives one r → IsStatementJudged a t one s r
  statement-judged (tree.Block brace items) a one s r k b h =
      let w = within-gives brace (λ m. next (judge_block_items a None items m) (λ list. pure (typed.Block brace list))) one s r k h in
      let e = bind-gives (judge_block_items a None items w.first) (λ list. pure (typed.Block brace list)) w.one w.last w.gives in
      let j = items-judged items a None e.0 w.first e.1 w.on.known (result-kept s.table w.first.table a.result w.on.goes.extends b) tt e.2 in
      scope-judged brace (λ m. next (judge_block_items a None items m) (λ list. pure (typed.Block brace list))) a (tree.Block brace items) one s r w
      (given-same (λ (v : TypedStatement) (q : UnitState). IsOpenJudged a (tree.Block brace items) v (known_of s) w.first q) (typed.Block brace e.0) w.one e.1 w.last e.3 (record {
        typed = λ U x k' leaves. (
          known_of e.1,
          subst (λ (c : Known). AreBlockItems U a None e.0 c (known_of e.1)) w.begins (items-on U a None tt e.0 (known_of w.first) (known_of e.1) (j.typed U x)),
          leaves,
          j.defaults,
        );
        erases = ap (tree.Block brace) j.erases;
        numbers = j.numbers;
        types = j.types;
        goes = j.goes;
      }))
  statement-judged (tree.Express e) a one s r k b h =
      let e1 = bind-gives (lifted (checked e) s) (λ v. pure (typed.Express v)) one r h in
      let j = value-part e e1.0 s e1.1 k e1.2 in
      given-same (λ (v : TypedStatement) (q : UnitState). IsStatementJudged a (tree.Express e) v s q) (typed.Express e1.0) one e1.1 r e1.3
      (record { typed = j.typed; erases = ap tree.Express j.erases; numbers = j.numbers; types = j.types; goes = j.goes })
  statement-judged tree.Empty a one s r k b h =
      given-same (λ (v : TypedStatement) (q : UnitState). IsStatementJudged a tree.Empty v s q) typed.Empty one s r h
      (record { typed = λ U x. refl; erases = refl; numbers = numbers-none (state_of s) (state_of s) refl; types = used-none s.table; goes = unit-stays s k })
  statement-judged (tree.If at paren c t) a one s r k b h =
      let w = within-gives at (λ m. next (lifted (checked c) m) (λ test. λ n. next (within at (judge_statement a t) n) (λ inner. tested at test (typed.If at paren test inner)))) one s r k h in
      let e1 = bind-gives (lifted (checked c) w.first) (λ test. λ n. next (within at (judge_statement a t) n) (λ inner. tested at test (typed.If at paren test inner))) w.one w.last w.gives in
      let b0 = result-kept s.table w.first.table a.result w.on.goes.extends b in
      let j = value-part c e1.0 w.first e1.1 w.on.known e1.2 in
      let e2 = bind-gives (within at (judge_statement a t) e1.1) (λ inner. tested at e1.0 (typed.If at paren e1.0 inner)) w.one w.last e1.3 in
      let i = sub-judged at a t e2.0 e1.1 e2.1 j.goes.known (result-kept w.first.table e1.1.table a.result j.goes.goes.extends b0) (λ v x y. statement-judged t a v x y) e2.2 in
      let p = tested-judged at e1.0 (typed.If at paren e1.0 e2.0) w.one (known_of w.first) (known_of e1.1) e2.1 w.last i.goes.known.known (j.typed e2.1.table i.goes.goes.extends) e2.3 in
      scope-judged at (λ m. next (lifted (checked c) m) (λ test. λ n. next (within at (judge_statement a t) n) (λ inner. tested at test (typed.If at paren test inner)))) a (tree.If at paren c t) one s r w
      (given-same (λ (v : TypedStatement) (q : UnitState). IsOpenJudged a (tree.If at paren c t) v (known_of s) w.first q) (typed.If at paren e1.0 e2.0) w.one e2.1 w.last p.same (record {
        typed = λ U x k' leaves. (
          known_of e1.1,
          i.last,
          subst (λ (m : Known). IsTested U e1.0 m (known_of e1.1)) w.begins (p.typed U x),
          i.typed U x,
          leaves ∙ ap leaving_known i.leaves,
        );
        erases = λ z. tree.If at paren (j.erases z) (i.erases z);
        numbers = numbers-on (made_by e1.0) (made_by_statement e2.0) (state_of w.first) (state_of e1.1) (state_of e2.1) j.numbers i.numbers;
        types = then_used (λ U. used_by U e1.0) (λ U. used_by_statement U e2.0) w.first.table e1.1.table e2.1.table j.types i.types;
        goes = unit-on w.first e1.1 e2.1 j.goes i.goes;
      }))
  statement-judged (tree.IfElse at paren c t u) a one s r k b h =
      let w = within-gives at (λ m. next (lifted (checked c) m) (λ test. λ n. next (within at (judge_statement a t) n) (λ inner. λ o. next (within at (judge_statement a u) o) (λ other. tested at test (typed.IfElse at paren test inner other))))) one s r k h in
      let e1 = bind-gives (lifted (checked c) w.first)
      (λ test. λ n. next (within at (judge_statement a t) n) (λ inner. λ o. next (within at (judge_statement a u) o) (λ other. tested at test (typed.IfElse at paren test inner other)))) w.one w.last w.gives in
      let b0 = result-kept s.table w.first.table a.result w.on.goes.extends b in
      let j = value-part c e1.0 w.first e1.1 w.on.known e1.2 in
      let b1 = result-kept w.first.table e1.1.table a.result j.goes.goes.extends b0 in
      let e2 = bind-gives (within at (judge_statement a t) e1.1) (λ inner. λ o. next (within at (judge_statement a u) o) (λ other. tested at e1.0 (typed.IfElse at paren e1.0 inner other))) w.one w.last e1.3 in
      let i = sub-judged at a t e2.0 e1.1 e2.1 j.goes.known b1 (λ v x y. statement-judged t a v x y) e2.2 in
      let e3 = bind-gives (within at (judge_statement a u) e2.1) (λ other. tested at e1.0 (typed.IfElse at paren e1.0 e2.0 other)) w.one w.last e2.3 in
      let o = sub-judged at a u e3.0 e2.1 e3.1 i.goes.known (result-kept e1.1.table e2.1.table a.result i.goes.goes.extends b1) (λ v x y. statement-judged u a v x y) e3.2 in
      let p = tested-judged at e1.0 (typed.IfElse at paren e1.0 e2.0 e3.0) w.one (known_of w.first) (known_of e1.1) e3.1 w.last o.goes.known.known
      (j.typed e3.1.table (extended_trans e1.1.table e2.1.table e3.1.table i.goes.goes.extends o.goes.goes.extends)) e3.3 in
      scope-judged at (λ m. next (lifted (checked c) m) (λ test. λ n. next (within at (judge_statement a t) n) (λ inner. λ o. next (within at (judge_statement a u) o) (λ other. tested at test (typed.IfElse at paren test inner other))))) a (tree.IfElse at paren c t u) one s r w
      (given-same (λ (v : TypedStatement) (q : UnitState). IsOpenJudged a (tree.IfElse at paren c t u) v (known_of s) w.first q) (typed.IfElse at paren e1.0 e2.0 e3.0) w.one e3.1 w.last p.same (record {
        typed = λ U x k' leaves. (
          known_of e1.1,
          i.last,
          o.last,
          subst (λ (m : Known). IsTested U e1.0 m (known_of e1.1)) w.begins (p.typed U x),
          i.typed U (extended_trans e2.1.table e3.1.table U o.goes.goes.extends x),
          subst (λ (m : Known). IsStatement U a e3.0 (entering_known m) o.last) i.leaves (o.typed U x),
          leaves ∙ ap leaving_known o.leaves,
        );
        erases = λ z. tree.IfElse at paren (j.erases z) (i.erases z) (o.erases z);
        numbers = numbers-on (made_by e1.0 ++ made_by_statement e2.0) (made_by_statement e3.0) (state_of w.first) (state_of e2.1) (state_of e3.1)
            (numbers-on (made_by e1.0) (made_by_statement e2.0) (state_of w.first) (state_of e1.1) (state_of e2.1) j.numbers i.numbers) o.numbers;
        types = then_used (λ U. used_by U e1.0 ++ used_by_statement U e2.0) (λ U. used_by_statement U e3.0) w.first.table e2.1.table e3.1.table
            (then_used (λ U. used_by U e1.0) (λ U. used_by_statement U e2.0) w.first.table e1.1.table e2.1.table j.types i.types) o.types;
        goes = unit-on w.first e1.1 e3.1 j.goes (unit-on e1.1 e2.1 e3.1 i.goes o.goes);
      }))
  statement-judged (tree.Switch at paren e brace items) a one s r k b h =
      let w = within-gives at (λ l. next (lifted (checked e) l) (λ c. λ m. next (promotion at c m) (λ on. λ n. next (within brace (judge_block_items (in_a_switch a) (Some (type_of on)) items) n) (λ list. switched at c (typed.Switch at paren on brace list))))) one s r k h in
      let e1 = bind-gives (lifted (checked e) w.first)
      (λ c. λ m. next (promotion at c m) (λ on. λ n. next (within brace (judge_block_items (in_a_switch a) (Some (type_of on)) items) n) (λ list. switched at c (typed.Switch at paren on brace list)))) w.one w.last w.gives in
      let c = e1.0 in
      let on : TypedExpr = promoted_by at c (integer_at e1.1.table (type_of c)) in
      let f : Around = in_a_switch a in
      let b0 = result-kept s.table w.first.table a.result w.on.goes.extends b in
      let v = value-part e c w.first e1.1 w.on.known e1.2 in
      let e2 = bind-gives (within brace (judge_block_items f (Some (type_of on)) items) e1.1) (λ list. switched at c (typed.Switch at paren on brace list)) w.one w.last e1.3 in
      let u = within-gives brace (judge_block_items f (Some (type_of on)) items) e2.0 e1.1 e2.1 v.goes.known e2.2 in
      let b2 = result-kept e1.1.table u.first.table a.result u.on.goes.extends (result-kept w.first.table e1.1.table a.result v.goes.goes.extends b0) in
      let there = still_in e1.1.table u.first.table u.on.goes.extends (type_of on) (switch-there at e c w.first e1.1 w.on.known.known e1.2).1 in
      let i = items-judged items f (Some (type_of on)) u.one u.first u.last u.on.known b2 there u.gives in
      let out = u.ends i.goes.known in
      let inner = unit-on e1.1 u.first e2.1 u.on (unit-on u.first u.last e2.1 i.goes out.on) in
      let p = switch-passed at e c (typed.Switch at paren on brace e2.0) w.one w.first e1.1 e2.1 w.last w.on.known.known e1.2 inner.goes.extends e2.3 in
      let j = p.1 in
      let made = switched-numbers at e c w.first e1.1 w.on.known.known e1.2 in
      let begins : known_of u.first ≡ entering_known (with_scopes (known_of w.first) e1.1.seen.scopes) = u.begins ∙ ap entering_known (scopes-alone w.first e1.1 j.linkage) in
      let start : known_of u.first ≡ entering_known (with_scopes (known_of s) e1.1.seen.scopes) = begins ∙ ap (λ (m : Known). entering_known (with_scopes m e1.1.seen.scopes)) w.begins in
      let whole : TypedStatement = typed.Switch at paren on brace u.one in
      let same : ◌≡◌ {A = TypedStatement} (typed.Switch at paren on brace e2.0) whole = ap (typed.Switch at paren on brace) (sym out.same) in
      scope-judged at (λ l. next (lifted (checked e) l) (λ c. λ m. next (promotion at c m) (λ on. λ n. next (within brace (judge_block_items (in_a_switch a) (Some (type_of on)) items) n) (λ list. switched at c (typed.Switch at paren on brace list))))) a (tree.Switch at paren e brace items) one s r w
      (given-same (λ (v : TypedStatement) (q : UnitState). IsOpenJudged a (tree.Switch at paren e brace items) v (known_of s) w.first q) (typed.Switch at paren on brace e2.0) w.one e2.1 w.last p.0
      (subst (λ (v : TypedStatement). IsOpenJudged a (tree.Switch at paren e brace items) v (known_of s) w.first e2.1) (sym same) (record {
        typed = λ U x k' leaves.
            let y = extended_trans u.last.table e2.1.table U out.on.goes.extends x in
            let z = extended_trans e1.1.table e2.1.table U inner.goes.extends x in
            let head = j.typed U z in (
              e1.1.seen.scopes,
              known_of u.last,
              subst (λ (m : Known). IsTyped U on m.scopes e1.1.seen.scopes) w.begins head.0,
              record { operand = head.1; labels = i.labels; defaults = i.defaults },
              subst (λ (m : Known). AreBlockItems U f (Some (type_of on)) u.one m (known_of u.last)) start
                  (items-on U f (Some (type_of on)) (promoted-integer U at on head.1) u.one (known_of u.first) (known_of u.last) (i.typed U y)),
              leaves ∙ ap leaving_known out.leaves,
            );
        erases = λ z. tree.Switch at paren (j.erases z) brace (i.erases z);
        numbers = numbers-on (made_by on) (made_by_block_items u.one) (state_of w.first) (state_of e1.1) (state_of e2.1) made
            (numbers-before (made_by_block_items u.one) (state_of e1.1) (state_of u.last) (state_of e2.1)
            (numbers-after (made_by_block_items u.one) (state_of e1.1) (state_of u.first) (state_of u.last) u.node i.numbers) out.node);
        types = then_used (λ U. used_by U on) (λ U. used_by_block_items U u.one) w.first.table e1.1.table e2.1.table (switched-types at e c w.first e1.1 w.on.known.known e1.2)
            (inside-types (λ U. used_by_block_items U u.one) e1.1.table u.first.table u.last.table e2.1.table u.table u.after i.types);
        goes = unit-on w.first e1.1 e2.1 v.goes inner;
      })))
  statement-judged (tree.While at paren c t) a one s r k b h =
      let w = within-gives at (λ m. next (lifted (checked c) m) (λ test. λ n. next (within at (judge_statement (in_a_loop a) t) n) (λ inner. tested at test (typed.While at paren test inner)))) one s r k h in
      let e1 = bind-gives (lifted (checked c) w.first) (λ test. λ n. next (within at (judge_statement (in_a_loop a) t) n) (λ inner. tested at test (typed.While at paren test inner))) w.one w.last w.gives in
      let b0 = result-kept s.table w.first.table a.result w.on.goes.extends b in
      let j = value-part c e1.0 w.first e1.1 w.on.known e1.2 in
      let e2 = bind-gives (within at (judge_statement (in_a_loop a) t) e1.1) (λ inner. tested at e1.0 (typed.While at paren e1.0 inner)) w.one w.last e1.3 in
      let i = sub-judged at (in_a_loop a) t e2.0 e1.1 e2.1 j.goes.known (result-kept w.first.table e1.1.table a.result j.goes.goes.extends b0) (λ v x y. statement-judged t (in_a_loop a) v x y) e2.2 in
      let p = tested-judged at e1.0 (typed.While at paren e1.0 e2.0) w.one (known_of w.first) (known_of e1.1) e2.1 w.last i.goes.known.known (j.typed e2.1.table i.goes.goes.extends) e2.3 in
      scope-judged at (λ m. next (lifted (checked c) m) (λ test. λ n. next (within at (judge_statement (in_a_loop a) t) n) (λ inner. tested at test (typed.While at paren test inner)))) a (tree.While at paren c t) one s r w
      (given-same (λ (v : TypedStatement) (q : UnitState). IsOpenJudged a (tree.While at paren c t) v (known_of s) w.first q) (typed.While at paren e1.0 e2.0) w.one e2.1 w.last p.same (record {
        typed = λ U x k' leaves. (
          known_of e1.1,
          i.last,
          subst (λ (m : Known). IsTested U e1.0 m (known_of e1.1)) w.begins (p.typed U x),
          i.typed U x,
          leaves ∙ ap leaving_known i.leaves,
        );
        erases = λ z. tree.While at paren (j.erases z) (i.erases z);
        numbers = numbers-on (made_by e1.0) (made_by_statement e2.0) (state_of w.first) (state_of e1.1) (state_of e2.1) j.numbers i.numbers;
        types = then_used (λ U. used_by U e1.0) (λ U. used_by_statement U e2.0) w.first.table e1.1.table e2.1.table j.types i.types;
        goes = unit-on w.first e1.1 e2.1 j.goes i.goes;
      }))
  statement-judged (tree.DoWhile t at paren c) a one s r k b h =
      let w = within-gives at (λ m. next (within at (judge_statement (in_a_loop a) t) m) (λ inner. λ n. next (lifted (checked c) n) (λ test. tested at test (typed.DoWhile inner at paren test)))) one s r k h in
      let e1 = bind-gives (within at (judge_statement (in_a_loop a) t) w.first) (λ inner. λ n. next (lifted (checked c) n) (λ test. tested at test (typed.DoWhile inner at paren test))) w.one w.last w.gives in
      let b0 = result-kept s.table w.first.table a.result w.on.goes.extends b in
      let i = sub-judged at (in_a_loop a) t e1.0 w.first e1.1 w.on.known b0 (λ v x y. statement-judged t (in_a_loop a) v x y) e1.2 in
      let e2 = bind-gives (lifted (checked c) e1.1) (λ test. tested at test (typed.DoWhile e1.0 at paren test)) w.one w.last e1.3 in
      let j = value-part c e2.0 e1.1 e2.1 i.goes.known e2.2 in
      let p = tested-judged at e2.0 (typed.DoWhile e1.0 at paren e2.0) w.one (known_of e1.1) (known_of e2.1) e2.1 w.last j.goes.known.known (j.typed e2.1.table (extended_refl e2.1.table)) e2.3 in
      scope-judged at (λ m. next (within at (judge_statement (in_a_loop a) t) m) (λ inner. λ n. next (lifted (checked c) n) (λ test. tested at test (typed.DoWhile inner at paren test)))) a (tree.DoWhile t at paren c) one s r w
      (given-same (λ (v : TypedStatement) (q : UnitState). IsOpenJudged a (tree.DoWhile t at paren c) v (known_of s) w.first q) (typed.DoWhile e1.0 at paren e2.0) w.one e2.1 w.last p.same (record {
        typed = λ U x k' leaves. (
          i.last,
          known_of e2.1,
          subst (λ (m : Known). IsStatement U (in_a_loop a) e1.0 (entering_known m) i.last) w.begins (i.typed U (extended_trans e1.1.table e2.1.table U j.goes.goes.extends x)),
          subst (λ (m : Known). IsTested U e2.0 m (known_of e2.1)) i.leaves (p.typed U x),
          leaves,
        );
        erases = λ z. tree.DoWhile (i.erases z) at paren (j.erases z);
        numbers = numbers-on (made_by_statement e1.0) (made_by e2.0) (state_of w.first) (state_of e1.1) (state_of e2.1) i.numbers j.numbers;
        types = then_used (λ U. used_by_statement U e1.0) (λ U. used_by U e2.0) w.first.table e1.1.table e2.1.table i.types j.types;
        goes = unit-on w.first e1.1 e2.1 i.goes j.goes;
      }))
  statement-judged (tree.For at paren first test step t) a one s r k b h =
      let w = within-gives at (λ m. next (dropped first m) (λ f. λ n. next (dropped test n) (λ c. λ o. next (dropped step o) (λ g. λ q. next (within at (judge_statement (in_a_loop a) t) q) (λ inner. tested_or_none at c (typed.For at paren f c g inner)))))) one s r k h in
      let b0 = result-kept s.table w.first.table a.result w.on.goes.extends b in
      let e1 = bind-gives (dropped first w.first) (λ f. λ n. next (dropped test n) (λ c. λ o. next (dropped step o) (λ g. λ q. next (within at (judge_statement (in_a_loop a) t) q) (λ inner. tested_or_none at c (typed.For at paren f c g inner))))) w.one w.last w.gives in
      let j1 = dropped-part first e1.0 w.first e1.1 w.on.known e1.2 in
      let b1 = result-kept w.first.table e1.1.table a.result j1.goes.goes.extends b0 in
      let e2 = bind-gives (dropped test e1.1) (λ c. λ o. next (dropped step o) (λ g. λ q.
      next (within at (judge_statement (in_a_loop a) t) q) (λ inner. tested_or_none at c (typed.For at paren e1.0 c g inner)))) w.one w.last e1.3 in
      let j2 = dropped-part test e2.0 e1.1 e2.1 j1.goes.known e2.2 in
      let b2 = result-kept e1.1.table e2.1.table a.result j2.goes.goes.extends b1 in
      let e3 = bind-gives (dropped step e2.1) (λ g. λ q. next (within at (judge_statement (in_a_loop a) t) q) (λ inner. tested_or_none at e2.0 (typed.For at paren e1.0 e2.0 g inner))) w.one w.last e2.3 in
      let j3 = dropped-part step e3.0 e2.1 e3.1 j2.goes.known e3.2 in
      let b3 = result-kept e2.1.table e3.1.table a.result j3.goes.goes.extends b2 in
      let e4 = bind-gives (within at (judge_statement (in_a_loop a) t) e3.1) (λ inner. tested_or_none at e2.0 (typed.For at paren e1.0 e2.0 e3.0 inner)) w.one w.last e3.3 in
      let i = sub-judged at (in_a_loop a) t e4.0 e3.1 e4.1 j3.goes.known b3 (λ v x y. statement-judged t (in_a_loop a) v x y) e4.2 in
      let p = tested_or_none-judged at e2.0 (typed.For at paren e1.0 e2.0 e3.0 e4.0) w.one (known_of e1.1) (known_of e2.1) e4.1 w.last i.goes.known.known
      (j2.typed e4.1.table (extended_trans e2.1.table e3.1.table e4.1.table j3.goes.goes.extends i.goes.goes.extends)) e4.3 in
      scope-judged at (λ m. next (dropped first m) (λ f. λ n. next (dropped test n) (λ c. λ o. next (dropped step o) (λ g. λ q. next (within at (judge_statement (in_a_loop a) t) q) (λ inner. tested_or_none at c (typed.For at paren f c g inner)))))) a (tree.For at paren first test step t) one s r w
      (given-same (λ (v : TypedStatement) (q : UnitState). IsOpenJudged a (tree.For at paren first test step t) v (known_of s) w.first q) (typed.For at paren e1.0 e2.0 e3.0 e4.0) w.one e4.1 w.last p.same (record {
        typed = λ U x k' leaves.
            let y = extended_trans e3.1.table e4.1.table U i.goes.goes.extends x in
            let z = extended_trans e2.1.table e3.1.table U j3.goes.goes.extends y in
            let v = extended_trans e1.1.table e2.1.table U j2.goes.goes.extends z in (
              known_of e1.1,
              known_of e2.1,
              known_of e3.1,
              i.last,
              subst (λ (m : Known). IsDropped U e1.0 m (known_of e1.1)) w.begins (j1.typed U v),
              p.typed U x,
              j3.typed U y,
              i.typed U x,
              leaves ∙ ap leaving_known i.leaves,
            );
        erases = λ z. tree.For at paren (j1.erases z) (j2.erases z) (j3.erases z) (i.erases z);
        numbers = numbers-on (made_by_optional e1.0 ++ made_by_optional e2.0 ++ made_by_optional e3.0) (made_by_statement e4.0) (state_of w.first) (state_of e3.1) (state_of e4.1)
            (numbers-on (made_by_optional e1.0 ++ made_by_optional e2.0) (made_by_optional e3.0) (state_of w.first) (state_of e2.1) (state_of e3.1)
            (numbers-on (made_by_optional e1.0) (made_by_optional e2.0) (state_of w.first) (state_of e1.1) (state_of e2.1) j1.numbers j2.numbers) j3.numbers) i.numbers;
        types = then_used (λ U. used_by_optional U e1.0 ++ used_by_optional U e2.0 ++ used_by_optional U e3.0) (λ U. used_by_statement U e4.0) w.first.table e3.1.table e4.1.table
            (then_used (λ U. used_by_optional U e1.0 ++ used_by_optional U e2.0) (λ U. used_by_optional U e3.0) w.first.table e2.1.table e3.1.table
            (then_used (λ U. used_by_optional U e1.0) (λ U. used_by_optional U e2.0) w.first.table e1.1.table e2.1.table j1.types j2.types) j3.types) i.types;
        goes = unit-on w.first e1.1 e4.1 j1.goes (unit-on e1.1 e2.1 e4.1 j2.goes (unit-on e2.1 e3.1 e4.1 j3.goes i.goes));
      }))
  statement-judged (tree.ForDeclaration at paren d test step t) a one s r k b h =
      let w = within-gives at (λ m. next (judge_declaration false d m) (λ f. λ n. next (dropped test n) (λ c. λ o. next (dropped step o) (λ g. λ q. next (within at (judge_statement (in_a_loop a) t) q) (λ inner. tested_or_none at c (typed.ForDeclaration at paren f c g inner)))))) one s r k h in
      let b0 = result-kept s.table w.first.table a.result w.on.goes.extends b in
      let e1 = bind-gives (judge_declaration false d w.first) (λ f. λ n. next (dropped test n) (λ c. λ o. next (dropped step o) (λ g. λ q. next (within at (judge_statement (in_a_loop a) t) q) (λ inner. tested_or_none at c (typed.ForDeclaration at paren f c g inner))))) w.one w.last w.gives in
      let j1 = declaration-judged false d e1.0 w.first e1.1 w.on.known e1.2 in
      let b1 = result-kept w.first.table e1.1.table a.result j1.goes.goes.extends b0 in
      let e2 = bind-gives (dropped test e1.1) (λ c. λ o. next (dropped step o) (λ g. λ q.
      next (within at (judge_statement (in_a_loop a) t) q) (λ inner. tested_or_none at c (typed.ForDeclaration at paren e1.0 c g inner)))) w.one w.last e1.3 in
      let j2 = dropped-part test e2.0 e1.1 e2.1 j1.goes.known e2.2 in
      let b2 = result-kept e1.1.table e2.1.table a.result j2.goes.goes.extends b1 in
      let e3 = bind-gives (dropped step e2.1) (λ g. λ q. next (within at (judge_statement (in_a_loop a) t) q) (λ inner. tested_or_none at e2.0 (typed.ForDeclaration at paren e1.0 e2.0 g inner))) w.one w.last e2.3 in
      let j3 = dropped-part step e3.0 e2.1 e3.1 j2.goes.known e3.2 in
      let b3 = result-kept e2.1.table e3.1.table a.result j3.goes.goes.extends b2 in
      let e4 = bind-gives (within at (judge_statement (in_a_loop a) t) e3.1) (λ inner. tested_or_none at e2.0 (typed.ForDeclaration at paren e1.0 e2.0 e3.0 inner)) w.one w.last e3.3 in
      let i = sub-judged at (in_a_loop a) t e4.0 e3.1 e4.1 j3.goes.known b3 (λ v x y. statement-judged t (in_a_loop a) v x y) e4.2 in
      let p = tested_or_none-judged at e2.0 (typed.ForDeclaration at paren e1.0 e2.0 e3.0 e4.0) w.one (known_of e1.1) (known_of e2.1) e4.1 w.last i.goes.known.known
      (j2.typed e4.1.table (extended_trans e2.1.table e3.1.table e4.1.table j3.goes.goes.extends i.goes.goes.extends)) e4.3 in
      scope-judged at (λ m. next (judge_declaration false d m) (λ f. λ n. next (dropped test n) (λ c. λ o. next (dropped step o) (λ g. λ q. next (within at (judge_statement (in_a_loop a) t) q) (λ inner. tested_or_none at c (typed.ForDeclaration at paren f c g inner)))))) a (tree.ForDeclaration at paren d test step t) one s r w
      (given-same (λ (v : TypedStatement) (q : UnitState). IsOpenJudged a (tree.ForDeclaration at paren d test step t) v (known_of s) w.first q) (typed.ForDeclaration at paren e1.0 e2.0 e3.0 e4.0) w.one e4.1 w.last p.same (record {
        typed = λ U x k' leaves.
            let y = extended_trans e3.1.table e4.1.table U i.goes.goes.extends x in
            let z = extended_trans e2.1.table e3.1.table U j3.goes.goes.extends y in
            let v = extended_trans e1.1.table e2.1.table U j2.goes.goes.extends z in (
              known_of e1.1,
              known_of e2.1,
              known_of e3.1,
              i.last,
              subst (λ (m : Known). IsDeclaration U false e1.0 m (known_of e1.1)) w.begins (j1.typed U v),
              p.typed U x,
              j3.typed U y,
              i.typed U x,
              leaves ∙ ap leaving_known i.leaves,
            );
        erases = λ z. tree.ForDeclaration at paren (j1.erases z) (j2.erases z) (j3.erases z) (i.erases z);
        numbers = numbers-on (made_by_declaration e1.0 ++ made_by_optional e2.0 ++ made_by_optional e3.0) (made_by_statement e4.0) (state_of w.first) (state_of e3.1) (state_of e4.1)
            (numbers-on (made_by_declaration e1.0 ++ made_by_optional e2.0) (made_by_optional e3.0) (state_of w.first) (state_of e2.1) (state_of e3.1)
            (numbers-on (made_by_declaration e1.0) (made_by_optional e2.0) (state_of w.first) (state_of e1.1) (state_of e2.1) j1.numbers j2.numbers) j3.numbers) i.numbers;
        types = then_used (λ U. used_by_declaration U e1.0 ++ used_by_optional U e2.0 ++ used_by_optional U e3.0) (λ U. used_by_statement U e4.0) w.first.table e3.1.table e4.1.table
            (then_used (λ U. used_by_declaration U e1.0 ++ used_by_optional U e2.0) (λ U. used_by_optional U e3.0) w.first.table e2.1.table e3.1.table
            (then_used (λ U. used_by_declaration U e1.0) (λ U. used_by_optional U e2.0) w.first.table e1.1.table e2.1.table j1.types j2.types) j3.types) i.types;
        goes = unit-on w.first e1.1 e4.1 j1.goes (unit-on e1.1 e2.1 e4.1 j2.goes (unit-on e2.1 e3.1 e4.1 j3.goes i.goes));
      }))
  statement-judged (tree.Break at) a one s r k b h =
      jump-judged at a.breakable a (tree.Break at) (typed.Break at) one s r
      (λ yes. record { typed = λ U x. (refl, yes); erases = refl; numbers = numbers-none (state_of s) (state_of s) refl; types = used-none s.table; goes = unit-stays s k }) h
  statement-judged (tree.Continue at) a one s r k b h =
      jump-judged at a.in_loop a (tree.Continue at) (typed.Continue at) one s r
      (λ yes. record { typed = λ U x. (refl, yes); erases = refl; numbers = numbers-none (state_of s) (state_of s) refl; types = used-none s.table; goes = unit-stays s k }) h
  statement-judged (tree.Return at e) a one s r k b h =
      let e1 = bind-gives (returned at a.result e s) (λ v. pure (typed.Return at v)) one r h in
      let j = returned-part at a.result e e1.0 s e1.1 k b e1.2 in
      given-same (λ (v : TypedStatement) (q : UnitState). IsStatementJudged a (tree.Return at e) v s q) (typed.Return at e1.0) one e1.1 r e1.3
      (record { typed = j.typed; erases = ap (tree.Return at) j.erases; numbers = j.numbers; types = j.types; goes = j.goes })

  pub items-judged : (all : tree.BlockItems) (a : Around) (on : Option TypeId) (list : TypedBlockItems) (s r : UnitState) → IsUnitKnown s
      → IsResult s.table a.result → IsSwitchThere s.table on → judge_block_items a on all s ≡ Gives list r → AreBlockItemsJudged a on all list s r
  items-judged tree.NoBlockItem a on list s r k b w h =
      given-same (λ (v : TypedBlockItems) (q : UnitState). AreBlockItemsJudged a on tree.NoBlockItem v s q) typed.NoBlockItem list s r h
      (record { typed = λ U x. refl; labels = tt; defaults = omega arith; erases = refl; numbers = numbers-none (state_of s) (state_of s) refl; types = used-none s.table; goes = unit-stays s k })
  items-judged (tree.AndStatement all t) a on list s r k b w h =
      let e1 = bind-gives (judge_block_items a on all s) (λ before. λ m. next (judge_statement a t m) (λ one. pure (typed.AndStatement before one))) list r h in
      let j = items-judged all a on e1.0 s e1.1 k b w e1.2 in
      let e2 = bind-gives (judge_statement a t e1.1) (λ one. pure (typed.AndStatement e1.0 one)) list r e1.3 in
      let i = statement-judged t a e2.0 e1.1 e2.1 j.goes.known (result-kept s.table e1.1.table a.result j.goes.goes.extends b) e2.2 in
      given-same (λ (v : TypedBlockItems) (q : UnitState). AreBlockItemsJudged a on (tree.AndStatement all t) v s q) (typed.AndStatement e1.0 e2.0) list e2.1 r e2.3 (record {
        typed = λ U x. (known_of e1.1, j.typed U (extended_trans e1.1.table e2.1.table U i.goes.goes.extends x), i.typed U x);
        labels = j.labels;
        defaults = j.defaults;
        erases = λ z. tree.AndStatement (j.erases z) (i.erases z);
        numbers = numbers-on (made_by_block_items e1.0) (made_by_statement e2.0) (state_of s) (state_of e1.1) (state_of e2.1) j.numbers i.numbers;
        types = then_used (λ U. used_by_block_items U e1.0) (λ U. used_by_statement U e2.0) s.table e1.1.table e2.1.table j.types i.types;
        goes = unit-on s e1.1 e2.1 j.goes i.goes;
      })
  items-judged (tree.AndDeclaration all d) a on list s r k b w h =
      let e1 = bind-gives (judge_block_items a on all s) (λ before. λ m. next (judge_declaration false d m) (λ one. pure (typed.AndDeclaration before one))) list r h in
      let j = items-judged all a on e1.0 s e1.1 k b w e1.2 in
      let e2 = bind-gives (judge_declaration false d e1.1) (λ one. pure (typed.AndDeclaration e1.0 one)) list r e1.3 in
      let i = declaration-judged false d e2.0 e1.1 e2.1 j.goes.known e2.2 in
      given-same (λ (v : TypedBlockItems) (q : UnitState). AreBlockItemsJudged a on (tree.AndDeclaration all d) v s q) (typed.AndDeclaration e1.0 e2.0) list e2.1 r e2.3 (record {
        typed = λ U x. (known_of e1.1, j.typed U (extended_trans e1.1.table e2.1.table U i.goes.goes.extends x), i.typed U x);
        labels = j.labels;
        defaults = j.defaults;
        erases = λ z. tree.AndDeclaration (j.erases z) (i.erases z);
        numbers = numbers-on (made_by_block_items e1.0) (made_by_declaration e2.0) (state_of s) (state_of e1.1) (state_of e2.1) j.numbers i.numbers;
        types = then_used (λ U. used_by_block_items U e1.0) (λ U. used_by_declaration U e2.0) s.table e1.1.table e2.1.table j.types i.types;
        goes = unit-on s e1.1 e2.1 j.goes i.goes;
      })
  items-judged (tree.AndCase all at e) a on list s r k b w h =
      let e1 = bind-gives (judge_block_items a on all s) (case_label on at e) list r h in
      case-judged a on all e1.0 list at e s e1.1 r w (items-judged all a on e1.0 s e1.1 k b w e1.2) e1.3
  items-judged (tree.AndDefault all at) a on list s r k b w h =
      let e1 = bind-gives (judge_block_items a on all s) (default_label at) list r h in
      default-judged a on all e1.0 list at s e1.1 r (items-judged all a on e1.0 s e1.1 k b w e1.2) e1.3
