-- What judging refuses of statements breaks the rule that is named.
use Rattle.std.proofs.Common.{◌≡◌, Bool, false, not, ◌==◌, [], ◌∷◌, Option, Some, None, subst, ◌⊎◌, inl, inr}
use Rattle.cc_base.specs.declared.place.Place.{Place}
use Rattle.cc_base.specs.declared.number.TypeId.{TypeId}
use Rattle.cc_base.specs.declared.fault.Fault.TheVariants.{Refused}
use Rattle.cc_base.specs.declared.fault.Rule.{Rule}
use Rattle.cc_base.specs.declared.fault.Rule.TheVariants as rule
use Rattle.c_types.specs.Table.{Table}
use Rattle.c_tree.specs.Erasure.{erased_declaration}
use Rattle.c_tree.specs.Places.{expr_place}
use Rattle.c_tree.specs.Tree as tree
use Rattle.c_tree.specs.TypedTree as typed
use Rattle.c_tree.specs.TypedTree.{TypedExpr, TypedDeclaration, TypedStatement, TypedBlockItems}
use Rattle.c_tree.specs.TypedParts.{type_of}
use Rattle.c_typing.specs.Checking.{checked}
use Rattle.c_typing.specs.Declaring.{entered, left}
use Rattle.c_typing.specs.Refusals.{Fails, After, Refuses}
use Rattle.c_typing.specs.Shapes.{integer_at}
use Rattle.c_typing.specs.Tests.{AsValue, broken_at}
use Rattle.c_typing_laws.proofs.ExtensionLaws.{still_in}
use Rattle.c_typing_laws.proofs.RefusedSteps.{entered-never, left-never}
use Rattle.c_unit_typing.specs.DeclarationJudging.{judge_declaration}
use Rattle.c_unit_typing.specs.StatementJudging.{dropped, returned, promoted_by, promotion, tested, tested_or_none, switched, case_label, default_label, within, judge_statement, judge_block_items}
use Rattle.c_unit_typing.specs.UnitJudged.{state_of, IsResult, IsUnitKnown, UnitGoesOn, IsSwitchThere, AreBlockItemsJudged}
use Rattle.c_unit_typing.specs.UnitJudging.{UnitState, UnitJudging, Gives, Stops, known_of, next, pure, lifted}
use Rattle.c_unit_typing.specs.UnitRefusals.{label_tests, label_value, switch_tests, switch_type, FailsTest, RefusesOptional, AfterValue, AfterDropped, AfterStatement, AfterItems, RefusesDeclaration, RefusesStatement, RefusesItemsOf}
use Rattle.c_unit_typing.specs.Units.{Known, Around, in_a_loop, in_a_switch, entering_known, leaving_known, IsDeclaration, labels_of, defaults_in}
use Rattle.c_unit_typing.proofs.JudgedDeclarations.{declaration-judged}
use Rattle.c_unit_typing.proofs.JudgedStatements.{result-kept, enter-judged, value-part, dropped-part, statement-judged, items-judged}
use Rattle.c_unit_typing.proofs.JudgedSwitches.{switch-there, switch-typed}
use Rattle.c_unit_typing.proofs.RefusedDeclarations.{declaration-stopped}
use Rattle.c_unit_typing.proofs.RefusedLabels.{jump-stopped, default-stopped, case-stopped}
use Rattle.c_unit_typing.proofs.RefusedTests.{value-stopped, tested-stopped, tested_or_none-stopped, dropped-stopped, returned-stopped, switched-stopped}
use Rattle.c_unit_typing.proofs.Scoped.{IsSubJudged, within-gives, sub-judged}
use Rattle.c_unit_typing.proofs.UnitStops.{never-stops, lifted-unrefused, IsStopped, stopped-after, stopped-as, stopped-step}

module _ (p : Place) (t : Rule) where
  pub entered_not : {P : Type 0} (s r : UnitState) → lifted entered s ≡ Stops (Refused p t) r → P
  entered_not s r h = absurd (lifted-unrefused entered s (entered-never p t (state_of s)) p t r h)

  pub left_not : {A P : Type 0} (at : Place) (a : A) (s r : UnitState) → lifted (left at a) s ≡ Stops (Refused p t) r → P
  left_not at a s r h = absurd (lifted-unrefused (left at a) s (left-never at a (state_of s)) p t r h)

  -- after an expression, a statement or what a block holds so far

  after_value : (e : tree.Expr) (c : TypedExpr) (Next : Table → TypedExpr → Known → Type 0) (s m r : UnitState) → IsUnitKnown s → lifted (checked e) s ≡ Gives c m
      → IsStopped (λ T. Next T c (known_of m)) m r → IsStopped (λ T. AfterValue T e (known_of s) (Next T)) s r
  after_value e c Next s m r k q h =
      let j = value-part e c s m k q in
      stopped-after p t (λ T. AfterValue T e (known_of s) (Next T)) s m r j.goes.goes.extends
      (stopped-as p t (λ T. Next T c (known_of m)) (λ T. AfterValue T e (known_of s) (Next T)) m r (λ x f. (c, known_of m, j.typed r.table x, j.erases, f)) h)

  after_dropped : (e : Option tree.Expr) (c : Option TypedExpr) (Next : Table → Option TypedExpr → Known → Type 0) (s m r : UnitState) → IsUnitKnown s → dropped e s ≡ Gives c m
      → IsStopped (λ T. Next T c (known_of m)) m r → IsStopped (λ T. AfterDropped T e (known_of s) (Next T)) s r
  after_dropped e c Next s m r k q h =
      let j = dropped-part e c s m k q in
      stopped-after p t (λ T. AfterDropped T e (known_of s) (Next T)) s m r j.goes.goes.extends
      (stopped-as p t (λ T. Next T c (known_of m)) (λ T. AfterDropped T e (known_of s) (Next T)) m r (λ x f. (c, known_of m, j.typed r.table x, j.erases, f)) h)

  -- a substatement, whose scope is left
  after_sub : (a : Around) (u : tree.Statement) (one : TypedStatement) (Next : Table → Known → Type 0) (s m r : UnitState) → IsSubJudged a u one s m
      → IsStopped (λ T. Next T (known_of m)) m r → IsStopped (λ T. AfterStatement T a u (entering_known (known_of s)) (λ n. Next T (leaving_known n))) s r
  after_sub a u one Next s m r j h =
      let P : Table → Type 0 = λ T. AfterStatement T a u (entering_known (known_of s)) (λ n. Next T (leaving_known n)) in
      stopped-after p t P s m r j.goes.goes.extends
      (stopped-as p t (λ T. Next T (known_of m)) P m r (λ x f. (one, j.last, j.typed r.table x, j.erases, subst (Next r.table) j.leaves f)) h)

  after_items : (a : Around) (on : Option TypeId) (all : tree.BlockItems) (list : TypedBlockItems) (Next : Table → TypedBlockItems → Known → Type 0) (s m r : UnitState)
      → AreBlockItemsJudged a on all list s m → IsStopped (λ T. Next T list (known_of m)) m r → IsStopped (λ T. AfterItems T a on all (known_of s) (Next T)) s r
  after_items a on all list Next s m r j h =
      stopped-after p t (λ T. AfterItems T a on all (known_of s) (Next T)) s m r j.goes.goes.extends
      (stopped-as p t (λ T. Next T list (known_of m)) (λ T. AfterItems T a on all (known_of s) (Next T)) m r (λ x f. (list, known_of m, j.typed r.table x, j.labels, j.defaults, j.erases, f)) h)

  -- the first of two or the second
  first_refused : (P Q : Table → Type 0) (s r : UnitState) → IsStopped P s r → IsStopped (λ T. P T ⊎ Q T) s r
  first_refused P Q s r h = stopped-as p t P (λ T. P T ⊎ Q T) s r (λ x f. inl f) h

  then_refused : (P Q : Table → Type 0) (s r : UnitState) → IsStopped Q s r → IsStopped (λ T. P T ⊎ Q T) s r
  then_refused P Q s r h = stopped-as p t Q (λ T. P T ⊎ Q T) s r (λ x f. inr f) h

  -- in a scope of its own
  inside : (Q : Table → Known → Type 0) (b : Bool) (s m r : UnitState) → IsUnitKnown s → lifted entered s ≡ Gives b m → IsStopped (λ T. Q T (known_of m)) m r
      → IsStopped (λ T. Q T (entering_known (known_of s))) s r
  inside Q b s m r k q h =
      let en = enter-judged b s m k q in
      stopped-after p t (λ T. Q T (entering_known (known_of s))) s m r en.1.goes.extends
      (stopped-as p t (λ T. Q T (known_of m)) (λ T. Q T (entering_known (known_of s))) m r (λ x f. subst (Q r.table) en.0 f) h)

  pub within-stopped : {A : Type 0} (at : Place) (go : UnitJudging A) (Q : Table → Known → Type 0) (s r : UnitState) → IsUnitKnown s
      → ((i : UnitState) → IsUnitKnown i → UnitGoesOn s i → go i ≡ Stops (Refused p t) r → IsStopped (λ T. Q T (known_of i)) i r)
      → within at go s ≡ Stops (Refused p t) r → IsStopped (λ T. Q T (entering_known (known_of s))) s r
  unfolding within
  within-stopped at go Q s r k judged h =
      stopped-step p t (lifted entered s) (λ i. λ m. next (go m) (λ one. lifted (left at one))) (λ T. Q T (entering_known (known_of s))) s r (λ q. entered_not s r q)
      (λ i m q g.
      let en = enter-judged i s m k q in
      inside Q i s m r k q
      (stopped-step p t (go m) (λ one. lifted (left at one)) (λ T. Q T (known_of m)) m r (λ y. judged m en.1.known en.1 y) (λ one n y z. left_not at one n r z) g)) h

  -- A statement in its scope, under a condition that is tried last

  abbrev StatementStops : tree.Statement → Around → UnitState → Type 0
  StatementStops u a r = (x : UnitState) → IsUnitKnown x → IsResult x.table a.result → judge_statement a u x ≡ Stops (Refused p t) r
      → IsStopped (λ T. RefusesStatement T a u (known_of x) (Refused p t)) x r

  -- what is refused of a substatement or after it
  sub_stopped : (a : Around) (at : Place) (u : tree.Statement) (made : TypedStatement → UnitJudging TypedStatement) (Next : Table → Known → Type 0) (m r : UnitState)
      → IsUnitKnown m → IsResult m.table a.result → StatementStops u a r
      → ((one : TypedStatement) (n : UnitState) → IsSubJudged a u one m n → made one n ≡ Stops (Refused p t) r → IsStopped (λ T. Next T (known_of n)) n r)
      → next (within at (judge_statement a u) m) made ≡ Stops (Refused p t) r
      → IsStopped (λ T. RefusesStatement T a u (entering_known (known_of m)) (Refused p t) ⊎ AfterStatement T a u (entering_known (known_of m)) (λ n. Next T (leaving_known n))) m r
  sub_stopped a at u made Next m r k b rec last h =
      let A : Table → Type 0 = λ T. RefusesStatement T a u (entering_known (known_of m)) (Refused p t) in
      let B : Table → Type 0 = λ T. AfterStatement T a u (entering_known (known_of m)) (λ n. Next T (leaving_known n)) in
      stopped-step p t (within at (judge_statement a u) m) made (λ T. A T ⊎ B T) m r
      (λ q. first_refused A B m r (within-stopped at (judge_statement a u) (λ T c. RefusesStatement T a u c (Refused p t)) m r k
      (λ i ki gi y. rec i ki (result-kept m.table i.table a.result gi.goes.extends b) y) q))
      (λ one n q g.
      let j = sub-judged at a u one m n k b (λ v x y. statement-judged u a v x y) q in
      then_refused A B m r (after_sub a u one Next m n r j (last one n j g))) h

  abbrev BodyRefused : Around → Place → Option TypedExpr → tree.Statement → Table → Known → Type 0
  BodyRefused a at c u T m = RefusesStatement T a u (entering_known m) (Refused p t) ⊎ AfterStatement T a u (entering_known m) (λ n. FailsTest T at c (Refused p t))

  body_stopped : (a : Around) (at : Place) (c : Option TypedExpr) (u : tree.Statement) (made : TypedStatement → UnitJudging TypedStatement) (m r : UnitState)
      → IsUnitKnown m → IsResult m.table a.result → StatementStops u a r
      → ((one : TypedStatement) (n : UnitState) → made one n ≡ Stops (Refused p t) r → IsStopped (λ T. FailsTest T at c (Refused p t)) n r)
      → next (within at (judge_statement a u) m) made ≡ Stops (Refused p t) r → IsStopped (λ T. BodyRefused a at c u T (known_of m)) m r
  body_stopped a at c u made m r k b rec last h =
      sub_stopped a at u made (λ T n. FailsTest T at c (Refused p t)) m r k b rec (λ one n j g. last one n g) h

  -- The rest of a `for`: its test, its step and its statement

  abbrev StepRefused : Around → Place → Option TypedExpr → Option tree.Expr → tree.Statement → Table → Known → Type 0
  StepRefused a at c step u T m = RefusesOptional T step m.scopes (Refused p t) ⊎ AfterDropped T step m (λ g n. BodyRefused (in_a_loop a) at c u T n)

  abbrev LoopRefused : Around → Place → Option tree.Expr → Option tree.Expr → tree.Statement → Table → Known → Type 0
  LoopRefused a at test step u T l = RefusesOptional T test l.scopes (Refused p t) ⊎ AfterDropped T test l (λ c m. StepRefused a at c step u T m)

  abbrev loop_rest : Around → Place → Option tree.Expr → Option tree.Expr → tree.Statement
      → (Option TypedExpr → Option TypedExpr → TypedStatement → UnitJudging TypedStatement) → UnitJudging TypedStatement
  loop_rest a at test step u made = λ l. next (dropped test l) (λ c. λ m. next (dropped step m) (λ g. λ n. next (within at (judge_statement (in_a_loop a) u) n) (λ v. made c g v)))

  loop_stopped : (a : Around) (at : Place) (test step : Option tree.Expr) (u : tree.Statement) (made : Option TypedExpr → Option TypedExpr → TypedStatement → UnitJudging TypedStatement)
      (l r : UnitState)
      → ((c g : Option TypedExpr) (v : TypedStatement) (n : UnitState) → made c g v n ≡ Stops (Refused p t) r → IsStopped (λ T. FailsTest T at c (Refused p t)) n r)
      → IsUnitKnown l → IsResult l.table a.result
      → StatementStops u (in_a_loop a) r
      → loop_rest a at test step u made l ≡ Stops (Refused p t) r → IsStopped (λ T. LoopRefused a at test step u T (known_of l)) l r
  loop_stopped a at test step u made l r last k b rec h =
      let A : Table → Type 0 = λ T. RefusesOptional T test l.seen.scopes (Refused p t) in
      let M : Table → Option TypedExpr → Known → Type 0 = λ T c m. StepRefused a at c step u T m in
      let B : Table → Type 0 = λ T. AfterDropped T test (known_of l) (M T) in
      stopped-step p t (dropped test l) (λ c. λ m. next (dropped step m) (λ g. λ n. next (within at (judge_statement (in_a_loop a) u) n) (λ v. made c g v))) (λ T. A T ⊎ B T) l r
      (λ q. first_refused A B l r (dropped-stopped p t test l r k.known q))
      (λ c m q w.
      let j = dropped-part test c l m k q in
      let bm = result-kept l.table m.table a.result j.goes.goes.extends b in
      let C : Table → Type 0 = λ T. RefusesOptional T step m.seen.scopes (Refused p t) in
      let N : Table → Option TypedExpr → Known → Type 0 = λ T g n. BodyRefused (in_a_loop a) at c u T n in
      let D : Table → Type 0 = λ T. AfterDropped T step (known_of m) (N T) in
      then_refused A B l r (after_dropped test c M l m r k q
      (stopped-step p t (dropped step m) (λ g. λ n. next (within at (judge_statement (in_a_loop a) u) n) (λ v. made c g v)) (λ T. C T ⊎ D T) m r
      (λ y. first_refused C D m r (dropped-stopped p t step m r j.goes.known.known y))
      (λ g n y z.
      let i = dropped-part step g m n j.goes.known y in
      let bn = result-kept m.table n.table a.result i.goes.goes.extends bm in
      then_refused C D m r (after_dropped step g N m n r j.goes.known y
      (body_stopped (in_a_loop a) at c u (λ v. made c g v) n r i.goes.known bn rec (λ v o x. last c g v o x) z))) w))) h

  mutual
    unfolding judge_statement judge_block_items promotion

    pub statement-stopped : (u : tree.Statement) (a : Around) (s r : UnitState) → IsUnitKnown s → IsResult s.table a.result → judge_statement a u s ≡ Stops (Refused p t) r
        → IsStopped (λ T. RefusesStatement T a u (known_of s) (Refused p t)) s r
    statement-stopped (tree.Block brace items) a s r k b h =
        within-stopped brace (λ m. next (judge_block_items a None items m) (λ list. pure (typed.Block brace list))) (λ T c. RefusesItemsOf T a None items c (Refused p t)) s r k
        (λ i ki gi g.
        stopped-step p t (judge_block_items a None items i) (λ list. pure (typed.Block brace list)) (λ T. RefusesItemsOf T a None items (known_of i) (Refused p t)) i r
        (λ y. items-stopped items a None i r ki (result-kept s.table i.table a.result gi.goes.extends b) tt y)
        (λ list n y z. never-stops (typed.Block brace list) (Refused p t) n r z) g) h
    statement-stopped (tree.Express e) a s r k b h =
        stopped-step p t (lifted (checked e) s) (λ v. pure (typed.Express v)) (λ T. RefusesStatement T a (tree.Express e) (known_of s) (Refused p t)) s r
        (λ q. value-stopped p t e s r k.known q) (λ v m q g. never-stops (typed.Express v) (Refused p t) m r g) h
    statement-stopped tree.Empty a s r k b h = never-stops typed.Empty (Refused p t) s r h
    statement-stopped (tree.If at paren c u) a s0 r k0 b0 h =
        let N : Table → TypedExpr → Known → Type 0 = λ T v m. BodyRefused a at (Some v) u T m in
        within-stopped at (λ s. next (lifted (checked c) s) (λ test. λ m. next (within at (judge_statement a u) m) (λ one. tested at test (typed.If at paren test one)))) (λ T w. Refuses T false c w.scopes (Refused p t) ⊎ AfterValue T c w (N T)) s0 r k0
        (λ s k gs h0.
        let b = result-kept s0.table s.table a.result gs.goes.extends b0 in
        let A : Table → Type 0 = λ T. Refuses T false c s.seen.scopes (Refused p t) in
        let B : Table → Type 0 = λ T. AfterValue T c (known_of s) (N T) in
        stopped-step p t (lifted (checked c) s) (λ test. λ m. next (within at (judge_statement a u) m) (λ one. tested at test (typed.If at paren test one))) (λ T. A T ⊎ B T) s r
        (λ q. first_refused A B s r (value-stopped p t c s r k.known q))
        (λ test m q g.
        let j = value-part c test s m k q in
        let bm = result-kept s.table m.table a.result j.goes.goes.extends b in
        then_refused A B s r (after_value c test N s m r k q
        (body_stopped a at (Some test) u (λ one. tested at test (typed.If at paren test one)) m r j.goes.known bm (λ x kx bx y. statement-stopped u a x r kx bx y)
        (λ one n y. tested-stopped p t at test (typed.If at paren test one) n r y) g))) h0) h
    statement-stopped (tree.IfElse at paren c u v) a s0 r k0 b0 h =
        let M : Table → TypedExpr → Known → Type 0 = λ T x n. BodyRefused a at (Some x) v T n in
        let N : Table → TypedExpr → Known → Type 0 = λ T x m. RefusesStatement T a u (entering_known m) (Refused p t) ⊎ AfterStatement T a u (entering_known m) (λ n. M T x (leaving_known n)) in
        within-stopped at (λ s. next (lifted (checked c) s) (λ test. λ m. next (within at (judge_statement a u) m) (λ one. λ n. next (within at (judge_statement a v) n) (λ other. tested at test (typed.IfElse at paren test one other))))) (λ T w. Refuses T false c w.scopes (Refused p t) ⊎ AfterValue T c w (N T)) s0 r k0
        (λ s k gs h0.
        let b = result-kept s0.table s.table a.result gs.goes.extends b0 in
        let A : Table → Type 0 = λ T. Refuses T false c s.seen.scopes (Refused p t) in
        let B : Table → Type 0 = λ T. AfterValue T c (known_of s) (N T) in
        stopped-step p t (lifted (checked c) s) (λ test. λ m. next (within at (judge_statement a u) m) (λ one. λ n. next (within at (judge_statement a v) n) (λ other. tested at test (typed.IfElse at paren test one other)))) (λ T. A T ⊎ B T) s r
        (λ q. first_refused A B s r (value-stopped p t c s r k.known q))
        (λ test m q g.
        let j = value-part c test s m k q in
        let bm = result-kept s.table m.table a.result j.goes.goes.extends b in
        then_refused A B s r (after_value c test N s m r k q
        (sub_stopped a at u (λ one. λ n. next (within at (judge_statement a v) n) (λ other. tested at test (typed.IfElse at paren test one other))) (λ T n. M T test n) m r j.goes.known bm
        (λ x kx bx y. statement-stopped u a x r kx bx y)
        (λ one n i w.
        body_stopped a at (Some test) v (λ other. tested at test (typed.IfElse at paren test one other)) n r i.goes.known (result-kept m.table n.table a.result i.goes.goes.extends bm)
        (λ x kx bx y. statement-stopped v a x r kx bx y)
        (λ other o z. tested-stopped p t at test (typed.IfElse at paren test one other) o r z) w) g))) h0) h
    statement-stopped (tree.Switch at paren e brace items) a s0 r k0 b0 h =
        let O : Table → TypedExpr → TypeId → Known → Type 0 = λ T v on c. RefusesItemsOf T (in_a_switch a) (Some on) items c (Refused p t)
        ⊎ AfterItems T (in_a_switch a) (Some on) items c (λ list n. Fails (switch_tests T at (AsValue v)) (Refused p t)) in
        let N : Table → TypedExpr → Known → Type 0 = λ T v m. O T v (switch_type T v) (entering_known m) in
        within-stopped at (λ s. next (lifted (checked e) s) (λ c. λ m. next (promotion at c m) (λ on. λ n. next (within brace (judge_block_items (in_a_switch a) (Some (type_of on)) items) n) (λ list. switched at c (typed.Switch at paren on brace list))))) (λ T w. Refuses T false e w.scopes (Refused p t) ⊎ AfterValue T e w (N T)) s0 r k0
        (λ s k gs h0.
        let b = result-kept s0.table s.table a.result gs.goes.extends b0 in
        let A : Table → Type 0 = λ T. Refuses T false e s.seen.scopes (Refused p t) in
        let B : Table → Type 0 = λ T. AfterValue T e (known_of s) (N T) in
        stopped-step p t (lifted (checked e) s) (λ c. λ m. next (promotion at c m) (λ on. λ n. next (within brace (judge_block_items (in_a_switch a) (Some (type_of on)) items) n) (λ list. switched at c (typed.Switch at paren on brace list)))) (λ T. A T ⊎ B T) s r
        (λ q. first_refused A B s r (value-stopped p t e s r k.known q))
        (λ c m q g.
        let j = value-part e c s m k q in
        let on : TypedExpr = promoted_by at c (integer_at m.table (type_of c)) in
        let there = switch-there at e c s m k.known q in
        let bm = result-kept s.table m.table a.result j.goes.goes.extends b in
        let f : Around = in_a_switch a in
        let Q : Table → Known → Type 0 = λ T x. O T c (type_of on) x in
        then_refused A B s r (after_value e c N s m r k q
        (stopped-as p t (λ T. Q T (entering_known (known_of m))) (λ T. N T c (known_of m)) m r
        (λ x w. subst (λ (y : TypeId). O r.table c y (entering_known (known_of m))) (switch-typed at c m.table r.table x there.0) w)
        (stopped-step p t (within brace (judge_block_items f (Some (type_of on)) items) m) (λ list. switched at c (typed.Switch at paren on brace list)) (λ T. Q T (entering_known (known_of m))) m r
        (λ y. within-stopped brace (judge_block_items f (Some (type_of on)) items) Q m r j.goes.known
        (λ n kn gn z.
        first_refused (λ T. RefusesItemsOf T f (Some (type_of on)) items (known_of n) (Refused p t))
        (λ T. AfterItems T f (Some (type_of on)) items (known_of n) (λ list l. Fails (switch_tests T at (AsValue c)) (Refused p t))) n r
        (items-stopped items f (Some (type_of on)) n r kn (result-kept m.table n.table a.result gn.goes.extends bm) (still_in m.table n.table gn.goes.extends (type_of on) there.1) z)) y)
        (λ list n y z.
        let u = within-gives brace (judge_block_items f (Some (type_of on)) items) list m n j.goes.known y in
        let i = items-judged items f (Some (type_of on)) u.one u.first u.last u.on.known (result-kept m.table u.first.table a.result u.on.goes.extends bm)
        (still_in m.table u.first.table u.on.goes.extends (type_of on) there.1) u.gives in
        let out = u.ends i.goes.known in
        let M : Table → TypedBlockItems → Known → Type 0 = λ T all l. Fails (switch_tests T at (AsValue c)) (Refused p t) in
        let F : Table → Type 0 = λ T. Fails (switch_tests T at (AsValue c)) (Refused p t) in
        let D : Table → Known → Type 0 = λ T w. AfterItems T f (Some (type_of on)) items w (M T) in
        stopped-after p t (λ T. Q T (entering_known (known_of m))) m u.first r u.on.goes.extends
        (stopped-as p t (λ T. D T (known_of u.first)) (λ T. Q T (entering_known (known_of m))) u.first r (λ x w. inr (subst (D r.table) u.begins w))
        (after_items f (Some (type_of on)) items u.one M u.first u.last r i
        (stopped-after p t F u.last n r out.on.goes.extends (switched-stopped p t at c (typed.Switch at paren on brace list) n r z)))))
        g)))) h0) h
    statement-stopped (tree.While at paren c u) a s0 r k0 b0 h =
        let N : Table → TypedExpr → Known → Type 0 = λ T v m. BodyRefused (in_a_loop a) at (Some v) u T m in
        within-stopped at (λ s. next (lifted (checked c) s) (λ test. λ m. next (within at (judge_statement (in_a_loop a) u) m) (λ one. tested at test (typed.While at paren test one)))) (λ T w. Refuses T false c w.scopes (Refused p t) ⊎ AfterValue T c w (N T)) s0 r k0
        (λ s k gs h0.
        let b = result-kept s0.table s.table a.result gs.goes.extends b0 in
        let A : Table → Type 0 = λ T. Refuses T false c s.seen.scopes (Refused p t) in
        let B : Table → Type 0 = λ T. AfterValue T c (known_of s) (N T) in
        stopped-step p t (lifted (checked c) s) (λ test. λ m. next (within at (judge_statement (in_a_loop a) u) m) (λ one. tested at test (typed.While at paren test one))) (λ T. A T ⊎ B T) s r
        (λ q. first_refused A B s r (value-stopped p t c s r k.known q))
        (λ test m q g.
        let j = value-part c test s m k q in
        let bm = result-kept s.table m.table a.result j.goes.goes.extends b in
        then_refused A B s r (after_value c test N s m r k q
        (body_stopped (in_a_loop a) at (Some test) u (λ one. tested at test (typed.While at paren test one)) m r j.goes.known bm (λ x kx bx y. statement-stopped u (in_a_loop a) x r kx bx y)
        (λ one n y. tested-stopped p t at test (typed.While at paren test one) n r y) g))) h0) h
    statement-stopped (tree.DoWhile u at paren c) a s0 r k0 b0 h =
        let M : Table → TypedExpr → Known → Type 0 = λ T v n. FailsTest T at (Some v) (Refused p t) in
        let N : Table → Known → Type 0 = λ T m. Refuses T false c m.scopes (Refused p t) ⊎ AfterValue T c m (M T) in
        within-stopped at (λ s. next (within at (judge_statement (in_a_loop a) u) s) (λ one. λ m. next (lifted (checked c) m) (λ test. tested at test (typed.DoWhile one at paren test))))
        (λ T w. RefusesStatement T (in_a_loop a) u (entering_known w) (Refused p t) ⊎ AfterStatement T (in_a_loop a) u (entering_known w) (λ n. N T (leaving_known n))) s0 r k0
        (λ s k gs h0.
        sub_stopped (in_a_loop a) at u (λ one. λ m. next (lifted (checked c) m) (λ test. tested at test (typed.DoWhile one at paren test))) N s r k (result-kept s0.table s.table a.result gs.goes.extends b0) (λ x kx bx y. statement-stopped u (in_a_loop a) x r kx bx y)
        (λ one m j g.
        let C : Table → Type 0 = λ T. Refuses T false c m.seen.scopes (Refused p t) in
        let D : Table → Type 0 = λ T. AfterValue T c (known_of m) (M T) in
        stopped-step p t (lifted (checked c) m) (λ test. tested at test (typed.DoWhile one at paren test)) (λ T. C T ⊎ D T) m r
        (λ y. first_refused C D m r (value-stopped p t c m r j.goes.known.known y))
        (λ test n y z. then_refused C D m r (after_value c test M m n r j.goes.known y (tested-stopped p t at test (typed.DoWhile one at paren test) n r z))) g) h0) h
    statement-stopped (tree.For at paren first test step u) a s0 r k0 b0 h =
        let N : Table → Option TypedExpr → Known → Type 0 = λ T f l. LoopRefused a at test step u T l in
        let rest : Option TypedExpr → UnitJudging TypedStatement = λ f. loop_rest a at test step u (λ c g v. tested_or_none at c (typed.For at paren f c g v)) in
        within-stopped at (λ s. next (dropped first s) rest) (λ T w. RefusesOptional T first w.scopes (Refused p t) ⊎ AfterDropped T first w (N T)) s0 r k0
        (λ s k gs h0.
        let b = result-kept s0.table s.table a.result gs.goes.extends b0 in
        let A : Table → Type 0 = λ T. RefusesOptional T first s.seen.scopes (Refused p t) in
        let B : Table → Type 0 = λ T. AfterDropped T first (known_of s) (N T) in
        stopped-step p t (dropped first s) rest (λ T. A T ⊎ B T) s r
        (λ q. first_refused A B s r (dropped-stopped p t first s r k.known q))
        (λ f m q g.
        let j = dropped-part first f s m k q in
        then_refused A B s r (after_dropped first f N s m r k q
        (loop_stopped a at test step u (λ c v w. tested_or_none at c (typed.For at paren f c v w)) m r
        (λ c v w n y. tested_or_none-stopped p t at c (typed.For at paren f c v w) n r y) j.goes.known
        (result-kept s.table m.table a.result j.goes.goes.extends b) (λ n kn bn z. statement-stopped u (in_a_loop a) n r kn bn z) g))) h0) h
    statement-stopped (tree.ForDeclaration at paren d test step u) a s0 r k0 b0 h =
        let N : Table → Known → Type 0 = λ T l. LoopRefused a at test step u T l in
        let rest : TypedDeclaration → UnitJudging TypedStatement = λ f. loop_rest a at test step u (λ c g v. tested_or_none at c (typed.ForDeclaration at paren f c g v)) in
        within-stopped at (λ s. next (judge_declaration false d s) rest)
        (λ T w. RefusesDeclaration T false d w (Refused p t) ⊎ ((f : TypedDeclaration) × (l : Known) × IsDeclaration T false f w l × (erased_declaration f ≡ d) × N T l)) s0 r k0
        (λ l k gs h0.
        let b = result-kept s0.table l.table a.result gs.goes.extends b0 in
        let A : Table → Type 0 = λ T. RefusesDeclaration T false d (known_of l) (Refused p t) in
        let B : Table → Type 0 = λ T. (f : TypedDeclaration) × (m : Known) × IsDeclaration T false f (known_of l) m × (erased_declaration f ≡ d) × N T m in
        stopped-step p t (judge_declaration false d l) rest (λ T. A T ⊎ B T) l r
        (λ y. first_refused A B l r (declaration-stopped p t false d l r k y))
        (λ f m y w.
        let j = declaration-judged false d f l m k y in
        let after = loop_stopped a at test step u (λ c v z. tested_or_none at c (typed.ForDeclaration at paren f c v z)) m r
        (λ c v z n x. tested_or_none-stopped p t at c (typed.ForDeclaration at paren f c v z) n r x) j.goes.known (result-kept l.table m.table a.result j.goes.goes.extends b)
        (λ n kn bn z. statement-stopped u (in_a_loop a) n r kn bn z) w in
        then_refused A B l r (stopped-after p t B l m r j.goes.goes.extends
        (stopped-as p t (λ T. N T (known_of m)) B m r (λ x z. (f, known_of m, j.typed r.table x, j.erases, z)) after))) h0) h
    statement-stopped (tree.Break at) a s r k b h =
        jump-stopped p t (λ T. RefusesStatement T a (tree.Break at) (known_of s) (Refused p t)) at a.breakable (typed.Break at) s r (λ T f. f) h
    statement-stopped (tree.Continue at) a s r k b h =
        jump-stopped p t (λ T. RefusesStatement T a (tree.Continue at) (known_of s) (Refused p t)) at a.in_loop (typed.Continue at) s r (λ T f. f) h
    statement-stopped (tree.Return at e) a s r k b h =
        stopped-step p t (returned at a.result e s) (λ v. pure (typed.Return at v)) (λ T. RefusesStatement T a (tree.Return at e) (known_of s) (Refused p t)) s r
        (λ q. returned-stopped p t at a.result e s r k.known b q) (λ v m q g. never-stops (typed.Return at v) (Refused p t) m r g) h

    pub items-stopped : (all : tree.BlockItems) (a : Around) (on : Option TypeId) (s r : UnitState) → IsUnitKnown s → IsResult s.table a.result → IsSwitchThere s.table on
        → judge_block_items a on all s ≡ Stops (Refused p t) r → IsStopped (λ T. RefusesItemsOf T a on all (known_of s) (Refused p t)) s r
    items-stopped tree.NoBlockItem a on s r k b w h = never-stops typed.NoBlockItem (Refused p t) s r h
    items-stopped (tree.AndStatement all u) a on s r k b w h =
        let A : Table → Type 0 = λ T. RefusesItemsOf T a on all (known_of s) (Refused p t) in
        let N : Table → TypedBlockItems → Known → Type 0 = λ T list m. RefusesStatement T a u m (Refused p t) in
        let B : Table → Type 0 = λ T. AfterItems T a on all (known_of s) (N T) in
        stopped-step p t (judge_block_items a on all s) (λ list. λ m. next (judge_statement a u m) (λ one. pure (typed.AndStatement list one))) (λ T. A T ⊎ B T) s r
        (λ q. first_refused A B s r (items-stopped all a on s r k b w q))
        (λ list m q g.
        let j = items-judged all a on list s m k b w q in
        then_refused A B s r (after_items a on all list N s m r j
        (stopped-step p t (judge_statement a u m) (λ one. pure (typed.AndStatement list one)) (λ T. N T list (known_of m)) m r
        (λ y. statement-stopped u a m r j.goes.known (result-kept s.table m.table a.result j.goes.goes.extends b) y)
        (λ one n y z. never-stops (typed.AndStatement list one) (Refused p t) n r z) g))) h
    items-stopped (tree.AndDeclaration all d) a on s r k b w h =
        let A : Table → Type 0 = λ T. RefusesItemsOf T a on all (known_of s) (Refused p t) in
        let N : Table → TypedBlockItems → Known → Type 0 = λ T list m. RefusesDeclaration T false d m (Refused p t) in
        let B : Table → Type 0 = λ T. AfterItems T a on all (known_of s) (N T) in
        stopped-step p t (judge_block_items a on all s) (λ list. λ m. next (judge_declaration false d m) (λ one. pure (typed.AndDeclaration list one))) (λ T. A T ⊎ B T) s r
        (λ q. first_refused A B s r (items-stopped all a on s r k b w q))
        (λ list m q g.
        let j = items-judged all a on list s m k b w q in
        then_refused A B s r (after_items a on all list N s m r j
        (stopped-step p t (judge_declaration false d m) (λ one. pure (typed.AndDeclaration list one)) (λ T. N T list (known_of m)) m r
        (λ y. declaration-stopped p t false d m r j.goes.known y)
        (λ one n y z. never-stops (typed.AndDeclaration list one) (Refused p t) n r z) g))) h
    items-stopped (tree.AndCase all at e) a on s r k b w h =
        let A : Table → Type 0 = λ T. RefusesItemsOf T a on all (known_of s) (Refused p t) in
        let N : Table → TypedBlockItems → Known → Type 0 = λ T list m. Refuses T false e m.scopes (Refused p t)
        ⊎ After T e m.scopes (λ x c. Fails (label_tests T (label_value T on x) at (expr_place e) (labels_of list)) (Refused p t)) in
        let B : Table → Type 0 = λ T. AfterItems T a on all (known_of s) (N T) in
        stopped-step p t (judge_block_items a on all s) (case_label on at e) (λ T. A T ⊎ B T) s r
        (λ q. first_refused A B s r (items-stopped all a on s r k b w q))
        (λ list m q g.
        let j = items-judged all a on list s m k b w q in
        then_refused A B s r (after_items a on all list N s m r j (case-stopped p t on at e list m r j.goes.known.known g))) h
    items-stopped (tree.AndDefault all at) a on s r k b w h =
        let A : Table → Type 0 = λ T. RefusesItemsOf T a on all (known_of s) (Refused p t) in
        let N : Table → TypedBlockItems → Known → Type 0 = λ T list m. Fails (broken_at rule.Redeclared at (not (defaults_in list == 0)) ∷ []) (Refused p t) in
        let B : Table → Type 0 = λ T. AfterItems T a on all (known_of s) (N T) in
        stopped-step p t (judge_block_items a on all s) (default_label at) (λ T. A T ⊎ B T) s r
        (λ q. first_refused A B s r (items-stopped all a on s r k b w q))
        (λ list m q g.
        let j = items-judged all a on list s m k b w q in
        then_refused A B s r (after_items a on all list N s m r j (default-stopped p t at list m r g))) h
