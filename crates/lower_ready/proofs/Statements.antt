-- The statements of a ready tree have code.
use Rattle.std.proofs.Common.{ℕ, suc, ◌<◌, ◌≤◌, ◌+◌, ◌≡◌, refl, Bool, true, false, List, arith, Option, Some, None}
use Rattle.cc_base.specs.declared.number.NodeId.{NodeId}
use Rattle.cc_base.specs.declared.number.TypeId.{TypeId}
use Rattle.c_types.specs.Sound.{IsWellFormed}
use Rattle.c_tree.specs.Depth.{expr_height, statement_height, block_items_height}
use Rattle.c_tree.specs.Erasure.{erased, erased_optional, erased_statement, erased_block_items}
use Rattle.c_tree.specs.Tree as tree
use Rattle.c_tree.specs.TypedTree as typed
use Rattle.c_tree.specs.TypedTree.{TypedExpr, TypedStatement, TypedBlockItems}
use Rattle.c_tree.specs.TypedParts.{type_of}
use Rattle.c_unit_typing.specs.Holding.{expr_holds, optional_holds, statement_holds, block_items_holds}
use Rattle.c_ready.specs.Rows.{Around, in_a_loop, in_a_switch}
use Rattle.c_ready.specs.Ready.{Stage, IsReady, IsReadyStatement, AreReadyBlockItems, IsReadyOptional, IsReadyTestOrNone}
use Rattle.lower_rules.specs.Words.{Context}
use Rattle.lower_rules.specs.Statements.{Nesting, in_loop, in_switch}
use Rattle.lower_exprs.specs.Ready.{HasCode}
use Rattle.lower_statements.specs.Ready.{HasCodeOfEffect, HasCodeOfTest, HasCodeOfStatement, HasCodeOfBlock}
use Rattle.lower_shape.proofs.Initialisers.{held-alone}
use Rattle.lower_shape.proofs.Nests.{height-some}
use Rattle.lower_ready.proofs.Expressions.{Numbers, low, has-code}
use Rattle.lower_ready.proofs.Initialisers.{has-declaration}

module _ (s : Stage) (statics variables : List NodeId) (w : Numbers s (low s statics variables)) (formed : IsWellFormed s.table) where
  abbrev K : Context
  K = low s statics variables

  own : (e : TypedExpr) → IsReady s e → expr_holds (erased e) ≤ 256 → HasCode e K 0
  own e r m = has-code s statics variables w e (Unit {0}) 0 r (held-alone (erased e) m)

  effect : (e : Option TypedExpr) → IsReadyOptional s e → optional_holds (erased_optional e) ≤ 256 → HasCodeOfEffect e K
  effect None r m = tt
  effect (Some e) r m = own e r.0 m

  test : (e : Option TypedExpr) → IsReadyTestOrNone s e → optional_holds (erased_optional e) ≤ 256 → HasCodeOfTest e K
  test None r m = tt
  test (Some e) r m = (own e r.0 m, tt)

  mutual
    -- A `switch` is a level of the tree, so that no more than 255 stand in one another.
    pub has-statement : (x : TypedStatement) (static : Stage) (a : Around) (v : Nesting) → IsReadyStatement s static a x
        → statement_holds (erased_statement x) ≤ 256 → v.switches + statement_height (erased_statement x) ≤ 255 → v.continues ≤ v.switches
        → HasCodeOfStatement x K v
    has-statement (typed.Block brace items) static a v r m n c = has-block items static a None v r m (omega (arith, n)) c
    has-statement (typed.Express e) static a v r m n c = own e r.0 m
    has-statement typed.Empty static a v r m n c = tt
    has-statement (typed.If at paren e x) static a v r m n c =
        (own e r.0.0 (omega (arith, m)), (has-statement x static a v r.1 (omega (arith, m)) (omega (arith, n)) c, tt))
    has-statement (typed.IfElse at paren e x y) static a v (rt, rx, ry) m n c = (
      own e rt.0 (omega (arith, m)),
      (
        has-statement x static a v rx (omega (arith, m)) (omega (arith, n)) c,
        has-statement y static a v ry (omega (arith, m)) (omega (arith, n)) c,
      ),
    )
    has-statement (typed.Switch at paren e brace items) static a v (re, switched, ri) m n c = (
      own e re (omega (arith, m)),
      (
        tt,
        (
          tt,
          (
            (omega (arith, n, c), omega (arith, n, height-some (erased e))),
            has-block items static (in_a_switch a) (Some (type_of e)) (in_switch v) ri (omega (arith, m)) (omega (arith, n)) (omega (arith, c)),
          ),
        ),
      ),
    )
    has-statement (typed.While at paren e x) static a v r m n c = (
      (own e r.0.0 (omega (arith, m)), tt),
      has-statement x static (in_a_loop a) (in_loop v) r.1 (omega (arith, m)) (omega (arith, n)) (omega arith),
    )
    has-statement (typed.DoWhile x at paren e) static a v r m n c = (
      has-statement x static (in_a_loop a) (in_loop v) r.0 (omega (arith, m)) (omega (arith, n)) (omega arith),
      (own e r.1.0 (omega (arith, m)), tt),
    )
    has-statement (typed.For at paren first e step x) static a v (rf, rt, rs, rx) m n c = (
      effect first rf (omega (arith, m)),
      (
        test e rt (omega (arith, m)),
        (has-statement x static (in_a_loop a) (in_loop v) rx (omega (arith, m)) (omega (arith, n)) (omega arith), effect step rs (omega (arith, m))),
      ),
    )
    has-statement (typed.ForDeclaration at paren d e step x) static a v (rd, rt, rs, rx) m n c = (
      has-declaration s statics variables w formed d static rd (omega (arith, m)) (omega (arith, n)),
      (
        test e rt (omega (arith, m)),
        (has-statement x static (in_a_loop a) (in_loop v) rx (omega (arith, m)) (omega (arith, n)) (omega arith), effect step rs (omega (arith, m))),
      ),
    )
    has-statement (typed.Break at) static a v r m n c = tt
    has-statement (typed.Continue at) static a v r m n c = tt
    has-statement (typed.Return at None) static a v r m n c = tt
    has-statement (typed.Return at (Some e)) static a v r m n c = (own e r.0 m, tt)

    pub has-block : (items : TypedBlockItems) (static : Stage) (a : Around) (on : Option TypeId) (v : Nesting)
        → AreReadyBlockItems s static a on items → block_items_holds (erased_block_items items) ≤ 256
        → v.switches + block_items_height (erased_block_items items) ≤ 255 → v.continues ≤ v.switches → HasCodeOfBlock items K v
    has-block typed.NoBlockItem static a on v r m n c = tt
    has-block (typed.AndStatement all x) static a on v r m n c = (
      has-block all static a on v r.0 (omega (arith, m)) (omega (arith, n)) c,
      has-statement x static a v r.1 (omega (arith, m)) (omega (arith, n)) c,
    )
    has-block (typed.AndDeclaration all d) static a on v r m n c = (
      has-block all static a on v r.0 (omega (arith, m)) (omega (arith, n)) c,
      has-declaration s statics variables w formed d static r.1 (omega (arith, m)) (omega (arith, n)),
    )
    has-block (typed.AndCase all at e value) static a on v r m n c =
        has-block all static a on v r.0 (omega (arith, m)) (omega (arith, n)) c
    has-block (typed.AndDefault all at) static a on v r m n c = has-block all static a on v r m n c
