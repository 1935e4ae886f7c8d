-- What reads with so many nodes, or fewer, reads with fewer.
use Rattle.std.proofs.Common.{ℕ, ◌≤◌, List, Result, arith}
use Rattle.std.specs.Prelude.{Vec}
use Rattle.std.specs.Borrow.{Bor}
use Rattle.std.specs.declared.alloc.Global.{Global}
use denote.Ref.{MutBor}
use Rattle.indexmap.specs.IndexSet.{IndexSet}
use Rattle.c_tree.specs.Symbols.{Symbol}
use Rattle.c_tree.specs.declared.expr.Expr.{Expr}
use Rattle.c_tree.specs.declared.expr.Specifiers.{Specifiers}
use Rattle.c_tree.specs.declared.expr.Declarator.{Declarator}
use Rattle.c_parse_words.specs.declared.measured.Measured.{Measured}
use Rattle.c_parse_words.specs.declared.stop.Stop.{Stop}
use Rattle.c_parse_words.specs.declared.words.Scope.{Scope}
use Rattle.c_parse_words.specs.declared.begins.Naming.{Naming}
use Rattle.c_expr_parse.specs.Nests.{Nests}

within : {d low depth : ℕ} → low ≤ depth → d ≤ low → d ≤ depth
within a b = omega arith

module _ {H : Type 0} {names : IndexSet (Vec ℕ Global) H} {low depth : ℕ}
    {expr_pre : Global → Bor (IndexSet (Vec ℕ Global) H) → MutBor (List Symbol) → ℕ → ℕ → Type 0}
    {expr_post : Global → Bor (IndexSet (Vec ℕ Global) H) → MutBor (List Symbol) → ℕ → ℕ → Result (Measured Expr) Stop → MutBor (List Symbol) → Type 0}
    {specifiers_pre : Global → Bor (IndexSet (Vec ℕ Global) H) → MutBor (List Symbol) → ℕ → Scope → Type 0}
    {specifiers_post : Global → Bor (IndexSet (Vec ℕ Global) H) → MutBor (List Symbol) → ℕ → Scope → Result (Measured Specifiers) Stop → MutBor (List Symbol) → Type 0}
    {declarator_pre : Global → Bor (IndexSet (Vec ℕ Global) H) → MutBor (List Symbol) → ℕ → Naming → Type 0}
    {declarator_post : Global → Bor (IndexSet (Vec ℕ Global) H) → MutBor (List Symbol) → ℕ → Naming → Result (Measured Declarator) Stop → MutBor (List Symbol) → Type 0} where
  pub below : low ≤ depth → Nests names depth expr_pre expr_post specifiers_pre specifiers_post declarator_pre declarator_post
      → Nests names low expr_pre expr_post specifiers_pre specifiers_post declarator_pre declarator_post
  below le n = record {
    expr_callable = λ alloc set old d least e l. n.expr_callable alloc set old d least e (within le l);
    expr_reads = λ alloc set old new d least r e l. n.expr_reads alloc set old new d least r e (within le l);
    expr_measured = λ alloc set old new d least r e l. n.expr_measured alloc set old new d least r e (within le l);
    specifiers_callable = λ alloc set old d scope e l. n.specifiers_callable alloc set old d scope e (within le l);
    specifiers_reads = λ alloc set old new d scope r e l. n.specifiers_reads alloc set old new d scope r e (within le l);
    specifiers_measured = λ alloc set old new d scope r e l. n.specifiers_measured alloc set old new d scope r e (within le l);
    declarator_callable = λ alloc set old d naming e l. n.declarator_callable alloc set old d naming e (within le l);
    declarator_reads = λ alloc set old new d naming r e l. n.declarator_reads alloc set old new d naming r e (within le l);
    declarator_measured = λ alloc set old new d naming r e l. n.declarator_measured alloc set old new d naming r e (within le l);
  }
