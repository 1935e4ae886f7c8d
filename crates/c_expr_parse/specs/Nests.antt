-- Functions that read expressions, specifiers and declarators with as many nodes as are allowed, or fewer.
use Rattle.std.specs.Prelude.{◌≡◌, ℕ, suc, ◌≤◌, List, Result, IfOk, Vec}
use Rattle.std.specs.Borrow.{Bor}
use Rattle.std.specs.declared.alloc.Global.{Global}
use denote.Ref.{MutBor}
use Rattle.indexmap.specs.IndexSet.{IndexSet}
use Rattle.c_tree.specs.Symbols.{Symbol}
use Rattle.c_tree.specs.Depth.{expr_height, specifiers_height, declarator_height, initialiser_height}
use Rattle.c_tree.specs.Views.{expr_view, specifiers_view, declarator_view}
use Rattle.c_tree.specs.declared.expr.Expr.{Expr}
use Rattle.c_tree.specs.declared.expr.Specifiers.{Specifiers}
use Rattle.c_tree.specs.declared.expr.Declarator.{Declarator}
use Rattle.c_tree.specs.declared.statement.Initialiser.{Initialiser}
use Rattle.c_tree.specs.StatementViews.{initialiser_view}
use Rattle.c_parse_words.specs.declared.measured.Measured.{Measured}
use Rattle.c_parse_words.specs.declared.stop.Stop.{Stop}
use Rattle.c_parse_words.specs.declared.words.Scope.{Scope}
use Rattle.c_parse_words.specs.declared.begins.Naming.{Naming}
use Rattle.c_parse_words.specs.Seen.{names_of, scope_view, naming_view, Reads}
use Rattle.c_expr_parse.specs.Rules.{rules, initialiser}

-- the height that is said is right, and it is at most what is allowed
abbrev pub IsMeasured : (depth height said : ℕ) → Type 0
IsMeasured depth height said = (said ≡ height) × (said ≤ depth)

module _ {H : Type 0} (names : IndexSet (Vec ℕ Global) H) (depth : ℕ) where
  pub record Nests
      (expr_pre : Global → Bor (IndexSet (Vec ℕ Global) H) → MutBor (List Symbol) → ℕ → ℕ → Type 0)
      (expr_post : Global → Bor (IndexSet (Vec ℕ Global) H) → MutBor (List Symbol) → ℕ → ℕ → Result (Measured Expr) Stop → MutBor (List Symbol) → Type 0)
      (specifiers_pre : Global → Bor (IndexSet (Vec ℕ Global) H) → MutBor (List Symbol) → ℕ → Scope → Type 0)
      (specifiers_post : Global → Bor (IndexSet (Vec ℕ Global) H) → MutBor (List Symbol) → ℕ → Scope → Result (Measured Specifiers) Stop → MutBor (List Symbol) → Type 0)
      (declarator_pre : Global → Bor (IndexSet (Vec ℕ Global) H) → MutBor (List Symbol) → ℕ → Naming → Type 0)
      (declarator_post : Global → Bor (IndexSet (Vec ℕ Global) H) → MutBor (List Symbol) → ℕ → Naming → Result (Measured Declarator) Stop → MutBor (List Symbol) → Type 0) : Type 0 where
    pub expr_callable : (alloc : Global) (set : Bor (IndexSet (Vec ℕ Global) H)) (old : MutBor (List Symbol)) (d least : ℕ)
        → set.now ≡ names → d ≤ depth → expr_pre alloc set old d least
    pub expr_reads : (alloc : Global) (set : Bor (IndexSet (Vec ℕ Global) H)) (old new : MutBor (List Symbol)) (d least : ℕ) (r : Result (Measured Expr) Stop)
        → set.now ≡ names → d ≤ depth → expr_post alloc set old d least r new → Reads (λ m. expr_view m.tree) ((rules (names_of names) d).expr least old.now) r new.now
    pub expr_measured : (alloc : Global) (set : Bor (IndexSet (Vec ℕ Global) H)) (old new : MutBor (List Symbol)) (d least : ℕ) (r : Result (Measured Expr) Stop)
        → set.now ≡ names → d ≤ depth → expr_post alloc set old d least r new → IfOk r (λ m. IsMeasured d (expr_height (expr_view m.tree)) m.height)
    pub specifiers_callable : (alloc : Global) (set : Bor (IndexSet (Vec ℕ Global) H)) (old : MutBor (List Symbol)) (d : ℕ) (scope : Scope)
        → set.now ≡ names → d ≤ depth → specifiers_pre alloc set old d scope
    pub specifiers_reads : (alloc : Global) (set : Bor (IndexSet (Vec ℕ Global) H)) (old new : MutBor (List Symbol)) (d : ℕ) (scope : Scope) (r : Result (Measured Specifiers) Stop)
        → set.now ≡ names → d ≤ depth → specifiers_post alloc set old d scope r new
        → Reads (λ m. specifiers_view m.tree) ((rules (names_of names) d).specifiers (scope_view scope) old.now) r new.now
    pub specifiers_measured : (alloc : Global) (set : Bor (IndexSet (Vec ℕ Global) H)) (old new : MutBor (List Symbol)) (d : ℕ) (scope : Scope) (r : Result (Measured Specifiers) Stop)
        → set.now ≡ names → d ≤ depth → specifiers_post alloc set old d scope r new → IfOk r (λ m. IsMeasured d (suc (specifiers_height (specifiers_view m.tree))) m.height)
    pub declarator_callable : (alloc : Global) (set : Bor (IndexSet (Vec ℕ Global) H)) (old : MutBor (List Symbol)) (d : ℕ) (naming : Naming)
        → set.now ≡ names → d ≤ depth → declarator_pre alloc set old d naming
    pub declarator_reads : (alloc : Global) (set : Bor (IndexSet (Vec ℕ Global) H)) (old new : MutBor (List Symbol)) (d : ℕ) (naming : Naming) (r : Result (Measured Declarator) Stop)
        → set.now ≡ names → d ≤ depth → declarator_post alloc set old d naming r new
        → Reads (λ m. declarator_view m.tree) ((rules (names_of names) d).declarator (naming_view naming) old.now) r new.now
    pub declarator_measured : (alloc : Global) (set : Bor (IndexSet (Vec ℕ Global) H)) (old new : MutBor (List Symbol)) (d : ℕ) (naming : Naming) (r : Result (Measured Declarator) Stop)
        → set.now ≡ names → d ≤ depth → declarator_post alloc set old d naming r new → IfOk r (λ m. IsMeasured d (declarator_height (declarator_view m.tree)) m.height)

  -- A function that reads initialisers with as many nodes as are allowed, or fewer.
  pub record NestsItems
      (pre : Global → Bor (IndexSet (Vec ℕ Global) H) → MutBor (List Symbol) → ℕ → Type 0)
      (post : Global → Bor (IndexSet (Vec ℕ Global) H) → MutBor (List Symbol) → ℕ → Result (Measured Initialiser) Stop → MutBor (List Symbol) → Type 0) : Type 0 where
    pub callable : (alloc : Global) (set : Bor (IndexSet (Vec ℕ Global) H)) (old : MutBor (List Symbol)) (d : ℕ) → set.now ≡ names → d ≤ depth → pre alloc set old d
    pub reads : (alloc : Global) (set : Bor (IndexSet (Vec ℕ Global) H)) (old new : MutBor (List Symbol)) (d : ℕ) (r : Result (Measured Initialiser) Stop)
        → set.now ≡ names → d ≤ depth → post alloc set old d r new → Reads (λ m. initialiser_view m.tree) (initialiser (names_of names) d old.now) r new.now
    pub measured : (alloc : Global) (set : Bor (IndexSet (Vec ℕ Global) H)) (old new : MutBor (List Symbol)) (d : ℕ) (r : Result (Measured Initialiser) Stop)
        → set.now ≡ names → d ≤ depth → post alloc set old d r new → IfOk r (λ m. IsMeasured d (initialiser_height (initialiser_view m.tree)) m.height)
