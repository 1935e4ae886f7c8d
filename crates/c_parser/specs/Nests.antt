-- A function that reads statements with as many nodes as are allowed.
use Rattle.std.specs.Prelude.{◌≡◌, ℕ, List, Result, Vec}
use Rattle.std.specs.Borrow.{Bor}
use Rattle.std.specs.declared.alloc.Global.{Global}
use denote.Ref.{MutBor}
use Rattle.indexmap.specs.IndexSet.{IndexSet}
use Rattle.c_tree.specs.StatementViews.{statement_view}
use Rattle.c_tree.specs.Symbols.{Symbol}
use Rattle.c_tree.specs.declared.statement.Statement.{Statement}
use Rattle.c_parse_words.specs.Seen.{names_of, Reads}
use Rattle.c_parse_words.specs.declared.stop.Stop.{Stop}
use Rattle.c_parser.specs.StatementRules.{statement}

pub record NestsStatements {H : Type 0} (names : IndexSet (Vec ℕ Global) H) (depth : ℕ)
    (pre : Global → Bor (IndexSet (Vec ℕ Global) H) → MutBor (List Symbol) → ℕ → Type 0)
    (post : Global → Bor (IndexSet (Vec ℕ Global) H) → MutBor (List Symbol) → ℕ → Result Statement Stop → MutBor (List Symbol) → Type 0) : Type 0 where
  pub callable : (alloc : Global) (set : Bor (IndexSet (Vec ℕ Global) H)) (old : MutBor (List Symbol)) → set.now ≡ names → pre alloc set old depth
  pub reads : (alloc : Global) (set : Bor (IndexSet (Vec ℕ Global) H)) (old new : MutBor (List Symbol)) (r : Result Statement Stop)
      → set.now ≡ names → post alloc set old depth r new → Reads statement_view (statement (names_of names) depth old.now) r new.now
