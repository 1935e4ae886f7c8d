-- Which typed statements have code: their expressions do, and local objects have numbers.
use Rattle.std.specs.Prelude.{Option, Some, None}
use Rattle.c_tree.specs.TypedTree as typed
use Rattle.c_tree.specs.TypedTree.{TypedExpr, TypedStatement, TypedBlockItems}
use Rattle.lower_rules.specs.Words.{Context}
use Rattle.lower_rules.specs.Statements.{Nesting, in_loop, in_switch}
use Rattle.lower_exprs.specs.Ready.{HasCode}
use Rattle.lower_initialisers.specs.Ready.{HasCodeOfDeclaration}
use Rattle.lower_statements.specs.declared.nesting.Nesting.{Nesting as CodeNesting}
use Rattle.lower_statements.specs.Switches.{Nests}

-- what the relation of trees and code sees of how a statement is nested
abbrev pub nesting_of : CodeNesting → Nesting
nesting_of v = record { breaks = v.breaks; continues = v.continues; switches = v.switches }

abbrev pub HasCodeOfEffect : Option TypedExpr → Context → Type 0
HasCodeOfEffect None k = Unit {0}
HasCodeOfEffect (Some e) k = HasCode e k 0

abbrev pub HasCodeOfTest : Option TypedExpr → Context → Type 0
HasCodeOfTest None k = Unit {0}
HasCodeOfTest (Some e) k = HasCode e k 0 × Unit {0}

abbrev mutual
  pub HasCodeOfStatement : TypedStatement → Context → Nesting → Type 0
  HasCodeOfStatement (typed.Block brace items) k v = HasCodeOfBlock items k v
  HasCodeOfStatement (typed.Express e) k v = HasCode e k 0
  HasCodeOfStatement typed.Empty k v = Unit {0}
  HasCodeOfStatement (typed.If at paren c s) k v = HasCode c k 0 × (HasCodeOfStatement s k v × Unit {0})
  HasCodeOfStatement (typed.IfElse at paren c s r) k v = HasCode c k 0 × (HasCodeOfStatement s k v × HasCodeOfStatement r k v)
  HasCodeOfStatement (typed.Switch at paren e brace items) k v =
      HasCode e k 0 × (Unit {0} × (Unit {0} × (Nests v × HasCodeOfBlock items k (in_switch v))))
  HasCodeOfStatement (typed.While at paren c s) k v = HasCodeOfTest (Some c) k × HasCodeOfStatement s k (in_loop v)
  HasCodeOfStatement (typed.DoWhile s at paren c) k v = HasCodeOfStatement s k (in_loop v) × HasCodeOfTest (Some c) k
  HasCodeOfStatement (typed.For at paren first c step s) k v =
      HasCodeOfEffect first k × (HasCodeOfTest c k × (HasCodeOfStatement s k (in_loop v) × HasCodeOfEffect step k))
  HasCodeOfStatement (typed.ForDeclaration at paren d c step s) k v =
      HasCodeOfDeclaration d k × (HasCodeOfTest c k × (HasCodeOfStatement s k (in_loop v) × HasCodeOfEffect step k))
  HasCodeOfStatement (typed.Break at) k v = Unit {0}
  HasCodeOfStatement (typed.Continue at) k v = Unit {0}
  HasCodeOfStatement (typed.Return at None) k v = Unit {0}
  HasCodeOfStatement (typed.Return at (Some e)) k v = HasCode e k 0 × Unit {0}

  pub HasCodeOfBlock : TypedBlockItems → Context → Nesting → Type 0
  HasCodeOfBlock typed.NoBlockItem k v = Unit {0}
  HasCodeOfBlock (typed.AndStatement all s) k v = HasCodeOfBlock all k v × HasCodeOfStatement s k v
  HasCodeOfBlock (typed.AndDeclaration all d) k v = HasCodeOfBlock all k v × HasCodeOfDeclaration d k
  HasCodeOfBlock (typed.AndCase all at e z) k v = HasCodeOfBlock all k v
  HasCodeOfBlock (typed.AndDefault all at) k v = HasCodeOfBlock all k v

-- what a `switch` needs for its pieces
abbrev pub HasPieces : TypedBlockItems → Context → Nesting → Type 0
HasPieces all k v = Nests v × HasCodeOfBlock all k (in_switch v)
