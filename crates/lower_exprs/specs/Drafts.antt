-- Code in the making, and what an appended piece is.
use Rattle.std.specs.Prelude.{◌≡◌, ℕ, suc, ◌+◌, ◌<◌, min, Bool, true, List, [], ◌∷◌, ◌++◌}
use Rattle.cil_form.specs.declared.number.Temp.{Temp}
use Rattle.cil_form.specs.declared.instr.Instr.{Instr}
use Rattle.c_tree.specs.TypedTree.{TypedPlace}
use Rattle.lower_rules.specs.Pieces.{Form, Line, Choice, When}
use Rattle.lower_rules.specs.Words.{Context, LogicalOf}
use Rattle.lower_rules.specs.Expressions.{IsFixed}
use Rattle.lower_exprs.specs.declared.draft.Draft.{Draft}
use Rattle.lower_exprs.specs.declared.draft.Scope.{Scope}

-- what the relation of trees and code sees of a scope
abbrev pub context_of : Scope → Context
context_of s = record { table = s.types.now; statics = s.statics.now.keys; variables = s.variables.now.keys }

-- Where nothing failed, the instructions appended are as P says. Where R holds, nothing was met that has no code.
unfoldable pub Grows : Form → Type 0 → Draft → Draft → Type 0
Grows P R before after =
    (after.fine ≡ true → (before.fine ≡ true) × ((code : List Instr) × P code × (after.items.items ≡ before.items.items ++ code)))
    × (R → before.ready ≡ true → after.ready ≡ true)

unfoldable pub Starts : Draft → Type 0
Starts draft = (draft.items.items ≡ []) × (draft.ready ≡ true)

-- a choice between two drafts in which nothing failed
unfoldable pub Chosen : Temp → Draft → Draft → Form
Chosen t one two code = (one.fine ≡ true) × (two.fine ≡ true) × Choice t (Line one.items.items) (Line two.items.items) code

-- `&&` or `||` with a draft of its right operand, in which nothing failed
unfoldable pub Decided : Bool → ℕ → Draft → Form
Decided or v right code = (right.fine ≡ true) × LogicalOf or v (Line right.items.items) code

abbrev pub AreBothReady : Draft → Draft → Type 0
AreBothReady one two = (one.ready ≡ true) × (two.ready ≡ true)

-- nothing, where a place is no choice between structs
unfoldable pub Fixed : TypedPlace → Form
Fixed p = When (IsFixed p) (Line [])

-- nothing, where a number of a value is below 256
unfoldable pub Numbered : ℕ → Form
Numbered v = When (v < 256) (Line [])

-- the number of a value, or the last one
unfoldable pub numbered : ℕ → ℕ
numbered v = min v 255
