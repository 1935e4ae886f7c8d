-- What a `switch` runs, in the words of C99 6.8.4.2: its block from the chosen label on, as a block runs.
use Rattle.std.specs.Prelude.{◌≡◌, ℕ, Bool, true, false, nat_le}
use Rattle.cc_base.specs.declared.place.Place.{Place}
use Rattle.runs.specs.Outcome.{done, ◌>>=◌}
use Rattle.c_tree.specs.TypedTree as typed
use Rattle.c_tree.specs.TypedTree.{TypedExpr, TypedBlockItems}
use Rattle.src_mem.specs.State.{State, Act, as_integer}
use Rattle.src_machine.specs.World.{World}
use Rattle.src_machine.specs.Expressions.{eval}
use Rattle.src_machine.specs.Statements.{Flow, labels, chosen, flow_of_switch, exec, exec_items}

abbrev pub kept : Bool → TypedBlockItems → TypedBlockItems
kept true items = items
kept false items = typed.NoBlockItem

-- what a block holds behind label number k; further labels are passed, and do nothing
abbrev pub behind : ℕ → TypedBlockItems → TypedBlockItems
behind k typed.NoBlockItem = typed.NoBlockItem
behind k (typed.AndStatement all s) = kept (nat_le k (labels all)) (typed.AndStatement (behind k all) s)
behind k (typed.AndDeclaration all d) = kept (nat_le k (labels all)) (typed.AndDeclaration (behind k all) d)
behind k (typed.AndCase all at e z) = behind k all
behind k (typed.AndDefault all at) = behind k all

-- the block of a `switch` from the label that its value chooses, which `break` leaves
abbrev pub switched : TypedExpr → TypedBlockItems → World → Act Flow
switched e items w = do
  v ← eval e w
  z ← as_integer v
  flow ← exec_items (behind (chosen items z) items) w
  done (flow_of_switch flow)

abbrev pub SwitchesRunWhatIsBehind : Type 0
SwitchesRunWhatIsBehind =
    (at paren : Place) (e : TypedExpr) (brace : Place) (items : TypedBlockItems) (w : World) (s : State)
    → exec (typed.Switch at paren e brace items) w s ≡ switched e items w s
