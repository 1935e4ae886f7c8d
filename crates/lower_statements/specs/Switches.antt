-- What a `switch` is made of beside its statements.
use Rattle.std.specs.Prelude.{◌≡◌, ◌<◌, ◌^◌, ℕ, ℤ, suc, min, pos, true, List, [], ◌∷◌, ◌++◌}
use Rattle.std.specs.Option.{unwrap_or}
use Rattle.cc_base.specs.declared.number.TypeId.{TypeId}
use Rattle.cc_base.specs.declared.place.Place.{Place}
use Rattle.c_tree.specs.TypedTree.{TypedBlockItems}
use Rattle.c_tree.specs.declared.typed_statement.TypedBlockItem.{TypedBlockItem}
use Rattle.c_tree.specs.declared.typed_statement.TypedBlockItem.TheVariants as item
use Rattle.src_machine.specs.Statements.{default_or, labels}
use Rattle.cil_form.specs.declared.instr.Calculate.TheVariants as calculate
use Rattle.cil_form.specs.declared.instr.Comparison.TheVariants as comparison
use Rattle.cil_form.specs.declared.instr.Instr.{Instr}
use Rattle.cil_form.specs.declared.instr.Instr.TheVariants as instr
use Rattle.cil_form.specs.declared.instr.Operator.TheVariants as operator
use Rattle.cil_form.specs.declared.instr.Set.TheVariants as set
use Rattle.lower_rules.specs.Pieces.{Choice, Form, Line, Then, When}
use Rattle.lower_rules.specs.Statements.{Guarded, IsCodeOfPieces, Nesting, label_of}
use Rattle.lower_rules.specs.Words.{Context, unsigned_long, value}
use Rattle.lower_exprs.specs.declared.draft.Draft.{Draft}
use Rattle.lower_statements.specs.declared.switching.Labels.{Labels}

-- the labels of a block: how many, and the number of the first `default`
pub record AreLabels (all : TypedBlockItems) (l : Labels) : Type 0 where
  pub count : labels all ≡ l.count
  pub default : (other : ℕ) → default_or all other ≡ unwrap_or l.first_default other

-- its labels, and one more, have numbers
abbrev pub IsFew : TypedBlockItems → Type 0
IsFew all = suc (labels all) < 2 ^ 64

-- value 1 is whether value 0 is z
abbrev pub equal_code : ℤ → TypeId → Place → List Instr
equal_code z t at =
    instr.Set (set.Integer (value 1) z t)
    ∷ instr.Calculate (calculate.Binary (value 1) (operator.Compare comparison.Equal) (value 1) (value 0) t at) ∷ []

-- the label, where value 1 is true
abbrev pub Chosen : ℕ → ℕ → Form
Chosen n label = Choice (value 1) (Line (instr.Set (set.Integer (label_of n) (pos label) unsigned_long) ∷ [])) (Line [])

-- an item whose label has this number
unfoldable pub Tested : TypedBlockItem → ℕ → ℕ → TypeId → Place → Form
Tested (item.Case at e z) label n t place = Then (Line (equal_code z t place)) (Chosen n label)
Tested other label n t place = Line []

-- a piece that stands in a draft
unfoldable pub Guards : ℕ → ℕ → Place → Draft → Form
Guards label n at piece = When (piece.fine ≡ true) (Guarded label n at (Line piece.items.items))

-- the pieces of a `switch`, each with its guard
unfoldable pub Pieces : TypedBlockItems → Context → Nesting → Place → Form
Pieces items k v at code = (closed last : List Instr) × IsCodeOfPieces items k v at closed last
    × Then (Line closed) (Guarded (labels items) v.switches at (Line last)) code

-- a `switch` may stand where this is
abbrev pub Nests : Nesting → Type 0
Nests v = (suc v.continues < 4294967296) × (suc v.switches < 256)

-- inside it, with the last numbers where there are no more
unfoldable pub capped : Nesting → Nesting
capped v = record { breaks = 0; continues = min (suc v.continues) 4294967295; switches = min (suc v.switches) 255 }

-- Where nothing failed, all pieces but the last were appended to one draft, and the last is in another.
unfoldable pub GrowsInPieces : TypedBlockItems → Context → Nesting → Place → Type 0 → Draft → Draft → Draft → Type 0
GrowsInPieces items k v at R before after last =
    (after.fine ≡ true → last.fine ≡ true
    → (before.fine ≡ true) × ((closed : List Instr) × IsCodeOfPieces items k v at closed last.items.items
    × (after.items.items ≡ before.items.items ++ closed)))
    × (R → before.ready ≡ true → (after.ready ≡ true) × (last.ready ≡ true))
