-- What is listed in braces, as plain data.
use Rattle.std.specs.Prelude.{List, Option, Some, None}
use Rattle.c_tree.specs.declared.leaf.StringPiece.{StringPiece}
use Rattle.c_tree.specs.Tree as tree
use Rattle.c_check_declarations.specs.declared.slots.Slot.{Slot as CodeSlot}
use Rattle.c_unit_typing.specs.Initialisers.{Slot}

abbrev pub slot_view : CodeSlot → Slot
slot_view s = record { offset = s.offset; type = s.ty }

-- a literal that stands in braces by itself
abbrev pub only_literal : tree.Items → Option (List StringPiece)
only_literal (tree.AndItem tree.NoItem (tree.Value (tree.String pieces))) = Some pieces
only_literal items = None
