-- Cured code in the making, and what an appended piece is.
use Rattle.std.specs.Prelude.{◌≡◌, ℕ, true, List, [], ◌++◌}
use Rattle.cured_code.specs.declared.instr.Instr.{Instr}
use Rattle.check_forms.specs.Pieces.{Piece, Line, Choice}
use Rattle.check_forms.specs.Tests.{Test, IsTest}
use Rattle.check_forms.specs.declared.slots.Work.{Work}
use Rattle.check_forms.specs.Rows.{Asked}
use Rattle.check_forms.specs.RowChecks.{AreChecks}
use Rattle.check_insert.specs.declared.draft.Draft.{Draft}
use Rattle.check_insert.specs.declared.ends.Stop.{Stop}

-- Where nothing failed, the instructions appended are as P says. Where R holds, nothing was met that has no code.
unfoldable pub Grows : Piece → Type 0 → Draft → Draft → Type 0
Grows P R before after =
    (after.fine ≡ true → (before.fine ≡ true) × ((code : List Instr) × P code × (after.items.items ≡ before.items.items ++ code)))
    × (R → before.ready ≡ true → after.ready ≡ true)

unfoldable pub Starts : Draft → Type 0
Starts draft = (draft.items.items ≡ []) × (draft.ready ≡ true)

-- a choice between two drafts in which nothing failed
unfoldable pub Chosen : ℕ → Draft → Draft → Piece
Chosen a one two code = (one.fine ≡ true) × (two.fine ≡ true) × Choice a (Line one.items.items) (Line two.items.items) code

abbrev pub AreBothReady : Draft → Draft → Type 0
AreBothReady one two = (one.ready ≡ true) × (two.ready ≡ true)

-- a test that stops with this check at this place
unfoldable pub Tests : Stop → Test → Piece
Tests stop t code = IsTest stop.check stop.place t code

-- the checks of these conditions
unfoldable pub Asks : Work → List Asked → Piece
Asks k list code = AreChecks k list code
