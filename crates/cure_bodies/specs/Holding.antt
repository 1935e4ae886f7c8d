-- What temporaries may hold where code has come to: what was written last into each, as the curer keeps it. It knows no less than the code's
-- shape does, and may know what a loop forgets.
use Rattle.std.specs.Prelude.{◌≡◌, ℕ, true, List, [], ◌∷◌, ◌++◌, Option, Some}
use Rattle.cured_code.specs.declared.instr.Instr as flat
use Rattle.cured_code.specs.declared.instr.Instr.TheVariants as instr
use Rattle.check_forms.specs.Pieces.{Piece}
use Rattle.check_insert.specs.declared.draft.Draft.{Draft}
use Rattle.cil_form.specs.declared.number.Temp.{Temp}
use Rattle.cil_form.specs.Typing.{HeldType, Typing, Includes, with_held, no_types}
use Rattle.cure_rules.specs.Known.{World, known_of}
use Rattle.cure_rules.specs.Setting.{IsTested}
use Rattle.cure_instrs.specs.Lines.{held_views}
use Rattle.cure_bodies.specs.declared.holding.Written.{Written}
use Rattle.cure_bodies.specs.declared.holding.Holdings.{Holdings}

-- what is known once these are written, in order
abbrev pub writes : List Written → Typing → Typing
writes [] types = types
writes (x ∷ xs) types = writes xs (with_held x.temp (held_views x.held) types)

abbrev pub typing_of : List Written → Typing
typing_of xs = writes xs no_types

-- what is held
abbrev pub holds_now : Holdings → Typing
holds_now h = typing_of h.items.items

-- more was written
abbrev pub Extends : Holdings → Holdings → Type 0
Extends more less = (xs : List Written) × (more.items.items ≡ less.items.items ++ xs)

-- Where nothing failed, the instructions appended are as P says.
unfoldable pub Makes : Piece → Draft → Draft → Type 0
Makes P before after =
    after.fine ≡ true → (before.fine ≡ true) × ((code : List flat.Instr) × P code × (after.items.items ≡ before.items.items ++ code))

-- Where nothing failed, it is noted that temporary t holds x. Nothing is met that has no code.
unfoldable pub Notes : Temp → Option HeldType → Draft → Holdings → Draft → Holdings → Type 0
Notes t x before held after noted =
    (after.fine ≡ true → (before.fine ≡ true) × (after.items.items ≡ before.items.items)
    × ((y : Written) × (y.temp ≡ t) × (held_views y.held ≡ x) × (noted.items.items ≡ held.items.items ++ (y ∷ []))))
    × (after.ready ≡ before.ready)

-- Lines after which the slot tells whether the temporary's value is true.
unfoldable pub TestedFor : World → Typing → Temp → ℕ → Draft → Draft → Type 0
TestedFor w held t a before after = Makes (λ code. (types : Typing) (x : HeldType) → Includes held types → types t ≡ Some x
    → IsTested w (known_of w.slots types) t a code) before after

-- a block, and a loop, around a draft in which nothing failed
unfoldable pub BlockOf : Draft → Draft → Draft → Type 0
BlockOf inner before after = after.fine ≡ true → (before.fine ≡ true) × (inner.fine ≡ true)
    × (after.items.items ≡ before.items.items ++ (instr.Block (record { 0 = inner.items }) ∷ []))

unfoldable pub LoopOf : Draft → Draft → Draft → Type 0
LoopOf inner before after = after.fine ≡ true → (before.fine ≡ true) × (inner.fine ≡ true)
    × (after.items.items ≡ before.items.items ++ (instr.Loop (record { 0 = inner.items }) ∷ []))
