-- What a walk over a typed tree collects.
use Rattle.std.specs.Prelude.{◌≡◌, ℕ, ◌<◌, true, List, [], ◌∷◌, ◌++◌, map, flat_map, option_map, take, length, Option, Some, None}
use Rattle.kind_sites.specs.declared.site.Site.{Site}
use Rattle.c_types.specs.Table.{Table}
use Rattle.c_tree.specs.TypedParts.{Made, MadeObject, static_made, local_made}
use Rattle.src_mem.specs.Memory.{Planned}
use Rattle.src_mem.specs.Runs as runs
use Rattle.src_machine.specs.Machine.{text_of}
use Rattle.src_machine.specs.Pieces.{Piece}
use Rattle.src_machine.specs.Sites.{sites_of_piece}
use Rattle.cil_form.specs.declared.program.Static.{Static}
use Rattle.cil_form.specs.Machine.{plan}
use Rattle.cil_form.specs.Sites.{Each}
use Rattle.unit_parts.specs.declared.collected.Collected.{Collected}

-- the objects that live as long as the program, and those that live as long as a call, of what a part makes
abbrev pub static_of : MadeObject → runs.Static
static_of o = record { type = o.type; home = o.home; text = option_map text_of o.literal }

abbrev pub local_of : MadeObject → Planned
local_of o = record { type = o.type; node = o.home }

abbrev pub statics_from : List Made → List runs.Static
statics_from made = map static_of (flat_map static_made made)

abbrev pub locals_from : List Made → List Planned
locals_from made = map local_of (flat_map local_made made)

-- what the meaning of a program sees of its static objects
abbrev pub seen_statics : List Static → List runs.Static
seen_statics all = map (λ o. record { type = o.planned.ty; home = o.planned.home; text = o.text }) all

abbrev pub AreBytes : List ℕ → Type 0
AreBytes text = Each (λ b. b < 256) text

-- the text of a literal is bytes
abbrev pub IsBytes : Option (List ℕ) → Type 0
IsBytes None = Unit {0}
IsBytes (Some text) = AreBytes text

abbrev pub HaveBytes : List Static → Type 0
HaveBytes all = Each (λ o. IsBytes o.text) all

-- Where nothing failed, these objects and sites were found besides.
unfoldable pub Adds : List runs.Static → List Planned → List Site → Collected → Collected → Type 0
Adds statics locals sites before after = after.fine ≡ true → (before.fine ≡ true)
    × (seen_statics after.statics.items ≡ seen_statics before.statics.items ++ statics)
    × (map plan after.locals.items ≡ map plan before.locals.items ++ locals)
    × (after.sites.items ≡ before.sites.items ++ sites)
    × (HaveBytes before.statics.items → HaveBytes after.statics.items)

-- what a part makes, and what its pieces ask
unfoldable pub Collects : Table → List Made → List Piece → Collected → Collected → Type 0
Collects table made pieces before after =
    Adds (statics_from made) (locals_from made) (flat_map (sites_of_piece table) pieces) before after

-- sites alone
unfoldable pub Asks : List Site → Collected → Collected → Type 0
Asks sites before after = Adds [] [] sites before after

-- the first so many sites alone are kept
unfoldable pub Forgets : ℕ → Collected → Collected → Type 0
Forgets kept before after = after.fine ≡ true → (before.fine ≡ true)
    × (after.statics.items ≡ before.statics.items)
    × (after.locals.items ≡ before.locals.items)
    × (after.sites.items ≡ take kept before.sites.items)
