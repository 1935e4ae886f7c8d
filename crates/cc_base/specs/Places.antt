use Rattle.std.specs.Prelude.{ℕ, List, ◌++◌, ◌∷◌, ◌≡◌, ◌<◌, ◌⊎◌}
use Rattle.std.specs.Fmt.{decimal}
use Rattle.cc_base.specs.declared.place.Place.{Place}

-- The order of places in a text: by line, then by column.
abbrev pub IsBefore : Place → Place → Type 0
IsBefore a b = (a.line < b.line) ⊎ ((a.line ≡ b.line) × (a.col < b.col))

-- What reports write of a place: its line, a colon, its column.
abbrev pub place_text : Place → List ℕ
place_text place = decimal place.line ++ 58 ∷ decimal place.col
