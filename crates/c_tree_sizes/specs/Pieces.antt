-- The pieces of string literals.
use Rattle.std.specs.Prelude.{◌<◌, length}
use Rattle.c_tree.specs.TypedParts.{Made, Literal}

-- a string literal has a piece, as each token is one (C99 6.4.5)
abbrev pub HasPieces : Made → Type 0
HasPieces (Literal pieces home t) = 0 < length pieces
HasPieces made = Unit {0}
