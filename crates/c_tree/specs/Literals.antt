-- String literals of a tree.
use Rattle.std.specs.Prelude.{ℕ, List, flat_map}
use Rattle.c_lexer.specs.Literals.{literal_bytes}
use Rattle.c_tree.specs.declared.leaf.StringPiece.{StringPiece}

-- the bytes of adjacent string literals, which are one literal (C99 6.4.5)
abbrev pub pieces_bytes : List StringPiece → List ℕ
pieces_bytes pieces = flat_map (λ p. literal_bytes p.bytes) pieces
