-- The bytes of string literals, piece by piece.
use Rattle.std.proofs.Common.{◌≡◌, ℕ, ◌<◌, List, [], ◌∷◌, ◌++◌, length, sym, refl, arith, append_assoc}
use Rattle.c_lexer.specs.Literals.{literal_bytes}
use Rattle.c_tree.specs.Literals.{pieces_bytes}
use Rattle.c_tree.specs.declared.leaf.StringPiece.{StringPiece}

-- what has no quotes holds no byte
pub no_quotes : (literal : List ℕ) → length literal < 2 → [] ≡ literal_bytes literal
no_quotes [] h = refl
no_quotes (a ∷ []) h = refl
no_quotes (a ∷ (b ∷ rest)) h = absurd (omega arith)

-- one more piece
pub next_piece : (bytes : List ℕ) (piece : StringPiece) (pieces : List StringPiece)
    → bytes ++ pieces_bytes (piece ∷ pieces) ≡ (bytes ++ literal_bytes piece.bytes) ++ pieces_bytes pieces
next_piece bytes piece pieces = sym (append_assoc bytes (literal_bytes piece.bytes) (pieces_bytes pieces))

pub next_copy : (copy : List StringPiece) (piece : StringPiece) (rest : List StringPiece) → copy ++ (piece ∷ rest) ≡ (copy ++ piece ∷ []) ++ rest
next_copy copy piece rest = sym (append_assoc copy (piece ∷ []) rest)
