-- A text has no more tokens than bytes.
use Rattle.std.proofs.Common.{◌≡◌, ℕ, ◌<◌, ◌≤◌, ◌+◌, List, [], ◌∷◌, ◌++◌, length, refl, sym, ap, ◌∙◌, subst, arith, length-append}
use Rattle.std.proofs.lemmas.Bool.{false≢true}
use Rattle.c_lexer.specs.Tokens.{Token}
use Rattle.c_lexer.specs.Cut.{Piece, Blank, BlockComment, LineComment, LineMarker, Spelled, piece_bytes, text_of, tokens_of, AllStand, IsCut, IsTokenAt}

a_token_has_bytes : (before bytes after : List ℕ) (kind : _) → IsTokenAt before kind bytes after → 0 < length bytes
a_token_has_bytes before [] after kind s = absurd (false≢true s.begins.is_one)
a_token_has_bytes before (b ∷ bytes) after kind s = omega arith

no_more : (before : List ℕ) (pieces : List Piece) (after : List ℕ) → AllStand before pieces after → length (tokens_of before pieces) ≤ length (text_of pieces)
no_more before [] after all = omega arith
no_more before (Blank b ∷ pieces) after all = let h = no_more (before ++ piece_bytes (Blank b)) pieces after all.1 in simp length-append (omega arith)
no_more before (BlockComment body ∷ pieces) after all = let h = no_more (before ++ piece_bytes (BlockComment body)) pieces after all.1 in simp length-append (omega arith)
no_more before (LineComment body ∷ pieces) after all = let h = no_more (before ++ piece_bytes (LineComment body)) pieces after all.1 in simp length-append (omega arith)
no_more before (LineMarker line ∷ pieces) after all = let h = no_more (before ++ piece_bytes (LineMarker line)) pieces after all.1 in simp length-append (omega arith)
no_more before (Spelled kind bytes ∷ pieces) after all =
    let h = no_more (before ++ bytes) pieces after all.1 in
    let some = a_token_has_bytes before bytes (text_of pieces ++ after) kind all.0 in
    simp length-append (omega arith)

pub few_tokens : (text : List ℕ) (tokens : List Token) → IsCut text tokens → length tokens ≤ length text
few_tokens text tokens cut =
    let h = no_more [] cut.pieces [] cut.stand in
    rw (cut.tokens_are, cut.front_is) h
