-- A text cut into tokens, and where a text is refused.
use Rattle.std.specs.Prelude.{◌≡◌, ℕ, Bool, false, ◌&&◌, ◌==◌, nat_eq, ◌+◌, ◌⊎◌, List, [], ◌∷◌, ◌++◌, codes, drop, length, fold, count_by, Ok, Err, IsTrue, if◌then◌else◌}
use Rattle.std.specs.List.{starts_with, list_all}
use Rattle.cc_base.specs.declared.place.Place.{Place}
use Rattle.cc_base.specs.declared.fault.Rule.{Rule}
use Rattle.cc_base.specs.declared.fault.Rule.TheVariants.{BadByte, OpenComment, OpenText, BadNumber, Syntax, Unsupported, UnknownName, Redeclared, Incomplete, Mismatch, NotPlace, NotConstant, BadCall, NoMain}
use Rattle.cc_base.specs.declared.fault.Fault.{Fault}
use Rattle.cc_base.specs.declared.fault.Fault.TheVariants.{Refused, TooLarge, NoMemory}
use Rattle.c_lexer.specs.Bytes.{line_feed, is_blank, is_quote, is_bad_byte, begins_with}
use Rattle.c_lexer.specs.Gaps.{has_comment_end, begins_comment, line_of, is_line_marker}
use Rattle.c_lexer.specs.Lexemes.{lexeme_kind, Begins, begins_wide_literal}
use Rattle.c_lexer.specs.Literals.{is_literal}
use Rattle.c_lexer.specs.Tokens.{Token}
use Rattle.c_lexer.specs.declared.token.TokenKind.{TokenKind}

-- Places.

-- the bytes since the last line feed
abbrev pub last_line : List ℕ → List ℕ
last_line before = fold (λ line b. if b == line_feed then [] else line ++ b ∷ []) [] before

-- the place of what follows these bytes: lines and columns are counted from 1, columns in bytes
abbrev pub place_after : List ℕ → Place
place_after before = record { line = 1 + count_by (λ b. b == line_feed) before; col = 1 + length (last_line before) }

-- only blanks stand before on the line
abbrev pub is_first_on_line : List ℕ → Bool
is_first_on_line before = list_all is_blank (last_line before)

-- The pieces that a text consists of.

pub data Piece : Type 0 where
  -- one blank
  Blank : ℕ → Piece
  -- `/*`, these bytes, and `*/`
  BlockComment : List ℕ → Piece
  -- `//` and these bytes
  LineComment : List ℕ → Piece
  -- a line from its `#` on
  LineMarker : List ℕ → Piece
  -- a token of this kind, spelled so
  Spelled : TokenKind → List ℕ → Piece

abbrev pub piece_bytes : Piece → List ℕ
piece_bytes (Blank b) = b ∷ []
piece_bytes (BlockComment body) = codes "/*" ++ (body ++ codes "*/")
piece_bytes (LineComment body) = codes "//" ++ body
piece_bytes (LineMarker line) = line
piece_bytes (Spelled kind bytes) = bytes

abbrev pub text_of : List Piece → List ℕ
text_of [] = []
text_of (piece ∷ pieces) = piece_bytes piece ++ text_of pieces

-- the bytes have no line feed, and the line or the text ends after them
abbrev pub IsRestOfLine : (line after : List ℕ) → Type 0
IsRestOfLine line after = line_of (line ++ after) ≡ line

-- the bytes are an allowed token, as long as possible, and begin neither a comment nor a line that begins with `#` nor a wide literal
pub record IsTokenAt (before : List ℕ) (kind : TokenKind) (bytes after : List ℕ) : Type 0 where
  pub begins : Begins (bytes ++ after) bytes after
  pub kind_is : lexeme_kind bytes ≡ Ok kind
  pub no_comment : begins_comment (bytes ++ after) ≡ false
  pub no_directive : (is_first_on_line before && begins_with (λ b. b == 35) bytes) ≡ false
  pub not_wide : begins_wide_literal (bytes ++ after) ≡ false

-- what a piece needs of itself, of the bytes before it and of the bytes after it
abbrev pub Stands : (before : List ℕ) → Piece → (after : List ℕ) → Type 0
Stands before (Blank b) after = IsTrue (is_blank b)
Stands before (BlockComment body) after = has_comment_end body ≡ false
Stands before (LineComment body) after = IsRestOfLine body after
Stands before (LineMarker line) after = IsTrue (is_first_on_line before) × IsRestOfLine line after × IsTrue (is_line_marker line)
Stands before (Spelled kind bytes) after = IsTokenAt before kind bytes after

abbrev pub AllStand : (before : List ℕ) → List Piece → (after : List ℕ) → Type 0
AllStand before [] after = Unit {0}
AllStand before (piece ∷ pieces) after = Stands before piece (text_of pieces ++ after) × AllStand (before ++ piece_bytes piece) pieces after

-- the tokens among the pieces
abbrev pub tokens_of : (before : List ℕ) → List Piece → List Token
tokens_of before [] = []
tokens_of before (Blank b ∷ pieces) = tokens_of (before ++ piece_bytes (Blank b)) pieces
tokens_of before (BlockComment body ∷ pieces) = tokens_of (before ++ piece_bytes (BlockComment body)) pieces
tokens_of before (LineComment body ∷ pieces) = tokens_of (before ++ piece_bytes (LineComment body)) pieces
tokens_of before (LineMarker line ∷ pieces) = tokens_of (before ++ piece_bytes (LineMarker line)) pieces
tokens_of before (Spelled kind bytes ∷ pieces) =
    record { kind = kind; bytes = bytes; start = length before; place = place_after before } ∷ tokens_of (before ++ bytes) pieces

-- a front of the text is cut into these tokens, and the rest follows it
pub record IsCutBefore (text : List ℕ) (tokens : List Token) (front rest : List ℕ) : Type 0 where
  pub pieces : List Piece
  pub front_is : front ≡ text_of pieces
  pub whole : text ≡ front ++ rest
  pub stand : AllStand [] pieces rest
  pub tokens_are : tokens ≡ tokens_of [] pieces

-- the text is cut into these tokens
abbrev pub IsCut : (text : List ℕ) → List Token → Type 0
IsCut text tokens = IsCutBefore text tokens text []

-- Refusals.

-- a lexeme begins the rest that a rule refuses
pub record IsRefusedLexeme (rest : List ℕ) (rule : Rule) : Type 0 where
  pub lexeme : List ℕ
  pub after : List ℕ
  pub begins : Begins rest lexeme after
  pub kind_is : lexeme_kind lexeme ≡ Err rule

-- a quote begins the rest, and no literal does
pub record IsOpenLiteral (rest : List ℕ) : Type 0 where
  pub quote : IsTrue (begins_with is_quote rest)
  pub none_closed : (literal after : List ℕ) → rest ≡ literal ++ after → is_literal literal ≡ false

-- a line that begins with `#` and is no line marker
abbrev pub IsDirective : (before rest : List ℕ) → Type 0
IsDirective before rest =
    IsTrue (is_first_on_line before) × IsTrue (begins_with (λ b. b == 35) rest) × (is_line_marker (line_of rest) ≡ false)

-- the rule refuses what stands between these bytes and the rest
abbrev pub IsFault : (before rest : List ℕ) → Rule → Type 0
IsFault before rest BadByte = IsTrue (begins_with is_bad_byte rest)
IsFault before rest OpenComment = IsTrue (starts_with nat_eq rest (codes "/*")) × (has_comment_end (drop 2 rest) ≡ false)
IsFault before rest OpenText = IsOpenLiteral rest
IsFault before rest BadNumber = IsRefusedLexeme rest BadNumber
IsFault before rest Unsupported = IsRefusedLexeme rest Unsupported ⊎ (IsTrue (begins_wide_literal rest) ⊎ IsDirective before rest)
IsFault before rest Syntax = ⊥
IsFault before rest UnknownName = ⊥
IsFault before rest Redeclared = ⊥
IsFault before rest Incomplete = ⊥
IsFault before rest Mismatch = ⊥
IsFault before rest NotPlace = ⊥
IsFault before rest NotConstant = ⊥
IsFault before rest BadCall = ⊥
IsFault before rest NoMain = ⊥

-- the text is cut into tokens as far as the place, and there the rule refuses it
pub record IsRefusal (text : List ℕ) (place : Place) (rule : Rule) : Type 0 where
  pub tokens : List Token
  pub front : List ℕ
  pub rest : List ℕ
  pub cut : IsCutBefore text tokens front rest
  pub place_is : place ≡ place_after front
  pub fault : IsFault front rest rule

-- what a fault of `tokens` says of the text; want of memory says nothing
abbrev pub IsLexicalFault : (text : List ℕ) → Fault → Type 0
IsLexicalFault text (Refused place rule) = IsRefusal text place rule
IsLexicalFault text (TooLarge place limit) = ⊥
IsLexicalFault text NoMemory = Unit {0}
