-- Which token it is of which a test tells something.
use Rattle.std.proofs.Common.{◌≡◌, ℕ, Bool, true, false, Option, Some, None, List, refl, sym, ◌∙◌, ap, cond, subst}
use Rattle.cc_base.specs.declared.place.Place.{Place}
use Rattle.c_lexer.specs.declared.word.Keyword.{Keyword}
use Rattle.c_lexer.specs.declared.word.Keyword.TheVariants as keyword
use Rattle.c_lexer.specs.declared.punctuator.Punctuator.{Punctuator}
use Rattle.c_lexer.specs.declared.punctuator.Punctuator.TheVariants as mark
use Rattle.c_tree.specs.declared.leaf.Identifier.{Identifier}
use Rattle.c_tree.specs.declared.leaf.StringPiece.{StringPiece}
use Rattle.c_tree.specs.declared.leaf.Separator.TheVariants as separator
use Rattle.c_tree.specs.declared.operator.Assignment.{Assignment}
use Rattle.c_tree.specs.declared.operator.Binary.{Binary}
use Rattle.c_tree.specs.Operators.{member_mark, step_mark, unary_symbol, binary_mark, assignment_mark}
use Rattle.c_tree.specs.Spelling.{name_symbol, piece_symbol}
use Rattle.c_tree.specs.Symbols.{Symbol, Name, Integer, Character, Quoted, Word, Mark, Bare}
use Rattle.c_tree.specs.Words.{TypeNames, is_type_name}
use Rattle.c_parse_words.specs.Tests.{is_close_paren, is_close_bracket, is_close_brace, is_semicolon, is_comma, is_colon, open_paren, open_bracket, open_brace, equals_sign, star_sign, question_mark, word_name, string_piece, Operator, At, binary_of, assignment_of, placed, binary_operator, assignment_operator, Suffix, IndexAt, CallAt, MemberAt, StepAt, NoSuffix, suffix_of, suffix, Start, StartName, StartInteger, StartCharacter, StartString, StartParen, StartPrefix, StartSizeOf, NoStart, start_of, start_of_word, start}

-- Tokens that close or separate are known by their tests.

pub close_paren_only : (t : Symbol) → is_close_paren (Some t) ≡ true → t ≡ Bare separator.CloseParen
close_paren_only (Bare separator.CloseParen) e = refl
close_paren_only t e = cc

pub close_bracket_only : (t : Symbol) → is_close_bracket (Some t) ≡ true → t ≡ Bare separator.CloseBracket
close_bracket_only (Bare separator.CloseBracket) e = refl
close_bracket_only t e = cc

pub close_brace_only : (t : Symbol) → is_close_brace (Some t) ≡ true → t ≡ Bare separator.CloseBrace
close_brace_only (Bare separator.CloseBrace) e = refl
close_brace_only t e = cc

pub semicolon_only : (t : Symbol) → is_semicolon (Some t) ≡ true → t ≡ Bare separator.Semicolon
semicolon_only (Bare separator.Semicolon) e = refl
semicolon_only t e = cc

pub colon_only : (t : Symbol) → is_colon (Some t) ≡ true → t ≡ Bare separator.Colon
colon_only (Bare separator.Colon) e = refl
colon_only t e = cc

pub comma_here : (next : Option Symbol) → is_comma next ≡ true → next ≡ Some (Bare separator.Comma)
comma_here (Some (Bare separator.Comma)) e = refl
comma_here next e = cc

-- Single tokens. What a test tells gives the token back.

abbrev back_at : Punctuator → Option Symbol → Option Place → Option Symbol
back_at p next None = next
back_at p next (Some at) = Some (Mark p at)

open_paren_back : (next : Option Symbol) → back_at mark.OpenParen next (open_paren next) ≡ next
open_paren_back (Some (Mark mark.OpenParen at)) = refl
open_paren_back next = refl

pub open_paren_here : (next : Option Symbol) (at : Place) → open_paren next ≡ Some at → next ≡ Some (Mark mark.OpenParen at)
open_paren_here next at e = sym (open_paren_back next) ∙ ap (back_at mark.OpenParen next) e

open_bracket_back : (next : Option Symbol) → back_at mark.OpenBracket next (open_bracket next) ≡ next
open_bracket_back (Some (Mark mark.OpenBracket at)) = refl
open_bracket_back next = refl

pub open_bracket_here : (next : Option Symbol) (at : Place) → open_bracket next ≡ Some at → next ≡ Some (Mark mark.OpenBracket at)
open_bracket_here next at e = sym (open_bracket_back next) ∙ ap (back_at mark.OpenBracket next) e

open_brace_back : (next : Option Symbol) → back_at mark.OpenBrace next (open_brace next) ≡ next
open_brace_back (Some (Mark mark.OpenBrace at)) = refl
open_brace_back next = refl

pub open_brace_here : (next : Option Symbol) (at : Place) → open_brace next ≡ Some at → next ≡ Some (Mark mark.OpenBrace at)
open_brace_here next at e = sym (open_brace_back next) ∙ ap (back_at mark.OpenBrace next) e

equals_sign_back : (next : Option Symbol) → back_at mark.Equal next (equals_sign next) ≡ next
equals_sign_back (Some (Mark mark.Equal at)) = refl
equals_sign_back next = refl

pub equals_sign_here : (next : Option Symbol) (at : Place) → equals_sign next ≡ Some at → next ≡ Some (Mark mark.Equal at)
equals_sign_here next at e = sym (equals_sign_back next) ∙ ap (back_at mark.Equal next) e

star_sign_back : (next : Option Symbol) → back_at mark.Star next (star_sign next) ≡ next
star_sign_back (Some (Mark mark.Star at)) = refl
star_sign_back next = refl

pub star_sign_here : (next : Option Symbol) (at : Place) → star_sign next ≡ Some at → next ≡ Some (Mark mark.Star at)
star_sign_here next at e = sym (star_sign_back next) ∙ ap (back_at mark.Star next) e

question_mark_back : (next : Option Symbol) → back_at mark.Question next (question_mark next) ≡ next
question_mark_back (Some (Mark mark.Question at)) = refl
question_mark_back next = refl

pub question_mark_here : (next : Option Symbol) (at : Place) → question_mark next ≡ Some at → next ≡ Some (Mark mark.Question at)
question_mark_here next at e = sym (question_mark_back next) ∙ ap (back_at mark.Question next) e

abbrev back_name : Option Symbol → Option Identifier → Option Symbol
back_name next None = next
back_name next (Some name) = Some (name_symbol name)

word_name_back : (next : Option Symbol) → back_name next (word_name next) ≡ next
word_name_back (Some (Name bytes place)) = refl
word_name_back next = refl

pub word_name_here : (next : Option Symbol) (name : Identifier) → word_name next ≡ Some name → next ≡ Some (name_symbol name)
word_name_here next name e = sym (word_name_back next) ∙ ap (back_name next) e

abbrev back_piece : Option Symbol → Option StringPiece → Option Symbol
back_piece next None = next
back_piece next (Some piece) = Some (piece_symbol piece)

string_piece_back : (next : Option Symbol) → back_piece next (string_piece next) ≡ next
string_piece_back (Some (Quoted bytes place)) = refl
string_piece_back next = refl

pub string_piece_here : (next : Option Symbol) (piece : StringPiece) → string_piece next ≡ Some piece → next ≡ Some (piece_symbol piece)
string_piece_here next piece e = sym (string_piece_back next) ∙ ap (back_piece next) e

-- Operators.

abbrev back_binary : Option Symbol → Option (Operator Binary) → Option Symbol
back_binary next None = next
back_binary next (Some (At op at)) = Some (Mark (binary_mark op) at)

binary_back : (p : Punctuator) (at : Place) → back_binary (Some (Mark p at)) (placed (binary_of p) at) ≡ Some (Mark p at)
binary_back mark.Star at = refl
binary_back p at = refl

binary_operator_back : (next : Option Symbol) → back_binary next (binary_operator next) ≡ next
binary_operator_back (Some (Mark p at)) = binary_back p at
binary_operator_back next = refl

pub binary_operator_here : (next : Option Symbol) (op : Binary) (at : Place) → binary_operator next ≡ Some (At op at) → next ≡ Some (Mark (binary_mark op) at)
binary_operator_here next op at e = sym (binary_operator_back next) ∙ ap (back_binary next) e

abbrev back_assignment : Option Symbol → Option (Operator Assignment) → Option Symbol
back_assignment next None = next
back_assignment next (Some (At op at)) = Some (Mark (assignment_mark op) at)

assignment_back : (p : Punctuator) (at : Place) → back_assignment (Some (Mark p at)) (placed (assignment_of p) at) ≡ Some (Mark p at)
assignment_back mark.Equal at = refl
assignment_back p at = refl

assignment_operator_back : (next : Option Symbol) → back_assignment next (assignment_operator next) ≡ next
assignment_operator_back (Some (Mark p at)) = assignment_back p at
assignment_operator_back next = refl

pub assignment_operator_here : (next : Option Symbol) (op : Assignment) (at : Place) → assignment_operator next ≡ Some (At op at) → next ≡ Some (Mark (assignment_mark op) at)
assignment_operator_here next op at e = sym (assignment_operator_back next) ∙ ap (back_assignment next) e

-- Suffixes.

-- the token that says so
abbrev pub suffix_back : Option Symbol → Suffix → Option Symbol
suffix_back next (IndexAt at) = Some (Mark mark.OpenBracket at)
suffix_back next (CallAt at) = Some (Mark mark.OpenParen at)
suffix_back next (MemberAt op at) = Some (Mark (member_mark op) at)
suffix_back next (StepAt step at) = Some (Mark (step_mark step) at)
suffix_back next NoSuffix = next

suffix_of_back : (p : Punctuator) (at : Place) → suffix_back (Some (Mark p at)) (suffix_of p at) ≡ Some (Mark p at)
suffix_of_back mark.Dot at = refl
suffix_of_back p at = refl

suffix_is_back : (next : Option Symbol) → suffix_back next (suffix next) ≡ next
suffix_is_back (Some (Mark p at)) = suffix_of_back p at
suffix_is_back next = refl

pub suffix_here : (next : Option Symbol) (s : Suffix) → suffix next ≡ s → next ≡ suffix_back next s
suffix_here next s e = sym (suffix_is_back next) ∙ ap (suffix_back next) e

-- How expressions begin.

abbrev pub start_back : Option Symbol → Start → Option Symbol
start_back next (StartName name) = Some (name_symbol name)
start_back next (StartInteger type value place) = Some (Integer type value place)
start_back next (StartCharacter value place) = Some (Character value place)
start_back next (StartString piece) = Some (piece_symbol piece)
start_back next (StartParen at) = Some (Mark mark.OpenParen at)
start_back next (StartPrefix op at) = Some (unary_symbol op at)
start_back next (StartSizeOf at) = Some (Word keyword.Sizeof at)
start_back next NoStart = next

start_of_back : (p : Punctuator) (at : Place) → start_back (Some (Mark p at)) (start_of p at) ≡ Some (Mark p at)
start_of_back mark.And at = refl
start_of_back p at = refl

start_of_word_back : (word : Keyword) (at : Place) → start_back (Some (Word word at)) (start_of_word word at) ≡ Some (Word word at)
start_of_word_back keyword.Sizeof at = refl
start_of_word_back word at = refl

start_of_name_back : (is_type : Bool) (bytes : List ℕ) (place : Place)
    → start_back (Some (Name bytes place)) (cond is_type NoStart (StartName (record { bytes = bytes; place = place }))) ≡ Some (Name bytes place)
start_of_name_back true bytes place = refl
start_of_name_back false bytes place = refl

start_is_back : (names : TypeNames) (next : Option Symbol) → start_back next (start names next) ≡ next
start_is_back names (Some (Name bytes place)) = start_of_name_back (is_type_name names bytes) bytes place
start_is_back names (Some (Word word at)) = start_of_word_back word at
start_is_back names (Some (Mark p at)) = start_of_back p at
start_is_back names (Some (Integer type value place)) = refl
start_is_back names (Some (Character value place)) = refl
start_is_back names (Some (Quoted bytes place)) = refl
start_is_back names (Some (Bare separator)) = refl
start_is_back names None = refl

pub start_here : (names : TypeNames) (next : Option Symbol) (k : Start) → start names next ≡ k → next ≡ start_back next k
start_here names next k e = sym (start_is_back names next) ∙ ap (start_back next) e

-- a name that begins an expression is no typedef name
abbrev pub IsStart : TypeNames → Start → Type 0
IsStart names (StartName name) = is_type_name names name.bytes ≡ false
IsStart names k = Unit {0}

name_fits : (names : TypeNames) (is_type : Bool) (bytes : List ℕ) (place : Place) → is_type_name names bytes ≡ is_type
    → IsStart names (cond is_type NoStart (StartName (record { bytes = bytes; place = place })))
name_fits names true bytes place e = tt
name_fits names false bytes place e = e

mark_fits : (names : TypeNames) (p : Punctuator) (at : Place) → IsStart names (start_of p at)
mark_fits names mark.And at = tt
mark_fits names p at = tt

word_fits : (names : TypeNames) (word : Keyword) (at : Place) → IsStart names (start_of_word word at)
word_fits names keyword.Sizeof at = tt
word_fits names word at = tt

start_fits : (names : TypeNames) (next : Option Symbol) → IsStart names (start names next)
start_fits names (Some (Name bytes place)) = name_fits names (is_type_name names bytes) bytes place refl
start_fits names (Some (Word word at)) = word_fits names word at
start_fits names (Some (Mark p at)) = mark_fits names p at
start_fits names (Some (Integer type value place)) = tt
start_fits names (Some (Character value place)) = tt
start_fits names (Some (Quoted bytes place)) = tt
start_fits names (Some (Bare separator)) = tt
start_fits names None = tt

pub start_is : (names : TypeNames) (next : Option Symbol) (k : Start) → start names next ≡ k → IsStart names k
start_is names next k e = subst (IsStart names) e (start_fits names next)
