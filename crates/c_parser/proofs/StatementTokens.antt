-- Which token it is with which a statement or a label begins.
use Rattle.std.proofs.Common.{◌≡◌, true, Option, Some, [], ◌∷◌, refl, subst}
use Rattle.cc_base.specs.declared.place.Place.{Place}
use Rattle.c_lexer.specs.declared.word.Keyword.{Keyword}
use Rattle.c_lexer.specs.declared.word.Keyword.TheVariants as keyword
use Rattle.c_lexer.specs.declared.punctuator.Punctuator.TheVariants as mark
use Rattle.c_lexer.specs.declared.token.TokenKind.TheVariants as kind
use Rattle.c_tree.specs.declared.leaf.Separator.TheVariants as separator
use Rattle.c_tree.specs.Symbols.{Symbol, Word, Mark, Bare}
use Rattle.c_parse_words.specs.Tests.{open_paren, open_brace}
use Rattle.c_parse_words.specs.Written.{IsWritten}
use Rattle.c_parse_words.proofs.Take.{Tells}
use Rattle.c_parse_words.proofs.TokenLaws.{open_paren_here, open_brace_here}
use Rattle.c_parser.specs.Tests.{is_else, while_word, StatementStart, StartBlock, StartEmpty, StartIf, StartSwitch, StartWhile, StartDo, StartFor, StartBreak, StartContinue, StartReturn, NoStatementStart, start_of_keyword, statement_start, LabelStart, StartCase, StartDefault, NoLabelStart, label_of_keyword, label_start}

-- the symbol of a statement's first token
abbrev pub start_symbol : Option Symbol → StatementStart → Option Symbol
start_symbol next (StartBlock at) = Some (Mark mark.OpenBrace at)
start_symbol next StartEmpty = Some (Bare separator.Semicolon)
start_symbol next (StartIf at) = Some (Word keyword.If at)
start_symbol next (StartSwitch at) = Some (Word keyword.Switch at)
start_symbol next (StartWhile at) = Some (Word keyword.While at)
start_symbol next StartDo = Some (Bare separator.Do)
start_symbol next (StartFor at) = Some (Word keyword.For at)
start_symbol next (StartBreak at) = Some (Word keyword.Break at)
start_symbol next (StartContinue at) = Some (Word keyword.Continue at)
start_symbol next (StartReturn at) = Some (Word keyword.Return at)
start_symbol next NoStatementStart = next

word_back : (word : Keyword) (at : Place) → Some (Word word at) ≡ start_symbol (Some (Word word at)) (start_of_keyword word at)
word_back keyword.If at = refl
word_back keyword.Switch at = refl
word_back keyword.While at = refl
word_back keyword.For at = refl
word_back keyword.Break at = refl
word_back keyword.Continue at = refl
word_back keyword.Return at = refl
word_back word at = refl

start_back : (next : Option Symbol) → next ≡ start_symbol next (statement_start next)
start_back (Some (Mark mark.OpenBrace at)) = refl
start_back (Some (Bare separator.Semicolon)) = refl
start_back (Some (Bare separator.Do)) = refl
start_back (Some (Word word at)) = word_back word at
start_back next = refl

pub start_here : (next : Option Symbol) (x : StatementStart) → statement_start next ≡ x → next ≡ start_symbol next x
start_here next x e = subst (λ y. next ≡ start_symbol next y) e (start_back next)

abbrev pub label_symbol : Option Symbol → LabelStart → Option Symbol
label_symbol next (StartCase at) = Some (Word keyword.Case at)
label_symbol next (StartDefault at) = Some (Word keyword.Default at)
label_symbol next NoLabelStart = next

label_word_back : (word : Keyword) (at : Place) → Some (Word word at) ≡ label_symbol (Some (Word word at)) (label_of_keyword word at)
label_word_back keyword.Case at = refl
label_word_back keyword.Default at = refl
label_word_back word at = refl

label_back : (next : Option Symbol) → next ≡ label_symbol next (label_start next)
label_back (Some (Word word at)) = label_word_back word at
label_back next = refl

pub label_here : (next : Option Symbol) (x : LabelStart) → label_start next ≡ x → next ≡ label_symbol next x
label_here next x e = subst (λ y. next ≡ label_symbol next y) e (label_back next)

pub else_here : (next : Option Symbol) → is_else next ≡ true → next ≡ Some (Bare separator.Else)
else_here (Some (Bare separator.Else)) e = refl
else_here next e = cc

pub tells_open_paren : Tells open_paren (λ at. Mark mark.OpenParen at)
tells_open_paren = record { none = refl; only = only }
  where
    only : (t : Symbol) (at : Place) → open_paren (Some t) ≡ Some at → t ≡ Mark mark.OpenParen at
    only t at e =
        let here : Some t ≡ Some (Mark mark.OpenParen at) = open_paren_here (Some t) at e in
        cc

pub tells_open_brace : Tells open_brace (λ at. Mark mark.OpenBrace at)
tells_open_brace = record { none = refl; only = only }
  where
    only : (t : Symbol) (at : Place) → open_brace (Some t) ≡ Some at → t ≡ Mark mark.OpenBrace at
    only t at e =
        let here : Some t ≡ Some (Mark mark.OpenBrace at) = open_brace_here (Some t) at e in
        cc

pub tells_while : Tells while_word (λ at. Word keyword.While at)
tells_while = record { none = refl; only = only }
  where
    only : (t : Symbol) (at : Place) → while_word (Some t) ≡ Some at → t ≡ Word keyword.While at
    only (Word keyword.While at') at e = cc
    only t at e = cc

pub written_open_paren : (place : Place) → IsWritten (Mark mark.OpenParen place)
written_open_paren place = record { bytes = 40 ∷ []; kind = kind.Punctuator mark.OpenParen; place = place; is_token = refl; is_symbol = refl }

pub written_while : (place : Place) → IsWritten (Word keyword.While place)
written_while place = record { bytes = 119 ∷ 104 ∷ 105 ∷ 108 ∷ 101 ∷ []; kind = kind.Keyword keyword.While; place = place; is_token = refl; is_symbol = refl }
