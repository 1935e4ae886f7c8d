-- What the next token says of statements.
use Rattle.std.specs.Prelude.{Bool, true, false, ◌||◌, ◌&&◌, not, Option, Some, None}
use Rattle.cc_base.specs.declared.place.Place.{Place}
use Rattle.c_lexer.specs.declared.word.Keyword.{Keyword}
use Rattle.c_lexer.specs.declared.word.Keyword.TheVariants as keyword
use Rattle.c_lexer.specs.declared.punctuator.Punctuator.TheVariants as mark
use Rattle.c_tree.specs.declared.leaf.Separator.TheVariants as separator
use Rattle.c_tree.specs.Grammar.{ends_in_label}
use Rattle.c_tree.specs.Symbols.{Symbol, Word, Mark, Bare}
use Rattle.c_tree.specs.Tree as tree
use Rattle.c_tree.specs.Words.{TypeNames, InBlock}
use Rattle.c_parse_words.specs.Tests.{begins_expr, begins_specifier}

abbrev pub is_else : Option Symbol → Bool
is_else (Some (Bare separator.Else)) = true
is_else next = false

abbrev pub while_word : Option Symbol → Option Place
while_word (Some (Word keyword.While at)) = Some at
while_word next = None

-- How a statement begins.
pub data StatementStart : Type 0 where
  StartBlock : Place → StatementStart
  StartEmpty : StatementStart
  StartIf : Place → StatementStart
  StartSwitch : Place → StatementStart
  StartWhile : Place → StatementStart
  StartDo : StatementStart
  StartFor : Place → StatementStart
  StartBreak : Place → StatementStart
  StartContinue : Place → StatementStart
  StartReturn : Place → StatementStart
  NoStatementStart : StatementStart

abbrev pub start_of_keyword : Keyword → Place → StatementStart
start_of_keyword keyword.If at = StartIf at
start_of_keyword keyword.Switch at = StartSwitch at
start_of_keyword keyword.While at = StartWhile at
start_of_keyword keyword.For at = StartFor at
start_of_keyword keyword.Break at = StartBreak at
start_of_keyword keyword.Continue at = StartContinue at
start_of_keyword keyword.Return at = StartReturn at
start_of_keyword word at = NoStatementStart

abbrev pub statement_start : Option Symbol → StatementStart
statement_start (Some (Mark mark.OpenBrace at)) = StartBlock at
statement_start (Some (Bare separator.Semicolon)) = StartEmpty
statement_start (Some (Bare separator.Do)) = StartDo
statement_start (Some (Word word at)) = start_of_keyword word at
statement_start next = NoStatementStart

abbrev pub is_statement_start : StatementStart → Bool
is_statement_start NoStatementStart = false
is_statement_start other = true

abbrev pub begins_statement : TypeNames → Option Symbol → Bool
begins_statement names next = is_statement_start (statement_start next) || begins_expr names next

-- How a label begins.
pub data LabelStart : Type 0 where
  StartCase : Place → LabelStart
  StartDefault : Place → LabelStart
  NoLabelStart : LabelStart

abbrev pub label_of_keyword : Keyword → Place → LabelStart
label_of_keyword keyword.Case at = StartCase at
label_of_keyword keyword.Default at = StartDefault at
label_of_keyword word at = NoLabelStart

abbrev pub label_start : Option Symbol → LabelStart
label_start (Some (Word word at)) = label_of_keyword word at
label_start next = NoLabelStart

abbrev pub is_label_start : LabelStart → Bool
is_label_start NoLabelStart = false
is_label_start other = true

-- a declaration may stand after these items
abbrev pub begins_declaration : TypeNames → tree.BlockItems → Option Symbol → Bool
begins_declaration names items next = not (ends_in_label items) && begins_specifier names InBlock next

-- an item may stand after these, in a block with labels or without
abbrev pub begins_item : TypeNames → (has_labels : Bool) → tree.BlockItems → Option Symbol → Bool
begins_item names has_labels items next =
    (has_labels && is_label_start (label_start next)) || (begins_declaration names items next || begins_statement names next)
