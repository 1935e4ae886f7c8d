-- What the next token says.
use Rattle.std.specs.Prelude.{ℕ, ℤ, Bool, true, false, ◌||◌, ◌&&◌, not, List, [], ◌∷◌, ◌++◌, Option, Some, None, is_some, if◌then◌else◌, nat_le}
use Rattle.cc_base.specs.declared.place.Place.{Place}
use Rattle.c_lexer.specs.declared.number.IntegerType.{IntegerType}
use Rattle.c_lexer.specs.declared.word.Keyword.TheVariants as keyword
use Rattle.c_lexer.specs.declared.word.Keyword.{Keyword}
use Rattle.c_lexer.specs.declared.punctuator.Punctuator.TheVariants as mark
use Rattle.c_lexer.specs.declared.punctuator.Punctuator.{Punctuator}
use Rattle.c_tree.specs.declared.leaf.Identifier.{Identifier}
use Rattle.c_tree.specs.declared.leaf.StringPiece.{StringPiece}
use Rattle.c_tree.specs.declared.leaf.Separator.TheVariants as separator
use Rattle.c_tree.specs.declared.leaf.Word.{Word as PlacedWord}
use Rattle.c_tree.specs.declared.operator.AggregateKind.{AggregateKind}
use Rattle.c_tree.specs.declared.operator.AggregateKind.TheVariants as aggregate
use Rattle.c_tree.specs.declared.operator.Assignment.{Assignment}
use Rattle.c_tree.specs.declared.operator.Assignment.TheVariants as assignment
use Rattle.c_tree.specs.declared.operator.Binary.{Binary}
use Rattle.c_tree.specs.declared.operator.Binary.TheVariants as binary
use Rattle.c_tree.specs.declared.operator.MemberOperator.{MemberOperator}
use Rattle.c_tree.specs.declared.operator.MemberOperator.TheVariants as member
use Rattle.c_tree.specs.declared.operator.Step.{Step}
use Rattle.c_tree.specs.declared.operator.Step.TheVariants as step
use Rattle.c_tree.specs.declared.operator.Unary.{Unary}
use Rattle.c_tree.specs.declared.operator.Unary.TheVariants as unary
use Rattle.c_tree.specs.Operators.{precedence}
use Rattle.c_tree.specs.Symbols.{Symbol, Name, Integer, Character, Quoted, Word, Mark, Bare}
use Rattle.c_tree.specs.Grammar.{Naming, WithName, WithoutName, WithOrWithout}
use Rattle.c_tree.specs.Words.{TypeNames, is_type_name, Scope, InBlock, InType, may_specify, is_qualifier, are_array_words}

-- Tokens that only close or separate.

abbrev pub is_close_paren : Option Symbol → Bool
is_close_paren (Some (Bare separator.CloseParen)) = true
is_close_paren next = false

abbrev pub is_close_bracket : Option Symbol → Bool
is_close_bracket (Some (Bare separator.CloseBracket)) = true
is_close_bracket next = false

abbrev pub is_close_brace : Option Symbol → Bool
is_close_brace (Some (Bare separator.CloseBrace)) = true
is_close_brace next = false

abbrev pub is_semicolon : Option Symbol → Bool
is_semicolon (Some (Bare separator.Semicolon)) = true
is_semicolon next = false

abbrev pub is_comma : Option Symbol → Bool
is_comma (Some (Bare separator.Comma)) = true
is_comma next = false

abbrev pub is_colon : Option Symbol → Bool
is_colon (Some (Bare separator.Colon)) = true
is_colon next = false

-- Single tokens, with their places.

abbrev pub open_paren : Option Symbol → Option Place
open_paren (Some (Mark mark.OpenParen at)) = Some at
open_paren next = None

abbrev pub open_bracket : Option Symbol → Option Place
open_bracket (Some (Mark mark.OpenBracket at)) = Some at
open_bracket next = None

abbrev pub open_brace : Option Symbol → Option Place
open_brace (Some (Mark mark.OpenBrace at)) = Some at
open_brace next = None

abbrev pub equals_sign : Option Symbol → Option Place
equals_sign (Some (Mark mark.Equal at)) = Some at
equals_sign next = None

abbrev pub star_sign : Option Symbol → Option Place
star_sign (Some (Mark mark.Star at)) = Some at
star_sign next = None

abbrev pub question_mark : Option Symbol → Option Place
question_mark (Some (Mark mark.Question at)) = Some at
question_mark next = None

-- any word that is no keyword
abbrev pub word_name : Option Symbol → Option Identifier
word_name (Some (Name bytes place)) = Some (record { bytes = bytes; place = place })
word_name next = None

-- a name that is no typedef name
abbrev pub plain_name : TypeNames → Option Symbol → Option Identifier
plain_name names (Some (Name bytes place)) = if is_type_name names bytes then None else Some (record { bytes = bytes; place = place })
plain_name names next = None

abbrev pub string_piece : Option Symbol → Option StringPiece
string_piece (Some (Quoted bytes place)) = Some (record { bytes = bytes; place = place })
string_piece next = None

abbrev pub qualifier_word : Option Symbol → Option PlacedWord
qualifier_word (Some (Word word place)) = if is_qualifier word then Some (record { keyword = word; place = place }) else None
qualifier_word next = None

-- a word that may stand in an array part after the words that stand there
abbrev pub array_word : List PlacedWord → Option Symbol → Option PlacedWord
array_word words (Some (Word word place)) =
    if are_array_words (words ++ record { keyword = word; place = place } ∷ []) then Some (record { keyword = word; place = place }) else None
array_word words next = None

-- Operators.

-- an operator and its place
pub data Operator (A : Type 0) : Type 0 where
  At : A → Place → Operator A

abbrev pub binary_of : Punctuator → Option Binary
binary_of mark.Star = Some binary.Multiply
binary_of mark.Slash = Some binary.Divide
binary_of mark.Percent = Some binary.Remainder
binary_of mark.Plus = Some binary.Add
binary_of mark.Minus = Some binary.Subtract
binary_of mark.ShiftLeft = Some binary.ShiftLeft
binary_of mark.ShiftRight = Some binary.ShiftRight
binary_of mark.Less = Some binary.Less
binary_of mark.Greater = Some binary.Greater
binary_of mark.LessEqual = Some binary.LessEqual
binary_of mark.GreaterEqual = Some binary.GreaterEqual
binary_of mark.EqualEqual = Some binary.Equal
binary_of mark.NotEqual = Some binary.NotEqual
binary_of mark.And = Some binary.BitAnd
binary_of mark.Caret = Some binary.BitXor
binary_of mark.Or = Some binary.BitOr
binary_of mark.AndAnd = Some binary.LogicalAnd
binary_of mark.OrOr = Some binary.LogicalOr
binary_of punctuator = None

abbrev pub assignment_of : Punctuator → Option Assignment
assignment_of mark.Equal = Some assignment.Assign
assignment_of mark.StarEqual = Some assignment.Multiply
assignment_of mark.SlashEqual = Some assignment.Divide
assignment_of mark.PercentEqual = Some assignment.Remainder
assignment_of mark.PlusEqual = Some assignment.Add
assignment_of mark.MinusEqual = Some assignment.Subtract
assignment_of mark.ShiftLeftEqual = Some assignment.ShiftLeft
assignment_of mark.ShiftRightEqual = Some assignment.ShiftRight
assignment_of mark.AndEqual = Some assignment.BitAnd
assignment_of mark.CaretEqual = Some assignment.BitXor
assignment_of mark.OrEqual = Some assignment.BitOr
assignment_of punctuator = None

abbrev pub placed : {A : Type 0} → Option A → Place → Option (Operator A)
placed None at = None
placed (Some op) at = Some (At op at)

abbrev pub binary_operator : Option Symbol → Option (Operator Binary)
binary_operator (Some (Mark punctuator at)) = placed (binary_of punctuator) at
binary_operator next = None

abbrev pub assignment_operator : Option Symbol → Option (Operator Assignment)
assignment_operator (Some (Mark punctuator at)) = placed (assignment_of punctuator) at
assignment_operator next = None

abbrev pub binds_at : (least : ℕ) → Option (Operator Binary) → Bool
binds_at least None = false
binds_at least (Some (At op at)) = nat_le least (precedence op)

-- a binary operator comes that makes an expression of at least this level
abbrev pub binds : (least : ℕ) → Option Symbol → Bool
binds least next = binds_at least (binary_operator next)

-- What goes on after a postfix expression.
pub data Suffix : Type 0 where
  IndexAt : Place → Suffix
  CallAt : Place → Suffix
  MemberAt : MemberOperator → Place → Suffix
  StepAt : Step → Place → Suffix
  NoSuffix : Suffix

abbrev pub suffix_of : Punctuator → Place → Suffix
suffix_of mark.OpenBracket at = IndexAt at
suffix_of mark.OpenParen at = CallAt at
suffix_of mark.Dot at = MemberAt member.Dot at
suffix_of mark.Arrow at = MemberAt member.Arrow at
suffix_of mark.PlusPlus at = StepAt step.Increment at
suffix_of mark.MinusMinus at = StepAt step.Decrement at
suffix_of punctuator at = NoSuffix

abbrev pub suffix : Option Symbol → Suffix
suffix (Some (Mark punctuator at)) = suffix_of punctuator at
suffix next = NoSuffix

abbrev pub is_suffix : Suffix → Bool
is_suffix NoSuffix = false
is_suffix other = true

abbrev pub has_suffix : Option Symbol → Bool
has_suffix next = is_suffix (suffix next)

-- How an expression begins.
pub data Start : Type 0 where
  StartName : Identifier → Start
  StartInteger : IntegerType → ℕ → Place → Start
  StartCharacter : ℤ → Place → Start
  StartString : StringPiece → Start
  StartParen : Place → Start
  StartPrefix : Unary → Place → Start
  StartSizeOf : Place → Start
  NoStart : Start

abbrev pub start_of : Punctuator → Place → Start
start_of mark.OpenParen at = StartParen at
start_of mark.PlusPlus at = StartPrefix unary.Increment at
start_of mark.MinusMinus at = StartPrefix unary.Decrement at
start_of mark.And at = StartPrefix unary.AddressOf at
start_of mark.Star at = StartPrefix unary.Dereference at
start_of mark.Plus at = StartPrefix unary.Plus at
start_of mark.Minus at = StartPrefix unary.Minus at
start_of mark.Tilde at = StartPrefix unary.Complement at
start_of mark.Not at = StartPrefix unary.Not at
start_of punctuator at = NoStart

abbrev pub start_of_word : Keyword → Place → Start
start_of_word keyword.Sizeof at = StartSizeOf at
start_of_word word at = NoStart

abbrev pub start : TypeNames → Option Symbol → Start
start names (Some (Name bytes place)) = if is_type_name names bytes then NoStart else StartName (record { bytes = bytes; place = place })
start names (Some (Integer type value place)) = StartInteger type value place
start names (Some (Character value place)) = StartCharacter value place
start names (Some (Quoted bytes place)) = StartString (record { bytes = bytes; place = place })
start names (Some (Word word place)) = start_of_word word place
start names (Some (Mark punctuator place)) = start_of punctuator place
start names next = NoStart

abbrev pub is_start : Start → Bool
is_start NoStart = false
is_start other = true

abbrev pub begins_expr : TypeNames → Option Symbol → Bool
begins_expr names next = is_start (start names next)

-- How a specifier begins.
pub data SpecifierStart : Type 0 where
  StartWord : PlacedWord → SpecifierStart
  StartTypedef : Identifier → SpecifierStart
  StartAggregate : AggregateKind → Place → SpecifierStart
  StartEnum : Place → SpecifierStart
  NoSpecifierStart : SpecifierStart

abbrev pub specifier_start_of_word : Scope → Keyword → Place → SpecifierStart
specifier_start_of_word scope keyword.Struct at = StartAggregate aggregate.Struct at
specifier_start_of_word scope keyword.Union at = StartAggregate aggregate.Union at
specifier_start_of_word scope keyword.Enum at = StartEnum at
specifier_start_of_word scope word at = if may_specify scope word then StartWord (record { keyword = word; place = at }) else NoSpecifierStart

abbrev pub specifier_start : TypeNames → Scope → Option Symbol → SpecifierStart
specifier_start names scope (Some (Name bytes place)) = if is_type_name names bytes then StartTypedef (record { bytes = bytes; place = place }) else NoSpecifierStart
specifier_start names scope (Some (Word word place)) = specifier_start_of_word scope word place
specifier_start names scope next = NoSpecifierStart

abbrev pub is_specifier_start : SpecifierStart → Bool
is_specifier_start NoSpecifierStart = false
is_specifier_start other = true

abbrev pub begins_specifier : TypeNames → Scope → Option Symbol → Bool
begins_specifier names scope next = is_specifier_start (specifier_start names scope next)

abbrev pub begins_type : TypeNames → Option Symbol → Bool
begins_type names next = begins_specifier names InType next

abbrev pub is_long_next : Option Symbol → Bool
is_long_next (Some (Word keyword.Long place)) = true
is_long_next next = false

-- What stands in the middle of a declarator.
pub data CoreStart : Type 0 where
  CoreName : Identifier → CoreStart
  CoreParen : Place → CoreStart
  NoCore : CoreStart

abbrev pub may_name : Naming → Bool
may_name WithName = true
may_name WithoutName = false
may_name WithOrWithout = true

abbrev pub may_omit_name : Naming → Bool
may_omit_name WithName = false
may_omit_name WithoutName = true
may_omit_name WithOrWithout = true

abbrev pub core_start : TypeNames → Naming → Option Symbol → CoreStart
core_start names naming (Some (Name bytes place)) =
    if may_name naming && not (is_type_name names bytes) then CoreName (record { bytes = bytes; place = place }) else NoCore
core_start names naming (Some (Mark mark.OpenParen at)) = CoreParen at
core_start names naming next = NoCore

abbrev pub is_core : CoreStart → Bool
is_core NoCore = false
is_core other = true

-- a star, a name that may stand there, a parenthesis, or a bracket where the name may be left out
abbrev pub begins_declarator : TypeNames → Naming → Option Symbol → Bool
begins_declarator names naming next = is_some (star_sign next) || (is_core (core_start names naming next) || (may_omit_name naming && is_some (open_bracket next)))

-- after a parenthesis in a declarator whose name may be left out: parameters come, and no declarator
abbrev pub begins_parameters : TypeNames → Option Symbol → Bool
begins_parameters names next = is_close_paren next || begins_specifier names InBlock next

-- How an array or function part begins.
pub data PartStart : Type 0 where
  ArrayAt : Place → PartStart
  FunctionAt : Place → PartStart
  NoPartStart : PartStart

abbrev pub part_start : Option Symbol → PartStart
part_start (Some (Mark mark.OpenBracket at)) = ArrayAt at
part_start (Some (Mark mark.OpenParen at)) = FunctionAt at
part_start next = NoPartStart

abbrev pub is_part_start : PartStart → Bool
is_part_start NoPartStart = false
is_part_start other = true

abbrev pub begins_part : Option Symbol → Bool
begins_part next = is_part_start (part_start next)

-- a `.` or `[` that begins an item of an initialiser list
abbrev pub is_designator : Option Symbol → Bool
is_designator (Some (Mark mark.Dot at)) = true
is_designator (Some (Mark mark.OpenBracket at)) = true
is_designator next = false

abbrev pub begins_initialiser : TypeNames → Option Symbol → Bool
begins_initialiser names next = is_some (open_brace next) || begins_expr names next
