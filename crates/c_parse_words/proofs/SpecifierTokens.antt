-- Which token it is with which a specifier begins.
use Rattle.std.proofs.Common.{◌≡◌, ℕ, List, Bool, true, false, Option, Some, None, refl, cond, subst}
use Rattle.cc_base.specs.declared.place.Place.{Place}
use Rattle.c_lexer.specs.declared.word.Keyword.{Keyword}
use Rattle.c_lexer.specs.declared.word.Keyword.TheVariants as keyword
use Rattle.c_tree.specs.declared.leaf.Identifier.{Identifier}
use Rattle.c_tree.specs.declared.leaf.Word.{Word as PlacedWord}
use Rattle.c_tree.specs.declared.operator.AggregateKind.{AggregateKind}
use Rattle.c_tree.specs.Operators.{aggregate_keyword}
use Rattle.c_tree.specs.Spelling.{name_symbol, word_symbol}
use Rattle.c_tree.specs.Symbols.{Symbol, Name, Word}
use Rattle.c_tree.specs.Words.{TypeNames, is_type_name, Scope, may_specify}
use Rattle.c_parse_words.specs.Tests.{SpecifierStart, StartWord, StartTypedef, StartAggregate, StartEnum, NoSpecifierStart, specifier_start_of_word, specifier_start, is_long_next, plain_name}

-- what a specifier's start says of the token and of the word or name
abbrev Back : TypeNames → Scope → Option Symbol → SpecifierStart → Type 0
Back names scope next (StartWord word) = (next ≡ Some (word_symbol word)) × (may_specify scope word.keyword ≡ true)
Back names scope next (StartTypedef name) = (next ≡ Some (name_symbol name)) × (is_type_name names name.bytes ≡ true)
Back names scope next (StartAggregate kind at) = next ≡ Some (Word (aggregate_keyword kind) at)
Back names scope next (StartEnum at) = next ≡ Some (Word keyword.Enum at)
Back names scope next NoSpecifierStart = Unit {0}

word_back : (names : TypeNames) (scope : Scope) (word : Keyword) (at : Place) (b : Bool) → may_specify scope word ≡ b
    → Back names scope (Some (Word word at)) (cond b (StartWord (record { keyword = word; place = at })) NoSpecifierStart)
word_back names scope word at true may = (refl, may)
word_back names scope word at false may = tt

keyword_back : (names : TypeNames) (scope : Scope) (word : Keyword) (at : Place) → Back names scope (Some (Word word at)) (specifier_start_of_word scope word at)
keyword_back names scope keyword.Struct at = refl
keyword_back names scope keyword.Union at = refl
keyword_back names scope keyword.Enum at = refl
keyword_back names scope word at = word_back names scope word at (may_specify scope word) refl

name_back : (names : TypeNames) (scope : Scope) (bytes : List ℕ) (at : Place) (b : Bool) → is_type_name names bytes ≡ b
    → Back names scope (Some (Name bytes at)) (cond b (StartTypedef (record { bytes = bytes; place = at })) NoSpecifierStart)
name_back names scope bytes at true is = (refl, is)
name_back names scope bytes at false is = tt

specifier_back : (names : TypeNames) (scope : Scope) (next : Option Symbol) → Back names scope next (specifier_start names scope next)
specifier_back names scope (Some (Word word at)) = keyword_back names scope word at
specifier_back names scope (Some (Name bytes at)) = name_back names scope bytes at (is_type_name names bytes) refl
specifier_back names scope next = tt

pub start_word_here : (names : TypeNames) (scope : Scope) (next : Option Symbol) (word : PlacedWord) → specifier_start names scope next ≡ StartWord word → (next ≡ Some (word_symbol word)) × (may_specify scope word.keyword ≡ true)
start_word_here names scope next word e = subst (λ x. Back names scope next x) e (specifier_back names scope next)

pub start_typedef_here : (names : TypeNames) (scope : Scope) (next : Option Symbol) (name : Identifier) → specifier_start names scope next ≡ StartTypedef name → (next ≡ Some (name_symbol name)) × (is_type_name names name.bytes ≡ true)
start_typedef_here names scope next name e = subst (λ x. Back names scope next x) e (specifier_back names scope next)

pub start_aggregate_here : (names : TypeNames) (scope : Scope) (next : Option Symbol) (kind : AggregateKind) (at : Place) → specifier_start names scope next ≡ StartAggregate kind at → next ≡ Some (Word (aggregate_keyword kind) at)
start_aggregate_here names scope next kind at e = subst (λ x. Back names scope next x) e (specifier_back names scope next)

pub start_enum_here : (names : TypeNames) (scope : Scope) (next : Option Symbol) (at : Place) → specifier_start names scope next ≡ StartEnum at → next ≡ Some (Word keyword.Enum at)
start_enum_here names scope next at e = subst (λ x. Back names scope next x) e (specifier_back names scope next)

pub long_here : (t : Symbol) → is_long_next (Some t) ≡ true → (at : Place) × (t ≡ Word keyword.Long at)
long_here (Word keyword.Long at) e = (at, refl)
long_here t e = cc

-- Names that are no typedef names.

abbrev BackPlain : TypeNames → Option Symbol → Option Identifier → Type 0
BackPlain names next None = Unit {0}
BackPlain names next (Some name) = (next ≡ Some (name_symbol name)) × (is_type_name names name.bytes ≡ false)

plain_back : (names : TypeNames) (bytes : List ℕ) (at : Place) (b : Bool) → is_type_name names bytes ≡ b → BackPlain names (Some (Name bytes at)) (cond b None (Some (record { bytes = bytes; place = at })))
plain_back names bytes at true e = tt
plain_back names bytes at false e = (refl, e)

plain_name_back : (names : TypeNames) (next : Option Symbol) → BackPlain names next (plain_name names next)
plain_name_back names (Some (Name bytes at)) = plain_back names bytes at (is_type_name names bytes) refl
plain_name_back names next = tt

pub plain_name_here : (names : TypeNames) (next : Option Symbol) (name : Identifier) → plain_name names next ≡ Some name → (next ≡ Some (name_symbol name)) × (is_type_name names name.bytes ≡ false)
plain_name_here names next name e = subst (λ x. BackPlain names next x) e (plain_name_back names next)
