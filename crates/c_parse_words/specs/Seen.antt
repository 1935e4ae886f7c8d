-- How the code sees tokens, names and their tests, and what its answers say of the tokens that are left.
use Rattle.std.specs.Prelude.{◌≡◌, ◌≢◌, ℕ, Vec, List, [], ◌∷◌, map, reverse, Option, Some, None, Result, Ok, Err}
use Rattle.std.specs.declared.alloc.Global.{Global}
use Rattle.indexmap.specs.IndexSet.{IndexSet}
use Rattle.parse_rules.specs.Parsers.{Reason, Syntax, Unsupported, Deep, Answer, Read, Stopped, Parser, skip, ◌>>◌}
use Rattle.c_tree.specs.Symbols as symbol
use Rattle.c_tree.specs.Symbols.{Symbol}
use Rattle.c_tree.specs.declared.leaf.Separator.TheVariants as separator
use Rattle.c_tree.specs.Grammar as grammar
use Rattle.c_tree.specs.Words as words
use Rattle.c_tree.specs.Words.{TypeNames}
use Rattle.c_parse_words.specs.declared.next.Next.{Next}
use Rattle.c_parse_words.specs.declared.next.Next.TheVariants as next
use Rattle.c_parse_words.specs.declared.stop.Stop.{Stop}
use Rattle.c_parse_words.specs.declared.stop.Stop.TheVariants as stop
use Rattle.c_parse_words.specs.declared.words.Scope.{Scope}
use Rattle.c_parse_words.specs.declared.words.Scope.TheVariants as scope
use Rattle.c_parse_words.specs.declared.begins.Naming.{Naming}
use Rattle.c_parse_words.specs.declared.begins.Naming.TheVariants as naming
use Rattle.c_parse_words.specs.declared.lookahead.Placed.{Placed}
use Rattle.c_parse_words.specs.declared.lookahead.Suffix.{Suffix}
use Rattle.c_parse_words.specs.declared.lookahead.Suffix.TheVariants as suffix
use Rattle.c_parse_words.specs.declared.begins.Start.{Start}
use Rattle.c_parse_words.specs.declared.begins.Start.TheVariants as start
use Rattle.c_parse_words.specs.declared.begins.SpecifierStart.{SpecifierStart}
use Rattle.c_parse_words.specs.declared.begins.SpecifierStart.TheVariants as specifier_start
use Rattle.c_parse_words.specs.declared.begins.CoreStart.{CoreStart}
use Rattle.c_parse_words.specs.declared.begins.CoreStart.TheVariants as core_start
use Rattle.c_parse_words.specs.declared.begins.PartStart.{PartStart}
use Rattle.c_parse_words.specs.declared.begins.PartStart.TheVariants as part_start
use Rattle.c_parse_words.specs.Tests as tests

-- the latest first, as the grammar has them
abbrev pub names_of : {S : Type 0} → IndexSet (Vec ℕ Global) S → TypeNames
names_of names = reverse (map (λ name. name.items) names.keys)

abbrev pub next_view : Next → Option Symbol
next_view next.End = None
next_view (next.Name bytes place) = Some (symbol.Name bytes.now place)
next_view (next.Integer type value place) = Some (symbol.Integer type value place)
next_view (next.Character value place) = Some (symbol.Character value place)
next_view (next.Quoted bytes place) = Some (symbol.Quoted bytes.now place)
next_view (next.Word word place) = Some (symbol.Word word place)
next_view (next.Mark punctuator place) = Some (symbol.Mark punctuator place)
next_view (next.Bare separator) = Some (symbol.Bare separator)

abbrev pub scope_view : Scope → words.Scope
scope_view scope.AtFile = words.AtFile
scope_view scope.InBlock = words.InBlock
scope_view scope.InType = words.InType

abbrev pub naming_view : Naming → grammar.Naming
naming_view naming.WithName = grammar.WithName
naming_view naming.WithoutName = grammar.WithoutName
naming_view naming.WithOrWithout = grammar.WithOrWithout

abbrev pub placed_view : {A : Type 0} → Option (Placed A) → Option (tests.Operator A)
placed_view None = None
placed_view (Some p) = Some (tests.At p.what p.place)

abbrev pub suffix_view : Suffix → tests.Suffix
suffix_view (suffix.Index at) = tests.IndexAt at
suffix_view (suffix.Call at) = tests.CallAt at
suffix_view (suffix.Member op at) = tests.MemberAt op at
suffix_view (suffix.Step step at) = tests.StepAt step at
suffix_view suffix.None = tests.NoSuffix

abbrev pub start_view : Start → tests.Start
start_view (start.Name bytes place) = tests.StartName (record { bytes = bytes.now; place = place })
start_view (start.Integer type value place) = tests.StartInteger type value place
start_view (start.Character value place) = tests.StartCharacter value place
start_view (start.Quoted bytes place) = tests.StartString (record { bytes = bytes.now; place = place })
start_view (start.Paren at) = tests.StartParen at
start_view (start.Prefix op at) = tests.StartPrefix op at
start_view (start.SizeOf at) = tests.StartSizeOf at
start_view start.None = tests.NoStart

abbrev pub specifier_start_view : SpecifierStart → tests.SpecifierStart
specifier_start_view (specifier_start.Word word) = tests.StartWord word
specifier_start_view (specifier_start.Typedef bytes place) = tests.StartTypedef (record { bytes = bytes.now; place = place })
specifier_start_view (specifier_start.Aggregate kind at) = tests.StartAggregate kind at
specifier_start_view (specifier_start.Enum at) = tests.StartEnum at
specifier_start_view specifier_start.None = tests.NoSpecifierStart

abbrev pub core_start_view : CoreStart → tests.CoreStart
core_start_view (core_start.Name bytes place) = tests.CoreName (record { bytes = bytes.now; place = place })
core_start_view (core_start.Paren at) = tests.CoreParen at
core_start_view core_start.None = tests.NoCore

abbrev pub part_start_view : PartStart → tests.PartStart
part_start_view (part_start.Array at) = tests.ArrayAt at
part_start_view (part_start.Function at) = tests.FunctionAt at
part_start_view part_start.None = tests.NoPartStart

-- Answers

abbrev pub reason_of : Stop → Reason
reason_of stop.Syntax = Syntax
reason_of stop.Unsupported = Unsupported
reason_of stop.Deep = Deep
reason_of stop.NoMemory = Syntax

-- The code's result, seen by `view`, is what a rule answers, and what is left is what the rule leaves; unless there is no memory.
abbrev pub Reads : {A B : Type 0} → (B → A) → Answer Symbol A → Result B Stop → List Symbol → Type 0
Reads view answer (Ok b) left = answer ≡ Read (view b) left
Reads view answer (Err why) left = why ≢ stop.NoMemory → answer ≡ Stopped (reason_of why) left

-- the next token, where there is one
abbrev pub head : List Symbol → Symbol
head [] = symbol.Bare separator.Comma
head (t ∷ ts) = t

-- the next token, and then a part
abbrev pub after_skip : {A : Type 0} → Parser Symbol A → Parser Symbol A
after_skip p = skip >> p
