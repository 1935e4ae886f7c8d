-- The commands of `clap` that read the words behind a command's own.
use Rattle.std.specs.Prelude.{◌≡◌, ◌≢◌, true, List, [], Result, Ok, Err, Some, codes, ⊤}
use Rattle.clap.specs.Words.{App, Rule, Shape, Text, fault_of, found_of, matches_of, new_app, new_rule, rows_of, with_rule}
use Rattle.clap.specs.Simple.{on_top}
use Rattle.clap.specs.declared.builder.action.ArgAction.TheVariants.{Set}
use Rattle.clap.specs.declared.parser.matches.ArgMatches.{ArgMatches}
use Rattle.command_words.specs.declared.fault.WordsFault.{WordsFault}
use Rattle.command_words.specs.declared.fault.WordsFault.TheVariants.{NoCommand, NoMemory}

-- no argument, the first word read as the others, and no help
abbrev pub bare_app : App
bare_app = on_top (λ (s : Shape). record s { no_binary_name = true; disable_help_flag = true }) (new_app (codes "ccured"))

abbrev pub word_rule : Rule
word_rule = record (new_rule (codes "word")) { required = true; action = Some Set }

abbrev pub file_rule : Rule
file_rule = record (new_rule (codes "file")) { required = true; action = Some Set }

abbrev pub turns_rule : Rule
turns_rule = record (new_rule (codes "turns")) { long = Some (codes "turns"); action = Some Set }

-- one word
abbrev pub word_app : App
word_app = with_rule bare_app word_rule

-- a file, and `--turns` with its value
abbrev pub run_app : App
run_app = with_rule (with_rule bare_app file_rule) turns_rule

-- The matches are those of the command on these words, or it refuses them.
abbrev pub Parses : App → List Text → Result ArgMatches WordsFault → Type 0
Parses app words (Ok m) = (fault_of app words ≡ []) × (rows_of (found_of m) ≡ matches_of app words)
Parses app words (Err NoCommand) = fault_of app words ≢ []
Parses app words (Err NoMemory) = ⊤
