use Rattle.std.proofs.Common.{◌≡◌}
use Rattle.parse_rules.specs.Parsers.{loop}
use Rattle.c_tree.specs.Grammar.{type_names}
use Rattle.c_tree.specs.Tree.{NoExternal}
use Rattle.c_tree.specs.Words.{AtFile}
use Rattle.c_parse_words.specs.Seen.{names_of}
use Rattle.c_parse_words.specs.Tests.{begins_specifier}
use Rattle.c_parse_words.proofs.StateRounds.{IsInStateRound}
use Rattle.c_parser.specs.Seen.{unit_seen}
use Rattle.c_parser.specs.UnitRules.{external}
use Rattle.c_parser.proofs.externals.externals.Given as goal

-- the typedef names of the unit so far are in force
abbrev pub invariant-loop-turn : goal.invariant-loop-turn
invariant-loop-turn l =
    IsInStateRound (loop (λ unit. begins_specifier (type_names unit) AtFile) (external l.depth) NoExternal l.fn.cursor) l._turn-end l._turn (λ unit. begins_specifier (type_names unit) AtFile) (external l.depth) (unit_seen l.unit) l.cursor
    × (names_of l.names ≡ type_names (unit_seen l.unit))
