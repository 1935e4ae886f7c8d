use Rattle.std.proofs.Common.{ap, ◌∙◌}
use Rattle.clap.specs.Words.{is_simple_and_free}
use Rattle.command_words.proofs.OneWord.{refused, taken, without, word_app_is_simple}
use Rattle.command_words.proofs.parsed.only_word.Goals as goal

pub matches_on-requires : goal.matches_on-requires
matches_on-requires c = ap is_simple_and_free c.in_ok-command.ensures ∙ word_app_is_simple

pub returns-in_err-matches : goal.returns-in_err-matches
returns-in_err-matches c =
    refused _ c.requires _ c.in_ok-command.ensures c.from_residual-in_err-matches.result c.in_err-matches.field-0.0 c.in_err-matches.ensures
    c.from_residual-in_err-matches.ensures.1

pub returns-in-Some : goal.returns-in-Some
returns-in-Some c = taken _ c.requires _ c.in_ok-command.ensures c.in_ok-matches.matches c.in_ok-matches.ensures _ c.in-Some.ensures

pub returns : goal.returns
returns c = without _ c.requires _ c.in_ok-command.ensures c.in_ok-matches.matches c.in_ok-matches.ensures c.in-None.ensures
