use Rattle.std.proofs.Common.{◌∷◌, ◌∙◌, drop, ap}
use Rattle.c_lexer.proofs.LiteralLaws.{characters-escape}
use Rattle.c_lexer.proofs.literal.next_character.Goals as goal

-- a backslash begins an escape, and the bytes after it are the rest
pub returns-in-Some-eq92-default-clause-value : goal.returns-in-Some-eq92-default-clause-value
returns-in-Some-eq92-default-clause-value c =
    let rest = c.in-Some-eq92-default.rest.now in
    characters-escape c.args.text.now rest _ _
    (c.in-Some-eq92-default.ensures.cases.0 ∙ ap (λ b. b ∷ rest) c.in-Some-eq92-default.field-0-0-test)
    c.escape_value.ensures
    (c.split_at.ensures.back ∙ ap (λ n. drop n rest) c.escape_size.ensures.value)
