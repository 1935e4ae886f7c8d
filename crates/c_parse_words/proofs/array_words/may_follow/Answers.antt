use Rattle.std.proofs.Common.{◌∙◌, sym, ap, refl}
use Rattle.c_parse_words.specs.Lists.{starts_with_static}
use Rattle.c_parse_words.proofs.ArrayWordLaws.{qualifier_follows, other_follows}
use Rattle.c_parse_words.proofs.array_words.may_follow.Goals as goal

pub returns-then-not-words : goal.returns-then-not-words
returns-then-not-words c =
    let law = qualifier_follows c.args.words.now.list c.args.word c.args.words.now.has_static c.requires (sym c.is_qualifier.ensures ∙ c.if-is_qualifier.true) in
    rw (law, c.if-not-words.true) refl

pub returns-else-not-words : goal.returns-else-not-words
returns-else-not-words c =
    let law = qualifier_follows c.args.words.now.list c.args.word c.args.words.now.has_static c.requires (sym c.is_qualifier.ensures ∙ c.if-is_qualifier.true) in
    rw (law, c.if-not-words.false) (c.starts_with_static.ensures ∙ ap starts_with_static c.as_slice.ensures)

pub returns-else-not-words-2 : goal.returns-else-not-words-2
returns-else-not-words-2 c =
    let law = other_follows c.args.words.now.list c.args.word c.args.words.now.has_static c.requires (sym c.is_qualifier.ensures ∙ c.if-is_qualifier.false) in
    rw (law, c.if-not-words-2.false) refl
