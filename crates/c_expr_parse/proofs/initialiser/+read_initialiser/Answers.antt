use Rattle.std.proofs.Common.{◌≡◌, ◌∙◌, Some, None, sym, ap, arith}
use Rattle.parse_rules.specs.Parsers.{first}
use Rattle.c_parse_words.specs.Seen.{names_of}
use Rattle.c_parse_words.specs.Tests.{open_brace, begins_initialiser}
use Rattle.c_expr_parse.proofs.InitialiserCases.{no_initialiser, value_comes, list_comes}
use Rattle.c_expr_parse.proofs.initialiser.+read_initialiser.Goals as goal

pub returns-then-depth-eq0-clause-reads : goal.returns-then-depth-eq0-clause-reads
returns-then-depth-eq0-clause-reads t c =
    λ _. no_initialiser (names_of c.args.names.now) c.args.depth c.args.cursor.now c.begins_initialiser.result c.too_deep.result c.if-depth-eq0.true
    (c.begins_initialiser.ensures ∙ ap (begins_initialiser (names_of c.args.names.now)) c.peek.ensures) c.too_deep.ensures

pub returns-in_default-clause-reads : goal.returns-in_default-clause-reads
returns-in_default-clause-reads t c =
    let none : open_brace (first c.args.cursor.now) ≡ None = ap open_brace (sym c.peek-2.ensures) ∙ sym c.open_brace.ensures ∙ c.in_default.is in
    rw (value_comes (names_of c.args.names.now) c.args.depth c.args.cursor.now (omega arith) none) c.value.ensures.reads

pub returns-clause-reads : goal.returns-clause-reads
returns-clause-reads t c =
    let some : open_brace (first c.args.cursor.now) ≡ Some c.in-Some.brace = ap open_brace (sym c.peek-2.ensures) ∙ sym c.open_brace.ensures ∙ c.in-Some.is in
    rw (list_comes (names_of c.args.names.now) c.args.depth c.args.cursor.now c.in-Some.brace (omega arith) some, c.in_ok-skip.ensures) c.items.ensures.reads
