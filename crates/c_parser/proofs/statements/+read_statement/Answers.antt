use Rattle.std.proofs.Common.{◌∙◌, ap}
use Rattle.c_parse_words.specs.Seen.{names_of}
use Rattle.c_parser.specs.Seen.{start_view}
use Rattle.c_parser.specs.Tests.{begins_statement, statement_start}
use Rattle.c_parser.proofs.StatementNodes.{no_statement, some_statement}
use Rattle.c_parser.proofs.statements.+read_statement.Goals as goal

pub returns-then-depth-eq0 : goal.returns-then-depth-eq0
returns-then-depth-eq0 t c =
    let names = names_of c.args.names.now in
    λ _. no_statement names c.args.depth c.args.cursor.now c.begins_statement.result c.too_deep.result c.if-depth-eq0.true
    (c.begins_statement.ensures ∙ ap (begins_statement names) c.peek-next.ensures) c.too_deep.ensures

pub returns : goal.returns
returns t c =
    some_statement (names_of c.args.names.now) c.args.depth c.if-depth-eq0.false c.args.cursor.now (start_view c.statement_start.result) (c.statement_start.ensures ∙ ap statement_start c.peek-next.ensures)
    c.statement_from.result c.statement_from.new.cursor c.statement_from.ensures
