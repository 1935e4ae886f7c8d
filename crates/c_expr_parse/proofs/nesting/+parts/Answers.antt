use Rattle.std.proofs.Common.{◌∙◌, ap}
use Rattle.c_tree.specs.Views.{expr_view, specifiers_view, declarator_view}
use Rattle.c_parse_words.specs.Seen.{names_of, scope_view, naming_view}
use Rattle.c_parse_words.specs.Tests as tests
use Rattle.c_expr_parse.proofs.Layers.{no_expr, no_specifiers, no_declarator, some_expr, some_specifiers, some_declarator}
use Rattle.c_expr_parse.proofs.nesting.+parts.Goals as goal

pub read_expr-returns-then-depth-eq0-clause-reads : goal.read_expr-returns-then-depth-eq0-clause-reads
read_expr-returns-then-depth-eq0-clause-reads t c =
    let names = names_of c.args.names.now in
    λ _. no_expr names c.args.depth c.if-depth-eq0.true c.args.cursor.now c.begins_expr.result c.too_deep.result c.too_deep.ensures c.args.least
    (c.begins_expr.ensures ∙ ap (tests.begins_expr names) c.peek.ensures)

pub read_expr-returns-clause-reads : goal.read_expr-returns-clause-reads
read_expr-returns-clause-reads t c =
    some_expr (names_of c.args.names.now) c.args.depth c.if-depth-eq0.false c.args.cursor.now c.expression.result c.expression.new.cursor (λ m. expr_view m.tree) c.args.least c.expression.ensures.reads

pub read_specifiers-returns-then-depth-eq0-clause-reads : goal.read_specifiers-returns-then-depth-eq0-clause-reads
read_specifiers-returns-then-depth-eq0-clause-reads t c =
    let names = names_of c.args.names.now in
    λ _. no_specifiers names c.args.depth c.if-depth-eq0.true c.args.cursor.now c.begins_specifier.result c.too_deep.result c.too_deep.ensures (scope_view c.args.scope)
    (c.begins_specifier.ensures ∙ ap (tests.begins_specifier names (scope_view c.args.scope)) c.peek.ensures)

pub read_specifiers-returns-clause-reads : goal.read_specifiers-returns-clause-reads
read_specifiers-returns-clause-reads t c =
    some_specifiers (names_of c.args.names.now) c.args.depth c.if-depth-eq0.false c.args.cursor.now c.specifier_list.result c.specifier_list.new.cursor (λ m. specifiers_view m.tree)
    (scope_view c.args.scope) c.specifier_list.ensures.reads

pub read_declarator-returns-then-depth-eq0-clause-reads : goal.read_declarator-returns-then-depth-eq0-clause-reads
read_declarator-returns-then-depth-eq0-clause-reads t c =
    let names = names_of c.args.names.now in
    λ _. no_declarator names c.args.depth c.if-depth-eq0.true c.args.cursor.now c.begins_declarator.result c.too_deep.result c.too_deep.ensures (naming_view c.args.naming)
    (c.begins_declarator.ensures ∙ ap (tests.begins_declarator names (naming_view c.args.naming)) c.peek.ensures)

pub read_declarator-returns-clause-reads : goal.read_declarator-returns-clause-reads
read_declarator-returns-clause-reads t c =
    some_declarator (names_of c.args.names.now) c.args.depth c.if-depth-eq0.false c.args.cursor.now c.stars_and_core.result c.stars_and_core.new.cursor (λ m. declarator_view m.tree)
    (naming_view c.args.naming) c.stars_and_core.ensures.reads
