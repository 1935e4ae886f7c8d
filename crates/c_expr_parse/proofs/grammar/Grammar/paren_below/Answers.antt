use Rattle.std.proofs.Common.{◌∙◌, ap}
use Rattle.c_tree.specs.Views.{expr_view}
use Rattle.c_parse_words.specs.Seen.{names_of}
use Rattle.c_parse_words.specs.Tests as tests
use Rattle.c_expr_parse.proofs.Layers.{no_paren, some_paren}
use Rattle.c_expr_parse.proofs.grammar.Grammar.paren_below.Goals as goal

pub returns-then-self-eq0-clause-reads : goal.returns-then-self-eq0-clause-reads
returns-then-self-eq0-clause-reads g c =
    let names = names_of c.args.self.now.names.now in
    λ _. no_paren names c.args.self.now.depth c.if-self-eq0.true c.args.cursor.now c.begins_expr.result c.too_deep.result c.too_deep.ensures c.args.at
    (c.begins_expr.ensures ∙ ap (tests.begins_expr names) c.peek.ensures)

pub returns-clause-reads : goal.returns-clause-reads
returns-clause-reads g c =
    some_paren (names_of c.args.self.now.names.now) c.args.self.now.depth c.if-self-eq0.false c.args.cursor.now c.after_paren.result c.after_paren.new.cursor (λ m. expr_view m.tree) c.args.at c.after_paren.ensures.reads
