use Rattle.std.proofs.Common.{◌-◌}
use Rattle.c_tree.specs.Depth.{expr_height}
use Rattle.c_tree.specs.Views.{expr_view}
use Rattle.c_parse_words.specs.Seen.{names_of}
use Rattle.c_expr_parse.specs.Calls as spec
use Rattle.c_expr_parse.specs.Parts.{SpellsExpr}
use Rattle.c_expr_parse.proofs.CallAnswers.{expr_right}
use Rattle.c_expr_parse.proofs.CallLaws.{read_inside, read_to, stopped_at}
use Rattle.c_expr_parse.proofs.calls.parse_expr.Goals as goal

pub overflow_sub-result : goal.overflow_sub-result
overflow_sub-result c =
    let right = expr_right (names_of c.args.names.now) c.args.toks.now c.args.from (256 - c.args.depth) c.nodes_below.result c.new-cursor.result c.nodes_below.ensures c.new-cursor.ensures c.args.level c.least_level.result c.least_level.ensures in
    read_inside c.args.toks.now c.args.from c.requires.from (SpellsExpr (names_of c.args.names.now) (spec.least_level c.args.level)) expr_height (256 - c.args.depth)
    (expr_view c.in-Ok.e.tree) c.read_expr.new.cursor _ right c.in-Ok.ensures.reads c.left.result c.left.ensures

pub returns-in-Ok-clause-read : goal.returns-in-Ok-clause-read
returns-in-Ok-clause-read c =
    let right = expr_right (names_of c.args.names.now) c.args.toks.now c.args.from (256 - c.args.depth) c.nodes_below.result c.new-cursor.result c.nodes_below.ensures c.new-cursor.ensures c.args.level c.least_level.result c.least_level.ensures in
    read_to c.args.toks.now c.args.from c.requires.from (SpellsExpr (names_of c.args.names.now) (spec.least_level c.args.level)) expr_height (256 - c.args.depth)
    (expr_view c.in-Ok.e.tree) c.read_expr.new.cursor _ right c.in-Ok.ensures.reads c.left.result c.left.ensures

pub returns-in-Err-clause-refused : goal.returns-in-Err-clause-refused
returns-in-Err-clause-refused c =
    let right = expr_right (names_of c.args.names.now) c.args.toks.now c.args.from (256 - c.args.depth) c.nodes_below.result c.new-cursor.result c.nodes_below.ensures c.new-cursor.ensures c.args.level c.least_level.result c.least_level.ensures in
    stopped_at c.args.toks.now c.args.from c.requires.from (SpellsExpr (names_of c.args.names.now) (spec.least_level c.args.level)) expr_height (256 - c.args.depth)
    c.args.text.now c.in-Err.stop c.read_expr.new.cursor _ right c.in-Err.ensures.reads c.fault_of.result c.fault_of.ensures
