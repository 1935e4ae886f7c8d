-- How the code sees what the next token begins, and its lists as the plain tree has them.
use Rattle.std.specs.Prelude.{List, map, Option, option_map}
use Rattle.cc_base.specs.declared.place.Place.{Place}
use Rattle.c_tree.specs.StatementViews.{declaration_view, external_view, init_declarator_view}
use Rattle.c_tree.specs.Tree as tree
use Rattle.c_tree.specs.Views.{added, expr_view}
use Rattle.c_tree.specs.declared.statement.External.{External}
use Rattle.c_tree.specs.declared.statement.InitDeclarator.{InitDeclarator}
use Rattle.c_parser.specs.declared.lookahead.LabelStart.{LabelStart}
use Rattle.c_parser.specs.declared.lookahead.LabelStart.TheVariants as label
use Rattle.c_parser.specs.declared.lookahead.StatementStart.{StatementStart}
use Rattle.c_parser.specs.declared.lookahead.StatementStart.TheVariants as start
use Rattle.c_parser.specs.declared.statements.ForStart.{ForStart}
use Rattle.c_parser.specs.declared.statements.ForStart.TheVariants as for_start
use Rattle.c_parser.specs.Tests as tests

abbrev pub start_view : StatementStart → tests.StatementStart
start_view (start.Block brace) = tests.StartBlock brace
start_view start.Empty = tests.StartEmpty
start_view (start.If at) = tests.StartIf at
start_view (start.Switch at) = tests.StartSwitch at
start_view (start.While at) = tests.StartWhile at
start_view start.Do = tests.StartDo
start_view (start.For at) = tests.StartFor at
start_view (start.Break at) = tests.StartBreak at
start_view (start.Continue at) = tests.StartContinue at
start_view (start.Return at) = tests.StartReturn at
start_view start.None = tests.NoStatementStart

abbrev pub label_view : LabelStart → tests.LabelStart
label_view (label.Case at) = tests.StartCase at
label_view (label.Default at) = tests.StartDefault at
label_view label.None = tests.NoLabelStart

-- the statement that the other parts of a `for` make with the first
abbrev pub for_made : (at paren : Place) → ForStart → Option tree.Expr → Option tree.Expr → tree.Statement → tree.Statement
for_made at paren (for_start.Expr first) = tree.For at paren (option_map expr_view first)
for_made at paren (for_start.Declaration first) = tree.ForDeclaration at paren (declaration_view first)

abbrev pub init_declarators_seen : List InitDeclarator → tree.InitDeclarators
init_declarators_seen list = added tree.NoInitDeclarator (map init_declarator_view list)

abbrev pub unit_seen : List External → tree.TranslationUnit
unit_seen list = added tree.NoExternal (map external_view list)
