use Rattle.std.proofs.Common.{◌≡◌, map, take}
use Rattle.c_tree.specs.Tree.{NoExternal}
use Rattle.c_tree.specs.Views.{added}
use Rattle.c_tree.specs.StatementViews.{external_view}
use Rattle.c_unit_typing.specs.DefinitionJudging.{functions_written}
use Rattle.c_check.proofs.units.functions_written.Given as goal

-- the names so far
abbrev pub invariant-loop-external : goal.invariant-loop-external
invariant-loop-external l = functions_written (added NoExternal (map external_view (take l.external-index l.externals))) ≡ l.names
