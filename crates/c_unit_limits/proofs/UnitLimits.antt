-- A unit that judging gives is within all its limits.
use Rattle.std.proofs.Common.{◌≡◌}
use Rattle.c_tree.specs.Tree as tree
use Rattle.c_tree.specs.TypedTree.{TypedTranslationUnit}
use Rattle.c_unit_typing.specs.DefinitionJudging.{judged_unit}
use Rattle.c_unit_typing.specs.Limits.{IsWithinLimits}
use Rattle.c_unit_typing.specs.UnitJudging.{UnitState, Gives}
use Rattle.c_unit_limits.proofs.CellsUnits.{whole-copied}
use Rattle.c_unit_limits.proofs.LastingUnits.{whole-globals}
use Rattle.c_unit_limits.proofs.WholeUnits.{whole-bounded, whole-formed, whole-functions, whole-held}

pub whole-limits : (u : tree.TranslationUnit) (whole : TypedTranslationUnit) (r : UnitState) → judged_unit u ≡ Gives whole r → IsWithinLimits r.table whole
whole-limits u whole r h = record {
  holds = whole-held u whole r h;
  types = (whole-formed u whole r h).small;
  objects = λ t k. ((whole-formed u whole r h).sized t k).most;
  parameters = (whole-bounded u whole r h).0;
  functions = whole-functions u whole r h;
  globals = whole-globals u whole r h;
  cells = whole-copied u whole r h;
}
