use Rattle.std.proofs.Common.{false}
use Rattle.c_typing.specs.Judging.{known}
use Rattle.c_typing.proofs.GrowingLaws.{grown-same}
use Rattle.c_check_expr.proofs.calls.check_definition.Goals as goal

pub returns-clause-grown : goal.returns-clause-grown
returns-clause-grown c = c.definition_behind.ensures.grows false (known c.args.types.now c.args.scope.now) (grown-same false (known c.args.types.now c.args.scope.now))
