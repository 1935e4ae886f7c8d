use Rattle.std.proofs.Common.{◌<◌, length, subst, arith}
use Rattle.c_typing.specs.Scopes.{Seen}
use Rattle.c_typing.proofs.scope.Scope.depth.Goals as goal

pub returns-clause-some : goal.returns-clause-some
returns-clause-some c = subst (λ (t : Seen). 0 < length t.scopes.levels) c.self.view_is (omega arith)
