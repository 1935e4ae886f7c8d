use Rattle.cure_scope.specs.Scopes.{world_of}
use Rattle.cure_instrs.proofs.PieceLaws.{refused}
use Rattle.cure_calls.proofs.CallLaws.{calls_outside}
use Rattle.cure_calls.proofs.calling.put_call.Goals as goal

pub returns-then-k-eq0 : goal.returns-then-k-eq0
returns-then-k-eq0 c types = let e = c.if-k-eq0.true in refused _ _ _ _ c.refuse.ensures (calls_outside (world_of c.args.k.now) c.args.i.ty c.args.i.first e)
