use Rattle.std.proofs.Common.{drop}
use Rattle.cure_scope.specs.Scopes.{world_of}
use Rattle.cure_bodies.specs.Holding.{Makes}
use Rattle.cure_bodies.specs.Bodies.{Begun}
use Rattle.cure_bodies.specs.Ready.{RestReady}
use Rattle.cure_bodies.proofs.walk.+curing.Given as goal

abbrev pub invariant-put_code-loop-one : goal.invariant-put_code-loop-one
invariant-put_code-loop-one l = Makes (Begun l.code (drop l.one-index l.code) (world_of l.k) l.fn.held l.held) l.fn.out l.out
    × RestReady l.code (drop l.one-index l.code) (world_of l.k) l.fn.held l.fn.out l.held l.out
