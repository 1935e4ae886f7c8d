use Rattle.cure_scope.specs.Scopes.{world_of}
use Rattle.cure_bodies.proofs.Parts.{body_made}
use Rattle.cure_bodies.proofs.Ready.{body_ready}
use Rattle.cure_bodies.proofs.body.put_body.Goals as goal

pub returns : goal.returns
returns c = record {
  made = body_made c.args.code.now c.args.k.now _ _ _ _ c.put_code.ensures.made;
  ready = body_ready c.args.code.now (world_of c.args.k.now) _ c.args.out.now c.put_code.new.out c.put_code.ensures.ready;
}
