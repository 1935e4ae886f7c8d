use Rattle.cure_scope.specs.Scopes.{world_of}
use Rattle.cure_code.proofs.CodeLaws.{made_last, ready_last, then_made}
use Rattle.cure_code.proofs.start.code_in.Goals as goal

pub finished-requires : goal.finished-requires
finished-requires c =
    ready_last _ _ _ (world_of c.args.k.now) _ _ _ c.empty-out.ensures (rw c.deref.ensures.value at c.put_body.ensures.ready) c.requires.curable c.put_main.ensures tt

pub returns : goal.returns
returns c =
    then_made _ _ c.finished.result
    (λ code h. made_last _ _ _ _ _ _ code c.empty-out.ensures (rw c.deref.ensures.value at c.put_body.ensures.made) c.put_main.ensures h) c.finished.ensures
