use Rattle.cure_scope.specs.Scopes.{world_of}
use Rattle.cure_code.proofs.CodeLaws.{made_first, ready_first, then_made}
use Rattle.cure_code.proofs.functions.code_in.Goals as goal

pub finished-requires : goal.finished-requires
finished-requires c =
    ready_first _ _ _ (world_of c.args.k.now) _ _ c.put_body.new.out c.empty-out.ensures (rw (c.deref.ensures.value, c.parameters.view_is) at c.put_parameters.ensures)
    c.requires.stored (rw c.deref-2.ensures.value at c.put_body.ensures.ready) c.requires.curable

pub returns : goal.returns
returns c =
    then_made _ _ c.finished.result
    (λ code h. made_first _ _ _ _ _ _ code c.empty-out.ensures (rw (c.deref.ensures.value, c.parameters.view_is) at c.put_parameters.ensures)
    (rw c.deref-2.ensures.value at c.put_body.ensures.made) h) c.finished.ensures
