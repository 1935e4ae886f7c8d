use Rattle.cil_form.specs.declared.instr.Instr.TheVariants as source
use Rattle.cure_scope.specs.Scopes.{world_of}
use Rattle.cure_bodies.proofs.Laws.{makes_of}
use Rattle.cure_bodies.proofs.Plain.{call_made}
use Rattle.cure_bodies.proofs.Ready.{ready_of, noted_ready, plain_ready}
use Rattle.cure_bodies.proofs.instrs.call.Goals as goal

pub returns : goal.returns
returns c = record {
  made = call_made c.args.k.now c.args.i _ _ _ _ _ (λ types. makes_of _ _ _ _ (c.put_call.ensures types)) c.note_call.ensures;
  ready = plain_ready (source.Call c.args.i) (world_of c.args.k.now) _ _ c.put_call.new.out c.note_call.new.out c.requires.fine
      (λ cx types less more s. ready_of _ _ _ _ (c.put_call.ensures types)) (noted_ready _ _ _ _ _ _ c.note_call.ensures);
}
