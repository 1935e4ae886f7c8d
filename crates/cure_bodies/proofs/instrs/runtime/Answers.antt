use Rattle.cil_form.specs.declared.instr.Instr.TheVariants as source
use Rattle.cure_scope.specs.Scopes.{world_of}
use Rattle.cure_bodies.proofs.Laws.{makes_of}
use Rattle.cure_bodies.proofs.Plain.{runtime_made}
use Rattle.cure_bodies.proofs.Ready.{ready_of, noted_ready, plain_ready}
use Rattle.cure_bodies.proofs.instrs.runtime.Goals as goal

pub returns : goal.returns
returns c = record {
  made = runtime_made c.args.k.now c.args.i _ _ _ _ _ (λ types. makes_of _ _ _ _ (c.put_runtime.ensures c.args.k.now types)) c.note_runtime.ensures;
  ready = plain_ready (source.Runtime c.args.i) (world_of c.args.k.now) _ _ c.put_runtime.new.out c.note_runtime.new.out c.requires.fine
      (λ cx types less more s. ready_of _ _ _ _ (c.put_runtime.ensures c.args.k.now types)) (noted_ready _ _ _ _ _ _ c.note_runtime.ensures);
}
