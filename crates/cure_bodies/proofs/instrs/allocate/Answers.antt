use Rattle.cil_form.specs.declared.instr.Instr.TheVariants as source
use Rattle.cure_scope.specs.Scopes.{world_of}
use Rattle.cure_bodies.proofs.Laws.{makes_of}
use Rattle.cure_bodies.proofs.Plain.{allocate_made}
use Rattle.cure_bodies.proofs.Ready.{ready_of, noted_ready, plain_ready}
use Rattle.cure_bodies.proofs.instrs.allocate.Goals as goal

pub returns : goal.returns
returns c = record {
  made = allocate_made c.args.k.now c.args.i _ _ _ _ _ (λ types. makes_of _ _ _ _ (c.put_allocate.ensures types)) c.note_allocate.ensures;
  ready = plain_ready (source.Allocate c.args.i) (world_of c.args.k.now) _ _ c.put_allocate.new.out c.note_allocate.new.out c.requires.fine
      (λ cx types less more s. ready_of _ _ _ _ (c.put_allocate.ensures types)) (noted_ready _ _ _ _ _ _ c.note_allocate.ensures);
}
