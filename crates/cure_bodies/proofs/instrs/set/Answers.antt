use Rattle.cil_form.specs.declared.instr.Instr.TheVariants as source
use Rattle.cure_scope.specs.Scopes.{world_of}
use Rattle.cure_bodies.proofs.Laws.{makes_of}
use Rattle.cure_bodies.proofs.Plain.{set_made}
use Rattle.cure_bodies.proofs.Ready.{ready_of, noted_ready, plain_ready}
use Rattle.cure_bodies.proofs.instrs.set.Goals as goal

pub returns : goal.returns
returns c = record {
  made = set_made c.args.k.now c.args.i _ _ _ _ _ _ c.copied-from.ensures (λ types f. makes_of _ _ _ _ (c.put_set.ensures types f)) c.note_set.ensures;
  ready = plain_ready (source.Set c.args.i) (world_of c.args.k.now) _ _ c.put_set.new.out c.note_set.new.out c.requires.fine
      (λ cx types less more s. ready_of _ _ _ _ (c.put_set.ensures _ c.copied-from.ensures)) (noted_ready _ _ _ _ _ _ c.note_set.ensures);
}
