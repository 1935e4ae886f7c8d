use Rattle.cil_form.specs.declared.instr.Instr.TheVariants as source
use Rattle.cure_scope.specs.Scopes.{world_of}
use Rattle.cure_bodies.proofs.Laws.{makes_of}
use Rattle.cure_bodies.proofs.Plain.{convert_made}
use Rattle.cure_bodies.proofs.Ready.{ready_of, noted_ready, plain_ready}
use Rattle.cure_bodies.proofs.instrs.convert.Goals as goal

pub returns : goal.returns
returns c = record {
  made = convert_made c.args.k.now c.args.i _ _ _ _ _ (λ types. makes_of _ _ _ _ (c.put_convert.ensures types)) c.note_convert.ensures;
  ready = plain_ready (source.Convert c.args.i) (world_of c.args.k.now) _ _ c.put_convert.new.out c.note_convert.new.out c.requires.fine
      (λ cx types less more s. ready_of _ _ _ _ (c.put_convert.ensures types)) (noted_ready _ _ _ _ _ _ c.note_convert.ensures);
}
