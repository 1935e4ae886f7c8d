use Rattle.cil_form.specs.declared.instr.Instr.TheVariants as source
use Rattle.cure_scope.specs.Scopes.{world_of}
use Rattle.cure_bodies.proofs.Laws.{makes_of}
use Rattle.cure_bodies.proofs.Plain.{calculate_made, calculate-asked}
use Rattle.cure_bodies.proofs.Ready.{ready_of, noted_ready, plain_ready}
use Rattle.cure_bodies.proofs.instrs.calculate.Goals as goal

pub returns : goal.returns
returns c = record {
  made = calculate_made c.args.k.now c.args.i _ _ _ _ _ _ c.asked-operand.ensures (λ types f. makes_of _ _ _ _ (c.put_calculate.ensures types f)) c.note_calculate.ensures;
  ready = plain_ready (source.Calculate c.args.i) (world_of c.args.k.now) _ _ c.put_calculate.new.out c.note_calculate.new.out c.requires.fine
      (λ cx types less more s can.
      let f = calculate-asked c.args.i cx _ types less _ more c.asked-operand.ensures s in
      ready_of _ _ _ _ (c.put_calculate.ensures types f) (can _ f))
      (noted_ready _ _ _ _ _ _ c.note_calculate.ensures);
}
