use Rattle.cil_form.specs.declared.instr.Instr.TheVariants as source
use Rattle.cure_scope.specs.Scopes.{world_of}
use Rattle.cure_bodies.proofs.Plain.{point_made, point-asked}
use Rattle.cure_bodies.proofs.Ready.{noted_ready, plain_ready}
use Rattle.cure_bodies.proofs.instrs.point.Goals as goal

pub returns : goal.returns
returns c = record {
  made = point_made c.args.k.now c.args.i _ _ _ _ _ _ c.point_asked-operand.ensures c.put_point.ensures.made c.note_point.ensures;
  ready = plain_ready (source.Point c.args.i) (world_of c.args.k.now) _ _ c.put_point.new.out c.note_point.new.out c.requires.fine
      (λ cx types less more s. c.put_point.ensures.ready types (point-asked c.args.i cx _ types less _ more c.point_asked-operand.ensures s.0))
      (noted_ready _ _ _ _ _ _ c.note_point.ensures);
}
