use Rattle.cil_form.specs.Typing.{no_types}
use Rattle.cure_bodies.proofs.Laws.{makes_of}
use Rattle.cure_bodies.proofs.Ready.{ready_of}
use Rattle.cure_bodies.proofs.points.put_copied.Goals as goal

pub returns-in-Pointer : goal.returns-in-Pointer
returns-in-Pointer c = record {
  made = λ types. rw c.in-Pointer.is (makes_of _ _ _ _ (c.put_pointer_copy.ensures types));
  ready = rw c.in-Pointer.is (ready_of _ _ _ _ (c.put_pointer_copy.ensures no_types));
}

pub returns-in-Part : goal.returns-in-Part
returns-in-Part c = record {
  made = λ types. rw c.in-Part.is (makes_of _ _ _ _ (c.put_part_copy.ensures types));
  ready = rw c.in-Part.is (ready_of _ _ _ _ (c.put_part_copy.ensures no_types));
}
