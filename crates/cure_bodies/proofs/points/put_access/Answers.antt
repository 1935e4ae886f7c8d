use Rattle.cil_form.specs.Typing.{no_types}
use Rattle.cure_bodies.proofs.Laws.{makes_as, makes_of}
use Rattle.cure_bodies.proofs.Plain.{of_access}
use Rattle.cure_bodies.proofs.Ready.{ready_of}
use Rattle.cure_bodies.proofs.points.put_access.Goals as goal

pub returns-in-Load : goal.returns-in-Load
returns-in-Load c = record {
  made = λ types. rw c.in-Load.is (makes_as _ _ _ _ (of_access c.args.k.now _ types) (makes_of _ _ _ _ (c.put_load.ensures types)));
  ready = rw c.in-Load.is (ready_of _ _ _ _ (c.put_load.ensures no_types));
}

pub returns-in-Store : goal.returns-in-Store
returns-in-Store c = record {
  made = λ types. rw c.in-Store.is (c.put_stored.ensures.made types);
  ready = rw c.in-Store.is c.put_stored.ensures.ready;
}

pub returns-in-Clear : goal.returns-in-Clear
returns-in-Clear c = record {
  made = λ types. rw c.in-Clear.is (makes_of _ _ _ _ (c.put_clear.ensures types));
  ready = rw c.in-Clear.is (ready_of _ _ _ _ (c.put_clear.ensures no_types));
}

pub returns-in-Copy : goal.returns-in-Copy
returns-in-Copy c = record {
  made = λ types. rw c.in-Copy.is (c.put_copied.ensures.made types);
  ready = rw c.in-Copy.is c.put_copied.ensures.ready;
}
