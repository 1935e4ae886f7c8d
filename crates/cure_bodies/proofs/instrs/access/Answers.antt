use Rattle.std.proofs.Common.{refl}
use Rattle.cil_form.specs.declared.instr.Instr.TheVariants as source
use Rattle.cure_scope.specs.Scopes.{world_of}
use Rattle.cure_bodies.proofs.Plain.{load_made, store_made, clear_made, copy_made}
use Rattle.cure_bodies.proofs.Ready.{noted_ready, plain_ready}
use Rattle.cure_bodies.proofs.instrs.access.Goals as goal

pub returns-in-Load : goal.returns-in-Load
returns-in-Load c = record {
  made = rw c.in-Load.is (load_made c.args.k.now _ _ _ _ _ _ _ _ _ _ (rw c.in-Load.is at c.put_access.ensures.made) (rw c.held_at.ensures at c.note.ensures));
  ready = plain_ready (source.Access c.args.i) (world_of c.args.k.now) _ _ c.put_access.new.out c.note.new.out c.requires.fine (λ cx types less more s. c.put_access.ensures.ready)
      (noted_ready _ _ _ _ _ _ c.note.ensures);
}

pub returns-in-Store : goal.returns-in-Store
returns-in-Store c = record {
  made = rw c.in-Store.is (store_made c.args.k.now _ _ _ _ _ _ _ _ (rw c.in-Store.is at c.put_access.ensures.made));
  ready = plain_ready (source.Access c.args.i) (world_of c.args.k.now) _ _ c.put_access.new.out c.put_access.new.out c.requires.fine (λ cx types less more s. c.put_access.ensures.ready) refl;
}

pub returns-in-Clear : goal.returns-in-Clear
returns-in-Clear c = record {
  made = rw c.in-Clear.is (clear_made c.args.k.now _ _ _ _ (rw c.in-Clear.is at c.put_access.ensures.made));
  ready = plain_ready (source.Access c.args.i) (world_of c.args.k.now) _ _ c.put_access.new.out c.put_access.new.out c.requires.fine (λ cx types less more s. c.put_access.ensures.ready) refl;
}

pub returns-in-Copy : goal.returns-in-Copy
returns-in-Copy c = record {
  made = rw c.in-Copy.is (copy_made c.args.k.now _ _ _ _ _ _ _ _ _ _ (rw c.in-Copy.is at c.put_access.ensures.made));
  ready = plain_ready (source.Access c.args.i) (world_of c.args.k.now) _ _ c.put_access.new.out c.put_access.new.out c.requires.fine (λ cx types less more s. c.put_access.ensures.ready) refl;
}
