use Rattle.cure_instrs.proofs.storing.put_pointer_stored.Goals as goal

pub returns-in-Wild-kind : goal.returns-in-Wild-kind
returns-in-Wild-kind c = rw (c.in-Wild.is, c.in-Wild-kind.is) (c.put_tagged_store.ensures c.args.k.now)
