use Rattle.cure_instrs.proofs.loading.put_pointer_loaded.Goals as goal

pub returns-in-Wild-kind : goal.returns-in-Wild-kind
returns-in-Wild-kind c = rw (c.in-Wild.is, c.in-Wild-kind.is) (c.put_tagged_load.ensures c.args.k.now)
