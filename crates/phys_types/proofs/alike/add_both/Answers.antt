use Rattle.std.proofs.lemmas.Result.{on_ok_weaker}
use Rattle.phys_types.proofs.AddLemmas.{both_there}
use Rattle.phys_types.proofs.alike.add_both.Goals as goal

pub returns-in-Some-Some : goal.returns-in-Some-Some
returns-in-Some-Some c =
    on_ok_weaker c.add.result
    (both_there c.args.p c.args.q c.in-Some-Some.p c.in-Some-Some.q c.args.found.now c.add.new.self c.in-Some-Some.is-0 c.in-Some-Some.is-1) c.add.ensures
