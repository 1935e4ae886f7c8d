use Rattle.phys_types.proofs.Placing.{whole_order, round_done}
use Rattle.phys_types.proofs.order.place_all.Goals as goal

pub returns-then-not-changed : goal.returns-then-not-changed
returns-then-not-changed c =
    whole_order c.args.types.now c.requires.formed c.place_round.new.list.items c.place_round.new.places c.place_round.new.placed c.in_ok-changed.ensures.placing
    (round_done c.args.types.now c.rounds.placed c.place_round.new.placed c.in_ok-changed.changed c.if-not-changed.true c.in_ok-changed.ensures.round)
