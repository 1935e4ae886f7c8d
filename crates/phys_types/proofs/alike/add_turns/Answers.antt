use Rattle.std.proofs.Common.{length, arith}
use Rattle.std.proofs.lemmas.Nat.{mod_below}
use Rattle.phys_types.specs.InTurn.{IsInTurn}
use Rattle.phys_types.specs.Standing.{shown}
use Rattle.phys_types.proofs.AddLemmas.{turns_start, turns_more, spot_told, spot_tells}
use Rattle.phys_types.proofs.alike.add_turns.Goals as goal

pub turns-init : goal.turns-init
turns-init c = turns_start (IsInTurn c.args.xs.now) (IsInTurn c.args.ys.now) 0 c.args.found.now (omega arith)

pub turns-preserved : goal.turns-preserved
turns-preserved c =
    let j = mod_below c.turns.i (length c.args.xs.now) c.requires.first in
    let k = mod_below c.turns.i (length c.args.ys.now) c.requires.second in
    turns_more (IsInTurn c.args.xs.now) (IsInTurn c.args.ys.now) c.turns.i (shown c.pointer_at-p.result) (shown c.pointer_at-q.result)
    c.args.found.now c.turns.found c.add_both.new.found
    (spot_told c.args.xs.now _ _ (shown c.pointer_at-p.result) j c.pointer_at-p.ensures)
    (spot_tells c.args.xs.now _ _ (shown c.pointer_at-p.result) j c.pointer_at-p.ensures)
    (spot_told c.args.ys.now _ _ (shown c.pointer_at-q.result) k c.pointer_at-q.ensures)
    (spot_tells c.args.ys.now _ _ (shown c.pointer_at-q.result) k c.pointer_at-q.ensures)
    c.turns.invariant c.in_ok-add_both.ensures
