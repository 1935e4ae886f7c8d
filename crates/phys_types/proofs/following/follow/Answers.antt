use Rattle.std.proofs.Common.{sym, ◌∙◌, arith}
use Rattle.phys_types.proofs.Queue.{follow_start, follow_more, follow_done, equal_at, step_within, step_small}
use Rattle.phys_types.proofs.following.follow.Goals as goal

pub queue-init : goal.queue-init
queue-init c = λ w equal. follow_start c.args.types.now w c.args.found.now equal

pub add_equal-requires-clause-equal : goal.add_equal-requires-clause-equal
add_equal-requires-clause-equal c =
    (equal_at c.args.types.now c.requires.formed c.args.found.now c.requires.equal c.queue.i c.queue.found (c.queue.invariant c.requires.formed c.requires.equal) c.in-Some.t c.in-Some.u
    (sym c.pointees.ensures.pair ∙ c.in-Some.is))

pub overflow_add-i : goal.overflow_add-i
overflow_add-i c =
    let l = step_small c.args.types.now c.requires.formed c.args.found.now c.requires.equal c.queue.i c.queue.found (c.queue.invariant c.requires.formed c.requires.equal) c.in-Some.t
    c.in-Some.u (sym c.pointees.ensures.pair ∙ c.in-Some.is) c.pointees.ensures.once in omega arith

pub queue-smaller : goal.queue-smaller
queue-smaller c =
    let l = step_within c.args.types.now c.requires.formed c.args.found.now c.requires.equal c.queue.i c.queue.found (c.queue.invariant c.requires.formed c.requires.equal) c.in-Some.t
    c.in-Some.u (sym c.pointees.ensures.pair ∙ c.in-Some.is) c.pointees.ensures.once in omega arith

pub queue-preserved : goal.queue-preserved
queue-preserved c = λ w equal.
    follow_more c.args.types.now w c.args.found.now equal c.queue.i c.queue.found c.add_equal.new.found c.in-Some.t c.in-Some.u (sym c.pointees.ensures.pair ∙ c.in-Some.is)
    (c.queue.invariant w equal) c.in_ok-add_equal.ensures

pub returns : goal.returns
returns c =
    follow_done c.args.types.now c.requires.formed c.args.found.now c.requires.equal c.queue.i c.queue.found (sym c.pointees.ensures.pair ∙ c.in_default.is)
    (c.queue.invariant c.requires.formed c.requires.equal)
