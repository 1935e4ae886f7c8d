use Rattle.std.proofs.Common.{◌≡◌, List, sym, subst, ◌∙◌, arith}
use Rattle.cc_base.specs.declared.number.TypeId.{TypeId}
use Rattle.kind_constraints.specs.Adding.{Adds}
use Rattle.kind_constraints.proofs.Adding.{insert_adds}
use Rattle.kind_constraints.proofs.Belows.{type_eq, same_id}
use Rattle.kind_constraints.proofs.HeldTypes.{queue_start, queue_more, queue_at_typed, queue_within, queue_done}
use Rattle.kind_constraints.proofs.held.held_types.Goals as goal

pub queue-init : goal.queue-init
queue-init c = λ w. queue_start c.args.types.now w c.args.t c.insert.new.self.keys
    (subst (λ (ks : List TypeId). Adds (λ x. x ≡ c.args.t) ks c.insert.new.self.keys) c.new-held.ensures.empty
    (subst (λ (ks : List TypeId). Adds (λ x. x ≡ c.args.t) c.new-held.result.keys ks) (sym c.in_ok-insert.ensures.keys) (insert_adds type_eq same_id c.new-held.result.keys c.args.t)))

pub add_mixed_members-requires-clause-typed : goal.add_mixed_members-requires-clause-typed
add_mixed_members-requires-clause-typed c =
    queue_at_typed c.args.types.now c.requires.formed c.args.t c.queue.i c.queue.held.keys c.in-Some.x c.requires.typed (c.queue.invariant c.requires.formed) (sym c.type_at.ensures.there ∙ c.in-Some.is)

pub overflow_add-i : goal.overflow_add-i
overflow_add-i c =
    let l = queue_within c.args.types.now c.requires.formed c.args.t c.queue.i c.queue.held.keys c.in-Some.x c.requires.typed (c.queue.invariant c.requires.formed)
    (sym c.type_at.ensures.there ∙ c.in-Some.is) c.type_at.ensures.once in
    let s = c.requires.formed.small in omega arith

pub queue-smaller : goal.queue-smaller
queue-smaller c =
    let l = queue_within c.args.types.now c.requires.formed c.args.t c.queue.i c.queue.held.keys c.in-Some.x c.requires.typed (c.queue.invariant c.requires.formed)
    (sym c.type_at.ensures.there ∙ c.in-Some.is) c.type_at.ensures.once in omega arith

pub queue-preserved : goal.queue-preserved
queue-preserved c = λ w.
    queue_more c.args.types.now w c.args.t c.queue.i c.queue.held.keys c.add_mixed_members.new.held.keys c.in-Some.x (sym c.type_at.ensures.there ∙ c.in-Some.is) (c.queue.invariant w)
    c.in_ok-add_mixed_members.ensures.added c.in_ok-add_mixed_members.ensures.behind

pub returns : goal.returns
returns c = queue_done c.args.types.now c.requires.formed c.args.t c.queue.i c.queue.held.keys (sym c.type_at.ensures.there ∙ c.in_default.is) (c.queue.invariant c.requires.formed)
