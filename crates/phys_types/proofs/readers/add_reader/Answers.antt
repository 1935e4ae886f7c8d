use Rattle.std.proofs.Common.{inl, inr, refl, subst, arith}
use Rattle.std.specs.List.{Contains}
use Rattle.phys_types.proofs.Reading.{have_set, has_set, list_at}
use Rattle.phys_types.proofs.readers.add_reader.Goals as goal

pub returns-in_ok-push_other-clause-kept : goal.returns-in_ok-push_other-clause-kept
returns-in_ok-push_other-clause-kept c =
    let b = c.if-to-readers.true in
    have_set c.args.readers.now c.args.to c.push_other.new.list (omega arith)
    (λ x k. c.in_ok-push_other.ensures x (inl (subst (λ xs. Contains xs x) (list_at c.args.readers.now c.args.to c.index-readers-to.result (omega arith)) k)))

pub returns-in_ok-push_other-clause-added : goal.returns-in_ok-push_other-clause-added
returns-in_ok-push_other-clause-added c l = has_set c.args.readers.now c.args.to c.push_other.new.list l c.args.t (c.in_ok-push_other.ensures c.args.t (inr refl))
