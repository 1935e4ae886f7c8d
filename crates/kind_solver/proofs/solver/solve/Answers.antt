use Rattle.std.proofs.lemmas.Result.{IfOk-weaker}
use Rattle.kind_solver.proofs.Answered.{are_kinds, are_causes, meets, least}
use Rattle.kind_solver.proofs.solver.solve.Goals as goal

pub returns-clause-kinds : goal.returns-clause-kinds
returns-clause-kinds c = IfOk-weaker c.read_off.result _ _
    (λ s r. (are_kinds c.args.list.now c.args.count c.deref-7.result.now c.deref-8.result.now c.deref-9.result.now s.kinds s.causes
    (rw c.deref-7.ensures.value c.in_ok-wild.ensures) (rw c.deref-8.ensures.value c.in_ok-needs.ensures)
    (rw c.deref-9.ensures.value c.in_ok-types.ensures) r))
    c.read_off.ensures

pub returns-clause-causes : goal.returns-clause-causes
returns-clause-causes c = IfOk-weaker c.read_off.result _ _
    (λ s r. (are_causes c.args.list.now c.args.count c.deref-7.result.now c.deref-8.result.now c.deref-9.result.now s.kinds s.causes
    (rw c.deref-7.ensures.value c.in_ok-wild.ensures) (rw c.deref-8.ensures.value c.in_ok-needs.ensures)
    (rw c.deref-9.ensures.value c.in_ok-types.ensures) r))
    c.read_off.ensures

pub returns-clause-meets : goal.returns-clause-meets
returns-clause-meets c = λ apart. IfOk-weaker c.read_off.result _ _
    (λ s r. meets c.args.list.now c.args.count s.kinds c.requires
    (are_kinds c.args.list.now c.args.count c.deref-7.result.now c.deref-8.result.now c.deref-9.result.now s.kinds s.causes
    (rw c.deref-7.ensures.value c.in_ok-wild.ensures) (rw c.deref-8.ensures.value c.in_ok-needs.ensures)
    (rw c.deref-9.ensures.value c.in_ok-types.ensures) r)
    apart)
    c.read_off.ensures

pub returns-clause-least : goal.returns-clause-least
returns-clause-least c = IfOk-weaker c.read_off.result _ _
    (λ s r. least c.args.list.now c.args.count s.kinds
    (are_kinds c.args.list.now c.args.count c.deref-7.result.now c.deref-8.result.now c.deref-9.result.now s.kinds s.causes
    (rw c.deref-7.ensures.value c.in_ok-wild.ensures) (rw c.deref-8.ensures.value c.in_ok-needs.ensures)
    (rw c.deref-9.ensures.value c.in_ok-types.ensures) r))
    c.read_off.ensures

pub wild_causes-requires-clause-first : goal.wild_causes-requires-clause-first
wild_causes-requires-clause-first c = rw c.deref.ensures.value c.in_ok-first.ensures

pub need_causes-requires-clause-first : goal.need_causes-requires-clause-first
need_causes-requires-clause-first c = rw c.deref-2.ensures.value c.in_ok-first.ensures

pub need_causes-requires-clause-rises : goal.need_causes-requires-clause-rises
need_causes-requires-clause-rises c = rw c.deref-4.ensures.value c.in_ok-rises.ensures
