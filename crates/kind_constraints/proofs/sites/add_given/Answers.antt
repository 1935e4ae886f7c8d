use Rattle.std.specs.Prelude.{OnOk}
use Rattle.std.proofs.Common.{sym, subst}
use Rattle.kind_sites.specs.declared.site.Site.{Site}
use Rattle.kind_constraints.specs.Adding.{Adds}
use Rattle.kind_constraints.specs.Pieces.{IsGivenBy}
use Rattle.kind_constraints.proofs.sites.add_given.Goals as goal

pub returns-in-Flow-clause-added : goal.returns-in-Flow-clause-added
returns-in-Flow-clause-added c =
    subst (λ (s : Site). OnOk c.add_flow.result (Adds (IsGivenBy c.args.asked.now.types.now c.args.asked.now.sites.now s) c.args.list.now.items c.add_flow.new.list.items)) (sym c.in-Flow.is)
    c.add_flow.ensures.added

pub returns-in-Pointee-clause-added : goal.returns-in-Pointee-clause-added
returns-in-Pointee-clause-added c =
    subst (λ (s : Site). OnOk c.add_pointer.result (Adds (IsGivenBy c.args.asked.now.types.now c.args.asked.now.sites.now s) c.args.list.now.items c.add_pointer.new.list.items)) (sym c.in-Pointee.is)
    c.add_pointer.ensures

pub returns-in-Home-clause-added : goal.returns-in-Home-clause-added
returns-in-Home-clause-added c =
    subst (λ (s : Site). OnOk c.add_home.result (Adds (IsGivenBy c.args.asked.now.types.now c.args.asked.now.sites.now s) c.args.list.now.items c.add_home.new.list.items)) (sym c.in-Home.is)
    c.add_home.ensures

pub returns-in-Arith-clause-added : goal.returns-in-Arith-clause-added
returns-in-Arith-clause-added c =
    subst (λ (s : Site). OnOk c.push.result (Adds (IsGivenBy c.args.asked.now.types.now c.args.asked.now.sites.now s) c.args.list.now.items c.push.new.list.items)) (sym c.in-Arith.is)
    c.push.ensures

pub returns-in-Integer-clause-added : goal.returns-in-Integer-clause-added
returns-in-Integer-clause-added c =
    subst (λ (s : Site). OnOk c.push-in-Integer.result (Adds (IsGivenBy c.args.asked.now.types.now c.args.asked.now.sites.now s) c.args.list.now.items c.push-in-Integer.new.list.items)) (sym c.in-Integer.is)
    c.push-in-Integer.ensures

pub returns-in-Linked-clause-added : goal.returns-in-Linked-clause-added
returns-in-Linked-clause-added c =
    subst (λ (s : Site). OnOk c.push-in-Linked.result (Adds (IsGivenBy c.args.asked.now.types.now c.args.asked.now.sites.now s) c.args.list.now.items c.push-in-Linked.new.list.items)) (sym c.in-Linked.is)
    c.push-in-Linked.ensures
