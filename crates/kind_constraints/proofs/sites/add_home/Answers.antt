use Rattle.std.proofs.Common.{◌≡◌}
use Rattle.std.proofs.lemmas.Result.{on_ok_weaker}
use Rattle.kind_solver.specs.declared.constraint.Constraint.TheVariants.{Plain}
use Rattle.kind_constraints.specs.Pieces.{IsOfContents}
use Rattle.kind_constraints.proofs.Adding.{adds_then}
use Rattle.kind_constraints.proofs.sites.add_home.Goals as goal

pub returns : goal.returns
returns c =
    on_ok_weaker c.push.result
    (λ h. adds_then (IsOfContents c.args.asked.now.types.now c.args.asked.now.sites.now c.args.node c.args.ty) (λ x. x ≡ Plain c.args.node) c.args.list.now.items c.add_contents.new.list.items
    c.push.new.list.items c.in_ok-add_contents.ensures h)
    c.push.ensures
