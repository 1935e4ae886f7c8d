use Rattle.std.proofs.Common.{List, subst}
use Rattle.std.proofs.lemmas.Result.{on_ok_weaker}
use Rattle.phys_types.specs.declared.held.Held.{Held}
use Rattle.phys_types.specs.Found.{Gains}
use Rattle.phys_types.specs.Standing.{AreHeld}
use Rattle.phys_types.proofs.Crossed.{column_crossed}
use Rattle.phys_types.proofs.crossing.add_column.Goals as goal

pub returns : goal.returns
returns c =
    let ps = c.in_ok-ps.ps.keys in
    let qs = c.in_ok-qs.qs.keys in
    on_ok_weaker c.add_each-3.result
    (λ g. column_crossed c.args.step c.args.xs.now c.args.ys.now c.args.first ps qs c.args.found.now c.add_each.new.found c.add_each-2.new.found c.add_each-3.new.found
    c.in_ok-ps.ensures c.in_ok-qs.ensures
    (subst (λ (x : List Held). Gains (AreHeld x qs) c.args.found.now c.add_each.new.found) c.as_slice.ensures.keys
    (subst (λ (y : List Held). Gains (AreHeld c.as_slice.result.now y) c.args.found.now c.add_each.new.found) c.as_slice-2.ensures.keys c.in_ok-add_each.ensures))
    (subst (λ (x : List Held). Gains (AreHeld x ps) c.add_each.new.found c.add_each-2.new.found) c.as_slice-3.ensures.keys
    (subst (λ (y : List Held). Gains (AreHeld c.as_slice-3.result.now y) c.add_each.new.found c.add_each-2.new.found) c.as_slice-4.ensures.keys c.in_ok-add_each-2.ensures))
    (subst (λ (x : List Held). Gains (AreHeld x qs) c.add_each-2.new.found c.add_each-3.new.found) c.as_slice-5.ensures.keys
    (subst (λ (y : List Held). Gains (AreHeld c.as_slice-5.result.now y) c.add_each-2.new.found c.add_each-3.new.found) c.as_slice-6.ensures.keys g)))
    c.add_each-3.ensures
