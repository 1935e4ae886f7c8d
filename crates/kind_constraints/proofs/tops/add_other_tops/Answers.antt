use Rattle.std.proofs.Common.{◌≤◌, length, arith}
use Rattle.kind_constraints.specs.Pieces.{IsOtherTop}
use Rattle.kind_constraints.proofs.Adding.{gains_start, gains_one_more, gains_all}
use Rattle.kind_constraints.proofs.tops.add_other_tops.Goals as goal

pub sites-init : goal.sites-init
sites-init c = gains_start (IsOtherTop c.args.asked.now.types.now) c.args.asked.now.sites.now c.args.found.now

pub sites-preserved : goal.sites-preserved
sites-preserved c =
    gains_one_more (IsOtherTop c.args.asked.now.types.now) c.args.asked.now.sites.now c.sites.site-index _ c.args.found.now c.sites.found c.add_other_top.new.found c.sites-test.true
    c.sites.invariant c.in_ok-add_other_top.ensures

pub returns : goal.returns
returns c =
    let past : length c.args.asked.now.sites.now ≤ c.sites.site-index = let h = c.sites-test.false in omega arith in
    gains_all (IsOtherTop c.args.asked.now.types.now) c.args.asked.now.sites.now c.sites.site-index c.args.found.now c.sites.found past c.sites.invariant
