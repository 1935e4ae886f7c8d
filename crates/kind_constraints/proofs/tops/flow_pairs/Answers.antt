use Rattle.std.proofs.Common.{◌≡◌, ◌≤◌, [], Some, length, arith}
use Rattle.kind_constraints.specs.Adding.{OfSome}
use Rattle.kind_constraints.specs.Pieces.{flow_pair_of}
use Rattle.kind_constraints.proofs.Adding.{adds_more, adds_done, adds_all}
use Rattle.kind_constraints.proofs.tops.flow_pairs.Goals as goal

pub sites-preserved : goal.sites-preserved
sites-preserved c =
    adds_more (λ s x. flow_pair_of s ≡ Some x) c.args.sites.now c.sites.site-index _ [] c.sites.pairs.keys c.add_pair.new.pairs.keys c.sites-test.true c.sites.invariant
    c.in_ok-add_pair.ensures

pub returns : goal.returns
returns c =
    let past : length c.args.sites.now ≤ c.sites.site-index = let h = c.sites-test.false in omega arith in
    adds_all (OfSome c.args.sites.now (λ s x. flow_pair_of s ≡ Some x)) c.sites.pairs.keys
    (adds_done (λ s x. flow_pair_of s ≡ Some x) c.args.sites.now c.sites.site-index [] c.sites.pairs.keys past c.sites.invariant)
