use Rattle.std.proofs.Common.{◌≡◌, ◌≤◌, [], Some, length, arith}
use Rattle.kind_constraints.specs.Adding.{OfSome}
use Rattle.kind_constraints.specs.Pieces.{union_place_of}
use Rattle.kind_constraints.proofs.Adding.{adds_more, adds_done, adds_all}
use Rattle.kind_constraints.proofs.Belows.{place_told, told_place}
use Rattle.kind_constraints.proofs.unions.union_places.Goals as goal

pub sites-preserved : goal.sites-preserved
sites-preserved c =
    adds_more (λ s x. union_place_of s ≡ Some x) c.args.sites.now c.sites.site-index _ [] c.sites.unions.items c.add_union_place.new.unions.items c.sites-test.true c.sites.invariant
    c.in_ok-add_union_place.ensures

pub returns : goal.returns
returns c x =
    let past : length c.args.sites.now ≤ c.sites.site-index = let h = c.sites-test.false in omega arith in
    let all = adds_all (OfSome c.args.sites.now (λ s x. union_place_of s ≡ Some x)) c.sites.unions.items
    (adds_done (λ s x. union_place_of s ≡ Some x) c.args.sites.now c.sites.site-index [] c.sites.unions.items past c.sites.invariant) x in
    (λ h. place_told c.args.sites.now x (all.0 h), λ h. all.1 (told_place c.args.sites.now x h))
