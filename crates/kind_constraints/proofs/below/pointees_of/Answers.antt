use Rattle.std.specs.Prelude.{◌↔◌}
use Rattle.std.proofs.Common.{◌≡◌, ◌≤◌, List, [], length, sym, subst, ◌∙◌, arith}
use Rattle.std.specs.List.{Contains}
use Rattle.std.proofs.lemmas.List.Elements.{Contains-get_or}
use Rattle.cc_base.specs.declared.number.TypeId.{TypeId}
use Rattle.kind_constraints.specs.Adding.{OfSome}
use Rattle.kind_constraints.specs.Pieces.{IsPointee, IsFirstOf, first_in}
use Rattle.kind_constraints.proofs.Adding.{adds_more, adds_done, adds_all}
use Rattle.kind_constraints.proofs.Belows.{first_told, told_first, pointee_told}
use Rattle.kind_constraints.proofs.below.pointees_of.Goals as goal

pub add_pointee-requires : goal.add_pointee-requires
add_pointee-requires c = λ t e. c.requires t (pointee_told c.args.sites.now t (_, Contains-get_or c.args.sites.now c.sites.site-index _ c.sites-test.true, e))

pub sites-preserved : goal.sites-preserved
sites-preserved c =
    adds_more (IsFirstOf c.args.firsts.now) c.args.sites.now c.sites.site-index _ [] c.sites.pointees.keys c.add_pointee.new.pointees.keys c.sites-test.true c.sites.invariant
    c.in_ok-add_pointee.ensures

pub returns : goal.returns
returns c q =
    let past : length c.args.sites.now ≤ c.sites.site-index = let h = c.sites-test.false in omega arith in
    let all = adds_all (OfSome c.args.sites.now (IsFirstOf c.args.firsts.now)) c.sites.pointees.keys
    (adds_done (IsFirstOf c.args.firsts.now) c.args.sites.now c.sites.site-index [] c.sites.pointees.keys past c.sites.invariant) q in
    subst (λ (xs : List TypeId). Contains xs q ↔ ((t : TypeId) × IsPointee c.args.sites.now t × (q ≡ first_in c.args.firsts.now t))) (sym (c.in_ok-from_slice.ensures.items ∙ c.as_slice.ensures.keys))
    (λ h. first_told c.args.firsts.now c.args.sites.now q (all.0 h), λ h. all.1 (told_first c.args.firsts.now c.args.sites.now q h))
