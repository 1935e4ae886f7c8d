use Rattle.std.proofs.Common.{◌≡◌, List, Some, refl, ap, sym, subst, ◌∙◌}
use Rattle.cc_base.specs.declared.number.TypeId.{TypeId}
use Rattle.kind_sites.specs.declared.site.Site.{Site}
use Rattle.kind_constraints.specs.Adding.{Adds}
use Rattle.kind_constraints.specs.Pieces.{IsFirstOf, first_in, pointee_of}
use Rattle.kind_constraints.proofs.Adding.{insert_adds, adds_as}
use Rattle.kind_constraints.proofs.Belows.{type_eq, same_id}
use Rattle.kind_constraints.proofs.below.add_pointee.Goals as goal

pub bounds-firsts-ty : goal.bounds-firsts-ty
bounds-firsts-ty c = c.requires c.in-Pointee.ty (ap pointee_of c.in-Pointee.is)

pub returns-in_ok-insert : goal.returns-in_ok-insert
returns-in_ok-insert c =
    subst (λ (s : Site). Adds (IsFirstOf c.args.firsts.now s) c.args.pointees.now.keys c.insert.new.self.keys) (sym c.in-Pointee.is)
    (adds_as (λ q. q ≡ first_in c.args.firsts.now c.in-Pointee.ty) (λ q. (t : TypeId) × (Some c.in-Pointee.ty ≡ Some t) × (q ≡ first_in c.args.firsts.now t)) c.args.pointees.now.keys
    c.insert.new.self.keys (λ q e. (c.in-Pointee.ty, refl, e)) (λ q h. back q h)
    (subst (λ (ks : List TypeId). Adds (λ q. q ≡ first_in c.args.firsts.now c.in-Pointee.ty) c.args.pointees.now.keys ks) (sym c.in_ok-insert.ensures.keys)
    (insert_adds type_eq same_id c.args.pointees.now.keys (first_in c.args.firsts.now c.in-Pointee.ty))))
  where
    one : (t u : TypeId) → Some t ≡ Some u → t ≡ u
    one t u e = cc

    back : (q : TypeId) → (t : TypeId) × (Some c.in-Pointee.ty ≡ Some t) × (q ≡ first_in c.args.firsts.now t) → q ≡ first_in c.args.firsts.now c.in-Pointee.ty
    back q h = h.2 ∙ ap (first_in c.args.firsts.now) (sym (one c.in-Pointee.ty h.0 h.1))
