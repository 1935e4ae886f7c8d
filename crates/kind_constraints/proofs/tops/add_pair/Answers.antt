use Rattle.std.proofs.Common.{◌≡◌, List, Some, ap, sym, subst}
use Rattle.cc_base.specs.declared.number.TypeId.{TypeId}
use Rattle.kind_sites.specs.declared.site.Site.{Site}
use Rattle.phys_types.proofs.NumberPairs.{type_pair_eq, same_type_pair}
use Rattle.kind_constraints.specs.Adding.{Adds}
use Rattle.kind_constraints.specs.Pieces.{flow_pair_of}
use Rattle.kind_constraints.proofs.Adding.{insert_adds, adds_as}
use Rattle.kind_constraints.proofs.tops.add_pair.Goals as goal

pub returns-in_ok-insert : goal.returns-in_ok-insert
returns-in_ok-insert c =
    subst (λ (s : Site). Adds (λ x. flow_pair_of s ≡ Some x) c.args.pairs.now.keys c.insert.new.self.keys) (sym c.in-Flow.is)
    (adds_as (λ x. x ≡ (c.in-Flow.from_ty, c.in-Flow.to_ty)) (λ x. Some (c.in-Flow.from_ty, c.in-Flow.to_ty) ≡ Some x) c.args.pairs.now.keys c.insert.new.self.keys
    (λ x e. ap Some (sym e)) (λ x e. back x e)
    (subst (λ (ks : List (TypeId × TypeId)). Adds (λ x. x ≡ (c.in-Flow.from_ty, c.in-Flow.to_ty)) c.args.pairs.now.keys ks) (sym c.in_ok-insert.ensures.keys)
    (insert_adds type_pair_eq same_type_pair c.args.pairs.now.keys (c.in-Flow.from_ty, c.in-Flow.to_ty))))
  where
    back : (x : TypeId × TypeId) → Some (c.in-Flow.from_ty, c.in-Flow.to_ty) ≡ Some x → x ≡ (c.in-Flow.from_ty, c.in-Flow.to_ty)
    back x e = cc (e)
