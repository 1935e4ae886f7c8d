use Rattle.std.proofs.Common.{◌≡◌, List, refl, sym, subst, ◌∙◌, arith}
use Rattle.std.specs.List.{Contains}
use Rattle.cc_base.specs.declared.number.TypeId.{TypeId}
use Rattle.c_types.specs.Table.{members_at}
use Rattle.kind_constraints.specs.Adding.{Adds, OfSome}
use Rattle.kind_constraints.proofs.Adding.{insert_adds, insert_behind, behind_then, adds_more, adds_done, adds_as}
use Rattle.kind_constraints.proofs.Belows.{type_eq, same_id}
use Rattle.kind_constraints.proofs.held.add_members.Goals as goal

pub members-preserved : goal.members-preserved
members-preserved c = record {
  added = adds_more (λ m x. x ≡ m) (members_at c.args.types.now c.args.v) c.members.i c.args.v c.args.held.now.keys c.members.held.keys c.insert.new.self.keys (omega arith) c.members.invariant.added
      (subst (λ (z : TypeId). Adds (λ x. x ≡ z) c.members.held.keys c.insert.new.self.keys) c.field.ensures.ty
      (subst (λ (ks : List TypeId). Adds (λ x. x ≡ c.field.result.ty) c.members.held.keys ks) (sym c.in_ok-insert.ensures.keys) (insert_adds type_eq same_id c.members.held.keys c.field.result.ty)));
  behind = behind_then c.args.held.now.keys c.members.held.keys c.insert.new.self.keys c.members.invariant.behind
      (let b = insert_behind type_eq c.members.held.keys c.field.result.ty in (b.0, c.in_ok-insert.ensures.keys ∙ b.1));
}

pub returns-clause-added : goal.returns-clause-added
returns-clause-added c =
    adds_as (OfSome (members_at c.args.types.now c.args.v) (λ m x. x ≡ m)) (Contains (members_at c.args.types.now c.args.v)) c.args.held.now.keys c.members.held.keys
    (λ y h. subst (Contains (members_at c.args.types.now c.args.v)) (sym h.2) h.1) (λ y h. (y, h, refl))
    (adds_done (λ m x. x ≡ m) (members_at c.args.types.now c.args.v) c.members.i c.args.held.now.keys c.members.held.keys (omega arith) c.members.invariant.added)
