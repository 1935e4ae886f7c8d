use Rattle.std.proofs.Common.{List, sym, subst, get_or, arith}
use Rattle.std.specs.List.{Contains}
use Rattle.std.proofs.lemmas.List.Elements.{Contains-get_or}
use Rattle.cc_base.specs.declared.number.TypeId.{TypeId}
use Rattle.c_types.specs.Table.{Entry, members_at}
use Rattle.c_types.specs.Contents.{HoldsMixed}
use Rattle.kind_constraints.specs.Adding.{OfSome}
use Rattle.kind_constraints.specs.Pieces.{IsMixedMember}
use Rattle.kind_constraints.proofs.Adding.{behind_then, adds_more, adds_done, adds_as}
use Rattle.kind_constraints.proofs.HeldTypes.{union_typed, union_is}
use Rattle.kind_constraints.proofs.held.add_mixed_members.Goals as goal

pub add_members-requires-clause-typed : goal.add_members-requires-clause-typed
add_members-requires-clause-typed c =
    let v = get_or c.deref-v-items.result.now c.unions.v-index (record { 0 = 0 }) in
    union_typed c.args.types.now c.requires.formed c.args.x v (subst (λ (table : List Entry). HoldsMixed table c.args.x v) c.requires.table
    ((c.in_ok-unions.ensures v).0 (subst (λ (xs : List TypeId). Contains xs v) c.deref-v-items.ensures.value (Contains-get_or c.deref-v-items.result.now c.unions.v-index (record { 0 = 0 }) c.unions-test.true))))

pub add_members-requires-clause-union : goal.add_members-requires-clause-union
add_members-requires-clause-union c =
    let v = get_or c.deref-v-items.result.now c.unions.v-index (record { 0 = 0 }) in
    union_is c.args.types.now c.requires.formed c.args.x v (subst (λ (table : List Entry). HoldsMixed table c.args.x v) c.requires.table
    ((c.in_ok-unions.ensures v).0 (subst (λ (xs : List TypeId). Contains xs v) c.deref-v-items.ensures.value (Contains-get_or c.deref-v-items.result.now c.unions.v-index (record { 0 = 0 }) c.unions-test.true))))

pub unions-preserved : goal.unions-preserved
unions-preserved c = record {
  added = adds_more (λ v. Contains (members_at c.args.types.now v)) c.deref-v-items.result.now c.unions.v-index _ c.args.held.now.keys c.unions.held.keys c.add_members.new.held.keys
      c.unions-test.true c.unions.invariant.added c.in_ok-add_members.ensures.added;
  behind = behind_then c.args.held.now.keys c.unions.held.keys c.add_members.new.held.keys c.unions.invariant.behind c.in_ok-add_members.ensures.behind;
}

pub returns-clause-added : goal.returns-clause-added
returns-clause-added c =
    adds_as (OfSome c.deref-v-items.result.now (λ v. Contains (members_at c.args.types.now v))) (IsMixedMember c.args.types.now c.args.x) c.args.held.now.keys c.unions.held.keys
    (λ y h. (h.0, subst (λ (table : List Entry). HoldsMixed table c.args.x h.0) c.requires.table ((c.in_ok-unions.ensures h.0).0 (subst (λ (xs : List TypeId). Contains xs h.0) c.deref-v-items.ensures.value h.1)), h.2))
    (λ y h. (h.0, subst (λ (xs : List TypeId). Contains xs h.0) (sym c.deref-v-items.ensures.value) ((c.in_ok-unions.ensures h.0).1 (subst (λ (table : List Entry). HoldsMixed table c.args.x h.0) (sym c.requires.table) h.1)), h.2))
    (adds_done (λ v. Contains (members_at c.args.types.now v)) c.deref-v-items.result.now c.unions.v-index c.args.held.now.keys c.unions.held.keys (omega arith) c.unions.invariant.added)
