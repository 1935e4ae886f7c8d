use Rattle.std.proofs.Common.{◌≡◌, ◌<◌, true, List, length, sym, subst, ◌∙◌, inr, true≢false, arith}
use Rattle.std.specs.List.{Contains}
use Rattle.std.proofs.lemmas.List.Elements.{Contains-get_or}
use Rattle.cc_base.specs.declared.number.TypeId.{TypeId}
use Rattle.c_types.specs.Table.{Entry, members_at}
use Rattle.c_types.specs.Equality.{begins_with}
use Rattle.c_types.specs.Flows.{StandAlike}
use Rattle.c_types.specs.Contents.{HoldsMixed}
use Rattle.phys_types.specs.Found.{Gains}
use Rattle.phys_types.proofs.FoundLemmas.{gains_as}
use Rattle.kind_constraints.specs.Adding.{RelatedBySome}
use Rattle.kind_constraints.specs.Pieces.{StandInUnion}
use Rattle.kind_constraints.proofs.Adding.{gains_one_more, gains_all}
use Rattle.kind_constraints.proofs.LargestMember.{largest_begins, largest_there, member_typed, one_largest}
use Rattle.kind_constraints.proofs.unions.add_union.Goals as goal

pub add_places-requires-clause-second : goal.add_places-requires-clause-second
add_places-requires-clause-second c =
    subst (λ (table : List Entry). c.in-Some.largest.0 < length table) (sym c.requires.table)
    (member_typed c.args.types.now c.requires.formed c.args.v c.requires.union c.requires.typed c.in-Some.largest
    (largest_there c.args.types.now c.requires.formed c.args.v c.requires.union c.in-Some.largest c.in-Some.ensures.found))

pub add_places-requires-clause-near : goal.add_places-requires-clause-near
add_places-requires-clause-near c =
    inr (inr (subst (λ (table : List Entry). begins_with table c.in-Some.largest c.field.result.ty ≡ true) (sym c.requires.table)
    (largest_begins c.args.types.now c.requires.formed c.args.v c.requires.union c.field.result.ty c.in-Some.largest
    (λ h. true≢false (sym (c.in_ok-mixed.ensures.1 (subst (λ (table : List Entry). HoldsMixed table c.args.v c.args.v) (sym c.requires.table) h)) ∙ c.if-mixed.false))
    (subst (Contains (members_at c.args.types.now c.args.v)) (sym c.field.ensures.ty) (Contains-get_or (members_at c.args.types.now c.args.v) c.members.i c.args.v (omega arith)))
    c.in-Some.ensures.found)))

pub members-preserved : goal.members-preserved
members-preserved c =
    gains_one_more (λ u. StandAlike c.args.types.now u c.in-Some.largest) (members_at c.args.types.now c.args.v) c.members.i c.args.v c.args.found.now c.members.found c.add_places.new.found
    (omega arith) c.members.invariant
    (subst (λ (u : TypeId). Gains (StandAlike c.args.types.now u c.in-Some.largest) c.members.found c.add_places.new.found) c.field.ensures.ty
    (subst (λ (table : List Entry). Gains (StandAlike table c.field.result.ty c.in-Some.largest) c.members.found c.add_places.new.found) c.requires.table c.in_ok-add_places.ensures))

pub returns-after-members : goal.returns-after-members
returns-after-members c =
    gains_as (RelatedBySome (members_at c.args.types.now c.args.v) (λ u. StandAlike c.args.types.now u c.in-Some.largest))
    (λ p q. (HoldsMixed c.args.types.now c.args.v c.args.v → ⊥) × StandInUnion c.args.types.now c.args.v p q) c.args.found.now c.members.found
    (λ p q h. (
      (λ k. true≢false (sym (c.in_ok-mixed.ensures.1 (subst (λ (table : List Entry). HoldsMixed table c.args.v c.args.v) (sym c.requires.table) k)) ∙ c.if-mixed.false)),
      (h.0, c.in-Some.largest, h.1, c.in-Some.ensures.found, h.2),
    ))
    (λ p q h. let s = h.1 in (s.0, s.2, subst (λ (m : TypeId). StandAlike c.args.types.now s.0 m p q) (one_largest c.args.types.now c.args.v s.1 c.in-Some.largest s.3 c.in-Some.ensures.found) s.4))
    (gains_all (λ u. StandAlike c.args.types.now u c.in-Some.largest) (members_at c.args.types.now c.args.v) c.members.i c.args.found.now c.members.found (omega arith) c.members.invariant)
