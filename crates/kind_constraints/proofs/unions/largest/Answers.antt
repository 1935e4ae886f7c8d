use Rattle.std.proofs.Common.{◌+◌, Option, Some, ap, sym, subst, ◌∙◌, arith}
use Rattle.std.proofs.lemmas.Option.{slice_get-get_or}
use Rattle.cc_base.specs.declared.number.TypeId.{TypeId}
use Rattle.c_types.specs.Table.{members_at}
use Rattle.kind_constraints.proofs.LargestMember.{IsLargestSoFar, largest_more, some_complete, some_largest}
use Rattle.kind_constraints.proofs.unions.largest.Goals as goal

pub larger-found-requires-clause-other : goal.larger-found-requires-clause-other
larger-found-requires-clause-other c = some_complete c.args.types.now c.requires.formed c.args.v c.requires.union c.members.i c.members.found c.members.invariant

pub members-preserved : goal.members-preserved
members-preserved c =
    subst (λ (o : Option TypeId). IsLargestSoFar c.args.types.now c.args.v (c.members.i + 1) o) (sym c.larger-found.ensures)
    (largest_more c.args.types.now c.args.v c.members.i c.members.found c.field.result.ty c.members.invariant
    (slice_get-get_or (members_at c.args.types.now c.args.v) c.members.i c.args.v (omega arith) ∙ ap Some (sym c.field.ensures.ty)))

pub returns-clause-found : goal.returns-clause-found
returns-clause-found c = some_largest c.args.types.now c.requires.formed c.args.v c.requires.union c.members.i c.members.found (omega arith) c.members.invariant
