use Rattle.std.proofs.Common.{◌≡◌, List, ◌++◌, take}
use Rattle.std.specs.List.{Contains}
use Rattle.cc_base.specs.declared.number.TypeId.{TypeId}
use Rattle.c_types.specs.Table.{members_at}
use Rattle.kind_constraints.specs.Adding.{Adds, OfSome}
use Rattle.kind_constraints.proofs.held.add_mixed_members.Given as goal

abbrev pub invariant-unions : goal.invariant-unions
invariant-unions l = record {
  added : Adds (OfSome (take l.v-index l.v-items) (λ v. Contains (members_at l.types v))) l.fn.held.keys l.held.keys;
  behind : (rest : List TypeId) × (l.held.keys ≡ l.fn.held.keys ++ rest);
}
