use Rattle.std.proofs.Common.{◌≡◌, List, ◌++◌, take}
use Rattle.cc_base.specs.declared.number.TypeId.{TypeId}
use Rattle.c_types.specs.Table.{members_at}
use Rattle.kind_constraints.specs.Adding.{Adds, OfSome}
use Rattle.kind_constraints.proofs.held.add_members.Given as goal

abbrev pub invariant-members : goal.invariant-members
invariant-members l = record {
  added : Adds (OfSome (take l.i (members_at l.types l.v)) (λ m x. x ≡ m)) l.fn.held.keys l.held.keys;
  behind : (rest : List TypeId) × (l.held.keys ≡ l.fn.held.keys ++ rest);
}
