use Rattle.std.proofs.Common.{◌≡◌, ap, sym, subst, Some, slice_get, List}
use Rattle.c_types.specs.Table.{Entry, entry_at}
use Rattle.c_types.specs.Kept.{IsKeptOf, entry_of}
use Rattle.c_types.proofs.Keeping.{kept_here, entry_here}
use Rattle.c_types.proofs.table.Types.kept.Goals as goal

read : (c : goal.After-unwrap) → slice_get c.self.inside.entries.entries c.args.t.0 ≡ Some (c.unwrap.result.0.now, c.unwrap.result.1.now)
read c = rw c.unwrap.ensures at (sym c.get_index.ensures.entry)

entry : (c : goal.After-unwrap) → entry_of (c.unwrap.result.0.now, c.unwrap.result.1.now) ≡ entry_at c.args.self.now c.args.t
entry c =
    subst (λ (table : List Entry). entry_of (c.unwrap.result.0.now, c.unwrap.result.1.now) ≡ entry_at table c.args.t) c.self.view_is
    (sym (entry_here c.self.inside.entries.entries c.args.t (c.unwrap.result.0.now, c.unwrap.result.1.now) (read c)))

pub returns-clause-kept : goal.returns-clause-kept
returns-clause-kept c =
    subst (λ (table : List Entry). IsKeptOf table c.args.t c.unwrap.result.1.now) c.self.view_is
    (kept_here c.self.inside.entries.entries c.args.t (c.unwrap.result.0.now, c.unwrap.result.1.now) (read c) c.self.inside.known.entries c.self.invariant)

pub returns-clause-shape : goal.returns-clause-shape
returns-clause-shape c = ap (λ (e : Entry). e.shape) (entry c)

pub returns-clause-members : goal.returns-clause-members
returns-clause-members c = ap (λ (e : Entry). e.members) (entry c)
