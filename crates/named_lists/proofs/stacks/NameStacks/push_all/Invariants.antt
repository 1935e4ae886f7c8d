use Rattle.std.proofs.Common.{◌≡◌, List, ◌++◌, length}
use Rattle.named_lists.specs.Entries.{Name, seen_entries}
use Rattle.named_lists.specs.Stacks.{stack_of, with_each}
use Rattle.named_lists.proofs.stacks.NameStacks.push_all.Given as goal

-- those before the rest were put on their stacks
abbrev pub invariant-names : goal.invariant-names
invariant-names g l = (done : List _) × (l.fn.entries.entries ≡ done ++ l.rest) × ((n : Name)
    → stack_of l.self n ≡ with_each n (seen_entries (λ k. k.items) done) (stack_of l.fn.self n))

abbrev pub decreases-names : goal.decreases-names
decreases-names g l = length l.rest
